-- 02, W1, of each call but settle, and of a step of settle: its completions have the next places and are counted; a begin that isn't refused raises
-- completions so far plus operations waiting by one, and nothing else changes that sum. Assumes nothing.
use Prim.Native.Nat.{ℕ, suc, ◌+◌, ◌<◌}
use mathlib.Core.Path.{◌≡◌, refl, sym, ap, ◌∙◌}
use mathlib.Core.Bool.{Bool, true, false, cond}
use mathlib.Core.List.{List, [], ◌∷◌, map}
use lib.ListN.{length}
use native.Mathlib.Omega.{arith}
use native.Mathlib.Nat.{add-zero}
use native.Mathlib.Numerals.{add-one}
use Rattle.words.specs.declared.LaneNo.{LaneNo}
use Rattle.words.specs.declared.BlockNo.{BlockNo}
use Rattle.words.specs.declared.WordNo.{WordNo}
use Rattle.words.specs.declared.Op.{Op}
use Rattle.words.specs.Units.{block_of}
use Rattle.queues.specs.Messages.{ReturnMessage}
use Rattle.lanes.specs.declared.Lane.{Lane}
use Rattle.lanes.specs.declared.Operation.{Operation}
use Rattle.lanes.specs.UseOrder.{Insertion}
use Rattle.answers.specs.declared.Completion.{Completion}
use Rattle.answers.specs.declared.Refusal.{Refusal}
use Rattle.answers.specs.declared.Refusal.TheVariants.{Unexpected}
use Rattle.answers.specs.Refusals.{refused_of}
use Rattle.answers.specs.Completions.{done_in}
use Rattle.store.specs.declared.Store.{Store}
use Rattle.store.specs.declared.Block.{Block}
use Rattle.store.specs.declared.Control.{Control}
use Rattle.store.specs.declared.Outcome.{Outcome}
use Rattle.store.specs.Stores.{lane_at}
use Rattle.machine.specs.Machine.Begun.{begun_in}
use Rattle.machine.specs.declared.LaneAnswer.{LaneAnswer}
use Rattle.machine.specs.declared.LaneAnswer.TheVariants.{Value, Waits, Stepped}
use Rattle.machine.specs.Machine.Parts.{LaneStep}
use Rattle.machine.specs.Machine.Parts.{Move}
use Rattle.machine.specs.Machine.Corruption.{corrupt_of}
use Rattle.machine.specs.Machine.Change.{refuse, commit_lane, commit_move}
use Rattle.machine.specs.Machine.Begin.{begin_of}
use Rattle.machine.specs.Machine.Serve.{close, serve_move, serve_of}
use Rattle.machine.specs.Machine.Return.{return_move, return_of}
use Rattle.machine.specs.Machine.Deliver.{deliver_of}
use Rattle.machine.specs.Machine.Settle.{lane, settle_step}
use Rattle.machine.specs.Claims.Places.{numbers_from}
use Rattle.machine.specs.Machine.Sized.{Sized}
use Rattle.machine.proofs.Bounds.Sound.{sound}
use Rattle.machine.proofs.Bounds.KeepsBegun.{waits, LaneBegins, begin_lane_begins, deliver_lane_begins, lane_begun, serve_move_waits, return_move_waits, move_begun}
use Rattle.machine.proofs.Rules.Rules.{put_back, begin_rule, serve_rule, return_rule, deliver_rule, answer_goes, lane_rule, move_rule}
use Rattle.machine.proofs.Rules.RulesMemory.{serve_move_rule, return_move_rule}
use Rattle.machine.proofs.Rules.RulesSettle.{step_rule}
use Rattle.std.specs.Prelude.{Result, Ok, Err}

-- completions have the places behind those of the store s, in their order, and t counts them
pub record Given (s : Store) (xs : List Completion) (t : Store) : Type 0 where
  pub next : map (λ (x : Completion). x.place) xs ≡ numbers_from (suc s.completions) (length xs)
  pub counted : t.completions ≡ s.completions + length xs

pub given_none : (s t : Store) → t.completions ≡ s.completions → Given s [] t
unfolding numbers_from
given_none s t e = record { next = refl; counted = e ∙ sym (add-zero s.completions) }

-- .. the completion of an answer, if it has one
abbrev pub Counts : Store → Outcome → Type 0
Counts s r = Given s (done_in r.answer) r.store

refused_counts : (s : Store) (x : Refusal) → Counts s (refuse x s)
refused_counts s x = given_none s s refl

-- a lane's part put back
lane_counts : (s : Store) (k : LaneNo) (r : LaneStep) → Counts s (commit_lane s k r)
unfolding numbers_from
lane_counts s k r = lane_rule (Counts s) s k r (λ x _. refused_counts s x) (λ _. go r.answer refl)
  where
    go : (a : Result LaneAnswer Refusal) → r.answer ≡ a → Counts s (put_back s k r)
    go (Ok (Value v)) e = rw e (record { next = ap (λ (n : ℕ). n ∷ []) (add-one s.completions); counted = refl })
    go (Ok Waits) e = rw e (given_none s _ refl)
    go (Ok Stepped) e = rw e (given_none s _ refl)
    go (Err x) e = rw e (given_none s _ refl)

-- memory's part completes nothing
move_counts : (s : Store) (k : LaneNo) (a : BlockNo) (v : Move) → done_in v.answer ≡ [] → Counts s (commit_move s k a v)
move_counts s k a v e = move_rule (Counts s) s k a v (refused_counts s) (λ _ _. rw e (given_none s _ refl))

serve_move_none : (k : LaneNo) (o : Operation) (l : Lane) (b : Block) (x : Control) → done_in (serve_move k o l b x).answer ≡ []
unfolding close
serve_move_none k o l b x = serve_move_rule (λ (v : Move). done_in v.answer ≡ []) k o l b x (λ _. refl) (λ _. refl)

return_move_none : (k : LaneNo) (x : ReturnMessage) (l : Lane) (b : Block) (y : Control) → done_in (return_move k x l b y).answer ≡ []
unfolding close
return_move_none k x l b y = return_move_rule (λ (v : Move). done_in v.answer ≡ []) k x l b y (λ _. refl) refl (λ _ _ _ _. refl) (λ _ _ _ _. refl)

-- each call
pub begin_counts : (s : Store) (k : LaneNo) (op : Op) (w : WordNo) → Counts s (begin_of s k op w)
begin_counts s k op w = begin_rule (Counts s) s k op w (refused_counts s) (λ _. lane_counts s k _)

pub serve_counts : (s : Store) (k : LaneNo) → Counts s (serve_of s k)
serve_counts s k = serve_rule (Counts s) s k (refused_counts s) (λ o _. move_counts s k (block_of o.word) _ (serve_move_none k o _ _ _))

pub return_counts : (s : Store) (k : LaneNo) → Counts s (return_of s k)
return_counts s k = return_rule (Counts s) s k (refused_counts s) (λ _. move_counts s k _ _ (return_move_none k _ _ _ _))

pub deliver_counts : (ins : Insertion) (s : Store) (k : LaneNo) → Counts s (deliver_of ins s k)
deliver_counts ins s k = deliver_rule ins (Counts s) s k (refused_counts s) (λ _ _. lane_counts s k _)

pub step_counts : (ins : Insertion) (s : Store) → Counts s (settle_step ins s)
step_counts ins s =
    step_rule ins (Counts s) s (λ k _ _. deliver_counts ins s (lane k)) (λ _ k _ _. return_counts s (lane k)) (λ _ _ k _ _. serve_counts s (lane k)) (λ _ _ _. refused_counts s Unexpected)

-- the operations begun since opening are b more, unless the outcome is a refusal
abbrev BegunMore : ℕ → Store → Outcome → Type 0
BegunMore b s r = begun_in r.store ≡ begun_in s + cond (refused_of r.answer) 0 b

refused_begun : (b : ℕ) (s : Store) (x : Refusal) → BegunMore b s (refuse x s)
refused_begun b s x = sym (add-zero (begun_in s))

-- a lane's part put back
lane_begins : (b : ℕ) (s : Store) (k : LaneNo) (r : LaneStep) → Sized s → corrupt_of s ≡ false → k.0 < s.shape.n → LaneBegins b (lane_at s k.0) r → BegunMore b s (commit_lane s k r)
lane_begins b s k r g c h t = lane_rule (BegunMore b s) s k r (λ x _. refused_begun b s x) (λ e. rw (answer_goes k _ r.answer, e) (lane_begun b s k r h within t e))
  where
    within : k.0 < length s.lanes
    within = let z = (sound s c).n_high in let e = g.lanes in omega arith

pub begin_begun : (s : Store) (k : LaneNo) (op : Op) (w : WordNo) → Sized s → BegunMore 1 s (begin_of s k op w)
begin_begun s k op w g =
    begin_rule (BegunMore 1 s) s k op w (refused_begun 1 s)
    (λ r. lane_begins 1 s k _ g r.sound r.lane (begin_lane_begins s.shape.c op w (lane_at s k.0) r.admits))

-- no other call changes them
abbrev Same : Store → Outcome → Type 0
Same s r = begun_in r.store ≡ begun_in s

move_same : (s : Store) (k : LaneNo) (a : BlockNo) (v : Move) → waits v.lane ≡ waits (lane_at s k.0) → Same s (commit_move s k a v)
move_same s k a v h = move_rule (Same s) s k a v (λ _. refl) (λ _ _. move_begun s k a v h)

pub serve_begun : (s : Store) (k : LaneNo) → Same s (serve_of s k)
serve_begun s k =
    serve_rule (Same s) s k (λ _. refl) (λ o r. move_same s k (block_of o.word) _ (serve_move_waits k o (lane_at s k.0) _ s.control r.unserved))

pub return_begun : (s : Store) (k : LaneNo) → Same s (return_of s k)
return_begun s k = return_rule (Same s) s k (λ _. refl) (λ _. move_same s k _ _ (return_move_waits k _ (lane_at s k.0) _ s.control))

pub deliver_begun : (ins : Insertion) (s : Store) (k : LaneNo) → Sized s → Same s (deliver_of ins s k)
deliver_begun ins s k g =
    deliver_rule ins (Same s) s k (λ _. refl)
    (λ c h. lane_begins 0 s k _ g c h (deliver_lane_begins ins s.shape.c (lane_at s k.0)) ∙ none (begun_in s) (refused_of (commit_lane s k _).answer))
  where
    none : (n : ℕ) (b : Bool) → n + cond b 0 0 ≡ n
    none n true = add-zero n
    none n false = add-zero n

pub step_begun : (ins : Insertion) (s : Store) → Sized s → Same s (settle_step ins s)
step_begun ins s g =
    step_rule ins (Same s) s (λ k _ _. deliver_begun ins s (lane k) g) (λ _ k _ _. return_begun s (lane k)) (λ _ _ k _ _. serve_begun s (lane k)) (λ _ _ _. refl)
