-- What a lane owes a block after the lane's part of begin or deliver: no more than before. Assumes nothing.
use Prim.Native.Nat.{ℕ, ◌+◌, ◌≤◌}
use mathlib.Core.Logic.{◌⊎◌, inl, inr, ◌≢◌}
use mathlib.Core.Path.{◌≡◌, refl, ap, ◌∙◌}
use mathlib.Core.Bool.{true, false, cond}
use mathlib.Core.List.{List, ◌∷◌}
use native.Mathlib.Omega.{arith}
use Rattle.words.specs.declared.WordNo.{WordNo}
use Rattle.words.specs.declared.BlockNo.{BlockNo}
use Rattle.words.specs.declared.Op.{Op}
use Rattle.words.specs.Units.{block_of}
use Rattle.words.proofs.Folds.{by_cond}
use Rattle.queues.specs.Messages.{ReturnMessage}
use Rattle.queues.specs.Messages.{DownMessage}
use Rattle.queues.specs.declared.DownKind.{DownKind}
use Rattle.queues.specs.declared.DownKind.TheVariants.{Update, Purge, Grant, BareGrant}
use Rattle.queues.specs.Queues.{head_down}
use Rattle.lanes.specs.declared.Lane.{Lane}
use Rattle.lanes.specs.declared.Operation.{Operation}
use Rattle.lanes.specs.declared.Waiting.{Waiting}
use Rattle.machine.specs.Machine.Parts.{LaneStep}
use Rattle.machine.specs.Machine.Return.{is_answer}
use Rattle.machine.specs.Machine.Settle.{is_order}
use Rattle.machine.proofs.Laws.Sets.{same?}
use Rattle.machine.proofs.Protocol.BlockState.{Status, Invalid, Shared, Modified, dirty, Seen, seen}
use Rattle.machine.proofs.Protocol.Invariant.{answer_count, order_count, owed}
use Rattle.machine.proofs.Protocol.Moves.{hit_seen, wait_seen, ejection, evict_seen, answer_seen, update_seen, purge_seen, grant_seen, take_seen}
use Rattle.machine.proofs.Protocol.Chains.{answers_join}
use Rattle.machine.proofs.Projection.Searches.{same_block}
use Rattle.machine.proofs.Projection.SeenBegin.{BeginCase, Hits, Excludes, Reads, Evicts}
use Rattle.machine.proofs.Projection.SeenDeliver.{head_block, OrderCase, GrantCase, DeliverCase, Updates, Purges, Grants, BareGrants}

-- what is owed after a lane's moves
hit_owed : (op : Op) (w : WordNo) (l : Seen) → owed (hit_seen op w l) ≡ owed l
unfolding owed
hit_owed op w l = refl

pub wait_owed : (x : Waiting) (l : Seen) → owed (wait_seen x l) ≡ owed l
unfolding owed
wait_owed x l = refl

evict_owed : (a : BlockNo) (l : Seen) → owed (evict_seen a l) ≤ owed l
unfolding owed
evict_owed a l =
    let p = answers_join l.returns (ejection a l) in
    let q : is_answer (ejection a l).kind ≡ false = by_cond (λ (m : ReturnMessage). is_answer m.kind ≡ false) (dirty l.line) _ _ refl refl in
    omega (arith, rw q at p)

-- an order taken is an answer sent
answer_owed : (x : Status) (ws : List ℕ) (m : ReturnMessage) (d : DownMessage) (rest : List DownMessage) (l : Seen) → l.downs ≡ d ∷ rest → is_order d.kind ≡ true →
    owed (answer_seen x ws m rest l) ≤ owed l
unfolding owed
answer_owed x ws m d rest l e o =
    let p = answers_join l.returns m in
    let q = by_cond (λ n. n ≤ 1) (is_answer m.kind) 1 0 (omega arith) (omega arith) in
    let r : order_count l.downs ≡ 1 + order_count rest = rw (e, o) in
    omega arith

update_owed : (x : Status) (a : BlockNo) (d : DownMessage) (rest : List DownMessage) (l : Seen) → l.downs ≡ d ∷ rest → is_order d.kind ≡ true → owed (update_seen x a rest l) ≤ owed l
update_owed Invalid a d rest l e o = answer_owed _ _ _ d rest l e o
update_owed Shared a d rest l e o = answer_owed _ _ _ d rest l e o
update_owed Modified a d rest l e o = answer_owed _ _ _ d rest l e o

purge_owed : (x : Status) (a : BlockNo) (d : DownMessage) (rest : List DownMessage) (l : Seen) → l.downs ≡ d ∷ rest → is_order d.kind ≡ true → owed (purge_seen x a rest l) ≤ owed l
purge_owed Invalid a d rest l e o = answer_owed _ _ _ d rest l e o
purge_owed Shared a d rest l e o = answer_owed _ _ _ d rest l e o
purge_owed Modified a d rest l e o = answer_owed _ _ _ d rest l e o

grant_owed : (o : Operation) (ws : List ℕ) (d : DownMessage) (rest : List DownMessage) (l : Seen) → l.downs ≡ d ∷ rest → owed (grant_seen o ws rest l) ≤ owed l
unfolding owed
grant_owed o ws d rest l e =
    let r : order_count l.downs ≡ cond (is_order d.kind) 1 0 + order_count rest = rw e in
    omega arith

-- the head of the return queue is taken
pub take_owed : (m : ReturnMessage) (rest : List ReturnMessage) (l : Seen) → l.returns ≡ m ∷ rest → owed (take_seen rest l) ≤ owed l
unfolding owed
take_owed m rest l e =
    let r : answer_count l.returns ≡ cond (is_answer m.kind) 1 0 + answer_count rest = rw e in
    omega arith

-- lane l' owes each block no more than lane l
abbrev pub OwesLess : ℕ → Lane → Lane → Type 0
OwesLess c l l' = (a : BlockNo) → owed (seen c a l') ≤ owed (seen c a l)

module _ (c : ℕ) (l l' : Lane) where
  -- .. where nothing changes, or what it comes to owes no more
  same_owed : (a : BlockNo) → seen c a l' ≡ seen c a l → owed (seen c a l') ≤ owed (seen c a l)
  same_owed a e = let q = ap owed e in omega arith

  less_owed : (a : BlockNo) (x : Seen) → seen c a l' ≡ x → owed x ≤ owed (seen c a l) → owed (seen c a l') ≤ owed (seen c a l)
  less_owed a x e h = let q = ap owed e in omega arith

  -- .. by whether it is block x
  at_owed : (x a : BlockNo) → owed (seen c x l') ≤ owed (seen c x l) → (a.0 ≢ x.0 → owed (seen c a l') ≤ owed (seen c a l)) → owed (seen c a l') ≤ owed (seen c a l)
  at_owed x a here there = go (same? a.0 x.0)
    where
      go : (a.0 ≡ x.0) ⊎ (a.0 ≢ x.0) → owed (seen c a l') ≤ owed (seen c a l)
      go (inl e) = rw (same_block a x e) here
      go (inr n) = there n

-- the lane waits
wait_less : (c : ℕ) (l : Lane) (r : LaneStep) (a : BlockNo) (x : Waiting) → seen c a r.lane ≡ wait_seen x (seen c a l) → owed (seen c a r.lane) ≤ owed (seen c a l)
wait_less c l r a x e = let q = wait_owed x (seen c a l) in less_owed c l r.lane a _ e (omega arith)

-- the lane's part of begin
pub begin_owed : (c : ℕ) (op : Op) (w : WordNo) (l : Lane) (r : LaneStep) → BeginCase c op w l r → OwesLess c l r.lane
begin_owed c op w l r (Hits h) a =
    let q = hit_owed op w (seen c (block_of w) l) in
    at_owed c l r.lane (block_of w) a (less_owed c l r.lane (block_of w) _ h.here (omega arith)) (λ n. same_owed c l r.lane a (h.others a n))
begin_owed c op w l r (Excludes h) a =
    at_owed c l r.lane (block_of w) a (wait_less c l r (block_of w) _ h.wait.here) (λ n. same_owed c l r.lane a (h.others a n))
begin_owed c op w l r (Reads h) a =
    at_owed c l r.lane (block_of w) a (wait_less c l r (block_of w) _ h.wait.here) (λ n. same_owed c l r.lane a (h.others a n))
begin_owed c op w l r (Evicts h) a =
    at_owed c l r.lane (block_of w) a (wait_less c l r (block_of w) _ h.wait.here)
    (λ n. at_owed c l r.lane h.victim a (less_owed c l r.lane h.victim _ h.there (evict_owed h.victim (seen c h.victim l))) (λ m. same_owed c l r.lane a (h.others a n m)))
begin_owed c op w l r (BeginCase.Refuses h) a = let q = ap (λ (x : Lane). owed (seen c a x)) h.same in omega arith

module _ (c : ℕ) (l : Lane) (r : LaneStep) where
  -- an order, and a grant, taken from the down queue
  order_less : (y : DownKind) (f : Status → BlockNo → List DownMessage → Seen → Seen) → is_order y ≡ true →
      ((x : Status) (a : BlockNo) (d : DownMessage) (rest : List DownMessage) (s : Seen) → s.downs ≡ d ∷ rest → is_order d.kind ≡ true → owed (f x a rest s) ≤ owed s) →
      OrderCase c y f l r → OwesLess c l r.lane
  order_less y f o Less h a =
      at_owed c l r.lane (head_block l) a
      (less_owed c l r.lane (head_block l) _ h.here (Less _ (head_block l) (head_down l.downs) h.taken.rest _ h.taken.head (ap is_order h.taken.kind ∙ o)))
      (λ n. same_owed c l r.lane a (h.taken.others a n))

  grant_less : (y : DownKind) (ws : List ℕ) → GrantCase c y ws l r → OwesLess c l r.lane
  grant_less y ws h a =
      at_owed c l r.lane (head_block l) a
      (less_owed c l r.lane (head_block l) _ h.here (grant_owed h.operation ws (head_down l.downs) h.taken.rest _ h.taken.head))
      (λ n. same_owed c l r.lane a (h.taken.others a n))

  -- the lane's part of deliver
  pub deliver_owed : DeliverCase c l r → OwesLess c l r.lane
  deliver_owed (Updates h) = order_less Update update_seen refl update_owed h
  deliver_owed (Purges h) = order_less Purge purge_seen refl purge_owed h
  deliver_owed (Grants e h) = grant_less Grant _ h
  deliver_owed (BareGrants e h) = grant_less BareGrant _ h
  deliver_owed (DeliverCase.Refuses h) = λ a. let q = ap (λ (x : Lane). owed (seen c a x)) h.same in omega arith
