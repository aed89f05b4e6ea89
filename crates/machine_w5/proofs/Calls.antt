-- The calls, the picture and lists of calls on the same stores, and the opening. Assumes nothing.
use Prim.Native.Nat.{ℕ, zero, suc, ◌<◌}
use native.Mathlib.Omega.{arith}
use mathlib.Core.Logic.{◌⊎◌, inl, inr}
use mathlib.Core.Path.{◌≡◌, refl, sym, ap, ◌∙◌}
use mathlib.Core.Bool.{true, cond, true≢false}
use mathlib.Core.List.{List, [], ◌∷◌}
use lib.Dec.{ltb}
use lib.ListN.{length, get_or, get_or-replicate}
use Rattle.words.specs.declared.Shape.{Shape}
use Rattle.words.specs.declared.Line.{Line}
use Rattle.words.specs.Lines.{no_line, holds_of}
use Rattle.words.specs.Folds.{gather_to, count_to}
use Rattle.lanes.specs.declared.Lane.{Lane}
use Rattle.lanes.specs.UseOrder.{Insertion}
use Rattle.answers.specs.declared.Answer.TheVariants.{Opened}
use Rattle.answers.specs.declared.Refusal.TheVariants.{Corrupt, BufferTooShort}
use Rattle.store.specs.declared.Store.{Store}
use Rattle.store.specs.declared.Block.{Block}
use Rattle.store.specs.declared.Control.{Control}
use Rattle.store.specs.declared.Outcome.{Outcome}
use Rattle.store.specs.Control.{open_services}
use Rattle.store.specs.Stores.{no_lane}
use Rattle.store.specs.Opening.{bad_shape, blank_lane, blank_control, fresh_of, open_of}
use Rattle.machine.specs.Machine.Calls.{Call, Begin, Serve, Return, Deliver, Settle, Answers, Called, answered_call, call_of, run}
use Rattle.machine.specs.Machine.Fill.{unwritten, filled_with}
use Rattle.machine.specs.Machine.Picture.{record_bytes, picture_bytes, picture_of}
use Rattle.machine.proofs.Laws.Tests.{on}
use Rattle.machine_w5.specs.Control as FormerControl
use Rattle.machine_w5.specs.Stores as Former
use Rattle.machine_w5.specs.Calls as FormerCalls
use Rattle.machine_w5.specs.Same.{SameLane, SameLanes, SameControl, Same, full_of, full_in, SameCalled, SameCall, SamePicture, SameRun, SameList, SameOpenings}
use Rattle.machine_w5.proofs.Corruption.{former_with, store_with, by_stores, each_lane, limit_fits}
use Rattle.machine_w5.proofs.Commits.{Long, SameResult}
use Rattle.machine_w5.proofs.Steps.{begin_of_lem, serve_of_lem, return_of_lem, deliver_of_lem}
use Rattle.machine_w5.proofs.Settle.{Seen, corrupt_of_lem, settle_of_lem}
use Rattle.std.specs.Prelude.{Ok}

-- a queue has three messages after a call, or after a step of settle
abbrev pub Longer : Insertion → Store → Called → Type 0
Longer ins s q = Long q.store ⊎ Seen ins s

-- the same replies and stores; or 12 before W6, and today a third message
abbrev pub Either : Insertion → Store → FormerCalls.Called → Called → Type 0
Either ins s r q = ((full_in r.reply ≡ true) × Longer ins s q) ⊎ SameCalled r q

answered : (ins : Insertion) (s : Store) (r : Former.Outcome) (q : Outcome) → SameResult r q → Either ins s (FormerCalls.answered_call r) (answered_call q)
answered ins s r q (inl e) = inl (ap full_of e.full, inl e.long)
answered ins s r q (inr e) = inr (record { reply = ap Answers e.answer; store = e.store })

settled : (ins : Insertion) (s : Store) (r : FormerCalls.Called) (q : Called) → ((full_in r.reply ≡ true) × Seen ins s) ⊎ SameCalled r q → Either ins s r q
settled ins s r q (inl e) = inl (e.0, inr e.1)
settled ins s r q (inr e) = inr e

pub call_of_lem : (ins : Insertion) (t : Former.Store) (s : Store) (x : Call) → Same t s → Either ins s (FormerCalls.call_of ins t x) (call_of ins s x)
unfolding FormerCalls.call_of call_of
call_of_lem ins t s (Begin k op w) e = answered ins s _ _ (begin_of_lem t s k op w e)
call_of_lem ins t s (Serve k) e = answered ins s _ _ (serve_of_lem t s k e)
call_of_lem ins t s (Return k) e = answered ins s _ _ (return_of_lem t s k e)
call_of_lem ins t s (Deliver k) e = answered ins s _ _ (deliver_of_lem ins t s k e)
call_of_lem ins t s Settle e = settled ins s _ _ (settle_of_lem ins t s e)

-- a call that was not refused by 12
pub same_call : SameCall
same_call ins t s x e f = go (call_of_lem ins t s x e)
  where
    go : Either ins s (FormerCalls.call_of ins t x) (call_of ins s x) → SameCalled (FormerCalls.call_of ins t x) (call_of ins s x)
    go (inl h) = absurd (true≢false (sym h.0 ∙ f))
    go (inr h) = h

-- a list of calls is the same if its first call and the rest are
pub run_more : (ins : Insertion) (t : Former.Store) (s : Store) (x : Call) (xs : List Call) → SameCalled (FormerCalls.call_of ins t x) (call_of ins s x) →
    SameRun (FormerCalls.run ins (FormerCalls.call_of ins t x).store xs) (run ins (call_of ins s x).store xs) → SameRun (FormerCalls.run ins t (x ∷ xs)) (run ins s (x ∷ xs))
unfolding FormerCalls.run run
run_more ins t s x xs h r = let a = h.reply in let b = r.history in record { history = λ i. record { call = x; reply = a i } ∷ b i; store = r.store }

pub run_none : (ins : Insertion) (t : Former.Store) (s : Store) → Same t s → SameRun (FormerCalls.run ins t []) (run ins s [])
unfolding FormerCalls.run run
run_none ins t s e = record { history = refl; store = e }

-- a list of calls none of which was
pub same_list : SameList
unfolding FormerCalls.run
same_list ins t s [] e f = run_none ins t s e
same_list ins t s (x ∷ xs) e f = let h = same_call ins t s x e f.0 in run_more ins t s x xs h (same_list ins (FormerCalls.call_of ins t x).store (call_of ins s x).store xs h.store f.1)

-- what is gathered below n, where it agrees there
gather_agree : {A : Type 0} (f g : ℕ → List A) (n : ℕ) → ((j : ℕ) → j < n → f j ≡ g j) → gather_to f n ≡ gather_to g n
unfolding gather_to
gather_agree f g zero e = refl
gather_agree f g (suc n) e = rw (gather_agree f g n (λ j h. e j (omega arith)), e n (omega arith))

-- the bytes of a picture
bytes_parts : (shape : Shape) (x : FormerControl.Control) (y : Control) (done : ℕ) (ps ls : List Lane) (bs : List Block) → shape.limit ≡ 1 → SameControl x y → SameLanes shape.n ps ls →
    FormerCalls.picture_bytes (former_with shape x done ps bs) ≡ picture_bytes (store_with shape y done ls bs)
unfolding FormerCalls.picture_bytes picture_bytes
bytes_parts shape x y done ps ls bs one ec el =
    let e = each_lane (λ l. l.lines) (λ l. l.lines) shape.n ps ls el (λ p l f. f.lines) refl in
    gather_agree _ _ shape.m
    (λ a _. gather_agree _ _ shape.n
    (λ k h. ap (λ (f : List Line). gather_to (λ i. let z = get_or f i no_line in cond (holds_of z (record { 0 = a })) (record_bytes k z) []) shape.c) (e k h)))

bytes_same : (t : Former.Store) (s : Store) → Same t s → FormerCalls.picture_bytes t ≡ picture_bytes s
bytes_same = by_stores (λ t s. FormerCalls.picture_bytes t ≡ picture_bytes s) bytes_parts

pub same_picture : SamePicture
unfolding FormerCalls.picture_of picture_of
same_picture t s buffer e =
    let a = corrupt_of_lem t s e in
    let b = bytes_same t s e in
    λ i. cond (a i) (unwritten Corrupt buffer) (cond (ltb (length buffer) (length (b i))) (unwritten BufferTooShort buffer) (filled_with (b i) buffer))

-- the lanes of an opening
blank_same : SameLane Former.blank_lane blank_lane
unfolding Former.blank_lane blank_lane
blank_same = record {
  lines = refl;
  order = refl;
  waiting = refl;
  returns = record { lens = refl; short = omega arith; contents = refl; former_places = refl; places = refl };
  downs = record { lens = refl; short = omega arith; contents = refl; former_places = refl; places = refl };
}

blank_services : open_services blank_control ≡ 0
unfolding open_services count_to
blank_services = refl

pub fresh_same : (shape : Shape) → shape.limit ≡ 1 → Same (Former.fresh_of shape) (fresh_of shape)
unfolding Former.fresh_of fresh_of
fresh_same shape one = record {
  shape = refl;
  limit = one;
  control = record { slots = refl; services = blank_services };
  completions = refl;
  lanes = record { former_lanes = refl; lanes = refl; lane = λ k h _. rw (get_or-replicate 8 k Former.blank_lane no_lane h, get_or-replicate 8 k blank_lane no_lane h) blank_same };
  blocks = refl;
}

opening_answer : (shape : Shape) → shape.limit ≡ 1 → (Former.open_of shape).answer ≡ (open_of shape).answer
unfolding Former.open_of open_of
opening_answer shape one = let l = limit_fits shape one in on (bad_shape shape) (λ b. rw b) (λ b. rw (b, l))

opening_store : (shape : Shape) → shape.limit ≡ 1 → (open_of shape).answer ≡ Ok Opened → Same (Former.open_of shape).store (open_of shape).store
unfolding Former.open_of open_of
opening_store shape one e =
    let l = limit_fits shape one in
    on (bad_shape shape)
    (λ b. let q = rw b at e in let z : ◌≡◌ {A = ℕ} 0 1 = cc in absurd (omega arith))
    (λ b. rw (b, l) (fresh_same shape one))

pub same_openings : SameOpenings
same_openings shape one = record { answer = opening_answer shape one; store = opening_store shape one }
