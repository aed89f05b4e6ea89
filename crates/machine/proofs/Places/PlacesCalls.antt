-- 02, W1, of settle, and so of every call: its completions have the next places in the order listed and are counted, and completions so far plus
-- operations waiting stay in 32 bits. Assumes nothing.
use Prim.Native.Nat.{ℕ, zero, suc, ◌+◌, ◌≤◌}
use mathlib.Core.Path.{◌≡◌, refl, sym, ap, ◌∙◌}
use mathlib.Core.Bool.{Bool, true, false, cond}
use mathlib.Core.List.{List, ◌++◌, map-append}
use lib.ListN.{length, length-append}
use native.Mathlib.Omega.{arith}
use native.Mathlib.Nat.{add-zero, zero-add}
use Rattle.words.specs.declared.LaneNo.{LaneNo}
use Rattle.words.specs.declared.WordNo.{WordNo}
use Rattle.words.specs.declared.Op.{Op}
use Rattle.lanes.specs.UseOrder.{Insertion}
use Rattle.answers.specs.declared.Completion.{Completion}
use Rattle.answers.specs.Refusals.{refused_of}
use Rattle.answers.specs.Completions.{done_in}
use Rattle.store.specs.declared.Store.{Store}
use Rattle.machine.specs.Machine.Begun.{begun_in, last_place}
use Rattle.machine.specs.Machine.Corruption.{corrupt_of}
use Rattle.machine.specs.Machine.Begin.{begin_of}
use Rattle.machine.specs.Machine.Settle.{settle_step, bound_of, Progress, advance, Settlement, settle_of}
use Rattle.machine.specs.Machine.Calls.{Call, Begin, Serve, Return, Deliver, Settle, SettledWith, call_of, completions_of}
use Rattle.machine.specs.Claims.Attribution.{begun_by}
use Rattle.machine.specs.Claims.Places.{numbers_from, begins_in, PlacesKept}
use Rattle.machine.specs.Machine.Sized.{Sized}
use Rattle.machine.proofs.Bounds.Sound.{sound}
use Rattle.machine.proofs.Bounds.Keeps.{begin_keeps}
use Rattle.machine.proofs.Bounds.SizedKeeps.{settle_step_sized, sized_whole}
use Rattle.machine.proofs.Rules.RulesSettle.{repeat_rule}
use Rattle.machine.proofs.Settle.FallsSettle.{start_at, settle_rule}
use Rattle.machine.proofs.Bounds.Counts.{Given, given_none, begin_counts, serve_counts, return_counts, deliver_counts, step_counts, begin_begun, serve_begun, return_begun, deliver_begun, step_begun}

-- numbers, and then more of them
numbers_more : (i a b : ℕ) → numbers_from i (a + b) ≡ numbers_from i a ++ numbers_from (i + a) b
unfolding numbers_from
numbers_more i zero b = rw (zero-add b, add-zero i)
numbers_more i (suc a) b =
    let more : suc a + b ≡ suc (a + b) = omega arith in
    let from : suc i + a ≡ i + suc a = omega arith in
    rw (more, numbers_more (suc i) a b, from)

-- completions, and then more of them
pub given_more : (s t u : Store) (xs ys : List Completion) → Given s xs t → Given t ys u → Given s (xs ++ ys) u
given_more s t u xs ys a b =
    let l = length-append xs ys in
    let c = a.counted in
    let d = b.counted in
    let e : suc s.completions + length xs ≡ suc t.completions = omega arith in
    record {
      next =
          map-append (λ (x : Completion). x.place) xs ys ∙ rw (a.next, b.next, ← e) (sym (numbers_more (suc s.completions) (length xs) (length ys))) ∙
          ap (numbers_from (suc s.completions)) (sym l);
      counted = omega arith;
    }

-- settle is a list of steps
advance_given : (ins : Insertion) (s : Store) (p : Progress) → Given s p.completions p.store → Given s (advance ins p).completions (advance ins p).store
unfolding advance
advance_given ins s p a =
    given_more s p.store (settle_step ins p.store).store p.completions (done_in (settle_step ins p.store).answer) a (step_counts ins p.store)

settle_given : (ins : Insertion) (s : Store) → Given s (completions_of (SettledWith (settle_of ins s).answer (settle_of ins s).completions)) (settle_of ins s).store
settle_given ins s =
    settle_rule ins (λ (r : Settlement). Given s (completions_of (SettledWith r.answer r.completions)) r.store) s (λ _. given_none s s refl)
    (λ _ _ _. repeat_rule ins (λ (p : Progress). Given s p.completions p.store) (λ p _. advance_given ins s p) (suc (bound_of s)) (start_at s) (given_none s s refl))

-- every call
pub call_given : (ins : Insertion) (s : Store) (c : Call) → Given s (completions_of (call_of ins s c).reply) (call_of ins s c).store
unfolding call_of
call_given ins s (Begin k op w) = begin_counts s k op w
call_given ins s (Serve k) = serve_counts s k
call_given ins s (Return k) = return_counts s k
call_given ins s (Deliver k) = deliver_counts ins s k
call_given ins s Settle = settle_given ins s

-- settle leaves completions so far plus operations waiting as they were
record Same (s : Store) (t : Store) : Type 0 where
  sized : Sized t
  begun : begun_in t ≡ begun_in s

advance_same : (ins : Insertion) (s : Store) (p : Progress) → Same s p.store → Same s (advance ins p).store
unfolding advance
advance_same ins s p a = record { sized = settle_step_sized ins p.store a.sized; begun = step_begun ins p.store a.sized ∙ a.begun }

settle_begun : (ins : Insertion) (s : Store) → Sized s → begun_in (settle_of ins s).store ≡ begun_in s
settle_begun ins s g =
    settle_rule ins (λ (r : Settlement). begun_in r.store ≡ begun_in s) s (λ _. refl)
    (λ _ _ _. (repeat_rule ins (λ (p : Progress). Same s p.store) (λ p _. advance_same ins s p) (suc (bound_of s)) (start_at s) (record { sized = g; begun = refl })).begun)

-- how many operations a begin call begins
begins_one : (refused : Bool) (k : LaneNo) (op : Op) (w : WordNo) → cond refused 0 1 ≡ length (begun_by 0 (Begin k op w) refused)
unfolding begun_by
begins_one true k op w = refl
begins_one false k op w = refl

-- a call that begins none
kept : (s t : Store) → corrupt_of s ≡ false → begun_in t ≡ begun_in s → (begun_in t ≡ begun_in s + 0) × (begun_in t ≤ last_place)
kept s t c e = let z = (sound s c).begun in (omega arith, omega arith)

-- 02, W1, of every call on a store that 14 passes
pub places_kept : (ins : Insertion) (s : Store) → corrupt_of s ≡ false → Sized s → (c : Call) → PlacesKept ins s c
unfolding call_of begun_by
places_kept ins s e g c = let a = call_given ins s c in let b = begun c in record { next = a.next; counted = a.counted; begun = b.0; within = b.1 }
  where
    begun : (c : Call) → (begun_in (call_of ins s c).store ≡ begun_in s + begins_in c (call_of ins s c).reply) × (begun_in (call_of ins s c).store ≤ last_place)
    begun (Begin k op w) =
        let r = begin_of s k op w in (
          begin_begun s k op w g ∙ ap (λ (n : ℕ). begun_in s + n) (begins_one (refused_of r.answer) k op w),
          (sound r.store (begin_keeps s k op w e (sized_whole s (sound s e).n_high g))).begun,
        )
    begun (Serve k) = kept s _ e (serve_begun s k)
    begun (Return k) = kept s _ e (return_begun s k)
    begun (Deliver k) = kept s _ e (deliver_begun ins s k g)
    begun Settle = kept s _ e (settle_begun ins s g)
