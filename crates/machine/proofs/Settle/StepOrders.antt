-- The orders that a step of settle queues: none by a deliver, a return and what is refused; by a serve as many as the service awaits that it opened.
-- Assumes nothing.
use Prim.Native.Nat.{ℕ}
use mathlib.Core.Path.{◌≡◌, refl, sym, ap, ◌∙◌}
use mathlib.Core.Bool.{true, false, true≢false}
use lib.Dec.{eqb}
use borrow.Author.Tests.{eqb-true, eqb-false}
use native.Mathlib.Omega.{arith}
use Rattle.words.specs.declared.LaneNo.{LaneNo}
use Rattle.words.specs.declared.BlockNo.{BlockNo}
use Rattle.words.specs.Units.{block_of}
use Rattle.lanes.specs.declared.Operation.{Operation}
use Rattle.lanes.specs.declared.Waiting.TheVariants.{Unserved}
use Rattle.lanes.specs.UseOrder.{Insertion, LoadsOldest}
use Rattle.answers.specs.Refusals.{refused_of}
use Rattle.store.specs.declared.Store.{Store}
use Rattle.store.specs.declared.Outcome.{Outcome}
use Rattle.store.specs.Control.{service_of, awaited_of}
use Rattle.store.specs.Stores.{lane_at}
use Rattle.machine.specs.Machine.Parts.{LaneStep}
use Rattle.machine.specs.Machine.Parts.{Move}
use Rattle.machine.specs.Machine.Corruption.{corrupt_of}
use Rattle.machine.specs.Machine.Change.{commit_lane, commit_move}
use Rattle.machine.specs.Machine.Serve.{serve_of}
use Rattle.machine.specs.Machine.Return.{return_of}
use Rattle.machine.specs.Machine.Deliver.{deliver_of}
use Rattle.machine.specs.Machine.Settle.{orders_queued}
use Rattle.machine.specs.Machine.Sized.{Sized}
use Rattle.machine.specs.Claims.Potential.{orders_for}
use Rattle.machine.specs.Machine.LaneBytes.{bits_in}
use Rattle.machine.specs.Claims.ServeByte.{GoesByByte}
use Rattle.machine.proofs.Laws.Tests.{on}
use Rattle.machine.proofs.Rules.Rules.{answer_goes, serve_rule, return_rule, deliver_rule, lane_rule, move_rule}
use Rattle.machine.proofs.Store.ServeByte.{orders_count, serve_by_byte}
use Rattle.machine.proofs.Settle.Falls.{steps_exact}

-- a refused call leaves the store
abbrev Stays : Store → Outcome → Type 0
Stays s r = refused_of r.answer ≡ true → r.store ≡ s

lane_stays : (s : Store) (k : LaneNo) (r : LaneStep) → Stays s (commit_lane s k r)
lane_stays s k r = lane_rule (Stays s) s k r (λ _ _ _. refl) (λ e h. absurd (true≢false (sym h ∙ (answer_goes k _ r.answer ∙ e))))

move_stays : (s : Store) (k : LaneNo) (a : BlockNo) (v : Move) → Stays s (commit_move s k a v)
move_stays s k a v = move_rule (Stays s) s k a v (λ _ _. refl) (λ e _ h. absurd (true≢false (sym h ∙ e)))

deliver_stays : (ins : Insertion) (s : Store) (k : LaneNo) → Stays s (deliver_of ins s k)
deliver_stays ins s k = deliver_rule ins (Stays s) s k (λ _ _. refl) (λ _ _. lane_stays s k _)

return_stays : (s : Store) (k : LaneNo) → Stays s (return_of s k)
return_stays s k = return_rule (Stays s) s k (λ _ _. refl) (λ _. move_stays s k _ _)

pub serve_stays : (s : Store) (k : LaneNo) → Stays s (serve_of s k)
serve_stays s k = serve_rule (Stays s) s k (λ _ _. refl) (λ _ _. move_stays s k _ _)

-- so it queues none
pub stays_none : (s : Store) (r : Outcome) → r.store ≡ s → orders_queued s r.store ≡ 0
stays_none s r e = ap (orders_queued s) e ∙ (omega arith)

module _ (s : Store) (sound : corrupt_of s ≡ false) (z : Sized s) (k : LaneNo) where
  pub deliver_queues : (ins : Insertion) → orders_queued s (deliver_of ins s k).store ≡ 0
  deliver_queues ins =
      on (refused_of (deliver_of ins s k).answer) (λ e. stays_none s (deliver_of ins s k) (deliver_stays ins s k e)) (λ e. ((steps_exact ins s sound z).deliver k e).0)

  pub return_queues : orders_queued s (return_of s k).store ≡ 0
  return_queues = on (refused_of (return_of s k).answer) (λ e. stays_none s (return_of s k) (return_stays s k e)) (λ e. ((steps_exact LoadsOldest s sound z).return k e).0)

  -- a serve that is not refused
  module _ (goes : refused_of (serve_of s k).answer ≡ false) where
    pub serve_unserved : (o : Operation) × ((lane_at s k.0).waiting ≡ Unserved o)
    serve_unserved = let g = serve_by_byte s k z goes in (g.0, g.1)

    pub serve_queues : (o : Operation) → (lane_at s k.0).waiting ≡ Unserved o →
        orders_queued s (serve_of s k).store ≡ awaited_of (service_of (serve_of s k).store.control (block_of o.word))
    serve_queues o e =
        let g = serve_by_byte s k z goes in
        let q : g.0 ≡ o = cc (g.1, e) in
        ((steps_exact LoadsOldest s sound z).serve k goes).0 ∙ (ap (orders_for s k) g.1 ∙ (sym (orders_count _ k g.0.command) ∙
        (awaits (block_of g.0.word) _ g.2 ∙ ap (λ (p : Operation). awaited_of (service_of (serve_of s k).store.control (block_of p.word))) q)))
      where
        awaits : (a : BlockNo) (x : ℕ) → GoesByByte s (serve_of s k).store k a x → bits_in x ≡ awaited_of (service_of (serve_of s k).store.control a)
        awaits a x g =
            on (eqb (bits_in x) 0)
            (λ n. let c = g.closed (eqb-true _ _ n) in eqb-true _ _ n ∙ sym (ap awaited_of c.0))
            (λ n. let c = g.awaits (eqb-false _ _ n) in sym (ap awaited_of c.1 ∙ c.3))
