-- A rule for memory's part of serve and one for its part of return, by which the proofs go: return's three cases of a counted answer stand here.
-- Assumes nothing.
use mathlib.Core.Path.{◌≡◌, refl, sym, subst}
use mathlib.Core.Bool.{Bool, true, false}
use mathlib.Core.Logic.{◌≢◌}
use mathlib.Core.List.{List}
use lib.Dec.{eqb}
use borrow.Author.Tests.{eqb-true, eqb-false}
use Rattle.words.specs.declared.LaneNo.{LaneNo}
use Rattle.words.specs.declared.BlockNo.{BlockNo}
use Rattle.words.specs.Units.{block_of}
use Rattle.words.proofs.Folds.{pick}
use Rattle.queues.specs.Messages.{ReturnMessage}
use Rattle.queues.specs.Messages.{bare_message}
use Rattle.queues.specs.Queues.{after_take}
use Rattle.lanes.specs.declared.Lane.{Lane}
use Rattle.lanes.specs.declared.Operation.{Operation}
use Rattle.lanes.specs.declared.Waiting.TheVariants.{Served}
use Rattle.lanes.specs.Lanes.{with_waiting, with_returns}
use Rattle.answers.specs.declared.Answer.TheVariants.{Step}
use Rattle.answers.specs.declared.Refusal.TheVariants.{Unexpected}
use Rattle.store.specs.declared.Block.{Block}
use Rattle.store.specs.declared.Service.{Service}
use Rattle.store.specs.declared.Control.{Control}
use Rattle.store.specs.declared.Counted.{Counted}
use Rattle.store.specs.declared.Counted.TheVariants.{Awaits, Closes}
use Rattle.store.specs.Control.{lowered, service_of, counted_of, answer_of, with_service, with_updated, without_service}
use Rattle.store.proofs.Services.{Found, found}
use Rattle.store.specs.LaneSets.{count_of}
use Rattle.machine.specs.Machine.Parts.{Move}
use Rattle.machine.specs.Machine.Change.{refuse_move}
use Rattle.machine.specs.Machine.Serve.{ordered, order_of, close, service_for, serve_move}
use Rattle.machine.specs.Machine.Return.{taken_by, is_answer, send_nothing, counted_move, return_move}
use Rattle.std.specs.Prelude.{Option, Some, None, Ok}

-- an answer of block a to the service v that control x has for it
pub record Awaited (x : Control) (a : BlockNo) (v : Service) : Type 0 where
  pub at : Found x v.block v
  pub block : v.block ≡ a
  pub found : service_of x a ≡ Some v
  pub some : v.awaited ≢ 0

awaited : (x : Control) (a : BlockNo) (v : Service) → service_of x a ≡ Some v → v.awaited ≢ 0 → Awaited x a v
awaited x a v e s =
    let f = found x a v e in
    let q : v.block ≡ a = λ i. record { 0 = f.block i } in
    record { at = subst (λ (b : BlockNo). Found x b v) (sym q) f; block = q; found = e; some = s }

-- an answer: not awaited, the last one, or one before it
counted_rule : (P : Option Counted → Type 0) (x : Control) (a : BlockNo) → P None → ((v : Service) → Awaited x a v → v.awaited ≡ 1 → P (Some (Closes v))) →
    ((v : Service) → Awaited x a v → v.awaited ≢ 1 → P (Some (Awaits (lowered v)))) → P (answer_of x a)
counted_rule P x a none last more = go (service_of x a) refl
  where
    go : (l : Option Service) → service_of x a ≡ l → P (counted_of l)
    go None e = none
    go (Some v) e =
        pick P (eqb v.awaited 0) None _ (λ _. none)
        (λ s. let g = awaited x a v e (eqb-false _ _ s) in
        pick P (eqb v.awaited 1) (Some (Closes v)) (Some (Awaits (lowered v))) (λ q. last v g (eqb-true _ _ q)) (λ q. more v g (eqb-false _ _ q)))

-- memory's part of return, where t and u are lane and block once the message is taken: no answer, 16, the last answer, or one before it
module _ (P : Move → Type 0) (k : LaneNo) (x : ReturnMessage) (l : Lane) (b : Block) (y : Control) where
  abbrev taken : Lane
  taken = with_returns (after_take l.returns) l

  abbrev after : Block
  after = taken_by x.kind x.words k b

  pub return_move_rule : (is_answer x.kind ≡ false → P (send_nothing taken after y)) → P (refuse_move Unexpected l b y) →
      (is_answer x.kind ≡ true → (v : Service) → Awaited y x.block v → v.awaited ≡ 1 → P (close v taken after (without_service v y))) →
      (is_answer x.kind ≡ true → (v : Service) → Awaited y x.block v → v.awaited ≢ 1 → P (send_nothing taken after (with_updated (lowered v) y))) →
      P (return_move k x l b y)
  unfolding return_move
  return_move_rule eject unexpected last more =
      pick P (is_answer x.kind) _ _
      (λ e. counted_rule (λ (r : Option Counted). P (counted_move r l b y taken after)) y x.block unexpected (last e) (more e)) eject

-- memory's part of serve: the service closes at once, or its orders are sent
module _ (P : Move → Type 0) (k : LaneNo) (o : Operation) (l : Lane) (b : Block) (x : Control) where
  abbrev to : List Bool
  to = ordered b k o.command

  abbrev service : Service
  service = service_for k o b (count_of to)

  pub serve_move_rule : (count_of to ≡ 0 → P (close service (with_waiting (Served o) l) b x)) →
      (count_of to ≢ 0 → P (record { answer = Ok Step; lane = with_waiting (Served o) l; block = b; control = with_service service x; to = to; message = bare_message (order_of o.command) (block_of o.word) })) →
      P (serve_move k o l b x)
  unfolding serve_move
  serve_move_rule closes opens = pick P (eqb (count_of to) 0) _ _ (λ q. closes (eqb-true _ _ q)) (λ q. opens (eqb-false _ _ q))
