-- What is owed has a service that awaits it, of the same block. Assumes nothing.
use Prim.Native.Nat.{ℕ, ◌<◌}
use mathlib.Core.Logic.{◌≢◌}
use mathlib.Core.Path.{◌≡◌, refl, sym, ap, ◌∙◌}
use mathlib.Core.List.{List}
use Rattle.store.specs.declared.Store.{Store}
use Rattle.store.specs.declared.Service.{Service}
use Rattle.store.specs.Control.{service_of, awaited_of}
use Rattle.machine.proofs.Laws.Sums.{sum_zero, zero_sum}
use Rattle.machine.proofs.Protocol.BlockState.{block_no, project}
use Rattle.machine.proofs.Protocol.Invariant.{owed}
use Rattle.machine.proofs.Store.Consistent.{Consistent}
use Rattle.std.specs.Prelude.{Option, Some, None}

-- the service of block a, which awaits answers
pub record Awaited (s : Store) (a : ℕ) : Type 0 where
  pub service : Service
  pub found : service_of s.control (block_no a) ≡ Some service
  pub some : service.awaited ≢ 0

module _ (s : Store) (f : List ℕ) (i : Consistent s f) where
  pub owed_awaited : (a : ℕ) → a < s.shape.m → (k : ℕ) → k < 8 → owed ((project s a).lane k) ≢ 0 → Awaited s a
  owed_awaited a h k l n = go (service_of s.control (block_no a)) refl
    where
      awaits : awaited_of (service_of s.control (block_no a)) ≢ 0
      awaits z = n (sum_zero (λ j. owed ((project s a).lane j)) 8 ((i.block a h).1.count ∙ z) k l)

      go : (x : Option Service) → service_of s.control (block_no a) ≡ x → Awaited s a
      go None e = absurd (awaits (ap awaited_of e))
      go (Some v) e = record { service = v; found = e; some = λ z. awaits (ap awaited_of e ∙ z) }

  -- a service awaits what is owed
  pub awaited_owed : (a : ℕ) (v : Service) → service_of s.control (block_no a) ≡ Some v → a < s.shape.m → ((k : ℕ) → k < 8 → owed ((project s a).lane k) ≡ 0) → v.awaited ≡ 0
  awaited_owed a v e h z = sym (ap awaited_of e) ∙ sym (i.block a h).1.count ∙ zero_sum (λ j. owed ((project s a).lane j)) 8 z
