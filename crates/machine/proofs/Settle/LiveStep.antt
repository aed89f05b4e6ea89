-- A step of settle is not refused where the store is not quiet: there is a message to deliver or to return, or a command to serve, and
-- the first of these that settle takes goes through. Assumes nothing.
use Prim.Native.Nat.{ℕ, ◌<◌, ◌≤◌}
use mathlib.Core.Logic.{◌⊎◌, inl, inr, ◌≢◌}
use mathlib.Core.Path.{◌≡◌, refl, ap}
use mathlib.Core.Bool.{true, false, not}
use mathlib.Core.List.{List}
use borrow.Author.Tests.{eq-eqb, lt-leb}
use native.Mathlib.Omega.{arith}
use Rattle.words.specs.declared.BlockNo.{BlockNo}
use Rattle.words.specs.Units.{block_of}
use Rattle.words.proofs.Folds.{below?, any_never}
use Rattle.lanes.specs.declared.Operation.{Operation}
use Rattle.lanes.specs.declared.Waiting.{Waiting}
use Rattle.lanes.specs.declared.Waiting.TheVariants.{Idle, Unserved, Served}
use Rattle.lanes.specs.Waits.{unserved_of}
use Rattle.lanes.specs.UseOrder.{Insertion}
use Rattle.answers.specs.Refusals.{refused_of}
use Rattle.store.specs.declared.Store.{Store}
use Rattle.store.specs.declared.Outcome.{Outcome}
use Rattle.store.specs.Stores.{lane_at}
use Rattle.store.specs.Quiet.{active_of, quiet_of}
use Rattle.store.specs.Control.{slot_at, slot_of, service_of, open_services, busy_for, is_busy, service_in}
use Rattle.store.proofs.Services.{never, busy_found, for_none, none_found}
use Rattle.machine.specs.Machine.Settle.{lane, settle_step}
use Rattle.machine.proofs.Laws.Sums.{count_zero}
use Rattle.machine.proofs.Bounds.KeepsLane.{clash}
use Rattle.machine.proofs.Bounds.Sound.{sound}
use Rattle.machine.proofs.Protocol.BlockState.{seen, block_no, project}
use Rattle.machine.proofs.Protocol.Invariant.{grant_count, serving, served_count, owed}
use Rattle.machine.proofs.Store.Consistent.{Consistent}
use Rattle.machine.proofs.Settle.Live.{Live}
use Rattle.machine.proofs.Settle.LiveSpare.{Spare}
use Rattle.machine.proofs.Settle.LiveAwaited.{awaited_owed}
use Rattle.machine.proofs.Settle.LiveDeliver.{deliver_goes}
use Rattle.machine.proofs.Settle.LiveMemory.{return_goes, serve_goes}
use Rattle.machine.proofs.Rules.RulesSettle.{NoDowns, NoReturns, step_rule}
use Rattle.std.specs.Prelude.{None}

-- a lane whose operation memory has not taken
unserved_some : (w : Waiting) → unserved_of w ≡ true → (o : Operation) × (w ≡ Unserved o)
unserved_some Idle e = clash (cc)
unserved_some (Unserved o) e = (o, refl)
unserved_some (Served o) e = clash (cc)

module _ (s : Store) (f : List ℕ) (i : Consistent s f) (live : Live s) (spare : Spare s) where
  -- no down queue of a lane is filled, so none is
  module _ (no_downs : NoDowns s) where
    all_downs : (j : ℕ) → (lane_at s j).downs.len ≡ 0
    all_downs j = go (below? j s.shape.n)
      where
        go : (j < s.shape.n) ⊎ (s.shape.n ≤ j) → (lane_at s j).downs.len ≡ 0
        go (inl h) = no_downs j h
        go (inr h) = (spare j h).downs

    module _ (no_returns : NoReturns s) where
      all_returns : (j : ℕ) → (lane_at s j).returns.len ≡ 0
      all_returns j = go (below? j s.shape.n)
        where
          go : (j < s.shape.n) ⊎ (s.shape.n ≤ j) → (lane_at s j).returns.len ≡ 0
          go (inl h) = no_returns j h
          go (inr h) = (spare j h).returns

      -- nothing is owed, so no service is under way
      none_owed : (a j : ℕ) → owed ((project s a).lane j) ≡ 0
      unfolding owed seen
      none_owed a j = rw (all_returns j, all_downs j)

      idle : (j : ℕ) → j < 8 → is_busy (slot_at s.control j) ≡ false
      idle j h = never (is_busy (slot_at s.control j)) (λ b.
          let v = (service_in (slot_at s.control j)) in
          let g = (sound s i.sound).control in
          let e = busy_found s.control j g.distinct h b in
          live.awaits v.block v e (awaited_owed s f i v.block.0 v e (g.services j h b).block (λ k _. none_owed v.block.0 k)))

      none_open : open_services s.control ≡ 0
      unfolding open_services
      none_open = count_zero (λ j. is_busy (slot_at s.control j)) 8 idle

      none_for : (a : BlockNo) → slot_of s.control a ≡ 8
      none_for a = for_none s.control a (λ j h. rw (idle j h))

      none_serves : (a : BlockNo) → service_of s.control a ≡ None
      none_serves a = let e = none_for a in none_found s.control a (omega arith)

      free : (a : BlockNo) → busy_for s.shape.limit s.control a ≡ false
      free a = let p = (sound s i.sound).limit_low in rw (none_for a, none_open) (lt-leb s.shape.limit 0 (omega arith))

      -- .. and no operation is served
      none_served : (k : ℕ) → k < s.shape.n → (o : Operation) → (lane_at s k).waiting ≢ Served o
      unfolding seen
      none_served k h o e =
          let a = (block_of o.word).0 in
          let g = (i.block a (((sound s i.sound).lane k h).served o e)).1.grant k in
          let d : grant_count ((project s a).lane k).downs ≡ 0 = rw (all_downs k) in
          let c : serving (project s a).service k ≡ 0 = rw (none_serves (block_no a)) in
          let w : served_count ((project s a).lane k).waiting ≡ 1 = rw (e, eq-eqb a a refl) in
          absurd (omega arith)

      -- .. so that a store with no unserved operation is quiet
      quiet : ((k : ℕ) → k < s.shape.n → unserved_of (lane_at s k).waiting ≡ false) → quiet_of s ≡ true
      unfolding quiet_of active_of
      quiet none = rw none_open (ap not (any_never (λ k. active_of (lane_at s k)) s.shape.n (λ k h. go k h (lane_at s k).waiting refl)))
        where
          go : (k : ℕ) → k < s.shape.n → (w : Waiting) → (lane_at s k).waiting ≡ w → active_of (lane_at s k) ≡ false
          go k h Idle e = rw (e, all_returns k, all_downs k)
          go k h (Unserved o) e = clash (cc (none k h))
          go k h (Served o) e = absurd (none_served k h o e)

  pub step_goes : (ins : Insertion) → quiet_of s ≡ false → refused_of (settle_step ins s).answer ≡ false
  step_goes ins active =
      step_rule ins (λ (r : Outcome). refused_of r.answer ≡ false) s (λ k h e. deliver_goes ins s f i live (lane k) h e)
      (λ _ k h e. return_goes s f i live (lane k) h e)
      (λ d r k h e. let o = unserved_some _ e in serve_goes s f i live (lane k) h o.0 (record { sound = i.sound; lane = h; unserved = o.1; free = free d r (block_of o.0.word); clear = all_returns d r k }))
      (λ d r u. clash (cc (quiet d r u)))
