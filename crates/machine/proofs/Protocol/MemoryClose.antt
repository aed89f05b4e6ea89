-- Memory closes a service that awaits no answer: the grant is sent, and the invariant of its block is kept. Assumes nothing.
use Prim.Native.Nat.{ℕ, ◌<◌}
use mathlib.Core.Logic.{◌⊎◌, inl, inr, ◌≢◌}
use mathlib.Core.Path.{◌≡◌, refl, sym, ap, ◌∙◌, fun_ext}
use mathlib.Core.Bool.{Bool, true, false, cond}
use mathlib.Core.List.{List, []}
use lib.Seq.{get_or-set_same, get_or-set_other}
use borrow.Author.Tests.{eq-eqb, ne_eqb}
use native.Mathlib.Omega.{arith}
use Rattle.words.specs.declared.LaneNo.{LaneNo}
use Rattle.words.specs.Operations.{is_load}
use Rattle.words.proofs.Folds.{pick}
use Rattle.queues.specs.Messages.{DownMessage}
use Rattle.queues.specs.declared.DownKind.TheVariants.{Grant, BareGrant}
use Rattle.lanes.specs.declared.Command.{Command}
use Rattle.lanes.specs.declared.Command.TheVariants.{ReadShared, ReadExclusive, Exclude}
use Rattle.lanes.specs.declared.Operation.{Operation}
use Rattle.lanes.specs.declared.Waiting.TheVariants.{Served}
use Rattle.store.specs.declared.Block.{Block}
use Rattle.store.specs.declared.Service.{Service}
use Rattle.store.specs.LaneSets.{nobody, only}
use Rattle.store.specs.Control.{awaited_of}
use Rattle.machine.specs.Machine.Serve.{closed_block, grant_of}
use Rattle.machine.specs.Machine.Settle.{is_order}
use Rattle.machine.proofs.Laws.Sets.{same?}
use Rattle.machine.proofs.Bounds.KeepsLane.{clash}
use Rattle.machine.proofs.List.Owes.{upd}
use Rattle.machine.proofs.Protocol.BlockState.{Status, Invalid, Shared, Modified, held, dirty, Seen, BlockState}
use Rattle.machine.proofs.Protocol.Invariant.{DueHead, owed, CommandFits, OperationFits, is_grant, Bears, Covered, exclusive, ServiceFits, Inv}
use Rattle.machine.proofs.Protocol.Moves.{post_seen, send_all, close_state}
use Rattle.machine.proofs.Protocol.Directories.{nobody_none, not_held, close_directory, closed_words}
use Rattle.machine.proofs.Protocol.BlockQuiet.{quiet_view}
use Rattle.machine.proofs.Protocol.MemoryMoves.{LaneFits, PutFits, put_keeps, nothing_owed, post_owed, post_bears}
use Rattle.std.specs.Prelude.{Some, None}

-- what the command needs: nobody else has a PRIVATE copy, and where it is exclusive nobody has any
covered_clean : (x : Command) (y : Status) → Covered x y → dirty y ≡ false
covered_clean ReadShared y c = c
covered_clean ReadExclusive y c = rw c
covered_clean Exclude y c = rw c

covered_none : (x : Command) (y : Status) → Covered x y → cond (exclusive x) Modified Shared ≡ Modified → y ≡ Invalid
covered_none ReadShared y c e = clash (cc)
covered_none ReadExclusive y c e = c
covered_none Exclude y c e = c

-- a line that waits is not PRIVATE
fits_unmodified : (l : Status) (x : Command) (load : Bool) → CommandFits l x load → dirty l ≡ false
fits_unmodified l ReadShared load c = rw c.0
fits_unmodified l ReadExclusive load c = rw c.0
fits_unmodified l Exclude load c = c.0

held_shared : (l : Status) → held l ≡ true → dirty l ≡ false → l ≡ Shared
held_shared Invalid h e = clash (cc)
held_shared Shared h e = refl
held_shared Modified h e = clash (cc)

-- the grant, bare where the line is held, leads to what the command is for
grant_due : (x : Command) (l : Status) (o : Operation) (bare : Bool) → CommandFits l x (is_load o.op) → bare ≡ held l →
    DueHead (Served o) l (cond bare BareGrant Grant) [] (cond (exclusive x) Modified Shared)
grant_due ReadShared l o true c e = clash (cc (ap held c.0))
grant_due ReadShared l o false c e = (c.0, rw c.1)
grant_due ReadExclusive l o true c e = clash (cc (ap held c.0))
grant_due ReadExclusive l o false c e = (c.0, rw c.1)
grant_due Exclude l o true c e = (held_shared l (sym e) c.0, c.1, refl)
grant_due Exclude l o false c e = (not_held l (sym e), rw c.1)

-- the grant's kind; it is no order, and its words are main memory's
grant_kind : (b : Block) (s : Service) → (grant_of b s).kind ≡ cond s.bare BareGrant Grant
grant_kind b s = pick (λ (m : DownMessage). m.kind ≡ cond s.bare BareGrant Grant) s.bare _ _ (λ e. rw e) (λ e. rw e)

pub grant_no_order : (b : Block) (s : Service) → is_order (grant_of b s).kind ≡ false
grant_no_order b s = pick (λ (m : DownMessage). is_order m.kind ≡ false) s.bare _ _ (λ e. refl) (λ e. refl)

grant_words : (b : Block) (s : Service) → is_grant (grant_of b s).kind ≡ true → (grant_of b s).words ≡ b.words
grant_words b s = pick (λ (m : DownMessage). is_grant m.kind ≡ true → m.words ≡ b.words) s.bare _ _ (λ e q. clash (cc)) (λ e q. refl)

-- .. so a lane that gets it owes no more
grant_owed : (b : Block) (s : Service) (l : Seen) → owed (post_seen (grant_of b s) l) ≡ owed l
grant_owed b s l = post_owed (grant_of b s) l ∙ rw (grant_no_order b s) (omega arith)

-- the conjuncts of the lane that the grant goes to
granted_fits : (y : Status) (f : List ℕ) (k : ℕ) (l : Seen) (o : Operation) (m : DownMessage) → l.returns ≡ [] → l.downs ≡ [] → l.waiting ≡ Served o →
    OperationFits l.line o → DueHead (Served o) l.line m.kind [] y → is_order m.kind ≡ false → (is_grant m.kind ≡ true → m.words ≡ f) →
    Bears f l → LaneFits y None f k (post_seen m l)
granted_fits y f k l o m r d w c g n q h =
    record {
      chain = record { meet = y; sent = rw r refl; due = rw (d, w) g };
      grant = rw (d, w, n);
      wait = rw w c;
      bears = post_bears f m l h q;
    }

-- what is sent to one lane changes that lane
only_sends : (k : LaneNo) (m : DownMessage) (lane : ℕ → Seen) → k.0 < 8 → send_all (only k) m lane ≡ upd lane k.0 (post_seen m (lane k.0))
only_sends k m lane h = fun_ext (λ j. go j (same? j k.0))
  where
    go : (j : ℕ) → (j ≡ k.0) ⊎ (j ≢ k.0) → send_all (only k) m lane j ≡ upd lane k.0 (post_seen m (lane k.0)) j
    go j (inl e) = rw (e, get_or-set_same nobody k.0 true false h, eq-eqb k.0 k.0 refl)
    go j (inr n) = rw (get_or-set_other nobody k.0 j true false n, nobody_none j, ne_eqb j k.0 n)

-- what the close owes
closed_fits : (v : ℕ → Status) (b : BlockState) (f : List ℕ) (s : Service) → Inv v b f → b.service ≡ Some s → s.awaited ≡ 0 → ServiceFits v b.lane s →
    PutFits v b f s.lane.0 (cond (exclusive s.command) Modified Shared) (post_seen (grant_of b.block s) (b.lane s.lane.0))
    (closed_block s.command b.block s.lane) None
closed_fits v b f s i e a g =
    record {
      directory = close_directory v b.block s.lane s.command i.directory g.below cover (clean s.lane.0);
      here = granted_fits _ f s.lane.0 (b.lane s.lane.0) g.operation (grant_of b.block s) g.returns g.downs g.waits fits
          (rw (grant_kind b.block s) (grant_due s.command (b.lane s.lane.0).line g.operation s.bare (rw g.command fits) g.bare))
          (grant_no_order b.block s) (λ q. grant_words b.block s q ∙ i.main clean) (i.bears s.lane.0);
      others = λ j n. rw (e, ne_eqb s.lane.0 j (λ q. n (sym q)));
      alone = λ q j n. covered_none s.command (v j) (cover j n) q;
      gone = λ j n q. clash (cc (clean j));
      main = λ _. closed_words s.command b.block s.lane ∙ i.main clean;
      count = let z = grant_owed b.block s (b.lane s.lane.0) in let w = none in omega arith;
      service = tt;
    }
  where
    none : awaited_of b.service ≡ 0
    none = rw e a

    cover : (j : ℕ) → j ≢ s.lane.0 → Covered s.command (v j)
    cover j n = g.cover j n (nothing_owed v b f i none j)

    fits : OperationFits (b.lane s.lane.0).line g.operation
    fits = let w = i.wait s.lane.0 in rw g.waits at w

    clean : (j : ℕ) → dirty (v j) ≡ false
    clean j = elim (same? j s.lane.0) [
      | inl q ↦ rw (q, quiet_view v b f i s.lane.0 g.returns g.downs) (fits_unmodified _ g.operation.command _ fits)
      | inr n ↦ covered_clean s.command (v j) (cover j n)
    ]

-- close
pub close_keeps : (v : ℕ → Status) (b : BlockState) (f : List ℕ) (s : Service) → Inv v b f → b.service ≡ Some s → s.awaited ≡ 0 →
    (u : (ℕ → Status)) × Inv u (close_state s b) f
close_keeps v b f s i e a =
    let h = i.service in
    let g : ServiceFits v b.lane s = rw e at h in (
      upd v s.lane.0 (cond (exclusive s.command) Modified Shared),
      rw (only_sends s.lane (grant_of b.block s) b.lane g.below) (put_keeps v b f s.lane.0 _ _ _ None i g.below (closed_fits v b f s i e a g)),
    )
