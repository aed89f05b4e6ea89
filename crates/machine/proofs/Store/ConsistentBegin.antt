-- Begin keeps a store consistent, and pays what it owes. Assumes nothing.
use Prim.Native.Nat.{ℕ, ◌<◌}
use mathlib.Core.Logic.{◌⊎◌, inl, inr, ◌≢◌}
use mathlib.Core.Path.{◌≡◌, refl, ap, ◌∙◌}
use mathlib.Core.Bool.{Bool, true, false, cond}
use mathlib.Core.List.{List}
use Rattle.words.specs.declared.LaneNo.{LaneNo}
use Rattle.words.specs.declared.WordNo.{WordNo}
use Rattle.words.specs.declared.Op.{Op}
use Rattle.words.specs.Units.{block_of}
use Rattle.words.specs.Operations.{is_load}
use Rattle.lanes.specs.declared.Lane.{Lane}
use Rattle.lanes.specs.declared.Command.{Command}
use Rattle.lanes.specs.declared.Command.TheVariants.{ReadShared, ReadExclusive, Exclude}
use Rattle.lanes.specs.declared.Waiting.TheVariants.{Idle, Unserved}
use Rattle.answers.specs.declared.Refusal.{Refusal}
use Rattle.store.specs.declared.Store.{Store}
use Rattle.store.specs.declared.Outcome.{Outcome}
use Rattle.store.specs.Stores.{lane_at}
use Rattle.machine.specs.Machine.Parts.{LaneStep}
use Rattle.machine.specs.Machine.Change.{refuse, lane_store, commit_lane}
use Rattle.machine.specs.Machine.Begin.{read_of, begin_of}
use Rattle.machine.specs.Claims.Flat.{flat_after, flat_block}
use Rattle.machine.proofs.Laws.Sets.{same?}
use Rattle.machine.proofs.Bounds.Sound.{sound}
use Rattle.machine.proofs.List.Owes.{Pending, Rests, upd, fed, BeginOwes}
use Rattle.machine.proofs.Protocol.BlockState.{Status, Invalid, Shared, seen, block_no, project, value_done}
use Rattle.machine.proofs.Protocol.Invariant.{Inv, CommandFits}
use Rattle.machine.proofs.Protocol.Moves.{wait_seen, hit_seen, evict_seen}
use Rattle.machine.proofs.Projection.Flats.{flat_value_lem, flat_done, flat_other}
use Rattle.machine.proofs.Projection.Searches.{Unique, same_block}
use Rattle.machine.proofs.Protocol.LaneMovesBegin.{hit_keeps, wait_keeps, evict_keeps}
use Rattle.machine.proofs.Projection.SeenBegin.{HitCase, WaitCase, EvictCase, BeginCase, Hits, Excludes, Reads, Evicts, Refuses, asked, seen_idle, begin_case}
use Rattle.machine.proofs.Store.Consistent.{Consistent, pending_of, pending_in}
use Rattle.machine.proofs.Store.ConsistentLane.{lane_sized, lane_project, lane_unseen, lane_unique, lane_pending, lane_pending_same, pending_here}
use Rattle.machine.proofs.Rules.Rules.{put_back, begin_rule}

-- what begin has to show, beside bounds and lengths; flat is flat memory after it
pub record Begins (s : Store) (f : List ℕ) (k : LaneNo) (op : Op) (w : WordNo) (r : Outcome) : Type 0 where
  pub flat : List ℕ
  pub unique : (j : ℕ) → Unique r.store.shape.c (lane_at r.store j)
  pub block : (a : ℕ) → a < r.store.shape.m → (v : (ℕ → Status)) × Inv v (project r.store a) (flat_block flat a)
  pub owes : BeginOwes (pending_in s) f k op w r.answer (pending_in r.store) flat

refused_begins : (s : Store) (f : List ℕ) (k : LaneNo) (op : Op) (w : WordNo) (x : Refusal) → Consistent s f → Begins s f k op w (refuse x s)
refused_begins s f k op w x i = record { flat = f; unique = i.unique; block = i.block; owes = (refl, refl) }

-- READ is the command of a lane that has no copy
read_fits : (b : Bool) → CommandFits Invalid (cond b ReadShared ReadExclusive) b
read_fits true = (refl, refl)
read_fits false = (refl, refl)

module _ (s : Store) (f : List ℕ) (i : Consistent s f) (k : LaneNo) (h : k.0 < s.shape.n) (op : Op) (w : WordNo) (inside : (block_of w).0 < s.shape.m) where
  abbrev l : Lane
  l = lane_at s k.0

  -- where the lane waits for nothing: its operation as each block sees it
  idle_at : l.waiting ≡ Idle → (a : ℕ) → ((project s a).lane k.0).waiting ≡ Idle
  idle_at idle a = seen_idle s.shape.c (block_no a) l idle

  rests : l.waiting ≡ Idle → pending_in s k.0 ≡ Rests
  rests idle = pending_here s f i k.0 h ∙ ap pending_of idle

  -- the invariant of the operation's block
  before : (v : (ℕ → Status)) × Inv v (project s (block_of w).0) (flat_block f (block_of w).0)
  before = i.block (block_of w).0 inside

  -- what holds of the operation's block and of all others holds of each
  each_block : (t : Store) (g : List ℕ) → ((v : (ℕ → Status)) × Inv v (project t (block_of w).0) (flat_block g (block_of w).0)) →
      ((a : ℕ) → a < s.shape.m → a ≢ (block_of w).0 → (v : (ℕ → Status)) × Inv v (project t a) (flat_block g a)) →
      (a : ℕ) → a < s.shape.m → (v : (ℕ → Status)) × Inv v (project t a) (flat_block g a)
  each_block t g here there a b = go (same? a (block_of w).0)
    where
      go : (a ≡ (block_of w).0) ⊎ (a ≢ (block_of w).0) → (v : (ℕ → Status)) × Inv v (project t a) (flat_block g a)
      go (inl e) = rw e here
      go (inr n) = there a b n

  hit_begins : (r : LaneStep) → HitCase s.shape.c op w l r → Begins s f k op w (put_back s k r)
  hit_begins r c =
      record {
        flat = flat_after f (fed op w);
        unique = lane_unique s f i k.0 h r.lane c.unique;
        block = each_block (lane_store s k r) (flat_after f (fed op w)) here there;
        owes = rw c.answer (refl, ap (value_done op w) ((before.1.bears k.0).line c.copy) ∙ flat_value_lem f op w, lane_pending_same s f i k.0 h r.lane _ (ap pending_of c.waiting), refl);
      }
    where
      here : (v : (ℕ → Status)) × Inv v (project (lane_store s k r) (block_of w).0) (flat_block (flat_after f (fed op w)) (block_of w).0)
      here = (
        before.0,
        rw (lane_project s f i k.0 h r.lane (hit_seen op w (seen s.shape.c (block_of w) l)) (block_of w).0 c.here, flat_done f op w)
            (hit_keeps before.0 (project s (block_of w).0) (flat_block f (block_of w).0) k.0 op w before.1 c.copy c.able),
      )

      there : (a : ℕ) → a < s.shape.m → a ≢ (block_of w).0 → (v : (ℕ → Status)) × Inv v (project (lane_store s k r) a) (flat_block (flat_after f (fed op w)) a)
      there a b n = rw (lane_unseen s f i k.0 h r.lane a (c.others (block_no a) n), flat_other f op w a n) (i.block a b)

  -- begin waits with command x: what is left is what the other blocks see
  wait_begins : (r : LaneStep) (x : Command) (y : Status) → WaitCase s.shape.c op w x y l r → CommandFits y x (is_load op) →
      ((a : ℕ) → a < s.shape.m → a ≢ (block_of w).0 → (v : (ℕ → Status)) × Inv v (project (lane_store s k r) a) (flat_block f a)) →
      Begins s f k op w (put_back s k r)
  wait_begins r x y c fits there =
      record {
        flat = f;
        unique = lane_unique s f i k.0 h r.lane c.unique;
        block = each_block (lane_store s k r) f here there;
        owes = rw c.answer (rests c.idle, lane_pending s f i k.0 h r.lane _ ∙ ap (λ (q : Pending). upd (pending_in s) k.0 q) (ap pending_of c.waiting), refl);
      }
    where
      here : (v : (ℕ → Status)) × Inv v (project (lane_store s k r) (block_of w).0) (flat_block f (block_of w).0)
      here = (
        before.0,
        rw (lane_project s f i k.0 h r.lane (wait_seen (Unserved (asked x op w)) (seen s.shape.c (block_of w) l)) (block_of w).0 c.here)
            (wait_keeps before.0 (project s (block_of w).0) (flat_block f (block_of w).0) k.0 (asked x op w) before.1 (idle_at c.idle (block_of w).0) (rw c.line fits)),
      )

  -- other blocks that see nothing
  unseen : (r : LaneStep) (a : ℕ) → a < s.shape.m → seen s.shape.c (block_no a) r.lane ≡ seen s.shape.c (block_no a) l → (v : (ℕ → Status)) × Inv v (project (lane_store s k r) a) (flat_block f a)
  unseen r a b e = rw (lane_unseen s f i k.0 h r.lane a e) (i.block a b)

  -- the block of the line that is given up
  evicted_block : (r : LaneStep) (c : EvictCase s.shape.c op w l r) → (a : ℕ) → a < s.shape.m → a ≡ c.victim.0 → (v : (ℕ → Status)) × Inv v (project (lane_store s k r) a) (flat_block f a)
  evicted_block r c a b e =
      let x : block_no a ≡ c.victim = same_block (block_no a) c.victim e in
      let p = i.block a b in (
        p.0,
        rw (lane_project s f i k.0 h r.lane (evict_seen (block_no a) (seen s.shape.c (block_no a) l)) a (rw x c.there))
            (evict_keeps p.0 (project s a) (flat_block f a) k.0 (block_no a) p.1 (idle_at c.wait.idle a) (rw x c.copy)),
      )

  evict_begins : (r : LaneStep) → EvictCase s.shape.c op w l r → Begins s f k op w (put_back s k r)
  evict_begins r c = wait_begins r (read_of op) Invalid c.wait (read_fits (is_load op)) (λ a b n. go a b n (same? a c.victim.0))
    where
      go : (a : ℕ) → a < s.shape.m → a ≢ (block_of w).0 → (a ≡ c.victim.0) ⊎ (a ≢ c.victim.0) → (v : (ℕ → Status)) × Inv v (project (lane_store s k r) a) (flat_block f a)
      go a b n (inl e) = evicted_block r c a b e
      go a b n (inr m) = unseen r a b (c.others (block_no a) n m)

  -- the lane's part, by what it does
  case_begins : (r : LaneStep) → BeginCase s.shape.c op w l r → Begins s f k op w (commit_lane s k r)
  unfolding commit_lane
  case_begins r (Hits c) = rw c.answer (rw c.answer at (hit_begins r c))
  case_begins r (Excludes c) =
      rw c.wait.answer (rw c.wait.answer at (wait_begins r Exclude Shared c.wait (refl, c.store) (λ a b n. unseen r a b (c.others (block_no a) n))))
  case_begins r (Reads c) =
      rw c.wait.answer (rw c.wait.answer at (wait_begins r (read_of op) Invalid c.wait (read_fits (is_load op)) (λ a b n. unseen r a b (c.others (block_no a) n))))
  case_begins r (Evicts c) = rw c.wait.answer (rw c.wait.answer at (evict_begins r c))
  case_begins r (Refuses c) = rw c.answer (refused_begins s f k op w c.reason i)

pub begin_consistent : (s : Store) (f : List ℕ) (k : LaneNo) (op : Op) (w : WordNo) → Consistent s f → Begins s f k op w (begin_of s k op w)
begin_consistent s f k op w i =
    begin_rule (Begins s f k op w) s k op w (λ x. refused_begins s f k op w x i)
    (λ r.
    let a = sound s i.sound in
    case_begins s f i k r.lane op w r.inside _
    (begin_case s.shape.c op w (lane_at s k.0) (lane_sized s f i k.0 r.lane) a.c_high (i.unique k.0) ((a.lane k.0 r.lane).order.named 0 a.c_low) r.admits))
