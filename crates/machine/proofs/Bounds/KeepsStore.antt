-- A lane, or a lane with a block, the control and a message to some lanes, put back into a store keeps it within bounds. Assumes nothing.
use Prim.Native.Nat.{ℕ, zero, suc, ◌+◌, ◌<◌, ◌≤◌}
use mathlib.Core.Path.{◌≡◌}
use mathlib.Core.Bool.{Bool, false}
use mathlib.Core.List.{List}
use lib.ListN.{length, get_or, set}
use native.Mathlib.Omega.{arith}
use Rattle.words.specs.declared.LaneNo.{LaneNo}
use Rattle.words.specs.declared.BlockNo.{BlockNo}
use Rattle.words.specs.Folds.{up_to}
use Rattle.words.proofs.Folds.{by_cond}
use Rattle.queues.specs.Queues.{capacity}
use Rattle.queues.specs.Messages.{DownMessage}
use Rattle.lanes.specs.declared.Lane.{Lane}
use Rattle.store.specs.declared.Store.{Store}
use Rattle.store.specs.declared.Outcome.{Outcome}
use Rattle.store.specs.Stores.{no_lane, no_block, lane_at}
use Rattle.machine.specs.Machine.Begun.{begun_in, last_place}
use Rattle.store.specs.LaneSets.{goes_to}
use Rattle.machine.specs.Machine.Parts.{LaneStep}
use Rattle.machine.specs.Machine.Parts.{Move}
use Rattle.machine.specs.Machine.Change.{refused_in, lane_store, commit_lane, posted, post_to, post_all, commit_move}
use Rattle.machine.proofs.Laws.Sets.{set_cases}
use Rattle.machine.proofs.Bounds.Sound.{LaneSound, BlockSound, ControlSound, Sound}
use Rattle.machine.proofs.Bounds.KeepsLane.{LaneFit, posted_keeps}
use Rattle.machine.proofs.Bounds.KeepsBegun.{waits, LaneBegins, lane_begun, lane_there, move_begun}
use Rattle.machine.proofs.Rules.Rules.{lane_rule, move_rule}

-- a store within bounds whose lanes' use orders have at least h places
pub record Fit (h : ℕ) (s : Store) : Type 0 where
  pub sound : Sound s
  pub long : (k : ℕ) → k < s.shape.n → h ≤ length (lane_at s k).order

pub lane_fit : (h : ℕ) (s : Store) → Fit h s → (k : ℕ) → k < s.shape.n → LaneFit h s.shape.c s.shape.m (lane_at s k)
lane_fit h s g k l = record { sound = g.sound.lane k l; long = g.long k l }

-- lane k after its part of a call, which begins b operations
pub commit_lane_keeps : (h b : ℕ) (s : Store) (k : LaneNo) (r : LaneStep) → 1 ≤ h → k.0 < s.shape.n → Fit h s → LaneFit h s.shape.c s.shape.m r.lane →
    LaneBegins b (lane_at s k.0) r → begun_in s + b ≤ last_place → Fit h (commit_lane s k r).store
commit_lane_keeps h b s k r one l g f t most = lane_rule (λ (x : Outcome). Fit h x.store) s k r (λ _ _. g) put
  where
    put : refused_in r.answer ≡ false → Fit h (lane_store s k r)
    put e =
        let a = g.sound in
        let i = g.long k.0 l in
        let d = lane_begun b s k r l (lane_there s.lanes k.0 (omega arith)) t e in
        record {
          sound = record {
            n_low = a.n_low;
            n_high = a.n_high;
            c_low = a.c_low;
            c_high = a.c_high;
            m_low = a.m_low;
            m_high = a.m_high;
            limit_low = a.limit_low;
            limit_high = a.limit_high;
            control = a.control;
            lane = λ j l. set_cases (LaneSound s.shape.c s.shape.m) s.lanes k.0 j r.lane no_lane (λ _. f.sound) (a.lane j l);
            block = a.block;
            begun = omega arith;
          };
          long = λ j l. set_cases (λ (x : Lane). h ≤ length x.order) s.lanes k.0 j r.lane no_lane (λ _. f.long) (g.long j l);
        }

-- each of the first n lanes is within bounds
abbrev Lanes : ℕ → ℕ → ℕ → ℕ → List Lane → Type 0
Lanes h n c m ls = (j : ℕ) → j < n → LaneFit h c m (get_or ls j no_lane)

post_keeps : (h n c m : ℕ) (to : List Bool) (x : DownMessage) (i : ℕ) (ls : List Lane) → 1 ≤ m → x.block.0 < m → Lanes h n c m ls →
    Lanes h n c m (post_to capacity to x i ls)
unfolding post_to
post_keeps h n c m to x i ls z b g j l =
    by_cond (λ (r : List Lane). LaneFit h c m (get_or r j no_lane)) (goes_to to i) (set ls i (posted capacity x (get_or ls i no_lane))) ls
    (set_cases (LaneFit h c m) ls i j (posted capacity x (get_or ls i no_lane)) no_lane
    (λ e. posted_keeps h c m (get_or ls i no_lane) (rw e at (g j l)) x z b)
    (g j l))
    (g j l)

posts_keep : (h n c m : ℕ) (to : List Bool) (x : DownMessage) (t : ℕ) (ls : List Lane) → 1 ≤ m → x.block.0 < m → Lanes h n c m ls →
    Lanes h n c m (up_to (post_to capacity to x) t ls)
unfolding up_to
posts_keep h n c m to x zero ls z b g = g
posts_keep h n c m to x (suc t) ls z b g = post_keeps h n c m to x t (up_to (post_to capacity to x) t ls) z b (posts_keep h n c m to x t ls z b g)

-- a message joins the down queues of those that it goes to
pub post_all_keeps : (h n c m : ℕ) (to : List Bool) (x : DownMessage) (ls : List Lane) → 1 ≤ m → x.block.0 < m → Lanes h n c m ls →
    Lanes h n c m (post_all capacity to x ls)
unfolding post_all
post_all_keeps h n c m to x ls z b g = posts_keep h n c m to x 8 ls z b g

-- memory's part of a call within bounds
pub record MoveFit (h n c m limit : ℕ) (v : Move) : Type 0 where
  pub lane : LaneFit h c m v.lane
  pub block : BlockSound n v.block
  pub control : ControlSound n m limit v.control
  pub message : v.message.block.0 < m

-- the store after memory's part of a call
pub commit_move_keeps : (h : ℕ) (s : Store) (k : LaneNo) (a : BlockNo) (v : Move) → Fit h s → MoveFit h s.shape.n s.shape.c s.shape.m s.shape.limit v →
    waits v.lane ≡ waits (lane_at s k.0) → Fit h (commit_move s k a v).store
commit_move_keeps h s k a v g f d =
    move_rule (λ (r : Outcome). Fit h r.store) s k a v (λ _. g)
    (λ _ _. let b = g.sound in
    record {
      sound = record {
        n_low = b.n_low;
        n_high = b.n_high;
        c_low = b.c_low;
        c_high = b.c_high;
        m_low = b.m_low;
        m_high = b.m_high;
        limit_low = b.limit_low;
        limit_high = b.limit_high;
        control = f.control;
        lane = λ j l. (after j l).sound;
        block = λ j l. set_cases (BlockSound s.shape.n) s.blocks a.0 j v.block no_block (λ _. f.block) (b.block j l);
        begun = let e = move_begun s k a v d in let z = b.begun in omega arith;
      };
      long = λ j l. (after j l).long;
    })
  where
    after : Lanes h s.shape.n s.shape.c s.shape.m (post_all capacity v.to v.message (set s.lanes k.0 v.lane))
    after =
        post_all_keeps h s.shape.n s.shape.c s.shape.m v.to v.message (set s.lanes k.0 v.lane) g.sound.m_low f.message
        (λ j l. set_cases (LaneFit h s.shape.c s.shape.m) s.lanes k.0 j v.lane no_lane (λ _. f.lane) (lane_fit h s g j l))
