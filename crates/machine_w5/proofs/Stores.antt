-- A store before W6 whose queues have at most two messages has a store of today that is the same. Assumes nothing.
use Prim.Native.Nat.{ℕ, zero, suc, ◌<◌, ◌≤◌}
use native.Mathlib.Omega.{arith}
use mathlib.Core.Path.{◌≡◌, refl, sym, ◌∙◌}
use mathlib.Core.List.{List, [], ◌∷◌, ◌++◌, map}
use lib.ListN.{length, get_or, replicate, length-append, length-map, length-replicate}
use lib.Seq.{take-append-le}
use borrow.Author.Tests.{eq-eqb}
use Rattle.words.specs.Folds.{count_to, lowest_to}
use Rattle.lanes.specs.declared.Lane.{Lane}
use Rattle.queues.specs.Queues.{no_return, no_down}
use Rattle.store.specs.Control.{slot_of, service_of, open_services}
use Rattle.store.specs.Stores.{no_lane}
use Rattle.machine_w5.specs.Control.{Free, Busy}
use Rattle.machine_w5.specs.Control as FormerControl
use Rattle.machine_w5.specs.Same.{SameQueue, SameLane, SameControl, ShortLane, wider_lane, wider_control, SameStore}

-- an element of a list's image
map_at : {A B : Type 0} (f : A → B) (l : List A) (k : ℕ) (a : A) (b : B) → k < length l → get_or (map f l) k b ≡ f (get_or l k a)
map_at f [] k a b h = absurd (omega arith)
map_at f (x ∷ xs) zero a b h = refl
map_at f (x ∷ xs) (suc k) a b h = map_at f xs k a b (omega arith)

-- six places more
wider_queue : {A : Type 0} (len : ℕ) (at : List A) (d : A) → len ≤ 2 → length at ≡ 2 → SameQueue len at len (at ++ replicate 6 d)
wider_queue len at d h e = record {
  lens = refl;
  short = h;
  contents = sym (take-append-le len at (replicate 6 d) (omega arith));
  former_places = e;
  places = length-append at (replicate 6 d) ∙ omega (arith, length-replicate 6 d);
}

wider_lane_lem : (l : Lane) → ShortLane l → SameLane l (wider_lane l)
wider_lane_lem l h = record { lines = refl; order = refl; waiting = refl; returns = wider_queue _ _ no_return h.returns h.return_places; downs = wider_queue _ _ no_down h.downs h.down_places }

wider_control_lem : (x : FormerControl.Control) → SameControl x (wider_control x)
unfolding open_services count_to service_of slot_of lowest_to
wider_control_lem Free = record { slots = refl; services = refl }
wider_control_lem (Busy v) = record { slots = refl; services = (refl, rw (eq-eqb v.block.0 v.block.0 refl)) }

pub same_store : SameStore
same_store t h = record {
  shape = refl;
  limit = h.limit;
  control = wider_control_lem t.control;
  completions = refl;
  lanes = record {
    former_lanes = h.lanes;
    lanes = length-map t.lanes wider_lane ∙ h.lanes;
    lane = λ k l b. rw (map_at wider_lane t.lanes k no_lane no_lane (omega (arith, h.lanes))) (wider_lane_lem _ (h.lane k l b));
  };
  blocks = refl;
}
