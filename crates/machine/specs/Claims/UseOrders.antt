-- What completions make of a lane's use order, in places: 01, "Parts of a store"; 02, W3, "goes in as the oldest", "becomes newest". This file only states it;
-- proofs/Theorems.antt has the theorem. Assumes nothing.
use Rattle.std.specs.Prelude.{ℕ, ◌+◌, ◌-◌, ◌<◌, ◌≤◌, ◌≡◌, true, false, ◌||◌, List, length, Some}
use Rattle.words.specs.declared.LineNo.{LineNo}
use Rattle.words.specs.declared.WordNo.{WordNo}
use Rattle.words.specs.declared.Op.{Op}
use Rattle.words.specs.Operations.{is_load}
use Rattle.queues.specs.Messages.{DownMessage}
use Rattle.lanes.specs.declared.Lane.{Lane}
use Rattle.lanes.specs.declared.Operation.{Operation}
use Rattle.lanes.specs.Search.{line_at}
use Rattle.lanes.specs.UseOrder.{Insertion, Newest, LoadsOldest, place_at}
use Rattle.machine.specs.Machine.Parts.{LaneStep}
use Rattle.machine.specs.Machine.Corruption.{bad_order}
use Rattle.machine.specs.Machine.Begin.{hit}
use Rattle.machine.specs.Machine.Deliver.{fill_at, bare_at}

-- from an order to another, the line at place j becomes the oldest: those that were older move up by one, all others stay
pub record BecomesOldest (j : ℕ) (o r : List LineNo) : Type 0 where
  pub oldest : place_at r 0 ≡ place_at o j
  pub older : (k : ℕ) → k < j → place_at r (k + 1) ≡ place_at o k
  pub others : (k : ℕ) → j < k → place_at r k ≡ place_at o k

-- .. of c lines it becomes the newest: those that were newer move down by one, all others stay
pub record BecomesNewest (c j : ℕ) (o r : List LineNo) : Type 0 where
  pub newest : place_at r (c - 1) ≡ place_at o j
  pub newer : (k : ℕ) → j ≤ k → k + 1 < c → place_at r k ≡ place_at o (k + 1)
  pub older : (k : ℕ) → k < j → place_at r k ≡ place_at o k
  pub past : (k : ℕ) → c ≤ k → place_at r k ≡ place_at o k

-- the line at place j of a lane's use order
abbrev pub line_named : Lane → ℕ → LineNo
line_named l j = place_at l.order j

-- what a lane's part makes of its use order
abbrev pub MadeOldest : ℕ → Lane → LaneStep → Type 0
MadeOldest j l r = BecomesOldest j l.order r.lane.order

abbrev pub MadeNewest : ℕ → ℕ → Lane → LaneStep → Type 0
MadeNewest c j l r = BecomesNewest c j l.order r.lane.order

-- the line at place j, of a lane of c lines, when an operation completes on it
pub record Completes (c j : ℕ) (l : Lane) : Type 0 where
  -- by a hit, and by a bare grant: it becomes the newest
  pub by_hit : (op : Op) (w : WordNo) → (is_load op || (line_at l (line_named l j)).private) ≡ true → MadeNewest c j l (hit c (line_named l j) op w l)
  pub by_bare_grant : (o : Operation) → MadeNewest c j l (bare_at (Some (line_named l j)) c o l)
  -- filled for a load: the oldest, and under 01's rule the newest
  pub filled_for_load : (x : DownMessage) (o : Operation) → is_load o.op ≡ true → MadeOldest j l (fill_at LoadsOldest (Some (line_named l j)) c x o l)
  pub as_before_w3 : (x : DownMessage) (o : Operation) → MadeNewest c j l (fill_at Newest (Some (line_named l j)) c x o l)
  -- filled for another operation: the newest, under either rule
  pub filled_for_other : (ins : Insertion) (x : DownMessage) (o : Operation) → is_load o.op ≡ false → MadeNewest c j l (fill_at ins (Some (line_named l j)) c x o l)

-- the claim, of every lane whose use order 14 passes, and each of its lines
abbrev pub UseOrders : Type 0
UseOrders = (c j : ℕ) (l : Lane) → j < c → c ≤ length l.order → bad_order c l.order ≡ false → Completes c j l
