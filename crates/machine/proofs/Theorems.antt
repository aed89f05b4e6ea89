-- The theorems, by name and type. This file only states; the proofs are where it points. One more is passed on by its name, `cases`:
-- what the definitions give is what 01 and 02 want, row by row (specs/Table/Table.antt); it is proved by computation from the definitions alone.
--
-- The supply contract's sentence: a lane reads the last word stored, in every order in which the lanes' messages reach the
-- controller, and the places of the completions run 1, 2, 3 without a gap. Assumes nothing.
use Prim.Native.Nat.{ℕ, suc, ◌<◌}
use mathlib.Core.Path.{◌≡◌}
use mathlib.Core.Bool.{true, false}
use mathlib.Core.List.{List, [], ◌∷◌, ◌++◌, Memᴰ}
use native.Mathlib.Omega.{arith}
use Rattle.lanes.specs.UseOrder.{Insertion}
use Rattle.answers.specs.declared.Answer.TheVariants.{Opened}
use Rattle.store.specs.declared.Store.{Store}
use Rattle.store.specs.Opening.{open_of}
use Rattle.machine.specs.Machine.Corruption.{corrupt_of}
use Rattle.machine.specs.Machine.Settle.{bound_of, ended, repeat_step}
use Rattle.machine.specs.Machine.Calls.{Call, Settle, run}
use Rattle.machine.specs.Claims.Attribution.{Begun}
use Rattle.machine.specs.Claims.Demand3.{Demand3, begun, operations}
use Rattle.machine.specs.Claims.Places.{PlacesKept}
use Rattle.machine.specs.Claims.UseOrders.{UseOrders}
use Rattle.machine.specs.Claims.SameValues.{SameValues}
use Rattle.machine.specs.Claims.ServeByte.{ServeByByte}
use Rattle.machine.specs.Claims.LoadBeside.{LoadBesideWait, LoadStandsAhead}
use Rattle.machine.specs.Claims.Completion.{AlwaysSettles, SettleExact, SettleBound}
use Rattle.machine.specs.Claims.NeverFull.{NeverFull, TapesNeverFull, QueuesStayShort}
use Rattle.machine.specs.Machine.Sized.{Sized}
use Rattle.machine.specs.Claims.PictureOrder.{PictureInOrder, OneOrder, SamePictures}
pub use Rattle.machine.proofs.Table.{cases}
use Rattle.words.specs.declared.Shape.{Shape}
use Rattle.machine.specs.Claims.Potential.{ExactSteps}
use Rattle.machine.proofs.Laws.UseOrders.{use_orders}
use Rattle.machine.proofs.Settle.Falls.{steps_exact}
use Rattle.machine.proofs.Settle.FallsSettle.{start_at, settle_exact, settle_count, repeat_ends, repeat_same}
use Rattle.machine.proofs.Places.PlacesCalls.{places_kept}
use Rattle.machine.proofs.Pictures.OneOrder.{one_order}
use Rattle.machine.proofs.Pictures.PictureOrder.{in_order, same_pictures}
use Rattle.machine.proofs.Store.OrderOfMemory.{order_of_memory}
use Rattle.machine.proofs.Store.SameOperations.{same_operations}
use Rattle.machine.proofs.Store.ServeByte.{serve_by_byte}
use Rattle.machine.proofs.Store.LoadBeside.{beside_wait, stand_ahead}
use Rattle.machine.proofs.Settle.LiveSettle.{always_settles, all_complete}
use Rattle.machine.proofs.Settle.LiveNever.{never_full, stay_short}
use Rattle.machine.proofs.Settle.LiveTape.{tapes_never_full}
use Rattle.std.specs.Prelude.{Ok}

-- Demand 3: the order of completion is the order of memory.
--
--   ins     the insertion policy, where a fill puts its line in the use order: 01's, or 02's W3, which is the program's (`LoadsOldest`)
--   calls   any list of load, store, exchange, add, serve, return, deliver and settle calls; lanes, words and v are any numbers, so
--           that refused calls are in it. "In every order in which the messages reach the controller": the order in which serve,
--           return and deliver stand in the list is that order, and it is any.
--   Opened  "from any opening": n, c, m and L (02, W6) are any that opening does not refuse. There is no other hypothesis.
--   run     each call on the store that the last one left; each gives what its contract says (`call_of`, specs/Machine/Calls.antt).
--
-- Of what the calls were answered (history) and the last store it says (`Coherent`, specs/Claims/Demand3.antt):
--
--   owned       "any other is of the operation begun by the last begin call before it, on the lane it carries, that was answered with
--               a wait": there is always such a call, it wasn't refused, and it was on that lane
--   once        each operation completes at most once
--   values      "each completion's value equals the one flat memory then gives", fed the operations in the order of the completions:
--               so a load gives the last word stored
--   places      the completions' places, in their order, are 1, 2, 3 .. without a gap
--   when_quiet  where no operation waits, no service is open and the queues are empty: every operation begun has completed; the store
--               shows flat memory's words in every block; the four properties of the flags (000, section III)
--   same        the store still has the opening's shape: n, c, m and L
pub demand_3 : Demand3
demand_3 = order_of_memory

-- 02, W1, call by call, on every store that 14 passes, be it one that no opening gives; its arrays have their declared lengths, as every store of the
-- program has. Completions have the next places, and completions so far plus operations waiting stay in 32 bits, so that no place wraps
-- (`PlacesKept`, specs/Claims/Places.antt).
pub places_never_wrap : (ins : Insertion) (s : Store) → corrupt_of s ≡ false → Sized s → (c : Call) → PlacesKept ins s c
places_never_wrap = places_kept

-- 02, W2: the bytes of a picture that isn't refused. Its records are sorted by block, then by lane, then by line; they are of valid lines alone, and each valid
-- line has exactly one (`InOrder`, specs/Claims/PictureOrder.antt).
pub picture_in_order : PictureInOrder
picture_in_order = in_order

-- .. no free order is left: only one list of bytes is so of each store,
pub no_free_order : OneOrder
no_free_order = one_order

-- .. and so two pictures of one store are the same file, whatever stood in the lent buffers.
pub pictures_same : SamePictures
pictures_same = same_pictures

-- 02, W3: what a lane's part makes of a use order that 14 passes, in places, when an operation completes (`Completes`, specs/Claims/UseOrders.antt): a line filled for a load
-- becomes the oldest, and those that were older move up by one; by a hit, a bare grant and a fill for the other operations it becomes the newest.
pub use_order_after : UseOrders
use_order_after = use_orders

-- 02, W3: two lists of calls from openings, each under either policy, that complete the same operations in the same order get the same values and places. What
-- is the same is the operation with its v and the word (`Asked`, specs/Claims/SameValues.antt); n, c, m, L, lanes, steps and refused calls may differ.
pub same_values : SameValues
same_values = same_operations

-- 02, W4: the byte that a serve works out before it queues an order (`orders_byte`, specs/Machine/LaneBytes.antt; the code's is `memory_serve::orders_byte`), on every store and for each serve that isn't refused (`ServeByByte`, specs/Claims/ServeByte.antt): bit j
-- is set exactly when lane j's down queue gains an order in it, and the service awaits as many answers as bits are set; with none set it closed in that step.
pub serve_goes_by_byte : ServeByByte
serve_goes_by_byte = serve_by_byte

-- 02, W5: begin on a lane that waits, on every store that 14 passes, be it one that no opening gives (`BesideWait`, specs/Claims/LoadBeside.antt). A load of a word of the store that hits gives the word as it stands
-- in the line, and of the whole store the lane's use order and the count of completions change alone: what waits still waits; 17 where no place is left. One that misses, and every other operation, is refused by 8.
pub load_beside_wait : LoadBesideWait
load_beside_wait = beside_wait

-- .. and such loads in the order of completion, in every list of calls from an opening (`StandsAhead`, specs/Claims/LoadBeside.antt): each stands where it was answered, behind all that had completed
-- and ahead of the operation that its lane waited for, which was begun, had not completed, and completes behind it. That flat memory gives their values is demand 3, which has them in it.
pub load_stands_ahead : LoadStandsAhead
load_stands_ahead = stand_ahead

-- Beside demand 3: settle never fails. After any list of calls from any opening, settle is answered with its counts (no 12, no 16), and
-- nothing is under way after it (`Settles`, specs/Claims/Completion.antt).
pub settle_succeeds : AlwaysSettles
settle_succeeds = always_settles

-- .. so that every operation that was begun completes: after any list of calls and one settle there is none that has not.
pub begun_completes : (ins : Insertion) (shape : Shape) (calls : List Call) → (open_of shape).answer ≡ Ok Opened → (b : Begun) →
    Memᴰ b (begun (run ins (open_of shape).store (calls ++ (Settle ∷ []))).history) →
    Memᴰ b (operations (run ins (open_of shape).store (calls ++ (Settle ∷ []))).history)
begun_completes = all_complete

-- 02, W7: a queue is never full. For every opening and every list of calls no answer of the history is 12, settle's included (`NeverFull`, specs/Claims/NeverFull.antt),
pub never_full_from_opening : NeverFull
never_full_from_opening = never_full

-- .. so no line of a tape is `refused 12`, whatever the tape is,
pub no_tape_prints_12 : TapesNeverFull
no_tape_prints_12 = tapes_never_full

-- .. and the figures: each queue of every lane has at most one more message than the smaller of L and n − 1, and so have a lane's two queues together
-- (`queue_most`, specs/Claims/NeverFull.antt). Rows of the table meet it with equality, a return queue and a down queue.
pub queues_stay_short : QueuesStayShort
queues_stay_short = stay_short

-- 02, W8: the count of a settle that isn't refused is R + G + 2 × Q + S + 2 × U + 2 × O (`exact_of`, specs/Machine/Settle.antt), and O, the orders that
-- it sent itself, is at most (n − 1) × U; on every store, be it one that no opening gives; its arrays have their declared lengths, as every store of
-- the program has (`SettleExact`, specs/Claims/Completion.antt).
pub settle_is_exact : SettleExact
settle_is_exact = settle_exact

-- .. so 01's bound: the count is at most R + G + 2 × Q + S + 2 × n × U (`bound_of`, specs/Machine/Settle.antt; `SettleBound`, specs/Claims/Completion.antt).
pub settle_bound : SettleBound
settle_bound = settle_count

-- Why: each deliver, return and serve that isn't refused takes 1 from R + G + 2 × Q + S + 2 × U, and each order that it queues adds 2; only a
-- serve queues any, and fewer than the lanes (`ExactSteps`, specs/Claims/Potential.antt). A quiet store has 0 of it.
pub settle_step_exact : (ins : Insertion) (s : Store) → corrupt_of s ≡ false → Sized s → ExactSteps ins s
settle_step_exact = steps_exact

-- "Settle repeats .. it ends when the store is quiet": the definition repeats bound_of + 1 times at most, and that cuts nothing off. So
-- many repetitions have ended, with a quiet store or a refused step, and any more give the same.
pub settle_ends : (ins : Insertion) (s : Store) → corrupt_of s ≡ false → Sized s → ended (repeat_step ins (suc (bound_of s)) (start_at s)) ≡ true
settle_ends = repeat_ends

pub settle_not_cut : (ins : Insertion) (more : ℕ) (s : Store) → corrupt_of s ≡ false → Sized s → bound_of s < more → repeat_step ins more (start_at s) ≡ repeat_step ins (suc (bound_of s)) (start_at s)
settle_not_cut ins more s e z h = repeat_same ins more (suc (bound_of s)) (start_at s) e z h (omega arith)
