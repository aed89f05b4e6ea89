-- Settle before W6, with the orders that it sent (02, W8). Assumes nothing.
use Rattle.std.specs.Prelude.{ℕ, zero, suc, ◌+◌, ◌-◌, ◌*◌, Bool, true, false, not, cond, ◌||◌, ◌&&◌, List, [], ◌++◌, ltb, get_or, Result, Ok, Err}
use Rattle.words.specs.Folds.{count_to, sum_to, lowest_to}
use Rattle.queues.specs.Queues.{DownQueue}
use Rattle.queues.specs.Queues.{no_down}
use Rattle.lanes.specs.UseOrder.{Insertion}
use Rattle.lanes.specs.Waits.{unserved_of}
use Rattle.answers.specs.declared.Answer.{Answer}
use Rattle.answers.specs.declared.Answer.TheVariants.{Opened, Done, Wait, Step}
use Rattle.answers.specs.declared.Completion.{Completion}
use Rattle.answers.specs.declared.Refusal.{Refusal}
use Rattle.answers.specs.declared.Refusal.TheVariants.{Corrupt, Unexpected}
use Rattle.answers.specs.Refusals.{refused_of}
use Rattle.answers.specs.Completions.{done_in}
use Rattle.machine.specs.Machine.Settle.{lane, is_order}
use Rattle.machine_w5.specs.Control.{busy_of}
use Rattle.machine_w5.specs.Stores.{Store, Outcome, capacity, lane_at, quiet_of}
use Rattle.machine_w5.specs.Corruption.{corrupt_of}
use Rattle.machine_w5.specs.Change.{refuse}
use Rattle.machine_w5.specs.Steps.{serve_of, return_of, deliver_of}
use Rattle.machine.specs.declared.SettleCounts.{SettleCounts}

-- deliver to the lowest lane with a filled down queue; else return from the lowest with a filled return queue; else serve the lowest unserved; 16 where there is none of these
unfoldable pub settle_step : Insertion → Store → Outcome
settle_step ins s =
    let d = lowest_to (λ k. ltb 0 (lane_at s k).downs.len) s.shape.n in
    let r = lowest_to (λ k. ltb 0 (lane_at s k).returns.len) s.shape.n in
    let u = lowest_to (λ k. unserved_of (lane_at s k).waiting) s.shape.n in
    cond (ltb d s.shape.n) (deliver_of ins s (lane d))
    (cond (ltb r s.shape.n) (return_of s (lane r)) (cond (ltb u s.shape.n) (serve_of s (lane u)) (refuse Unexpected s)))

-- R: messages in return queues
abbrev pub returns_in : Store → ℕ
returns_in s = sum_to (λ k. (lane_at s k).returns.len) s.shape.n

-- the messages of a down queue that are orders, or that are grants
abbrev pub downs_of : Bool → DownQueue → ℕ
downs_of order q =
    count_to (λ i. ltb i q.len && cond order (is_order (get_or q.at i no_down).kind) (not (is_order (get_or q.at i no_down).kind))) capacity

-- G: grants in down queues
abbrev pub grants_in : Store → ℕ
grants_in s = sum_to (λ k. downs_of false (lane_at s k).downs) s.shape.n

-- Q: orders in down queues
abbrev pub orders_in : Store → ℕ
orders_in s = sum_to (λ k. downs_of true (lane_at s k).downs) s.shape.n

-- S: services (0 or 1)
abbrev pub services_in : Store → ℕ
services_in s = cond (busy_of s.control) 1 0

-- U: unserved operations
abbrev pub unserved_in : Store → ℕ
unserved_in s = count_to (λ k. unserved_of (lane_at s k).waiting) s.shape.n

-- The count is at most R + G + 2 × Q + S + 2 × n × U
unfoldable pub bound_of : Store → ℕ
bound_of s = returns_in s + grants_in s + 2 * orders_in s + services_in s + 2 * s.shape.n * unserved_in s

-- the orders that a step queued, by the stores before and after it
abbrev pub orders_queued : Store → Store → ℕ
orders_queued s t = orders_in t - orders_in s

-- how far a settle is: its steps, the orders that they queued, its completions in order, the last step's answer and store
pub record Progress : Type 0 where
  pub count : ℕ
  pub orders : ℕ
  pub completions : List Completion
  pub answer : Result Answer Refusal
  pub store : Store

-- one step more
unfoldable pub advance : Insertion → Progress → Progress
advance ins p =
    let r = settle_step ins p.store in
    record {
      count = suc p.count;
      orders = p.orders + orders_queued p.store r.store;
      completions = p.completions ++ done_in r.answer;
      answer = r.answer;
      store = r.store;
    }

-- It ends when the store is quiet, or where a step is refused
unfoldable pub ended : Progress → Bool
ended p = refused_of p.answer || quiet_of p.store

-- Settle repeats, here at most the given number of times: bound_of many, and the one that is refused by 16 where the store is stuck
unfoldable pub repeat_step : Insertion → ℕ → Progress → Progress
repeat_step ins zero p = p
repeat_step ins (suc more) p = let r = repeat_step ins more (advance ins p) in cond (ended p) p r

-- what settle gives: its counts or the refusal, the completions in order, the store after it
pub record Settlement : Type 0 where
  pub answer : Result SettleCounts Refusal
  pub completions : List Completion
  pub store : Store

-- a refused settle gives its number alone; the store is the same as before
abbrev pub refuse_settle : Refusal → Store → Settlement
refuse_settle r s = record { answer = Err r; completions = []; store = s }

-- the store that was reached is quiet, or it is refused by 16
abbrev pub reached : Store → Progress → Settlement
reached s p =
    cond (quiet_of p.store) (record { answer = Ok (record { steps = p.count; orders = p.orders }); completions = p.completions; store = p.store })
    (refuse_settle Unexpected s)

-- Settle refused inside gives that step's number
abbrev pub unless_refused : Result Answer Refusal → Store → Settlement → Settlement
unless_refused (Ok Opened) s r = r
unless_refused (Ok (Done x)) s r = r
unless_refused (Ok Wait) s r = r
unless_refused (Ok Step) s r = r
unless_refused (Err n) s r = refuse_settle n s

-- 14, then the numbers of its steps
unfoldable pub settle_of : Insertion → Store → Settlement
settle_of ins s =
    let p = repeat_step ins (suc (bound_of s)) (record { count = 0; orders = 0; completions = []; answer = Ok Step; store = s }) in
    cond (corrupt_of s) (refuse_settle Corrupt s) (unless_refused p.answer s (reached s p))
