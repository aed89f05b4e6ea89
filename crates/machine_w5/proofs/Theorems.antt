-- The theorems, by name and type: W6's sentence, as specs/Same.antt states it. This file only states; the proofs are where it points. One more is
-- passed on by its name, `exceptions`: in each of W6's exceptions the two machines differ (specs/Table.antt). Assumes nothing.
use Rattle.machine.proofs.Settle.Lively.{Lively, open_lively, fresh_lively, call_lively, step_lively}
use Rattle.machine.proofs.Settle.LiveNever.{lively_two}
use Rattle.machine_w5.specs.Same.{SameStore, SameCall, SamePicture, SameList, SameOpenings, SameHistory, SameLast, SameTape}
use Rattle.machine_w5.proofs.Bounded.{Bounded}
use Rattle.machine_w5.proofs.Stores as Stores
use Rattle.machine_w5.proofs.Calls as Calls
use Rattle.machine_w5.proofs.Bounded as Histories
use Rattle.machine_w5.proofs.Tape as Tape
pub use Rattle.machine_w5.proofs.Table.{exceptions}

-- a store handed in that has no queue length above 2 has one of today
pub same_store : SameStore
same_store = Stores.same_store

-- a call on the same stores, save where it was refused by 12
pub same_call : SameCall
same_call = Calls.same_call

-- the picture of the same stores
pub same_picture : SamePicture
same_picture = Calls.same_picture

-- a list of calls on the same stores, save where one was refused by 12
pub same_list : SameList
same_list = Calls.same_list

-- an opening with L = 1
pub same_openings : SameOpenings
same_openings = Calls.same_openings

-- from an opening with L = 1 no queue has three messages: W7's figure is then 2 (crates/machine, proofs/Settle/LiveNever.antt)
bounded : Bounded
bounded = record { Lively = Lively; open_lively = open_lively; fresh_lively = fresh_lively; call_lively = call_lively; step_lively = step_lively; lively_two = lively_two }

-- a list of calls from an opening with L = 1, with no exception
pub same_history : SameHistory
same_history = Histories.same_history bounded

-- .. and the last stores
pub same_last : SameLast
same_last = Histories.same_last bounded

-- a tape that has no record of kind 08
pub same_tape : SameTape
same_tape = Tape.same_tape bounded
