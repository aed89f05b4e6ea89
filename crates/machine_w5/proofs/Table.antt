-- The rows of the exceptions hold, by computation. Assumes nothing.
use mathlib.Core.Path.{◌≡◌, refl}
use mathlib.Core.List.{map}
use Rattle.words.specs.Folds.{up_to, down_to, any_to, count_to, sum_to, lowest_to, any_of}
use Rattle.tape_records.specs.Records.{parse_of}
use Rattle.lanes.specs.Search.{first_from}
use Rattle.store.specs.Control.{slot_of, service_of, open_services, free_slot, with_service, with_updated, without_service}
use Rattle.store.specs.Opening.{bad_shape, blank_lane, blank_block, fresh_of}
use Rattle.store.specs.Quiet.{active_of, quiet_of}
use Rattle.store.specs.LaneSets.{count_of}
use Rattle.machine.specs.Machine.Begun.{waiting_in, begun_in}
use Rattle.machine.specs.Machine.Corruption.{bad_lane, bad_flags, bad_control, corrupt_of}
use Rattle.machine.specs.Machine.Change.{commit_lane, some_full, post_to, post_all, commit_move}
use Rattle.machine.specs.Machine.Begin.{complete_with, hit, evict, miss, admits_of, begin_lane, begin_of}
use Rattle.machine.specs.Machine.Serve.{ordered, close, ready_of, serve_move, serve_of}
use Rattle.machine.specs.Machine.Return.{return_move, return_of}
use Rattle.machine.specs.Machine.Deliver.{reply, deliver_lane, deliver_of}
use Rattle.machine.specs.Machine.Tape.{open_record, record_of, replay_from, replay_of}
use Rattle.machine.specs.Machine.Calls.{call_of, run}
use Rattle.machine.specs.Table.Table.{Row}
use Rattle.machine_w5.specs.Stores as FormerStores
use Rattle.machine_w5.specs.Corruption as FormerCorruption
use Rattle.machine_w5.specs.Change as FormerChange
use Rattle.machine_w5.specs.Steps as FormerSteps
use Rattle.machine_w5.specs.Settle as FormerSettle
use Rattle.machine_w5.specs.Calls as FormerCalls
use Rattle.machine_w5.specs.Tape as FormerTape
use Rattle.machine_w5.specs.Same.{has_limited_open_from}
use Rattle.machine_w5.specs.Table.{rows}

pub exceptions : map (λ (r : Row). r.given) rows ≡ map (λ (r : Row). r.wanted) rows
unfolding up_to down_to any_to count_to sum_to lowest_to any_of first_from slot_of service_of open_services free_slot with_service with_updated without_service bad_shape blank_lane blank_block fresh_of waiting_in begun_in active_of quiet_of bad_lane bad_flags bad_control corrupt_of commit_lane some_full post_to post_all commit_move complete_with hit evict miss admits_of begin_lane begin_of ordered count_of close ready_of serve_move serve_of return_move return_of reply deliver_lane deliver_of parse_of open_record record_of replay_from replay_of call_of run FormerStores.blank_lane FormerStores.fresh_of FormerStores.quiet_of FormerCorruption.waiting_in FormerCorruption.begun_in FormerCorruption.corrupt_of FormerChange.commit_lane FormerChange.commit_move FormerSteps.begin_of FormerSteps.close FormerSteps.ready_of FormerSteps.serve_move FormerSteps.serve_of FormerSteps.return_move FormerSteps.return_of FormerSteps.deliver_of FormerSettle.settle_step FormerSettle.bound_of FormerSettle.advance FormerSettle.ended FormerSettle.repeat_step FormerSettle.settle_of FormerTape.parse_of FormerTape.open_record FormerTape.record_of FormerTape.replay_from FormerTape.replay_of FormerCalls.call_of FormerCalls.run has_limited_open_from rows
exceptions = refl
