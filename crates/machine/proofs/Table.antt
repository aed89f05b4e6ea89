-- The table of cases holds, by computation: it rests on the definitions alone and on no other proof. Assumes nothing.
use mathlib.Core.Path.{◌≡◌, refl}
use mathlib.Core.List.{map}
use Rattle.words.specs.Folds.{up_to, down_to, any_to, count_to, sum_to, lowest_to, gather_to, any_of}
use Rattle.tape_records.specs.Records.{parse_of}
use Rattle.lanes.specs.Search.{first_from}
use Rattle.store.specs.Control.{slot_of, service_of, open_services, free_slot, with_service, with_updated, without_service}
use Rattle.store.specs.Opening.{bad_shape, blank_lane, blank_block, fresh_of, open_of}
use Rattle.machine.specs.Machine.Begun.{waiting_in, begun_in}
use Rattle.store.specs.Quiet.{active_of, quiet_of}
use Rattle.machine.specs.Machine.Corruption.{bad_lane, bad_flags, bad_control, corrupt_of}
use Rattle.machine.specs.Machine.Change.{commit_lane, some_full, post_to, post_all, commit_move}
use Rattle.machine.specs.Machine.Begin.{complete_with, hit, evict, miss, admits_of, begin_lane, begin_of}
use Rattle.store.specs.LaneSets.{count_of}
use Rattle.machine.specs.Machine.Serve.{ordered, close, ready_of, serve_move, serve_of}
use Rattle.machine.specs.Machine.LaneBytes.{bits_in, byte_of, orders_byte}
use Rattle.machine.specs.Machine.Return.{return_move, return_of}
use Rattle.machine.specs.Machine.Deliver.{reply, deliver_lane, deliver_of}
use Rattle.machine.specs.Machine.Settle.{settle_step, bound_of, exact_of, advance, ended, repeat_step, settle_of}
use Rattle.machine.specs.Machine.Picture.{record_bytes, picture_bytes, picture_of}
use Rattle.machine.specs.Machine.Tape.{open_record, record_of, replay_from, replay_of}
use Rattle.machine.specs.Machine.Text.{decimal_in, answer_text, line_text, lines_text, end_text, printed, print_of}
use Rattle.machine.specs.Machine.Calls.{call_of, run}
use Rattle.machine.specs.Claims.Attribution.{waits_after, origin_of, attribute, operations_of}
use Rattle.machine.specs.Claims.Flat.{flat_values}
use Rattle.machine.specs.Table.Table.{Row, gone, sent, answering, purging, serving, copied, waits, returning, sending, flagged, flagged_in, counting, awaited_by, unserved_byte, downs_each, all_letters, letters_of, rows, whole_tape, whole_text}

pub cases : map (λ (r : Row). r.given) rows ≡ map (λ (r : Row). r.wanted) rows
unfolding up_to down_to any_to count_to sum_to lowest_to gather_to any_of first_from slot_of service_of open_services free_slot with_service with_updated without_service bad_shape blank_lane blank_block fresh_of open_of waiting_in begun_in active_of quiet_of bad_lane bad_flags bad_control corrupt_of commit_lane some_full post_to post_all commit_move complete_with hit evict miss admits_of begin_lane begin_of ordered count_of close ready_of serve_move serve_of bits_in byte_of orders_byte return_move return_of reply deliver_lane deliver_of settle_step bound_of exact_of advance ended repeat_step settle_of record_bytes picture_bytes picture_of parse_of open_record record_of replay_from replay_of decimal_in answer_text line_text lines_text end_text printed print_of call_of run waits_after origin_of attribute operations_of flat_values gone sent answering purging serving copied waits returning sending flagged flagged_in counting awaited_by unserved_byte downs_each all_letters letters_of rows whole_tape whole_text
cases = refl
