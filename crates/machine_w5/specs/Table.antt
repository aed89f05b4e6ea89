-- W6's exceptions are real: in each of them the machine before W6 and today's say different things. Each comes as two rows, before and today. A lane that
-- both have is given by the places of its queues. Assumes nothing.
use Rattle.std.specs.Prelude.{ℕ, true, false, List, [], ◌∷◌, map, replicate}
use Rattle.words.specs.declared.BlockNo.{BlockNo}
use Rattle.words.specs.Lines.{filled_line}
use Rattle.words.specs.Units.{zeros, shaped, limited}
use Rattle.queues.specs.declared.ReturnKind.TheVariants.{Eject}
use Rattle.queues.specs.declared.DownKind.TheVariants.{Purge}
use Rattle.queues.specs.Queues.{capacity}
use Rattle.queues.specs.Messages.{bare_message}
use Rattle.lanes.specs.declared.Command.TheVariants.{ReadExclusive}
use Rattle.lanes.specs.declared.Lane.{Lane}
use Rattle.lanes.specs.declared.Waiting.TheVariants.{Unserved}
use Rattle.lanes.specs.UseOrder.{LoadsOldest}
use Rattle.lanes.specs.Lanes.{with_returns, with_downs, with_waiting, with_line}
use Rattle.store.specs.declared.Store.{Store}
use Rattle.store.specs.declared.Service.{Service}
use Rattle.store.specs.Control.{with_service}
use Rattle.store.specs.Opening.{line, blank_lane, fresh_of}
use Rattle.store.specs.Stores.{with_lane, with_control}
use Rattle.machine.specs.Machine.Settle.{lane}
use Rattle.machine.specs.Machine.Calls.{Settle, Entry}
use Rattle.machine.specs.Table.Table.{Said, opens, wait, step, refused, Says, Flags, Row, Turn, ◌says◌, word_of, said, reads, on, load, serve, return, deliver, operation}
use Rattle.machine_w5.specs.Control.{Busy}
use Rattle.machine_w5.specs.Stores as Former
use Rattle.machine_w5.specs.Calls as FormerCalls
use Rattle.machine_w5.specs.Tape as FormerTape
use Rattle.machine_w5.specs.Same.{has_limited_open}

-- a row of calls one after the other before W6, and of a tape's answers
abbrev pub on_before : Former.Store → List Turn → Row
on_before t ts = record {
  given = Says (map (λ (e : Entry). said e.reply) (FormerCalls.run LoadsOldest t (map (λ (x : Turn). x.call) ts)).history);
  wanted = Says (map (λ (x : Turn). x.says) ts);
}

abbrev pub reads_before : List ℕ → List Said → Row
reads_before tape answers = record { given = Says (map word_of (FormerTape.replay_of tape)); wanted = Says answers }

-- the block of number a
abbrev pub block : ℕ → BlockNo
block a = record { 0 = a }

-- a lane with so many messages in its return queue, or in its down queue: EJECT, or PURGE, of block 0 in each of its places
abbrev pub returning : ℕ → ℕ → Lane → Lane
returning places len l = with_returns (record { len = len; at = replicate places (bare_message Eject (block 0)) }) l

abbrev pub ordering : ℕ → ℕ → Lane → Lane
ordering places len l = with_downs (record { len = len; at = replicate places (bare_message Purge (block 0)) }) l

-- a lane that has a copy of block 0; one that waits for word 0
abbrev pub holding : Lane → Lane
holding l = with_line (line 0) (filled_line (block 0) zeros) l

abbrev pub waiting : Lane → Lane
waiting l = with_waiting (Unserved (operation 0)) l

-- two lanes of one line, and two blocks; lane 0 is made from the blank one
abbrev pub before : (ℕ → Lane → Lane) → Former.Store
before f = Former.with_lane (Former.fresh_of (shaped 2 1 2)) 0 (f Former.capacity Former.blank_lane)

abbrev pub today : (ℕ → Lane → Lane) → Store
today f = with_lane (fresh_of (shaped 2 1 2)) 0 (f capacity blank_lane)

-- a service of lane 1 for block 1, which awaits an answer
abbrev pub serving : Service
serving = record { lane = lane 1; block = block 1; command = ReadExclusive; awaited = 1; bare = false }

unfoldable pub rows : List Row
rows =
    -- 12: the third message of a return queue, an answer
    on_before (before (λ n l. returning n 2 (ordering n 1 l))) (deliver 0 says refused 12 ∷ Settle says refused 12 ∷ []) ∷
    on (today (λ n l. returning n 2 (ordering n 1 l))) (deliver 0 says step ∷ []) ∷
    -- .. or a line given up
    on_before (before (λ n l. returning n 2 (holding l))) (load 0 4 says refused 12 ∷ []) ∷
    on (today (λ n l. returning n 2 (holding l))) (load 0 4 says wait ∷ []) ∷
    -- .. and of a down queue, a grant
    on_before (before (λ n l. ordering n 2 (waiting l))) (serve 0 says refused 12 ∷ []) ∷
    on (today (λ n l. ordering n 2 (waiting l))) (serve 0 says step ∷ []) ∷
    -- the second message is refused by neither
    on_before (before (λ n l. returning n 1 (ordering n 1 l))) (deliver 0 says step ∷ []) ∷
    on (today (λ n l. returning n 1 (ordering n 1 l))) (deliver 0 says step ∷ []) ∷
    -- a queue length above 2
    on_before (before (λ n l. returning n 3 l)) (return 0 says refused 14 ∷ []) ∷
    on (today (λ n l. returning n 3 l)) (return 0 says step ∷ []) ∷
    -- kind 08, also cut; 09 was and is unknown
    reads_before (8 ∷ 2 ∷ 1 ∷ 1 ∷ 1 ∷ []) (refused 2 ∷ []) ∷
    reads (8 ∷ 2 ∷ 1 ∷ 1 ∷ 1 ∷ []) (opens ∷ []) ∷
    reads_before (8 ∷ []) (refused 2 ∷ []) ∷
    reads (8 ∷ []) (refused 1 ∷ []) ∷
    reads_before (9 ∷ []) (refused 2 ∷ []) ∷
    reads (9 ∷ []) (refused 2 ∷ []) ∷
    -- .. which tapes have a record of it: not one with 08 in a body, nor behind the last record
    record {
      given = Flags (map has_limited_open ((8 ∷ 2 ∷ 1 ∷ 1 ∷ 1 ∷ []) ∷ (8 ∷ []) ∷ (0 ∷ 2 ∷ 1 ∷ 8 ∷ []) ∷ (0 ∷ 2 ∷ 1 ∷ 8 ∷ 8 ∷ []) ∷ (9 ∷ 8 ∷ []) ∷ []));
      wanted = Flags (true ∷ true ∷ false ∷ true ∷ false ∷ []);
    } ∷
    -- L = 1: with another block in service 10, as before; with L = 2 not
    on_before (Former.with_control (before (λ n l. waiting l)) (Busy serving)) (serve 0 says refused 10 ∷ []) ∷
    on (with_control (today (λ n l. waiting l)) (with_service serving (today (λ n l. l)).control)) (serve 0 says refused 10 ∷ []) ∷
    on (with_control (with_lane (fresh_of (limited 2 1 2 2)) 0 (waiting blank_lane)) (with_service serving (today (λ n l. l)).control)) (serve 0 says step ∷ []) ∷
    []
