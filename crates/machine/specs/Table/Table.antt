-- 01, "The contracts and the cases": the rows that are shown from the definitions, what each gives and what it must give; then a row or
-- more for each of 01's races, for each store that it shuts out, and for other sentences of it. Assumes nothing.
use Rattle.std.specs.Prelude.{ℕ, ◌+◌, ◌-◌, ◌*◌, Bool, true, false, cond, List, [], ◌∷◌, ◌++◌, map, length, replicate, drop, Result, Ok, Err}
use Rattle.words.specs.declared.LineNo.{LineNo}
use Rattle.words.specs.declared.WordNo.{WordNo}
use Rattle.words.specs.declared.BlockNo.{BlockNo}
use Rattle.words.specs.declared.Op.TheVariants as Op
use Rattle.words.specs.Folds.{gather_to}
use Rattle.words.specs.Operations.{apply_of}
use Rattle.words.specs.Lines.{filled_line}
use Rattle.words.specs.Units.{shaped, limited, block_of}
use Rattle.queues.specs.declared.DownKind.{DownKind}
use Rattle.queues.specs.declared.DownKind.TheVariants.{Update, Purge, Grant, BareGrant}
use Rattle.queues.specs.declared.ReturnKind.TheVariants.{Gone}
use Rattle.queues.specs.Queues.{capacity, after_push}
use Rattle.queues.specs.Messages.{bare_message}
use Rattle.lanes.specs.declared.Command.{Command}
use Rattle.lanes.specs.declared.Command.TheVariants.{ReadShared, ReadExclusive, Exclude}
use Rattle.lanes.specs.declared.Operation.{Operation}
use Rattle.lanes.specs.declared.Waiting.{Waiting}
use Rattle.lanes.specs.declared.Waiting.TheVariants.{Idle, Unserved, Served}
use Rattle.lanes.specs.UseOrder.{Insertion, Newest, LoadsOldest}
use Rattle.lanes.specs.Lanes.{with_waiting, with_returns, with_downs, with_line, with_order}
use Rattle.answers.specs.declared.Answer.{Answer}
use Rattle.answers.specs.declared.Answer.TheVariants.{Opened, Done, Wait, Step}
use Rattle.answers.specs.declared.Refusal.TheVariants.{QueueFull, Corrupt, BufferTooShort}
use Rattle.answers.specs.declared.Completion.{Completion}
use Rattle.answers.specs.Completions.{completion_of}
use Rattle.answers.specs.Refusals.{number_of}
use Rattle.store.specs.declared.Store.{Store}
use Rattle.store.specs.declared.Control.{Control}
use Rattle.store.specs.Control.{slot_count, slot_at, with_service, is_busy, service_in}
use Rattle.store.specs.Opening.{fresh_of, open_of, line}
use Rattle.store.specs.Stores.{lane_at, block_at, with_completions, with_lane, with_control, with_block}
use Rattle.store.specs.Quiet.{quiet_of}
use Rattle.store.specs.Blocks.{with_present, with_modified}
use Rattle.machine.specs.Machine.Change.{posted}
use Rattle.machine.specs.Machine.LaneBytes.{bits_in, orders_byte, lanes_of}
use Rattle.machine.specs.Machine.Settle.{lane, returns_in, downs_of, grants_in, orders_in, services_in, unserved_in, bound_of, exact_of}
use Rattle.machine.specs.Claims.Flags.{line_in}
use Rattle.machine.specs.Claims.NeverFull.{refused_by, queue_most}
use Rattle.machine.specs.Machine.Calls.{Call, Begin, Serve, Return, Deliver, Settle, Reply, Entry, run, history_of}
use Rattle.machine.specs.Claims.Attribution.{Begun}
use Rattle.machine.specs.Claims.Flat.{flat_of, flat_values}
use Rattle.machine.specs.Claims.Demand3.{operations, values_in}
use Rattle.machine.specs.Machine.Fill.{Filling}
use Rattle.machine.specs.Machine.Picture.{picture_of}
use Rattle.machine.specs.Machine.Tape.{replay_of}
use Rattle.machine.specs.Machine.Text.{refused_text, printed, text_most, print_of}
use Rattle.store.specs.LaneSets.{LaneSet, nobody, including}
use Rattle.answers.specs.declared.Refusal.{Refusal}

-- an answer in 01's words: open; done with lane, value and place; wait; step; refused with the number; a settle with its count of steps, the orders that it sent, and its completions
pub data Said : Type 0 where
  opens : Said
  done : ℕ → ℕ → ℕ → Said
  wait : Said
  step : Said
  refused : ℕ → Said
  settled : ℕ → ℕ → List Completion → Said

-- what a row shows: the answer of an opening with n, c and m of its store, the answers of a list of calls or of a tape, bytes, a word, a number, numbers, a flag, flags, a use order, or what a lent buffer is filled with
pub data Shown : Type 0 where
  Opening : Said → ℕ → ℕ → ℕ → Shown
  Says : List Said → Shown
  Bytes : List ℕ → Shown
  Word : ℕ → Shown
  Number : ℕ → Shown
  Numbers : List ℕ → Shown
  Flag : Bool → Shown
  Flags : List Bool → Shown
  Order : List ℕ → Shown
  Fills : Filling → Shown

pub record Row : Type 0 where
  pub given : Shown
  pub wanted : Shown

-- an answer, and the reply of a call
abbrev pub word_of : Result Answer Refusal → Said
word_of (Ok Opened) = opens
word_of (Ok (Done x)) = done x.lane.0 x.value x.place
word_of (Ok Wait) = wait
word_of (Ok Step) = step
word_of (Err r) = refused (number_of r)

abbrev pub said : Reply → Said
said (Reply.Answers a) = word_of a
said (Reply.SettledWith (Ok counts) cs) = settled counts.steps counts.orders cs
said (Reply.SettledWith (Err r) cs) = refused (number_of r)

-- an opening; a refused one has the blank store
abbrev pub opening : ℕ → ℕ → ℕ → Shown
opening n c m = let r = open_of (shaped n c m) in Opening (word_of r.answer) r.store.shape.n r.store.shape.c r.store.shape.m

-- a tape's answers
abbrev pub reads : List ℕ → List Said → Row
reads tape answers = record { given = Says (map word_of (replay_of tape)); wanted = Says answers }

-- the store of an opening
abbrev pub opened : ℕ → ℕ → ℕ → Store
opened n c m = (open_of (shaped n c m)).store

abbrev pub opened_with : ℕ → ℕ → ℕ → ℕ → Store
opened_with n c m limit = (open_of (limited n c m limit)).store

-- the word of number w
abbrev pub word : ℕ → WordNo
word w = record { 0 = w }

-- the calls of lane k: at word w, with v
abbrev pub load : ℕ → ℕ → Call
load k w = Begin (lane k) Op.Load (word w)

abbrev pub store : ℕ → ℕ → ℕ → Call
store k w v = Begin (lane k) (Op.Store v) (word w)

abbrev pub exchange : ℕ → ℕ → ℕ → Call
exchange k w v = Begin (lane k) (Op.Exchange v) (word w)

abbrev pub add : ℕ → ℕ → ℕ → Call
add k w v = Begin (lane k) (Op.Add v) (word w)

abbrev pub serve : ℕ → Call
serve k = Serve (lane k)

abbrev pub return : ℕ → Call
return k = Return (lane k)

abbrev pub deliver : ℕ → Call
deliver k = Deliver (lane k)

-- lane k's completion with value v at place p
abbrev pub of : ℕ → ℕ → ℕ → Completion
of k v p = completion_of (lane k) v p

-- the store after a list of calls under the program's insertion policy
abbrev pub after : Store → List Call → Store
after s cs = (run LoadsOldest s cs).store

-- a call, and what it must say
pub record Turn : Type 0 where
  pub call : Call
  pub says : Said

infix 90 ◌says◌
abbrev pub ◌says◌ : Call → Said → Turn
x says y = record { call = x; says = y }

-- a row of calls one after the other, under an insertion policy
abbrev pub under : Insertion → Store → List Turn → Row
under ins s ts = record {
  given = Says (map (λ (e : Entry). said e.reply) (run ins s (map (λ (t : Turn). t.call) ts)).history);
  wanted = Says (map (λ (t : Turn). t.says) ts);
}

-- .. under the program's
abbrev pub on : Store → List Turn → Row
on s ts = under LoadsOldest s ts

-- "A whole tape", its bytes
unfoldable pub whole_tape : List ℕ
whole_tape =
    0 ∷ 2 ∷ 1 ∷ 2 ∷
    2 ∷ 0 ∷ 5 ∷ 7 ∷ 0 ∷ 0 ∷ 0 ∷
    5 ∷ 0 ∷
    7 ∷ 0 ∷
    1 ∷ 1 ∷ 5 ∷
    5 ∷ 1 ∷
    7 ∷ 0 ∷
    6 ∷ 0 ∷
    7 ∷ 1 ∷
    4 ∷ 1 ∷ 5 ∷ 1 ∷ 0 ∷ 0 ∷ 0 ∷
    1 ∷ 0 ∷ 0 ∷
    5 ∷ 0 ∷
    5 ∷ 1 ∷
    7 ∷ 0 ∷
    6 ∷ 0 ∷
    6 ∷ 0 ∷
    7 ∷ 1 ∷
    5 ∷ 0 ∷
    7 ∷ 0 ∷
    []

-- .. its 19 answers
abbrev pub whole_answers : List Said
whole_answers =
    opens ∷
    wait ∷
    step ∷
    done 0 7 1 ∷
    wait ∷
    step ∷
    step ∷
    step ∷
    done 1 7 2 ∷
    wait ∷
    wait ∷
    refused 11 ∷
    step ∷
    step ∷
    step ∷
    step ∷
    done 1 7 3 ∷
    step ∷
    done 0 0 4 ∷
    []

-- .. and its text, a line to a line
unfoldable pub whole_text : List ℕ
whole_text =
    48 ∷ 32 ∷ 111 ∷ 112 ∷ 101 ∷ 110 ∷ 10 ∷
    49 ∷ 32 ∷ 119 ∷ 97 ∷ 105 ∷ 116 ∷ 10 ∷
    50 ∷ 32 ∷ 115 ∷ 116 ∷ 101 ∷ 112 ∷ 10 ∷
    51 ∷ 32 ∷ 100 ∷ 111 ∷ 110 ∷ 101 ∷ 32 ∷ 48 ∷ 32 ∷ 55 ∷ 32 ∷ 49 ∷ 10 ∷
    52 ∷ 32 ∷ 119 ∷ 97 ∷ 105 ∷ 116 ∷ 10 ∷
    53 ∷ 32 ∷ 115 ∷ 116 ∷ 101 ∷ 112 ∷ 10 ∷
    54 ∷ 32 ∷ 115 ∷ 116 ∷ 101 ∷ 112 ∷ 10 ∷
    55 ∷ 32 ∷ 115 ∷ 116 ∷ 101 ∷ 112 ∷ 10 ∷
    56 ∷ 32 ∷ 100 ∷ 111 ∷ 110 ∷ 101 ∷ 32 ∷ 49 ∷ 32 ∷ 55 ∷ 32 ∷ 50 ∷ 10 ∷
    57 ∷ 32 ∷ 119 ∷ 97 ∷ 105 ∷ 116 ∷ 10 ∷
    49 ∷ 48 ∷ 32 ∷ 119 ∷ 97 ∷ 105 ∷ 116 ∷ 10 ∷
    49 ∷ 49 ∷ 32 ∷ 114 ∷ 101 ∷ 102 ∷ 117 ∷ 115 ∷ 101 ∷ 100 ∷ 32 ∷ 49 ∷ 49 ∷ 10 ∷
    49 ∷ 50 ∷ 32 ∷ 115 ∷ 116 ∷ 101 ∷ 112 ∷ 10 ∷
    49 ∷ 51 ∷ 32 ∷ 115 ∷ 116 ∷ 101 ∷ 112 ∷ 10 ∷
    49 ∷ 52 ∷ 32 ∷ 115 ∷ 116 ∷ 101 ∷ 112 ∷ 10 ∷
    49 ∷ 53 ∷ 32 ∷ 115 ∷ 116 ∷ 101 ∷ 112 ∷ 10 ∷
    49 ∷ 54 ∷ 32 ∷ 100 ∷ 111 ∷ 110 ∷ 101 ∷ 32 ∷ 49 ∷ 32 ∷ 55 ∷ 32 ∷ 51 ∷ 10 ∷
    49 ∷ 55 ∷ 32 ∷ 115 ∷ 116 ∷ 101 ∷ 112 ∷ 10 ∷
    49 ∷ 56 ∷ 32 ∷ 100 ∷ 111 ∷ 110 ∷ 101 ∷ 32 ∷ 48 ∷ 32 ∷ 48 ∷ 32 ∷ 52 ∷ 10 ∷
    101 ∷ 110 ∷ 100 ∷ 32 ∷ 49 ∷ 57 ∷ 10 ∷
    []

-- 01's own rows
abbrev pub cases_of01 : List Row
cases_of01 =
    record { given = opening 2 1 1; wanted = Opening opens 2 1 1 } ∷
    record { given = opening 8 8 64; wanted = Opening opens 8 8 64 } ∷
    on (opened 8 8 64) (load 7 255 says wait ∷ serve 7 says step ∷ deliver 7 says done 7 0 1 ∷ load 7 256 says refused 7 ∷ load 8 0 says refused 6 ∷ []) ∷
    record { given = opening 1 1 1; wanted = Opening (refused 5) 0 0 0 } ∷
    record { given = opening 9 1 1; wanted = Opening (refused 5) 0 0 0 } ∷
    record { given = opening 2 0 1; wanted = Opening (refused 5) 0 0 0 } ∷
    record { given = opening 2 1 65; wanted = Opening (refused 5) 0 0 0 } ∷
    on (opened 2 1 1) (load 0 3 says wait ∷ []) ∷
    on (opened 2 1 1) (load 0 4 says refused 7 ∷ []) ∷
    reads whole_tape whole_answers ∷
    record { given = Bytes (printed whole_tape); wanted = Bytes whole_text } ∷
    -- add of 1 to 4,294,967,295 leaves 0
    record { given = Word (apply_of (Op.Add 1) 4294967295).word; wanted = Word 0 } ∷
    on (opened 2 1 1)
    (store 0 0 4294967295 says wait ∷
    add 1 0 1 says wait ∷
    Settle says settled 6 1 (of 0 4294967295 1 ∷ of 1 4294967295 2 ∷ []) ∷
    load 1 0 says done 1 0 3 ∷
    []) ∷
    record { given = Word (apply_of (Op.Exchange 9) 7).word; wanted = Word 9 } ∷
    record { given = Word (apply_of (Op.Exchange 9) 7).value; wanted = Word 7 } ∷
    -- two lanes storing to one word
    on (opened 2 1 1) (store 0 0 7 says wait ∷ store 1 0 9 says wait ∷ Settle says settled 6 1 (of 0 7 1 ∷ of 1 9 2 ∷ []) ∷ []) ∷
    []

-- the races that lure
abbrev pub races : List Row
races =
    -- serving a lane before its WRITE-EJECT is in
    on (opened 2 1 2)
    (store 0 0 7 says wait ∷
    serve 0 says step ∷
    deliver 0 says done 0 7 1 ∷
    load 0 4 says wait ∷
    serve 0 says refused 11 ∷
    return 0 says step ∷
    serve 0 says step ∷
    deliver 0 says done 0 0 2 ∷
    load 0 0 says wait ∷
    return 0 says step ∷
    serve 0 says step ∷
    deliver 0 says done 0 7 3 ∷
    []) ∷
    -- a bare grant to a lane whose copy was purged while EXCLUDE waited
    on (opened 2 1 1)
    (load 0 0 says wait ∷
    serve 0 says step ∷
    deliver 0 says done 0 0 1 ∷
    load 1 0 says wait ∷
    serve 1 says step ∷
    deliver 1 says done 1 0 2 ∷
    exchange 0 0 7 says wait ∷
    store 1 0 9 says wait ∷
    serve 1 says step ∷
    deliver 0 says step ∷
    return 0 says step ∷
    deliver 1 says done 1 9 3 ∷
    serve 0 says step ∷
    deliver 1 says step ∷
    return 1 says step ∷
    deliver 0 says done 0 9 4 ∷
    []) ∷
    -- granting before the last answer
    on (opened 3 1 1)
    (load 1 0 says wait ∷
    serve 1 says step ∷
    deliver 1 says done 1 0 1 ∷
    load 2 0 says wait ∷
    serve 2 says step ∷
    deliver 2 says done 2 0 2 ∷
    store 0 0 7 says wait ∷
    serve 0 says step ∷
    deliver 1 says step ∷
    return 1 says step ∷
    deliver 0 says refused 9 ∷
    deliver 2 says step ∷
    return 2 says step ∷
    deliver 0 says done 0 7 3 ∷
    []) ∷
    -- dropping an order for a missing block without GONE: PURGE, then UPDATE
    on (opened 2 1 2)
    (load 0 0 says wait ∷
    serve 0 says step ∷
    deliver 0 says done 0 0 1 ∷
    load 0 4 says wait ∷
    store 1 0 7 says wait ∷
    serve 1 says step ∷
    deliver 0 says step ∷
    return 0 says step ∷
    return 0 says step ∷
    deliver 1 says done 1 7 2 ∷
    []) ∷
    on (opened 2 1 2)
    (store 0 0 7 says wait ∷
    serve 0 says step ∷
    deliver 0 says done 0 7 1 ∷
    load 0 4 says wait ∷
    load 1 0 says wait ∷
    serve 1 says step ∷
    deliver 0 says step ∷
    return 0 says step ∷
    return 0 says step ∷
    deliver 1 says done 1 7 2 ∷
    []) ∷
    -- completing an operation when its grant is queued rather than delivered
    on (opened 2 1 1) (store 0 0 7 says wait ∷ serve 0 says step ∷ load 0 0 says refused 8 ∷ deliver 0 says done 0 7 1 ∷ load 0 0 says done 0 7 2 ∷ []) ∷
    []

-- the stores that are shut out
abbrev pub shut_out : List Row
shut_out =
    -- operations that always wait; all calls refused
    on (opened 2 1 1) (load 0 0 says wait ∷ serve 0 says step ∷ deliver 0 says done 0 0 1 ∷ load 0 1 says done 0 0 2 ∷ []) ∷
    -- words that stay 0
    on (opened 2 1 1) (store 0 0 7 says wait ∷ serve 0 says step ∷ deliver 0 says done 0 7 1 ∷ load 0 0 says done 0 7 2 ∷ []) ∷
    -- the first operation honoured, and then only done reported
    on (opened 2 1 1)
    (store 0 0 7 says wait ∷
    serve 0 says step ∷
    deliver 0 says done 0 7 1 ∷
    store 0 0 9 says done 0 9 2 ∷
    load 0 0 says done 0 9 3 ∷
    exchange 0 0 3 says done 0 9 4 ∷
    add 0 0 2 says done 0 3 5 ∷
    load 0 0 says done 0 5 6 ∷
    []) ∷
    -- steps that move no message
    on (opened 2 1 2)
    (store 0 0 7 says wait ∷
    return 0 says refused 9 ∷
    deliver 0 says refused 9 ∷
    serve 0 says step ∷
    serve 0 says refused 9 ∷
    deliver 0 says done 0 7 1 ∷
    deliver 0 says refused 9 ∷
    load 0 4 says wait ∷
    return 0 says step ∷
    return 0 says refused 9 ∷
    []) ∷
    -- an invented settle count
    on (opened 2 1 1) (Settle says settled 0 0 [] ∷ load 1 0 says wait ∷ Settle says settled 2 0 (of 1 0 1 ∷ []) ∷ Settle says settled 0 0 [] ∷ []) ∷
    -- quiet with a lane waiting
    record { given = Flag (quiet_of (opened 2 1 1)); wanted = Flag true } ∷
    record { given = Flag (quiet_of (after (opened 2 1 1) (load 0 0 ∷ []))); wanted = Flag false } ∷
    record { given = Flag (quiet_of (after (opened 2 1 1) (load 0 0 ∷ serve 0 ∷ []))); wanted = Flag false } ∷
    record { given = Flag (quiet_of (after (opened 2 1 1) (load 0 0 ∷ serve 0 ∷ deliver 0 ∷ []))); wanted = Flag true } ∷
    []

-- sentences of Begin, Serve, Return, Deliver and Settle
abbrev pub sentences : List Row
sentences =
    -- READ shared sends UPDATE if MODIFIED is set, else nothing
    on (opened 2 1 1)
    (load 0 0 says wait ∷
    serve 0 says step ∷
    deliver 0 says done 0 0 1 ∷
    load 1 0 says wait ∷
    serve 1 says step ∷
    deliver 0 says refused 9 ∷
    deliver 1 says done 1 0 2 ∷
    []) ∷
    -- UPDATE: UPDATED with the words, PRIVATE reset; a hit with PRIVATE reset waits
    on (opened 2 1 1)
    (store 0 0 7 says wait ∷
    serve 0 says step ∷
    deliver 0 says done 0 7 1 ∷
    load 1 0 says wait ∷
    serve 1 says step ∷
    deliver 0 says step ∷
    return 0 says step ∷
    deliver 1 says done 1 7 2 ∷
    load 0 0 says done 0 7 3 ∷
    store 0 0 9 says wait ∷
    []) ∷
    -- PURGED has words only if PRIVATE was set; each other PRESENT is reset
    on (opened 2 1 1)
    (store 0 0 7 says wait ∷
    serve 0 says step ∷
    deliver 0 says done 0 7 1 ∷
    exchange 1 0 9 says wait ∷
    serve 1 says step ∷
    deliver 0 says step ∷
    return 0 says step ∷
    deliver 1 says done 1 7 2 ∷
    load 0 0 says wait ∷
    []) ∷
    -- EJECT resets PRESENT
    on (opened 2 1 2)
    (load 0 0 says wait ∷
    serve 0 says step ∷
    deliver 0 says done 0 0 1 ∷
    load 0 4 says wait ∷
    return 0 says step ∷
    store 1 0 7 says wait ∷
    serve 1 says step ∷
    deliver 1 says done 1 7 2 ∷
    []) ∷
    -- the oldest line is given up: block 1, since the load of block 0 is a use
    on (opened 2 2 3)
    (store 0 0 1 says wait ∷
    Settle says settled 2 0 (of 0 1 1 ∷ []) ∷
    store 0 4 2 says wait ∷
    Settle says settled 2 0 (of 0 2 2 ∷ []) ∷
    load 0 0 says done 0 1 3 ∷
    load 0 8 says wait ∷
    Settle says settled 3 0 (of 0 0 4 ∷ []) ∷
    load 0 0 says done 0 1 5 ∷
    load 0 4 says wait ∷
    []) ∷
    -- a store's fill is a use too: the line of block 2 was filled last, so block 0 is given up
    on (opened 2 2 3)
    (store 0 0 1 says wait ∷
    Settle says settled 2 0 (of 0 1 1 ∷ []) ∷
    store 0 4 2 says wait ∷
    Settle says settled 2 0 (of 0 2 2 ∷ []) ∷
    load 0 0 says done 0 1 3 ∷
    store 0 8 3 says wait ∷
    Settle says settled 3 0 (of 0 3 4 ∷ []) ∷
    store 0 4 4 says wait ∷
    Settle says settled 3 0 (of 0 4 5 ∷ []) ∷
    load 0 8 says done 0 3 6 ∷
    load 0 0 says wait ∷
    []) ∷
    -- the lowest-numbered line that is not valid is filled
    record { given = Flag (line_in (after (opened 2 2 1) (load 0 0 ∷ Settle ∷ [])) 0 0).valid; wanted = Flag true } ∷
    record { given = Flag (line_in (after (opened 2 2 1) (load 0 0 ∷ Settle ∷ [])) 0 1).valid; wanted = Flag false } ∷
    -- 10 before 11
    on (opened 2 1 2)
    (store 0 0 7 says wait ∷
    serve 0 says step ∷
    deliver 0 says done 0 7 1 ∷
    load 0 4 says wait ∷
    load 1 0 says wait ∷
    serve 1 says step ∷
    serve 0 says refused 10 ∷
    []) ∷
    -- settle serves the lowest unserved, and not before it has delivered what is queued
    on (opened 3 1 1)
    (load 2 0 says wait ∷
    load 1 0 says wait ∷
    store 0 0 7 says wait ∷
    Settle says settled 8 1 (of 0 7 1 ∷ of 1 7 2 ∷ of 2 7 3 ∷ []) ∷
    []) ∷
    -- after refusal 1 or 2 no more records are read
    reads (0 ∷ 2 ∷ 1 ∷ 1 ∷ 2 ∷ 0 ∷ []) (opens ∷ refused 1 ∷ []) ∷
    reads (9 ∷ 0 ∷ 2 ∷ 1 ∷ 1 ∷ []) (refused 2 ∷ []) ∷
    -- 2 before 1, 1 before 3, 3, 5 and then an opening, 4 before 5
    reads (255 ∷ []) (refused 2 ∷ []) ∷
    reads (5 ∷ []) (refused 1 ∷ []) ∷
    reads (5 ∷ 0 ∷ 0 ∷ 1 ∷ 1 ∷ 1 ∷ 0 ∷ 2 ∷ 1 ∷ 1 ∷ 0 ∷ 9 ∷ 9 ∷ 9 ∷ []) (refused 3 ∷ refused 5 ∷ opens ∷ refused 4 ∷ []) ∷
    -- v in four bytes, low byte first; every kind
    reads
    (0 ∷ 2 ∷ 1 ∷ 1 ∷
    2 ∷ 0 ∷ 0 ∷ 255 ∷ 255 ∷ 255 ∷ 255 ∷
    5 ∷ 0 ∷
    7 ∷ 0 ∷
    3 ∷ 0 ∷ 0 ∷ 1 ∷ 2 ∷ 3 ∷ 4 ∷
    4 ∷ 0 ∷ 0 ∷ 255 ∷ 0 ∷ 0 ∷ 1 ∷
    1 ∷ 0 ∷ 0 ∷
    6 ∷ 0 ∷
    [])
    (opens ∷ wait ∷ step ∷ done 0 4294967295 1 ∷ done 0 4294967295 2 ∷ done 0 67305985 3 ∷ done 0 84083456 4 ∷ refused 9 ∷ []) ∷
    -- a number of ten digits, the empty tape, 65,536 bytes and one more
    record {
      given = Bytes (printed (0 ∷ 2 ∷ 1 ∷ 1 ∷ 2 ∷ 0 ∷ 0 ∷ 255 ∷ 255 ∷ 255 ∷ 255 ∷ 5 ∷ 0 ∷ 7 ∷ 0 ∷ []));
      wanted = Bytes (48 ∷ 32 ∷ 111 ∷ 112 ∷ 101 ∷ 110 ∷ 10 ∷ 49 ∷ 32 ∷ 119 ∷ 97 ∷ 105 ∷ 116 ∷ 10 ∷ 50 ∷ 32 ∷ 115 ∷ 116 ∷ 101 ∷ 112 ∷ 10 ∷ 51 ∷ 32 ∷ 100 ∷ 111 ∷ 110 ∷ 101 ∷ 32 ∷ 48 ∷ 32 ∷ 52 ∷ 50 ∷ 57 ∷ 52 ∷ 57 ∷ 54 ∷ 55 ∷ 50 ∷ 57 ∷ 53 ∷ 32 ∷ 49 ∷ 10 ∷ 101 ∷ 110 ∷ 100 ∷ 32 ∷ 52 ∷ 10 ∷ []);
    } ∷
    record { given = Bytes (printed []); wanted = Bytes (101 ∷ 110 ∷ 100 ∷ 32 ∷ 48 ∷ 10 ∷ []) } ∷
    record { given = Bytes (printed (9 ∷ replicate 65535 0)); wanted = Bytes (48 ∷ 32 ∷ 114 ∷ 101 ∷ 102 ∷ 117 ∷ 115 ∷ 101 ∷ 100 ∷ 32 ∷ 50 ∷ 10 ∷ 101 ∷ 110 ∷ 100 ∷ 32 ∷ 49 ∷ 10 ∷ []) } ∷
    record { given = Bytes (printed (9 ∷ replicate 65536 0)); wanted = Bytes (114 ∷ 101 ∷ 102 ∷ 117 ∷ 115 ∷ 101 ∷ 100 ∷ 32 ∷ 49 ∷ 51 ∷ 10 ∷ []) } ∷
    -- room for 25 bytes of text for each byte of a tape; a buffer without it is as it was
    record { given = Number text_most; wanted = Number 1638400 } ∷
    record { given = Fills (print_of [] (replicate 6 255)); wanted = Fills (record { answer = Err BufferTooShort; buffer = replicate 6 255 }) } ∷
    []

-- stores that no opening gives: lane k with a GONE of block a more in its return queue, with a message more in its down queue, with
-- block a in its line i, whose first word is w, or in its line 0; a service for lane k
abbrev pub block : ℕ → BlockNo
block a = record { 0 = a }

unfoldable pub gone : ℕ → ℕ → Store → Store
gone k a s = with_lane s k (with_returns (after_push capacity (lane_at s k).returns (bare_message Gone (block a))) (lane_at s k))

unfoldable pub sent : DownKind → ℕ → ℕ → Store → Store
sent x k a s = with_lane s k (posted capacity (bare_message x (block a)) (lane_at s k))

-- .. with a return queue of len GONEs of block a, with a down queue of len PURGEs of it
unfoldable pub answering : ℕ → ℕ → ℕ → Store → Store
answering len k a s = with_lane s k (with_returns (record { len = len; at = replicate 8 (bare_message Gone (block a)) }) (lane_at s k))

unfoldable pub purging : ℕ → ℕ → ℕ → Store → Store
purging len k a s = with_lane s k (with_downs (record { len = len; at = replicate 8 (bare_message Purge (block a)) }) (lane_at s k))

unfoldable pub serving : ℕ → ℕ → ℕ → Store → Store
serving k a awaited s =
    with_control s (with_service (record { lane = lane k; block = block a; command = ReadExclusive; awaited = awaited; bare = false }) s.control)

unfoldable pub copied : ℕ → ℕ → ℕ → ℕ → Store → Store
copied k i a w s = with_lane s k (with_line (line i) (filled_line (block a) (w ∷ 0 ∷ 0 ∷ 0 ∷ [])) (lane_at s k))

abbrev pub filled : ℕ → ℕ → Store → Store
filled k a s = copied k 0 a 0 s

-- an operation on word w; lane k with something that waits; lane 0 with as many messages in a queue as the number says, with these lines first in its
-- use order; block 0 with PRESENT for lane k
abbrev pub operation : ℕ → Operation
operation w = record { command = ReadShared; op = Op.Load; word = record { 0 = w } }

unfoldable pub waits : ℕ → Waiting → Store → Store
waits k x s = with_lane s k (with_waiting x (lane_at s k))

unfoldable pub returning : ℕ → Store → Store
returning len s = with_lane s 0 (with_returns (record { len = len; at = (lane_at s 0).returns.at }) (lane_at s 0))

unfoldable pub sending : ℕ → Store → Store
sending len s = with_lane s 0 (with_downs (record { len = len; at = (lane_at s 0).downs.at }) (lane_at s 0))

abbrev pub ordered : List ℕ → Store → Store
ordered is s =
    let l = lane_at s 0 in
    with_lane s 0 (with_order (map line is ++ drop (length is) l.order) l)

unfoldable pub flagged : ℕ → Store → Store
flagged k s = let b = block_at s 0 in with_block s 0 (with_present (including (lane k) b.present) b)

-- settle's bound R + G + 2 × Q + S + 2 × n × U of a store, and the exact count R + G + 2 × Q + S + 2 × U + 2 × O with 1 for O, whatever settle would send there
abbrev pub bounded : Store → ℕ → ℕ → Row
bounded s bound exact = record { given = Numbers (bound_of s ∷ exact_of s 1 ∷ []); wanted = Numbers (bound ∷ exact ∷ []) }

-- a load of lane k, unserved
abbrev pub unserved : ℕ → Store → Store
unserved k s = waits k (Unserved (operation 0)) s

abbrev pub bounds : List Row
bounds =
    bounded (opened 2 1 1) 0 2 ∷
    -- U is 1, then 2 of three lanes; a served operation is not in it
    bounded (unserved 0 (opened 2 1 1)) 4 4 ∷
    bounded (unserved 2 (unserved 0 (opened 3 1 1))) 12 6 ∷
    bounded (waits 0 (Served (operation 0)) (opened 2 1 1)) 0 2 ∷
    -- G is 1, then 2: a bare grant is one
    bounded (sent Grant 0 0 (opened 2 1 1)) 1 3 ∷
    bounded (sent BareGrant 1 0 (sent Grant 0 0 (opened 2 1 1))) 2 4 ∷
    -- S and Q are 1; then S and R
    bounded (serving 1 0 1 (sent Purge 0 0 (opened 2 1 1))) 3 5 ∷
    bounded (serving 1 0 1 (gone 0 0 (opened 2 1 1))) 2 4 ∷
    -- S is 2
    bounded (serving 0 1 1 (serving 1 0 1 (opened_with 2 1 2 2))) 2 4 ∷
    -- R and U are 1
    bounded (unserved 0 (gone 0 0 (opened 2 1 1))) 5 5 ∷
    -- all of them are 1, of four lanes
    bounded (unserved 0 (serving 3 2 1 (sent Purge 2 2 (sent Grant 1 3 (gone 0 0 (opened 4 1 4)))))) 13 9 ∷
    -- .. and after calls: a service and its UPDATE, then the UPDATED; an EJECT and the operation that it made room for
    bounded (after (opened 2 1 1) (store 0 0 7 ∷ serve 0 ∷ deliver 0 ∷ load 1 0 ∷ serve 1 ∷ [])) 3 5 ∷
    bounded (after (opened 2 1 1) (store 0 0 7 ∷ serve 0 ∷ deliver 0 ∷ load 1 0 ∷ serve 1 ∷ deliver 0 ∷ [])) 2 4 ∷
    bounded (after (opened 2 1 2) (load 0 0 ∷ serve 0 ∷ deliver 0 ∷ load 0 4 ∷ [])) 5 5 ∷
    []

-- a row of 14: serve finds the store corrupt, or finds nothing to serve
abbrev pub corrupt : Store → Row
corrupt s = on s (serve 1 says refused 14 ∷ [])

abbrev pub sound : Store → Row
sound s = on s (serve 1 says refused 9 ∷ [])

-- lane 1 has stored 258 in word 2: a picture of one record, into a buffer of so many bytes that are all 255
abbrev pub pictured : Store → ℕ → Shown
pictured s size = Fills (picture_of s (replicate size 255))

abbrev pub stored : Store
stored = after (opened 2 1 1) (store 1 2 258 ∷ serve 1 ∷ deliver 1 ∷ [])

-- a store with block 0 in both lanes and in two lines of lane 0, of which the second was used before the first; with lines that are not valid, and valid ones past line c and lane n
abbrev pub sharing : Store
sharing = copied 0 0 0 5 (copied 0 1 0 6 (copied 1 0 0 7 (copied 0 2 1 8 (copied 0 3 0 9 (copied 2 0 0 10 (ordered (1 ∷ 0 ∷ []) (opened 2 3 2)))))))

-- a record: lane, block and the first word, which has one byte
abbrev pub recorded : ℕ → ℕ → ℕ → List ℕ
recorded k a w = 16 ∷ k ∷ a ∷ w ∷ replicate 15 0

-- the picture: its length, its bytes and those after it; 15 and 14, with the buffer as it was; its records by block, then by lane, then by line
abbrev pub pictures : List Row
pictures =
    record {
      given = pictured stored 20;
      wanted = Fills (record {
        answer = Ok 19;
        buffer = 16 ∷ 1 ∷ 0 ∷ 0 ∷ 0 ∷ 0 ∷ 0 ∷ 0 ∷ 0 ∷ 0 ∷ 0 ∷ 2 ∷ 1 ∷ 0 ∷ 0 ∷ 0 ∷ 0 ∷ 0 ∷ 0 ∷ 255 ∷ [];
      });
    } ∷
    record { given = pictured stored 18; wanted = Fills (record { answer = Err BufferTooShort; buffer = replicate 18 255 }) } ∷
    record { given = pictured (fresh_of (shaped 9 1 1)) 20; wanted = Fills (record { answer = Err Corrupt; buffer = replicate 20 255 }) } ∷
    record {
      given = pictured sharing 77;
      wanted = Fills (record { answer = Ok 76; buffer = recorded 0 0 5 ++ recorded 0 0 6 ++ recorded 1 0 7 ++ recorded 0 1 8 ++ (255 ∷ []) });
    } ∷
    []

-- each condition of 14, and the store just within it
abbrev pub corrupt_stores : List Row
corrupt_stores =
    corrupt (fresh_of (shaped 1 1 1)) ∷
    corrupt (fresh_of (shaped 9 1 1)) ∷
    corrupt (fresh_of (shaped 2 0 1)) ∷
    corrupt (fresh_of (shaped 2 9 1)) ∷
    corrupt (fresh_of (shaped 2 1 0)) ∷
    corrupt (fresh_of (shaped 2 1 65)) ∷
    sound (fresh_of (shaped 8 8 64)) ∷
    -- a valid line
    corrupt (filled 0 2 (opened 2 1 2)) ∷
    sound (filled 0 1 (opened 2 1 2)) ∷
    -- a queued message, at the first place, the second and the last of either queue
    corrupt (gone 0 2 (opened 2 1 2)) ∷
    corrupt (gone 0 2 (gone 0 1 (opened 2 1 2))) ∷
    corrupt (answering 8 0 2 (opened 2 1 2)) ∷
    sound (answering 8 0 1 (opened 2 1 2)) ∷
    corrupt (sent Purge 0 2 (opened 2 1 2)) ∷
    corrupt (sent Purge 0 2 (sent Purge 0 1 (opened 2 1 2))) ∷
    corrupt (purging 8 0 2 (opened 2 1 2)) ∷
    sound (purging 8 0 1 (opened 2 1 2)) ∷
    -- a queue length
    corrupt (returning 9 (opened 2 1 2)) ∷
    corrupt (sending 9 (opened 2 1 2)) ∷
    -- a waiting operation
    corrupt (waits 0 (Unserved (operation 8)) (opened 2 1 2)) ∷
    corrupt (waits 0 (Served (operation 8)) (opened 2 1 2)) ∷
    sound (waits 0 (Served (operation 7)) (opened 2 1 2)) ∷
    -- a service: its lane, its block, the count of answers awaited
    corrupt (serving 2 0 1 (opened 2 1 2)) ∷
    corrupt (serving 0 2 1 (opened 2 1 2)) ∷
    corrupt (serving 0 0 2 (opened 2 1 2)) ∷
    sound (serving 1 1 1 (opened 2 1 2)) ∷
    -- L; services exceed it; two have one block; a service in a later slot; two of one lane are no reason
    corrupt (fresh_of (limited 2 1 2 0)) ∷
    corrupt (fresh_of (limited 2 1 2 9)) ∷
    sound (fresh_of (limited 2 1 2 8)) ∷
    corrupt (serving 0 1 1 (serving 1 0 1 (opened_with 2 1 2 1))) ∷
    sound (serving 0 1 1 (serving 1 0 1 (opened_with 2 1 2 2))) ∷
    corrupt (serving 0 1 1 (serving 1 0 1 (serving 0 1 1 (opened_with 2 1 2 8)))) ∷
    corrupt (serving 2 1 1 (serving 1 0 1 (opened_with 2 1 2 2))) ∷
    sound (serving 1 1 1 (serving 1 0 1 (opened_with 2 1 2 2))) ∷
    -- PRESENT for lane n
    corrupt (flagged 2 (opened 2 1 2)) ∷
    sound (flagged 1 (opened 2 1 2)) ∷
    -- a use order that names a line twice, and one that names none of the c lines
    corrupt (ordered (0 ∷ 0 ∷ []) (opened 2 2 2)) ∷
    corrupt (ordered (2 ∷ 0 ∷ []) (opened 2 2 2)) ∷
    sound (ordered (1 ∷ 0 ∷ []) (opened 2 2 2)) ∷
    []

-- refusals of such stores
abbrev pub held_stores : List Row
held_stores =
    -- 14 before 6
    on (fresh_of (shaped 9 1 1)) (load 9 0 says refused 14 ∷ serve 9 says refused 14 ∷ return 9 says refused 14 ∷ deliver 9 says refused 14 ∷ Settle says refused 14 ∷ []) ∷
    -- 16: an answer with no service, for a block not in service, with 0 awaited
    on (gone 0 0 (opened 2 1 2)) (return 0 says refused 16 ∷ Settle says refused 16 ∷ []) ∷
    on (serving 1 1 1 (gone 0 0 (opened 2 1 2))) (return 0 says refused 16 ∷ []) ∷
    on (serving 1 0 0 (gone 0 0 (opened 2 1 2))) (return 0 says refused 16 ∷ []) ∷
    -- .. before 12
    on (serving 1 0 0 (gone 0 0 (purging 8 1 0 (opened 2 1 2)))) (return 0 says refused 16 ∷ []) ∷
    -- 16: a grant whose lane has no operation, has an unserved one, has a served one on another block
    on (sent Grant 0 0 (opened 2 1 2)) (deliver 0 says refused 16 ∷ []) ∷
    on (sent Grant 0 0 (opened 2 1 2)) (load 0 0 says wait ∷ deliver 0 says refused 16 ∷ []) ∷
    on (sent Grant 0 0 (opened 2 1 2)) (load 0 4 says wait ∷ serve 0 says step ∷ deliver 0 says refused 16 ∷ []) ∷
    -- 16: a bare grant on a block not held
    on (sent BareGrant 0 0 (opened 2 1 2)) (load 0 0 says wait ∷ serve 0 says step ∷ deliver 0 says refused 16 ∷ []) ∷
    -- 16: a grant with words on a held block, or with no free line
    on (sent Grant 0 0 (filled 0 0 (opened 2 1 2))) (store 0 0 7 says wait ∷ serve 0 says step ∷ deliver 0 says refused 16 ∷ []) ∷
    on (filled 0 1 (after (opened 2 1 2) (load 0 0 ∷ serve 0 ∷ []))) (deliver 0 says refused 16 ∷ []) ∷
    -- 16: settle not yet quiet with queues empty and no operation unserved
    on (serving 0 0 1 (opened 2 1 2)) (Settle says refused 16 ∷ []) ∷
    -- 12, and what is refused changes nothing: the line is still there, the operation still waits; settle delivers before it returns
    on (answering 8 0 0 (filled 0 0 (opened 2 1 2))) (load 0 4 says refused 12 ∷ load 0 0 says done 0 0 1 ∷ []) ∷
    on (sent Purge 0 0 (answering 8 0 0 (filled 0 0 (opened 2 1 2)))) (deliver 0 says refused 12 ∷ Settle says refused 12 ∷ load 0 0 says done 0 0 1 ∷ []) ∷
    on (purging 8 0 0 (opened 2 1 2)) (load 0 0 says wait ∷ serve 0 says refused 12 ∷ load 0 0 says refused 8 ∷ []) ∷
    -- .. and not with a place left
    on (answering 7 0 0 (filled 0 0 (opened 2 1 2))) (load 0 4 says wait ∷ []) ∷
    on (sent Purge 0 0 (answering 7 0 0 (filled 0 0 (opened 2 1 2)))) (deliver 0 says step ∷ []) ∷
    on (purging 7 0 0 (opened 2 1 2)) (load 0 0 says wait ∷ serve 0 says step ∷ []) ∷
    []

-- a store that has completed so many operations
unfoldable pub counting : ℕ → Store → Store
counting number s = with_completions s number

-- 02, W1: places at their end, 4,294,967,295. Below, the sum is completions so far plus operations waiting
abbrev pub places : List Row
places =
    -- a sum of 4,294,967,294: a hit has the last place, and then 17 is given, also for one that would hit
    on (counting 4294967294 (filled 0 0 (opened 2 1 1))) (load 0 0 says done 0 0 4294967295 ∷ load 0 0 says refused 17 ∷ []) ∷
    -- .. and so while an operation waits, unserved or served, that will have the last place; 6, 7 and 8 before 17
    on (counting 4294967294 (opened 2 1 1))
    (load 0 0 says wait ∷
    load 1 0 says refused 17 ∷
    load 0 0 says refused 8 ∷
    load 1 4 says refused 7 ∷
    load 2 0 says refused 6 ∷
    serve 0 says step ∷
    load 1 0 says refused 17 ∷
    deliver 0 says done 0 0 4294967295 ∷
    load 1 0 says refused 17 ∷
    []) ∷
    -- a sum of 4,294,967,295: 17 before 12; other calls are not refused by it
    on (counting 4294967295 (answering 8 0 0 (filled 0 0 (opened 2 1 2)))) (load 0 4 says refused 17 ∷ serve 0 says refused 9 ∷ []) ∷
    on (counting 4294967295 (opened 2 1 1)) (Settle says settled 0 0 [] ∷ store 0 0 7 says refused 17 ∷ exchange 1 0 7 says refused 17 ∷ add 1 0 7 says refused 17 ∷ []) ∷
    -- a larger sum is 14, also where the operation that waits is served
    on (counting 4294967295 (unserved 0 (opened 2 1 1)))
    (load 1 0 says refused 14 ∷ serve 0 says refused 14 ∷ return 0 says refused 14 ∷ deliver 0 says refused 14 ∷ Settle says refused 14 ∷ []) ∷
    corrupt (counting 4294967295 (waits 0 (Served (operation 0)) (opened 2 1 1))) ∷
    sound (counting 4294967294 (waits 0 (Served (operation 0)) (opened 2 1 1))) ∷
    record {
      given = pictured (counting 4294967295 (unserved 0 (opened 2 1 1))) 20;
      wanted = Fills (record { answer = Err Corrupt; buffer = replicate 20 255 });
    } ∷
    -- lanes n and above do not count: lane 2 of two has an operation
    sound (counting 4294967295 (unserved 2 (opened 2 1 1))) ∷
    on (counting 4294967294 (unserved 2 (opened 2 1 1))) (load 0 0 says wait ∷ load 1 0 says refused 17 ∷ []) ∷
    -- settle's completions have the next places in the order listed; a refused settle that had completed one leaves the count
    on (counting 4294967293 (opened 2 1 1)) (store 0 0 7 says wait ∷ store 1 0 9 says wait ∷ Settle says settled 6 1 (of 0 7 4294967294 ∷ of 1 9 4294967295 ∷ []) ∷ []) ∷
    on (gone 1 0 (opened 2 1 2)) (load 0 0 says wait ∷ serve 0 says step ∷ Settle says refused 16 ∷ deliver 0 says done 0 0 1 ∷ []) ∷
    []

-- lane 0's use order after a list of calls, under an insertion policy: these lines first, and the places behind them as at opening
abbrev pub in_order : Insertion → Store → List Call → List ℕ → Row
in_order ins s cs is = record {
  given = Order (map (λ (i : LineNo). i.0) (lane_at (run ins s cs).store 0).order);
  wanted = Order (is ++ drop (length is) (0 ∷ 1 ∷ 2 ∷ 3 ∷ 4 ∷ 5 ∷ 6 ∷ 7 ∷ []));
}

-- an operation of lane 0 that misses, and its grant
abbrev pub filling : Call → List Call
filling x = x ∷ serve 0 ∷ deliver 0 ∷ []

-- a lane of three lines works on blocks 0 and 1 and counts the stock of blocks 2, 3 and 4; then it loads blocks 0 and 1 again
abbrev pub stock_count : Said → Said → List Turn
stock_count first second =
    load 0 0 says wait ∷
    Settle says settled 2 0 (of 0 0 1 ∷ []) ∷
    load 0 4 says wait ∷
    Settle says settled 2 0 (of 0 0 2 ∷ []) ∷
    load 0 0 says done 0 0 3 ∷
    load 0 4 says done 0 0 4 ∷
    load 0 8 says wait ∷
    Settle says settled 2 0 (of 0 0 5 ∷ []) ∷
    load 0 12 says wait ∷
    Settle says settled 3 0 (of 0 0 6 ∷ []) ∷
    load 0 16 says wait ∷
    Settle says settled 3 0 (of 0 0 7 ∷ []) ∷
    load 0 0 says first ∷
    load 0 4 says second ∷
    []

-- a bench whose lane 0 has line 0 in the middle of its use order
abbrev pub mixed : Store
mixed = ordered (2 ∷ 0 ∷ 1 ∷ []) (opened 2 3 1)

-- 02, W3: a line filled for a load goes in as the oldest, and that completion is no use; under 01's rule it went in as the newest
abbrev pub insertions : List Row
insertions =
    -- the stock count gives up what it filled, and blocks 0 and 1 are still there
    under LoadsOldest (opened 2 3 5) (stock_count (done 0 0 8) (done 0 0 9)) ∷
    under Newest (opened 2 3 5) (stock_count wait (refused 8)) ∷
    -- the same of a tape, two lines and one block counted
    reads
    (0 ∷ 2 ∷ 2 ∷ 3 ∷ 1 ∷ 0 ∷ 0 ∷ 5 ∷ 0 ∷ 7 ∷ 0 ∷ 1 ∷ 0 ∷ 0 ∷ 1 ∷ 0 ∷ 4 ∷ 5 ∷ 0 ∷ 7 ∷ 0 ∷ 1 ∷ 0 ∷ 8 ∷ 6 ∷ 0 ∷ 5 ∷ 0 ∷ 7 ∷ 0 ∷ 1 ∷ 0 ∷ 0 ∷ [])
    (opens ∷ wait ∷ step ∷ done 0 0 1 ∷ done 0 0 2 ∷ wait ∷ step ∷ done 0 0 3 ∷ wait ∷ step ∷ step ∷ done 0 0 4 ∷ done 0 0 5 ∷ []) ∷
    -- line 0 is filled: for a load it goes before all others, be they valid or not, and those before it move up by one
    in_order LoadsOldest (copied 0 1 1 0 (copied 0 2 2 0 (ordered (1 ∷ 2 ∷ 0 ∷ []) (opened 2 3 3)))) (filling (load 0 0)) (0 ∷ 1 ∷ 2 ∷ []) ∷
    in_order LoadsOldest mixed (filling (load 0 0)) (0 ∷ 2 ∷ 1 ∷ []) ∷
    in_order LoadsOldest (ordered (0 ∷ 2 ∷ 1 ∷ []) (opened 2 3 1)) (filling (load 0 0)) (0 ∷ 2 ∷ 1 ∷ []) ∷
    in_order LoadsOldest (ordered (1 ∷ 2 ∷ 3 ∷ 4 ∷ 5 ∷ 6 ∷ 7 ∷ 0 ∷ []) (opened 2 8 1)) (filling (load 0 0)) (0 ∷ 1 ∷ 2 ∷ 3 ∷ 4 ∷ 5 ∷ 6 ∷ 7 ∷ []) ∷
    in_order LoadsOldest (opened 2 1 1) (filling (load 0 0)) (0 ∷ []) ∷
    in_order Newest mixed (filling (load 0 0)) (2 ∷ 1 ∷ 0 ∷ []) ∷
    -- for the other operations it is a use, under either rule
    in_order LoadsOldest mixed (filling (store 0 0 7)) (2 ∷ 1 ∷ 0 ∷ []) ∷
    in_order LoadsOldest mixed (filling (exchange 0 0 7)) (2 ∷ 1 ∷ 0 ∷ []) ∷
    in_order LoadsOldest mixed (filling (add 0 0 7)) (2 ∷ 1 ∷ 0 ∷ []) ∷
    in_order Newest mixed (filling (store 0 0 7)) (2 ∷ 1 ∷ 0 ∷ []) ∷
    in_order Newest mixed (filling (exchange 0 0 7)) (2 ∷ 1 ∷ 0 ∷ []) ∷
    in_order Newest mixed (filling (add 0 0 7)) (2 ∷ 1 ∷ 0 ∷ []) ∷
    -- the next completion on the line makes it the newest: a hit, of a load and of the others, and a bare grant
    in_order LoadsOldest mixed (filling (load 0 0) ++ (load 0 0 ∷ [])) (2 ∷ 1 ∷ 0 ∷ []) ∷
    in_order LoadsOldest (opened 2 3 2) (filling (store 0 0 7) ++ filling (store 0 4 7) ++ (store 0 0 9 ∷ [])) (2 ∷ 1 ∷ 0 ∷ []) ∷
    in_order LoadsOldest (opened 2 3 2) (filling (store 0 0 7) ++ filling (store 0 4 7) ++ (exchange 0 0 9 ∷ [])) (2 ∷ 1 ∷ 0 ∷ []) ∷
    in_order LoadsOldest (opened 2 3 2) (filling (store 0 0 7) ++ filling (store 0 4 7) ++ (add 0 0 9 ∷ [])) (2 ∷ 1 ∷ 0 ∷ []) ∷
    in_order LoadsOldest mixed (filling (load 0 0) ++ filling (store 0 0 7)) (2 ∷ 1 ∷ 0 ∷ []) ∷
    in_order LoadsOldest mixed (filling (load 0 0) ++ filling (add 0 0 7)) (2 ∷ 1 ∷ 0 ∷ []) ∷
    -- a bare grant fills nothing: its completion is a use, of a load too
    in_order LoadsOldest (sent BareGrant 0 0 (waits 0 (Served (operation 0)) (filled 0 0 mixed))) (deliver 0 ∷ []) (2 ∷ 1 ∷ 0 ∷ []) ∷
    -- orders are no use, nor is giving up a line
    in_order LoadsOldest (sent Update 0 0 (filled 0 0 mixed)) (deliver 0 ∷ []) (2 ∷ 0 ∷ 1 ∷ []) ∷
    in_order LoadsOldest (sent Purge 0 0 (filled 0 0 mixed)) (deliver 0 ∷ []) (2 ∷ 0 ∷ 1 ∷ []) ∷
    in_order LoadsOldest (copied 0 0 0 0 (copied 0 1 1 0 (copied 0 2 2 0 (ordered (2 ∷ 0 ∷ 1 ∷ []) (opened 2 3 4))))) (load 0 12 ∷ []) (2 ∷ 0 ∷ 1 ∷ []) ∷
    []

-- a set of lanes, by their numbers
abbrev pub set_of : List ℕ → LaneSet
set_of [] = nobody
set_of (k ∷ ks) = including (lane k) (set_of ks)

-- the byte of lane k's command, on a block for which these lanes have PRESENT and MODIFIED is so
abbrev pub has_byte : ℕ → Command → List ℕ → Bool → ℕ → Row
has_byte k x present modified byte =
    record { given = Number (orders_byte (with_modified modified (with_present (set_of present) (block_at (opened 8 1 1) 0))) (lane k) x); wanted = Number byte }

-- a byte, how many of its bits are set, and the lanes that it stands for
abbrev pub has_bits : ℕ → ℕ → List ℕ → List Row
has_bits x n ks =
    record { given = Number (bits_in x); wanted = Number n } ∷
    record { given = Flags (lanes_of x); wanted = Flags (set_of ks) } ∷
    []

-- the byte of what waits unserved on lane k
abbrev pub waiting_byte : Store → ℕ → Waiting → ℕ
waiting_byte s k Idle = 0
waiting_byte s k (Unserved o) = orders_byte (block_at s (block_of o.word).0) (lane k) o.command
waiting_byte s k (Served o) = 0

-- .. of lane k of a store
unfoldable pub unserved_byte : ℕ → Store → ℕ
unserved_byte k t = waiting_byte t k (lane_at t k).waiting

-- the answers that each service awaits, by slot
unfoldable pub awaited_by : Control → List ℕ
awaited_by x = gather_to (λ i. cond (is_busy (slot_at x i)) ((service_in (slot_at x i)).awaited ∷ []) []) slot_count

-- how many orders, or grants, are on their way to each of four lanes
unfoldable pub downs_each : Bool → Store → List ℕ
downs_each orders t = map (λ j. downs_of orders (lane_at t j).downs) (0 ∷ 1 ∷ 2 ∷ 3 ∷ [])

-- serve k of four lanes after an operation that waits: its byte; after it, what the service awaits, if there is one, and the orders and the grants in each down queue
abbrev pub served_by_byte : Store → Call → ℕ → ℕ → List ℕ → List ℕ → List ℕ → List Row
served_by_byte s x k byte awaited orders grants =
    record { given = Number (unserved_byte k (after s (x ∷ []))); wanted = Number byte } ∷
    record { given = Bytes (awaited_by (after s (x ∷ serve k ∷ [])).control); wanted = Bytes awaited } ∷
    record { given = Bytes (downs_each true (after s (x ∷ serve k ∷ []))); wanted = Bytes orders } ∷
    record { given = Bytes (downs_each false (after s (x ∷ serve k ∷ []))); wanted = Bytes grants } ∷
    []

-- lanes 1 and 2 have a copy of block 0
abbrev pub two_copies : Store
two_copies = flagged 1 (flagged 2 (opened 4 1 1))

-- .. and lane k's down queue is full
abbrev pub full_downs : ℕ → Store
full_downs k = purging 8 k 0 two_copies

-- 02, W4: the byte of a serve, bit j for each lane j that it sends an order
abbrev pub serve_bytes : List Row
serve_bytes =
    -- every other PRESENT lane: READ exclusive, EXCLUDE, READ shared with MODIFIED set
    has_byte 0 ReadExclusive (0 ∷ 1 ∷ 3 ∷ []) false 10 ∷
    has_byte 1 Exclude (0 ∷ 1 ∷ 3 ∷ []) false 9 ∷
    has_byte 0 ReadShared (5 ∷ []) true 32 ∷
    has_byte 3 ReadExclusive (0 ∷ 1 ∷ 2 ∷ 3 ∷ 4 ∷ 5 ∷ 6 ∷ 7 ∷ []) false 247 ∷
    has_byte 7 Exclude (0 ∷ 1 ∷ 2 ∷ 3 ∷ 4 ∷ 5 ∷ 6 ∷ 7 ∷ []) false 127 ∷
    -- none: READ shared with MODIFIED reset, no other PRESENT lane
    has_byte 0 ReadShared (1 ∷ 2 ∷ []) false 0 ∷
    has_byte 2 Exclude (2 ∷ []) false 0 ∷
    has_byte 2 ReadExclusive [] false 0 ∷
    -- the number of set bits, and the lanes
    (has_bits 0 0 [] ++
    has_bits 128 1 (7 ∷ []) ++
    has_bits 10 2 (1 ∷ 3 ∷ []) ++
    has_bits 127 7 (0 ∷ 1 ∷ 2 ∷ 3 ∷ 4 ∷ 5 ∷ 6 ∷ []) ++
    has_bits 255 8 (0 ∷ 1 ∷ 2 ∷ 3 ∷ 4 ∷ 5 ∷ 6 ∷ 7 ∷ []) ++
    -- orders to the lanes of the byte, and as many answers awaited; of none, the grant and no service
    served_by_byte two_copies (store 3 0 7) 3 6 (2 ∷ []) (0 ∷ 1 ∷ 1 ∷ 0 ∷ []) (0 ∷ 0 ∷ 0 ∷ 0 ∷ []) ++
    served_by_byte two_copies (store 1 0 7) 1 4 (1 ∷ []) (0 ∷ 0 ∷ 1 ∷ 0 ∷ []) (0 ∷ 0 ∷ 0 ∷ 0 ∷ []) ++
    served_by_byte two_copies (load 0 0) 0 0 [] (0 ∷ 0 ∷ 0 ∷ 0 ∷ []) (1 ∷ 0 ∷ 0 ∷ 0 ∷ []) ++
    -- 12 for a full queue of a lane in the byte, the first and the last; a full queue of another lane, the asking one too, is not looked at
    (on (full_downs 1) (store 3 0 7 says wait ∷ serve 3 says refused 12 ∷ []) ∷
    on (full_downs 2) (store 3 0 7 says wait ∷ serve 3 says refused 12 ∷ []) ∷
    on (full_downs 0) (store 3 0 7 says wait ∷ serve 3 says step ∷ []) ∷
    on (full_downs 3) (store 3 0 7 says wait ∷ serve 3 says step ∷ []) ∷
    -- .. and with the byte 0 the asking lane's, for the grant, alone
    on (full_downs 0) (load 0 0 says wait ∷ serve 0 says refused 12 ∷ []) ∷
    on (full_downs 1) (load 0 0 says wait ∷ serve 0 says step ∷ []) ∷
    []))

-- lane 0 has a copy of block 0; lane 1 has one too
abbrev pub lone_copy : Store
lone_copy = filled 0 0 (flagged 0 (opened 2 1 1))

abbrev pub both_copies : Store
both_copies = filled 1 0 (flagged 1 lone_copy)

-- the operations of the completions of a list from an opening, in their order, each by the index of its begin call; the values that flat memory gives, fed these, and those of the completions
abbrev pub completes : ℕ → ℕ → ℕ → List Call → List ℕ → List ℕ → List Row
completes n c m cs indices values =
    let h = history_of LoadsOldest (shaped n c m) cs in
    record { given = Numbers (map (λ (b : Begun). b.index) (operations h)); wanted = Numbers indices } ∷
    record { given = Numbers (flat_values (flat_of m) (operations h)); wanted = Numbers values } ∷
    record { given = Numbers (values_in h); wanted = Numbers values } ∷
    []

-- 02, W5: loads beside a waiting operation
abbrev pub loads_beside : List Row
loads_beside =
    -- a load of a word whose own add waits shows the word before the add: before the serve, between serve and grant, and with the grant queued
    on both_copies
    (add 0 0 5 says wait ∷
    load 0 0 says done 0 0 1 ∷
    serve 0 says step ∷
    load 0 0 says done 0 0 2 ∷
    deliver 1 says step ∷
    return 1 says step ∷
    load 0 0 says done 0 0 3 ∷
    deliver 0 says done 0 0 4 ∷
    load 0 0 says done 0 5 5 ∷
    []) ∷
    -- .. and so of a store and of an exchange
    on lone_copy (store 0 0 9 says wait ∷ load 0 0 says done 0 0 1 ∷ serve 0 says step ∷ deliver 0 says done 0 9 2 ∷ []) ∷
    on lone_copy (exchange 0 0 9 says wait ∷ load 0 0 says done 0 0 1 ∷ serve 0 says step ∷ deliver 0 says done 0 0 2 ∷ []) ∷
    -- of another block, beside an unserved and a served operation; a miss is 8, the waiting operation's own block too; and so is every other operation, though the line is PRIVATE
    on (opened 2 2 2)
    (store 0 0 7 says wait ∷
    serve 0 says step ∷
    deliver 0 says done 0 7 1 ∷
    load 0 4 says wait ∷
    load 0 0 says done 0 7 2 ∷
    load 0 4 says refused 8 ∷
    store 0 0 9 says refused 8 ∷
    exchange 0 0 9 says refused 8 ∷
    add 0 0 9 says refused 8 ∷
    serve 0 says step ∷
    load 0 1 says done 0 0 3 ∷
    load 0 5 says refused 8 ∷
    store 0 0 9 says refused 8 ∷
    deliver 0 says done 0 0 4 ∷
    load 0 0 says done 0 7 5 ∷
    []) ∷
    -- EXCLUDE waits on a copy: no second operation waits beside it; once a PURGE has taken the copy, the load is 8
    on both_copies
    (add 0 0 5 says wait ∷
    store 0 0 9 says refused 8 ∷
    store 1 0 9 says wait ∷
    serve 1 says step ∷
    load 0 0 says done 0 0 1 ∷
    deliver 0 says step ∷
    load 0 0 says refused 8 ∷
    []) ∷
    -- 6 and 7 before 8; 8 before 17 for a load that misses, 17 for one that hits
    on (unserved 0 (filled 0 0 (opened 2 1 2))) (load 2 0 says refused 6 ∷ load 0 8 says refused 7 ∷ store 0 8 9 says refused 7 ∷ load 0 4 says refused 8 ∷ []) ∷
    on (counting 4294967293 (unserved 0 (filled 0 0 (opened 2 1 2))))
    (load 0 0 says done 0 0 4294967294 ∷ load 0 0 says refused 17 ∷ load 0 4 says refused 8 ∷ store 0 0 9 says refused 8 ∷ load 1 0 says refused 17 ∷ []) ∷
    -- a full return queue is not looked at
    on (answering 8 0 0 (unserved 0 (filled 0 0 (opened 2 1 2)))) (load 0 0 says done 0 0 1 ∷ load 0 4 says refused 8 ∷ []) ∷
    -- it is a use of its line; a refused one is none
    in_order LoadsOldest (unserved 0 (filled 0 0 mixed)) (load 0 0 ∷ []) (2 ∷ 1 ∷ 0 ∷ []) ∷
    in_order LoadsOldest (waits 0 (Served (operation 0)) (filled 0 0 mixed)) (load 0 0 ∷ []) (2 ∷ 1 ∷ 0 ∷ []) ∷
    in_order LoadsOldest (unserved 0 (filled 0 0 mixed)) (store 0 0 7 ∷ []) (2 ∷ 0 ∷ 1 ∷ []) ∷
    -- on a tape
    reads
    (0 ∷ 2 ∷ 2 ∷ 2 ∷ 2 ∷ 0 ∷ 0 ∷ 7 ∷ 0 ∷ 0 ∷ 0 ∷ 5 ∷ 0 ∷ 7 ∷ 0 ∷ 1 ∷ 0 ∷ 4 ∷ 1 ∷ 0 ∷ 0 ∷ 5 ∷ 0 ∷ 1 ∷ 0 ∷ 1 ∷ 1 ∷ 0 ∷ 4 ∷ 7 ∷ 0 ∷ [])
    (opens ∷ wait ∷ step ∷ done 0 7 1 ∷ wait ∷ done 0 7 2 ∷ step ∷ done 0 0 3 ∷ refused 8 ∷ done 0 0 4 ∷ []) ∷
    -- the load (index 4) is of its own call and stands ahead of the add (index 3), as flat memory is fed
    completes 2 1 1 (load 0 0 ∷ serve 0 ∷ deliver 0 ∷ add 0 0 5 ∷ load 0 0 ∷ serve 0 ∷ deliver 0 ∷ load 0 0 ∷ []) (0 ∷ 4 ∷ 3 ∷ 7 ∷ []) (0 ∷ 0 ∷ 0 ∷ 5 ∷ [])

-- 02, W6: the limit of an opening that isn't refused, or its number
abbrev pub limit_of : Result Answer Refusal → Store → Shown
limit_of (Err r) s = Number (number_of r)
limit_of (Ok Opened) s = Numbers (s.shape.limit ∷ [])
limit_of (Ok (Done x)) s = Numbers []
limit_of (Ok Wait) s = Numbers []
limit_of (Ok Step) s = Numbers []

abbrev pub opening_with : ℕ → ℕ → ℕ → ℕ → Shown
opening_with n c m limit = let r = open_of (limited n c m limit) in limit_of r.answer r.store

-- lane 2 has a copy of block 0 and lane 3 one of block 1, with their flags; lanes 0 and 1 wait to store into words 0 and 4
unfoldable pub flagged_in : ℕ → ℕ → Store → Store
flagged_in a k s = let b = block_at s a in with_block s a (with_present (including (lane k) b.present) b)

abbrev pub storing : ℕ → ℕ → ℕ → Store → Store
storing k w v s = waits k (Unserved (record { command = ReadExclusive; op = Op.Store v; word = word w })) s

abbrev pub two_blocks : ℕ → Store
two_blocks limit = storing 0 0 7 (storing 1 4 9 (flagged_in 0 2 (flagged_in 1 3 (filled 2 0 (filled 3 1 (opened_with 4 1 3 limit))))))

-- the answers that each service awaits, after calls
abbrev pub awaited_after : Store → List Call → List ℕ → Row
awaited_after s cs awaited = record { given = Bytes (awaited_by (after s cs).control); wanted = Bytes awaited }

-- services for blocks 0, 1 and 2 that await 1, 2 and 3 answers
abbrev pub three_services : Store
three_services = serving 2 2 3 (serving 1 1 2 (serving 0 0 1 (opened_with 4 1 4 8)))

abbrev pub services : List Row
services =
    -- 18 after 5; the ends of L's range
    record { given = opening_with 2 1 65 0; wanted = Number 5 } ∷
    record { given = opening_with 2 1 1 0; wanted = Number 18 } ∷
    record { given = opening_with 2 1 1 9; wanted = Number 18 } ∷
    record { given = opening_with 2 1 1 1; wanted = Numbers (1 ∷ []) } ∷
    record { given = opening_with 2 1 1 8; wanted = Numbers (8 ∷ []) } ∷
    -- kind 08: an open for 3 and 4; 5, then 18; refused, it leaves the tape shut; cut; 2 from 09 on
    reads (8 ∷ 2 ∷ 1 ∷ 1 ∷ 8 ∷ 1 ∷ 0 ∷ 0 ∷ 0 ∷ 2 ∷ 1 ∷ 1 ∷ 8 ∷ 2 ∷ 1 ∷ 65 ∷ 0 ∷ []) (opens ∷ wait ∷ refused 4 ∷ refused 4 ∷ []) ∷
    reads (8 ∷ 2 ∷ 1 ∷ 65 ∷ 0 ∷ 8 ∷ 2 ∷ 1 ∷ 1 ∷ 9 ∷ 5 ∷ 0 ∷ 0 ∷ 2 ∷ 1 ∷ 1 ∷ 8 ∷ 2 ∷ 1 ∷ 1 ∷ 1 ∷ []) (refused 5 ∷ refused 18 ∷ refused 3 ∷ opens ∷ refused 4 ∷ []) ∷
    reads (8 ∷ 2 ∷ 1 ∷ 1 ∷ []) (refused 1 ∷ []) ∷
    reads (9 ∷ []) (refused 2 ∷ []) ∷
    -- two services open at once, closing in either order
    on (two_blocks 2) (serve 0 says step ∷ serve 1 says step ∷ deliver 2 says step ∷ deliver 3 says step ∷ return 2 says step ∷ deliver 0 says done 0 7 1 ∷ return 3 says step ∷ deliver 1 says done 1 9 2 ∷ []) ∷
    on (two_blocks 2) (serve 0 says step ∷ serve 1 says step ∷ deliver 2 says step ∷ deliver 3 says step ∷ return 3 says step ∷ deliver 1 says done 1 9 1 ∷ return 2 says step ∷ deliver 0 says done 0 7 2 ∷ []) ∷
    -- .. and with L = 1 not at once
    on (two_blocks 1) (serve 0 says step ∷ serve 1 says refused 10 ∷ deliver 2 says step ∷ return 2 says step ∷ serve 1 says step ∷ []) ∷
    -- 10 with L = 2 on a third block, which has no service; not with L = 3; for a block in service with any L; before 11
    on (unserved 3 (serving 2 2 1 (serving 1 1 1 (opened_with 4 1 3 2)))) (serve 3 says refused 10 ∷ []) ∷
    on (unserved 3 (serving 2 2 1 (serving 1 1 1 (opened_with 4 1 3 3)))) (serve 3 says step ∷ []) ∷
    on (unserved 3 (serving 2 0 1 (opened_with 4 1 3 8))) (serve 3 says refused 10 ∷ []) ∷
    on (gone 3 0 (unserved 3 (serving 2 0 1 (opened_with 4 1 3 8)))) (serve 3 says refused 10 ∷ []) ∷
    -- an answer lowers, or closes, the service of its block alone
    awaited_after (gone 3 2 three_services) (return 3 ∷ []) (1 ∷ 2 ∷ 2 ∷ []) ∷
    awaited_after (gone 3 1 three_services) (return 3 ∷ []) (1 ∷ 1 ∷ 3 ∷ []) ∷
    awaited_after (gone 3 0 three_services) (return 3 ∷ []) (2 ∷ 3 ∷ []) ∷
    -- a new one takes the lowest free slot
    awaited_after (storing 3 12 7 (flagged_in 3 0 (flagged_in 3 1 (flagged_in 3 2 (gone 3 0 three_services))))) (return 3 ∷ serve 3 ∷ []) (3 ∷ 2 ∷ 3 ∷ []) ∷
    -- settle serves the lowest unserved, also where 10 refuses that
    on (unserved 0 (serving 3 2 1 (opened_with 4 1 3 1))) (Settle says refused 10 ∷ []) ∷
    []

-- 02, W7. Lane 0 loads blocks 0 to q − 1, one after the other
abbrev pub holding : ℕ → List Call
holding q = gather_to (λ a. load 0 (4 * a) ∷ serve 0 ∷ deliver 0 ∷ []) q

-- each of lanes 1 to q stores to a block of its own; all are in service at once, and each sends lane 0 an order
abbrev pub ordering : ℕ → List Call
ordering q = gather_to (λ a. store (1 + a) (4 * a) 7 ∷ serve (1 + a) ∷ []) q

-- lane 0 gives up its oldest line for one block more, then answers an order for each block: EJECT and q answers
abbrev pub long_returns : ℕ → ℕ → ℕ → ℕ
long_returns n limit q = (lane_at (after (opened_with n q (1 + q) limit) (holding q ++ (load 0 (4 * q) ∷ (ordering q ++ replicate q (deliver 0))))) 0).returns.len

-- lane 0 is granted the last of q blocks, takes nothing, and is sent an order for each: the grant and q orders
abbrev pub long_downs : ℕ → ℕ → ℕ → ℕ
long_downs n limit q = (lane_at (after (opened_with n q q limit) (holding (q - 1) ++ (load 0 (4 * (q - 1)) ∷ serve 0 ∷ ordering q))) 0).downs.len

-- a return queue, a down queue, and the figure that they meet
abbrev pub longest : ℕ → ℕ → ℕ → List ℕ → Row
longest n limit q lengths = record { given = Numbers (long_returns n limit q ∷ long_downs n limit q ∷ queue_most (limited n q q limit) ∷ []); wanted = Numbers lengths }

-- the numbers that calls are refused by, 0 for the others
abbrev pub refused_each : Store → List Call → List ℕ → Row
refused_each s cs numbers = record { given = Numbers (map (λ (e : Entry). refused_by e.reply) (run LoadsOldest s cs).history); wanted = Numbers numbers }

abbrev pub long_queues : List Row
long_queues =
    -- L = 1 with two lanes and with four; L = 2 and L = 3, the smaller of the two with four lanes; n − 1 the smaller, with two lanes and with three
    longest 2 1 1 (2 ∷ 2 ∷ 2 ∷ []) ∷
    longest 4 1 1 (2 ∷ 2 ∷ 2 ∷ []) ∷
    longest 4 2 2 (3 ∷ 3 ∷ 3 ∷ []) ∷
    longest 4 3 3 (4 ∷ 4 ∷ 4 ∷ []) ∷
    longest 2 3 1 (2 ∷ 2 ∷ 2 ∷ []) ∷
    longest 3 8 2 (3 ∷ 3 ∷ 3 ∷ []) ∷
    -- 12 remains for stores that came from no opening: a begin, a deliver and a settle; and its text
    refused_each (answering 8 0 0 (filled 0 0 (opened 2 1 2))) (load 0 4 ∷ load 0 0 ∷ load 0 8 ∷ []) (12 ∷ 0 ∷ 7 ∷ []) ∷
    refused_each (sent Purge 0 0 (answering 8 0 0 (filled 0 0 (opened 2 1 2)))) (deliver 0 ∷ Settle ∷ []) (12 ∷ 12 ∷ []) ∷
    record { given = Bytes (refused_text QueueFull); wanted = Bytes (114 ∷ 101 ∷ 102 ∷ 117 ∷ 115 ∷ 101 ∷ 100 ∷ 32 ∷ 49 ∷ 50 ∷ []) } ∷
    []

-- 02, W8. Queued for lane 0: a grant of block 1, and a PURGE of block 0, for which lane 1 is in service; a GONE of block 0 is back. Lane 2's store to
-- block 1 is unserved, and lane 0 has PRESENT there
unfoldable pub all_letters : Store
all_letters =
    storing 2 4 9
    (flagged_in 1 0
    (waits 1 (Served (record { command = ReadExclusive; op = Op.Store 7; word = word 0 }))
    (serving 1 0 2 (gone 0 0 (sent Grant 0 1 (sent Purge 0 0 (waits 0 (Served (operation 4)) (opened 3 1 2))))))))

-- R, G, Q, S and U of a store
unfoldable pub letters_of : Store → List ℕ
letters_of s = returns_in s ∷ grants_in s ∷ orders_in s ∷ services_in s ∷ unserved_in s ∷ []

abbrev pub exact_steps : List Row
exact_steps =
    -- each letter is 1, and so is O: 1 + 1 + 2 × 1 + 1 + 2 × 1 + 2 × 1
    record { given = Numbers (letters_of all_letters); wanted = Numbers (1 ∷ 1 ∷ 1 ∷ 1 ∷ 1 ∷ []) } ∷
    on all_letters (Settle says settled 9 1 (of 0 0 1 ∷ of 1 7 2 ∷ of 2 9 3 ∷ []) ∷ []) ∷
    -- an order that was queued before is not in O; one that settle's own serve queues is, and the count is then the bound
    on (opened 2 1 1) (store 0 0 7 says wait ∷ serve 0 says step ∷ deliver 0 says done 0 7 1 ∷ load 1 0 says wait ∷ serve 1 says step ∷ Settle says settled 3 0 (of 1 7 2 ∷ []) ∷ []) ∷
    on (opened 2 1 1) (store 0 0 7 says wait ∷ serve 0 says step ∷ deliver 0 says done 0 7 1 ∷ load 1 0 says wait ∷ Settle says settled 4 1 (of 1 7 2 ∷ []) ∷ []) ∷
    -- a store that no opening gives: lanes 1 and 2 have PRESENT and no line
    on (flagged 1 (flagged 2 (storing 0 0 7 (opened 3 1 1)))) (Settle says settled 6 2 (of 0 7 1 ∷ []) ∷ []) ∷
    []

-- the table
unfoldable pub rows : List Row
rows = cases_of01 ++ races ++ shut_out ++ bounds ++ sentences ++ pictures ++ corrupt_stores ++ held_stores ++ places ++ insertions ++ serve_bytes ++ loads_beside ++ services ++ long_queues ++ exact_steps
