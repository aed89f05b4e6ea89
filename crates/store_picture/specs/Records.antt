-- The picture's bytes line by line, lane by lane and block by block, and how many lines are valid. Assumes nothing.
use Rattle.std.specs.Prelude.{ℕ, cond, List, [], get_or}
use Rattle.words.specs.declared.Line.{Line}
use Rattle.words.specs.Lines.{no_line, holds_of}
use Rattle.words.specs.Folds.{count_to, sum_to, gather_to}
use Rattle.lanes.specs.declared.Lane.{Lane}
use Rattle.store.specs.declared.Store.{Store}
use Rattle.store.specs.Stores.{lane_at}
use Rattle.machine.specs.Machine.Picture.{record_bytes}

-- the record of a line of lane k, where it is valid and has block a
unfoldable pub line_record : ℕ → ℕ → Line → List ℕ
line_record a k x = cond (holds_of x (record { 0 = a })) (record_bytes k x) []

-- the records of block a: of the first c lines of lane k, of lane k of a store, and of all its lanes
abbrev pub lane_records : ℕ → ℕ → Lane → ℕ → List ℕ
lane_records a k l c = gather_to (λ i. line_record a k (get_or l.lines i no_line)) c

abbrev pub records_at : Store → ℕ → ℕ → List ℕ
records_at s a k = lane_records a k (lane_at s k) s.shape.c

abbrev pub block_records : Store → ℕ → List ℕ
block_records s a = gather_to (records_at s a) s.shape.n

-- how many of the first c lines of a lane are valid
abbrev pub valid_in : Lane → ℕ → ℕ
valid_in l c = count_to (λ i. (get_or l.lines i no_line).valid) c

-- .. of lane k of a store, and of all its lanes
abbrev pub valid_at : Store → ℕ → ℕ
valid_at s k = valid_in (lane_at s k) s.shape.c

abbrev pub valid_of : Store → ℕ
valid_of s = sum_to (valid_at s) s.shape.n
