-- `lanes::Lane::search` meets its contract. Assumes nothing.
use Rattle.std.proofs.Common.{◌≡◌, ◌-◌}
use Rattle.words.specs.declared.Line.{Line}
use Rattle.words.specs.Lines.{holds_of}
use Rattle.lanes.specs.Search.{first_from}
use Rattle.lanes.proofs.Lane.search.Given as goal

abbrev pub invariant-loop-k : goal.invariant-loop-k
invariant-loop-k l = first_from (λ (x : Line). holds_of x l.a) l.self.lines l.c 0 ≡ first_from (λ (x : Line). holds_of x l.a) l.self.lines (l.c - l.k) l.k
