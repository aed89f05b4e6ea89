-- `lanes::Lane::vacant` meets its contract. Assumes nothing.
use Rattle.std.proofs.Common.{◌≡◌, ◌-◌}
use Rattle.std.specs.Prelude.{not}
use Rattle.words.specs.declared.Line.{Line}
use Rattle.lanes.specs.Search.{first_from}
use Rattle.lanes.proofs.Lane.vacant.Given as goal

abbrev pub invariant-loop-k : goal.invariant-loop-k
invariant-loop-k l = first_from (λ (x : Line). not x.valid) l.self.lines l.c 0 ≡ first_from (λ (x : Line). not x.valid) l.self.lines (l.c - l.k) l.k
