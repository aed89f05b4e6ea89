-- `store_picture::valid_in` meets its contract. Assumes nothing.
use Rattle.std.proofs.Common.{rules, ◌≡◌, take, ◌∙◌}
use Rattle.std.specs.Prelude.{count_by}
use Rattle.words.specs.declared.Line.{Line}
use Rattle.words.specs.Lines.{no_line}
use Rattle.store_picture.proofs.Records.{count_taken}
use Rattle.store_picture.proofs.valid_in.Goals as goal

pub returns : goal.returns
returns c = let e : c.count.result ≡ count_by (λ (x : Line). x.valid) (take c.args.c c.args.l.lines) = search rules in
    e ∙ count_taken (λ (x : Line). x.valid) c.args.l.lines no_line c.args.c (search rules)
