-- `lanes::made_oldest` meets its contract. Assumes nothing.
use Rattle.std.proofs.Common.{◌≡◌, ◌+◌, ◌-◌, arith, ap, sym, ◌∙◌}
use Rattle.words.proofs.Folds.{down_to_none, down_to_more}
use Rattle.lanes.specs.UseOrder.{carry_of}
use Rattle.lanes.proofs.made_oldest.Goals as goal

pub loop-k-preserved : goal.loop-k-preserved
loop-k-preserved c =
    let k = c.loop-k.k in
    let o = c.loop-k.o in
    let e : k - 1 - 1 + 1 ≡ k - 1 = omega arith in
    let i = c.args.i in
    let turn : c.carry.new.o ≡ carry_of i (k - 1 - 1 + 1) (k - 1 - 1) o = c.carry.ensures ∙ ap (λ n. carry_of i n (k - 1 - 1) o) (sym e) in
    (omega arith, sym (down_to_more (λ k. carry_of i (k + 1) k) (k - 1 - 1) o turn) ∙ rw e c.loop-k.invariant.1)

pub returns : goal.returns
returns c = let e : c.loop-k.k - 1 ≡ 0 = omega (arith, c.loop-k.auto.k) in down_to_none _ _ ∙ (rw e at c.loop-k.invariant.1)
