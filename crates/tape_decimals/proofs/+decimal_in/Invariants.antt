use Rattle.tape_decimals.proofs.+decimal_in.Given as goal

abbrev pub decreases-decimal_in : goal.decreases-decimal_in
decreases-decimal_in l = l.more
