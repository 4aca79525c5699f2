use Rattle.pool_isa.proofs.number.+high_digits.Given as goal

abbrev pub decreases-high_digits : goal.decreases-high_digits
decreases-high_digits l = l.more
