use Rattle.std.proofs.Common.{◌≡◌, ◌++◌, length, take}
use Rattle.pool_isa.specs.Number.{number_bytes}
use Rattle.pool_isa.proofs.number.push_digits.Given as goal

-- the bytes so far, and those of what is left, are those of the number
abbrev pub invariant-loop-rest : goal.invariant-loop-rest
invariant-loop-rest l = record {
  spelled : l.code.items ++ number_bytes l.rest ≡ l.fn.code.items ++ number_bytes l.number;
  kept : take (length l.fn.code.items) l.code.items ≡ l.fn.code.items;
}

abbrev pub decreases-loop-rest : goal.decreases-loop-rest
decreases-loop-rest l = l.rest
