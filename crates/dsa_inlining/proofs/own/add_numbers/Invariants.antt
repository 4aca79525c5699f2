use Rattle.dsa_inlining.specs.Own.{AddsNumbers}
use Rattle.dsa_inlining.proofs.own.add_numbers.Given as goal

abbrev pub invariant-loop-number : goal.invariant-loop-number
invariant-loop-number l = AddsNumbers l.fn.set.keys l.set.keys l.numbers
