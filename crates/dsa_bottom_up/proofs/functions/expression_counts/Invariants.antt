use Rattle.std.proofs.Common.{drop}
use Rattle.dsa_bottom_up.proofs.Scoping.{FunctionsLeft}
use Rattle.dsa_bottom_up.proofs.functions.expression_counts.Given as goal

abbrev pub invariant-loop-function : goal.invariant-loop-function
invariant-loop-function l = FunctionsLeft l.program l.counts.items (drop l.function-index l.functions)
