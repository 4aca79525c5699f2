use Rattle.graph_tests.specs.Plain.{HasNoObjects}
use Rattle.graph_checker.proofs.Judged.{Left}
use Rattle.graph_tests.proofs.fitting.have_no_objects.Given as goal

-- what is asked of those that are left holds just where it holds of all
abbrev pub invariant-loop-function : goal.invariant-loop-function
invariant-loop-function l = Left (λ function. function) (HasNoObjects) l.functions l.function-index
