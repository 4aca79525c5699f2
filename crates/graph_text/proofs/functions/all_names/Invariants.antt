use Rattle.std.proofs.Common.{◌≡◌, ◌++◌, drop, map}
use Rattle.c_syntax.specs.Views.{parameters_of}
use Rattle.graph_text.specs.ProgramLabels.{names_of}
use Rattle.graph_text.proofs.functions.all_names.Given as goal

abbrev pub invariant-loop-parameter : goal.invariant-loop-parameter
invariant-loop-parameter l = map (λ name. name.items) l.names.items ++ names_of (parameters_of (drop l.parameter-index l.parameters)) ≡ names_of (parameters_of l.parameters)
