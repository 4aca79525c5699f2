use Rattle.std.proofs.Common.{drop}
use Rattle.c_syntax.specs.Views.{arguments_of, suffixes_of, parameters_of}
use Rattle.c_rules.specs.Elaborated.{literals_in_arguments, literals_in_suffixes, literals_in_parameters}
use Rattle.c_types_state.proofs.LiteralsAdded.{SoFar}
use Rattle.c_types_state.proofs.literals.Literals.+expr.Given as goal

abbrev pub invariant-of_expr-loop-argument : goal.invariant-of_expr-loop-argument
invariant-of_expr-loop-argument l =
    SoFar (literals_in_arguments (arguments_of l.argument-items)) (literals_in_arguments (arguments_of (drop l.argument-index l.argument-items))) l.initial.self.found.items l.self.found.items

abbrev pub invariant-of_declarator-loop-suffix : goal.invariant-of_declarator-loop-suffix
invariant-of_declarator-loop-suffix l =
    SoFar (literals_in_suffixes (suffixes_of l.suffix-items)) (literals_in_suffixes (suffixes_of (drop l.suffix-index l.suffix-items))) l.initial.self.found.items l.self.found.items

abbrev pub invariant-of_parameters-loop-parameter : goal.invariant-of_parameters-loop-parameter
invariant-of_parameters-loop-parameter l =
    SoFar (literals_in_parameters (parameters_of l.parameters)) (literals_in_parameters (parameters_of (drop l.parameter-index l.parameters))) l.initial.self.found.items l.self.found.items
