use Rattle.std.proofs.Common.{◌≡◌, ◌+◌, ◌*◌, max, drop}
use denote.Param.Weighed.{most}
use Rattle.c_syntax.proofs.expr.Expr.TheLaws.{the_size}
use Rattle.c_syntax.specs.Views.{arguments_of, suffixes_of, parameters_of}
use Rattle.graph_text.specs.Marks.{marks_in_arguments, marks_in_suffixes, marks_in_parameters}
use Rattle.graph_text.specs.Adding.{scope_at}
use Rattle.graph_text.proofs.MarksAdded.{SoFar}
use Rattle.graph_text.proofs.marks.Marker.+expr.Given as goal

abbrev pub invariant-arguments-loop-number : goal.invariant-arguments-loop-number
invariant-arguments-loop-number l = record {
  scope : scope_at l.self ≡ scope_at l.fn.self;
  marks : SoFar (marks_in_arguments (scope_at l.fn.self) l.is_done l.pointers 0 (arguments_of l.arguments)) (marks_in_arguments (scope_at l.fn.self) l.is_done l.pointers l.number (arguments_of (drop l.number l.arguments))) l.fn.self l.self;
}

abbrev pub invariant-declarator-loop-suffix : goal.invariant-declarator-loop-suffix
invariant-declarator-loop-suffix l = record {
  scope : scope_at l.self ≡ scope_at l.initial.self;
  marks : SoFar (marks_in_suffixes (scope_at l.initial.self) (suffixes_of l.suffix-items)) (marks_in_suffixes (scope_at l.initial.self) (suffixes_of (drop l.suffix-index l.suffix-items))) l.initial.self l.self;
}

abbrev pub invariant-parameters-loop-parameter : goal.invariant-parameters-loop-parameter
invariant-parameters-loop-parameter l = record {
  scope : scope_at l.self ≡ scope_at l.fn.self;
  marks : SoFar (marks_in_parameters (scope_at l.fn.self) (parameters_of l.trees)) (marks_in_parameters (scope_at l.fn.self) (parameters_of (drop l.parameter-index l.trees))) l.fn.self l.self;
}

-- the depths of the trees that a call goes down; where it goes on with the same tree, it comes first
abbrev pub decreases-expr : goal.decreases-expr
decreases-expr l = 8 * goal.size-expr l

abbrev pub decreases-call : goal.decreases-call
decreases-call l = 8 * max (the_size l.function.now) (most the_size l.arguments.now) + 2

abbrev pub decreases-arguments : goal.decreases-arguments
decreases-arguments l = 8 * most the_size l.arguments.now + 1

abbrev pub decreases-type_name : goal.decreases-type_name
decreases-type_name l = 8 * goal.size-type_name l

abbrev pub decreases-declarator : goal.decreases-declarator
decreases-declarator l = 8 * goal.size-declarator l

abbrev pub decreases-suffix : goal.decreases-suffix
decreases-suffix l = 8 * goal.size-suffix l

abbrev pub decreases-parameters : goal.decreases-parameters
decreases-parameters l = 8 * goal.size-parameters l + 1
