use Rattle.std.proofs.Common.{◌+◌, ◌*◌, max}
use denote.Param.Weighed.{most}
use Rattle.c_syntax.proofs.expr.Expr.TheLaws.{the_size}
use Rattle.c_syntax.proofs.expr.TypeName.TheLaws as type_laws
use Rattle.std.proofs.Common.{drop, ◌≤◌, length, ◌≡◌}
use Rattle.c_types_expressions.proofs.CTypesExpressions.Calls.{Gathers}
use Rattle.c_typed.specs.Table.{type_in}
use Rattle.c_types_state.specs.Finding.{each_in}
use Rattle.c_types_expressions.specs.Roles.{role_of}
use Rattle.c_types_expressions.proofs.Suffixed.{Followed, role_at}
use Rattle.c_syntax.specs.Views.{parameters_of}
use Rattle.c_types_state.specs.Checkers.{names_of}
use Rattle.c_types_state.specs.NameTables.{scope_of}
use Rattle.c_types_expressions.proofs.Parameters.{NotedParameters}
use Rattle.c_types_expressions.proofs.+expr.Given as goal

-- What is found of the arguments that are left, behind the values so far, is what is found of all.
abbrev pub invariant-expressions::argument_values-loop-argument : goal.invariant-expressions::argument_values-loop-argument
invariant-expressions::argument_values-loop-argument l = Gathers l.fn.arguments (drop l.argument-index l.fn.arguments) l.fn.pass l.pass l.values.items

-- What follows behind the index was passed.
abbrev pub invariant-declarators::suffixes_type-loop-index : goal.invariant-declarators::suffixes_type-loop-index
invariant-declarators::suffixes_type-loop-index l = record {
  within : l.index ≤ length l.suffixes;
  found : Followed l.fn.pass l.here (role_at l.index (role_of l.role)) (each_in type_in l.fn.pass.checker.table l.fn.base) (drop l.index l.suffixes) l.pass l.c_type;
}

abbrev pub decreases-declarators::suffixes_type-loop-index : goal.decreases-declarators::suffixes_type-loop-index
decreases-declarators::suffixes_type-loop-index l = l.index

-- Whatever is passed of the parameters that are left, behind the types so far, is passed of all.
abbrev pub invariant-declarators::function_parameters-loop-parameter : goal.invariant-declarators::function_parameters-loop-parameter
invariant-declarators::function_parameters-loop-parameter l = record {
  scope : scope_of l.pass.checker ≡ scope_of l.fn.pass.checker;
  leads : NotedParameters l.fn.pass (parameters_of l.parameters) l.pass (names_of l.names.keys) (parameters_of (drop l.parameter-index l.parameters)) l.are_known l.types.items;
}

-- the depths of the trees that a call goes down; where it goes on with the same tree, it comes first
abbrev pub decreases-expressions::expr : goal.decreases-expressions::expr
decreases-expressions::expr l = 8 * goal.size-expressions::expr l

abbrev pub decreases-expressions::index_expr : goal.decreases-expressions::index_expr
decreases-expressions::index_expr l = 8 * max (the_size l.array.now) (the_size l.index.now) + 1

abbrev pub decreases-expressions::call_expr : goal.decreases-expressions::call_expr
decreases-expressions::call_expr l = 8 * max (the_size l.function.now) (most the_size l.arguments.now) + 2

abbrev pub decreases-expressions::argument_values : goal.decreases-expressions::argument_values
decreases-expressions::argument_values l = 8 * goal.size-expressions::argument_values l + 1

abbrev pub decreases-expressions::cast_expr : goal.decreases-expressions::cast_expr
decreases-expressions::cast_expr l = 8 * max (type_laws.the_size l.type_name.now) (the_size l.operand.now) + 1

abbrev pub decreases-expressions::binary_expr : goal.decreases-expressions::binary_expr
decreases-expressions::binary_expr l = 8 * max (the_size l.left.now) (the_size l.right.now) + 1

abbrev pub decreases-expressions::conditional_expr : goal.decreases-expressions::conditional_expr
decreases-expressions::conditional_expr l = 8 * max (the_size l.condition.now) (max (the_size l.then.now) (the_size l.otherwise.now)) + 1

abbrev pub decreases-expressions::assign_expr : goal.decreases-expressions::assign_expr
decreases-expressions::assign_expr l = 8 * max (the_size l.object.now) (the_size l.value.now) + 1

abbrev pub decreases-declarators::type_named : goal.decreases-declarators::type_named
decreases-declarators::type_named l = 8 * goal.size-declarators::type_named l

abbrev pub decreases-declarators::optional_type : goal.decreases-declarators::optional_type
decreases-declarators::optional_type l = 8 * goal.size-declarators::optional_type l + 1

abbrev pub decreases-declarators::declared_type : goal.decreases-declarators::declared_type
decreases-declarators::declared_type l = 8 * goal.size-declarators::declared_type l

abbrev pub decreases-declarators::suffixes_type : goal.decreases-declarators::suffixes_type
decreases-declarators::suffixes_type l = 8 * goal.size-declarators::suffixes_type l + 1

abbrev pub decreases-declarators::suffix_type : goal.decreases-declarators::suffix_type
decreases-declarators::suffix_type l = 8 * goal.size-declarators::suffix_type l

abbrev pub decreases-declarators::stated_length : goal.decreases-declarators::stated_length
decreases-declarators::stated_length l = 8 * goal.size-declarators::stated_length l + 1

abbrev pub decreases-declarators::function_parameters : goal.decreases-declarators::function_parameters
decreases-declarators::function_parameters l = 8 * goal.size-declarators::function_parameters l + 1

abbrev pub decreases-declarators::one_parameter : goal.decreases-declarators::one_parameter
decreases-declarators::one_parameter l = 8 * goal.size-declarators::one_parameter l
