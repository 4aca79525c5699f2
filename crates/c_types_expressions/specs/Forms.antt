-- Forms of expressions.
use Rattle.std.specs.Prelude.{◌≡◌, true, List, [], ◌++◌, Option, Some, None}
use Rattle.run_theory.specs.declared.place.Pos.{Pos}
use Rattle.c_typed.specs.Types.{Void, Pointer}
use Rattle.c_typed.specs.Table.{Interned}
use Rattle.c_typed.specs.Views.{ValueStands}
use Rattle.c_syntax.specs.Trees.{ExprTree, ArgumentsTree}
use Rattle.c_types_state.specs.declared.known.Condition as memory_condition
use Rattle.c_types_state.specs.declared.known.Known as memory_known
use Rattle.c_rules.specs.Names.{Scope}
use Rattle.c_rules.specs.Operators as operators
use Rattle.c_rules.specs.Operators.{size_of}
use Rattle.c_rules.specs.Expressions.{place_of, expr, library_called, argument_values}
use Rattle.c_types_state.specs.NameTables.{State}
use Rattle.c_types_state.specs.Finding.{Finds, IsExpr}
use Rattle.c_rules.specs.Named.{NamedType, named_in, named_in_arguments}
use Rattle.c_typed.specs.Typed.{NullPointer}
use Rattle.c_rules.specs.Known.{Checked, Known, NullAddress, grouped, value_of_type}

-- an expression in parentheses
abbrev pub grouped_rule : Pos → Known → Known
grouped_rule place known = record known { typed = grouped place known.typed }

abbrev pub grouped_known : Pos → Option Known → Option Known
grouped_known place None = None
grouped_known place (Some known) = Some (grouped_rule place known)

-- `NULL`
abbrev pub null_known : Known
null_known = record (value_of_type (Pointer Void) NullPointer) { is_null = true; address = NullAddress }

-- `sizeof e`
abbrev pub size_rule : Scope → Pos → Known → Checked Known
size_rule scope place known = size_of scope place known.c_type

abbrev pub ConditionStands : Interned → memory_condition.Condition → Type 0
ConditionStands table condition = ValueStands table condition.test.value

-- a call
abbrev pub called : Scope → ExprTree → ArgumentsTree → Checked Known
called scope function arguments = operators.call (place_of function) (library_called scope 0 function (expr scope function)) (argument_values scope arguments)

abbrev pub named_in_call : Scope → ExprTree → ArgumentsTree → List NamedType
named_in_call scope function arguments = named_in_arguments scope arguments ++ named_in scope function

-- A library function that is called by its name: whatever the expression is otherwise, it is that one. Where it is none, it is
-- what the expression is.
abbrev pub FindsLibrary : Scope → ExprTree → State → State → Option memory_known.Known → Type 0
FindsLibrary scope function old new (Some known) = ((otherwise : Checked Known) → Finds IsExpr (library_called scope 0 function otherwise) old new (Some known)) × (named_in scope function ≡ [])
FindsLibrary scope function old new None = ((otherwise : Checked Known) → library_called scope 0 function otherwise ≡ otherwise) × (new ≡ old)
