-- What a pass over a part of the text comes to.
use Rattle.std.specs.Prelude.{◌≡◌, List, [], ◌∷◌, ◌++◌, map, if◌then◌else◌, Option, Some, Vec}
use Rattle.c_syntax.specs.Trees.{ParametersTree}
use Rattle.c_typed.specs.declared.c_type.CType as number
use Rattle.c_typed.specs.Types.{CTypes, NoTypes, MoreTypes}
use Rattle.c_typed.specs.Table.{Interned, Stands, type_in}
use Rattle.c_rules.specs.Names.{Scope}
use Rattle.c_rules.specs.Known.{Checked, give}
use Rattle.c_rules.specs.Expressions.{parameter_types, is_void_alone}
use Rattle.c_rules.specs.Operators.{Arguments, ArgumentValue}
use Rattle.c_types_state.specs.Finding.{Finds}
use Rattle.c_types_expressions.specs.declared.calls.Argument as memory_argument
use Rattle.c_types_expressions.specs.Arguments.{ArgumentsStand, arguments_in}
use Rattle.c_types_expressions.specs.declared.pass.NamedType as memory_named
use Rattle.c_types_expressions.specs.declared.pass.Pass.{Pass}
use Rattle.c_rules.specs.Named.{NamedType}

-- ---- types that were named

abbrev pub named_type : Interned → memory_named.NamedType → NamedType
named_type table named = record { place = named.place; c_type = type_in table named.c_type }

abbrev pub AllNamedStand : Interned → List memory_named.NamedType → Type 0
AllNamedStand table [] = Unit {0}
AllNamedStand table (first ∷ others) = Stands table first.c_type × AllNamedStand table others

-- these were added
pub record Names (named : List NamedType) (table : Interned) (old new : List memory_named.NamedType) : Type 0 where
  pub added : List memory_named.NamedType
  pub is : new ≡ old ++ added
  pub stand : AllNamedStand table added
  pub means : map (named_type table) added ≡ named

-- It has found what a part violates, what is known of it, and the types that it names.
pub record Passes {A B : Type 0} (Is : Interned → B → A → Type 0) (checked : Checked A) (named : List NamedType) (old new : Pass) (result : Option B) : Type 0 where
  pub finds : Finds Is checked old.checker new.checker result
  pub names : Names named new.checker.table old.named.items new.named.items

-- ---- lists

-- the arguments of a call
abbrev pub arguments_checked : Arguments → Checked (List ArgumentValue)
arguments_checked arguments = record { found = arguments.found; known = Some arguments.values }

abbrev pub IsArguments : {Z : Type 0} → Interned → Vec memory_argument.Argument Z → List ArgumentValue → Type 0
IsArguments table memory arguments = ArgumentsStand table memory.items × (arguments_in table memory.items ≡ arguments)

-- the parameters of a function; `(void)` has none (C17 6.7.6.3 paragraph 10)
abbrev pub parameter_list : Scope → ParametersTree → Checked CTypes
parameter_list scope parameters = if is_void_alone parameters then give NoTypes else parameter_types scope [] parameters

abbrev pub TypesStand : Interned → List number.CType → Type 0
TypesStand table [] = Unit {0}
TypesStand table (first ∷ others) = Stands table first × TypesStand table others

abbrev pub list_in : Interned → List number.CType → CTypes
list_in table [] = NoTypes
list_in table (first ∷ others) = MoreTypes (type_in table first) (list_in table others)
