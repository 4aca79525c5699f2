-- Members that are looked for.
use Rattle.std.specs.Prelude.{◌≡◌, ℕ, Option, Some, None}
use Rattle.run_theory.specs.declared.place.Pos.{Pos}
use Rattle.c_syntax.specs.Trees.{NameTree}
use Rattle.c_typed.specs.Types.{CType}
use Rattle.c_typed.specs.Typed.{Object}
use Rattle.c_typed.specs.Table.{Stands, type_in}
use Rattle.c_rules.specs.Known.{Address, give, object_at}
use Rattle.c_rules.specs.Constants.{member_address}
use Rattle.c_rules.specs.Operators.{member_of}
use Rattle.c_types_state.specs.NameTables.{State, scope_of}
use Rattle.c_types_state.specs.Finding.{Finds, IsExpr}
use Rattle.c_types_expressions.specs.declared.members.Found as found

-- Whatever object the member is part of: where it is found, the rule gives that member of the object, and else nothing.
abbrev pub IsMemberOf : State → State → Pos → CType → NameTree → Option found.Found → Type 0
IsMemberOf old new whole c_type member (Some one) =
    (new ≡ old) × Stands old.table one.c_type
    × ((object : ℕ → Object) (from : Address) → member_of (scope_of old) whole c_type object from member ≡ give (object_at (type_in old.table one.c_type) (object one.number) (member_address from one.number (type_in old.table one.c_type))))
IsMemberOf old new whole c_type member None = (object : ℕ → Object) (from : Address) → Finds IsExpr (member_of (scope_of old) whole c_type object from member) old new None
