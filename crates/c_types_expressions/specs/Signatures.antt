-- The functions that are called.
use Rattle.std.specs.Prelude.{◌≡◌, List, Option, Some, None}
use Rattle.run_theory.specs.declared.place.Pos.{Pos}
use Rattle.c_typed.specs.Types.{CType, Pointer, Function, decayed}
use Rattle.c_typed.specs.Table.{Stands, type_in, ListStands, types_in}
use Rattle.c_rules.specs.Known.{Known}
use Rattle.c_rules.specs.Operators.{ArgumentValue, called_as}
use Rattle.c_types_state.specs.NameTables.{State}
use Rattle.c_types_state.specs.Finding.{Finds}
use Rattle.c_types_expressions.specs.declared.calls.Signature as signature
use Rattle.c_types_state.specs.Operands.{IsOperand}

-- what is called is such a function or a pointer to one; where it is none, that is violated
abbrev pub IsSignature : State → State → Pos → CType → Option signature.Signature → Type 0
IsSignature old new whole c_type (Some found) =
    (new ≡ old) × Stands old.table found.c_type × Stands old.table found.returned × ListStands old.table found.parameters
    × (decayed c_type ≡ Pointer (Function (type_in old.table found.returned) (types_in old.table found.parameters)))
    × (type_in old.table found.c_type ≡ Function (type_in old.table found.returned) (types_in old.table found.parameters))
IsSignature old new whole c_type None = (known : Known) (arguments : List ArgumentValue) → Finds IsOperand (called_as whole known (decayed c_type) arguments) old new None
