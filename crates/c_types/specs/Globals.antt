-- A variable among others: where it stands, and one that is added.
use Rattle.std.specs.Prelude.{◌≡◌, ℕ, suc, if◌then◌else◌, List, [], ◌∷◌, map, Option, Some, None, bytes_eq, option_map}
use Rattle.c_typed.specs.declared.c_type.CType as number
use Rattle.c_typed.specs.declared.definition.First as memory_first
use Rattle.c_typed.specs.declared.definition.GlobalDef as memory_global
use Rattle.c_typed.specs.Table.{Interned, type_in}
use Rattle.c_typed.specs.DefinitionViews.{global_in, all_first}
use Rattle.c_rules.specs.Elaborated.{with_global}

-- the number of the variable of a name
abbrev pub global_number : List memory_global.GlobalDef → List ℕ → Option ℕ
global_number [] name = None
global_number (first ∷ others) name = if bytes_eq first.name name then Some 0 else option_map suc (global_number others name)

-- a variable is added, or stands for one of its name that was there
abbrev pub AddsGlobal : List ℕ → number.CType → List memory_first.First → List memory_global.GlobalDef → List memory_global.GlobalDef → Type 0
AddsGlobal name c_type first old new =
    (table : Interned) → map (global_in table) new ≡ with_global (record { name = name; c_type = type_in table c_type; first = all_first first }) (map (global_in table) old)
