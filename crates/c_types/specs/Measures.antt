-- What is measured of a type.
use Rattle.std.specs.Prelude.{ℕ, List, map, Option}
use Rattle.run_theory.specs.declared.place.Pos.{Pos}
use Rattle.c_typed.specs.Types.{CType}
use Rattle.c_typed.specs.Layouts.{Table, layouts}
use Rattle.c_typed.specs.Table.{Interned, structs_in}
use Rattle.c_typed.specs.declared.definition.Program as memory_program
use Rattle.c_typed.specs.DefinitionViews.{global_in, literal_of}
use Rattle.c_types_expressions.specs.declared.pass.NamedType as memory_named
use Rattle.c_types_expressions.specs.Passes.{named_type}
use Rattle.c_types.specs.declared.limits.Measure.{Measure}
use Rattle.c_types.specs.declared.limits.Measure.TheVariants.{Parameters, Slots, Size}
use Rattle.c_types.specs.Limits.{Excess, added, parameters_of, slots_of, size_of, first_above, first_excess, excess_count, globals_size, literals_size}

abbrev pub measured : Table → Measure → CType → ℕ
measured table Parameters c_type = parameters_of c_type
measured table Slots c_type = slots_of table c_type
measured table Size c_type = size_of table c_type

-- what is measured of the first of these types that is greater
abbrev pub above_in : Interned → Measure → ℕ → List CType → Option ℕ
above_in table measure greatest types = first_above greatest (map (measured (layouts (structs_in table)) measure) types)

-- and of the first that a text names
abbrev pub excess_in : Interned → Measure → ℕ → List memory_named.NamedType → Option ℕ
excess_in table measure greatest named = excess_count (first_excess (measured (layouts (structs_in table)) measure) greatest (map (named_type table) named))

-- the size of all variables outside functions and all literals
abbrev pub size_of_statics : memory_program.Program → ℕ
size_of_statics program =
    added (globals_size (layouts (structs_in program.types)) (map (global_in program.types) program.globals.items)) (literals_size (map literal_of program.literals.items))

abbrev pub excess_of : Pos × ℕ → Excess
excess_of pair = record { place = pair.0; count = pair.1 }
