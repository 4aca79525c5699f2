-- Parts of objects, in memory.
use Rattle.std.specs.Prelude.{ℕ, slice_get}
use Rattle.c_typed.specs.Table.{Interned, type_in}
use Rattle.tac_ir.specs.Code.{Tac}
use Rattle.tac_ir.specs.Objects.{global_type, literal_object}
use Rattle.heap_graph.specs.Targets.{Part}
use Rattle.heap_graph.specs.Points.{type_of_inner}
use Rattle.heap_graph.specs.Frozen.{optional_target, static_in}
use Rattle.heap_graph.specs.Reached.{optional_reached}
use Rattle.heap_graph.specs.declared.frozen.FrozenGraph.{FrozenGraph}
use Rattle.heap_graph.specs.declared.parts.Root.{Root}
use Rattle.heap_graph.specs.declared.parts.Part as memory_part

abbrev pub root_in : Interned → Root → Part
root_in table root = record { target = optional_target root.target; c_type = type_in table root.c_type }

abbrev pub part_in : Interned → memory_part.Part → Part
part_in table part = record { target = optional_reached part.target; c_type = type_in table part.c_type }

-- the variable outside functions of a number
abbrev pub global_part : Tac → FrozenGraph → ℕ → Part
global_part tac graph number = record { target = static_in graph.globals number; c_type = type_of_inner (global_type (slice_get tac.globals number)) }

-- the literal of a number
abbrev pub literal_part : Tac → FrozenGraph → ℕ → Part
literal_part tac graph number = record { target = static_in graph.literals number; c_type = type_of_inner (literal_object (slice_get tac.literals number)) }
