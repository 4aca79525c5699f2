-- Types of elements that have slots.
use Rattle.std.specs.Prelude.{◌<◌}
use Rattle.c_typed.specs.Layouts.{StructDef}
use Rattle.std.specs.Prelude.{List}
use Rattle.heap_graph.specs.Parts.{slots_of}
use Rattle.heap_graph.specs.Graphs.{Element, OfType}

abbrev pub HasSlots : List StructDef → Element → Type 0
HasSlots structs (OfType c_type) = 0 < slots_of structs c_type
HasSlots structs element = Unit {0}
