-- Targets whose slot may lie behind all slots of the node.
use Rattle.std.specs.Prelude.{Option, Some, None}
use Rattle.heap_graph.specs.Graphs.{Target}
use Rattle.heap_graph.specs.declared.targets.Reached.{Reached}

abbrev pub reached_of : Reached → Target
reached_of reached = record { node = reached.node; shift = reached.shift }

abbrev pub optional_reached : Option Reached → Option Target
optional_reached None = None
optional_reached (Some reached) = Some (reached_of reached)
