-- Edges in the order of their slots.
use Rattle.std.specs.Prelude.{nat_lt, if◌then◌else◌, List, [], ◌∷◌}
use Rattle.heap_graph.specs.declared.frozen.Edge as memory_edge

-- an edge stands in front of the first one of a later slot
abbrev pub placed : memory_edge.Edge → List memory_edge.Edge → List memory_edge.Edge
placed edge [] = edge ∷ []
placed edge (other ∷ edges) = if nat_lt edge.slot other.slot then edge ∷ other ∷ edges else other ∷ placed edge edges
