-- The least graphs but for flags: into each other closed family there is a map.
use Rattle.heap_graph.specs.Graphs.{ProgramGraphs}
use Rattle.heap_graph.specs.Closed.{Family, Closed}
use Rattle.heap_graph.specs.Least.{NodeMap, IsMap}

-- a family has a map to each other closed family of the program and its groups
abbrev pub IsSmallest : Family → Type 0
IsSmallest family = (graphs : ProgramGraphs) → Closed (record family { graphs = graphs }) → (map : NodeMap) × IsMap family (record family { graphs = graphs }) map
