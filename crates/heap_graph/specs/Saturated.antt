-- The graphs of a program with all flags set: names, elements, edges and embeddings are the same.
use Rattle.std.specs.Prelude.{true, map, option_map}
use Rattle.heap_graph.specs.Graphs.{Flags, Node, Graph}
use Rattle.heap_graph.specs.Closed.{Family}

abbrev pub all_flags : Flags
all_flags = record { heap = true; stack = true; global = true; array = true; modified = true; read = true; complete = true; certain = true }

abbrev pub saturated_node : Node → Node
saturated_node node = record node { flags = all_flags }

abbrev pub saturated_graph : Graph → Graph
saturated_graph graph = record graph { nodes = map (option_map saturated_node) graph.nodes }

abbrev pub saturated : Family → Family
saturated family = record family { graphs = record family.graphs { graphs = map saturated_graph family.graphs.graphs; start = saturated_graph family.graphs.start } }
