-- Where copies come to in the graphs of a program that are closed.
use Rattle.std.specs.Prelude.{◌≡◌, ℕ, Some}
use Rattle.tac_ir.specs.States.{Owner, InFunction}
use Rattle.heap_graph.specs.Graphs.{Target, Node, node_at}
use Rattle.heap_graph.specs.Targets.{shifted}
use Rattle.heap_graph.specs.Merging.{GraphMap}
use Rattle.heap_graph.specs.Closed.{Family, graph_of, crossing, IsKept}

-- A map leads the node to one of the program's graph of the function that is called, which has an image in the caller's: the copy is there.
pub record CopyPlaced (family : Family) (owner : Owner) (site called : ℕ) (into : GraphMap) (number : ℕ) (at : Target) : Type 0 where
  pub node : Node
  pub there : node_at (graph_of family (InFunction called)) (into number).node ≡ Some node
  pub kept : IsKept family owner (family.graphs.embedding (crossing family owner site called)) (into number).node node
  pub place : shifted (graph_of family owner) (into number).shift (Some kept.at) ≡ Some at
