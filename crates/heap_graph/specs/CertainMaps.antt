-- Maps of the certain nodes of a graph that is being made to a graph that is made.
use Rattle.std.specs.Prelude.{◌≡◌, ℕ, true, List, Some}
use Rattle.c_typed.specs.Layouts.{StructDef}
use Rattle.heap_graph.specs.Graphs.{Target, Node, Name, Graph, edge_in, node_at}
use Rattle.heap_graph.specs.Targets.{at_target, shifted, edge_at, flags_kept, element_kept}
use Rattle.heap_graph.specs.Merging.{GraphMap, mapped}
use Rattle.heap_graph.specs.Asks.{is_certain}

-- names, elements, flags and edges of certain nodes are kept
pub record MapsCertain (structs : List StructDef) (made graph : Graph) (into : GraphMap) : Type 0 where
  pub names : (name : Name) (target : Target) → made.targets name ≡ Some target → is_certain made (Some target) ≡ true → graph.targets name ≡ mapped graph into target
  pub elements : (number : ℕ) (node : Node) → node_at made number ≡ Some node → node.flags.certain ≡ true → at_target graph (Some (into number)) (element_kept structs node.element) ≡ true
  pub flags : (number : ℕ) (node : Node) → node_at made number ≡ Some node → node.flags.certain ≡ true → at_target graph (Some (into number)) (λ image shift. flags_kept node.flags image.flags) ≡ true
  pub edges : (number slot : ℕ) (node : Node) (to : Target) → node_at made number ≡ Some node → node.flags.certain ≡ true → edge_in node.edges slot ≡ Some to → is_certain made (Some to) ≡ true
      → edge_at graph (shifted graph slot (Some (into number))) ≡ mapped graph into to
