-- A graph of a program that shows the certain nodes of one that was made: all names but copies and all elements are the same, and flags may be more.
use Rattle.std.specs.Prelude.{◌≡◌, ℕ, true, false, Some}
use Rattle.heap_graph.specs.Graphs.{Node, Name, Graph, is_copy, node_at}
use Rattle.heap_graph.specs.Targets.{flags_kept}

pub record ShowsNode (graph : Graph) (number : ℕ) (node : Node) : Type 0 where
  pub now : Node
  pub is : node_at graph number ≡ Some now
  pub element : now.element ≡ node.element
  pub flags : flags_kept node.flags now.flags ≡ true

pub record Shows (kept graph : Graph) : Type 0 where
  pub names : (name : Name) → is_copy name ≡ false → graph.targets name ≡ kept.targets name
  pub nodes : (number : ℕ) (node : Node) → node_at kept number ≡ Some node → ShowsNode graph number node
