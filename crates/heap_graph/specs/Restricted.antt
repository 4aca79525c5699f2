-- The graph of the certain nodes of a graph.
use Rattle.std.specs.Prelude.{◌≡◌, ℕ, true, false, if◌then◌else◌, Option, Some, None}
use Rattle.heap_graph.specs.Graphs.{Target, Flags, Node, Name, Graph, is_copy, node_at}
use Rattle.heap_graph.specs.Targets.{edge_at}
use Rattle.heap_graph.specs.Asks.{is_certain}

-- a target, unless its node isn't certain
abbrev pub if_certain : Graph → Option Target → Option Target
if_certain graph target = if is_certain graph target then target else None

-- what is told of objects is the same
pub record SameFlags (a b : Flags) : Type 0 where
  pub heap : a.heap ≡ b.heap
  pub stack : a.stack ≡ b.stack
  pub global : a.global ≡ b.global
  pub array : a.array ≡ b.array
  pub modified : a.modified ≡ b.modified
  pub read : a.read ≡ b.read

pub record SameNode (graph : Graph) (number : ℕ) (node : Node) : Type 0 where
  pub now : Node
  pub is : node_at graph number ≡ Some now
  pub element : now.element ≡ node.element
  pub flags : SameFlags now.flags node.flags

-- names, nodes and edges are those of certain nodes alone; of copies nothing is said
pub record Restricts (graph certain : Graph) : Type 0 where
  pub names : (name : Name) → is_copy name ≡ false → certain.targets name ≡ if_certain graph (graph.targets name)
  pub nodes : (number : ℕ) (node : Node) → node_at graph number ≡ Some node → node.flags.certain ≡ true → SameNode certain number node
  pub edges : (target : Target) → is_certain graph (Some target) ≡ true → edge_at certain (Some target) ≡ if_certain graph (edge_at graph (Some target))
