-- Nodes of a graph that was made, and for what they stand.
use Rattle.std.specs.Prelude.{◌≡◌, ℕ, Bool, true, Some}
use Rattle.tac_ir.specs.States.{Owner}
use Rattle.heap_graph.specs.Graphs.{Target, Node, Name, OfCopy, Graph, Crossing, node_at}
use Rattle.heap_graph.specs.Closed.{Family, IsCrossing}
use Rattle.heap_graph.specs.Asks.{is_certain}

-- each node is that of a name's target
abbrev pub AreNamed : Graph → Type 0
AreNamed graph = (number : ℕ) (node : Node) → node_at graph number ≡ Some node → (name : Name) × (target : Target) × (graph.targets name ≡ Some target) × (target.node ≡ number)

-- it is where the embedding of a call out of the owners' group has a node
pub record IsImage (family : Family) (owners : Owner → Bool) (target : Target) : Type 0 where
  pub at : Crossing
  pub own : owners at.owner ≡ true
  pub crossing : IsCrossing family at
  pub node : ℕ
  pub is : family.graphs.embedding at node ≡ Some target

-- the targets of all copies are those of images, where their nodes are certain
abbrev pub CopiesAreImages : Family → (Owner → Bool) → Graph → Type 0
CopiesAreImages family owners graph = (number : ℕ) (target : Target) → graph.targets (OfCopy number) ≡ Some target → is_certain graph (Some target) ≡ true → IsImage family owners target
