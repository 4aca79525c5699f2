-- Variables outside functions and literals that lie in a graph as far apart as in that of a group of functions.
use Rattle.std.specs.Prelude.{◌≡◌, ℕ, Bool, true, false, Option, Some, None}
use Rattle.heap_graph.specs.Graphs.{Target, Node, Name, OfGlobal, OfLiteral, Graph, node_at}
use Rattle.heap_graph.specs.Targets.{shifted, is_collapsed}
use Rattle.heap_graph.specs.Asks.{is_certain}

-- a node is there, and collapsed
abbrev pub is_collapsed_at : Graph → ℕ → Bool
is_collapsed_at graph number = by (node_at graph number)
  where
    by : Option Node → Bool
    by None = false
    by (Some node) = is_collapsed node.element

-- A name with a target in the group's graph has one in the graph, of a certain node, and as many slots behind a place. Its node is collapsed
-- where that in the group's graph is.
pub record IsPlaced (group graph : Graph) (name : Name) (target place : Target) : Type 0 where
  pub at : Target
  pub is : graph.targets name ≡ Some at
  pub certain : is_certain graph (Some at) ≡ true
  pub behind : shifted graph target.shift (Some place) ≡ Some at
  pub collapsed : is_collapsed_at group target.node ≡ true → is_collapsed_at graph at.node ≡ true

-- those in one node of the group's graph are behind one place
pub record AreAligned (group graph : Graph) : Type 0 where
  pub places : ℕ → Target
  pub globals : (number : ℕ) (target : Target) → group.targets (OfGlobal number) ≡ Some target → IsPlaced group graph (OfGlobal number) target (places target.node)
  pub literals : (number : ℕ) (target : Target) → group.targets (OfLiteral number) ≡ Some target → IsPlaced group graph (OfLiteral number) target (places target.node)
