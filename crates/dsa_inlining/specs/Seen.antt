-- The nodes in which variables outside functions, or literals, lie.
use Rattle.std.specs.Prelude.{◌≡◌, ◌⊎◌, ℕ, List, Contains, Some}
use Rattle.indexmap.specs.IndexMap.{IndexMap}
use Rattle.heap_graph.specs.declared.graph.Target as memory_target
use Rattle.heap_graph.specs.Graphs.{Target}
use Rattle.heap_graph.specs.Frozen.{static_in}

module _ {S : Type 0} (targets : IndexMap ℕ memory_target.Target S) where
  -- one of a list lies in the node
  pub record HasListed (numbers : List ℕ) (node : ℕ) : Type 0 where
    pub number : ℕ
    pub among : Contains numbers number
    pub target : Target
    pub is : static_in targets number ≡ Some target
    pub there : target.node ≡ node

  -- The nodes in which they lie are seen. In each that wasn't seen before lies one of the list.
  pub record SeesNodes (before after numbers : List ℕ) : Type 0 where
    pub seen : (number : ℕ) (target : Target) → static_in targets number ≡ Some target → Contains after target.node
    pub first : (node : ℕ) → Contains after node → Contains before node ⊎ HasListed numbers node
