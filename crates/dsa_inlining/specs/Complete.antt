-- Which nodes escape the functions of a group, in memory, and nodes that are complete.
use Rattle.std.specs.Prelude.{◌≡◌, ◌↔◌, ◌⊎◌, ℕ, ◌<◌, Bool, true, not, List, length, slice_get, Option, Some, option_map}
use Rattle.tac_ir.specs.declared.register.FunctionId.{FunctionId}
use Rattle.heap_graph.specs.declared.frozen.Node.{Node}
use Rattle.heap_graph.specs.declared.frozen.FunctionNames.{FunctionNames}
use Rattle.heap_graph.specs.declared.frozen.FrozenGraph.{FrozenGraph}
use Rattle.heap_graph.specs.Frozen.{node_there}
use Rattle.heap_graph.specs.declared.marks.NodeMarks.{NodeMarks}
use Rattle.heap_graph.specs.Marks.{is_marked, IsOutside, IsMentionedBy}
use Rattle.heap_graph.specs.Edges.{Comes}

-- ---- what escapes

-- one of the owners is a function and not `start`
abbrev pub HasFunction : List (Option FunctionId) → Type 0
HasFunction owners = (place : ℕ) × (function : FunctionId) × (slice_get owners place ≡ Some (Some function))

-- it is the node of a formal or of the result of one of the functions
pub record IsOutsideOne (owners : List (Option FunctionId)) (names : List FunctionNames) (number : ℕ) : Type 0 where
  pub place : ℕ
  pub function : FunctionId
  pub is : slice_get owners place ≡ Some (Some function)
  pub own : FunctionNames
  pub there : slice_get names place ≡ Some own
  pub outside : IsOutside own number

-- it is a node from which callers of the functions begin
abbrev pub IsSeen : FrozenGraph → List (Option FunctionId) → List FunctionNames → ℕ → Type 0
IsSeen graph owners names number = IsOutsideOne owners names number ⊎ (HasFunction owners × IsMentionedBy graph number)

-- of the graph's numbers, exactly those are marked to which callers of the functions may come
pub record AreEscaping (graph : FrozenGraph) (owners : List (Option FunctionId)) (names : List FunctionNames) (marks : NodeMarks) : Type 0 where
  pub size : length marks.marks.items ≡ length graph.nodes.items
  pub exactly : (number : ℕ) → number < length graph.nodes.items
      → (is_marked marks number ≡ true) ↔ ((start : ℕ) × IsSeen graph owners names start × Comes graph.nodes.items start number)

-- ---- complete nodes

abbrev pub with_complete : Bool → Node → Node
with_complete complete node = record node { flags = record node.flags { complete = complete } }

-- of one node it is told whether it is complete
pub record MarksNode (number : ℕ) (complete : Bool) (old new : List (Option Node)) : Type 0 where
  pub size : length new ≡ length old
  pub at : node_there new number ≡ option_map (with_complete complete) (node_there old number)
  pub others : (other : ℕ) → (other ≡ number → ⊥) → node_there new other ≡ node_there old other

-- exactly the nodes that aren't marked are complete
abbrev pub MarksComplete : NodeMarks → List (Option Node) → List (Option Node) → Type 0
MarksComplete marks old new = (number : ℕ) → node_there new number ≡ option_map (with_complete (not (is_marked marks number))) (node_there old number)
