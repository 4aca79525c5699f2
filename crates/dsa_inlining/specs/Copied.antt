-- Copies of the nodes of a function that is called, in the graph of its caller while that is made: the nodes have numbers, and by them each
-- copy that there is has the number of its name.
use Rattle.std.specs.Prelude.{◌≡◌, ℕ, ◌==◌, true, false, List, [], ◌∷◌, Option, Some, None}
use Rattle.c_typed.specs.Layouts.{StructDef}
use Rattle.indexmap.specs.IndexMap.{get_by}
use Rattle.heap_graph.specs.Graphs.{Target, Edge, Node, OfCopy, Graph, node_at}
use Rattle.heap_graph.specs.Targets.{shifted, edge_at}
use Rattle.graph_unification.specs.Adding.{NameFits}
use Rattle.dsa_inlining.specs.declared.copies.Copies as memory_copies

-- the numbers of the copies
abbrev pub numbers_in : memory_copies.Copies → ℕ → Option ℕ
numbers_in copies node = get_by (λ key. node == key) copies.names

-- ---- where copies are

abbrev pub named_copy : Graph → Option ℕ → Option Target
named_copy graph None = None
named_copy graph (Some copy) = graph.targets (OfCopy copy)

-- where the copy of a node is
abbrev pub copy_at : Graph → (ℕ → Option ℕ) → ℕ → Option Target
copy_at graph copies node = named_copy graph (copies node)

-- where a target of the graph of the function that is called is
abbrev pub image : Graph → (ℕ → Option ℕ) → Target → Option Target
image graph copies target = shifted graph target.shift (copy_at graph copies target.node)

-- ---- what is copied

-- What is told of a node's objects is told of its copy, which is certain. That all that points to them is known isn't.
abbrev pub copied : Node → Node
copied node = record { element = node.element; flags = record node.flags { complete = false; certain = true }; edges = [] }

-- each copy keeps what is told of its node
abbrev pub NodesCopied : List StructDef → Graph → Graph → (ℕ → Option ℕ) → Type 0
NodesCopied structs graph callee copies =
    (number copy : ℕ) (node : Node) → copies number ≡ Some copy → node_at callee number ≡ Some node → NameFits structs graph (OfCopy copy) (copied node)

-- what the pointer at a slot of a node points to is where that of its copy points to
pub record EdgeCopied (graph : Graph) (copies : ℕ → Option ℕ) (number : ℕ) (edge : Edge) : Type 0 where
  pub end : Target
  pub is : image graph copies edge.to ≡ Some end
  pub leads : edge_at graph (image graph copies (record { node = number; shift = edge.slot })) ≡ Some end

abbrev pub EdgesCopied : Graph → (ℕ → Option ℕ) → ℕ → List Edge → Type 0
EdgesCopied graph copies number [] = Unit {0}
EdgesCopied graph copies number (edge ∷ edges) = EdgeCopied graph copies number edge × EdgesCopied graph copies number edges

-- so does the copy of this number, if there is one
abbrev pub NodeLinked : Graph → Graph → (ℕ → Option ℕ) → ℕ → Type 0
NodeLinked graph callee copies number = (copy : ℕ) (node : Node) → copies number ≡ Some copy → node_at callee number ≡ Some node → EdgesCopied graph copies number node.edges

-- each copy keeps what is told of its node, and the node's edges
pub record AreCopied (structs : List StructDef) (graph callee : Graph) (copies : ℕ → Option ℕ) : Type 0 where
  pub nodes : NodesCopied structs graph callee copies
  pub edges : (number : ℕ) → NodeLinked graph callee copies number
