-- Other graphs that have a target for each node that is copied.
use Rattle.std.specs.Prelude.{◌≡◌, ℕ, nat_lt, if◌then◌else◌, true, List, [], ◌∷◌, Option, Some}
use Rattle.c_typed.specs.Layouts.{StructDef}
use Rattle.heap_graph.specs.Graphs.{Target, Edge, Node, Name, OfCopy, Graph, node_at}
use Rattle.heap_graph.specs.Targets.{at_target, shifted, edge_at, marks_kept, element_kept}
use Rattle.heap_graph.specs.Closed.{is_slot}
use Rattle.dsa_inlining.specs.Copied.{copied}

-- what is told of a node is told of its target
pub record NodeImage (structs : List StructDef) (other : Graph) (image : Target) (node : Node) : Type 0 where
  pub slot : is_slot other (Some image) ≡ true
  pub element : at_target other (Some image) (element_kept structs node.element) ≡ true
  pub flags : at_target other (Some image) (λ own shift. marks_kept (copied node).flags own.flags) ≡ true

-- what the pointer at a slot of a node points to is where that of its target points to
pub record EdgeImage (other : Graph) (images : ℕ → Target) (number : ℕ) (edge : Edge) : Type 0 where
  pub end : Target
  pub is : shifted other edge.to.shift (Some (images edge.to.node)) ≡ Some end
  pub leads : edge_at other (shifted other edge.slot (Some (images number))) ≡ Some end

abbrev pub EdgeImages : Graph → (ℕ → Target) → ℕ → List Edge → Type 0
EdgeImages other images number [] = Unit {0}
EdgeImages other images number (edge ∷ edges) = EdgeImage other images number edge × EdgeImages other images number edges

-- the targets keep what is told of the nodes that are copied, and their edges
pub record AreImages (structs : List StructDef) (other callee : Graph) (copies : ℕ → Option ℕ) (images : ℕ → Target) : Type 0 where
  pub nodes : (number copy : ℕ) (node : Node) → copies number ≡ Some copy → node_at callee number ≡ Some node → NodeImage structs other (images number) node
  pub edges : (number copy : ℕ) (node : Node) → copies number ≡ Some copy → node_at callee number ≡ Some node → EdgeImages other images number node.edges

-- the graph in which copies with this number or a greater one have these targets
abbrev pub with_copies : Graph → ℕ → (ℕ → Option Target) → Graph
with_copies graph first at = record { nodes = graph.nodes; targets = targets }
  where
    targets : Name → Option Target
    targets (OfCopy copy) = if nat_lt copy first then graph.targets (OfCopy copy) else at copy
    targets name = graph.targets name
