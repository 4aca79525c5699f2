-- The steps by which nodes are copied.
use Rattle.std.specs.Prelude.{◌≡◌, ℕ, ◌+◌, List, Option, Some, None}
use Rattle.c_typed.specs.Layouts.{StructDef}
use Rattle.heap_graph.specs.Graphs.{Target, Edge, Node, Name, Graph, node_at, OfCopy}
use Rattle.heap_graph.specs.Targets.{has_target}
use Rattle.heap_graph.specs.Merging.{IsSlot, GraphMap, Maps}
use Rattle.graph_unification.specs.Adding.{AddsName}
use Rattle.graph_unification.specs.Going.{GoesOn}
use Rattle.dsa_inlining.specs.Copied.{copied, NodesCopied, EdgeCopied}
use Rattle.dsa_inlining.specs.Adding.{AreFree, NamesStay, LeadsCopied}

-- ---- nodes

-- A node that has a copy already, or isn't there, gets none; else it gets one, whose name has the next number.
pub data GetsCopy (old new callee : Graph) (before after : ℕ → Option ℕ) (number next last : ℕ) : Type 0 where
  Stays : new ≡ old → ((other : ℕ) → after other ≡ before other) → last ≡ next → ((node : Node) → node_at callee number ≡ Some node → (copy : ℕ) × (before number ≡ Some copy))
      → GetsCopy old new callee before after number next last
  Gets : (node : Node) → node_at callee number ≡ Some node → before number ≡ None → after number ≡ Some next → ((other : ℕ) → (other ≡ number → ⊥) → after other ≡ before other) → last ≡ next + 1
      → AddsName old new (OfCopy next) (copied node) → GetsCopy old new callee before after number next last

-- nodes got copies without edges
pub record NodesAdded (structs : List StructDef) (old new callee : Graph) (copies : ℕ → Option ℕ) (first next : ℕ) : Type 0 where
  pub goes : GoesOn structs old new
  pub names : NamesStay old new first
  pub free : AreFree new next
  pub copied : NodesCopied structs new callee copies
  pub leads : (other : Graph) (into : GraphMap) → Maps structs old other into → NodesCopied structs other callee copies → (rest : GraphMap) × Maps structs new other rest

-- ---- edges

-- a target is there, and a slot
pub record LeadsToSlot (structs : List StructDef) (graph : Graph) (target : Option Target) : Type 0 where
  pub place : Target
  pub is : target ≡ Some place
  pub slot : IsSlot structs graph place

-- copies got edges
pub record EdgesAdded (structs : List StructDef) (old new callee : Graph) (copies : ℕ → Option ℕ) : Type 0 where
  pub goes : GoesOn structs old new
  pub names : (name : Name) → has_target (new.targets name) ≡ has_target (old.targets name)
  pub leads : LeadsCopied structs old new callee copies

-- one edge of a node's copy was set
pub record LinksOne (structs : List StructDef) (old new : Graph) (copies : ℕ → Option ℕ) (number : ℕ) (edge : Edge) : Type 0 where
  pub goes : GoesOn structs old new
  pub names : (name : Name) → has_target (new.targets name) ≡ has_target (old.targets name)
  pub linked : EdgeCopied new copies number edge
  pub leads : (other : Graph) (into : GraphMap) → Maps structs old other into → EdgeCopied other copies number edge → (rest : GraphMap) × Maps structs new other rest
