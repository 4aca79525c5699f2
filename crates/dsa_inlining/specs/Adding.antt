-- How nodes that escape a function are copied into the graph of its caller.
use Rattle.std.specs.Prelude.{◌≡◌, ℕ, ◌<◌, ◌≤◌, List, Contains, Option, Some, None}
use Rattle.c_typed.specs.Layouts.{StructDef}
use Rattle.heap_graph.specs.Graphs.{Node, Name, Graph, node_at, OfCopy}
use Rattle.heap_graph.specs.Targets.{has_target}
use Rattle.heap_graph.specs.Merging.{slots, GraphMap, Maps}
use Rattle.heap_graph.specs.declared.frozen.Node as memory_node
use Rattle.heap_graph.specs.Edges.{LeadsTo}
use Rattle.dsa_inlining.specs.Copied.{AreCopied}

-- ---- what is known of the function that is called

-- what is told of nodes has slots
abbrev pub HaveSlots : List StructDef → Graph → Type 0
HaveSlots structs graph = (number : ℕ) (node : Node) → node_at graph number ≡ Some node → 0 < slots structs node.element

-- edges of these nodes lead to these nodes
abbrev pub AreClosed : List (Option memory_node.Node) → List ℕ → Type 0
AreClosed nodes numbers = (from to : ℕ) → Contains numbers from → LeadsTo nodes from to → Contains numbers to

-- ---- names of copies

-- copies with this number or a greater one have no targets
abbrev pub AreFree : Graph → ℕ → Type 0
AreFree graph first = (copy : ℕ) → first ≤ copy → graph.targets (OfCopy copy) ≡ None

-- each of these nodes has one copy, with a number from the one on and below the other, and each such number is that of one copy
pub record AreNumbered (callee : Graph) (nodes : List ℕ) (copies : ℕ → Option ℕ) (first next : ℕ) : Type 0 where
  pub all : (number : ℕ) (node : Node) → Contains nodes number → node_at callee number ≡ Some node → (copy : ℕ) × (copies number ≡ Some copy)
  pub only : (number copy : ℕ) → copies number ≡ Some copy → Contains nodes number × ((node : Node) × (node_at callee number ≡ Some node))
  pub within : (number copy : ℕ) → copies number ≡ Some copy → (first ≤ copy) × (copy < next)
  pub apart : (a b copy : ℕ) → copies a ≡ Some copy → copies b ≡ Some copy → a ≡ b
  pub each : (copy : ℕ) → first ≤ copy → copy < next → (number : ℕ) × (copies number ≡ Some copy)

-- ---- graphs

-- no other names than such copies got targets or lost theirs
abbrev pub NamesStay : Graph → Graph → ℕ → Type 0
NamesStay old new first = (name : Name) → ((copy : ℕ) → first ≤ copy → name ≡ OfCopy copy → ⊥) → has_target (new.targets name) ≡ has_target (old.targets name)

-- a map of the old graph to another one, in which the nodes are copied too, gives one of the new graph
abbrev pub LeadsCopied : List StructDef → Graph → Graph → Graph → (ℕ → Option ℕ) → Type 0
LeadsCopied structs old new callee copies =
    (other : Graph) (into : GraphMap) → Maps structs old other into → AreCopied structs other callee copies → (rest : GraphMap) × Maps structs new other rest
