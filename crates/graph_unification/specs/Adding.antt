-- How names get nodes of their own.
use Rattle.std.specs.Prelude.{◌≡◌, ℕ, ◌<◌, true, List, [], Option, Some, None}
use Rattle.c_typed.specs.Layouts.{StructDef}
use Rattle.heap_graph.specs.Graphs.{Target, Node, Name, Graph, edge_in, node_at}
use Rattle.heap_graph.specs.Targets.{has_target, at_target, marks_kept, element_kept}
use Rattle.heap_graph.specs.Closed.{is_slot}

-- a name that had no target got a node of its own, without edges, of a number to which nothing led; all else is as it was
pub record AddsName (old new : Graph) (name : Name) (node : Node) : Type 0 where
  pub number : ℕ
  pub had_none : old.targets name ≡ None
  pub fresh : node_at old number ≡ None
  pub unnamed : (other : Name) (target : Target) → old.targets other ≡ Some target → target.node ≡ number → ⊥
  pub unreached : (at slot : ℕ) (from : Node) (to : Target) → node_at old at ≡ Some from → edge_in from.edges slot ≡ Some to → to.node ≡ number → ⊥
  pub at : node_at new number ≡ Some node
  pub bare : node.edges ≡ []
  pub target : new.targets name ≡ Some (record { node = number; shift = 0 })
  pub nodes : (other : ℕ) → (other ≡ number → ⊥) → node_at new other ≡ node_at old other
  pub names : (other : Name) → (other ≡ name → ⊥) → new.targets other ≡ old.targets other

-- it did where it had no target; where it has one, nothing is changed
pub data AddsMissing (old new : Graph) (name : Name) (node : Node) : Type 0 where
  Added : AddsName old new name node → AddsMissing old new name node
  Had : (target : Target) → old.targets name ≡ Some target → new ≡ old → AddsMissing old new name node

-- some of the names for which there is a first node got that
pub data AddsSome (first : Name → Option Node) (old : Graph) : Graph → Type 0 where
  Same : AddsSome first old old
  More : (middle new : Graph) (name : Name) (node : Node) → AddsSome first old middle → first name ≡ Some node → AddsName middle new name node → AddsSome first old new

-- so many names, each by its number, got their nodes, unless they had targets
pub record AddsEach (old new : Graph) (name_at : ℕ → Name) (first_at : ℕ → Node) (count : ℕ) : Type 0 where
  pub adds : (first : Name → Option Node) → ((number : ℕ) → number < count → first (name_at number) ≡ Some (first_at number)) → AddsSome first old new
  pub has : (number : ℕ) → number < count → has_target (new.targets (name_at number)) ≡ true

-- a name has a target at the first slot of a new node, which no other name has
pub record HasOwnNode (old new : Graph) (name : Name) (node : Node) : Type 0 where
  pub number : ℕ
  pub target : new.targets name ≡ Some (record { node = number; shift = 0 })
  pub fresh : node_at old number ≡ None
  pub at : node_at new number ≡ Some node
  pub alone : (other : Name) (target : Target) → new.targets other ≡ Some target → target.node ≡ number → other ≡ name

-- ---- other graphs

-- in another graph the target of the name keeps what the node has
pub record NameFits (structs : List StructDef) (other : Graph) (name : Name) (node : Node) : Type 0 where
  pub target : Target
  pub is : other.targets name ≡ Some target
  pub slot : is_slot other (Some target) ≡ true
  pub element : at_target other (Some target) (element_kept structs node.element) ≡ true
  pub flags : at_target other (Some target) (λ image shift. marks_kept node.flags image.flags) ≡ true

-- so do those of all names that have a first node
abbrev pub NamesFit : List StructDef → Graph → (Name → Option Node) → Type 0
NamesFit structs other first = (name : Name) (node : Node) → first name ≡ Some node → NameFits structs other name node
