-- What is told of copies once all types are known.
use Rattle.std.specs.Prelude.{◌≡◌, ◌⊎◌, ℕ, Bool, true, ◌&&◌, Option, Some}
use Rattle.heap_graph.specs.Graphs.{Target, Element, Name, Node, Graph, node_at, OfCopy}
use Rattle.heap_graph.specs.Targets.{at_target, implies, types_differ}

-- what holds allocations is of an array where they are of another type
abbrev pub array_told : Node → Node → ℕ → Bool
array_told node image shift = implies (node.flags.heap && types_differ node.element image.element) image.flags.array

-- this is told of the copy of a node
abbrev pub CopyTold : Graph → Graph → (ℕ → Option ℕ) → ℕ → Type 0
CopyTold graph callee copies number =
    (copy : ℕ) (node : Node) → copies number ≡ Some copy → node_at callee number ≡ Some node → at_target graph (graph.targets (OfCopy copy)) (array_told node) ≡ true

abbrev pub CopiesTold : Graph → Graph → (ℕ → Option ℕ) → Type 0
CopiesTold graph callee copies = (number : ℕ) → CopyTold graph callee copies number

-- a node as it was, but that it may be of an array now
pub record ArrayTold (graph : Graph) (number : ℕ) (node : Node) : Type 0 where
  pub now : Node
  pub is : node_at graph number ≡ Some now
  pub same : now ≡ record node { flags = record node.flags { array = now.flags.array } }
  pub kept : implies node.flags.array now.flags.array ≡ true

-- of some nodes it is told that they are of arrays; all else is as it was
pub record ArraysTold (old new : Graph) : Type 0 where
  pub names : (name : Name) → new.targets name ≡ old.targets name
  pub nodes : (number : ℕ) (node : Node) → node_at old number ≡ Some node → ArrayTold new number node

-- ---- where a copy asks for an array

-- the copy of a node with allocations is at the node of this number, and this element is of another type
pub record AsksCopy (graph callee : Graph) (copies : ℕ → Option ℕ) (number : ℕ) (element : Element) : Type 0 where
  pub from : ℕ
  pub copy : ℕ
  pub of : copies from ≡ Some copy
  pub node : Node
  pub there : node_at callee from ≡ Some node
  pub target : Target
  pub is : graph.targets (OfCopy copy) ≡ Some target
  pub at : target.node ≡ number
  pub asks : (node.flags.heap && types_differ node.element element) ≡ true

-- nodes are of arrays only where they were or that is asked of them
abbrev pub OnlyAsked : (ℕ → Element → Type 0) → Graph → Graph → Type 0
OnlyAsked asked old new = (number : ℕ) (a b : Node) → node_at old number ≡ Some a → node_at new number ≡ Some b → b.flags.array ≡ true → (a.flags.array ≡ true) ⊎ asked number a.element
