-- Graphs in which flags are set and nothing else is changed.
use Rattle.std.specs.Prelude.{◌≡◌, ◌⊎◌, ℕ, true, Some, None}
use Rattle.heap_graph.specs.Graphs.{Element, Flags, Node, Name, Graph, node_at}

-- what was told of objects is told still, and the same nodes are certain
pub record FlagsGrow (old new : Flags) : Type 0 where
  pub heap : old.heap ≡ true → new.heap ≡ true
  pub stack : old.stack ≡ true → new.stack ≡ true
  pub global : old.global ≡ true → new.global ≡ true
  pub array : old.array ≡ true → new.array ≡ true
  pub modified : old.modified ≡ true → new.modified ≡ true
  pub read : old.read ≡ true → new.read ≡ true
  pub certain : new.certain ≡ old.certain

pub record NodeGrows (old new : Node) : Type 0 where
  pub element : new.element ≡ old.element
  pub edges : new.edges ≡ old.edges
  pub flags : FlagsGrow old.flags new.flags

-- a node with more flags is there
pub record IsGrown (graph : Graph) (number : ℕ) (node : Node) : Type 0 where
  pub now : Node
  pub is : node_at graph number ≡ Some now
  pub grows : NodeGrows node now

pub record OnlyFlagsGrow (old new : Graph) : Type 0 where
  pub names : (name : Name) → new.targets name ≡ old.targets name
  pub nodes : (number : ℕ) (node : Node) → node_at old number ≡ Some node → IsGrown new number node
  pub none : (number : ℕ) → node_at old number ≡ None → node_at new number ≡ None

-- ---- arrays

-- a node as it was, but that it may be of an array now, where that is asked
pub record GetsArray (asked : Type 0) (old new : Node) : Type 0 where
  pub same : new ≡ record old { flags = record old.flags { array = new.flags.array } }
  pub only : new.flags.array ≡ true → (old.flags.array ≡ true) ⊎ asked

-- nodes are of arrays only where they were or that is asked of them; nothing else is told
abbrev pub OnlyArrays : (ℕ → Element → Type 0) → Graph → Graph → Type 0
OnlyArrays asked old new = (number : ℕ) (a b : Node) → node_at old number ≡ Some a → node_at new number ≡ Some b → GetsArray (asked number a.element) a b
