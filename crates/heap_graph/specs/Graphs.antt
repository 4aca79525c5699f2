-- Heap graphs as plain data: nodes stand for sets of objects, and each name of a pointer or of an object has at most one target (Lattner,
-- Lenharth, Adve: Making Context-Sensitive Points-to Analysis with Heap Cloning Practical For The Real World, PLDI 2007).
use Rattle.std.specs.Prelude.{ℕ, ◌==◌, Bool, true, false, if◌then◌else◌, List, [], ◌∷◌, slice_get, Option, Some, None}
use Rattle.c_typed.specs.Types.{CType}
use Rattle.tac_ir.specs.declared.register.Local.{Local}
use Rattle.tac_ir.specs.declared.register.Register.{Register}
use Rattle.tac_ir.specs.States.{Owner}

-- a node by its number, and a slot of it
pub record Target : Type 0 where
  pub node : ℕ
  pub shift : ℕ

-- What the elements of a node's objects are: not known, of a type, or of several that don't agree. A node of the last kind is collapsed: it
-- has one slot.
pub data Element : Type 0 where
  Missing : Element
  OfType : (c_type : CType) → Element
  Collapsed : Element

-- what its objects are: allocations, locals, or globals and literals; arrays; written, read; and whether all that may point to them is known.
-- While a graph is made, a node is certain unless it may be that of null pointers alone; all nodes of a graph that is made are.
pub record Flags : Type 0 where
  pub heap : Bool
  pub stack : Bool
  pub global : Bool
  pub array : Bool
  pub modified : Bool
  pub read : Bool
  pub complete : Bool
  pub certain : Bool

-- what the pointer at a slot points to
pub record Edge : Type 0 where
  pub slot : ℕ
  pub to : Target

pub record Node : Type 0 where
  pub element : Element
  pub flags : Flags
  pub edges : List Edge

-- what may have a target: a register or the result of a function of the group, a local in memory, a variable outside functions, a literal;
-- and the copy of a node that escapes a function that is called, while the graph of its caller is made
pub data Name : Type 0 where
  OfRegister : (owner : Owner) (register : Register) → Name
  OfResult : (owner : Owner) → Name
  OfObject : (owner : Owner) (local : Local) → Name
  OfGlobal : (number : ℕ) → Name
  OfLiteral : (number : ℕ) → Name
  OfCopy : (number : ℕ) → Name

-- graphs that are made have no targets of copies
abbrev pub is_copy : Name → Bool
is_copy (OfRegister owner register) = false
is_copy (OfResult owner) = false
is_copy (OfObject owner local) = false
is_copy (OfGlobal number) = false
is_copy (OfLiteral number) = false
is_copy (OfCopy number) = true

-- the graph of a group of functions; a number may be that of no node any more
pub record Graph : Type 0 where
  pub nodes : List (Option Node)
  pub targets : Name → Option Target

abbrev pub there : Option (Option Node) → Option Node
there None = None
there (Some node) = node

abbrev pub node_at : Graph → ℕ → Option Node
node_at graph number = there (slice_get graph.nodes number)

-- A call out of a group: the function and the site of the call, and the function that is called. An embedding tells where the nodes that
-- escape that are in the caller's graph.
pub record Crossing : Type 0 where
  pub owner : Owner
  pub site : ℕ
  pub called : ℕ

abbrev pub Embedding : Type 0
Embedding = ℕ → Option Target

-- the groups of functions, each with its graph; the one of `start`, which calls `main`; and the embeddings
pub record ProgramGraphs : Type 0 where
  pub graphs : List Graph
  pub start : Graph
  pub embedding : Crossing → Embedding

-- ---- edges

abbrev pub edge_in : List Edge → ℕ → Option Target
edge_in [] slot = None
edge_in (edge ∷ others) slot = if edge.slot == slot then Some edge.to else edge_in others slot
