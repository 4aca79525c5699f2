-- What is kept of a graph that was made once it is only read: its certain nodes, the edges between them, and the names that point there.
use Rattle.std.specs.Prelude.{◌≡◌, ◌↔◌, ℕ, Bool, true, false, ◌&&◌, if◌then◌else◌, Option, Some, None}
use Rattle.tac_ir.specs.Code.{Tac}
use Rattle.tac_ir.specs.States.{Owner, InFunction, function_of}
use Rattle.heap_graph.specs.Graphs.{Target, Node, Name, OfRegister, OfResult, OfObject, OfGlobal, OfLiteral, OfCopy, Graph, is_copy, edge_in, node_at}
use Rattle.heap_graph.specs.Escaping.{Escapes}
use Rattle.heap_graph.specs.Closed.{has_register, has_object, of_function, is_name}
use Rattle.heap_graph.specs.Restricted.{if_certain}
use Rattle.graph_unification.specs.Freezing.{EdgesAscend}

-- ---- names

-- a name of the owners' functions, of a variable outside functions or of a literal
abbrev pub is_own : Tac → (Owner → Bool) → Name → Bool
is_own tac owners (OfRegister owner register) = owners owner && of_function (function_of tac owner) (λ function. has_register function register)
is_own tac owners (OfResult owner) = owners owner
is_own tac owners (OfObject owner local) = owners owner && of_function (function_of tac owner) (λ function. has_object function local)
is_own tac owners (OfGlobal number) = true
is_own tac owners (OfLiteral number) = true
is_own tac owners (OfCopy number) = false

-- only names of the owners' functions, of variables, of literals and of copies have targets
abbrev pub AllTold : Tac → (Owner → Bool) → Graph → Type 0
AllTold tac owners graph = (name : Name) (target : Target) → is_copy name ≡ false → graph.targets name ≡ Some target → is_name tac owners name ≡ true

-- ---- nodes

-- a certain node with its edges to certain nodes; that it is complete is told anew
pub record KeepsNode (made : Graph) (node kept : Node) : Type 0 where
  pub certain : node.flags.certain ≡ true
  pub element : kept.element ≡ node.element
  pub flags : kept.flags ≡ record node.flags { complete = kept.flags.complete }
  pub edges : (slot : ℕ) → edge_in kept.edges slot ≡ if_certain made (edge_in node.edges slot)
  pub ascend : EdgesAscend kept.edges

-- a node is left out where it isn't certain
abbrev pub KeepsIf : Graph → Option Node → Option Node → Type 0
KeepsIf made (Some node) (Some kept) = KeepsNode made node kept
KeepsIf made (Some node) None = node.flags.certain ≡ false
KeepsIf made None (Some kept) = ⊥
KeepsIf made None None = Unit {0}

-- callers of none of the functions may come to the node
abbrev pub EscapesNone : Graph → (Owner → Bool) → ℕ → Type 0
EscapesNone graph owners number = (function : ℕ) → owners (InFunction function) ≡ true → Escapes graph (InFunction function) number → ⊥

-- the graph of the certain nodes, with the owners' names; exactly those nodes are complete that escape none of the owners
pub record IsFrozen (tac : Tac) (owners : Owner → Bool) (made kept : Graph) : Type 0 where
  pub names : (name : Name) → kept.targets name ≡ (if is_own tac owners name then if_certain made (made.targets name) else None)
  pub nodes : (number : ℕ) → KeepsIf made (node_at made number) (node_at kept number)
  pub complete : (number : ℕ) (node : Node) → node_at kept number ≡ Some node → (node.flags.complete ≡ true) ↔ EscapesNone kept owners number
