-- Which nodes of a group's graph escape a function: those to which its callers may come.
use Rattle.std.specs.Prelude.{◌≡◌, ℕ, ◌==◌, Bool, true, false, Some}
use Rattle.tac_ir.specs.declared.register.Local.TheVariants as L
use Rattle.tac_ir.specs.declared.register.Register.TheVariants as R
use Rattle.tac_ir.specs.States.{Owner, InStart, InFunction}
use Rattle.heap_graph.specs.Graphs.{Target, Node, Name, OfRegister, OfResult, OfGlobal, OfLiteral, Graph, edge_in, node_at}

abbrev pub same_owner : Owner → Owner → Bool
same_owner InStart InStart = true
same_owner (InFunction a) (InFunction b) = a == b
same_owner _ _ = false

-- from a node to a node along edges
pub data Reaches (graph : Graph) : ℕ → ℕ → Type 0 where
  here : (node : ℕ) → Reaches graph node node
  along : (from last : ℕ) (node : Node) (slot : ℕ) (to : Target) → node_at graph from ≡ Some node → edge_in node.edges slot ≡ Some to → Reaches graph to.node last
      → Reaches graph from last

-- what callers see of a function: its formals and its result, and the variables outside functions and literals that the group mentions
abbrev pub is_outside : Owner → Name → Bool
is_outside owner (OfRegister own (R.Local (L.Parameter number))) = same_owner own owner
is_outside owner (OfResult own) = same_owner own owner
is_outside owner (OfGlobal number) = true
is_outside owner (OfLiteral number) = true
is_outside owner name = false

pub record Escapes (graph : Graph) (owner : Owner) (node : ℕ) : Type 0 where
  pub name : Name
  pub outside : is_outside owner name ≡ true
  pub target : Target
  pub is : graph.targets name ≡ Some target
  pub reaches : Reaches graph target.node node
