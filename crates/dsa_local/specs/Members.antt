-- A group of functions in memory.
use Rattle.std.specs.Prelude.{◌≡◌, ℕ, ◌==◌, Bool, true, false, slice_get, Option, Some, None}
use Rattle.tac_ir.specs.Code.{Function, Op, Tac}
use Rattle.tac_ir.specs.Views.{tac_of}
use Rattle.heap_graph.specs.Graphs.{Graph}
use Rattle.graph_unification.specs.declared.graph.Graph as memory_graph
use Rattle.graph_unification.specs.Memory.{graph_in}
use Rattle.dsa_local.specs.declared.members.Group.{Group}

abbrev pub code_of : Group → Tac
code_of group = tac_of group.tac.now

-- the graph that it has in memory
abbrev pub shown : Group → memory_graph.Graph → Graph
shown group graph = graph_in group.tac.now.types graph

abbrev pub is_numbered : ℕ → Option ℕ → Bool
is_numbered number None = false
is_numbered number (Some other) = other == number

-- the group has the function
abbrev pub is_inside : Group → ℕ → Bool
is_inside group function = is_numbered group.number (slice_get group.groups.now.group_of.items function)

-- a point of a function of the group
pub record IsOwnPoint (group : Group) (caller : ℕ) (op : Op) : Type 0 where
  pub inside : is_inside group caller ≡ true
  pub function : Function
  pub is : slice_get (code_of group).functions caller ≡ Some function
  pub at : ℕ
  pub point : slice_get function.points at ≡ Some op
