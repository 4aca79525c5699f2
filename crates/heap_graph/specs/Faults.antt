-- What is asked of one group of functions and its graph, and the first group of which it doesn't hold.
use Rattle.std.specs.Prelude.{◌≡◌, ℕ, ◌<◌, true, List, length, slice_get, Option, Some, None}
use Rattle.tac_ir.specs.Code.{Function}
use Rattle.tac_ir.specs.States.{InStart, InFunction}
use Rattle.heap_graph.specs.Closed.{Family, is_in, group_of, graph_of, FunctionClosed, GraphClosed, first_closed, is_start, of_group}

-- of the group of this number
pub record GroupClosed (family : Family) (number : ℕ) : Type 0 where
  pub functions : (own : ℕ) (function : Function) → slice_get family.tac.functions own ≡ Some function → group_of family own ≡ number → FunctionClosed family (InFunction own) function
  pub graph : (one : ℕ) (group : List ℕ) → slice_get family.groups number ≡ Some group → is_in one group ≡ true
      → GraphClosed family (graph_of family (InFunction one)) (of_group group) (InFunction one)

pub record StartClosed (family : Family) : Type 0 where
  pub start : FunctionClosed family InStart family.tac.start
  pub first : first_closed family 0 family.tac.globals ≡ true
  pub last : GraphClosed family family.graphs.start is_start InStart

-- each function of the program is in a group
abbrev pub AreGrouped : Family → Type 0
AreGrouped family = (number : ℕ) → number < length family.tac.functions → group_of family number < length family.groups

-- the first group of which something that is asked doesn't hold; or of no group, but of `start`
abbrev pub IsFirstFault : Family → Option ℕ → Type 0
IsFirstFault family (Some number) = (number < length family.groups) × ((before : ℕ) → before < number → GroupClosed family before) × (GroupClosed family number → ⊥)
IsFirstFault family None = ((number : ℕ) → number < length family.groups → GroupClosed family number) × (StartClosed family → ⊥)
