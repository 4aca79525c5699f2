-- What the code of a function asks of its group's graph.
use Rattle.std.specs.Prelude.{◌≡◌, ℕ, true, slice_get, Some}
use Rattle.tac_ir.specs.Code.{Function}
use Rattle.tac_ir.specs.States.{Owner, InFunction}
use Rattle.heap_graph.specs.Closed.{Family, locals_closed, FunctionClosed}
use Rattle.heap_graph.specs.Plain.{plain_closed}
use Rattle.heap_graph.specs.Asked.{AllAsked}

-- its locals in memory, its points that are no calls, and its calls
pub record CodeClosed (family : Family) (owner : Owner) (function : Function) : Type 0 where
  pub locals : locals_closed family owner function.objects ≡ true
  pub points : plain_closed family.tac family owner function.points ≡ true
  pub calls : AllAsked family owner function.points

-- what is asked of the function with this number holds
abbrev pub IsMemberClosed : Family → ℕ → Type 0
IsMemberClosed family number = (function : Function) → slice_get family.tac.functions number ≡ Some function → FunctionClosed family (InFunction number) function
