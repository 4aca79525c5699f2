-- What is closed and the least below a number is so below each smaller one; and a closed family is closed below each number.
use Rattle.std.proofs.Common.{◌≡◌, ℕ, ◌≤◌, subst, arith, lt-ltb, ltb-true}
use Rattle.std.specs.Prelude.{Some}
use Rattle.std.proofs.lemmas.Option.{same_Some}
use Rattle.tac_ir.specs.Code.{Function}
use Rattle.tac_ir.specs.States.{Owner, InStart, InFunction, function_of}
use Rattle.heap_graph.specs.Closed.{Family, group_of, FunctionClosed, Closed}
use Rattle.heap_graph.proofs.Split.{group_closed}
use Rattle.dsa_bottom_up.specs.Below.{ClosedBelow, LeastBelow}

pub closed_less : (family : Family) (number less : ℕ) → less ≤ number → ClosedBelow family number → ClosedBelow family less
closed_less family number less within closed = record {
  groups = λ at below. closed.groups at (omega (arith, below, within));
  classes = λ pointer c_type a b called one other below.
      closed.classes pointer c_type a b called one other (let under = ltb-true (group_of family a) less below in lt-ltb (group_of family a) number (omega (arith, under, within)));
}

pub least_less : (family : Family) (number less : ℕ) → less ≤ number → LeastBelow family number → LeastBelow family less
least_less family number less within least graphs at reach closed = least graphs at (omega (arith, reach, within)) closed

pub closed_below : (family : Family) → Closed family → (number : ℕ) → ClosedBelow family number
closed_below family closed number = record {
  groups = λ at below. group_closed family closed at;
  classes = λ pointer c_type a b called one other below.
      (function_closed called.caller called.function called.is).classes called.site pointer c_type called.arguments called.at a b called.point one other;
}
  where
    function_closed : (owner : Owner) (function : Function) → function_of family.tac owner ≡ Some function → FunctionClosed family owner function
    function_closed InStart function is = subst (FunctionClosed family InStart) (same_Some family.tac.start function is) closed.start
    function_closed (InFunction number) function is = closed.functions number function is
