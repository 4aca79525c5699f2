-- The operands that the code of a program has at once are few, so that each function's height fits an image.
use Rattle.std.proofs.Common.{◌≡◌, ℕ, zero, suc, ◌+◌, ◌≤◌, List, [], ◌∷◌, length, map, Some, None, refl, subst, arith}
use Rattle.std.specs.Prelude.{slice_get}
use Rattle.std.proofs.lemmas.Option.{none-some, same_Some}
use Rattle.c_typed.specs.Types.{CType}
use Rattle.c_typed.specs.Typed.{Program}
use Rattle.c_typed.specs.TypedDepths.{program_depth, greatest_depth}
use Rattle.tac_ir.specs.Code.{Path, Tac}
use Rattle.tac_ir.specs.Code as O
use Rattle.tac_ir.specs.States.{Owner, InStart, InFunction}
use Rattle.tac_build.specs.ProgramCode.{Code}
use Rattle.pool_ir.specs.Code.{FrameLayout, Function}
use Rattle.pool_ir.specs.States.{function_of}
use Rattle.pool_rewrite.specs.Plan.{FunctionPlan, one_pool_function, one_pool_start, one_pool}
use Rattle.pool_rewrite.specs.Rewriting.{base_of, step_of, steps_of, path_of, op_of, functions_of, rewritten}
use Rattle.pool_rewrite.specs.Rewriting as rewriting
use Rattle.stack_code.specs.Emitting.{base_height, steps_height, path_height, preparing_height, greatest_height, height_of}
use Rattle.c_typed.specs.TypedArguments.{CallsFew}
use Rattle.backend_correct.specs.Operands.{greatest_operands, base_operands, steps_operands, path_operands, op_operands}
use Rattle.backend_correct.proofs.LoweredHeights.Functions.{PointsFew, points_few}

-- ---- points

module _ (tac : Tac) (plan : FunctionPlan) (own : List O.LocalObject) (frame : FrameLayout) where
  base_fits : (base : O.Base) → base_height (base_of tac own frame base).part ≤ base_operands base + 3
  base_fits (O.AtLocal local) = omega arith
  base_fits (O.AtGlobal number) = omega arith
  base_fits (O.AtLiteral number) = omega arith
  base_fits (O.Pointed pointer target) = omega arith
  base_fits (O.Indexed pointer target number) = omega arith

  steps_fit : (c_type : CType) (steps : List O.Step) → steps_height (steps_of tac.structs c_type steps) ≤ steps_operands steps + 3
  steps_fit c_type [] = omega arith
  steps_fit c_type (O.Member number ∷ others) = let rest = steps_fit (step_of tac.structs c_type (O.Member number)).c_type others in omega (arith, rest)
  steps_fit c_type (O.Element index ∷ others) = let rest = steps_fit (step_of tac.structs c_type (O.Element index)).c_type others in omega (arith, rest)

  path_fits : (path : Path) → path_height (path_of tac own frame path) ≤ path_operands path + 3
  path_fits path =
      let base = base_fits path.base in
      let steps = steps_fit (base_of tac own frame path.base).c_type path.steps in
      omega (arith, base, steps)

  -- beside the operands of its parts a point needs four, and one for each pool that it passes
  op_fits : (op : O.Op) → ((site : ℕ) → length (plan.passes site) ≤ 1) → preparing_height (op_of tac plan own frame op) ≤ op_operands op + 4
  op_fits O.Reserved passes = omega arith
  op_fits (O.Jump to) passes = omega arith
  op_fits (O.Branch int_type condition holds fails) passes = omega arith
  op_fits (O.Assign to tree) passes = omega arith
  op_fits (O.Null to) passes = omega arith
  op_fits (O.FunctionAddress to number) passes = omega arith
  op_fits (O.Copy to from) passes = omega arith
  op_fits (O.Test to pointer) passes = omega arith
  op_fits (O.Move to pointer element is_minus number) passes = omega arith
  op_fits (O.Difference to element left right) passes = omega arith
  op_fits (O.ComparePointers to relation left right) passes = omega arith
  op_fits (O.Repoint to target from) passes = omega arith
  op_fits (O.AddressOf to path) passes = let fits = path_fits path in omega (arith, fits)
  op_fits (O.Load to scalar path) passes = let fits = path_fits path in omega (arith, fits)
  op_fits (O.Store path scalar value) passes = let fits = path_fits path in omega (arith, fits)
  op_fits (O.Allocate site size) passes = omega arith
  op_fits (O.Free site pointer) passes = omega arith
  op_fits (O.Call site callee arguments) passes = let pools = passes site in omega (arith, pools)
  op_fits (O.GetChar site) passes = omega arith
  op_fits (O.PutChar site value) passes = omega arith
  op_fits (O.Exit status) passes = omega arith
  op_fits (O.Return None) passes = omega arith
  op_fits (O.Return (Some value)) passes = omega arith

  points_fit : (points : List O.Op) → ((site : ℕ) → length (plan.passes site) ≤ 1) → ((number : ℕ) (op : O.Op) → slice_get points number ≡ Some op → op_operands op ≤ greatest_operands)
      → greatest_height (map (op_of tac plan own frame) points) ≤ greatest_operands + 4
  points_fit [] passes few = omega arith
  points_fit (first ∷ others) passes few =
      let low = few 0 first refl in
      let fits = op_fits first passes in
      let rest = points_fit others passes (λ number op there. few (suc number) op there) in
      omega (arith, low, fits, rest)

-- ---- functions

abbrev Fits : Function → Type 0
Fits function = height_of function ≤ 65536

module _ (tac : Tac) where
  function_fits : (plan : FunctionPlan) (function : O.Function) → ((site : ℕ) → length (plan.passes site) ≤ 1) → PointsFew function → Fits (rewriting.function_of tac plan function)
  function_fits plan function passes few = let fits = points_fit tac plan function.objects (rewriting.function_of tac plan function).frame function.points passes few in omega (arith, fits)

  functions_fit : (functions : List O.Function) → ((number : ℕ) (function : O.Function) → slice_get functions number ≡ Some function → PointsFew function) → (number : ℕ) (made : Function)
      → slice_get (functions_of tac (map one_pool_function functions) functions) number ≡ Some made → Fits made
  functions_fit [] few number made there = absurd (none-some made there)
  functions_fit (first ∷ others) few zero made there =
      subst Fits (same_Some (rewriting.function_of tac (one_pool_function first) first) made there) (function_fits (one_pool_function first) first (λ site. omega arith) (few 0 first refl))
  functions_fit (first ∷ others) few (suc number) made there = functions_fit others (λ number function is. few (suc number) function is) number made there

-- The height of each function of the code with one pool fits an image, where no expression nests deep and no call has many arguments.
pub heights_fit : (program : Program) (tac : Tac) → Code program tac → program_depth program ≤ greatest_depth → CallsFew program → (owner : Owner) (function : Function)
    → function_of (rewritten (one_pool tac) tac) owner ≡ Some function → height_of function ≤ 65536
heights_fit program tac code deep few InStart made is =
    subst Fits (same_Some (rewriting.function_of tac one_pool_start tac.start) made is) (function_fits tac one_pool_start tac.start (λ site. omega arith) (points_few program tac code deep few InStart tac.start refl))
heights_fit program tac code deep few (InFunction number) made is =
    functions_fit tac tac.functions (λ number function there. points_few program tac code deep few (InFunction number) function there) number made is
