-- The points of a function, and those of `start`, need few operands.
use Rattle.std.proofs.Common.{◌≡◌, ℕ, zero, suc, ◌≤◌, ◌<◌, Bool, true, false, List, [], ◌∷◌, length, Some, None, pos, sym, ap, subst, ◌∙◌, arith}
use Rattle.std.specs.Prelude.{slice_get, bytes_eq, codes, if◌then◌else◌}
use Rattle.std.proofs.lemmas.Option.{none-some, same_Some}
use Rattle.c_typed.specs.Types.{CType, Void, Integer, Pointer, Array, Struct, Function}
use Rattle.c_typed.specs.Typed.{Block, FunctionDef, Program}
use Rattle.c_typed.specs.TypedDepths.{block_depth, functions_depth, program_depth, greatest_depth}
use Rattle.tac_ir.specs.Code.{Constant, Held, AtLocal, IntegerOperand, Known, Op, Tac}
use Rattle.tac_ir.specs.Code as O
use Rattle.tac_ir.specs.declared.register.Register.TheVariants as R
use Rattle.tac_ir.specs.States.{Owner, InStart, InFunction, function_of}
use Rattle.tac_build.specs.Homes.{Home, Scope, takes_block}
use Rattle.tac_build.specs.Spots.{Spot}
use Rattle.tac_build.specs.Code.{path_from}
use Rattle.tac_build.specs.ProgramCode.{parameter_home, stored_argument, ParameterCode, ParametersCode, end_of, first_spot, FunctionCode, FunctionsCode, start_points, Code}
use Rattle.stack_code.specs.Emitting.{operand_height}
use Rattle.c_typed.specs.TypedArguments.{BlockFew, FunctionsFew, CallsFew}
use Rattle.backend_correct.specs.Operands.{greatest_operands, value_operands, op_operands}
use Rattle.backend_correct.proofs.LoweredHeights.Leading.{Leads, leads_then, stays, emits}
use Rattle.backend_correct.proofs.LoweredHeights.Statements.{home_leads, block_leads}

-- ---- parameters

stored_height : (number : ℕ) (own : CType) → operand_height (stored_argument number own) ≤ 1
stored_height number (Integer int_type) = omega arith
stored_height number (Pointer target) = omega arith
stored_height number Void = omega arith
stored_height number (Array element count) = omega arith
stored_height number (Struct tag) = omega arith
stored_height number (Function result parameters) = omega arith

module _ (points : List Op) (body : Block) where
  parameter_leads : (home : Home) (number : ℕ) (from to : Spot) → ParameterCode points home number from to → Leads points from.at to.at
  parameter_leads home number from to code = by home.is_object code
    where
      by : (b : Bool) → ParameterCode points (record home { is_object = b }) number from to → Leads points from.at to.at
      by false code = stays points code
      by true code =
          let low = stored_height number home.c_type in
          leads_then points (home_leads points (record home { is_object = true }) from) (emits points (O.Store (path_from (AtLocal home.local)) home.c_type (stored_argument number home.c_type)) code (omega (arith, low)))

  parameters_lead : (types : List CType) (number : ℕ) (scope : Scope) (from to : Spot) (inner : Scope) → ParametersCode points body types number scope from to inner → Leads points from.at to.at
  parameters_lead [] number scope from to inner code = stays points code.0
  parameters_lead (first ∷ others) number scope from to inner code =
      let home = parameter_home number first (takes_block number body) in
      leads_then points (parameter_leads home number from code.0 code.1) (parameters_lead others (suc number) (home ∷ scope) code.0 to inner code.2)

-- ---- functions

get_below : {A : Type 0} (xs : List A) (number : ℕ) (x : A) → slice_get xs number ≡ Some x → number < length xs
get_below [] number x there = absurd (none-some x there)
get_below (first ∷ xs) zero x there = omega arith
get_below (first ∷ xs) (suc number) x there = let lt = get_below xs number x there in omega (arith, lt)

-- each point needs few operands
abbrev pub PointsFew : O.Function → Type 0
PointsFew function = (number : ℕ) (op : Op) → slice_get function.points number ≡ Some op → op_operands op ≤ greatest_operands

function_few : (program : Program) (def : FunctionDef) (function : O.Function) → block_depth def.body ≤ greatest_depth → BlockFew def.body → FunctionCode program def function → PointsFew function
function_few program def function deep few code number op there =
    let points = function.points in
    let entry = parameters_lead points def.body def.parameters 0 [] first_spot code.inside code.scope code.entry in
    let inner = block_leads program points def.body code.scope code.inside code.last (record { broken = 0; continued = 0 }) deep few code.body in
    let ending = emits points (end_of def.name) code.ending (returned (bytes_eq def.name (codes "main"))) in
    let whole = leads_then points entry (leads_then points inner ending) in
    let long = code.points in
    let low = get_below points number op there in
    whole.covered number op (omega arith) (omega (arith, long, low)) there
  where
    returned : (b : Bool) → value_operands (if b then Some (IntegerOperand (Constant (pos 0))) else None) ≤ greatest_operands
    returned true = omega arith
    returned false = omega arith

functions_few : (program : Program) (defs : List FunctionDef) (functions : List O.Function) (number : ℕ) (function : O.Function) → functions_depth defs ≤ greatest_depth → FunctionsFew defs → FunctionsCode program defs functions
    → slice_get functions number ≡ Some function → PointsFew function
functions_few program [] [] number function deep few code there = absurd (none-some function there)
functions_few program [] (own ∷ functions) number function deep few code there = absurd code
functions_few program (def ∷ defs) [] number function deep few code there = absurd code
functions_few program (def ∷ defs) (own ∷ functions) zero function deep few code there = subst PointsFew (same_Some own function there) (function_few program def own (omega (arith, deep)) few.0 code.0)
functions_few program (def ∷ defs) (own ∷ functions) (suc number) function deep few code there = functions_few program defs functions number function (omega (arith, deep)) few.1 code.1 there

-- ---- `start`

start_few : (program : Program) (tac : Tac) → Code program tac → PointsFew tac.start
start_few program tac code number op there = by number (sym (ap (λ points. slice_get points number) code.start) ∙ there)
  where
    by : (number : ℕ) → slice_get (start_points code.main) number ≡ Some op → op_operands op ≤ greatest_operands
    by zero there = subst (λ op. op_operands op ≤ greatest_operands) (same_Some (O.Call 0 (Known code.main) []) op there) (omega arith)
    by (suc zero) there = subst (λ op. op_operands op ≤ greatest_operands) (same_Some (O.Exit (Held (R.Call 0))) op there) (omega arith)
    by (suc (suc number)) there = absurd (none-some op there)

-- Each point of each function of lowered code needs few operands.
pub points_few : (program : Program) (tac : Tac) → Code program tac → program_depth program ≤ greatest_depth → CallsFew program → (owner : Owner) (function : O.Function) → function_of tac owner ≡ Some function → PointsFew function
points_few program tac code deep few InStart function is = subst PointsFew (same_Some tac.start function is) (start_few program tac code)
points_few program tac code deep few (InFunction number) function is = functions_few program program.functions tac.functions number function deep few code.functions is
