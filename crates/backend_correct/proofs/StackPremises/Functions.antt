-- The points of a function, and those of `start`, name only its registers.
use Rattle.std.proofs.Common.{◌≡◌, ℕ, zero, suc, ◌+◌, ◌≤◌, ◌<◌, Bool, true, false, List, [], ◌∷◌, length, Some, None, pos, sym, ap, subst, ◌∙◌, arith}
use Rattle.std.specs.Prelude.{slice_get, bytes_eq, codes, if◌then◌else◌}
use Rattle.std.proofs.lemmas.Option.{none-some, same_Some}
use Rattle.c_typed.specs.Types.{CType, Void, Integer, Pointer, Array, Struct, Function}
use Rattle.c_typed.specs.Typed.{Block, FunctionDef, Program}
use Rattle.tac_ir.specs.declared.program.Counts.{Counts}
use Rattle.tac_ir.specs.declared.register.Register.TheVariants as R
use Rattle.tac_ir.specs.Code.{Constant, Held, AtLocal, IntegerOperand, Known, Op, Tac}
use Rattle.tac_ir.specs.Code as O
use Rattle.tac_ir.specs.States.{Owner, InStart, InFunction, function_of}
use Rattle.tac_build.specs.Homes.{Home, Scope, takes_block}
use Rattle.tac_build.specs.Spots.{Spot}
use Rattle.tac_build.specs.Code.{path_from}
use Rattle.tac_build.specs.ProgramCode.{parameter_home, stored_argument, ParameterCode, ParametersCode, end_of, first_spot, FunctionCode, FunctionsCode, start_points, Code}
use Rattle.backend_correct.specs.Named.{Registers, OperandNamed, ValueNamed, OpNamed, ScopeNamed}
use Rattle.backend_correct.proofs.StackPremises.Leading.{Below, Leads, leads_then, stays, emits}
use Rattle.backend_correct.proofs.StackPremises.Statements.{GivesScope, home_leads, block_leads}

-- the registers of a function
abbrev pub registers_of : O.Function → Registers
registers_of function = record { parameters = function.parameters; counts = function.counts }

-- ---- parameters

stored_named : (all : Registers) (number : ℕ) (own : CType) → number < all.parameters → OperandNamed all (stored_argument number own)
stored_named all number (Integer int_type) low = low
stored_named all number (Pointer target) low = low
stored_named all number Void low = low
stored_named all number (Array element count) low = low
stored_named all number (Struct tag) low = low
stored_named all number (Function result parameters) low = low

module _ (all : Registers) (points : List Op) (body : Block) where
  parameter_leads : (home : Home) (number : ℕ) (from to : Spot) → number < all.parameters → ParameterCode points home number from to → Leads all points from to
  parameter_leads home number from to low code = by home.is_object code
    where
      by : (b : Bool) → ParameterCode points (record home { is_object = b }) number from to → Leads all points from to
      by false code = stays all points code
      by true code =
          leads_then all points (home_leads all points (record home { is_object = true }) from)
          (emits all points (O.Store (path_from (AtLocal home.local)) home.c_type (stored_argument number home.c_type)) code (λ below. ((tt, tt), stored_named all number home.c_type low)))

  parameters_lead : (types : List CType) (number : ℕ) (scope : Scope) (from to : Spot) (inner : Scope) → number + length types ≤ all.parameters → ScopeNamed all scope
      → ParametersCode points body types number scope from to inner → GivesScope all points from to inner
  parameters_lead [] number scope from to inner low scoped code = record { leads = stays all points code.0; scoped = λ below. subst (ScopeNamed all) (sym code.1) scoped }
  parameters_lead (first ∷ others) number scope from to inner low scoped code =
      let home = parameter_home number first (takes_block number body) in
      let one = parameter_leads home number from code.0 (omega (arith, low)) code.1 in
      let rest = parameters_lead others (suc number) (home ∷ scope) code.0 to inner (omega (arith, low)) (omega (arith, low), scoped) code.2 in
      record { leads = leads_then all points one rest.leads; scoped = rest.scoped }

-- ---- functions

get_below : {A : Type 0} (xs : List A) (number : ℕ) (x : A) → slice_get xs number ≡ Some x → number < length xs
get_below [] number x there = absurd (none-some x there)
get_below (first ∷ xs) zero x there = omega arith
get_below (first ∷ xs) (suc number) x there = let lt = get_below xs number x there in omega (arith, lt)

-- each point names only registers that the function has
abbrev pub PointsNamed : O.Function → Type 0
PointsNamed function = (number : ℕ) (op : Op) → slice_get function.points number ≡ Some op → OpNamed (registers_of function) op

function_named : (program : Program) (def : FunctionDef) (function : O.Function) → FunctionCode program def function → PointsNamed function
function_named program def function code number op there =
    let all = registers_of function in
    let points = function.points in
    let parameters = code.parameters in
    let entry = parameters_lead all points def.body def.parameters 0 [] first_spot code.inside code.scope (omega (arith, parameters)) tt code.entry in
    let inner = block_leads all program points def.body code.scope code.inside code.last (record { broken = 0; continued = 0 }) entry.scoped code.body in
    let ending = emits all points (end_of def.name) code.ending (λ below. returned all (bytes_eq def.name (codes "main"))) in
    let whole = leads_then all points entry.leads (leads_then all points inner ending) in
    let long = code.points in
    let low = get_below points number op there in
    whole.covered (enough code.end.counts function.counts code.counts) number op (omega arith) (omega (arith, long, low)) there
  where
    returned : (all : Registers) (b : Bool) → ValueNamed all (if b then Some (IntegerOperand (Constant (pos 0))) else None)
    returned all true = tt
    returned all false = tt

    enough : (named counts : Counts) → counts ≡ named → Below (record { parameters = function.parameters; counts = counts }) function.points named
    enough named counts same =
        let variables = ap (λ (one : Counts). one.variables) same in
        let calls = ap (λ (one : Counts). one.calls) same in
        let arguments = ap (λ (one : Counts). one.arguments) same in
        let expressions = ap (λ (one : Counts). one.expressions) same in
        let temporaries = ap (λ (one : Counts). one.temporaries) same in
        record {
          variables = omega (arith, variables);
          calls = omega (arith, calls);
          arguments = omega (arith, arguments);
          expressions = omega (arith, expressions);
          temporaries = omega (arith, temporaries);
        }

functions_named : (program : Program) (defs : List FunctionDef) (functions : List O.Function) (number : ℕ) (function : O.Function) → FunctionsCode program defs functions → slice_get functions number ≡ Some function
    → PointsNamed function
functions_named program [] [] number function code there = absurd (none-some function there)
functions_named program [] (own ∷ functions) number function code there = absurd code
functions_named program (def ∷ defs) [] number function code there = absurd code
functions_named program (def ∷ defs) (own ∷ functions) zero function code there = subst PointsNamed (same_Some own function there) (function_named program def own code.0)
functions_named program (def ∷ defs) (own ∷ functions) (suc number) function code there = functions_named program defs functions number function code.1 there

-- ---- `start`

start_named : (program : Program) (tac : Tac) → Code program tac → PointsNamed tac.start
start_named program tac code number op there =
    by number (sym (ap (λ points. slice_get points number) code.start) ∙ there)
  where
    has : 0 < tac.start.counts.calls
    has = let same = ap (λ (one : Counts). one.calls) code.counts in omega (arith, same)

    by : (number : ℕ) → slice_get (start_points code.main) number ≡ Some op → OpNamed (registers_of tac.start) op
    by zero there = subst (OpNamed (registers_of tac.start)) (same_Some (O.Call 0 (Known code.main) []) op there) (has, tt, tt)
    by (suc zero) there = subst (OpNamed (registers_of tac.start)) (same_Some (O.Exit (Held (R.Call 0))) op there) has
    by (suc (suc number)) there = absurd (none-some op there)

-- Each point of each function of lowered code names only registers that the function has.
pub points_named : (program : Program) (tac : Tac) → Code program tac → (owner : Owner) (function : O.Function) → function_of tac owner ≡ Some function → PointsNamed function
points_named program tac code InStart function is = subst PointsNamed (same_Some tac.start function is) (start_named program tac code)
points_named program tac code (InFunction number) function is = functions_named program program.functions tac.functions number function code.functions is
