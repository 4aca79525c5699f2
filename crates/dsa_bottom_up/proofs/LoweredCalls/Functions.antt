-- The points of a function, and those of `start`, call by name only functions of the program, and each site is at one of them.
use Rattle.std.proofs.Common.{◌≡◌, ℕ, zero, suc, ◌<◌, Bool, true, false, List, [], ◌∷◌, length, Some, refl, sym, ap, subst, arith}
use Rattle.std.specs.Prelude.{slice_get, codes}
use Rattle.std.proofs.lemmas.Option.{none-some, same_Some}
use Rattle.c_typed.specs.Types.{CType}
use Rattle.c_typed.specs.Typed.{Block, FunctionDef, Program}
use Rattle.tac_ir.specs.declared.program.Counts.{Counts}
use Rattle.tac_ir.specs.declared.register.Register.TheVariants as R
use Rattle.tac_ir.specs.Code.{Held, AtLocal, Known, Op, Tac}
use Rattle.tac_ir.specs.Code as O
use Rattle.tac_ir.specs.States.{Owner, InStart, InFunction, function_of}
use Rattle.tac_build.specs.Homes.{Home, Scope, takes_block}
use Rattle.tac_build.specs.Spots.{Spot}
use Rattle.tac_build.specs.Code.{path_from}
use Rattle.tac_build.specs.StatementCode.{with_home}
use Rattle.tac_build.specs.ProgramCode.{parameter_home, stored_argument, ParameterCode, ParametersCode, end_of, first_spot, FunctionCode, FunctionsCode, start_points, Code}
use Rattle.dsa_bottom_up.proofs.LoweredCalls.Leading.{Leads, Spans, leads_then, nothing, plain, then_site, stays, emits}
use Rattle.dsa_bottom_up.proofs.LoweredCalls.Expressions.{number_below}
use Rattle.dsa_bottom_up.proofs.LoweredCalls.Statements.{block_spans}

-- ---- parameters

module _ (points : List Op) (count : ℕ) (body : Block) where
  parameter_spans : (home : Home) (number : ℕ) (from to : Spot) → ParameterCode points home number from to → Spans points count from to
  parameter_spans home number from to code = by home.is_object code
    where
      by : (b : Bool) → ParameterCode points (record home { is_object = b }) number from to → Spans points count from to
      by false code = stays points count from to code
      by true code = emits points count (with_home (record home { is_object = true }) from) to (O.Store (path_from (AtLocal home.local)) home.c_type (stored_argument number home.c_type)) code refl

  parameters_span : (types : List CType) (number : ℕ) (scope : Scope) (from to : Spot) (inner : Scope) → ParametersCode points body types number scope from to inner → Spans points count from to
  parameters_span [] number scope from to inner code = stays points count from to code.0
  parameters_span (first ∷ others) number scope from to inner code =
      let home = parameter_home number first (takes_block number body) in
      leads_then points count (parameter_spans home number from code.0 code.1) (parameters_span others (suc number) (home ∷ scope) code.0 to inner code.2)

-- ---- functions

-- all points of a function
abbrev pub Whole : ℕ → O.Function → Type 0
Whole count function = Leads function.points count 0 (length function.points) 0 function.counts.calls

function_whole : (program : Program) (def : FunctionDef) (function : O.Function) → FunctionCode program def function → Whole (length program.functions) function
function_whole program def function code =
    let points = function.points in
    let count = length program.functions in
    let entry = parameters_span points count def.body def.parameters 0 [] first_spot code.inside code.scope code.entry in
    let inner = block_spans program points def.body code.scope code.inside code.last (record { broken = 0; continued = 0 }) code.body in
    let ending = emits points count code.last code.end (end_of def.name) code.ending refl in
    let whole = leads_then points count entry (leads_then points count inner ending) in
    subst (λ end. Leads function.points count 0 end 0 function.counts.calls) (sym code.points)
    (subst (λ (counts : Counts). Leads function.points count 0 code.end.at 0 counts.calls) (sym code.counts) whole)

functions_whole : (program : Program) (defs : List FunctionDef) (functions : List O.Function) (number : ℕ) (function : O.Function) → FunctionsCode program defs functions
    → slice_get functions number ≡ Some function → Whole (length program.functions) function
functions_whole program [] [] number function code there = absurd (none-some function there)
functions_whole program [] (own ∷ functions) number function code there = absurd code
functions_whole program (def ∷ defs) [] number function code there = absurd code
functions_whole program (def ∷ defs) (own ∷ functions) zero function code there = subst (Whole (length program.functions)) (same_Some own function there) (function_whole program def own code.0)
functions_whole program (def ∷ defs) (own ∷ functions) (suc number) function code there = functions_whole program defs functions number function code.1 there

-- there are as many functions as are defined
pub as_many : (program : Program) (defs : List FunctionDef) (functions : List O.Function) → FunctionsCode program defs functions → length defs ≡ length functions
as_many program [] [] code = refl
as_many program [] (own ∷ functions) code = absurd code
as_many program (def ∷ defs) [] code = absurd code
as_many program (def ∷ defs) (own ∷ functions) code = ap suc (as_many program defs functions code.1)

-- ---- `start`

start_leads : (main count : ℕ) → main < count → Leads (start_points main) count 0 2 0 1
start_leads main count low =
    let points = start_points main in
    leads_then points count (then_site points count 0 (O.Call 0 (Known main) []) (nothing points count 0 1) refl refl low) (plain points count 1 1 (O.Exit (Held (R.Call 0))) refl refl)

start_whole : (program : Program) (tac : Tac) → Code program tac → Whole (length program.functions) tac.start
start_whole program tac code =
    let count = length program.functions in
    let below = number_below 0 program.functions (codes "main") code.main code.named in
    let low : code.main < count = omega (arith, below) in
    subst (λ points. Leads points count 0 (length points) 0 tac.start.counts.calls) (sym code.start)
    (subst (λ (counts : Counts). Leads (start_points code.main) count 0 2 0 counts.calls) (sym code.counts) (start_leads code.main count low))

-- ---- programs

pub whole : (program : Program) (tac : Tac) → Code program tac → (owner : Owner) (function : O.Function) → function_of tac owner ≡ Some function → Whole (length program.functions) function
whole program tac code InStart function is = subst (Whole (length program.functions)) (same_Some tac.start function is) (start_whole program tac code)
whole program tac code (InFunction number) function is = functions_whole program program.functions tac.functions number function code.functions is
