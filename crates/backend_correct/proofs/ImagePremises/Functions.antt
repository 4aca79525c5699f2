-- The code of each function weighs no more than its nodes and parameters are worth, and what it names is there.
use Rattle.std.proofs.Common.{◌≡◌, ℕ, zero, suc, ◌+◌, ◌*◌, ◌≤◌, ◌<◌, ◌⊎◌, inl, inr, Bool, true, false, List, [], ◌∷◌, length, Some, None, pos, sym, ap, subst, ◌∙◌, arith}
use Rattle.std.specs.Prelude.{slice_get, bytes_eq, codes, if◌then◌else◌}
use Rattle.std.specs.List.{AllByRecursion}
use Rattle.std.proofs.lemmas.Bool.{cases_lt}
use Rattle.std.proofs.lemmas.Option.{none-some, same_Some}
use Rattle.c_typed.specs.Types.{CType, Void, Integer, Pointer, Array, Struct, Function}
use Rattle.c_typed.specs.Typed.{Block, FunctionDef, Program}
use Rattle.c_typed.specs.TypedNodes.{block_nodes, functions_nodes, program_nodes}
use Rattle.tac_ir.specs.declared.register.Register.TheVariants as R
use Rattle.tac_ir.specs.Code.{Constant, Held, AtLocal, IntegerOperand, Known, Op, Tac}
use Rattle.tac_ir.specs.Code as O
use Rattle.tac_ir.specs.States.{Owner, InStart, InFunction, function_of}
use Rattle.tac_build.specs.Homes.{Home, Scope, takes_block}
use Rattle.tac_build.specs.Spots.{Spot}
use Rattle.tac_build.specs.Code.{path_from}
use Rattle.tac_build.specs.StatementCode.{with_home}
use Rattle.tac_build.specs.ProgramCode.{parameter_home, stored_argument, ParameterCode, ParametersCode, end_of, first_spot, FunctionCode, FunctionsCode, start_points, Code}
use Rattle.c_typed.specs.Parameters.{HasFewParameters}
use Rattle.backend_correct.specs.Weights.{operand_weight, op_weight, weight_before}
use Rattle.backend_correct.specs.Naming.{NamesThere}
use Rattle.backend_correct.proofs.ImagePremises.Leading.{none_before, Leads, Leading, knowing, leads_then, loosened, stays, point, emits}
use Rattle.backend_correct.proofs.ImagePremises.Expressions.{number_low}
use Rattle.backend_correct.proofs.ImagePremises.Statements.{block_leads}

-- a point behind which the function goes on has one behind it
abbrev pub GoesOn : ℕ → ℕ → Op → Type 0
GoesOn points number (O.Return value) = Unit {0}
GoesOn points number (O.Exit status) = Unit {0}
GoesOn points number op = suc number < points

-- the code of a function in a program with so many functions
pub record FunctionNamed (functions most : ℕ) (function : O.Function) : Type 0 where
  pub parameters : function.parameters ≤ 64
  pub begins : 0 < length function.points
  pub weight : weight_before function.points (length function.points) ≤ most
  pub named : (number : ℕ) (op : Op) → slice_get function.points number ≡ Some op → NamesThere functions (length function.points) op × GoesOn (length function.points) number op

-- ---- parameters

stored_weight : (number : ℕ) (own : CType) → operand_weight (stored_argument number own) ≤ 2
stored_weight number (Integer int_type) = omega arith
stored_weight number (Pointer target) = omega arith
stored_weight number Void = omega arith
stored_weight number (Array element count) = omega arith
stored_weight number (Struct tag) = omega arith
stored_weight number (Function result parameters) = omega arith

module _ (functions : ℕ) (points : List Op) (body : Block) where
  parameter_leads : (home : Home) (number : ℕ) (from to : Spot) → ParameterCode points home number from to → Leads functions points 20 0 from.at to.at
  parameter_leads home number from to code = by home.is_object code
    where
      by : (b : Bool) → ParameterCode points (record home { is_object = b }) number from to → Leads functions points 20 0 from.at to.at
      by false code = loosened functions points 20 0 (omega arith) (stays functions points (to.at < length points) code)
      by true code =
          let low = stored_weight number home.c_type in
          loosened functions points 20 0 (omega (arith, low))
          (emits functions points (to.at < length points) (with_home (record home { is_object = true }) from) to (O.Store (path_from (AtLocal home.local)) home.c_type (stored_argument number home.c_type)) code (λ k. tt))

  parameters_lead : (types : List CType) (number : ℕ) (scope : Scope) (from to : Spot) (inner : Scope) → ParametersCode points body types number scope from to inner
      → Leads functions points (20 * length types) 0 from.at to.at
  parameters_lead [] number scope from to inner code = stays functions points (to.at < length points) code.0
  parameters_lead (first ∷ others) number scope from to inner code =
      let home = parameter_home number first (takes_block number body) in
      let one = parameter_leads home number from code.0 code.1 in
      let rest = parameters_lead others (suc number) (home ∷ scope) code.0 to inner code.2 in
      loosened functions points (20 * suc (length others)) 0 (omega arith) (leads_then functions points one rest)

-- ---- functions

get_below : {A : Type 0} (xs : List A) (number : ℕ) (x : A) → slice_get xs number ≡ Some x → number < length xs
get_below [] number x there = absurd (none-some x there)
get_below (first ∷ xs) zero x there = omega arith
get_below (first ∷ xs) (suc number) x there = let lt = get_below xs number x there in omega (arith, lt)

goes_on : (points number : ℕ) (op : Op) → suc number < points → GoesOn points number op
goes_on points number (O.Return value) low = tt
goes_on points number (O.Exit status) low = tt
goes_on points number op low = low

-- so much are so many nodes and the parameters worth
abbrev pub worth : ℕ → ℕ
worth nodes = 100 * nodes + 1320

pub function_named : (program : Program) (def : FunctionDef) (function : O.Function) → length def.parameters ≤ 64 → FunctionCode program def function
    → FunctionNamed (length program.functions) (worth (block_nodes def.body)) function
function_named program def function few code = record { parameters = taken; begins = omega (arith, long, same); weight = all; named = named }
  where
    count : ℕ
    count = length program.functions

    points : List Op
    points = function.points

    taken : function.parameters ≤ 64
    taken = let own = code.parameters in omega (arith, own, few)

    long : length points ≡ code.end.at
    long = code.points

    same : code.end.at ≡ suc code.last.at
    same = ap (λ (spot : Spot). spot.at) code.ending.1

    entry : Leads count points (20 * length def.parameters) 0 0 code.inside.at
    entry = parameters_lead count points def.body def.parameters 0 [] first_spot code.inside code.scope code.entry

    inner : Leading count points (100 * block_nodes def.body) 0 code.inside.at code.last.at (code.last.at < length points)
    inner =
        knowing count points (code.last.at < length points) (λ low. (low, omega (arith, low), omega (arith, low)))
        (block_leads program points def.body code.scope code.inside code.last (record { broken = 0; continued = 0 }) code.body)

    front : Leads count points (20 * length def.parameters + 100 * block_nodes def.body) 0 0 code.last.at
    front = loosened count points (20 * length def.parameters + 100 * block_nodes def.body) 0 (omega arith) (leads_then count points entry inner)

    ending_weight : (b : Bool) → op_weight (O.Return (if b then Some (IntegerOperand (Constant (pos 0))) else None)) ≤ 20
    ending_weight true = omega arith
    ending_weight false = omega arith

    last : Leading count points (op_weight (end_of def.name)) 0 code.last.at (suc code.last.at) (Unit {0})
    last = point count points (Unit {0}) code.last.at (end_of def.name) code.ending.0 (λ k. tt)

    all : weight_before points (length points) ≤ worth (block_nodes def.body)
    all =
        let low = ending_weight (bytes_eq def.name (codes "main")) in
        let none = none_before points in
        let end : weight_before points (length points) ≡ weight_before points (suc code.last.at) = ap (weight_before points) (long ∙ same) in
        omega (arith, front.weight, last.weight, low, none, end, few)

    named : (number : ℕ) (op : Op) → slice_get points number ≡ Some op → NamesThere count (length points) op × GoesOn (length points) number op
    named number op there = by (cases_lt number code.last.at)
      where
        by : (number < code.last.at) ⊎ (code.last.at ≤ number) → NamesThere count (length points) op × GoesOn (length points) number op
        by (inl less) =
            (front.there (omega (arith, long, same)) number op (omega arith) less there, goes_on (length points) number op (omega (arith, long, same, less)))
        by (inr more) =
            let low = get_below points number op there in
            let at : number ≡ code.last.at = omega (arith, low, long, same, more) in
            subst (λ (found : Op). NamesThere count (length points) found × GoesOn (length points) number found)
            (same_Some (end_of def.name) op (sym code.ending.0 ∙ ap (slice_get points) (sym at) ∙ there)) (tt, tt)

more_weight : (functions less most : ℕ) (function : O.Function) → less ≤ most → FunctionNamed functions less function → FunctionNamed functions most function
more_weight functions less most function low one = record { parameters = one.parameters; begins = one.begins; weight = let w = one.weight in omega (arith, w, low); named = one.named }

functions_named : (program : Program) (defs : List FunctionDef) (functions : List O.Function) (number : ℕ) (function : O.Function) → AllByRecursion (λ (def : FunctionDef). length def.parameters ≤ 64) defs
    → FunctionsCode program defs functions → slice_get functions number ≡ Some function → FunctionNamed (length program.functions) (worth (functions_nodes defs)) function
functions_named program [] [] number function few code there = absurd (none-some function there)
functions_named program [] (own ∷ functions) number function few code there = absurd code
functions_named program (def ∷ defs) [] number function few code there = absurd code
functions_named program (def ∷ defs) (own ∷ functions) zero function few code there =
    subst (FunctionNamed (length program.functions) (worth (functions_nodes (def ∷ defs)))) (same_Some own function there)
    (more_weight (length program.functions) (worth (block_nodes def.body)) (worth (functions_nodes (def ∷ defs))) own (omega arith) (function_named program def own few.0 code.0))
functions_named program (def ∷ defs) (own ∷ functions) (suc number) function few code there =
    more_weight (length program.functions) (worth (functions_nodes defs)) (worth (functions_nodes (def ∷ defs))) function (omega arith)
    (functions_named program defs functions number function few.1 code.1 there)

-- ---- `start`

-- it names `main`, and ends with its second point
starting_named : (functions main : ℕ) → main < functions → (number : ℕ) (op : Op) → slice_get (start_points main) number ≡ Some op → NamesThere functions 2 op × GoesOn 2 number op
starting_named functions main low zero op there = subst (λ (found : Op). NamesThere functions 2 found × GoesOn 2 0 found) (same_Some (O.Call 0 (Known main) []) op there) (low, omega arith)
starting_named functions main low (suc zero) op there = subst (λ (found : Op). NamesThere functions 2 found × GoesOn 2 1 found) (same_Some (O.Exit (Held (R.Call 0))) op there) (tt, tt)
starting_named functions main low (suc (suc number)) op there = absurd (none-some op there)

starting_weight : (main : ℕ) → weight_before (start_points main) 2 ≤ 30
unfolding weight_before
starting_weight main = omega arith

start_named : (program : Program) (tac : Tac) (nodes : ℕ) → Code program tac → FunctionNamed (length program.functions) (worth nodes) tac.start
start_named program tac nodes code =
    let low = number_low 0 program.functions (codes "main") code.main code.named in
    let same : weight_before tac.start.points (length tac.start.points) ≡ weight_before (start_points code.main) 2 = λ i. weight_before (code.start i) (length (code.start i)) in
    let few = starting_weight code.main in
    let none = code.parameters in
    record {
      parameters = omega (arith, none);
      begins = subst (λ (points : List Op). 0 < length points) (sym code.start) (omega arith);
      weight = omega (arith, same, few);
      named = subst (λ (points : List Op). (number : ℕ) (op : Op) → slice_get points number ≡ Some op → NamesThere (length program.functions) (length points) op × GoesOn (length points) number op) (sym code.start)
          (starting_named (length program.functions) code.main (omega (arith, low)));
    }

-- each function of the code of a program
pub code_named : (program : Program) (tac : Tac) → Code program tac → HasFewParameters program → (owner : Owner) (function : O.Function) → function_of tac owner ≡ Some function
    → FunctionNamed (length program.functions) (worth (program_nodes program)) function
code_named program tac code few InStart function is =
    subst (FunctionNamed (length program.functions) (worth (program_nodes program))) (same_Some tac.start function is) (start_named program tac (program_nodes program) code)
code_named program tac code few (InFunction number) function is = functions_named program program.functions tac.functions number function few code.functions is
