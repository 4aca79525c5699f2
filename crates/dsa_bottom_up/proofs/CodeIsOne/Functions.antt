-- A function has one code.
use Rattle.std.proofs.Common.{◌≡◌, ℕ, suc, ◌<◌, Bool, true, false, List, [], ◌∷◌, length, refl, sym, subst, ◌∙◌, arith}
use Rattle.std.specs.Prelude.{slice_get}
use Rattle.std.proofs.lemmas.Option.{same_Some}
use Rattle.c_typed.specs.Types.{CType}
use Rattle.c_typed.specs.Typed.{Block, FunctionDef, Program}
use Rattle.tac_ir.specs.Code.{AtLocal, Op}
use Rattle.tac_ir.specs.Code as O
use Rattle.tac_build.specs.Homes.{Home, Scope, takes_block}
use Rattle.tac_build.specs.Spots.{Spot}
use Rattle.tac_build.specs.Code.{path_from}
use Rattle.tac_build.specs.StatementCode.{with_home, BlockCode}
use Rattle.tac_build.specs.ProgramCode.{parameter_home, stored_argument, ParameterCode, ParametersCode, end_of, first_spot, FunctionCode, FunctionsCode}
use Rattle.dsa_bottom_up.proofs.CodeIsOne.Agreeing.{Ends, Gives, agrees_then, ends_then, stays, emits}
use Rattle.dsa_bottom_up.proofs.CodeIsOne.Statements.{block_same}

-- ---- parameters

module _ (first second : List Op) (body : Block) where
  parameter_same : (home : Home) (number : ℕ) (from to begin end : Spot) → begin ≡ from → ParameterCode first home number from to → ParameterCode second home number begin end → Ends first second from to end
  parameter_same home number from to begin end start code again = by home.is_object code again
    where
      by : (b : Bool) → ParameterCode first (record home { is_object = b }) number from to → ParameterCode second (record home { is_object = b }) number begin end → Ends first second from to end
      by false code again = stays first second from to begin end start code again
      by true code again =
          let inside = record home { is_object = true } in
          let stored = emits first second (with_home inside from) to (with_home inside begin) end (O.Store (path_from (AtLocal home.local)) home.c_type (stored_argument number home.c_type))
          (O.Store (path_from (AtLocal home.local)) home.c_type (stored_argument number home.c_type)) (λ i. with_home inside (start i)) refl code again in
          record { same = stored.same; agrees = stored.agrees }

  parameters_same : (types : List CType) (number : ℕ) (scope : Scope) (from to begin end : Spot) (inner other : Scope) → begin ≡ from → ParametersCode first body types number scope from to inner
      → ParametersCode second body types number scope begin end other → Gives first second from to end inner other
  parameters_same [] number scope from to begin end inner other start code again = record { ends = stays first second from to begin end start code.0 again.0; is = again.1 ∙ sym code.1 }
  parameters_same (c_type ∷ types) number scope from to begin end inner other start code again =
      let home = parameter_home number c_type (takes_block number body) in
      let one = parameter_same home number from code.0 begin again.0 start code.1 again.1 in
      let more = parameters_same types (suc number) (home ∷ scope) code.0 to again.0 end inner other one.same code.2 again.2 in
      record { ends = ends_then first second one more.ends; is = more.is }

-- ---- functions

-- lists that agree at each place are one
same_lists : {X : Type 0} (one other : List X) → length other ≡ length one → ((at : ℕ) → at < length one → slice_get one at ≡ slice_get other at) → other ≡ one
same_lists [] [] counts agree = refl
same_lists [] (second ∷ seconds) counts agree = absurd (omega (arith, counts))
same_lists (first ∷ firsts) [] counts agree = absurd (omega (arith, counts))
same_lists (first ∷ firsts) (second ∷ seconds) counts agree =
    let rest = same_lists firsts seconds (omega (arith, counts)) (λ at low. agree (suc at) (omega (arith, low))) in
    let here : second ≡ first = same_Some second first (sym (agree 0 (omega arith))) in
    λ i. here i ∷ rest i

pub function_same : (program : Program) (def : FunctionDef) (one other : O.Function) → FunctionCode program def one → FunctionCode program def other → other ≡ one
function_same program def one other code again =
    let first = one.points in
    let second = other.points in
    let entry = parameters_same first second def.body def.parameters 0 [] first_spot code.inside first_spot again.inside code.scope again.scope refl code.entry again.entry in
    let inner = block_same program first second def.body code.scope code.inside code.last again.inside again.last (record { broken = 0; continued = 0 }) (record { broken = 0; continued = 0 }) entry.ends.same refl refl
    code.body (subst (λ scope. BlockCode program second scope def.body again.inside again.last (record { broken = 0; continued = 0 })) entry.is again.body) in
    let ending = emits first second code.last code.end again.last again.end (end_of def.name) (end_of def.name) inner.same refl code.ending again.ending in
    let told = agrees_then first second entry.ends.agrees (agrees_then first second inner.agrees ending.agrees) in
    let counts : length second ≡ length first = again.points ∙ (λ i. (ending.same i).at) ∙ sym code.points in
    let points = same_lists first second counts (λ at low. told.told at (omega arith) (subst (λ high. at < high) code.points low)) in
    let names = again.name ∙ sym code.name in
    let types = again.c_type ∙ sym code.c_type in
    let formals = again.parameters ∙ sym code.parameters in
    let registers = again.counts ∙ (λ i. (ending.same i).counts) ∙ sym code.counts in
    let objects = again.objects ∙ (λ i. (ending.same i).objects) ∙ sym code.objects in
    λ i. record { name = names i; c_type = types i; parameters = formals i; counts = registers i; objects = objects i; points = points i }

pub functions_same : (program : Program) (defs : List FunctionDef) (ones others : List O.Function) → FunctionsCode program defs ones → FunctionsCode program defs others → others ≡ ones
functions_same program [] [] [] code again = refl
functions_same program [] [] (other ∷ others) code again = absurd again
functions_same program [] (one ∷ ones) others code again = absurd code
functions_same program (def ∷ defs) [] others code again = absurd code
functions_same program (def ∷ defs) (one ∷ ones) [] code again = absurd again
functions_same program (def ∷ defs) (one ∷ ones) (other ∷ others) code again =
    let here = function_same program def one other code.0 again.0 in
    let rest = functions_same program defs ones others code.1 again.1 in
    λ i. here i ∷ rest i
