-- What a call of a function is in the reference, by what its body comes to.
use Rattle.std.proofs.Common.{◌≡◌, ℕ, suc, Bool, true, false, not, ◌&&◌, List, [], ◌∷◌, ◌++◌, Option, Some, None, sym, ap, ◌∙◌}
use Rattle.std.proofs.lemmas.Bool.{true≢false}
use Rattle.run_theory.specs.declared.place.Pos.{Pos}
use Rattle.run_theory.specs.declared.ends.UbKind.TheVariants as Ub
use Rattle.run_theory.specs.Runs
use Rattle.run_theory.specs.Runs.{Answer, Called}
use Rattle.c_typed.specs.Types.{CType, is_void}
use Rattle.c_typed.specs.Typed.{FunctionDef}
use Rattle.ref_semantics.specs.Values.{Scalar, NullValue}
use Rattle.ref_semantics.specs.Store as S
use Rattle.ref_semantics.specs.Store.{TypeEnvironment, Then, Stopped, Eval, Outcome, ◌>>=◌, give, emit, tick}
use Rattle.ref_semantics.specs.Meaning.{Completion, block, bind, given_back, main_value, within_own, used_value, call_named, bodies_within}
use Rattle.tac_simulation.proofs.Answered.{past, gave}
use Rattle.tac_simulation.proofs.Back.{restored}

module _ (around : TypeEnvironment) (functions : List FunctionDef) (depth number : ℕ) (function : FunctionDef) (given : List Scalar) where
  -- a function's parameters get their values, and its body is executed
  abbrev pub in_body : Eval Completion
  in_body = bind around function.parameters given >>= λ bound. tick (block around (call_named functions (bodies_within around functions depth)) function.body)

  -- it begins with no locals in scope
  abbrev pub begun : S.State → S.State
  begun s = record s { trace = s.trace ++ Called number ∷ []; locals = [] }

  abbrev after_body : S.State → Outcome Completion → Outcome (Option Scalar)
  after_body s outcome = (emit (Called number ∷ []) (within_own (λ inner. outcome) >>= λ way. give (main_value function.name (given_back way))) >>= λ result. emit (Runs.Returned ∷ []) (give result)) s

  -- where the body ends, the caller's locals are in scope again
  pub body_ends : (s0 s : S.State) (way : Completion) → in_body (begun s0) ≡ Then way s → bodies_within around functions (suc depth) number function given s0 ≡ Then (main_value function.name (given_back way)) (restored s0 s)
  unfolding bodies_within
  body_ends s0 s way e = ap (after_body s0) e

  -- an answer in the body is the call's
  pub body_stops : (s0 s : S.State) (answer : Answer) → in_body (begun s0) ≡ Stopped answer s → bodies_within around functions (suc depth) number function given s0 ≡ Stopped answer s
  unfolding bodies_within
  body_stops s0 s answer e = ap (after_body s0) e

-- what a call gives is what the function gives back, where that is used and is of a type that has values
pub used_ends : (here : Pos) (is_used : Bool) (result : CType) (value : Option Scalar) (s s' : S.State) (scalar : Scalar) → used_value here is_used result value s ≡ Then scalar s'
    → (s' ≡ s) × (is_used ≡ true → is_void result ≡ false → value ≡ Some scalar)
used_ends here is_used result (Some value) s s' scalar e =
    let last = gave value scalar s s' e in
    (last.1, λ used valued. ap Some (sym last.0))
used_ends here is_used result None s s' scalar e =
    let first = past here (is_used && not (is_void result)) Ub.U16 [] (give NullValue) s scalar s' e in
    ((gave NullValue scalar s s' first.1).1, λ used valued. absurd (true≢false ((λ i. sym used i && not (sym valued i)) ∙ first.0)))
