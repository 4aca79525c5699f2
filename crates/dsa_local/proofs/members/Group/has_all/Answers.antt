use Rattle.std.proofs.Common.{◌≡◌, ℕ, true, get_or, Some, inl, inr, sym, ap, subst, ◌∙◌, arith}
use Rattle.std.specs.Prelude.{slice_get, option_map}
use Rattle.std.proofs.lemmas.Bool.{cases_lt}
use Rattle.std.proofs.lemmas.Option.{slice_get-get_or, slice_get-map, same_Some}
use Rattle.call_graph.proofs.RowLists.{has_at, at_has}
use Rattle.tac_ir.specs.declared.register.FunctionId.{FunctionId}
use Rattle.call_graph.specs.ClassLists.{numbers_of}
use Rattle.dsa_local.specs.Members.{is_inside}
use Rattle.dsa_local.proofs.Passing.{mapped_within}
use Rattle.dsa_local.proofs.members.Group.has_all.Goals as goal

abbrev none : FunctionId
none = record { 0 = 0 }

abbrev number : FunctionId → ℕ
number function = function.0

pub loop-function-init : goal.loop-function-init
loop-function-init c = λ k function less at. absurd (omega (arith, less))

pub returns-then-not-has-clause-outside : goal.returns-then-not-has-clause-outside
returns-then-not-has-clause-outside c = λ is.
    let functions = c.args.functions.now in
    let i = c.loop-function.function-index in
    let at : slice_get (numbers_of functions) i ≡ Some (get_or functions i none).0 = slice_get-map number functions i ∙ ap (option_map number) (slice_get-get_or functions i none c.loop-function-test.true) in
    ((get_or functions i none).0, has_at (numbers_of functions) i (get_or functions i none).0 at, sym c.has.ensures ∙ c.if-not-has.true)

pub loop-function-preserved : goal.loop-function-preserved
loop-function-preserved c = λ k function less at.
    let functions = c.args.functions.now in
    let i = c.loop-function.function-index in
    let here : slice_get (numbers_of functions) i ≡ Some (get_or functions i none).0 = slice_get-map number functions i ∙ ap (option_map number) (slice_get-get_or functions i none c.loop-function-test.true) in
    elim (cases_lt k i) [
      | inl before ↦ c.loop-function.invariant k function before at
      | inr behind ↦
          let same : k ≡ i = omega (arith, less, behind) in
          let equal : (get_or functions i none).0 ≡ function = same_Some (get_or functions i none).0 function (sym here ∙ (ap (slice_get (numbers_of functions)) (sym same) ∙ at)) in
          subst (λ f. is_inside c.args.self f ≡ true) equal (sym c.has.ensures ∙ c.if-not-has.false)
    ]

pub returns-clause-all : goal.returns-clause-all
returns-clause-all c = λ is function has.
    let functions = c.args.functions.now in
    let at = at_has (numbers_of functions) function has in
    let less = mapped_within number functions at.0 function at.1 in
    c.loop-function.invariant at.0 function (omega (arith, less, c.loop-function-test.false)) at.1
