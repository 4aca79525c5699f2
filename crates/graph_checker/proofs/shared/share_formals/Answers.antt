use Rattle.std.proofs.Common.{◌≤◌, length, inl, inr, refl, sym, ap, ◌∙◌, arith, below_more, true≢false}
use Rattle.std.proofs.lemmas.Bool.{cases_lt}
use Rattle.std.proofs.lemmas.Option.{slice_get_past}
use Rattle.heap_graph.specs.Frozen.{optional_target, flat}
use Rattle.graph_checker.proofs.SameTargets.{same_target_is, is_same_target}
use Rattle.graph_checker.proofs.shared.share_formals.Goals as goal

pub loop-number-init : goal.loop-number-init
loop-number-init c = λ number less. absurd (omega arith)

pub returns-then-not-same_target : goal.returns-then-not-same_target
returns-then-not-same_target c = (
  λ is number. absurd (true≢false (sym is)),
  λ all. sym c.if-not-same_target.true
      ∙ (c.same_target.ensures
      ∙ is_same_target (optional_target c.register.result) (optional_target c.register-in-loop-number.result)
      (c.register.ensures ∙ (all c.loop-number.number ∙ sym c.register-in-loop-number.ensures))),
)

pub loop-number-preserved : goal.loop-number-preserved
loop-number-preserved c =
    below_more _ _ c.loop-number.invariant
    (sym c.register.ensures
    ∙ (same_target_is (optional_target c.register.result) (optional_target c.register-in-loop-number.result) (sym c.same_target.ensures ∙ c.if-not-same_target.false)
    ∙ c.register-in-loop-number.ensures))

pub returns : goal.returns
returns c =
    let a = c.args.a.now.parameters.items in
    let b = c.args.b.now.parameters.items in (
      λ _ number. elim (cases_lt number c.loop-number.number) [
        | inl less ↦ c.loop-number.invariant number less
        | inr behind ↦
            let in_a : length a ≤ number = omega arith in
            let in_b : length b ≤ number = omega arith in
            ap flat (slice_get_past a number in_a) ∙ sym (ap flat (slice_get_past b number in_b))
      ],
      λ _. refl,
    )
