use Rattle.std.proofs.Common.{Result, Ok, Err, OnErr, Some, sym, subst}
use Rattle.ref_semantics.specs.Store.{holding}
use Rattle.ref_meaning.specs.declared.object.Content as memory_content
use Rattle.ref_meaning.specs.RefStore.Views.{scalar_in}
use Rattle.ref_meaning.specs.RefStore.Holding.{ContentIs}
use Rattle.ref_meaning.proofs.Writing.{elements_kept, elements_stored, raw_kept}
use Rattle.ref_meaning.proofs.object.Content.hold.Goals as goal
use Rattle.ref_meaning.proofs.object.Content.hold.Goals.{in-Elements+in_ok-hold, in_default}

on_err : {A E : Type 0} (result : Result A E) (P : Type 0) → P → OnErr result P
on_err (Ok value) P p = tt
on_err (Err error) P p = p

pub returns-in_err-hold-clause-err : goal.returns-in_err-hold-clause-err
returns-in_err-hold-clause-err c = on_err c.from_residual.result _ (λ table content is.
    elements_kept table c.in-Elements.elements c.hold.new.self content c.in_err-hold.ensures.same c.in_err-hold.ensures.err
    (subst (λ memory. ContentIs table (Some memory) content) c.in-Elements.is is))

pub returns-clause-held : goal.returns-clause-held
returns-clause-held c = λ table content stands is. elim c.match-self.branch [
  | in-Elements+in_ok-hold w ↦ subst (λ (memory : memory_content.Content). ContentIs table (Some memory) (holding c.args.offset (scalar_in table c.args.value) content)) (sym w.self-is)
      (elements_stored table w.in-Elements.elements w.hold.new.self c.args.offset c.args.value content w.in_ok-hold.ensures.same w.in_ok-hold.ensures.held stands
      (subst (λ memory. ContentIs table (Some memory) content) w.in-Elements.is is))
  | in_default w ↦ subst (λ (memory : memory_content.Content). ContentIs table (Some memory) (holding c.args.offset (scalar_in table c.args.value) content)) (sym w.self-is)
      (raw_kept table c.args.self.now c.args.offset (scalar_in table c.args.value) content w.in_default.not-Elements is)
]
