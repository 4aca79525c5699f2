use Rattle.std.proofs.Common.{Some, inl, inr, sym, ap, subst, ◌∙◌, refl, is_some}
use Rattle.std.proofs.lemmas.Bool.{false≢true}
use Rattle.ref_meaning.specs.declared.run.RefEnd.{RefEnd}
use Rattle.ref_meaning.specs.declared.run.RefEnd.TheVariants as E
use Rattle.ref_meaning.specs.Running.{RunAnswers, answer_of}
use Rattle.ref_meaning.proofs.Going.{goes-first, ends-over, answers-end, same-final, same-end, no-final, needed-over, no-fault}
use Rattle.ref_meaning.proofs.run.RefRun.run.Goals as goal

pub returns-in-Some-clause-answers : goal.returns-in-Some-clause-answers
returns-in-Some-clause-answers g c = λ written behaviour base rest stands told out.
    let goes = goes-first c.args.self.now behaviour written base rest c.args.steps _ _ stands told out in
    subst (λ (e : RefEnd). RunAnswers c.args.self.now c.args.self.now behaviour base rest c.args.steps e (g.I.Source.left c.args.input.now) (g.O.Sink.written c.args.out.now)) (sym c.end_of.ensures)
    (answers-end c.args.self.now c.args.self.now behaviour base rest c.args.steps _ _ c.in-Some.end
    (ends-over c.args.self.now c.args.self.now behaviour base rest c.args.steps c.args.steps _ _ c.in-Some.end goes (sym c.end.ensures ∙ c.in-Some.is)))

pub returns-in-Some-clause-read_cause : goal.returns-in-Some-clause-read_cause
returns-in-Some-clause-read_cause g c = λ e. absurd (no-final E.ReadFault c.in-Some.end refl (sym e ∙ c.end_of.ensures))

pub returns-in-Some-clause-write_cause : goal.returns-in-Some-clause-write_cause
returns-in-Some-clause-write_cause g c = λ e. absurd (no-final E.WriteFault c.in-Some.end refl (sym e ∙ c.end_of.ensures))

pub returns-in-Some-clause-reads : goal.returns-in-Some-clause-reads
returns-in-Some-clause-reads g c = λ e. absurd (no-final E.ReadFault c.in-Some.end refl (sym e ∙ c.end_of.ensures))

pub returns-in-Some-clause-writes : goal.returns-in-Some-clause-writes
returns-in-Some-clause-writes g c = λ e. absurd (no-final E.WriteFault c.in-Some.end refl (sym e ∙ c.end_of.ensures))

pub returns-in-Some-clause-again : goal.returns-in-Some-clause-again
returns-in-Some-clause-again g c = λ final e. (c.end_of.ensures ∙ ap answer_of (same-end c.in-Some.end final (sym c.in-Some.is ∙ (c.end.ensures ∙ e))), refl, refl, refl)

pub returns-in-Some-clause-kept : goal.returns-in-Some-clause-kept
returns-in-Some-clause-kept g c = λ final e. sym c.end.ensures ∙ (c.in-Some.is ∙ ap Some (same-final c.in-Some.end final (sym c.end_of.ensures ∙ e)))

pub returns-in-Some-clause-needed : goal.returns-in-Some-clause-needed
returns-in-Some-clause-needed g c = λ written behaviour base rest final stands told out e.
    let goes = goes-first c.args.self.now behaviour written base rest c.args.steps _ _ stands told out in
    needed-over c.args.self.now c.args.self.now behaviour base rest c.args.steps c.args.steps _ _ final goes (sym c.end.ensures ∙ (c.in-Some.is ∙ ap Some (same-final c.in-Some.end final (sym c.end_of.ensures ∙ e))))

pub returns-in-None-clause-again : goal.returns-in-None-clause-again
returns-in-None-clause-again g c = λ final e. absurd (false≢true (ap is_some (sym c.in-None.is ∙ (c.end.ensures ∙ e))))

pub returns-in-Some-clause-memory_cause : goal.returns-in-Some-clause-memory_cause
returns-in-Some-clause-memory_cause g c = λ e. (refl, refl)

pub returns-in-None-clause-memory_cause : goal.returns-in-None-clause-memory_cause
returns-in-None-clause-memory_cause g c = λ e. (
  c.go_on.ensures.read_faultless (no-fault c.go_on.result E.ReadFault e (inl refl)),
  c.go_on.ensures.write_faultless (no-fault c.go_on.result E.WriteFault e (inr refl)),
)
