use Rattle.std.proofs.Common.{Some, Err, inl, inr, sym, ap, subst, ◌∙◌, ◌+◌, ◌-◌, refl, arith}
use Rattle.c_typed.specs.declared.typed.LibraryFunction.TheVariants as F
use Rattle.pcc_outside.specs.Outside.{Rose}
use Rattle.ref_meaning.specs.declared.run.RefEnd.{RefEnd}
use Rattle.ref_meaning.specs.declared.run.RefEnd.TheVariants as E
use Rattle.ref_meaning.specs.declared.run.Halt.TheVariants as H
use Rattle.ref_meaning.specs.Running.{RunAnswers, halted}
use Rattle.ref_meaning.proofs.Going.{goes-first, next-halted, ends-over, answers-end, spent-all, needs-unit, left-split, answers-halted, halted-read, halted-written, halted-unless, goes-further, respent, breaks-off, same-final, no-final, kept-halted, needed-over, needed-halted, spent-within, done-no-fault, same-halt}
use Rattle.ref_meaning.proofs.run.RefRun.go_on.Goals as goal

pub loop-init : goal.loop-init
loop-init g c = record {
  can = c.requires.holds;
  counted = refl;
  counts = omega arith;
  goes = λ written behaviour base rest stands told out. goes-first c.args.self.now behaviour written base rest c.args.steps _ _ stands told out;
  reads = refl;
  writes = refl;
}

pub returns-in-Some-clause-answers : goal.returns-in-Some-clause-answers
returns-in-Some-clause-answers g c = λ written behaviour base rest stands told out.
    let goes = c.loop.invariant.goes written behaviour base rest stands told out in
    subst (λ (e : RefEnd). RunAnswers c.args.self.now c.loop.self behaviour base rest c.args.steps e (g.I.Source.left c.loop.input) (g.O.Sink.written c.loop.out)) (sym c.end_of.ensures)
    (answers-end c.args.self.now c.loop.self behaviour base rest c.args.steps _ _ c.in-Some.end
    (ends-over c.args.self.now c.loop.self behaviour base rest c.args.steps c.loop.left _ _ c.in-Some.end goes (sym c.end.ensures ∙ c.in-Some.is)))

pub returns-in-Some-clause-reads : goal.returns-in-Some-clause-reads
returns-in-Some-clause-reads g c = λ e. absurd (no-final E.ReadFault c.in-Some.end refl (sym e ∙ c.end_of.ensures))

pub returns-in-Some-clause-writes : goal.returns-in-Some-clause-writes
returns-in-Some-clause-writes g c = λ e. absurd (no-final E.WriteFault c.in-Some.end refl (sym e ∙ c.end_of.ensures))

pub returns-in-Some-clause-kept : goal.returns-in-Some-clause-kept
returns-in-Some-clause-kept g c = λ final e. sym c.end.ensures ∙ (c.in-Some.is ∙ ap Some (same-final c.in-Some.end final (sym c.end_of.ensures ∙ e)))

pub returns-in-Some-clause-needed : goal.returns-in-Some-clause-needed
returns-in-Some-clause-needed g c = λ written behaviour base rest final stands told out e.
    let goes = c.loop.invariant.goes written behaviour base rest stands told out in
    needed-over c.args.self.now c.loop.self behaviour base rest c.args.steps c.loop.left _ _ final goes (sym c.end.ensures ∙ (c.in-Some.is ∙ ap Some (same-final c.in-Some.end final (sym c.end_of.ensures ∙ e))))

pub returns-in-Some-clause-counts : goal.returns-in-Some-clause-counts
returns-in-Some-clause-counts g c = c.loop.invariant.counts

pub returns-in-Some-clause-within : goal.returns-in-Some-clause-within
returns-in-Some-clause-within g c = omega (arith, c.loop.invariant.counted)

pub returns-in-Some-clause-reads_counted : goal.returns-in-Some-clause-reads_counted
returns-in-Some-clause-reads_counted g c = omega (arith, c.loop.invariant.reads)

pub returns-in-Some-clause-read_faultless : goal.returns-in-Some-clause-read_faultless
returns-in-Some-clause-read_faultless g c = λ _. c.loop.invariant.reads

pub returns-in-Some-clause-writes_counted : goal.returns-in-Some-clause-writes_counted
returns-in-Some-clause-writes_counted g c = omega (arith, c.loop.invariant.writes)

pub returns-in-Some-clause-write_faultless : goal.returns-in-Some-clause-write_faultless
returns-in-Some-clause-write_faultless g c = λ _. c.loop.invariant.writes

pub takes_unit-requires : goal.takes_unit-requires
takes_unit-requires g c = c.loop.invariant.can (sym c.end.ensures ∙ c.in-None.is)

pub returns-then-unit-left-clause-answers : goal.returns-then-unit-left-clause-answers
returns-then-unit-left-clause-answers g c = λ written behaviour base rest stands told out.
    let goes = c.loop.invariant.goes written behaviour base rest stands told out in
    let needs = needs-unit c.takes_unit.result c.loop.left c.from-unit.result c.from-unit.ensures c.if-unit-left.true in
    spent-all c.args.self.now c.loop.self behaviour base rest c.args.steps c.loop.left _ _ goes (sym c.takes_unit.ensures ∙ needs.0) needs.1

pub returns-then-unit-left-clause-holds : goal.returns-then-unit-left-clause-holds
returns-then-unit-left-clause-holds g c = c.loop.invariant.can

pub returns-then-unit-left-clause-kept : goal.returns-then-unit-left-clause-kept
returns-then-unit-left-clause-kept g c = λ final e. absurd (no-final E.StepsSpent final refl e)

pub returns-then-unit-left-clause-needed : goal.returns-then-unit-left-clause-needed
returns-then-unit-left-clause-needed g c = λ written behaviour base rest final stands told out e. absurd (no-final E.StepsSpent final refl e)

pub returns-then-unit-left-clause-counts : goal.returns-then-unit-left-clause-counts
returns-then-unit-left-clause-counts g c = c.loop.invariant.counts

pub returns-then-unit-left-clause-within : goal.returns-then-unit-left-clause-within
returns-then-unit-left-clause-within g c = omega (arith, c.loop.invariant.counted)

pub returns-then-unit-left-clause-reads_counted : goal.returns-then-unit-left-clause-reads_counted
returns-then-unit-left-clause-reads_counted g c = omega (arith, c.loop.invariant.reads)

pub returns-then-unit-left-clause-read_faultless : goal.returns-then-unit-left-clause-read_faultless
returns-then-unit-left-clause-read_faultless g c = λ _. c.loop.invariant.reads

pub returns-then-unit-left-clause-writes_counted : goal.returns-then-unit-left-clause-writes_counted
returns-then-unit-left-clause-writes_counted g c = omega (arith, c.loop.invariant.writes)

pub returns-then-unit-left-clause-write_faultless : goal.returns-then-unit-left-clause-write_faultless
returns-then-unit-left-clause-write_faultless g c = λ _. c.loop.invariant.writes

pub act-requires : goal.act-requires
act-requires g c = c.loop.invariant.can (sym c.end.ensures ∙ c.in-None.is)

pub overflow_add-self : goal.overflow_add-self
overflow_add-self g c = omega (arith, c.requires.counted, c.loop.invariant.counted, c.if-unit-left.false, c.act.ensures.kept.spent)

pub stop-requires : goal.stop-requires
stop-requires g c = omega (arith, c.requires.counted, c.loop.invariant.counted, c.if-unit-left.false, c.act.ensures.kept.spent)

pub returns-in-Err-clause-answers : goal.returns-in-Err-clause-answers
returns-in-Err-clause-answers g c = λ written behaviour base rest stands told out.
    let goes = c.loop.invariant.goes written behaviour base rest stands told out in
    let split = left-split c.loop.left c.from-unit.result _ c.from-unit.ensures c.if-unit-left.false in
    subst (λ (e : RefEnd). RunAnswers c.args.self.now c.stop.new.self behaviour base rest c.args.steps e (g.I.Source.left c.act.new.input) (g.O.Sink.written c.act.new.out)) (sym c.stop.ensures.answer)
    (answers-halted (Unit {0}) c.args.self.now c.loop.self c.act.new.self c.stop.new.self behaviour base rest c.args.steps c.loop.left (c.loop.left - c.from-unit.result) _ _ _ _ c.takes_unit.result c.in-Err.halt
    goes c.in-Err.ensures.kept c.in-Err.ensures.acts (sym c.takes_unit.ensures) split c.stop.ensures.halted)

pub returns-in-Err-clause-holds : goal.returns-in-Err-clause-holds
returns-in-Err-clause-holds g c = halted-unless (Unit {0}) c.loop.self c.act.new.self c.stop.new.self c.in-Err.halt _ _ _ _ c.in-Err.ensures.acts c.stop.ensures.halted

pub returns-in-Err-clause-read_cause : goal.returns-in-Err-clause-read_cause
returns-in-Err-clause-read_cause g c = λ e.
    subst (λ n. Rose n (g.I.Source.faults c.act.new.input)) c.loop.invariant.reads (c.in-Err.ensures.read_cause (ap Err (halted-read c.in-Err.halt (sym c.stop.ensures.answer ∙ e))))

pub returns-in-Err-clause-write_cause : goal.returns-in-Err-clause-write_cause
returns-in-Err-clause-write_cause g c = λ e.
    subst (λ n. Rose n (g.O.Sink.faults c.act.new.out)) c.loop.invariant.writes (c.in-Err.ensures.write_cause (ap Err (halted-written c.in-Err.halt (sym c.stop.ensures.answer ∙ e))))

pub returns-in-Err-clause-reads : goal.returns-in-Err-clause-reads
returns-in-Err-clause-reads g c = λ e.
    next-halted (Unit {0}) c.loop.self c.act.new.self c.stop.new.self F.GetChar c.in-Err.halt _ _ _ _ c.in-Err.ensures.acts c.stop.ensures.halted (inl (halted-read c.in-Err.halt (sym c.stop.ensures.answer ∙ e)))
    (c.in-Err.ensures.reads (ap Err (halted-read c.in-Err.halt (sym c.stop.ensures.answer ∙ e))))

pub returns-in-Err-clause-writes : goal.returns-in-Err-clause-writes
returns-in-Err-clause-writes g c = λ e.
    next-halted (Unit {0}) c.loop.self c.act.new.self c.stop.new.self F.PutChar c.in-Err.halt _ _ _ _ c.in-Err.ensures.acts c.stop.ensures.halted (inr (halted-written c.in-Err.halt (sym c.stop.ensures.answer ∙ e)))
    (c.in-Err.ensures.writes (ap Err (halted-written c.in-Err.halt (sym c.stop.ensures.answer ∙ e))))

pub returns-in-Err-clause-kept : goal.returns-in-Err-clause-kept
returns-in-Err-clause-kept g c = λ final e. kept-halted c.act.new.self c.stop.new.self c.in-Err.halt final c.stop.ensures.halted (sym c.stop.ensures.answer ∙ e)

pub returns-in-Err-clause-needed : goal.returns-in-Err-clause-needed
returns-in-Err-clause-needed g c = λ written behaviour base rest final stands told out e.
    let goes = c.loop.invariant.goes written behaviour base rest stands told out in
    let split = left-split c.loop.left c.from-unit.result _ c.from-unit.ensures c.if-unit-left.false in
    needed-halted (Unit {0}) c.args.self.now c.loop.self c.act.new.self c.stop.new.self behaviour base rest c.args.steps c.loop.left (c.loop.left - c.from-unit.result) _ _ _ _ c.takes_unit.result c.in-Err.halt c.from-unit.result final
    goes c.in-Err.ensures.kept c.in-Err.ensures.acts (sym c.takes_unit.ensures) split c.stop.ensures.spent c.from-unit.ensures (sym c.stop.ensures.answer ∙ e)

pub returns-in-Err-clause-counts : goal.returns-in-Err-clause-counts
returns-in-Err-clause-counts g c = omega (arith, c.loop.invariant.counts, c.act.ensures.kept.spent, c.stop.ensures.spent)

pub returns-in-Err-clause-within : goal.returns-in-Err-clause-within
returns-in-Err-clause-within g c =
    let most = spent-within c.in-Err.halt c.from-unit.result in
    omega (arith, most, c.loop.invariant.counted, c.if-unit-left.false, c.act.ensures.kept.spent, c.stop.ensures.spent)

pub returns-in-Err-clause-reads_counted : goal.returns-in-Err-clause-reads_counted
returns-in-Err-clause-reads_counted g c = omega (arith, c.loop.invariant.reads, c.act.ensures.reads_counted)

pub returns-in-Err-clause-writes_counted : goal.returns-in-Err-clause-writes_counted
returns-in-Err-clause-writes_counted g c = omega (arith, c.loop.invariant.writes, c.act.ensures.writes_counted)

pub loop-preserved : goal.loop-preserved
loop-preserved g c =
    let split = left-split c.loop.left c.from-unit.result _ c.from-unit.ensures c.if-unit-left.false in
    record {
      can = λ none. respent c.act.new.self _ c.in-Ok.ensures.holds;
      counted = omega (arith, c.loop.invariant.counted, c.if-unit-left.false, c.act.ensures.kept.spent);
      counts = omega (arith, c.loop.invariant.counts, c.act.ensures.kept.spent);
      goes = λ written behaviour base rest stands told out.
          goes-further tt c.args.self.now c.loop.self c.act.new.self behaviour base rest c.args.steps c.loop.left (c.loop.left - c.from-unit.result) _ _ _ _ c.takes_unit.result
          (c.loop.invariant.goes written behaviour base rest stands told out) c.in-Ok.ensures.kept c.in-Ok.ensures.acts (sym c.takes_unit.ensures) split _ (ap (λ n. c.act.new.self.spent + n) c.from-unit.ensures);
      reads = c.in-Ok.ensures.read_faultless (λ e. done-no-fault _ _ e) ∙ c.loop.invariant.reads;
      writes = c.in-Ok.ensures.write_faultless (λ e. done-no-fault _ _ e) ∙ c.loop.invariant.writes;
    }

pub returns-clause-answers : goal.returns-clause-answers
returns-clause-answers g c = λ written behaviour base rest stands told out.
    breaks-off c.args.self.now c.loop.self behaviour base rest c.args.steps c.loop.left _ _ (c.loop.invariant.goes written behaviour base rest stands told out)

pub returns-clause-holds : goal.returns-clause-holds
returns-clause-holds g c = c.loop.invariant.can

pub returns-clause-kept : goal.returns-clause-kept
returns-clause-kept g c = λ final e. absurd (no-final E.OutOfMemory final refl e)

pub returns-clause-needed : goal.returns-clause-needed
returns-clause-needed g c = λ written behaviour base rest final stands told out e. absurd (no-final E.OutOfMemory final refl e)

pub returns-clause-counts : goal.returns-clause-counts
returns-clause-counts g c = c.loop.invariant.counts

pub returns-clause-within : goal.returns-clause-within
returns-clause-within g c = omega (arith, c.loop.invariant.counted)

pub returns-clause-reads_counted : goal.returns-clause-reads_counted
returns-clause-reads_counted g c = omega (arith, c.loop.invariant.reads)

pub returns-clause-writes_counted : goal.returns-clause-writes_counted
returns-clause-writes_counted g c = omega (arith, c.loop.invariant.writes)

pub returns-in-Err-clause-read_faultless : goal.returns-in-Err-clause-read_faultless
returns-in-Err-clause-read_faultless g c = λ other. c.in-Err.ensures.read_faultless (λ e. other (c.stop.ensures.answer ∙ ap halted (same-halt c.act.result c.in-Err.halt H.ReadFault c.in-Err.is (c.in-Err.is ∙ e)))) ∙ c.loop.invariant.reads

pub returns-clause-read_faultless : goal.returns-clause-read_faultless
returns-clause-read_faultless g c = λ _. c.loop.invariant.reads

pub returns-in-Err-clause-write_faultless : goal.returns-in-Err-clause-write_faultless
returns-in-Err-clause-write_faultless g c = λ other. c.in-Err.ensures.write_faultless (λ e. other (c.stop.ensures.answer ∙ ap halted (same-halt c.act.result c.in-Err.halt H.WriteFault c.in-Err.is (c.in-Err.is ∙ e)))) ∙ c.loop.invariant.writes

pub returns-clause-write_faultless : goal.returns-clause-write_faultless
returns-clause-write_faultless g c = λ _. c.loop.invariant.writes
