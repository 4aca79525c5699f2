use Rattle.std.proofs.Common.{◌≡◌, ◌-◌, [], None, Some, ◌∙◌, refl, sym, ap, subst, arith}
use Rattle.std.proofs.lemmas.List.{append-nil}
use Rattle.pool_isa.specs.Machine.{Code, State, initial, first_history}
use Rattle.image_form.specs.Form.{form_of}
use Rattle.machine.specs.Run.{RunsTo, state_at, is_over}
use Rattle.machine.specs.Loaded.{ready_of}
use Rattle.poolcc.specs.Compiled.{first_of_run}
use Rattle.poolcc.proofs.execution.run_image.Goals as goal

pub returns-in_default-clause-gives : goal.returns-in_default-clause-gives
returns-in_default-clause-gives g c = λ left base l w.
    let first = first_of_run (form_of c.args.image.now) left in
    record {
      made = 0;
      activations = first.activations;
      heap = first.heap;
      gives = record { within = omega arith; comes = record { last = first; comes = refl; frames = refl; heap_is = refl; left_at = (l, w ∙ ap Some (sym (append-nil base))) } };
    }

pub returns-clause-gives : goal.returns-clause-gives
returns-clause-gives g c = λ left base l w.
    let old = ready_of c.in-Ok.machine in
    let new = ready_of c.run.new.self in
    let limits = c.args.image.now.limits in
    let fresh : is_over old.last ≡ None = ap is_over c.in-Ok.ensures.last in
    let ran : RunsTo old.code (state_at old first_history left []) base c.args.steps c.run.result (g.I.Source.left c.run.new.input) (g.O.Sink.written c.run.new.out) =
    record { made = new.spent - old.spent; activations = new.activations; heap = new.heap; gives = c.run.ensures.meaning fresh first_history left base [] l (w ∙ ap Some (sym (append-nil base))) } in
    let from_start = subst (λ (state : State). RunsTo old.code state base c.args.steps c.run.result (g.I.Source.left c.run.new.input) (g.O.Sink.written c.run.new.out)) (sym (c.in-Ok.ensures.start left)) ran in
    subst (λ (code : Code). RunsTo code (initial code limits.slabs limits.index left) base c.args.steps c.run.result (g.I.Source.left c.run.new.input) (g.O.Sink.written c.run.new.out)) c.in-Ok.ensures.code from_start
