use Rattle.std.proofs.Common.{◌≡◌, ◌⊎◌, refl, sym, subst}
use Rattle.pcc_words.specs.declared.status.Status.{Status}
use Rattle.pcc_words.specs.declared.status.Status.TheVariants as S
use Rattle.pcc_words.specs.declared.status.Refusal.TheVariants as R
use Rattle.poolcc.specs.Compiled.{image_run}
use Rattle.c_rules.specs.Elaborated as elaborated
use Rattle.ref_meaning.specs.Running.{behaviour_of}
use Rattle.poolcc.specs.Command.{Names, machine_limits}
use Rattle.poolcc.specs.Complete.{RunsUnlessMemory, IsToldUnlessMemory, IsReachedUnlessMemory, IsBuiltUnlessMemory, AreShownUnlessMemory, IsBadUnlessMemory}
use Rattle.poolcc.specs.Exec.{ExecGives}
use Rattle.poolcc.proofs.Completing.{said_as_it_is, said_memory, said_trap, completed, trapped, no_read_fault}
use Rattle.poolcc.proofs.Refusing.{is_lexical, refuses}
use Rattle.poolcc.proofs.RefCompleting.{ref_completed, ref_refuses}
use Rattle.poolcc.proofs.Building.{built, build_refuses}
use Rattle.poolcc.proofs.Printing.{shown, graph_refuses}
use Rattle.poolcc.proofs.ImageRunning.{image_completed, image_bad}
use Rattle.poolcc.proofs.top.poolcc.Goals as goal

pub returns-clause-trapped_cause : goal.returns-clause-trapped_cause
returns-clause-trapped_cause g c = λ kind file limits one_pool steps text left base e line holds told wrote.
    let left' = g.I.Source.left c.command-answer.new.input in
    let written' = g.O.Sink.written c.command-answer.new.out in
    let is = said_trap c.command-answer.result c.say.result kind _ _ _ _ c.say.ensures.said e in
    trapped text (machine_limits limits) steps left base left' written' kind
    (subst (λ (status : Status). ExecGives text (machine_limits limits) steps left base status left' written') is (c.command-answer.ensures.answers.exec file limits one_pool steps text left base line holds told wrote))

pub returns-clause-complete : goal.returns-clause-complete
returns-clause-complete g c = λ file limits one_pool steps text left base program line holds short told wrote quiet_files quiet_input quiet_out quiet_err buildable.
    let left' = g.I.Source.left c.command-answer.new.input in
    let written' = g.O.Sink.written c.command-answer.new.out in
    let same = said_as_it_is c.command-answer.result c.say.result _ _ _ _ c.say.ensures.said quiet_err in
    let no_read = λ (e : c.command-answer.result ≡ S.ReadFault).
    no_read_fault _ file (g.F.Files.faults c.args.files.now) (g.F.Files.faults c.command-answer.new.files) _ _ (subst (λ l. Names l file) (sym line) refl) quiet_files quiet_input (c.command-answer.ensures.read_cause e) in
    let no_write = λ (e : c.command-answer.result ≡ S.WriteFault). quiet_out (c.command-answer.ensures.write_cause e) in
    subst (λ (status : Status). RunsUnlessMemory text (machine_limits limits) steps left base status written') (sym same)
    (completed text (machine_limits limits) steps left base left' written' program buildable short c.command-answer.result (c.command-answer.ensures.answers.exec file limits one_pool steps text left base line holds told wrote) no_read no_write)

pub returns-clause-refused : goal.returns-clause-refused
returns-clause-refused g c = λ file limits one_pool steps text left base refusal line holds short told wrote quiet_files quiet_input quiet_out quiet_err refused.
    let left' = g.I.Source.left c.command-answer.new.input in
    let written' = g.O.Sink.written c.command-answer.new.out in
    let same = said_as_it_is c.command-answer.result c.say.result _ _ _ _ c.say.ensures.said quiet_err in
    let no_read = λ (e : c.command-answer.result ≡ S.ReadFault).
    no_read_fault _ file (g.F.Files.faults c.args.files.now) (g.F.Files.faults c.command-answer.new.files) _ _ (subst (λ l. Names l file) (sym line) refl) quiet_files quiet_input (c.command-answer.ensures.read_cause e) in
    let no_write = λ (e : c.command-answer.result ≡ S.WriteFault). quiet_out (c.command-answer.ensures.write_cause e) in
    subst (λ (status : Status). (status ≡ S.OutOfMemory) ⊎ (status ≡ S.Refused refusal)) (sym same)
    (refuses text (machine_limits limits) steps left base left' written' refusal refused short c.command-answer.result (c.command-answer.ensures.answers.exec file limits one_pool steps text left base line holds told wrote) no_read no_write)

pub returns-clause-lexical : goal.returns-clause-lexical
returns-clause-lexical g c = λ file limits one_pool steps text left base kind place line holds short told wrote quiet_files quiet_input quiet_out quiet_err faults.
    returns-clause-refused g c file limits one_pool steps text left base (R.Lex kind place) line holds short told wrote quiet_files quiet_input quiet_out quiet_err (is_lexical text kind place faults)

pub returns-clause-ref_complete : goal.returns-clause-ref_complete
returns-clause-ref_complete g c = λ file steps text left base program line holds short told wrote quiet_files quiet_input quiet_out quiet_err accepted.
    let left' = g.I.Source.left c.command-answer.new.input in
    let written' = g.O.Sink.written c.command-answer.new.out in
    let same = said_as_it_is c.command-answer.result c.say.result _ _ _ _ c.say.ensures.said quiet_err in
    let no_read = λ (e : c.command-answer.result ≡ S.ReadFault).
    no_read_fault _ file (g.F.Files.faults c.args.files.now) (g.F.Files.faults c.command-answer.new.files) _ _ (subst (λ l. Names l file) (sym line) refl) quiet_files quiet_input (c.command-answer.ensures.read_cause e) in
    let no_write = λ (e : c.command-answer.result ≡ S.WriteFault). quiet_out (c.command-answer.ensures.write_cause e) in
    subst (λ (status : Status). IsReachedUnlessMemory (behaviour_of (elaborated.typed_of program) left steps) base status left' written') (sym same)
    (ref_completed text steps left base left' written' short program accepted c.command-answer.result (c.command-answer.ensures.answers.ref file steps text left base line holds told wrote) no_read no_write)

pub returns-clause-ref_refused : goal.returns-clause-ref_refused
returns-clause-ref_refused g c = λ file steps text left base refusal line holds short told wrote quiet_files quiet_input quiet_out quiet_err refused.
    let left' = g.I.Source.left c.command-answer.new.input in
    let written' = g.O.Sink.written c.command-answer.new.out in
    let same = said_as_it_is c.command-answer.result c.say.result _ _ _ _ c.say.ensures.said quiet_err in
    let no_read = λ (e : c.command-answer.result ≡ S.ReadFault).
    no_read_fault _ file (g.F.Files.faults c.args.files.now) (g.F.Files.faults c.command-answer.new.files) _ _ (subst (λ l. Names l file) (sym line) refl) quiet_files quiet_input (c.command-answer.ensures.read_cause e) in
    let no_write = λ (e : c.command-answer.result ≡ S.WriteFault). quiet_out (c.command-answer.ensures.write_cause e) in
    subst (λ (status : Status). (status ≡ S.OutOfMemory) ⊎ (status ≡ S.Refused refusal)) (sym same)
    (ref_refuses text steps left base left' written' short refusal refused c.command-answer.result (c.command-answer.ensures.answers.ref file steps text left base line holds told wrote) no_read no_write)

pub returns-clause-build_complete : goal.returns-clause-build_complete
returns-clause-build_complete g c = λ file limits one_pool text base program line holds short wrote quiet_files quiet_input quiet_out quiet_err buildable.
    let written' = g.O.Sink.written c.command-answer.new.out in
    let same = said_as_it_is c.command-answer.result c.say.result _ _ _ _ c.say.ensures.said quiet_err in
    let no_read = λ (e : c.command-answer.result ≡ S.ReadFault).
    no_read_fault _ file (g.F.Files.faults c.args.files.now) (g.F.Files.faults c.command-answer.new.files) _ _ (subst (λ l. Names l file) (sym line) refl) quiet_files quiet_input (c.command-answer.ensures.read_cause e) in
    let no_write = λ (e : c.command-answer.result ≡ S.WriteFault). quiet_out (c.command-answer.ensures.write_cause e) in
    subst (λ (status : Status). IsBuiltUnlessMemory text (machine_limits limits) base status written') (sym same)
    (built text (machine_limits limits) base written' short program buildable c.command-answer.result (c.command-answer.ensures.answers.build file limits one_pool text base line holds wrote).1 no_read no_write)

pub returns-clause-build_refused : goal.returns-clause-build_refused
returns-clause-build_refused g c = λ file limits one_pool text base refusal line holds short wrote quiet_files quiet_input quiet_out quiet_err refused.
    let written' = g.O.Sink.written c.command-answer.new.out in
    let same = said_as_it_is c.command-answer.result c.say.result _ _ _ _ c.say.ensures.said quiet_err in
    let no_read = λ (e : c.command-answer.result ≡ S.ReadFault).
    no_read_fault _ file (g.F.Files.faults c.args.files.now) (g.F.Files.faults c.command-answer.new.files) _ _ (subst (λ l. Names l file) (sym line) refl) quiet_files quiet_input (c.command-answer.ensures.read_cause e) in
    let no_write = λ (e : c.command-answer.result ≡ S.WriteFault). quiet_out (c.command-answer.ensures.write_cause e) in
    subst (λ (status : Status). (status ≡ S.OutOfMemory) ⊎ (status ≡ S.Refused refusal)) (sym same)
    (build_refuses text (machine_limits limits) base written' short refusal refused c.command-answer.result (c.command-answer.ensures.answers.build file limits one_pool text base line holds wrote).1 no_read no_write)

pub returns-clause-graph_complete : goal.returns-clause-graph_complete
returns-clause-graph_complete g c = λ file text base program line holds short wrote quiet_files quiet_input quiet_out quiet_err buildable.
    let written' = g.O.Sink.written c.command-answer.new.out in
    let same = said_as_it_is c.command-answer.result c.say.result _ _ _ _ c.say.ensures.said quiet_err in
    let no_read = λ (e : c.command-answer.result ≡ S.ReadFault).
    no_read_fault _ file (g.F.Files.faults c.args.files.now) (g.F.Files.faults c.command-answer.new.files) _ _ (subst (λ l. Names l file) (sym line) refl) quiet_files quiet_input (c.command-answer.ensures.read_cause e) in
    let no_write = λ (e : c.command-answer.result ≡ S.WriteFault). quiet_out (c.command-answer.ensures.write_cause e) in
    subst (λ (status : Status). AreShownUnlessMemory text base status written') (sym same)
    (shown text base written' short program buildable c.command-answer.result (c.command-answer.ensures.answers.graph file text base line holds wrote).1 no_read no_write)

pub returns-clause-graph_refused : goal.returns-clause-graph_refused
returns-clause-graph_refused g c = λ file text base refusal line holds short wrote quiet_files quiet_input quiet_out quiet_err refused.
    let written' = g.O.Sink.written c.command-answer.new.out in
    let same = said_as_it_is c.command-answer.result c.say.result _ _ _ _ c.say.ensures.said quiet_err in
    let no_read = λ (e : c.command-answer.result ≡ S.ReadFault).
    no_read_fault _ file (g.F.Files.faults c.args.files.now) (g.F.Files.faults c.command-answer.new.files) _ _ (subst (λ l. Names l file) (sym line) refl) quiet_files quiet_input (c.command-answer.ensures.read_cause e) in
    let no_write = λ (e : c.command-answer.result ≡ S.WriteFault). quiet_out (c.command-answer.ensures.write_cause e) in
    subst (λ (status : Status). (status ≡ S.OutOfMemory) ⊎ (status ≡ S.Refused refusal)) (sym same)
    (graph_refuses text base written' short refusal refused c.command-answer.result (c.command-answer.ensures.answers.graph file text base line holds wrote).1 no_read no_write)

pub returns-clause-run_complete : goal.returns-clause-run_complete
returns-clause-run_complete g c = λ file steps bytes left base form line holds short told wrote quiet_files quiet_input quiet_out quiet_err decoded.
    let left' = g.I.Source.left c.command-answer.new.input in
    let written' = g.O.Sink.written c.command-answer.new.out in
    let same = said_as_it_is c.command-answer.result c.say.result _ _ _ _ c.say.ensures.said quiet_err in
    let no_read = λ (e : c.command-answer.result ≡ S.ReadFault).
    no_read_fault _ file (g.F.Files.faults c.args.files.now) (g.F.Files.faults c.command-answer.new.files) _ _ (subst (λ l. Names l file) (sym line) refl) quiet_files quiet_input (c.command-answer.ensures.read_cause e) in
    let no_write = λ (e : c.command-answer.result ≡ S.WriteFault). quiet_out (c.command-answer.ensures.write_cause e) in
    subst (λ (status : Status). IsToldUnlessMemory (image_run form left steps) base status written') (sym same)
    (image_completed bytes steps left base left' written' short form decoded c.command-answer.result (c.command-answer.ensures.answers.run file steps bytes left base line holds told wrote) no_read no_write)

pub returns-clause-run_bad : goal.returns-clause-run_bad
returns-clause-run_bad g c = λ file steps bytes left base line holds short told wrote quiet_files quiet_input quiet_out quiet_err none.
    let left' = g.I.Source.left c.command-answer.new.input in
    let written' = g.O.Sink.written c.command-answer.new.out in
    let same = said_as_it_is c.command-answer.result c.say.result _ _ _ _ c.say.ensures.said quiet_err in
    let no_read = λ (e : c.command-answer.result ≡ S.ReadFault).
    no_read_fault _ file (g.F.Files.faults c.args.files.now) (g.F.Files.faults c.command-answer.new.files) _ _ (subst (λ l. Names l file) (sym line) refl) quiet_files quiet_input (c.command-answer.ensures.read_cause e) in
    let no_write = λ (e : c.command-answer.result ≡ S.WriteFault). quiet_out (c.command-answer.ensures.write_cause e) in
    subst (λ (status : Status). IsBadUnlessMemory bytes status) (sym same)
    (image_bad bytes steps left base left' written' short none c.command-answer.result (c.command-answer.ensures.answers.run file steps bytes left base line holds told wrote) no_read no_write)

pub returns-clause-memory_cause : goal.returns-clause-memory_cause
returns-clause-memory_cause g c = λ e.
    let said = said_memory c.command-answer.result c.say.result _ _ _ _ c.say.ensures.said e in
    (said.1, c.command-answer.ensures.memory_cause said.0)
