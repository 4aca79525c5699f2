use Rattle.std.proofs.Common.{sym, ap, subst, ◌∙◌}
use Rattle.std.specs.Prelude.{◌||◌}
use Rattle.tac_ir.specs.Views.{path_in}
use Rattle.heap_graph.specs.Targets.{has_target}
use Rattle.graph_unification.specs.Memory.{name_of}
use Rattle.graph_unification.specs.Applying.{code_of, owner_of, shown, Applies, IsTouched}
use Rattle.graph_unification.proofs.ObjectSteps.{touched, typed_touched}
use Rattle.graph_unification.proofs.applied.Applied.touch.Goals as goal

pub mark_if-used-requires-clause-target : goal.mark_if-used-requires-clause-target
mark_if-used-requires-clause-target c =
    let own = c.args.self in
    c.in_ok-told.ensures.applies.leads.names (name_of c.base_name-name.result) ∙ ap has_target (c.base_name-name.ensures (shown own c.args.graph.now)) ∙ c.requires.base

pub mark-touched-requires-clause-target : goal.mark-touched-requires-clause-target
mark-touched-requires-clause-target c =
    let own = c.args.self in
    c.mark_if-used.ensures.applies.leads.names (name_of c.base_name-name.result)
    ∙ c.in_ok-told.ensures.applies.leads.names (name_of c.base_name-name.result) ∙ ap has_target (c.base_name-name.ensures (shown own c.args.graph.now)) ∙ c.requires.base

pub returns-clause-typed : goal.returns-clause-typed
returns-clause-typed c =
    let own = c.args.self in
    typed_touched (code_of own) c.requires.known.made (owner_of own) (path_in own.tac.now.types c.args.path.now) (name_of c.base_name-name.result) c.base_name-name.ensures
    (shown own c.args.graph.now) (shown own c.tell_base.new.graph) (shown own c.mark_if-used.new.graph) (shown own c.mark-touched.new.graph) c.in_ok-told.told c.mark_if-used.result c.mark-touched.result
    c.in_ok-told.ensures.graph.sound c.mark_if-used.ensures.graph.sound c.requires.base c.in_ok-told.ensures.applies c.in_ok-told.ensures.typed c.mark_if-used.ensures.applies c.mark-touched.ensures.applies

pub returns-clause-applies : goal.returns-clause-applies
returns-clause-applies c =
    let own = c.args.self in
    let code = code_of own in
    let owner = owner_of own in
    let path = path_in own.tac.now.types c.args.path.now in
    let one = shown own c.args.graph.now in
    let two = shown own c.tell_base.new.graph in
    let three = shown own c.mark_if-used.new.graph in
    let four = shown own c.mark-touched.new.graph in
    subst (λ b. Applies code.structs b one four (IsTouched code owner path c.args.flag)) (sym (c.either-2.ensures ∙ ap (λ b. c.in_ok-told.told || b) c.either.ensures))
    (touched code c.requires.known.made owner path (name_of c.base_name-name.result) c.base_name-name.ensures one two three four c.in_ok-told.told c.mark_if-used.result c.mark-touched.result
    c.requires.graph.sound c.in_ok-told.ensures.graph.sound c.args.flag c.is_indexed.result (c.is_indexed.ensures own.tac.now.types) c.in_ok-told.ensures.applies c.mark_if-used.ensures.applies c.mark-touched.ensures.applies)
