use Rattle.std.proofs.Common.{Some, sym, ap, ◌∙◌}
use Rattle.heap_graph.specs.Targets.{same_target}
use Rattle.heap_graph.specs.Reached.{reached_of}
use Rattle.graph_checker.proofs.Cases.{taken_none, taken_some}
use Rattle.graph_checker.proofs.calls.is_taken.Goals as goal

pub returns-in-None : goal.returns-in-None
returns-in-None c = λ returned is. taken_none _ returned _ (is ∙ sym (c.in-None.ensures c.args.caller.types.now))

pub returns-in-Some : goal.returns-in-Some
returns-in-Some c = λ returned is.
    let target = reached_of c.in-Some.returned in
    taken_some _ c.is_at.result returned _ target (sym c.gives_data_pointer.ensures ∙ c.if-not-gives_data_pointer.false) (is ∙ sym (c.in-Some.ensures c.args.caller.types.now))
    (c.is_at.ensures ∙ ap (λ own. same_target own (Some target)) c.register.ensures)
