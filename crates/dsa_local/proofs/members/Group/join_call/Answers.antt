use Rattle.std.proofs.Common.{◌∙◌}
use Rattle.c_typed.specs.Table.{structs_in, type_in}
use Rattle.tac_ir.specs.declared.register.Register.TheVariants as R
use Rattle.tac_ir.specs.States.{InFunction}
use Rattle.heap_graph.specs.Graphs.{OfRegister, OfResult}
use Rattle.graph_unification.proofs.NamedSteps.{on_ok}
use Rattle.dsa_local.specs.Members.{code_of, shown}
use Rattle.dsa_local.proofs.Passing.{type_read, call_joined}
use Rattle.dsa_local.proofs.members.Group.join_call.Goals as goal

pub take_result-requires-clause-call : goal.take_result-requires-clause-call
take_result-requires-clause-call c = c.in_ok-pass_arguments.ensures.joins.leads.names (OfRegister (InFunction c.args.caller.0) (R.Call c.args.site)) ∙ c.requires.names.call

pub take_result-requires-clause-returned : goal.take_result-requires-clause-returned
take_result-requires-clause-returned c = c.in_ok-pass_arguments.ensures.joins.leads.names (OfResult (InFunction c.args.called)) ∙ c.requires.names.result

pub returns-clause-joins : goal.returns-clause-joins
returns-clause-joins c =
    let own = c.args.self in
    let tac = own.tac.now in
    let function = c.index.result.now in
    let its = c.in_ok-pass_arguments.ensures in
    on_ok c.take_result.result c.take_result.ensures.joins
    (λ taken. call_joined (structs_in tac.types) c.requires.stands.made (code_of own) (InFunction c.args.caller.0) c.args.site c.args.arguments.now c.args.called
    (shown own c.args.graph.now) (shown own c.pass_arguments.new.graph) (shown own c.take_result.new.graph) c.requires.graph.sound its.graph.sound (type_in tac.types function.c_type)
    (type_read tac c.args.called function c.requires.within c.index.ensures) its.joins taken)
