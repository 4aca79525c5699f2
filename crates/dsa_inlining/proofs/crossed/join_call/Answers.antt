use Rattle.std.proofs.Common.{refl, ◌∙◌}
use Rattle.tac_ir.specs.declared.register.Register.TheVariants as R
use Rattle.heap_graph.specs.Graphs.{OfRegister}
use Rattle.heap_graph.specs.Frozen.{bare}
use Rattle.graph_unification.specs.Memory.{owner_of}
use Rattle.graph_unification.proofs.NamedSteps.{on_ok}
use Rattle.dsa_inlining.proofs.Carried.{copies_kept}
use Rattle.dsa_inlining.specs.Shown.{code_of, shown, callee_of, copies_of}
use Rattle.dsa_inlining.proofs.Passing.{call_joined}
use Rattle.dsa_inlining.proofs.crossed.join_call.Goals as goal

pub take_result-requires-clause-copied : goal.take_result-requires-clause-copied
take_result-requires-clause-copied c =
    let own = c.args.crossed in
    copies_kept (code_of own).structs c.requires.known.code.made (shown own c.args.graph.now) (shown own c.pass_arguments.new.graph) (bare own.tac.now.types own.callee.now) (copies_of own) c.requires.graph.sound
    c.in_ok-pass_arguments.ensures.joins.goes c.requires.copied

pub take_result-requires-clause-named : goal.take_result-requires-clause-named
take_result-requires-clause-named c = c.in_ok-pass_arguments.ensures.joins.names (OfRegister (owner_of c.args.owner) (R.Call c.args.site)) refl ∙ c.requires.names.call

pub returns-clause-copied : goal.returns-clause-copied
returns-clause-copied c =
    let own = c.args.crossed in
    let structs = (code_of own).structs in
    let made = c.requires.known.code.made in
    let nodes = bare own.tac.now.types own.callee.now in
    let two = shown own c.pass_arguments.new.graph in
    on_ok c.take_result.result c.take_result.ensures.joins
    (λ given. copies_kept structs made two (shown own c.take_result.new.graph) nodes (copies_of own) c.in_ok-pass_arguments.ensures.graph.sound given.goes
    (copies_kept structs made (shown own c.args.graph.now) two nodes (copies_of own) c.requires.graph.sound c.in_ok-pass_arguments.ensures.joins.goes c.requires.copied))

pub returns-clause-joins : goal.returns-clause-joins
returns-clause-joins c =
    let own = c.args.crossed in
    on_ok c.take_result.result c.take_result.ensures.joins
    (λ given. call_joined (code_of own) c.requires.known.code.made (callee_of own) (copies_of own) (owner_of c.args.owner) c.args.site c.args.arguments.now own.called (shown own c.args.graph.now)
    (shown own c.pass_arguments.new.graph) (shown own c.take_result.new.graph) c.requires.graph.sound c.in_ok-pass_arguments.ensures.graph.sound c.in_ok-pass_arguments.ensures.joins given)
