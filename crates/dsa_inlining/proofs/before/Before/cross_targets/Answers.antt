use Rattle.std.proofs.Common.{get_or, arith}
use Rattle.std.proofs.lemmas.List.{length-map}
use Rattle.tac_ir.specs.declared.register.FunctionId.{FunctionId}
use Rattle.tac_ir.specs.Views.{tac_of}
use Rattle.call_graph.specs.ClassLists.{numbers_of}
use Rattle.graph_unification.specs.Memory.{owner_of}
use Rattle.call_graph.proofs.RowLists.{has_at}
use Rattle.dsa_inlining.specs.Before.{graphs_before}
use Rattle.dsa_inlining.specs.CallSteps.{shown, TargetCrosses}
use Rattle.dsa_inlining.proofs.Naming.{call_named_kept, no_function, number_at}
use Rattle.dsa_inlining.proofs.Stepping.{crosses_none, crosses_next, target_kept, target_back, targets_done}
use Rattle.dsa_inlining.proofs.before.Before.cross_targets.Goals as goal

pub loop-called-init : goal.loop-called-init
loop-called-init c =
    let before = graphs_before c.args.self in
    let group = c.args.caller.group in
    let owner = owner_of c.args.caller.owner in
    record {
      graph = c.requires.graph;
      named = c.requires.named;
      crosses = crosses_none before c.requires.known.code.made group owner (TargetCrosses before group owner c.args.site c.args.arguments.now) (numbers_of c.args.targets.now) c.args.own.now (shown c.args.self c.args.graph.now)
          c.requires.graph.sound c.requires.stands;
      joined = c.requires.joined;
    }

pub cross_one-requires-clause-out : goal.cross_one-requires-clause-out
cross_one-requires-clause-out c =
    let targets = c.args.targets.now in
    let i = c.loop-called.called-index in
    let n = (get_or targets i no_function).0 in
    c.requires.out n (has_at (numbers_of targets) i n (number_at targets i c.loop-called-test.true))

pub cross_one-requires-clause-graph : goal.cross_one-requires-clause-graph
cross_one-requires-clause-graph c = c.loop-called.invariant.graph

pub cross_one-requires-clause-named : goal.cross_one-requires-clause-named
cross_one-requires-clause-named c = c.loop-called.invariant.named

pub cross_one-requires-clause-stands : goal.cross_one-requires-clause-stands
cross_one-requires-clause-stands c = c.loop-called.invariant.crosses.stands

pub cross_one-requires-clause-joined : goal.cross_one-requires-clause-joined
cross_one-requires-clause-joined c = c.loop-called.invariant.joined

pub loop-called-preserved : goal.loop-called-preserved
loop-called-preserved c =
    let self = c.args.self in
    let before = graphs_before self in
    let made = c.requires.known.code.made in
    let group = c.args.caller.group in
    let owner = owner_of c.args.caller.owner in
    let site = c.args.site in
    let arguments = c.args.arguments.now in
    let targets = c.args.targets.now in
    let i = c.loop-called.called-index in
    let n = (get_or targets i no_function).0 in
    let start = shown self c.args.graph.now in
    let graph = shown self c.loop-called.graph in
    let next = shown self c.cross_one.new.graph in
    let so_far = c.loop-called.invariant in
    let its = c.in_ok-cross_one.ensures in
    record {
      graph = its.graph;
      named = call_named_kept (tac_of self.tac.now) made graph next so_far.graph.sound its.crosses.goes owner site arguments so_far.named;
      crosses = crosses_next before made group owner (TargetCrosses before group owner site arguments) (numbers_of targets) (target_kept before made group owner site arguments) (target_back before made group owner site arguments)
          c.args.own.now c.loop-called.own c.cross_one.new.own start graph next c.requires.graph.sound so_far.graph.sound i n (number_at targets i c.loop-called-test.true) so_far.crosses its.crosses;
      joined = its.joined;
    }

pub returns-clause-graph : goal.returns-clause-graph
returns-clause-graph c = c.loop-called.invariant.graph

pub returns-clause-crosses : goal.returns-clause-crosses
returns-clause-crosses c =
    let targets = c.args.targets.now in
    let long = length-map targets (λ (f : FunctionId). f.0) in
    targets_done (graphs_before c.args.self) c.requires.known.code.made c.args.caller.group (owner_of c.args.caller.owner) c.args.site c.args.arguments.now (numbers_of targets) c.args.own.now c.loop-called.own
    (shown c.args.self c.args.graph.now) (shown c.args.self c.loop-called.graph) c.loop-called.called-index (omega (arith, long, c.loop-called-test.false)) c.loop-called.invariant.crosses

pub returns-clause-joined : goal.returns-clause-joined
returns-clause-joined c = c.loop-called.invariant.joined
