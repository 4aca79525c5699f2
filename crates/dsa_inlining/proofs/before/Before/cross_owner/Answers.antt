use Rattle.std.proofs.Common.{◌≡◌, List, length, map, option_map, Some, refl, sym, ap, subst, ◌∙◌, arith}
use Rattle.std.specs.Prelude.{slice_get}
use Rattle.std.proofs.lemmas.List.{length-map}
use Rattle.std.proofs.lemmas.Option.{slice_get-map, slice_get_read}
use Rattle.tac_ir.specs.declared.op.Op as memory_op
use Rattle.tac_ir.specs.Views.{op_in, function_in, tac_of}
use Rattle.graph_unification.specs.Memory.{owner_of}
use Rattle.dsa_inlining.specs.declared.before.Crossings.{Crossings}
use Rattle.dsa_inlining.specs.Before.{graphs_before}
use Rattle.dsa_inlining.specs.CallSteps.{shown, PointCrosses, Crosses}
use Rattle.dsa_inlining.proofs.Naming.{owner_named_kept, function_there}
use Rattle.dsa_inlining.proofs.Stepping.{Below, AtEach, crosses_none, crosses_next, point_kept, point_back, points_done, owner_done}
use Rattle.dsa_inlining.proofs.Entering.{no_entries, empty_entries}
use Rattle.dsa_inlining.proofs.before.Before.cross_owner.Goals as goal

pub loop-op-init : goal.loop-op-init
loop-op-init c =
    let self = c.args.self in
    let before = graphs_before self in
    let group = c.args.caller.group in
    let owner = owner_of c.args.caller.owner in
    let graph = shown self c.args.graph.now in
    let begin : Crossings = record { copies = c.new.result; next = c.args.first } in
    record {
      graph = c.requires.graph;
      named = c.requires.named;
      crosses = crosses_none before c.requires.known.code.made group owner (PointCrosses before group owner) (map (op_in self.tac.now.types) c.as_slice-op-items.result.now) begin graph c.requires.graph.sound
          (no_entries before c.requires.known.code.made group owner begin graph c.new.ensures.empty c.requires.free);
      joined = c.requires.joined;
    }

pub cross_op-requires-clause-point : goal.cross_op-requires-clause-point
cross_op-requires-clause-point c =
    let table = c.args.self.tac.now.types in
    let function = c.function_of-function.result.now in
    let ops = c.as_slice-op-items.result.now in
    let i = c.loop-op.op-index in
    let op = c.op-item.result in
    let at : slice_get (map (op_in table) ops) i ≡ Some (op_in table op) = slice_get-map (op_in table) ops i ∙ ap (option_map (op_in table)) (slice_get_read ops (length ops) i op refl c.loop-op-test.true c.op-item.is) in
    record {
      function = function_in table function;
      is = function_there c.args.self.tac.now c.args.caller.owner function c.function_of-function.ensures;
      at = i;
      point = ap (λ l. slice_get (map (op_in table) l) i) (sym c.as_slice-op-items.ensures.value) ∙ at;
    }

pub cross_op-requires-clause-graph : goal.cross_op-requires-clause-graph
cross_op-requires-clause-graph c = c.loop-op.invariant.graph

pub cross_op-requires-clause-named : goal.cross_op-requires-clause-named
cross_op-requires-clause-named c = c.loop-op.invariant.named

pub cross_op-requires-clause-stands : goal.cross_op-requires-clause-stands
cross_op-requires-clause-stands c = c.loop-op.invariant.crosses.stands

pub cross_op-requires-clause-joined : goal.cross_op-requires-clause-joined
cross_op-requires-clause-joined c = c.loop-op.invariant.joined

pub loop-op-preserved : goal.loop-op-preserved
loop-op-preserved c =
    let self = c.args.self in
    let before = graphs_before self in
    let table = self.tac.now.types in
    let made = c.requires.known.code.made in
    let group = c.args.caller.group in
    let owner = owner_of c.args.caller.owner in
    let begin : Crossings = record { copies = c.new.result; next = c.args.first } in
    let ops = c.as_slice-op-items.result.now in
    let i = c.loop-op.op-index in
    let op = c.op-item.result in
    let graph = shown self c.loop-op.graph in
    let next = shown self c.cross_op.new.graph in
    let so_far = c.loop-op.invariant in
    let its = c.in_ok-cross_op.ensures in
    let at : slice_get (map (op_in table) ops) i ≡ Some (op_in table op) = slice_get-map (op_in table) ops i ∙ ap (option_map (op_in table)) (slice_get_read ops (length ops) i op refl c.loop-op-test.true c.op-item.is) in
    record {
      graph = its.graph;
      named = owner_named_kept (tac_of self.tac.now) made graph next so_far.graph.sound its.crosses.goes owner so_far.named;
      crosses = crosses_next before made group owner (PointCrosses before group owner) (map (op_in table) ops) (point_kept before made group owner) (point_back before made group owner) begin c.loop-op.own
          c.cross_op.new.own (shown self c.args.graph.now) graph next c.requires.graph.sound so_far.graph.sound i (op_in table op) at so_far.crosses its.crosses;
      joined = its.joined;
    }

pub returns-clause-graph : goal.returns-clause-graph
returns-clause-graph c = c.loop-op.invariant.graph

pub returns-clause-crosses : goal.returns-clause-crosses
returns-clause-crosses c =
    let self = c.args.self in
    let before = graphs_before self in
    let table = self.tac.now.types in
    let made = c.requires.known.code.made in
    let group = c.args.caller.group in
    let owner = owner_of c.args.caller.owner in
    let begin : Crossings = record { copies = c.new.result; next = c.args.first } in
    let function = c.function_of-function.result.now in
    let value = c.as_slice-op-items.ensures.value in
    let start = shown self c.args.graph.now in
    let graph = shown self c.loop-op.graph in
    let long = length-map function.points.items (op_in table) in
    let same = ap (λ l. length l) value in
    owner_done before made group owner begin c.loop-op.own start graph c.args.first refl (empty_entries begin c.new.ensures.empty)
    (points_done before made group owner (function_in table function) (function_there self.tac.now c.args.caller.owner function c.function_of-function.ensures) begin c.loop-op.own start graph c.loop-op.op-index
    (omega (arith, long, same, c.loop-op-test.false))
    (subst (λ (l : List memory_op.Op). Crosses before group owner (Below (AtEach (PointCrosses before group owner) (map (op_in table) l)) c.loop-op.op-index) begin c.loop-op.own start graph) value c.loop-op.invariant.crosses))

pub returns-clause-joined : goal.returns-clause-joined
returns-clause-joined c = c.loop-op.invariant.joined
