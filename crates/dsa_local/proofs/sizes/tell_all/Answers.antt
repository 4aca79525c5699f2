use Rattle.std.proofs.Common.{◌≡◌, ◌+◌, true, [], drop, length, map, Some, refl, ap, subst, ◌∙◌}
use Rattle.std.specs.Prelude.{slice_get, option_map}
use Rattle.std.proofs.lemmas.List.{drop_all}
use Rattle.std.proofs.lemmas.Option.{slice_get_read, slice_get-map}
use Rattle.c_typed.specs.Table.{structs_in}
use Rattle.tac_ir.specs.Views.{tac_of, op_in}
use Rattle.heap_graph.specs.Known.{owner_at}
use Rattle.graph_unification.specs.Memory.{graph_in}
use Rattle.graph_unification.proofs.Goes.{goes_same, goes_then}
use Rattle.heap_graph.specs.Asks.{sizes_told}
use Rattle.dsa_local.specs.Sizes.{AllSizesTold, SizesGoOn, AsksOp, AsksPoint}
use Rattle.dsa_local.proofs.RoundSteps.{next_of}
use Rattle.dsa_local.proofs.Grown.{grown_same, grown_then}
use Rattle.dsa_local.proofs.ArraySteps.{arrays_same, arrays_then, arrays_more, point_asked}
use Rattle.dsa_local.proofs.SizeSteps.{sizes_begin, sizes_on, sizes_end, sizes_grown}
use Rattle.dsa_local.proofs.sizes.tell_all.Goals as goal

pub loop-op-init : goal.loop-op-init
loop-op-init c =
    let table = c.args.tac.now.types in
    let graph = graph_in table c.args.graph.now in
    record {
      graph = c.requires.graph;
      goes = goes_same (structs_in table) c.requires.made graph c.requires.graph.sound;
      grows = grown_same graph;
      told = sizes_begin graph (AllSizesTold (tac_of c.args.tac.now) (owner_at c.args.owner) (map (op_in table) c.args.points.now));
      arrays = arrays_same (AsksPoint (tac_of c.args.tac.now) (owner_at c.args.owner) (map (op_in table) c.args.points.now) graph) graph;
    }

pub loop-op-preserved : goal.loop-op-preserved
loop-op-preserved c =
    let code = tac_of c.args.tac.now in
    let table = c.args.tac.now.types in
    let owner = owner_at c.args.owner in
    let points = c.args.points.now in
    let index = c.loop-op.op-index in
    let op = op_in table c.op-item.result in
    let start = graph_in table c.args.graph.now in
    let graph = graph_in table c.loop-op.graph in
    let next = graph_in table c.tell_point.new.graph in
    let left = map (op_in table) (drop (index + 1) points) in
    let all = AllSizesTold code owner (map (op_in table) points) in
    let here = next_of points index c.op-item.result c.op-item.is c.loop-op-test.true in
    let at : slice_get (map (op_in table) points) index ≡ Some op =
    slice_get-map (op_in table) points index ∙ ap (option_map (op_in table)) (slice_get_read points (length points) index c.op-item.result refl c.loop-op-test.true c.op-item.is) in
    record {
      graph = c.tell_point.ensures.graph;
      goes = goes_then (structs_in table) c.requires.made start graph next c.requires.graph.sound c.loop-op.invariant.goes c.tell_point.ensures.goes;
      grows = grown_then start graph next c.loop-op.invariant.grows c.tell_point.ensures.grows;
      told = sizes_on graph next (λ other. sizes_told code other owner op ≡ true) (AllSizesTold code owner left) all (λ new more. sizes_grown code next new more owner op)
          (subst (λ l. SizesGoOn graph (AllSizesTold code owner (map (op_in table) l)) all) here c.loop-op.invariant.told) c.tell_point.ensures.grows c.tell_point.ensures.told;
      arrays = arrays_then (AsksPoint code owner (map (op_in table) points) start) start graph next c.loop-op.invariant.grows c.loop-op.invariant.arrays
          (arrays_more (AsksOp code owner op graph) (AsksPoint code owner (map (op_in table) points) start) graph next
          (point_asked start graph c.loop-op.invariant.grows.names code owner (map (op_in table) points) index op at) c.tell_point.ensures.arrays);
    }

pub returns-clause-told : goal.returns-clause-told
returns-clause-told c =
    let code = tac_of c.args.tac.now in
    let table = c.args.tac.now.types in
    let owner = owner_at c.args.owner in
    let points = c.args.points.now in
    let graph = graph_in table c.loop-op.graph in
    let all = AllSizesTold code owner (map (op_in table) points) in
    sizes_end graph (AllSizesTold code owner []) all
    (subst (λ l. SizesGoOn graph (AllSizesTold code owner (map (op_in table) l)) all) (drop_all c.loop-op.op-index points c.loop-op-test.false) c.loop-op.invariant.told) tt
