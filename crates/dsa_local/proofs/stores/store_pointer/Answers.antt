use Rattle.std.specs.Prelude.{◌==◌, ◌||◌, not}
use Rattle.std.specs.List.{list_any}
use Rattle.tac_ir.specs.Views.{tac_of}
use Rattle.graph_unification.specs.Memory.{graph_in}
use Rattle.graph_unification.proofs.Kept.{global_kept}
use Rattle.dsa_local.specs.Moved.{moves}
use Rattle.dsa_local.proofs.Mentioning.{keeps_then}
use Rattle.dsa_local.proofs.RootPaths.{root_has, root_kept, array_kept}
use Rattle.dsa_local.proofs.stores.store_pointer.Goals as goal

pub mark_moved-requires-clause-there : goal.mark_moved-requires-clause-there
mark_moved-requires-clause-there c = root_has (tac_of c.args.tac.now) (graph_in c.args.tac.now.types c.mention.new.graph) c.args.target c.in_ok-mention.ensures.named

pub point-requires-clause-from : goal.point-requires-clause-from
point-requires-clause-from c =
    let tac = tac_of c.args.tac.now in
    let made = c.requires.code.made in
    let old = graph_in c.args.tac.now.types c.args.graph.now in
    let mentioned = graph_in c.args.tac.now.types c.mention.new.graph in
    global_kept tac made mentioned (graph_in c.args.tac.now.types c.mark_moved.new.graph) c.in_ok-mention.ensures.graph.sound c.mark_moved.ensures.keeps.goes c.args.global.0
    (global_kept tac made old mentioned c.requires.graph.sound c.in_ok-mention.ensures.keeps.goes c.args.global.0 c.requires.named)

pub point-requires-clause-to : goal.point-requires-clause-to
point-requires-clause-to c =
    let table = c.args.tac.now.types in
    root_kept (tac_of c.args.tac.now) c.requires.code.made (graph_in table c.mention.new.graph) (graph_in table c.mark_moved.new.graph) c.in_ok-mention.ensures.graph.sound c.mark_moved.ensures.keeps.goes c.args.target
    c.in_ok-mention.ensures.named

pub returns-clause-keeps : goal.returns-clause-keeps
returns-clause-keeps c =
    let tac = tac_of c.args.tac.now in
    let made = c.requires.code.made in
    let old = graph_in c.args.tac.now.types c.args.graph.now in
    let mentioned = graph_in c.args.tac.now.types c.mention.new.graph in
    let marked = graph_in c.args.tac.now.types c.mark_moved.new.graph in
    let new = graph_in c.args.tac.now.types c.point.new.graph in
    keeps_then tac made old mentioned new c.requires.graph.sound c.in_ok-mention.ensures.keeps
    (keeps_then tac made mentioned marked new c.in_ok-mention.ensures.graph.sound c.mark_moved.ensures.keeps c.in_ok-point.ensures.keeps)

pub returns-clause-points : goal.returns-clause-points
returns-clause-points c =
    let tac = tac_of c.args.tac.now in
    let made = c.requires.code.made in
    let table = c.args.tac.now.types in
    let mentioned = graph_in table c.mention.new.graph in
    let marked = graph_in table c.mark_moved.new.graph in
    let new = graph_in table c.point.new.graph in
    let named = root_kept tac made mentioned marked c.in_ok-mention.ensures.graph.sound c.mark_moved.ensures.keeps.goes c.args.target c.in_ok-mention.ensures.named in
    record {
      there = root_has tac new c.args.target (root_kept tac made marked new c.mark_moved.ensures.graph.sound c.in_ok-point.ensures.keeps.goes c.args.target named);
      edge = c.in_ok-point.ensures.edge;
      array = array_kept tac made marked new c.mark_moved.ensures.graph.sound c.in_ok-point.ensures.keeps.goes c.args.target named (list_any moves c.args.parts.now || not (c.args.index == 0)) c.mark_moved.ensures.array;
    }

pub mention-requires-clause-asked : goal.mention-requires-clause-asked
mention-requires-clause-asked c = λ other told. (c.requires.asked other told).there

pub mark_moved-requires-clause-asked : goal.mark_moved-requires-clause-asked
mark_moved-requires-clause-asked c = λ other told. (c.requires.asked other told).array

pub point-requires-clause-asked : goal.point-requires-clause-asked
point-requires-clause-asked c = λ other told. (c.requires.asked other told).edge
