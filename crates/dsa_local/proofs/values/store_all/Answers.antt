use Rattle.tac_ir.specs.Views.{tac_of}
use Rattle.graph_unification.specs.Memory.{graph_in}
use Rattle.graph_unification.specs.GraphPremises.First.{HeldStands}
use Rattle.dsa_local.proofs.Mentioning.{keeps_same, keeps_then}
use Rattle.dsa_local.proofs.StoringOn.{each_first, each_stored, first_next, first_end}
use Rattle.dsa_local.proofs.values.store_all.Goals as goal

pub loop-first-init : goal.loop-first-init
loop-first-init c = record {
  graph = c.requires.graph;
  keeps = keeps_same (tac_of c.args.tac.now) c.requires.code.made (graph_in c.args.tac.now.types c.args.graph.now) c.requires.graph.sound;
  stored = λ other goes h. h;
}

pub store_first-requires-clause-stand : goal.store_first-requires-clause-stand
store_first-requires-clause-stand c =
    each_first (HeldStands (tac_of c.args.tac.now) c.args.global.0) c.args.firsts.now c.loop-first.first-index c.first-item.result c.first-item.is c.loop-first-test.true c.requires.stand

pub loop-first-preserved : goal.loop-first-preserved
loop-first-preserved c =
    let tac = tac_of c.args.tac.now in
    let made = c.requires.code.made in
    let table = c.args.tac.now.types in
    let start = graph_in table c.args.graph.now in
    let graph = graph_in table c.loop-first.graph in
    let next = graph_in table c.store_first.new.graph in
    let its = c.in_ok-store_first.ensures in
    record {
      graph = its.graph;
      keeps = keeps_then tac made start graph next c.requires.graph.sound c.loop-first.invariant.keeps its.keeps;
      stored = first_next tac made c.args.global.0 c.args.firsts.now graph next c.loop-first.invariant.graph.sound its.graph.sound its.keeps.goes c.loop-first.first-index c.first-item.result c.first-item.is
          c.loop-first-test.true its.stored c.loop-first.invariant.stored;
    }

pub returns-clause-stored : goal.returns-clause-stored
returns-clause-stored c =
    first_end (tac_of c.args.tac.now) c.requires.code.made c.args.global.0 c.args.firsts.now (graph_in c.args.tac.now.types c.loop-first.graph) c.loop-first.invariant.graph.sound c.loop-first.first-index
    c.loop-first-test.false c.loop-first.invariant.stored

pub store_first-requires-clause-asked : goal.store_first-requires-clause-asked
store_first-requires-clause-asked c = λ other told.
    each_stored (tac_of c.args.tac.now) other c.args.global.0 c.args.firsts.now c.loop-first.first-index c.first-item.result c.first-item.is c.loop-first-test.true (c.requires.asked other told)
