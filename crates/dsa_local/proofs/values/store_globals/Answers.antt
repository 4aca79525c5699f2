use Rattle.std.proofs.Common.{sym, subst}
use Rattle.std.specs.List.{AllByRecursion}
use Rattle.c_typed.specs.DefinitionViews.{global_in, all_first}
use Rattle.tac_ir.specs.Views.{tac_of}
use Rattle.graph_unification.specs.Memory.{graph_in}
use Rattle.graph_unification.specs.GraphPremises.First.{HeldStands}
use Rattle.dsa_local.specs.Storing.{AreStored}
use Rattle.dsa_local.proofs.Mentioning.{keeps_same, keeps_then}
use Rattle.dsa_local.proofs.Storing.{one_stored_of}
use Rattle.dsa_local.proofs.StoringOn.{global_there, global_within, global_next, globals_end}
use Rattle.dsa_local.proofs.values.store_globals.Goals as goal

pub loop-number-init : goal.loop-number-init
loop-number-init c = record {
  graph = c.requires.graph;
  keeps = keeps_same (tac_of c.args.tac.now) c.requires.code.made (graph_in c.args.tac.now.types c.args.graph.now) c.requires.graph.sound;
  stored = λ other goes h. h;
}

pub store_all-requires-clause-there : goal.store_all-requires-clause-there
store_all-requires-clause-there c =
    global_within c.args.tac.now c.requires.code.made c.args.globals.now c.requires.globals c.loop-number.number c.loop-number-test.true

pub store_all-requires-clause-stand : goal.store_all-requires-clause-stand
store_all-requires-clause-stand c =
    let tac = c.args.tac.now in
    let one = c.index-globals-number.result in
    let stand = c.requires.first c.loop-number.number (global_in tac.types one) (global_there tac c.requires.code.made c.args.globals.now c.requires.globals c.loop-number.number one c.index-globals-number.is c.loop-number-test.true) in
    subst (λ firsts. AllByRecursion (HeldStands (tac_of tac) c.loop-number.number) (all_first firsts)) (sym c.as_slice.ensures.value) stand

pub loop-number-preserved : goal.loop-number-preserved
loop-number-preserved c =
    let tac = c.args.tac.now in
    let made = c.requires.code.made in
    let start = graph_in tac.types c.args.graph.now in
    let graph = graph_in tac.types c.loop-number.graph in
    let next = graph_in tac.types c.store_all.new.graph in
    let its = c.in_ok-store_all.ensures in
    let one = c.index-globals-number.result in
    let stored = subst (λ firsts. AreStored (tac_of tac) next c.loop-number.number (all_first firsts)) c.as_slice.ensures.value its.stored in
    record {
      graph = its.graph;
      keeps = keeps_then (tac_of tac) made start graph next c.requires.graph.sound c.loop-number.invariant.keeps its.keeps;
      stored = global_next tac made c.args.globals.now c.requires.globals graph next c.loop-number.invariant.graph.sound its.graph.sound its.keeps.goes c.loop-number.number one c.index-globals-number.is
          c.loop-number-test.true stored c.loop-number.invariant.stored;
    }

pub returns-clause-told : goal.returns-clause-told
returns-clause-told c =
    let tac = c.args.tac.now in
    globals_end tac c.requires.code.made c.args.globals.now c.requires.globals (graph_in tac.types c.loop-number.graph) c.loop-number.invariant.graph.sound c.loop-number.number c.loop-number-test.false
    c.loop-number.invariant.stored

pub store_all-requires-clause-asked : goal.store_all-requires-clause-asked
store_all-requires-clause-asked c = λ other told.
    let tac = c.args.tac.now in
    let one = c.index-globals-number.result in
    let i = c.loop-number.number in
    subst (λ firsts. AreStored (tac_of tac) other i (all_first firsts)) (sym c.as_slice.ensures.value)
    (one_stored_of (tac_of tac) other i (global_in tac.types one) (global_there tac c.requires.code.made c.args.globals.now c.requires.globals i one c.index-globals-number.is c.loop-number-test.true) told)
