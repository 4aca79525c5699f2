use Rattle.std.proofs.Common.{length, refl, arith}
use Rattle.std.proofs.lemmas.Option.{slice_get_read}
use Rattle.c_typed.specs.Table.{structs_in}
use Rattle.graph_unification.specs.Memory.{graph_in}
use Rattle.graph_unification.proofs.Goes.{goes_same, goes_then}
use Rattle.dsa_inlining.proofs.AskedCopies.{only_same, only_then, only_more}
use Rattle.dsa_inlining.proofs.Told.{nothing_told, arrays_then}
use Rattle.dsa_inlining.specs.Before.{graphs_before}
use Rattle.dsa_inlining.specs.Asking.{AsksOwn, AsksCall}
use Rattle.dsa_inlining.proofs.AskedCalls.{call_asked}
use Rattle.dsa_inlining.proofs.ToldCopies.{OwnTold, first_more, owners_still, all_told}
use Rattle.dsa_inlining.proofs.before.Before.tell_all.Goals as goal

pub loop-own-init : goal.loop-own-init
loop-own-init c =
    let table = c.args.self.tac.now.types in
    record {
      graph = c.requires.graph;
      goes = goes_same (structs_in table) c.requires.made (graph_in table c.args.graph.now) c.requires.graph.sound;
      arrays = nothing_told (graph_in table c.args.graph.now);
      told = λ place own less there. absurd (omega (arith, less));
      only = only_same (AsksCall (graphs_before c.args.self) c.args.all.now (graph_in table c.args.graph.now)) (graph_in table c.args.graph.now);
    }

pub tell_own-requires-clause-reached : goal.tell_own-requires-clause-reached
tell_own-requires-clause-reached c = λ site called copies at.
    let own = c.own-item.result in
    let there = slice_get_read c.args.all.now (length c.args.all.now) c.loop-own.own-index own refl c.loop-own-test.true c.own-item.is in
    (c.requires.stand c.loop-own.own-index own site called copies there at).reached

pub loop-own-preserved : goal.loop-own-preserved
loop-own-preserved c =
    let table = c.args.self.tac.now.types in
    let before = graphs_before c.args.self in
    let old = graph_in table c.args.graph.now in
    let middle = graph_in table c.loop-own.graph in
    let new = graph_in table c.tell_own.new.graph in
    let all = c.args.all.now in
    let index = c.loop-own.own-index in
    let there = slice_get_read all (length all) index c.own-item.result refl c.loop-own-test.true c.own-item.is in
    record {
      graph = c.tell_own.ensures.graph;
      goes = goes_then (structs_in table) c.requires.made old middle new c.requires.graph.sound c.loop-own.invariant.goes c.tell_own.ensures.goes;
      arrays = arrays_then old middle new c.loop-own.invariant.arrays c.tell_own.ensures.arrays;
      told = first_more (OwnTold before new) all index c.own-item.result there (owners_still before middle new c.tell_own.ensures.arrays all index c.loop-own.invariant.told) c.tell_own.ensures.told;
      only = only_then (AsksCall before all old) old middle new c.loop-own.invariant.arrays c.loop-own.invariant.only
          (only_more (AsksOwn before c.own-item.result middle) (AsksCall before all old) middle new
          (call_asked before old middle c.loop-own.invariant.arrays.names all index c.own-item.result there) c.tell_own.ensures.only);
    }

pub returns-clause-told : goal.returns-clause-told
returns-clause-told c = all_told (graphs_before c.args.self) (graph_in c.args.self.tac.now.types c.loop-own.graph) c.args.all.now c.loop-own.own-index c.loop-own-test.false c.loop-own.invariant.told
