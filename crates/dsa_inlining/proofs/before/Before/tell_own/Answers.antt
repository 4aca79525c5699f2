use Rattle.std.proofs.Common.{length, sym, subst, ◌∙◌, arith}
use Rattle.std.proofs.lemmas.List.{length_push}
use Rattle.std.proofs.lemmas.Map.Iter.{iter_turn, iter_end}
use Rattle.std.specs.Map.Iter.{deref_pair}
use Rattle.c_typed.specs.Table.{structs_in}
use Rattle.graph_unification.specs.Memory.{graph_in}
use Rattle.graph_unification.proofs.Goes.{goes_same, goes_then}
use Rattle.dsa_inlining.specs.Copied.{numbers_in}
use Rattle.dsa_inlining.specs.CallCopies.Telling.{AsksCopy}
use Rattle.dsa_inlining.proofs.AskedCopies.{only_same, only_then, only_more}
use Rattle.dsa_inlining.proofs.Told.{nothing_told, arrays_then}
use Rattle.dsa_inlining.specs.Before.{graphs_before, nodes_reached}
use Rattle.dsa_inlining.specs.Asking.{AsksOwn}
use Rattle.dsa_inlining.proofs.AskedCalls.{own_asked}
use Rattle.dsa_inlining.proofs.FrozenEntries.{call_found}
use Rattle.dsa_inlining.proofs.ToldCopies.{EachFirst, EntryTold, first_more, entries_still, own_told}
use Rattle.dsa_inlining.proofs.before.Before.tell_own.Goals as goal

pub loop-crossing-init : goal.loop-crossing-init
loop-crossing-init c =
    let table = c.args.self.tac.now.types in
    record {
      graph = c.requires.graph;
      goes = goes_same (structs_in table) c.requires.made (graph_in table c.args.graph.now) c.requires.graph.sound;
      arrays = nothing_told (graph_in table c.args.graph.now);
      told = λ place entry less there. absurd (omega (arith, less));
      only = only_same (AsksOwn (graphs_before c.args.self) c.args.own.now (graph_in table c.args.graph.now)) (graph_in table c.args.graph.now);
    }

pub tell_one-requires-clause-graph : goal.tell_one-requires-clause-graph
tell_one-requires-clause-graph c = c.loop-crossing.invariant.graph

pub tell_one-requires-clause-reached : goal.tell_one-requires-clause-reached
tell_one-requires-clause-reached c =
    let copies = c.args.own.now.copies in
    let turn = iter_turn deref_pair copies.entries c.loop-crossing.yielded c.into_iter-crossing-iterator.result c.loop-crossing.crossing-iterator c.next.new.self c.next.result
    (c.into_iter-crossing-iterator.ensures.into_iter_gives ∙ c.iter-crossing-items.ensures.rest) c.loop-crossing.yielded_by (c.in-Some.crossing, c.in-Some.copies) c.in-Some.is c.next.ensures.steps in
    c.requires.reached c.in-Some.crossing.now.site c.in-Some.crossing.now.called c.in-Some.copies.now
    (call_found copies c.iter-crossing-items.ensures.unique (length c.loop-crossing.yielded) c.in-Some.crossing.now c.in-Some.copies.now turn.1)

pub loop-crossing-preserved : goal.loop-crossing-preserved
loop-crossing-preserved c =
    let table = c.args.self.tac.now.types in
    let before = graphs_before c.args.self in
    let old = graph_in table c.args.graph.now in
    let middle = graph_in table c.loop-crossing.graph in
    let new = graph_in table c.tell_one.new.graph in
    let entries = c.args.own.now.copies.entries in
    let yielded = c.loop-crossing.yielded in
    let turn = iter_turn deref_pair entries yielded c.into_iter-crossing-iterator.result c.loop-crossing.crossing-iterator c.next.new.self c.next.result
    (c.into_iter-crossing-iterator.ensures.into_iter_gives ∙ c.iter-crossing-items.ensures.rest) c.loop-crossing.yielded_by (c.in-Some.crossing, c.in-Some.copies) c.in-Some.is c.next.ensures.steps in
    let site = c.in-Some.crossing.now.site in
    let called = c.in-Some.crossing.now.called in
    let copies = c.in-Some.copies.now in
    let found = call_found c.args.own.now.copies c.iter-crossing-items.ensures.unique (length yielded) c.in-Some.crossing.now copies turn.1 in
    let reached = c.requires.reached site called copies found in
    record {
      graph = c.tell_one.ensures.graph;
      goes = goes_then (structs_in table) c.requires.made old middle new c.requires.graph.sound c.loop-crossing.invariant.goes c.tell_one.ensures.goes;
      arrays = arrays_then old middle new c.loop-crossing.invariant.arrays c.tell_one.ensures.arrays;
      told =
          subst (λ n. EachFirst (EntryTold before new) entries n) (sym (length_push yielded (c.in-Some.crossing, c.in-Some.copies)))
          (first_more (EntryTold before new) entries (length yielded) (c.in-Some.crossing.now, c.in-Some.copies.now) turn.1
          (entries_still before middle new c.tell_one.ensures.arrays entries (length yielded) c.loop-crossing.invariant.told) c.tell_one.ensures.told);
      only = only_then (AsksOwn before c.args.own.now old) old middle new c.loop-crossing.invariant.arrays c.loop-crossing.invariant.only
          (only_more (AsksCopy middle (nodes_reached before called reached) (numbers_in copies)) (AsksOwn before c.args.own.now old) middle new
          (own_asked before old middle c.loop-crossing.invariant.arrays.names c.args.own.now site called copies found reached) (c.tell_one.ensures.only reached));
    }

pub returns-clause-told : goal.returns-clause-told
returns-clause-told c =
    let all = iter_end deref_pair c.args.own.now.copies.entries c.loop-crossing.yielded c.into_iter-crossing-iterator.result c.loop-crossing.crossing-iterator c.next.new.self c.next.result
    (c.into_iter-crossing-iterator.ensures.into_iter_gives ∙ c.iter-crossing-items.ensures.rest) c.loop-crossing.yielded_by c.in-None.is c.next.ensures.steps in
    own_told (graphs_before c.args.self) (graph_in c.args.self.tac.now.types c.loop-crossing.graph) c.args.own.now (length c.loop-crossing.yielded) (omega (arith, all.1)) c.loop-crossing.invariant.told
