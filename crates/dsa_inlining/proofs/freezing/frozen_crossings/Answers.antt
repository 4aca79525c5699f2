use Rattle.std.proofs.Common.{length, sym, subst, ◌∙◌}
use Rattle.std.proofs.lemmas.List.{length_push}
use Rattle.std.proofs.lemmas.Map.Iter.{iter_turn, iter_end}
use Rattle.std.specs.Map.Iter.{deref_pair}
use Rattle.graph_unification.specs.Memory.{graph_in}
use Rattle.dsa_inlining.proofs.FrozenEntries.{TellsFirst, tells_none, tells_more, tells_all}
use Rattle.dsa_inlining.proofs.freezing.frozen_crossings.Goals as goal

pub loop-crossing-init : goal.loop-crossing-init
loop-crossing-init c = λ table fine. tells_none (graph_in table c.args.graph.now) c.args.own.now.copies.entries c.new-embeddings.result c.new-embeddings.ensures.empty

pub loop-crossing-preserved : goal.loop-crossing-preserved
loop-crossing-preserved c = λ table fine.
    let graph = graph_in table c.args.graph.now in
    let copies = c.args.own.now.copies in
    let yielded = c.loop-crossing.yielded in
    let turn = iter_turn deref_pair copies.entries yielded c.into_iter-crossing-iterator.result c.loop-crossing.crossing-iterator c.next.new.self c.next.result
    (c.into_iter-crossing-iterator.ensures.into_iter_gives ∙ c.iter-crossing-items.ensures.rest) c.loop-crossing.yielded_by (c.in-Some.crossing, c.in-Some.copies) c.in-Some.is c.next.ensures.steps in
    subst (λ n. TellsFirst graph copies.entries n c.insert.new.self) (sym (length_push yielded (c.in-Some.crossing, c.in-Some.copies)))
    (tells_more graph copies c.iter-crossing-items.ensures.unique (length yielded) (c.in-Some.crossing.now, c.in-Some.copies.now) turn.1 c.loop-crossing.embeddings c.insert.new.self c.in_ok-targets.targets
    (c.in_ok-targets.ensures table fine) c.in-Ok.ensures.updates (c.loop-crossing.invariant table fine))

pub returns : goal.returns
returns c = λ table fine.
    let all = iter_end deref_pair c.args.own.now.copies.entries c.loop-crossing.yielded c.into_iter-crossing-iterator.result c.loop-crossing.crossing-iterator c.next.new.self c.next.result
    (c.into_iter-crossing-iterator.ensures.into_iter_gives ∙ c.iter-crossing-items.ensures.rest) c.loop-crossing.yielded_by c.in-None.is c.next.ensures.steps in
    tells_all (graph_in table c.args.graph.now) c.args.own.now c.loop-crossing.embeddings (length c.loop-crossing.yielded) all.1 (c.loop-crossing.invariant table fine)
