use Rattle.std.proofs.Common.{◌==◌, ℕ, List, length, sym, ap, subst, ◌∙◌}
use Rattle.std.proofs.lemmas.List.{length_push}
use Rattle.std.proofs.lemmas.Map.Iter.{iter_turn, iter_end}
use Rattle.std.specs.Map.{lookup}
use Rattle.std.specs.Map.Iter.{deref_pair}
use Rattle.heap_graph.specs.declared.graph.Target as memory_target
use Rattle.graph_unification.specs.Memory.{graph_in}
use Rattle.heap_graph.specs.Frozen.{optional_target}
use Rattle.dsa_inlining.proofs.CopyEntries.{TellsFirst, tells_more, tells_none, tells_all}
use Rattle.dsa_inlining.proofs.callee_copies.frozen_copies.Goals as goal

pub loop-node-init : goal.loop-node-init
loop-node-init c = λ table fine node. ap (λ (entries : List (ℕ × memory_target.Target)). optional_target (lookup (λ key. node == key) entries)) c.new-targets.ensures.empty

pub loop-node-preserved-in-Ok : goal.loop-node-preserved-in-Ok
loop-node-preserved-in-Ok c = λ table fine.
    let graph = graph_in table c.args.graph.now in
    let entries = c.args.copies.now.entries in
    let yielded = c.loop-node.yielded in
    let turn = iter_turn deref_pair entries yielded c.into_iter-node-iterator.result c.loop-node.node-iterator c.next.new.self c.next.result
    (c.into_iter-node-iterator.ensures.into_iter_gives ∙ c.iter-node-items.ensures.rest) c.loop-node.yielded_by (c.in-Some.node, c.in-Some.copy) c.in-Some.is c.next.ensures.steps in
    subst (λ n. TellsFirst graph entries n c.insert.new.self) (sym (length_push yielded (c.in-Some.node, c.in-Some.copy)))
    (tells_more graph c.args.copies.now c.iter-node-items.ensures.unique (length yielded) (c.in-Some.node.now, c.in-Some.copy.now) turn.1 c.loop-node.targets (c.loop-node.invariant table fine)
    c.insert.new.self c.in-Some-certain_target.target (c.in-Some-certain_target.ensures table fine) c.in-Ok.ensures.updates)

pub loop-node-preserved : goal.loop-node-preserved
loop-node-preserved c = λ table fine.
    let graph = graph_in table c.args.graph.now in
    let entries = c.args.copies.now.entries in
    let yielded = c.loop-node.yielded in
    let turn = iter_turn deref_pair entries yielded c.into_iter-node-iterator.result c.loop-node.node-iterator c.next.new.self c.next.result
    (c.into_iter-node-iterator.ensures.into_iter_gives ∙ c.iter-node-items.ensures.rest) c.loop-node.yielded_by (c.in-Some.node, c.in-Some.copy) c.in-Some.is c.next.ensures.steps in
    subst (λ n. TellsFirst graph entries n c.loop-node.targets) (sym (length_push yielded (c.in-Some.node, c.in-Some.copy)))
    (tells_none graph c.args.copies.now c.iter-node-items.ensures.unique (length yielded) (c.in-Some.node.now, c.in-Some.copy.now) turn.1 c.loop-node.targets (c.loop-node.invariant table fine)
    (c.in-None-certain_target.ensures table fine))

pub returns : goal.returns
returns c = λ table fine.
    let all = iter_end deref_pair c.args.copies.now.entries c.loop-node.yielded c.into_iter-node-iterator.result c.loop-node.node-iterator c.next.new.self c.next.result
    (c.into_iter-node-iterator.ensures.into_iter_gives ∙ c.iter-node-items.ensures.rest) c.loop-node.yielded_by c.in-None.is c.next.ensures.steps in
    tells_all (graph_in table c.args.graph.now) c.args.copies.now c.loop-node.targets (length c.loop-node.yielded) all.1 (c.loop-node.invariant table fine)
