use Rattle.std.proofs.Common.{length, sym, ap, subst, ◌∙◌, arith}
use Rattle.std.proofs.lemmas.List.{length_push}
use Rattle.std.proofs.lemmas.Map.Iter.{iter_turn, iter_end}
use Rattle.std.specs.Map.Iter.{deref_pair}
use Rattle.heap_graph.specs.Marks.{IsNodeOf, Adds}
use Rattle.heap_graph.proofs.Adding.{IsAmongFirst, adds_none, adds_more}
use Rattle.heap_graph.proofs.Places.{value_of, value_at, adds_entries}
use Rattle.heap_graph.proofs.marks.NodeMarks.add_found.Goals as goal

pub loop-target-init : goal.loop-target-init
loop-target-init c = adds_none c.args.self.now (value_at c.args.targets.now.entries)

pub loop-target-preserved : goal.loop-target-preserved
loop-target-preserved c =
    let entries = c.args.targets.now.entries in
    let yielded = c.loop-target.yielded in
    let turn = iter_turn deref_pair entries yielded c.into_iter-target-iterator.result c.loop-target.target-iterator c.next.new.self c.next.result
    (c.into_iter-target-iterator.ensures.into_iter_gives ∙ c.iter-target-items.ensures.rest) c.loop-target.yielded_by (c.in-Some.field-0-0, c.in-Some.target) c.in-Some.is c.next.ensures.steps in
    subst (λ n. Adds c.args.self.now c.add_target.new.self (IsAmongFirst n (value_at entries))) (sym (length_push yielded (c.in-Some.field-0-0, c.in-Some.target)))
    (adds_more c.args.self.now c.loop-target.self c.add_target.new.self (value_at entries) (length yielded) c.loop-target.invariant
    (subst (λ t. Adds c.loop-target.self c.add_target.new.self (IsNodeOf t)) (sym (ap value_of turn.1)) c.add_target.ensures))

pub returns : goal.returns
returns c =
    let entries = c.args.targets.now.entries in
    let all = iter_end deref_pair entries c.loop-target.yielded c.into_iter-target-iterator.result c.loop-target.target-iterator c.next.new.self c.next.result
    (c.into_iter-target-iterator.ensures.into_iter_gives ∙ c.iter-target-items.ensures.rest) c.loop-target.yielded_by c.in-None.is c.next.ensures.steps in
    adds_entries c.args.targets.now c.iter-target-items.ensures.unique c.args.self.now c.loop-target.self (length c.loop-target.yielded) (omega (arith, all.1)) c.loop-target.invariant
