use Rattle.std.proofs.Common.{[], ◌∷◌, ◌++◌, sym, ap, ◌∙◌}
use Rattle.std.specs.Map.{keys_of}
use Rattle.std.specs.Map.Iter.{deref_pair}
use Rattle.std.proofs.lemmas.Map.Iter.{iter_end}
use Rattle.graph_text.proofs.Statics.{keys_push, keys_shown}
use Rattle.graph_text.proofs.names.numbers_of.Goals as goal

pub loop-number-init : goal.loop-number-init
loop-number-init c = c.new-numbers.ensures.items

pub loop-number-preserved : goal.loop-number-preserved
loop-number-preserved c = c.in_ok-push.ensures.items ∙ (ap (λ l. l ++ c.in-Some.number.now ∷ []) c.loop-number.invariant ∙ sym (keys_push c.loop-number.yielded _))

pub returns : goal.returns
returns c =
    let all = iter_end deref_pair c.args.targets.now.entries c.loop-number.yielded c.into_iter-number-iterator.result c.loop-number.number-iterator c.next.new.self c.next.result
    (c.into_iter-number-iterator.ensures.into_iter_gives ∙ c.iter-number-items.ensures.rest) c.loop-number.yielded_by c.in-None.is c.next.ensures.steps in
    (c.loop-number.invariant ∙ (keys_shown c.loop-number.yielded ∙ ap keys_of all.0), c.iter-number-items.ensures.unique)
