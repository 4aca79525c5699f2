use Rattle.std.proofs.Common.{◌≡◌, length, refl, ap, ◌∙◌, arith, rules}
use Rattle.std.specs.Iterator.Adapters.{enumerate_source, enumerate_count}
use Rattle.std.specs.Vec.Iter.{into_iter_items, into_iter_len}
use Rattle.std.specs.Prelude.{vec_len}
use Rattle.std.proofs.lemmas.Iterator.Adapters.{YieldsList-from_vec}
use Rattle.std.proofs.lemmas.Iterator.Consumers.{YieldsList-from_enumerate, YieldsList-turn, YieldsList-end}
use Rattle.std.proofs.lemmas.List.FromFn.{length-enumerate_from}
use Rattle.std.proofs.lemmas.Option.{slice_get_read}
use Rattle.dsa_bottom_up.proofs.EachTold.{told_none, told_next, told_all, number_is}
use Rattle.dsa_bottom_up.proofs.assembling.function_graphs.Goals as goal

pub loop-place-init : goal.loop-place-init
loop-place-init c = told_none c.args.graph.now c.args.crossings.now c.new-functions.result.items c.new-functions.ensures.items

pub bounds-crossings-place : goal.bounds-crossings-place
bounds-crossings-place c =
    let names = c.args.names.items in
    let s = c.into_iter-place-iterator.result in
    let gives = c.into_iter-place-iterator.ensures.into_iter_gives in
    let many : vec_len c.args.names ≡ length names = search rules in
    let road = YieldsList-from_enumerate {s = s}
    (YieldsList-from_vec {s = enumerate_source s} names (ap (λ e. into_iter_items (enumerate_source e)) gives ∙ (ap into_iter_items c.enumerate-place-items.ensures.source ∙ c.into_iter.ensures.rest))
    (ap (λ e. into_iter_len (enumerate_source e)) gives ∙ (ap into_iter_len c.enumerate-place-items.ensures.source ∙ (c.into_iter.ensures.len ∙ many))))
    (ap enumerate_count gives ∙ c.enumerate-place-items.ensures.count) in
    let turn = YieldsList-turn road c.loop-place.yielded c.loop-place.place-iterator c.loop-place.yielded_by c.next.result c.next.new.self (c.in-Some.place, c.in-Some.own) c.in-Some.is c.next.ensures.steps in
    let number = number_is names (length c.loop-place.yielded) (c.in-Some.place, c.in-Some.own) turn.0 turn.1 in
    let long = length-enumerate_from 0 names in
    omega (arith, turn.0, number, long, c.requires.size)

pub loop-place-preserved : goal.loop-place-preserved
loop-place-preserved c =
    let names = c.args.names.items in
    let s = c.into_iter-place-iterator.result in
    let gives = c.into_iter-place-iterator.ensures.into_iter_gives in
    let many : vec_len c.args.names ≡ length names = search rules in
    let road = YieldsList-from_enumerate {s = s}
    (YieldsList-from_vec {s = enumerate_source s} names (ap (λ e. into_iter_items (enumerate_source e)) gives ∙ (ap into_iter_items c.enumerate-place-items.ensures.source ∙ c.into_iter.ensures.rest))
    (ap (λ e. into_iter_len (enumerate_source e)) gives ∙ (ap into_iter_len c.enumerate-place-items.ensures.source ∙ (c.into_iter.ensures.len ∙ many))))
    (ap enumerate_count gives ∙ c.enumerate-place-items.ensures.count) in
    let turn = YieldsList-turn road c.loop-place.yielded c.loop-place.place-iterator c.loop-place.yielded_by c.next.result c.next.new.self (c.in-Some.place, c.in-Some.own) c.in-Some.is c.next.ensures.steps in
    let number = number_is names (length c.loop-place.yielded) (c.in-Some.place, c.in-Some.own) turn.0 turn.1 in
    let long = length-enumerate_from 0 names in
    let crossings = c.args.crossings.now in
    let own = c.index-crossings-place.result in
    told_next c.args.graph.now crossings c.loop-place.yielded (c.in-Some.place, c.in-Some.own) c.loop-place.functions.items c.push.new.self.items
    (record { names = c.in-Some.own; embeddings = c.in_ok-embeddings.embeddings }) own c.in-Ok.ensures.items refl number
    (slice_get_read crossings (length crossings) c.in-Some.place own refl (omega (arith, turn.0, number, long, c.requires.size)) c.index-crossings-place.is) (λ table fine. c.in_ok-embeddings.ensures table fine)
    c.loop-place.invariant

pub returns : goal.returns
returns c =
    let names = c.args.names.items in
    let s = c.into_iter-place-iterator.result in
    let gives = c.into_iter-place-iterator.ensures.into_iter_gives in
    let many : vec_len c.args.names ≡ length names = search rules in
    let road = YieldsList-from_enumerate {s = s}
    (YieldsList-from_vec {s = enumerate_source s} names (ap (λ e. into_iter_items (enumerate_source e)) gives ∙ (ap into_iter_items c.enumerate-place-items.ensures.source ∙ c.into_iter.ensures.rest))
    (ap (λ e. into_iter_len (enumerate_source e)) gives ∙ (ap into_iter_len c.enumerate-place-items.ensures.source ∙ (c.into_iter.ensures.len ∙ many))))
    (ap enumerate_count gives ∙ c.enumerate-place-items.ensures.count) in
    let end = YieldsList-end road c.loop-place.yielded c.loop-place.place-iterator c.loop-place.yielded_by c.next.result c.next.new.self c.in-None.is c.next.ensures.steps in
    told_all c.args.graph.now c.args.crossings.now names c.loop-place.yielded c.loop-place.functions.items end.0 c.loop-place.invariant
