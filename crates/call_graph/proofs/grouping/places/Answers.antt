use Rattle.std.proofs.Common.{ℕ, ◌+◌, ◌<◌, List, length, take, get_or, refl, sym, ap, subst, ◌∙◌, arith}
use Rattle.std.proofs.lemmas.List.{length-replicate}
use Rattle.std.proofs.lemmas.Option.{slice_get-get_or}
use Rattle.call_graph.specs.RowLists.{Has}
use Rattle.call_graph.proofs.RowLists.{has_read, read_take, take_all}
use Rattle.call_graph.proofs.MemberSteps.{no_places, one_place}
use Rattle.call_graph.proofs.grouping.places.Goals as goal

pub loop-place-init : goal.loop-place-init
loop-place-init c = no_places c.args.count c.args.order.now _ (ap (λ l. length l) (c.in_ok-places.ensures.items_if_clones_equal (λ y e. e)) ∙ length-replicate c.args.count 0)

pub loop-place-preserved : goal.loop-place-preserved
loop-place-preserved c =
    let order = c.args.order.now in
    let i = c.loop-place.place in
    let head = get_or order i 0 in
    one_place c.args.count order (take i order) (take (i + 1) order) head i c.loop-place.places.items _ c.loop-place.invariant (read_take order i (i + 1) head 0 refl c.loop-place-test.true refl)
    (c.requires head (has_read order i head 0 c.loop-place-test.true refl)) (slice_get-get_or order i 0 c.loop-place-test.true) refl

pub index_mut-requires : goal.index_mut-requires
index_mut-requires c =
    let order = c.args.order.now in
    let i = c.loop-place.place in
    let lt : get_or order i 0 < c.args.count = c.requires (get_or order i 0) (has_read order i (get_or order i 0) 0 c.loop-place-test.true refl) in
    omega (arith, lt, c.loop-place.invariant.each, c.loop-place.places.ok.0)

pub returns : goal.returns
returns c =
    let all = take_all c.loop-place.place c.args.order.now (omega arith) in
    record {
      each = c.loop-place.invariant.each;
      place = λ head has. c.loop-place.invariant.place head (subst (λ (l : List ℕ). Has l head) (sym all) has);
    }
