use Rattle.std.proofs.Common.{ℕ, ◌+◌, ◌<◌, List, length, take, get_or, refl, subst, ◌∙◌, arith}
use Rattle.std.proofs.lemmas.Grind.{get_or_default_zero}
use Rattle.call_graph.proofs.RowLists.{has_read, read_take, take_all}
use Rattle.call_graph.specs.GroupLists.{AreNumbers}
use Rattle.call_graph.proofs.MemberSteps.{no_numbers, number_more}
use Rattle.call_graph.proofs.grouping.group_numbers.Goals as goal

pub loop-head-init : goal.loop-head-init
loop-head-init c = no_numbers c.args.order.now _ c.new-numbers.ensures.items

pub loop-head-preserved : goal.loop-head-preserved
loop-head-preserved c =
    let heads = c.args.heads.now in
    let i = c.loop-head.head-index in
    let head = get_or heads i 0 in
    let places = c.in_ok-places.places.items in
    let lt : head < length heads = c.requires.heads head (has_read heads i head 0 c.loop-head-test.true refl) in
    let lt' : head < length places = omega (arith, lt, c.in_ok-places.ensures.each) in
    number_more c.args.order.now places (take i heads) (take (i + 1) heads) c.loop-head.numbers.items c.push.new.self.items head c.index.result.now (length heads) c.in_ok-places.ensures c.loop-head.invariant
    (read_take heads i (i + 1) head 0 refl c.loop-head-test.true refl) (c.index.ensures ∙ get_or_default_zero places head c.index.result.now lt') c.in_ok-push.ensures.items

pub index-requires : goal.index-requires
index-requires c =
    let heads = c.args.heads.now in
    let i = c.loop-head.head-index in
    let lt : get_or heads i 0 < length heads = c.requires.heads (get_or heads i 0) (has_read heads i (get_or heads i 0) 0 c.loop-head-test.true refl) in
    omega (arith, lt, c.in_ok-places.ensures.each, c.in_ok-places.places.ok.0)

pub returns : goal.returns
returns c = subst (λ (l : List ℕ). AreNumbers l c.args.order.now c.loop-head.numbers.items) (take_all c.loop-head.head-index c.args.heads.now (omega arith)) c.loop-head.invariant
