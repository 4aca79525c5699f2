use Rattle.std.proofs.Common.{◌+◌, ◌<◌, ◌∷◌, [], length, take, get_or, refl, sym, ap, ◌∙◌, arith}
use Rattle.std.proofs.lemmas.List.{map-append}
use Rattle.std.proofs.lemmas.Option.{slice_get_read}
use Rattle.call_graph.proofs.RowLists.{has_read, read_take, take_all}
use Rattle.call_graph.specs.ClassLists.{numbers_of}
use Rattle.call_graph.specs.GroupLists.{in_groups}
use Rattle.call_graph.specs.GroupViews.{lists_of}
use Rattle.call_graph.proofs.MemberSteps.{group_row, group_more}
use Rattle.call_graph.proofs.grouping.members.Goals as goal

pub loop-head-init : goal.loop-head-init
loop-head-init c = ap lists_of c.new-members.ensures.items

pub loop-head-preserved : goal.loop-head-preserved
loop-head-preserved c =
    let heads = c.args.heads.now in
    let order = c.args.order.now in
    let i = c.loop-head.head-index in
    let head = get_or order i 0 in
    let rows = c.in_ok-rows.rows in
    let row = c.index.result.now in
    let lt : head < length heads = c.requires head (has_read order i head 0 c.loop-head-test.true refl) in
    let own = group_row heads c.as_slice.result.now rows head row (c.as_slice.ensures.value ∙ c.in_ok-links.ensures) c.in_ok-rows.ensures lt (slice_get_read rows.items (length heads) head row (sym c.in_ok-rows.ensures.each) lt c.index.ensures) in
    group_more heads (take i order) (take (i + 1) order) head (lists_of c.loop-head.members.items) (lists_of c.push.new.self.items) (numbers_of c.in_ok-own.own.items) c.loop-head.invariant
    (read_take order i (i + 1) head 0 refl c.loop-head-test.true refl) (c.in_ok-own.ensures ∙ (c.as_slice-in-loop-head.ensures.value ∙ own)) (ap lists_of c.in_ok-push.ensures.items ∙ map-append (λ members. numbers_of members.items) c.loop-head.members.items (c.in_ok-own.own ∷ []))

pub index-requires : goal.index-requires
index-requires c =
    let order = c.args.order.now in
    let i = c.loop-head.head-index in
    let lt : get_or order i 0 < length c.args.heads.now = c.requires (get_or order i 0) (has_read order i (get_or order i 0) 0 c.loop-head-test.true refl) in
    omega (arith, lt, c.in_ok-rows.ensures.each, c.in_ok-rows.rows.ok.0)

pub returns : goal.returns
returns c = c.loop-head.invariant ∙ ap (in_groups c.args.heads.now) (take_all c.loop-head.head-index c.args.order.now (omega arith))
