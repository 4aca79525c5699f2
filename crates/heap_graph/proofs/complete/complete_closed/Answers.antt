use Rattle.std.proofs.Common.{◌⊎◌, length, false, ap, ◌∙◌}
use Rattle.std.proofs.lemmas.List.{length-replicate}
use Rattle.std.proofs.lemmas.Option.{slice_get-get_or}
use Rattle.heap_graph.specs.Marks.{IsMentionedBy}
use Rattle.heap_graph.proofs.Adding.{adds_both}
use Rattle.heap_graph.proofs.Marking.{these_of_none, these_reached}
use Rattle.heap_graph.proofs.Members.{IsOutsideFirst, outside_none, outside_more}
use Rattle.heap_graph.proofs.GroupComplete.{closed_is}
use Rattle.heap_graph.proofs.complete.complete_closed.Goals as goal

pub loop-member-init : goal.loop-member-init
loop-member-init c = outside_none c.args.members.now c.args.functions.now c.in_ok-starts.starts

pub loop-member-preserved : goal.loop-member-preserved
loop-member-preserved c =
    let members = c.args.members.now in
    let functions = c.args.functions.now in
    let at = c.loop-member.member-index in
    let t = c.add_outside.ensures in
    outside_more members functions c.in_ok-starts.starts c.loop-member.starts c.add_outside.new.self at _ _ (slice_get-get_or members at _ c.loop-member-test.true)
    (slice_get-get_or functions _ _ (c.requires.members at _ c.loop-member-test.true)) c.loop-member.invariant t

pub reached-requires : goal.reached-requires
reached-requires c = c.add_statics.ensures.size ∙ (c.loop-member.invariant.size ∙ (ap length c.in_ok-starts.ensures ∙ length-replicate (length c.args.graph.now.nodes.items) false))

pub returns : goal.returns
returns c =
    let graph = c.args.graph.now in
    let nodes = graph.nodes.items in
    let members = c.args.members.now in
    let functions = c.args.functions.now in
    let fresh = c.in_ok-starts.starts in
    let starts = c.add_statics.new.self in
    let outside = IsOutsideFirst members functions c.loop-member.member-index in
    let added = adds_both fresh c.loop-member.starts starts outside (IsMentionedBy graph) c.loop-member.invariant c.add_statics.ensures in
    let begun = these_of_none nodes fresh starts (λ number. outside number ⊎ IsMentionedBy graph number) c.in_ok-starts.ensures added in
    let these = these_reached nodes starts c.in_ok-escaping.escaping _ begun c.in_ok-escaping.ensures in
    λ table family shows one inside.
    closed_is table family members graph functions shows one inside c.loop-member.member-index c.loop-member-test.false c.requires.edges c.in_ok-escaping.escaping these c.others_complete.result c.others_complete.ensures
