use Rattle.std.proofs.Common.{refl, sym, ap, ◌∙◌, arith}
use Rattle.c_syntax.specs.Views.{base_tree}
use Rattle.c_types_state.specs.NameTables.{State, with_once}
use Rattle.c_types_state.specs.Lists.{with_tags, with_outline_base}
use Rattle.c_types_state.proofs.Listing.{left-more, left-end, of_members, members-more, member_tags}
use Rattle.c_types_state.proofs.tags.tags_in_base.Goals as goal

pub loop-member-preserved : goal.loop-member-preserved
loop-member-preserved c =
    left-more of_members (λ a. with_tags (member_tags a)) members-more c.as_slice-member-items.result.now c.loop-member.member-index c.member-item.result (omega arith) (sym c.member-item.is) c.loop-member.invariant c.in_ok-tags_in_member-in-Struct.ensures

pub returns-after-loop-member : goal.returns-after-loop-member
returns-after-loop-member c =
    left-end of_members (λ a. with_tags (member_tags a)) (λ s. refl) c.as_slice-member-items.result.now c.loop-member.member-index (omega arith) c.loop-member.invariant
    ∙ ap (λ items. of_members items c.add_completed.new.self) c.as_slice-member-items.ensures.value
    ∙ ap (of_members c.in-Struct.members.items)
    (c.in_ok-add_completed-in-Struct.ensures.done
    ∙ (λ i. let s : State = c.in_ok-add_tag-in-Struct.ensures.done i in record s { completed = with_once s.completed (c.as_slice.ensures i) }))
    ∙ ap (λ base. with_outline_base (base_tree base) c.args.checker.now) (sym c.in-Struct.is)
