use Rattle.std.proofs.Common.{◌≡◌, ◌+◌, ◌-◌, ◌<◌, suc, length, sym, subst, arith}
use Rattle.std.specs.Prelude.{slice_get}
use Rattle.c_typed.specs.Types.{Struct}
use Rattle.c_typed.specs.Table.{tag_in, structs_in, members_of}
use Rattle.std.proofs.lemmas.Option.{slice_get_within}
use Rattle.heap_graph.specs.Searching.{IsMemberOver, Searched}
use Rattle.heap_graph.proofs.MemberSearch.{few_members, searched_none, over_slot, past_slot, none_left, tells_member, tells_none}
use Rattle.heap_graph.proofs.part.member_over.Goals as goal

pub loop-member-init : goal.loop-member-init
loop-member-init c = searched_none c.args.types.now (tag_in c.args.types.now c.args.id) c.args.slot

pub returns-then-slot-front : goal.returns-then-slot-front
returns-then-slot-front c =
    subst (IsMemberOver c.args.types.now (tag_in c.args.types.now c.args.id) c.args.slot) (sym c.with_front.ensures)
    (over_slot c.args.types.now (tag_in c.args.types.now c.args.id) c.args.slot c.loop-member.front c.loop-member.number c.loop-member.invariant c.in-Some.member (tells_member c.args.types.now (slice_get (members_of (structs_in c.args.types.now) (Struct (tag_in c.args.types.now c.args.id))) c.loop-member.number) c.in-Some.member c.in-Some.ensures) (subst (λ s. c.args.slot - c.loop-member.front < s) c.member_slots-slots.ensures c.if-slot-front.true))

pub overflow_add-front : goal.overflow_add-front
overflow_add-front c = let from = c.loop-member.invariant.from in omega (arith, from)

pub overflow_add-number : goal.overflow_add-number
overflow_add-number c = let some = slice_get_within (members_of (structs_in c.args.types.now) (Struct (tag_in c.args.types.now c.args.id))) c.loop-member.number (tells_member c.args.types.now (slice_get (members_of (structs_in c.args.types.now) (Struct (tag_in c.args.types.now c.args.id))) c.loop-member.number) c.in-Some.member c.in-Some.ensures).member (tells_member c.args.types.now (slice_get (members_of (structs_in c.args.types.now) (Struct (tag_in c.args.types.now c.args.id))) c.loop-member.number) c.in-Some.member c.in-Some.ensures).is in let few = few_members (structs_in c.args.types.now) c.requires.made (tag_in c.args.types.now c.args.id) in omega (arith, some, few)

pub loop-member-smaller : goal.loop-member-smaller
loop-member-smaller c =
    let some = slice_get_within (members_of (structs_in c.args.types.now) (Struct (tag_in c.args.types.now c.args.id))) c.loop-member.number (tells_member c.args.types.now (slice_get (members_of (structs_in c.args.types.now) (Struct (tag_in c.args.types.now c.args.id))) c.loop-member.number) c.in-Some.member c.in-Some.ensures).member (tells_member c.args.types.now (slice_get (members_of (structs_in c.args.types.now) (Struct (tag_in c.args.types.now c.args.id))) c.loop-member.number) c.in-Some.member c.in-Some.ensures).is in
    let less : length (members_of (structs_in c.args.types.now) (Struct (tag_in c.args.types.now c.args.id))) - (c.loop-member.number + 1) < length (members_of (structs_in c.args.types.now) (Struct (tag_in c.args.types.now c.args.id))) - c.loop-member.number = omega (arith, some) in
    less

pub loop-member-preserved : goal.loop-member-preserved
loop-member-preserved c =
    let next : suc c.loop-member.number ≡ c.loop-member.number + 1 = omega arith in
    subst (Searched c.args.types.now (tag_in c.args.types.now c.args.id) c.args.slot (c.loop-member.front + c.member_slots-slots.result)) next
    (past_slot c.args.types.now (tag_in c.args.types.now c.args.id) c.args.slot c.loop-member.front c.loop-member.number c.loop-member.invariant c.in-Some.member (tells_member c.args.types.now (slice_get (members_of (structs_in c.args.types.now) (Struct (tag_in c.args.types.now c.args.id))) c.loop-member.number) c.in-Some.member c.in-Some.ensures) c.member_slots-slots.result c.member_slots-slots.ensures c.if-slot-front.false)

pub returns : goal.returns
returns c = none_left c.args.types.now (tag_in c.args.types.now c.args.id) c.args.slot c.loop-member.front c.loop-member.number c.loop-member.invariant (tells_none c.args.types.now (slice_get (members_of (structs_in c.args.types.now) (Struct (tag_in c.args.types.now c.args.id))) c.loop-member.number) c.in_default.ensures)
