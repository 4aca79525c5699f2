use Rattle.std.proofs.Common.{rules, ◌≡◌, ◌++◌, length, map, sym, ap, subst, ◌∙◌, append-nil}
use Rattle.std.proofs.lemmas.List.{nil_from_length}
use Rattle.c_typed.specs.Table.{member_entries, AreComplete}
use Rattle.c_typed.specs.Inside.{struct_entry, member_entry}
use Rattle.c_typed.proofs.Building.{building_small, building_none, building_more, rest_more, built}
use Rattle.c_typed.proofs.type_table.TypeTable.placed.Goals as goal

pub loop-member-init : goal.loop-member-init
loop-member-init c =
    let items = c.into_iter-member-iterator.ensures.into_iter_gives.0 in
    record {
      building = building_none c.args.self.now c.args.id c.new-structure.result c.new-structure.ensures;
      rest = ap (λ ms. map member_entry ms ++ member_entries c.into_iter-member-iterator.result.rest.items) c.new-structure.ensures.members ∙ ap member_entries items;
      complete = subst (λ ms. AreComplete c.args.self.now (member_entries ms)) (sym items) c.requires;
    }

pub member_extent-extent-requires : goal.member_extent-extent-requires
member_extent-extent-requires c = (subst (λ ms. AreComplete c.args.self.now (member_entries ms)) c.in-Some.ensures.steps.0 c.loop-member.invariant.complete).0

pub push-requires-clause-all : goal.push-requires-clause-all
push-requires-clause-all c = building_small c.args.self.now c.args.id c.loop-member.structure c.loop-member.invariant.building

pub loop-member-preserved : goal.loop-member-preserved
loop-member-preserved c =
    let table = c.args.self.now in
    let items = c.in-Some.ensures.steps.0 in
    let extent = c.member_extent-extent.ensures in
    let had = c.loop-member.structure in
    record {
      building = building_more table c.args.id had c.push.new.self c.in-Some.member c.member_extent-extent.result c.loop-member.invariant.building c.in_ok-push.ensures extent.layout extent.sized;
      rest =
          rest_more table c.args.id had c.push.new.self c.in-Some.member c.member_extent-extent.result c.loop-member.invariant.building c.in_ok-push.ensures extent.layout extent.sized
          (member_entries c.next.new.self.rest.items) (member_entries c.args.members.items)
          (ap (λ ms. (struct_entry had).members ++ member_entries ms) (sym items) ∙ c.loop-member.invariant.rest);
      complete = (subst (λ ms. AreComplete table (member_entries ms)) items c.loop-member.invariant.complete).1;
    }

pub closed-structure-requires : goal.closed-structure-requires
closed-structure-requires c = building_small c.args.self.now c.args.id c.loop-member.structure c.loop-member.invariant.building

pub returns : goal.returns
returns c =
    let had = c.loop-member.structure in
    let long : length c.loop-member.member-iterator.rest.items ≡ 0 = search rules in
    let none = nil_from_length c.loop-member.member-iterator.rest.items long in
    built c.args.self.now c.args.id had c.closed-structure.result (member_entries c.args.members.items) c.loop-member.invariant.building
    (sym (append-nil (struct_entry had).members) ∙ ap (λ ms. (struct_entry had).members ++ member_entries ms) (sym none) ∙ c.loop-member.invariant.rest)
    c.closed-structure.ensures
