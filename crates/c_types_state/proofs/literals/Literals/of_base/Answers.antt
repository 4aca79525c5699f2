use Rattle.std.proofs.Common.{◌∙◌, ap, sym, subst, refl, map, arith}
use Rattle.c_syntax.specs.Views.{member_tree, base_tree}
use Rattle.c_rules.specs.Elaborated.{literals_in_each, literals_in_members, literals_in_base}
use Rattle.c_types_state.specs.Lists.{AddsLiterals}
use Rattle.c_types_state.proofs.LiteralsAdded.{so_far-more, so_far-all}
use Rattle.c_types_state.proofs.literals.Literals.of_base.Goals as goal

pub loop-member-init : goal.loop-member-init
loop-member-init c = refl

pub loop-member-preserved : goal.loop-member-preserved
loop-member-preserved c =
    let items = c.as_slice-member-items.result.now in
    so_far-more (λ left. literals_in_members (map member_tree left)) items c.loop-member.member-index c.member-item.result (literals_in_each (member_tree c.member-item.result).declarators) (literals_in_members (map member_tree items)) c.args.self.now.found.items c.loop-member.self.found.items c.of_member.new.self.found.items
    (omega arith) c.member-item.is refl c.loop-member.invariant (c.in_ok-of_member-in-Struct.ensures {u = tt})

pub returns-after-loop-member : goal.returns-after-loop-member
returns-after-loop-member c =
    let items = c.as_slice-member-items.result.now in
    let old = c.args.self.now.found.items in
    let now = c.loop-member.self.found.items in
    let all = so_far-all (λ left. literals_in_members (map member_tree left)) items c.loop-member.member-index (literals_in_members (map member_tree items)) old now (omega arith) refl c.loop-member.invariant in
    subst (λ ls. AddsLiterals ls old now) (ap (λ is. literals_in_members (map member_tree is)) c.as_slice-member-items.ensures.value ∙ ap (λ base. literals_in_base (base_tree base)) (sym c.in-Struct.is)) all
