use Rattle.std.proofs.Common.{subst, refl, map, arith}
use Rattle.c_syntax.specs.Views.{declarator_tree}
use Rattle.c_rules.specs.Elaborated.{literals_in_declarator, literals_in_each}
use Rattle.c_types_state.specs.Lists.{AddsLiterals}
use Rattle.c_types_state.proofs.LiteralsAdded.{so_far-more, so_far-all}
use Rattle.c_types_state.proofs.literals.Literals.of_member.Goals as goal

pub loop-declarator-init : goal.loop-declarator-init
loop-declarator-init c = refl

pub loop-declarator-preserved : goal.loop-declarator-preserved
loop-declarator-preserved c =
    let items = c.as_slice-declarator-items.result.now in
    so_far-more (λ left. literals_in_each (map declarator_tree left)) items c.loop-declarator.declarator-index c.declarator-item.result (literals_in_declarator (declarator_tree c.declarator-item.result)) (literals_in_each (map declarator_tree items)) c.args.self.now.found.items c.loop-declarator.self.found.items c.of_declarator.new.self.found.items
    (omega arith) c.declarator-item.is refl c.loop-declarator.invariant (c.in_ok-of_declarator.ensures {u = tt})

pub returns : goal.returns
returns c =
    let items = c.as_slice-declarator-items.result.now in
    let old = c.args.self.now.found.items in
    let now = c.loop-declarator.self.found.items in
    let all = so_far-all (λ left. literals_in_each (map declarator_tree left)) items c.loop-declarator.declarator-index (literals_in_each (map declarator_tree items)) old now (omega arith) refl c.loop-declarator.invariant in
    subst (λ is. AddsLiterals (literals_in_each (map declarator_tree is)) old now) c.as_slice-declarator-items.ensures.value all
