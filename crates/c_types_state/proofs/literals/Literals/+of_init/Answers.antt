use Rattle.std.proofs.Common.{◌∙◌, ap, sym, subst, refl, arith}
use Rattle.c_syntax.specs.Views.{init_tree, inits_of}
use Rattle.c_syntax.proofs.SyntaxRows.{init_tree-list}
use Rattle.c_rules.specs.Elaborated.{literals_in_init, literals_in_inits}
use Rattle.c_types_state.specs.Lists.{AddsLiterals}
use Rattle.c_types_state.proofs.LiteralsAdded.{so_far-more, so_far-all}
use Rattle.c_types_state.proofs.literals.Literals.+of_init.Goals as goal

pub loop-init-init : goal.loop-init-init
loop-init-init t c = refl

pub loop-init-preserved : goal.loop-init-preserved
loop-init-preserved t c =
    let items = c.as_slice-init-items.result.now in
    so_far-more (λ left. literals_in_inits (inits_of left)) items c.loop-init.init-index c.init-item.result (literals_in_init (init_tree c.init-item.result)) (literals_in_inits (inits_of items)) c.args.self.now.found.items c.loop-init.self.found.items c.of_init.new.self.found.items
    (omega arith) c.init-item.is refl c.loop-init.invariant (c.in_ok-of_init-in-List.ensures {u = tt})

pub returns-after-loop-init : goal.returns-after-loop-init
returns-after-loop-init t c =
    let items = c.as_slice-init-items.result.now in
    let old = c.args.self.now.found.items in
    let now = c.loop-init.self.found.items in
    let all = so_far-all (λ left. literals_in_inits (inits_of left)) items c.loop-init.init-index (literals_in_inits (inits_of items)) old now (omega arith) refl c.loop-init.invariant in
    let tree = ap literals_in_init (ap init_tree c.in-List.is ∙ init_tree-list c.in-List.place c.in-List.inits) in
    subst (λ ls. AddsLiterals ls old now) (ap (λ is. literals_in_inits (inits_of is)) c.as_slice-init-items.ensures.value ∙ sym tree) all
