use Rattle.std.proofs.Common.{◌++◌, refl, map, arith}
use Rattle.c_syntax.specs.Views.{init_declarator_tree}
use Rattle.c_rules.specs.Elaborated.{literals_in_declarator, literals_in_declarators, literals_in_first}
use Rattle.c_types_state.proofs.LiteralsAdded.{so_far-more, so_far-all}
use Rattle.c_types_state.proofs.literals.Literals.of_declarators.Goals as goal

pub loop-declarator-init : goal.loop-declarator-init
loop-declarator-init c = refl

pub loop-declarator-preserved : goal.loop-declarator-preserved
loop-declarator-preserved c =
    let items = c.args.declarators.now in
    let one = init_declarator_tree c.declarator-item.result in
    so_far-more (λ left. literals_in_declarators (map init_declarator_tree left)) items c.loop-declarator.declarator-index c.declarator-item.result (literals_in_declarator one.declarator ++ literals_in_first one.init) (literals_in_declarators (map init_declarator_tree items)) c.args.self.now.found.items c.loop-declarator.self.found.items c.of_init_declarator.new.self.found.items
    (omega arith) c.declarator-item.is refl c.loop-declarator.invariant (c.in_ok-of_init_declarator.ensures {u = tt})

pub returns : goal.returns
returns c =
    so_far-all (λ left. literals_in_declarators (map init_declarator_tree left)) c.args.declarators.now c.loop-declarator.declarator-index (literals_in_declarators (map init_declarator_tree c.args.declarators.now)) c.args.self.now.found.items c.loop-declarator.self.found.items (omega arith) refl c.loop-declarator.invariant
