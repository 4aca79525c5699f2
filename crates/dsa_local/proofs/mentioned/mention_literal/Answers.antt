use Rattle.std.proofs.Common.{◌≡◌, Some, None, option_copied, sym, ap, ◌∙◌}
use Rattle.std.specs.Prelude.{slice_get}
use Rattle.graph_unification.specs.Memory.{graph_in}
use Rattle.graph_unification.proofs.FoundStatics.{got}
use Rattle.dsa_local.proofs.Found.{literal_slot, on_ok_literal, no_literal}
use Rattle.dsa_local.proofs.mentioned.mention_literal.Goals as goal

pub add_literal-requires-clause-slot : goal.add_literal-requires-clause-slot
add_literal-requires-clause-slot c =
    let n = c.args.literal.0 in
    let there : slice_get c.args.tac.now.literals.items n ≡ Some c.in-Some.definition.now
    = ap (λ items. slice_get items n) (sym c.deref.ensures.value) ∙ (got c.deref.result.now n c.get.result c.get.ensures.lookup ∙ ap option_copied c.in-Some.is) in
    literal_slot c.args.tac.now n c.in-Some.definition.now there c.requires.literals c.requires.code

pub returns-in-Some-clause-adds : goal.returns-in-Some-clause-adds
returns-in-Some-clause-adds c =
    let n = c.args.literal.0 in
    let there : slice_get c.args.tac.now.literals.items n ≡ Some c.in-Some.definition.now
    = ap (λ items. slice_get items n) (sym c.deref.ensures.value) ∙ (got c.deref.result.now n c.get.result c.get.ensures.lookup ∙ ap option_copied c.in-Some.is) in
    on_ok_literal c.args.tac.now n c.in-Some.definition.now there c.requires.literals c.add_literal.result (graph_in c.args.tac.now.types c.args.graph.now) (graph_in c.args.tac.now.types c.add_literal.new.graph)
    c.add_literal.ensures.adds

pub returns-in-None-clause-adds : goal.returns-in-None-clause-adds
returns-in-None-clause-adds c =
    let n = c.args.literal.0 in
    let none : slice_get c.args.tac.now.literals.items n ≡ None
    = ap (λ items. slice_get items n) (sym c.deref.ensures.value) ∙ (got c.deref.result.now n c.get.result c.get.ensures.lookup ∙ ap option_copied c.in-None.is) in
    no_literal c.args.tac.now n none (graph_in c.args.tac.now.types c.args.graph.now)
