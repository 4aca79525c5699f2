use Rattle.std.proofs.Common.{◌≡◌, Some, None, option_copied, sym, ap, ◌∙◌}
use Rattle.std.specs.Prelude.{slice_get}
use Rattle.graph_unification.proofs.FoundStatics.{got, no_literal, literal_known}
use Rattle.graph_unification.proofs.statics.literal_type.Goals as goal

pub returns-in-Some : goal.returns-in-Some
returns-in-Some c =
    let literals = c.args.tac.now.literals.items in
    let n = c.args.literal.0 in
    let there : slice_get literals n ≡ Some c.in-Some.definition.now
    = ap (λ items. slice_get items n) (sym c.deref.ensures.value) ∙ (got c.deref.result.now n c.get.result c.get.ensures.lookup ∙ ap option_copied c.in-Some.is) in
    literal_known c.args.tac.now.types literals n c.in-Some.definition.now c.requires there

pub returns-in-None : goal.returns-in-None
returns-in-None c =
    let literals = c.args.tac.now.literals.items in
    let n = c.args.literal.0 in
    let none : slice_get literals n ≡ None
    = ap (λ items. slice_get items n) (sym c.deref.ensures.value) ∙ (got c.deref.result.now n c.get.result c.get.ensures.lookup ∙ ap option_copied c.in-None.is) in
    no_literal c.args.tac.now.types literals n none
