use Rattle.std.proofs.Common.{◌≡◌, None, option_copied, sym, ap, ◌∙◌}
use Rattle.std.specs.Prelude.{slice_get}
use Rattle.graph_unification.proofs.FoundStatics.{got, no_global}
use Rattle.graph_unification.proofs.statics.global_type.Goals as goal

pub returns-in-None : goal.returns-in-None
returns-in-None c =
    let globals = c.args.tac.now.globals.items in
    let n = c.args.global.0 in
    let none : slice_get globals n ≡ None
    = ap (λ items. slice_get items n) (sym c.deref.ensures.value) ∙ (got c.deref.result.now n c.get.result c.get.ensures.lookup ∙ ap option_copied c.in-None.is) in
    no_global c.args.tac.now.types globals n none
