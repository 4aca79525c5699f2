use Rattle.std.proofs.Common.{◌≡◌, List, length, slice_get, Some, sym, ap, subst, ◌∙◌}
use Rattle.std.proofs.lemmas.Bool.{ltb-true}
use Rattle.std.proofs.lemmas.Option.{slice_get-get_or}
use Rattle.c_typed.specs.declared.definition.LiteralDef.{LiteralDef}
use Rattle.pool_rewrite.proofs.TypedParts.{literal_known}
use Rattle.pool_rewrite.proofs.paths.literal_type.Goals as goal

pub returns : goal.returns
returns c =
    let tac = c.args.tac.now in
    let literal = c.in_ok-get.field-0.now in
    let n = c.args.literal.0 in
    let found = c.in_ok-get.ensures.lookup in
    let there : slice_get c.deref.result.now n ≡ Some literal = slice_get-get_or c.deref.result.now n literal (ltb-true n (length c.deref.result.now) (sym found.0)) ∙ ap Some (sym found.1) in
    literal_known tac.types tac.literals.items n literal c.requires (subst (λ (items : List LiteralDef). slice_get items n ≡ Some literal) c.deref.ensures.value there)
