use Rattle.std.proofs.Common.{◌≡◌, Option, unwrap_or, map, ap, ◌∙◌, ℕ}
use Rattle.c_typed.specs.Types.{CType}
use Rattle.tac_ir.specs.Views.{function_in}
use Rattle.pool_rewrite.specs.Rewriting.{signature_from}
use Rattle.pool_rewrite.specs.Places.{signature_for}
use Rattle.pool_rewrite.proofs.signatures.Signatures.of_type.Goals as goal

pub returns : goal.returns
returns c = λ functions tells.
    let own = c.number_of-number.result in
    let found : c.unwrap_or.result ≡ signature_for c.args.self.now own = c.unwrap_or.ensures ∙ ap (λ (number : Option ℕ). unwrap_or number c.args.self.now.count) (c.copied.ensures ∙ c.get.ensures.value) in
    found ∙ (tells own c.number_of-number.ensures.stands ∙ ap (λ (t : CType). signature_from 0 (map (function_in c.args.types.now) functions) t) c.number_of-number.ensures.means)
