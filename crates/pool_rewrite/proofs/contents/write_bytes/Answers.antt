use Rattle.std.proofs.Common.{◌≡◌, ◌+◌, ◌-◌, length, pos, sym, ◌∙◌, arith}
use Rattle.std.proofs.lemmas.List.{length-map}
use Rattle.c_num.specs.declared.IntType.TheVariants as I
use Rattle.c_num.specs.Conversion.{word_of}
use Rattle.pool_rewrite.specs.Rewriting.{character_bytes}
use Rattle.pool_rewrite.proofs.SplicedLists.{overwritten, characters_kept}
use Rattle.pool_rewrite.proofs.contents.write_bytes.Goals as goal

pub returns : goal.returns
returns c =
    let at = c.args.at in
    let text = c.args.text.now in
    let kept = characters_kept text (λ i. let f = c.type_inv.text i in omega (arith, f)) in
    let part : c.copy_from_slice.new.self ≡ character_bytes text = c.copy_from_slice.ensures.after ∙ sym kept in
    let k : at + length text - at ≡ length text = omega arith in
    overwritten c.args.bytes.now _ (character_bytes text) at (length text) _ k part (length-map text (λ b. word_of I.UChar (pos b)))
