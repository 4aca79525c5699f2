use Rattle.std.proofs.Common.{◌≡◌, ◌-◌, length, get_or, pos, refl, sym, ap, subst, ◌∙◌, arith, rules}
use Rattle.std.specs.Int.{w128}
use Rattle.std.proofs.lemmas.Int.{to_z-of_z}
use Rattle.c_num.specs.declared.IntType.TheVariants as I
use Rattle.c_num.specs.Conversion.{convert_to, word_of}
use Rattle.pool_rewrite.specs.Firsts.{LeafFits}
use Rattle.pool_rewrite.proofs.PlacedFirsts.{character_fits, text_down, length-with_word}
use Rattle.pool_rewrite.proofs.contents.write_text.Goals as goal

pub write_scalar-requires : goal.write_scalar-requires
write_scalar-requires c =
    let n = c.loop-index.index - 1 in
    subst (λ room. LeafFits c.args.tac.now.types c.args.target room c.args.parts.now n) (sym c.loop-index.invariant.long)
    (character_fits c.args.tac.now c.args.target (length c.args.bytes.now) c.args.parts.now 0 c.args.text.now n n c.requires (omega (arith, c.loop-index.invariant.within, c.loop-index-test.true)) (omega arith))

pub loop-index-preserved : goal.loop-index-preserved
loop-index-preserved c =
    let n = c.loop-index.index - 1 in
    let text = c.args.text.now in
    let fits = character_fits c.args.tac.now c.args.target (length c.args.bytes.now) c.args.parts.now 0 text n n c.requires (omega (arith, c.loop-index.invariant.within, c.loop-index-test.true)) (omega arith) in
    let own = subst (λ room. LeafFits c.args.tac.now.types c.args.target room c.args.parts.now n) (sym c.loop-index.invariant.long) fits in
    let worded : c.word-value.result ≡ word_of I.ULong (convert_to c.args.int_type (pos (get_or text n 0))) =
    c.word-value.ensures.value ∙ ap (word_of I.ULong) (to_z-of_z w128 c.convert-character.result (search rules) ∙ (c.convert-character.ensures.value ∙ ap (convert_to c.args.int_type) (to_z-of_z w128 c.from.result (search rules) ∙ c.from.ensures))) in
    record {
      within = omega (arith, c.loop-index.invariant.within);
      written = text_down c.args.tac.now c.args.target c.args.parts.now c.args.int_type text c.args.bytes.now c.loop-index.bytes c.write_scalar.new.bytes n (get_or text n 0) c.word-value.result
          (omega (arith, c.loop-index.invariant.within, c.loop-index-test.true)) refl fits c.write_scalar.ensures worded c.loop-index.index (omega (arith, c.loop-index-test.true)) c.loop-index.invariant.written;
      long = ap length c.write_scalar.ensures ∙ (length-with_word c.args.tac.now.types c.args.target c.args.parts.now n c.word-value.result c.loop-index.bytes own ∙ c.loop-index.invariant.long);
    }
