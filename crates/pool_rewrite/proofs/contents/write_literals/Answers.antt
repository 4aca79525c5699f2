use Rattle.std.proofs.Common.{◌≡◌, ◌+◌, ◌≤◌, length, pos, ap, ◌∙◌, arith}
use Rattle.std.proofs.lemmas.List.{length-map}
use Rattle.c_num.specs.declared.IntType.TheVariants as I
use Rattle.c_num.specs.Conversion.{word_of}
use Rattle.tac_ir.specs.Views.{tac_of}
use Rattle.pool_isa.specs.Machine.{spliced}
use Rattle.pool_rewrite.specs.Placing.{literal_offset}
use Rattle.pool_rewrite.specs.Rewriting.{character_bytes}
use Rattle.pool_rewrite.proofs.FoundStatics.{literal_fits}
use Rattle.pool_rewrite.proofs.PlacedFirsts.{literals_up}
use Rattle.pool_rewrite.proofs.SplicedLists.{length-spliced}
use Rattle.pool_rewrite.proofs.contents.write_literals.Goals as goal

pub write_bytes-requires : goal.write_bytes-requires
write_bytes-requires c =
    let tac = c.args.tac.now in
    let n = c.loop-number.number in
    let fits = literal_fits tac n c.index.result.now (omega (arith, c.loop-number-test.true, c.len-number-end.ensures)) c.index.ensures c.requires.small in
    let start : c.literal-start.result ≡ literal_offset (tac_of tac) n = c.literal-start.ensures (tac_of tac) c.requires.statics in
    let text = ap length c.as_slice.ensures in
    omega (arith, fits, start, text, c.loop-number.invariant.long)

pub loop-number-preserved : goal.loop-number-preserved
loop-number-preserved c =
    let tac = c.args.tac.now in
    let n = c.loop-number.number in
    let literal = c.index.result.now in
    let fits = literal_fits tac n literal (omega (arith, c.loop-number-test.true, c.len-number-end.ensures)) c.index.ensures c.requires.small in
    let start : c.literal-start.result ≡ literal_offset (tac_of tac) n = c.literal-start.ensures (tac_of tac) c.requires.statics in
    let written : c.write_bytes.new.bytes ≡ spliced c.loop-number.bytes (literal_offset (tac_of tac) n) (character_bytes literal.bytes) =
    c.write_bytes.ensures ∙ (λ i. spliced c.loop-number.bytes (start i) (character_bytes (c.as_slice.ensures i))) in
    let mapped = length-map literal.bytes (λ b. word_of I.UChar (pos b)) in
    let inside : literal_offset (tac_of tac) n + length (character_bytes literal.bytes) ≤ length c.loop-number.bytes = omega (arith, fits, mapped, c.loop-number.invariant.long) in
    record {
      written = literals_up (tac_of tac) tac.literals.items n literal c.loop-number.bytes c.write_bytes.new.bytes _ (omega (arith, c.loop-number-test.true, c.len-number-end.ensures)) c.index.ensures written c.loop-number.invariant.written;
      long = ap length written ∙ (length-spliced c.loop-number.bytes (character_bytes literal.bytes) (literal_offset (tac_of tac) n) inside ∙ c.loop-number.invariant.long);
    }
