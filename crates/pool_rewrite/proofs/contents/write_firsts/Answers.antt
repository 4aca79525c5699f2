use Rattle.std.proofs.Common.{◌≡◌, ◌-◌, length, sym, ap, subst, ◌∙◌, arith}
use Rattle.c_typed.specs.declared.definition.First as memory_first
use Rattle.c_typed.specs.Table.{type_in}
use Rattle.c_typed.specs.DefinitionViews.{first_of, characters_held}
use Rattle.tac_ir.specs.Views.{tac_of}
use Rattle.pool_rewrite.specs.Rewriting.{with_first}
use Rattle.pool_rewrite.specs.Firsts.{FirstFits, HeldFits, TextFits}
use Rattle.pool_rewrite.proofs.PlacedFirsts.{first_fits, firsts_down}
use Rattle.pool_rewrite.proofs.contents.write_firsts.Goals as goal

pub write_held-requires-clause-fits : goal.write_held-requires-clause-fits
write_held-requires-clause-fits c =
    let n = c.loop-number.number - 1 in
    let tac = c.args.tac.now in
    let fits = first_fits tac c.args.target (length c.args.bytes.now) c.args.firsts.now n c.index-firsts-number.result c.requires.fit (omega (arith, c.loop-number.invariant.within, c.loop-number-test.true)) c.index-firsts-number.is in
    subst (λ room. HeldFits tac c.args.target room c.in-Scalar.held) (sym c.loop-number.invariant.long)
    (subst (λ (first : memory_first.First). FirstFits tac c.args.target (length c.args.bytes.now) first) c.in-Scalar.is fits)

pub write_text-requires : goal.write_text-requires
write_text-requires c =
    let n = c.loop-number.number - 1 in
    let tac = c.args.tac.now in
    let fits = first_fits tac c.args.target (length c.args.bytes.now) c.args.firsts.now n c.index-firsts-number.result c.requires.fit (omega (arith, c.loop-number.invariant.within, c.loop-number-test.true)) c.index-firsts-number.is in
    let own = subst (λ (first : memory_first.First). FirstFits tac c.args.target (length c.args.bytes.now) first) c.in-Text.is fits in
    let room = subst (λ room. TextFits tac c.args.target room c.in-Text.parts.items 0 c.in-Text.text) (sym c.loop-number.invariant.long) own in
    let parts = subst (λ parts. TextFits tac c.args.target (length c.loop-number.bytes) parts 0 c.in-Text.text) (sym c.as_slice.ensures.value) room in
    subst (λ text. TextFits tac c.args.target (length c.loop-number.bytes) c.as_slice.result.now 0 text) (sym c.as_slice-in-Text.ensures) parts

pub loop-number-preserved : goal.loop-number-preserved
loop-number-preserved c =
    let n = c.loop-number.number - 1 in
    let tac = c.args.tac.now in
    let t = type_in tac.types c.args.target.c_type in
    let written : c.write_text.new.bytes ≡ with_first (tac_of tac) t c.args.target.start (first_of c.index-firsts-number.result) c.loop-number.bytes =
    c.write_text.ensures ∙ ((λ i. with_first (tac_of tac) t c.args.target.start (characters_held (c.as_slice.ensures.value i) c.in-Text.int_type 0 (c.as_slice-in-Text.ensures i)) c.loop-number.bytes)
    ∙ ap (λ first. with_first (tac_of tac) t c.args.target.start (first_of first) c.loop-number.bytes) (sym c.in-Text.is)) in
    record {
      within = omega (arith, c.loop-number.invariant.within);
      written = firsts_down (tac_of tac) t c.args.target.start c.args.firsts.now c.args.bytes.now c.loop-number.bytes c.write_text.new.bytes n c.index-firsts-number.result
          (omega (arith, c.loop-number.invariant.within, c.loop-number-test.true)) c.index-firsts-number.is written c.loop-number.number (omega (arith, c.loop-number-test.true)) c.loop-number.invariant.written;
      long = c.write_text.auto.bytes ∙ c.loop-number.invariant.long;
    }
