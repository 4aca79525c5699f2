use Rattle.std.proofs.Common.{◌+◌, get_or, drop, sym, ap, ◌∙◌, arith}
use Rattle.std.proofs.lemmas.List.{at_drop_more, at_drop_all}
use Rattle.run_theory.specs.Places.{place_behind}
use Rattle.c_lexer.proofs.Spans.{line_after, column_after}
use Rattle.c_lexer.proofs.lexer.behind.Goals as goal

pub loop-byte-preserved : goal.loop-byte-preserved
loop-byte-preserved c =
    let place = c.loop-byte.place in
    let byte = get_or c.args.bytes.now c.loop-byte.byte-index 0 in
    record {
      line_room = omega (arith, line_after place byte, ap (λ p. p.line) c.after-place.ensures, c.loop-byte.invariant.line_room);
      column_room = omega (arith, column_after place byte, ap (λ p. p.column) c.after-place.ensures, c.loop-byte.invariant.column_room);
      behind =
          c.loop-byte.invariant.behind ∙ at_drop_more (place_behind place) c.args.bytes.now c.loop-byte.byte-index 0 c.loop-byte-test.true
          ∙ ap (λ p. place_behind p (drop (c.loop-byte.byte-index + 1) c.args.bytes.now)) (sym c.after-place.ensures);
    }

pub returns : goal.returns
returns c = sym (c.loop-byte.invariant.behind ∙ at_drop_all (place_behind c.loop-byte.place) c.args.bytes.now c.loop-byte.byte-index c.loop-byte-test.false)
