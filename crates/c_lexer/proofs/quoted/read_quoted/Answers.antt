use Rattle.std.proofs.Common.{◌+◌, ◌++◌, [], ◌∷◌, length, drop, sym, ap, ◌∙◌, arith, length-drop}
use Rattle.std.proofs.lemmas.List.{take_rest}
use Rattle.std.proofs.ResultArms.{chosen}
use Rattle.c_lexer.specs.Constants.{quoted_from}
use Rattle.c_lexer.proofs.Quotes.{quoted_more, quoted_refused, quoted_skips, unless_memory}
use Rattle.c_lexer.proofs.quoted.read_quoted.Goals as goal

pub returns-in-Err-clause-refused : goal.returns-in-Err-clause-refused
returns-in-Err-clause-refused c =
    let place = c.args.place in
    let quote = c.args.quote in
    unless_memory c.in-Err.error _
    (c.loop-first.invariant.same ∙ ap (λ rest. quoted_from place quote c.loop-first.bytes.items c.loop-first.width 0 rest) c.in-Some.ensures.cases.0
    ∙ quoted_refused place quote c.loop-first.bytes.items c.loop-first.width c.in-Some.first.now c.in-Some.others.now c.in-Err.error c.if-first-quote.false c.in-Err.ensures.refused)

pub loop-first-preserved : goal.loop-first-preserved
loop-first-preserved c =
    let place = c.args.place in
    let quote = c.args.quote in
    let items = c.loop-first.bytes.items in
    let count = c.loop-first.width in
    let others = c.in-Some.others.now in
    let byte = c.in-Ok.spelled.byte in
    let width = c.in-Ok.spelled.width in
    let begins = c.in-Some.ensures.cases.0 in
    let after = take_rest others width in
    let pushed = chosen _ _ _ _ c.push.ensures.items c.if-is_err.ensures.negation in
    record {
      whole = omega (arith, c.loop-first.invariant.whole, ap length begins, ap length after, length-drop width others, c.in-Ok.ensures.within);
      same = c.loop-first.invariant.same ∙ ap (λ rest. quoted_from place quote items count 0 rest) begins
          ∙ quoted_more place quote items count c.in-Some.first.now others byte width c.if-first-quote.false c.in-Ok.ensures.found
          ∙ quoted_skips place quote (items ++ byte ∷ []) (count + 1) width others c.in-Ok.ensures.within
          ∙ ap (λ found. quoted_from place quote found (count + 1 + width) 0 (drop width others)) (sym pushed)
          ∙ ap (λ rest. quoted_from place quote c.push.new.self.items (count + 1 + width) 0 rest) (sym after);
    }
