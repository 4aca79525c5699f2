use Rattle.std.proofs.Common.{◌≡◌, ℕ, ◌+◌, ◌-◌, ◌*◌, ◌/◌, ◌%◌, ◌^◌, ◌≤◌, List, length, ap, sym, ◌∙◌, arith}
use Rattle.byteorder.proofs.Bytes.{pow256}
use Rattle.run_theory.specs.Words.{with_word}
use Rattle.slab_space.specs.Space.{Space}
use Rattle.pool_runtime.proofs.Pieces.{written_in_two}
use Rattle.pool_runtime.proofs.Ranges.{held_inside}
use Rattle.pool_runtime.proofs.memory.write_word.Goals as goal

pub returns-else-width-here : goal.returns-else-width-here
returns-else-width-here c =
    let here = 4096 - c.args.place % 4096 in let over = c.args.width - here in
    let old = c.args.space.now in let word = c.args.word in let place = c.args.place in
    let inside : place + here + over ≤ length old.bytes = omega (arith, held_inside old c.requires.space place c.args.width c.requires.least c.requires.held) in
    let low : 4096 * (place / 4096) + place % 4096 ≡ place = omega arith in
    let high : 4096 * (place / 4096 + 1) + 0 ≡ place + here = omega arith in
    let two : here + over ≡ c.args.width = omega arith in
    let first : c.write-else-width-here.new.self ≡ record old { bytes = with_word old.bytes place here word } =
    c.write-else-width-here.ensures ∙ ap (λ p. record old { bytes = with_word old.bytes p here word }) low in
    c.write-else-width-here-2.ensures
    ∙ ap (λ (s : Space). record s { bytes = with_word s.bytes (4096 * (place / 4096 + 1) + 0) over (word / 2 ^ (8 * here)) }) first
    ∙ ap (λ p. record old { bytes = with_word (with_word old.bytes place here word) p over (word / 2 ^ (8 * here)) }) high
    ∙ ap (λ d. record old { bytes = with_word (with_word old.bytes place here word) (place + here) over (word / d) }) (sym (pow256 here))
    ∙ ap (λ (bytes : List ℕ). record old { bytes = bytes }) (written_in_two old.bytes place here over word inside ∙ ap (λ n. with_word old.bytes place n word) two)
