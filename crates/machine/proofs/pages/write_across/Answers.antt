use Rattle.std.proofs.Common.{◌≡◌, ℕ, ◌+◌, ◌-◌, ◌*◌, ◌/◌, ◌%◌, ◌^◌, ◌≤◌, List, length, ap, sym, ◌∙◌, arith}
use Rattle.byteorder.proofs.Bytes.{pow256}
use Rattle.run_theory.specs.Words.{with_word}
use Rattle.machine.specs.Pages.{bytes_in}
use Rattle.machine.proofs.PageBytes.{length-bytes_in}
use Rattle.machine.proofs.WordPieces.{written_in_two}
use Rattle.machine.proofs.pages.write_across.Goals as goal

pub returns-else-size-here : goal.returns-else-size-here
returns-else-size-here c =
    let here = 4096 - c.args.offset % 4096 in let over = c.args.size - here in
    let old = bytes_in c.args.pages.now in let word = c.args.word in let place = c.args.offset in
    let inside : place + here + over ≤ length old = omega (arith, c.requires.inside, length-bytes_in c.args.pages.now) in
    let low : 4096 * (place / 4096) + place % 4096 ≡ place = omega arith in
    let high : 4096 * (place / 4096 + 1) + 0 ≡ place + here = omega arith in
    let two : here + over ≡ c.args.size = omega arith in
    let first : bytes_in c.write_in-else-size-here.new.pages ≡ with_word old place here word =
    c.write_in-else-size-here.ensures.bytes ∙ ap (λ p. with_word old p here word) low in
    c.write_in-else-size-here-2.ensures.bytes
    ∙ ap (λ (b : List ℕ). with_word b (4096 * (place / 4096 + 1) + 0) over (word / 2 ^ (8 * here))) first
    ∙ ap (λ p. with_word (with_word old place here word) p over (word / 2 ^ (8 * here))) high
    ∙ ap (λ d. with_word (with_word old place here word) (place + here) over (word / d)) (sym (pow256 here))
    ∙ written_in_two old place here over word inside ∙ ap (λ n. with_word old place n word) two
