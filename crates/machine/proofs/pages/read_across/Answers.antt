use Rattle.std.proofs.Common.{◌≡◌, ◌+◌, ◌-◌, ◌*◌, ◌/◌, ◌%◌, ◌^◌, ap, sym, ◌∙◌, arith}
use Rattle.run_theory.specs.Words.{word_at}
use Rattle.machine.specs.Pages.{bytes_in}
use Rattle.machine.proofs.WordPieces.{word_in_two, pieces_small, power_few, shifted}
use Rattle.machine.proofs.pages.read_across.Goals as goal

pub overflow_add-result : goal.overflow_add-result
overflow_add-result c =
    let here = 4096 - c.args.offset % 4096 in
    let moved = shifted c.read_in-high.result here c.args.size (omega arith) c.requires.high c.read_in-high.ensures.small in
    let small = pieces_small c.read_in-low.result c.read_in-high.result here c.args.size (omega arith) c.read_in-low.ensures.small c.read_in-high.ensures.small in
    rw moved (omega (arith, small, power_few c.args.size c.requires.high))

pub returns-clause-word : goal.returns-clause-word
returns-clause-word c =
    let here = 4096 - c.args.offset % 4096 in
    let bytes = bytes_in c.args.pages.now in
    let moved = shifted c.read_in-high.result here c.args.size (omega arith) c.requires.high c.read_in-high.ensures.small in
    let low : 4096 * (c.args.offset / 4096) + c.args.offset % 4096 ≡ c.args.offset = omega arith in
    let high : 4096 * (c.args.offset / 4096 + 1) + 0 ≡ c.args.offset + here = omega arith in
    let two : here + (c.args.size - here) ≡ c.args.size = omega arith in
    ap (λ n. c.read_in-low.result + n) moved
    ∙ ap (λ n. n + 256 ^ here * c.read_in-high.result) (c.read_in-low.ensures.word ∙ ap (λ p. word_at bytes p here) low)
    ∙ ap (λ n. word_at bytes c.args.offset here + 256 ^ here * n) (c.read_in-high.ensures.word ∙ ap (λ p. word_at bytes p (c.args.size - here)) high)
    ∙ sym (word_in_two bytes c.args.offset here (c.args.size - here)) ∙ ap (word_at bytes c.args.offset) two

pub returns-clause-small : goal.returns-clause-small
returns-clause-small c =
    let here = 4096 - c.args.offset % 4096 in
    let moved = shifted c.read_in-high.result here c.args.size (omega arith) c.requires.high c.read_in-high.ensures.small in
    rw moved (pieces_small c.read_in-low.result c.read_in-high.result here c.args.size (omega arith) c.read_in-low.ensures.small c.read_in-high.ensures.small)
