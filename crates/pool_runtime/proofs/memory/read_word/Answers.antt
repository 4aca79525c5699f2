use Rattle.std.proofs.Common.{◌≡◌, ◌+◌, ◌-◌, ◌*◌, ◌/◌, ◌%◌, ◌^◌, ap, sym, ◌∙◌, arith}
use Rattle.run_theory.specs.Words.{word_at}
use Rattle.pool_runtime.proofs.Pieces.{word_in_two, pieces_small, power_few, shifted}
use Rattle.pool_runtime.proofs.memory.read_word.Goals as goal

pub overflow_add-result : goal.overflow_add-result
overflow_add-result c =
    let here = 4096 - c.args.place % 4096 in
    let moved = shifted c.read-high.result here c.args.width (omega arith) c.requires.most c.read-high.ensures.small in
    let small = pieces_small c.read-low.result c.read-high.result here c.args.width (omega arith) c.read-low.ensures.small c.read-high.ensures.small in
    rw moved (omega (arith, small, power_few c.args.width c.requires.most))

pub returns-clause-word : goal.returns-clause-word
returns-clause-word c =
    let here = 4096 - c.args.place % 4096 in
    let bytes = c.args.space.now.bytes in
    let moved = shifted c.read-high.result here c.args.width (omega arith) c.requires.most c.read-high.ensures.small in
    let low : 4096 * (c.args.place / 4096) + c.args.place % 4096 ≡ c.args.place = omega arith in
    let high : 4096 * (c.args.place / 4096 + 1) + 0 ≡ c.args.place + here = omega arith in
    let two : here + (c.args.width - here) ≡ c.args.width = omega arith in
    ap (λ n. c.read-low.result + n) moved
    ∙ ap (λ n. n + 256 ^ here * c.read-high.result) (c.read-low.ensures.word ∙ ap (λ p. word_at bytes p here) low)
    ∙ ap (λ n. word_at bytes c.args.place here + 256 ^ here * n) (c.read-high.ensures.word ∙ ap (λ p. word_at bytes p (c.args.width - here)) high)
    ∙ sym (word_in_two bytes c.args.place here (c.args.width - here)) ∙ ap (word_at bytes c.args.place) two

pub returns-clause-small : goal.returns-clause-small
returns-clause-small c =
    let here = 4096 - c.args.place % 4096 in
    let moved = shifted c.read-high.result here c.args.width (omega arith) c.requires.most c.read-high.ensures.small in
    rw moved (pieces_small c.read-low.result c.read-high.result here c.args.width (omega arith) c.read-low.ensures.small c.read-high.ensures.small)
