use Rattle.std.proofs.Common.{◌+◌, ◌≤◌, length, take, sym, ap, ◌∙◌, arith}
use Rattle.run_theory.specs.Words.{word_at}
use Rattle.machine.specs.Pages.{bytes_in}
use Rattle.machine.proofs.PageBytes.{length-bytes_in, word_taken, length_taken}
use Rattle.machine.proofs.pages.Paged.read.Goals as goal

pub read_across-requires-clause-inside : goal.read_across-requires-clause-inside
read_across-requires-clause-inside c =
    let pages = c.self.inside.pages.items in let len = c.self.inside.len in
    let inside : c.args.offset + c.args.size ≤ length (take len (bytes_in pages)) = rw (← c.self.view_is) at c.requires.inside in
    rw c.deref.ensures.value (omega (arith, inside, length_taken pages len c.self.invariant, c.self.invariant))

pub returns-clause-word : goal.returns-clause-word
returns-clause-word c =
    let pages = c.self.inside.pages.items in let len = c.self.inside.len in
    let inside : c.args.offset + c.args.size ≤ length (take len (bytes_in pages)) = rw (← c.self.view_is) at c.requires.inside in
    let long = length_taken pages len c.self.invariant in
    rw (← c.self.view_is) (c.read_across.ensures.word ∙ ap (λ p. word_at (bytes_in p) c.args.offset c.args.size) c.deref.ensures.value
    ∙ sym (word_taken (bytes_in pages) len c.args.offset c.args.size (omega (arith, inside, long)) (omega (arith, c.self.invariant, length-bytes_in pages))))
