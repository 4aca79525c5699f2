use Rattle.std.proofs.Common.{◌≡◌, ◌+◌, ◌≤◌, length, take, ap, ◌∙◌, arith}
use Rattle.std.proofs.lemmas.List.{with_items_is}
use Rattle.run_theory.specs.Words.{with_word}
use Rattle.machine.specs.Pages.{bytes_in}
use Rattle.machine.proofs.PageBytes.{length-bytes_in, with_word_taken, length_taken, spliced_word}
use Rattle.machine.proofs.pages.Paged.write.Goals as goal

pub write_across-requires-clause-inside : goal.write_across-requires-clause-inside
write_across-requires-clause-inside c =
    let pages = c.self.inside.pages.items in let len = c.self.inside.len in
    let inside : c.args.offset + c.args.size ≤ length (take len (bytes_in pages)) = rw (← c.self.view_is) at c.requires.inside in
    rw c.deref_mut.ensures.value (omega (arith, inside, length_taken pages len c.self.invariant, c.self.invariant))

pub write_across-requires-clause-within : goal.write_across-requires-clause-within
write_across-requires-clause-within c =
    let pages = c.self.inside.pages.items in let len = c.self.inside.len in
    let inside : c.args.offset + c.args.size ≤ length (take len (bytes_in pages)) = rw (← c.self.view_is) at c.requires.inside in
    rw c.deref_mut.ensures.value (omega (arith, inside, length_taken pages len c.self.invariant, c.self.invariant))

pub returns : goal.returns
returns c =
    let pages = c.self.inside.pages.items in let len = c.self.inside.len in
    let offset = c.args.offset in let size = c.args.size in let word = c.args.word in
    let inside : offset + size ≤ length (take len (bytes_in pages)) = rw (← c.self.view_is) at c.requires.inside in
    let long = length_taken pages len c.self.invariant in
    let stored = with_items_is c.self.inside.pages c.write_across.new.pages (c.write_across.auto.pages ∙ c.deref_mut.ensures.len) in
    let written : bytes_in c.write_across.new.pages ≡ with_word (bytes_in pages) offset size word =
    c.write_across.ensures ∙ ap (λ p. with_word (bytes_in p) offset size word) c.deref_mut.ensures.value in
    rw (← c.self.view_is, stored) (ap (take len) written
    ∙ with_word_taken (bytes_in pages) len offset size (omega (arith, inside, long)) (omega (arith, c.self.invariant, length-bytes_in pages)) word
    ∙ spliced_word (take len (bytes_in pages)) offset size word)
