use Rattle.std.proofs.Common.{None, sym, ap, ◌∙◌, arith}
use Rattle.std.proofs.Math.Nat.{one-le-pow}
use Rattle.std.proofs.lemmas.List.{get_or_read}
use Rattle.run_theory.specs.Words.{word_at}
use Rattle.machine.specs.Pages.{page_bytes}
use Rattle.machine.proofs.PageBytes.{word_in_page, word_of_zeros}
use Rattle.machine.proofs.pages.read_in.Goals as goal

pub returns-in-Some-clause-word : goal.returns-in-Some-clause-word
returns-in-Some-clause-word c =
    let pages = c.args.pages.now in let page = c.args.page in let offset = c.args.offset in let size = c.args.size in
    let slot = sym (get_or_read pages page c.index-pages-page.result c.requires.there c.index-pages-page.is None) ∙ c.in-Some.is in
    c.read.ensures.word ∙ ap (λ p. word_at (page_bytes p) offset size) (sym slot) ∙ sym (word_in_page pages page offset size c.requires.there c.requires.inside)

pub returns-in-None-clause-word : goal.returns-in-None-clause-word
returns-in-None-clause-word c =
    let pages = c.args.pages.now in let page = c.args.page in let offset = c.args.offset in let size = c.args.size in
    let slot = sym (get_or_read pages page c.index-pages-page.result c.requires.there c.index-pages-page.is None) ∙ c.in-None.is in
    sym (word_in_page pages page offset size c.requires.there c.requires.inside ∙ ap (λ p. word_at (page_bytes p) offset size) slot ∙ word_of_zeros 4096 offset size c.requires.inside)

pub returns-in-None-clause-small : goal.returns-in-None-clause-small
returns-in-None-clause-small c = omega (arith, one-le-pow c.args.size 256 (omega arith))
