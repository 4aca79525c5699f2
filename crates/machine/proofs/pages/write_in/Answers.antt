use Rattle.std.proofs.Common.{ℕ, List, None, Some, get_or, sym, ap, ◌∙◌}
use Rattle.std.proofs.lemmas.List.{get_or_read, set-set}
use Rattle.run_theory.specs.Words.{with_word}
use Rattle.machine.specs.Pages.{page_bytes, bytes_in}
use Rattle.machine.proofs.PageBytes.{written_in_page}
use Rattle.machine.proofs.pages.write_in.Goals as goal

pub returns-in-Some-clause-bytes : goal.returns-in-Some-clause-bytes
returns-in-Some-clause-bytes c =
    let pages = c.args.pages.now in let page = c.args.page in let offset = c.args.offset in let size = c.args.size in
    let slot = sym (get_or_read pages page c.index-pages-page.result c.requires.there c.index-pages-page.is None) ∙ c.index-pages-page.is ∙ c.in-Some.is in
    written_in_page pages page offset size c.requires.there c.requires.inside (Some c.write.new.self) c.args.word
    (c.write.ensures ∙ ap (λ p. with_word (page_bytes p) offset size c.args.word) (sym slot))

pub returns-in-None-clause-bytes : goal.returns-in-None-clause-bytes
returns-in-None-clause-bytes c =
    let pages = c.args.pages.now in let page = c.args.page in let offset = c.args.offset in let size = c.args.size in
    let slot = sym (get_or_read pages page c.index-pages-page.result c.requires.there c.index-pages-page.is None) ∙ c.index-pages-page.is ∙ c.in-None.is in
    ap bytes_in (set-set pages page (get_or pages page c.index-pages-page.result) (Some c.write-in-None.new.self))
    ∙ written_in_page pages page offset size c.requires.there c.requires.inside (Some c.write-in-None.new.self) c.args.word
    (c.write-in-None.ensures ∙ ap (λ (b : List ℕ). with_word b offset size c.args.word) c.take-bytes.ensures.page ∙ ap (λ p. with_word (page_bytes p) offset size c.args.word) (sym slot))
