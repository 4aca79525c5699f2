use Rattle.std.proofs.Common.{◌≡◌, ◌+◌, ◌*◌, ◌/◌, ℕ, take, replicate, None, ap, ◌∙◌, arith}
use Rattle.std.proofs.lemmas.List.{take-replicate}
use Rattle.machine.specs.Pages.{bytes_in}
use Rattle.machine.proofs.PageBytes.{bytes_of_absent}
use Rattle.machine.proofs.pages.Paged.zeros.Goals as goal

pub returns : goal.returns
returns c =
    let len = c.args.len in
    let count = len / 4096 + 1 in
    let all : c.loop-page._page ≡ count = omega arith in
    ap (λ pages. take len (bytes_in pages)) (c.loop-page.invariant ∙ ap (λ (n : ℕ). replicate n None) all) ∙ ap (take len) (bytes_of_absent count) ∙ take-replicate len (4096 * count) 0 (omega arith)
