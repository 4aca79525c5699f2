use Rattle.std.proofs.Common.{◌≡◌, ◌+◌, ◌-◌, ◌^◌, ◌<◌, take, drop, sym, ap, subst, ◌∙◌, arith}
use Rattle.byteorder.specs.Endian.{little_number}
use Rattle.raw_slab.proofs.WordsRead.{word_at-small}
use Rattle.raw_slab.proofs.read_word.Goals as goal

pub returns-in_default-clause-small : goal.returns-in_default-clause-small
returns-in_default-clause-small c =
    let off = c.args.off in let width = c.args.width in
    let k : off + width - off ≡ width = omega arith in
    let is = c.read_uint.ensures ∙ ap (λ n. little_number width (take n (drop off c.args.page.now))) k in
    subst (λ n. n < 256 ^ width) (sym is) (word_at-small c.args.page.now off width c.fits-page)
