use Rattle.std.proofs.Common.{◌≡◌, ◌+◌, ◌-◌, take, ap, ◌∙◌, arith}
use Rattle.byteorder.proofs.Bytes.{take-bytes_low_first}
use Rattle.raw_slab.proofs.WordsWritten.{overwritten}
use Rattle.raw_slab.proofs.write_word.Goals as goal

pub returns : goal.returns
returns c =
    let off = c.args.off in let width = c.args.width in
    let k : off + width - off ≡ width = omega arith in
    overwritten c.args.page.now _ off width c.args.word _ k (c.copy_from_slice.ensures.after ∙ ap (take width) c.write_u64.ensures ∙ take-bytes_low_first 0 8 width c.args.word c.requires.most)
