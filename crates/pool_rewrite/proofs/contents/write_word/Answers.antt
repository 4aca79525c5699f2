use Rattle.std.proofs.Common.{◌≡◌, ◌+◌, ◌-◌, length, take, ap, ◌∙◌, arith}
use Rattle.byteorder.specs.Endian.{little_bytes}
use Rattle.byteorder.specs.Numbers.{length-bytes_low_first}
use Rattle.byteorder.proofs.Bytes.{take-bytes_low_first}
use Rattle.pool_rewrite.proofs.SplicedLists.{overwritten}
use Rattle.pool_rewrite.proofs.contents.write_word.Goals as goal

pub returns : goal.returns
returns c =
    let size = c.args.size in
    let at = c.args.at in
    let new = little_bytes size c.args.word in
    let part : c.copy_from_slice.new.self ≡ new = c.copy_from_slice.ensures.after ∙ ap (take size) c.write_u64.ensures ∙ take-bytes_low_first 0 8 size c.args.word c.requires.small in
    let k : at + size - at ≡ size = omega arith in
    let sized : length new ≡ size = length-bytes_low_first 0 size c.args.word in
    overwritten c.args.bytes.now _ new at size _ k part sized
