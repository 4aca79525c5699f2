use Rattle.std.proofs.Common.{◌≡◌, ◌+◌, ◌-◌, take, ap, ◌∙◌, arith}
use Rattle.byteorder.specs.Endian.{little_bytes}
use Rattle.byteorder.specs.Numbers.{length-bytes_low_first}
use Rattle.byteorder.proofs.Bytes.{take-bytes_low_first}
use Rattle.machine.proofs.Lists.{overwritten}
use Rattle.machine.proofs.region.put.Goals as goal

pub returns : goal.returns
returns c =
    let size = c.args.size in
    let offset = c.args.offset in
    let new = little_bytes size c.args.word in
    let part : c.copy_from_slice.new.self ≡ new = c.copy_from_slice.ensures.after ∙ ap (take size) c.write_u64.ensures ∙ take-bytes_low_first 0 8 size c.args.word c.requires.high in
    let k : offset + size - offset ≡ size = omega arith in
    overwritten c.args.bytes.now _ new offset size _ k part (length-bytes_low_first 0 size c.args.word)
