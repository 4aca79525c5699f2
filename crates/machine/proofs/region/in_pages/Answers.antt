use Rattle.std.proofs.Common.{ℕ, List, length, ap, ◌∙◌, arith}
use Rattle.byteorder.specs.Endian.{little_bytes}
use Rattle.pool_isa.specs.Machine.{spliced}
use Rattle.machine.proofs.PageBytes.{filled_long, filled_more}
use Rattle.machine.proofs.region.in_pages.Goals as goal

pub write-requires-clause-inside : goal.write-requires-clause-inside
write-requires-clause-inside c =
    let first = c.args.first.now in let len = c.args.len in let offset = c.loop-offset.offset in
    omega (arith, filled_long first len offset (omega arith) c.requires, ap length c.loop-offset.invariant)

pub loop-offset-preserved : goal.loop-offset-preserved
loop-offset-preserved c =
    let first = c.args.first.now in let len = c.args.len in let offset = c.loop-offset.offset in
    c.write.ensures ∙ ap (λ (b : List ℕ). spliced b offset (little_bytes 1 c.from.result)) c.loop-offset.invariant
    ∙ filled_more first len offset (omega arith) c.requires c.from.result c.from.ensures (omega (arith, c.type_inv.first offset, c.from.ensures))
