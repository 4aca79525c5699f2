use Rattle.std.proofs.Common.{◌^◌, ◌<◌, length, sym, subst, arith}
use Rattle.byteorder.specs.Numbers.{little_from-lt}
use Rattle.machine.proofs.words.number_in.Goals as goal

pub returns-in_default-clause-small : goal.returns-in_default-clause-small
returns-in_default-clause-small c =
    let bytes = c.args.bytes.now in
    subst (λ n. n < 256 ^ length bytes) (sym c.read_uint.ensures) (little_from-lt 0 (length bytes) bytes (λ k. omega (arith, c.type_inv.bytes k)))
