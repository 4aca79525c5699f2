use Rattle.std.proofs.Common.{◌≡◌, take}
use Rattle.pool_linker.specs.Linking.{once, numbers_of}
use Rattle.pool_linker.proofs.kinds.Numbering.of.Given as goal

abbrev pub invariant-loop-kind : goal.invariant-loop-kind
invariant-loop-kind l =
    (l.seen.keys ≡ once (take l.kind-index l.kinds)) × (l.numbers.items ≡ numbers_of (take l.kind-index l.kinds))
