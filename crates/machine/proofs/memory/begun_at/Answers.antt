use Rattle.std.proofs.Common.{reverse, leb, leb-true, subst, arith, rules}
use Rattle.std.specs.List.Sorted.{IsNonDecreasingBy}
use Rattle.std.proofs.lemmas.Bool.Decides.{nat_tests}
use Rattle.std.proofs.lemmas.List.{reverse-reverse}
use Rattle.std.proofs.lemmas.List.Sorted.{IsPartitionPoint-from_clause, IsPartitionedBy-leb}
use Rattle.pool_isa.specs.Machine.{Activation}
use Rattle.machine.proofs.FrameSearch.{ascending}
use Rattle.machine.proofs.memory.begun_at.Goals as goal

pub returns-clause-point : goal.returns-clause-point
returns-clause-point c =
    let callers = c.args.callers.now in
    let address = c.args.address in
    let rising = subst (IsNonDecreasingBy (λ (f : Activation). f.start)) (reverse-reverse callers) (ascending (reverse callers) c.requires) in
    let parted = IsPartitionedBy-leb (λ (f : Activation). f.start) callers address rising in
    let point = IsPartitionPoint-from_clause (λ (f : Activation). leb f.start address) callers c.partition_point.result c.partition_point.ensures.partitioned parted (λ a r q k. search rules) in
    (λ k d low lt. leb-true _ _ (point.0 k d low lt), λ k d low lt. grind (arith, nat_tests, point.1 k d low lt))
