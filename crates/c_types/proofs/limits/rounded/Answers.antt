use Rattle.std.proofs.Common.{arith}
use Rattle.c_typed.specs.Table.{type_in, structs_in}
use Rattle.c_types.proofs.SmallSizes.{small_size}
use Rattle.c_types.proofs.limits.rounded.Goals as goal

pub overflow_add-result : goal.overflow_add-result
overflow_add-result c =
    let small = small_size (structs_in c.args.types.now) (type_in c.args.types.now c.args.c_type) in
    let size = c.size_of.ensures in
    omega (arith, small, size)

pub overflow_mul-result : goal.overflow_mul-result
overflow_mul-result c =
    let small = small_size (structs_in c.args.types.now) (type_in c.args.types.now c.args.c_type) in
    let size = c.size_of.ensures in
    omega (arith, small, size)
