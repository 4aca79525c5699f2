use Rattle.std.proofs.Common.{◌+◌, add-one}
use Rattle.c_typed.specs.Table.{type_in}
use Rattle.c_types_expressions.proofs.Deriving.{pointer-more}
use Rattle.c_types_expressions.proofs.words.pointed.Goals as goal

pub loop-preserved : goal.loop-preserved
loop-preserved c =
    pointer-more c.loop.counter (c.loop.counter + 1) (add-one c.loop.counter) (type_in c.args.checker.now.table c.in-Some.base) c.loop.c_type c.in_ok-c_type.c_type
    c.loop.invariant c.in_ok-c_type.ensures.made
