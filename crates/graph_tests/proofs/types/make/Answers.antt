use Rattle.std.proofs.Common.{refl}
use Rattle.c_typed.specs.Types.{Pointer}
use Rattle.c_typed.specs.Table.{type_in}
use Rattle.graph_tests.proofs.Made.{adds_integer, if_adds}
use Rattle.graph_tests.proofs.types.make.Goals as goal

pub returns-in-Integer : goal.returns-in-Integer
returns-in-Integer c = adds_integer c.args.table.now c.integer.result c.in-Integer.t c.integer.ensures

pub returns-in_ok-target-in-Pointer : goal.returns-in_ok-target-in-Pointer
returns-in_ok-target-in-Pointer c =
    if_adds c.args.table.now c.pointer_to.new.self c.pointer_to.result (Pointer (type_in c.args.table.now c.in_ok-target-in-Pointer.target)) c.pointer_to.ensures.ok refl
