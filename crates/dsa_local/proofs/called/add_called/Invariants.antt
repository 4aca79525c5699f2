use Rattle.std.proofs.Common.{map, take}
use Rattle.tac_ir.specs.Views.{op_in}
use Rattle.dsa_local.specs.Called.{AddsCalled}
use Rattle.dsa_local.proofs.called.add_called.Given as goal

abbrev pub invariant-loop-op : goal.invariant-loop-op
invariant-loop-op l = AddsCalled l.tac (map (op_in l.tac.types) (take l.op-index l.points)) l.fn.callees.items l.callees.items
