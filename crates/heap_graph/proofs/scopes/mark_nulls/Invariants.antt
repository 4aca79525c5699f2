use Rattle.std.proofs.Common.{◌≡◌, map, drop, ◌||◌}
use Rattle.std.specs.List.{list_any}
use Rattle.c_typed.specs.Table.{Interned}
use Rattle.tac_ir.specs.declared.register.Register.{Register}
use Rattle.tac_ir.specs.Views.{op_in}
use Rattle.heap_graph.specs.Points.{makes_null}
use Rattle.heap_graph.specs.Known.{is_marked}
use Rattle.heap_graph.proofs.scopes.mark_nulls.Given as goal

-- what is marked by now, and what the points from here on mark, is what all of them mark
abbrev pub invariant-loop-op : goal.invariant-loop-op
invariant-loop-op l = (table : Interned) (register : Register) → (list_any (makes_null register) (map (op_in table) (drop l.op-index l.points)) || is_marked l.marks register)
    ≡ (list_any (makes_null register) (map (op_in table) l.points) || is_marked l.initial.marks register)
