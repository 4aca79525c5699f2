use Rattle.std.proofs.Common.{◌≡◌, ◌++◌, map, length}
use Rattle.c_typed.specs.Types.{is_pointer}
use Rattle.c_typed.specs.Table.{ListStands, types_in}
use Rattle.c_rules.specs.Elaborated.{types_in as listed}
use Rattle.graph_text.proofs.marks.Marker.pointers.Given as goal

-- The parameters so far and the rest are all.
abbrev pub invariant-loop-first : goal.invariant-loop-first
invariant-loop-first l = record {
  stand : ListStands l.fn.self.pass.checker.table l.rest;
  all : l.pointers.items ++ map is_pointer (listed (types_in l.fn.self.pass.checker.table l.rest)) ≡ map is_pointer (listed (types_in l.fn.self.pass.checker.table l.fn.parameters));
}

abbrev pub decreases-loop-first : goal.decreases-loop-first
decreases-loop-first l = length (listed (types_in l.fn.self.pass.checker.table l.rest))
