use Rattle.std.proofs.Common.{◌≡◌, ◌++◌, map, length}
use Rattle.c_typed.specs.Table.{ListStands, type_in, types_in}
use Rattle.c_typed.specs.DefinitionViews.{TypesStand}
use Rattle.c_types_state.specs.Finding.{each_in}
use Rattle.c_rules.specs.Elaborated as elaborated
use Rattle.c_types.proofs.items.parameters_of.Given as goal

-- The types so far and those of the rest are the whole.
abbrev pub invariant-loop-first : goal.invariant-loop-first
invariant-loop-first l = record {
  rest : ListStands l.checker.table l.rest;
  stand : TypesStand l.checker.table l.types.items;
  whole : map (type_in l.checker.table) l.types.items ++ elaborated.types_in (types_in l.checker.table l.rest) ≡ elaborated.parameters_of (each_in type_in l.checker.table l.fn.c_type);
}

abbrev pub decreases-loop-first : goal.decreases-loop-first
decreases-loop-first l = length (elaborated.types_in (types_in l.checker.table l.rest))
