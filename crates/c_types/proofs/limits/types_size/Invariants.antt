use Rattle.std.proofs.Common.{◌≡◌, ◌≤◌, map, drop}
use Rattle.c_typed.specs.Table.{structs_in, type_in}
use Rattle.c_typed.specs.Layouts.{layouts}
use Rattle.c_typed.specs.DefinitionViews.{TypesStand}
use Rattle.c_types.specs.Limits as rules
use Rattle.c_types.specs.Limits.{greatest_sum}
use Rattle.c_types.proofs.limits.types_size.Given as goal

-- The sum so far and that of the rest are the whole.
abbrev pub invariant-loop-c_type : goal.invariant-loop-c_type
invariant-loop-c_type l = record {
  stand : TypesStand l.types (drop l.c_type-index l.list);
  fits : l.size ≤ greatest_sum;
  whole : rules.added l.size (rules.types_size (layouts (structs_in l.types)) (map (type_in l.types) (drop l.c_type-index l.list))) ≡ rules.types_size (layouts (structs_in l.types)) (map (type_in l.types) l.list);
}
