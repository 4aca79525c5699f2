use Rattle.std.proofs.Common.{◌≡◌, map, drop}
use Rattle.std.specs.Prelude.{option_map}
use Rattle.c_typed.specs.Table.{structs_in}
use Rattle.c_typed.specs.Layouts.{layouts}
use Rattle.c_types_expressions.specs.Passes.{named_type, AllNamedStand}
use Rattle.c_types.specs.Limits as rules
use Rattle.c_types.specs.Measures.{measured, excess_of}
use Rattle.c_types.proofs.limits.first_excess.Given as goal

-- The earliest so far and that of the rest are the earliest of all.
abbrev pub invariant-loop-one : goal.invariant-loop-one
invariant-loop-one l = record {
  stand : AllNamedStand l.types (drop l.one-index l.named);
  whole : rules.earliest (option_map excess_of l.first) (rules.excesses (measured (layouts (structs_in l.types)) l.measure) l.greatest (map (named_type l.types) (drop l.one-index l.named)))
      ≡ rules.first_excess (measured (layouts (structs_in l.types)) l.measure) l.greatest (map (named_type l.types) l.named);
}
