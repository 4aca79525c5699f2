use Rattle.std.proofs.Common.{◌≡◌, ◌+◌, ◌≤◌, map, suc}
use Rattle.std.specs.Prelude.{◌++◌}
use Rattle.c_typed.specs.Table.{Stands, ListStands, type_in, types_in, structs_in}
use Rattle.c_typed.specs.Layouts.{layouts}
use Rattle.c_types.specs.Limits as rules
use Rattle.c_types.specs.Measures.{measured}
use Rattle.c_types.proofs.Weights.{weight, weights}
use Rattle.c_types.proofs.limits.+parts.Given as goal

abbrev pub decreases-function_above : goal.decreases-function_above
decreases-function_above l = suc (weight (type_in l.types.now l.returned) + weights (types_in l.types.now l.parameters))

abbrev pub decreases-part_above : goal.decreases-part_above
decreases-part_above l = weight (type_in l.types.now l.c_type)

-- The first of the rest is the first of all.
abbrev pub invariant-function_above-loop-first : goal.invariant-function_above-loop-first
invariant-function_above-loop-first l = record {
  stands : ListStands l.types l.rest;
  lighter : weights (types_in l.types l.rest) ≤ weights (types_in l.types l.fn.parameters);
  whole : rules.first_above l.greatest (map (measured (layouts (structs_in l.types)) l.measure) (rules.parts_of_each (types_in l.types l.rest)))
      ≡ rules.first_above l.greatest (map (measured (layouts (structs_in l.types)) l.measure) (rules.parts (type_in l.types l.fn.returned) ++ rules.parts_of_each (types_in l.types l.fn.parameters)));
}

abbrev pub decreases-function_above-loop-first : goal.decreases-function_above-loop-first
decreases-function_above-loop-first l = weights (types_in l.types l.rest)

abbrev pub invariant-part_above-loop-measure : goal.invariant-part_above-loop-measure
invariant-part_above-loop-measure l = record {
  stands : Stands l.types l.rest;
  lighter : weight (type_in l.types l.rest) ≤ weight (type_in l.types l.fn.c_type);
  whole : rules.first_above l.greatest (map (measured (layouts (structs_in l.types)) l.measure) (rules.parts (type_in l.types l.rest)))
      ≡ rules.first_above l.greatest (map (measured (layouts (structs_in l.types)) l.measure) (rules.parts (type_in l.types l.fn.c_type)));
}

abbrev pub decreases-part_above-loop-measure : goal.decreases-part_above-loop-measure
decreases-part_above-loop-measure l = weight (type_in l.types l.rest)
