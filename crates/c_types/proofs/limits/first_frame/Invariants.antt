use Rattle.std.proofs.Common.{◌≡◌, map, drop}
use Rattle.c_typed.specs.Table.{structs_in}
use Rattle.c_typed.specs.Layouts.{layouts}
use Rattle.c_typed.specs.DefinitionViews.{function_in, FunctionsStand}
use Rattle.c_types.specs.Limits as rules
use Rattle.c_types.proofs.limits.first_frame.Given as goal

-- The first of the rest is the first of all.
abbrev pub invariant-loop-function : goal.invariant-loop-function
invariant-loop-function l = record {
  stand : FunctionsStand l.types (drop l.function-index l.functions);
  whole : rules.first_above l.greatest (rules.frames (layouts (structs_in l.types)) (map (function_in l.types) (drop l.function-index l.functions)))
      ≡ rules.first_above l.greatest (rules.frames (layouts (structs_in l.types)) (map (function_in l.types) l.functions));
}
