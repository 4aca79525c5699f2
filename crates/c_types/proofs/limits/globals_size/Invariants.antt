use Rattle.std.proofs.Common.{◌≡◌, ◌≤◌, map, drop}
use Rattle.c_typed.specs.Table.{structs_in}
use Rattle.c_typed.specs.Layouts.{layouts}
use Rattle.c_typed.specs.DefinitionViews.{GlobalsStand}
use Rattle.c_typed.specs.DefinitionViews.{global_in}
use Rattle.c_types.specs.Limits as rules
use Rattle.c_types.specs.Limits.{greatest_sum}
use Rattle.c_types.proofs.limits.globals_size.Given as goal

-- The sum so far and that of the rest are the whole.
abbrev pub invariant-loop-global : goal.invariant-loop-global
invariant-loop-global l = record {
  stand : GlobalsStand l.types (drop l.global-index l.globals);
  fits : l.size ≤ greatest_sum;
  whole : rules.added l.size (rules.globals_size (layouts (structs_in l.types)) (map (global_in l.types) (drop l.global-index l.globals))) ≡ rules.globals_size (layouts (structs_in l.types)) (map (global_in l.types) l.globals);
}
