use Rattle.std.proofs.Common.{◌≡◌, ◌≤◌, map, drop}
use Rattle.c_typed.specs.Table.{structs_in}
use Rattle.c_typed.specs.Layouts.{layouts}
use Rattle.c_typed.specs.StatementViews.{LocalsStand}
use Rattle.c_typed.specs.StatementViews.{local_in}
use Rattle.c_types.specs.Limits as rules
use Rattle.c_types.specs.Limits.{greatest_sum}
use Rattle.c_types.proofs.limits.locals_size.Given as goal

-- The sum so far and that of the rest are the whole.
abbrev pub invariant-loop-local : goal.invariant-loop-local
invariant-loop-local l = record {
  stand : LocalsStand l.types (drop l.local-index l.locals);
  fits : l.size ≤ greatest_sum;
  whole : rules.added l.size (rules.locals_size (layouts (structs_in l.types)) (map (local_in l.types) (drop l.local-index l.locals))) ≡ rules.locals_size (layouts (structs_in l.types)) (map (local_in l.types) l.locals);
}
