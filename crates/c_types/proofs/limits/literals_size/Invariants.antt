use Rattle.std.proofs.Common.{◌≡◌, ◌≤◌, map, drop}
use Rattle.c_typed.specs.DefinitionViews.{literal_of}
use Rattle.c_types.specs.Limits as rules
use Rattle.c_types.specs.Limits.{greatest_sum}
use Rattle.c_types.proofs.limits.literals_size.Given as goal

-- The sum so far and that of the rest are the whole.
abbrev pub invariant-loop-literal : goal.invariant-loop-literal
invariant-loop-literal l = record {
  fits : l.size ≤ greatest_sum;
  whole : rules.added l.size (rules.literals_size (map literal_of (drop l.literal-index l.literals))) ≡ rules.literals_size (map literal_of l.literals);
}
