use Rattle.std.proofs.Common.{◌≡◌, ◌≤◌, drop}
use Rattle.c_typed.specs.Table.{structs_in}
use Rattle.c_typed.specs.Layouts.{layouts}
use Rattle.c_typed.specs.StatementViews.{block_in, BlockStands, switch_in, SwitchStands}
use Rattle.c_types.specs.Limits as rules
use Rattle.c_types.specs.Limits.{greatest_sum}
use Rattle.c_types.proofs.limits.+size.Given as goal

-- The sum so far and that of the rest are the whole.
abbrev pub invariant-block_size-loop-item : goal.invariant-block_size-loop-item
invariant-block_size-loop-item l = record {
  stand : BlockStands l.types (drop l.item-index l.items);
  fits : l.size ≤ greatest_sum;
  whole : rules.added l.size (rules.block_size (layouts (structs_in l.types)) (block_in l.types (drop l.item-index l.items))) ≡ rules.block_size (layouts (structs_in l.types)) (block_in l.types l.items);
}

abbrev pub invariant-switch_size-loop-item : goal.invariant-switch_size-loop-item
invariant-switch_size-loop-item l = record {
  stand : SwitchStands l.types (drop l.item-index l.items);
  fits : l.size ≤ greatest_sum;
  whole : rules.added l.size (rules.switch_size (layouts (structs_in l.types)) (switch_in l.types (drop l.item-index l.items))) ≡ rules.switch_size (layouts (structs_in l.types)) (switch_in l.types l.items);
}
