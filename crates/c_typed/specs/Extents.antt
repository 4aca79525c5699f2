-- The layouts that the program computes.
use Rattle.std.specs.Prelude.{◌≤◌}
use Rattle.c_typed.specs.declared.extent.Extent.{Extent}
use Rattle.c_typed.specs.Layouts.{Layout, greatest}

abbrev pub extent_layout : Extent → Layout
extent_layout extent = record { size = extent.size; alignment = extent.alignment; slots = extent.slots }

-- what layouts keep within
pub record IsSmall (layout : Layout) : Type 0 where
  pub size : layout.size ≤ greatest
  pub alignment : 1 ≤ layout.alignment
  pub alignment_greatest : layout.alignment ≤ 8
  pub slots : layout.slots ≤ greatest
