-- Graphs of a program as far as the groups below a number go.
use Rattle.std.specs.Prelude.{ℕ, ◌<◌, ◌≤◌, nat_lt}
use Rattle.heap_graph.specs.Graphs.{ProgramGraphs}
use Rattle.heap_graph.specs.Closed.{Family, group_of}
use Rattle.heap_graph.specs.Faults.{GroupClosed}
use Rattle.dsa_bottom_up.specs.MadeGroups.Made.{AreClassesOne}
use Rattle.dsa_bottom_up.specs.Mapping.{GroupMaps, MapsBelow}

-- These groups are closed, and those of their functions to which one call of the program may come through a pointer share formals and results,
-- wherever that call is.
pub record ClosedBelow (family : Family) (number : ℕ) : Type 0 where
  pub groups : (at : ℕ) → at < number → GroupClosed family at
  pub classes : AreClassesOne family (λ called. nat_lt (group_of family called) number)

-- Their graphs are the least: there is a map of them to each other family of graphs of the program and its groups, as far as that is closed.
abbrev pub LeastBelow : Family → ℕ → Type 0
LeastBelow family number =
    (graphs : ProgramGraphs) (at : ℕ) → at ≤ number → ClosedBelow (record family { graphs = graphs }) at → (maps : GroupMaps) × MapsBelow family (record family { graphs = graphs }) at maps
