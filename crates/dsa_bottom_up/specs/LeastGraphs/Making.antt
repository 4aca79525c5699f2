-- That the graphs of the groups so far are the least.
use Rattle.std.specs.Prelude.{ℕ}
use Rattle.tac_ir.specs.Views.{tac_of}
use Rattle.tac_ir.specs.States.{Owner}
use Rattle.heap_graph.specs.Graphs.{ProgramGraphs}
use Rattle.heap_graph.specs.Closed.{Family, graph_of}
use Rattle.call_graph.specs.GroupViews.{groups_of}
use Rattle.heap_graph.specs.declared.program.ProgramGraphs as memory_graphs
use Rattle.dsa_inlining.specs.Before.{GraphsBefore}
use Rattle.heap_graph.specs.Places.{IsFull}
use Rattle.dsa_bottom_up.specs.AssembledGroups.Making.{family_at, BeginsWith}
use Rattle.dsa_bottom_up.specs.Mapping.{GroupMaps, MapsBelow}
use Rattle.dsa_bottom_up.specs.Below.{ClosedBelow}

-- other graphs of the program and its groups
abbrev pub other_at : GraphsBefore → ProgramGraphs → Family
other_at before graphs = record { tac = tac_of before.tac; groups = groups_of before.groups; graphs = graphs }

-- all flags are told of each node
abbrev pub IsFullFamily : Family → Type 0
IsFullFamily family = (owner : Owner) → IsFull (graph_of family owner)

-- Where the graphs of a program begin with those that were made, there is a map of the groups below the number to each other family of graphs
-- that is closed below it and of which all flags are told.
abbrev pub AreLeast : GraphsBefore → ℕ → Type 0
AreLeast before number =
    (all : memory_graphs.ProgramGraphs) → BeginsWith before number all → (graphs : ProgramGraphs) → ClosedBelow (other_at before graphs) number → IsFullFamily (other_at before graphs)
    → (maps : GroupMaps) × MapsBelow (family_at before all) (other_at before graphs) number maps
