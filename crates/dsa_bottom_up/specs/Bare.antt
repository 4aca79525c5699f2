-- That no flag can be taken away from the graphs of the groups so far.
use Rattle.std.specs.Prelude.{◌≡◌, ℕ, ◌<◌, Option, Some}
use Rattle.heap_graph.specs.Graphs.{Flags, Node, Graph, node_at}
use Rattle.heap_graph.specs.Closed.{Family, Closed}
use Rattle.heap_graph.specs.Least.{AreFewer, changed, graph_at}
use Rattle.heap_graph.specs.declared.program.ProgramGraphs.{ProgramGraphs}
use Rattle.dsa_inlining.specs.Before.{GraphsBefore}
use Rattle.dsa_bottom_up.specs.AssembledGroups.Making.{family_at, BeginsWith}

-- a family isn't closed any more where a node of a group's graph, or of `start`'s, has fewer flags
abbrev pub IsBareAt : Family → Option ℕ → Type 0
IsBareAt family group =
    (number : ℕ) (graph : Graph) (node : Node) (few : Flags) → graph_at family group ≡ Some graph → node_at graph number ≡ Some node → AreFewer few node.flags → Closed (changed group number few family) → few ≡ node.flags

-- so it is of the groups below the number where the graphs of a program begin with those that were made
abbrev pub AreBare : GraphsBefore → ℕ → Type 0
AreBare before number = (all : ProgramGraphs) → BeginsWith before number all → (at : ℕ) → at < number → IsBareAt (family_at before all) (Some at)
