-- What is known of the groups before one, where they are closed.
use Rattle.std.proofs.Common.{◌≡◌, ℕ, ◌<◌, ◌≤◌, List, length, Some, refl, arith}
use Rattle.std.specs.Prelude.{slice_get}
use Rattle.tac_ir.specs.States.{InFunction}
use Rattle.call_graph.specs.GroupViews.{groups_of}
use Rattle.heap_graph.specs.Closed.{Family, graph_of, group_of}
use Rattle.heap_graph.specs.declared.frozen.FrozenGraph.{FrozenGraph}
use Rattle.heap_graph.proofs.GroupNumbers.{in_own_at}
use Rattle.graph_checker.proofs.GroupsShown.{edges_group}
use Rattle.heap_graph.specs.Edges.{EdgesAreFound}
use Rattle.heap_graph.specs.Faults.{GroupClosed}
use Rattle.graph_checker.specs.declared.program.Program.{Program}
use Rattle.graph_checker.specs.Programs.{family_of}
use Rattle.graph_checker.specs.Fits.{EscapeWithin, SoundBefore, IsFit}
use Rattle.graph_checker.proofs.ClosedGroups.Groups.{shows, there_within}
use Rattle.graph_checker.proofs.Decided.{member_of}
use Rattle.graph_checker.proofs.Leading.{edges_found, escapes_within}

module _ (program : Program) (fit : IsFit program) where
  abbrev groups : List (List ℕ)
  groups = groups_of program.groups.now

  abbrev family : Family
  family = family_of program

  module _ (limit : ℕ) (few : limit ≤ length groups) (closed : (before : ℕ) → before < limit → GroupClosed family before) where
    edges : (at : ℕ) → at < limit → (graph : FrozenGraph) → slice_get program.graphs.now.graphs.items at ≡ Some graph → EdgesAreFound graph
    edges at less graph stored =
        let group = there_within groups at (omega (arith, less, few)) in
        let one = member_of program fit at group.0 group.1 in
        edges_found program.tac.now.types graph (edges_group (shows program fit at group.0 group.1 graph stored) one.0 one.1 ((closed at less).graph one.0 group.0 group.1 one.1).edges)

    inside : (called : ℕ) → group_of family called < limit → EscapeWithin family called
    inside called less =
        let at = group_of family called in
        let home = in_own_at called groups at refl (omega (arith, less, few)) in
        let graph = (closed at less).graph called home.0 home.1 home.2 in
        escapes_within (graph_of family (InFunction called)) graph.names graph.edges (InFunction called)

    pub sound_before : SoundBefore program limit
    sound_before = record { edges = edges; inside = inside }
