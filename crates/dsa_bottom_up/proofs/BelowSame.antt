-- The graphs of the groups below one are closed, and their calls go to groups below.
use Rattle.std.proofs.Common.{ℕ, ◌<◌, ◌≤◌, length, refl, arith}
use Rattle.tac_ir.specs.States.{InFunction}
use Rattle.heap_graph.specs.Graphs.{ProgramGraphs}
use Rattle.heap_graph.specs.Closed.{graph_of, group_of, of_group, Closed}
use Rattle.heap_graph.specs.Completed.{HasNodes}
use Rattle.heap_graph.proofs.CompletedGraph.{closed_has_nodes}
use Rattle.call_graph.specs.GroupViews.{groups_of}
use Rattle.heap_graph.specs.declared.program.ProgramGraphs as memory_graphs
use Rattle.heap_graph.proofs.GroupNumbers.{in_own_at}
use Rattle.heap_graph.specs.Saturated.{saturated}
use Rattle.heap_graph.proofs.SaturatedClosed.{saturated_closed}
use Rattle.heap_graph.proofs.FullGraphs.{family_full}
use Rattle.dsa_inlining.specs.Before.{GraphsBefore}
use Rattle.dsa_bottom_up.specs.AssembledGroups.Making.{family_at, BeginsWith, IsMaking}
use Rattle.dsa_bottom_up.specs.LeastGraphs.Making.{other_at, IsFullFamily, AreLeast}
use Rattle.dsa_bottom_up.proofs.Below.{closed_below}
use Rattle.dsa_bottom_up.proofs.SameMaps.{CallsBelow}

pub calls_below : (before : GraphsBefore) (number : ℕ) → AreLeast before number → (all : memory_graphs.ProgramGraphs) → BeginsWith before number all → (graphs : ProgramGraphs) → Closed (other_at before graphs)
    → CallsBelow (family_at before all) number
calls_below before number least all begins graphs closed function less site called node target held =
    let whole = saturated (other_at before graphs) in
    let full : IsFullFamily (other_at before whole.graphs) = family_full (other_at before graphs) in
    let maps = least all begins whole.graphs (closed_below (other_at before whole.graphs) (saturated_closed (other_at before graphs) closed) number) full in
    ((maps.1 function less).embeddings site called node target held).0

pub sound_below : (before : GraphsBefore) (number : ℕ) → IsMaking before number → number ≤ length (groups_of before.groups) → (all : memory_graphs.ProgramGraphs) → BeginsWith before number all → (function : ℕ)
    → group_of (family_at before all) function < number → HasNodes (graph_of (family_at before all) (InFunction function))
sound_below before number making within all begins function less =
    let family = family_at before all in
    let home = in_own_at function (groups_of before.groups) (group_of family function) refl (omega (arith, less, within)) in
    closed_has_nodes family (graph_of family (InFunction function)) (of_group home.0) (InFunction function) ((making.closed all begins (group_of family function) less).graph function home.0 home.1 home.2)
