-- A graph in which flags are set goes where the old graph goes, in a graph with all flags.
use Rattle.std.proofs.Common.{◌≡◌, ℕ, List, Option, Some, None, refl, sym, ap, ◌∙◌}
use Rattle.std.proofs.lemmas.Option.{none-some, same_Some}
use Rattle.c_typed.specs.Layouts.{StructDef}
use Rattle.tac_ir.specs.States.{Owner}
use Rattle.heap_graph.specs.Graphs.{Node, Graph, node_at}
use Rattle.heap_graph.specs.Closed.{Family, graph_of}
use Rattle.heap_graph.specs.Merging.{GraphMap, Maps}
use Rattle.heap_graph.specs.Completed.{completed}
use Rattle.heap_graph.specs.Saturated.{saturated_graph, saturated}
use Rattle.heap_graph.specs.Places.{IsFull, SamePlace, SamePlaces}
use Rattle.heap_graph.proofs.FullGraphs.{only_flags}
use Rattle.heap_graph.proofs.CompletedFull.{completed_saturated, completed_in}
use Rattle.dsa_local.specs.Growing.{OnlyFlagsGrow}

pub grown_places : (old new : Graph) → OnlyFlagsGrow old new → SamePlaces old new
grown_places old new grows = record { names = grows.names; nodes = λ number node e. by number node e (node_at old number) refl }
  where
    by : (number : ℕ) (node : Node) → node_at new number ≡ Some node → (o : Option Node) → node_at old number ≡ o → SamePlace old number node
    by number node e None f = absurd (none-some node (sym (grows.none number f) ∙ e))
    by number node e (Some was) f =
        let now = grows.nodes number was f in
        let same = same_Some now.now node (sym now.is ∙ e) in
        record {
          was = was;
          is = f;
          element = sym (ap (λ (n : Node). n.element) same) ∙ now.grows.element;
          edges = sym (ap (λ (n : Node). n.edges) same) ∙ now.grows.edges;
          certain = sym (ap (λ (n : Node). n.flags.certain) same) ∙ now.grows.flags.certain;
        }

pub grown_maps : (structs : List StructDef) (other : Graph) → IsFull other → (old new : Graph) (into : GraphMap) → OnlyFlagsGrow old new → Maps structs old other into → Maps structs new other into
grown_maps structs other full old new into grows maps = only_flags structs other into full old new (grown_places old new grows) maps

pub grown_completed : (structs : List StructDef) (bound : ℕ) (graph old new : Graph) (into : GraphMap) → OnlyFlagsGrow old new → Maps structs old (completed bound (saturated_graph graph)) into
    → Maps structs new (completed bound (saturated_graph graph)) into
grown_completed structs bound graph old new into grows maps = grown_maps structs (completed bound (saturated_graph graph)) (completed_saturated bound graph) old new into grows maps

pub grown_in : (structs : List StructDef) (bound : ℕ) (family : Family) (owner : Owner) (old new : Graph) (into : GraphMap) → OnlyFlagsGrow old new
    → Maps structs old (completed bound (graph_of (saturated family) owner)) into → Maps structs new (completed bound (graph_of (saturated family) owner)) into
grown_in structs bound family owner old new into grows maps = grown_maps structs (completed bound (graph_of (saturated family) owner)) (completed_in bound family owner) old new into grows maps
