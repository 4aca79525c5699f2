-- The graph of a group is frozen.
use Rattle.std.proofs.Common.{◌≡◌, ℕ, List, length, Option}
use Rattle.c_typed.specs.Table.{Interned, structs_in}
use Rattle.tac_ir.specs.declared.register.FunctionId.{FunctionId}
use Rattle.tac_ir.specs.declared.program.Tac.{Tac}
use Rattle.tac_ir.specs.Views.{tac_of}
use Rattle.heap_graph.specs.Graphs.{OfGlobal, OfLiteral, Graph, node_at}
use Rattle.heap_graph.specs.Targets.{has_target}
use Rattle.heap_graph.specs.Merging.{IsSound}
use Rattle.graph_unification.specs.Cells.{has_number}
use Rattle.heap_graph.specs.declared.frozen.FrozenGraph.{FrozenGraph}
use Rattle.heap_graph.specs.Frozen.{static_in, bare}
use Rattle.graph_unification.specs.Freezing.{TellsGraph}
use Rattle.heap_graph.specs.declared.marks.NodeMarks.{NodeMarks}
use Rattle.heap_graph.specs.Edges.{EdgesAreFound}
use Rattle.heap_graph.proofs.SoundEdges.{edges_found}
use Rattle.dsa_inlining.specs.declared.group.Frozen.{Frozen}
use Rattle.dsa_inlining.specs.Owners.{is_owner, TellsEach}
use Rattle.dsa_inlining.specs.Kept.{IsFrozen}
use Rattle.dsa_inlining.specs.Complete.{AreEscaping, MarksComplete}
use Rattle.dsa_inlining.specs.GroupFreezing.Groups.{kept_in, IsFrozenGroup}
use Rattle.dsa_inlining.proofs.NamesTold.{statics_told}
use Rattle.dsa_inlining.proofs.KeptNodes.{kept_before, node_sound}
use Rattle.dsa_inlining.proofs.CompleteNodes.{is_frozen}
use Rattle.dsa_inlining.proofs.RestrictsMade.{frozen_sound}

module _ (table : Interned) (tac : Tac) (owners : List (Option FunctionId)) (made : Graph) (sound : IsSound (structs_in table) made) (variables literals : List ℕ)
    (of_globals : (number : ℕ) → has_number variables number ≡ has_target (made.targets (OfGlobal number))) (of_literals : (number : ℕ) → has_number literals number ≡ has_target (made.targets (OfLiteral number)))
    (old : FrozenGraph) (told : TellsGraph table made variables literals old) (frozen : Frozen) (tells : TellsEach made tac owners frozen.names.items) (marks : NodeMarks)
    (escaping : AreEscaping old owners frozen.names.items marks) (complete : MarksComplete marks old.nodes.items frozen.graph.nodes.items) where
  found_before : EdgesAreFound old
  found_before =
      edges_found table old
      (λ number node is. node_sound made (bare table old) (λ n. kept_before made (node_at made n) (node_at (bare table old) n) (told.nodes n)) (structs_in table) sound number node is)

  pub group_frozen : length frozen.names.items ≡ length owners → frozen.graph.globals ≡ old.globals → frozen.graph.literals ≡ old.literals → IsFrozenGroup table tac owners made frozen
  group_frozen size same_globals same_literals =
      let kept : IsFrozen (tac_of tac) (is_owner owners) made (kept_in table owners frozen) =
      is_frozen table tac owners made old frozen.graph frozen.names.items tells same_globals same_literals marks complete escaping found_before told.nodes
      (λ n. statics_told made variables n (OfGlobal n) (static_in old.globals n) (told.of_globals n) (of_globals n))
      (λ n. statics_told made literals n (OfLiteral n) (static_in old.literals n) (told.of_literals n) (of_literals n)) in
      record {
        size = size;
        kept = kept;
        sound = frozen_sound (tac_of tac) (is_owner owners) made (kept_in table owners frozen) kept (structs_in table) sound;
        found = edges_found table frozen.graph (λ number node is. node_sound made (bare table frozen.graph) kept.nodes (structs_in table) sound number node is);
      }
