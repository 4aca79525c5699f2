-- Where it is told of nodes that they are of arrays, only flags grow: so what points ask, and what is told of allocations, stays.
use Rattle.std.proofs.Common.{◌≡◌, ℕ, List, Option, Some, None, refl, sym, ap, ◌∙◌}
use Rattle.std.proofs.lemmas.Option.{none-some}
use Rattle.c_typed.specs.Layouts.{StructDef}
use Rattle.tac_ir.specs.Code.{Tac}
use Rattle.tac_ir.specs.States.{Owner}
use Rattle.heap_graph.specs.Graphs.{Node, Graph, node_at}
use Rattle.heap_graph.specs.Merging.{IsSound}
use Rattle.heap_graph.proofs.Certain.{implies_holds}
use Rattle.graph_unification.specs.Going.{AllNamed}
use Rattle.dsa_inlining.specs.CallCopies.Telling.{ArrayTold, ArraysTold}
use Rattle.dsa_local.specs.Growing.{NodeGrows, OnlyFlagsGrow}
use Rattle.dsa_local.specs.Rounds.{Settled}
use Rattle.dsa_local.specs.Sizes.{SizesTold}
use Rattle.dsa_local.proofs.GrownPoints.{settled_grown}
use Rattle.dsa_local.proofs.SizeSteps.{told_grown}

array_grows : (graph : Graph) (number : ℕ) (node : Node) → (told : ArrayTold graph number node) → NodeGrows node told.now
array_grows graph number node told = record {
  element = ap (λ (n : Node). n.element) told.same;
  edges = ap (λ (n : Node). n.edges) told.same;
  flags = record {
    heap = λ h. ap (λ (n : Node). n.flags.heap) told.same ∙ h;
    stack = λ h. ap (λ (n : Node). n.flags.stack) told.same ∙ h;
    global = λ h. ap (λ (n : Node). n.flags.global) told.same ∙ h;
    array = implies_holds node.flags.array told.now.flags.array told.kept;
    modified = λ h. ap (λ (n : Node). n.flags.modified) told.same ∙ h;
    read = λ h. ap (λ (n : Node). n.flags.read) told.same ∙ h;
    certain = ap (λ (n : Node). n.flags.certain) told.same;
  };
}

-- each node of the new graph is a name's, and names lead to nodes that were there
pub only_flags : (structs : List StructDef) (old new : Graph) → IsSound structs old → AllNamed new → ArraysTold old new → OnlyFlagsGrow old new
only_flags structs old new sound named arrays = record {
  names = arrays.names;
  nodes = λ number node is. let told = arrays.nodes number node is in record { now = told.now; is = told.is; grows = array_grows new number node told };
  none = λ number none. by number none (node_at new number) refl;
}
  where
    by : (number : ℕ) → node_at old number ≡ None → (o : Option Node) → node_at new number ≡ o → node_at new number ≡ None
    by number none None e = e
    by number none (Some node) e =
        let its = named number node e in
        let slot = sound.names its.0 its.1 (sym (arrays.names its.0) ∙ its.2) in
        absurd (none-some slot.node (sym none ∙ ap (node_at old) (sym its.3) ∙ slot.is))

-- what was settled stays so
pub settled_still : (tac : Tac) (old new : Graph) → IsSound tac.structs old → AllNamed new → ArraysTold old new → (owners : List Owner) → Settled tac owners old → Settled tac owners new
settled_still tac old new sound named arrays = settled_grown tac old new (only_flags tac.structs old new sound named arrays)

-- and what was told of allocations
pub sizes_still : (tac : Tac) (old new : Graph) → IsSound tac.structs old → AllNamed new → ArraysTold old new → (owners : List Owner) → SizesTold tac owners old → SizesTold tac owners new
sizes_still tac old new sound named arrays = told_grown tac old new (only_flags tac.structs old new sound named arrays)
