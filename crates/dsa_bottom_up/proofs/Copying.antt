-- The graph of a function of a group before, and the embeddings of an owner, as the lemmas on calls take them.
use Rattle.std.proofs.Common.{◌≡◌, ℕ, List, Some, refl}
use Rattle.std.proofs.lemmas.Option.{none-some}
use Rattle.c_typed.specs.Layouts.{StructDef}
use Rattle.c_typed.specs.Table.{Interned}
use Rattle.tac_ir.specs.States.{Owner, InStart, InFunction}
use Rattle.heap_graph.specs.Graphs.{Target, Name, OfRegister, OfResult, OfObject, OfGlobal, OfLiteral, OfCopy}
use Rattle.heap_graph.specs.Merging.{IsSlot, IsSound}
use Rattle.heap_graph.specs.Frozen.{bare, own_graph}
use Rattle.heap_graph.specs.declared.frozen.FunctionNames.{FunctionNames}
use Rattle.heap_graph.specs.declared.frozen.FrozenGraph.{FrozenGraph}
use Rattle.heap_graph.specs.declared.program.ProgramGraphs.{ProgramGraphs}
use Rattle.heap_graph.specs.Programs.{function_embedding, embedding_in}
use Rattle.dsa_bottom_up.specs.Shown.{function_in}

-- ---- the graph of a function

-- without names of functions it is sound too
pub bare_sound : (structs : List StructDef) (table : Interned) (graph : FrozenGraph) (names : FunctionNames) → IsSound structs (own_graph table graph names) → IsSound structs (bare table graph)
bare_sound structs table graph names sound = record {
  names = by;
  from = sound.from;
  to = λ number slot node to is edge. slot_of to (sound.to number slot node to is edge);
}
  where
    slot_of : (target : Target) → IsSlot structs (own_graph table graph names) target → IsSlot structs (bare table graph) target
    slot_of target slot = record { node = slot.node; is = slot.is; inside = slot.inside }

    by : (name : Name) (target : Target) → (bare table graph).targets name ≡ Some target → IsSlot structs (bare table graph) target
    by (OfRegister owner register) target is = absurd (none-some target is)
    by (OfResult owner) target is = absurd (none-some target is)
    by (OfObject owner local) target is = absurd (none-some target is)
    by (OfGlobal number) target is = slot_of target (sound.names (OfGlobal number) target is)
    by (OfLiteral number) target is = slot_of target (sound.names (OfLiteral number) target is)
    by (OfCopy number) target is = absurd (none-some target is)

-- ---- embeddings

-- an owner's embeddings are those that the program's graphs tell of it
pub embedding_told : (all : ProgramGraphs) (owner : Owner) (site called node : ℕ)
    → embedding_in all (record { owner = owner; site = site; called = called }) node ≡ function_embedding (function_in all owner) site called node
embedding_told all InStart site called node = refl
embedding_told all (InFunction number) site called node = refl
