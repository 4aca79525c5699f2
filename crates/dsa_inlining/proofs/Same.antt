-- In a graph whose nodes are certain all lies as far apart as in itself.
use Rattle.std.proofs.Common.{◌≡◌, ℕ, ◌+◌, ◌<◌, true, List, cond, Some, ap, ◌∙◌, arith}
use Rattle.c_typed.specs.Layouts.{StructDef}
use Rattle.heap_graph.specs.Graphs.{Target, Element, Missing, OfType, Collapsed, Node, Name, OfGlobal, OfLiteral, Graph, node_at}
use Rattle.heap_graph.specs.Targets.{is_collapsed}
use Rattle.heap_graph.specs.Merging.{slots, IsSound}
use Rattle.heap_graph.proofs.MapsCompose.{shifted_there}
use Rattle.heap_graph.proofs.Certain.{certain_some}
use Rattle.dsa_inlining.specs.Aligned.{IsPlaced, AreAligned}

-- the first slot of a node
abbrev pub first_slot : ℕ → Target
first_slot number = record { node = number; shift = 0 }

shift_same : (structs : List StructDef) (element : Element) (shift : ℕ) → shift < slots structs element → cond (is_collapsed element) 0 (0 + shift) ≡ shift
shift_same structs Missing shift inside = omega arith
shift_same structs (OfType c_type) shift inside = omega arith
shift_same structs Collapsed shift inside = omega (arith, inside)

module _ (structs : List StructDef) (graph : Graph) (sound : IsSound structs graph) (certain : (number : ℕ) (node : Node) → node_at graph number ≡ Some node → node.flags.certain ≡ true) where
  placed_itself : (name : Name) (target : Target) → graph.targets name ≡ Some target → IsPlaced graph graph name target (first_slot target.node)
  placed_itself name target is =
      let slot = sound.names name target is in
      record {
        at = target;
        is = is;
        certain = certain_some graph target slot.node slot.is ∙ certain target.node slot.node slot.is;
        behind = shifted_there graph target.shift (first_slot target.node) slot.node slot.is
            ∙ ap (λ s. Some (record { node = target.node; shift = s })) (shift_same structs slot.node.element target.shift slot.inside);
        collapsed = λ collapsed. collapsed;
      }

pub aligned_self : (structs : List StructDef) (graph : Graph) → IsSound structs graph → ((number : ℕ) (node : Node) → node_at graph number ≡ Some node → node.flags.certain ≡ true) → AreAligned graph graph
aligned_self structs graph sound certain = record {
  places = first_slot;
  globals = λ number target is. placed_itself structs graph sound certain (OfGlobal number) target is;
  literals = λ number target is. placed_itself structs graph sound certain (OfLiteral number) target is;
}
