-- What lies in a graph as far apart as in that of a group does so while the graph goes on.
use Rattle.std.proofs.Common.{◌≡◌, true, List, Some, sym, ap, subst, ◌∙◌}
use Rattle.c_typed.specs.Layouts.{StructDef}
use Rattle.heap_graph.specs.Structures.{AreMade}
use Rattle.heap_graph.specs.Graphs.{Target, Name, OfGlobal, OfLiteral, Graph}
use Rattle.heap_graph.specs.Targets.{element_kept}
use Rattle.heap_graph.specs.Merging.{IsSound, GraphMap, Maps}
use Rattle.heap_graph.proofs.MapsCompose.{at_there, mapped_there, target_in, kept_collapsed}
use Rattle.heap_graph.specs.Asks.{is_certain}
use Rattle.graph_unification.proofs.Staying.{certain_kept}
use Rattle.graph_unification.specs.Going.{GoesOn}
use Rattle.dsa_inlining.specs.Aligned.{IsPlaced, AreAligned}
use Rattle.dsa_inlining.proofs.Composing.{collapsed_there, place_behind, placed_through, same_node}

module _ (structs : List StructDef) (made : AreMade structs) (old new : Graph) (map : GraphMap) (sound : IsSound structs old) (maps : Maps structs old new map) where
  -- a certain target is where the map tells
  placed_by_map : (name : Name) (at : Target) → old.targets name ≡ Some at → is_certain old (Some at) ≡ true → IsPlaced old new name at (map at.node)
  placed_by_map name at is certain =
      let slot = sound.names name at is in
      let there = at_there new (map at.node) (element_kept structs slot.node.element) (maps.elements at.node slot.node slot.is) in
      let place = mapped_there new map at there.node there.is in
      let now = maps.names name at is ∙ place in
      record {
        at = target_in map at there.node;
        is = now;
        certain = ap (is_certain new) (sym now) ∙ certain_kept structs made old new map sound maps name (ap (is_certain old) is ∙ certain);
        behind = place;
        collapsed = λ collapsed. collapsed_there new (map at.node).node there.node there.is
            ∙ kept_collapsed structs slot.node.element there.node (map at.node).shift there.so (sym (collapsed_there old at.node slot.node slot.is) ∙ collapsed);
      }

  placed_on : (group : Graph) (name : Name) (target place : Target) → IsPlaced group old name target place → IsPlaced group new name target (place_behind place (map place.node))
  placed_on group name target place its =
      placed_through group old new name target place (map place.node) its
      (subst (λ n. IsPlaced old new name its.at (map n)) (same_node group old name target place its) (placed_by_map name its.at its.is its.certain))

  aligned_on : (group : Graph) → AreAligned group old → AreAligned group new
  aligned_on group its = record {
    places = λ number. place_behind (its.places number) (map (its.places number).node);
    globals = λ number target is. placed_on group (OfGlobal number) target (its.places target.node) (its.globals number target is);
    literals = λ number target is. placed_on group (OfLiteral number) target (its.places target.node) (its.literals number target is);
  }

pub aligned_kept : (structs : List StructDef) → AreMade structs → (group old new : Graph) → IsSound structs old → GoesOn structs old new → AreAligned group old → AreAligned group new
aligned_kept structs made group old new sound goes its = aligned_on structs made old new goes.map sound goes.maps group its
