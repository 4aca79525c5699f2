-- Variables and literals that lie in a graph as far apart as in that of a group lie so in what is kept of the graph, too.
use Rattle.std.proofs.Common.{◌≡◌, ℕ, ◌+◌, true, cond, List, map, Option, Some, None, refl, sym, ap, subst, ◌∙◌}
use Rattle.std.proofs.lemmas.Option.{none-some, same_Some}
use Rattle.c_typed.specs.Layouts.{StructDef}
use Rattle.c_typed.specs.Table.{Interned, structs_in}
use Rattle.tac_ir.specs.declared.program.Tac.{Tac}
use Rattle.tac_ir.specs.declared.register.FunctionId.{FunctionId}
use Rattle.tac_ir.specs.States.{Owner}
use Rattle.tac_ir.specs.Views.{tac_of}
use Rattle.heap_graph.specs.Graphs.{Target, Element, Flags, Node, Name, OfRegister, OfResult, OfObject, OfGlobal, OfLiteral, OfCopy, Graph, node_at}
use Rattle.heap_graph.specs.Targets.{is_collapsed, shifted}
use Rattle.heap_graph.specs.Structures.{AreMade}
use Rattle.heap_graph.specs.Merging.{IsSlot, IsSound}
use Rattle.heap_graph.proofs.MapsCompose.{shift_in, shifted_there}
use Rattle.heap_graph.specs.Frozen.{bare, graph_with}
use Rattle.heap_graph.specs.declared.frozen.FrozenGraph.{FrozenGraph}
use Rattle.heap_graph.specs.declared.frozen.FunctionNames.{FunctionNames}
use Rattle.heap_graph.specs.declared.program.FunctionGraph.{FunctionGraph}
use Rattle.heap_graph.specs.Asks.{is_certain}
use Rattle.heap_graph.specs.Restricted.{if_certain}
use Rattle.heap_graph.proofs.Certain.{certain_some, certain_there, if_yes}
use Rattle.graph_unification.specs.Going.{GoesOn}
use Rattle.dsa_inlining.specs.Aligned.{is_collapsed_at, IsPlaced, AreAligned}
use Rattle.dsa_inlining.proofs.Going.{aligned_kept}
use Rattle.dsa_inlining.proofs.Same.{aligned_self}
use Rattle.dsa_inlining.specs.declared.group.Frozen.{Frozen}
use Rattle.dsa_inlining.specs.Kept.{KeepsIf}
use Rattle.dsa_inlining.specs.GroupFreezing.Groups.{IsFrozenGroup}
use Rattle.dsa_inlining.specs.Owners.{is_owner, names_in}
use Rattle.dsa_inlining.proofs.KeptNodes.{before, after}
use Rattle.dsa_inlining.specs.Before.{GraphsBefore}
use Rattle.dsa_inlining.specs.Bases.{AreBases}
use Rattle.dsa_bottom_up.specs.Assembled.{kept_graph, IsAssembled}
use Rattle.dsa_bottom_up.proofs.Ready.{kept_sound}
use Rattle.dsa_bottom_up.specs.Assembling.{HasBases}

-- ---- a place that is kept

collapsed_some : (graph : Graph) (number : ℕ) (node : Node) → node_at graph number ≡ Some node → is_collapsed_at graph number ≡ is_collapsed node.element
collapsed_some graph number node is = rw is refl

none_shifted : (graph : Graph) (slots : ℕ) (place : Target) → node_at graph place.node ≡ None → shifted graph slots (Some place) ≡ None
none_shifted graph slots place is = rw is refl

-- a slot of a node with this element
abbrev slot_of : ℕ → ℕ → Element → Option Target
slot_of number shift element = Some (record { node = number; shift = cond (is_collapsed element) 0 shift })

module _ (made kept : Graph) (nodes : (number : ℕ) → KeepsIf made (node_at made number) (node_at kept number)) where
  certain_kept : (target : Target) → is_certain made (Some target) ≡ true → is_certain kept (Some target) ≡ true
  certain_kept target certain =
      let old = certain_there made target certain in
      let new = after made kept nodes target.node old.node old.is old.so in
      certain_some kept target new.node new.is ∙ (ap (λ (f : Flags). f.certain) new.keeps.flags ∙ old.so)

  collapsed_kept : (target : Target) → is_certain made (Some target) ≡ true → is_collapsed_at made target.node ≡ true → is_collapsed_at kept target.node ≡ true
  collapsed_kept target certain collapsed =
      let old = certain_there made target certain in
      let new = after made kept nodes target.node old.node old.is old.so in
      collapsed_some kept target.node new.node new.is ∙ (ap is_collapsed new.keeps.element ∙ (sym (collapsed_some made target.node old.node old.is) ∙ collapsed))

  behind_kept : (slots : ℕ) (place at : Target) → is_certain made (Some at) ≡ true → shifted made slots (Some place) ≡ Some at → shifted kept slots (Some place) ≡ Some at
  behind_kept slots place at certain is = by (node_at made place.node) refl
    where
      by : (found : Option Node) → node_at made place.node ≡ found → shifted kept slots (Some place) ≡ Some at
      by None there = absurd (none-some at (sym (none_shifted made slots place there) ∙ is))
      by (Some node) there =
          let target : Target = record { node = place.node; shift = shift_in node (place.shift + slots) } in
          let same : target ≡ at = same_Some target at (sym (shifted_there made slots place node there) ∙ is) in
          let old = certain_there made target (subst (λ t. is_certain made (Some t) ≡ true) (sym same) certain) in
          let new = after made kept nodes place.node old.node old.is old.so in
          let element : new.node.element ≡ node.element = new.keeps.element ∙ ap (λ (n : Node). n.element) (same_Some old.node node (sym old.is ∙ there)) in
          shifted_there kept slots place new.node new.is ∙ (ap (slot_of place.node (place.shift + slots)) element ∙ ap (λ t. Some t) same)

  pub placed_kept : (group : Graph) (name : Name) (target place : Target) → kept.targets name ≡ if_certain made (made.targets name) → IsPlaced group made name target place → IsPlaced group kept name target place
  placed_kept group name target place named its = record {
    at = its.at;
    is = named ∙ (ap (if_certain made) its.is ∙ if_yes made (Some its.at) its.certain);
    certain = certain_kept its.at its.certain;
    behind = behind_kept target.shift place its.at its.certain its.behind;
    collapsed = λ collapsed. collapsed_kept its.at its.certain (its.collapsed collapsed);
  }

-- ---- a graph that is frozen

module _ (table : Interned) (tac : Tac) (owners : List (Option FunctionId)) (made : Graph) (frozen : Frozen) (kept : IsFrozenGroup table tac owners made frozen) where
  pub aligned_frozen : (group : Graph) → AreAligned group made → AreAligned group (bare table frozen.graph)
  aligned_frozen group aligned = record {
    places = aligned.places;
    globals = λ number target is.
        placed_kept made (bare table frozen.graph) kept.kept.nodes group (OfGlobal number) target (aligned.places target.node) (kept.kept.names (OfGlobal number)) (aligned.globals number target is);
    literals = λ number target is.
        placed_kept made (bare table frozen.graph) kept.kept.nodes group (OfLiteral number) target (aligned.places target.node) (kept.kept.names (OfLiteral number)) (aligned.literals number target is);
  }

-- ---- all groups whose variables and literals a graph has

module _ (before' : GraphsBefore) (bases : List ℕ) where
  -- they are there still where the graph goes on
  pub bases_kept : AreMade (structs_in before'.tac.types) → (old new : Graph) → IsSound (structs_in before'.tac.types) old → GoesOn (structs_in before'.tac.types) old new → AreBases before' bases old → AreBases before' bases new
  bases_kept made old new sound goes are base among =
      let its = are base among in
      record { frozen = its.frozen; is = its.is; aligned = aligned_kept (structs_in before'.tac.types) made (bare before'.tac.types its.frozen) old new sound goes its.aligned }

  -- and once it is frozen
  pub bases_frozen : (owners : List (Option FunctionId)) (made : Graph) (frozen : Frozen) → IsFrozenGroup before'.tac.types before'.tac owners made frozen → AreBases before' bases made → HasBases before' bases frozen.graph
  bases_frozen owners made frozen kept are base among =
      let its = are base among in
      record { graph = its.frozen; is = its.is; aligned = aligned_frozen before'.tac.types before'.tac owners made frozen kept (bare before'.tac.types its.frozen) its.aligned }

-- ---- a graph that is frozen, with itself

-- without names of functions it is sound, too
plain_sound : (structs : List StructDef) (table : Interned) (graph : FrozenGraph) (known : Owner → Option FunctionNames) → IsSound structs (graph_with table graph known) → IsSound structs (bare table graph)
plain_sound structs table graph known sound = record {
  names = by;
  from = sound.from;
  to = λ number slot node to is edge. slot_of_plain to (sound.to number slot node to is edge);
}
  where
    slot_of_plain : (target : Target) → IsSlot structs (graph_with table graph known) target → IsSlot structs (bare table graph) target
    slot_of_plain target slot = record { node = slot.node; is = slot.is; inside = slot.inside }

    by : (name : Name) (target : Target) → (bare table graph).targets name ≡ Some target → IsSlot structs (bare table graph) target
    by (OfRegister owner register) target is = absurd (none-some target is)
    by (OfResult owner) target is = absurd (none-some target is)
    by (OfObject owner local) target is = absurd (none-some target is)
    by (OfGlobal number) target is = slot_of_plain target (sound.names (OfGlobal number) target is)
    by (OfLiteral number) target is = slot_of_plain target (sound.names (OfLiteral number) target is)
    by (OfCopy number) target is = absurd (none-some target is)

module _ (before' : GraphsBefore) (group : Option ℕ) (owners : List (Option FunctionId)) (begun : Graph) (graph : FrozenGraph) (functions : List FunctionGraph) (assembled : IsAssembled before' group owners begun graph functions) where
  -- all its nodes are certain
  pub self_aligned : AreAligned (bare before'.tac.types graph) (bare before'.tac.types graph)
  self_aligned =
      let kept = kept_graph before' owners graph functions in
      let structs = structs_in before'.tac.types in
      let sound = kept_sound (tac_of before'.tac) (is_owner owners) assembled.made kept assembled.frozen structs assembled.sound in
      aligned_self structs (bare before'.tac.types graph)
      (plain_sound structs before'.tac.types graph (names_in owners (map (λ (function : FunctionGraph). function.names) functions)) sound)
      (λ number node is. let was = before assembled.made kept assembled.frozen.nodes number node is in ap (λ (f : Flags). f.certain) was.keeps.flags ∙ was.keeps.certain)
