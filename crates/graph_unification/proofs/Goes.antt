-- Each step by which a graph is made goes on from the graph before.
use Rattle.std.proofs.Common.{◌≡◌, ℕ, Bool, List, Option, Some, refl, sym, ap, ◌∙◌, ◌⊎◌, inl, inr}
use Rattle.c_typed.specs.Layouts.{StructDef}
use Rattle.tac_ir.specs.Code.{Function}
use Rattle.tac_ir.specs.States.{Owner}
use Rattle.heap_graph.specs.Graphs.{Target, Node, Name, Graph, node_at}
use Rattle.heap_graph.specs.Targets.{edge_at, marks_kept, element_kept}
use Rattle.heap_graph.specs.Structures.{AreMade}
use Rattle.heap_graph.specs.Merging.{IsSlot, IsSound, GraphMap, mapped, Maps, IsOnto, Asked, LeastWith}
use Rattle.heap_graph.specs.Steps.{unmoved, via}
use Rattle.heap_graph.proofs.MapsCompose.{at_from, edge_there, target_in, mapped_there}
use Rattle.heap_graph.proofs.StepsCompose.{kept_itself, flags_itself, itself}
use Rattle.graph_unification.specs.Adding.{AddsMissing, AddsSome}
use Rattle.graph_unification.specs.GraphNames.First.{first_node, AddsFunction}
use Rattle.graph_unification.proofs.Leading.{nodes_kept, targets_kept, IsNamed, old_or_named}
use Rattle.graph_unification.proofs.Missing.{missing_some}
use Rattle.graph_unification.specs.Leading.{Least}
use Rattle.graph_unification.proofs.LeastGraphs.{slot_here}
use Rattle.graph_unification.specs.Applying.{Applies}
use Rattle.graph_unification.proofs.Changing.{maps_on}
use Rattle.graph_unification.specs.Going.{AllNamed, GoesOn}

-- to each node a node came, to which a name leads: so the name leads to it
named_on : (structs : List StructDef) (old new : Graph) (map : GraphMap) → Maps structs old new map → IsOnto old new map → AllNamed old → AllNamed new
named_on structs old new map maps onto all number node e =
    let from = onto number node e in
    let its = all from.0 from.1 from.2 in
    let same = ap (λ n. (map n).node) its.3 ∙ from.3 in
    (its.0, target_in map its.1 node, maps.names its.0 its.1 its.2 ∙ mapped_there new map its.1 node (ap (node_at new) same ∙ e), same)

-- a node is one that was there, or that of a name
some_named : (first : Name → Option Node) (old new : Graph) → AddsSome first old new → AllNamed old → AllNamed new
some_named first old new adds all number node e = by (old_or_named first old new adds number node e)
  where
    by : (node_at old number ≡ Some node) ⊎ IsNamed first new number node → (name : Name) × (target : Target) × (new.targets name ≡ Some target) × (target.node ≡ number)
    by (inl was) = let its = all number node was in (its.0, its.1, targets_kept first old new adds its.0 its.1 its.2, its.3)
    by (inr named) = (named.name, record { node = number; shift = 0 }, named.target, refl)

module _ (structs : List StructDef) (made : AreMade structs) where
  -- a graph goes on to itself
  pub goes_same : (graph : Graph) → IsSound structs graph → GoesOn structs graph graph
  goes_same graph sound = record { map = unmoved; maps = itself structs made graph sound; named = λ all. all }

  -- and on
  pub goes_then : (one two three : Graph) → IsSound structs one → GoesOn structs one two → GoesOn structs two three → GoesOn structs one three
  goes_then one two three sound first then = record {
    map = via three then.map first.map;
    maps = maps_on structs made one two three first.map then.map sound first.maps then.maps;
    named = λ all. then.named (first.named all);
  }

  -- ---- changes

  pub applies_goes : (changed : Bool) (old new : Graph) (wanted : Graph → Type 0) → Applies structs changed old new wanted → GoesOn structs old new
  applies_goes changed old new wanted its = record { map = its.map; maps = its.maps; named = named_on structs old new its.map its.maps its.onto }

  pub least_goes : (old new : Graph) (asked : Asked) → Least structs old new asked → GoesOn structs old new
  least_goes old new asked its = record { map = its.map; maps = its.maps; named = named_on structs old new its.map its.maps its.onto }

  pub with_goes : (old new : Graph) (asked : Asked) → LeastWith structs old new asked → GoesOn structs old new
  with_goes old new asked its = record { map = its.map; maps = its.maps; named = named_on structs old new its.map its.maps its.onto }

  -- ---- names

  kept_maps : (old new : Graph) → IsSound structs old → ((number : ℕ) (its : Node) → node_at old number ≡ Some its → node_at new number ≡ Some its)
      → ((name : Name) (target : Target) → old.targets name ≡ Some target → new.targets name ≡ Some target) → Maps structs old new unmoved
  kept_maps old new sound nodes targets = record {
    names = λ name target e. targets name target e ∙ sym (there target (sound.names name target e));
    elements = λ number node e. at_from new (unmoved number) (element_kept structs node.element) node (nodes number node e) (kept_itself structs made node.element node.flags node.edges);
    flags = λ number node e. at_from new (unmoved number) (λ image shift. marks_kept node.flags image.flags) node (nodes number node e) (flags_itself node.flags);
    edges = λ number slot node to e has.
        let from : IsSlot structs old (record { node = number; shift = slot }) = record { node = node; is = e; inside = sound.from number slot node to e has } in
        ap (edge_at new) (there (record { node = number; shift = slot }) from)
        ∙ edge_there new (record { node = number; shift = slot }) node (nodes number node e) ∙ has ∙ sym (there to (sound.to number slot node to e has));
  }
    where
      there : (target : Target) → IsSlot structs old target → mapped new unmoved target ≡ Some target
      there target slot = slot_here structs new target (record { node = slot.node; is = nodes target.node slot.node slot.is; inside = slot.inside })

  -- names got nodes of their own
  pub some_goes : (first : Name → Option Node) (old new : Graph) → IsSound structs old → AddsSome first old new → GoesOn structs old new
  some_goes first old new sound adds = record { map = unmoved; maps = kept_maps old new sound (nodes_kept first old new adds) (targets_kept first old new adds); named = some_named first old new adds }

  pub missing_goes : (old new : Graph) (name : Name) (node : Node) → IsSound structs old → AddsMissing old new name node → GoesOn structs old new
  missing_goes old new name node sound adds = some_goes (λ other. Some node) old new sound (missing_some (λ other. Some node) old new name node adds (λ none. refl))

  pub function_goes : (old new : Graph) (owner : Owner) (function : Function) → IsSound structs old → AddsFunction old new owner function → GoesOn structs old new
  function_goes old new owner function sound adds = some_goes (first_node owner function) old new sound adds.adds
