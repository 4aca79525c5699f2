-- The graphs of a program that were made group after group are mapped to those of each other closed family.
use Rattle.std.proofs.Common.{◌≡◌, ℕ, zero, suc, ◌<◌, ◌≤◌, ◌⊎◌, inl, inr, true, List, [], ◌∷◌, length, Some, None, refl, sym, ap, ◌∙◌, arith}
use Rattle.std.specs.Prelude.{slice_get}
use Rattle.std.proofs.lemmas.Bool.{cases_lt}
use Rattle.std.proofs.lemmas.List.{length-map}
use Rattle.std.proofs.lemmas.Option.{none-some, slice_get_past}
use Rattle.c_typed.specs.Table.{Interned}
use Rattle.tac_ir.specs.States.{Owner, InStart, InFunction}
use Rattle.tac_ir.specs.Views.{tac_of, function_in}
use Rattle.heap_graph.specs.Graphs.{Target, Node, Name, Graph, ProgramGraphs, edge_in, node_at}
use Rattle.heap_graph.specs.Targets.{at_target, edge_at, shifted, element_kept}
use Rattle.heap_graph.specs.Merging.{GraphMap}
use Rattle.heap_graph.specs.Least.{NodeMap, mapped, embedded, IsMap}
use Rattle.heap_graph.specs.Closed.{Family, graph_of, group_of, no_graph, or_no_graph}
use Rattle.heap_graph.specs.declared.frozen.FrozenGraph.{FrozenGraph}
use Rattle.heap_graph.specs.declared.program.FunctionGraph.{FunctionGraph}
use Rattle.heap_graph.specs.declared.program.ProgramGraphs as memory_graphs
use Rattle.heap_graph.specs.Programs.{group_graphs, function_embedding}
use Rattle.call_graph.specs.GroupViews.{groups_of}
use Rattle.dsa_inlining.specs.Before.{GraphsBefore}
use Rattle.heap_graph.specs.Saturated.{saturated}
use Rattle.heap_graph.proofs.SaturatedClosed.{saturated_closed}
use Rattle.heap_graph.proofs.SaturatedMaps.{map_to_saturated}
use Rattle.heap_graph.proofs.FullGraphs.{family_full}
use Rattle.dsa_bottom_up.specs.Assembled.{IsAssembled}
use Rattle.dsa_bottom_up.specs.AssembledGroups.Making.{IsGrouped, family_at, BeginsWith, IsMaking}
use Rattle.dsa_bottom_up.proofs.Ending.{all_grouped}
use Rattle.dsa_bottom_up.proofs.Starting.{HasStart}
use Rattle.dsa_bottom_up.specs.Mapping.{GroupMaps, MapsOwner, MapsBelow}
use Rattle.dsa_bottom_up.specs.LeastGraphs.Making.{other_at, IsFullFamily, AreLeast}
use Rattle.dsa_bottom_up.specs.Smallest.{IsSmallest}
use Rattle.dsa_bottom_up.proofs.Below.{closed_below}
use Rattle.dsa_bottom_up.proofs.FullFlags.{full_keeps}
use Rattle.dsa_bottom_up.proofs.StartGraph.{IsStartBegun, start_mapped}

-- ---- functions that are in no group

pub past_graphs : (table : Interned) (groups : List (List ℕ)) (functions : List FunctionGraph) (count : ℕ) (graphs : List FrozenGraph) (at : ℕ) → length graphs ≤ at → slice_get (group_graphs table groups functions count graphs) at ≡ None
past_graphs table groups functions count [] at past = refl
past_graphs table groups functions count (graph ∷ graphs) zero past = absurd (omega (arith, past))
past_graphs table groups functions count (graph ∷ graphs) (suc at) past = past_graphs table groups functions (suc count) graphs at (omega (arith, past))

-- ---- one map of all groups

abbrev pub node_map : Family → GroupMaps → GraphMap → NodeMap
node_map family maps start InStart = start
node_map family maps start (InFunction function) = maps (group_of family function)

module _ (before : GraphsBefore) (grouped : IsGrouped before.tac before.groups) (all : memory_graphs.ProgramGraphs) (begins : BeginsWith before (length (groups_of before.groups)) all)
    (size : length all.graphs.items ≡ length (groups_of before.groups)) (graphs : ProgramGraphs) (maps : GroupMaps) (below : MapsBelow (family_at before all) (other_at before graphs) (length (groups_of before.groups)) maps)
    (start : GraphMap) (its : MapsOwner (family_at before all) (other_at before graphs) (length (groups_of before.groups)) maps InStart start) where
  abbrev family : Family
  family = family_at before all

  abbrev other : Family
  other = other_at before graphs

  abbrev map : NodeMap
  map = node_map family maps start

  abbrev count : ℕ
  count = length (groups_of before.groups)

  Known : Owner → Type 0
  Known owner = MapsOwner family other count maps owner (map owner)

  -- a function that is in no group has no graph
  no_graph_of : (function : ℕ) → count ≤ group_of family function → graph_of family (InFunction function) ≡ no_graph
  no_graph_of function past =
      ap or_no_graph (past_graphs before.tac.types (groups_of before.groups) all.functions.items 0 all.graphs.items (group_of family function) (omega (arith, past, size)))

  -- nor has it embeddings
  no_embedding : (function site called number : ℕ) → count ≤ group_of family function → family.graphs.embedding (record { owner = InFunction function; site = site; called = called }) number ≡ None
  no_embedding function site called number past =
      ap (λ f. function_embedding f site called number) (slice_get_past all.functions.items function (by (cases_lt function (length (tac_of before.tac).functions))))
    where
      by : (function < length (tac_of before.tac).functions) ⊎ (length (tac_of before.tac).functions ≤ function) → length all.functions.items ≤ function
      by (inl within) = let less = all_grouped before all grouped function within in absurd (omega (arith, less, past))
      by (inr behind) =
          let many : length (tac_of before.tac).functions ≡ length before.tac.functions.items = length-map before.tac.functions.items (function_in before.tac.types) in
          let each = begins.functions in
          omega (arith, behind, many, each)

  known : (function : ℕ) → (group_of family function < count) ⊎ (count ≤ group_of family function)
  known function = cases_lt (group_of family function) count

  no_node : (function number : ℕ) (node : Node) → count ≤ group_of family function → node_at (graph_of family (InFunction function)) number ≡ Some node → ⊥
  no_node function number node past is = none-some node (sym (ap (λ (g : Graph). node_at g number) (no_graph_of function past)) ∙ is)

  names : (owner : Owner) (name : Name) (target : Target) → (graph_of family owner).targets name ≡ Some target → (graph_of other owner).targets name ≡ mapped other map owner target
  names InStart name target is = its.shape.names name target is
  names (InFunction function) name target is = by (known function)
    where
      by : (group_of family function < count) ⊎ (count ≤ group_of family function) → (graph_of other (InFunction function)).targets name ≡ mapped other map (InFunction function) target
      by (inl less) = (below function less).shape.names name target is
      by (inr past) = absurd (none-some target (sym (ap (λ (g : Graph). g.targets name) (no_graph_of function past)) ∙ is))

  elements : (owner : Owner) (number : ℕ) (node : Node) → node_at (graph_of family owner) number ≡ Some node → at_target (graph_of other owner) (Some (map owner number)) (element_kept other.tac.structs node.element) ≡ true
  elements InStart number node is = its.shape.elements number node is
  elements (InFunction function) number node is = by (known function)
    where
      by : (group_of family function < count) ⊎ (count ≤ group_of family function)
          → at_target (graph_of other (InFunction function)) (Some (map (InFunction function) number)) (element_kept other.tac.structs node.element) ≡ true
      by (inl less) = (below function less).shape.elements number node is
      by (inr past) = absurd (no_node function number node past is)

  edges : (owner : Owner) (number slot : ℕ) (node : Node) (to : Target) → node_at (graph_of family owner) number ≡ Some node → edge_in node.edges slot ≡ Some to
      → edge_at (graph_of other owner) (shifted (graph_of other owner) slot (Some (map owner number))) ≡ mapped other map owner to
  edges InStart number slot node to is edge = its.shape.edges number slot node to is edge
  edges (InFunction function) number slot node to is edge = by (known function)
    where
      by : (group_of family function < count) ⊎ (count ≤ group_of family function)
          → edge_at (graph_of other (InFunction function)) (shifted (graph_of other (InFunction function)) slot (Some (map (InFunction function) number))) ≡ mapped other map (InFunction function) to
      by (inl less) = (below function less).shape.edges number slot node to is edge
      by (inr past) = absurd (no_node function number node past is)

  images : (owner : Owner) (site called number : ℕ) (target : Target) → family.graphs.embedding (record { owner = owner; site = site; called = called }) number ≡ Some target
      → embedded other (record { owner = owner; site = site; called = called }) (Some (map (InFunction called) number)) ≡ mapped other map owner target
  images InStart site called number target is = (its.embeddings site called number target is).1
  images (InFunction function) site called number target is = by (known function)
    where
      by : (group_of family function < count) ⊎ (count ≤ group_of family function)
          → embedded other (record { owner = InFunction function; site = site; called = called }) (Some (map (InFunction called) number)) ≡ mapped other map (InFunction function) target
      by (inl less) = ((below function less).embeddings site called number target is).1
      by (inr past) = absurd (none-some target (sym (no_embedding function site called number past) ∙ is))

  pub all_mapped : IsMap (family_at before all) (other_at before graphs) (node_map (family_at before all) maps start)
  all_mapped = record { names = names; elements = elements; edges = edges; embeddings = λ at number target is. images at.owner at.site at.called number target is }

-- ---- the program

pub program_smallest : (before : GraphsBefore) → (tac_of before.tac).start.parameters ≡ 0 → (begun : Graph) (graph : FrozenGraph) (own : FunctionGraph) (all : memory_graphs.ProgramGraphs) → IsGrouped before.tac before.groups
    → IsMaking before (length (groups_of before.groups)) → AreLeast before (length (groups_of before.groups)) → BeginsWith before (length (groups_of before.groups)) all
    → length all.graphs.items ≡ length (groups_of before.groups) → HasStart graph own all → IsAssembled before None (None ∷ []) begun graph (own ∷ []) → IsStartBegun before begun → IsSmallest (family_at before all)
program_smallest before start begun graph own all grouped making least begins size has assembled begins_so graphs closed =
    let other = other_at before graphs in
    let whole = saturated other in
    let full : IsFullFamily (other_at before whole.graphs) = family_full other in
    let maps = least all begins whole.graphs (closed_below whole (saturated_closed other closed) (length (groups_of before.groups))) full in
    let last = start_mapped before start grouped making begun graph own assembled begins_so all begins has whole.graphs (saturated_closed other closed) maps.0 maps.1
    (full_keeps (family_at before all) (other_at before whole.graphs) (length (groups_of before.groups)) maps.0 full maps.1) in
    let map = node_map (family_at before all) maps.0 last.0 in
    (map, map_to_saturated (family_at before all) other map (all_mapped before grouped all begins size whole.graphs maps.0 maps.1 last.0 last.1))
