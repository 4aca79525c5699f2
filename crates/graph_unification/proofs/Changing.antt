-- Changes of a graph one after the other.
use Rattle.std.proofs.Common.{◌≡◌, Bool, true, false, List, refl, subst, sym, ◌∙◌}
use Rattle.std.specs.Prelude.{◌||◌}
use Rattle.std.proofs.lemmas.Bool.{true≢false}
use Rattle.c_typed.specs.Layouts.{StructDef}
use Rattle.heap_graph.specs.Structures.{AreMade}
use Rattle.heap_graph.specs.Graphs.{Name, Graph}
use Rattle.heap_graph.specs.Targets.{has_target}
use Rattle.heap_graph.specs.Merging.{IsSound, GraphMap, Maps, Asked}
use Rattle.heap_graph.specs.Steps.{unmoved, via}
use Rattle.heap_graph.proofs.MapsCompose.{keeps_nodes, edge_through, onto_then}
use Rattle.heap_graph.proofs.StepsCompose.{itself, nodes_of}
use Rattle.graph_unification.specs.Leading.{Least}
use Rattle.graph_unification.proofs.Going.{leads_itself, leads_on, leads_less, leads_least}
use Rattle.graph_unification.specs.Applying.{Applies}

-- maps one after the other
pub maps_on : (structs : List StructDef) → AreMade structs → (one two three : Graph) (map rest : GraphMap) → IsSound structs one → Maps structs one two map → Maps structs two three rest
    → Maps structs one three (via three rest map)
maps_on structs made one two three map rest sound first then =
    let nodes = nodes_of structs one two map first in
    let kept = keeps_nodes structs made one two three map rest sound nodes then in
    record {
      names = kept.names;
      elements = kept.elements;
      flags = kept.flags;
      edges = λ number slot node to e has. edge_through structs made one two three map rest sound nodes then number slot node to e has (first.edges number slot node to e has);
    }

-- nothing is done where what is wanted holds
pub nothing : (structs : List StructDef) → AreMade structs → (graph : Graph) → IsSound structs graph → (wanted : Graph → Type 0) → wanted graph → Applies structs false graph graph wanted
nothing structs made graph sound wanted holds = record { leads = leads_itself structs graph wanted; map = unmoved; maps = itself structs made graph sound; onto = λ number node e. (number, node, e, refl); done = λ e. (refl, holds) }

pub of_least : (structs : List StructDef) (changed : Bool) (old new : Graph) (asked : Asked) (wanted : Graph → Type 0) → ((other : Graph) (into : GraphMap) → Maps structs old other into → wanted other → asked other into)
    → ((name : Name) → has_target (new.targets name) ≡ has_target (old.targets name)) → Least structs old new asked → (changed ≡ false → (new ≡ old) × wanted new) → Applies structs changed old new wanted
of_least structs changed old new asked wanted gives names least done = record { leads = leads_least structs old new asked wanted gives names least; map = least.map; maps = least.maps; onto = least.onto; done = done }

either_not : (a b : Bool) → (a || b) ≡ false → (a ≡ false) × (b ≡ false)
either_not false b e = (refl, e)
either_not true b e = absurd (true≢false e)

-- one change after the other
pub both : (structs : List StructDef) → AreMade structs → (a b : Bool) (one two three : Graph) → IsSound structs one → (first then : Graph → Type 0) → Applies structs a one two first → Applies structs b two three then
    → Applies structs (a || b) one three (λ graph. first graph × then graph)
both structs made a b one two three sound first then x y = record {
  leads = leads_on structs one two three (λ graph. first graph × then graph) (leads_less structs one two first (λ graph. first graph × then graph) (λ other its. its.0) x.leads)
      (leads_less structs two three then (λ graph. first graph × then graph) (λ other its. its.1) y.leads);
  map = via three y.map x.map;
  maps = maps_on structs made one two three x.map y.map sound x.maps y.maps;
  onto = onto_then one two three x.map y.map x.onto y.onto;
  done = λ e.
      let none = either_not a b e in
      let before = x.done none.0 in
      let after = y.done none.1 in
      (after.0 ∙ before.0, (subst first (sym after.0) before.1, after.1));
}

-- where another thing is wanted, of which what is done follows
pub for_other : (structs : List StructDef) (changed : Bool) (old new : Graph) (wanted other_wanted : Graph → Type 0)
    → ((other : Graph) (into : GraphMap) → Maps structs old other into → other_wanted other → wanted other) → (new ≡ old → wanted new → other_wanted new)
    → Applies structs changed old new wanted → Applies structs changed old new other_wanted
for_other structs changed old new wanted other_wanted gives holds its = record {
  leads = record { least = λ other into maps is. its.leads.least other into maps (gives other into maps is); names = its.leads.names };
  map = its.map;
  maps = its.maps;
  onto = its.onto;
  done = λ e. let end = its.done e in (end.0, holds end.0 end.1);
}
