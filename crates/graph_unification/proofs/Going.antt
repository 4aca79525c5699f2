-- Graphs that lead to others.
use Rattle.std.proofs.Common.{◌≡◌, List, refl, ◌∙◌}
use Rattle.c_typed.specs.Layouts.{StructDef}
use Rattle.heap_graph.specs.Graphs.{Name, Graph}
use Rattle.heap_graph.specs.Targets.{has_target}
use Rattle.heap_graph.specs.Merging.{GraphMap, Maps, Asked, LeastWith}
use Rattle.graph_unification.specs.Leading.{Least, Leads}

-- a graph leads to itself
pub leads_itself : (structs : List StructDef) (graph : Graph) (wanted : Graph → Type 0) → Leads structs graph graph wanted
leads_itself structs graph wanted = record { least = λ other into maps its. (into, maps); names = λ name. refl }

pub leads_on : (structs : List StructDef) (one two three : Graph) (wanted : Graph → Type 0) → Leads structs one two wanted → Leads structs two three wanted → Leads structs one three wanted
leads_on structs one two three wanted first then = record {
  least = λ other into maps its.
      let middle = first.least other into maps its in
      then.least other middle.0 middle.1 its;
  names = λ name. then.names name ∙ first.names name;
}

-- less is wanted
pub leads_less : (structs : List StructDef) (old new : Graph) (wanted less : Graph → Type 0) → ((other : Graph) → less other → wanted other) → Leads structs old new wanted → Leads structs old new less
leads_less structs old new wanted less more leads = record { least = λ other into maps its. leads.least other into maps (more other its); names = leads.names }

-- the least graph in which something holds leads to each in which it holds
pub leads_least : (structs : List StructDef) (old new : Graph) (asked : Asked) (wanted : Graph → Type 0) → ((other : Graph) (into : GraphMap) → Maps structs old other into → wanted other → asked other into)
    → ((name : Name) → has_target (new.targets name) ≡ has_target (old.targets name)) → Least structs old new asked → Leads structs old new wanted
leads_least structs old new asked wanted gives names its = record {
  least = λ other into maps is.
      let rest = its.least other into maps (gives other into maps is) in
      (rest.0, rest.1);
  names = names;
}

-- the same, where the graph has no more nodes
pub leads_with : (structs : List StructDef) (old new : Graph) (asked : Asked) (wanted : Graph → Type 0) → ((other : Graph) (into : GraphMap) → Maps structs old other into → wanted other → asked other into)
    → ((name : Name) → has_target (new.targets name) ≡ has_target (old.targets name)) → LeastWith structs old new asked → Leads structs old new wanted
leads_with structs old new asked wanted gives names its =
    leads_least structs old new asked wanted gives names (record { map = its.map; maps = its.maps; onto = its.onto; holds = its.holds; least = its.least })
