-- What steps make of a graph.
use Rattle.std.specs.Prelude.{◌≡◌, ℕ, List, Some}
use Rattle.c_typed.specs.Layouts.{StructDef}
use Rattle.heap_graph.specs.Graphs.{Node, Name, Graph, node_at}
use Rattle.heap_graph.specs.Targets.{has_target, shifted}
use Rattle.heap_graph.specs.Merging.{GraphMap, mapped, Maps, IsOnto, Asked}

-- the least graph in which what is asked holds
pub record Least (structs : List StructDef) (old new : Graph) (asked : Asked) : Type 0 where
  pub map : GraphMap
  pub maps : Maps structs old new map
  pub onto : IsOnto old new map
  pub holds : asked new map
  pub least : (other : Graph) (into : GraphMap) → Maps structs old other into → asked other into
      → (rest : GraphMap) × Maps structs new other rest × ((number : ℕ) (node : Node) → node_at old number ≡ Some node → mapped other rest (map number) ≡ shifted other 0 (Some (into number)))

-- One graph leads to another on the way to each that is wanted: where the one can be mapped to such a graph, so can the other. The same names
-- have targets.
pub record Leads (structs : List StructDef) (old new : Graph) (wanted : Graph → Type 0) : Type 0 where
  pub least : (other : Graph) (into : GraphMap) → Maps structs old other into → wanted other → (rest : GraphMap) × Maps structs new other rest
  pub names : (name : Name) → has_target (new.targets name) ≡ has_target (old.targets name)
