-- What is done to a graph for a first value.
use Rattle.std.specs.Prelude.{◌≡◌, ℕ, ◌==◌, true, ◌||◌, not, List}
use Rattle.std.specs.List.{list_any}
use Rattle.c_typed.specs.declared.definition.Static as memory_static
use Rattle.c_typed.specs.declared.part.Part.{Part}
use Rattle.c_typed.specs.DefinitionViews.{static_of}
use Rattle.c_typed.specs.Values as first
use Rattle.tac_ir.specs.Code.{Base, AtGlobal, Tac}
use Rattle.tac_ir.specs.States.{InStart}
use Rattle.heap_graph.specs.Graphs.{OfGlobal, Graph}
use Rattle.heap_graph.specs.Targets.{has_target, at_target, edge_at, implies}
use Rattle.heap_graph.specs.Points.{base_part, path_part}
use Rattle.heap_graph.specs.Closed.{constant_closed, held_closed, all_held_closed}
use Rattle.graph_unification.specs.GraphPremises.First.{path_to}
use Rattle.graph_unification.specs.Named.{HasGlobal}
use Rattle.dsa_local.specs.FirstTold.{alone}
use Rattle.dsa_local.specs.Moved.{moves}

-- the element with an index in a row to which steps lead from the object that a constant names
abbrev pub place_in : memory_static.Static → List Part → ℕ → first.FirstPlace
place_in root steps index = record { root = static_of root; steps = steps; index = index }

-- a variable has a target whose node is written
abbrev pub HasWritten : ℕ → Graph → Type 0
HasWritten number graph = (has_target (graph.targets (OfGlobal number)) ≡ true) × (at_target graph (graph.targets (OfGlobal number)) (λ node shift. node.flags.modified) ≡ true)

-- a variable has a node of its type that is written
pub record IsWritten (tac : Tac) (graph : Graph) (number : ℕ) : Type 0 where
  pub named : HasGlobal tac graph number
  pub modified : at_target graph (graph.targets (OfGlobal number)) (λ node shift. node.flags.modified) ≡ true

-- the node of an object has A where an element of an array other than the first is named
abbrev pub IsArrayIfMoved : Tac → Graph → Base → List Part → ℕ → Type 0
IsArrayIfMoved tac graph base steps index = at_target graph (base_part tac graph InStart base).target (λ node shift. implies (list_any moves steps || not (index == 0)) node.flags.array) ≡ true

-- a part of a variable has an edge to a part of an object
abbrev pub LeadsTo : Tac → Graph → ℕ → List Part → Base → List Part → Type 0
LeadsTo tac graph number leaf base steps = edge_at graph (path_part tac graph InStart (path_to (AtGlobal number) leaf)).target ≡ (path_part tac graph InStart (path_to base steps)).target

-- a part of a variable holds a pointer to a part of an object
pub record PointsTo (tac : Tac) (graph : Graph) (number : ℕ) (leaf : List Part) (base : Base) (steps : List Part) (index : ℕ) : Type 0 where
  pub there : has_target (base_part tac graph InStart base).target ≡ true
  pub edge : LeadsTo tac graph number leaf base steps
  pub array : IsArrayIfMoved tac graph base steps index

-- the edge of a part of a variable is that of its first value
abbrev pub IsValueStored : Tac → Graph → ℕ → List Part → first.FirstScalar → Type 0
IsValueStored tac graph number leaf value = constant_closed (alone tac graph) (edge_at graph (path_part tac graph InStart (path_to (AtGlobal number) leaf)).target) value ≡ true

-- a first value is stored into a variable
abbrev pub IsStored : Tac → Graph → ℕ → first.Held → Type 0
IsStored tac graph number held = held_closed (alone tac graph) (base_part tac graph InStart (AtGlobal number)) held ≡ true

abbrev pub AreStored : Tac → Graph → ℕ → List first.Held → Type 0
AreStored tac graph number helds = all_held_closed (alone tac graph) (base_part tac graph InStart (AtGlobal number)) helds ≡ true
