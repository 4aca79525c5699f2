-- What is told of the functions of a group.
use Rattle.std.specs.Prelude.{◌≡◌, ℕ, List, map, slice_get, Contains, Some}
use Rattle.heap_graph.specs.Graphs.{Graph}
use Rattle.heap_graph.specs.declared.frozen.FrozenGraph.{FrozenGraph}
use Rattle.heap_graph.specs.declared.frozen.FunctionNames.{FunctionNames}
use Rattle.heap_graph.specs.declared.program.FunctionGraph.{FunctionGraph}
use Rattle.dsa_inlining.specs.GroupStatics.Groups.{IsBase}
use Rattle.dsa_inlining.specs.declared.before.Crossings.{Crossings}
use Rattle.dsa_inlining.specs.Before.{GraphsBefore}
use Rattle.dsa_inlining.specs.Crossings.{TellsCrossings}

-- the functions have these names, and of each call it is told where the copies are
pub record TellEach (graph : Graph) (names : List FunctionNames) (crossings : List Crossings) (functions : List FunctionGraph) : Type 0 where
  pub names' : map (λ (function : FunctionGraph). function.names) functions ≡ names
  pub embeddings : (place : ℕ) (own : Crossings) (function : FunctionGraph) → slice_get crossings place ≡ Some own → slice_get functions place ≡ Some function → TellsCrossings graph own function.embeddings

-- the variables and literals of each of these groups lie in the graph as far apart as in its own
abbrev pub HasBases : GraphsBefore → List ℕ → FrozenGraph → Type 0
HasBases before bases graph = (base : ℕ) → Contains bases base → IsBase before.tac.types before.graphs graph base
