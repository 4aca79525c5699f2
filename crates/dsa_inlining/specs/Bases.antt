-- The groups of the functions that a group calls, whose variables outside functions and literals its graph has joined.
use Rattle.std.specs.Prelude.{◌≡◌, ℕ, List, slice_get, Contains, Some}
use Rattle.heap_graph.specs.Graphs.{Graph}
use Rattle.heap_graph.specs.Frozen.{bare}
use Rattle.heap_graph.specs.declared.frozen.FrozenGraph.{FrozenGraph}
use Rattle.dsa_inlining.specs.Aligned.{AreAligned}
use Rattle.dsa_inlining.specs.Before.{GraphsBefore}

-- a group before, whose variables and literals lie in the graph as far apart as in its own
pub record IsAligned (before : GraphsBefore) (graph : Graph) (base : ℕ) : Type 0 where
  pub frozen : FrozenGraph
  pub is : slice_get before.graphs base ≡ Some frozen
  pub aligned : AreAligned (bare before.tac.types frozen) graph

-- each of these is
abbrev pub AreBases : GraphsBefore → List ℕ → Graph → Type 0
AreBases before bases graph = (base : ℕ) → Contains bases base → IsAligned before graph base
