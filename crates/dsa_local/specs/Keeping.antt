-- A graph goes on, and what is told of names is told still.
use Rattle.std.specs.Prelude.{◌≡◌, ℕ, Bool, true, false, List, slice_get, Some}
use Rattle.c_typed.specs.Types.{literal_type}
use Rattle.c_typed.specs.Typed.{GlobalDef, LiteralDef}
use Rattle.tac_ir.specs.Code.{Tac}
use Rattle.tac_ir.specs.States.{Owner}
use Rattle.heap_graph.specs.Graphs.{Name, OfGlobal, OfLiteral, Graph}
use Rattle.heap_graph.specs.Merging.{GraphMap, Maps}
use Rattle.heap_graph.specs.Targets.{has_target}
use Rattle.graph_unification.specs.Adding.{NameFits}
use Rattle.graph_unification.specs.GraphNames.First.{object_node, static_flags}
use Rattle.graph_unification.specs.Going.{GoesOn}
use Rattle.dsa_local.specs.Told.{NamesTold}
use Rattle.dsa_local.specs.FirstTold.{FirstTold}

-- a variable outside functions or a literal
abbrev pub is_static : Name → Bool
is_static (OfGlobal number) = true
is_static (OfLiteral number) = true
is_static name = false

-- it holds in each graph in which first values are told
abbrev pub IsAsked : Tac → (Graph → Type 0) → Type 0
IsAsked tac wanted = (graph : Graph) → FirstTold tac graph → wanted graph

-- Another graph in which first values are told. The variables outside functions and the literals that they name, such as those of which a graph
-- has targets in which first values are told, keep what is told of their nodes.
pub record FirstFits (tac : Tac) (other : Graph) : Type 0 where
  pub told : FirstTold tac other
  pub own : Graph
  pub named : FirstTold tac own
  pub globals : (number : ℕ) (global : GlobalDef) → slice_get tac.globals number ≡ Some global → has_target (own.targets (OfGlobal number)) ≡ true
      → NameFits tac.structs other (OfGlobal number) (object_node global.c_type (static_flags global.c_type))
  pub literals : (number : ℕ) (literal : LiteralDef) → slice_get tac.literals number ≡ Some literal → has_target (own.targets (OfLiteral number)) ≡ true
      → NameFits tac.structs other (OfLiteral number) (object_node (literal_type literal.bytes) (static_flags (literal_type literal.bytes)))

-- The graph is on the way to each in which first values are told: where the old one can be mapped to such a graph, so can the new one. Only
-- variables outside functions and literals may get targets.
pub record Keeps (tac : Tac) (old new : Graph) : Type 0 where
  pub goes : GoesOn tac.structs old new
  pub names : (owners : List Owner) → NamesTold tac owners old → NamesTold tac owners new
  pub leads : (other : Graph) (into : GraphMap) → Maps tac.structs old other into → FirstFits tac other → (rest : GraphMap) × Maps tac.structs new other rest
  pub statics : (name : Name) → is_static name ≡ false → has_target (new.targets name) ≡ has_target (old.targets name)
