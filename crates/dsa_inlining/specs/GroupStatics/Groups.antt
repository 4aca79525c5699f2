-- What the graphs of groups tell of variables outside functions and literals, and of which groups they have it.
use Rattle.std.specs.Prelude.{◌≡◌, ℕ, ◌<◌, ◌⊎◌, true, List, slice_get, Contains, Some}
use Rattle.c_typed.specs.Table.{Interned}
use Rattle.heap_graph.specs.Graphs.{Name, OfGlobal, OfLiteral}
use Rattle.heap_graph.specs.Targets.{has_target}
use Rattle.heap_graph.specs.Frozen.{bare}
use Rattle.heap_graph.specs.declared.frozen.FrozenGraph.{FrozenGraph}
use Rattle.dsa_inlining.specs.declared.told_statics.GroupStatics.{GroupStatics}
use Rattle.dsa_inlining.specs.GroupStatics.Listed.{Lists, Represents}
use Rattle.dsa_inlining.specs.Aligned.{AreAligned}

module _ (table : Interned) (graphs : List FrozenGraph) where
  -- one of the bases has the name
  pub record IsOfBase (its : GroupStatics) (name : Name) : Type 0 where
    pub base : ℕ
    pub among : Contains its.bases.items base
    pub graph : FrozenGraph
    pub is : slice_get graphs base ≡ Some graph
    pub told : has_target ((bare table graph).targets name) ≡ true

  -- the graph of a base, whose variables and literals lie in the group's as far apart as there
  pub record IsBase (group : FrozenGraph) (base : ℕ) : Type 0 where
    pub graph : FrozenGraph
    pub is : slice_get graphs base ≡ Some graph
    pub aligned : AreAligned (bare table graph) (bare table group)

  -- The group's graph has its variables and literals in certain nodes. The bases are groups before. Each variable and literal of which the graph
  -- tells is listed, or one of which that of a base tells; those of bases lie there together; and the representatives stand for all.
  pub record IsTold (number : ℕ) (graph : FrozenGraph) (its : GroupStatics) : Type 0 where
    pub self : AreAligned (bare table graph) (bare table graph)
    pub below : (base : ℕ) → Contains its.bases.items base → base < number
    pub bases : (base : ℕ) → Contains its.bases.items base → IsBase graph base
    pub own : (name : Name) → Lists its.own name → has_target ((bare table graph).targets name) ≡ true
    pub globals : (place : ℕ) → has_target ((bare table graph).targets (OfGlobal place)) ≡ true → Lists its.own (OfGlobal place) ⊎ IsOfBase its (OfGlobal place)
    pub literals : (place : ℕ) → has_target ((bare table graph).targets (OfLiteral place)) ≡ true → Lists its.own (OfLiteral place) ⊎ IsOfBase its (OfLiteral place)
    pub represents : Represents its.representatives (bare table graph)

  -- what stands at a group's number
  pub record HasStatics (all : List GroupStatics) (number : ℕ) (graph : FrozenGraph) : Type 0 where
    pub its : GroupStatics
    pub is : slice_get all number ≡ Some its
    pub told : IsTold number graph its

  -- so it is of each group that has a graph
  abbrev pub HaveStatics : List GroupStatics → Type 0
  HaveStatics all = (number : ℕ) (graph : FrozenGraph) → slice_get graphs number ≡ Some graph → HasStatics all number graph
