-- The variables outside functions and the literals of which a group's graph tells, and those of its bases don't.
use Rattle.std.specs.Prelude.{◌≡◌, ◌⊎◌, ℕ, true, List, slice_get, Contains, Some}
use Rattle.c_typed.specs.Table.{Interned}
use Rattle.indexmap.specs.IndexMap.{IndexMap}
use Rattle.heap_graph.specs.declared.graph.Target as memory_target
use Rattle.heap_graph.specs.Graphs.{Name, OfGlobal, OfLiteral}
use Rattle.heap_graph.specs.Targets.{has_target}
use Rattle.heap_graph.specs.Frozen.{static_in, bare}
use Rattle.heap_graph.specs.declared.frozen.FrozenGraph.{FrozenGraph}
use Rattle.dsa_inlining.specs.declared.own.StaticSets.{StaticSets}
use Rattle.dsa_inlining.specs.declared.told_statics.GroupStatics.{GroupStatics}
use Rattle.dsa_inlining.specs.declared.told_statics.Statics.{Statics}
use Rattle.dsa_inlining.specs.Choices.{AreAmong}
use Rattle.dsa_inlining.specs.GroupStatics.Listed.{Lists}

-- nothing is new in a set but these
abbrev pub AddsNumbers : List ℕ → List ℕ → List ℕ → Type 0
AddsNumbers old new numbers = (number : ℕ) → Contains new number → Contains old number ⊎ Contains numbers number

-- a group lists the name as its own
pub record IsOwnIn (all : List GroupStatics) (group : ℕ) (name : Name) : Type 0 where
  pub its : GroupStatics
  pub is : slice_get all group ≡ Some its
  pub lists : Lists its.own name

-- one of the groups does
pub record IsOwnAmong (all : List GroupStatics) (groups : List ℕ) (name : Name) : Type 0 where
  pub group : ℕ
  pub among : Contains groups group
  pub own : IsOwnIn all group name

-- nothing is new in the sets but what a group lists as its own
pub record AddsOwn (all : List GroupStatics) (group : ℕ) (old new : StaticSets) : Type 0 where
  pub globals : (number : ℕ) → Contains new.globals.keys number → Contains old.globals.keys number ⊎ IsOwnIn all group (OfGlobal number)
  pub literals : (number : ℕ) → Contains new.literals.keys number → Contains old.literals.keys number ⊎ IsOwnIn all group (OfLiteral number)

-- what is in the sets one of the groups lists as its own
pub record AreOwnAmong (all : List GroupStatics) (groups : List ℕ) (sets : StaticSets) : Type 0 where
  pub globals : (number : ℕ) → Contains sets.globals.keys number → IsOwnAmong all groups (OfGlobal number)
  pub literals : (number : ℕ) → Contains sets.literals.keys number → IsOwnAmong all groups (OfLiteral number)

-- nothing is new in the sets but what one of the groups lists as its own
abbrev pub AddsOwnAmong : List GroupStatics → List ℕ → StaticSets → StaticSets → Type 0
AddsOwnAmong all groups old new = (within : List ℕ) → AreAmong groups within → AreOwnAmong all within old → AreOwnAmong all within new

-- these have targets; the others that do are told
pub record AreOthers {S : Type 0} (targets : IndexMap ℕ memory_target.Target S) (told numbers : List ℕ) : Type 0 where
  pub listed : (number : ℕ) → Contains numbers number → has_target (static_in targets number) ≡ true
  pub all : (number : ℕ) → has_target (static_in targets number) ≡ true → Contains numbers number ⊎ Contains told number

module _ (table : Interned) (graphs : List FrozenGraph) where
  -- the graph of one of the bases tells of the name
  pub record IsOfBases (bases : List ℕ) (name : Name) : Type 0 where
    pub base : ℕ
    pub among : Contains bases base
    pub graph : FrozenGraph
    pub is : slice_get graphs base ≡ Some graph
    pub told : has_target ((bare table graph).targets name) ≡ true

  -- of those that are listed the group's graph tells; of the others of which it does that of a base tells
  pub record AreOwn (graph : FrozenGraph) (bases : List ℕ) (own : Statics) : Type 0 where
    pub own_told : (name : Name) → Lists own name → has_target ((bare table graph).targets name) ≡ true
    pub globals : (place : ℕ) → has_target ((bare table graph).targets (OfGlobal place)) ≡ true → Lists own (OfGlobal place) ⊎ IsOfBases bases (OfGlobal place)
    pub literals : (place : ℕ) → has_target ((bare table graph).targets (OfLiteral place)) ≡ true → Lists own (OfLiteral place) ⊎ IsOfBases bases (OfLiteral place)
