-- The groups to which bases lead, and their graphs.
use Rattle.std.proofs.Common.{◌≡◌, ℕ, true, List, Option, Some, None, refl, sym, ap, subst, ◌∙◌}
use Rattle.std.specs.Prelude.{slice_get}
use Rattle.std.proofs.lemmas.Bool.{false≢true}
use Rattle.std.proofs.lemmas.Option.{same_Some}
use Rattle.c_typed.specs.Table.{Interned}
use Rattle.heap_graph.specs.Graphs.{Target, Name, OfRegister, OfResult, OfObject, OfGlobal, OfLiteral, OfCopy, Graph}
use Rattle.heap_graph.specs.Targets.{has_target}
use Rattle.heap_graph.specs.Frozen.{bare}
use Rattle.heap_graph.specs.declared.frozen.FrozenGraph.{FrozenGraph}
use Rattle.dsa_inlining.specs.declared.told_statics.GroupStatics.{GroupStatics}
use Rattle.dsa_inlining.specs.declared.told_statics.Statics.{Statics}
use Rattle.dsa_inlining.specs.Aligned.{AreAligned}
use Rattle.dsa_inlining.specs.GroupStatics.Groups.{IsTold, HaveStatics}
use Rattle.dsa_inlining.specs.GroupStatics.Listed.{Lists}
use Rattle.dsa_inlining.specs.Searched.{Reaches, here, along}
use Rattle.dsa_inlining.proofs.Composing.{aligned_through}

-- ---- what is told in both graphs

target_there : (target : Option Target) → has_target target ≡ true → (found : Target) × (target ≡ Some found)
target_there None has = absurd (false≢true has)
target_there (Some target) has = (target, refl)

-- a variable or literal of which the one graph tells the other tells, too
pub told_in : (one two : Graph) → AreAligned one two → (statics : Statics) (name : Name) → Lists statics name → has_target (one.targets name) ≡ true → has_target (two.targets name) ≡ true
told_in one two its statics (OfGlobal number) lists has = let found = target_there (one.targets (OfGlobal number)) has in ap has_target (its.globals number found.0 found.1).is
told_in one two its statics (OfLiteral number) lists has = let found = target_there (one.targets (OfLiteral number)) has in ap has_target (its.literals number found.0 found.1).is
told_in one two its statics (OfRegister owner register) lists has = absurd lists
told_in one two its statics (OfResult owner) lists has = absurd lists
told_in one two its statics (OfObject owner local) lists has = absurd lists
told_in one two its statics (OfCopy number) lists has = absurd lists

module _ (table : Interned) (graphs : List FrozenGraph) (all : List GroupStatics) (have : HaveStatics table graphs all) where
  -- ---- one base further

  told_of : (group : ℕ) (frozen : FrozenGraph) → slice_get graphs group ≡ Some frozen → (its : GroupStatics) → slice_get all group ≡ Some its → IsTold table graphs group frozen its
  told_of group frozen at its is = let has = have group frozen at in subst (IsTold table graphs group frozen) (same_Some has.its its (sym has.is ∙ is)) has.told

  -- ---- the groups to which they lead

  -- those of a group that lies in a graph lie there, too
  reached_in : (graph : Graph) (group one : ℕ) → Reaches all group one → (frozen : FrozenGraph) → slice_get graphs group ≡ Some frozen → AreAligned (bare table frozen) graph
      → (frozen : FrozenGraph) × (slice_get graphs one ≡ Some frozen) × AreAligned (bare table frozen) graph
  reached_in graph group one (here g) frozen at aligned = (frozen, at, aligned)
  reached_in graph group one (along g base last its is among rest) frozen at aligned =
      let found = (told_of g frozen at its is).bases base among in
      reached_in graph base last rest found.graph found.is (aligned_through (bare table found.graph) (bare table frozen) graph found.aligned aligned)

  -- what a group lists as its own all groups tell from which bases lead to it
  pub reached_told : (name : Name) (group one : ℕ) → Reaches all group one → (frozen : FrozenGraph) → slice_get graphs group ≡ Some frozen → (own : GroupStatics) → slice_get all one ≡ Some own
      → Lists own.own name → has_target ((bare table frozen).targets name) ≡ true
  reached_told name group one (here g) frozen at own own_is lists = (told_of g frozen at own own_is).own name lists
  reached_told name group one (along g base last its is among rest) frozen at own own_is lists =
      let found = (told_of g frozen at its is).bases base among in
      told_in (bare table found.graph) (bare table frozen) found.aligned own.own name lists (reached_told name base last rest found.graph found.is own own_is lists)

  pub reached_aligned : (group : ℕ) (graph : FrozenGraph) → slice_get graphs group ≡ Some graph → AreAligned (bare table graph) (bare table graph) → (one : ℕ) → Reaches all group one
      → (frozen : FrozenGraph) × (slice_get graphs one ≡ Some frozen) × AreAligned (bare table frozen) (bare table graph)
  reached_aligned group graph at aligned one reaches = reached_in (bare table graph) group one reaches graph at aligned
