-- Of what a group's graph tells, and the graphs of its bases don't.
use Rattle.std.proofs.Common.{◌≡◌, ◌⊎◌, inl, inr, ℕ, true, List, [], length, Contains, Some, sym, subst}
use Rattle.std.specs.Prelude.{slice_get}
use Rattle.std.proofs.lemmas.Option.{slice_get_within}
use Rattle.c_typed.specs.Table.{Interned}
use Rattle.heap_graph.specs.Graphs.{Name, OfRegister, OfResult, OfObject, OfGlobal, OfLiteral, OfCopy}
use Rattle.heap_graph.specs.Targets.{has_target}
use Rattle.heap_graph.specs.Frozen.{bare}
use Rattle.heap_graph.specs.declared.frozen.FrozenGraph.{FrozenGraph}
use Rattle.dsa_inlining.specs.Aligned.{AreAligned}
use Rattle.dsa_inlining.specs.declared.own.StaticSets.{StaticSets}
use Rattle.dsa_inlining.specs.declared.told_statics.GroupStatics.{GroupStatics}
use Rattle.dsa_inlining.specs.declared.told_statics.Statics.{Statics}
use Rattle.dsa_inlining.specs.GroupStatics.Groups.{IsOfBase, IsBase, IsTold, HaveStatics}
use Rattle.dsa_inlining.specs.GroupStatics.Listed.{Lists, Represents}
use Rattle.dsa_inlining.specs.Own.{AddsNumbers, IsOwnIn, IsOwnAmong, AddsOwn, AreOwnAmong, AreOthers, IsOfBases, AreOwn}
use Rattle.dsa_inlining.specs.GroupStatics.Telling.{AreFromBases}
use Rattle.dsa_inlining.proofs.Bases.{reached_told}
use Rattle.dsa_inlining.proofs.SeenNodes.{none_contained}

-- ---- what groups list as their own

module _ (all : List GroupStatics) where
  pub own_nothing : (group : ℕ) (sets : StaticSets) → AddsOwn all group sets sets
  own_nothing group sets = record { globals = λ number has. inl has; literals = λ number has. inl has }

  pub own_added : (group : ℕ) (its : GroupStatics) → slice_get all group ≡ Some its → (old new : StaticSets) → AddsNumbers old.globals.keys new.globals.keys its.own.globals.items
      → AddsNumbers old.literals.keys new.literals.keys its.own.literals.items → AddsOwn all group old new
  own_added group its is old new globals literals = record {
    globals = λ number has. of_global number (globals number has);
    literals = λ number has. of_literal number (literals number has);
  }
    where
      of_global : (number : ℕ) → Contains old.globals.keys number ⊎ Contains its.own.globals.items number → Contains old.globals.keys number ⊎ IsOwnIn all group (OfGlobal number)
      of_global number (inl has) = inl has
      of_global number (inr has) = inr (record { its = its; is = is; lists = has })

      of_literal : (number : ℕ) → Contains old.literals.keys number ⊎ Contains its.own.literals.items number → Contains old.literals.keys number ⊎ IsOwnIn all group (OfLiteral number)
      of_literal number (inl has) = inl has
      of_literal number (inr has) = inr (record { its = its; is = is; lists = has })

  pub among_none : (groups : List ℕ) (sets : StaticSets) → sets.globals.keys ≡ [] → sets.literals.keys ≡ [] → AreOwnAmong all groups sets
  among_none groups sets globals literals = record {
    globals = λ number has. absurd (none_contained number (subst (λ l. Contains l number) globals has));
    literals = λ number has. absurd (none_contained number (subst (λ l. Contains l number) literals has));
  }

  pub among_more : (groups : List ℕ) (group : ℕ) (old new : StaticSets) → Contains groups group → AreOwnAmong all groups old → AddsOwn all group old new → AreOwnAmong all groups new
  among_more groups group old new among its adds = record {
    globals = λ number has. of_global number (adds.globals number has);
    literals = λ number has. of_literal number (adds.literals number has);
  }
    where
      of_global : (number : ℕ) → Contains old.globals.keys number ⊎ IsOwnIn all group (OfGlobal number) → IsOwnAmong all groups (OfGlobal number)
      of_global number (inl has) = its.globals number has
      of_global number (inr own) = record { group = group; among = among; own = own }

      of_literal : (number : ℕ) → Contains old.literals.keys number ⊎ IsOwnIn all group (OfLiteral number) → IsOwnAmong all groups (OfLiteral number)
      of_literal number (inl has) = its.literals number has
      of_literal number (inr own) = record { group = group; among = among; own = own }

-- ---- what is left of a graph

module _ (table : Interned) (graphs : List FrozenGraph) (all : List GroupStatics) (have : HaveStatics table graphs all) (graph : FrozenGraph) (bases : List ℕ)
    (are : (base : ℕ) → Contains bases base → IsBase table graphs graph base) where
  pub own_left : (groups : List ℕ) (sets : StaticSets) (own : Statics) → AreFromBases all bases groups → AreOwnAmong all groups sets
      → AreOthers graph.globals sets.globals.keys own.globals.items → AreOthers graph.literals sets.literals.keys own.literals.items → AreOwn table graphs graph bases own
  own_left groups sets own from told globals literals = record {
    own_told = own_told;
    globals = λ place has. of_global place (globals.all place has);
    literals = λ place has. of_literal place (literals.all place has);
  }
    where
      own_told : (name : Name) → Lists own name → has_target ((bare table graph).targets name) ≡ true
      own_told (OfGlobal number) lists = globals.listed number lists
      own_told (OfLiteral number) lists = literals.listed number lists
      own_told (OfRegister owner register) lists = absurd lists
      own_told (OfResult owner) lists = absurd lists
      own_told (OfObject owner local) lists = absurd lists
      own_told (OfCopy number) lists = absurd lists

      of_base : (name : Name) → IsOwnAmong all groups name → IsOfBases table graphs bases name
      of_base name one =
          let first = from one.group one.among in
          let its = are first.base first.among in
          record {
            base = first.base;
            among = first.among;
            graph = its.graph;
            is = its.is;
            told = reached_told table graphs all have name first.base one.group first.reached its.graph its.is one.own.its one.own.is one.own.lists;
          }

      of_global : (place : ℕ) → Contains own.globals.items place ⊎ Contains sets.globals.keys place → Lists own (OfGlobal place) ⊎ IsOfBases table graphs bases (OfGlobal place)
      of_global place (inl has) = inl has
      of_global place (inr has) = inr (of_base (OfGlobal place) (told.globals place has))

      of_literal : (place : ℕ) → Contains own.literals.items place ⊎ Contains sets.literals.keys place → Lists own (OfLiteral place) ⊎ IsOfBases table graphs bases (OfLiteral place)
      of_literal place (inl has) = inl has
      of_literal place (inr has) = inr (of_base (OfLiteral place) (told.literals place has))

  -- ---- the next group

  pub told_next : AreAligned (bare table graph) (bare table graph) → (its : GroupStatics) → its.bases.items ≡ bases → AreOwn table graphs graph bases its.own → Represents its.representatives (bare table graph)
      → IsTold table graphs (length graphs) graph its
  told_next self its same own represents = record {
    self = self;
    below = λ base has. let found = are base (among base has) in slice_get_within graphs base found.graph found.is;
    bases = λ base has. are base (among base has);
    own = own.own_told;
    globals = λ place has. by (OfGlobal place) (own.globals place has);
    literals = λ place has. by (OfLiteral place) (own.literals place has);
    represents = represents;
  }
    where
      among : (base : ℕ) → Contains its.bases.items base → Contains bases base
      among base has = subst (λ l. Contains l base) same has

      by : (name : Name) → Lists its.own name ⊎ IsOfBases table graphs bases name → Lists its.own name ⊎ IsOfBase table graphs its name
      by name (inl has) = inl has
      by name (inr found) = inr (record { base = found.base; among = subst (λ l. Contains l found.base) (sym same) found.among; graph = found.graph; is = found.is; told = found.told })
