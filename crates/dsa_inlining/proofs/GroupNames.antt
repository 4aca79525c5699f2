-- The names of which the graph of a group tells: what the groups to which bases lead from it list as their own.
use Rattle.std.proofs.Common.{◌≡◌, ℕ, zero, suc, ◌<◌, ◌⊎◌, inl, inr, true, List, length, Contains, Option, Some, None, refl, sym, ap, subst, ◌∙◌, arith}
use Rattle.std.specs.Prelude.{slice_get}
use Rattle.std.proofs.lemmas.Bool.{true≢false}
use Rattle.std.proofs.lemmas.Option.{same_Some}
use Rattle.c_typed.specs.Table.{Interned}
use Rattle.heap_graph.specs.Graphs.{Target, Name, OfRegister, OfResult, OfObject, OfGlobal, OfLiteral, OfCopy}
use Rattle.heap_graph.specs.Targets.{has_target}
use Rattle.heap_graph.specs.Frozen.{static_in, bare}
use Rattle.heap_graph.specs.declared.frozen.FrozenGraph.{FrozenGraph}
use Rattle.dsa_inlining.specs.declared.told_statics.Statics.{Statics}
use Rattle.dsa_inlining.specs.declared.told_statics.GroupStatics.{GroupStatics}
use Rattle.dsa_inlining.specs.GroupStatics.Listed.{Lists}
use Rattle.dsa_inlining.specs.Aligned.{AreAligned}
use Rattle.dsa_inlining.specs.GroupStatics.Groups.{IsOfBase, HasStatics, HaveStatics}
use Rattle.dsa_inlining.specs.Searched.{Reaches, here, along, AreClosed}
use Rattle.dsa_inlining.specs.declared.mentions.Mentions.{Mentions}
use Rattle.dsa_inlining.specs.Sums.{is_told}
use Rattle.dsa_inlining.specs.Marks.{is_marked}
use Rattle.dsa_inlining.specs.Tallies.{AreMarked, is_listed, listed_in, own_names}
use Rattle.dsa_inlining.proofs.Among.{contained_among, among_contained}

-- ---- what a graph tells of

-- a graph with all targets of another tells of all that the other does
told_there : (table : Interned) (small great : FrozenGraph) → AreAligned (bare table small) (bare table great) → (name : Name) → is_told small name ≡ true → is_told great name ≡ true
told_there table small great aligned (OfRegister owner register) told = absurd (true≢false (sym told))
told_there table small great aligned (OfResult owner) told = absurd (true≢false (sym told))
told_there table small great aligned (OfObject owner local) told = absurd (true≢false (sym told))
told_there table small great aligned (OfCopy number) told = absurd (true≢false (sym told))
told_there table small great aligned (OfGlobal number) told = by (static_in small.globals number) refl told
  where
    by : (found : Option Target) → static_in small.globals number ≡ found → has_target found ≡ true → has_target (static_in great.globals number) ≡ true
    by None is told = absurd (true≢false (sym told))
    by (Some target) is told = ap has_target (aligned.globals number target is).is
told_there table small great aligned (OfLiteral number) told = by (static_in small.literals number) refl told
  where
    by : (found : Option Target) → static_in small.literals number ≡ found → has_target found ≡ true → has_target (static_in great.literals number) ≡ true
    by None is told = absurd (true≢false (sym told))
    by (Some target) is told = ap has_target (aligned.literals number target is).is

-- one that is listed has a target
listed_told : (table : Interned) (graph : FrozenGraph) (own : Statics) → ((name : Name) → Lists own name → has_target ((bare table graph).targets name) ≡ true) → (name : Name) → is_listed own name ≡ true → is_told graph name ≡ true
listed_told table graph own all (OfRegister owner register) listed = absurd (true≢false (sym listed))
listed_told table graph own all (OfResult owner) listed = absurd (true≢false (sym listed))
listed_told table graph own all (OfObject owner local) listed = absurd (true≢false (sym listed))
listed_told table graph own all (OfCopy number) listed = absurd (true≢false (sym listed))
listed_told table graph own all (OfGlobal number) listed = all (OfGlobal number) (among_contained number own.globals.items listed)
listed_told table graph own all (OfLiteral number) listed = all (OfLiteral number) (among_contained number own.literals.items listed)

module _ (table : Interned) (graphs : List FrozenGraph) (all : List GroupStatics) (known : HaveStatics table graphs all) where
  -- ---- what is listed as theirs by groups to which bases lead is told

  pub reached_told : (group last : ℕ) → Reaches all group last → (graph : FrozenGraph) → slice_get graphs group ≡ Some graph → (name : Name) → own_names all last name ≡ true → is_told graph name ≡ true
  reached_told group last (here one) graph is name own =
      let has = known one graph is in
      listed_told table graph has.its.own has.told.own name (ap (λ its. listed_in its name) (sym has.is) ∙ own)
  reached_told group last (along one base end its at among rest) graph is name own =
      let has = known one graph is in
      let same = same_Some its has.its (sym at ∙ has.is) in
      let leads = has.told.bases base (subst (λ (g : GroupStatics). Contains g.bases.items base) same among) in
      told_there table leads.graph graph leads.aligned name (reached_told base end rest leads.graph leads.is name own)

  -- ---- where bases are with their groups, and what each lists as its own is marked, all is of which their graphs tell

  module _ (told : List ℕ) (mentions : Mentions) (closed : AreClosed all told) (own : (group : ℕ) → Contains told group → AreMarked (own_names all group) mentions) where
    module _ (group : ℕ) (among : Contains told group) (graph : FrozenGraph) (is : slice_get graphs group ≡ Some graph)
        (before : (base : ℕ) → base < group → Contains told base → (smaller : FrozenGraph) → slice_get graphs base ≡ Some smaller → AreMarked (is_told smaller) mentions) where
      has : HasStatics table graphs all group graph
      has = known group graph is

      based : (name : Name) (found : IsOfBase table graphs has.its name) → AreMarked (is_told found.graph) mentions
      based name found = before found.base (has.told.below found.base found.among) (closed group found.base has.its among has.is found.among) found.graph found.is

      listed : (name : Name) → is_listed has.its.own name ≡ true → own_names all group name ≡ true
      listed name is = ap (λ its. listed_in its name) has.is ∙ is

      globals : (number : ℕ) → number < length mentions.globals.items → Lists has.its.own (OfGlobal number) ⊎ IsOfBase table graphs has.its (OfGlobal number) → is_marked mentions.globals.items number ≡ true
      globals number less (inl lists) = (own group among).globals number less (listed (OfGlobal number) (contained_among number has.its.own.globals.items lists))
      globals number less (inr found) = (based (OfGlobal number) found).globals number less found.told

      literals : (number : ℕ) → number < length mentions.literals.items → Lists has.its.own (OfLiteral number) ⊎ IsOfBase table graphs has.its (OfLiteral number) → is_marked mentions.literals.items number ≡ true
      literals number less (inl lists) = (own group among).literals number less (listed (OfLiteral number) (contained_among number has.its.own.literals.items lists))
      literals number less (inr found) = (based (OfLiteral number) found).literals number less found.told

      marked_next : AreMarked (is_told graph) mentions
      marked_next = record {
        globals = λ number less tells. globals number less (has.told.globals number tells);
        literals = λ number less tells. literals number less (has.told.literals number tells);
      }

    -- by induction on the group's number
    marked_below : (bound group : ℕ) → group < bound → Contains told group → (graph : FrozenGraph) → slice_get graphs group ≡ Some graph → AreMarked (is_told graph) mentions
    marked_below zero group below among graph is = absurd (omega (arith, below))
    marked_below (suc bound) group below among graph is =
        marked_next group among graph is (λ base less there smaller at. marked_below bound base (omega (arith, less, below)) there smaller at)

    pub told_marked : (group : ℕ) → Contains told group → (graph : FrozenGraph) → slice_get graphs group ≡ Some graph → AreMarked (is_told graph) mentions
    told_marked group among graph is = marked_below (suc group) group (omega arith) among graph is
