-- Groups of which the names are marked.
use Rattle.std.proofs.Common.{◌≡◌, ℕ, zero, suc, ◌+◌, ◌<◌, ◌||◌, ◌⊎◌, inl, inr, Bool, true, false, List, [], ◌∷◌, length, Contains, Some, refl, sym, ap, subst, ◌∙◌, arith}
use Rattle.std.specs.Prelude.{slice_get}
use Rattle.std.proofs.lemmas.List.Elements.{Contains-append_cases}
use Rattle.indexmap.specs.IndexSet.{IndexSet, IsEmpty}
use Rattle.heap_graph.specs.Graphs.{Name, OfGlobal, OfLiteral}
use Rattle.heap_graph.specs.declared.frozen.FrozenGraph.{FrozenGraph}
use Rattle.dsa_inlining.specs.Searched.{AreClosed, AddsTold}
use Rattle.dsa_inlining.specs.Before.{graphs_before}
use Rattle.dsa_inlining.specs.declared.before.Before.{Before}
use Rattle.dsa_inlining.specs.declared.mentions.Mentions.{Mentions}
use Rattle.dsa_inlining.specs.declared.tally.Tally.{Tally}
use Rattle.dsa_inlining.specs.Sums.{graph_at, graph_before, is_told, told_in}
use Rattle.dsa_inlining.specs.Marks.{is_marked, AddsMarks}
use Rattle.dsa_inlining.specs.Tallies.{IsKnown, Adds, AreMarked, any_of, own_names, called_names, AreTold, Counts}
use Rattle.dsa_inlining.proofs.Among.{or_true, any_passes, passes_one}
use Rattle.dsa_inlining.proofs.GroupCounts.Adding.{adds_same}
use Rattle.dsa_inlining.proofs.GroupNames.{reached_told, told_marked}

-- ---- marks

module _ (test : ℕ → Bool) (old new : List Bool) where
  -- the numbers that were marked stay so
  marks_stay : (more : ℕ → Bool) → AddsMarks more old new → ((number : ℕ) → number < length old → test number ≡ true → is_marked old number ≡ true)
      → (number : ℕ) → number < length new → test number ≡ true → is_marked new number ≡ true
  marks_stay more adds marked number less is =
      let there = subst (λ n. number < n) adds.size less in
      adds.is number there ∙ ap (λ t. t || more number) (marked number there is)

  marks_added : AddsMarks test old new → (number : ℕ) → number < length new → test number ≡ true → is_marked new number ≡ true
  marks_added adds number less is = adds.is number (subst (λ n. number < n) adds.size less) ∙ (ap (λ t. is_marked old number || t) is ∙ or_true (is_marked old number))

-- Those are marked that pass a test, where these were marked, or are now, and no others are.
marks_told : (test told : ℕ → Bool) (old new : List Bool) → AddsMarks test old new → ((number : ℕ) → test number ≡ true → told number ≡ true)
    → ((number : ℕ) → number < length new → told number ≡ true → is_marked new number ≡ true) → AddsMarks told old new
marks_told test told old new adds only marked = record {
  size = adds.size;
  is = λ number less. by (is_marked old number) (test number) (told number) (is_marked new number) (adds.is number less) (only number) (marked number (subst (λ n. number < n) (sym adds.size) less));
}
  where
    by : (was t more now : Bool) → now ≡ (was || t) → (t ≡ true → more ≡ true) → (more ≡ true → now ≡ true) → now ≡ (was || more)
    by true t more now is only marked = is
    by false true more now is only marked = is ∙ sym (only refl)
    by false false true now is only marked = marked refl
    by false false false now is only marked = is

-- ---- names

names_stay : (names more : Name → Bool) (old new : Mentions) → Adds more old new → AreMarked names old → AreMarked names new
names_stay names more old new adds marked = record {
  globals = marks_stay (λ number. names (OfGlobal number)) old.globals.items new.globals.items (λ number. more (OfGlobal number)) adds.globals marked.globals;
  literals = marks_stay (λ number. names (OfLiteral number)) old.literals.items new.literals.items (λ number. more (OfLiteral number)) adds.literals marked.literals;
}

names_added : (names : Name → Bool) (old new : Mentions) → Adds names old new → AreMarked names new
names_added names old new adds = record {
  globals = marks_added (λ number. names (OfGlobal number)) old.globals.items new.globals.items adds.globals;
  literals = marks_added (λ number. names (OfLiteral number)) old.literals.items new.literals.items adds.literals;
}

-- some of those that were added
names_within : (names more : Name → Bool) (mentions : Mentions) → ((name : Name) → names name ≡ true → more name ≡ true) → AreMarked more mentions → AreMarked names mentions
names_within names more mentions within marked = record {
  globals = λ number less is. marked.globals number less (within (OfGlobal number) is);
  literals = λ number less is. marked.literals number less (within (OfLiteral number) is);
}

names_told : (names told : Name → Bool) (old new : Mentions) → Adds names old new → ((name : Name) → names name ≡ true → told name ≡ true) → AreMarked told new → Adds told old new
names_told names told old new adds only marked = record {
  globals = marks_told (λ number. names (OfGlobal number)) (λ number. told (OfGlobal number)) old.globals.items new.globals.items adds.globals (λ number. only (OfGlobal number)) marked.globals;
  literals = marks_told (λ number. names (OfLiteral number)) (λ number. told (OfLiteral number)) old.literals.items new.literals.items adds.literals (λ number. only (OfLiteral number)) marked.literals;
}

-- ---- groups

none_contained : (number : ℕ) → Contains {X = ℕ} [] number → ⊥
none_contained number has = let less = has.1 in omega (arith, less)

pub graph_there : (graphs : List FrozenGraph) (group : ℕ) → group < length graphs → (graph : FrozenGraph) × (slice_get graphs group ≡ Some graph)
graph_there [] group less = absurd (omega (arith, less))
graph_there (graph ∷ graphs) zero less = (graph, refl)
graph_there (graph ∷ graphs) (suc group) less = graph_there graphs group (omega (arith, less))

module _ (before : Before) where
  -- no group is in `told`
  pub told_first : (tally : Tally) → IsEmpty tally.told → AreTold before tally
  told_first tally empty = record {
    closed = λ group base its among is of. absurd (none_contained group (subst (λ keys. Contains keys group) empty among));
    own = λ group among. absurd (none_contained group (subst (λ keys. Contains keys group) empty among));
  }

  -- more is marked, and no group is put in `told`
  pub told_stays : (names : Name → Bool) (old new : Tally) → new.told ≡ old.told → Adds names old.mentions new.mentions → AreTold before old → AreTold before new
  told_stays names old new same adds told = record {
    closed = subst (λ (set : IndexSet ℕ _). AreClosed before.statics.now set.keys) (sym same) told.closed;
    own = λ group among. names_stay (own_names before.statics.now group) names old.mentions new.mentions adds (told.own group (subst (λ (set : IndexSet ℕ _). Contains set.keys group) same among));
  }

  -- groups are put in `told`, and what they list as their own is marked
  module _ (known : IsKnown before) (group : ℕ) (added : List ℕ) (old new : Tally) (puts : AddsTold before.statics.now group old.told.keys new.told.keys added)
      (adds : Adds (any_of (own_names before.statics.now) added) old.mentions new.mentions) where
    own_marked : (one : ℕ) → Contains old.told.keys one ⊎ Contains added one → AreTold before old → AreMarked (own_names before.statics.now one) new.mentions
    own_marked one (inl among) told = names_stay (own_names before.statics.now one) (any_of (own_names before.statics.now) added) old.mentions new.mentions adds (told.own one among)
    own_marked one (inr among) told =
        names_within (own_names before.statics.now one) (any_of (own_names before.statics.now) added) new.mentions
        (λ name is. any_passes (λ (other : ℕ). own_names before.statics.now other name) added one among is)
        (names_added (any_of (own_names before.statics.now) added) old.mentions new.mentions adds)

    told_more : AreTold before old → AreTold before new
    told_more told = record {
      closed = puts.closed told.closed;
      own = λ one among. own_marked one (Contains-append_cases old.told.keys added one (subst (λ keys. Contains keys one) puts.keys among)) told;
    }

    module _ (graph : FrozenGraph) (is : slice_get before.graphs.now group ≡ Some graph) where
      only_told : (name : Name) → any_of (own_names before.statics.now) added name ≡ true → is_told graph name ≡ true
      only_told name any =
          let found = passes_one (λ (other : ℕ). own_names before.statics.now other name) added any in
          reached_told before.tac.now.types before.graphs.now before.statics.now known.statics group found.one (puts.reached found.one found.among) graph is name found.passes

      names_of_graph : AreTold before old → Adds (is_told graph) old.mentions new.mentions
      names_of_graph told =
          let more = told_more told in
          names_told (any_of (own_names before.statics.now) added) (is_told graph) old.mentions new.mentions adds only_told
          (told_marked before.tac.now.types before.graphs.now before.statics.now known.statics new.told.keys new.mentions more.closed more.own group puts.told graph is)

      -- so a call to a function of the group is counted
      pub counted_told : (called : ℕ) → slice_get before.groups.now.group_of.items called ≡ Some group → new.count ≡ old.count → Counts before 0 (called_names before called) old new
      counted_told called of same =
          let there : graph_before (graphs_before before) called ≡ Some graph = ap (graph_at before.graphs.now) of ∙ is in
          record {
            count = same ∙ plus_none old.count;
            names = λ told. adds_same (is_told graph) (called_names before called) old.mentions new.mentions (λ name. ap (λ g. told_in g name) (sym there)) (names_of_graph told);
            told = told_more;
          }
        where
          plus_none : (n : ℕ) → n ≡ n + 0
          plus_none n = omega arith
