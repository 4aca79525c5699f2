-- Groups before whose variables outside functions and literals are joined with copies at a call, each after those of which it has them.
use Rattle.std.proofs.Common.{◌≡◌, ℕ, zero, suc, ◌<◌, ◌⊎◌, List, [], ◌∷◌, ◌++◌, Contains, Option, Some, inl, inr, refl, sym, ap, subst, ◌∙◌, arith}
use Rattle.std.specs.Prelude.{slice_get}
use Rattle.std.proofs.lemmas.List.Elements.{Contains-append_left, Contains-append_right, Contains-append_cases, Contains-push_cases}
use Rattle.std.proofs.lemmas.Option.{same_Some}
use Rattle.c_typed.specs.Layouts.{StructDef}
use Rattle.c_typed.specs.Table.{structs_in}
use Rattle.heap_graph.specs.Structures.{AreMade}
use Rattle.heap_graph.specs.Graphs.{OfGlobal, OfLiteral, Graph}
use Rattle.heap_graph.specs.Targets.{has_target}
use Rattle.heap_graph.specs.Merging.{IsSound}
use Rattle.graph_unification.proofs.FittingNames.{target_there}
use Rattle.graph_unification.specs.Going.{GoesOn}
use Rattle.heap_graph.specs.Frozen.{bare, own_graph}
use Rattle.heap_graph.specs.declared.frozen.FunctionNames.{FunctionNames}
use Rattle.heap_graph.specs.declared.frozen.FrozenGraph.{FrozenGraph}
use Rattle.dsa_inlining.specs.declared.told_statics.GroupStatics.{GroupStatics}
use Rattle.dsa_inlining.specs.Aligned.{AreAligned}
use Rattle.dsa_inlining.specs.GroupStatics.Groups.{HaveStatics}
use Rattle.dsa_inlining.specs.Searched.{Reaches, here, along, AreClosed, AddsTold}
use Rattle.dsa_inlining.specs.Copied.{AreCopied}
use Rattle.dsa_inlining.specs.OuterCalls.Listed.{ToldCome}
use Rattle.dsa_inlining.specs.declared.joined.JoinedGroups.{JoinedGroups}
use Rattle.dsa_inlining.specs.Before.{GraphsBefore}
use Rattle.dsa_inlining.specs.Bases.{IsAligned, AreBases}
use Rattle.dsa_inlining.specs.Joined.{AreKnownJoined, RepresentativesCome, BasesCome, GroupsCome}
use Rattle.dsa_inlining.proofs.Going.{aligned_kept}
use Rattle.dsa_inlining.proofs.Bases.{reached_aligned}
use Rattle.dsa_inlining.proofs.Aligning.{come_through, told_aligned}

-- ---- no groups at first

none_there : (numbers : List ℕ) → numbers ≡ [] → (number : ℕ) → Contains numbers number → ⊥
none_there [] e number among = let within = among.1 in absurd (omega (arith, within))
none_there (first ∷ numbers) e number among = absurd (cons_nil first numbers e)
  where
    cons_nil : (x : ℕ) (xs : List ℕ) → (x ∷ xs) ≡ [] → ⊥
    cons_nil x xs e = cc

pub none_known : (before : GraphsBefore) (joined : JoinedGroups) (graph : Graph) → joined.told.keys ≡ [] → joined.bases.items ≡ [] → AreKnownJoined before joined graph
none_known before joined graph told bases = record {
  closed = λ group base its among is of. absurd (none_there joined.told.keys told group among);
  aligned = λ group among. absurd (none_there joined.told.keys told group among);
  bases = λ group among. absurd (none_there joined.bases.items bases group among);
}

-- ---- the graph goes on

pub known_kept : (before : GraphsBefore) → AreMade (structs_in before.tac.types) → (joined : JoinedGroups) (old new : Graph) → IsSound (structs_in before.tac.types) old → GoesOn (structs_in before.tac.types) old new
    → AreKnownJoined before joined old → AreKnownJoined before joined new
known_kept before made joined old new sound goes known = record {
  closed = known.closed;
  aligned = λ group among.
      let its = known.aligned group among in
      record {
        frozen = its.frozen;
        is = its.is;
        aligned = aligned_kept (structs_in before.tac.types) made (bare before.tac.types its.frozen) old new sound goes its.aligned;
      };
  bases = known.bases;
}

-- those that were called are bases
pub known_bases : (before : GraphsBefore) (joined : JoinedGroups) (graph : Graph) → AreKnownJoined before joined graph → AreBases before joined.bases.items graph
known_bases before joined graph known base among = known.aligned base (known.bases base among)

-- ---- a call to a function of a group

-- bases lead on
reaches_base : (all : List GroupStatics) (group one : ℕ) → Reaches all group one → (base : ℕ) (its : GroupStatics) → slice_get all one ≡ Some its → Contains its.bases.items base → Reaches all group base
reaches_base all group one (here same) base its is among = along same base base its is among (here base)
reaches_base all group one (along from next last own there of rest) base its is among = along from next base own there of (reaches_base all next last rest base its is among)

module _ (before : GraphsBefore) (have : HaveStatics before.tac.types before.graphs before.statics) (group : ℕ) (frozen : FrozenGraph) (there : slice_get before.graphs group ≡ Some frozen) (names : FunctionNames)
    (copies : ℕ → Option ℕ) (graph : Graph) (are : AreCopied (structs_in before.tac.types) graph (bare before.tac.types frozen) copies) (sound : IsSound (structs_in before.tac.types) (bare before.tac.types frozen)) where
  abbrev structs : List StructDef
  structs = structs_in before.tac.types

  abbrev callee : Graph
  callee = own_graph before.tac.types frozen names

  -- a group to which bases lead is aligned in the graph of the callee
  reached_there : (one : ℕ) → Reaches before.statics group one → (own : FrozenGraph) → slice_get before.graphs one ≡ Some own → AreAligned (bare before.tac.types own) (bare before.tac.types frozen)
  reached_there one reaches own is =
      let lies = reached_aligned before.tac.types before.graphs before.statics have group frozen there (have group frozen there).told.self one reaches in
      subst (λ (f : FrozenGraph). AreAligned (bare before.tac.types f) (bare before.tac.types frozen)) (same_Some lies.0 own (sym lies.1 ∙ is)) lies.2

  -- where those that stand for the others come to their copies, all do
  represented : (one : ℕ) → Reaches before.statics group one → (own : FrozenGraph) → slice_get before.graphs one ≡ Some own → IsAligned before graph one → RepresentativesCome before.statics callee copies one graph
      → ToldCome (bare before.tac.types own) callee copies graph
  represented one reaches own is aligned come =
      let its = have one own is in
      come_through structs (bare before.tac.types own) callee (bare before.tac.types frozen) graph copies its.its.representatives (λ number. refl) (λ number. refl) are sound (reached_there one reaches own is)
      (subst (λ (f : FrozenGraph). AreAligned (bare before.tac.types f) graph) (same_Some aligned.frozen own (sym aligned.is ∙ is)) aligned.aligned) its.told.represents (come its.its its.is)

  -- all of which its own graph tells
  own_told : ToldCome (bare before.tac.types frozen) callee copies graph → ToldCome callee callee copies graph
  own_told told = record { globals = told.globals; literals = told.literals }

  pub told_again : IsAligned before graph group → RepresentativesCome before.statics callee copies group graph → ToldCome callee callee copies graph
  told_again aligned come = own_told (represented group (here group) frozen there aligned come)

  -- ---- groups that are added

  module _ (old new added : List ℕ) (adds : AddsTold before.statics group old new added) (closed : AreClosed before.statics old) (aligned : (one : ℕ) → Contains old one → IsAligned before graph one)
      (come : GroupsCome before.statics callee copies added graph) where
    new_cases : (one : ℕ) → Contains new one → Contains old one ⊎ Contains added one
    new_cases one among = Contains-append_cases old added one (subst (λ l. Contains l one) adds.keys among)

    is_new : (one : ℕ) → Contains added one → Contains new one
    is_new one among = subst (λ l. Contains l one) (sym adds.keys) (Contains-append_right old added one among)

    -- a base was told before, or is added
    base_comes : (one : ℕ) → Contains added one → (its : GroupStatics) → slice_get before.statics one ≡ Some its → BasesCome before.statics callee copies its.bases.items graph → (base : ℕ) → Contains its.bases.items base
        → (own : FrozenGraph) → slice_get before.graphs base ≡ Some own → (Contains added base → ToldCome (bare before.tac.types own) callee copies graph) → ToldCome (bare before.tac.types own) callee copies graph
    base_comes one among its is bases base of_it own there' later = elim (new_cases base (adds.closed closed one base its (is_new one among) is of_it)) [
      | inl earlier ↦ represented base (reaches_base before.statics group one (adds.reached one among) base its is of_it) own there' (aligned base earlier) (bases base of_it)
      | inr now ↦ later now
    ]

    come_below : (bound one : ℕ) → one < bound → Contains added one → (own : FrozenGraph) → slice_get before.graphs one ≡ Some own → ToldCome (bare before.tac.types own) callee copies graph
    come_below zero one less among own is = absurd (omega (arith, less))
    come_below (suc bound) one less among own is =
        let its = have one own is in
        let both = come one among its.its its.is in
        record {
          globals = λ number target at. elim (its.told.globals number (ap has_target at)) [
            | inl mentioned ↦ both.0.globals number mentioned
            | inr of ↦
                let below = its.told.below of.base of.among in
                let place = target_there (bare before.tac.types of.graph) (OfGlobal number) ((bare before.tac.types of.graph).targets (OfGlobal number)) refl of.told in
                (base_comes one among its.its its.is both.1 of.base of.among of.graph of.is (λ now. come_below bound of.base (omega (arith, below, less)) now of.graph of.is)).globals number place.0 place.1
          ];
          literals = λ number target at. elim (its.told.literals number (ap has_target at)) [
            | inl mentioned ↦ both.0.literals number mentioned
            | inr of ↦
                let below = its.told.below of.base of.among in
                let place = target_there (bare before.tac.types of.graph) (OfLiteral number) ((bare before.tac.types of.graph).targets (OfLiteral number)) refl of.told in
                (base_comes one among its.its its.is both.1 of.base of.among of.graph of.is (λ now. come_below bound of.base (omega (arith, below, less)) now of.graph of.is)).literals number place.0 place.1
          ];
        }

    added_come : (one : ℕ) → Contains added one → (own : FrozenGraph) → slice_get before.graphs one ≡ Some own → ToldCome (bare before.tac.types own) callee copies graph
    added_come one among own is = come_below (suc one) one (omega arith) among own is

    -- where the group is added itself, all come of which it tells
    pub told_first : (Contains old group → ⊥) → ToldCome callee callee copies graph
    told_first none = elim (new_cases group adds.told) [
      | inl earlier ↦ absurd (none earlier)
      | inr now ↦ own_told (added_come group now frozen there)
    ]

    new_aligned : (one : ℕ) → Contains new one → IsAligned before graph one
    new_aligned one among = elim (new_cases one among) [
      | inl earlier ↦ aligned one earlier
      | inr now ↦
          let lies = reached_aligned before.tac.types before.graphs before.statics have group frozen there (have group frozen there).told.self one (adds.reached one now) in
          record {
            frozen = lies.0;
            is = lies.1;
            aligned =
                told_aligned structs (bare before.tac.types lies.0) callee (bare before.tac.types frozen) graph copies (λ number. refl) (λ number. refl) are sound lies.2
                (added_come one now lies.0 lies.1);
          }
    ]

    -- they are known then
    pub known_more : (bases after : List ℕ) → ((one : ℕ) → Contains bases one → Contains old one) → after ≡ bases ++ group ∷ [] → (joined : JoinedGroups) → joined.told.keys ≡ new → joined.bases.items ≡ after
        → AreKnownJoined before joined graph
    known_more bases after among pushed joined told called = record {
      closed = subst (AreClosed before.statics) (sym told) (adds.closed closed);
      aligned = λ one has. new_aligned one (subst (λ l. Contains l one) told has);
      bases = λ one has.
          subst (λ l. Contains l one) (sym told)
          (elim (Contains-push_cases bases group one (subst (λ l. Contains l one) (called ∙ pushed) has)) [
            | inl earlier ↦ subst (λ l. Contains l one) (sym adds.keys) (Contains-append_left old added one (among one earlier))
            | inr same ↦ subst (Contains new) same adds.told
          ]);
    }
