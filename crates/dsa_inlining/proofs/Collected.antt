-- The calls of one owner after the other are joined with copies.
use Rattle.std.proofs.Common.{◌≡◌, ℕ, zero, suc, ◌+◌, ◌<◌, ◌≤◌, ◌⊎◌, ◌||◌, Bool, true, false, List, [], ◌∷◌, ◌++◌, length, length-append, option_map, Option, Some, inl, inr, refl, sym, ap, subst, ◌∙◌, arith}
use Rattle.std.specs.Prelude.{slice_get}
use Rattle.std.proofs.lemmas.Bool.{cases_lt}
use Rattle.std.proofs.lemmas.Option.{none-some, same_Some, slice_get-map, slice_get_cases, slice_get_within}
use Rattle.c_typed.specs.Layouts.{StructDef}
use Rattle.c_typed.specs.Table.{structs_in}
use Rattle.tac_ir.specs.declared.register.FunctionId.{FunctionId}
use Rattle.tac_ir.specs.Code.{Tac}
use Rattle.tac_ir.specs.States.{Owner, InStart, InFunction}
use Rattle.tac_ir.specs.Views.{tac_of}
use Rattle.heap_graph.specs.Structures.{AreMade}
use Rattle.heap_graph.specs.Graphs.{Target, OfCopy, Graph}
use Rattle.heap_graph.specs.Merging.{IsSound}
use Rattle.heap_graph.specs.Escaping.{same_owner}
use Rattle.graph_unification.specs.Memory.{owner_of}
use Rattle.std.proofs.Common.{eq-eqb}
use Rattle.graph_unification.specs.Going.{GoesOn}
use Rattle.graph_unification.proofs.Goes.{goes_same, goes_then}
use Rattle.dsa_local.specs.Mentioned.{is_among}
use Rattle.dsa_local.specs.Told.{NamesTold, NoCopies}
use Rattle.dsa_inlining.specs.Adding.{AreFree}
use Rattle.dsa_inlining.specs.declared.before.Crossings.{Crossings}
use Rattle.dsa_inlining.specs.Before.{GraphsBefore}
use Rattle.dsa_inlining.specs.Crossings.{owners_in, copies_at, EntriesStand, CallsCross, IsOfCall, IsOneCall, NumbersApart, AreCrossed}
use Rattle.dsa_inlining.specs.CallSteps.{OwnerNamed, IsOfEntry, OwnerCrosses, OwnersCross, AllLead}
use Rattle.dsa_inlining.proofs.Stepping.{entries_kept, calls_kept}

-- ---- lists

module _ {X : Type 0} where
  pub front : (xs : List X) (x : X) (place : ℕ) (y : X) → slice_get xs place ≡ Some y → slice_get (xs ++ x ∷ []) place ≡ Some y
  front [] x place y is = absurd (none-some y is)
  front (z ∷ xs) x zero y is = is
  front (z ∷ xs) x (suc place) y is = front xs x place y is

  pub last : (xs : List X) (x : X) → slice_get (xs ++ x ∷ []) (length xs) ≡ Some x
  last [] x = refl
  last (z ∷ xs) x = last xs x

  pub pushed : (xs : List X) (x : X) (place : ℕ) (y : X) → slice_get (xs ++ x ∷ []) place ≡ Some y → (slice_get xs place ≡ Some y) ⊎ ((place ≡ length xs) × (x ≡ y))
  pushed [] x zero y is = inr (refl, same_Some x y is)
  pushed [] x (suc place) y is = absurd (none-some y is)
  pushed (z ∷ xs) x zero y is = inl is
  pushed (z ∷ xs) x (suc place) y is = elim (pushed xs x place y is) [ inl there ↦ inl there | inr end ↦ inr (ap suc end.0, end.1) ]

-- what is before an item is there too
below_there : {X : Type 0} (xs : List X) (count : ℕ) (x : X) → slice_get xs count ≡ Some x → (place : ℕ) → place < count → (y : X) × (slice_get xs place ≡ Some y)
below_there xs count x at place less = elim (slice_get_cases xs place).1 [ inl found ↦ (found.0, found.2) | inr past ↦ absurd (omega (arith, past.0, slice_get_within xs count x at, less)) ]

-- ---- owners

same_itself : (owner : Owner) → same_owner owner owner ≡ true
same_itself InStart = refl
same_itself (InFunction number) = eq-eqb number number refl

among : (owners : List Owner) (place : ℕ) (owner : Owner) → slice_get owners place ≡ Some owner → is_among owner owners ≡ true
among [] place owner is = absurd (none-some owner is)
among (first ∷ owners) zero owner is = ap (λ o. same_owner o owner || is_among owner owners) (same_Some first owner is) ∙ ap (λ b. b || is_among owner owners) (same_itself owner)
among (first ∷ owners) (suc place) owner is = either (same_owner first owner) (among owners place owner is)
  where
    either : (b : Bool) {c : Bool} → c ≡ true → (b || c) ≡ true
    either true is = refl
    either false is = is

-- the names of an owner of the group have targets
pub owner_named : (tac : Tac) (owners : List (Option FunctionId)) (graph : Graph) → NamesTold tac (owners_in owners) graph → (place : ℕ) (owner : Option FunctionId) → slice_get owners place ≡ Some owner
    → OwnerNamed tac (owner_of owner) graph
owner_named tac owners graph told place owner is = λ function there.
    (told.functions (owner_of owner) function (among (owners_in owners) place (owner_of owner) (slice_get-map owner_of owners place ∙ ap (option_map owner_of) is)) there).names

-- ---- owners so far

abbrev pub EntriesAll : GraphsBefore → Option ℕ → List (Option FunctionId) → List Crossings → Graph → Type 0
EntriesAll before group owners all graph =
    (place : ℕ) (owner : Option FunctionId) (own : Crossings) → slice_get owners place ≡ Some owner → slice_get all place ≡ Some own → EntriesStand before group (owner_of owner) own graph

-- the calls of the first owners are joined with copies
pub record SoFar (before : GraphsBefore) (group : Option ℕ) (owners : List (Option FunctionId)) (all : List Crossings) (count next : ℕ) (old new : Graph) : Type 0 where
  pub size : length all ≡ count
  pub goes : GoesOn (structs_in before.tac.types) old new
  pub told : (names : List Owner) → NamesTold (tac_of before.tac) names old → NamesTold (tac_of before.tac) names new
  pub entries : EntriesAll before group owners all new
  pub calls : OwnersCross before group owners all new
  pub given : (number : ℕ) → number < next → IsOfCall all number
  pub free : AreFree new next
  pub apart : NumbersApart all
  pub leads : AllLead before group owners all old new

module _ (before : GraphsBefore) (made : AreMade (structs_in before.tac.types)) (group : Option ℕ) (owners : List (Option FunctionId)) where
  abbrev structs : List StructDef
  structs = structs_in before.tac.types

  pub none_so_far : (all : List Crossings) (graph : Graph) → all ≡ [] → IsSound structs graph → NoCopies graph → SoFar before group owners all 0 0 graph graph
  none_so_far all graph is sound copies = subst (λ (l : List Crossings). SoFar before group owners l 0 0 graph graph) (sym is) (record {
    size = refl;
    goes = goes_same structs made graph sound;
    told = λ names told. told;
    entries = λ place owner own at there. absurd (none-some own there);
    calls = λ place owner own at there. absurd (none-some own there);
    given = λ number less. absurd (omega (arith, less));
    free = λ copy from. copies copy;
    apart = λ number a b. absurd (none-some a.own a.there);
    leads = λ other into maps fits cross. (into, maps);
  })

  of_more : (all : List Crossings) (own : Crossings) (number : ℕ) → IsOfCall all number → IsOfCall (all ++ own ∷ []) number
  of_more all own number its =
      record { place = its.place; own = its.own; there = front all own its.place its.own its.there; site = its.site; called = its.called; copies = its.copies; at = its.at; node = its.node; is = its.is }

  module _ (all : List Crossings) (count next : ℕ) (old middle new : Graph) (sound : IsSound structs old) (fine : IsSound structs middle) (so_far : SoFar before group owners all count next old middle) (owner : Option FunctionId)
      (at : slice_get owners count ≡ Some owner) (own : Crossings) (crosses : OwnerCrosses before group (owner_of owner) next own middle new) where
    abbrev more : List Crossings
    more = all ++ own ∷ []

    -- what holds of the owners before, and of this one, holds of all so far
    each : (P : Option FunctionId → Crossings → Type 0)
        → ((place : ℕ) (owner' : Option FunctionId) (own' : Crossings) → slice_get owners place ≡ Some owner' → slice_get all place ≡ Some own' → P owner' own') → P owner own
        → (place : ℕ) (owner' : Option FunctionId) (own' : Crossings) → slice_get owners place ≡ Some owner' → slice_get more place ≡ Some own' → P owner' own'
    each P were is place owner' own' here there = elim (pushed all own place own' there) [
      | inl earlier ↦ were place owner' own' here earlier
      | inr end ↦ (let same : owner ≡ owner' = same_Some owner owner' (sym at ∙ (ap (λ n. slice_get owners n) (sym (end.0 ∙ so_far.size)) ∙ here)) in
          subst (λ o. P o own') same (subst (λ k. P owner k) end.1 is))
    ]

    there : slice_get more count ≡ Some own
    there = ap (λ n. slice_get more n) (sym so_far.size) ∙ last all own

    given_more : (number : ℕ) → number < own.next → IsOfCall more number
    given_more number less = by (cases_lt number next)
      where
        by : (number < next) ⊎ (next ≤ number) → IsOfCall more number
        by (inl below) = of_more all own number (so_far.given number below)
        by (inr behind) =
            let its = crosses.given number behind less in
            record { place = count; own = own; there = there; site = its.site; called = its.called; copies = its.copies; at = its.at; node = its.node; is = its.is }

    -- a number is of an owner before, or of this one
    of_before : (number : ℕ) (its : IsOfCall more number) → slice_get all its.place ≡ Some its.own → IsOfCall all number
    of_before number its there = record { place = its.place; own = its.own; there = there; site = its.site; called = its.called; copies = its.copies; at = its.at; node = its.node; is = its.is }

    of_last : (number : ℕ) (its : IsOfCall more number) → own ≡ its.own → IsOfEntry own number
    of_last number its same = record { site = its.site; called = its.called; copies = its.copies; at = ap (λ k. copies_at k its.site its.called) same ∙ its.at; node = its.node; is = its.is }

    -- that of one before has a target
    before_there : (number : ℕ) → IsOfCall all number → (target : Target) × (middle.targets (OfCopy number) ≡ Some target)
    before_there number its =
        let owner = below_there owners count owner at its.place (omega (arith, slice_get_within all its.place its.own its.there, so_far.size)) in
        let stand = (so_far.entries its.place owner.0 its.own owner.1 its.there its.site its.called its.copies its.at).0 in
        let node = (stand.numbered.only its.node number its.is).1 in
        let fits = stand.copied.nodes its.node number node.0 its.is node.1 in
        (fits.target, fits.is)

    apart_more : NumbersApart more
    unfolding of_before of_last
    apart_more number a b = by (pushed all own a.place a.own a.there) (pushed all own b.place b.own b.there)
      where
        by : (slice_get all a.place ≡ Some a.own) ⊎ ((a.place ≡ length all) × (own ≡ a.own)) → (slice_get all b.place ≡ Some b.own) ⊎ ((b.place ≡ length all) × (own ≡ b.own)) → IsOneCall more number a b
        by (inl x) (inl y) =
            let same = so_far.apart number (of_before number a x) (of_before number b y) in
            record { place = same.place; site = same.site; called = same.called; node = same.node }
        by (inr x) (inr y) =
            let same = crosses.apart number (of_last number a x.1) (of_last number b y.1) in
            record { place = x.0 ∙ sym y.0; site = same.site; called = same.called; node = same.node }
        by (inl x) (inr y) =
            let there = before_there number (of_before number a x) in
            absurd (none-some there.0 (sym (crosses.added number (of_last number b y.1)) ∙ there.1))
        by (inr x) (inl y) =
            let there = before_there number (of_before number b y) in
            absurd (none-some there.0 (sym (crosses.added number (of_last number a x.1)) ∙ there.1))

    pub more_so_far : (pushed_all : List Crossings) → pushed_all ≡ more → SoFar before group owners pushed_all (count + 1) own.next old new
    more_so_far pushed_all is = subst (λ (l : List Crossings). SoFar before group owners l (count + 1) own.next old new) (sym is) (record {
      size = omega (arith, length-append all (own ∷ []), so_far.size);
      goes = goes_then structs made old middle new sound so_far.goes crosses.goes;
      told = λ names told. crosses.told names (so_far.told names told);
      entries = each (λ o k. EntriesStand before group (owner_of o) k new)
          (λ place o k here was. entries_kept before made group (owner_of o) k middle new fine crosses.goes (so_far.entries place o k here was)) crosses.stands.entries;
      calls = each (λ o k. CallsCross before group (owner_of o) k new)
          (λ place o k here was. calls_kept before made group (owner_of o) k middle new fine crosses.goes (so_far.calls place o k here was)) crosses.crossed;
      given = given_more;
      free = crosses.stands.free;
      apart = apart_more;
      leads = λ other into maps fits cross.
          let mid = so_far.leads other into maps fits (λ place o k here was. cross place o k here (front all own place k was)) in
          crosses.leads other mid.0 mid.1 (fits count owner at) (cross count owner own at there);
    })

  -- all are
  pub all_crossed : (all : List Crossings) (count next : ℕ) (old new : Graph) → count ≡ length owners → SoFar before group owners all count next old new → AreCrossed before group owners all new
  all_crossed all count next old new is its = record {
    size = its.size ∙ is;
    entries = its.entries;
    calls = its.calls;
    names = λ number target at. by number target at (cases_lt number next);
  }
    where
      by : (number : ℕ) (target : Target) → new.targets (OfCopy number) ≡ Some target → (number < next) ⊎ (next ≤ number) → IsOfCall all number
      by number target at (inl below) = its.given number below
      by number target at (inr behind) = absurd (none-some target (sym (its.free number behind) ∙ at))
