-- Names that get nodes where they have none, one after another.
use Rattle.std.proofs.Common.{◌≡◌, ℕ, suc, zero, ◌+◌, true, List, [], ◌∷◌, drop, Option, Some, None, refl, sym, ap, subst, ◌∙◌, ◌⊎◌, inl, inr, arith, below_more}
use Rattle.std.specs.Prelude.{slice_get, Result, Ok, Err, OnOk}
use Rattle.c_typed.specs.Types.{CType}
use Rattle.heap_graph.specs.Graphs.{Node, Name, Graph}
use Rattle.heap_graph.specs.Targets.{has_target}
use Rattle.graph_unification.proofs.NameKeys.{name_cases}
use Rattle.graph_unification.specs.Adding.{AddsName, AddsMissing, Added, Had, AddsSome, Same, More, AddsEach}
use Rattle.graph_unification.specs.GraphNames.First.{first_of, others_of}

pub ok_added : {E : Type 0} (result : Result (Unit {0}) E) (old new : Graph) (name : Name) (node : Node) → OnOk result (AddsName old new name node) → OnOk result (AddsMissing old new name node)
ok_added (Ok x) old new name node h = Added h
ok_added (Err e) old new name node h = tt

-- ---- targets stay

pub one_stays : (old new : Graph) (name : Name) (node : Node) (other : Name) → AddsName old new name node → has_target (old.targets other) ≡ true → has_target (new.targets other) ≡ true
one_stays old new name node other adds h = by (name_cases name other)
  where
    by : (other ≡ name) ⊎ (other ≡ name → ⊥) → has_target (new.targets other) ≡ true
    by (inl is) = ap has_target (ap new.targets is ∙ adds.target)
    by (inr differs) = ap has_target (adds.names other differs) ∙ h

pub missing_stays : (old new : Graph) (name : Name) (node : Node) (other : Name) → AddsMissing old new name node → has_target (old.targets other) ≡ true → has_target (new.targets other) ≡ true
missing_stays old new name node other (Added adds) h = one_stays old new name node other adds h
missing_stays old new name node other (Had target e same) h = ap (λ (g : Graph). has_target (g.targets other)) same ∙ h

pub some_stay : (first : Name → Option Node) (old new : Graph) (other : Name) → AddsSome first old new → has_target (old.targets other) ≡ true → has_target (new.targets other) ≡ true
some_stay first old new other Same h = h
some_stay first old new other (More middle _ name node more is adds) h = one_stays middle new name node other adds (some_stay first old middle other more h)

pub missing_has : (old new : Graph) (name : Name) (node : Node) → AddsMissing old new name node → has_target (new.targets name) ≡ true
missing_has old new name node (Added adds) = ap has_target adds.target
missing_has old new name node (Had target e same) = ap (λ (g : Graph). has_target (g.targets name)) same ∙ ap has_target e

-- ---- one after another

pub joined : (first : Name → Option Node) (a b c : Graph) → AddsSome first a b → AddsSome first b c → AddsSome first a c
joined first a b c one Same = one
joined first a b c one (More middle _ name node more is adds) = More middle c name node (joined first a b middle one more) is adds

pub missing_some : (first : Name → Option Node) (old new : Graph) (name : Name) (node : Node) → AddsMissing old new name node → (old.targets name ≡ None → first name ≡ Some node) → AddsSome first old new
missing_some first old new name node (Added adds) is = More old new name node Same (is adds.had_none) adds
missing_some first old new name node (Had target e same) is = subst (λ (g : Graph). AddsSome first old g) (sym same) Same

pub each_none : (graph : Graph) (name_at : ℕ → Name) (first_at : ℕ → Node) → AddsEach graph graph name_at first_at 0
each_none graph name_at first_at = record { adds = λ first is. Same; has = λ number less. absurd (omega (arith, less)) }

pub each_more : (old middle new : Graph) (name_at : ℕ → Name) (first_at : ℕ → Node) (count : ℕ) → AddsEach old middle name_at first_at count
    → AddsMissing middle new (name_at count) (first_at count) → AddsEach old new name_at first_at (count + 1)
each_more old middle new name_at first_at count each missing = record {
  adds = λ first is.
      joined first old middle new (each.adds first (λ number less. is number (omega (arith, less))))
      (missing_some first middle new (name_at count) (first_at count) missing (λ none. is count (omega arith)));
  has =
      below_more (λ number. has_target (new.targets (name_at number)) ≡ true) count
      (λ number less. missing_stays middle new (name_at count) (first_at count) (name_at number) missing (each.has number less))
      (missing_has middle new (name_at count) (first_at count) missing);
}

-- ---- formals that are left

pub drop_none : (types : List CType) → drop 0 types ≡ types
drop_none [] = refl
drop_none (c_type ∷ types) = refl

pub first_left : (number : ℕ) (types : List CType) → first_of (drop number types) ≡ slice_get types number
first_left zero [] = refl
first_left zero (c_type ∷ types) = refl
first_left (suc number) [] = refl
first_left (suc number) (c_type ∷ types) = first_left number types

others_next : (number : ℕ) (types : List CType) → others_of (drop number types) ≡ drop (suc number) types
others_next zero [] = refl
others_next zero (c_type ∷ types) = refl
others_next (suc number) [] = refl
others_next (suc number) (c_type ∷ types) = others_next number types

pub others_left : (number : ℕ) (types : List CType) → others_of (drop number types) ≡ drop (number + 1) types
others_left number types =
    let one : suc number ≡ number + 1 = omega arith in
    others_next number types ∙ ap (λ n. drop n types) one
