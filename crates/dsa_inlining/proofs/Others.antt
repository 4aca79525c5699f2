-- Numbers that are put in sets, and those of a map that aren't.
use Rattle.std.proofs.Common.{◌≡◌, ◌⊎◌, inl, inr, ℕ, ◌+◌, ◌<◌, ◌≤◌, true, List, [], ◌∷◌, ◌++◌, length, get_or, Contains, Option, Some, None, refl, sym, subst, ◌∙◌, arith}
use Rattle.std.specs.Cmp.{nat_eq_equiv}
use Rattle.std.specs.List.{list_any}
use Rattle.std.specs.Prelude.{nat_eq, IsSome}
use Rattle.std.proofs.lemmas.Bool.{false≢true, eqb-true, cases_lt}
use Rattle.std.proofs.lemmas.List.{get_or_default}
use Rattle.std.proofs.lemmas.List.Elements.{Contains-append_left, Contains-get_or, Contains-push, Contains-push_cases}
use Rattle.std.proofs.lemmas.Map.Views.{Contains-keys_from_lookup, IsSome-lookup_from_Contains}
use Rattle.indexmap.specs.IndexMap.{IndexMap, keys, get_by}
use Rattle.indexmap.specs.IndexSet.{insert_key}
use Rattle.indexmap.proofs.CallerLemmas.{Contains-list_any}
use Rattle.heap_graph.specs.declared.graph.Target as memory_target
use Rattle.heap_graph.specs.Targets.{has_target}
use Rattle.heap_graph.specs.Frozen.{optional_target}
use Rattle.dsa_inlining.specs.Own.{AddsNumbers, AreOthers}
use Rattle.dsa_inlining.proofs.SeenNodes.{none_contained, inserted_cases}

-- ---- a set

pub numbers_none : (old numbers : List ℕ) → AddsNumbers old old numbers
numbers_none old numbers = λ number has. inl has

pub numbers_more : (old keys more numbers : List ℕ) (new : ℕ) → Contains numbers new → more ≡ insert_key nat_eq keys new → AddsNumbers old keys numbers → AddsNumbers old more numbers
numbers_more old keys more numbers new among is its = λ number has. by number (inserted_cases keys new number (subst (λ l. Contains l number) is has))
  where
    by : (number : ℕ) → Contains keys number ⊎ (new ≡ number) → Contains old number ⊎ Contains numbers number
    by number (inl has) = its number has
    by number (inr same) = inr (subst (Contains numbers) same among)

-- ---- what is left of a map

-- those that were listed are among the keys, and of the first keys the others are told
pub record AreOthersFirst (keys told numbers : List ℕ) (count : ℕ) : Type 0 where
  pub among : (number : ℕ) → Contains numbers number → Contains keys number
  pub each : (place : ℕ) → place < count → Contains numbers (get_or keys place 0) ⊎ Contains told (get_or keys place 0)

pub others_none : (keys told numbers : List ℕ) → numbers ≡ [] → AreOthersFirst keys told numbers 0
others_none keys told numbers none = record { among = λ number has. absurd (none_contained number (subst (λ l. Contains l number) none has)); each = λ place below. absurd (omega (arith, below)) }

module _ (keys told numbers : List ℕ) (count : ℕ) (within : count < length keys) (its : AreOthersFirst keys told numbers count) where
  -- the next is told
  pub others_told : list_any (nat_eq (get_or keys count 0)) told ≡ true → AreOthersFirst keys told numbers (count + 1)
  others_told found = record {
    among = its.among;
    each = λ place below. elim (cases_lt place count) [
      | inl lt ↦ its.each place lt
      | inr le ↦
          let same : count ≡ place = omega (arith, le, below) in
          inr (subst (λ p. Contains told (get_or keys p 0)) same (Contains-list_any nat_eq eqb-true told (get_or keys count 0) found))
    ];
  }

  -- it is listed
  pub others_listed : (more : List ℕ) → more ≡ numbers ++ get_or keys count 0 ∷ [] → AreOthersFirst keys told more (count + 1)
  others_listed more is = record {
    among = λ number has. by number (Contains-push_cases numbers (get_or keys count 0) number (subst (λ l. Contains l number) is has));
    each = λ place below. elim (cases_lt place count) [
      | inl lt ↦ still place (its.each place lt)
      | inr le ↦
          let same : count ≡ place = omega (arith, le, below) in
          inl (subst (λ p. Contains more (get_or keys p 0)) same (subst (λ l. Contains l (get_or keys count 0)) (sym is) (Contains-push numbers (get_or keys count 0))))
    ];
  }
    where
      by : (number : ℕ) → Contains numbers number ⊎ (get_or keys count 0 ≡ number) → Contains keys number
      by number (inl has) = its.among number has
      by number (inr same) = subst (Contains keys) same (Contains-get_or keys count 0 within)

      still : (place : ℕ) → Contains numbers (get_or keys place 0) ⊎ Contains told (get_or keys place 0) → Contains more (get_or keys place 0) ⊎ Contains told (get_or keys place 0)
      still place (inl has) = inl (subst (λ l. Contains l (get_or keys place 0)) (sym is) (Contains-append_left numbers (get_or keys count 0 ∷ []) (get_or keys place 0) has))
      still place (inr has) = inr has

module _ {S : Type 0} (targets : IndexMap ℕ memory_target.Target S) where
  has_from : (found : Option memory_target.Target) → IsSome found → has_target (optional_target found) ≡ true
  has_from None is = absurd (false≢true is)
  has_from (Some target) is = refl

  is_some : (found : Option memory_target.Target) → has_target (optional_target found) ≡ true → IsSome found
  is_some None has = absurd (false≢true has)
  is_some (Some target) has = refl

  pub others_all : (items told numbers : List ℕ) (count : ℕ) → items ≡ keys targets → length items ≤ count → AreOthersFirst items told numbers count → AreOthers targets told numbers
  others_all items told numbers count same out its = record {
    listed = λ number has. has_from (get_by (nat_eq number) targets) (IsSome-lookup_from_Contains {eq = nat_eq} nat_eq_equiv number targets.entries (subst (λ l. Contains l number) same (its.among number has)));
    all = λ number has. by number (subst (λ l. Contains l number) (sym same) (Contains-keys_from_lookup {eq = nat_eq} eqb-true number targets.entries (is_some (get_by (nat_eq number) targets) has)));
  }
    where
      by : (number : ℕ) → Contains items number → Contains numbers number ⊎ Contains told number
      by number among =
          let within = among.1 in
          let there : get_or items among.0 0 ≡ number = get_or_default items among.0 0 number within ∙ among.2 in
          subst (λ n. Contains numbers n ⊎ Contains told n) there (its.each among.0 (omega (arith, within, out)))
