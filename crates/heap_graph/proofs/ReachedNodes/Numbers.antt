-- The numbers of marked nodes, one after another.
use Rattle.std.proofs.Common.{◌≡◌, ℕ, ◌+◌, ◌<◌, ◌≤◌, inl, inr, true, false, List, [], ◌∷◌, ◌++◌, length, Contains, sym, subst, arith}
use Rattle.std.proofs.lemmas.Bool.{cases_lt}
use Rattle.std.proofs.lemmas.List.{get_or_past}
use Rattle.std.proofs.lemmas.List.Elements.{Contains-append_left, Contains-push, Contains-push_cases}
use Rattle.heap_graph.specs.declared.marks.NodeMarks.{NodeMarks}
use Rattle.heap_graph.specs.Marks.{is_marked, AreMarked}

-- a marked number is one of the graph's
pub marked_within : (marks : NodeMarks) (number : ℕ) → is_marked marks number ≡ true → number < length marks.marks.items
marked_within marks number is = elim (cases_lt number (length marks.marks.items)) [ inl lt ↦ lt | inr le ↦ absurd (cc (get_or_past marks.marks.items number false le)) ]

pub record AreFirstMarked (marks : NodeMarks) (count : ℕ) (numbers : List ℕ) : Type 0 where
  pub all : (number : ℕ) → number < count → is_marked marks number ≡ true → Contains numbers number
  pub only : (number : ℕ) → Contains numbers number → (number < count) × (is_marked marks number ≡ true)

module _ (marks : NodeMarks) where
  pub first_of_none : (numbers : List ℕ) → numbers ≡ [] → AreFirstMarked marks 0 numbers
  first_of_none numbers none =
      record {
        all = λ number below is. absurd (omega (arith, below));
        only = λ number has. absurd (by (subst (λ l. Contains l number) none has));
      }
    where
      by : {number : ℕ} → Contains [] number → ⊥
      by has = omega (arith, has.1)

  pub first_marked : (count : ℕ) (old new : List ℕ) → AreFirstMarked marks count old → is_marked marks count ≡ true → new ≡ old ++ count ∷ [] → AreFirstMarked marks (count + 1) new
  first_marked count old new first marked is =
      record {
        all = λ number below has. subst (λ l. Contains l number) (sym is) (all number below has);
        only = λ number has. only number (subst (λ l. Contains l number) is has);
      }
    where
      all : (number : ℕ) → number < count + 1 → is_marked marks number ≡ true → Contains (old ++ count ∷ []) number
      all number below has =
          elim (cases_lt number count) [
            | inl lt ↦ Contains-append_left old (count ∷ []) number (first.all number lt has)
            | inr le ↦ subst (λ n. Contains (old ++ count ∷ []) n) (omega (arith, le, below)) (Contains-push old count)
          ]

      only : (number : ℕ) → Contains (old ++ count ∷ []) number → (number < count + 1) × (is_marked marks number ≡ true)
      only number has =
          elim (Contains-push_cases old count number has) [
            | inl before ↦ (omega (arith, (first.only number before).0), (first.only number before).1)
            | inr same ↦ (omega (arith, same), subst (λ n. is_marked marks n ≡ true) same marked)
          ]

  pub first_unmarked : (count : ℕ) (numbers : List ℕ) → AreFirstMarked marks count numbers → is_marked marks count ≡ false → AreFirstMarked marks (count + 1) numbers
  first_unmarked count numbers first unmarked =
      record {
        all = λ number below has. elim (cases_lt number count) [
          | inl lt ↦ first.all number lt has
          | inr le ↦ absurd (let same : number ≡ count = omega (arith, le, below) in cc (subst (λ n. is_marked marks n ≡ true) same has, unmarked))
        ];
        only = λ number has. (omega (arith, (first.only number has).0), (first.only number has).1);
      }

  pub first_are_all : (count : ℕ) (numbers : List ℕ) → AreFirstMarked marks count numbers → length marks.marks.items ≤ count → AreMarked marks numbers
  first_are_all count numbers first long =
      λ number. (λ is. first.all number (omega (arith, long, marked_within marks number is)) is, λ has. (first.only number has).1)
