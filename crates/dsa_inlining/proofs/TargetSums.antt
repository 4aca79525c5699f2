-- What is counted over the functions to which a call may come and from which something escapes, each of which stands once in a list, is what is
-- counted over all functions.
use Rattle.std.proofs.Common.{◌≡◌, ℕ, zero, suc, ◌+◌, ◌<◌, ◌==◌, ◌&&◌, ◌||◌, Bool, true, false, if◌then◌else◌, inl, inr, List, [], ◌∷◌, length, refl, sym, ap, subst, ◌∙◌, arith, eqb-true, eq-eqb, ◌↔◌, ◌≤◌}
use borrow.Author.Tests.{ltb-true, ltb-false, lt-ltb}
use Rattle.std.specs.Prelude.{nat_lt}
use Rattle.std.specs.List.{list_any}
use Rattle.std.proofs.lemmas.Bool.{true≢false, false≢true}
use Rattle.tac_ir.specs.Code.{Callee, Tac}
use Rattle.tac_ir.specs.Targets.{is_target}
use Rattle.call_graph.specs.RowLists.{Has, is_among}
use Rattle.heap_graph.specs.Graphs.{Name}
use Rattle.dsa_inlining.specs.Counting.{total, any_below, Outside, copies_to, comes_out}
use Rattle.dsa_inlining.specs.Live.{IsOnce}
use Rattle.dsa_inlining.specs.Tallies.{AreQuiet, copies_from, told_from, call_names, any_of}

-- ---- lists

has_among : (number : ℕ) (numbers : List ℕ) → Has numbers number → is_among number numbers ≡ true
has_among number [] has = absurd has
has_among number (first ∷ numbers) (inl same) = ap (λ t. t || is_among number numbers) (eq-eqb first number (sym same))
has_among number (first ∷ numbers) (inr has) = by (first == number) (has_among number numbers has)
  where
    by : (t : Bool) → is_among number numbers ≡ true → (t || is_among number numbers) ≡ true
    by true e = refl
    by false e = e

among_has : (number : ℕ) (numbers : List ℕ) → is_among number numbers ≡ true → Has numbers number
among_has number [] is = absurd (false≢true is)
among_has number (first ∷ numbers) is = by (first == number) refl (among_has number numbers) is
  where
    by : (t : Bool) → (first == number) ≡ t → (is_among number numbers ≡ true → Has numbers number) → (t || is_among number numbers) ≡ true → Has (first ∷ numbers) number
    by true e rest is = inl (sym (eqb-true first number e))
    by false e rest is = inr (rest is)

not_among : (number : ℕ) (numbers : List ℕ) → (Has numbers number → ⊥) → is_among number numbers ≡ false
not_among number numbers never = by (is_among number numbers) refl
  where
    by : (t : Bool) → is_among number numbers ≡ t → is_among number numbers ≡ false
    by true e = absurd (never (among_has number numbers e))
    by false e = e

-- exactly the functions to which the call may come and that pass a test, each once
pub record ListsLive (tac : Tac) (callee : Callee) (live : ℕ → Bool) (functions : List ℕ) : Type 0 where
  pub each : (called : ℕ) → Has functions called ↔ ((is_target tac callee called ≡ true) × (live called ≡ true))
  pub once : IsOnce functions

-- what the call may come to and passes the test is what stands in the list
target_among : (tac : Tac) (callee : Callee) (live : ℕ → Bool) (functions : List ℕ) → ListsLive tac callee live functions → (number : ℕ) → (is_target tac callee number && live number) ≡ is_among number functions
target_among tac callee live functions are number = by (is_target tac callee number) refl (live number) refl
  where
    by : (t : Bool) → is_target tac callee number ≡ t → (l : Bool) → live number ≡ l → (t && l) ≡ is_among number functions
    by true e true f = sym (has_among number functions ((are.each number).1 (e, f)))
    by true e false f = sym (not_among number functions (λ has. true≢false (sym ((are.each number).0 has).1 ∙ f)))
    by false e l f = sym (not_among number functions (λ has. true≢false (sym ((are.each number).0 has).0 ∙ e)))

-- ---- sums

abbrev sum_below : ℕ → (ℕ → ℕ) → ℕ
sum_below zero of = 0
sum_below (suc count) of = of count + sum_below count of

sums_same : (count : ℕ) (of other : ℕ → ℕ) → ((number : ℕ) → number < count → of number ≡ other number) → sum_below count of ≡ sum_below count other
sums_same zero of other same = refl
sums_same (suc count) of other same = λ i. same count (omega arith) i + sums_same count of other (λ number less. same number (omega (arith, less))) i

sums_zero : (count : ℕ) → sum_below count (λ number. 0) ≡ 0
sums_zero zero = refl
sums_zero (suc count) = omega (arith, sums_zero count)

sums_both : (count : ℕ) (of other : ℕ → ℕ) → sum_below count (λ number. of number + other number) ≡ sum_below count of + sum_below count other
sums_both zero of other = refl
sums_both (suc count) of other = let e : sum_below count (λ number. of number + other number) ≡ sum_below count of + sum_below count other = sums_both count of other in omega (arith, e)

below_not : (one count : ℕ) → count ≤ one → nat_lt one count ≡ false
below_not one count long = by (nat_lt one count) refl
  where
    by : (t : Bool) → nat_lt one count ≡ t → nat_lt one count ≡ false
    by true e = absurd (let less : one < count = ltb-true one count e in omega (arith, long, less))
    by false e = e

-- below one more are the number itself and those below
below_more : (one count : ℕ) → nat_lt one (suc count) ≡ ((one == count) || nat_lt one count)
below_more one count = by (one == count) refl
  where
    apart : (t : Bool) → nat_lt one count ≡ t → (one == count) ≡ false → nat_lt one (suc count) ≡ t
    apart true e other = lt-ltb one (suc count) (let less : one < count = ltb-true one count e in omega (arith, less))
    apart false e other =
        below_not one (suc count) (let long : count ≤ one = ltb-false one count e in
        let differ : one ≡ count → ⊥ = λ same. true≢false (sym (eq-eqb one count same) ∙ other) in
        omega (arith, long, differ))

    by : (t : Bool) → (one == count) ≡ t → nat_lt one (suc count) ≡ (t || nat_lt one count)
    by true e = lt-ltb one (suc count) (let same : one ≡ count = eqb-true one count e in omega (arith, same))
    by false e = apart (nat_lt one count) refl e

-- one number alone counts
sum_one : (count one : ℕ) (of : ℕ → ℕ) → sum_below count (λ number. if one == number then of number else 0) ≡ (if nat_lt one count then of one else 0)
sum_one zero one of = ap (λ t. if t then of one else 0) (sym (below_not one 0 (omega arith)))
sum_one (suc count) one of = by (one == count) refl (sum_one count one of) ∙ ap (λ t. if t then of one else 0) (sym (below_more one count))
  where
    by : (t : Bool) → (one == count) ≡ t → sum_below count (λ number. if one == number then of number else 0) ≡ (if nat_lt one count then of one else 0)
        → (if t then of count else 0) + sum_below count (λ number. if one == number then of number else 0) ≡ (if t || nat_lt one count then of one else 0)
    by true e rest =
        let same : one ≡ count = eqb-true one count e in
        ap (λ n. of count + n) (rest ∙ ap (λ t. if t then of one else 0) (below_not one count (omega (arith, same)))) ∙ (omega arith ∙ ap of (sym same))
    by false e rest = omega arith ∙ rest

-- A list in which each number stands once: what its numbers count below another, all numbers below count that stand in it.
sum_listed : (count : ℕ) (of : ℕ → ℕ) (numbers : List ℕ) → IsOnce numbers
    → sum_below count (λ number. if is_among number numbers then of number else 0) ≡ total (λ number. if nat_lt number count then of number else 0) numbers
sum_listed count of [] once = sums_zero count
sum_listed count of (first ∷ numbers) once =
    sums_same count (λ number. if is_among number (first ∷ numbers) then of number else 0) (λ number. (if first == number then of number else 0) + (if is_among number numbers then of number else 0))
    (λ number less. by number (first == number) refl)
    ∙ (sums_both count (λ number. if first == number then of number else 0) (λ number. if is_among number numbers then of number else 0)
    ∙ (λ i. sum_one count first of i + sum_listed count of numbers once.1 i))
  where
    later : (number : ℕ) → (first == number) ≡ true → is_among number numbers ≡ false
    later number e = not_among number numbers (λ has. once.0 (subst (Has numbers) (sym (eqb-true first number e)) has))

    by : (number : ℕ) (t : Bool) → (first == number) ≡ t
        → (if t || is_among number numbers then of number else 0) ≡ (if t then of number else 0) + (if is_among number numbers then of number else 0)
    by number true e = omega arith ∙ ap (λ t. of number + (if t then of number else 0)) (sym (later number e))
    by number false e = omega arith

-- ---- copies

module _ (tac : Tac) (outside : Outside) (callee : Callee) (live : ℕ → Bool) (quiet : AreQuiet outside live) (functions : List ℕ) (are : ListsLive tac callee live functions) where
  abbrev copies : ℕ → ℕ
  copies number = if outside.is_out number then outside.escaping number else 0

  copies_summed : (count : ℕ) → copies_to tac outside count callee ≡ sum_below count (λ number. if is_among number functions then copies number else 0)
  copies_summed zero = refl
  copies_summed (suc count) = λ i. one i + copies_summed count i
    where
      by : (t o l : Bool) → live count ≡ l → (if t && o then outside.escaping count else 0) ≡ (if t && l then (if o then outside.escaping count else 0) else 0)
      by true o true e = refl
      by true true false e = quiet.escaping count e
      by true false false e = refl
      by false o l e = refl

      one : (if comes_out tac outside callee count then outside.escaping count else 0) ≡ (if is_among count functions then copies count else 0)
      one = by (is_target tac callee count) (outside.is_out count) (live count) refl ∙ ap (λ t. if t then copies count else 0) (target_among tac callee live functions are count)

  totals_same : (of other : ℕ → ℕ) → ((number : ℕ) → of number ≡ other number) → (numbers : List ℕ) → total of numbers ≡ total other numbers
  totals_same of other same [] = refl
  totals_same of other same (first ∷ numbers) = λ i. same first i + totals_same of other same numbers i

  pub copies_counted : total (copies_from tac outside) functions ≡ copies_to tac outside (length tac.functions) callee
  copies_counted =
      totals_same (copies_from tac outside) (λ number. if nat_lt number (length tac.functions) then copies number else 0)
      (λ number. by (nat_lt number (length tac.functions)) (outside.is_out number) (outside.escaping number)) functions
      ∙ (sym (sum_listed (length tac.functions) copies functions are.once) ∙ sym (copies_summed (length tac.functions)))
    where
      by : (t o : Bool) (n : ℕ) → (if t && o then n else 0) ≡ (if t then (if o then n else 0) else 0)
      by true o n = refl
      by false o n = refl

  -- ---- names

  any_shown : (test : ℕ → Bool) (count number : ℕ) → number < count → test number ≡ true → any_below count test ≡ true
  any_shown test zero number less is = absurd (omega (arith, less))
  any_shown test (suc count) number less is = by (test count) refl (λ below. any_shown test count number below is)
    where
      by : (t : Bool) → test count ≡ t → (number < count → any_below count test ≡ true) → (t || any_below count test) ≡ true
      by true e rest = refl
      by false e rest = rest (let differ : number ≡ count → ⊥ = λ same. true≢false (sym is ∙ (ap test same ∙ e)) in omega (arith, less, differ))

  any_found : (test : ℕ → Bool) (count : ℕ) → any_below count test ≡ true → (number : ℕ) × (number < count) × (test number ≡ true)
  any_found test zero is = absurd (false≢true is)
  any_found test (suc count) is = by (test count) refl (any_found test count) is
    where
      by : (t : Bool) → test count ≡ t → (any_below count test ≡ true → (number : ℕ) × (number < count) × (test number ≡ true)) → (t || any_below count test) ≡ true
          → (number : ℕ) × (number < suc count) × (test number ≡ true)
      by true e rest is = (count, omega arith, e)
      by false e rest is = let found = rest is in (found.0, omega (arith, found.1), found.2)

  listed : (test : ℕ → Bool) (numbers : List ℕ) (number : ℕ) → Has numbers number → test number ≡ true → list_any test numbers ≡ true
  listed test [] number has is = absurd has
  listed test (first ∷ numbers) number (inl same) is = ap (λ t. t || list_any test numbers) (ap test (sym same) ∙ is)
  listed test (first ∷ numbers) number (inr has) is = by (test first) (listed test numbers number has is)
    where
      by : (t : Bool) → list_any test numbers ≡ true → (t || list_any test numbers) ≡ true
      by true e = refl
      by false e = e

  list_found : (test : ℕ → Bool) (numbers : List ℕ) → list_any test numbers ≡ true → (number : ℕ) × Has numbers number × (test number ≡ true)
  list_found test [] is = absurd (false≢true is)
  list_found test (first ∷ numbers) is = by (test first) refl (list_found test numbers) is
    where
      by : (t : Bool) → test first ≡ t → (list_any test numbers ≡ true → (number : ℕ) × Has numbers number × (test number ≡ true)) → (t || list_any test numbers) ≡ true
          → (number : ℕ) × Has (first ∷ numbers) number × (test number ≡ true)
      by true e rest is = (first, inl refl, e)
      by false e rest is = let found = rest is in (found.0, inr found.1, found.2)

  pub names_told : (name : Name) → any_of (told_from tac outside) functions name ≡ call_names tac outside callee name
  names_told name = by (any_of (told_from tac outside) functions name) refl (call_names tac outside callee name) refl
    where
      one : ℕ → Bool
      one number = told_from tac outside number name

      all : ℕ → Bool
      all number = comes_out tac outside callee number && outside.tells number name

      ones : (number : ℕ) → one number ≡ true → (number < length tac.functions) × ((outside.is_out number && outside.tells number name) ≡ true)
      ones number is = by (nat_lt number (length tac.functions)) refl (outside.is_out number) (outside.tells number name) is
        where
          by : (l : Bool) → nat_lt number (length tac.functions) ≡ l → (o t : Bool) → ((l && o) && t) ≡ true → (number < length tac.functions) × ((o && t) ≡ true)
          by true e true t is = (ltb-true number (length tac.functions) e, is)
          by true e false t is = absurd (false≢true is)
          by false e o t is = absurd (false≢true is)

      alls : (number : ℕ) → all number ≡ true → (is_target tac callee number ≡ true) × ((outside.is_out number && outside.tells number name) ≡ true)
      alls number is = by (is_target tac callee number) (outside.is_out number) (outside.tells number name) is
        where
          by : (l o t : Bool) → ((l && o) && t) ≡ true → (l ≡ true) × ((o && t) ≡ true)
          by true true t is = (refl, is)
          by true false t is = absurd (false≢true is)
          by false o t is = absurd (false≢true is)

      put : (l o t : Bool) → l ≡ true → (o && t) ≡ true → ((l && o) && t) ≡ true
      put true true t first second = second
      put true false t first second = second
      put false o t first second = absurd (false≢true first)

      forth : any_of (told_from tac outside) functions name ≡ true → call_names tac outside callee name ≡ true
      forth is =
          let found = list_found one functions is in
          let parts = ones found.0 found.2 in
          any_shown all (length tac.functions) found.0 parts.0 (put (is_target tac callee found.0) (outside.is_out found.0) (outside.tells found.0 name) ((are.each found.0).0 found.1).0 parts.1)

      -- something escapes a function that tells of a name
      loud : (number : ℕ) (l : Bool) → live number ≡ l → (o t : Bool) → outside.tells number name ≡ t → (o && t) ≡ true → live number ≡ true
      loud number true e o t told is = e
      loud number false e true t told is = absurd (true≢false (sym is ∙ (sym told ∙ quiet.tells number name e)))
      loud number false e false t told is = absurd (false≢true is)

      back : call_names tac outside callee name ≡ true → any_of (told_from tac outside) functions name ≡ true
      back is =
          let found = any_found all (length tac.functions) is in
          let parts = alls found.0 found.2 in
          listed one functions found.0 ((are.each found.0).1 (parts.0, loud found.0 (live found.0) refl (outside.is_out found.0) (outside.tells found.0 name) refl parts.1))
          (put (nat_lt found.0 (length tac.functions)) (outside.is_out found.0) (outside.tells found.0 name) (lt-ltb found.0 (length tac.functions) found.1) parts.1)

      by : (a : Bool) → any_of (told_from tac outside) functions name ≡ a → (b : Bool) → call_names tac outside callee name ≡ b
          → any_of (told_from tac outside) functions name ≡ call_names tac outside callee name
      by true p true q = p ∙ sym q
      by true p false q = absurd (true≢false (sym (forth p) ∙ q))
      by false p true q = absurd (true≢false (sym (back q) ∙ p))
      by false p false q = p ∙ sym q
