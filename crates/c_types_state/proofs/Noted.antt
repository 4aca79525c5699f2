-- The least of violations: of two lists one after the other, and of all.
use Rattle.std.proofs.Common.{◌≡◌, ℕ, ◌<◌, ◌≤◌, ◌⊎◌, inl, inr, Bool, true, false, true≢false, ◌&&◌, ◌||◌, ◌==◌, List, [], ◌∷◌, ◌++◌, Option, Some, None, refl, sym, ap, ◌∙◌, arith}
use Rattle.std.specs.Prelude.{if◌then◌else◌, nat_lt, nat_le}
use Rattle.std.proofs.lemmas.Bool.Decides.{nat_tests}
use Rattle.c_rules.specs.declared.violation.Violation.{Violation}
use Rattle.c_rules.specs.Known.{comes_first, least_of_two, least, rule_number}
use Rattle.c_types_state.specs.Finding.{lesser, noted}

pub noted_append : (l : Option Violation) (xs ys : List Violation) → noted l (xs ++ ys) ≡ noted (noted l xs) ys
noted_append l [] ys = refl
noted_append l (x ∷ xs) ys = noted_append (lesser l x) xs ys

-- ---- an order that is total

abbrev first_of_numbers : ℕ → ℕ → ℕ → ℕ → ℕ → ℕ → Bool
first_of_numbers line column rule line' column' rule' =
    (nat_lt line line' || ((line == line') && nat_lt column column')) || (((line == line') && (column == column')) && nat_le rule rule')

numbers_total : (l c r l' c' r' : ℕ) → first_of_numbers l c r l' c' r' ≡ false → first_of_numbers l' c' r' l c r ≡ true
numbers_total l c r l' c' r' h = grind (arith, nat_tests)

-- what the test says
abbrev InOrder : ℕ → ℕ → ℕ → ℕ → ℕ → ℕ → Type 0
InOrder l c r l' c' r' = (l < l') ⊎ (((l ≡ l') × (c < c')) ⊎ ((l ≡ l') × (c ≡ c') × (r ≤ r')))

in_order : (l c r l' c' r' : ℕ) → first_of_numbers l c r l' c' r' ≡ true → InOrder l c r l' c' r'
in_order l c r l' c' r' h = grind (arith, nat_tests)

by_order : (l c r l' c' r' : ℕ) → InOrder l c r l' c' r' → first_of_numbers l c r l' c' r' ≡ true
by_order l c r l' c' r' (inl h) = grind (arith, nat_tests)
by_order l c r l' c' r' (inr (inl h)) = grind (arith, nat_tests)
by_order l c r l' c' r' (inr (inr h)) = grind (arith, nat_tests)

order_transitive : (l c r l' c' r' l'' c'' r'' : ℕ) → InOrder l c r l' c' r' → InOrder l' c' r' l'' c'' r'' → InOrder l c r l'' c'' r''
order_transitive l c r l' c' r' l'' c'' r'' (inl h) (inl h') = inl (omega arith)
order_transitive l c r l' c' r' l'' c'' r'' (inl h) (inr (inl h')) = inl (omega arith)
order_transitive l c r l' c' r' l'' c'' r'' (inl h) (inr (inr h')) = inl (omega arith)
order_transitive l c r l' c' r' l'' c'' r'' (inr (inl h)) (inl h') = inl (omega arith)
order_transitive l c r l' c' r' l'' c'' r'' (inr (inl h)) (inr (inl h')) = inr (inl (omega arith, omega arith))
order_transitive l c r l' c' r' l'' c'' r'' (inr (inl h)) (inr (inr h')) = inr (inl (omega arith, omega arith))
order_transitive l c r l' c' r' l'' c'' r'' (inr (inr h)) (inl h') = inl (omega arith)
order_transitive l c r l' c' r' l'' c'' r'' (inr (inr h)) (inr (inl h')) = inr (inl (omega arith, omega arith))
order_transitive l c r l' c' r' l'' c'' r'' (inr (inr h)) (inr (inr h')) = inr (inr (omega arith, omega arith, omega arith))

numbers_transitive : (l c r l' c' r' l'' c'' r'' : ℕ) → first_of_numbers l c r l' c' r' ≡ true → first_of_numbers l' c' r' l'' c'' r'' ≡ true → first_of_numbers l c r l'' c'' r'' ≡ true
numbers_transitive l c r l' c' r' l'' c'' r'' h h' =
    by_order l c r l'' c'' r'' (order_transitive l c r l' c' r' l'' c'' r'' (in_order l c r l' c' r' h) (in_order l' c' r' l'' c'' r'' h'))

pub comes_first-total : (a b : Violation) → comes_first a b ≡ false → comes_first b a ≡ true
comes_first-total a b h = numbers_total a.place.line a.place.column (rule_number a.kind) b.place.line b.place.column (rule_number b.kind) h

pub comes_first-transitive : (a b c : Violation) → comes_first a b ≡ true → comes_first b c ≡ true → comes_first a c ≡ true
comes_first-transitive a b c h h' =
    numbers_transitive a.place.line a.place.column (rule_number a.kind) b.place.line b.place.column (rule_number b.kind) c.place.line c.place.column (rule_number c.kind) h h'

-- ---- the least of all

-- the first of two
abbrev first_of : Violation → Violation → Violation
first_of a b = if comes_first a b then a else b

two_first : (a v w : Violation) (p q r : Bool) → comes_first a v ≡ p → comes_first v w ≡ q → comes_first a w ≡ r → least_of_two (first_of a v) (Some w) ≡ least_of_two a (least_of_two v (Some w))
two_first a v w true true true e f g = rw (e, f, e, g) refl
two_first a v w true true false e f g = absurd (true≢false (sym (comes_first-transitive a v w e f) ∙ g))
two_first a v w true false r e f g = rw (e, f) refl
two_first a v w false true r e f g = rw (e, f, e) refl
two_first a v w false false true e f g = absurd (true≢false (sym (comes_first-transitive v a w (comes_first-total a v e) g) ∙ f))
two_first a v w false false false e f g = rw (e, f, g) refl

two_least : (a v : Violation) (l : Option Violation) → least_of_two (first_of a v) l ≡ least_of_two a (least_of_two v l)
two_least a v None = by (comes_first a v) refl
  where
    by : (b : Bool) → comes_first a v ≡ b → Some (first_of a v) ≡ least_of_two a (Some v)
    by true e = rw e refl
    by false e = rw e refl
two_least a v (Some w) = two_first a v w (comes_first a v) (comes_first v w) (comes_first a w) refl refl refl

lesser-first_of : (a v : Violation) (b : Bool) → comes_first a v ≡ b → lesser (Some a) v ≡ Some (first_of a v)
lesser-first_of a v true e = rw e refl
lesser-first_of a v false e = rw e refl

noted_least : (a : Violation) (vs : List Violation) → noted (Some a) vs ≡ least_of_two a (least vs)
noted_least a [] = refl
noted_least a (v ∷ vs) =
    ap (λ l. noted l vs) (lesser-first_of a v (comes_first a v) refl) ∙ noted_least (first_of a v) vs ∙ two_least a v (least vs)

-- from none on, what is noted is the least
pub noted-least : (vs : List Violation) → noted None vs ≡ least vs
noted-least [] = refl
noted-least (v ∷ vs) = noted_least v vs
