-- What is marked of the locals in scope, part by part.
use Rattle.std.proofs.Common.{◌≡◌, ℕ, zero, suc, ◌<◌, ◌≤◌, eqb, Bool, true, false, ◌||◌, List, [], ◌∷◌, ◌++◌, length, set, slice_get, Some, None, refl, sym, ap, subst, ◌∙◌, arith}
use Rattle.std.proofs.lemmas.Bool.{eq-eqb, ne_eqb}
use Rattle.std.proofs.lemmas.Option.{same_Some, none-some}
use lib.Dec.{eqb-suc-suc}
use Rattle.tac_build.specs.declared.addressed.Search.{Search}
use Rattle.tac_build.specs.Marks.{set_flag, marked, Marks, Within}

-- ---- flags

pub or_no : (b : Bool) → (b || false) ≡ b
or_no true = refl
or_no false = refl

or_yes : (b : Bool) → (b || true) ≡ true
or_yes true = refl
or_yes false = refl

pub or_more : (a b c : Bool) → ((a || b) || c) ≡ (a || (b || c))
or_more true b c = refl
or_more false b c = refl

or_swap : (a b c : Bool) → ((a || b) || c) ≡ ((a || c) || b)
or_swap true b c = refl
or_swap false true true = refl
or_swap false true false = refl
or_swap false false true = refl
or_swap false false false = refl

set_none : (flags : List Bool) (place : ℕ) → set_flag flags place false ≡ flags
unfolding set_flag
set_none [] place = refl
set_none (first ∷ others) zero = ap (λ b. b ∷ others) (or_no first)
set_none (first ∷ others) (suc place) = ap (λ flags. first ∷ flags) (set_none others place)

set_twice : (flags : List Bool) (place : ℕ) (a b : Bool) → set_flag (set_flag flags place a) place b ≡ set_flag flags place (a || b)
unfolding set_flag
set_twice [] place a b = refl
set_twice (first ∷ others) zero a b = ap (λ b. b ∷ others) (or_more first a b)
set_twice (first ∷ others) (suc place) a b = ap (λ flags. first ∷ flags) (set_twice others place a b)

set_swap : (flags : List Bool) (p q : ℕ) (a b : Bool) → set_flag (set_flag flags p a) q b ≡ set_flag (set_flag flags q b) p a
unfolding set_flag
set_swap [] p q a b = refl
set_swap (first ∷ others) zero zero a b = ap (λ b. b ∷ others) (or_swap first a b)
set_swap (first ∷ others) zero (suc q) a b = refl
set_swap (first ∷ others) (suc p) zero a b = refl
set_swap (first ∷ others) (suc p) (suc q) a b = ap (λ flags. first ∷ flags) (set_swap others p q a b)

length_set : (flags : List Bool) (place : ℕ) (a : Bool) → length (set_flag flags place a) ≡ length flags
unfolding set_flag
length_set [] place a = refl
length_set (first ∷ others) zero a = refl
length_set (first ∷ others) (suc place) a = ap (λ n. suc n) (length_set others place a)

set_append : (flags more : List Bool) (place : ℕ) (a : Bool) → place < length flags → set_flag (flags ++ more) place a ≡ set_flag flags place a ++ more
unfolding set_flag
set_append [] more place a h = absurd (omega (arith, h))
set_append (first ∷ others) more zero a h = refl
set_append (first ∷ others) more (suc place) a h = ap (λ flags. first ∷ flags) (set_append others more place a (omega (arith, h)))

set_last : (flags : List Bool) (b a : Bool) → set_flag (flags ++ b ∷ []) (length flags) a ≡ flags ++ (b || a) ∷ []
unfolding set_flag
set_last [] b a = refl
set_last (first ∷ others) b a = ap (λ flags. first ∷ flags) (set_last others b a)

pub set_beyond : (flags : List Bool) (place : ℕ) → length flags ≤ place → set_flag flags place true ≡ flags
unfolding set_flag
set_beyond [] place h = refl
set_beyond (first ∷ others) zero h = absurd (omega (arith, h))
set_beyond (first ∷ others) (suc place) h = ap (λ flags. first ∷ flags) (set_beyond others place (omega (arith, h)))

pub set_is : (flags : List Bool) (place : ℕ) → place < length flags → set_flag flags place true ≡ set flags place true
unfolding set_flag
set_is [] place h = absurd (omega (arith, h))
set_is (first ∷ others) zero h = ap (λ b. b ∷ others) (or_yes first)
set_is (first ∷ others) (suc place) h = ap (λ flags. first ∷ flags) (set_is others place (omega (arith, h)))

-- ---- locals in scope

marked_set : (scope : List ℕ) (f : ℕ → Bool) (flags : List Bool) (place : ℕ) (a : Bool) → marked scope f (set_flag flags place a) ≡ set_flag (marked scope f flags) place a
unfolding marked
marked_set [] f flags place a = refl
marked_set (first ∷ others) f flags place a =
    ap (λ flags. marked others (λ n. f (suc n)) flags) (set_swap flags place first a (f zero))
    ∙ marked_set others (λ n. f (suc n)) (set_flag flags first (f zero)) place a

pub marked_twice : (scope : List ℕ) (f g : ℕ → Bool) (flags : List Bool) → marked scope g (marked scope f flags) ≡ marked scope (λ n. f n || g n) flags
unfolding marked
marked_twice [] f g flags = refl
marked_twice (first ∷ others) f g flags =
    ap (λ flags. marked others (λ n. g (suc n)) flags)
    (sym (marked_set others (λ n. f (suc n)) (set_flag flags first (f zero)) first (g zero))
    ∙ ap (λ flags. marked others (λ n. f (suc n)) flags) (set_twice flags first (f zero) (g zero)))
    ∙ marked_twice others (λ n. f (suc n)) (λ n. g (suc n)) (set_flag flags first (f zero || g zero))

pub marked_none : (scope : List ℕ) (flags : List Bool) → marked scope (λ n. false) flags ≡ flags
unfolding marked
marked_none [] flags = refl
marked_none (first ∷ others) flags = ap (λ flags. marked others (λ n. false) flags) (set_none flags first) ∙ marked_none others flags

pub length_marked : (scope : List ℕ) (f : ℕ → Bool) (flags : List Bool) → length (marked scope f flags) ≡ length flags
unfolding marked
length_marked [] f flags = refl
length_marked (first ∷ others) f flags = length_marked others (λ n. f (suc n)) (set_flag flags first (f zero)) ∙ length_set flags first (f zero)

pub marked_append : (scope : List ℕ) (f : ℕ → Bool) (flags more : List Bool) → Within scope (length flags) → marked scope f (flags ++ more) ≡ marked scope f flags ++ more
unfolding marked Within
marked_append [] f flags more h = refl
marked_append (first ∷ others) f flags more h =
    ap (λ flags. marked others (λ n. f (suc n)) flags) (set_append flags more first (f zero) h.0)
    ∙ marked_append others (λ n. f (suc n)) (set_flag flags first (f zero)) more (subst (λ n. Within others n) (sym (length_set flags first (f zero))) h.1)

marked_push : (scope : List ℕ) (place : ℕ) (f : ℕ → Bool) (flags : List Bool) → marked (scope ++ place ∷ []) f flags ≡ set_flag (marked scope f flags) place (f (length scope))
unfolding marked
marked_push [] place f flags = refl
marked_push (first ∷ others) place f flags = marked_push others place (λ n. f (suc n)) (set_flag flags first (f zero))

pub within_more : (scope : List ℕ) (few many : ℕ) → Within scope few → few ≤ many → Within scope many
unfolding Within
within_more [] few many h le = tt
within_more (first ∷ others) few many h le = (omega (arith, h.0, le), within_more others few many h.1 le)

pub within_push : (scope : List ℕ) (place count : ℕ) → Within scope count → place < count → Within (scope ++ place ∷ []) count
unfolding Within
within_push [] place count h less = (less, tt)
within_push (first ∷ others) place count h less = (h.0, within_push others place count h.1 less)

-- a local that begins to live: its flag is the last one
pub marked_new : (scope : List ℕ) (f : ℕ → Bool) (flags : List Bool) (b : Bool) → Within scope (length flags)
    → marked (scope ++ length flags ∷ []) f (flags ++ b ∷ []) ≡ marked scope f flags ++ (b || f (length scope)) ∷ []
marked_new scope f flags b h =
    marked_push scope (length flags) f (flags ++ b ∷ [])
    ∙ (λ i. set_flag (marked_append scope f flags (b ∷ []) h i) (sym (length_marked scope f flags) i) (f (length scope)))
    ∙ set_last (marked scope f flags) b (f (length scope))

-- the one with a number
pub named_marks : (scope : List ℕ) (number place : ℕ) (flags : List Bool) → slice_get scope number ≡ Some place → marked scope (λ n. eqb number n) flags ≡ set_flag flags place true
unfolding marked
named_marks [] number place flags h = absurd (none-some place h)
named_marks (first ∷ others) zero place flags h =
    (λ i. marked others (λ n. ne_eqb zero (suc n) (λ e. absurd (omega (arith, e))) i) (set_flag flags first (eq-eqb zero zero refl i)))
    ∙ marked_none others (set_flag flags first true)
    ∙ ap (λ p. set_flag flags p true) (same_Some first place h)
named_marks (first ∷ others) (suc number) place flags h =
    (λ i. marked others (λ n. eqb-suc-suc number n i) (set_flag flags first (ne_eqb (suc number) zero (λ e. absurd (omega (arith, e))) i)))
    ∙ ap (λ flags. marked others (λ n. eqb number n) flags) (set_none flags first)
    ∙ named_marks others number place flags h

pub named_none : (scope : List ℕ) (number : ℕ) (flags : List Bool) → slice_get scope number ≡ None → marked scope (λ n. eqb number n) flags ≡ flags
unfolding marked
named_none [] number flags h = refl
named_none (first ∷ others) zero flags h = absurd (none-some first (sym h))
named_none (first ∷ others) (suc number) flags h =
    (λ i. marked others (λ n. eqb-suc-suc number n i) (set_flag flags first (ne_eqb (suc number) zero (λ e. absurd (omega (arith, e))) i)))
    ∙ ap (λ flags. marked others (λ n. eqb number n) flags) (set_none flags first)
    ∙ named_none others number flags h

-- ---- the search

pub marks_none : (s : Search) → Marks s s (λ n. false)
marks_none s = record { scope = refl; flags = sym (marked_none s.scope.items s.flags.items) }

pub marks_then : (old mid new : Search) (f g : ℕ → Bool) → Marks old mid f → Marks mid new g → Marks old new (λ n. f n || g n)
marks_then old mid new f g h k = record {
  scope = k.scope ∙ h.scope;
  flags = k.flags ∙ (λ i. marked (h.scope i) g (h.flags i)) ∙ marked_twice old.scope.items f g old.flags.items;
}

-- what is left, behind what is marked so far, is all
pub record Onward (old now : Search) (left all : ℕ → Bool) : Type 0 where
  pub scope : now.scope.items ≡ old.scope.items
  pub flags : marked old.scope.items left now.flags.items ≡ marked old.scope.items all old.flags.items

pub onward_more : (old now next : Search) (one left all : ℕ → Bool) → Onward old now (λ n. one n || left n) all → Marks now next one → Onward old next left all
onward_more old now next one left all h k = record {
  scope = k.scope ∙ h.scope;
  flags =
      ap (λ flags. marked old.scope.items left flags) (k.flags ∙ ap (λ scope. marked scope one now.flags.items) h.scope)
      ∙ marked_twice old.scope.items one left now.flags.items ∙ h.flags;
}

pub onward_end : (old now : Search) (all : ℕ → Bool) → Onward old now (λ n. false) all → Marks old now all
onward_end old now all h = record {
  scope = h.scope;
  flags = sym (marked_none old.scope.items now.flags.items) ∙ h.flags;
}
