-- What operators do with pointers, as what their tests find says.
use Rattle.std.proofs.Common.{◌≡◌, ℕ, ◌<◌, ◌≤◌, ◌^◌, Bool, true, false, not, ◌||◌, ◌&&◌, nat_lt, [], ◌∷◌, Option, Some, None, ℤ, pos, negsuc, ◌+ℤ◌, ◌<ℤ◌, ◌≤ℤ◌, nat_abs, int_lt, int_le, Fits, FitsSigned, T, w64, to_z, of_z, to_z-of_z, ⊎_elim, refl, sym, ap, subst, ◌∙◌, arith, lt-ltb, le-ltb}
use Rattle.std.specs.Int.{w128}
use Rattle.std.specs.Int.Signed.{non_neg}
use Rattle.std.proofs.lemmas.Int.{ints}
use Rattle.run_theory.specs.declared.place.Pos.{Pos}
use Rattle.run_theory.specs.declared.ends.UbKind.TheVariants as Ub
use Rattle.ref_semantics.specs.Values.{Place, Scalar, PointerValue, place_of, at_index, is_end}
use Rattle.ref_semantics.specs.Store.{State, Eval, Then, give, premise, unless, is_dead_pointer, is_null_pointer}
use Rattle.ref_semantics.specs.Pointers.{truth, index_moved, is_negative, is_above, is_at_least, or_zero, added, element, accessed, tested}
use Rattle.ref_meaning.specs.RefStore.Holding.{left, EvaluatesTo, IsUndefined, IsMoved}
use Rattle.ref_meaning.proofs.Giving.{undefined-here}

-- ---- indices

abbrev natural : ℤ → Option ℕ
natural (pos n) = Some n
natural (negsuc n) = None

natural-some : (w : ℤ) → pos 0 ≤ℤ w → natural w ≡ Some (nat_abs w)
natural-some (pos n) h = refl
natural-some (negsuc n) h = absurd (omega (arith, ints))

natural-none : (w : ℤ) → w <ℤ pos 0 → natural w ≡ None
natural-none (pos n) h = absurd (omega (arith, ints))
natural-none (negsuc n) h = refl

above : (count : ℕ) (w : ℤ) → pos count <ℤ w → nat_lt count (nat_abs w) ≡ true
above count (pos n) h = lt-ltb count n (omega (arith, ints))
above count (negsuc n) h = absurd (omega (arith, ints))

not_above : (count : ℕ) (w : ℤ) → pos 0 ≤ℤ w → w ≤ℤ pos count → nat_lt count (nat_abs w) ≡ false
not_above count (pos n) h k = le-ltb count n (omega (arith, ints))
not_above count (negsuc n) h k = absurd (omega (arith, ints))

below : (count : ℕ) (w : ℤ) → pos 0 ≤ℤ w → w <ℤ pos count → nat_lt (nat_abs w) count ≡ true
below count (pos n) h k = lt-ltb n count (omega (arith, ints))
below count (negsuc n) h k = absurd (omega (arith, ints))

not_below : (count : ℕ) (w : ℤ) → pos count ≤ℤ w → nat_lt (nat_abs w) count ≡ false
not_below count (pos n) h = le-ltb n count (omega (arith, ints))
not_below count (negsuc n) h = absurd (omega (arith, ints))

module _ (index count : ℕ) (z m : ℤ) (moved : IsMoved index z m) where
  moved_least : m ≤ℤ (pos index +ℤ z)
  moved_least = ⊎_elim (λ e. omega (arith, ints)) (λ p. p.1) moved

  moved_exact : count < 2 ^ 64 → m ≤ℤ pos count → m ≡ (pos index +ℤ z)
  moved_exact small k = ⊎_elim (λ e. e) (λ p. let e = p.0 in absurd (omega (arith, ints))) moved

  index-some : pos 0 ≤ℤ m → index_moved index z ≡ Some (nat_abs (pos index +ℤ z))
  index-some h = let least = moved_least in natural-some (pos index +ℤ z) (omega (arith, ints))

  index-none : m <ℤ pos 0 → index_moved index z ≡ None
  index-none h = natural-none (pos index +ℤ z) (⊎_elim (λ e. omega (arith, ints)) (λ p. let e = p.0 in absurd (omega (arith, ints))) moved)

  pub index-exact : count < 2 ^ 64 → pos 0 ≤ℤ m → m ≤ℤ pos count → nat_abs m ≡ or_zero (index_moved index z)
  index-exact small h k = ap nat_abs (moved_exact small k) ∙ ap or_zero (sym (index-some h))

  pub negative : m <ℤ pos 0 → is_negative (index_moved index z) ≡ true
  negative h = ap is_negative (index-none h)

  pub not_negative : pos 0 ≤ℤ m → is_negative (index_moved index z) ≡ false
  not_negative h = ap is_negative (index-some h)

  pub index-above : pos count <ℤ m → is_above count (index_moved index z) ≡ true
  index-above h = let least = moved_least in ap (is_above count) (index-some (omega (arith, ints))) ∙ above count (pos index +ℤ z) (omega (arith, ints))

  pub index-not_above : count < 2 ^ 64 → pos 0 ≤ℤ m → m ≤ℤ pos count → is_above count (index_moved index z) ≡ false
  index-not_above small h k =
      let e = moved_exact small k in
      ap (is_above count) (index-some h) ∙ not_above count (pos index +ℤ z) (omega (arith, ints)) (omega (arith, ints))

  pub index-at_least : pos count ≤ℤ m → is_at_least count (index_moved index z) ≡ true
  index-at_least h =
      let least = moved_least in
      ap (is_at_least count) (index-some (omega (arith, ints))) ∙ ap not (not_below count (pos index +ℤ z) (omega (arith, ints)))

  pub index-below : count < 2 ^ 64 → pos 0 ≤ℤ m → m <ℤ pos count → is_at_least count (index_moved index z) ≡ false
  index-below small h k =
      let e = moved_exact small (omega (arith, ints)) in
      ap (is_at_least count) (index-some h) ∙ ap not (below count (pos index +ℤ z) (omega (arith, ints)) (omega (arith, ints)))

  pub index-negative : m <ℤ pos 0 → is_at_least count (index_moved index z) ≡ false
  index-negative h = ap (is_at_least count) (index-none h)

-- ---- tests of numbers of 128 bits

module _ (a b : ℤ) (fits_a : FitsSigned w128 a) (fits_b : FitsSigned w128 b) where
  back_a : a ≡ to_z w128 (of_z w128 a)
  back_a = sym (to_z-of_z fits_a)

  back_b : b ≡ to_z w128 (of_z w128 b)
  back_b = sym (to_z-of_z fits_b)

  pub lt-true : int_lt (to_z w128 (of_z w128 a)) (to_z w128 (of_z w128 b)) ≡ true → a <ℤ b
  lt-true h = let e : int_lt a b ≡ true = (λ i. int_lt (back_a i) (back_b i)) ∙ h in omega (arith, ints)

  pub lt-false : int_lt (to_z w128 (of_z w128 a)) (to_z w128 (of_z w128 b)) ≡ false → b ≤ℤ a
  lt-false h = let e : int_lt a b ≡ false = (λ i. int_lt (back_a i) (back_b i)) ∙ h in omega (arith, ints)

  pub le-true : int_le (to_z w128 (of_z w128 a)) (to_z w128 (of_z w128 b)) ≡ true → a ≤ℤ b
  le-true h = let e : int_le a b ≡ true = (λ i. int_le (back_a i) (back_b i)) ∙ h in omega (arith, ints)

  pub le-false : int_le (to_z w128 (of_z w128 a)) (to_z w128 (of_z w128 b)) ≡ false → b <ℤ a
  le-false h = let e : int_le a b ≡ false = (λ i. int_le (back_a i) (back_b i)) ∙ h in omega (arith, ints)

-- a number between 0 and a count, as a number of 64 bits
module _ (m : ℤ) (count : ℕ) (fits : FitsSigned w128 m) (least : pos 0 ≤ℤ m) (most : m ≤ℤ pos count) (small : count < 2 ^ 64) where
  pub fits-cast : T (non_neg (to_z w128 (of_z w128 m))) × Fits w64 (nat_abs (to_z w128 (of_z w128 m)))
  fits-cast = subst (λ x. T (non_neg x) × Fits w64 (nat_abs x)) (sym (to_z-of_z fits)) (by m least most)
    where
      by : (x : ℤ) → pos 0 ≤ℤ x → x ≤ℤ pos count → T (non_neg x) × Fits w64 (nat_abs x)
      by (pos n) h k = (tt, record { fits = omega (arith, ints) })
      by (negsuc n) h k = absurd (omega (arith, ints))

module _ (m : ℤ) (count : ℕ) (fits : FitsSigned w128 m) (least : pos 0 ≤ℤ m) where
  pub cast-le : m ≤ℤ pos count → nat_abs (to_z w128 (of_z w128 m)) ≤ count
  cast-le most = subst (λ x. nat_abs x ≤ count) (sym (to_z-of_z fits)) (by m least most)
    where
      by : (x : ℤ) → pos 0 ≤ℤ x → x ≤ℤ pos count → nat_abs x ≤ count
      by (pos n) h k = omega (arith, ints)
      by (negsuc n) h k = absurd (omega (arith, ints))

  pub cast-lt : m <ℤ pos count → nat_abs (to_z w128 (of_z w128 m)) < count
  cast-lt most = subst (λ x. nat_abs x < count) (sym (to_z-of_z fits)) (by m least most)
    where
      by : (x : ℤ) → pos 0 ≤ℤ x → x <ℤ pos count → nat_abs x < count
      by (pos n) h k = omega (arith, ints)
      by (negsuc n) h k = absurd (omega (arith, ints))

-- ---- adding

abbrev pub is_outside : Place → ℤ → Bool
is_outside place z = is_negative (index_moved place.index z) || is_above place.row.count (index_moved place.index z)

module _ (place : Place) (z m : ℤ) (moved : IsMoved place.index z m) where
  pub outside-negative : m <ℤ pos 0 → is_outside place z ≡ true
  outside-negative h = λ i. negative place.index place.row.count z m moved h i || is_above place.row.count (index_moved place.index z)

  pub outside-above : pos place.row.count <ℤ m → is_outside place z ≡ true
  outside-above h = λ i. not_negative place.index place.row.count z m moved (omega (arith, ints)) i || index-above place.index place.row.count z m moved h i

  pub outside-not_above : place.row.count < 2 ^ 64 → pos 0 ≤ℤ m → m ≤ℤ pos place.row.count → is_outside place z ≡ false
  outside-not_above small h k = λ i. not_negative place.index place.row.count z m moved h i || index-not_above place.index place.row.count z m moved small h k i

abbrev added_by : Pos → Scalar → Bool → Bool → Bool → Eval Scalar
added_by here result dead null outside = unless here (premise dead Ub.U06 ∷ premise (not null && outside) Ub.U08 ∷ premise null Ub.U17 ∷ []) (give result)

abbrev pub moved_place : Place → ℤ → Place
moved_place place z = at_index place (or_zero (index_moved place.index z))

module _ (here : Pos) (p : Scalar) (z : ℤ) (s : State) (place : Place) (is : place ≡ place_of p) where
  found : {r : Bool} → is_outside place z ≡ r → is_outside (place_of p) z ≡ r
  found e = ap (λ q. is_outside q z) (sym is) ∙ e

  pub added-null : is_dead_pointer s.objects p ≡ false → is_null_pointer p ≡ true → IsUndefined (added here p z) s Ub.U17 here
  added-null dead null = undefined-here (added here p z) s Ub.U17 here
      (λ units input i. added_by here (PointerValue (moved_place (place_of p) z)) (dead i) (null i) (is_outside (place_of p) z) (left units input s))

  pub added-outside : is_dead_pointer s.objects p ≡ false → is_null_pointer p ≡ false → is_outside place z ≡ true → IsUndefined (added here p z) s Ub.U08 here
  added-outside dead null outside = undefined-here (added here p z) s Ub.U08 here
      (λ units input i. added_by here (PointerValue (moved_place (place_of p) z)) (dead i) (null i) (found outside i) (left units input s))

  pub added-there : is_dead_pointer s.objects p ≡ false → is_null_pointer p ≡ false → is_outside place z ≡ false → EvaluatesTo (added here p z) s (PointerValue (moved_place place z)) s
  added-there dead null outside = λ units input.
      (λ i. added_by here (PointerValue (moved_place (place_of p) z)) (dead i) (null i) (found outside i) (left units input s))
      ∙ ap (λ q. Then (PointerValue (moved_place q z)) (left units input s)) (sym is)

pub added-dead : (here : Pos) (p : Scalar) (z : ℤ) (s : State) → is_dead_pointer s.objects p ≡ true → IsUndefined (added here p z) s Ub.U06 here
added-dead here p z s dead = undefined-here (added here p z) s Ub.U06 here
    (λ units input i. added_by here (PointerValue (moved_place (place_of p) z)) (dead i) (is_null_pointer p) (is_outside (place_of p) z) (left units input s))

-- ---- elements

abbrev element_by : Pos → Place → Bool → Bool → Bool → Bool → Eval Place
element_by here result dead null over negative = unless here (premise dead Ub.U06 ∷ premise null Ub.U05 ∷ premise over Ub.U07 ∷ premise negative Ub.U08 ∷ []) (give result)

abbrev pub is_over : Place → ℤ → Bool
is_over place z = is_at_least place.row.count (index_moved place.index z)

abbrev pub is_before : Place → ℤ → Bool
is_before place z = is_negative (index_moved place.index z)

module _ (here : Pos) (p : Scalar) (z : ℤ) (s : State) where
  pub element-dead : is_dead_pointer s.objects p ≡ true → IsUndefined (element here p z) s Ub.U06 here
  element-dead dead = undefined-here (element here p z) s Ub.U06 here
      (λ units input i. element_by here (moved_place (place_of p) z) (dead i) (is_null_pointer p) (is_over (place_of p) z) (is_before (place_of p) z) (left units input s))

  pub element-null : is_dead_pointer s.objects p ≡ false → is_null_pointer p ≡ true → IsUndefined (element here p z) s Ub.U05 here
  element-null dead null = undefined-here (element here p z) s Ub.U05 here
      (λ units input i. element_by here (moved_place (place_of p) z) (dead i) (null i) (is_over (place_of p) z) (is_before (place_of p) z) (left units input s))

module _ (here : Pos) (p : Scalar) (z : ℤ) (s : State) (place : Place) (is : place ≡ place_of p) (dead : is_dead_pointer s.objects p ≡ false) (null : is_null_pointer p ≡ false) where
  over-found : {r : Bool} → is_over place z ≡ r → is_over (place_of p) z ≡ r
  over-found e = ap (λ q. is_over q z) (sym is) ∙ e

  before-found : {r : Bool} → is_before place z ≡ r → is_before (place_of p) z ≡ r
  before-found e = ap (λ q. is_before q z) (sym is) ∙ e

  pub element-over : is_over place z ≡ true → IsUndefined (element here p z) s Ub.U07 here
  element-over over = undefined-here (element here p z) s Ub.U07 here
      (λ units input i. element_by here (moved_place (place_of p) z) (dead i) (null i) (over-found over i) (is_before (place_of p) z) (left units input s))

  pub element-before : is_over place z ≡ false → is_before place z ≡ true → IsUndefined (element here p z) s Ub.U08 here
  element-before over before = undefined-here (element here p z) s Ub.U08 here
      (λ units input i. element_by here (moved_place (place_of p) z) (dead i) (null i) (over-found over i) (before-found before i) (left units input s))

  pub element-there : is_over place z ≡ false → is_before place z ≡ false → EvaluatesTo (element here p z) s (moved_place place z) s
  element-there over before = λ units input.
      (λ i. element_by here (moved_place (place_of p) z) (dead i) (null i) (over-found over i) (before-found before i) (left units input s))
      ∙ ap (λ q. Then (moved_place q z) (left units input s)) (sym is)

-- ---- accesses

abbrev accessed_by : Pos → Place → Bool → Bool → Bool → Eval Place
accessed_by here place dead null end = unless here (premise dead Ub.U06 ∷ premise null Ub.U05 ∷ premise end Ub.U07 ∷ []) (give place)

module _ (here : Pos) (p : Scalar) (s : State) where
  pub accessed-dead : is_dead_pointer s.objects p ≡ true → IsUndefined (accessed here p) s Ub.U06 here
  accessed-dead dead = undefined-here (accessed here p) s Ub.U06 here
      (λ units input i. accessed_by here (place_of p) (dead i) (is_null_pointer p) (is_end (place_of p)) (left units input s))

  pub accessed-null : is_dead_pointer s.objects p ≡ false → is_null_pointer p ≡ true → IsUndefined (accessed here p) s Ub.U05 here
  accessed-null dead null = undefined-here (accessed here p) s Ub.U05 here
      (λ units input i. accessed_by here (place_of p) (dead i) (null i) (is_end (place_of p)) (left units input s))

  pub accessed-end : is_dead_pointer s.objects p ≡ false → is_null_pointer p ≡ false → is_end (place_of p) ≡ true → IsUndefined (accessed here p) s Ub.U07 here
  accessed-end dead null end = undefined-here (accessed here p) s Ub.U07 here
      (λ units input i. accessed_by here (place_of p) (dead i) (null i) (end i) (left units input s))

  pub accessed-there : is_dead_pointer s.objects p ≡ false → is_null_pointer p ≡ false → is_end (place_of p) ≡ false → EvaluatesTo (accessed here p) s (place_of p) s
  accessed-there dead null end = λ units input i. accessed_by here (place_of p) (dead i) (null i) (end i) (left units input s)

-- ---- tests

pub tested-dead : (here : Pos) (p : Scalar) (s : State) → is_dead_pointer s.objects p ≡ true → IsUndefined (tested here p) s Ub.U06 here
tested-dead here p s dead = undefined-here (tested here p) s Ub.U06 here
    (λ units input i. unless here (premise (dead i) Ub.U06 ∷ []) (give (truth (not (is_null_pointer p)))) (left units input s))

pub tested-there : (here : Pos) (p : Scalar) (s : State) → is_dead_pointer s.objects p ≡ false → EvaluatesTo (tested here p) s (truth (not (is_null_pointer p))) s
tested-there here p s dead = λ units input i. unless here (premise (dead i) Ub.U06 ∷ []) (give (truth (not (is_null_pointer p)))) (left units input s)
