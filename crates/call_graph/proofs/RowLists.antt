-- What stands in lists that are put together.
use Rattle.std.proofs.Common.{◌≡◌, ℕ, zero, suc, ◌+◌, ◌<◌, ◌≤◌, ◌⊎◌, ◌==◌, ◌||◌, Bool, true, false, List, [], ◌∷◌, ◌++◌, length, take, drop, get_or, Some, inl, inr, refl, sym, ap, subst, ◌∙◌, append_assoc, append-nil, add-one, arith, eqb-true, eq-eqb}
use Rattle.std.specs.Prelude.{slice_get}
use Rattle.std.proofs.lemmas.Bool.{false≢true}
use Rattle.std.proofs.lemmas.Option.{none-some, same_Some}
use Rattle.call_graph.specs.RowLists.{Has, gathered, is_among}

module _ {X : Type 0} where
  pub in_front : (a b : List X) (x : X) → Has a x → Has (a ++ b) x
  in_front [] b x is = absurd is
  in_front (y ∷ a) b x (inl is) = inl is
  in_front (y ∷ a) b x (inr is) = inr (in_front a b x is)

  pub in_back : (a b : List X) (x : X) → Has b x → Has (a ++ b) x
  in_back [] b x is = is
  in_back (y ∷ a) b x is = inr (in_back a b x is)

  pub in_either : (a b : List X) (x : X) → Has (a ++ b) x → Has a x ⊎ Has b x
  in_either [] b x is = inr is
  in_either (y ∷ a) b x (inl is) = inl (inl is)
  in_either (y ∷ a) b x (inr is) = elim (in_either a b x is) [ inl front ↦ inl (inr front) | inr back ↦ inr back ]

  pub has_at : (list : List X) (i : ℕ) (x : X) → slice_get list i ≡ Some x → Has list x
  has_at [] i x is = absurd (none-some x is)
  has_at (y ∷ list) zero x is = inl (sym (same_Some y x is))
  has_at (y ∷ list) (suc i) x is = inr (has_at list i x is)

  pub at_has : (list : List X) (x : X) → Has list x → (i : ℕ) × (slice_get list i ≡ Some x)
  at_has [] x is = absurd is
  at_has (y ∷ list) x (inl is) = (0, ap Some (sym is))
  at_has (y ∷ list) x (inr is) = let own = at_has list x is in (suc own.0, own.1)

  pub has_read : (list : List X) (i : ℕ) (x d : X) → i < length list → x ≡ get_or list i d → Has list x
  has_read [] i x d lt is = absurd (omega (arith, lt))
  has_read (y ∷ list) zero x d lt is = inl is
  has_read (y ∷ list) (suc i) x d lt is = inr (has_read list i x d (omega (arith, lt)) is)

  pub read_drop : (list : List X) (i next : ℕ) (x d : X) → next ≡ i + 1 → i < length list → x ≡ get_or list i d → drop i list ≡ x ∷ drop next list
  read_drop list i next x d e lt is = dropped list i x d lt is ∙ ap (λ n. x ∷ drop n list) (sym (e ∙ add-one i))
    where
      dropped : (list : List X) (i : ℕ) (x d : X) → i < length list → x ≡ get_or list i d → drop i list ≡ x ∷ drop (suc i) list
      dropped [] i x d lt is = absurd (omega (arith, lt))
      dropped (y ∷ list) zero x d lt is = ap (λ z. z ∷ list) (sym is)
      dropped (y ∷ list) (suc i) x d lt is = dropped list i x d (omega (arith, lt)) is

  pub read_take : (list : List X) (i next : ℕ) (x d : X) → next ≡ i + 1 → i < length list → x ≡ get_or list i d → take next list ≡ take i list ++ x ∷ []
  read_take list i next x d e lt is = ap (λ n. take n list) (e ∙ add-one i) ∙ taken list i x d lt is
    where
      taken : (list : List X) (i : ℕ) (x d : X) → i < length list → x ≡ get_or list i d → take (suc i) list ≡ take i list ++ x ∷ []
      taken [] i x d lt is = absurd (omega (arith, lt))
      taken (y ∷ list) zero x d lt is = ap (λ z. z ∷ []) (sym is)
      taken (y ∷ list) (suc i) x d lt is = ap (λ l. y ∷ l) (taken list i x d (omega (arith, lt)) is)

  pub some_at : (list : List X) (i : ℕ) → i < length list → (x : X) × (slice_get list i ≡ Some x)
  some_at [] i lt = absurd (omega (arith, lt))
  some_at (y ∷ list) zero lt = (y, refl)
  some_at (y ∷ list) (suc i) lt = some_at list i (omega (arith, lt))

module _ {X Y : Type 0} (f : X → List Y) where
  pub in_gathered : (list : List X) (x : X) (y : Y) → Has list x → Has (f x) y → Has (gathered f list) y
  in_gathered [] x y is given = absurd is
  in_gathered (first ∷ list) x y (inl is) given = in_front (f first) (gathered f list) y (subst (λ (z : X). Has (f z) y) is given)
  in_gathered (first ∷ list) x y (inr is) given = in_back (f first) (gathered f list) y (in_gathered list x y is given)

  pub from_gathered : (list : List X) (y : Y) → Has (gathered f list) y → (x : X) × Has list x × Has (f x) y
  from_gathered [] y is = absurd is
  from_gathered (first ∷ list) y is = elim (in_either (f first) (gathered f list) y is) [
    | inl front ↦ (first, inl refl, front)
    | inr back ↦ (let own = from_gathered list y back in (own.0, inr own.1, own.2))
  ]

  -- one more is looked at
  pub gather_more : (list rest : List X) (x : X) (done more all : List Y) → list ≡ x ∷ rest → more ≡ done ++ f x → done ++ gathered f list ≡ all → more ++ gathered f rest ≡ all
  gather_more list rest x done more all e e' is =
      ap (λ l. l ++ gathered f rest) e' ∙ (append_assoc done (f x) (gathered f rest) ∙ (ap (λ l. done ++ gathered f l) (sym e) ∙ is))

  pub gather_none : (list : List X) (done all : List Y) → list ≡ [] → done ++ gathered f list ≡ all → done ≡ all
  gather_none list done all e is = sym (append-nil done) ∙ (ap (λ l. done ++ gathered f l) (sym e) ∙ is)

-- ---- numbers

pub among_has : (number : ℕ) (list : List ℕ) → is_among number list ≡ true → Has list number
among_has number [] is = absurd (false≢true is)
among_has number (first ∷ list) is = by (λ t. among_has number list t) (first == number) refl is
  where
    by : (is_among number list ≡ true → Has list number) → (b : Bool) → (first == number) ≡ b → (b || is_among number list) ≡ true → (number ≡ first) ⊎ Has list number
    by rest true e t = inl (sym (eqb-true first number e))
    by rest false e t = inr (rest t)

pub has_among : (number : ℕ) (list : List ℕ) → Has list number → is_among number list ≡ true
has_among number [] is = absurd is
has_among number (first ∷ list) (inl is) = ap (λ b. b || is_among number list) (eq-eqb first number (sym is))
has_among number (first ∷ list) (inr is) = by (first == number) (has_among number list is)
  where
    by : (b : Bool) → is_among number list ≡ true → (b || is_among number list) ≡ true
    by true t = refl
    by false t = t

pub among_append : (number : ℕ) (a b : List ℕ) → is_among number (a ++ b) ≡ (is_among number a || is_among number b)
among_append number [] b = refl
among_append number (first ∷ a) b = by (first == number) (among_append number a b)
  where
    by : (t : Bool) → is_among number (a ++ b) ≡ (is_among number a || is_among number b) → (t || is_among number (a ++ b)) ≡ ((t || is_among number a) || is_among number b)
    by true e = refl
    by false e = e

pub take_all : {X : Type 0} (n : ℕ) (list : List X) → length list ≤ n → take n list ≡ list
take_all zero [] le = refl
take_all zero (x ∷ list) le = absurd (omega (arith, le))
take_all (suc n) [] le = refl
take_all (suc n) (x ∷ list) le = ap (λ l. x ∷ l) (take_all n list (omega (arith, le)))
