-- What numbers stand for in a table, and that no two stand for the same.
use Rattle.std.proofs.Common.{◌≡◌, ℕ, ◌+◌, ◌<◌, ◌≤◌, cond, eqb, List, [], ◌∷◌, ◌++◌, length, Option, Some, None, refl, sym, ap, subst, ◌∙◌, arith, ◌⊎◌, inl, inr}
use Rattle.std.proofs.lemmas.Bool.{eq-eqb, ne_eqb, cond-true, cond-false, cases_eq, cases_lt}
use Rattle.std.proofs.lemmas.Option.{none-some, same_Some}
use Rattle.c_typed.specs.declared.c_type.Derived.{Derived}
use Rattle.c_typed.specs.declared.c_type.Derived.TheVariants as D
use Rattle.c_typed.specs.Table.{Meaning, AType, AList, Nothing, base_meaning, pointer_to, array_of, struct_of, function_of, parameter_of, numbered, derived_meaning, meaning_in}
use Rattle.c_typed.specs.Inside.{IsSomething, HaveMeanings}

-- ---- one step

module _ {A : Type 0} (newest : A) (older : List A) (n : ℕ) where
  pub numbered_newest : n ≡ length older → numbered (newest ∷ older) n ≡ Some newest
  numbered_newest e = cond-true (eqb n (length older)) (Some newest) (numbered older n) (eq-eqb n (length older) e)

  pub numbered_older : (n ≡ length older → ⊥) → numbered (newest ∷ older) n ≡ numbered older n
  numbered_older ne = cond-false (eqb n (length older)) (Some newest) (numbered older n) (ne_eqb n (length older) ne)

-- a number that an item has is below their count
pub numbered-below : {A : Type 0} (xs : List A) (n : ℕ) (x : A) → numbered xs n ≡ Some x → n < length xs
numbered-below [] n x e = absurd (none-some x e)
numbered-below (newest ∷ older) n x e = by (cases_eq n (length older)) (λ h. numbered-below older n x h)
  where
    by : (n ≡ length older) ⊎ (n ≡ length older → ⊥) → (numbered older n ≡ Some x → n < length older) → n < length (newest ∷ older)
    by (inl same) rest = omega arith
    by (inr other) rest = let lt = rest (sym (numbered_older newest older n other) ∙ e) in omega arith

module _ (tags : List (List ℕ)) (newest : Derived) (older : List Derived) (n : ℕ) where
  pub meaning_newest : n ≡ 9 + length older → meaning_in tags (newest ∷ older) n ≡ derived_meaning tags (meaning_in tags older) newest
  meaning_newest e = cond-true (eqb n (9 + length older)) _ (meaning_in tags older n) (eq-eqb n (9 + length older) e)

  pub meaning_older : (n ≡ 9 + length older → ⊥) → meaning_in tags (newest ∷ older) n ≡ meaning_in tags older n
  meaning_older ne = cond-false (eqb n (9 + length older)) _ (meaning_in tags older n) (ne_eqb n (9 + length older) ne)

-- ---- numbers that stand for something

module _ (n : ℕ) (more : 9 ≤ n) where
  passed_over : (k : ℕ) (x y : Meaning) → k < n → cond (eqb n k) x y ≡ y
  passed_over k x y lt = cond-false (eqb n k) x y (ne_eqb n k (λ (e : n ≡ k). absurd (omega arith)))

  pub base-nothing : base_meaning n ≡ Nothing
  base-nothing =
      passed_over 0 _ _ (omega arith) ∙ passed_over 1 _ _ (omega arith) ∙ passed_over 2 _ _ (omega arith)
      ∙ passed_over 3 _ _ (omega arith) ∙ passed_over 4 _ _ (omega arith) ∙ passed_over 5 _ _ (omega arith)
      ∙ passed_over 6 _ _ (omega arith) ∙ passed_over 7 _ _ (omega arith) ∙ passed_over 8 _ _ (omega arith)

base-below : (n : ℕ) → IsSomething (base_meaning n) → n < 9
base-below n h = by (cases_lt n 9)
  where
    by : (n < 9) ⊎ (9 ≤ n) → n < 9
    by (inl lt) = lt
    by (inr more) = absurd (subst IsSomething (base-nothing n more) h)

module _ (tags : List (List ℕ)) where
  pub meaning-below : (es : List Derived) (n : ℕ) → IsSomething (meaning_in tags es n) → n < 9 + length es
  meaning-below [] n h = let lt = base-below n h in omega arith
  meaning-below (newest ∷ older) n h = by (cases_eq n (9 + length older)) (meaning-below older n)
    where
      by : (n ≡ 9 + length older) ⊎ (n ≡ 9 + length older → ⊥) → (IsSomething (meaning_in tags older n) → n < 9 + length older) → n < 9 + length (newest ∷ older)
      by (inl same) rest = omega arith
      by (inr other) rest = let lt = rest (subst IsSomething (meaning_older tags newest older n other) h) in omega arith

  -- what it stands for stays when an entry is added
  pub meaning_more : (newest : Derived) (older : List Derived) (n : ℕ) → IsSomething (meaning_in tags older n) → meaning_in tags (newest ∷ older) n ≡ meaning_in tags older n
  meaning_more newest older n h =
      let lt : n < 9 + length older = meaning-below older n h in
      meaning_older tags newest older n (λ (e : n ≡ 9 + length older). absurd (omega arith))

-- ---- an entry's meaning stays where those of its parts do

pointer_stays : (f g : Meaning) → (IsSomething f → g ≡ f) → IsSomething (pointer_to f) → pointer_to g ≡ pointer_to f
pointer_stays (AType t) g same h = ap pointer_to (same tt)
pointer_stays (AList ts) g same h = absurd h
pointer_stays Nothing g same h = absurd h

array_stays : (f g : Meaning) (n : ℕ) → (IsSomething f → g ≡ f) → IsSomething (array_of f n) → array_of g n ≡ array_of f n
array_stays (AType t) g n same h = ap (λ m. array_of m n) (same tt)
array_stays (AList ts) g n same h = absurd h
array_stays Nothing g n same h = absurd h

function_stays : (f g f' g' : Meaning) → (IsSomething f → g ≡ f) → (IsSomething f' → g' ≡ f') → IsSomething (function_of f f') → function_of g g' ≡ function_of f f'
function_stays (AType t) g (AList ts) g' same same' h = λ i. function_of (same tt i) (same' tt i)
function_stays (AType t) g (AType t') g' same same' h = absurd h
function_stays (AType t) g Nothing g' same same' h = absurd h
function_stays (AList ts) g f' g' same same' h = absurd h
function_stays Nothing g f' g' same same' h = absurd h

parameter_stays : (f g f' g' : Meaning) → (IsSomething f → g ≡ f) → (IsSomething f' → g' ≡ f') → IsSomething (parameter_of f f') → parameter_of g g' ≡ parameter_of f f'
parameter_stays (AType t) g (AList ts) g' same same' h = λ i. parameter_of (same tt i) (same' tt i)
parameter_stays (AType t) g (AType t') g' same same' h = absurd h
parameter_stays (AType t) g Nothing g' same same' h = absurd h
parameter_stays (AList ts) g f' g' same same' h = absurd h
parameter_stays Nothing g f' g' same same' h = absurd h

struct_stays : (tag tag' : Option (List ℕ)) → ((x : List ℕ) → tag ≡ Some x → tag' ≡ Some x) → IsSomething (struct_of tag) → struct_of tag' ≡ struct_of tag
struct_stays (Some x) tag' same h = ap struct_of (same x refl)
struct_stays None tag' same h = absurd h

pub derived_stays : (tags tags' : List (List ℕ)) (f g : ℕ → Meaning) (entry : Derived)
    → ((n : ℕ) (tag : List ℕ) → numbered tags n ≡ Some tag → numbered tags' n ≡ Some tag)
    → ((n : ℕ) → IsSomething (f n) → g n ≡ f n)
    → IsSomething (derived_meaning tags f entry) → derived_meaning tags' g entry ≡ derived_meaning tags f entry
derived_stays tags tags' f g (D.Pointer target) names same h = pointer_stays (f target.0) (g target.0) (same target.0) h
derived_stays tags tags' f g (D.Array element length) names same h = array_stays (f element.0) (g element.0) length (same element.0) h
derived_stays tags tags' f g (D.Struct id) names same h = struct_stays (numbered tags id.0) (numbered tags' id.0) (names id.0) h
derived_stays tags tags' f g (D.Function returned ps) names same h = function_stays (f returned.0) (g returned.0) (f ps.0) (g ps.0) (same returned.0) (same ps.0) h
derived_stays tags tags' f g D.NoParameters names same h = refl
derived_stays tags tags' f g (D.Parameter first others) names same h = parameter_stays (f first.0) (g first.0) (f others.0) (g others.0) (same first.0) (same others.0) h

-- ---- what stands for something does so in a table that has grown

pub numbered_more : {A : Type 0} (more xs : List A) (n : ℕ) (x : A) → numbered xs n ≡ Some x → numbered (more ++ xs) n ≡ Some x
numbered_more [] xs n x e = e
numbered_more (newest ∷ more) xs n x e =
    let rest = numbered_more more xs n x e in
    let lt : n < length (more ++ xs) = numbered-below (more ++ xs) n x rest in
    numbered_older newest (more ++ xs) n (λ (same : n ≡ length (more ++ xs)). absurd (omega arith)) ∙ rest

pub meaning_grown : (tags : List (List ℕ)) (more es : List Derived) (n : ℕ) → IsSomething (meaning_in tags es n) → meaning_in tags (more ++ es) n ≡ meaning_in tags es n
meaning_grown tags [] es n h = refl
meaning_grown tags (newest ∷ more) es n h =
    let rest = meaning_grown tags more es n h in
    meaning_more tags newest (more ++ es) n (subst IsSomething (sym rest) h) ∙ rest

-- with more tags
pub meaning_tagged : (more tags : List (List ℕ)) (es : List Derived) (n : ℕ) → IsSomething (meaning_in tags es n) → meaning_in (more ++ tags) es n ≡ meaning_in tags es n
meaning_tagged more tags [] n h = refl
meaning_tagged more tags (newest ∷ older) n h = by (cases_eq n (9 + length older)) (meaning_tagged more tags older)
  where
    by : (n ≡ 9 + length older) ⊎ (n ≡ 9 + length older → ⊥) → ((k : ℕ) → IsSomething (meaning_in tags older k) → meaning_in (more ++ tags) older k ≡ meaning_in tags older k)
        → meaning_in (more ++ tags) (newest ∷ older) n ≡ meaning_in tags (newest ∷ older) n
    by (inl same) rest =
        meaning_newest (more ++ tags) newest older n same
        ∙ derived_stays tags (more ++ tags) (meaning_in tags older) (meaning_in (more ++ tags) older) newest
        (numbered_more more tags) rest (subst IsSomething (meaning_newest tags newest older n same) h)
        ∙ sym (meaning_newest tags newest older n same)
    by (inr other) rest =
        meaning_older (more ++ tags) newest older n other
        ∙ rest n (subst IsSomething (meaning_older tags newest older n other) h)
        ∙ sym (meaning_older tags newest older n other)

-- with both
pub meaning_stays : (more_tags tags : List (List ℕ)) (more es : List Derived) (n : ℕ) → IsSomething (meaning_in tags es n)
    → meaning_in (more_tags ++ tags) (more ++ es) n ≡ meaning_in tags es n
meaning_stays more_tags tags more es n h =
    let first = meaning_tagged more_tags tags es n h in
    meaning_grown (more_tags ++ tags) more es n (subst IsSomething (sym first) h) ∙ first

-- ---- the meaning of an entry by its number

pub entry-means : (tags : List (List ℕ)) (es : List Derived) (n : ℕ) (entry : Derived) → HaveMeanings tags es → numbered es n ≡ Some entry
    → (meaning_in tags es (9 + n) ≡ derived_meaning tags (meaning_in tags es) entry) × IsSomething (derived_meaning tags (meaning_in tags es) entry)
entry-means tags [] n entry h e = absurd (none-some entry e)
entry-means tags (newest ∷ older) n entry h e = by (cases_eq n (length older)) (λ at. entry-means tags older n entry h.1 at)
  where
    stays : (d : Derived) → IsSomething (derived_meaning tags (meaning_in tags older) d) → derived_meaning tags (meaning_in tags (newest ∷ older)) d ≡ derived_meaning tags (meaning_in tags older) d
    stays d = derived_stays tags tags (meaning_in tags older) (meaning_in tags (newest ∷ older)) d (λ k tag at. at) (meaning_more tags newest older)

    by : (n ≡ length older) ⊎ (n ≡ length older → ⊥)
        → (numbered older n ≡ Some entry → (meaning_in tags older (9 + n) ≡ derived_meaning tags (meaning_in tags older) entry) × IsSomething (derived_meaning tags (meaning_in tags older) entry))
        → (meaning_in tags (newest ∷ older) (9 + n) ≡ derived_meaning tags (meaning_in tags (newest ∷ older)) entry) × IsSomething (derived_meaning tags (meaning_in tags (newest ∷ older)) entry)
    by (inl same) rest =
        let is : newest ≡ entry = same_Some newest entry (sym (numbered_newest newest older n same) ∙ e) in
        let means = h.0 in
        let all : (meaning_in tags (newest ∷ older) (9 + n) ≡ derived_meaning tags (meaning_in tags (newest ∷ older)) newest) × IsSomething (derived_meaning tags (meaning_in tags (newest ∷ older)) newest) =
        (meaning_newest tags newest older (9 + n) (ap (λ k. 9 + k) same) ∙ sym (stays newest means), subst IsSomething (sym (stays newest means)) means) in
        subst (λ d. (meaning_in tags (newest ∷ older) (9 + n) ≡ derived_meaning tags (meaning_in tags (newest ∷ older)) d) × IsSomething (derived_meaning tags (meaning_in tags (newest ∷ older)) d)) is all
    by (inr other) rest =
        let found = rest (sym (numbered_older newest older n other) ∙ e) in (
          meaning_older tags newest older (9 + n) (λ (same : 9 + n ≡ 9 + length older). other (omega arith)) ∙ found.0 ∙ sym (stays entry found.1),
          subst IsSomething (sym (stays entry found.1)) found.1,
        )

-- a number that stands for something is that of a type in every table or of an entry
pub record IsEntry (tags : List (List ℕ)) (es : List Derived) (n : ℕ) : Type 0 where
  pub place : ℕ
  pub entry : Derived
  pub number : n ≡ 9 + place
  pub at : numbered es place ≡ Some entry

pub record IsBase (tags : List (List ℕ)) (es : List Derived) (n : ℕ) : Type 0 where
  pub below : n < 9
  pub means : meaning_in tags es n ≡ base_meaning n

pub base_or_entry : (tags : List (List ℕ)) (es : List Derived) (n : ℕ) → IsSomething (meaning_in tags es n) → IsBase tags es n ⊎ IsEntry tags es n
base_or_entry tags [] n h = inl (record { below = base-below n h; means = refl })
base_or_entry tags (newest ∷ older) n h = by (cases_eq n (9 + length older)) (base_or_entry tags older n)
  where
    pass : (n ≡ 9 + length older → ⊥) → IsBase tags older n ⊎ IsEntry tags older n → IsBase tags (newest ∷ older) n ⊎ IsEntry tags (newest ∷ older) n
    pass other (inl base) = inl (record { below = base.below; means = meaning_older tags newest older n other ∙ base.means })
    pass other (inr found) = inr (record { place = found.place; entry = found.entry; number = found.number; at = numbered_more (newest ∷ []) older found.place found.entry found.at })

    by : (n ≡ 9 + length older) ⊎ (n ≡ 9 + length older → ⊥) → (IsSomething (meaning_in tags older n) → IsBase tags older n ⊎ IsEntry tags older n)
        → IsBase tags (newest ∷ older) n ⊎ IsEntry tags (newest ∷ older) n
    by (inl same) rest = inr (record { place = length older; entry = newest; number = same; at = numbered_newest newest older (length older) refl })
    by (inr other) rest = pass other (rest (subst IsSomething (meaning_older tags newest older n other) h))
