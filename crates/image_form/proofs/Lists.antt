-- Lists of items, read one by one.
use Rattle.std.proofs.Common.{◌≡◌, ℕ, zero, suc, ◌+◌, ◌-◌, ◌<◌, List, [], ◌∷◌, ◌++◌, length, refl, sym, ap, subst, ◌∙◌, arith, append_assoc}
use Rattle.std.proofs.lemmas.List.{append-nil, length-append}
use Rattle.std.proofs.lemmas.Grind.{flat_map-append}
use Rattle.std.specs.List.{AllByRecursion, flat_map}
use Rattle.pool_isa.specs.Spelling.{StandsAt}
use Rattle.pool_isa.proofs.Faults.{stands_then}
use Rattle.image_form.specs.declared.image.ImageErr.{ImageErr}
use Rattle.image_form.specs.Reading.{Spelled, Refuses, EachFrom, IsList}
use Rattle.image_form.proofs.Fields.{IsUnique, Then, goes_on, refused_first, refused_behind, refused_alike}

module _ {X : Type 0} (bytes_of : X → List ℕ) (IsItem : ℕ → X → Type 0) (unique : (index : ℕ) → IsUnique (IsItem index) bytes_of) (some : (index : ℕ) → (item : X) × IsItem index item) where
  -- so many items, the first at this index
  abbrev pub Items : ℕ → ℕ → List ℕ → Type 0
  Items index zero bytes = bytes ≡ []
  Items index (suc count) bytes = Then (IsItem index) bytes_of (λ item rest. Items (suc index) count rest) bytes

  items_exist : (count index : ℕ) → (bytes : List ℕ) × Items index count bytes
  items_exist zero index = ([], refl)
  items_exist (suc count) index = let first = some index in goes_on (IsItem index) bytes_of (unique index) (λ item rest. Items (suc index) count rest) first.0 first.1 (items_exist count (suc index))

  list_of : (count index : ℕ) (bytes : List ℕ) → Items index count bytes → (items : List X) × (length items ≡ count) × EachFrom IsItem index items × (bytes ≡ flat_map bytes_of items)
  list_of zero index bytes is = ([], refl, tt, is)
  list_of (suc count) index bytes is =
      let others = list_of count (suc index) is.1 is.4 in
      (is.0 ∷ others.0, ap suc others.1, (is.2, others.2), is.3 ∙ ap (λ t. bytes_of is.0 ++ t) others.3)

  items_of : (items : List X) (index : ℕ) → EachFrom IsItem index items → Items index (length items) (flat_map bytes_of items)
  items_of [] index each = refl
  items_of (item ∷ items) index each = (item, flat_map bytes_of items, each.0, refl, items_of items (suc index) each.1)

  one_more_each : (found : List X) (next : X) (index at : ℕ) → index + length found ≡ at → EachFrom IsItem index found → IsItem at next → EachFrom IsItem index (found ++ next ∷ [])
  one_more_each [] next index at e each is = let same : at ≡ index = omega arith in (subst (λ k. IsItem k next) same is, tt)
  one_more_each (item ∷ found) next index at e each is = (each.0, one_more_each found next (suc index) at (omega arith) each.1 is)

  one_more_bytes : (found : List X) (next : X) → flat_map bytes_of (found ++ next ∷ []) ≡ flat_map bytes_of found ++ bytes_of next
  one_more_bytes found next = flat_map-append bytes_of found (next ∷ []) ∙ ap (λ t. flat_map bytes_of found ++ t) (append-nil (bytes_of next))

  -- what a loop keeps that reads so many items: those found are, they stand, and a refusal of the others is one of all
  pub record Keeps (bytes : List ℕ) (at count here index : ℕ) (found : List X) : Type 0 where
    pub many : length found ≡ index
    pub each : EachFrom IsItem 0 found
    pub stands : StandsAt bytes at here (flat_map bytes_of found)
    pub refused : (fault : ImageErr) → Refuses (Items index (count - index)) bytes here fault → Refuses (Items 0 count) bytes at fault

  pub kept_first : (bytes : List ℕ) (at count : ℕ) → StandsAt bytes at at [] → Keeps bytes at count at 0 []
  kept_first bytes at count stands = record {
    many = refl;
    each = tt;
    stands = stands;
    refused = λ fault r. let all : count - 0 ≡ count = omega arith in subst (λ n. Refuses (Items 0 n) bytes at fault) all r;
  }

  pub kept_more : (bytes : List ℕ) (at count here end index : ℕ) (found new : List X) (next : X) → index < count → new ≡ found ++ next ∷ [] → IsItem index next → StandsAt bytes here end (bytes_of next) → Keeps bytes at count here index found → Keeps bytes at count end (index + 1) new
  kept_more bytes at count here end index found new next fewer e is stands keeps =
      subst (Keeps bytes at count end (index + 1)) (sym e) (record {
        many = let m = keeps.many in let l = length-append found (next ∷ []) in omega arith;
        each = one_more_each found next 0 index (let m = keeps.many in omega arith) keeps.each is;
        stands = subst (StandsAt bytes at end) (sym (one_more_bytes found next)) (stands_then bytes at here end (flat_map bytes_of found) (bytes_of next) keeps.stands stands);
        refused = λ fault r.
            let left : suc (count - (index + 1)) ≡ count - index = omega arith in
            let next_index : index + 1 ≡ suc index = omega arith in
            keeps.refused fault (subst (λ n. Refuses (Items index n) bytes here fault) left
            (refused_behind (IsItem index) bytes_of (unique index) (λ item rest. Items (suc index) (count - (index + 1)) rest) bytes here end next fault is stands
            (subst (λ k. Refuses (Items k (count - (index + 1))) bytes end fault) next_index r)));
      })

  pub item_refused : (bytes : List ℕ) (at count here index : ℕ) (found : List X) (fault : ImageErr) → index < count → Keeps bytes at count here index found → Refuses (Spelled (IsItem index) bytes_of) bytes here fault → Refuses (Spelled (IsList IsItem count) (flat_map bytes_of)) bytes at fault
  item_refused bytes at count here index found fault fewer keeps r =
      let left : suc (count - (index + 1)) ≡ count - index = omega arith in
      refused_alike (Items 0 count) (Spelled (IsList IsItem count) (flat_map bytes_of)) bytes at fault
      (λ x is. let items = list_of count 0 x is in (items.0, (items.1, items.2), items.3))
      (λ x is. subst (λ n. Items 0 n x) is.1.0 (subst (Items 0 (length is.0)) (sym is.2) (items_of is.0 0 is.1.1)))
      (keeps.refused fault (subst (λ n. Refuses (Items index n) bytes here fault) left
      (refused_first (IsItem index) bytes_of (unique index) (λ item rest. Items (suc index) (count - (index + 1)) rest) bytes here fault (λ field is. items_exist (count - (index + 1)) (suc index)) r)))

  pub list_found : (bytes : List ℕ) (at count here index : ℕ) (found : List X) → index ≡ count → Keeps bytes at count here index found → IsList IsItem count found × StandsAt bytes at here (flat_map bytes_of found)
  list_found bytes at count here index found same keeps = ((keeps.many ∙ same, keeps.each), keeps.stands)

  pub some_list : (count : ℕ) → (bytes : List ℕ) × Spelled (IsList IsItem count) (flat_map bytes_of) bytes
  some_list count =
      let some = items_exist count 0 in
      let items = list_of count 0 some.0 some.1 in
      (some.0, (items.0, (items.1, items.2), items.3))

-- as many items with the same bytes are the same
pub unique_items : {X : Type 0} (IsItem : X → Type 0) (bytes_of : X → List ℕ) → IsUnique IsItem bytes_of → (xs ys : List X) (x y : List ℕ) → AllByRecursion IsItem xs → AllByRecursion IsItem ys → length xs ≡ length ys → flat_map bytes_of xs ++ x ≡ flat_map bytes_of ys ++ y → (xs ≡ ys) × (x ≡ y)
unique_items IsItem bytes_of unique [] [] x y p q many e = (refl, e)
unique_items IsItem bytes_of unique [] (b ∷ ys) x y p q many e = absurd (omega arith)
unique_items IsItem bytes_of unique (a ∷ xs) [] x y p q many e = absurd (omega arith)
unique_items IsItem bytes_of unique (a ∷ xs) (b ∷ ys) x y p q many e =
    let first = unique a b (flat_map bytes_of xs ++ x) (flat_map bytes_of ys ++ y) p.0 q.0 (sym (append_assoc (bytes_of a) (flat_map bytes_of xs) x) ∙ e ∙ append_assoc (bytes_of b) (flat_map bytes_of ys) y) in
    let rest = unique_items IsItem bytes_of unique xs ys x y p.1 q.1 (omega arith) first.1 in
    let one : a ∷ xs ≡ b ∷ ys = let f = first.0 in let r = rest.0 in cc in
    (one, rest.1)

any_items : {X : Type 0} (xs : List X) → AllByRecursion (λ x. Unit {0}) xs
any_items [] = tt
any_items (x ∷ xs) = (tt, any_items xs)

pub same_items : {X : Type 0} (bytes_of : X → List ℕ) → ((a b : X) (x y : List ℕ) → bytes_of a ++ x ≡ bytes_of b ++ y → (a ≡ b) × (x ≡ y)) → (xs ys : List X) (x y : List ℕ) → length xs ≡ length ys → flat_map bytes_of xs ++ x ≡ flat_map bytes_of ys ++ y → (xs ≡ ys) × (x ≡ y)
same_items bytes_of same xs ys x y many e = unique_items (λ x. Unit {0}) bytes_of (λ a b x y p q e. same a b x y e) xs ys x y (any_items xs) (any_items ys) many e
