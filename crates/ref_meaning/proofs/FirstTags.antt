-- The tags that a store holds are those that a program completes.
use Rattle.std.proofs.Common.{◌≡◌, ℕ, Bool, true, false, ◌||◌, if◌then◌else◌, List, [], ◌∷◌, ◌++◌, Bor, bytes_eq, refl, sym, ap, subst, ◌∙◌}
use Rattle.std.specs.List.{list_any}
use Rattle.std.proofs.lemmas.Bool.{false≢true, false_from_ne_true}
use Rattle.std.proofs.lemmas.Slice.Eq.{bytes_eq-Decides}
use Rattle.indexmap.specs.IndexSet.{insert_key}
use Rattle.c_typed.specs.Names.{contains}

same_bytes : (a b : List ℕ) → bytes_eq a b ≡ bytes_eq b a
same_bytes a b = by (bytes_eq a b) refl
  where
    by : (t : Bool) → bytes_eq a b ≡ t → bytes_eq a b ≡ bytes_eq b a
    by true e = e ∙ sym ((bytes_eq-Decides b a).1 (sym ((bytes_eq-Decides a b).0 e)))
    by false e = e ∙ sym (false_from_ne_true (bytes_eq b a) (λ h. false≢true (sym e ∙ (bytes_eq-Decides a b).1 (sym ((bytes_eq-Decides b a).0 h)))))

or_assoc : (a b c : Bool) → (a || b) || c ≡ a || (b || c)
or_assoc true b c = refl
or_assoc false b c = refl

or_false : (a : Bool) → a || false ≡ a
or_false true = refl
or_false false = refl

contains_more : (xs : List (List ℕ)) (x tag : List ℕ) → contains (xs ++ x ∷ []) tag ≡ contains xs tag || bytes_eq x tag
contains_more [] x tag = or_false (bytes_eq x tag)
contains_more (y ∷ ys) x tag = ap (λ b. bytes_eq y tag || b) (contains_more ys x tag) ∙ sym (or_assoc (bytes_eq y tag) (contains ys tag) (bytes_eq x tag))

any_more : {A : Type 0} (test : A → Bool) (xs : List A) (x : A) → list_any test (xs ++ x ∷ []) ≡ list_any test xs || test x
any_more test [] x = or_false (test x)
any_more test (y ∷ ys) x = ap (λ b. test y || b) (any_more test ys x) ∙ sym (or_assoc (test y) (list_any test ys) (test x))

-- one more tag
pub tag_added : (keys : List (Bor (List ℕ))) (xs : List (List ℕ)) (key : Bor (List ℕ)) (tag : List ℕ) → ((t : List ℕ) → contains xs t ≡ list_any (λ k. bytes_eq t k.now) keys)
    → contains (xs ++ key.now ∷ []) tag ≡ list_any (λ k. bytes_eq tag k.now) (insert_key (λ a b. bytes_eq a.now b.now) keys key)
tag_added keys xs key tag all = contains_more xs key.now tag ∙ (ap (λ b. b || bytes_eq key.now tag) (all tag) ∙ by (list_any (λ k. bytes_eq key.now k.now) keys) refl)
  where
    there : (b : Bool) → bytes_eq key.now tag ≡ b → list_any (λ k. bytes_eq key.now k.now) keys ≡ true → list_any (λ k. bytes_eq tag k.now) keys || b ≡ list_any (λ k. bytes_eq tag k.now) keys
    there true e h =
        let same = subst (λ t. list_any (λ k. bytes_eq t k.now) keys ≡ true) ((bytes_eq-Decides key.now tag).0 e) h in
        ap (λ b. b || true) same ∙ sym same
    there false e h = or_false (list_any (λ k. bytes_eq tag k.now) keys)

    by : (b : Bool) → list_any (λ k. bytes_eq key.now k.now) keys ≡ b
        → list_any (λ k. bytes_eq tag k.now) keys || bytes_eq key.now tag ≡ list_any (λ k. bytes_eq tag k.now) (if b then keys else keys ++ key ∷ [])
    by true e = there (bytes_eq key.now tag) refl e
    by false e = ap (λ b. list_any (λ k. bytes_eq tag k.now) keys || b) (same_bytes key.now tag) ∙ sym (any_more (λ k. bytes_eq tag k.now) keys key)
