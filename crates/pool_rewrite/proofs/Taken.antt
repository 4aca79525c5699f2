-- The part of a list that a loop has come over.
use Rattle.std.proofs.Common.{◌≡◌, ℕ, ◌+◌, ◌<◌, List, [], ◌∷◌, ◌++◌, map, take, length, get_or, sym, ap, ◌∙◌}
use Rattle.std.proofs.lemmas.List.{map-append, take_more}

pub taken_next : {A : Type 0} → (items : List A) (n : ℕ) (item : A) → n < length items → item ≡ get_or items n item → take (n + 1) items ≡ take n items ++ item ∷ []
taken_next items n item lt is = take_more items n item lt ∙ ap (λ x. take n items ++ x ∷ []) (sym is)

-- one more item was made of the next one
pub mapped_next : {A B C : Type 0} → (f : A → C) (g : B → C) (made after : List A) (own : A) (items : List B) (n : ℕ) (item : B) → after ≡ made ++ own ∷ [] → f own ≡ g item
    → n < length items → item ≡ get_or items n item → map f made ≡ map g (take n items) → map f after ≡ map g (take (n + 1) items)
mapped_next f g made after own items n item pushed same lt is before =
    ap (map f) pushed ∙ (map-append f made (own ∷ []) ∙ ((λ i. before i ++ same i ∷ []) ∙ (sym (map-append g (take n items) (item ∷ [])) ∙ ap (map g) (sym (taken_next items n item lt is)))))
