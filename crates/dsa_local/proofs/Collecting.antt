-- Lists that are collected one by one.
use Rattle.std.proofs.Common.{◌≡◌, List, [], ◌∷◌, ◌++◌, map, sym, ap, ◌∙◌}
use Rattle.std.specs.List.{AllByRecursion}
use Rattle.std.proofs.lemmas.List.{map-append}

pub all_more : {X : Type 0} (P : X → Type 0) (xs : List X) (x : X) → AllByRecursion P xs → P x → AllByRecursion P (xs ++ x ∷ [])
all_more P [] x all last = (last, tt)
all_more P (first ∷ others) x all last = (all.0, all_more P others x all.1 last)

pub map_more : {X Y Z : Type 0} (f : X → Z) (g : Y → Z) (xs new : List X) (x : X) (ys next : List Y) (y : Y) → new ≡ xs ++ x ∷ [] → next ≡ ys ++ y ∷ [] → map f xs ≡ map g ys → f x ≡ g y
    → map f new ≡ map g next
map_more f g xs new x ys next y is at same last =
    ap (map f) is ∙ (map-append f xs (x ∷ []) ∙ (ap (λ l. l ++ f x ∷ []) same ∙ (ap (λ z. map g ys ++ z ∷ []) last ∙ (sym (map-append g ys (y ∷ [])) ∙ sym (ap (map g) at)))))
