-- Parameters get the newest operands.
use Rattle.std.proofs.Common.{◌≡◌, ℕ, zero, suc, ◌+◌, ◌-◌, ◌≤◌, List, [], ◌∷◌, ◌++◌, length, map, drop, take, reverse, slice_get, Some, refl, sym, ap, ◌∙◌, arith, take_all, length-drop, take-append-drop}
use Rattle.std.proofs.lemmas.List.{reverse-append, reverse-reverse, length-reverse, take-append-le, drop-append-le, drop_all}
use Rattle.std.proofs.lemmas.Option.{none-some, same_Some}
use Rattle.c_typed.specs.Types.{CType}
use Rattle.c_typed.specs.Typed.{FunctionDef}
use Rattle.ref_semantics.specs.Values.{Scalar}
use Rattle.ref_semantics.specs.Store.{TypeEnvironment, give}
use Rattle.ref_semantics.specs.Parts.{BodyPart}
use Rattle.ref_semantics.specs.Steps as steps
use Rattle.ref_semantics.specs.Steps.{Config}

-- the last items are the newest ones
module _ {X : Type 0} (items : List X) (count : ℕ) (there : count ≤ length items) where
  long : length (reverse (drop (length items - count) items)) ≡ count
  long = omega (arith, length-reverse (drop (length items - count) items) ∙ length-drop (length items - count) items, there)

  pub last-taken : reverse (take count (reverse items)) ≡ drop (length items - count) items
  last-taken =
      ap (λ l. reverse (take count (reverse l))) (sym (take-append-drop (length items - count) items))
      ∙ (ap (λ l. reverse (take count l)) (reverse-append (take (length items - count) items) (drop (length items - count) items))
      ∙ (ap reverse (take-append-le count (reverse (drop (length items - count) items)) (reverse (take (length items - count) items)) (omega (arith, long)) ∙ take_all count (reverse (drop (length items - count) items)) (omega (arith, long)))
      ∙ reverse-reverse (drop (length items - count) items)))

  pub rest-dropped : drop count (reverse items) ≡ reverse (take (length items - count) items)
  rest-dropped =
      ap (λ l. drop count (reverse l)) (sym (take-append-drop (length items - count) items))
      ∙ (ap (drop count) (reverse-append (take (length items - count) items) (drop (length items - count) items))
      ∙ (drop-append-le count (reverse (drop (length items - count) items)) (reverse (take (length items - count) items)) (omega (arith, long))
      ∙ ap (λ l. l ++ reverse (take (length items - count) items)) (drop_all count (reverse (drop (length items - count) items)) (omega (arith, long)))))

pub drop-there : {X : Type 0} (items : List X) (number : ℕ) (x : X) → slice_get items number ≡ Some x → drop number items ≡ x ∷ drop (suc number) items
drop-there [] number x h = absurd (none-some x h)
drop-there (first ∷ others) zero x h = ap (λ y. y ∷ others) (same_Some first x h)
drop-there (first ∷ others) (suc number) x h = drop-there others number x h

zero-more : (n : ℕ) → n ≡ 0 + n
zero-more n = omega arith

suc-more : (m n : ℕ) → suc (m + n) ≡ suc m + n
suc-more m n = omega arith

pub get-dropped : {X : Type 0} (items : List X) (first number : ℕ) → slice_get (drop first items) number ≡ slice_get items (first + number)
get-dropped items zero number = ap (slice_get items) (zero-more number)
get-dropped [] (suc first) number = refl
get-dropped (one ∷ others) (suc first) number = get-dropped others first number ∙ ap (slice_get (one ∷ others)) (suc-more first number)

pub get-mapped : {X Y : Type 0} (f : X → Y) (items : List X) (number : ℕ) (x : X) → slice_get items number ≡ Some x → slice_get (map f items) number ≡ Some (f x)
get-mapped f [] number x h = absurd (none-some x h)
get-mapped f (first ∷ others) zero x h = ap (λ y. Some (f y)) (same_Some first x h)
get-mapped f (first ∷ others) (suc number) x h = get-mapped f others number x h

-- ---- what is bound next

module _ (around : TypeEnvironment) (functions : List FunctionDef) (function : FunctionDef) (types : List CType) (given : List Scalar) (config : Config) where
  -- no parameter is left
  pub bound-types : types ≡ [] → steps.bind_next around functions function types given config ≡ give (steps.enters around functions (BodyPart function) config)
  bound-types e = ap (λ t. steps.bind_next around functions function t given config) e

  -- no value is left
  pub bound-given : given ≡ [] → steps.bind_next around functions function types given config ≡ give (steps.enters around functions (BodyPart function) config)
  bound-given e = ap (λ g. steps.bind_next around functions function types g config) e ∙ by types
    where
      by : (t : List CType) → steps.bind_next around functions function t [] config ≡ give (steps.enters around functions (BodyPart function) config)
      by [] = refl
      by (first ∷ others) = refl
