-- What types that objects get are.
use Rattle.std.proofs.Common.{◌≡◌, ℕ, zero, suc, ◌≤◌, ◌*◌, ◌+◌, ◌/◌, ◌%◌, ◌==◌, true, false, not, List, arith, refl, sym, ap, ◌∙◌}
use Rattle.std.proofs.lemmas.Bool.{false≢true, and_parts, eqb-true}
use Rattle.std.proofs.lemmas.Bool.Decides.{Decides-ltb}
use Rattle.std.proofs.Math.Nat.{div-add-mod}
use Rattle.c_num.specs.declared.IntType.TheVariants as I
use Rattle.c_typed.specs.Types.{CType, Void, Integer, Pointer, Array, Struct, Function}
use Rattle.c_typed.specs.Layouts.{StructDef, is_complete, layout_of, greatest}
use Rattle.c_typed.specs.Expressions.{is_scalar}
use Rattle.c_typed.specs.Sizes.{is_small, is_filled, fills, is_storable}
use Rattle.c_typed.proofs.Filled.{fills_complete}
use Rattle.ref_semantics.specs.Rows.{IsSmall}

module _ (structs : List StructDef) where
  pub storable_small : (t : CType) → is_storable structs t ≡ true → IsSmall structs t
  storable_small t storable = (Decides-ltb (layout_of structs t).size greatest).0 (and_parts (is_small structs t) (fills structs t) storable).0

  pub storable_filled : (t : CType) → is_storable structs t ≡ true → is_complete structs t ≡ true → is_filled structs t ≡ true
  storable_filled t storable complete = fills_complete structs t (and_parts (is_small structs t) (fills structs t) storable).1 complete

  pub scalar_storable : (t : CType) → is_scalar t ≡ true → is_storable structs t ≡ true
  scalar_storable Void h = absurd (false≢true h)
  scalar_storable (Integer I.Char) h = refl
  scalar_storable (Integer I.UChar) h = refl
  scalar_storable (Integer I.Short) h = refl
  scalar_storable (Integer I.UShort) h = refl
  scalar_storable (Integer I.Int) h = refl
  scalar_storable (Integer I.UInt) h = refl
  scalar_storable (Integer I.Long) h = refl
  scalar_storable (Integer I.ULong) h = refl
  scalar_storable (Pointer t) h = refl
  scalar_storable (Array t n) h = absurd (false≢true h)
  scalar_storable (Struct tag) h = absurd (false≢true h)
  scalar_storable (Function t ts) h = absurd (false≢true h)

-- some bytes that are whole elements are one at least
pub some_elements : (bytes size : ℕ) → 1 ≤ bytes → not (bytes % size == 0) ≡ false → 1 ≤ bytes / size
some_elements bytes size some whole = by (bytes / size) refl
  where
    not-false : (b : _) → not b ≡ false → b ≡ true
    not-false true h = refl
    not-false false h = absurd (false≢true (sym h))

    rest : bytes % size ≡ 0
    rest = eqb-true (bytes % size) 0 (not-false (bytes % size == 0) whole)

    by : (n : ℕ) → bytes / size ≡ n → 1 ≤ n
    by (suc n) is = omega arith
    by zero is = let all : size * (bytes / size) + bytes % size ≡ bytes = div-add-mod bytes size in
        let none : size * 0 + 0 ≡ bytes = sym (ap (λ k. size * k + 0) is) ∙ sym (ap (λ k. size * (bytes / size) + k) rest) ∙ all in
        absurd (omega (arith, none, some))
