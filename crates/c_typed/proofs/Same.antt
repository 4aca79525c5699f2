-- `same_type` is equality.
use Rattle.std.proofs.Common.{◌≡◌, true, ◌==◌, refl, ap}
use Rattle.std.proofs.lemmas.Bool.{false≢true, and_parts, and_from, eqb-true, eq-eqb}
use Rattle.std.proofs.lemmas.Slice.Eq.{bytes_eq-Decides}
use Rattle.c_num.specs.declared.IntType.{IntType}
use Rattle.c_num.specs.declared.IntType.TheVariants as I
use Rattle.c_typed.specs.Types.{CType, CTypes, Void, Integer, Pointer, Array, Struct, Function, NoTypes, MoreTypes, same_int_type, same_type, same_types}

same_int_type-refl : (t : IntType) → same_int_type t t ≡ true
same_int_type-refl I.Char = refl
same_int_type-refl I.UChar = refl
same_int_type-refl I.Short = refl
same_int_type-refl I.UShort = refl
same_int_type-refl I.Int = refl
same_int_type-refl I.UInt = refl
same_int_type-refl I.Long = refl
same_int_type-refl I.ULong = refl

same_int_type-true : (a b : IntType) → same_int_type a b ≡ true → a ≡ b
same_int_type-true I.Char I.Char h = refl
same_int_type-true I.UChar I.UChar h = refl
same_int_type-true I.Short I.Short h = refl
same_int_type-true I.UShort I.UShort h = refl
same_int_type-true I.Int I.Int h = refl
same_int_type-true I.UInt I.UInt h = refl
same_int_type-true I.Long I.Long h = refl
same_int_type-true I.ULong I.ULong h = refl
same_int_type-true a b h = absurd (false≢true h)

mutual
  pub same_type-refl : (t : CType) → same_type t t ≡ true
  same_type-refl Void = refl
  same_type-refl (Integer t) = same_int_type-refl t
  same_type-refl (Pointer t) = same_type-refl t
  same_type-refl (Array t n) = and_from (same_type t t) (n == n) (same_type-refl t) (eq-eqb n n refl)
  same_type-refl (Struct tag) = (bytes_eq-Decides tag tag).1 refl
  same_type-refl (Function t ts) = and_from (same_type t t) (same_types ts ts) (same_type-refl t) (same_types-refl ts)

  same_types-refl : (ts : CTypes) → same_types ts ts ≡ true
  same_types-refl NoTypes = refl
  same_types-refl (MoreTypes t ts) = and_from (same_type t t) (same_types ts ts) (same_type-refl t) (same_types-refl ts)

mutual
  pub same_type-true : (a b : CType) → same_type a b ≡ true → a ≡ b
  same_type-true Void Void h = refl
  same_type-true (Integer a) (Integer b) h = ap Integer (same_int_type-true a b h)
  same_type-true (Pointer a) (Pointer b) h = ap Pointer (same_type-true a b h)
  same_type-true (Array a n) (Array b m) h =
      let parts = and_parts (same_type a b) (n == m) h in
      let first = same_type-true a b parts.0 in
      let second = eqb-true n m parts.1 in
      λ i. Array (first i) (second i)
  same_type-true (Struct a) (Struct b) h = ap Struct ((bytes_eq-Decides a b).0 h)
  same_type-true (Function a ps) (Function b qs) h =
      let parts = and_parts (same_type a b) (same_types ps qs) h in
      let first = same_type-true a b parts.0 in
      let second = same_types-true ps qs parts.1 in
      λ i. Function (first i) (second i)
  same_type-true _ _ h = absurd (false≢true h)

  same_types-true : (ps qs : CTypes) → same_types ps qs ≡ true → ps ≡ qs
  same_types-true NoTypes NoTypes h = refl
  same_types-true (MoreTypes a others) (MoreTypes b others') h =
      let parts = and_parts (same_type a b) (same_types others others') h in
      let first = same_type-true a b parts.0 in
      let second = same_types-true others others' parts.1 in
      λ i. MoreTypes (first i) (second i)
  same_types-true _ _ h = absurd (false≢true h)
