-- The size of each type keeps within its bound.
use Rattle.std.proofs.Common.{ℕ, ◌*◌, ◌≤◌, Bool, true, false, cond, List, [], ◌∷◌, arith}
use Rattle.std.specs.Prelude.{bytes_eq}
use Rattle.c_num.specs.declared.IntType.{IntType}
use Rattle.c_num.specs.declared.IntType.TheVariants as I
use Rattle.c_typed.specs.Types.{CType, Void, Integer, Pointer, Array, Struct, Function}
use Rattle.c_typed.specs.Layouts.{StructDef, Table, greatest, saturated, layout_by_tag, layout_in, layouts, layout_of}

saturated-small : (n : ℕ) → saturated n ≤ greatest
saturated-small n = omega arith

small_integer : (t : IntType) (table : Table) → (layout_in table (Integer t)).size ≤ greatest
small_integer I.Char table = omega arith
small_integer I.UChar table = omega arith
small_integer I.Short table = omega arith
small_integer I.UShort table = omega arith
small_integer I.Int table = omega arith
small_integer I.UInt table = omega arith
small_integer I.Long table = omega arith
small_integer I.ULong table = omega arith

abbrev AreSmall : Table → Type 0
AreSmall [] = Unit {0}
AreSmall (entry ∷ table) = (entry.1.size ≤ greatest) × AreSmall table

small_by_tag : (table : Table) → AreSmall table → (tag : List ℕ) → (layout_by_tag table tag).size ≤ greatest
small_by_tag [] h tag = omega arith
small_by_tag (entry ∷ table) h tag = by (bytes_eq entry.0 tag) (small_by_tag table h.1 tag)
  where
    by : (b : Bool) → (layout_by_tag table tag).size ≤ greatest → (cond b entry.1 (layout_by_tag table tag)).size ≤ greatest
    by true rest = h.0
    by false rest = rest

small_in : (table : Table) → AreSmall table → (t : CType) → (layout_in table t).size ≤ greatest
small_in table h Void = omega arith
small_in table h (Integer t) = small_integer t table
small_in table h (Pointer t) = omega arith
small_in table h (Array t n) = saturated-small ((layout_in table t).size * n)
small_in table h (Struct tag) = small_by_tag table h tag
small_in table h (Function t ts) = omega arith

are_small : (structs : List StructDef) → AreSmall (layouts structs)
are_small [] = tt
are_small (newest ∷ structs) = (saturated-small _, are_small structs)

pub small_size : (structs : List StructDef) (t : CType) → (layout_of structs t).size ≤ greatest
small_size structs t = small_in (layouts structs) (are_small structs) t
