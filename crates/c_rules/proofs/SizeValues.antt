-- Values of constants: those of sizes, and converted ones.
use Rattle.std.proofs.Common.{◌≡◌, ℕ, ◌≤◌, ◌-◌, ◌*◌, ◌^◌, leb, cond, Bool, true, false, List, [], ◌∷◌, bytes_eq, ℤ, pos, int_le, arith}
use Rattle.std.proofs.lemmas.Int.{ints}
use Rattle.std.proofs.lemmas.Bool.{and_from, le-leb}
use Rattle.c_num.specs.declared.IntType.{IntType}
use Rattle.c_num.specs.declared.IntType.TheVariants as I
use Rattle.c_num.specs.Types.{least_of, greatest_of, is_value, IsValue}
use Rattle.c_num.specs.Conversion.{convert_to}
use Rattle.c_num.proofs.Conversions.{convert_to-in_range}
use Rattle.c_num.proofs.Outcomes.{test_from_le}
use Rattle.c_typed.specs.Types.{CType, Void, Integer, Pointer, Array, Struct, Function}
use Rattle.c_typed.specs.Layouts.{StructDef, Layout, Table, saturated, layout_by_tag, layout_in, layouts, layout_of}

-- ---- sizes

saturated_below : (n : ℕ) → saturated n ≤ 2 ^ 62
saturated_below n = omega arith

integer_below : (n : IntType) (table : Table) → (layout_in table (Integer n)).size ≤ 2 ^ 62
integer_below I.Char table = omega arith
integer_below I.UChar table = omega arith
integer_below I.Short table = omega arith
integer_below I.UShort table = omega arith
integer_below I.Int table = omega arith
integer_below I.UInt table = omega arith
integer_below I.Long table = omega arith
integer_below I.ULong table = omega arith

tag_below : (structs : List StructDef) (tag : List ℕ) → (layout_by_tag (layouts structs) tag).size ≤ 2 ^ 62
tag_below [] tag = omega arith
tag_below (newest ∷ structs) tag = by (bytes_eq newest.tag tag) _ (layout_by_tag (layouts structs) tag) (saturated_below _) (tag_below structs tag)
  where
    by : (b : Bool) (one other : Layout) → one.size ≤ 2 ^ 62 → other.size ≤ 2 ^ 62 → (cond b one other).size ≤ 2 ^ 62
    by true one other h k = h
    by false one other h k = k

pub size_below : (structs : List StructDef) (t : CType) → (layout_of structs t).size ≤ 2 ^ 62
size_below structs (Integer n) = integer_below n (layouts structs)
size_below structs (Pointer target) = omega arith
size_below structs (Array element n) = saturated_below ((layout_in (layouts structs) element).size * n)
size_below structs (Struct tag) = tag_below structs tag
size_below structs Void = omega arith
size_below structs (Function result parameters) = omega arith

pub size_is_value : (size : ℕ) → size ≤ 2 ^ 62 → is_value I.ULong (pos size) ≡ true
size_is_value size small = and_from (leb 0 size) (leb size (2 ^ 64 - 1)) (le-leb 0 size (omega arith)) (le-leb size (2 ^ 64 - 1) (omega arith))

-- ---- converted values

pub value_is : (n : IntType) (z : ℤ) → IsValue n z → is_value n z ≡ true
value_is n z is = and_from (int_le (least_of n) z) (int_le z (greatest_of n)) (test_from_le (least_of n) z is.least) (test_from_le z (greatest_of n) is.greatest)

pub converted_is_value : (n : IntType) (z : ℤ) → is_value n (convert_to n z) ≡ true
converted_is_value n z = value_is n (convert_to n z) (convert_to-in_range n z)

character_is_int : (z : ℤ) → IsValue I.Char z → IsValue I.Int z
character_is_int z is = record { least = omega (arith, ints, is.least); greatest = omega (arith, ints, is.greatest) }

pub character_is_value : (z : ℤ) → is_value I.Int (convert_to I.Char z) ≡ true
character_is_value z = value_is I.Int (convert_to I.Char z) (character_is_int (convert_to I.Char z) (convert_to-in_range I.Char z))
