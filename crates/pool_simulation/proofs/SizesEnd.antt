-- Sizes end at 2 ^ 62.
use Rattle.std.proofs.Common.{ℕ, ◌*◌, ◌/◌, ◌≤◌, Bool, true, false, if◌then◌else◌, List, [], ◌∷◌, bytes_eq, arith}
use Rattle.c_num.specs.declared.IntType.{IntType}
use Rattle.c_num.specs.declared.IntType.TheVariants as I
use Rattle.c_num.specs.Types.{width_of}
use Rattle.c_typed.specs.Types.{CType, Integer, Pointer, Array, Struct}
use Rattle.c_typed.specs.Layouts.{StructDef, greatest, saturated, aligned, no_layout, members_layout, struct_layout, layouts, layout_by_tag, layout_in}
use Rattle.tac_ir.specs.Layouts.{size_of}

saturated_ends : (n : ℕ) → saturated n ≤ greatest
saturated_ends n = omega arith

width_ends : (t : IntType) → width_of t / 8 ≤ greatest
width_ends I.Char = omega arith
width_ends I.UChar = omega arith
width_ends I.Short = omega arith
width_ends I.UShort = omega arith
width_ends I.Int = omega arith
width_ends I.UInt = omega arith
width_ends I.Long = omega arith
width_ends I.ULong = omega arith

tag_ends : (structs : List StructDef) (tag : List ℕ) → (layout_by_tag (layouts structs) tag).size ≤ greatest
tag_ends [] tag = omega arith
tag_ends (newest ∷ structs) tag = by (bytes_eq newest.tag tag) (tag_ends structs tag)
  where
    by : (b : Bool) → (layout_by_tag (layouts structs) tag).size ≤ greatest → (if b then struct_layout (layouts structs) newest.members else layout_by_tag (layouts structs) tag).size ≤ greatest
    by true later = let all = members_layout (layouts structs) no_layout newest.members in saturated_ends (aligned all.alignment all.size)
    by false later = later

pub size_ends : (structs : List StructDef) (c_type : CType) → size_of structs c_type ≤ greatest
size_ends structs (Integer int_type) = width_ends int_type
size_ends structs (Pointer target) = omega arith
size_ends structs (Array element count) = saturated_ends ((layout_in (layouts structs) element).size * count)
size_ends structs (Struct tag) = tag_ends structs tag
size_ends structs _ = omega arith
