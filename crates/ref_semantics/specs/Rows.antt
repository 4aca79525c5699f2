-- The rows of an object, and the scalars in them (C17 6.2.5 paragraph 20, 6.2.6.1, 6.7.2.1).
use Rattle.std.specs.Prelude.{◌≡◌, ℕ, ◌+◌, ◌*◌, ◌<◌, Bool, true, ◌&&◌, List, [], ◌∷◌, slice_get, Some}
use Rattle.c_typed.specs.Types.{CType, Array, Struct}
use Rattle.c_typed.specs.Layouts.{StructDef, MemberDef, layouts, layout_of, members_by_tag, offset_before, greatest}
use Rattle.c_typed.specs.Inside.{are_sized}
use Rattle.c_typed.specs.Expressions.{is_scalar}
use Rattle.ref_semantics.specs.Values.{Row, whole_row}

abbrev pub size_in : List StructDef → CType → ℕ
size_in structs c_type = (layout_of structs c_type).size

-- how many bytes an element of a row lies behind the beginning of the object
abbrev pub element_offset : List StructDef → Row → ℕ → ℕ
element_offset structs row index = row.start + index * size_in structs row.c_type

-- An object is a row of so many elements of a type. The elements of an array that stands in a row of it are one, and a member of a
-- structure that stands in a row of it is one alone.
pub data RowOf (structs : List StructDef) (c_type : CType) (count : ℕ) : Row → Type 0 where
  Whole : RowOf structs c_type count (whole_row c_type count)
  InArray : (row : Row) (index : ℕ) (element : CType) (n : ℕ) → RowOf structs c_type count row → index < row.count → row.c_type ≡ Array element n
      → RowOf structs c_type count (record { start = element_offset structs row index; c_type = element; count = n })
  InStruct : (row : Row) (index : ℕ) (tag : List ℕ) (members : List MemberDef) (number : ℕ) (member : MemberDef) (own : CType) → RowOf structs c_type count row
      → index < row.count → row.c_type ≡ Struct tag → members_by_tag structs tag ≡ Some members → slice_get members number ≡ Some member → member.c_type ≡ Some own
      → RowOf structs c_type count (record { start = element_offset structs row index + offset_before (layouts structs) members number (Some member); c_type = own; count = 1 })

-- a scalar of this type stands so many bytes behind the beginning of the object
pub record LeafAt (structs : List StructDef) (c_type : CType) (count : ℕ) (offset : ℕ) (own : CType) : Type 0 where
  pub row : Row
  pub index : ℕ
  pub is_row : RowOf structs c_type count row
  pub within : index < row.count
  pub is_own : row.c_type ≡ own
  pub scalar : is_scalar own ≡ true
  pub stands : offset ≡ element_offset structs row index

-- a size that is told exactly
abbrev pub IsSmall : List StructDef → CType → Type 0
IsSmall structs c_type = size_in structs c_type < greatest

-- the members of each structure have sizes that the older ones tell, and so have the elements of those that are arrays
abbrev pub are_sized_structs : List StructDef → Bool
are_sized_structs [] = true
are_sized_structs (newest ∷ older) = are_sized older newest.members && are_sized_structs older
