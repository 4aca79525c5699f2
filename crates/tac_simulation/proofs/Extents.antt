-- Places stand within their objects.
use Rattle.std.proofs.Common.{◌≡◌, ℕ, suc, ◌+◌, ◌*◌, ◌<◌, ◌≤◌, true, List, Some, sym, subst, ◌⊎◌, inl, inr, arith, mul-le-mul_right}
use Rattle.std.proofs.lemmas.Bool.{cases_lt}
use Rattle.c_typed.specs.Types.{CType}
use Rattle.c_typed.specs.Layouts.{StructDef, layouts, offset_before}
use Rattle.c_typed.specs.Programs.{are_structs}
use Rattle.ref_semantics.specs.Values.{Row}
use Rattle.ref_semantics.specs.Rows.{RowOf, Whole, InArray, InStruct, IsSmall, size_in, element_offset, are_sized_structs}
use Rattle.ref_semantics.proofs.Sized.{sized_structs}
use Rattle.tac_simulation.proofs.Sizes.{array_size, small_element, small_member, member_ends}

module _ (structs : List StructDef) (well : are_structs structs ≡ true) (c_type : CType) (small : IsSmall structs c_type) (count : ℕ) where
  sized : are_sized_structs structs ≡ true
  sized = sized_structs structs well

  -- the elements of a row have an exact size
  pub row_small : (row : Row) → RowOf structs c_type count row → (index : ℕ) → index < row.count → IsSmall structs row.c_type
  row_small _ Whole index lt = small
  row_small _ (InArray row before element n is_row before_below is) index lt =
      small_element structs element n index lt (subst (λ t. IsSmall structs t) is (row_small row is_row before before_below))
  row_small _ (InStruct row before tag members number member own is_row before_below is at there typed) index lt =
      small_member structs well sized tag members number member own at there typed (subst (λ t. IsSmall structs t) is (row_small row is_row before before_below))

  -- a place, or a row's end, is within the object
  pub place_within : (row : Row) → RowOf structs c_type count row → (index : ℕ) → index ≤ row.count → element_offset structs row index ≤ count * size_in structs c_type
  place_within _ Whole index le = by (index * size_in structs c_type) (count * size_in structs c_type) (mul-le-mul_right (size_in structs c_type) le)
    where
      by : (a b : ℕ) → a ≤ b → 0 + a ≤ b
      by a b le = omega arith
  place_within _ (InArray row before element n is_row before_below is) index le =
      let array_small = subst (λ t. IsSmall structs t) is (row_small row is_row before before_below) in
      let next = place_within row is_row (suc before) before_below in
      let size = size_in structs element in
      by row.start before (size_in structs row.c_type) (index * size) (n * size) (subst (λ t. size_in structs t ≡ n * size) (sym is) (array_size structs element n array_small)) (mul-le-mul_right size le) next
    where
      by : (start before whole part parts : ℕ) → whole ≡ parts → part ≤ parts → start + suc before * whole ≤ count * size_in structs c_type → start + before * whole + part ≤ count * size_in structs c_type
      by start before whole part parts e le next = omega arith
  place_within _ (InStruct row before tag members number member own is_row before_below is at there typed) index le =
      let struct_small = subst (λ t. IsSmall structs t) is (row_small row is_row before before_below) in
      let ends = member_ends structs well sized tag members number member own at there typed struct_small in
      let next = place_within row is_row (suc before) before_below in
      let size = size_in structs own in
      let start = offset_before (layouts structs) members number (Some member) in
      by row.start before (size_in structs row.c_type) start (index * size) size (subst (λ t. start + size ≤ size_in structs t) (sym is) ends) (mul-le-mul_right size le) next
    where
      by : (start before whole member_start part size : ℕ) → member_start + size ≤ whole → part ≤ 1 * size → start + suc before * whole ≤ count * size_in structs c_type
          → start + before * whole + member_start + part ≤ count * size_in structs c_type
      by start before whole member_start part size e le next = omega arith

  -- an element ends within the object
  pub element_within : (row : Row) → RowOf structs c_type count row → (index : ℕ) → index < row.count → element_offset structs row index + size_in structs row.c_type ≤ count * size_in structs c_type
  element_within row is_row index lt = by row.start (size_in structs row.c_type) (count * size_in structs c_type) (place_within row is_row (suc index) lt)
    where
      by : (start size all : ℕ) → start + suc index * size ≤ all → start + index * size + size ≤ all
      by start size all le = omega arith

  -- a place at the object's end is its row's end, where elements have a size
  pub whole_end : (row : Row) → RowOf structs c_type count row → 1 ≤ size_in structs row.c_type → (index : ℕ) → index ≤ row.count → element_offset structs row index ≡ count * size_in structs c_type → index ≡ row.count
  whole_end row is_row one index le at = by (cases_lt index row.count)
    where
      no_room : (offset size all : ℕ) → 1 ≤ size → offset + size ≤ all → offset ≡ all → ⊥
      no_room offset size all one le e = omega arith

      both : (a b : ℕ) → a ≤ b → b ≤ a → a ≡ b
      both a b le le' = omega arith

      by : (index < row.count) ⊎ (row.count ≤ index) → index ≡ row.count
      by (inl lt) = absurd (no_room (element_offset structs row index) (size_in structs row.c_type) (count * size_in structs c_type) one (element_within row is_row index lt) at)
      by (inr past) = both index row.count le past
