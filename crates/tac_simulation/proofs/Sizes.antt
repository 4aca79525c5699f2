-- Parts of what has an exact size have exact sizes.
use Rattle.std.proofs.Common.{◌≡◌, ℕ, ◌+◌, ◌*◌, ◌<◌, ◌≤◌, true, List, slice_get, Some, ap, subst, ◌∙◌, mul_comm, arith}
use Rattle.c_typed.specs.Types.{CType, Array, Struct}
use Rattle.c_typed.specs.Layouts.{StructDef, MemberDef, Layout, greatest, layouts, struct_layout, known_layout, member_layout, members_by_tag, offset_before}
use Rattle.c_typed.specs.Programs.{are_structs}
use Rattle.ref_semantics.specs.Rows.{IsSmall, size_in, are_sized_structs}
use Rattle.ref_semantics.proofs.Arithmetic.{cut_same, element_size}
use Rattle.ref_semantics.proofs.Stays.{struct_is}
use Rattle.ref_semantics.proofs.Placed.{aligned_layouts, member_within}

-- an array of an exact size is as great as its elements
pub array_size : (structs : List StructDef) (element : CType) (n : ℕ) → IsSmall structs (Array element n) → size_in structs (Array element n) ≡ n * size_in structs element
array_size structs element n small = let size = size_in structs element in cut_same greatest (size * n) small ∙ mul_comm size n

pub small_element : (structs : List StructDef) (element : CType) (n index : ℕ) → index < n → IsSmall structs (Array element n) → IsSmall structs element
small_element structs element n index lt small =
    let size = size_in structs element in
    below size (n * size) (size_in structs (Array element n)) (element_size size n index lt) (array_size structs element n small) small
  where
    below : (size all all' : ℕ) → size ≤ all → all' ≡ all → all' < greatest → size < greatest
    below size all all' le e lt = omega arith

-- a member ends within its structure
pub member_ends : (structs : List StructDef) → are_structs structs ≡ true → are_sized_structs structs ≡ true → (tag : List ℕ) (members : List MemberDef) (number : ℕ) (member : MemberDef) (t : CType)
    → members_by_tag structs tag ≡ Some members → slice_get members number ≡ Some member → member.c_type ≡ Some t → IsSmall structs (Struct tag)
    → offset_before (layouts structs) members number (Some member) + size_in structs t ≤ size_in structs (Struct tag)
member_ends structs well sized tag members number member t at there typed small =
    let table = layouts structs in
    let layout : size_in structs (Struct tag) ≡ (struct_layout table members).size = ap (λ (l : Layout). l.size) (struct_is structs well sized tag members at) in
    let own : (member_layout table member).size ≡ size_in structs t = ap (λ o. (known_layout table o).size) typed in
    let within = member_within table (aligned_layouts structs) members (subst (λ n. n < greatest) layout small) number member there in
    ends_by (offset_before table members number (Some member)) (member_layout table member).size (size_in structs t) (struct_layout table members).size (size_in structs (Struct tag)) within own layout
  where
    ends_by : (start own own' all all' : ℕ) → start + own ≤ all → own ≡ own' → all' ≡ all → start + own' ≤ all'
    ends_by start own own' all all' le e e' = omega arith

pub small_member : (structs : List StructDef) → are_structs structs ≡ true → are_sized_structs structs ≡ true → (tag : List ℕ) (members : List MemberDef) (number : ℕ) (member : MemberDef) (t : CType)
    → members_by_tag structs tag ≡ Some members → slice_get members number ≡ Some member → member.c_type ≡ Some t → IsSmall structs (Struct tag) → IsSmall structs t
small_member structs well sized tag members number member t at there typed small =
    below (offset_before (layouts structs) members number (Some member)) (size_in structs t) (size_in structs (Struct tag)) (member_ends structs well sized tag members number member t at there typed small) small
  where
    below : (start own all : ℕ) → start + own ≤ all → all < greatest → own < greatest
    below start own all le lt = omega arith
