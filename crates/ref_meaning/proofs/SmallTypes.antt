-- Objects of types of exact sizes have no row that ends behind them.
use Rattle.std.proofs.Common.{◌≡◌, ℕ, ◌+◌, ◌*◌, ◌<◌, ◌≤◌, ◌^◌, true, List, slice_get, Option, Some, None, refl, ap, subst, ◌∙◌, arith, zero-le, mul_comm}
use Rattle.std.proofs.lemmas.Bool.{ltb-true}
use Rattle.c_typed.specs.declared.c_type.CType as number
use Rattle.c_typed.specs.Types.{CType, Void, Integer, Pointer, Array, Struct, Function}
use Rattle.c_typed.specs.Layouts.{StructDef, MemberDef, Layout, layouts, greatest, struct_layout, known_layout, member_layout, members_by_tag, known_members, offset_before}
use Rattle.c_typed.specs.Table.{Interned, Stands, type_in, structs_in}
use Rattle.c_typed.specs.Programs.{are_structs}
use Rattle.c_typed.specs.Sizes.{is_small}
use Rattle.ref_semantics.proofs.Arithmetic.{cut_same, element_ends, element_size}
use Rattle.ref_semantics.proofs.Sized.{sized_structs}
use Rattle.ref_semantics.proofs.Stays.{struct_is}
use Rattle.ref_semantics.proofs.Placed.{aligned_layouts, member_within}
use Rattle.ref_semantics.specs.Values.{Row, whole_row, no_row}
use Rattle.ref_semantics.specs.Store.{known_type, members_of, member_row, inner_row}
use Rattle.ref_meaning.specs.Fitting.{size_in, row_end, with_structs, LeadsToRow, Origin, ToMember, ToInner, IsObjectType}

module _ (structs : List StructDef) (well : are_structs structs ≡ true) (total : ℕ) where
  -- it ends below a total, and its elements have an exact size
  record IsWithin (row : Row) : Type 0 where
    ends : row_end structs row ≤ total
    small : 1 ≤ row.count → size_in structs row.c_type < greatest

  nothing_within : IsWithin no_row
  nothing_within = record { ends = zero-le; small = λ h. omega arith }

  element_below : (start index count size : ℕ) → index < count → start + count * size ≤ total → start + index * size + size ≤ total
  element_below start index count size lt le = let within = element_ends size count index size lt (omega arith) in omega (arith, within, le)

  -- one alone behind an element's beginning
  one_within : (offset size within own : ℕ) → offset + size ≤ total → within + own ≤ size → offset + within + 1 * own ≤ total
  one_within offset size within own le le' = omega (arith, le, le')

  below_greatest : (within own size : ℕ) → within + own ≤ size → size < greatest → own < greatest
  below_greatest within own size le lt = omega (arith, le, lt)

  typed_size : (known : Option CType) → (known_layout (layouts structs) known).size ≡ size_in structs (known_type known)
  typed_size (Some t) = refl
  typed_size None = refl

  module _ (offset : ℕ) where
    member_there : (tag : List ℕ) (members : List MemberDef) (number : ℕ) → members_by_tag structs tag ≡ Some members → size_in structs (Struct tag) < greatest → offset + size_in structs (Struct tag) ≤ total
        → (found : Option MemberDef) → slice_get members number ≡ found → IsWithin (member_row (with_structs structs) offset members number found)
    member_there tag members number at small le None there = nothing_within
    member_there tag members number at small le (Some member) there =
        let layout : size_in structs (Struct tag) ≡ (struct_layout (layouts structs) members).size = ap (λ (l : Layout). l.size) (struct_is structs well (sized_structs structs well) tag members at) in
        let within = member_within (layouts structs) (aligned_layouts structs) members (subst (λ n. n < greatest) layout small) number member there in
        let start = offset_before (layouts structs) members number (Some member) in
        let ends = same_ends start (member_layout (layouts structs) member).size (size_in structs (known_type member.c_type)) (struct_layout (layouts structs) members).size (size_in structs (Struct tag))
        within (typed_size member.c_type) layout in
        record {
          ends = one_within offset (size_in structs (Struct tag)) start (size_in structs (known_type member.c_type)) le ends;
          small = λ h. below_greatest start (size_in structs (known_type member.c_type)) (size_in structs (Struct tag)) ends small;
        }
      where
        same_ends : (start own own' all all' : ℕ) → start + own ≤ all → own ≡ own' → all' ≡ all → start + own' ≤ all'
        same_ends start own own' all all' le e e' = omega (arith, le, e, e')

    member_known : (tag : List ℕ) (number : ℕ) → size_in structs (Struct tag) < greatest → offset + size_in structs (Struct tag) ≤ total
        → (known : Option (List MemberDef)) → members_by_tag structs tag ≡ known → IsWithin (member_row (with_structs structs) offset (known_members known) number (slice_get (known_members known) number))
    member_known tag number small le None at = nothing_within
    member_known tag number small le (Some members) at = member_there tag members number at small le (slice_get members number) refl

    member_of_type : (c_type : CType) (number : ℕ) → size_in structs c_type < greatest → offset + size_in structs c_type ≤ total
        → IsWithin (member_row (with_structs structs) offset (members_of (with_structs structs) c_type) number (slice_get (members_of (with_structs structs) c_type) number))
    member_of_type Void number small le = nothing_within
    member_of_type (Integer int_type) number small le = nothing_within
    member_of_type (Pointer target) number small le = nothing_within
    member_of_type (Array element n) number small le = nothing_within
    member_of_type (Function result parameters) number small le = nothing_within
    member_of_type (Struct tag) number small le = member_known tag number small le (members_by_tag structs tag) refl

    itself_within : (c_type : CType) → size_in structs c_type < greatest → offset + size_in structs c_type ≤ total → IsWithin (record { start = offset; c_type = c_type; count = 1 })
    itself_within c_type small le = record { ends = by (size_in structs c_type) le; small = λ h. small }
      where
        by : (size : ℕ) → offset + size ≤ total → offset + 1 * size ≤ total
        by size le = omega (arith, le)

    inner_of_type : (c_type : CType) → size_in structs c_type < greatest → offset + size_in structs c_type ≤ total → IsWithin (inner_row offset c_type)
    inner_of_type Void small le = itself_within Void small le
    inner_of_type (Integer int_type) small le = itself_within (Integer int_type) small le
    inner_of_type (Pointer target) small le = itself_within (Pointer target) small le
    inner_of_type (Struct tag) small le = itself_within (Struct tag) small le
    inner_of_type (Function result parameters) small le = itself_within (Function result parameters) small le
    inner_of_type (Array element n) small le =
        let size = size_in structs element in
        let whole : size_in structs (Array element n) ≡ n * size = cut_same greatest (size * n) small ∙ mul_comm size n in
        record {
          ends = by (size_in structs (Array element n)) (n * size) whole le;
          small = λ h. element_below_all size (n * size) (size_in structs (Array element n)) (element_size size n 0 h) whole small;
        }
      where
        by : (all all' : ℕ) → all ≡ all' → offset + all ≤ total → offset + all' ≤ total
        by all all' e le = omega (arith, e, le)

        element_below_all : (size all all' : ℕ) → size ≤ all → all' ≡ all → all' < greatest → size < greatest
        element_below_all size all all' le e lt = omega (arith, le, e, lt)

  one_at_least : (index count : ℕ) → index < count → 1 ≤ count
  one_at_least index count lt = omega (arith, lt)

  all_within : (c_type : CType) (count : ℕ) → size_in structs c_type < greatest → count * size_in structs c_type ≤ total → (row : Row) → LeadsToRow structs (whole_row c_type count) row → IsWithin row
  all_within c_type count small le _ Origin = record { ends = by (count * size_in structs c_type) le; small = λ h. small }
    where
      by : (n : ℕ) → n ≤ total → 0 + n ≤ total
      by n le = omega (arith, le)
  all_within c_type count small le _ (ToMember row index number leads lt fits) =
      let within = all_within c_type count small le row leads in
      member_of_type (row.start + index * size_in structs row.c_type) row.c_type number (within.small (one_at_least index row.count lt))
      (element_below row.start index row.count (size_in structs row.c_type) lt within.ends)
  all_within c_type count small le _ (ToInner row index leads lt fits) =
      let within = all_within c_type count small le row leads in
      inner_of_type (row.start + index * size_in structs row.c_type) row.c_type (within.small (one_at_least index row.count lt))
      (element_below row.start index row.count (size_in structs row.c_type) lt within.ends)

le_lt : (a b c : ℕ) → a ≤ b → b < c → a < c
le_lt a b c le lt = omega (arith, le, lt)

-- objects of a type of an exact size
pub small_object : (table : Interned) (c_type : number.CType) → are_structs (structs_in table) ≡ true → Stands table c_type → is_small (structs_in table) (type_in table c_type) ≡ true → IsObjectType table c_type
small_object table c_type well stands small =
    let structs = structs_in table in
    let size = size_in structs (type_in table c_type) in
    record {
      stands = stands;
      fits = λ count lt row leads fits.
          le_lt (row_end structs row) (count * size) (2 ^ 64) (all_within structs well (count * size) (type_in table c_type) count (ltb-true size greatest small) (omega arith) row leads).ends lt;
    }
