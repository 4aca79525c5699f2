-- Types whose objects have a byte at least: no array is without elements, and no structure without members.
use Rattle.std.proofs.Common.{◌≡◌, ℕ, zero, suc, ◌+◌, ◌*◌, ◌<◌, ◌≤◌, ◌&&◌, nat_lt, Bool, true, false, cond, List, [], ◌∷◌, slice_get, Option, Some, None, refl, sym, ap, subst, ◌⊎◌, inl, inr, arith}
use Rattle.std.specs.Prelude.{bytes_eq}
use Rattle.std.proofs.lemmas.Bool.{false≢true, true≢false, ltb-true, and_parts, and_from, cases_lt}
use Rattle.std.proofs.lemmas.Option.{none-some, same_Some}
use Rattle.c_typed.specs.Types.{CType, Void, Integer, Pointer, Array, Struct, Function}
use Rattle.c_typed.specs.Layouts.{StructDef, MemberDef, Layout, greatest, layouts, members_by_tag, has_members, offset_before}
use Rattle.c_typed.specs.Inside.{is_sized}
use Rattle.c_typed.specs.Programs.{are_structs}
use Rattle.c_typed.specs.Sizes.{is_filled, is_known_filled, all_filled, has_some, are_filled}
use Rattle.ref_semantics.specs.Values.{Row}
use Rattle.ref_semantics.specs.Rows.{RowOf, Whole, InArray, InStruct, IsSmall, size_in, element_offset, are_sized_structs}
use Rattle.ref_semantics.proofs.Sized.{sized_structs}
use Rattle.ref_semantics.proofs.Inward.{scalar_size}
use Rattle.tac_simulation.proofs.Growing.{IsNewest, is_newest, tag_differs, sized_layout}
use Rattle.tac_simulation.proofs.Sizes.{array_size, small_element, small_member, member_ends}
use Rattle.tac_simulation.proofs.Extents.{row_small, whole_end}

filled_sized : (structs : List StructDef) (t : CType) → is_filled structs t ≡ true → is_sized structs t ≡ true
filled_sized structs Void h = h
filled_sized structs (Integer t) h = h
filled_sized structs (Pointer t) h = h
filled_sized structs (Array element n) h = filled_sized structs element (and_parts (nat_lt 0 n) (is_filled structs element) h).1
filled_sized structs (Struct tag) h = h
filled_sized structs (Function t ts) h = h

filled_member : (structs : List StructDef) (members : List MemberDef) (number : ℕ) (member : MemberDef) → all_filled structs members ≡ true → slice_get members number ≡ Some member
    → is_known_filled structs member.c_type ≡ true
filled_member structs [] number member h there = absurd (none-some member there)
filled_member structs (first ∷ others) zero member h there =
    subst (λ (m : MemberDef). is_known_filled structs m.c_type ≡ true) (same_Some first member there) (and_parts (is_known_filled structs first.c_type) (all_filled structs others) h).0
filled_member structs (first ∷ others) (suc number) member h there =
    filled_member structs others number member (and_parts (is_known_filled structs first.c_type) (all_filled structs others) h).1 there

-- the first member, and its type
record FirstMember (structs : List StructDef) (members : List MemberDef) : Type 0 where
  member : MemberDef
  own : CType
  there : slice_get members 0 ≡ Some member
  typed : member.c_type ≡ Some own
  filled : is_filled structs own ≡ true

first_member : (structs : List StructDef) (members : List MemberDef) → has_some members ≡ true → all_filled structs members ≡ true → FirstMember structs members
first_member structs [] some all = absurd (false≢true some)
first_member structs (first ∷ others) some all = by first.c_type refl (and_parts (is_known_filled structs first.c_type) (all_filled structs others) all).0
  where
    by : (known : Option CType) → first.c_type ≡ known → is_known_filled structs known ≡ true → FirstMember structs (first ∷ others)
    by None typed h = absurd (false≢true h)
    by (Some own) typed h = record { member = first; own = own; there = refl; typed = typed; filled = h }

-- ---- one more structure

module _ (newest : StructDef) (older : List StructDef) (fresh : has_members (members_by_tag older newest.tag) ≡ false) where
  filled_more : (t : CType) → is_filled older t ≡ true → is_filled (newest ∷ older) t ≡ true
  filled_more Void h = h
  filled_more (Integer t) h = h
  filled_more (Pointer t) h = h
  filled_more (Array element n) h =
      let parts = and_parts (nat_lt 0 n) (is_filled older element) h in
      and_from (nat_lt 0 n) (is_filled (newest ∷ older) element) parts.0 (filled_more element parts.1)
  filled_more (Struct tag) h = by (bytes_eq newest.tag tag) (tag_differs newest older fresh tag h)
    where
      by : (b : Bool) → b ≡ false → has_members (cond b (Some newest.members) (members_by_tag older tag)) ≡ true
      by true e = absurd (true≢false e)
      by false e = h
  filled_more (Function t ts) h = h

  all_more : (members : List MemberDef) → all_filled older members ≡ true → all_filled (newest ∷ older) members ≡ true
  all_more [] h = refl
  all_more (member ∷ members) h =
      let parts = and_parts (is_known_filled older member.c_type) (all_filled older members) h in
      and_from (is_known_filled (newest ∷ older) member.c_type) (all_filled (newest ∷ older) members) (known_more member.c_type parts.0) (all_more members parts.1)
    where
      known_more : (t : Option CType) → is_known_filled older t ≡ true → is_known_filled (newest ∷ older) t ≡ true
      known_more (Some t) e = filled_more t e
      known_more None e = absurd (false≢true e)

-- what is known of the newest
record IsFilledNewest (newest : StructDef) (older : List StructDef) : Type 0 where
  some : has_some newest.members ≡ true
  members : all_filled older newest.members ≡ true
  others : are_filled older ≡ true

filled_newest : (newest : StructDef) (older : List StructDef) → are_filled (newest ∷ older) ≡ true → IsFilledNewest newest older
filled_newest newest older h =
    let outer = and_parts (has_some newest.members && all_filled older newest.members) (are_filled older) h in
    let inner = and_parts (has_some newest.members) (all_filled older newest.members) outer.0 in
    record { some = inner.0; members = inner.1; others = outer.1 }

members_filled : (structs : List StructDef) → are_structs structs ≡ true → are_sized_structs structs ≡ true → are_filled structs ≡ true → (tag : List ℕ) (members : List MemberDef)
    → members_by_tag structs tag ≡ Some members → all_filled structs members ≡ true
members_filled [] well sized filled tag members at = absurd (none-some members at)
members_filled (newest ∷ older) well sized filled tag members at =
    let it = is_newest newest older well sized in
    let own = filled_newest newest older filled in
    by it.fresh own.members (bytes_eq newest.tag tag) at (members_filled older it.well it.sized own.others tag members)
  where
    by : has_members (members_by_tag older newest.tag) ≡ false → all_filled older newest.members ≡ true → (b : Bool) → cond b (Some newest.members) (members_by_tag older tag) ≡ Some members
        → (members_by_tag older tag ≡ Some members → all_filled older members ≡ true) → all_filled (newest ∷ older) members ≡ true
    by fresh own true at rest = subst (λ ms. all_filled (newest ∷ older) ms ≡ true) (same_Some newest.members members at) (all_more newest older fresh newest.members own)
    by fresh own false at rest = all_more newest older fresh members (rest at)

-- ---- sizes

-- where structures have a size
module _ (structs : List StructDef) (by_tag : (tag : List ℕ) (members : List MemberDef) → members_by_tag structs tag ≡ Some members → IsSmall structs (Struct tag) → 1 ≤ size_in structs (Struct tag)) where
  type_positive : (t : CType) → is_filled structs t ≡ true → IsSmall structs t → 1 ≤ size_in structs t
  type_positive Void h small = absurd (false≢true h)
  type_positive (Integer t) h small = scalar_size structs (Integer t) refl
  type_positive (Pointer t) h small = scalar_size structs (Pointer t) refl
  type_positive (Function t ts) h small = absurd (false≢true h)
  type_positive (Array element n) h small =
      let parts = and_parts (nat_lt 0 n) (is_filled structs element) h in
      let some = ltb-true 0 n parts.0 in
      product n (size_in structs element) (size_in structs (Array element n)) some (type_positive element parts.1 (small_element structs element n 0 some small)) (array_size structs element n small)
    where
      product : (n size all : ℕ) → 0 < n → 1 ≤ size → all ≡ n * size → 1 ≤ all
      product zero size all some one e = absurd (omega arith)
      product (suc n) size all some one e = omega arith
  type_positive (Struct tag) h small = by (members_by_tag structs tag) refl h
    where
      by : (found : Option (List MemberDef)) → members_by_tag structs tag ≡ found → has_members found ≡ true → 1 ≤ size_in structs (Struct tag)
      by None at h = absurd (false≢true h)
      by (Some members) at h = by_tag tag members at small

tag_positive : (structs : List StructDef) → are_structs structs ≡ true → are_sized_structs structs ≡ true → are_filled structs ≡ true → (tag : List ℕ) (members : List MemberDef)
    → members_by_tag structs tag ≡ Some members → IsSmall structs (Struct tag) → 1 ≤ size_in structs (Struct tag)
tag_positive [] well sized filled tag members at small = absurd (none-some members at)
tag_positive (newest ∷ older) well sized filled tag members at small =
    let it = is_newest newest older well sized in
    by it (filled_newest newest older filled) (tag_positive older it.well it.sized (filled_newest newest older filled).others) (bytes_eq newest.tag tag) at
  where
    through : (start own own' all : ℕ) → 1 ≤ own → own' ≡ own → start + own' ≤ all → 1 ≤ all
    through start own own' all one e le = omega arith

    by : IsNewest newest older → IsFilledNewest newest older
        → ((tag : List ℕ) (members : List MemberDef) → members_by_tag older tag ≡ Some members → IsSmall older (Struct tag) → 1 ≤ size_in older (Struct tag))
        → (b : Bool) → cond b (Some newest.members) (members_by_tag older tag) ≡ Some members → 1 ≤ size_in (newest ∷ older) (Struct tag)
    by it own rest true found =
        let same = same_Some newest.members members found in
        let first = first_member older newest.members own.some own.members in
        let there = subst (λ ms. slice_get ms 0 ≡ Some first.member) same first.there in
        let ends = member_ends (newest ∷ older) well sized tag members 0 first.member first.own at there first.typed small in
        let first_small = small_member (newest ∷ older) well sized tag members 0 first.member first.own at there first.typed small in
        let size = ap (λ (l : Layout). l.size) (sized_layout newest older it.fresh first.own (filled_sized older first.own first.filled)) in
        through (offset_before (layouts (newest ∷ older)) members 0 (Some first.member)) (size_in older first.own) (size_in (newest ∷ older) first.own) (size_in (newest ∷ older) (Struct tag))
        (type_positive older rest first.own first.filled (subst (λ n. n < greatest) size first_small)) size ends
    by it own rest false found =
        let size = ap (λ (l : Layout). l.size) (sized_layout newest older it.fresh (Struct tag) (ap has_members found)) in
        subst (λ n. 1 ≤ n) (sym size) (rest tag members found (subst (λ n. n < greatest) size small))

module _ (structs : List StructDef) (well : are_structs structs ≡ true) (filled : are_filled structs ≡ true) where
  sized : are_sized_structs structs ≡ true
  sized = sized_structs structs well

  pub size_positive : (t : CType) → is_filled structs t ≡ true → IsSmall structs t → 1 ≤ size_in structs t
  size_positive t h small = type_positive structs (tag_positive structs well sized filled) t h small

  module _ (c_type : CType) (small : IsSmall structs c_type) (whole : is_filled structs c_type ≡ true) (count : ℕ) where
    pub row_filled : (row : Row) → RowOf structs c_type count row → is_filled structs row.c_type ≡ true
    row_filled _ Whole = whole
    row_filled _ (InArray row before element n is_row before_below is) =
        (and_parts (nat_lt 0 n) (is_filled structs element) (subst (λ t. is_filled structs t ≡ true) is (row_filled row is_row))).1
    row_filled _ (InStruct row before tag members number member own is_row before_below is at there typed) =
        subst (λ known. is_known_filled structs known ≡ true) typed (filled_member structs members number member (members_filled structs well sized filled tag members at) there)

    -- a place at the object's end is its row's end
    pub filled_end : (row : Row) → RowOf structs c_type count row → (index : ℕ) → index ≤ row.count → element_offset structs row index ≡ count * size_in structs c_type → index ≡ row.count
    filled_end row is_row index le at = by (cases_lt index row.count)
      where
        both : (a b : ℕ) → a ≤ b → b ≤ a → a ≡ b
        both a b le le' = omega arith

        by : (index < row.count) ⊎ (row.count ≤ index) → index ≡ row.count
        by (inl lt) =
            whole_end structs well c_type small count row is_row (size_positive row.c_type (row_filled row is_row) (row_small structs well c_type small count row is_row index lt)) index le at
        by (inr past) = both index row.count le past
