-- The scalars of an element, from its type inwards.
use Rattle.std.proofs.Common.{◌≡◌, ℕ, zero, suc, ◌+◌, ◌*◌, ◌<◌, ◌≤◌, true, List, slice_get, Some, refl, sym, ap, ◌∙◌, subst, ◌⊎◌, inl, inr, mul_comm, arith}
use Rattle.std.proofs.lemmas.Bool.{false≢true}
use Rattle.std.proofs.lemmas.Option.{same_Some}
use Rattle.c_num.specs.declared.IntType.{IntType}
use Rattle.c_num.specs.declared.IntType.TheVariants as I
use Rattle.c_typed.specs.Types.{CType, Void, Integer, Pointer, Array, Struct, Function}
use Rattle.c_typed.specs.Layouts.{StructDef, MemberDef, Layout, greatest, layouts, struct_layout, known_layout, member_layout, members_by_tag, offset_before}
use Rattle.c_typed.specs.Expressions.{is_scalar}
use Rattle.c_typed.specs.Programs.{are_structs}
use Rattle.ref_semantics.specs.Values.{Row}
use Rattle.ref_semantics.specs.Rows.{RowOf, Whole, InArray, InStruct, LeafAt, size_in, element_offset, are_sized_structs}
use Rattle.ref_semantics.proofs.Arithmetic.{cut_same, element_ends, element_before, element_size}
use Rattle.ref_semantics.proofs.Stays.{struct_is}
use Rattle.ref_semantics.proofs.Placed.{aligned_layouts, member_within, members_apart}

-- a scalar of an object of a type
pub data Within (structs : List StructDef) : CType → ℕ → CType → Type 0 where
  Itself : (own : CType) → is_scalar own ≡ true → Within structs own 0 own
  InElement : (element : CType) (n index offset : ℕ) (own : CType) → index < n → Within structs element offset own
      → Within structs (Array element n) (index * size_in structs element + offset) own
  InMember : (tag : List ℕ) (members : List MemberDef) (number : ℕ) (member : MemberDef) (c_type : CType) (offset : ℕ) (own : CType)
      → members_by_tag structs tag ≡ Some members → slice_get members number ≡ Some member → member.c_type ≡ Some c_type → Within structs c_type offset own
      → Within structs (Struct tag) (offset_before (layouts structs) members number (Some member) + offset) own

-- a scalar of an element of an object
pub record InObject (structs : List StructDef) (c_type : CType) (count : ℕ) (offset : ℕ) (own : CType) : Type 0 where
  pub index : ℕ
  pub inner : ℕ
  pub below : index < count
  pub within : Within structs c_type inner own
  pub stands : offset ≡ index * size_in structs c_type + inner

-- ---- what the rows of an object lead to

module _ (structs : List StructDef) (c_type : CType) (count : ℕ) where
  at_begin : (index size inner : ℕ) → 0 + index * size + inner ≡ index * size + inner
  at_begin index size inner = omega arith

  further : (start offset inner : ℕ) → start + (offset + inner) ≡ start + offset + inner
  further start offset inner = omega arith

  first_only : (index size start inner : ℕ) → index < 1 → start + inner ≡ start + index * size + inner
  first_only zero size start inner lt = omega arith
  first_only (suc index) size start inner lt = absurd (omega arith)

  from_row : (row : Row) → RowOf structs c_type count row → (index : ℕ) → index < row.count → (own : CType) (inner : ℕ) → Within structs row.c_type inner own
      → InObject structs c_type count (element_offset structs row index + inner) own
  from_row _ Whole index lt own inner within =
      record { index = index; inner = inner; below = lt; within = within; stands = at_begin index (size_in structs c_type) inner }
  from_row _ (InArray row before element n is_row before_below is) index lt own inner within =
      let size = size_in structs element in
      let whole = subst (λ t. Within structs t (index * size + inner) own) (sym is) (InElement element n index inner own lt within) in
      let found = from_row row is_row before before_below own (index * size + inner) whole in
      subst (λ offset. InObject structs c_type count offset own) (further (element_offset structs row before) (index * size) inner) found
  from_row _ (InStruct row before tag members number member t is_row before_below is at there typed) index lt own inner within =
      let start = offset_before (layouts structs) members number (Some member) in
      let whole = subst (λ t. Within structs t (start + inner) own) (sym is) (InMember tag members number member t inner own at there typed within) in
      let found = from_row row is_row before before_below own (start + inner) whole in
      subst (λ offset. InObject structs c_type count offset own)
      (further (element_offset structs row before) start inner ∙ first_only index (size_in structs t) (element_offset structs row before + start) inner lt) found

  itself_ends : (n : ℕ) → n + 0 ≡ n
  itself_ends n = omega arith

  pub from_leaf : (offset : ℕ) (own : CType) → LeafAt structs c_type count offset own → InObject structs c_type count offset own
  from_leaf offset own leaf =
      let within = subst (λ t. Within structs t 0 own) (sym leaf.is_own) (Itself own leaf.scalar) in
      let found = from_row leaf.row leaf.is_row leaf.index leaf.within own 0 within in
      subst (λ n. InObject structs c_type count n own) (itself_ends (element_offset structs leaf.row leaf.index) ∙ sym leaf.stands) found

-- ---- the parts of an element

record ArrayPart (structs : List StructDef) (element : CType) (n : ℕ) (offset : ℕ) (own : CType) : Type 0 where
  index : ℕ
  inner : ℕ
  below : index < n
  within : Within structs element inner own
  stands : offset ≡ index * size_in structs element + inner

array_part : (structs : List StructDef) (element : CType) (n offset : ℕ) (own : CType) → Within structs (Array element n) offset own → ArrayPart structs element n offset own
array_part structs element n offset own (Itself _ h) = absurd (false≢true h)
array_part structs element n _ own (InElement _ _ index inner _ lt within) = record { index = index; inner = inner; below = lt; within = within; stands = refl }

record StructPart (structs : List StructDef) (tag : List ℕ) (offset : ℕ) (own : CType) : Type 0 where
  members : List MemberDef
  number : ℕ
  member : MemberDef
  c_type : CType
  inner : ℕ
  at : members_by_tag structs tag ≡ Some members
  there : slice_get members number ≡ Some member
  typed : member.c_type ≡ Some c_type
  within : Within structs c_type inner own
  stands : offset ≡ offset_before (layouts structs) members number (Some member) + inner

struct_part : (structs : List StructDef) (tag : List ℕ) (offset : ℕ) (own : CType) → Within structs (Struct tag) offset own → StructPart structs tag offset own
struct_part structs tag offset own (Itself _ h) = absurd (false≢true h)
struct_part structs tag _ own (InMember _ members number member t inner _ at there typed within) =
    record { members = members; number = number; member = member; c_type = t; inner = inner; at = at; there = there; typed = typed; within = within; stands = refl }

scalar_part : (structs : List StructDef) (t : CType) (offset : ℕ) (own : CType) → Within structs t offset own → is_scalar t ≡ true → (0 ≡ offset) × (t ≡ own)
scalar_part structs t _ own (Itself _ h) scalar = (refl, refl)
scalar_part structs _ _ own (InElement element n index inner _ lt within) scalar = absurd (false≢true scalar)
scalar_part structs _ _ own (InMember tag members number member t inner _ at there typed within) scalar = absurd (false≢true scalar)

-- a scalar has a size
pub scalar_size : (structs : List StructDef) (t : CType) → is_scalar t ≡ true → 1 ≤ size_in structs t
scalar_size structs Void h = absurd (false≢true h)
scalar_size structs (Integer t) h = by t
  where
    by : (t : IntType) → 1 ≤ size_in structs (Integer t)
    by I.Char = omega arith
    by I.UChar = omega arith
    by I.Short = omega arith
    by I.UShort = omega arith
    by I.Int = omega arith
    by I.UInt = omega arith
    by I.Long = omega arith
    by I.ULong = omega arith
scalar_size structs (Pointer t) h = omega arith
scalar_size structs (Array t n) h = absurd (false≢true h)
scalar_size structs (Struct tag) h = absurd (false≢true h)
scalar_size structs (Function t ts) h = absurd (false≢true h)

-- ---- they lie apart

-- two scalars are one, or one ends before the other
abbrev pub Apart : List StructDef → ℕ → CType → ℕ → CType → Type 0
Apart structs first own second other = ((first ≡ second) × (own ≡ other)) ⊎ (first + size_in structs own ≤ second) ⊎ (second + size_in structs other ≤ first)

later : (base first size second : ℕ) → first + size ≤ second → base + first + size ≤ base + second
later base first size second le = omega arith

shifted : (structs : List StructDef) (base first : ℕ) (own : CType) (second : ℕ) (other : CType) → Apart structs first own second other
    → Apart structs (base + first) own (base + second) other
shifted structs base first own second other (inl same) = inl (ap (λ n. base + n) same.0, same.1)
shifted structs base first own second other (inr (inl le)) = inr (inl (later base first (size_in structs own) second le))
shifted structs base first own second other (inr (inr le)) = inr (inr (later base second (size_in structs other) first le))

-- the numbers are in order, or the same
data Ordered (a b : ℕ) : Type 0 where
  Lower : a < b → Ordered a b
  Same : a ≡ b → Ordered a b
  Higher : b < a → Ordered a b

ordered : (a b : ℕ) → Ordered a b
ordered zero zero = Same refl
ordered zero (suc b) = Lower (omega arith)
ordered (suc a) zero = Higher (omega arith)
ordered (suc a) (suc b) = by (ordered a b)
  where
    by : Ordered a b → Ordered (suc a) (suc b)
    by (Lower lt) = Lower (omega arith)
    by (Same e) = Same (ap suc e)
    by (Higher lt) = Higher (omega arith)

-- elements of a row
module _ (structs : List StructDef) (t : CType) where
  pub elements_apart : (first second : ℕ) (inner : ℕ) (own : CType) (inner' : ℕ) (other : CType)
      → inner + size_in structs own ≤ size_in structs t → inner' + size_in structs other ≤ size_in structs t → Apart structs inner own inner' other
      → Apart structs (first * size_in structs t + inner) own (second * size_in structs t + inner') other
  elements_apart first second inner own inner' other le le' inside = by (ordered first second)
    where
      by : Ordered first second → Apart structs (first * size_in structs t + inner) own (second * size_in structs t + inner') other
      by (Lower lt) = inr (inl (grouped (first * size_in structs t) inner (size_in structs own) (second * size_in structs t + inner')
          (element_before (size_in structs t) first second (inner + size_in structs own) lt le inner')))
        where
          grouped : (base inner size all : ℕ) → base + (inner + size) ≤ all → base + inner + size ≤ all
          grouped base inner size all le = omega arith
      by (Same e) = subst (λ n. Apart structs (first * size_in structs t + inner) own (n * size_in structs t + inner') other) e
          (shifted structs (first * size_in structs t) inner own inner' other inside)
      by (Higher lt) = inr (inr (grouped (second * size_in structs t) inner' (size_in structs other) (first * size_in structs t + inner)
          (element_before (size_in structs t) second first (inner' + size_in structs other) lt le' inner)))
        where
          grouped : (base inner size all : ℕ) → base + (inner + size) ≤ all → base + inner + size ≤ all
          grouped base inner size all le = omega arith

module _ (structs : List StructDef) (well : are_structs structs ≡ true) (sized : are_sized_structs structs ≡ true) where
  -- an array of a small size is as great as its elements, which are small
  record IsArray (element : CType) (n : ℕ) : Type 0 where
    element_small : size_in structs element < greatest
    whole : size_in structs (Array element n) ≡ n * size_in structs element

  small_array : (element : CType) (n index : ℕ) → index < n → size_in structs (Array element n) < greatest → IsArray element n
  small_array element n index lt small =
      let size = size_in structs element in
      let same = cut_same greatest (size * n) small in
      record {
        element_small = at_most size (n * size) (size * n) (element_size size n index lt) (mul_comm n size) (subst (λ k. k < greatest) same small);
        whole = same ∙ mul_comm size n;
      }
    where
      at_most : (size all all' : ℕ) → size ≤ all → all ≡ all' → all' < greatest → size < greatest
      at_most size all all' le e lt = omega arith

  -- a member within a structure of a small size
  record IsMember (tag : List ℕ) (members : List MemberDef) (number : ℕ) (member : MemberDef) (t : CType) : Type 0 where
    layout : size_in structs (Struct tag) ≡ (struct_layout (layouts structs) members).size
    member_size : (member_layout (layouts structs) member).size ≡ size_in structs t
    ends : offset_before (layouts structs) members number (Some member) + size_in structs t ≤ size_in structs (Struct tag)
    small : size_in structs t < greatest

  small_member : (tag : List ℕ) (members : List MemberDef) (number : ℕ) (member : MemberDef) (t : CType)
      → members_by_tag structs tag ≡ Some members → slice_get members number ≡ Some member → member.c_type ≡ Some t → size_in structs (Struct tag) < greatest
      → IsMember tag members number member t
  small_member tag members number member t at there typed small =
      let table = layouts structs in
      let layout : size_in structs (Struct tag) ≡ (struct_layout table members).size = ap (λ (l : Layout). l.size) (struct_is structs well sized tag members at) in
      let member_size : (member_layout table member).size ≡ size_in structs t = ap (λ o. (known_layout table o).size) typed in
      let start = offset_before table members number (Some member) in
      let within = member_within table (aligned_layouts structs) members (subst (λ n. n < greatest) layout small) number member there in
      let ends = ends_by start (member_layout table member).size (size_in structs t) (struct_layout table members).size (size_in structs (Struct tag)) within member_size layout in
      record { layout = layout; member_size = member_size; ends = ends; small = small_by start (size_in structs t) (size_in structs (Struct tag)) ends small }
    where
      ends_by : (start own own' all all' : ℕ) → start + own ≤ all → own ≡ own' → all' ≡ all → start + own' ≤ all'
      ends_by start own own' all all' le e e' = omega arith

      small_by : (start own all : ℕ) → start + own ≤ all → all < greatest → own < greatest
      small_by start own all le lt = omega arith

  pub within_size : (t : CType) (offset : ℕ) (own : CType) → Within structs t offset own → size_in structs t < greatest → offset + size_in structs own ≤ size_in structs t
  within_size t _ own (Itself _ h) small = itself (size_in structs own)
    where
      itself : (n : ℕ) → 0 + n ≤ n
      itself n = omega arith
  within_size _ _ own (InElement element n index inner _ lt within) small =
      let array = small_array element n index lt small in
      let inside = within_size element inner own within array.element_small in
      by (index * size_in structs element) inner (size_in structs own) (n * size_in structs element) (size_in structs (Array element n))
      (element_ends (size_in structs element) n index (inner + size_in structs own) lt inside) array.whole
    where
      by : (base inner size all all' : ℕ) → base + (inner + size) ≤ all → all' ≡ all → base + inner + size ≤ all'
      by base inner size all all' le e = omega arith
  within_size _ _ own (InMember tag members number member t inner _ at there typed within) small =
      let found = small_member tag members number member t at there typed small in
      let inside = within_size t inner own within found.small in
      by (offset_before (layouts structs) members number (Some member)) inner (size_in structs own) (size_in structs t) (size_in structs (Struct tag)) inside found.ends
    where
      by : (start inner size own all : ℕ) → inner + size ≤ own → start + own ≤ all → start + inner + size ≤ all
      by start inner size own all le le' = omega arith

  -- scalars of two members
  members_order : (tag : List ℕ) (members : List MemberDef) (first second : ℕ) (one two : MemberDef) (t : CType) → first < second
      → members_by_tag structs tag ≡ Some members → slice_get members first ≡ Some one → slice_get members second ≡ Some two → one.c_type ≡ Some t → size_in structs (Struct tag) < greatest
      → (inner inner' size : ℕ) → inner + size ≤ size_in structs t
      → offset_before (layouts structs) members first (Some one) + inner + size ≤ offset_before (layouts structs) members second (Some two) + inner'
  members_order tag members first second one two t lt at there there' typed small inner inner' size inside =
      let table = layouts structs in
      let found = small_member tag members first one t at there typed small in
      let before = members_apart table (aligned_layouts structs) members (subst (λ n. n < greatest) found.layout small) first second one two lt there there' in
      by (offset_before table members first (Some one)) (member_layout table one).size (size_in structs t) (offset_before table members second (Some two)) before found.member_size inside
    where
      by : (start own own' next : ℕ) → start + own ≤ next → own ≡ own' → inner + size ≤ own' → start + inner + size ≤ next + inner'
      by start own own' next le e le' = omega arith

  pub within_apart : (t : CType) (first : ℕ) (own : CType) → Within structs t first own → size_in structs t < greatest → (second : ℕ) (other : CType) → Within structs t second other
      → Apart structs first own second other
  within_apart t _ own (Itself _ h) small second other within' = inl (scalar_part structs t second other within' h)
  within_apart _ _ own (InElement element n index inner _ lt within) small second other within' =
      let array = small_array element n index lt small in
      let part = array_part structs element n second other within' in
      subst (λ k. Apart structs (index * size_in structs element + inner) own k other) (sym part.stands)
      (elements_apart structs element index part.index inner own part.inner other (within_size element inner own within array.element_small)
      (within_size element part.inner other part.within array.element_small)
      (within_apart element inner own within array.element_small part.inner other part.within))
  within_apart _ _ own (InMember tag members number member t inner _ at there typed within) small second other within' =
      let part = struct_part structs tag second other within' in
      let found = small_member tag members number member t at there typed small in
      subst (λ k. Apart structs (offset_before (layouts structs) members number (Some member) + inner) own k other) (sym part.stands)
      (by part (same_Some members part.members (sym at ∙ part.at)) found.small (λ k c w. within_apart t inner own within found.small k c w) (ordered number part.number))
    where
      by : (part : StructPart structs tag second other) → members ≡ part.members → size_in structs t < greatest
          → ((k : ℕ) (c : CType) → Within structs t k c → Apart structs inner own k c) → Ordered number part.number
          → Apart structs (offset_before (layouts structs) members number (Some member) + inner) own
          (offset_before (layouts structs) part.members part.number (Some part.member) + part.inner) other
      by part same t_small rest (Lower lt) =
          inr (inl (subst (λ ms. offset_before (layouts structs) members number (Some member) + inner + size_in structs own ≤ offset_before (layouts structs) ms part.number (Some part.member) + part.inner) same
          (members_order tag members number part.number member part.member t lt at there (ap (λ ms. slice_get ms part.number) same ∙ part.there) typed small inner part.inner (size_in structs own)
          (within_size t inner own within t_small))))
      by part same t_small rest (Same e) =
          let is_member : member ≡ part.member = same_Some member part.member (sym there ∙ ap (λ ms. slice_get ms number) same ∙ ap (slice_get part.members) e ∙ part.there) in
          let is_type : t ≡ part.c_type = same_Some t part.c_type (sym typed ∙ ap (λ (m : MemberDef). m.c_type) is_member ∙ part.typed) in
          let inside = rest part.inner other (subst (λ c. Within structs c part.inner other) (sym is_type) part.within) in
          let start : offset_before (layouts structs) members number (Some member) ≡ offset_before (layouts structs) part.members part.number (Some part.member) =
          λ i. offset_before (layouts structs) (same i) (e i) (Some (is_member i)) in
          subst (λ k. Apart structs (offset_before (layouts structs) members number (Some member) + inner) own (k + part.inner) other) start
          (shifted structs (offset_before (layouts structs) members number (Some member)) inner own part.inner other inside)
      by part same t_small rest (Higher lt) =
          let found = small_member tag part.members part.number part.member part.c_type part.at part.there part.typed small in
          inr (inr (subst (λ ms. offset_before (layouts structs) part.members part.number (Some part.member) + part.inner + size_in structs other ≤ offset_before (layouts structs) ms number (Some member) + inner) (sym same)
          (members_order tag part.members part.number number part.member member part.c_type lt part.at part.there (ap (λ ms. slice_get ms number) (sym same) ∙ there) part.typed small part.inner inner (size_in structs other)
          (within_size part.c_type part.inner other part.within found.small))))
