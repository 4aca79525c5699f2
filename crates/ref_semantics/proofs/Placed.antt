-- Members lie in order within their structure.
use Rattle.std.proofs.Common.{◌≡◌, ℕ, zero, suc, ◌+◌, ◌<◌, ◌≤◌, max, Bool, true, false, cond, List, [], ◌∷◌, take, slice_get, Option, Some, None, subst, arith}
use Rattle.std.specs.Prelude.{bytes_eq}
use Rattle.std.proofs.lemmas.Option.{none-some, same_Some}
use Rattle.c_num.specs.declared.IntType.{IntType}
use Rattle.c_num.specs.declared.IntType.TheVariants as I
use Rattle.c_typed.specs.Types.{CType, Void, Integer, Pointer, Array, Struct, Function}
use Rattle.c_typed.specs.Layouts.{StructDef, MemberDef, Layout, Table, greatest, saturated, aligned, no_layout, layout_by_tag, layout_in, known_layout, member_layout, behind, members_layout, struct_layout, layouts, offset_before}
use Rattle.ref_semantics.proofs.Arithmetic.{cut_above, both_same, both_above, aligned_above}

-- ---- alignments

abbrev IsAligned : Layout → Type 0
IsAligned layout = 1 ≤ layout.alignment

abbrev AreAligned : Table → Type 0
AreAligned [] = Unit {0}
AreAligned (entry ∷ table) = IsAligned entry.1 × AreAligned table

aligned_integer : (t : IntType) (table : Table) → IsAligned (layout_in table (Integer t))
aligned_integer I.Char table = omega arith
aligned_integer I.UChar table = omega arith
aligned_integer I.Short table = omega arith
aligned_integer I.UShort table = omega arith
aligned_integer I.Int table = omega arith
aligned_integer I.UInt table = omega arith
aligned_integer I.Long table = omega arith
aligned_integer I.ULong table = omega arith

aligned_by_tag : (table : Table) → AreAligned table → (tag : List ℕ) → IsAligned (layout_by_tag table tag)
aligned_by_tag [] h tag = omega arith
aligned_by_tag (entry ∷ table) h tag = by (bytes_eq entry.0 tag) (aligned_by_tag table h.1 tag)
  where
    by : (b : Bool) → IsAligned (layout_by_tag table tag) → IsAligned (cond b entry.1 (layout_by_tag table tag))
    by true rest = h.0
    by false rest = rest

aligned_in : (table : Table) → AreAligned table → (t : CType) → IsAligned (layout_in table t)
aligned_in table h Void = omega arith
aligned_in table h (Integer t) = aligned_integer t table
aligned_in table h (Pointer t) = omega arith
aligned_in table h (Array t n) = aligned_in table h t
aligned_in table h (Struct tag) = aligned_by_tag table h tag
aligned_in table h (Function t ts) = omega arith

aligned_known : (table : Table) → AreAligned table → (t : Option CType) → IsAligned (known_layout table t)
aligned_known table h (Some t) = aligned_in table h t
aligned_known table h None = omega arith

more_aligned : (front own : ℕ) → 1 ≤ front → 1 ≤ max front own
more_aligned front own h = omega arith

aligned_members : (table : Table) (front : Layout) → IsAligned front → (members : List MemberDef) → IsAligned (members_layout table front members)
aligned_members table front h [] = h
aligned_members table front h (member ∷ members) =
    aligned_members table (behind front (member_layout table member)) (more_aligned front.alignment (member_layout table member).alignment h) members

pub aligned_layouts : (structs : List StructDef) → AreAligned (layouts structs)
aligned_layouts [] = tt
aligned_layouts (newest ∷ structs) = (aligned_members (layouts structs) no_layout (omega arith) newest.members, aligned_layouts structs)

-- ---- members

abbrev begins : Table → Layout → MemberDef → ℕ
begins table front member = saturated (aligned (member_layout table member).alignment front.size)

abbrev ends : Table → Layout → MemberDef → ℕ
ends table front member = begins table front member + (member_layout table member).size

below : (a b c : ℕ) → a ≤ b → b < c → a < c
below a b c le lt = omega arith

through : (a b c : ℕ) → a ≤ b → b ≤ c → a ≤ c
through a b c le le' = omega arith

starts_below : (start own all : ℕ) → start + own ≤ all → start ≤ all
starts_below start own all le = omega arith

module _ (table : Table) (h : AreAligned table) where
  raised : (front : Layout) (member : MemberDef) → front.size ≤ aligned (member_layout table member).alignment front.size
  raised front member = aligned_above (member_layout table member).alignment front.size (aligned_known table h member.c_type)

  -- those in front are no greater than all
  front_below : (members : List MemberDef) (front : Layout) → (members_layout table front members).size < greatest → front.size ≤ (members_layout table front members).size
  front_below [] front small = omega arith
  front_below (member ∷ members) front small =
      let own = member_layout table member in
      let rest = front_below members (behind front own) small in
      let next = below (behind front own).size (members_layout table (behind front own) members).size greatest rest small in
      through front.size (behind front own).size (members_layout table (behind front own) members).size
      (both_above greatest front.size (aligned own.alignment front.size) own.size (raised front member) next) rest

  first_ends : (member : MemberDef) (front : Layout) (all : ℕ) → (behind front (member_layout table member)).size ≤ all → all < greatest → ends table front member ≤ all
  first_ends member front all le small =
      let own = member_layout table member in
      let same = both_same greatest (aligned own.alignment front.size) own.size (below (behind front own).size all greatest le small) in
      subst (λ n. n ≤ all) same le

  -- a member ends within them all
  member_ends : (members : List MemberDef) (front : Layout) (number : ℕ) (member : MemberDef) → slice_get members number ≡ Some member
      → (members_layout table front members).size < greatest → ends table (members_layout table front (take number members)) member ≤ (members_layout table front members).size
  member_ends [] front number member at small = absurd (none-some member at)
  member_ends (first ∷ members) front zero member at small =
      let own = member_layout table first in
      subst (λ (m : MemberDef). ends table front m ≤ (members_layout table (behind front own) members).size) (same_Some first member at)
      (first_ends first front (members_layout table (behind front own) members).size (front_below members (behind front own) small) small)
  member_ends (first ∷ members) front (suc number) member at small =
      member_ends members (behind front (member_layout table first)) number member at small

  -- a member ends before the later ones
  member_before : (members : List MemberDef) (front : Layout) (first second : ℕ) (one two : MemberDef) → first < second
      → slice_get members first ≡ Some one → slice_get members second ≡ Some two → (members_layout table front members).size < greatest
      → ends table (members_layout table front (take first members)) one ≤ begins table (members_layout table front (take second members)) two
  member_before [] front first second one two lt at at' small = absurd (none-some one at)
  member_before (member ∷ members) front first zero one two lt at at' small = absurd (omega arith)
  member_before (member ∷ members) front zero (suc second) one two lt at at' small =
      let own = member_layout table member in
      let next = behind front own in
      let before = members_layout table next (take second members) in
      let all = (members_layout table next members).size in
      let inside = starts_below (begins table before two) (member_layout table two).size all (member_ends members next second two at' small) in
      let start = below (begins table before two) all greatest inside small in
      let raised_to = cut_above greatest before.size (aligned (member_layout table two).alignment before.size) (raised before two) start in
      let grows = front_below (take second members) next (below before.size (begins table before two) greatest raised_to start) in
      subst (λ (m : MemberDef). ends table front m ≤ begins table before two) (same_Some member one at)
      (first_ends member front (begins table before two) (through next.size before.size (begins table before two) grows raised_to) start)
  member_before (member ∷ members) front (suc first) (suc second) one two lt at at' small =
      member_before members (behind front (member_layout table member)) first second one two (omega arith) at at' small

  members_small : (members : List MemberDef) → (struct_layout table members).size < greatest → (members_layout table no_layout members).size ≤ (struct_layout table members).size
  members_small members small =
      let all = members_layout table no_layout members in
      cut_above greatest all.size (aligned all.alignment all.size) (aligned_above all.alignment all.size (aligned_members table no_layout (omega arith) members)) small

  module _ (members : List MemberDef) (small : (struct_layout table members).size < greatest) where
    all_small : (members_layout table no_layout members).size < greatest
    all_small = below (members_layout table no_layout members).size (struct_layout table members).size greatest (members_small members small) small

    -- a member ends within its structure
    pub member_within : (number : ℕ) (member : MemberDef) → slice_get members number ≡ Some member
        → offset_before table members number (Some member) + (member_layout table member).size ≤ (struct_layout table members).size
    member_within number member at =
        through (offset_before table members number (Some member) + (member_layout table member).size) (members_layout table no_layout members).size (struct_layout table members).size
        (member_ends members no_layout number member at all_small) (members_small members small)

    -- and before the later ones
    pub members_apart : (first second : ℕ) (one two : MemberDef) → first < second → slice_get members first ≡ Some one → slice_get members second ≡ Some two
        → offset_before table members first (Some one) + (member_layout table one).size ≤ offset_before table members second (Some two)
    members_apart first second one two lt at at' = member_before members no_layout first second one two lt at at' all_small
