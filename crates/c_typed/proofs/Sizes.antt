-- Layouts keep within their bounds, and stay while structures are completed.
use Rattle.std.proofs.Common.{◌≡◌, ℕ, zero, suc, ◌+◌, ◌*◌, ◌≤◌, Bool, true, false, cond, List, [], ◌∷◌, take, Option, Some, None, refl, sym, ap, ◌∙◌, arith}
use Rattle.std.specs.Prelude.{bytes_eq}
use Rattle.std.proofs.lemmas.Bool.{false≢true, true≢false, cond-false, false_from_ne_true}
use Rattle.std.proofs.lemmas.Option.{none-some}
use Rattle.std.proofs.lemmas.Slice.Eq.{bytes_eq-Decides}
use Rattle.c_num.specs.declared.IntType.{IntType}
use Rattle.c_num.specs.declared.IntType.TheVariants as I
use Rattle.c_typed.specs.Types.{CType, Void, Integer, Pointer, Array, Struct, Function}
use Rattle.c_typed.specs.Layouts.{StructDef, MemberDef, Layout, Table, greatest, saturated, aligned, no_layout, layout_by_tag, layout_in, known_layout, member_layout, behind, members_layout, struct_layout, layouts, layout_of, members_by_tag, is_complete, has_members, slots_before}
use Rattle.c_typed.specs.Extents.{IsSmall}
use Rattle.c_typed.specs.Inside.{is_sized, is_known_sized, are_sized}

-- ---- bounds

pub saturated-le : (n : ℕ) → saturated n ≤ greatest
saturated-le n = omega arith

small_nothing : IsSmall no_layout
small_nothing = record { size = omega arith; alignment = omega arith; alignment_greatest = omega arith; slots = omega arith }

small_integer : (t : IntType) (table : Table) → IsSmall (layout_in table (Integer t))
small_integer I.Char table = record { size = omega arith; alignment = omega arith; alignment_greatest = omega arith; slots = omega arith }
small_integer I.UChar table = record { size = omega arith; alignment = omega arith; alignment_greatest = omega arith; slots = omega arith }
small_integer I.Short table = record { size = omega arith; alignment = omega arith; alignment_greatest = omega arith; slots = omega arith }
small_integer I.UShort table = record { size = omega arith; alignment = omega arith; alignment_greatest = omega arith; slots = omega arith }
small_integer I.Int table = record { size = omega arith; alignment = omega arith; alignment_greatest = omega arith; slots = omega arith }
small_integer I.UInt table = record { size = omega arith; alignment = omega arith; alignment_greatest = omega arith; slots = omega arith }
small_integer I.Long table = record { size = omega arith; alignment = omega arith; alignment_greatest = omega arith; slots = omega arith }
small_integer I.ULong table = record { size = omega arith; alignment = omega arith; alignment_greatest = omega arith; slots = omega arith }

abbrev AreSmall : Table → Type 0
AreSmall [] = Unit {0}
AreSmall (entry ∷ table) = IsSmall entry.1 × AreSmall table

small_by_tag : (table : Table) → AreSmall table → (tag : List ℕ) → IsSmall (layout_by_tag table tag)
small_by_tag [] h tag = small_nothing
small_by_tag (entry ∷ table) h tag = by (bytes_eq entry.0 tag) (small_by_tag table h.1 tag)
  where
    by : (b : Bool) → IsSmall (layout_by_tag table tag) → IsSmall (cond b entry.1 (layout_by_tag table tag))
    by true rest = h.0
    by false rest = rest

small_in : (table : Table) → AreSmall table → (t : CType) → IsSmall (layout_in table t)
small_in table h Void = small_nothing
small_in table h (Integer t) = small_integer t table
small_in table h (Pointer t) = record { size = omega arith; alignment = omega arith; alignment_greatest = omega arith; slots = omega arith }
small_in table h (Array t n) =
    let inner = small_in table h t in
    record { size = saturated-le ((layout_in table t).size * n); alignment = inner.alignment; alignment_greatest = inner.alignment_greatest; slots = inner.slots }
small_in table h (Struct tag) = small_by_tag table h tag
small_in table h (Function t ts) = small_nothing

small_known : (table : Table) → AreSmall table → (t : Option CType) → IsSmall (known_layout table t)
small_known table h (Some t) = small_in table h t
small_known table h None = small_nothing

pub small_behind : (front member : Layout) → IsSmall front → IsSmall member → IsSmall (behind front member)
small_behind front member f m =
    let fa = f.alignment in
    let fg = f.alignment_greatest in
    let mg = m.alignment_greatest in
    record {
      size = saturated-le (saturated (aligned member.alignment front.size) + member.size);
      alignment = omega arith;
      alignment_greatest = omega arith;
      slots = saturated-le (front.slots + member.slots);
    }

pub small_members : (table : Table) → AreSmall table → (front : Layout) → IsSmall front → (members : List MemberDef) → IsSmall (members_layout table front members)
small_members table h front f [] = f
small_members table h front f (member ∷ members) =
    small_members table h (behind front (member_layout table member)) (small_behind front (member_layout table member) f (small_known table h member.c_type)) members

small_struct : (table : Table) → AreSmall table → (members : List MemberDef) → IsSmall (struct_layout table members)
small_struct table h members =
    let all = small_members table h no_layout small_nothing members in
    record { size = saturated-le _; alignment = all.alignment; alignment_greatest = all.alignment_greatest; slots = all.slots }

pub small_layouts : (structs : List StructDef) → AreSmall (layouts structs)
small_layouts [] = tt
small_layouts (newest ∷ structs) = (small_struct (layouts structs) (small_layouts structs) newest.members, small_layouts structs)

-- each layout keeps within the bounds
pub small_layout : (structs : List StructDef) (t : CType) → IsSmall (layout_of structs t)
small_layout structs t = small_in (layouts structs) (small_layouts structs) t

pub small_known_layout : (structs : List StructDef) (t : Option CType) → IsSmall (known_layout (layouts structs) t)
small_known_layout structs t = small_known (layouts structs) (small_layouts structs) t

pub small_front : (structs : List StructDef) (members : List MemberDef) → IsSmall (members_layout (layouts structs) no_layout members)
small_front structs members = small_members (layouts structs) (small_layouts structs) no_layout small_nothing members

pub small_slots_before : (structs : List StructDef) (n : ℕ) (members : List MemberDef) → slots_before (layouts structs) n members ≤ greatest
small_slots_before structs n members = (small_front structs (take n members)).slots

-- ---- layouts stay

none_incomplete : (structs : List StructDef) (tag : List ℕ) → members_by_tag structs tag ≡ None → is_complete structs (Struct tag) ≡ false
none_incomplete structs tag e = by (members_by_tag structs tag) e
  where
    by : (o : Option (List MemberDef)) → o ≡ None → has_members o ≡ false
    by None e = refl
    by (Some members) e = absurd (none-some members (sym e))

pub sized_parts : (a b : Bool) → cond a b false ≡ true → (a ≡ true) × (b ≡ true)
sized_parts true b h = (refl, h)
sized_parts false b h = absurd (false≢true h)

module _ (newest : StructDef) (older : List StructDef) (fresh : members_by_tag older newest.tag ≡ None) where
  -- a completed structure has not the newest tag
  tag_differs : (tag : List ℕ) → is_complete older (Struct tag) ≡ true → bytes_eq newest.tag tag ≡ false
  tag_differs tag h = false_from_ne_true (bytes_eq newest.tag tag) (λ e.
      let same = (bytes_eq-Decides newest.tag tag).0 e in
      false≢true (sym (none_incomplete older newest.tag fresh) ∙ ap (λ l. is_complete older (Struct l)) same ∙ h))

  pub sized_layout : (t : CType) → is_sized older t ≡ true → layout_of (newest ∷ older) t ≡ layout_of older t
  sized_layout Void h = refl
  sized_layout (Integer t) h = refl
  sized_layout (Pointer t) h = refl
  sized_layout (Array t n) h = let same = sized_layout t h in λ i. record { size = saturated ((same i).size * n); alignment = (same i).alignment; slots = (same i).slots }
  sized_layout (Struct tag) h = cond-false (bytes_eq newest.tag tag) _ _ (tag_differs tag h)
  sized_layout (Function t ts) h = refl

  pub sized_more : (t : CType) → is_sized older t ≡ true → is_sized (newest ∷ older) t ≡ true
  sized_more Void h = h
  sized_more (Integer t) h = h
  sized_more (Pointer t) h = h
  sized_more (Array t n) h = sized_more t h
  sized_more (Struct tag) h = by (bytes_eq newest.tag tag) (tag_differs tag h)
    where
      by : (b : Bool) → b ≡ false → has_members (cond b (Some newest.members) (members_by_tag older tag)) ≡ true
      by true e = absurd (true≢false e)
      by false e = h
  sized_more (Function t ts) h = h

  pub known_stays : (t : Option CType) → is_known_sized older t ≡ true → known_layout (layouts (newest ∷ older)) t ≡ known_layout (layouts older) t
  known_stays (Some t) h = sized_layout t h
  known_stays None h = refl

  -- and so those of members
  pub front_stays : (members : List MemberDef) (front : Layout) → are_sized older members ≡ true
      → members_layout (layouts (newest ∷ older)) front members ≡ members_layout (layouts older) front members
  front_stays [] front h = refl
  front_stays (member ∷ members) front h =
      let parts = sized_parts (is_known_sized older member.c_type) (are_sized older members) h in
      let same = known_stays member.c_type parts.0 in
      ap (λ l. members_layout (layouts (newest ∷ older)) (behind front l) members) same
      ∙ front_stays members (behind front (member_layout (layouts older) member)) parts.1

  pub sized_taken : (n : ℕ) (members : List MemberDef) → are_sized older members ≡ true → are_sized older (take n members) ≡ true
  sized_taken zero members h = refl
  sized_taken (suc n) [] h = refl
  sized_taken (suc n) (member ∷ members) h =
      let parts = sized_parts (is_known_sized older member.c_type) (are_sized older members) h in
      ap (λ b. cond b (are_sized older (take n members)) false) parts.0 ∙ sized_taken n members parts.1

  pub slots_before-stays : (n : ℕ) (members : List MemberDef) → are_sized older members ≡ true
      → slots_before (layouts (newest ∷ older)) n members ≡ slots_before (layouts older) n members
  slots_before-stays n members h = ap (λ (l : Layout). l.slots) (front_stays (take n members) no_layout (sized_taken n members h))

  pub are_sized_more : (members : List MemberDef) → are_sized older members ≡ true → are_sized (newest ∷ older) members ≡ true
  are_sized_more [] h = refl
  are_sized_more (member ∷ members) h =
      let parts = sized_parts (is_known_sized older member.c_type) (are_sized older members) h in
      ap (λ b. cond b (are_sized (newest ∷ older) members) false) (known_more member.c_type parts.0) ∙ are_sized_more members parts.1
    where
      known_more : (t : Option CType) → is_known_sized older t ≡ true → is_known_sized (newest ∷ older) t ≡ true
      known_more (Some t) e = sized_more t e
      known_more None e = refl
