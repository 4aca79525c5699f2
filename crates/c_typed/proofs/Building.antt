-- A structure that is built from its members.
use Rattle.std.proofs.Common.{◌≡◌, ℕ, suc, ◌≤◌, Bool, true, false, cond, List, [], ◌∷◌, ◌++◌, length, map, slice_get, Some, refl, sym, ap, subst, ◌∙◌, arith, ◌⊎◌, inl, inr, append_assoc}
use Rattle.std.proofs.lemmas.Bool.{false≢true}
use Rattle.std.proofs.lemmas.Option.{none-some, slice_get_within}
use Rattle.std.proofs.lemmas.List.{map-append, take_at, take-append-le}
use Rattle.c_typed.specs.declared.c_type.StructId as tag
use Rattle.c_typed.specs.declared.extent.Extent.{Extent}
use Rattle.c_typed.specs.declared.structure.Member.{Member}
use Rattle.c_typed.specs.declared.structure.PlacedMember.{PlacedMember}
use Rattle.c_typed.specs.declared.structure.Structure.{Structure}
use Rattle.c_typed.specs.Extents.{IsSmall, extent_layout}
use Rattle.c_typed.specs.Layouts.{StructDef, MemberDef, Layout, Table, saturated, aligned, no_layout, behind, known_layout, member_layout, members_layout, layouts, slots_before, offset_before}
use Rattle.c_typed.specs.Table.{Interned, MemberEntry, known_in, member_def, member_defs, structs_in}
use Rattle.c_typed.specs.Inside.{member_entry, struct_entry, is_known_sized, are_sized, HaveSlots, HaveOffsets, Pushes, IsEmpty, IsBuilding, IsBuilt}
use Rattle.c_typed.proofs.Offsets.{offset_front, offset_last}
use Rattle.c_typed.proofs.Sizes.{small_front}
use Rattle.c_typed.proofs.Tags.{get_pushed_at}

layout_pushed : (table : Table) (front : Layout) (members : List MemberDef) (member : MemberDef)
    → members_layout table front (members ++ member ∷ []) ≡ behind (members_layout table front members) (member_layout table member)
layout_pushed table front [] member = refl
layout_pushed table front (first ∷ members) member = layout_pushed table (behind front (member_layout table first)) members member

sized_pushed : (structs : List StructDef) (members : List MemberDef) (member : MemberDef) → are_sized structs members ≡ true → is_known_sized structs member.c_type ≡ true → are_sized structs (members ++ member ∷ []) ≡ true
sized_pushed structs [] member h e = ap (λ b. cond b true false) e
sized_pushed structs (first ∷ members) member h e = by (is_known_sized structs first.c_type) h (λ all. sized_pushed structs members member all e)
  where
    by : (b : Bool) → cond b (are_sized structs members) false ≡ true → (are_sized structs members ≡ true → are_sized structs (members ++ member ∷ []) ≡ true)
        → cond b (are_sized structs (members ++ member ∷ [])) false ≡ true
    by true h rest = rest h
    by false h rest = absurd (false≢true h)

module _ (table : Interned) (its : tag.StructId) where
  abbrev defs_of : List PlacedMember → List MemberDef
  defs_of members = member_defs table.tags table.entries (map member_entry members)

  abbrev own_def : PlacedMember → MemberDef
  own_def member = member_def table.tags table.entries (member_entry member)

  defs_pushed : (members : List PlacedMember) (member : PlacedMember) → defs_of (members ++ member ∷ []) ≡ defs_of members ++ own_def member ∷ []
  defs_pushed [] member = refl
  defs_pushed (first ∷ members) member = ap (λ ds. own_def first ∷ ds) (defs_pushed members member)

  length-defs : (members : List PlacedMember) → length (defs_of members) ≡ length members
  length-defs [] = refl
  length-defs (first ∷ members) = ap suc (length-defs members)

  pub building_small : (s : Structure) → IsBuilding table its s → IsSmall (extent_layout s.extent)
  building_small s is = subst IsSmall (sym is.extent) (small_front (structs_in table) (defs_of s.members.items))

  pub building_none : (s : Structure) → IsEmpty s its → IsBuilding table its s
  building_none s is = record {
    id = is.id;
    sized = ap (λ ms. are_sized (structs_in table) (defs_of ms)) is.members;
    extent = is.extent ∙ sym (ap (λ ms. members_layout (layouts (structs_in table)) no_layout (defs_of ms)) is.members);
    slots = subst (λ ms. HaveSlots (structs_in table) (defs_of ms) ms) (sym is.members) (λ n member at. absurd (none_there n member at));
    offsets = subst (λ ms. HaveOffsets (structs_in table) (defs_of ms) ms) (sym is.members) (λ n member at. absurd (none_there n member at));
    numbers = is.numbers;
  }
    where
      none_there : (n : ℕ) (member : PlacedMember) → slice_get [] n ≡ Some member → ⊥
      none_there n member at = none-some member at

  module _ (s new : Structure) (member : Member) (own : Extent) (is : IsBuilding table its s) (pushes : Pushes s new member own)
      (layout : extent_layout own ≡ known_layout (layouts (structs_in table)) (known_in table.tags table.entries member.c_type))
      (sized : is_known_sized (structs_in table) (known_in table.tags table.entries member.c_type) ≡ true) where
    abbrev placed : PlacedMember
    placed = record { name = member.name; c_type = member.c_type; slots_before = s.extent.slots; offset = saturated (aligned own.alignment s.extent.size) }

    slots_pushed : HaveSlots (structs_in table) (defs_of (s.members.items ++ placed ∷ [])) (s.members.items ++ placed ∷ [])
    slots_pushed n found at = by (get_pushed_at s.members.items placed found n at)
      where
        by : (slice_get s.members.items n ≡ Some found) ⊎ ((n ≡ length s.members.items) × (placed ≡ found)) → found.slots_before ≡ slots_before (layouts (structs_in table)) n (defs_of (s.members.items ++ placed ∷ []))
        by (inl old) =
            let lt = slice_get_within s.members.items n found old in
            let long = length-defs s.members.items in
            let le : n ≤ length (defs_of s.members.items) = omega arith in
            is.slots n found old
            ∙ ap (λ ds. (members_layout (layouts (structs_in table)) no_layout ds).slots) (sym (take-append-le n (defs_of s.members.items) (own_def placed ∷ []) le))
            ∙ ap (λ ds. slots_before (layouts (structs_in table)) n ds) (sym (defs_pushed s.members.items placed))
        by (inr last) =
            ap (λ (m : PlacedMember). m.slots_before) (sym last.1)
            ∙ ap (λ (l : Layout). l.slots) is.extent
            ∙ ap (λ ds. (members_layout (layouts (structs_in table)) no_layout ds).slots) (sym (take_at (defs_of s.members.items) (own_def placed ∷ []) n (length-defs s.members.items ∙ sym last.0)))
            ∙ ap (λ ds. slots_before (layouts (structs_in table)) n ds) (sym (defs_pushed s.members.items placed))

    abbrev all_defs : List MemberDef
    all_defs = defs_of s.members.items ++ own_def placed ∷ []

    offsets_pushed : HaveOffsets (structs_in table) (defs_of (s.members.items ++ placed ∷ [])) (s.members.items ++ placed ∷ [])
    offsets_pushed n found at = by (get_pushed_at s.members.items placed found n at) ∙ ap (λ ds. offset_before (layouts (structs_in table)) ds n (slice_get ds n)) (sym (defs_pushed s.members.items placed))
      where
        by : (slice_get s.members.items n ≡ Some found) ⊎ ((n ≡ length s.members.items) × (placed ≡ found)) → found.offset ≡ offset_before (layouts (structs_in table)) all_defs n (slice_get all_defs n)
        by (inl old) =
            let lt = slice_get_within s.members.items n found old in
            is.offsets n found old ∙ sym (offset_front (layouts (structs_in table)) (defs_of s.members.items) (own_def placed) n (omega (arith, length-defs s.members.items)))
        by (inr last) =
            ap (λ (m : PlacedMember). m.offset) (sym last.1)
            ∙ (λ i. saturated (aligned (layout i).alignment (is.extent i).size))
            ∙ sym (offset_last (layouts (structs_in table)) (defs_of s.members.items) (own_def placed) n (last.0 ∙ sym (length-defs s.members.items)))

    pub building_more : IsBuilding table its new
    building_more = record {
      id = pushes.id ∙ is.id;
      sized =
          ap (λ ms. are_sized (structs_in table) (defs_of ms)) pushes.members
          ∙ ap (are_sized (structs_in table)) (defs_pushed s.members.items placed)
          ∙ sized_pushed (structs_in table) (defs_of s.members.items) (own_def placed) is.sized sized;
      extent =
          pushes.extent
          ∙ (λ i. behind (is.extent i) (layout i))
          ∙ sym (layout_pushed (layouts (structs_in table)) no_layout (defs_of s.members.items) (own_def placed))
          ∙ ap (members_layout (layouts (structs_in table)) no_layout) (sym (defs_pushed s.members.items placed))
          ∙ sym (ap (λ ms. members_layout (layouts (structs_in table)) no_layout (defs_of ms)) pushes.members);
      slots = subst (λ ms. HaveSlots (structs_in table) (defs_of ms) ms) (sym pushes.members) slots_pushed;
      offsets = subst (λ ms. HaveOffsets (structs_in table) (defs_of ms) ms) (sym pushes.members) offsets_pushed;
      numbers = pushes.numbers is.numbers;
    }

    pub rest_more : (rest all : List MemberEntry) → (struct_entry s).members ++ (record { name = member.name.items; c_type = member.c_type } ∷ rest) ≡ all → (struct_entry new).members ++ rest ≡ all
    rest_more rest all e =
        ap (λ ms. map member_entry ms ++ rest) pushes.members
        ∙ ap (λ es. es ++ rest) (map-append member_entry s.members.items (placed ∷ []))
        ∙ append_assoc (map member_entry s.members.items) (member_entry placed ∷ []) rest
        ∙ e

  -- with all its members
  pub built : (s : Structure) (closed : Extent) (all : List MemberEntry) → IsBuilding table its s → (struct_entry s).members ≡ all
      → extent_layout closed ≡ record { size = saturated (aligned s.extent.alignment s.extent.size); alignment = s.extent.alignment; slots = s.extent.slots }
      → IsBuilt table its all (record { id = s.id; members = s.members; numbers = s.numbers; extent = closed })
  built s closed all is members extent = record {
    id = is.id;
    members = members;
    sized = is.sized;
    extent = extent ∙ (λ i. let l = is.extent i in record { size = saturated (aligned l.alignment l.size); alignment = l.alignment; slots = l.slots });
    slots = is.slots;
    offsets = is.offsets;
    numbers = is.numbers;
  }
