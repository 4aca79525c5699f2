-- A table that grows.
use Rattle.std.proofs.Common.{◌≡◌, ℕ, ◌+◌, ◌<◌, true, List, [], ◌∷◌, ◌++◌, length, reverse, map, slice_get, Option, Some, None, refl, sym, ap, subst, ◌∙◌, arith, ◌⊎◌, inl, inr, Vec}
use Rattle.std.proofs.lemmas.Bool.{false≢true}
use Rattle.std.proofs.lemmas.List.{length-append, length-reverse, length-map, map-append}
use Rattle.c_typed.specs.declared.c_type.CType as number
use Rattle.c_typed.specs.declared.c_type.Derived.{Derived}
use Rattle.c_typed.specs.declared.c_type.Derived.TheVariants as D
use Rattle.c_typed.specs.declared.extent.Extent.{Extent}
use Rattle.c_typed.specs.declared.structure.Structure.{Structure}
use Rattle.c_typed.specs.Types.{Array}
use Rattle.c_typed.specs.Layouts.{StructDef, layouts, layout_of, struct_layout, slots_before, offset_before}
use Rattle.c_typed.specs.Table.{Interned, MemberEntry, Meaning, AType, AList, Nothing, meaning_in, meaning_of, derived_meaning, numbered, the_tag, the_type, member_def, member_defs, struct_defs, structs_in, IsAType, Grows}
use Rattle.c_typed.specs.Inside.{AreApart, IsSomething, HaveMeanings, is_sized, HasExtent, struct_entry, struct_entries, MemberStands, MembersStand, are_sized, ArePlaced, types_of, tags_of, interned, greatest_count, IsTable, MakesEntry}
use Rattle.c_typed.proofs.Meanings.{entry-means, meaning_stays, meaning_newest, numbered_more}
use Rattle.std.proofs.Math.Nat.{add_comm}
use Rattle.c_typed.proofs.Apart.{type-something}
use Rattle.c_typed.proofs.Lists.{numbered-within, reverse_push, get_pushed}

-- ---- structures stay as they are while entries and tags are added

module _ (more_tags tags : List (List ℕ)) (more es : List Derived) where
  member_stays : (member : MemberEntry) → MemberStands tags es member.c_type
      → (member_def (more_tags ++ tags) (more ++ es) member ≡ member_def tags es member) × MemberStands (more_tags ++ tags) (more ++ es) member.c_type
  member_stays member h = by member.c_type h
    where
      by : (t : Option number.CType) → MemberStands tags es t
          → (member_def (more_tags ++ tags) (more ++ es) (record { name = member.name; c_type = t }) ≡ member_def tags es (record { name = member.name; c_type = t }))
          × MemberStands (more_tags ++ tags) (more ++ es) t
      by None h = (refl, tt)
      by (Some t) h =
          let same = meaning_stays more_tags tags more es t.0 (type-something (meaning_in tags es t.0) h) in
          (λ i. record { name = member.name; c_type = Some (the_type (same i)) }, subst IsAType (sym same) h)

  members_stay : (members : List MemberEntry) → MembersStand tags es members
      → (member_defs (more_tags ++ tags) (more ++ es) members ≡ member_defs tags es members) × MembersStand (more_tags ++ tags) (more ++ es) members
  members_stay [] h = (refl, tt)
  members_stay (member ∷ members) h =
      let first = member_stays member h.0 in
      let rest = members_stay members h.1 in
      (λ i. first.0 i ∷ rest.0 i, (first.1, rest.1))

  tag_stays : (n : ℕ) → n < length tags → the_tag (numbered (more_tags ++ tags) n) ≡ the_tag (numbered tags n)
  tag_stays n lt =
      let found = numbered-within tags n lt in
      ap the_tag (numbered_more more_tags tags n found.0 found.1 ∙ sym found.1)

  -- the definitions of structures, and that each is made of older ones
  pub structs_stay : (structures : List Structure) → ArePlaced tags es structures
      → (struct_defs (more_tags ++ tags) (more ++ es) (struct_entries structures) ≡ struct_defs tags es (struct_entries structures))
      × ArePlaced (more_tags ++ tags) (more ++ es) structures
  structs_stay [] h = (refl, tt)
  structs_stay (newest ∷ older) h =
      let rest = structs_stay older h.1 in
      let placed = h.0 in
      let defs = rest.0 in
      let members = members_stay (struct_entry newest).members placed.stand in
      let tag = tag_stays newest.id.0 placed.tag in
      let long = length-append more_tags tags in (
        (λ i. record { tag = tag i; members = members.0 i } ∷ defs i),
        (
          record {
            tag = let lt = placed.tag in omega (arith, long);
            fresh = placed.fresh;
            stand = members.1;
            sized = (λ i. are_sized (defs i) (members.0 i)) ∙ placed.sized;
            extent = placed.extent ∙ sym (λ i. struct_layout (layouts (defs i)) (members.0 i));
            slots = λ n member at. placed.slots n member at ∙ sym (λ i. slots_before (layouts (defs i)) n (members.0 i));
            offsets = λ n member at. placed.offsets n member at ∙ sym (λ i. offset_before (layouts (defs i)) (members.0 i) n (slice_get (members.0 i) n));
            numbers = placed.numbers;
          },
          rest.1,
        ),
      )

-- ---- the extents of arrays stay

-- only a type is an object type whose size is known
pub sized-type : (structs : List StructDef) (m : Meaning) → is_sized structs (the_type m) ≡ true → IsAType m
sized-type structs (AType t) h = tt
sized-type structs (AList ts) h = absurd (false≢true h)
sized-type structs Nothing h = absurd (false≢true h)

pub extent_stays : (old new : Interned) → Grows old new → (entry : Derived) (extent : Extent) → HasExtent old entry extent → HasExtent new entry extent
extent_stays old new grows (D.Array element n) extent h =
    let m = meaning_of old element.0 in
    let stands = sized-type (structs_in old) m h.0 in
    let same : meaning_of new element.0 ≡ m =
    (λ i. meaning_in (grows.tags.1 i) (grows.entries.1 i) element.0)
    ∙ meaning_stays grows.tags.0 old.tags grows.entries.0 old.entries element.0 (type-something m stands) in (
      (λ i. is_sized (grows.structs i) (the_type (same i))) ∙ h.0,
      h.1 ∙ sym (λ i. layout_of (grows.structs i) (Array (the_type (same i)) n)),
    )
extent_stays old new grows (D.Pointer target) extent h = tt
extent_stays old new grows (D.Struct id) extent h = tt
extent_stays old new grows (D.Function returned ps) extent h = tt
extent_stays old new grows D.NoParameters extent h = tt
extent_stays old new grows (D.Parameter first others) extent h = tt

-- ---- one more entry

module _ {Z : Type 0} (entries : List (Derived × Extent)) (tags : List (Vec ℕ Z × Option ℕ)) (structures : List Structure)
    (table : IsTable entries tags structures) where
  pub length-types : length (types_of entries) ≡ length entries
  length-types = length-reverse (map (λ (e : Derived × Extent). e.0) entries) ∙ length-map entries (λ (e : Derived × Extent). e.0)

  module _ (entry : Derived) (extent : Extent) where
    types_pushed : types_of (entries ++ (entry, extent) ∷ []) ≡ entry ∷ types_of entries
    types_pushed =
        ap reverse (map-append (λ (e : Derived × Extent). e.0) entries ((entry, extent) ∷ []))
        ∙ reverse_push (map (λ (e : Derived × Extent). e.0) entries) entry

    -- the table with one more entry has grown
    pub entry_grows : Grows (interned entries tags structures) (interned (entries ++ (entry, extent) ∷ []) tags structures)
    entry_grows = record {
      entries = (entry ∷ [], types_pushed);
      tags = ([], refl);
      structs =
          (λ i. struct_defs (tags_of tags) (types_pushed i) (struct_entries (reverse structures)))
          ∙ (structs_stay [] (tags_of tags) (entry ∷ []) (types_of entries) (reverse structures) table.placed).0;
    }

    module _ (means : IsSomething (derived_meaning (tags_of tags) (meaning_in (tags_of tags) (types_of entries)) entry))
        (absent : (n : ℕ) → numbered (types_of entries) n ≡ Some entry → ⊥)
        (few : length entries < greatest_count)
        (has : HasExtent (interned entries tags structures) entry extent) where
      pub IsTable-entry : IsTable (entries ++ (entry, extent) ∷ []) tags structures
      IsTable-entry = record {
        meanings = subst (HaveMeanings (tags_of tags)) (sym types_pushed) (means, table.meanings);
        apart = subst AreApart (sym types_pushed) (absent, table.apart);
        tags_apart = table.tags_apart;
        few = let long = length-append entries ((entry, extent) ∷ []) in omega arith;
        few_tags = table.few_tags;
        extents = λ n kept at. extents n kept (get_pushed entries (entry, extent) kept n at);
        completed = table.completed;
        placed =
            subst (λ es. ArePlaced (tags_of tags) es (reverse structures)) (sym types_pushed)
            (structs_stay [] (tags_of tags) (entry ∷ []) (types_of entries) (reverse structures) table.placed).1;
      }
        where
          extents : (n : ℕ) (kept : Derived × Extent) → (slice_get entries n ≡ Some kept) ⊎ ((entry, extent) ≡ kept) → HasExtent (interned (entries ++ (entry, extent) ∷ []) tags structures) kept.0 kept.1
          extents n kept (inl at) = extent_stays (interned entries tags structures) (interned (entries ++ (entry, extent) ∷ []) tags structures) entry_grows kept.0 kept.1 (table.extents n kept at)
          extents n kept (inr same) =
              subst (λ (k : Derived × Extent). HasExtent (interned (entries ++ (entry, extent) ∷ []) tags structures) k.0 k.1) same
              (extent_stays (interned entries tags structures) (interned (entries ++ (entry, extent) ∷ []) tags structures) entry_grows entry extent has)

      pub MakesEntry-new : MakesEntry (interned entries tags structures) (interned (entries ++ (entry, extent) ∷ []) tags structures) (length entries + 9) entry
      MakesEntry-new = record {
        means =
            (λ i. meaning_in (tags_of tags) (types_pushed i) (length entries + 9))
            ∙ meaning_newest (tags_of tags) entry (types_of entries) (length entries + 9) (let long = length-types in omega arith);
        grows = entry_grows;
      }

    -- an entry that stands already
    pub MakesEntry-found : (n : ℕ) → numbered (types_of entries) n ≡ Some entry → MakesEntry (interned entries tags structures) (interned entries tags structures) (n + 9) entry
    MakesEntry-found n at = record {
      means =
          ap (meaning_in (tags_of tags) (types_of entries)) (add_comm n 9)
          ∙ (entry-means (tags_of tags) (types_of entries) n entry table.meanings at).0;
      grows = record { entries = ([], refl); tags = ([], refl); structs = refl };
    }
