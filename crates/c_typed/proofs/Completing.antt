-- A table in which a structure was completed.
use Rattle.std.proofs.Common.{◌≡◌, ℕ, zero, suc, ◌<◌, false, eqb, List, [], ◌∷◌, ◌++◌, length, reverse, map, slice_get, Option, Some, None, refl, sym, ap, subst, ◌∙◌, arith, ◌⊎◌, inl, inr, Vec}
use Rattle.std.proofs.lemmas.Bool.{false≢true, cond-true, cond-false, eq-eqb, ne_eqb}
use Rattle.std.proofs.lemmas.Option.{none-some, same_Some}
use Rattle.std.proofs.lemmas.List.{length-reverse, length-map}
use Rattle.indexmap.specs.IndexMap.{set_value_at}
use Rattle.c_typed.specs.declared.c_type.CType as number
use Rattle.c_typed.specs.declared.c_type.StructId as tag
use Rattle.c_typed.specs.declared.c_type.Derived.{Derived}
use Rattle.c_typed.specs.declared.c_type.Derived.TheVariants as D
use Rattle.c_typed.specs.declared.extent.Extent.{Extent}
use Rattle.c_typed.specs.declared.structure.Structure.{Structure}
use Rattle.c_typed.specs.Types.{Array, Struct}
use Rattle.c_typed.specs.Layouts.{members_by_tag, has_members, is_complete}
use Rattle.c_typed.specs.Table.{Interned, MemberEntry, StructEntry, meaning_of, the_type, the_tag, numbered, struct_def, struct_defs, structs_in, tag_in, IsCompleteMember, AreComplete, completed}
use Rattle.c_typed.specs.Inside.{AreApart, HaveMeanings, HasExtent, HaveExtents, struct_entry, struct_entries, completed_index, MemberStands, MembersStand, IsPlaced, ArePlaced, types_of, tags_of, interned, IsTable, IsBuilt}
use Rattle.c_typed.proofs.Lists.{reverse_push}
use Rattle.c_typed.proofs.Sizes.{sized_layout, sized_more}
use Rattle.c_typed.proofs.Structures.{structure_there, not_completed}

-- ---- a value that is written at its index

set_keys : {Z : Type 0} (tags : List (Vec ℕ Z × Option ℕ)) (n : ℕ) (w : Option ℕ) → map (λ (t : Vec ℕ Z × Option ℕ). t.0.items) (set_value_at tags n w) ≡ map (λ (t : Vec ℕ Z × Option ℕ). t.0.items) tags
set_keys [] n w = refl
set_keys (t ∷ tags) zero w = refl
set_keys (t ∷ tags) (suc n) w = ap (λ ks. t.0.items ∷ ks) (set_keys tags n w)

set_there : {K : Type 0} (es : List (K × Option ℕ)) (i n : ℕ) (w : Option ℕ) (e : K × Option ℕ) → slice_get (set_value_at es i w) n ≡ Some e
    → ((n ≡ i) × (w ≡ e.1)) ⊎ ((n ≡ i → ⊥) × (slice_get es n ≡ Some e))
set_there [] i n w e at = absurd (none-some e at)
set_there (x ∷ es) zero zero w e at = inl (refl, ap (λ (p : _). p.1) (same_Some (x.0, w) e at))
set_there (x ∷ es) zero (suc n) w e at = inr (λ (h : suc n ≡ 0). absurd (omega arith), at)
set_there (x ∷ es) (suc i) zero w e at = inr (λ (h : 0 ≡ suc i). absurd (omega arith), at)
set_there (x ∷ es) (suc i) (suc n) w e at = more (set_there es i n w e at)
  where
    more : ((n ≡ i) × (w ≡ e.1)) ⊎ ((n ≡ i → ⊥) × (slice_get es n ≡ Some e)) → ((suc n ≡ suc i) × (w ≡ e.1)) ⊎ ((suc n ≡ suc i → ⊥) × (slice_get (x ∷ es) (suc n) ≡ Some e))
    more (inl found) = inl (ap suc found.0, found.1)
    more (inr other) = inr (λ (h : suc n ≡ suc i). other.0 (omega arith), other.1)

-- ---- members that are complete stand

pub complete_stand : (table : Interned) (members : List MemberEntry) → AreComplete table members → MembersStand table.tags table.entries members
complete_stand table [] h = tt
complete_stand table (member ∷ members) h = (by member.c_type h.0, complete_stand table members h.1)
  where
    by : (t : Option number.CType) → IsCompleteMember table t → MemberStands table.tags table.entries t
    by (Some t) h = h.0
    by None h = tt

-- ---- layouts stay

extent_stays : (es : List Derived) (ts : List (List ℕ)) (newest : StructEntry) (older : List StructEntry)
    → members_by_tag (struct_defs ts es older) (the_tag (numbered ts newest.tag)) ≡ None
    → (entry : Derived) (extent : Extent) → HasExtent (record { entries = es; tags = ts; structs = older }) entry extent
    → HasExtent (record { entries = es; tags = ts; structs = newest ∷ older }) entry extent
extent_stays es ts newest older fresh (D.Array element n) extent h =
    let inner = the_type (meaning_of (record { entries = es; tags = ts; structs = older }) element.0) in (
      sized_more (struct_def ts es newest) (struct_defs ts es older) fresh inner h.0,
      h.1 ∙ sym (sized_layout (struct_def ts es newest) (struct_defs ts es older) fresh (Array inner n) h.0),
    )
extent_stays es ts newest older fresh (D.Pointer target) extent h = tt
extent_stays es ts newest older fresh (D.Struct id) extent h = tt
extent_stays es ts newest older fresh (D.Function returned ps) extent h = tt
extent_stays es ts newest older fresh D.NoParameters extent h = tt
extent_stays es ts newest older fresh (D.Parameter first others) extent h = tt

-- ---- the table with the structure

module _ {Z : Type 0} (entries : List (Derived × Extent)) (tags : List (Vec ℕ Z × Option ℕ)) (structures : List Structure)
    (table : IsTable entries tags structures) (id : tag.StructId) (lt : id.0 < length (tags_of tags))
    (unknown : is_complete (structs_in (interned entries tags structures)) (Struct (tag_in (interned entries tags structures) id)) ≡ false)
    (all : List MemberEntry) (s : Structure) (built : IsBuilt (interned entries tags structures) id all s)
    (stand : MembersStand (tags_of tags) (types_of entries) all) where
  abbrev older : List StructEntry
  older = struct_entries (reverse structures)

  fresh : completed_index older id.0 ≡ None
  fresh = by (completed_index older id.0) refl
    where
      by : (o : Option ℕ) → completed_index older id.0 ≡ o → completed_index older id.0 ≡ None
      by None e = e
      by (Some n) e =
          let found = structure_there (tags_of tags) (types_of entries) table.tags_apart (reverse structures) table.placed id.0 lt n e in
          absurd (false≢true (sym unknown ∙ ap has_members found.facts.members))

  its_tag : s.id.0 ≡ id.0
  its_tag = ap (λ (i : tag.StructId). i.0) built.id

  no_members : members_by_tag (struct_defs (tags_of tags) (types_of entries) older) (the_tag (numbered (tags_of tags) s.id.0)) ≡ None
  no_members =
      ap (λ n. members_by_tag (struct_defs (tags_of tags) (types_of entries) older) (the_tag (numbered (tags_of tags) n))) its_tag
      ∙ not_completed (tags_of tags) (types_of entries) table.tags_apart (reverse structures) table.placed id.0 lt fresh

  same_tags : tags_of (set_value_at tags id.0 (Some (length structures))) ≡ tags_of tags
  same_tags = ap reverse (set_keys tags id.0 (Some (length structures)))

  one_more : struct_entries (reverse (structures ++ s ∷ [])) ≡ struct_entry s ∷ older
  one_more = ap struct_entries (reverse_push structures s)

  view : interned entries (set_value_at tags id.0 (Some (length structures))) (structures ++ s ∷ []) ≡ record { entries = types_of entries; tags = tags_of tags; structs = struct_entry s ∷ older }
  view = λ i. record { entries = types_of entries; tags = same_tags i; structs = one_more i }

  is_placed : IsPlaced (tags_of tags) (types_of entries) older s
  is_placed = record {
    tag = subst (λ n. n < length (tags_of tags)) (sym its_tag) lt;
    fresh = ap (completed_index older) its_tag ∙ fresh;
    stand = subst (MembersStand (tags_of tags) (types_of entries)) (sym built.members) stand;
    sized = built.sized;
    extent = built.extent;
    slots = built.slots;
    offsets = built.offsets;
    numbers = built.numbers;
  }

  length-older : length older ≡ length structures
  length-older = length-map (reverse structures) struct_entry ∙ length-reverse structures

  completed_there : (n : ℕ) (tag : Vec ℕ Z × Option ℕ) → ((n ≡ id.0) × (Some (length structures) ≡ tag.1)) ⊎ ((n ≡ id.0 → ⊥) × (slice_get tags n ≡ Some tag))
      → tag.1 ≡ completed_index (struct_entry s ∷ older) n
  completed_there n tag (inl here) =
      sym here.1 ∙ ap Some (sym length-older)
      ∙ sym (cond-true (eqb s.id.0 n) (Some (length older)) (completed_index older n) (eq-eqb s.id.0 n (its_tag ∙ sym here.0)))
  completed_there n tag (inr other) =
      table.completed n tag other.1
      ∙ sym (cond-false (eqb s.id.0 n) (Some (length older)) (completed_index older n) (ne_eqb s.id.0 n (λ e. other.0 (sym e ∙ its_tag))))

  length-set : (es : List (Vec ℕ Z × Option ℕ)) (n : ℕ) (w : Option ℕ) → length (set_value_at es n w) ≡ length es
  length-set [] n w = refl
  length-set (e ∷ es) zero w = refl
  length-set (e ∷ es) (suc n) w = ap suc (length-set es n w)

  pub IsTable-completed : IsTable entries (set_value_at tags id.0 (Some (length structures))) (structures ++ s ∷ [])
  IsTable-completed = record {
    meanings = subst (λ ts. HaveMeanings ts (types_of entries)) (sym same_tags) table.meanings;
    apart = table.apart;
    tags_apart = subst AreApart (sym same_tags) table.tags_apart;
    few = table.few;
    few_tags = let few = table.few_tags in let long = length-set tags id.0 (Some (length structures)) in omega arith;
    extents = subst (λ t. HaveExtents t entries) (sym view) (λ n kept at.
        extent_stays (types_of entries) (tags_of tags) (struct_entry s) older no_members kept.0 kept.1 (table.extents n kept at));
    completed = λ n tag at. completed_there n tag (set_there tags id.0 n (Some (length structures)) tag at) ∙ ap (λ es. completed_index es n) (sym one_more);
    placed =
        subst (λ ts. ArePlaced ts (types_of entries) (reverse (structures ++ s ∷ []))) (sym same_tags)
        (subst (ArePlaced (tags_of tags) (types_of entries)) (sym (reverse_push structures s)) (is_placed, table.placed));
  }

  pub view-completed : interned entries (set_value_at tags id.0 (Some (length structures))) (structures ++ s ∷ []) ≡ completed (interned entries tags structures) id.0 all
  view-completed = view ∙ (λ i. record { entries = types_of entries; tags = tags_of tags; structs = record { tag = its_tag i; members = built.members i } ∷ older })
