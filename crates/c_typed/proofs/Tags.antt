-- A table with a new tag.
use Rattle.std.proofs.Common.{◌≡◌, ℕ, zero, suc, ◌+◌, ◌<◌, ◌≤◌, Bool, true, eqb, List, [], ◌∷◌, ◌++◌, length, reverse, map, slice_get, position, Option, Some, None, refl, sym, ap, subst, ◌∙◌, arith, ◌⊎◌, inl, inr, Vec}
use Rattle.std.specs.Prelude.{bytes_eq, option_map}
use Rattle.std.proofs.lemmas.Bool.{false≢true, cond-false, ne_eqb, false_from_ne_true}
use Rattle.std.proofs.lemmas.Option.{none-some, same_Some, slice_get-map}
use Rattle.std.proofs.lemmas.List.{length-append, length-reverse, length-map, map-append}
use Rattle.std.proofs.lemmas.Slice.Eq.{bytes_eq-Decides}
use Rattle.c_typed.specs.declared.c_type.Derived.{Derived}
use Rattle.c_typed.specs.declared.c_type.Derived.TheVariants as D
use Rattle.c_typed.specs.declared.extent.Extent.{Extent}
use Rattle.c_typed.specs.declared.structure.Structure.{Structure}
use Rattle.c_typed.specs.Types.{Struct}
use Rattle.c_typed.specs.Table.{AType, meaning_in, derived_meaning, numbered, struct_of, struct_defs, the_tag, the_type, IsAType, Grows, MakesType}
use Rattle.c_typed.specs.Inside.{AreApart, IsSomething, HaveMeanings, struct_entries, completed_index, ArePlaced, types_of, tags_of, interned, greatest_count, IsTable}
use Rattle.c_typed.proofs.Meanings.{numbered_newest, numbered-below, numbered_more, derived_stays, meaning_tagged, entry-means}
use Rattle.c_typed.proofs.Lists.{numbered-reverse, reverse_push, fails_everywhere, passes_there}
use Rattle.c_typed.proofs.Growth.{structs_stay, extent_stays, IsTable-entry, MakesEntry-new}
use Rattle.c_typed.proofs.Grown.{grows_trans}
use Rattle.c_typed.proofs.Keys.{same_entry, same_entry-true}
use Rattle.std.specs.Map.{lookup}

-- an item of a list with one more is an old one or the last
pub get_pushed_at : {A : Type 0} (xs : List A) (x y : A) (n : ℕ) → slice_get (xs ++ x ∷ []) n ≡ Some y → (slice_get xs n ≡ Some y) ⊎ ((n ≡ length xs) × (x ≡ y))
get_pushed_at [] x y zero e = inr (refl, same_Some x y e)
get_pushed_at [] x y (suc n) e = absurd (none-some y e)
get_pushed_at (z ∷ xs) x y zero e = inl e
get_pushed_at (z ∷ xs) x y (suc n) e = more (get_pushed_at xs x y n e)
  where
    more : (slice_get xs n ≡ Some y) ⊎ ((n ≡ length xs) × (x ≡ y)) → (slice_get xs n ≡ Some y) ⊎ ((suc n ≡ length (z ∷ xs)) × (x ≡ y))
    more (inl at) = inl at
    more (inr last) = let e = last.0 in inr (omega arith, last.1)

-- a key that no place has isn't found
lookup_none : {K X : Type 0} (test : K → Bool) (es : List (K × X)) → ((n : ℕ) (k : K) → slice_get (map (λ (e : K × X). e.0) es) n ≡ Some k → test k ≡ true → ⊥) → lookup test es ≡ None
lookup_none test [] h = refl
lookup_none test (e ∷ es) h =
    cond-false (test e.0) _ _ (false_from_ne_true (test e.0) (λ t. h 0 e.0 refl t)) ∙ lookup_none test es (λ n k at. h (suc n) k at)

-- ---- tags by their bytes

module _ {Z : Type 0} (tags : List (Vec ℕ Z × Option ℕ)) where
  pub tag_kept : (n : ℕ) (kept : Vec ℕ Z × Option ℕ) → slice_get tags n ≡ Some kept → the_tag (numbered (tags_of tags) n) ≡ kept.0.items
  tag_kept n kept at =
      ap the_tag (
      numbered-reverse (map (λ (t : Vec ℕ Z × Option ℕ). t.0.items) tags) n
      ∙ slice_get-map (λ (t : Vec ℕ Z × Option ℕ). t.0.items) tags n
      ∙ ap (option_map (λ (t : Vec ℕ Z × Option ℕ). t.0.items)) at)

module _ {Z : Type 0} (tags : List (Vec ℕ Z × Option ℕ)) (tag : List ℕ) where
  tag_at : (n : ℕ) → numbered (tags_of tags) n ≡ option_map (λ (k : Vec ℕ Z). k.items) (slice_get (map (λ (t : Vec ℕ Z × Option ℕ). t.0) tags) n)
  tag_at n =
      numbered-reverse (map (λ (t : Vec ℕ Z × Option ℕ). t.0.items) tags) n
      ∙ slice_get-map (λ (t : Vec ℕ Z × Option ℕ). t.0.items) tags n
      ∙ by (slice_get tags n)
      ∙ ap (option_map (λ (k : Vec ℕ Z). k.items)) (sym (slice_get-map (λ (t : Vec ℕ Z × Option ℕ). t.0) tags n))
    where
      by : (o : Option (Vec ℕ Z × Option ℕ)) → option_map (λ (t : Vec ℕ Z × Option ℕ). t.0.items) o ≡ option_map (λ (k : Vec ℕ Z). k.items) (option_map (λ (t : Vec ℕ Z × Option ℕ). t.0) o)
      by None = refl
      by (Some t) = refl

  pub tag_absent : position (λ (k : Vec ℕ Z). bytes_eq tag k.items) (map (λ (t : Vec ℕ Z × Option ℕ). t.0) tags) ≡ None → (n : ℕ) → numbered (tags_of tags) n ≡ Some tag → ⊥
  tag_absent none n at = by (slice_get (map (λ (t : Vec ℕ Z × Option ℕ). t.0) tags) n) refl
    where
      by : (o : Option (Vec ℕ Z)) → slice_get (map (λ (t : Vec ℕ Z × Option ℕ). t.0) tags) n ≡ o → ⊥
      by None e = none-some tag (sym (ap (option_map (λ (k : Vec ℕ Z). k.items)) e) ∙ sym (tag_at n) ∙ at)
      by (Some k) e =
          let same : k.items ≡ tag = same_Some k.items tag (sym (ap (option_map (λ (k : Vec ℕ Z). k.items)) e) ∙ sym (tag_at n) ∙ at) in
          false≢true (sym (fails_everywhere (λ (k : Vec ℕ Z). bytes_eq tag k.items) (map (λ (t : Vec ℕ Z × Option ℕ). t.0) tags) n k none e) ∙ (bytes_eq-Decides tag k.items).1 (sym same))

  pub tag_found : (n : ℕ) → position (λ (k : Vec ℕ Z). bytes_eq tag k.items) (map (λ (t : Vec ℕ Z × Option ℕ). t.0) tags) ≡ Some n → numbered (tags_of tags) n ≡ Some tag
  tag_found n some =
      let found = passes_there (λ (k : Vec ℕ Z). bytes_eq tag k.items) (map (λ (t : Vec ℕ Z × Option ℕ). t.0) tags) n some in
      tag_at n ∙ ap (option_map (λ (k : Vec ℕ Z). k.items)) found.1 ∙ ap Some (sym ((bytes_eq-Decides tag found.0.items).0 found.2))

  pub no_tag_entry : (key : Vec ℕ Z) → key.items ≡ tag → ((n : ℕ) → numbered (tags_of tags) n ≡ Some tag → ⊥) → lookup (λ (k : Vec ℕ Z). bytes_eq key.items k.items) tags ≡ None
  no_tag_entry key is absent = lookup_none (λ (k : Vec ℕ Z). bytes_eq key.items k.items) tags (λ n k at e.
      absent n (tag_at n ∙ ap (option_map (λ (k : Vec ℕ Z). k.items)) at ∙ ap Some (sym ((bytes_eq-Decides key.items k.items).0 e) ∙ is)))

-- ---- one more tag

-- a number that is no tag's is that of no structure
index_past : (tags : List (List ℕ)) (es : List Derived) (ss : List Structure) → ArePlaced tags es ss → (id : ℕ) → length tags ≤ id → completed_index (struct_entries ss) id ≡ None
index_past tags es [] h id le = refl
index_past tags es (newest ∷ older) h id le =
    let lt = h.0.tag in
    cond-false (eqb newest.id.0 id) _ _ (ne_eqb newest.id.0 id (λ (e : newest.id.0 ≡ id). absurd (omega arith))) ∙ index_past tags es older h.1 id le

meanings_tagged : (tag : List ℕ) (tags : List (List ℕ)) (es : List Derived) → HaveMeanings tags es → HaveMeanings (tag ∷ tags) es
meanings_tagged tag tags [] h = tt
meanings_tagged tag tags (newest ∷ older) h = (
  subst IsSomething
      (sym (derived_stays tags (tag ∷ tags) (meaning_in tags older) (meaning_in (tag ∷ tags) older) newest (numbered_more (tag ∷ []) tags) (meaning_tagged (tag ∷ []) tags older) h.0))
      h.0,
  meanings_tagged tag tags older h.1,
)

module _ {Z : Type 0} (entries : List (Derived × Extent)) (tags : List (Vec ℕ Z × Option ℕ)) (structures : List Structure)
    (table : IsTable entries tags structures) (key : Vec ℕ Z) where
  pub tags_pushed : tags_of (tags ++ (key, None) ∷ []) ≡ key.items ∷ tags_of tags
  tags_pushed =
      ap reverse (map-append (λ (t : Vec ℕ Z × Option ℕ). t.0.items) tags ((key, None) ∷ []))
      ∙ reverse_push (map (λ (t : Vec ℕ Z × Option ℕ). t.0.items) tags) key.items

  pub length-tags : length (tags_of tags) ≡ length tags
  length-tags = length-reverse (map (λ (t : Vec ℕ Z × Option ℕ). t.0.items) tags) ∙ length-map tags (λ (t : Vec ℕ Z × Option ℕ). t.0.items)

  stay : (struct_defs (key.items ∷ tags_of tags) (types_of entries) (struct_entries (reverse structures)) ≡ struct_defs (tags_of tags) (types_of entries) (struct_entries (reverse structures)))
      × ArePlaced (key.items ∷ tags_of tags) (types_of entries) (reverse structures)
  stay = structs_stay (key.items ∷ []) (tags_of tags) [] (types_of entries) (reverse structures) table.placed

  pub tag_grows : Grows (interned entries tags structures) (interned entries (tags ++ (key, None) ∷ []) structures)
  tag_grows = record {
    entries = ([], refl);
    tags = (key.items ∷ [], tags_pushed);
    structs = (λ i. struct_defs (tags_pushed i) (types_of entries) (struct_entries (reverse structures))) ∙ stay.0;
  }

  module _ (absent : (n : ℕ) → numbered (tags_of tags) n ≡ Some key.items → ⊥) (few : length tags < greatest_count) where
    pub IsTable-tag : IsTable entries (tags ++ (key, None) ∷ []) structures
    IsTable-tag = record {
      meanings = subst (λ ts. HaveMeanings ts (types_of entries)) (sym tags_pushed) (meanings_tagged key.items (tags_of tags) (types_of entries) table.meanings);
      apart = table.apart;
      tags_apart = subst AreApart (sym tags_pushed) (absent, table.tags_apart);
      few = table.few;
      few_tags = let long = length-append tags ((key, None) ∷ []) in omega arith;
      extents = λ n kept at. extent_stays (interned entries tags structures) (interned entries (tags ++ (key, None) ∷ []) structures) tag_grows kept.0 kept.1 (table.extents n kept at);
      completed = λ n tag at. completed n tag (get_pushed_at tags (key, None) tag n at);
      placed = subst (λ ts. ArePlaced ts (types_of entries) (reverse structures)) (sym tags_pushed) stay.1;
    }
      where
        completed : (n : ℕ) (tag : Vec ℕ Z × Option ℕ) → (slice_get tags n ≡ Some tag) ⊎ ((n ≡ length tags) × ((key, None) ≡ tag)) → tag.1 ≡ completed_index (struct_entries (reverse structures)) n
        completed n tag (inl at) = table.completed n tag at
        completed n tag (inr last) =
            ap (λ (t : Vec ℕ Z × Option ℕ). t.1) (sym last.1)
            ∙ sym (index_past (tags_of tags) (types_of entries) (reverse structures) table.placed n (let e = last.0 in let long = length-tags in omega arith))

    -- the entry of the structure with the new tag
    module _ (room : length entries < greatest_count) (extent : Extent) (id : ℕ) (last : id ≡ length tags) where
      newest_tag : numbered (tags_of (tags ++ (key, None) ∷ [])) id ≡ Some key.items
      newest_tag = ap (λ ts. numbered ts id) tags_pushed ∙ numbered_newest key.items (tags_of tags) id (last ∙ sym length-tags)

      means : derived_meaning (tags_of (tags ++ (key, None) ∷ [])) (meaning_in (tags_of (tags ++ (key, None) ∷ [])) (types_of entries)) (D.Struct (record { 0 = id })) ≡ AType (Struct key.items)
      means = ap struct_of newest_tag

      struct_needs_tag : (o : Option (List ℕ)) → IsSomething (struct_of o) → (tag : List ℕ) × (o ≡ Some tag)
      struct_needs_tag (Some tag) h = (tag, refl)
      struct_needs_tag None h = absurd h

      -- no entry spoke of the new tag
      is_new : (n : ℕ) → numbered (types_of entries) n ≡ Some (D.Struct (record { 0 = id })) → ⊥
      is_new n at =
          let found = entry-means (tags_of tags) (types_of entries) n (D.Struct (record { 0 = id })) table.meanings at in
          let tag = struct_needs_tag (numbered (tags_of tags) id) found.1 in
          let lt = numbered-below (tags_of tags) id tag.0 tag.1 in
          let long = length-tags in
          absurd (omega arith)

      -- so a map doesn't find it
      pub no_struct_entry : lookup (same_entry (D.Struct (record { 0 = id }))) entries ≡ None
      no_struct_entry = lookup_none (same_entry (D.Struct (record { 0 = id }))) entries (λ n k at e.
          is_new n (numbered-reverse (map (λ (e : Derived × Extent). e.0) entries) n ∙ at ∙ ap Some (sym (same_entry-true (D.Struct (record { 0 = id })) k e))))

      pub IsTable-struct : IsTable (entries ++ (D.Struct (record { 0 = id }), extent) ∷ []) (tags ++ (key, None) ∷ []) structures
      IsTable-struct =
          IsTable-entry entries (tags ++ (key, None) ∷ []) structures IsTable-tag (D.Struct (record { 0 = id })) extent
          (subst IsSomething (sym means) tt) is_new room tt

      pub MakesType-struct : MakesType (interned entries tags structures) (interned (entries ++ (D.Struct (record { 0 = id }), extent) ∷ []) (tags ++ (key, None) ∷ []) structures)
          (record { 0 = length entries + 9 }) (Struct key.items)
      MakesType-struct =
          let made = MakesEntry-new entries (tags ++ (key, None) ∷ []) structures IsTable-tag (D.Struct (record { 0 = id })) extent
          (subst IsSomething (sym means) tt) is_new room tt in
          record {
            stands = subst IsAType (sym (made.means ∙ means)) tt;
            means = ap the_type (made.means ∙ means);
            grows =
                grows_trans (interned entries tags structures) (interned entries (tags ++ (key, None) ∷ []) structures)
                (interned (entries ++ (D.Struct (record { 0 = id }), extent) ∷ []) (tags ++ (key, None) ∷ []) structures) tag_grows made.grows;
          }
