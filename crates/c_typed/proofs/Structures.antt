-- Structures that are completed.
use Rattle.std.proofs.Common.{◌≡◌, ℕ, ◌<◌, Bool, true, false, cond, eqb, List, [], ◌∷◌, length, Some, None, refl, sym, ap, subst, ◌∙◌, arith, ◌⊎◌, inl, inr}
use Rattle.std.specs.Prelude.{bytes_eq}
use Rattle.std.proofs.lemmas.Bool.{cases_eq, cond-true, cond-false, eq-eqb, ne_eqb, false_from_ne_true}
use Rattle.std.proofs.lemmas.Option.{none-some, same_Some}
use Rattle.std.proofs.lemmas.List.{length-map}
use Rattle.std.proofs.lemmas.Slice.Eq.{bytes_eq-Decides}
use Rattle.c_typed.specs.declared.c_type.Derived.{Derived}
use Rattle.c_typed.specs.declared.structure.Structure.{Structure}
use Rattle.c_typed.specs.Extents.{extent_layout}
use Rattle.c_typed.specs.Layouts.{StructDef, no_layout, layouts, layout_by_tag, struct_layout, members_by_tag}
use Rattle.c_typed.specs.Table.{numbered, the_tag, member_defs, struct_def, struct_defs}
use Rattle.c_typed.specs.Inside.{AreApart, struct_entry, struct_entries, completed_index, MembersStand, are_sized, HaveSlots, HaveOffsets, AreNumbered, ArePlaced}
use Rattle.c_typed.proofs.Meanings.{numbered_newest, numbered_older, numbered-below}
use Rattle.c_typed.proofs.Apart.{numbered_apart}
use Rattle.c_typed.proofs.Lists.{numbered-within}
use Rattle.c_typed.proofs.Sizes.{slots_before-stays, are_sized_more}
use Rattle.c_typed.proofs.Offsets.{offset_before-stays}

module _ (tags : List (List ℕ)) (apart : AreApart tags) where
  -- tags are the same only where their numbers are
  pub tags_differ : (a b : ℕ) → a < length tags → b < length tags → (a ≡ b → ⊥) → bytes_eq (the_tag (numbered tags a)) (the_tag (numbered tags b)) ≡ false
  tags_differ a b la lb other = false_from_ne_true (bytes_eq (the_tag (numbered tags a)) (the_tag (numbered tags b))) (λ e.
      let x = numbered-within tags a la in
      let y = numbered-within tags b lb in
      let same = (bytes_eq-Decides (the_tag (numbered tags a)) (the_tag (numbered tags b))).0 e in
      let both : x.0 ≡ y.0 = sym (ap the_tag x.1) ∙ same ∙ ap the_tag y.1 in
      other (numbered_apart tags x.0 a b apart x.1 (y.1 ∙ ap Some (sym both))))

-- what is known of the structure with a tag
pub record Facts (tags : List (List ℕ)) (es : List Derived) (ss : List Structure) (id : ℕ) (s : Structure) : Type 0 where
  pub members : members_by_tag (struct_defs tags es (struct_entries ss)) (the_tag (numbered tags id)) ≡ Some (member_defs tags es (struct_entry s).members)
  pub extent : extent_layout s.extent ≡ layout_by_tag (layouts (struct_defs tags es (struct_entries ss))) (the_tag (numbered tags id))
  pub stand : MembersStand tags es (struct_entry s).members
  pub sized : are_sized (struct_defs tags es (struct_entries ss)) (member_defs tags es (struct_entry s).members) ≡ true
  pub slots : HaveSlots (struct_defs tags es (struct_entries ss)) (member_defs tags es (struct_entry s).members) s.members.items
  pub offsets : HaveOffsets (struct_defs tags es (struct_entries ss)) (member_defs tags es (struct_entry s).members) s.members.items
  pub numbers : AreNumbered s.numbers s.members.items

module _ (tags : List (List ℕ)) (es : List Derived) (apart : AreApart tags) where
  -- one that isn't completed has no members
  pub not_completed : (ss : List Structure) → ArePlaced tags es ss → (id : ℕ) → id < length tags → completed_index (struct_entries ss) id ≡ None
      → members_by_tag (struct_defs tags es (struct_entries ss)) (the_tag (numbered tags id)) ≡ None
  not_completed [] h id lt none = refl
  not_completed (newest ∷ older) h id lt none = by (cases_eq newest.id.0 id) (not_completed older h.1 id lt)
    where
      by : (newest.id.0 ≡ id) ⊎ (newest.id.0 ≡ id → ⊥)
          → (completed_index (struct_entries older) id ≡ None → members_by_tag (struct_defs tags es (struct_entries older)) (the_tag (numbered tags id)) ≡ None)
          → members_by_tag (struct_defs tags es (struct_entries (newest ∷ older))) (the_tag (numbered tags id)) ≡ None
      by (inl same) rest =
          absurd (none-some (length (struct_entries older))
          (sym none ∙ cond-true (eqb newest.id.0 id) (Some (length (struct_entries older))) (completed_index (struct_entries older) id) (eq-eqb newest.id.0 id same)))
      by (inr other) rest =
          cond-false (bytes_eq (the_tag (numbered tags newest.id.0)) (the_tag (numbered tags id))) _ _ (tags_differ tags apart newest.id.0 id h.0.tag lt other)
          ∙ rest (sym (cond-false (eqb newest.id.0 id) (Some (length (struct_entries older))) (completed_index (struct_entries older) id) (ne_eqb newest.id.0 id other)) ∙ none)

  -- facts of the newest
  newest_facts : (newest : Structure) (older : List Structure) → ArePlaced tags es (newest ∷ older) → Facts tags es (newest ∷ older) newest.id.0 newest
  newest_facts newest older h =
      let placed = h.0 in
      let tag = the_tag (numbered tags newest.id.0) in
      let fresh = not_completed older h.1 newest.id.0 placed.tag placed.fresh in
      let def = struct_def tags es (struct_entry newest) in
      let defs = struct_defs tags es (struct_entries older) in
      let is = (bytes_eq-Decides tag tag).1 refl in
      record {
        members = cond-true (bytes_eq tag tag) _ _ is;
        extent = placed.extent ∙ sym (cond-true (bytes_eq tag tag) _ _ is);
        stand = placed.stand;
        sized = are_sized_more def defs fresh def.members placed.sized;
        slots = λ n member at. placed.slots n member at ∙ sym (slots_before-stays def defs fresh n def.members placed.sized);
        offsets = λ n member at. placed.offsets n member at ∙ sym (offset_before-stays def defs fresh n def.members placed.sized);
        numbers = placed.numbers;
      }

  -- facts of an older one
  older_facts : (newest : Structure) (older : List Structure) → ArePlaced tags es (newest ∷ older) → (id : ℕ) → id < length tags → (newest.id.0 ≡ id → ⊥)
      → (s : Structure) → Facts tags es older id s → Facts tags es (newest ∷ older) id s
  older_facts newest older h id lt other s facts =
      let placed = h.0 in
      let fresh = not_completed older h.1 newest.id.0 placed.tag placed.fresh in
      let def = struct_def tags es (struct_entry newest) in
      let defs = struct_defs tags es (struct_entries older) in
      let differs = tags_differ tags apart newest.id.0 id placed.tag lt other in
      let members = member_defs tags es (struct_entry s).members in
      record {
        members = cond-false (bytes_eq (the_tag (numbered tags newest.id.0)) (the_tag (numbered tags id))) _ _ differs ∙ facts.members;
        extent = facts.extent ∙ sym (cond-false (bytes_eq (the_tag (numbered tags newest.id.0)) (the_tag (numbered tags id))) _ _ differs);
        stand = facts.stand;
        sized = are_sized_more def defs fresh members facts.sized;
        slots = λ n member at. facts.slots n member at ∙ sym (slots_before-stays def defs fresh n members facts.sized);
        offsets = λ n member at. facts.offsets n member at ∙ sym (offset_before-stays def defs fresh n members facts.sized);
        numbers = facts.numbers;
      }

  pub record IsCompleted (ss : List Structure) (id n : ℕ) : Type 0 where
    pub structure : Structure
    pub at : numbered ss n ≡ Some structure
    pub facts : Facts tags es ss id structure

  -- the structure at its index
  pub structure_there : (ss : List Structure) → ArePlaced tags es ss → (id : ℕ) → id < length tags → (n : ℕ) → completed_index (struct_entries ss) id ≡ Some n → IsCompleted ss id n
  structure_there [] h id lt n some = absurd (none-some n some)
  structure_there (newest ∷ older) h id lt n some = by (cases_eq newest.id.0 id) (structure_there older h.1 id lt n)
    where
      below : IsCompleted older id n → numbered older n ≡ numbered (newest ∷ older) n → (newest.id.0 ≡ id → ⊥) → IsCompleted (newest ∷ older) id n
      below found same other = record {
        structure = found.structure;
        at = sym same ∙ found.at;
        facts = older_facts newest older h id lt other found.structure found.facts;
      }

      by : (newest.id.0 ≡ id) ⊎ (newest.id.0 ≡ id → ⊥) → (completed_index (struct_entries older) id ≡ Some n → IsCompleted older id n) → IsCompleted (newest ∷ older) id n
      by (inl same) rest =
          let index = same_Some (length (struct_entries older)) n
          (sym (cond-true (eqb newest.id.0 id) (Some (length (struct_entries older))) (completed_index (struct_entries older) id) (eq-eqb newest.id.0 id same)) ∙ some) in
          record {
            structure = newest;
            at = numbered_newest newest older n (sym index ∙ length-map older struct_entry);
            facts = subst (λ k. Facts tags es (newest ∷ older) k newest) same (newest_facts newest older h);
          }
      by (inr other) rest =
          let found = rest (sym (cond-false (eqb newest.id.0 id) (Some (length (struct_entries older))) (completed_index (struct_entries older) id) (ne_eqb newest.id.0 id other)) ∙ some) in
          below found (sym (numbered_older newest older n (λ (e : n ≡ length older). let lt = numbered-below older n found.structure found.at in absurd (omega arith)))) other

-- a tag that no structure has stands for no layout
pub no_layout_by_tag : (structs : List StructDef) (tag : List ℕ) → members_by_tag structs tag ≡ None → no_layout ≡ layout_by_tag (layouts structs) tag
no_layout_by_tag [] tag none = refl
no_layout_by_tag (newest ∷ structs) tag none = by (bytes_eq newest.tag tag) none (no_layout_by_tag structs tag)
  where
    by : (b : Bool) → cond b (Some newest.members) (members_by_tag structs tag) ≡ None → (members_by_tag structs tag ≡ None → no_layout ≡ layout_by_tag (layouts structs) tag)
        → no_layout ≡ cond b (struct_layout (layouts structs) newest.members) (layout_by_tag (layouts structs) tag)
    by true none rest = absurd (none-some newest.members (sym none))
    by false none rest = rest none
