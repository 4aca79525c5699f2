-- A member of a structure is looked for by a slot.
use Rattle.std.proofs.Common.{◌≡◌, ℕ, zero, suc, ◌+◌, ◌-◌, ◌<◌, ◌≤◌, Bool, true, false, cond, List, [], ◌∷◌, drop, length, Option, Some, None, refl, sym, ap, subst, ◌∙◌, ◌⊎◌, inl, inr, arith}
use Rattle.std.specs.Prelude.{slice_get, bytes_eq, option_map}
use Rattle.std.proofs.lemmas.Option.{none-some, same_Some}
use Rattle.c_typed.specs.declared.c_type.CType as number
use Rattle.c_typed.specs.Layouts.{StructDef, MemberDef, layouts, member_layout, known_layout, members_by_tag, known_members, greatest}
use Rattle.c_typed.specs.Types.{CType, Struct}
use Rattle.c_typed.specs.Table.{Interned, type_in, structs_in, KnownStands, known_in, members_of, IsMemberType}
use Rattle.heap_graph.specs.Structures.{AreMade}
use Rattle.heap_graph.specs.Parts.{slots_of, MemberIn}
use Rattle.heap_graph.specs.Searching.{HasSlot, IsMemberOver, Searched}

-- members can be counted
pub few_members : (structs : List StructDef) → AreMade structs → (tag : List ℕ) → length (known_members (members_by_tag structs tag)) < greatest
few_members [] made tag = omega arith
few_members (newest ∷ older) made tag = by (bytes_eq newest.tag tag) (few_members older made.1 tag)
  where
    by : (b : Bool) → length (known_members (members_by_tag older tag)) < greatest → length (known_members (cond b (Some newest.members) (members_by_tag older tag))) < greatest
    by true rest = made.0.countable
    by false rest = rest

drop_more : {A : Type 0} (xs : List A) (n : ℕ) (x : A) → slice_get xs n ≡ Some x → drop n xs ≡ x ∷ drop (suc n) xs
drop_more [] n x e = absurd (none-some x e)
drop_more (y ∷ xs) zero x e = ap (λ z. z ∷ xs) (same_Some y x e)
drop_more (y ∷ xs) (suc n) x e = drop_more xs n x e

drop_all : {A : Type 0} (xs : List A) (n : ℕ) → slice_get xs n ≡ None → drop n xs ≡ []
drop_all [] zero e = refl
drop_all [] (suc n) e = refl
drop_all (y ∷ xs) zero e = absurd (none-some y (sym e))
drop_all (y ∷ xs) (suc n) e = drop_all xs n e

-- ---- what a look-up tells

pub record TellsMember (table : Interned) (o : Option MemberDef) (told : Option number.CType) : Type 0 where
  pub member : MemberDef
  pub is : o ≡ Some member
  pub c_type : known_in table.tags table.entries told ≡ member.c_type
  pub stands : KnownStands table told

pub tells_member : (table : Interned) (o : Option MemberDef) (told : Option number.CType) → IsMemberType table o (Some told) → TellsMember table o told
tells_member table (Some member) told h = record { member = member; is = refl; c_type = h.0; stands = h.1 }
tells_member table None told h = absurd h

pub tells_none : (table : Interned) (o : Option MemberDef) → IsMemberType table o None → o ≡ None
tells_none table (Some member) h = absurd h
tells_none table None h = refl

pub searched_none : (table : Interned) (tag : List ℕ) (slot : ℕ) → Searched table tag slot 0 0
searched_none table tag slot = record { before = λ at t member. inr member; after = λ at t member. member; from = omega arith }

module _ (table : Interned) (tag : List ℕ) (slot front n : ℕ) (searched : Searched table tag slot front n) where
  abbrev members : List MemberDef
  members = members_of (structs_in table) (Struct tag)

  module _ (member : MemberDef) (is : slice_get members n ≡ Some member) where
    here : (at : ℕ) (t : CType) → MemberIn (layouts (structs_in table)) front (member ∷ drop (suc n) members) at t → MemberIn (layouts (structs_in table)) 0 members at t
    here at t h = searched.after at t (subst (λ l. MemberIn (layouts (structs_in table)) front l at t) (sym (drop_more members n member is)) h)

    -- the next member lies below the slot
    pub below_slot : front + (member_layout (layouts (structs_in table)) member).slots ≤ slot → Searched table tag slot (front + (member_layout (layouts (structs_in table)) member).slots) (suc n)
    below_slot below = record {
      before = λ at t inside. by at t (searched.before at t inside);
      after = λ at t later. here at t (inr later);
      from = below;
    }
      where
        deeper : (at : ℕ) (t : CType) → MemberIn (layouts (structs_in table)) front (member ∷ drop (suc n) members) at t
            → (at + slots_of (structs_in table) t ≤ slot) ⊎ MemberIn (layouts (structs_in table)) (front + (member_layout (layouts (structs_in table)) member).slots) (drop (suc n) members) at t
        deeper at t (inl its) =
            let typed = ap (λ c. (known_layout (layouts (structs_in table)) c).slots) its.0 in
            let place = its.1 in
            inl (omega (arith, typed, place, below))
        deeper at t (inr later) = inr later

        by : (at : ℕ) (t : CType) → (at + slots_of (structs_in table) t ≤ slot) ⊎ MemberIn (layouts (structs_in table)) front (drop n members) at t
            → (at + slots_of (structs_in table) t ≤ slot) ⊎ MemberIn (layouts (structs_in table)) (front + (member_layout (layouts (structs_in table)) member).slots) (drop (suc n) members) at t
        by at t (inl low) = inl low
        by at t (inr inside) = deeper at t (subst (λ l. MemberIn (layouts (structs_in table)) front l at t) (drop_more members n member is) inside)

    -- the next member has it
    pub has_slot : (c_type : CType) → member.c_type ≡ Some c_type → slot < front + slots_of (structs_in table) c_type → HasSlot table tag slot c_type front
    has_slot c_type typed above = by (members_by_tag (structs_in table) tag) refl (here front c_type (inl (typed, refl)))
      where
        by : (o : Option (List MemberDef)) → members_by_tag (structs_in table) tag ≡ o → MemberIn (layouts (structs_in table)) 0 (known_members o) front c_type → HasSlot table tag slot c_type front
        by None e inside = absurd inside
        by (Some its) e inside = record { members = its; has = e; member = inside; from = searched.from; to = above }

  -- what is told of it
  pub over_slot : (told : Option number.CType) → (tells : TellsMember table (slice_get members n) told)
      → slot - front < (known_layout (layouts (structs_in table)) (known_in table.tags table.entries told)).slots → IsMemberOver table tag slot (option_map (λ t. (t, front)) told)
  over_slot None tells some = absurd (omega (arith, some))
  over_slot (Some t) tells some =
      let from = searched.from in
      (tells.stands, has_slot tells.member tells.is (type_in table t) (sym tells.c_type) (omega (arith, some, from)))

  -- a member was told of that lies below the slot
  pub past_slot : (told : Option number.CType) → (tells : TellsMember table (slice_get members n) told) → (slots : ℕ)
      → slots ≡ (known_layout (layouts (structs_in table)) (known_in table.tags table.entries told)).slots → slots ≤ slot - front → Searched table tag slot (front + slots) (suc n)
  past_slot told tells slots is below =
      let from = searched.from in
      let same : slots ≡ (member_layout (layouts (structs_in table)) tells.member).slots = is ∙ ap (λ c. (known_layout (layouts (structs_in table)) c).slots) tells.c_type in
      subst (λ s. Searched table tag slot (front + s) (suc n)) (sym same) (below_slot tells.member tells.is (omega (arith, same, below, from)))

  -- no member is left
  pub none_left : slice_get members n ≡ None → IsMemberOver table tag slot None
  none_left none its has at t inside = by (searched.before at t (subst (λ o. MemberIn (layouts (structs_in table)) 0 (known_members o) at t) (sym has) inside))
    where
      by : (at + slots_of (structs_in table) t ≤ slot) ⊎ MemberIn (layouts (structs_in table)) front (drop n members) at t → at + slots_of (structs_in table) t ≤ slot
      by (inl below) = below
      by (inr later) = absurd (subst (λ l. MemberIn (layouts (structs_in table)) front l at t) (drop_all members n none) later)
