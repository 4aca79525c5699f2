-- What is known of structures in an older table stays so in a newer one.
use Rattle.std.proofs.Common.{◌≡◌, ℕ, ◌+◌, ◌*◌, ◌<◌, ◌-◌, Bool, true, false, cond, List, [], ◌∷◌, Option, Some, None, refl, sym, ap, subst, ◌∙◌}
use Rattle.std.specs.Prelude.{bytes_eq, nat_lt, ◌||◌}
use Rattle.std.proofs.lemmas.Bool.{false≢true, true≢false, cond-true, cond-false, false_from_ne_true}
use Rattle.std.proofs.lemmas.Option.{none-some, same_Some}
use Rattle.std.proofs.lemmas.Slice.Eq.{bytes_eq-Decides}
use Rattle.c_typed.specs.Types.{CType, Void, Integer, Pointer, Array, Struct, Function}
use Rattle.c_typed.specs.Layouts.{StructDef, MemberDef, Layout, greatest, saturated, no_layout, layout_by_tag, layout_of, known_layout, member_layout, behind, members_layout, struct_layout, layouts, members_by_tag, is_complete, has_members}
use Rattle.c_typed.specs.Inside.{is_sized, is_known_sized, are_sized}
use Rattle.heap_graph.specs.Parts.{begins, parts_in, parts_from, parts_of_members, parts_by_tag}
use Rattle.heap_graph.specs.Structures.{AreMade}

none_incomplete : (structs : List StructDef) (tag : List ℕ) → members_by_tag structs tag ≡ None → is_complete structs (Struct tag) ≡ false
none_incomplete structs tag e = by (members_by_tag structs tag) e
  where
    by : (o : Option (List MemberDef)) → o ≡ None → has_members o ≡ false
    by None e = refl
    by (Some members) e = absurd (none-some members (sym e))

pub sized_parts : (a b : Bool) → cond a b false ≡ true → (a ≡ true) × (b ≡ true)
sized_parts true b h = (refl, h)
sized_parts false b h = absurd (false≢true h)

module _ (newest : StructDef) (older : List StructDef) (fresh : members_by_tag older newest.tag ≡ None) where
  -- a completed structure has not the newest tag
  tag_differs : (tag : List ℕ) → is_complete older (Struct tag) ≡ true → bytes_eq newest.tag tag ≡ false
  tag_differs tag h = false_from_ne_true (bytes_eq newest.tag tag) (λ e.
      let same = (bytes_eq-Decides newest.tag tag).0 e in
      false≢true (sym (none_incomplete older newest.tag fresh) ∙ ap (λ l. is_complete older (Struct l)) same ∙ h))

  some_complete : (tag : List ℕ) (members : List MemberDef) → members_by_tag older tag ≡ Some members → is_complete older (Struct tag) ≡ true
  some_complete tag members e = ap has_members e

  pub tag_not_newest : (tag : List ℕ) (members : List MemberDef) → members_by_tag older tag ≡ Some members → bytes_eq newest.tag tag ≡ false
  tag_not_newest tag members e = tag_differs tag (some_complete tag members e)

  -- members stay
  pub members_stay : (tag : List ℕ) (members : List MemberDef) → members_by_tag older tag ≡ Some members → members_by_tag (newest ∷ older) tag ≡ Some members
  members_stay tag members e = cond-false (bytes_eq newest.tag tag) _ _ (tag_not_newest tag members e) ∙ e

  pub sized_layout : (t : CType) → is_sized older t ≡ true → layout_of (newest ∷ older) t ≡ layout_of older t
  sized_layout Void h = refl
  sized_layout (Integer t) h = refl
  sized_layout (Pointer t) h = refl
  sized_layout (Array t n) h = let same = sized_layout t h in λ i. record { size = saturated ((same i).size * n); alignment = (same i).alignment; slots = (same i).slots }
  sized_layout (Struct tag) h = cond-false (bytes_eq newest.tag tag) _ _ (tag_differs tag h)
  sized_layout (Function t ts) h = refl

  pub sized_more : (t : CType) → is_sized older t ≡ true → is_sized (newest ∷ older) t ≡ true
  sized_more Void h = h
  sized_more (Integer t) h = h
  sized_more (Pointer t) h = h
  sized_more (Array t n) h = sized_more t h
  sized_more (Struct tag) h = by (bytes_eq newest.tag tag) (tag_differs tag h)
    where
      by : (b : Bool) → b ≡ false → has_members (cond b (Some newest.members) (members_by_tag older tag)) ≡ true
      by true e = absurd (true≢false e)
      by false e = h
  sized_more (Function t ts) h = h

  pub known_stays : (t : Option CType) → is_known_sized older t ≡ true → known_layout (layouts (newest ∷ older)) t ≡ known_layout (layouts older) t
  known_stays (Some t) h = sized_layout t h
  known_stays None h = refl

  pub front_stays : (members : List MemberDef) (front : Layout) → are_sized older members ≡ true
      → members_layout (layouts (newest ∷ older)) front members ≡ members_layout (layouts older) front members
  front_stays [] front h = refl
  front_stays (member ∷ members) front h =
      let parts = sized_parts (is_known_sized older member.c_type) (are_sized older members) h in
      let same = known_stays member.c_type parts.0 in
      ap (λ l. members_layout (layouts (newest ∷ older)) (behind front l) members) same
      ∙ front_stays members (behind front (member_layout (layouts older) member)) parts.1

  pub are_sized_more : (members : List MemberDef) → are_sized older members ≡ true → are_sized (newest ∷ older) members ≡ true
  are_sized_more [] h = refl
  are_sized_more (member ∷ members) h =
      let parts = sized_parts (is_known_sized older member.c_type) (are_sized older members) h in
      ap (λ b. cond b (are_sized (newest ∷ older) members) false) (known_more member.c_type parts.0) ∙ are_sized_more members parts.1
    where
      known_more : (t : Option CType) → is_known_sized older t ≡ true → is_known_sized (newest ∷ older) t ≡ true
      known_more (Some t) e = sized_more t e
      known_more None e = refl

  -- the parts of a type of known size stay
  pub parts_stay : (t : CType) → is_sized older t ≡ true → (slot : ℕ) (part : CType)
      → parts_in (parts_by_tag (newest ∷ older)) t slot part ≡ parts_in (parts_by_tag older) t slot part
  parts_stay Void h slot part = refl
  parts_stay (Integer t) h slot part = refl
  parts_stay (Pointer t) h slot part = refl
  parts_stay (Array t n) h slot part = ap (λ b. begins (Array t n) slot part || b) (parts_stay t h slot part)
  parts_stay (Struct tag) h slot part =
      ap (λ b. begins (Struct tag) slot part || b) (cond-false (bytes_eq newest.tag tag) (parts_of_members (layouts older) (parts_by_tag older) 0 newest.members slot part) (parts_by_tag older tag slot part) (tag_differs tag h))
  parts_stay (Function t ts) h slot part = refl

  pub member_parts_stay : (members : List MemberDef) → are_sized older members ≡ true → (front slot : ℕ) (part : CType)
      → parts_of_members (layouts (newest ∷ older)) (parts_by_tag (newest ∷ older)) front members slot part ≡ parts_of_members (layouts older) (parts_by_tag older) front members slot part
  member_parts_stay [] h front slot part = refl
  member_parts_stay (member ∷ members) h front slot part =
      let parts = sized_parts (is_known_sized older member.c_type) (are_sized older members) h in
      let same = known_stays member.c_type parts.0 in
      first member.name member.c_type parts.0
      ∙ ap (λ b. parts_of_members (layouts older) (parts_by_tag older) front (member ∷ []) slot part || b)
      (ap (λ (l : Layout). parts_of_members (layouts (newest ∷ older)) (parts_by_tag (newest ∷ older)) (front + l.slots) members slot part) same
      ∙ member_parts_stay members parts.1 (front + (member_layout (layouts older) member).slots) slot part)
      ∙ last member.name member.c_type
    where
      rest : Bool
      rest = parts_of_members (layouts (newest ∷ older)) (parts_by_tag (newest ∷ older)) (front + (member_layout (layouts (newest ∷ older)) member).slots) members slot part

      or_false : (a b : Bool) → (a || b) ≡ ((a || false) || b)
      or_false true b = refl
      or_false false b = refl

      first : (name : List ℕ) (t : Option CType) → is_known_sized older t ≡ true
          → parts_of_members (layouts (newest ∷ older)) (parts_by_tag (newest ∷ older)) front (record { name = name; c_type = t } ∷ members) slot part
          ≡ (parts_of_members (layouts older) (parts_by_tag older) front (record { name = name; c_type = t } ∷ []) slot part
          || parts_of_members (layouts (newest ∷ older)) (parts_by_tag (newest ∷ older)) (front + (known_layout (layouts (newest ∷ older)) t).slots) members slot part)
      first name None h = refl
      first name (Some t) h =
          ap (λ b. cond (nat_lt slot front) false b || parts_of_members (layouts (newest ∷ older)) (parts_by_tag (newest ∷ older)) (front + (known_layout (layouts (newest ∷ older)) (Some t)).slots) members slot part)
          (parts_stay t h (slot - front) part)
          ∙ or_false (parts_from front (parts_in (parts_by_tag older) t) slot part) _

      last : (name : List ℕ) (t : Option CType)
          → (parts_of_members (layouts older) (parts_by_tag older) front (record { name = name; c_type = t } ∷ []) slot part
          || parts_of_members (layouts older) (parts_by_tag older) (front + (known_layout (layouts older) t).slots) members slot part)
          ≡ parts_of_members (layouts older) (parts_by_tag older) front (record { name = name; c_type = t } ∷ members) slot part
      last name None = refl
      last name (Some t) = sym (or_false (parts_from front (parts_in (parts_by_tag older) t) slot part) _)

-- ---- a structure by its tag

pub record Known (structs : List StructDef) (tag : List ℕ) (members : List MemberDef) : Type 0 where
  pub sized : are_sized structs members ≡ true
  pub slots : (layout_by_tag (layouts structs) tag).slots ≡ (members_layout (layouts structs) no_layout members).slots
  pub few : (members_layout (layouts structs) no_layout members).slots < greatest
  pub parts : (slot : ℕ) (part : CType) → parts_by_tag structs tag slot part ≡ parts_of_members (layouts structs) (parts_by_tag structs) 0 members slot part

-- what is known of one that is completed
pub known : (structs : List StructDef) → AreMade structs → (tag : List ℕ) (members : List MemberDef) → members_by_tag structs tag ≡ Some members → Known structs tag members
known [] made tag members e = absurd (none-some members e)
known (newest ∷ older) made tag members e = by (bytes_eq newest.tag tag) refl e (λ others. known older made.1 tag others)
  where
    of_newest : newest.members ≡ members → bytes_eq newest.tag tag ≡ true → Known (newest ∷ older) tag newest.members
    of_newest same is =
        let stays = front_stays newest older made.0.fresh newest.members no_layout made.0.sized in
        record {
          sized = are_sized_more newest older made.0.fresh newest.members made.0.sized;
          slots = ap (λ (l : Layout). l.slots) (cond-true (bytes_eq newest.tag tag) (struct_layout (layouts older) newest.members) (layout_by_tag (layouts older) tag) is ∙ refl) ∙ ap (λ (l : Layout). l.slots) (sym stays);
          few = subst (λ (l : Layout). l.slots < greatest) (sym stays) made.0.few;
          parts = λ slot part.
              cond-true (bytes_eq newest.tag tag) (parts_of_members (layouts older) (parts_by_tag older) 0 newest.members slot part) (parts_by_tag older tag slot part) is
              ∙ sym (member_parts_stay newest older made.0.fresh newest.members made.0.sized 0 slot part);
        }

    of_older : bytes_eq newest.tag tag ≡ false → Known older tag members → Known (newest ∷ older) tag members
    of_older other was =
        let stays = front_stays newest older made.0.fresh members no_layout was.sized in
        record {
          sized = are_sized_more newest older made.0.fresh members was.sized;
          slots = ap (λ (l : Layout). l.slots) (cond-false (bytes_eq newest.tag tag) (struct_layout (layouts older) newest.members) (layout_by_tag (layouts older) tag) other) ∙ was.slots ∙ ap (λ (l : Layout). l.slots) (sym stays);
          few = subst (λ (l : Layout). l.slots < greatest) (sym stays) was.few;
          parts = λ slot part.
              cond-false (bytes_eq newest.tag tag) (parts_of_members (layouts older) (parts_by_tag older) 0 newest.members slot part) (parts_by_tag older tag slot part) other
              ∙ was.parts slot part
              ∙ sym (member_parts_stay newest older made.0.fresh members was.sized 0 slot part);
        }

    by : (b : Bool) → bytes_eq newest.tag tag ≡ b → cond b (Some newest.members) (members_by_tag older tag) ≡ Some members
        → ((others : List MemberDef) → members_by_tag older tag ≡ Some others → Known older tag others) → Known (newest ∷ older) tag members
    by true is e rest = let same = same_Some newest.members members e in subst (λ l. Known (newest ∷ older) tag l) same (of_newest same is)
    by false is e rest = of_older is (rest members e)
