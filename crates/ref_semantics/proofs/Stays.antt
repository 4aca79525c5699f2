-- A structure's layout is that of its members by all structures.
use Rattle.std.proofs.Common.{◌≡◌, ℕ, ◌*◌, ◌&&◌, Bool, true, false, cond, not, List, [], ◌∷◌, Option, Some, None, refl, sym, ap, ◌∙◌}
use Rattle.std.specs.Prelude.{bytes_eq}
use Rattle.std.proofs.lemmas.Bool.{false≢true, true≢false, cond-false, false_from_ne_true, and_parts}
use Rattle.std.proofs.lemmas.Option.{none-some, same_Some}
use Rattle.std.proofs.lemmas.Slice.Eq.{bytes_eq-Decides}
use Rattle.c_typed.specs.Types.{CType, Void, Integer, Pointer, Array, Struct, Function}
use Rattle.c_typed.specs.Layouts.{StructDef, MemberDef, Layout, saturated, aligned, no_layout, layout_by_tag, known_layout, member_layout, behind, members_layout, struct_layout, layouts, layout_of, members_by_tag, has_members}
use Rattle.c_typed.specs.Inside.{is_sized, is_known_sized, are_sized}
use Rattle.c_typed.specs.Programs.{are_structs, are_members}
use Rattle.ref_semantics.specs.Rows.{are_sized_structs}

sized_parts : (a b : Bool) → cond a b false ≡ true → (a ≡ true) × (b ≡ true)
sized_parts true b h = (refl, h)
sized_parts false b h = absurd (false≢true h)

module _ (newest : StructDef) (older : List StructDef) (fresh : has_members (members_by_tag older newest.tag) ≡ false) where
  -- a completed structure has not the newest tag
  tag_differs : (tag : List ℕ) → has_members (members_by_tag older tag) ≡ true → bytes_eq newest.tag tag ≡ false
  tag_differs tag h = false_from_ne_true (bytes_eq newest.tag tag) (λ e.
      let same = (bytes_eq-Decides newest.tag tag).0 e in
      false≢true (sym fresh ∙ ap (λ l. has_members (members_by_tag older l)) same ∙ h))

  sized_layout : (t : CType) → is_sized older t ≡ true → layout_of (newest ∷ older) t ≡ layout_of older t
  sized_layout Void h = refl
  sized_layout (Integer t) h = refl
  sized_layout (Pointer t) h = refl
  sized_layout (Array t n) h = let same = sized_layout t h in λ i. record { size = saturated ((same i).size * n); alignment = (same i).alignment; slots = (same i).slots }
  sized_layout (Struct tag) h = cond-false (bytes_eq newest.tag tag) _ _ (tag_differs tag h)
  sized_layout (Function t ts) h = refl

  sized_more : (t : CType) → is_sized older t ≡ true → is_sized (newest ∷ older) t ≡ true
  sized_more Void h = h
  sized_more (Integer t) h = h
  sized_more (Pointer t) h = h
  sized_more (Array t n) h = sized_more t h
  sized_more (Struct tag) h = by (bytes_eq newest.tag tag) (tag_differs tag h)
    where
      by : (b : Bool) → b ≡ false → has_members (cond b (Some newest.members) (members_by_tag older tag)) ≡ true
      by true e = absurd (true≢false e)
      by false e = h
  sized_more (Function t ts) h = h

  known_stays : (t : Option CType) → is_known_sized older t ≡ true → known_layout (layouts (newest ∷ older)) t ≡ known_layout (layouts older) t
  known_stays (Some t) h = sized_layout t h
  known_stays None h = refl

  front_stays : (members : List MemberDef) (front : Layout) → are_sized older members ≡ true
      → members_layout (layouts (newest ∷ older)) front members ≡ members_layout (layouts older) front members
  front_stays [] front h = refl
  front_stays (member ∷ members) front h =
      let parts = sized_parts (is_known_sized older member.c_type) (are_sized older members) h in
      let same = known_stays member.c_type parts.0 in
      ap (λ l. members_layout (layouts (newest ∷ older)) (behind front l) members) same
      ∙ front_stays members (behind front (member_layout (layouts older) member)) parts.1

  struct_stays : (members : List MemberDef) → are_sized older members ≡ true → struct_layout (layouts older) members ≡ struct_layout (layouts (newest ∷ older)) members
  struct_stays members h = ap (λ (all : Layout). record all { size = saturated (aligned all.alignment all.size) }) (sym (front_stays members no_layout h))

  all_more : (members : List MemberDef) → are_sized older members ≡ true → are_sized (newest ∷ older) members ≡ true
  all_more [] h = refl
  all_more (member ∷ members) h =
      let parts = sized_parts (is_known_sized older member.c_type) (are_sized older members) h in
      ap (λ b. cond b (are_sized (newest ∷ older) members) false) (known_more member.c_type parts.0) ∙ all_more members parts.1
    where
      known_more : (t : Option CType) → is_known_sized older t ≡ true → is_known_sized (newest ∷ older) t ≡ true
      known_more (Some t) e = sized_more t e
      known_more None e = refl

fresh_from : (b : Bool) → not b ≡ true → b ≡ false
fresh_from true h = absurd (false≢true h)
fresh_from false h = refl

-- what is known of a structure by its tag
pub record IsMadeOf (structs : List StructDef) (tag : List ℕ) (members : List MemberDef) : Type 0 where
  pub sized : are_sized structs members ≡ true
  pub layout : layout_by_tag (layouts structs) tag ≡ struct_layout (layouts structs) members

pub made_of : (structs : List StructDef) → are_structs structs ≡ true → are_sized_structs structs ≡ true → (tag : List ℕ) (members : List MemberDef)
    → members_by_tag structs tag ≡ Some members → IsMadeOf structs tag members
made_of [] well sized tag members at = absurd (none-some members at)
made_of (newest ∷ older) well sized tag members at =
    let rest = and_parts (not (has_members (members_by_tag older newest.tag)) && are_members older newest.members) (are_structs older) well in
    let apart = and_parts (not (has_members (members_by_tag older newest.tag))) (are_members older newest.members) rest.0 in
    let own = and_parts (are_sized older newest.members) (are_sized_structs older) sized in
    let fresh = fresh_from (has_members (members_by_tag older newest.tag)) apart.0 in
    let found = by (bytes_eq newest.tag tag) fresh own.0 at (made_of older rest.1 own.1 tag members) in
    record { sized = found.0; layout = found.1 }
  where
    by : (b : Bool) → has_members (members_by_tag older newest.tag) ≡ false → are_sized older newest.members ≡ true
        → cond b (Some newest.members) (members_by_tag older tag) ≡ Some members → (members_by_tag older tag ≡ Some members → IsMadeOf older tag members)
        → (are_sized (newest ∷ older) members ≡ true)
        × (cond b (struct_layout (layouts older) newest.members) (layout_by_tag (layouts older) tag) ≡ struct_layout (layouts (newest ∷ older)) members)
    by true fresh own at older_made =
        let same = same_Some newest.members members at in (
          ap (are_sized (newest ∷ older)) (sym same) ∙ all_more newest older fresh newest.members own,
          struct_stays newest older fresh newest.members own ∙ ap (struct_layout (layouts (newest ∷ older))) same,
        )
    by false fresh own at older_made =
        let made = older_made at in
        (all_more newest older fresh members made.sized, made.layout ∙ struct_stays newest older fresh members made.sized)

-- the layout of a structure is that of its members
pub struct_is : (structs : List StructDef) → are_structs structs ≡ true → are_sized_structs structs ≡ true → (tag : List ℕ) (members : List MemberDef)
    → members_by_tag structs tag ≡ Some members → layout_of structs (Struct tag) ≡ struct_layout (layouts structs) members
struct_is structs well sized tag members at = (made_of structs well sized tag members at).layout
