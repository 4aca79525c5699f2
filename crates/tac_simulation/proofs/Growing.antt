-- What older structures tell of scalars stays when one more structure is there.
use Rattle.std.proofs.Common.{◌≡◌, ℕ, zero, suc, ◌+◌, ◌*◌, ◌&&◌, Bool, true, false, cond, not, List, [], ◌∷◌, take, slice_get, Option, Some, None, refl, sym, ap, subst, ◌∙◌}
use Rattle.std.specs.Prelude.{bytes_eq}
use Rattle.std.proofs.lemmas.Bool.{false≢true, cond-false, false_from_ne_true, and_parts}
use Rattle.std.proofs.lemmas.Option.{none-some, same_Some}
use Rattle.std.proofs.lemmas.Slice.Eq.{bytes_eq-Decides}
use Rattle.c_typed.specs.Types.{CType, Void, Integer, Pointer, Array, Struct, Function}
use Rattle.c_typed.specs.Layouts.{StructDef, MemberDef, Layout, saturated, aligned, no_layout, known_layout, member_layout, behind, members_layout, layouts, layout_of, members_by_tag, has_members, offset_before}
use Rattle.c_typed.specs.Inside.{is_sized, is_known_sized, are_sized}
use Rattle.c_typed.specs.Programs.{are_structs, are_members}
use Rattle.ref_semantics.specs.Rows.{are_sized_structs}
use Rattle.ref_semantics.proofs.Stays.{made_of}
use Rattle.ref_semantics.proofs.Inward.{Within, Itself, InElement, InMember}
use Rattle.tac_ir.specs.Layouts.{in_elements, leaves_in, leaves_from, first_leaf, leaves_of_members, leaves_by_tag}

pub sized_parts : (a b : Bool) → cond a b false ≡ true → (a ≡ true) × (b ≡ true)
sized_parts true b h = (refl, h)
sized_parts false b h = absurd (false≢true h)

pub sized_member : (structs : List StructDef) (members : List MemberDef) (number : ℕ) (member : MemberDef) → are_sized structs members ≡ true → slice_get members number ≡ Some member
    → is_known_sized structs member.c_type ≡ true
sized_member structs [] number member h there = absurd (none-some member there)
sized_member structs (first ∷ others) zero member h there =
    subst (λ (m : MemberDef). is_known_sized structs m.c_type ≡ true) (same_Some first member there) (sized_parts (is_known_sized structs first.c_type) (are_sized structs others) h).0
sized_member structs (first ∷ others) (suc number) member h there =
    sized_member structs others number member (sized_parts (is_known_sized structs first.c_type) (are_sized structs others) h).1 there

-- a structure that holds a scalar is complete
pub struct_sized : (structs : List StructDef) (tag : List ℕ) (offset : ℕ) (own : CType) → Within structs (Struct tag) offset own → is_sized structs (Struct tag) ≡ true
struct_sized structs tag _ own (Itself _ h) = absurd (false≢true h)
struct_sized structs tag _ own (InMember _ members number member t inner _ at there typed within) = ap has_members at

-- what a well formed list of structures says of its newest
pub record IsNewest (newest : StructDef) (older : List StructDef) : Type 0 where
  pub fresh : has_members (members_by_tag older newest.tag) ≡ false
  pub members : are_sized older newest.members ≡ true
  pub well : are_structs older ≡ true
  pub sized : are_sized_structs older ≡ true

pub is_newest : (newest : StructDef) (older : List StructDef) → are_structs (newest ∷ older) ≡ true → are_sized_structs (newest ∷ older) ≡ true → IsNewest newest older
is_newest newest older well sized =
    let rest = and_parts (not (has_members (members_by_tag older newest.tag)) && are_members older newest.members) (are_structs older) well in
    let apart = and_parts (not (has_members (members_by_tag older newest.tag))) (are_members older newest.members) rest.0 in
    let own = and_parts (are_sized older newest.members) (are_sized_structs older) sized in
    record { fresh = fresh_from (has_members (members_by_tag older newest.tag)) apart.0; members = own.0; well = rest.1; sized = own.1 }
  where
    fresh_from : (b : Bool) → not b ≡ true → b ≡ false
    fresh_from true h = absurd (false≢true h)
    fresh_from false h = refl

module _ (newest : StructDef) (older : List StructDef) (fresh : has_members (members_by_tag older newest.tag) ≡ false) where
  -- a completed structure has not the newest tag
  pub tag_differs : (tag : List ℕ) → has_members (members_by_tag older tag) ≡ true → bytes_eq newest.tag tag ≡ false
  tag_differs tag h = false_from_ne_true (bytes_eq newest.tag tag) (λ e.
      let same = (bytes_eq-Decides newest.tag tag).0 e in
      false≢true (sym fresh ∙ ap (λ l. has_members (members_by_tag older l)) same ∙ h))

  pub sized_layout : (t : CType) → is_sized older t ≡ true → layout_of (newest ∷ older) t ≡ layout_of older t
  sized_layout Void h = refl
  sized_layout (Integer t) h = refl
  sized_layout (Pointer t) h = refl
  sized_layout (Array t n) h = let same = sized_layout t h in λ i. record { size = saturated ((same i).size * n); alignment = (same i).alignment; slots = (same i).slots }
  sized_layout (Struct tag) h = cond-false (bytes_eq newest.tag tag) _ _ (tag_differs tag h)
  sized_layout (Function t ts) h = refl

  known_stays : (t : Option CType) → is_known_sized older t ≡ true → known_layout (layouts (newest ∷ older)) t ≡ known_layout (layouts older) t
  known_stays (Some t) h = sized_layout t h
  known_stays None h = refl

  front_stays : (members : List MemberDef) (front : Layout) → are_sized older members ≡ true
      → members_layout (layouts (newest ∷ older)) front members ≡ members_layout (layouts older) front members
  front_stays [] front h = refl
  front_stays (member ∷ members) front h =
      let parts = sized_parts (is_known_sized older member.c_type) (are_sized older members) h in
      let same = known_stays member.c_type parts.0 in
      ap (λ l. members_layout (layouts (newest ∷ older)) (behind front l) members) same
      ∙ front_stays members (behind front (member_layout (layouts older) member)) parts.1

  sized_front : (number : ℕ) (members : List MemberDef) → are_sized older members ≡ true → are_sized older (take number members) ≡ true
  sized_front zero members h = refl
  sized_front (suc number) [] h = refl
  sized_front (suc number) (member ∷ members) h =
      let parts = sized_parts (is_known_sized older member.c_type) (are_sized older members) h in
      ap (λ b. cond b (are_sized older (take number members)) false) parts.0 ∙ sized_front number members parts.1

  pub offset_stays : (members : List MemberDef) (number : ℕ) (member : MemberDef) → are_sized older members ≡ true → slice_get members number ≡ Some member
      → offset_before (layouts older) members number (Some member) ≡ offset_before (layouts (newest ∷ older)) members number (Some member)
  offset_stays members number member h there =
      let own = known_stays member.c_type (sized_member older members number member h there) in
      let front = front_stays (take number members) no_layout (sized_front number members h) in
      sym (λ i. saturated (aligned (own i).alignment (front i).size))

  -- ---- scalars

  leaves_stay : (t : CType) → is_sized older t ≡ true → (offset : ℕ) → leaves_in (layouts (newest ∷ older)) (leaves_by_tag (newest ∷ older)) t offset ≡ leaves_in (layouts older) (leaves_by_tag older) t offset
  leaves_stay Void h offset = refl
  leaves_stay (Integer t) h offset = refl
  leaves_stay (Pointer t) h offset = refl
  leaves_stay (Array t n) h offset =
      let same = sized_layout t h in
      let inner : leaves_in (layouts (newest ∷ older)) (leaves_by_tag (newest ∷ older)) t ≡ leaves_in (layouts older) (leaves_by_tag older) t = λ i. λ k. leaves_stay t h k i in
      λ i. in_elements (same i).size n (inner i) offset
  leaves_stay (Struct tag) h offset = cond-false (bytes_eq newest.tag tag) _ _ (tag_differs tag h)
  leaves_stay (Function t ts) h offset = refl

  members_leaves_stay : (front : Layout) (members : List MemberDef) → are_sized older members ≡ true → (offset : ℕ)
      → leaves_of_members (layouts (newest ∷ older)) (leaves_by_tag (newest ∷ older)) front members offset ≡ leaves_of_members (layouts older) (leaves_by_tag older) front members offset
  members_leaves_stay front [] h offset = refl
  members_leaves_stay front (member ∷ members) h offset =
      let parts = sized_parts (is_known_sized older member.c_type) (are_sized older members) h in
      by member.c_type parts.0 (members_leaves_stay (behind front (member_layout (layouts older) member)) members parts.1 offset)
    where
      by : (known : Option CType) → is_known_sized older known ≡ true
          → leaves_of_members (layouts (newest ∷ older)) (leaves_by_tag (newest ∷ older)) (behind front (known_layout (layouts older) known)) members offset
          ≡ leaves_of_members (layouts older) (leaves_by_tag older) (behind front (known_layout (layouts older) known)) members offset
          → leaves_of_members (layouts (newest ∷ older)) (leaves_by_tag (newest ∷ older)) front (record { name = member.name; c_type = known } ∷ members) offset
          ≡ leaves_of_members (layouts older) (leaves_by_tag older) front (record { name = member.name; c_type = known } ∷ members) offset
      by None h rest = rest
      by (Some t) h rest =
          let own = sized_layout t h in
          let inner : leaves_in (layouts (newest ∷ older)) (leaves_by_tag (newest ∷ older)) t ≡ leaves_in (layouts older) (leaves_by_tag older) t = λ i. λ k. leaves_stay t h k i in
          let others = ap (λ l. leaves_of_members (layouts (newest ∷ older)) (leaves_by_tag (newest ∷ older)) (behind front l) members offset) own ∙ rest in
          λ i. first_leaf (leaves_from (saturated (aligned (own i).alignment front.size)) (inner i) offset) (others i)

  -- ---- scalars of an object of a type

  members_stay : (tag : List ℕ) (members : List MemberDef) → members_by_tag older tag ≡ Some members → members_by_tag (newest ∷ older) tag ≡ Some members
  members_stay tag members at = cond-false (bytes_eq newest.tag tag) (Some newest.members) (members_by_tag older tag) (tag_differs tag (ap has_members at)) ∙ at

  module _ (well : are_structs older ≡ true) (sized : are_sized_structs older ≡ true) where
    pub within_stays : (t : CType) (offset : ℕ) (own : CType) → Within older t offset own → is_sized older t ≡ true → Within (newest ∷ older) t offset own
    within_stays t _ own (Itself _ h) s = Itself own h
    within_stays _ _ own (InElement element n index inner _ lt within) s =
        let size = ap (λ (l : Layout). l.size) (sized_layout element s) in
        subst (λ k. Within (newest ∷ older) (Array element n) (index * k + inner) own) size (InElement element n index inner own lt (within_stays element inner own within s))
    within_stays _ _ own (InMember tag members number member t inner _ at there typed within) s =
        let made = made_of older well sized tag members at in
        let member_sized = subst (λ known. is_known_sized older known ≡ true) typed (sized_member older members number member made.sized there) in
        subst (λ k. Within (newest ∷ older) (Struct tag) (k + inner) own) (sym (offset_stays members number member made.sized there))
        (InMember tag members number member t inner own (members_stay tag members at) there typed (within_stays t inner own within member_sized))

-- the scalars of a structure are those of its members
pub tag_leaves : (structs : List StructDef) → are_structs structs ≡ true → are_sized_structs structs ≡ true → (tag : List ℕ) (members : List MemberDef) → members_by_tag structs tag ≡ Some members → (offset : ℕ)
    → leaves_by_tag structs tag offset ≡ leaves_of_members (layouts structs) (leaves_by_tag structs) no_layout members offset
tag_leaves [] well sized tag members at offset = absurd (none-some members at)
tag_leaves (newest ∷ older) well sized tag members at offset =
    let it = is_newest newest older well sized in
    by it.fresh it.members it.well it.sized (bytes_eq newest.tag tag) at (tag_leaves older it.well it.sized tag members)
  where
    by : has_members (members_by_tag older newest.tag) ≡ false → are_sized older newest.members ≡ true → are_structs older ≡ true → are_sized_structs older ≡ true
        → (b : Bool) → cond b (Some newest.members) (members_by_tag older tag) ≡ Some members
        → (members_by_tag older tag ≡ Some members → (k : ℕ) → leaves_by_tag older tag k ≡ leaves_of_members (layouts older) (leaves_by_tag older) no_layout members k)
        → cond b (leaves_of_members (layouts older) (leaves_by_tag older) no_layout newest.members offset) (leaves_by_tag older tag offset)
        ≡ leaves_of_members (layouts (newest ∷ older)) (leaves_by_tag (newest ∷ older)) no_layout members offset
    by fresh own older_well older_sized true at rest =
        let same = same_Some newest.members members at in
        sym (members_leaves_stay newest older fresh no_layout newest.members own offset)
        ∙ ap (λ ms. leaves_of_members (layouts (newest ∷ older)) (leaves_by_tag (newest ∷ older)) no_layout ms offset) same
    by fresh own older_well older_sized false at rest =
        let made = made_of older older_well older_sized tag members at in
        rest at offset ∙ sym (members_leaves_stay newest older fresh no_layout members made.sized offset)
