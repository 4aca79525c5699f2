-- Types whose sizes are known have slots, where structures have members; so what has none is an array of what has no size.
use Rattle.std.proofs.Common.{◌≡◌, ℕ, ◌+◌, ◌<◌, Bool, true, false, cond, List, [], ◌∷◌, Option, Some, None, refl, sym, ap, subst, ◌∙◌, arith, inl, inr}
use Rattle.std.specs.Prelude.{bytes_eq, nat_lt, ◌&&◌}
use Rattle.std.proofs.lemmas.Bool.{false≢true, true≢false, false_from_ne_true, and_parts}
use Rattle.c_typed.specs.Types.{CType, Void, Integer, Pointer, Array, Struct, Function}
use Rattle.c_typed.specs.Layouts.{StructDef, MemberDef, Layout, Table, no_layout, layout_by_tag, known_layout, member_layout, behind, members_layout, struct_layout, layouts, members_by_tag, has_members, is_complete}
use Rattle.c_typed.specs.Inside.{is_sized, is_known_sized, are_sized}
use Rattle.c_typed.specs.Sizes.{is_filled, is_known_filled, all_filled, has_some, are_filled}
use Rattle.heap_graph.specs.Structures.{AreMade}
use Rattle.heap_graph.specs.Parts.{MemberIn, graph_type, alike, slots_of, has_part}
use Rattle.heap_graph.specs.Targets.{is_array}
use Rattle.heap_graph.proofs.Older.{sized_parts, known}
use Rattle.heap_graph.proofs.PartsNest.{PartOf, Itself, InElement, InMember, alike_same, alike_slots, tested}

-- ---- types whose sizes are known have slots

filled_sized : (structs : List StructDef) (t : CType) → is_filled structs t ≡ true → is_sized structs t ≡ true
filled_sized structs Void h = h
filled_sized structs (Integer t) h = h
filled_sized structs (Pointer t) h = h
filled_sized structs (Array t n) h = filled_sized structs t (and_parts (nat_lt 0 n) (is_filled structs t) h).1
filled_sized structs (Struct tag) h = h
filled_sized structs (Function t ts) h = h

in_tags : (structs : List StructDef) → ((tag : List ℕ) → is_complete structs (Struct tag) ≡ true → 0 < slots_of structs (Struct tag)) → (t : CType) → is_sized structs t ≡ true → 0 < slots_of structs t
in_tags structs tags Void h = absurd (false≢true h)
in_tags structs tags (Integer t) h = omega arith
in_tags structs tags (Pointer t) h = omega arith
in_tags structs tags (Array t n) h = in_tags structs tags t h
in_tags structs tags (Struct tag) h = tags tag h
in_tags structs tags (Function t ts) h = absurd (false≢true h)

-- slots stay as members are laid behind others
slots_stay : (table : Table) (front : Layout) (members : List MemberDef) → 0 < front.slots → 0 < (members_layout table front members).slots
slots_stay table front [] h = h
slots_stay table front (member ∷ members) h = slots_stay table (behind front (member_layout table member)) members (omega arith)

members_have_slots : (older : List StructDef) → ((tag : List ℕ) → is_complete older (Struct tag) ≡ true → 0 < slots_of older (Struct tag)) → (members : List MemberDef)
    → has_some members ≡ true → all_filled older members ≡ true → 0 < (members_layout (layouts older) no_layout members).slots
members_have_slots older tags [] some filled = absurd (false≢true some)
members_have_slots older tags (member ∷ members) some filled =
    let first = of_member member.c_type (and_parts (is_known_filled older member.c_type) (all_filled older members) filled).0 in
    slots_stay (layouts older) (behind no_layout (member_layout (layouts older) member)) members (omega (arith, first))
  where
    of_member : (t : Option CType) → is_known_filled older t ≡ true → 0 < (known_layout (layouts older) t).slots
    of_member None h = absurd (false≢true h)
    of_member (Some t) h = in_tags older tags t (filled_sized older t h)

tag_has_slots : (structs : List StructDef) → are_filled structs ≡ true → (tag : List ℕ) → is_complete structs (Struct tag) ≡ true → 0 < slots_of structs (Struct tag)
tag_has_slots [] filled tag h = absurd (false≢true h)
tag_has_slots (newest ∷ older) filled tag h =
    let both = and_parts (has_some newest.members && all_filled older newest.members) (are_filled older) filled in
    let own = and_parts (has_some newest.members) (all_filled older newest.members) both.0 in
    by (bytes_eq newest.tag tag) h (tag_has_slots older both.1 tag) (members_have_slots older (tag_has_slots older both.1) newest.members own.0 own.1)
  where
    by : (b : Bool) → has_members (cond b (Some newest.members) (members_by_tag older tag)) ≡ true → (has_members (members_by_tag older tag) ≡ true → 0 < (layout_by_tag (layouts older) tag).slots)
        → 0 < (members_layout (layouts older) no_layout newest.members).slots → 0 < (cond b (struct_layout (layouts older) newest.members) (layout_by_tag (layouts older) tag)).slots
    by true e deeper some = some
    by false e deeper some = deeper e

pub sized_has_slots : (structs : List StructDef) → are_filled structs ≡ true → (t : CType) → is_sized structs t ≡ true → 0 < slots_of structs t
sized_has_slots structs filled t h = in_tags structs (tag_has_slots structs filled) t h

-- a complete type that is no array has slots; an array has those of its elements
pub complete_has_slots : (structs : List StructDef) → are_filled structs ≡ true → (t : CType) → is_array t ≡ false → is_complete structs t ≡ true → 0 < slots_of structs t
complete_has_slots structs filled Void plain h = absurd (false≢true h)
complete_has_slots structs filled (Integer t) plain h = omega arith
complete_has_slots structs filled (Pointer t) plain h = omega arith
complete_has_slots structs filled (Array t n) plain h = absurd (true≢false plain)
complete_has_slots structs filled (Struct tag) plain h = tag_has_slots structs filled tag h
complete_has_slots structs filled (Function t ts) plain h = absurd (false≢true h)

pub slotless_array : (structs : List StructDef) → are_filled structs ≡ true → (t : CType) → is_complete structs t ≡ true → slots_of structs t ≡ 0 → is_array t ≡ true
slotless_array structs filled t h none = by (is_array t) refl
  where
    by : (b : Bool) → is_array t ≡ b → is_array t ≡ true
    by true is = is
    by false is = let some = complete_has_slots structs filled t is h in absurd (omega (arith, some, none))

-- ---- an array without slots is a part of arrays alone

member_sized : (structs : List StructDef) (table : Table) (members : List MemberDef) (front at : ℕ) (t : CType) → are_sized structs members ≡ true → MemberIn table front members at t → is_sized structs t ≡ true
member_sized structs table [] front at t sized h = absurd h
member_sized structs table (member ∷ members) front at t sized (inl here) =
    let parts = sized_parts (is_known_sized structs member.c_type) (are_sized structs members) sized in
    ap (is_known_sized structs) (sym here.0) ∙ parts.0
member_sized structs table (member ∷ members) front at t sized (inr later) =
    let parts = sized_parts (is_known_sized structs member.c_type) (are_sized structs members) sized in
    member_sized structs table members (front + (member_layout table member).slots) at t parts.1 later

graph_array : (t : CType) → is_array (graph_type t) ≡ is_array t
graph_array Void = refl
graph_array (Integer t) = refl
graph_array (Pointer Void) = refl
graph_array (Pointer (Integer t)) = refl
graph_array (Pointer (Pointer t)) = refl
graph_array (Pointer (Array t n)) = refl
graph_array (Pointer (Struct tag)) = refl
graph_array (Pointer (Function t ts)) = refl
graph_array (Array t n) = refl
graph_array (Struct tag) = refl
graph_array (Function t ts) = refl

both_arrays : (a b : CType) → alike a b ≡ true → is_array a ≡ is_array b
both_arrays a b h = sym (graph_array a) ∙ ap is_array (alike_same a b h) ∙ graph_array b

apart : (a b : CType) → is_array a ≡ false → is_array b ≡ true → alike a b ≡ false
apart a b other array = false_from_ne_true (alike a b) (λ e. false≢true (sym other ∙ both_arrays a b e ∙ array))

module _ (structs : List StructDef) (made : AreMade structs) (filled : are_filled structs ≡ true) where
  -- a part of a type whose size is known has slots
  part_has_slots : (own : CType) (slot : ℕ) (part : CType) → PartOf structs own slot part → is_sized structs own ≡ true → 0 < slots_of structs part
  part_has_slots own slot part (Itself _ _ _ first same) h = subst (λ n. 0 < n) (alike_slots structs own part same) (sized_has_slots structs filled own h)
  part_has_slots own slot part (InElement _ element length _ _ is inside) h = part_has_slots element slot part inside (ap (is_sized structs) (sym is) ∙ h)
  part_has_slots own slot part (InMember _ tag members at t inner _ _ is has member sum inside) h =
      part_has_slots t inner part inside (member_sized structs (layouts structs) members 0 at t (known structs made tag members has).sized member)

  in_struct : (own : CType) (slot : ℕ) (part : CType) → PartOf structs own slot part → is_array own ≡ false → is_array part ≡ true → 0 < slots_of structs part
  in_struct own slot part (Itself _ _ _ first same) plain array = absurd (false≢true (sym plain ∙ both_arrays own part same ∙ array))
  in_struct own slot part (InElement _ element length _ _ is inside) plain array = absurd (true≢false (sym (ap is_array is) ∙ plain))
  in_struct own slot part (InMember _ tag members at t inner _ _ is has member sum inside) plain array =
      part_has_slots t inner part inside (member_sized structs (layouts structs) members 0 at t (known structs made tag members has).sized member)

  pub not_in_others : (own : CType) (slot : ℕ) (part : CType) → is_array part ≡ true → slots_of structs part ≡ 0 → is_array own ≡ false → has_part structs own slot part ≡ false
  not_in_others own slot part array none plain =
      false_from_ne_true (has_part structs own slot part) (λ e. let some = in_struct own slot part (tested structs made own slot part e) plain array in omega (arith, some, none))
