-- Types whose sizes are known have slots, and structures of a well typed program are made of older ones.
use Rattle.std.proofs.Common.{◌≡◌, ℕ, ◌+◌, ◌<◌, ◌≤◌, Bool, true, false, not, cond, List, [], ◌∷◌, length, Option, Some, None, refl, ap, subst, ◌∙◌, arith}
use Rattle.std.specs.Prelude.{bytes_eq, nat_lt, ◌&&◌, ◌||◌}
use Rattle.std.specs.List.{AllByRecursion}
use Rattle.std.proofs.lemmas.Bool.{false≢true, and_parts, cond-true}
use Rattle.std.proofs.lemmas.Slice.Eq.{bytes_eq-Decides}
use Rattle.c_typed.specs.Types.{CType, Void, Integer, Pointer, Array, Struct, Function}
use Rattle.c_typed.specs.Layouts.{StructDef, MemberDef, Layout, greatest, saturated, no_layout, layout_of, layout_by_tag, known_layout, member_layout, behind, members_layout, struct_layout, layouts, members_by_tag, has_members, is_complete}
use Rattle.c_typed.specs.Inside.{is_sized, are_sized}
use Rattle.c_typed.specs.Programs.{are_members, are_structs}
use Rattle.c_typed.specs.Sizes.{is_filled, is_known_filled, all_filled, has_some, are_filled, fills}
use Rattle.heap_graph.specs.Parts.{slots_of}
use Rattle.heap_graph.specs.Structures.{AreMade}
use Rattle.heap_graph.proofs.Older.{sized_layout}
use Rattle.dsa_bottom_up.specs.Counted.{HaveFewSlots}

-- ---- types whose sizes are known have slots

filled_sized : (structs : List StructDef) (t : CType) → is_filled structs t ≡ true → is_sized structs t ≡ true
filled_sized structs Void h = h
filled_sized structs (Integer t) h = h
filled_sized structs (Pointer t) h = h
filled_sized structs (Array t n) h = filled_sized structs t (and_parts (nat_lt 0 n) (is_filled structs t) h).1
filled_sized structs (Struct tag) h = h
filled_sized structs (Function t ts) h = h

in_tags : (structs : List StructDef) → ((tag : List ℕ) → is_complete structs (Struct tag) ≡ true → 0 < slots_of structs (Struct tag)) → (t : CType) → is_sized structs t ≡ true → 0 < slots_of structs t
in_tags structs tags Void h = absurd (false≢true h)
in_tags structs tags (Integer t) h = omega arith
in_tags structs tags (Pointer t) h = omega arith
in_tags structs tags (Array t n) h = in_tags structs tags t h
in_tags structs tags (Struct tag) h = tags tag h
in_tags structs tags (Function t ts) h = absurd (false≢true h)

-- each member has a slot
more_slots : (older : List StructDef) → ((tag : List ℕ) → is_complete older (Struct tag) ≡ true → 0 < slots_of older (Struct tag)) → (front : Layout) (members : List MemberDef) → all_filled older members ≡ true
    → saturated (front.slots + length members) ≤ (members_layout (layouts older) front members).slots
more_slots older tags front [] filled = omega arith
more_slots older tags front (member ∷ members) filled =
    let parts = and_parts (is_known_filled older member.c_type) (all_filled older members) filled in
    let first = of_member member.c_type parts.0 in
    let rest : saturated (saturated (front.slots + (member_layout (layouts older) member).slots) + length members) ≤ (members_layout (layouts older) front (member ∷ members)).slots =
    more_slots older tags (behind front (member_layout (layouts older) member)) members parts.1 in
    omega (arith, first, rest)
  where
    of_member : (t : Option CType) → is_known_filled older t ≡ true → 0 < (known_layout (layouts older) t).slots
    of_member None h = absurd (false≢true h)
    of_member (Some t) h = in_tags older tags t (filled_sized older t h)

some_members : (members : List MemberDef) → has_some members ≡ true → 0 < length members
some_members [] some = absurd (false≢true some)
some_members (member ∷ members) some = omega arith

tag_has_slots : (structs : List StructDef) → are_filled structs ≡ true → (tag : List ℕ) → is_complete structs (Struct tag) ≡ true → 0 < slots_of structs (Struct tag)
tag_has_slots [] filled tag h = absurd (false≢true h)
tag_has_slots (newest ∷ older) filled tag h =
    let both = and_parts (has_some newest.members && all_filled older newest.members) (are_filled older) filled in
    let own = and_parts (has_some newest.members) (all_filled older newest.members) both.0 in
    let more = more_slots older (tag_has_slots older both.1) no_layout newest.members own.1 in
    let some = some_members newest.members own.0 in
    by (bytes_eq newest.tag tag) h (tag_has_slots older both.1 tag) (omega (arith, more, some))
  where
    by : (b : Bool) → has_members (cond b (Some newest.members) (members_by_tag older tag)) ≡ true → (has_members (members_by_tag older tag) ≡ true → 0 < (layout_by_tag (layouts older) tag).slots)
        → 0 < (members_layout (layouts older) no_layout newest.members).slots → 0 < (cond b (struct_layout (layouts older) newest.members) (layout_by_tag (layouts older) tag)).slots
    by true e deeper some = some
    by false e deeper some = deeper e

pub sized_has_slots : (structs : List StructDef) → are_filled structs ≡ true → (t : CType) → is_sized structs t ≡ true → 0 < slots_of structs t
sized_has_slots structs filled t h = in_tags structs (tag_has_slots structs filled) t h

-- a type that objects get, where its size is known
pub filling_slots : (structs : List StructDef) → are_filled structs ≡ true → (t : CType) → fills structs t ≡ true → is_complete structs t ≡ true → 0 < slots_of structs t
filling_slots structs filled t fill complete = by (is_complete structs t) complete fill
  where
    by : (b : Bool) → b ≡ true → (not b || is_filled structs t) ≡ true → 0 < slots_of structs t
    by true e h = sized_has_slots structs filled t (filled_sized structs t h)
    by false e h = absurd (false≢true e)

-- ---- structures

members_sized : (older : List StructDef) (members : List MemberDef) → are_members older members ≡ true → are_sized older members ≡ true
members_sized older [] h = refl
members_sized older (first ∷ others) h = by first.name first.c_type h (members_sized older others)
  where
    by : (name : List ℕ) (t : Option CType) → are_members older (record { name = name; c_type = t } ∷ others) ≡ true → (are_members older others ≡ true → are_sized older others ≡ true)
        → are_sized older (record { name = name; c_type = t } ∷ others) ≡ true
    by name (Some t) e rest = let parts = and_parts (is_sized older t) (are_members older others) e in ap (λ b. cond b (are_sized older others) false) parts.0 ∙ rest parts.1
    by name None e rest = absurd (false≢true e)

none_there : (o : Option (List MemberDef)) → not (has_members o) ≡ true → o ≡ None
none_there None h = refl
none_there (Some members) h = absurd (false≢true h)

own_tag : (newest : StructDef) (older : List StructDef) → layout_by_tag (layouts (newest ∷ older)) newest.tag ≡ struct_layout (layouts older) newest.members
own_tag newest older = cond-true (bytes_eq newest.tag newest.tag) _ _ ((bytes_eq-Decides newest.tag newest.tag).1 refl)

-- structures that are completed stay so
abbrev AllThere : List StructDef → List StructDef → Type 0
AllThere structs some = AllByRecursion (λ (one : StructDef). is_complete structs (Struct one.tag) ≡ true) some

more_there : (newest : StructDef) (older some : List StructDef) → AllThere older some → AllThere (newest ∷ older) some
more_there newest older [] all = tt
more_there newest older (first ∷ others) all = (by (bytes_eq newest.tag first.tag), more_there newest older others all.1)
  where
    by : (b : Bool) → has_members (cond b (Some newest.members) (members_by_tag older first.tag)) ≡ true
    by true = refl
    by false = all.0

all_there : (structs : List StructDef) → AllThere structs structs
all_there [] = tt
all_there (newest ∷ older) =
    (ap has_members (cond-true (bytes_eq newest.tag newest.tag) (Some newest.members) (members_by_tag older newest.tag) ((bytes_eq-Decides newest.tag newest.tag).1 refl)), more_there newest older older (all_there older))

-- slots of older structures stay as they are
few_older : (newest : StructDef) (older : List StructDef) → members_by_tag older newest.tag ≡ None → (some : List StructDef) → AllThere older some
    → AllByRecursion (λ (one : StructDef). (layout_of (newest ∷ older) (Struct one.tag)).slots < greatest) some → AllByRecursion (λ (one : StructDef). (layout_of older (Struct one.tag)).slots < greatest) some
few_older newest older fresh [] there few = tt
few_older newest older fresh (first ∷ others) there few =
    (subst (λ (l : Layout). l.slots < greatest) (sized_layout newest older fresh (Struct first.tag) there.0) few.0, few_older newest older fresh others there.1 few.1)

pub are_made : (structs : List StructDef) → are_structs structs ≡ true → are_filled structs ≡ true → HaveFewSlots structs → AreMade structs
are_made [] well filled few = tt
are_made (newest ∷ older) well filled few =
    let typed = and_parts (not (has_members (members_by_tag older newest.tag)) && are_members older newest.members) (are_structs older) well in
    let own = and_parts (not (has_members (members_by_tag older newest.tag))) (are_members older newest.members) typed.0 in
    let full = and_parts (has_some newest.members && all_filled older newest.members) (are_filled older) filled in
    let fresh = none_there (members_by_tag older newest.tag) own.0 in
    let slots : (struct_layout (layouts older) newest.members).slots < greatest = subst (λ (l : Layout). l.slots < greatest) (own_tag newest older) few.0 in
    let more = more_slots older (tag_has_slots older full.1) no_layout newest.members (and_parts (has_some newest.members) (all_filled older newest.members) full.0).1 in (
      record { fresh = fresh; sized = members_sized older newest.members own.1; few = slots; countable = omega (arith, slots, more) },
      are_made older typed.1 full.1 (few_older newest older fresh older (all_there older) few.1),
    )
