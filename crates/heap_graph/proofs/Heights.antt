-- How deep types are made of others.
use Rattle.std.proofs.Common.{◌≡◌, ℕ, suc, ◌+◌, ◌<◌, ◌≤◌, Bool, true, false, cond, List, [], ◌∷◌, Option, Some, None, refl, sym, ap, subst, ◌∙◌, inl, inr, arith}
use Rattle.std.specs.Prelude.{bytes_eq}
use Rattle.std.proofs.lemmas.Bool.{false≢true}
use Rattle.std.proofs.lemmas.Option.{none-some, same_Some}
use Rattle.c_typed.specs.Types.{CType, Void, Integer, Pointer, Array, Struct, Function}
use Rattle.c_typed.specs.Layouts.{StructDef, MemberDef, Table, member_layout, members_by_tag, has_members}
use Rattle.c_typed.specs.Inside.{is_sized, is_known_sized, are_sized}
use Rattle.heap_graph.specs.Structures.{AreMade}
use Rattle.heap_graph.proofs.Older.{sized_parts, tag_not_newest, known}
use Rattle.heap_graph.specs.Parts.{MemberIn}
use Rattle.heap_graph.specs.Height.{height_in, known_height, all_heights, heights, height}

-- a member's type is sized
member_sized : (structs : List StructDef) (table : Table) (members : List MemberDef) (front at : ℕ) (t : CType) → are_sized structs members ≡ true → MemberIn table front members at t → is_sized structs t ≡ true
member_sized structs table [] front at t sized h = absurd h
member_sized structs table (member ∷ members) front at t sized (inl here) =
    let parts = sized_parts (is_known_sized structs member.c_type) (are_sized structs members) sized in
    ap (is_known_sized structs) (sym here.0) ∙ parts.0
member_sized structs table (member ∷ members) front at t sized (inr later) =
    let parts = sized_parts (is_known_sized structs member.c_type) (are_sized structs members) sized in
    member_sized structs table members (front + (member_layout table member).slots) at t parts.1 later

-- a sized type keeps its height
height_stays : (newest : StructDef) (older : List StructDef) → members_by_tag older newest.tag ≡ None → (t : CType) → is_sized older t ≡ true → height (newest ∷ older) t ≡ height older t
height_stays newest older fresh Void sized = refl
height_stays newest older fresh (Integer t) sized = refl
height_stays newest older fresh (Pointer t) sized = refl
height_stays newest older fresh (Function t ts) sized = refl
height_stays newest older fresh (Array element length) sized = ap suc (height_stays newest older fresh element sized)
height_stays newest older fresh (Struct tag) sized = by (members_by_tag older tag) refl sized
  where
    by : (m : Option (List MemberDef)) → members_by_tag older tag ≡ m → has_members m ≡ true → heights (newest ∷ older) tag ≡ heights older tag
    by None e h = absurd (false≢true h)
    by (Some members) e h =
        ap (λ b. cond b (suc (all_heights (heights older) newest.members)) (heights older tag)) (tag_not_newest newest older fresh tag members e)

-- a member's height is among them all
height_among : (by_tag : List ℕ → ℕ) (table : Table) (members : List MemberDef) (front at : ℕ) (t : CType) → MemberIn table front members at t → height_in by_tag t ≤ all_heights by_tag members
height_among by_tag table [] front at t h = absurd h
height_among by_tag table (member ∷ members) front at t (inl here) = let e = ap (known_height by_tag) here.0 in omega (arith, e)
height_among by_tag table (member ∷ members) front at t (inr later) = let rest = height_among by_tag table members (front + (member_layout table member).slots) at t later in omega (arith, rest)

-- a structure is higher than its members
pub member_lower : (structs : List StructDef) → AreMade structs → (tag : List ℕ) (members : List MemberDef) → members_by_tag structs tag ≡ Some members
    → (table : Table) (front at : ℕ) (t : CType) → MemberIn table front members at t → height structs t < heights structs tag
member_lower [] made tag members has table front at t member = absurd (none-some members has)
member_lower (newest ∷ older) made tag members has table front at t member =
    by (bytes_eq newest.tag tag) has (λ e. member_lower older made.1 tag members e table front at t member)
  where
    by : (b : Bool) → cond b (Some newest.members) (members_by_tag older tag) ≡ Some members → (members_by_tag older tag ≡ Some members → height older t < heights older tag)
        → height (newest ∷ older) t < cond b (suc (all_heights (heights older) newest.members)) (heights older tag)
    by true e deeper =
        let same : newest.members ≡ members = same_Some newest.members members e in
        let inside : MemberIn table front newest.members at t = subst (λ l. MemberIn table front l at t) (sym same) member in
        let stays = height_stays newest older made.0.fresh t (member_sized older table newest.members front at t made.0.sized inside) in
        let among = height_among (heights older) table newest.members front at t inside in
        omega (arith, stays, among)
    by false e deeper =
        let lower = deeper e in
        let stays = height_stays newest older made.0.fresh t (sized_older older made.1 e) in
        omega (arith, stays, lower)
      where
        sized_older : (structs : List StructDef) → AreMade structs → members_by_tag structs tag ≡ Some members → is_sized structs t ≡ true
        sized_older structs its is = member_sized structs table members front at t (known structs its tag members is).sized member
