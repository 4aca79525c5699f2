-- What a well typed program says of the types in it.
use Rattle.std.proofs.Common.{◌≡◌, ℕ, zero, suc, Bool, true, false, not, ◌&&◌, cond, List, [], ◌∷◌, slice_get, Option, Some, None, refl, ap, subst, inl, inr, ◌⊎◌, bytes_eq}
use Rattle.std.proofs.lemmas.Bool.{false≢true, true≢false, and_parts, not-false, or_cases}
use Rattle.std.proofs.lemmas.Option.{none-some, same_Some}
use Rattle.std.proofs.lemmas.Slice.Eq.{bytes_eq-Decides}
use Rattle.c_typed.specs.Names.{contains}
use Rattle.c_typed.specs.Types.{CType, Void, Integer, Pointer, Array, Struct, Function, is_function, is_like_void}
use Rattle.c_typed.specs.Layouts.{StructDef, MemberDef, is_complete, members_by_tag, has_members, known_members, member_type}
use Rattle.c_typed.specs.Inside.{is_sized, is_known_sized, are_sized}
use Rattle.c_typed.specs.Typed.{Program}
use Rattle.c_typed.specs.Expressions.{member_of}
use Rattle.c_typed.specs.Programs.{IsWellTyped, are_structs, all_complete, all_listed, are_globals, are_functions, has_main}
use Rattle.ref_semantics.proofs.Stays.{made_of}
use Rattle.ref_semantics.proofs.Sized.{sized_structs}

listed : (completed : List (List ℕ)) (structs : List StructDef) (tag : List ℕ) → all_listed completed structs ≡ true → has_members (members_by_tag structs tag) ≡ true
    → contains completed tag ≡ true
listed completed [] tag all h = absurd (false≢true h)
listed completed (newest ∷ older) tag all h =
    let parts = and_parts (contains completed newest.tag) (all_listed completed older) all in
    by (bytes_eq newest.tag tag) refl parts.0 (listed completed older tag parts.1) h
  where
    by : (same : Bool) → bytes_eq newest.tag tag ≡ same → contains completed newest.tag ≡ true → (has_members (members_by_tag older tag) ≡ true → contains completed tag ≡ true)
        → has_members (cond same (Some newest.members) (members_by_tag older tag)) ≡ true → contains completed tag ≡ true
    by true same one rest h = subst (λ name. contains completed name ≡ true) ((bytes_eq-Decides newest.tag tag).0 same) one
    by false same one rest h = rest h

completed_has : (structs : List StructDef) (completed : List (List ℕ)) (tag : List ℕ) → all_complete structs completed ≡ true → contains completed tag ≡ true
    → has_members (members_by_tag structs tag) ≡ true
completed_has structs [] tag all h = absurd (false≢true h)
completed_has structs (first ∷ others) tag all h =
    let parts = and_parts (has_members (members_by_tag structs first)) (all_complete structs others) all in
    by (or_cases (bytes_eq first tag) (contains others tag) h) parts.0 (completed_has structs others tag parts.1)
  where
    by : (bytes_eq first tag ≡ true) ⊎ (contains others tag ≡ true) → has_members (members_by_tag structs first) ≡ true
        → (contains others tag ≡ true → has_members (members_by_tag structs tag) ≡ true) → has_members (members_by_tag structs tag) ≡ true
    by (inl same) one rest = subst (λ name. has_members (members_by_tag structs name) ≡ true) ((bytes_eq-Decides first tag).0 same) one
    by (inr other) one rest = rest other

-- ---- members

-- the member that a rule finds
pub record FoundMember (structs : List StructDef) (number : ℕ) (own t : CType) : Type 0 where
  pub tag : List ℕ
  pub members : List MemberDef
  pub member : MemberDef
  pub is_struct : own ≡ Struct tag
  pub at : members_by_tag structs tag ≡ Some members
  pub there : slice_get members number ≡ Some member
  pub typed : member.c_type ≡ Some t

pub found_member : (structs : List StructDef) (number : ℕ) (own t : CType) → member_of structs number own ≡ Some t → FoundMember structs number own t
found_member structs number Void t is = absurd (none-some t is)
found_member structs number (Integer int_type) t is = absurd (none-some t is)
found_member structs number (Pointer target) t is = absurd (none-some t is)
found_member structs number (Array element n) t is = absurd (none-some t is)
found_member structs number (Function result parameters) t is = absurd (none-some t is)
found_member structs number (Struct tag) t is = by (members_by_tag structs tag) refl is
  where
    in_list : (members : List MemberDef) → members_by_tag structs tag ≡ Some members → (found : Option MemberDef) → slice_get members number ≡ found → member_type found ≡ Some t
        → FoundMember structs number (Struct tag) t
    in_list members at (Some member) there typed = record { tag = tag; members = members; member = member; is_struct = refl; at = at; there = there; typed = typed }
    in_list members at None there typed = absurd (none-some t typed)

    by : (found : Option (List MemberDef)) → members_by_tag structs tag ≡ found → member_type (slice_get (known_members found) number) ≡ Some t → FoundMember structs number (Struct tag) t
    by (Some members) at typed = in_list members at (slice_get members number) refl typed
    by None at typed = absurd (none-some t typed)

sized_complete : (structs : List StructDef) (t : CType) → is_sized structs t ≡ true → is_complete structs t ≡ true
sized_complete structs Void h = h
sized_complete structs (Integer t) h = h
sized_complete structs (Pointer t) h = h
sized_complete structs (Array t n) h = refl
sized_complete structs (Struct tag) h = h
sized_complete structs (Function t ts) h = h

cond_parts : (a b : Bool) → cond a b false ≡ true → (a ≡ true) × (b ≡ true)
cond_parts true b h = (refl, h)
cond_parts false b h = absurd (false≢true h)

sized_member : (structs : List StructDef) (members : List MemberDef) (number : ℕ) (member : MemberDef) → are_sized structs members ≡ true → slice_get members number ≡ Some member
    → is_known_sized structs member.c_type ≡ true
sized_member structs [] number member h there = absurd (none-some member there)
sized_member structs (first ∷ others) zero member h there =
    subst (λ m. is_known_sized structs m.c_type ≡ true) (same_Some first member there) (cond_parts (is_known_sized structs first.c_type) (are_sized structs others) h).0
sized_member structs (first ∷ others) (suc number) member h there =
    sized_member structs others number member (cond_parts (is_known_sized structs first.c_type) (are_sized structs others) h).1 there

-- ---- programs

module _ (program : Program) (well : IsWellTyped program) where
  -- the tests, one after another
  parts : (a b c d e f : Bool) → (a && b && c && d && e && f) ≡ true → (a ≡ true) × (b ≡ true) × (c ≡ true) × (d ≡ true) × (e ≡ true)
  parts true true true true true f h = (refl, refl, refl, refl, refl)
  parts false b c d e f h = absurd (false≢true h)
  parts true false c d e f h = absurd (false≢true h)
  parts true true false d e f h = absurd (false≢true h)
  parts true true true false e f h = absurd (false≢true h)
  parts true true true true false f h = absurd (false≢true h)

  all_parts : (are_structs program.structs ≡ true) × (all_complete program.structs program.completed ≡ true) × (all_listed program.completed program.structs ≡ true)
      × (are_globals program program.globals ≡ true) × (are_functions program program.functions ≡ true)
  all_parts = parts (are_structs program.structs) (all_complete program.structs program.completed) (all_listed program.completed program.structs)
      (are_globals program program.globals) (are_functions program program.functions) (has_main program) well

  pub well_structs : are_structs program.structs ≡ true
  well_structs = all_parts.0

  pub well_complete : all_complete program.structs program.completed ≡ true
  well_complete = all_parts.1

  pub well_listed : all_listed program.completed program.structs ≡ true
  well_listed = all_parts.2

  pub well_globals : are_globals program program.globals ≡ true
  well_globals = all_parts.3

  pub well_functions : are_functions program program.functions ≡ true
  well_functions = all_parts.4

  -- a complete type isn't like void
  pub complete_known : (t : CType) → is_complete program.structs t ≡ true → is_like_void program.completed t ≡ false
  complete_known Void complete = absurd (false≢true complete)
  complete_known (Integer t) complete = refl
  complete_known (Pointer t) complete = refl
  complete_known (Array t n) complete = refl
  complete_known (Struct tag) complete = ap not (listed program.completed program.structs tag well_listed complete)
  complete_known (Function t ts) complete = refl

  pub known_complete : (t : CType) → is_like_void program.completed t ≡ false → is_function t ≡ false → is_complete program.structs t ≡ true
  known_complete Void known object = absurd (true≢false known)
  known_complete (Integer t) known object = refl
  known_complete (Pointer t) known object = refl
  known_complete (Array t n) known object = refl
  known_complete (Struct tag) known object = completed_has program.structs program.completed tag well_complete (not-false (contains program.completed tag) known)
  known_complete (Function t ts) known object = absurd (true≢false object)

  pub complete_object : (t : CType) → is_complete program.structs t ≡ true → is_function t ≡ false
  complete_object Void complete = refl
  complete_object (Integer t) complete = refl
  complete_object (Pointer t) complete = refl
  complete_object (Array t n) complete = refl
  complete_object (Struct tag) complete = refl
  complete_object (Function t ts) complete = absurd (false≢true complete)

  pub like_object : (t : CType) → is_like_void program.completed t ≡ true → is_function t ≡ false
  like_object Void like = refl
  like_object (Integer t) like = refl
  like_object (Pointer t) like = refl
  like_object (Array t n) like = refl
  like_object (Struct tag) like = refl
  like_object (Function t ts) like = absurd (false≢true like)

  pub member_complete : (number : ℕ) (own t : CType) → member_of program.structs number own ≡ Some t → is_complete program.structs t ≡ true
  member_complete number own t is =
      let found = found_member program.structs number own t is in
      let made = made_of program.structs well_structs (sized_structs program.structs well_structs) found.tag found.members found.at in
      let sized = sized_member program.structs found.members number found.member made.sized found.there in
      sized_complete program.structs t (subst (λ known. is_known_sized program.structs known ≡ true) found.typed sized)
