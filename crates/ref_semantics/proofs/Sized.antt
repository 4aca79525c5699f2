-- Well formed structures have members whose sizes are known.
use Rattle.std.proofs.Common.{◌≡◌, true, false, ◌&&◌, cond, not, List, [], ◌∷◌, Option, Some, None, refl, ap, ◌∙◌}
use Rattle.std.proofs.lemmas.Bool.{false≢true, and_parts}
use Rattle.c_typed.specs.Types.{CType}
use Rattle.c_typed.specs.Inside.{is_sized, is_known_sized, are_sized}
use Rattle.c_typed.specs.Layouts.{StructDef, MemberDef, members_by_tag, has_members}
use Rattle.c_typed.specs.Programs.{are_members, are_structs}
use Rattle.ref_semantics.specs.Rows.{are_sized_structs}

sized_members : (older : List StructDef) (members : List MemberDef) → are_members older members ≡ true → are_sized older members ≡ true
sized_members older [] h = refl
sized_members older (first ∷ others) h = by first.c_type h (sized_members older others)
  where
    by : (known : Option CType) → (are_members older (record { name = first.name; c_type = known } ∷ others)) ≡ true → (are_members older others ≡ true → are_sized older others ≡ true)
        → cond (is_known_sized older known) (are_sized older others) false ≡ true
    by (Some t) h rest = let parts = and_parts (is_sized older t) (are_members older others) h in ap (λ b. cond b (are_sized older others) false) parts.0 ∙ rest parts.1
    by None h rest = absurd (false≢true h)

pub sized_structs : (structs : List StructDef) → are_structs structs ≡ true → are_sized_structs structs ≡ true
sized_structs [] h = refl
sized_structs (newest ∷ older) h =
    let fresh = not (has_members (members_by_tag older newest.tag)) in
    let outer = and_parts (fresh && are_members older newest.members) (are_structs older) h in
    let inner = and_parts fresh (are_members older newest.members) outer.0 in
    ap (λ b. b && are_sized_structs older) (sized_members older newest.members inner.1) ∙ sized_structs older outer.1
