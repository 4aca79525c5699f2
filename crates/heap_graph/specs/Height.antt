-- How deep types are made of others.
use Rattle.std.specs.Prelude.{ℕ, suc, ◌+◌, if◌then◌else◌, List, [], ◌∷◌, Option, Some, None, bytes_eq}
use Rattle.c_typed.specs.Types.{CType, Array, Struct}
use Rattle.c_typed.specs.Layouts.{StructDef, MemberDef}

abbrev pub height_in : (List ℕ → ℕ) → CType → ℕ
height_in by_tag (Array element length) = suc (height_in by_tag element)
height_in by_tag (Struct tag) = by_tag tag
height_in by_tag c_type = 0

abbrev pub known_height : (List ℕ → ℕ) → Option CType → ℕ
known_height by_tag None = 0
known_height by_tag (Some c_type) = height_in by_tag c_type

abbrev pub all_heights : (List ℕ → ℕ) → List MemberDef → ℕ
all_heights by_tag [] = 0
all_heights by_tag (member ∷ members) = known_height by_tag member.c_type + all_heights by_tag members

abbrev pub heights : List StructDef → List ℕ → ℕ
heights [] tag = 0
heights (newest ∷ older) tag = if bytes_eq newest.tag tag then suc (all_heights (heights older) newest.members) else heights older tag

abbrev pub height : List StructDef → CType → ℕ
height structs c_type = height_in (heights structs) c_type
