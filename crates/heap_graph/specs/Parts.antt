-- Slots of types, and which parts a type has at which slot: a scalar has one slot, a structure those of its members in order, an array
-- those of one element.
use Rattle.std.specs.Prelude.{◌≡◌, ◌⊎◌, ℕ, ◌+◌, ◌-◌, ◌==◌, nat_lt, Bool, false, ◌&&◌, ◌||◌, if◌then◌else◌, List, [], ◌∷◌, Option, Some, None, bytes_eq}
use Rattle.c_typed.specs.Types.{CType, Void, Pointer, Array, Struct, Function, NoTypes, same_type}
use Rattle.c_typed.specs.Layouts.{StructDef, MemberDef, Table, layouts, layout_of, member_layout}

-- There are two types of pointers in graphs: to objects or void, and to functions.
abbrev pub graph_type : CType → CType
graph_type (Pointer (Function result parameters)) = Pointer (Function Void NoTypes)
graph_type (Pointer target) = Pointer Void
graph_type (Array element length) = Array (graph_type element) length
graph_type c_type = c_type

abbrev pub alike : CType → CType → Bool
alike a b = same_type (graph_type a) (graph_type b)

abbrev pub slots_of : List StructDef → CType → ℕ
slots_of structs c_type = (layout_of structs c_type).slots

-- the part of this type begins at this slot
abbrev pub Parts : Type 0
Parts = ℕ → CType → Bool

abbrev pub begins : CType → Parts
begins own slot part = (slot == 0) && alike own part

-- where this tells it of structures by their tags
abbrev pub parts_in : (List ℕ → Parts) → CType → Parts
parts_in by_tag (Array element length) slot part = begins (Array element length) slot part || parts_in by_tag element slot part
parts_in by_tag (Struct tag) slot part = begins (Struct tag) slot part || by_tag tag slot part
parts_in by_tag c_type slot part = begins c_type slot part

abbrev pub parts_from : ℕ → Parts → Parts
parts_from front parts slot part = if nat_lt slot front then false else parts (slot - front) part

-- in members, which lie behind so many slots
abbrev pub parts_of_members : Table → (List ℕ → Parts) → ℕ → List MemberDef → Parts
parts_of_members table by_tag front [] slot part = false
parts_of_members table by_tag front (member ∷ members) slot part =
    of_member member.c_type || parts_of_members table by_tag (front + (member_layout table member).slots) members slot part
  where
    of_member : Option CType → Bool
    of_member None = false
    of_member (Some c_type) = parts_from front (parts_in by_tag c_type) slot part

-- in structures, the newest first, each of which is made of older ones
abbrev pub parts_by_tag : List StructDef → List ℕ → Parts
parts_by_tag [] tag slot part = false
parts_by_tag (newest ∷ structs) tag slot part =
    if bytes_eq newest.tag tag then parts_of_members (layouts structs) (parts_by_tag structs) 0 newest.members slot part else parts_by_tag structs tag slot part

-- the type itself at its first slot, or a part of it
abbrev pub has_part : List StructDef → CType → Parts
has_part structs own slot part = parts_in (parts_by_tag structs) own slot part

-- a member of this type lies at this slot, where the members lie behind so many slots
abbrev pub MemberIn : Table → ℕ → List MemberDef → ℕ → CType → Type 0
MemberIn table front [] at t = ⊥
MemberIn table front (member ∷ members) at t = ((member.c_type ≡ Some t) × (front ≡ at)) ⊎ MemberIn table (front + (member_layout table member).slots) members at t
