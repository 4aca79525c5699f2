-- Sizes, alignments and slots of object types (C17 6.2.6.1, 6.2.8, 6.5.3.4, 6.7.2.1). Each scalar is aligned to its size;
-- members lie in order, each as low as its alignment lets it; a size is rounded up to the greatest alignment. These are
-- this project's choices. Sizes and numbers of slots end at 2 ^ 62.
use Rattle.std.specs.Prelude.{ℕ, ◌+◌, ◌-◌, ◌*◌, ◌/◌, ◌^◌, min, max, Bool, true, false, if◌then◌else◌, List, [], ◌∷◌, take, slice_get, Option, Some, None, bytes_eq}
use Rattle.c_num.specs.Types.{width_of}
use Rattle.c_typed.specs.Types.{CType, Integer, Pointer, Array, Struct}
use Rattle.c_typed.specs.declared.structure.Step.{Step}
use Rattle.c_typed.specs.declared.structure.Step.TheVariants as Steps

-- a member: its name, and its type where it has one
pub record MemberDef : Type 0 where
  pub name : List ℕ
  pub c_type : Option CType

-- a structure with its members
pub record StructDef : Type 0 where
  pub tag : List ℕ
  pub members : List MemberDef

pub record Layout : Type 0 where
  pub size : ℕ
  pub alignment : ℕ
  pub slots : ℕ

abbrev pub greatest : ℕ
greatest = 2 ^ 62

abbrev pub saturated : ℕ → ℕ
saturated n = min n greatest

-- the least multiple of the alignment from n on
abbrev pub aligned : ℕ → ℕ → ℕ
aligned alignment n = ((n + alignment - 1) / alignment) * alignment

-- nothing, of which no object is
abbrev pub no_layout : Layout
no_layout = record { size = 0; alignment = 1; slots = 0 }

-- the layout of structures by their tags
abbrev pub Table : Type 0
Table = List (List ℕ × Layout)

abbrev pub layout_by_tag : Table → List ℕ → Layout
layout_by_tag [] tag = no_layout
layout_by_tag (entry ∷ table) tag = if bytes_eq entry.0 tag then entry.1 else layout_by_tag table tag

abbrev pub layout_in : Table → CType → Layout
layout_in table (Integer int_type) = record { size = width_of int_type / 8; alignment = width_of int_type / 8; slots = 1 }
layout_in table (Pointer target) = record { size = 8; alignment = 8; slots = 1 }
layout_in table (Array element length) =
    let inner = layout_in table element in
    record { size = saturated (inner.size * length); alignment = inner.alignment; slots = inner.slots }
layout_in table (Struct tag) = layout_by_tag table tag
layout_in table _ = no_layout

abbrev pub known_layout : Table → Option CType → Layout
known_layout table (Some c_type) = layout_in table c_type
known_layout table None = no_layout

abbrev pub member_layout : Table → MemberDef → Layout
member_layout table member = known_layout table member.c_type

-- one more member behind others
abbrev pub behind : Layout → Layout → Layout
behind others member =
    record {
      size = saturated (saturated (aligned member.alignment others.size) + member.size);
      alignment = max others.alignment member.alignment;
      slots = saturated (others.slots + member.slots);
    }

abbrev pub members_layout : Table → Layout → List MemberDef → Layout
members_layout table front [] = front
members_layout table front (member ∷ members) = members_layout table (behind front (member_layout table member)) members

abbrev pub struct_layout : Table → List MemberDef → Layout
struct_layout table members =
    let all = members_layout table no_layout members in
    record all { size = saturated (aligned all.alignment all.size) }

-- the layouts of structures, the newest first, each of which is made of older ones
abbrev pub layouts : List StructDef → Table
layouts [] = []
layouts (newest ∷ structs) = let table = layouts structs in (newest.tag, struct_layout table newest.members) ∷ table

abbrev pub layout_of : List StructDef → CType → Layout
layout_of structs c_type = layout_in (layouts structs) c_type

abbrev pub members_by_tag : List StructDef → List ℕ → Option (List MemberDef)
members_by_tag [] tag = None
members_by_tag (newest ∷ structs) tag = if bytes_eq newest.tag tag then Some newest.members else members_by_tag structs tag

abbrev pub has_members : Option (List MemberDef) → Bool
has_members (Some members) = true
has_members None = false

-- An object type whose size is known (C17 6.2.5 paragraph 1).
abbrev pub is_complete : List StructDef → CType → Bool
is_complete structs (Integer int_type) = true
is_complete structs (Pointer target) = true
is_complete structs (Array element length) = true
is_complete structs (Struct tag) = has_members (members_by_tag structs tag)
is_complete structs _ = false

-- ---- the slots of an object: one for each scalar that it holds outside of arrays, and for an array those of one element

-- the slots of so many members in front
abbrev pub slots_before : Table → ℕ → List MemberDef → ℕ
slots_before table number members = (members_layout table no_layout (take number members)).slots

abbrev pub known_members : Option (List MemberDef) → List MemberDef
known_members (Some members) = members
known_members None = []

-- the type of the member of this number
abbrev pub member_type : Option MemberDef → Option CType
member_type (Some member) = member.c_type
member_type None = None

-- how many bytes stand in front of a member, which is there: it lies as low as its alignment lets it
abbrev pub offset_before : Table → List MemberDef → ℕ → Option MemberDef → ℕ
offset_before table members number (Some member) = saturated (aligned (member_layout table member).alignment (members_layout table no_layout (take number members)).size)
offset_before table members number None = 0

-- the slots in front of a member, which is there
abbrev pub member_slots : Table → List MemberDef → ℕ → Option MemberDef → ℕ
member_slots table members number (Some member) = slots_before table number members
member_slots table members number None = 0

-- the number of the slot at which the part of an object begins to which these steps lead
abbrev pub slot_at : List StructDef → Option CType → List Step → ℕ
slot_at structs c_type [] = 0
slot_at structs (Some (Struct tag)) (Steps.Member number ∷ path) =
    let members = known_members (members_by_tag structs tag) in
    saturated (member_slots (layouts structs) members number (slice_get members number) + slot_at structs (member_type (slice_get members number)) path)
slot_at structs (Some (Array element length)) (Steps.Element index ∷ path) = slot_at structs (Some element) path
slot_at structs _ (step ∷ path) = 0
