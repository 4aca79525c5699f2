-- Where scalars and parts of objects stand, in bytes behind the beginning of an object (C17 6.2.6.1, 6.7.2.1).
use Rattle.std.specs.Prelude.{ℕ, ◌+◌, ◌-◌, ◌*◌, ◌%◌, ◌==◌, nat_lt, nat_le, if◌then◌else◌, List, [], ◌∷◌, slice_get, Option, Some, None, bytes_eq}
use Rattle.c_typed.specs.declared.part.Part.{Part}
use Rattle.c_typed.specs.declared.part.Part.TheVariants as P
use Rattle.c_typed.specs.Types.{CType, Integer, Pointer, Array, Struct}
use Rattle.c_typed.specs.Layouts.{StructDef, MemberDef, Table, Layout, no_layout, layouts, layout_of, layout_in, member_layout, members_by_tag, known_members, saturated, aligned, behind, offset_before}

abbrev pub size_of : List StructDef → CType → ℕ
size_of structs c_type = (layout_of structs c_type).size

-- ---- the scalar at an offset

-- where scalars stand in a type
abbrev pub Leaves : Type 0
Leaves = ℕ → Option CType

-- in an array of so many elements, each of a size
abbrev pub in_elements : ℕ → ℕ → Leaves → Leaves
in_elements size count leaves offset = if nat_lt offset (count * size) then leaves (offset % size) else None

-- in a type, where this tells it of structures by their tags
abbrev pub leaves_in : Table → (List ℕ → Leaves) → CType → Leaves
leaves_in table by_tag (Integer int_type) offset = if offset == 0 then Some (Integer int_type) else None
leaves_in table by_tag (Pointer target) offset = if offset == 0 then Some (Pointer target) else None
leaves_in table by_tag (Array element count) offset = in_elements (layout_in table element).size count (leaves_in table by_tag element) offset
leaves_in table by_tag (Struct tag) offset = by_tag tag offset
leaves_in table by_tag _ offset = None

-- in a member that lies so many bytes behind the beginning
abbrev pub leaves_from : ℕ → Leaves → Leaves
leaves_from start leaves offset = if nat_lt offset start then None else leaves (offset - start)

abbrev pub first_leaf : Option CType → Option CType → Option CType
first_leaf (Some leaf) others = Some leaf
first_leaf None others = others

-- in members, which lie behind others
abbrev pub leaves_of_members : Table → (List ℕ → Leaves) → Layout → List MemberDef → Leaves
leaves_of_members table by_tag front [] offset = None
leaves_of_members table by_tag front (member ∷ members) offset =
    first_leaf (of_member member.c_type (saturated (aligned (member_layout table member).alignment front.size)))
    (leaves_of_members table by_tag (behind front (member_layout table member)) members offset)
  where
    of_member : Option CType → ℕ → Option CType
    of_member None start = None
    of_member (Some c_type) start = leaves_from start (leaves_in table by_tag c_type) offset

-- in structures, the newest first, each of which is made of older ones
abbrev pub leaves_by_tag : List StructDef → List ℕ → Leaves
leaves_by_tag [] tag offset = None
leaves_by_tag (newest ∷ structs) tag offset =
    if bytes_eq newest.tag tag then leaves_of_members (layouts structs) (leaves_by_tag structs) no_layout newest.members offset else leaves_by_tag structs tag offset

-- the type of the scalar so many bytes behind the beginning of so many elements of a type
abbrev pub leaf_at : List StructDef → CType → ℕ → ℕ → Option CType
leaf_at structs c_type count offset = in_elements (size_of structs c_type) count (leaves_in (layouts structs) (leaves_by_tag structs) c_type) offset

-- ---- parts

-- a part of an object: how many bytes behind the beginning, and its type
pub record Inner : Type 0 where
  pub offset : ℕ
  pub c_type : CType

abbrev pub within : Option Inner → (Inner → Option Inner) → Option Inner
within None step = None
within (Some inner) step = step inner

abbrev pub member_in : List StructDef → ℕ → ℕ → List MemberDef → Option MemberDef → Option Inner
member_in structs start number members None = None
member_in structs start number members (Some member) = by member.c_type
  where
    by : Option CType → Option Inner
    by None = None
    by (Some c_type) = Some (record { offset = start + offset_before (layouts structs) members number (Some member); c_type = c_type })

-- the member of this number
abbrev pub member_of : List StructDef → ℕ → Inner → Option Inner
member_of structs number inner = by inner.c_type
  where
    by : CType → Option Inner
    by (Struct tag) = let members = known_members (members_by_tag structs tag) in member_in structs inner.offset number members (slice_get members number)
    by _ = None

-- the element of this index, or the end of the array
abbrev pub element_of : List StructDef → ℕ → Inner → Option Inner
element_of structs index inner = by inner.c_type
  where
    by : CType → Option Inner
    by (Array element count) = if nat_le index count then Some (record { offset = inner.offset + index * size_of structs element; c_type = element }) else None
    by _ = None

-- the element so many places behind one
abbrev pub moved : List StructDef → ℕ → Inner → Inner
moved structs index inner = record inner { offset = inner.offset + index * size_of structs inner.c_type }

-- a row to which a constant's step leads from an element of a row
abbrev pub part_of : List StructDef → Part → Inner → Option Inner
part_of structs (P.Member index number) inner = member_of structs number (moved structs index inner)
part_of structs (P.Elements index) inner = element_of structs 0 (moved structs index inner)

abbrev pub parts_of : List StructDef → List Part → Inner → Option Inner
parts_of structs [] inner = Some inner
parts_of structs (part ∷ parts) inner = within (part_of structs part inner) (parts_of structs parts)
