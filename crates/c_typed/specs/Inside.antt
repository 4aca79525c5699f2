-- What the fields of a table hold.
use Rattle.std.specs.Prelude.{◌≡◌, ℕ, ◌+◌, ◌<◌, ◌≤◌, Bool, true, false, ◌==◌, ◌++◌, if◌then◌else◌, List, [], ◌∷◌, length, map, reverse, slice_get, Option, Some, None, option_map, bytes_eq, Vec}
use Rattle.indexmap.specs.IndexMap.{IndexMap, get_by}
use Rattle.std.specs.Borrow.{Bor}
use Rattle.c_typed.specs.declared.c_type.CType as number
use Rattle.c_typed.specs.declared.c_type.StructId as tag
use Rattle.c_typed.specs.declared.structure.Step.{Step}
use Rattle.c_typed.specs.declared.c_type.Derived.{Derived}
use Rattle.c_typed.specs.declared.c_type.Derived.TheVariants as D
use Rattle.c_typed.specs.declared.extent.Extent.{Extent}
use Rattle.c_typed.specs.declared.structure.Member.{Member}
use Rattle.c_typed.specs.declared.structure.MemberAt.{MemberAt}
use Rattle.c_typed.specs.declared.structure.PlacedMember.{PlacedMember}
use Rattle.c_typed.specs.declared.structure.Structure.{Structure}
use Rattle.c_typed.specs.Types.{CType, Array, Struct}
use Rattle.c_typed.specs.Layouts.{StructDef, MemberDef, layouts, layout_of, struct_layout, is_complete, slots_before, offset_before, slot_at, members_by_tag, members_layout, behind, no_layout, saturated, aligned, greatest}
use Rattle.c_typed.specs.Extents.{extent_layout}
use Rattle.c_typed.specs.Table.{Interned, MemberEntry, StructEntry, Meaning, Nothing, meaning_in, derived_meaning, numbered, the_type, meaning_of, Grows, KnownStands, known_in, tag_in, member_number, member_defs, struct_defs, structs_in, IsAType}

-- no two items are equal
abbrev pub AreApart : {A : Type 0} → List A → Type 0
AreApart [] = Unit {0}
AreApart (newest ∷ older) = ((n : ℕ) → numbered older n ≡ Some newest → ⊥) × AreApart older

abbrev pub IsSomething : Meaning → Type 0
IsSomething Nothing = ⊥
IsSomething _ = Unit {0}

-- each entry is a type or a list
abbrev pub HaveMeanings : List (List ℕ) → List Derived → Type 0
HaveMeanings tags [] = Unit {0}
HaveMeanings tags (newest ∷ older) = IsSomething (derived_meaning tags (meaning_in tags older) newest) × HaveMeanings tags older

-- an object type whose size is known, as are those of its elements
abbrev pub is_sized : List StructDef → CType → Bool
is_sized structs (Array element length) = is_sized structs element
is_sized structs c_type = is_complete structs c_type

abbrev pub is_known_sized : List StructDef → Option CType → Bool
is_known_sized structs (Some c_type) = is_sized structs c_type
is_known_sized structs None = true

-- the layout that is kept with an array
abbrev pub HasExtent : Interned → Derived → Extent → Type 0
HasExtent table (D.Array element length) extent =
    let inner = the_type (meaning_in table.tags table.entries element.0) in
    (is_sized (structs_in table) inner ≡ true) × (extent_layout extent ≡ layout_of (structs_in table) (Array inner length))
HasExtent table _ extent = Unit {0}

abbrev pub HaveExtents : Interned → List (Derived × Extent) → Type 0
HaveExtents table entries = (n : ℕ) (entry : Derived × Extent) → slice_get entries n ≡ Some entry → HasExtent table entry.0 entry.1

-- ---- structures

abbrev pub member_entry : PlacedMember → MemberEntry
member_entry member = record { name = member.name.items; c_type = member.c_type }

abbrev pub struct_entry : Structure → StructEntry
struct_entry structure = record { tag = structure.id.0; members = map member_entry structure.members.items }

-- the index of the structure with a tag, where the newest stands in front
abbrev pub completed_index : List StructEntry → ℕ → Option ℕ
completed_index [] id = None
completed_index (newest ∷ older) id = if newest.tag == id then Some (length older) else completed_index older id

abbrev pub MemberStands : List (List ℕ) → List Derived → Option number.CType → Type 0
MemberStands tags entries (Some t) = IsAType (meaning_in tags entries t.0)
MemberStands tags entries None = Unit {0}

abbrev pub MembersStand : List (List ℕ) → List Derived → List MemberEntry → Type 0
MembersStand tags entries [] = Unit {0}
MembersStand tags entries (member ∷ members) = MemberStands tags entries member.c_type × MembersStand tags entries members

abbrev pub are_sized : List StructDef → List MemberDef → Bool
are_sized structs [] = true
are_sized structs (member ∷ members) = if is_known_sized structs member.c_type then are_sized structs members else false

-- each member has the number of slots before it
abbrev pub HaveSlots : List StructDef → List MemberDef → List PlacedMember → Type 0
HaveSlots structs defs members = (n : ℕ) (member : PlacedMember) → slice_get members n ≡ Some member → member.slots_before ≡ slots_before (layouts structs) n defs

-- each member has the number of bytes in front of it
abbrev pub HaveOffsets : List StructDef → List MemberDef → List PlacedMember → Type 0
HaveOffsets structs defs members =
    (n : ℕ) (member : PlacedMember) → slice_get members n ≡ Some member → member.offset ≡ offset_before (layouts structs) defs n (slice_get defs n)

-- the number that a map has for a name
abbrev pub number_of : {S Z : Type 0} → IndexMap (Vec ℕ Z) ℕ S → List ℕ → Option ℕ
number_of numbers name = get_by (λ key. bytes_eq name key.items) numbers

abbrev pub placed_names : List PlacedMember → List (List ℕ)
placed_names members = map (λ member. member.name.items) members

-- each name has the number of its first member
abbrev pub AreNumbered : {S Z : Type 0} → IndexMap (Vec ℕ Z) ℕ S → List PlacedMember → Type 0
AreNumbered numbers members = (name : List ℕ) → number_of numbers name ≡ member_number (placed_names members) name

-- the first of two numbers that is there
abbrev pub first_of : Option ℕ → Option ℕ → Option ℕ
first_of (Some n) other = Some n
first_of None other = other

-- a name was given a number, where it had none
abbrev pub Numbers : {S Z : Type 0} → IndexMap (Vec ℕ Z) ℕ S → IndexMap (Vec ℕ Z) ℕ S → List ℕ → ℕ → Type 0
Numbers old new name number = (other : List ℕ) → number_of new other ≡ first_of (number_of old other) (if bytes_eq other name then Some number else None)

-- the slots before a member, and its type
abbrev pub before : Option PlacedMember → ℕ × Option number.CType
before (Some member) = (member.slots_before, member.c_type)
before None = (0, None)

-- the first member of a name
abbrev pub IsFirst : List PlacedMember → List ℕ → Option MemberAt → Type 0
IsFirst members name (Some found) =
    (member_number (placed_names members) name ≡ Some found.number)
    × (option_map (λ member. member.c_type) (slice_get members found.number) ≡ Some found.c_type)
IsFirst members name None = member_number (placed_names members) name ≡ None

-- a structure that is made of older ones
pub record IsPlaced (tags : List (List ℕ)) (entries : List Derived) (older : List StructEntry) (structure : Structure) : Type 0 where
  pub tag : structure.id.0 < length tags
  pub fresh : completed_index older structure.id.0 ≡ None
  pub stand : MembersStand tags entries (struct_entry structure).members
  pub sized : are_sized (struct_defs tags entries older) (member_defs tags entries (struct_entry structure).members) ≡ true
  pub extent : extent_layout structure.extent ≡ struct_layout (layouts (struct_defs tags entries older)) (member_defs tags entries (struct_entry structure).members)
  pub slots : HaveSlots (struct_defs tags entries older) (member_defs tags entries (struct_entry structure).members) structure.members.items
  pub offsets : HaveOffsets (struct_defs tags entries older) (member_defs tags entries (struct_entry structure).members) structure.members.items
  pub numbers : AreNumbered structure.numbers structure.members.items

abbrev pub struct_entries : List Structure → List StructEntry
struct_entries structures = map struct_entry structures

abbrev pub ArePlaced : List (List ℕ) → List Derived → List Structure → Type 0
ArePlaced tags entries [] = Unit {0}
ArePlaced tags entries (newest ∷ older) = IsPlaced tags entries (struct_entries older) newest × ArePlaced tags entries older

-- ---- the table

abbrev pub types_of : List (Derived × Extent) → List Derived
types_of entries = reverse (map (λ entry. entry.0) entries)

abbrev pub tags_of : {Z : Type 0} → List (Vec ℕ Z × Option ℕ) → List (List ℕ)
tags_of tags = reverse (map (λ tag. tag.0.items) tags)

abbrev pub interned : {Z : Type 0} → List (Derived × Extent) → List (Vec ℕ Z × Option ℕ) → List Structure → Interned
interned entries tags structures =
    record {
      entries = types_of entries;
      tags = tags_of tags;
      structs = struct_entries (reverse structures);
    }

-- as many as can be numbered
abbrev pub greatest_count : ℕ
greatest_count = 4294967280

pub record IsTable {Z : Type 0} (entries : List (Derived × Extent)) (tags : List (Vec ℕ Z × Option ℕ)) (structures : List Structure) : Type 0 where
  pub meanings : HaveMeanings (tags_of tags) (types_of entries)
  pub apart : AreApart (types_of entries)
  pub tags_apart : AreApart (tags_of tags)
  pub few : length entries ≤ greatest_count
  pub few_tags : length tags ≤ greatest_count
  pub extents : HaveExtents (interned entries tags structures) entries
  pub completed : (n : ℕ) (tag : Vec ℕ Z × Option ℕ) → slice_get tags n ≡ Some tag → tag.1 ≡ completed_index (struct_entries (reverse structures)) n
  pub placed : ArePlaced (tags_of tags) (types_of entries) (reverse structures)

-- an entry stands where it did or was added, and all else stays
pub record MakesEntry (old new : Interned) (n : ℕ) (entry : Derived) : Type 0 where
  pub means : meaning_of new n ≡ derived_meaning old.tags (meaning_of old) entry
  pub grows : Grows old new

-- what the entry of a number is
abbrev pub EntryIs : Interned → ℕ → Option Derived → Type 0
EntryIs table n (Some entry) = meaning_of table n ≡ derived_meaning table.tags (meaning_of table) entry
EntryIs table n None = meaning_of table n ≡ Nothing

-- an entry that is a type, not a list
abbrev pub is_type_entry : Derived → Bool
is_type_entry D.NoParameters = false
is_type_entry (D.Parameter first others) = false
is_type_entry entry = true

-- whether a number stands for a type
abbrev pub IsTypeNumber : Interned → ℕ → Bool → Type 0
IsTypeNumber table n true = IsAType (meaning_of table n)
IsTypeNumber table n false = IsAType (meaning_of table n) → ⊥

-- what is kept of a structure that is completed
pub record IsStructure (table : Interned) (id : tag.StructId) (structure : Structure) : Type 0 where
  pub members : members_by_tag (structs_in table) (tag_in table id) ≡ Some (member_defs table.tags table.entries (struct_entry structure).members)
  pub extent : extent_layout structure.extent ≡ layout_of (structs_in table) (Struct (tag_in table id))
  pub stand : MembersStand table.tags table.entries (struct_entry structure).members
  pub slots : HaveSlots (structs_in table) (member_defs table.tags table.entries (struct_entry structure).members) structure.members.items
  pub offsets : HaveOffsets (structs_in table) (member_defs table.tags table.entries (struct_entry structure).members) structure.members.items
  pub numbers : AreNumbered structure.numbers structure.members.items

abbrev pub StructureIs : Interned → tag.StructId → Option (Bor Structure) → Type 0
StructureIs table id (Some structure) = IsStructure table id structure.now
StructureIs table id None = members_by_tag (structs_in table) (tag_in table id) ≡ None

-- how many slots a step passes over, and where it leads
pub record IsStep (table : Interned) (whole : Option CType) (step : Step) (found : ℕ × Option number.CType) : Type 0 where
  pub slots : (path : List Step) → slot_at (structs_in table) whole (step ∷ path) ≡ saturated (found.0 + slot_at (structs_in table) (known_in table.tags table.entries found.1) path)
  pub small : found.0 ≤ greatest
  pub stands : KnownStands table found.1

-- a member was placed behind the others
pub record Pushes (old new : Structure) (member : Member) (own : Extent) : Type 0 where
  pub id : new.id ≡ old.id
  pub members : new.members.items ≡ old.members.items ++ record { name = member.name; c_type = member.c_type; slots_before = old.extent.slots; offset = saturated (aligned own.alignment old.extent.size) } ∷ []
  pub extent : extent_layout new.extent ≡ behind (extent_layout old.extent) (extent_layout own)
  pub numbers : AreNumbered old.numbers old.members.items → AreNumbered new.numbers new.members.items

-- a structure of no members
pub record IsEmpty (structure : Structure) (its : tag.StructId) : Type 0 where
  pub id : structure.id ≡ its
  pub members : structure.members.items ≡ []
  pub extent : extent_layout structure.extent ≡ no_layout
  pub numbers : AreNumbered structure.numbers structure.members.items

-- a structure with some of its members
pub record IsBuilding (table : Interned) (its : tag.StructId) (structure : Structure) : Type 0 where
  pub id : structure.id ≡ its
  pub sized : are_sized (structs_in table) (member_defs table.tags table.entries (struct_entry structure).members) ≡ true
  pub extent : extent_layout structure.extent ≡ members_layout (layouts (structs_in table)) no_layout (member_defs table.tags table.entries (struct_entry structure).members)
  pub slots : HaveSlots (structs_in table) (member_defs table.tags table.entries (struct_entry structure).members) structure.members.items
  pub offsets : HaveOffsets (structs_in table) (member_defs table.tags table.entries (struct_entry structure).members) structure.members.items
  pub numbers : AreNumbered structure.numbers structure.members.items

-- a structure with all of these members
pub record IsBuilt (table : Interned) (its : tag.StructId) (all : List MemberEntry) (structure : Structure) : Type 0 where
  pub id : structure.id ≡ its
  pub members : (struct_entry structure).members ≡ all
  pub sized : are_sized (structs_in table) (member_defs table.tags table.entries (struct_entry structure).members) ≡ true
  pub extent : extent_layout structure.extent ≡ struct_layout (layouts (structs_in table)) (member_defs table.tags table.entries (struct_entry structure).members)
  pub slots : HaveSlots (structs_in table) (member_defs table.tags table.entries (struct_entry structure).members) structure.members.items
  pub offsets : HaveOffsets (structs_in table) (member_defs table.tags table.entries (struct_entry structure).members) structure.members.items
  pub numbers : AreNumbered structure.numbers structure.members.items
