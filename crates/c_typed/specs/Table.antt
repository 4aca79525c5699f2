-- What a number stands for in a table of types: a type, or a list of types.
use Rattle.std.specs.Prelude.{◌≡◌, ℕ, ◌+◌, ◌<◌, true, ◌==◌, ◌++◌, if◌then◌else◌, List, [], ◌∷◌, length, map, slice_get, Option, Some, None, option_map, suc, bytes_eq}
use Rattle.c_num.specs.declared.IntType.{IntType}
use Rattle.c_num.specs.declared.IntType.TheVariants as I
use Rattle.c_typed.specs.declared.c_type.CType as number
use Rattle.c_typed.specs.declared.c_type.Parameters as numbers
use Rattle.c_typed.specs.declared.c_type.StructId as tag
use Rattle.c_typed.specs.declared.c_type.Derived.{Derived}
use Rattle.c_typed.specs.declared.c_type.Derived.TheVariants as D
use Rattle.c_typed.specs.declared.c_type.Shape.{Shape}
use Rattle.c_typed.specs.declared.c_type.Shape.TheVariants as S
use Rattle.c_typed.specs.Types.{CType, CTypes, Void, Integer, Pointer, Array, Struct, Function, NoTypes, MoreTypes}
use Rattle.c_typed.specs.declared.structure.Member.{Member}
use Rattle.c_typed.specs.declared.structure.MemberAt.{MemberAt}
use Rattle.c_typed.specs.declared.structure.MemberPlace.{MemberPlace}
use Rattle.c_typed.specs.Layouts.{StructDef, MemberDef, layouts, members_by_tag, known_members, member_type, offset_before, is_complete}

-- a member: its name, and the number of its type where it has one
pub record MemberEntry : Type 0 where
  pub name : List ℕ
  pub c_type : Option number.CType

-- a structure that is completed, by the number of its tag
pub record StructEntry : Type 0 where
  pub tag : ℕ
  pub members : List MemberEntry

-- a table as plain data, the newest first
pub record Interned : Type 0 where
  pub entries : List Derived
  pub tags : List (List ℕ)
  -- in the order in which they were completed, the newest first
  pub structs : List StructEntry

abbrev pub empty : Interned
empty = record { entries = []; tags = []; structs = [] }

-- what a number stands for
pub data Meaning : Type 0 where
  AType : (c_type : CType) → Meaning
  AList : (c_types : CTypes) → Meaning
  Nothing : Meaning

abbrev pub integer_number : IntType → ℕ
integer_number I.Char = 1
integer_number I.UChar = 2
integer_number I.Short = 3
integer_number I.UShort = 4
integer_number I.Int = 5
integer_number I.UInt = 6
integer_number I.Long = 7
integer_number I.ULong = 8

-- the types that are in every table
abbrev pub base_meaning : ℕ → Meaning
base_meaning n =
    if n == 0 then AType Void
    else if n == 1 then AType (Integer I.Char)
    else if n == 2 then AType (Integer I.UChar)
    else if n == 3 then AType (Integer I.Short)
    else if n == 4 then AType (Integer I.UShort)
    else if n == 5 then AType (Integer I.Int)
    else if n == 6 then AType (Integer I.UInt)
    else if n == 7 then AType (Integer I.Long)
    else if n == 8 then AType (Integer I.ULong)
    else Nothing

abbrev pub pointer_to : Meaning → Meaning
pointer_to (AType target) = AType (Pointer target)
pointer_to _ = Nothing

abbrev pub array_of : Meaning → ℕ → Meaning
array_of (AType element) length = AType (Array element length)
array_of _ length = Nothing

abbrev pub struct_of : Option (List ℕ) → Meaning
struct_of (Some tag) = AType (Struct tag)
struct_of None = Nothing

abbrev pub function_of : Meaning → Meaning → Meaning
function_of (AType result) (AList parameters) = AType (Function result parameters)
function_of _ _ = Nothing

abbrev pub parameter_of : Meaning → Meaning → Meaning
parameter_of (AType first) (AList others) = AList (MoreTypes first others)
parameter_of _ _ = Nothing

-- the item of this number, where the oldest has 0
abbrev pub numbered : {A : Type 0} → List A → ℕ → Option A
numbered [] n = None
numbered (newest ∷ older) n = if n == length older then Some newest else numbered older n

-- what an entry stands for, where this is what numbers stand for
abbrev pub derived_meaning : List (List ℕ) → (ℕ → Meaning) → Derived → Meaning
derived_meaning tags meaning (D.Pointer target) = pointer_to (meaning target.0)
derived_meaning tags meaning (D.Array element length) = array_of (meaning element.0) length
derived_meaning tags meaning (D.Struct tag) = struct_of (numbered tags tag.0)
derived_meaning tags meaning (D.Function result parameters) = function_of (meaning result.0) (meaning parameters.0)
derived_meaning tags meaning D.NoParameters = AList NoTypes
derived_meaning tags meaning (D.Parameter first others) = parameter_of (meaning first.0) (meaning others.0)

-- an entry refers to older ones only
abbrev pub meaning_in : List (List ℕ) → List Derived → ℕ → Meaning
meaning_in tags [] n = base_meaning n
meaning_in tags (newest ∷ older) n = if n == 9 + length older then derived_meaning tags (meaning_in tags older) newest else meaning_in tags older n

abbrev pub meaning_of : Interned → ℕ → Meaning
meaning_of table n = meaning_in table.tags table.entries n

abbrev pub IsAType : Meaning → Type 0
IsAType (AType c_type) = Unit {0}
IsAType _ = ⊥

abbrev pub IsAList : Meaning → Type 0
IsAList (AList list) = Unit {0}
IsAList _ = ⊥

abbrev pub the_type : Meaning → CType
the_type (AType c_type) = c_type
the_type _ = Void

abbrev pub the_types : Meaning → CTypes
the_types (AList list) = list
the_types _ = NoTypes

-- the number stands for a type
abbrev pub Stands : Interned → number.CType → Type 0
Stands table t = IsAType (meaning_of table t.0)

-- the type that it stands for
abbrev pub type_in : Interned → number.CType → CType
type_in table t = the_type (meaning_of table t.0)

-- the one number that stands for a type
pub record IsNumberOf (table : Interned) (c_type : CType) (own : number.CType) : Type 0 where
  pub stands : Stands table own
  pub means : type_in table own ≡ c_type
  pub only : (other : number.CType) → Stands table other → type_in table other ≡ c_type → other ≡ own

abbrev pub ListStands : Interned → numbers.Parameters → Type 0
ListStands table ps = IsAList (meaning_of table ps.0)

abbrev pub types_in : Interned → numbers.Parameters → CTypes
types_in table ps = the_types (meaning_of table ps.0)

abbrev pub KnownStands : Interned → Option number.CType → Type 0
KnownStands table (Some t) = Stands table t
KnownStands table None = Unit {0}

-- a structure's number is that of a tag
abbrev pub TagStands : Interned → tag.StructId → Type 0
TagStands table id = id.0 < length table.tags

abbrev pub the_tag : Option (List ℕ) → List ℕ
the_tag (Some tag) = tag
the_tag None = []

abbrev pub tag_in : Interned → tag.StructId → List ℕ
tag_in table id = the_tag (numbered table.tags id.0)

-- ---- structures

abbrev pub known_in : List (List ℕ) → List Derived → Option number.CType → Option CType
known_in tags entries (Some t) = Some (the_type (meaning_in tags entries t.0))
known_in tags entries None = None

abbrev pub member_def : List (List ℕ) → List Derived → MemberEntry → MemberDef
member_def tags entries member = record { name = member.name; c_type = known_in tags entries member.c_type }

abbrev pub member_defs : List (List ℕ) → List Derived → List MemberEntry → List MemberDef
member_defs tags entries members = map (member_def tags entries) members

abbrev pub struct_def : List (List ℕ) → List Derived → StructEntry → StructDef
struct_def tags entries struct = record { tag = the_tag (numbered tags struct.tag); members = member_defs tags entries struct.members }

abbrev pub struct_defs : List (List ℕ) → List Derived → List StructEntry → List StructDef
struct_defs tags entries structs = map (struct_def tags entries) structs

-- the structures that are completed, the newest first
abbrev pub structs_in : Interned → List StructDef
structs_in table = struct_defs table.tags table.entries table.structs

-- the members of a type that is a completed structure
abbrev pub members_of : List StructDef → CType → List MemberDef
members_of structs (Struct tag) = known_members (members_by_tag structs tag)
members_of structs _ = []

-- the number of the first of these names that is this one
abbrev pub member_number : List (List ℕ) → List ℕ → Option ℕ
member_number [] name = None
member_number (first ∷ names) name = if bytes_eq first name then Some 0 else option_map suc (member_number names name)

abbrev pub names_of : List MemberDef → List (List ℕ)
names_of members = map (λ member. member.name) members

-- what is found: the number of the first member of the name, and its type where that is known
abbrev pub IsMember : Interned → List MemberDef → List ℕ → Option MemberAt → Type 0
IsMember table members name (Some found) =
    (member_number (names_of members) name ≡ Some found.number)
    × (known_in table.tags table.entries found.c_type ≡ member_type (slice_get members found.number))
    × KnownStands table found.c_type
IsMember table members name None = member_number (names_of members) name ≡ None

-- the type of a member, where there is such a member and where it has a type
abbrev pub IsMemberType : Interned → Option MemberDef → Option (Option number.CType) → Type 0
IsMemberType table (Some member) (Some t) = (known_in table.tags table.entries t ≡ member.c_type) × KnownStands table t
IsMemberType table None None = Unit {0}
IsMemberType table _ _ = ⊥

-- where a member stands in its structure, and its type where it has one
abbrev pub IsMemberPlace : Interned → List MemberDef → ℕ → Option MemberPlace → Type 0
IsMemberPlace table members number (Some found) =
    (found.offset ≡ offset_before (layouts (structs_in table)) members number (slice_get members number))
    × (Some (known_in table.tags table.entries found.c_type) ≡ option_map (λ (member : MemberDef). member.c_type) (slice_get members number))
    × KnownStands table found.c_type
IsMemberPlace table members number None = slice_get members number ≡ None

-- the members that complete a structure
abbrev pub member_entries : List Member → List MemberEntry
member_entries members = map (λ member. record { name = member.name.items; c_type = member.c_type }) members

-- a complete object type, or none
abbrev pub IsCompleteMember : Interned → Option number.CType → Type 0
IsCompleteMember table (Some t) = Stands table t × (is_complete (structs_in table) (type_in table t) ≡ true)
IsCompleteMember table None = Unit {0}

-- each of these types is a complete object type
abbrev pub AreComplete : Interned → List MemberEntry → Type 0
AreComplete table [] = Unit {0}
AreComplete table (member ∷ members) = IsCompleteMember table member.c_type × AreComplete table members

-- ---- changes

-- Entries and tags are only added, and the structures stay.
pub record Grows (old new : Interned) : Type 0 where
  pub entries : (more : List Derived) × (new.entries ≡ more ++ old.entries)
  pub tags : (more : List (List ℕ)) × (new.tags ≡ more ++ old.tags)
  pub structs : structs_in new ≡ structs_in old

-- a type was made, and all else stays
pub record MakesType (old new : Interned) (t : number.CType) (c_type : CType) : Type 0 where
  pub stands : Stands new t
  pub means : type_in new t ≡ c_type
  pub grows : Grows old new

-- a list was made, and all else stays
pub record MakesList (old new : Interned) (ps : numbers.Parameters) (c_types : CTypes) : Type 0 where
  pub stands : ListStands new ps
  pub means : types_in new ps ≡ c_types
  pub grows : Grows old new

-- a structure was completed
abbrev pub completed : Interned → ℕ → List MemberEntry → Interned
completed table tag members = record table { structs = record { tag = tag; members = members } ∷ table.structs }

-- ---- shapes

-- the types of which a shape is made
abbrev pub PartsStand : Interned → Shape → Type 0
PartsStand table (S.Pointer target) = Stands table target
PartsStand table (S.Array element length) = Stands table element
PartsStand table (S.Struct id) = TagStands table id
PartsStand table (S.Function result parameters) = Stands table result × ListStands table parameters
PartsStand table _ = Unit {0}

abbrev pub shape_type : Interned → Shape → CType
shape_type table S.Void = Void
shape_type table (S.Integer int_type) = Integer int_type
shape_type table (S.Pointer target) = Pointer (type_in table target)
shape_type table (S.Array element length) = Array (type_in table element) length
shape_type table (S.Struct id) = Struct (tag_in table id)
shape_type table (S.Function result parameters) = Function (type_in table result) (types_in table parameters)

-- what a type is
pub record HasShape (table : Interned) (c_type : CType) (shape : Shape) : Type 0 where
  pub means : c_type ≡ shape_type table shape
  pub parts : PartsStand table shape

-- the first parameter of a list and the others
abbrev pub IsSplit : Interned → CTypes → Option (number.CType × numbers.Parameters) → Type 0
IsSplit table c_types None = c_types ≡ NoTypes
IsSplit table c_types (Some parts) =
    (c_types ≡ MoreTypes (type_in table parts.0) (types_in table parts.1)) × Stands table parts.0 × ListStands table parts.1
