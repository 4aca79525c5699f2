-- How a part is looked for in a type.
use Rattle.std.specs.Prelude.{◌≡◌, ◌⊎◌, ℕ, ◌+◌, ◌<◌, ◌≤◌, Bool, false, List, drop, Option, Some, None}
use Rattle.c_typed.specs.declared.c_type.CType as number
use Rattle.c_typed.specs.Types.{CType, Pointer, Array, Struct, is_array, is_pointer, is_function}
use Rattle.c_typed.specs.Layouts.{MemberDef, layouts, members_by_tag}
use Rattle.c_typed.specs.Table.{Interned, Stands, type_in, structs_in, members_of}
use Rattle.heap_graph.specs.Parts.{slots_of, begins, has_part, MemberIn}
use Rattle.heap_graph.specs.Height.{height}

-- the type of an array's elements, and their number
abbrev pub IsElement : Interned → CType → Option (number.CType × ℕ) → Type 0
IsElement table c_type (Some found) = (c_type ≡ Array (type_in table found.0) found.1) × Stands table found.0
IsElement table c_type None = is_array c_type ≡ false

-- whether a pointer points to functions
abbrev pub PointsTo : CType → Option Bool → Type 0
PointsTo c_type (Some functions) = (target : CType) × ((c_type ≡ Pointer target) × (functions ≡ is_function target))
PointsTo c_type None = is_pointer c_type ≡ false

-- The parts at a slot, but for the type itself, are those at a slot of a lower type, or there are none.
abbrev pub Leads : Interned → CType → ℕ → Option (number.CType × ℕ) → Type 0
Leads table own slot (Some found) =
    Stands table found.0 × (height (structs_in table) (type_in table found.0) < height (structs_in table) own)
    × ((part : CType) → 0 < slots_of (structs_in table) part → begins own slot part ≡ false → has_part (structs_in table) own slot part ≡ has_part (structs_in table) (type_in table found.0) found.1 part)
Leads table own slot None = (part : CType) → 0 < slots_of (structs_in table) part → begins own slot part ≡ false → has_part (structs_in table) own slot part ≡ false

-- a member of a structure, before which so many slots lie, has the slot
pub record HasSlot (table : Interned) (tag : List ℕ) (slot : ℕ) (c_type : CType) (front : ℕ) : Type 0 where
  pub members : List MemberDef
  pub has : members_by_tag (structs_in table) tag ≡ Some members
  pub member : MemberIn (layouts (structs_in table)) 0 members front c_type
  pub from : front ≤ slot
  pub to : slot < front + slots_of (structs_in table) c_type

-- the member that has the slot, or there is none
abbrev pub IsMemberOver : Interned → List ℕ → ℕ → Option (number.CType × ℕ) → Type 0
IsMemberOver table tag slot (Some found) = Stands table found.0 × HasSlot table tag slot (type_in table found.0) found.1
IsMemberOver table tag slot None =
    (members : List MemberDef) → members_by_tag (structs_in table) tag ≡ Some members → (at : ℕ) (t : CType) → MemberIn (layouts (structs_in table)) 0 members at t
    → at + slots_of (structs_in table) t ≤ slot

-- so many members of a structure, with so many slots, were looked at
pub record Searched (table : Interned) (tag : List ℕ) (slot front number : ℕ) : Type 0 where
  pub before : (at : ℕ) (t : CType) → MemberIn (layouts (structs_in table)) 0 (members_of (structs_in table) (Struct tag)) at t
      → (at + slots_of (structs_in table) t ≤ slot) ⊎ MemberIn (layouts (structs_in table)) front (drop number (members_of (structs_in table) (Struct tag))) at t
  pub after : (at : ℕ) (t : CType) → MemberIn (layouts (structs_in table)) front (drop number (members_of (structs_in table) (Struct tag))) at t
      → MemberIn (layouts (structs_in table)) 0 (members_of (structs_in table) (Struct tag)) at t
  pub from : front ≤ slot
