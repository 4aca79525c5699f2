-- Rows that end within 64 bits, and so do those to which their elements lead.
use Rattle.std.specs.Prelude.{ℕ, ◌+◌, ◌*◌, ◌<◌, ◌^◌, List, []}
use Rattle.c_typed.specs.declared.c_type.CType as number
use Rattle.c_typed.specs.Types.{CType}
use Rattle.c_typed.specs.Layouts.{StructDef, layout_of}
use Rattle.c_typed.specs.Table.{Interned, Stands, type_in, structs_in}
use Rattle.ref_semantics.specs.Values.{Heap, Row, Place, whole_row}
use Rattle.ref_semantics.specs.Store.{TypeEnvironment, member_at, decayed}

abbrev pub size_in : List StructDef → CType → ℕ
size_in structs c_type = (layout_of structs c_type).size

abbrev pub row_end : List StructDef → Row → ℕ
row_end structs row = row.start + row.count * size_in structs row.c_type

abbrev pub with_structs : List StructDef → TypeEnvironment
with_structs structs = record { structs = structs; completed = [] }

-- what is read of a place for its parts
abbrev pub element_at : Row → ℕ → Place
element_at row index = record { name = Heap 0; row = row; index = index }

-- the row of a member of an element, and that of its elements
abbrev pub member_row_of : List StructDef → Row → ℕ → ℕ → Row
member_row_of structs row index number = (member_at (with_structs structs) (element_at row index) number).row

abbrev pub inner_row_of : List StructDef → Row → ℕ → Row
inner_row_of structs row index = (decayed (with_structs structs) (element_at row index)).row

-- the rows to which the elements of a row lead, where their numbers of elements stand in 64 bits
pub data LeadsToRow (structs : List StructDef) (origin : Row) : Row → Type 0 where
  Origin : LeadsToRow structs origin origin
  ToMember : (row : Row) (index number : ℕ) → LeadsToRow structs origin row → index < row.count → row.count < 2 ^ 64 → LeadsToRow structs origin (member_row_of structs row index number)
  ToInner : (row : Row) (index : ℕ) → LeadsToRow structs origin row → index < row.count → row.count < 2 ^ 64 → LeadsToRow structs origin (inner_row_of structs row index)

-- each of them ends within 64 bits
abbrev pub AllEnd : List StructDef → Row → Type 0
AllEnd structs origin = (row : Row) → LeadsToRow structs origin row → row.count < 2 ^ 64 → row_end structs row < 2 ^ 64

-- a row in an object whose rows all do
pub record Fits (structs : List StructDef) (row : Row) : Type 0 where
  pub origin : Row
  pub all : AllEnd structs origin
  pub leads : LeadsToRow structs origin row

-- An element of a row, however many there are, and not its end.
pub record HasRoom (structs : List StructDef) (row : Row) (index : ℕ) : Type 0 where
  pub count : ℕ
  pub fits : Fits structs (record { start = row.start; c_type = row.c_type; count = count })
  pub within : index < count
  pub small : count < 2 ^ 64

-- objects of a type that fit in 64 bits have no row that doesn't
pub record IsObjectType (table : Interned) (c_type : number.CType) : Type 0 where
  pub stands : Stands table c_type
  pub fits : (count : ℕ) → count * size_in (structs_in table) (type_in table c_type) < 2 ^ 64 → AllEnd (structs_in table) (whole_row (type_in table c_type) count)

-- the type and the rows of an object of so many elements
abbrev pub ElementsStand : Interned → number.CType → ℕ → Type 0
ElementsStand table c_type count =
    Stands table c_type × AllEnd (structs_in table) (whole_row (type_in table c_type) count) × AllEnd (structs_in table) (whole_row (type_in table c_type) 1)
