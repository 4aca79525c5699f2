-- The values, places and contents that those in memory stand for, in a table of types.
use Rattle.std.specs.Prelude.{Bool, ◌≤◌}
use Rattle.c_typed.specs.Table.{Interned, Stands, type_in, structs_in}
use Rattle.ref_semantics.specs.Values as V
use Rattle.ref_meaning.specs.declared.value.Name as memory_name
use Rattle.ref_meaning.specs.declared.value.Name.TheVariants as N
use Rattle.ref_meaning.specs.declared.value.Row as memory_row
use Rattle.ref_meaning.specs.declared.value.Place as memory_place
use Rattle.ref_meaning.specs.declared.value.Scalar as memory_scalar
use Rattle.ref_meaning.specs.declared.value.Scalar.TheVariants as M
use Rattle.ref_meaning.specs.Fitting.{Fits, HasRoom}

abbrev pub name_of : memory_name.Name → V.Name
name_of (N.Heap number) = V.Heap number
name_of (N.Outer name) = V.GlobalObject name.now
name_of (N.Text place) = V.LiteralObject place
name_of (N.Own number) = V.LocalObject number

abbrev pub row_in : Interned → memory_row.Row → V.Row
row_in table row = record { start = row.start; c_type = type_in table row.c_type; count = row.count }

abbrev pub place_in : Interned → memory_place.Place → V.Place
place_in table place = record { name = name_of place.name; row = row_in table place.row; index = place.index }

abbrev pub scalar_in : Interned → memory_scalar.Scalar → V.Scalar
scalar_in table (M.Integer value) = V.IntegerValue value
scalar_in table M.Null = V.NullValue
scalar_in table (M.Function name) = V.FunctionValue name.now
scalar_in table (M.Pointer place) = V.PointerValue (place_in table place)
scalar_in table (M.Raw number) = V.RawPointer number

-- Its type stands for one, its row ends within 64 bits, and it is in the row or at its end.
pub record PlaceStands (table : Interned) (place : memory_place.Place) : Type 0 where
  pub c_type : Stands table place.row.c_type
  pub fits : Fits (structs_in table) (row_in table place.row)
  pub within : place.index ≤ place.row.count

-- it is an element, of which there are members and elements
abbrev pub IsElement : Interned → memory_place.Place → Type 0
IsElement table place = HasRoom (structs_in table) (row_in table place.row) place.index

abbrev pub ScalarStands : Interned → memory_scalar.Scalar → Type 0
ScalarStands table (M.Pointer place) = PlaceStands table place
ScalarStands table _ = Unit {0}

-- the names of one object
abbrev pub same_memory : memory_name.Name → memory_name.Name → Bool
same_memory a b = V.same_name (name_of a) (name_of b)
