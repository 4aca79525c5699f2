-- What stays of types while a table changes.
use Rattle.std.specs.Prelude.{◌≡◌, true}
use Rattle.c_typed.specs.declared.c_type.CType as number
use Rattle.c_typed.specs.Layouts.{is_complete}
use Rattle.c_typed.specs.Table.{Interned, Stands, type_in, structs_in}

-- the number of a complete object type
pub record IsObject (table : Interned) (t : number.CType) : Type 0 where
  pub stands : Stands table t
  pub complete : is_complete (structs_in table) (type_in table t) ≡ true

-- what stands still does, and what is complete still is
pub record Keeps (old new : Interned) : Type 0 where
  pub stands : (t : number.CType) → Stands old t → Stands new t
  pub objects : (t : number.CType) → IsObject old t → IsObject new t

-- a complete object type was made
pub record MakesObject (old new : Interned) (t : number.CType) : Type 0 where
  pub object : IsObject new t
  pub keeps : Keeps old new
