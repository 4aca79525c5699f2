-- Types that tests make.
use Rattle.std.specs.Prelude.{◌≡◌, true, List, [], ◌∷◌}
use Rattle.c_typed.specs.declared.c_type.CType as number
use Rattle.c_typed.specs.Inside.{is_sized}
use Rattle.c_typed.specs.Table.{Interned, Stands, type_in, structs_in}
use Rattle.heap_graph.specs.Structures.{AreMade}

-- the number of an object type whose size is known
pub record IsSized (table : Interned) (t : number.CType) : Type 0 where
  pub stands : Stands table t
  pub sized : is_sized (structs_in table) (type_in table t) ≡ true

abbrev pub AreSized : Interned → List number.CType → Type 0
AreSized table [] = Unit {0}
AreSized table (t ∷ ts) = IsSized table t × AreSized table ts

-- such a type was made
pub record Adds (old new : Interned) (t : number.CType) : Type 0 where
  pub sized : IsSized new t
  pub keeps : (other : number.CType) → IsSized old other → IsSized new other
  pub made : AreMade (structs_in old) → AreMade (structs_in new)

-- all that is kept of types
pub record AreTypes (table : Interned) (list : List number.CType) : Type 0 where
  pub made : AreMade (structs_in table)
  pub sized : AreSized table list
