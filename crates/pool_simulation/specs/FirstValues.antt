-- What is asked of the objects that live as long as the program, and of what they hold at first.
use Rattle.std.specs.Prelude.{◌≡◌, ◌<◌, ◌≤◌, ℕ, true, List, [], ◌∷◌, slice_get, Some}
use Rattle.c_typed.specs.Types.{CType, literal_type}
use Rattle.c_typed.specs.Layouts.{greatest}
use Rattle.c_typed.specs.Typed.{GlobalDef, LiteralDef}
use Rattle.c_typed.specs.Values.{Held}
use Rattle.tac_ir.specs.Values.{Object, Value, Address}
use Rattle.tac_ir.specs.Layouts.{size_of}
use Rattle.tac_ir.specs.Objects.{is_there, extent_of}
use Rattle.tac_ir.specs.First.{constant_of, first_objects}
use Rattle.tac_ir.specs.Code.{Tac}
use Rattle.pool_rewrite.specs.Rewriting.{slot_of, static_address}
use Rattle.pool_rewrite.specs.Standing.{MemoryMap}

-- their sizes are told exactly
pub record HasExactStatics (tac : Tac) : Type 0 where
  pub globals : (number : ℕ) (global : GlobalDef) → slice_get tac.globals number ≡ Some global → size_of tac.structs global.c_type < greatest
  pub literals : (number : ℕ) (literal : LiteralDef) → slice_get tac.literals number ≡ Some literal → size_of tac.structs (literal_type literal.bytes) < greatest

-- a pointer into one of these objects points to a place in it
abbrev pub IsInFirst : Tac → Value → Type 0
IsInFirst tac (Address object offset) = is_there (first_objects tac object) ≡ true → offset ≤ extent_of tac.structs (first_objects tac object)
IsInFirst tac value = Unit {0}

-- each constant among first values is such a value
abbrev pub EachConstant : Tac → (Value → Type 0) → List Held → Type 0
EachConstant tac holds [] = Unit {0}
EachConstant tac holds (one ∷ others) = ((value : Value) → constant_of tac one.value ≡ Some value → holds value) × EachConstant tac holds others

-- first values point to places in objects
abbrev pub HasFirstValues : Tac → Type 0
HasFirstValues tac = (number : ℕ) (global : GlobalDef) → slice_get tac.globals number ≡ Some global → EachConstant tac (IsInFirst tac) global.first

-- a map puts these objects where the code has them
pub record MapsStatics (tac : Tac) (memory : MemoryMap) : Type 0 where
  pub address : (object : Object) → is_there (first_objects tac object) ≡ true → memory.address object ≡ Some (static_address tac object)
  pub moved : (object : Object) (offset : ℕ) → is_there (first_objects tac object) ≡ true → memory.moved object offset ≡ offset
  pub slot : (object : Object) (offset : ℕ) (own : CType) → is_there (first_objects tac object) ≡ true → memory.slot object offset own ≡ slot_of own
