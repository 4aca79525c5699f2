-- What surrounds a typed tree, and what its names stand for.
use Rattle.std.specs.Prelude.{ℕ, ◌==◌, if◌then◌else◌, List, [], ◌∷◌, length, Option, Some, None, bytes_eq}
use Rattle.run_theory.specs.declared.place.Pos.{Pos}
use Rattle.c_typed.specs.Types.{CType}
use Rattle.c_typed.specs.Places.{is_same_place}
use Rattle.c_typed.specs.Typed.{GlobalDef, LiteralDef, FunctionDef, Program}

-- the program, and the types of the locals in scope, the newest first
pub record Context : Type 0 where
  pub program : Program
  pub locals : List CType

abbrev pub with_local : CType → Context → Context
with_local c_type around = record around { locals = c_type ∷ around.locals }

-- a local is numbered by how many others are in scope at its declaration, which are those behind it
abbrev pub local_type : List CType → ℕ → Option CType
local_type [] number = None
local_type (newest ∷ others) number = if length others == number then Some newest else local_type others number

-- of several of one name the first counts
abbrev pub global_type : List GlobalDef → List ℕ → Option CType
global_type [] name = None
global_type (first ∷ others) name = if bytes_eq first.name name then Some first.c_type else global_type others name

abbrev pub function_type : List FunctionDef → List ℕ → Option CType
function_type [] name = None
function_type (first ∷ others) name = if bytes_eq first.name name then Some first.c_type else function_type others name

-- the bytes of the literal at a place
abbrev pub literal_bytes : List LiteralDef → Pos → Option (List ℕ)
literal_bytes [] place = None
literal_bytes (first ∷ others) place = if is_same_place first.place place then Some first.bytes else literal_bytes others place
