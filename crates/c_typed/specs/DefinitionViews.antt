-- The typed program that one in memory stands for.
use Rattle.std.specs.Prelude.{◌≡◌, ℕ, suc, List, [], ◌∷◌, ◌++◌, map, pos}
use Rattle.c_typed.specs.declared.c_type.CType as number
use Rattle.c_typed.specs.declared.definition.Static as memory_static
use Rattle.c_typed.specs.declared.definition.Static.TheVariants as R
use Rattle.c_typed.specs.declared.definition.Scalar as memory_scalar
use Rattle.c_typed.specs.declared.definition.Scalar.TheVariants as C
use Rattle.c_typed.specs.declared.definition.Held as memory_held
use Rattle.c_num.specs.declared.IntType.{IntType}
use Rattle.c_num.specs.Conversion.{convert_to}
use Rattle.c_typed.specs.declared.part.Part.{Part}
use Rattle.c_typed.specs.declared.definition.First as memory_first
use Rattle.c_typed.specs.declared.definition.First.TheVariants as V
use Rattle.c_typed.specs.declared.definition.GlobalDef as memory_global
use Rattle.c_typed.specs.declared.definition.LiteralDef as memory_literal
use Rattle.c_typed.specs.declared.definition.FunctionDef as memory_function
use Rattle.c_typed.specs.declared.definition.Program as memory_program
use Rattle.c_typed.specs.Values.{Static, StaticVariable, StaticLiteral, FirstScalar, IntegerValue, NullValue, FunctionValue, PointerValue, Held}
use Rattle.c_typed.specs.Typed.{GlobalDef, LiteralDef, FunctionDef, Program}
use Rattle.c_typed.specs.Types.{literal_type}
use Rattle.c_typed.specs.Table.{Interned, Stands, type_in, structs_in}
use Rattle.c_typed.specs.StatementViews.{block_in, BlockStands}

abbrev pub static_of : memory_static.Static → Static
static_of (R.Variable name) = StaticVariable name
static_of (R.Literal place) = StaticLiteral place

abbrev pub scalar_of : memory_scalar.Scalar → FirstScalar
scalar_of (C.Integer value) = IntegerValue value
scalar_of C.Null = NullValue
scalar_of (C.Function name) = FunctionValue name
scalar_of (C.Pointer root parts index) = PointerValue (record { root = static_of root; steps = parts.items; index = index })

abbrev pub held_of : memory_held.Held → Held
held_of held = record { leaf = record { steps = held.parts.items; index = held.index }; value = scalar_of held.value }

-- bytes as the elements of a row, from an index on, converted to their type
abbrev pub characters_held : List Part → IntType → ℕ → List ℕ → List Held
characters_held steps int_type index [] = []
characters_held steps int_type index (byte ∷ bytes) = record { leaf = record { steps = steps; index = index }; value = IntegerValue (convert_to int_type (pos byte)) } ∷ characters_held steps int_type (suc index) bytes

abbrev pub first_of : memory_first.First → List Held
first_of (V.Scalar held) = held_of held ∷ []
first_of (V.Text parts int_type bytes) = characters_held parts.items int_type 0 bytes

abbrev pub all_first : List memory_first.First → List Held
all_first [] = []
all_first (first ∷ others) = first_of first ++ all_first others

abbrev pub global_in : Interned → memory_global.GlobalDef → GlobalDef
global_in table global = record { name = global.name; c_type = type_in table global.c_type; first = all_first global.first.items }

abbrev pub literal_of : memory_literal.LiteralDef → LiteralDef
literal_of literal = record { place = literal.place; bytes = literal.bytes }

abbrev pub function_in : Interned → memory_function.FunctionDef → FunctionDef
function_in table function =
    record {
      name = function.name;
      c_type = type_in table function.c_type;
      parameters = map (type_in table) function.parameters.items;
      result = type_in table function.returned;
      body = block_in table function.body.items;
    }

abbrev pub program_of : memory_program.Program → Program
program_of program =
    record {
      structs = structs_in program.types;
      completed = map (λ name. name) program.completed.items;
      globals = map (global_in program.types) program.globals.items;
      literals = map literal_of program.literals.items;
      functions = map (function_in program.types) program.functions.items;
    }

-- each of the types in it stands for one
abbrev pub TypesStand : Interned → List number.CType → Type 0
TypesStand table [] = Unit {0}
TypesStand table (first ∷ others) = Stands table first × TypesStand table others

abbrev pub FunctionStands : Interned → memory_function.FunctionDef → Type 0
FunctionStands table function = Stands table function.c_type × TypesStand table function.parameters.items × Stands table function.returned × BlockStands table function.body.items

abbrev pub GlobalStands : Interned → memory_global.GlobalDef → Type 0
GlobalStands table global = Stands table global.c_type

abbrev pub GlobalsStand : Interned → List memory_global.GlobalDef → Type 0
GlobalsStand table [] = Unit {0}
GlobalsStand table (first ∷ others) = GlobalStands table first × GlobalsStand table others

abbrev pub FunctionsStand : Interned → List memory_function.FunctionDef → Type 0
FunctionsStand table [] = Unit {0}
FunctionsStand table (first ∷ others) = FunctionStands table first × FunctionsStand table others

abbrev pub LiteralStands : Interned → memory_literal.LiteralDef → Type 0
LiteralStands table literal = Stands table literal.c_type × (type_in table literal.c_type ≡ literal_type literal.bytes)

abbrev pub LiteralsStand : Interned → List memory_literal.LiteralDef → Type 0
LiteralsStand table [] = Unit {0}
LiteralsStand table (first ∷ others) = LiteralStands table first × LiteralsStand table others

pub record ProgramStands (program : memory_program.Program) : Type 0 where
  pub globals : GlobalsStand program.types program.globals.items
  pub literals : LiteralsStand program.types program.literals.items
  pub functions : FunctionsStand program.types program.functions.items
