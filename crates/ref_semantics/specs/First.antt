-- What a program does from its beginning (C17 5.1.2.2.1, 5.1.2.2.3, 6.7.9 paragraph 10).
use Rattle.std.specs.Prelude.{ℕ, zero, suc, ◌-◌, true, ◌==◌, if◌then◌else◌, List, [], ◌∷◌, Option, Some, None, pos, bytes_eq, codes}
use Rattle.run_theory.specs.Runs.{Answer, Over, Ended}
use Rattle.run_theory.specs.declared.place.Pos.{Pos}
use Rattle.c_num.specs.declared.IntType.TheVariants as I
use Rattle.c_num.specs.Conversion.{convert_to}
use Rattle.c_typed.specs.Types.{CType, Void, Integer, Function, NoTypes, literal_type}
use Rattle.c_typed.specs.Values as first
use Rattle.c_typed.specs.Typed.{GlobalDef, LiteralDef, Program}
use Rattle.c_typed.specs.declared.part.Part.{Part}
use Rattle.c_typed.specs.declared.part.Part.TheVariants as Parts
use Rattle.c_typed.specs.Places.{is_same_place}
use Rattle.ref_semantics.specs.Values.{Name, Heap, GlobalObject, LiteralObject, Place, Scalar, IntegerValue, NullValue, FunctionValue, PointerValue, Content, Dead, Elements, object_place, at_index}
use Rattle.ref_semantics.specs.Store.{TypeEnvironment, Objects, State, Outcome, Then, Stopped, Eval, offset_of, member_at, decayed}
use Rattle.ref_semantics.specs.Library.{low_byte}
use Rattle.ref_semantics.specs.Meaning.{call_named, bodies_within, greatest_depth}

abbrev pub around_of : Program → TypeEnvironment
around_of program = record { structs = program.structs; completed = program.completed }

-- ---- objects that live as long as the program (C17 6.2.4 paragraph 3)

abbrev pub type_of_global : List GlobalDef → List ℕ → Option CType
type_of_global [] name = None
type_of_global (first ∷ others) name = if bytes_eq first.name name then Some first.c_type else type_of_global others name

abbrev pub literal_at : List LiteralDef → Pos → Option LiteralDef
literal_at [] place = None
literal_at (first ∷ others) place = if is_same_place first.place place then Some first else literal_at others place

abbrev pub or_void : Option CType → CType
or_void (Some c_type) = c_type
or_void None = Void

abbrev pub option_type : Option LiteralDef → Option CType
option_type (Some literal) = Some (literal_type literal.bytes)
option_type None = None

abbrev pub static_type : Program → Name → CType
static_type program (GlobalObject name) = or_void (type_of_global program.globals name)
static_type program (LiteralObject place) = or_void (option_type (literal_at program.literals place))
static_type program _ = Void

-- ---- first values

abbrev pub name_of : first.Static → Name
name_of (first.StaticVariable name) = GlobalObject name
name_of (first.StaticLiteral place) = LiteralObject place

abbrev pub stepped : TypeEnvironment → Place → Part → Place
stepped around place (Parts.Member index number) = member_at around (at_index place index) number
stepped around place (Parts.Elements index) = decayed around (at_index place index)

-- the element with an index of the row to which steps lead
abbrev pub walked : TypeEnvironment → Place → List Part → ℕ → Place
walked around place [] index = at_index place index
walked around place (step ∷ steps) index = walked around (stepped around place step) steps index

abbrev pub first_place : Program → first.FirstPlace → Place
first_place program place = walked (around_of program) (object_place (name_of place.root) (static_type program (name_of place.root))) place.steps place.index

abbrev pub first_scalar : Program → first.FirstScalar → Scalar
first_scalar program (first.IntegerValue z) = IntegerValue z
first_scalar program first.NullValue = NullValue
first_scalar program (first.FunctionValue name) = FunctionValue name
first_scalar program (first.PointerValue place) = PointerValue (first_place program place)

-- the scalars of an object of a type, by their offsets
abbrev pub first_held : Program → CType → List first.Held → ℕ → Option Scalar
first_held program c_type [] offset = None
first_held program c_type (one ∷ others) offset =
    if offset_of (around_of program) (walked (around_of program) (object_place (Heap 0) c_type) one.leaf.steps one.leaf.index) == offset
    then Some (first_scalar program one.value) else first_held program c_type others offset

abbrev pub global_content : Program → List GlobalDef → List ℕ → Content
global_content program [] name = Dead
global_content program (first ∷ others) name =
    if bytes_eq first.name name then Elements true first.c_type 1 (first_held program first.c_type first.first) else global_content program others name

-- the bytes of a literal, as the characters of its array
abbrev pub characters : List ℕ → ℕ → Option Scalar
characters [] offset = None
characters (byte ∷ bytes) zero = Some (IntegerValue (convert_to I.Char (pos byte)))
characters (byte ∷ bytes) (suc offset) = characters bytes offset

abbrev pub literal_content : Option LiteralDef → Content
literal_content None = Dead
literal_content (Some literal) = Elements true (literal_type literal.bytes) 1 (characters literal.bytes)

abbrev pub first_objects : Program → Objects
first_objects program (GlobalObject name) = global_content program program.globals name
first_objects program (LiteralObject place) = literal_content (literal_at program.literals place)
first_objects program _ = Dead

abbrev pub first_state : Program → List ℕ → ℕ → State
first_state program input units =
    record { units = units; input = input; trace = []; objects = first_objects program; locals = []; next_local = 1; next_heap = 1 }

-- ---- runs

abbrev pub status_of : Outcome Scalar → Answer
status_of (Then value state) = Over (Ended (low_byte value)) state.trace
status_of (Stopped answer state) = answer

abbrev pub main_type : CType
main_type = Function (Integer I.Int) NoTypes

abbrev pub run_main : Program → Eval Scalar
run_main program = call_named program.functions (bodies_within (around_of program) program.functions greatest_depth) (record { line = 1; column = 1 }) true main_type (FunctionValue (codes "main")) []

-- what a program does with an input and so many units
abbrev pub reference : Program → List ℕ → ℕ → Answer
reference program input units = status_of (run_main program (first_state program input units))

abbrev pub units_left : Outcome Scalar → ℕ
units_left (Then value state) = state.units
units_left (Stopped answer state) = state.units

-- the units that it has spent then
abbrev pub spent : Program → List ℕ → ℕ → ℕ
spent program input units = units - units_left (run_main program (first_state program input units))
