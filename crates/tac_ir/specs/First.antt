-- What a program in three-address code does from its beginning (C17 5.1.2.2.1, 6.7.9).
use Rattle.std.specs.Prelude.{ℕ, zero, suc, ◌==◌, Bool, false, if◌then◌else◌, List, [], ◌∷◌, slice_get, Option, Some, None, pos, bytes_eq}
use Rattle.run_theory.specs.declared.place.Pos.{Pos}
use Rattle.run_theory.specs.Runs.{steps, RunOf}
use Rattle.c_num.specs.declared.IntType.TheVariants as I
use Rattle.c_num.specs.Conversion.{convert_to}
use Rattle.c_typed.specs.declared.part.Part.{Part}
use Rattle.c_typed.specs.Types.{CType, Integer, literal_type}
use Rattle.c_typed.specs.Values as first
use Rattle.c_typed.specs.Places.{is_same_place}
use Rattle.c_typed.specs.Typed.{GlobalDef, LiteralDef}
use Rattle.tac_ir.specs.Values.{Object, OfGlobal, OfLiteral, Value, Number, NoAddress, Code, Address, Content, Absent, Typed, Objects}
use Rattle.tac_ir.specs.Events.{TacEvent}
use Rattle.tac_ir.specs.Layouts.{leaf_at, Inner, parts_of, moved}
use Rattle.tac_ir.specs.Trees.{no_registers}
use Rattle.tac_ir.specs.States.{InStart, State}
use Rattle.tac_ir.specs.Meaning.{act}
use Rattle.tac_ir.specs.Code.{Function, Tac}

-- the first of a name, by how many stand before it
abbrev pub named_global : ℕ → List GlobalDef → List ℕ → Option (ℕ × GlobalDef)
named_global number [] name = None
named_global number (first ∷ others) name = if bytes_eq first.name name then Some (number, first) else named_global (suc number) others name

abbrev pub named_function : ℕ → List Function → List ℕ → Option ℕ
named_function number [] name = None
named_function number (first ∷ others) name = if bytes_eq first.name name then Some number else named_function (suc number) others name

abbrev pub placed_literal : ℕ → List LiteralDef → Pos → Option (ℕ × LiteralDef)
placed_literal number [] place = None
placed_literal number (first ∷ others) place = if is_same_place first.place place then Some (number, first) else placed_literal (suc number) others place

-- a static object that a constant names, and its type
abbrev pub static_of : Tac → first.Static → Option (Object × CType)
static_of tac (first.StaticVariable name) = by (named_global 0 tac.globals name)
  where
    by : Option (ℕ × GlobalDef) → Option (Object × CType)
    by None = None
    by (Some found) = Some (OfGlobal found.0, found.1.c_type)
static_of tac (first.StaticLiteral place) = by (placed_literal 0 tac.literals place)
  where
    by : Option (ℕ × LiteralDef) → Option (Object × CType)
    by None = None
    by (Some found) = Some (OfLiteral found.0, literal_type found.1.bytes)

-- where a row's element stands, with the steps to the row, in an object of a type
abbrev pub offset_in : Tac → CType → List Part → ℕ → Option ℕ
offset_in tac c_type parts index = by (parts_of tac.structs parts (record { offset = 0; c_type = c_type }))
  where
    by : Option Inner → Option ℕ
    by None = None
    by (Some inner) = Some (moved tac.structs index inner).offset

abbrev pub address_of : Tac → first.FirstPlace → Option Value
address_of tac place = by (static_of tac place.root)
  where
    at : Object → Option ℕ → Option Value
    at object None = None
    at object (Some offset) = Some (Address object offset)

    by : Option (Object × CType) → Option Value
    by None = None
    by (Some root) = at root.0 (offset_in tac root.1 place.steps place.index)

abbrev pub constant_of : Tac → first.FirstScalar → Option Value
constant_of tac (first.IntegerValue z) = Some (Number z)
constant_of tac first.NullValue = Some NoAddress
constant_of tac (first.FunctionValue name) = by (named_function 0 tac.functions name)
  where
    by : Option ℕ → Option Value
    by None = None
    by (Some number) = Some (Code number)
constant_of tac (first.PointerValue place) = address_of tac place

-- zero or null (C17 6.7.9 paragraph 10)
abbrev pub cleared : Option CType → Option Value
cleared None = None
cleared (Some (Integer int_type)) = Some (Number (pos 0))
cleared (Some c_type) = Some NoAddress

abbrev pub is_at : ℕ → Option ℕ → Bool
is_at offset None = false
is_at offset (Some other) = other == offset

-- what a variable outside functions holds at first
abbrev pub first_held : Tac → CType → List first.Held → ℕ → Option Value
first_held tac c_type [] offset = cleared (leaf_at tac.structs c_type 1 offset)
first_held tac c_type (one ∷ others) offset =
    if is_at offset (offset_in tac c_type one.leaf.steps one.leaf.index) then constant_of tac one.value else first_held tac c_type others offset

abbrev pub global_content : Tac → Option GlobalDef → Content
global_content tac None = Absent
global_content tac (Some global) = Typed global.c_type 1 (first_held tac global.c_type global.first)

-- the bytes of a literal, and a zero (C17 6.4.5 paragraph 6)
abbrev pub characters : List ℕ → ℕ → Option Value
characters [] zero = Some (Number (pos 0))
characters [] (suc offset) = None
characters (byte ∷ bytes) zero = Some (Number (convert_to I.Char (pos byte)))
characters (byte ∷ bytes) (suc offset) = characters bytes offset

abbrev pub literal_content : Option LiteralDef → Content
literal_content None = Absent
literal_content (Some literal) = Typed (literal_type literal.bytes) 1 (characters literal.bytes)

abbrev pub first_objects : Tac → Objects
first_objects tac (OfGlobal number) = global_content tac (slice_get tac.globals number)
first_objects tac (OfLiteral number) = literal_content (slice_get tac.literals number)
first_objects tac object = Absent

-- the first state: `start` is about to call `main`
abbrev pub initial : Tac → List ℕ → State
initial tac input =
    record {
      running = record { owner = InStart; number = 0; registers = no_registers; at = 0 };
      callers = [];
      objects = first_objects tac;
      next_activation = 1;
      next_heap = 1;
      input = input;
      trace = [];
      paid = 0;
    }

-- the run of a program on an input
abbrev pub tac_run : Tac → List ℕ → RunOf TacEvent
tac_run tac input n = steps (act tac) (λ state. state.trace) n (initial tac input)
