-- The objects that live as long as the program stand in the bytes of the globals at first.
use Rattle.std.proofs.Common.{◌≡◌, ℕ, zero, suc, ◌+◌, ◌-◌, ◌*◌, ◌%◌, ◌^◌, ◌<◌, ◌≤◌, nat_le, Bool, true, false, cond, List, [], ◌∷◌, length, slice_get, Option, Some, None, ℤ, pos, refl, sym, ap, subst, ◌∙◌, ◌⊎◌, inl, inr, arith, mod-eq_of_lt, bytes_eq}
use Rattle.std.proofs.lemmas.Bool.{false≢true, and_from, le-leb}
use Rattle.std.proofs.lemmas.Option.{none-some, same_Some}
use Rattle.c_num.specs.declared.IntType.TheVariants as I
use Rattle.c_num.specs.Conversion.{convert_to}
use Rattle.c_num.proofs.Outcomes.{is_value-Decides}
use Rattle.c_typed.specs.Values as first
use Rattle.c_typed.specs.Types.{CType, Void, Integer, Pointer, Array, Struct, Function, literal_type}
use Rattle.c_typed.specs.Layouts.{greatest}
use Rattle.c_typed.specs.Typed.{GlobalDef, LiteralDef}
use Rattle.tac_ir.specs.Values.{Object, OfHeap, OfGlobal, OfLiteral, OfActivation, Value, Number, NoAddress, Code, Address, Content, Absent, Untyped, Typed}
use Rattle.tac_ir.specs.Layouts.{size_of, leaf_at}
use Rattle.tac_ir.specs.Objects.{is_there, extent_of, fits, held_at}
use Rattle.tac_ir.specs.First.{named_global, named_function, placed_literal, static_of, offset_in, address_of, constant_of, cleared, is_at, first_held, characters, global_content, literal_content, first_objects}
use Rattle.tac_ir.specs.Code.{Tac}
use Rattle.tac_ir.specs.Code as O
use Rattle.pool_isa.specs.Machine.{globals_start, in_globals}
use Rattle.pool_ir.specs.Code.{Slot}
use Rattle.pool_ir.specs.States.{State}
use Rattle.pool_ir.specs.Memory.{activations_of, frame_number, number_at, slot_size, slot_word}
use Rattle.pool_rewrite.specs.Placing.{global_offset, literal_offset, statics_size}
use Rattle.pool_rewrite.specs.Rewriting.{slot_of, static_address, value_word, first_contents}
use Rattle.pool_rewrite.specs.Standing.{MemoryMap, Stands, ContentStands, AreApart, MemoryStands}
use Rattle.pool_simulation.specs.FirstValues.{HasExactStatics, IsInFirst, EachConstant, HasFirstValues, MapsStatics}
use Rattle.pool_simulation.proofs.LeavesApart.{leaf_within}
use Rattle.pool_simulation.proofs.Placed.{global_within, literal_within, globals_apart, literals_apart, global_before_literal}
use Rattle.pool_simulation.proofs.FirstWords.{loaded_value}
use Rattle.pool_simulation.proofs.FirstBytes.{read_at}
use Rattle.pool_simulation.proofs.LiteralBytes.{global_first, literal_first}

-- sizes are exact where all together are
pub exact_statics : (tac : Tac) → statics_size tac < greatest → HasExactStatics tac
exact_statics tac small =
    record {
      globals = λ number global there. by (global_offset tac number) (size_of tac.structs global.c_type) (statics_size tac) (global_within tac number global there) small;
      literals = λ number literal there. by (literal_offset tac number) (size_of tac.structs (literal_type literal.bytes)) (statics_size tac) (literal_within tac number literal there) small;
    }
  where
    by : (start size all : ℕ) → start + size ≤ all → all < greatest → size < greatest
    by start size all le lt = omega arith

-- where such an object begins in the bytes of the globals
abbrev pub static_place : Tac → Object → ℕ
static_place tac (OfGlobal number) = global_offset tac number
static_place tac (OfLiteral number) = literal_offset tac number
static_place tac object = 0

-- an object whose scalars stand so many bytes behind the beginning
pub record LiesAt (tac : Tac) (start : ℕ) (c_type : CType) (count : ℕ) (held : ℕ → Option Value) : Type 0 where
  pub exact : size_of tac.structs c_type < greatest
  pub room : start + count * size_of tac.structs c_type ≤ statics_size tac
  pub reads : (offset : ℕ) (own : CType) (value : Value) → leaf_at tac.structs c_type count offset ≡ Some own → held offset ≡ Some value
      → read_at (first_contents tac) (start + offset) (slot_size (slot_of own)) ≡ value_word tac (Some value) % 2 ^ (8 * slot_size (slot_of own))

abbrev pub ContentLies : Tac → ℕ → Content → Type 0
ContentLies tac start (Typed c_type count held) = LiesAt tac start c_type count held
ContentLies tac start content = Unit {0}

module _ (tac : Tac) (exact : HasExactStatics tac) where
  global_lies : (number : ℕ) (found : Option GlobalDef) → slice_get tac.globals number ≡ found → ContentLies tac (global_offset tac number) (global_content tac found)
  global_lies number None is = tt
  global_lies number (Some global) is =
      record {
        exact = exact.globals number global is;
        room = by (global_offset tac number) (size_of tac.structs global.c_type) (statics_size tac) (global_within tac number global is);
        reads = λ offset own value leaf held. global_first tac exact number global is offset own leaf value held;
      }
    where
      by : (start size all : ℕ) → start + size ≤ all → start + 1 * size ≤ all
      by start size all le = omega arith

  literal_lies : (number : ℕ) (found : Option LiteralDef) → slice_get tac.literals number ≡ found → ContentLies tac (literal_offset tac number) (literal_content found)
  literal_lies number None is = tt
  literal_lies number (Some literal) is =
      record {
        exact = exact.literals number literal is;
        room = by (literal_offset tac number) (size_of tac.structs (literal_type literal.bytes)) (statics_size tac) (literal_within tac number literal is);
        reads = λ offset own value leaf held. literal_first tac exact number literal is offset own leaf value held;
      }
    where
      by : (start size all : ℕ) → start + size ≤ all → start + 1 * size ≤ all
      by start size all le = omega arith

  pub object_lies : (object : Object) → ContentLies tac (static_place tac object) (first_objects tac object)
  object_lies (OfGlobal number) = global_lies number (slice_get tac.globals number) refl
  object_lies (OfLiteral number) = literal_lies number (slice_get tac.literals number) refl
  object_lies (OfHeap number) = tt
  object_lies (OfActivation number local) = tt

  -- an address in an object is within the globals or at their end
  pub static_address_within : (object : Object) → is_there (first_objects tac object) ≡ true → (offset : ℕ) → offset ≤ extent_of tac.structs (first_objects tac object)
      → static_address tac object + offset ≤ globals_start + statics_size tac
  static_address_within (OfGlobal number) there offset le = by (slice_get tac.globals number) refl there le
    where
      ends : (start size all : ℕ) → start + size ≤ all → offset ≤ 1 * size → globals_start + start + offset ≤ globals_start + all
      ends start size all room le = omega arith

      by : (found : Option GlobalDef) → slice_get tac.globals number ≡ found → is_there (global_content tac found) ≡ true → offset ≤ extent_of tac.structs (global_content tac found)
          → globals_start + global_offset tac number + offset ≤ globals_start + statics_size tac
      by None is there le = absurd (false≢true there)
      by (Some global) is there le = ends (global_offset tac number) (size_of tac.structs global.c_type) (statics_size tac) (global_within tac number global is) le
  static_address_within (OfLiteral number) there offset le = by (slice_get tac.literals number) refl there le
    where
      ends : (start size all : ℕ) → start + size ≤ all → offset ≤ 1 * size → globals_start + start + offset ≤ globals_start + all
      ends start size all room le = omega arith

      by : (found : Option LiteralDef) → slice_get tac.literals number ≡ found → is_there (literal_content found) ≡ true → offset ≤ extent_of tac.structs (literal_content found)
          → globals_start + literal_offset tac number + offset ≤ globals_start + statics_size tac
      by None is there le = absurd (false≢true there)
      by (Some literal) is there le = ends (literal_offset tac number) (size_of tac.structs (literal_type literal.bytes)) (statics_size tac) (literal_within tac number literal is) le
  static_address_within (OfHeap number) there offset le = absurd (false≢true there)
  static_address_within (OfActivation number local) there offset le = absurd (false≢true there)

-- ---- what they hold

module _ (tac : Tac) (holds : Value → Type 0) (number : (z : ℤ) → holds (Number z)) (null : holds NoAddress) where
  -- what is cleared is zero or null
  cleared_holds : (own : Option CType) (value : Value) → cleared own ≡ Some value → holds value
  cleared_holds None value is = absurd (none-some value is)
  cleared_holds (Some (Integer t)) value is = subst holds (same_Some (Number (pos 0)) value is) (number (pos 0))
  cleared_holds (Some Void) value is = subst holds (same_Some NoAddress value is) null
  cleared_holds (Some (Pointer t)) value is = subst holds (same_Some NoAddress value is) null
  cleared_holds (Some (Array t n)) value is = subst holds (same_Some NoAddress value is) null
  cleared_holds (Some (Struct tag)) value is = subst holds (same_Some NoAddress value is) null
  cleared_holds (Some (Function t ts)) value is = subst holds (same_Some NoAddress value is) null

  variable_holds : (c_type : CType) (held : List first.Held) → EachConstant tac holds held → (offset : ℕ) (value : Value) → first_held tac c_type held offset ≡ Some value → holds value
  variable_holds c_type [] are offset value is = cleared_holds (leaf_at tac.structs c_type 1 offset) value is
  variable_holds c_type (one ∷ others) are offset value is =
      by (is_at offset (offset_in tac c_type one.leaf.steps one.leaf.index)) is (variable_holds c_type others are.1 offset value)
    where
      by : (b : Bool) → cond b (constant_of tac one.value) (first_held tac c_type others offset) ≡ Some value → (first_held tac c_type others offset ≡ Some value → holds value) → holds value
      by true is rest = are.0 value is
      by false is rest = rest is

  characters_hold : (bytes : List ℕ) (offset : ℕ) (value : Value) → characters bytes offset ≡ Some value → holds value
  characters_hold [] zero value is = subst holds (same_Some (Number (pos 0)) value is) (number (pos 0))
  characters_hold [] (suc offset) value is = absurd (none-some value is)
  characters_hold (byte ∷ bytes) zero value is = subst holds (same_Some (Number (convert_to I.Char (pos byte))) value is) (number (convert_to I.Char (pos byte)))
  characters_hold (byte ∷ bytes) (suc offset) value is = characters_hold bytes offset value is

  -- what holds of all numbers, of the null pointer, and of all constants holds of all that is there at first
  pub first_holds : ((at : ℕ) (global : GlobalDef) → slice_get tac.globals at ≡ Some global → EachConstant tac holds global.first)
      → (object : Object) (offset : ℕ) (value : Value) → held_at offset (first_objects tac object) ≡ Some value → holds value
  first_holds each (OfGlobal at) offset value is = by (slice_get tac.globals at) refl is
    where
      by : (found : Option GlobalDef) → slice_get tac.globals at ≡ found → held_at offset (global_content tac found) ≡ Some value → holds value
      by None there is = absurd (none-some value is)
      by (Some global) there is = variable_holds global.c_type global.first (each at global there) offset value is
  first_holds each (OfLiteral at) offset value is = by (slice_get tac.literals at) is
    where
      by : (found : Option LiteralDef) → held_at offset (literal_content found) ≡ Some value → holds value
      by None is = absurd (none-some value is)
      by (Some literal) is = characters_hold literal.bytes offset value is
  first_holds each (OfHeap at) offset value is = absurd (none-some value is)
  first_holds each (OfActivation at local) offset value is = absurd (none-some value is)

-- first values point into objects
pub first_inside : (tac : Tac) → HasFirstValues tac → (object : Object) (offset : ℕ) (value : Value) → held_at offset (first_objects tac object) ≡ Some value → IsInFirst tac value
first_inside tac values = first_holds tac (IsInFirst tac) (λ z. tt) tt values

-- ---- they point to objects that live as long as the program

abbrev pub IsStaticObject : Object → Type 0
IsStaticObject (OfGlobal number) = Unit {0}
IsStaticObject (OfLiteral number) = Unit {0}
IsStaticObject object = ⊥

abbrev pub IsStatic : Value → Type 0
IsStatic (Address object offset) = IsStaticObject object
IsStatic value = Unit {0}

-- a pointer into such an object
abbrev IsAddress : Value → Type 0
IsAddress (Address object offset) = IsStaticObject object
IsAddress value = ⊥

root_static : (tac : Tac) (root : first.Static) (found : Object × CType) → static_of tac root ≡ Some found → IsStaticObject found.0
root_static tac (first.StaticVariable name) found is = by (named_global 0 tac.globals name) is
  where
    of_global : Option (ℕ × GlobalDef) → Option (Object × CType)
    of_global None = None
    of_global (Some which) = Some (OfGlobal which.0, which.1.c_type)

    by : (which : Option (ℕ × GlobalDef)) → of_global which ≡ Some found → IsStaticObject found.0
    by None is = absurd (none-some found is)
    by (Some which) is = subst (λ (root : Object × CType). IsStaticObject root.0) (same_Some (OfGlobal which.0, which.1.c_type) found is) tt
root_static tac (first.StaticLiteral place) found is = by (placed_literal 0 tac.literals place) is
  where
    of_literal : Option (ℕ × LiteralDef) → Option (Object × CType)
    of_literal None = None
    of_literal (Some which) = Some (OfLiteral which.0, literal_type which.1.bytes)

    by : (which : Option (ℕ × LiteralDef)) → of_literal which ≡ Some found → IsStaticObject found.0
    by None is = absurd (none-some found is)
    by (Some which) is = subst (λ (root : Object × CType). IsStaticObject root.0) (same_Some (OfLiteral which.0, literal_type which.1.bytes) found is) tt

pointer_address : (tac : Tac) (place : first.FirstPlace) (value : Value) → address_of tac place ≡ Some value → IsAddress value
pointer_address tac place value is = by (static_of tac place.root) refl is
  where
    at : Object → Option ℕ → Option Value
    at object None = None
    at object (Some offset) = Some (Address object offset)

    through : Option (Object × CType) → Option Value
    through None = None
    through (Some root) = at root.0 (offset_in tac root.1 place.steps place.index)

    placed : (object : Object) (offset : Option ℕ) → IsStaticObject object → at object offset ≡ Some value → IsAddress value
    placed object None static is = absurd (none-some value is)
    placed object (Some offset) static is = subst IsAddress (same_Some (Address object offset) value is) static

    by : (found : Option (Object × CType)) → static_of tac place.root ≡ found → through found ≡ Some value → IsAddress value
    by None there is = absurd (none-some value is)
    by (Some root) there is = placed root.0 (offset_in tac root.1 place.steps place.index) (root_static tac place.root root there) is

address_static : (value : Value) → IsAddress value → IsStatic value
address_static (Number z) is = tt
address_static NoAddress is = tt
address_static (Code function) is = tt
address_static (Address object offset) is = is

constant_static : (tac : Tac) (constant : first.FirstScalar) (value : Value) → constant_of tac constant ≡ Some value → IsStatic value
constant_static tac (first.IntegerValue z) value is = subst IsStatic (same_Some (Number z) value is) tt
constant_static tac first.NullValue value is = subst IsStatic (same_Some NoAddress value is) tt
constant_static tac (first.FunctionValue name) value is = by (named_function 0 tac.functions name) is
  where
    of_function : Option ℕ → Option Value
    of_function None = None
    of_function (Some number) = Some (Code number)

    by : (found : Option ℕ) → of_function found ≡ Some value → IsStatic value
    by None is = absurd (none-some value is)
    by (Some number) is = subst IsStatic (same_Some (Code number) value is) tt
constant_static tac (first.PointerValue place) value is = address_static value (pointer_address tac place value is)

each_static : (tac : Tac) (held : List first.Held) → EachConstant tac IsStatic held
each_static tac [] = tt
each_static tac (one ∷ others) = (constant_static tac one.value, each_static tac others)

pub first_static : (tac : Tac) (object : Object) (offset : ℕ) (value : Value) → held_at offset (first_objects tac object) ≡ Some value → IsStatic value
first_static tac = first_holds tac IsStatic (λ z. tt) tt (λ at global there. each_static tac global.first)

-- ---- those to functions have the numbers of functions

abbrev pub IsNumbered : Tac → Value → Type 0
IsNumbered tac (Code function) = function < length tac.functions
IsNumbered tac value = Unit {0}

named_below : (number : ℕ) (functions : List O.Function) (name : List ℕ) (found : ℕ) → named_function number functions name ≡ Some found → found < number + length functions
named_below number [] name found is = absurd (none-some found is)
named_below number (first ∷ others) name found is = by (bytes_eq first.name name) is (named_below (suc number) others name found)
  where
    by : (b : Bool) → cond b (Some number) (named_function (suc number) others name) ≡ Some found → (named_function (suc number) others name ≡ Some found → found < suc number + length others)
        → found < number + suc (length others)
    by true is rest = let here : number ≡ found = same_Some number found is in omega (arith, here)
    by false is rest = omega (arith, rest is)

constant_numbered : (tac : Tac) (constant : first.FirstScalar) (value : Value) → constant_of tac constant ≡ Some value → IsNumbered tac value
constant_numbered tac (first.IntegerValue z) value is = subst (IsNumbered tac) (same_Some (Number z) value is) tt
constant_numbered tac first.NullValue value is = subst (IsNumbered tac) (same_Some NoAddress value is) tt
constant_numbered tac (first.FunctionValue name) value is = by (named_function 0 tac.functions name) refl is
  where
    of_function : Option ℕ → Option Value
    of_function None = None
    of_function (Some number) = Some (Code number)

    by : (found : Option ℕ) → named_function 0 tac.functions name ≡ found → of_function found ≡ Some value → IsNumbered tac value
    by None there is = absurd (none-some value is)
    by (Some number) there is = subst (IsNumbered tac) (same_Some (Code number) value is) (let below : number < length tac.functions = omega (arith, named_below 0 tac.functions name number there) in below)
constant_numbered tac (first.PointerValue place) value is = pointer_is value (pointer_address tac place value is)
  where
    pointer_is : (value : Value) → IsAddress value → IsNumbered tac value
    pointer_is (Number z) is = tt
    pointer_is NoAddress is = tt
    pointer_is (Code function) is = absurd is
    pointer_is (Address object offset) is = tt

each_numbered : (tac : Tac) (held : List first.Held) → EachConstant tac (IsNumbered tac) held
each_numbered tac [] = tt
each_numbered tac (one ∷ others) = (constant_numbered tac one.value, each_numbered tac others)

pub first_numbered : (tac : Tac) (object : Object) (offset : ℕ) (value : Value) → held_at offset (first_objects tac object) ≡ Some value → IsNumbered tac value
first_numbered tac = first_holds tac (IsNumbered tac) (λ z. tt) tt (λ at global there. each_numbered tac global.first)

-- ---- they lie apart

module _ (tac : Tac) (exact : HasExactStatics tac) where
  abbrev extent : Object → ℕ
  extent object = extent_of tac.structs (first_objects tac object)

  abbrev Apart : Object → Object → Type 0
  Apart object other = (object ≡ other) ⊎ AreApart (static_address tac object) (extent object) (static_address tac other) (extent other)

  moved_apart : (start size other other_size : ℕ) → AreApart start size other other_size → AreApart (globals_start + start) (1 * size) (globals_start + other) (1 * other_size)
  moved_apart start size other other_size (inl before) = inl (omega arith)
  moved_apart start size other other_size (inr past) = inr (omega arith)

  swapped : (object other : Object) → Apart object other → Apart other object
  swapped object other (inl same) = inl (sym same)
  swapped object other (inr (inl before)) = inr (inr before)
  swapped object other (inr (inr past)) = inr (inl past)

  global_there : (found : Option GlobalDef) → is_there (global_content tac found) ≡ true → (global : GlobalDef) × (found ≡ Some global)
  global_there None there = absurd (false≢true there)
  global_there (Some global) there = (global, refl)

  literal_there : (found : Option LiteralDef) → is_there (literal_content found) ≡ true → (literal : LiteralDef) × (found ≡ Some literal)
  literal_there None there = absurd (false≢true there)
  literal_there (Some literal) there = (literal, refl)

  global_extent : (number : ℕ) (global : GlobalDef) → slice_get tac.globals number ≡ Some global → extent (OfGlobal number) ≡ 1 * size_of tac.structs global.c_type
  global_extent number global is = ap (λ (found : Option GlobalDef). extent_of tac.structs (global_content tac found)) is

  literal_extent : (number : ℕ) (literal : LiteralDef) → slice_get tac.literals number ≡ Some literal → extent (OfLiteral number) ≡ 1 * size_of tac.structs (literal_type literal.bytes)
  literal_extent number literal is = ap (λ (found : Option LiteralDef). extent_of tac.structs (literal_content found)) is

  with_extents : (start other a b a' b' : ℕ) → a ≡ a' → b ≡ b' → AreApart start a' other b' → AreApart start a other b
  with_extents start other a b a' b' e e' (inl before) = inl (omega arith)
  with_extents start other a b a' b' e e' (inr past) = inr (omega arith)

  globals_lie_apart : (number other : ℕ) (global other_global : GlobalDef) → slice_get tac.globals number ≡ Some global → slice_get tac.globals other ≡ Some other_global → Apart (OfGlobal number) (OfGlobal other)
  globals_lie_apart number other global other_global is other_is = by (globals_apart tac number other global other_global is other_is)
    where
      by : (number ≡ other) ⊎ AreApart (global_offset tac number) (size_of tac.structs global.c_type) (global_offset tac other) (size_of tac.structs other_global.c_type) → Apart (OfGlobal number) (OfGlobal other)
      by (inl same) = inl (ap OfGlobal same)
      by (inr apart) =
          inr (with_extents (globals_start + global_offset tac number) (globals_start + global_offset tac other) (extent (OfGlobal number)) (extent (OfGlobal other)) (1 * size_of tac.structs global.c_type)
          (1 * size_of tac.structs other_global.c_type) (global_extent number global is) (global_extent other other_global other_is)
          (moved_apart (global_offset tac number) (size_of tac.structs global.c_type) (global_offset tac other) (size_of tac.structs other_global.c_type) apart))

  literals_lie_apart : (number other : ℕ) (literal other_literal : LiteralDef) → slice_get tac.literals number ≡ Some literal → slice_get tac.literals other ≡ Some other_literal → Apart (OfLiteral number) (OfLiteral other)
  literals_lie_apart number other literal other_literal is other_is = by (literals_apart tac number other literal other_literal is other_is)
    where
      by : (number ≡ other) ⊎ AreApart (literal_offset tac number) (size_of tac.structs (literal_type literal.bytes)) (literal_offset tac other) (size_of tac.structs (literal_type other_literal.bytes))
          → Apart (OfLiteral number) (OfLiteral other)
      by (inl same) = inl (ap OfLiteral same)
      by (inr apart) =
          inr (with_extents (globals_start + literal_offset tac number) (globals_start + literal_offset tac other) (extent (OfLiteral number)) (extent (OfLiteral other)) (1 * size_of tac.structs (literal_type literal.bytes))
          (1 * size_of tac.structs (literal_type other_literal.bytes)) (literal_extent number literal is) (literal_extent other other_literal other_is)
          (moved_apart (literal_offset tac number) (size_of tac.structs (literal_type literal.bytes)) (literal_offset tac other) (size_of tac.structs (literal_type other_literal.bytes)) apart))

  global_literal_apart : (number other : ℕ) (global : GlobalDef) (literal : LiteralDef) → slice_get tac.globals number ≡ Some global → slice_get tac.literals other ≡ Some literal → Apart (OfGlobal number) (OfLiteral other)
  global_literal_apart number other global literal is other_is =
      inr (with_extents (globals_start + global_offset tac number) (globals_start + literal_offset tac other) (extent (OfGlobal number)) (extent (OfLiteral other)) (1 * size_of tac.structs global.c_type)
      (1 * size_of tac.structs (literal_type literal.bytes)) (global_extent number global is) (literal_extent other literal other_is)
      (moved_apart (global_offset tac number) (size_of tac.structs global.c_type) (literal_offset tac other) (size_of tac.structs (literal_type literal.bytes)) (inl (global_before_literal tac number other global literal is other_is))))

  pub statics_apart : (object other : Object) → is_there (first_objects tac object) ≡ true → is_there (first_objects tac other) ≡ true
      → (object ≡ other) ⊎ AreApart (static_address tac object) (extent_of tac.structs (first_objects tac object)) (static_address tac other) (extent_of tac.structs (first_objects tac other))
  statics_apart (OfGlobal number) (OfGlobal other) there other_there =
      let at = global_there (slice_get tac.globals number) there in
      let to = global_there (slice_get tac.globals other) other_there in
      globals_lie_apart number other at.0 to.0 at.1 to.1
  statics_apart (OfGlobal number) (OfLiteral other) there other_there =
      let at = global_there (slice_get tac.globals number) there in
      let to = literal_there (slice_get tac.literals other) other_there in
      global_literal_apart number other at.0 to.0 at.1 to.1
  statics_apart (OfLiteral number) (OfGlobal other) there other_there =
      let at = literal_there (slice_get tac.literals number) there in
      let to = global_there (slice_get tac.globals other) other_there in
      swapped (OfGlobal other) (OfLiteral number) (global_literal_apart other number to.0 at.0 to.1 at.1)
  statics_apart (OfLiteral number) (OfLiteral other) there other_there =
      let at = literal_there (slice_get tac.literals number) there in
      let to = literal_there (slice_get tac.literals other) other_there in
      literals_lie_apart number other at.0 to.0 at.1 to.1
  statics_apart (OfHeap number) other there other_there = absurd (false≢true there)
  statics_apart (OfActivation number local) other there other_there = absurd (false≢true there)
  statics_apart (OfGlobal number) (OfHeap other) there other_there = absurd (false≢true other_there)
  statics_apart (OfGlobal number) (OfActivation other local) there other_there = absurd (false≢true other_there)
  statics_apart (OfLiteral number) (OfHeap other) there other_there = absurd (false≢true other_there)
  statics_apart (OfLiteral number) (OfActivation other local) there other_there = absurd (false≢true other_there)

-- ---- what they stand for

-- a slot has a byte or more
slot_some : (own : CType) → 1 ≤ slot_size (slot_of own)
slot_some (Integer I.Char) = omega arith
slot_some (Integer I.UChar) = omega arith
slot_some (Integer I.Short) = omega arith
slot_some (Integer I.UShort) = omega arith
slot_some (Integer I.Int) = omega arith
slot_some (Integer I.UInt) = omega arith
slot_some (Integer I.Long) = omega arith
slot_some (Integer I.ULong) = omega arith
slot_some Void = omega arith
slot_some (Pointer target) = omega arith
slot_some (Array element count) = omega arith
slot_some (Struct tag) = omega arith
slot_some (Function result parameters) = omega arith

module _ (tac : Tac) (room : globals_start + statics_size tac ≤ 2 ^ 40) where
  pub exact_by_fit : HasExactStatics tac
  exact_by_fit = exact_statics tac (below (statics_size tac) room)
    where
      below : (size : ℕ) → globals_start + size ≤ 2 ^ 40 → size < greatest
      below size le = omega arith

  module _ (functions : length tac.functions < 2 ^ 47) (memory : MemoryMap) (maps : MapsStatics tac memory) (state : State) where
    -- the word of a slot with a value's bytes stands for the value, where it fits there
    pub loaded_stands : (own : CType) (value : Value) → fits own value ≡ true → IsInFirst tac value → IsNumbered tac value
        → Stands (first_objects tac) memory value (slot_word state (slot_of own) (value_word tac (Some value) % 2 ^ (8 * slot_size (slot_of own))))
    loaded_stands (Integer t) (Number z) fitting inside numbered = loaded_value t z ((is_value-Decides t z).0 fitting)
    loaded_stands (Integer t) NoAddress fitting inside numbered = absurd (false≢true fitting)
    loaded_stands (Integer t) (Code function) fitting inside numbered = absurd (false≢true fitting)
    loaded_stands (Integer t) (Address object offset) fitting inside numbered = absurd (false≢true fitting)
    loaded_stands (Pointer t) (Number z) fitting inside numbered = absurd (false≢true fitting)
    loaded_stands (Pointer t) NoAddress fitting inside numbered = refl
    loaded_stands (Pointer t) (Code function) fitting inside numbered = mod-eq_of_lt (omega (arith, numbered, functions))
    loaded_stands (Pointer t) (Address object offset) fitting inside numbered = λ there.
        let within = static_address_within tac exact_by_fit object there offset (inside there) in (
          static_address tac object,
          maps.address object there,
          mod-eq_of_lt (small (static_address tac object + offset) (statics_size tac) within room) ∙ ap (λ n. static_address tac object + n) (sym (maps.moved object offset there)),
        )
      where
        small : (place size : ℕ) → place ≤ globals_start + size → globals_start + size ≤ 2 ^ 40 → place < 2 ^ 64
        small place size le le' = omega arith
    loaded_stands Void value fitting inside numbered = absurd (false≢true fitting)
    loaded_stands (Array t n) value fitting inside numbered = absurd (false≢true fitting)
    loaded_stands (Struct tag) value fitting inside numbered = absurd (false≢true fitting)
    loaded_stands (Function t ts) value fitting inside numbered = absurd (false≢true fitting)

    module _ (values : HasFirstValues tac) (reads : (at size : ℕ) → 1 ≤ size → at + size ≤ statics_size tac → number_at state (globals_start + at) size ≡ Some (read_at (first_contents tac) at size)) where
      content_by : (object : Object) (start : ℕ) → static_address tac object ≡ globals_start + start → (content : Content) → first_objects tac object ≡ content
          → ContentLies tac start content → ContentStands tac.structs (first_objects tac) memory state object content
      content_by object start at Absent is lies = tt
      content_by object start at (Untyped size) is lies = tt
      content_by object start at (Typed c_type count held) is lies = λ offset own value leaf holding fitting address mapped.
          let there : is_there (first_objects tac object) ≡ true = ap is_there is in
          let is_address : static_address tac object ≡ address = same_Some (static_address tac object) address (sym (maps.address object there) ∙ mapped) in
          let place : globals_start + (start + offset) ≡ address + memory.moved object offset =
          grouped start offset address (memory.moved object offset) (sym at ∙ is_address) (maps.moved object offset there) in
          let within : start + offset + slot_size (slot_of own) ≤ statics_size tac =
          ends start offset (slot_size (slot_of own)) (count * size_of tac.structs c_type) (statics_size tac) (leaf_within tac.structs c_type count offset own lies.exact leaf) lies.room in
          let inside = first_inside tac values object offset value (ap (held_at offset) is ∙ holding) in
          let number : ℕ = value_word tac (Some value) % 2 ^ (8 * slot_size (slot_of own)) in
          let found : number_at state (address + memory.moved object offset) (slot_size (slot_of own)) ≡ Some number =
          ap (λ n. number_at state n (slot_size (slot_of own))) (sym place) ∙ reads (start + offset) (slot_size (slot_of own)) (slot_some own) within ∙ ap Some (lies.reads offset own value leaf holding) in
          let slot = maps.slot object offset own there in (
            number,
            ap (λ (s : Slot). number_at state (address + memory.moved object offset) (slot_size s)) slot ∙ found,
            subst (λ (s : Slot). Stands (first_objects tac) memory value (slot_word state s number)) (sym slot) (loaded_stands own value fitting inside (first_numbered tac object offset value (ap (held_at offset) is ∙ holding))),
          )
        where
          grouped : (start offset address further : ℕ) → globals_start + start ≡ address → further ≡ offset → globals_start + (start + offset) ≡ address + further
          grouped start offset address further e e' = omega arith

          ends : (start offset own all total : ℕ) → offset + own ≤ all → start + all ≤ total → start + offset + own ≤ total
          ends start offset own all total le room = omega arith

      -- they stand in memory where the bytes of the globals are the first ones
      pub contents_stand : (object : Object) → ContentStands tac.structs (first_objects tac) memory state object (first_objects tac object)
      contents_stand (OfGlobal number) =
          content_by (OfGlobal number) (global_offset tac number) refl (first_objects tac (OfGlobal number)) refl (object_lies tac exact_by_fit (OfGlobal number))
      contents_stand (OfLiteral number) =
          content_by (OfLiteral number) (literal_offset tac number) refl (first_objects tac (OfLiteral number)) refl (object_lies tac exact_by_fit (OfLiteral number))
      contents_stand (OfHeap number) = tt
      contents_stand (OfActivation number local) = tt

      -- all of memory stands at first
      pub first_memory_stands : ((object : Object) → is_there (first_objects tac object) ≡ true → memory.extent object ≡ extent_of tac.structs (first_objects tac object))
          → MemoryStands tac.structs memory (first_objects tac) state
      first_memory_stands extents =
          record {
            there = λ object there. (static_address tac object, maps.address object there);
            contents = contents_stand;
            apart = λ object other address other_address there other_there mapped other_mapped.
                let at : static_address tac object ≡ address = same_Some (static_address tac object) address (sym (maps.address object there) ∙ mapped) in
                let to : static_address tac other ≡ other_address = same_Some (static_address tac other) other_address (sym (maps.address other other_there) ∙ other_mapped) in
                by object other (static_address tac object) address (static_address tac other) other_address (memory.extent object) (extent_of tac.structs (first_objects tac object)) (memory.extent other)
                (extent_of tac.structs (first_objects tac other)) at to (extents object there) (extents other other_there) (statics_apart tac exact_by_fit object other there other_there);
          }
        where
          by : (object other : Object) (a a' b b' size size' other_size other_size' : ℕ) → a ≡ a' → b ≡ b' → size ≡ size' → other_size ≡ other_size'
              → (object ≡ other) ⊎ AreApart a size' b other_size' → (object ≡ other) ⊎ AreApart a' size b' other_size
          by object other a a' b b' size size' other_size other_size' e f g h (inl same) = inl same
          by object other a a' b b' size size' other_size other_size' e f g h (inr (inl before)) = inr (inl (omega arith))
          by object other a a' b b' size size' other_size other_size' e f g h (inr (inr past)) = inr (inr (omega arith))

-- ---- the bytes of the globals

-- a range of the globals reads from their bytes, where no frame has it
pub globals_number : (state : State) (at size : ℕ) → frame_number (activations_of state) (globals_start + at) size ≡ None → at + size ≤ length state.globals
    → number_at state (globals_start + at) size ≡ Some (read_at state.globals at size)
globals_number state at size none le =
    let inside : in_globals state.globals (globals_start + at) size ≡ true = and_from (nat_le globals_start (globals_start + at)) (nat_le (globals_start + at + size) (globals_start + length state.globals)) (le-leb globals_start (globals_start + at) (omega arith)) (le-leb (globals_start + at + size) (globals_start + length state.globals) (omega arith)) in
    let back : globals_start + at - globals_start ≡ at = omega arith in
    rw (none, inside, back) refl
