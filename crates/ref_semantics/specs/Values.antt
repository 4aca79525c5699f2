-- Values, places and objects while a program runs (C17 6.2.4, 6.2.6). There are no addresses: a pointer names an object, and an
-- element of a row within it.
use Rattle.std.specs.Prelude.{ℕ, Bool, false, ◌&&◌, ◌==◌, nat_lt, not, List, Option, ℤ, pos, bytes_eq}
use Rattle.run_theory.specs.declared.place.Pos.{Pos}
use Rattle.c_typed.specs.Types.{CType, Void, same_type}
use Rattle.c_typed.specs.Places.{is_same_place}

-- An object: that of an allocation, by its number; a variable outside functions; a literal, by its place; or a local, by a
-- number that no other ever has.
pub data Name : Type 0 where
  Heap : (number : ℕ) → Name
  GlobalObject : (name : List ℕ) → Name
  LiteralObject : (place : Pos) → Name
  LocalObject : (number : ℕ) → Name

abbrev pub same_name : Name → Name → Bool
same_name (Heap a) (Heap b) = a == b
same_name (GlobalObject a) (GlobalObject b) = bytes_eq a b
same_name (LiteralObject a) (LiteralObject b) = is_same_place a b
same_name (LocalObject a) (LocalObject b) = a == b
same_name _ _ = false

-- A row: elements of one type, side by side, that begin so many bytes behind the beginning of an object. An array's elements are
-- one, those of an allocation, and an object alone. Two rows of an object that begin together differ in their type or in their
-- number, since no type has a part of its own type.
pub record Row : Type 0 where
  pub start : ℕ
  pub c_type : CType
  pub count : ℕ

abbrev pub same_row : Row → Row → Bool
same_row a b = (a.start == b.start) && (same_type a.c_type b.c_type && (a.count == b.count))

-- An element of a row of an object, or the row's end: there the index is the number of elements.
pub record Place : Type 0 where
  pub name : Name
  pub row : Row
  pub index : ℕ

-- A value of scalar type. An allocation that has no type yet is pointed to as a whole.
pub data Scalar : Type 0 where
  IntegerValue : (value : ℤ) → Scalar
  NullValue : Scalar
  FunctionValue : (name : List ℕ) → Scalar
  PointerValue : (place : Place) → Scalar
  RawPointer : (number : ℕ) → Scalar

-- What an object holds: nothing, once it is dead; an allocation's bytes, as long as it has no type; or a row of elements, whose
-- scalars are what was stored last at their offset in bytes, else zero or null where the object is static, else indeterminate.
pub data Content : Type 0 where
  Dead : Content
  Raw : (size : ℕ) → Content
  Elements : (is_static : Bool) (c_type : CType) (count : ℕ) (held : ℕ → Option Scalar) → Content

-- ---- the places of an object

abbrev pub whole_row : CType → ℕ → Row
whole_row c_type count = record { start = 0; c_type = c_type; count = count }

abbrev pub first_of_row : Name → Row → Place
first_of_row name row = record { name = name; row = row; index = 0 }

-- an object alone
abbrev pub object_place : Name → CType → Place
object_place name c_type = first_of_row name (whole_row c_type 1)

abbrev pub at_index : Place → ℕ → Place
at_index place index = record place { index = index }

abbrev pub is_end : Place → Bool
is_end place = not (nat_lt place.index place.row.count)

abbrev pub no_row : Row
no_row = whole_row Void 0

-- what a value points to, where it is a pointer to an object
abbrev pub place_of : Scalar → Place
place_of (PointerValue place) = place
place_of (RawPointer number) = first_of_row (Heap number) no_row
place_of _ = first_of_row (Heap 0) no_row

abbrev pub integer_of : Scalar → ℤ
integer_of (IntegerValue z) = z
integer_of _ = pos 0
