-- Values and objects of three-address code. A pointer names an object and an offset in it; there are no addresses.
use Rattle.std.specs.Prelude.{ℕ, Bool, false, ◌&&◌, ◌==◌, if◌then◌else◌, Option, Some, ℤ}
use Rattle.c_typed.specs.Types.{CType}
use Rattle.tac_ir.specs.declared.register.Local.{Local}
use Rattle.tac_ir.specs.declared.register.Local.TheVariants as L

-- An object: that of an allocation, by its number; a variable outside functions or a literal, by its number; or a local in memory, of an
-- activation.
pub data Object : Type 0 where
  OfHeap : (number : ℕ) → Object
  OfGlobal : (number : ℕ) → Object
  OfLiteral : (number : ℕ) → Object
  OfActivation : (activation : ℕ) (local : Local) → Object

abbrev pub same_local : Local → Local → Bool
same_local (L.Parameter a) (L.Parameter b) = a == b
same_local (L.Variable a) (L.Variable b) = a == b
same_local _ _ = false

abbrev pub same_object : Object → Object → Bool
same_object (OfHeap a) (OfHeap b) = a == b
same_object (OfGlobal a) (OfGlobal b) = a == b
same_object (OfLiteral a) (OfLiteral b) = a == b
same_object (OfActivation a x) (OfActivation b y) = (a == b) && same_local x y
same_object _ _ = false

-- an integer, the null pointer, a function by its number, or a place so many bytes behind the beginning of an object
pub data Value : Type 0 where
  Number : (z : ℤ) → Value
  NoAddress : Value
  Code : (function : ℕ) → Value
  Address : (object : Object) (offset : ℕ) → Value

-- What an object holds: nothing, where it is not there, or no more; bytes without a type; or so many elements of a type, with scalars by
-- their offsets.
pub data Content : Type 0 where
  Absent : Content
  Untyped : (size : ℕ) → Content
  Typed : (c_type : CType) (count : ℕ) (held : ℕ → Option Value) → Content

abbrev pub Objects : Type 0
Objects = Object → Content

abbrev pub with_content : Object → Content → Objects → Objects
with_content object content objects other = if same_object object other then content else objects other

abbrev pub with_held : ℕ → Value → (ℕ → Option Value) → ℕ → Option Value
with_held offset value held other = if offset == other then Some value else held other
