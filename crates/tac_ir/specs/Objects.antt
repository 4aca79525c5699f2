-- Objects while a program runs: how many bytes they have, reading and writing, and paths to their parts (C17 6.2.4, 6.5).
use Rattle.std.specs.Prelude.{ℕ, ◌*◌, Bool, true, false, ◌&&◌, nat_le, if◌then◌else◌, List, [], ◌∷◌, slice_get, Option, Some, None, ℤ, pos, negsuc, ◌+ℤ◌, ◌*ℤ◌}
use Rattle.c_typed.specs.Typed.{GlobalDef, LiteralDef}
use Rattle.c_num.specs.Types.{is_value}
use Rattle.c_typed.specs.Types.{CType, Integer, Pointer, literal_type, same_type}
use Rattle.c_typed.specs.Layouts.{StructDef}
use Rattle.tac_ir.specs.declared.register.Local.{Local}
use Rattle.tac_ir.specs.Values.{Object, OfGlobal, OfLiteral, OfActivation, same_local, Value, Number, NoAddress, Code, Address, Content, Absent, Untyped, Typed, Objects, with_held}
use Rattle.tac_ir.specs.Layouts.{size_of, leaf_at, Inner, within, member_of, element_of}
use Rattle.tac_ir.specs.Trees.{Registers, computes}
use Rattle.tac_ir.specs.Code.{Base, AtLocal, AtGlobal, AtLiteral, Pointed, Indexed, Step, Member, Element, Path, LocalObject}

-- ---- what code is run with

-- the structures, the static objects, and the objects of the activation with its number
pub record Surroundings : Type 0 where
  pub structs : List StructDef
  pub globals : List GlobalDef
  pub literals : List LiteralDef
  pub own : List LocalObject
  pub activation : ℕ

-- ---- whole objects

abbrev pub is_there : Content → Bool
is_there Absent = false
is_there _ = true

-- how many bytes it has
abbrev pub extent_of : List StructDef → Content → ℕ
extent_of structs Absent = 0
extent_of structs (Untyped size) = size
extent_of structs (Typed c_type count held) = count * size_of structs c_type

-- a place in an object that is there, or its end
abbrev pub is_place : List StructDef → Objects → Object → ℕ → Bool
is_place structs objects object offset = is_there (objects object) && nat_le offset (extent_of structs (objects object))

-- ---- scalars

-- a value that a scalar of this type may hold
abbrev pub fits : CType → Value → Bool
fits (Integer int_type) (Number z) = is_value int_type z
fits (Pointer target) NoAddress = true
fits (Pointer target) (Code function) = true
fits (Pointer target) (Address object offset) = true
fits _ _ = false

abbrev pub is_leaf : Option CType → CType → Bool
is_leaf None c_type = false
is_leaf (Some leaf) c_type = same_type leaf c_type

-- a scalar of this type stands at this offset
abbrev pub stands_at : List StructDef → CType → ℕ → Content → Bool
stands_at structs scalar offset (Typed c_type count held) = is_leaf (leaf_at structs c_type count offset) scalar
stands_at structs scalar offset content = false

abbrev pub held_at : ℕ → Content → Option Value
held_at offset (Typed c_type count held) = held offset
held_at offset content = None

abbrev pub holding : ℕ → Value → Content → Content
holding offset value (Typed c_type count held) = Typed c_type count (with_held offset value held)
holding offset value content = content

-- ---- paths

-- a part of an object
pub record Reached : Type 0 where
  pub object : Object
  pub inner : Inner

abbrev pub reach : Object → Option Inner → Option Reached
reach object None = None
reach object (Some inner) = Some (record { object = object; inner = inner })

abbrev pub whole : CType → Option Inner
whole c_type = Some (record { offset = 0; c_type = c_type })

abbrev pub own_type : List LocalObject → Local → Option Inner
own_type [] local = None
own_type (first ∷ others) local = if same_local first.local local then whole first.c_type else own_type others local

abbrev pub global_type : Option GlobalDef → Option Inner
global_type None = None
global_type (Some global) = whole global.c_type

abbrev pub literal_object : Option LiteralDef → Option Inner
literal_object None = None
literal_object (Some literal) = whole (literal_type literal.bytes)

-- so many bytes behind an offset, where that is not before the object
abbrev pub offset_moved : ℕ → ℤ → Option ℕ
offset_moved offset z = natural (pos offset +ℤ z)
  where
    natural : ℤ → Option ℕ
    natural (pos n) = Some n
    natural (negsuc n) = None

abbrev pub at_offset : Object → CType → Option ℕ → Option Reached
at_offset object c_type None = None
at_offset object c_type (Some offset) = Some (record { object = object; inner = record { offset = offset; c_type = c_type } })

-- the element so many places behind the one that a pointer points to
abbrev pub pointed : Surroundings → CType → Option Value → Option ℤ → Option Reached
pointed around target (Some (Address object offset)) (Some z) = at_offset object target (offset_moved offset (z *ℤ pos (size_of around.structs target)))
pointed around target _ _ = None

abbrev pub base_of : Surroundings → Registers → Base → Option Reached
base_of around registers (AtLocal local) = reach (OfActivation around.activation local) (own_type around.own local)
base_of around registers (AtGlobal number) = reach (OfGlobal number) (global_type (slice_get around.globals number))
base_of around registers (AtLiteral number) = reach (OfLiteral number) (literal_object (slice_get around.literals number))
base_of around registers (Pointed pointer target) = pointed around target (registers pointer) (Some (pos 0))
base_of around registers (Indexed pointer target number) = pointed around target (registers pointer) (computes registers number)

abbrev pub element_at : List StructDef → Option ℤ → Inner → Option Inner
element_at structs (Some (pos index)) inner = element_of structs index inner
element_at structs _ inner = None

abbrev pub step : Surroundings → Registers → Step → Inner → Option Inner
step around registers (Member number) inner = member_of around.structs number inner
step around registers (Element tree) inner = element_at around.structs (computes registers tree) inner

abbrev pub steps_of : Surroundings → Registers → List Step → Inner → Option Inner
steps_of around registers [] inner = Some inner
steps_of around registers (first ∷ others) inner = within (step around registers first inner) (steps_of around registers others)

abbrev pub stepped : Surroundings → Registers → List Step → Option Reached → Option Reached
stepped around registers steps None = None
stepped around registers steps (Some reached) = reach reached.object (steps_of around registers steps reached.inner)

-- the part of an object to which a path leads
abbrev pub leads : Surroundings → Registers → Path → Option Reached
leads around registers path = stepped around registers path.steps (base_of around registers path.base)
