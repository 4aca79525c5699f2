-- What is asked of first values for their bytes to be written: each stands where a scalar of its object is, and the places on the way lie
-- before the greatest size.
use Rattle.std.specs.Prelude.{◌≡◌, ℕ, suc, ◌+◌, ◌^◌, ◌<◌, ◌≤◌, List, [], ◌∷◌, length, Option, Some, None}
use Rattle.byteorder.specs.Endian.{little_bytes}
use Rattle.c_typed.specs.declared.c_type.CType as number
use Rattle.c_typed.specs.declared.part.Part.{Part}
use Rattle.c_typed.specs.declared.part.Part.TheVariants as P
use Rattle.c_typed.specs.declared.definition.Static as memory_static
use Rattle.c_typed.specs.declared.definition.Scalar as memory_scalar
use Rattle.c_typed.specs.declared.definition.Scalar.TheVariants as S
use Rattle.c_typed.specs.declared.definition.Held as memory_held
use Rattle.c_typed.specs.declared.definition.First as memory_first
use Rattle.c_typed.specs.declared.definition.First.TheVariants as V
use Rattle.c_typed.specs.declared.definition.GlobalDef as memory_global
use Rattle.c_typed.specs.Types.{CType}
use Rattle.c_typed.specs.Layouts.{StructDef, greatest}
use Rattle.c_typed.specs.Table.{Interned, type_in, structs_in}
use Rattle.c_typed.specs.DefinitionViews as D
use Rattle.c_typed.specs.DefinitionViews.{LiteralsStand}
use Rattle.tac_ir.specs.Values.{Object}
use Rattle.tac_ir.specs.Layouts.{Inner, moved, part_of, parts_of, leaf_at}
use Rattle.tac_ir.specs.First.{static_of, address_of}
use Rattle.tac_ir.specs.declared.program.Tac as memory_tac
use Rattle.tac_ir.specs.Views.{tac_of}
use Rattle.pool_isa.specs.Machine.{spliced}
use Rattle.pool_ir.specs.Memory.{slot_size}
use Rattle.pool_rewrite.specs.declared.statics.Statics.{Statics}
use Rattle.pool_rewrite.specs.declared.names.Names as memory_names
use Rattle.pool_rewrite.specs.declared.first.Root.{Root}
use Rattle.pool_rewrite.specs.declared.contents.Target.{Target}
use Rattle.pool_rewrite.specs.declared.plan.Plan as memory_plan
use Rattle.pool_rewrite.specs.Rewriting.{slot_of, static_address, value_word}
use Rattle.pool_rewrite.specs.Views.{function_plan_of}
use Rattle.pool_rewrite.specs.Rewritable.{FrameFits, FramesFit}
use Rattle.pool_rewrite.specs.Placing.{statics_size, global_offset}
use Rattle.pool_rewrite.specs.Places.{AreStatics}
use Rattle.pool_rewrite.specs.Names.{AreNames}

-- ---- places in objects

abbrev pub whole_of : Interned → number.CType → Inner
whole_of table t = record { offset = 0; c_type = type_in table t }

abbrev pub element_behind : List StructDef → ℕ → Option Inner → Option Inner
element_behind structs index None = None
element_behind structs index (Some inner) = Some (moved structs index inner)

-- the element with an index in the row to which steps lead
abbrev pub element_in : List StructDef → Inner → List Part → ℕ → Option Inner
element_in structs inner parts index = element_behind structs index (parts_of structs parts inner)

abbrev pub part_index : Part → ℕ
part_index (P.Member index number) = index
part_index (P.Elements index) = index

abbrev pub PartFits : List StructDef → Part → Inner → Type 0
PartFits structs part inner = (moved structs (part_index part) inner).offset ≤ greatest

-- the places on the way lie before the greatest size
abbrev pub PartsFit : List StructDef → List Part → ℕ → Inner → Type 0
PartsFit structs [] index inner = (moved structs index inner).offset ≤ greatest
PartsFit structs (part ∷ parts) index inner = PartFits structs part inner × ((next : Inner) → part_of structs part inner ≡ Some next → PartsFit structs parts index next)

-- ---- constants

abbrev pub RootFits : List StructDef → List Part → ℕ → Option (Object × CType) → Type 0
RootFits structs parts index None = Unit {0}
RootFits structs parts index (Some root) = PartsFit structs parts index (record { offset = 0; c_type = root.1 })

abbrev pub PlaceFits : memory_tac.Tac → memory_static.Static → List Part → ℕ → Type 0
PlaceFits tac root parts index = RootFits (structs_in tac.types) parts index (static_of (tac_of tac) (D.static_of root))

abbrev pub ValueFits : memory_tac.Tac → memory_scalar.Scalar → Type 0
ValueFits tac (S.Pointer root parts index) = PlaceFits tac root parts.items index
ValueFits tac scalar = Unit {0}

-- an address as a word, 0 where there is none
abbrev pub or_zero : Option ℕ → ℕ
or_zero None = 0
or_zero (Some word) = word

abbrev pub IsAddress : memory_tac.Tac → memory_static.Static → List Part → ℕ → Option ℕ → Type 0
IsAddress tac root parts index found =
    or_zero found ≡ value_word (tac_of tac) (address_of (tac_of tac) (record { root = D.static_of root; steps = parts; index = index }))

-- a static object is found where there is one
abbrev pub IsRoot : memory_tac.Tac → Option (Object × CType) → Option Root → Type 0
IsRoot tac expected None = expected ≡ None
IsRoot tac expected (Some root) =
    (object : Object) × (expected ≡ Some (object, type_in tac.types root.c_type)) × (4096 + root.offset ≡ static_address (tac_of tac) object) × (root.offset ≤ greatest)

-- ---- first values

-- where there is such an element it is a scalar, all of whose bytes are there
abbrev pub IsLeaf : Interned → Target → ℕ → Option Inner → Type 0
IsLeaf table target room None = Unit {0}
IsLeaf table target room (Some inner) =
    (leaf_at (structs_in table) (type_in table target.c_type) 1 inner.offset ≡ Some inner.c_type)
    × (target.start + inner.offset + slot_size (slot_of inner.c_type) ≤ room)

pub record LeafFits (table : Interned) (target : Target) (room : ℕ) (parts : List Part) (index : ℕ) : Type 0 where
  pub parts_fit : PartsFit (structs_in table) parts index (whole_of table target.c_type)
  pub leaf : IsLeaf table target room (element_in (structs_in table) (whole_of table target.c_type) parts index)

abbrev pub word_at : Interned → Target → ℕ → Option Inner → List ℕ → List ℕ
word_at table target word None bytes = bytes
word_at table target word (Some inner) bytes = spliced bytes (target.start + inner.offset) (little_bytes (slot_size (slot_of inner.c_type)) word)

-- a word is written where there is such an element
abbrev pub with_word : Interned → Target → List Part → ℕ → ℕ → List ℕ → List ℕ
with_word table target parts index word bytes = word_at table target word (element_in (structs_in table) (whole_of table target.c_type) parts index) bytes

pub record HeldFits (tac : memory_tac.Tac) (target : Target) (room : ℕ) (held : memory_held.Held) : Type 0 where
  pub value : ValueFits tac held.value
  pub leaf : LeafFits tac.types target room held.parts.items held.index

abbrev pub TextFits : memory_tac.Tac → Target → ℕ → List Part → ℕ → List ℕ → Type 0
TextFits tac target room parts index [] = Unit {0}
TextFits tac target room parts index (byte ∷ bytes) = LeafFits tac.types target room parts index × TextFits tac target room parts (suc index) bytes

abbrev pub FirstFits : memory_tac.Tac → Target → ℕ → memory_first.First → Type 0
FirstFits tac target room (V.Scalar held) = HeldFits tac target room held
FirstFits tac target room (V.Text parts int_type bytes) = TextFits tac target room parts.items 0 bytes

abbrev pub FirstsFit : memory_tac.Tac → Target → ℕ → List memory_first.First → Type 0
FirstsFit tac target room [] = Unit {0}
FirstsFit tac target room (first ∷ others) = FirstFits tac target room first × FirstsFit tac target room others

abbrev pub GlobalsFitFrom : memory_tac.Tac → ℕ → List memory_global.GlobalDef → Type 0
GlobalsFitFrom tac number [] = Unit {0}
GlobalsFitFrom tac number (global ∷ others) =
    FirstsFit tac (record { c_type = global.c_type; start = global_offset (tac_of tac) number }) (statics_size (tac_of tac)) global.first.items
    × GlobalsFitFrom tac (suc number) others

-- the first values of each variable fit it
abbrev pub GlobalsFit : memory_tac.Tac → Type 0
GlobalsFit tac = GlobalsFitFrom tac 0 tac.globals.items

-- ---- programs

-- a program with what is found in it before first values are written
pub record IsFirstProgram (tac : memory_tac.Tac) (statics : Statics) (names : memory_names.Names) : Type 0 where
  pub literals : LiteralsStand tac.types tac.literals.items
  pub small : statics_size (tac_of tac) ≤ greatest
  pub lie : AreStatics (tac_of tac) statics
  pub named : AreNames tac names
  pub functions : length tac.functions.items < 2 ^ 47

-- What is asked of a program and a plan: literals of the types that the table has, and all in their ranges.
pub record IsRewritable (tac : memory_tac.Tac) (plan : memory_plan.Plan) : Type 0 where
  pub literals : LiteralsStand tac.types tac.literals.items
  pub statics : statics_size (tac_of tac) < greatest
  pub frames : FramesFit tac.types plan.functions.items tac.functions.items
  pub start : FrameFits tac.types (function_plan_of plan.start) tac.start
  pub first : GlobalsFit tac
  pub few : length tac.functions.items < 2 ^ 47
