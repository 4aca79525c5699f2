-- What the functions that make the store before a program runs leave.
use Rattle.std.specs.Prelude.{◌≡◌, ℕ, suc, ◌≤◌, ◌<◌, true, if◌then◌else◌, ◌==◌, List, [], ◌∷◌, Option, Some, None, pos}
use Rattle.c_num.specs.declared.IntType.{IntType}
use Rattle.c_num.specs.Conversion.{convert_to}
use Rattle.c_typed.specs.declared.part.Part.{Part}
use Rattle.c_typed.specs.declared.part.Part.TheVariants as P
use Rattle.c_typed.specs.declared.definition.GlobalDef as memory_global
use Rattle.c_typed.specs.declared.definition.LiteralDef as memory_literal
use Rattle.c_typed.specs.Types.{CType}
use Rattle.c_typed.specs.Values as values
use Rattle.c_typed.specs.Typed.{GlobalDef, LiteralDef, Program}
use Rattle.c_typed.specs.Table.{Interned, type_in}
use Rattle.c_typed.specs.DefinitionViews.{all_first}
use Rattle.ref_semantics.specs.Values.{Name, Heap, GlobalObject, LiteralObject, Place, Scalar, IntegerValue, Content, Dead, Elements, same_name, at_index, object_place}
use Rattle.ref_semantics.specs.Store.{TypeEnvironment, Objects, offset_of, with_content}
use Rattle.ref_semantics.specs.First as rules
use Rattle.ref_semantics.specs.First.{around_of, type_of_global, literal_at, literal_content, characters, first_held, first_state, stepped, static_type}
use Rattle.ref_meaning.specs.Fitting.{IsObjectType}
use Rattle.ref_meaning.specs.declared.object.Elements as memory_elements
use Rattle.ref_meaning.specs.declared.store.Store.{Store}
use Rattle.ref_meaning.specs.RefStore.Holding.{At, AllHeld}
use Rattle.ref_meaning.specs.Beginning.{unfilled}

-- ---- objects without first values

-- those of some variables and literals
abbrev pub unfilled_of : List GlobalDef → List LiteralDef → Objects
unfilled_of globals literals (GlobalObject name) = unfilled (type_of_global globals name)
unfilled_of globals literals (LiteralObject place) = literal_content (literal_at literals place)
unfilled_of globals literals _ = Dead

abbrev pub or_content : Content → Content → Content
or_content Dead other = other
or_content content other = content

-- objects, and one more where there is none
abbrev pub with_new : Name → Content → Objects → Objects
with_new name content objects other = or_content (objects other) (if same_name name other then content else Dead)

-- before a program runs, a store holds these objects
abbrev pub Has : Program → Store → Objects → Type 0
Has program store objects = At (around_of program) store 0 (record (first_state program [] 0) { objects = objects })

-- ---- first values

abbrev pub or_else : Option Scalar → Option Scalar → Option Scalar
or_else (Some value) other = Some value
or_else None other = other

-- scalars, and one more where there is none
abbrev pub with_first : TypeEnvironment → Place → Scalar → (ℕ → Option Scalar) → ℕ → Option Scalar
with_first around place value held offset = or_else (held offset) (if offset_of around place == offset then Some value else None)

-- bytes as the elements of a row, from an index on, converted to their type
abbrev pub text_held : TypeEnvironment → Place → IntType → ℕ → List ℕ → ℕ → Option Scalar
text_held around place int_type index [] offset = None
text_held around place int_type index (byte ∷ bytes) offset =
    if offset_of around (at_index place index) == offset then Some (IntegerValue (convert_to int_type (pos byte))) else text_held around place int_type (suc index) bytes offset

-- scalars, and those of a text where there is none
abbrev pub with_text : TypeEnvironment → Place → IntType → ℕ → List ℕ → (ℕ → Option Scalar) → ℕ → Option Scalar
with_text around place int_type index bytes held offset = or_else (held offset) (text_held around place int_type index bytes offset)

-- scalars, and those that are given where there is none
abbrev pub with_given : Program → CType → List values.Held → (ℕ → Option Scalar) → ℕ → Option Scalar
with_given program c_type given held offset = or_else (held offset) (first_held program c_type given offset)

-- a variable with its first values
pub record IsFirst (program : Program) (table : Interned) (global : memory_global.GlobalDef) (elements : memory_elements.Elements) : Type 0 where
  pub is_static : elements.is_static ≡ true
  pub c_type : elements.c_type ≡ global.c_type
  pub count : elements.count ≡ 1
  pub held : AllHeld table elements.held (first_held program (type_in table global.c_type) (all_first global.first.items))

-- the first of these variables with their first values
abbrev pub AreFirsts : Program → Interned → List memory_global.GlobalDef → List memory_elements.Elements → Type 0
AreFirsts program table globals [] = Unit {0}
AreFirsts program table [] (first ∷ others) = ⊥
AreFirsts program table (global ∷ globals) (first ∷ others) = IsFirst program table global first × AreFirsts program table globals others

-- objects, with these variables with their first values
abbrev pub filled : Program → List GlobalDef → Objects → Objects
filled program [] objects = objects
filled program (first ∷ others) objects = with_content (GlobalObject first.name) (Elements true first.c_type 1 (first_held program first.c_type first.first)) (filled program others objects)

-- the bytes of a literal, as the characters of its array
pub record AreCharacters (table : Interned) (literal : memory_literal.LiteralDef) (elements : memory_elements.Elements) : Type 0 where
  pub is_static : elements.is_static ≡ true
  pub c_type : elements.c_type ≡ literal.c_type
  pub count : elements.count ≡ 1
  pub held : AllHeld table elements.held (characters literal.bytes)

-- ---- where first values stand

abbrev pub part_index : Part → ℕ
part_index (P.Member index number) = index
part_index (P.Elements index) = index

-- steps lead from elements to elements, and to an element of their last row, or to its end
abbrev pub StepsLead : TypeEnvironment → Place → List Part → ℕ → Type 0
StepsLead around place [] index = index ≤ place.row.count
StepsLead around place (step ∷ steps) index = (part_index step < place.row.count) × StepsLead around (stepped around place step) steps index

abbrev pub PlaceLeads : Program → values.FirstPlace → Type 0
PlaceLeads program place = StepsLead (around_of program) (object_place (rules.name_of place.root) (static_type program (rules.name_of place.root))) place.steps place.index

-- a pointer leads to an element or an end
abbrev pub ValueLeads : Program → values.FirstScalar → Type 0
ValueLeads program (values.PointerValue place) = PlaceLeads program place
ValueLeads program _ = Unit {0}

abbrev pub HeldLeads : Program → CType → values.Held → Type 0
HeldLeads program c_type held = StepsLead (around_of program) (object_place (Heap 0) c_type) held.leaf.steps held.leaf.index × ValueLeads program held.value

abbrev pub AllLead : Program → CType → List values.Held → Type 0
AllLead program c_type [] = Unit {0}
AllLead program c_type (held ∷ others) = HeldLeads program c_type held × AllLead program c_type others

-- a variable of an object type, whose first values stand in it
abbrev pub GlobalFits : Program → Interned → memory_global.GlobalDef → Type 0
GlobalFits program table global = IsObjectType table global.c_type × AllLead program (type_in table global.c_type) (all_first global.first.items)

abbrev pub GlobalsFit : Program → Interned → List memory_global.GlobalDef → Type 0
GlobalsFit program table [] = Unit {0}
GlobalsFit program table (first ∷ others) = GlobalFits program table first × GlobalsFit program table others
