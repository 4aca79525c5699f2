-- The store of the reference, and evaluations on it.
use Rattle.std.specs.Prelude.{ℕ, zero, suc, ◌+◌, ◌*◌, Bool, true, false, ◌==◌, if◌then◌else◌, List, [], ◌∷◌, ◌++◌, slice_get, Option, Some, None, pos}
use Rattle.run_theory.specs.declared.place.Pos.{Pos}
use Rattle.run_theory.specs.declared.ends.UbKind.{UbKind}
use Rattle.run_theory.specs.Runs.{Event, Trace, Answer, Going, Over, Final, Undefined}
use Rattle.c_typed.specs.Types.{CType, Void, Integer, Array, Struct}
use Rattle.c_typed.specs.Layouts.{StructDef, MemberDef, layout_of, layouts, members_by_tag, known_members, offset_before}
use Rattle.ref_semantics.specs.Values.{Name, Row, Place, Scalar, IntegerValue, NullValue, PointerValue, RawPointer, Content, Dead, Elements, Heap, same_name, whole_row, no_row, first_of_row}

-- ---- objects

-- what each object holds; one that isn't there is dead
abbrev pub Objects : Type 0
Objects = Name → Content

abbrev pub with_content : Name → Content → Objects → Objects
with_content name content objects other = if same_name name other then content else objects other

abbrev pub is_dead : Content → Bool
is_dead Dead = true
is_dead _ = false

abbrev pub row_of : Content → Row
row_of (Elements is_static c_type count held) = whole_row c_type count
row_of _ = no_row

-- what a program is known by while it runs
pub record TypeEnvironment : Type 0 where
  pub structs : List StructDef
  pub completed : List (List ℕ)

abbrev pub size_of : TypeEnvironment → CType → ℕ
size_of around c_type = (layout_of around.structs c_type).size

-- how many bytes an element lies behind the beginning of its object
abbrev pub offset_of : TypeEnvironment → Place → ℕ
offset_of around place = place.row.start + place.index * size_of around place.row.c_type

-- ---- parts of elements

abbrev pub members_of : TypeEnvironment → CType → List MemberDef
members_of around (Struct tag) = known_members (members_by_tag around.structs tag)
members_of around _ = []

abbrev pub known_type : Option CType → CType
known_type (Some c_type) = c_type
known_type None = Void

-- a member alone, of an element that begins so many bytes behind the beginning of its object
abbrev pub member_row : TypeEnvironment → ℕ → List MemberDef → ℕ → Option MemberDef → Row
member_row around offset members number None = no_row
member_row around offset members number (Some member) =
    record { start = offset + offset_before (layouts around.structs) members number (Some member); c_type = known_type member.c_type; count = 1 }

-- the member of this number (C17 6.5.2.3)
abbrev pub member_at : TypeEnvironment → Place → ℕ → Place
member_at around place number = by (members_of around place.row.c_type)
  where
    by : List MemberDef → Place
    by members = first_of_row place.name (member_row around (offset_of around place) members number (slice_get members number))

-- the elements of an array
abbrev pub inner_row : ℕ → CType → Row
inner_row offset (Array element n) = record { start = offset; c_type = element; count = n }
inner_row offset c_type = record { start = offset; c_type = c_type; count = 1 }

-- the first element of an array (C17 6.3.2.1 paragraph 3)
abbrev pub decayed : TypeEnvironment → Place → Place
decayed around place = first_of_row place.name (inner_row (offset_of around place) place.row.c_type)

-- ---- scalars in objects

-- zero or null
abbrev pub cleared : CType → Scalar
cleared (Integer int_type) = IntegerValue (pos 0)
cleared _ = NullValue

abbrev pub scalar_or : Option Scalar → Bool → CType → Option Scalar
scalar_or (Some value) is_static c_type = Some value
scalar_or None true c_type = Some (cleared c_type)
scalar_or None false c_type = None

-- the scalar at a place, unless it is indeterminate
abbrev pub scalar_at : TypeEnvironment → Content → Place → Option Scalar
scalar_at around (Elements is_static c_type count held) place = scalar_or (held (offset_of around place)) is_static place.row.c_type
scalar_at around _ place = None

abbrev pub with_scalar : ℕ → Scalar → (ℕ → Option Scalar) → ℕ → Option Scalar
with_scalar offset value held other = if offset == other then Some value else held other

abbrev pub holding : ℕ → Scalar → Content → Content
holding offset value (Elements is_static c_type count held) = Elements is_static c_type count (with_scalar offset value held)
holding offset value content = content

-- ---- states and evaluations

-- What an evaluation goes on from: the units left, the input left, what has emit, all objects, the locals in scope by their
-- numbers, the newest first, and the numbers that the next local and the next allocation get.
pub record State : Type 0 where
  pub units : ℕ
  pub input : List ℕ
  pub trace : Trace
  pub objects : Objects
  pub locals : List ℕ
  pub next_local : ℕ
  pub next_heap : ℕ

pub data Outcome (A : Type 0) : Type 0 where
  Then : (value : A) (state : State) → Outcome A
  Stopped : (answer : Answer) (state : State) → Outcome A

abbrev pub Eval : Type 0 → Type 0
Eval A = State → Outcome A

abbrev pub continue_with : {A B : Type 0} → (A → Eval B) → Outcome A → Outcome B
continue_with next (Then value state) = next value state
continue_with next (Stopped answer state) = Stopped answer state

infixl 10 ◌>>=◌
abbrev pub ◌>>=◌ : {A B : Type 0} → Eval A → (A → Eval B) → Eval B
(first >>= next) state = continue_with next (first state)

abbrev pub give : {A : Type 0} → A → Eval A
give value state = Then value state

abbrev pub halt : {A : Type 0} → Final → Eval A
halt final state = Stopped (Over final state.trace) state

abbrev pub undefined : {A : Type 0} → UbKind → Pos → Eval A
undefined kind place = halt (Undefined kind place)

-- goes on where there is a unit left, and spends it
abbrev pub spend : {A : Type 0} → Eval A → ℕ → State → Outcome A
spend rest zero state = Stopped (Going state.trace) state
spend rest (suc units) state = rest (record state { units = units })

abbrev pub tick : {A : Type 0} → Eval A → Eval A
tick rest state = spend rest state.units state

abbrev pub ticks : {A : Type 0} → ℕ → Eval A → Eval A
ticks zero rest = rest
ticks (suc n) rest = tick (ticks n rest)

-- something happens
abbrev pub emit : {A : Type 0} → List Event → Eval A → Eval A
emit events rest state = rest (record state { trace = state.trace ++ events })

-- the objects as they are
abbrev pub with_objects : {A : Type 0} → (Objects → Eval A) → Eval A
with_objects next state = next state.objects state

abbrev pub store_content : {A : Type 0} → Name → Content → Eval A → Eval A
store_content name content rest state = rest (record state { objects = with_content name content state.objects })

-- a failing premise of a rule
pub record Premise : Type 0 where
  pub fails : Bool
  pub kind : UbKind

abbrev pub premise : Bool → UbKind → Premise
premise fails kind = record { fails = fails; kind = kind }

-- The first premise that fails makes the run undefined here; else it goes on. Where several fail, U06 stands first, and then
-- the least number.
abbrev pub unless : {A : Type 0} → Pos → List Premise → Eval A → Eval A
unless place [] rest = rest
unless place (first ∷ others) rest = if first.fails then undefined first.kind place else unless place others rest

-- ---- pointers

abbrev pub is_dead_pointer : Objects → Scalar → Bool
is_dead_pointer objects (PointerValue place) = is_dead (objects place.name)
is_dead_pointer objects (RawPointer number) = is_dead (objects (Heap number))
is_dead_pointer objects _ = false

abbrev pub is_null_pointer : Scalar → Bool
is_null_pointer NullValue = true
is_null_pointer _ = false
