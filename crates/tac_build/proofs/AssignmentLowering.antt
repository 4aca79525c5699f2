-- Assignments and steps: what their parts are, and that their code is told by that of their parts.
use Rattle.std.proofs.Common.{◌≡◌, ℕ, suc, ◌+◌, Bool, true, false, not, ◌&&◌, ◌||◌, if◌then◌else◌, List, [], Option, Some, refl, sym, ap, ◌∙◌, subst, arith, Result, Ok, Err, IfOk, OnOk}
use Rattle.std.proofs.lemmas.Bool.{false≢true, and_parts}
use Rattle.std.specs.Prelude.{pos}
use Rattle.std.specs.declared.alloc.AllocError.{AllocError}
use Rattle.c_num.specs.declared.IntType.{IntType}
use Rattle.c_num.specs.declared.IntType.TheVariants as I
use Rattle.c_num.specs.declared.BinOp.{BinOp}
use Rattle.c_num.specs.Arith.{is_shift}
use Rattle.c_typed.specs.declared.typed.Value as memory_value
use Rattle.c_typed.specs.declared.typed.Value.TheVariants as V
use Rattle.c_typed.specs.declared.typed.Object as memory_object
use Rattle.c_typed.specs.declared.typed.Stepping.{Stepping}
use Rattle.c_typed.specs.declared.typed.Stepping.TheVariants as Steppings
use Rattle.c_typed.specs.Types.{CType, Void, Integer, Pointer, Array, Struct, Function, is_integer, is_void, same_type}
use Rattle.c_typed.specs.Layouts.{StructDef}
use Rattle.c_typed.specs.Table.{Interned, meaning_of, type_in, structs_in}
use Rattle.c_typed.specs.Views.{value_in, object_in, ValueStands, ObjectStands}
use Rattle.c_typed.proofs.Same.{same_type-true}
use Rattle.c_typed.specs.Expressions.{is_scalar, is_right, is_pointer_to_complete, moved, type_of, type_of_object}
use Rattle.c_typed.proofs.Splitting.{first_parts, two_parts, same_parts, held_parts}
use Rattle.tac_ir.specs.declared.register.Register.{Register}
use Rattle.tac_ir.specs.Code.{Tree, Constant, Op, Path}
use Rattle.tac_ir.specs.Code as C
use Rattle.tac_ir.specs.Views.{tree_of, path_in}
use Rattle.tac_build.specs.declared.builder.Builder.{Builder}
use Rattle.tac_build.specs.declared.names.Source.{Source}
use Rattle.tac_build.specs.declared.homes.Home as memory_home
use Rattle.tac_build.specs.declared.lowered.Lowered as memory_lowered
use Rattle.tac_build.specs.declared.lowered.Lowered.TheVariants as L
use Rattle.tac_build.specs.declared.lowered.IntegerValue.{IntegerValue}
use Rattle.tac_build.specs.declared.lowered.Mode as memory_mode
use Rattle.tac_build.specs.declared.lowered.Mode.TheVariants as N
use Rattle.tac_build.specs.declared.objects.Target.{Target}
use Rattle.tac_build.specs.declared.objects.Target.TheVariants as Targets
use Rattle.tac_build.specs.declared.assignments.Moment.{Moment}
use Rattle.tac_build.specs.declared.assignments.Moment.TheVariants as Moments
use Rattle.tac_build.specs.Homes.{Home, Scope, register_home, is_pure}
use Rattle.tac_build.specs.Spots.{Spot, behind, with_temporary, temporary, Lowered, AsInteger, Mode, Kept, Dropped, Behind, Row, is_used}
use Rattle.tac_build.specs.Code.{HasOp, Stores, WritesLocal, compound_tree, step_tree, gives_old, is_up, PartCode, AssignCode, CompoundCode, PointerCode, OneCode, SteppingCode, ValueCode, ObjectCode}
use Rattle.tac_build.specs.Forms.{HasForm, ObjectForm}
use Rattle.tac_build.specs.Building.{lowered_in, integer_of, place_in, mode_of, home_in, IsInteger, IsScalar, IsScalarType, IsPointerType, Fills, Grows, points_in, spot_of, Lowers, LowersIn, HasRoom, Adds, TargetStands, TargetPoints, AssignsTarget, UpdatesTarget, StepsTarget, ShiftsTarget, at_moment}
use Rattle.tac_build.specs.Lowering.{names_for, AddsFewer, program_in, types_of_source, scope_of, context_in, ValueTyped, ObjectTyped, LoweredHolds, ValueLowers, TargetLowers}
use Rattle.tac_build.proofs.Everywhere.{holds_integer, holds_nothing, holds_pointer}
use Rattle.tac_build.proofs.Forms.{value_form, object_form, home_type}
use Rattle.tac_build.proofs.ObjectForms.{integer_kept, meaning_stands, complete_not_void}
use Rattle.tac_build.proofs.Points.{fills_same, fills_grown, grows_same}

-- ---- parts that are reached through their boxes

pub assign_is : {v : memory_value.Value} {place : _} {p : _} {a object : memory_object.Object} {q : _} {b value : memory_value.Value} → v ≡ V.Assign' place p a q b → object ≡ a → value ≡ b
    → v ≡ V.Assign' place p object q value
assign_is {place = place} {p = p} {q = q} e d f = e ∙ (λ i. V.Assign' place p (sym d i) q (sym f i))

pub compound_is : {v : memory_value.Value} {op : BinOp} {place : _} {object_type int_type : IntType} {p : _} {a object : memory_object.Object} {q : _} {b value : memory_value.Value}
    → v ≡ V.AssignArithmetic' op place object_type int_type p a q b → object ≡ a → value ≡ b → v ≡ V.AssignArithmetic' op place object_type int_type p object q value
compound_is {op = op} {place = place} {object_type = object_type} {int_type = int_type} {p = p} {q = q} e d f = e ∙ (λ i. V.AssignArithmetic' op place object_type int_type p (sym d i) q (sym f i))

pub moved_is : {v : memory_value.Value} {is_minus : Bool} {place : _} {p : _} {a object : memory_object.Object} {q : _} {b value : memory_value.Value} → v ≡ V.AssignMoved' is_minus place p a q b → object ≡ a → value ≡ b
    → v ≡ V.AssignMoved' is_minus place p object q value
moved_is {is_minus = is_minus} {place = place} {p = p} {q = q} e d f = e ∙ (λ i. V.AssignMoved' is_minus place p (sym d i) q (sym f i))

pub step_is : {v : memory_value.Value} {stepping : Stepping} {place : _} {n : IntType} {p : _} {a object : memory_object.Object} → v ≡ V.StepInteger' stepping place n p a → object ≡ a
    → v ≡ V.StepInteger' stepping place n p object
step_is {stepping = stepping} {place = place} {n = n} {p = p} e d = e ∙ (λ i. V.StepInteger' stepping place n p (sym d i))

pub step_pointer_is : {v : memory_value.Value} {stepping : Stepping} {place : _} {p : _} {a object : memory_object.Object} → v ≡ V.StepPointer' stepping place p a → object ≡ a
    → v ≡ V.StepPointer' stepping place p object
step_pointer_is {stepping = stepping} {place = place} {p = p} e d = e ∙ (λ i. V.StepPointer' stepping place p (sym d i))

-- ---- names that are added

pub room_for_two : (old mid next : Builder) (a b : ℕ) → HasRoom old (names_for (suc (a + b))) → AddsFewer old mid (names_for a) → AddsFewer mid next (names_for b) → HasRoom next 2
room_for_two old mid next a b room adds more = omega (arith, room, adds, more)

pub fewer_two : (old mid next new : Builder) (a b : ℕ) → AddsFewer old mid (names_for a) → AddsFewer mid next (names_for b) → Adds next new 2 → AddsFewer old new (names_for (suc (a + b)))
fewer_two old mid next new a b adds more last = omega (arith, adds, more, last)

pub room_step : (old mid : Builder) (a : ℕ) → HasRoom old (names_for (suc a)) → AddsFewer old mid (names_for a) → HasRoom mid 2
room_step old mid a room adds = omega (arith, room, adds)

pub fewer_step : (old mid new : Builder) (a : ℕ) → AddsFewer old mid (names_for a) → Adds mid new 2 → AddsFewer old new (names_for (suc a))
fewer_step old mid new a adds more = omega (arith, adds, more)

-- ---- kinds

scalar_type : (t : CType) → is_scalar t ≡ true → IsScalarType t
scalar_type (Integer n) kind = tt
scalar_type (Pointer target) kind = tt
scalar_type Void kind = absurd (false≢true kind)
scalar_type (Array u count) kind = absurd (false≢true kind)
scalar_type (Struct tag) kind = absurd (false≢true kind)
scalar_type (Function u us) kind = absurd (false≢true kind)

pointer_type : (structs : List StructDef) (t : CType) → is_pointer_to_complete structs t ≡ true → IsPointerType t
pointer_type structs (Pointer target) kind = tt
pointer_type structs (Integer n) kind = absurd (false≢true kind)
pointer_type structs Void kind = absurd (false≢true kind)
pointer_type structs (Array u count) kind = absurd (false≢true kind)
pointer_type structs (Struct tag) kind = absurd (false≢true kind)
pointer_type structs (Function u us) kind = absurd (false≢true kind)

scalar_given : (table : Interned) (lowered : memory_lowered.Lowered) (t : CType) → is_scalar t ≡ true → HasForm Kept (lowered_in table lowered) t → IsScalar lowered
scalar_given table (L.Integer own tree) t kind form = tt
scalar_given table (L.Pointer register target) t kind form = tt
scalar_given table (L.Object path own) t kind form = absurd form
scalar_given table L.Nothing t kind form = absurd (false≢true (ap is_scalar (sym form) ∙ kind))

-- an integer, or a pointer to objects
abbrev is_movable : List StructDef → CType → Bool
is_movable structs t = is_integer t || is_pointer_to_complete structs t

integer_movable : (structs : List StructDef) (t : CType) → is_integer t ≡ true → is_movable structs t ≡ true
integer_movable structs t kind = ap (λ b. b || is_pointer_to_complete structs t) kind

pointer_movable : (structs : List StructDef) (t : CType) → is_pointer_to_complete structs t ≡ true → is_movable structs t ≡ true
pointer_movable structs (Pointer target) kind = kind
pointer_movable structs (Integer n) kind = refl
pointer_movable structs Void kind = absurd (false≢true kind)
pointer_movable structs (Array u count) kind = absurd (false≢true kind)
pointer_movable structs (Struct tag) kind = absurd (false≢true kind)
pointer_movable structs (Function u us) kind = absurd (false≢true kind)

target_some : (structs : List StructDef) (t target : CType) → is_movable structs t ≡ true → t ≡ Pointer target → is_void target ≡ false
target_some structs t target kind is = complete_not_void structs target (subst (λ u. is_movable structs u ≡ true) is kind)

object_some : (structs : List StructDef) (mode : Mode) (own t : CType) → is_movable structs t ≡ true → ObjectForm mode own t → is_void own ≡ false
object_some structs Kept own t kind form = absurd form
object_some structs Dropped own t kind form = absurd form
object_some structs (Behind followed) own t kind form = target_some structs t own kind form
object_some structs (Row followed) own t kind form = ap is_void form.2

-- the types in what comes of them are in the table
form_holds : (table : Interned) (structs : List StructDef) (mode : Mode) (lowered : memory_lowered.Lowered) (t : CType) → is_movable structs t ≡ true → HasForm mode (lowered_in table lowered) t → LoweredHolds table lowered
form_holds table structs mode (L.Integer own tree) t kind form = tt
form_holds table structs mode (L.Pointer register target) t kind form = meaning_stands (meaning_of table target.0) (target_some structs t (type_in table target) kind form)
form_holds table structs mode (L.Object path own) t kind form = meaning_stands (meaning_of table own.0) (object_some structs mode (type_in table own) t kind form)
form_holds table structs mode L.Nothing t kind form = tt

-- ---- what is assigned

-- the types in an assignment's value are those in what is assigned
pub writes_holds : (home : memory_home.Home) (value : memory_lowered.Lowered) (old new : Builder) (lowered : memory_lowered.Lowered) → IsScalar value
    → Lowers (λ table points. WritesLocal points (home_in table home) (lowered_in table value)) old new lowered → (table : Interned) → LoweredHolds table value → LoweredHolds table lowered
writes_holds home (L.Integer own tree) old new lowered scalar code table holds = holds_integer table lowered own _ (code table (points_in table new) (fills_same (points_in table new))).1
writes_holds home (L.Pointer register target) old new lowered scalar code table holds =
    holds_pointer lowered target (λ t. register) (λ t. (code t (points_in t new) (fills_same (points_in t new))).1) table holds
writes_holds home (L.Object path own) old new lowered scalar code table holds = absurd scalar
writes_holds home L.Nothing old new lowered scalar code table holds = absurd scalar

pub stores_holds : (used : Bool) (path : Interned → Path) (c_type : Interned → CType) (value : memory_lowered.Lowered) (old new : Builder) (lowered : memory_lowered.Lowered) → IsScalar value
    → Lowers (λ table points. Stores points used (path table) (c_type table) (lowered_in table value)) old new lowered → (table : Interned) → LoweredHolds table value → LoweredHolds table lowered
stores_holds true path c_type (L.Integer own tree) old new lowered scalar code table holds = holds_integer table lowered own _ (code table (points_in table new) (fills_same (points_in table new))).2
stores_holds false path c_type (L.Integer own tree) old new lowered scalar code table holds = holds_nothing table lowered (code table (points_in table new) (fills_same (points_in table new))).1
stores_holds true path c_type (L.Pointer register target) old new lowered scalar code table holds =
    holds_pointer lowered target (λ t. register) (λ t. (code t (points_in t new) (fills_same (points_in t new))).1) table holds
stores_holds false path c_type (L.Pointer register target) old new lowered scalar code table holds =
    holds_pointer lowered target (λ t. register) (λ t. (code t (points_in t new) (fills_same (points_in t new))).1) table holds
stores_holds true path c_type (L.Object own other) old new lowered scalar code table holds = absurd scalar
stores_holds false path c_type (L.Object own other) old new lowered scalar code table holds = absurd scalar
stores_holds true path c_type L.Nothing old new lowered scalar code table holds = absurd scalar
stores_holds false path c_type L.Nothing old new lowered scalar code table holds = absurd scalar

-- ---- steps

-- the step of a local in a register is the same whatever the code of the object
steps_as : (points : List Op) (used : Bool) (stepping : Stepping) (n : IntType) (home : Home) (one other : PartCode) (from to : Spot) (lowered : Lowered) → SteppingCode points used stepping n (Some home) one from to lowered
    → SteppingCode points used stepping n (Some home) other from to lowered
steps_as points false stepping n home one other from to lowered code = code
steps_as points true Steppings.PreIncrement n home one other from to lowered code = code
steps_as points true Steppings.PreDecrement n home one other from to lowered code = code
steps_as points true Steppings.PostIncrement n home one other from to lowered code = code
steps_as points true Steppings.PostDecrement n home one other from to lowered code = code

moved_kind : (structs : List StructDef) (a b t : CType) → moved structs a b ≡ Some t → (a ≡ t) × (is_pointer_to_complete structs t ≡ true) × (is_integer b ≡ true)
moved_kind structs a b t is =
    let held = held_parts (is_pointer_to_complete structs a && is_integer b) a t is in
    let both = and_parts (is_pointer_to_complete structs a) (is_integer b) held.0 in
    (held.1, subst (λ u. is_pointer_to_complete structs u ≡ true) held.1 both.0, both.1)

right_integer : (op : BinOp) (n : IntType) (other : CType) → is_right op (Integer n) other ≡ true → is_integer other ≡ true
right_integer op n other right = by (is_shift op) right
  where
    by : (b : Bool) → (if b then is_integer other else same_type (Integer n) other) ≡ true → is_integer other ≡ true
    by true h = h
    by false h = ap is_integer (sym (same_type-true (Integer n) other h))

abbrev target_type : Interned → Target → CType
target_type table (Targets.Register home) = type_in table home.c_type
target_type table (Targets.Memory place) = type_in table place.c_type

module _ (source : Source) (scope : List memory_home.Home) where
  abbrev homes : Scope
  homes = scope_of source scope

  abbrev type_here : memory_value.Value → Option CType
  type_here value = type_of (context_in source scope) (value_in (types_of_source source) value)

  abbrev object_type_here : memory_object.Object → Option CType
  object_type_here object = type_of_object (context_in source scope) (object_in (types_of_source source) object)

  abbrev object_code : List Op → Bool → memory_object.Object → PartCode
  object_code points followed object = ObjectCode (program_in source) points (scope_of source scope) false followed (object_in (types_of_source source) object)

  abbrev value_code : List Op → memory_value.Value → PartCode
  value_code points value = ValueCode (program_in source) points (scope_of source scope) Kept (value_in (types_of_source source) value)

  abbrev home_here : memory_object.Object → Option Home
  home_here object = register_home (scope_of source scope) (object_in (types_of_source source) object)

  -- ---- the parts

  -- the object that is written, of a type that a test tells
  pub record ObjectPart (test : CType → Bool) (object : memory_object.Object) : Type 0 where
    pub stands : ObjectStands (types_of_source source) object
    pub c_type : CType
    pub typed : type_of_object (context_in source scope) (object_in (types_of_source source) object) ≡ Some c_type
    pub is : test c_type ≡ true

  -- the operand
  pub record ValuePart (test : CType → Bool) (value : memory_value.Value) : Type 0 where
    pub stands : ValueStands (types_of_source source) value
    pub c_type : CType
    pub typed : type_of (context_in source scope) (value_in (types_of_source source) value) ≡ Some c_type
    pub is : test c_type ≡ true

  pub object_typed : (test : CType → Bool) (object : memory_object.Object) → ObjectPart test object → ObjectTyped source scope object
  object_typed test object part = record { stands = part.stands; c_type = part.c_type; typed = part.typed }

  pub value_typed : (test : CType → Bool) (value : memory_value.Value) → ValuePart test value → ValueTyped source scope value
  value_typed test value part = record { stands = part.stands; c_type = part.c_type; typed = part.typed }

  abbrev structs : List StructDef
  structs = structs_in (types_of_source source)

  abbrev pub points_to_complete : CType → Bool
  points_to_complete t = is_pointer_to_complete (structs_in (types_of_source source)) t

  abbrev pub is_the : IntType → CType → Bool
  is_the n t = same_type t (Integer n)

  pub assign_object : (place : _) (p : _) (object : memory_object.Object) (q : _) (value : memory_value.Value) → ValueTyped source scope (V.Assign' place p object q value) → ObjectPart is_scalar object
  assign_object place p object q value whole =
      let parts = first_parts (object_type_here object) (type_here value) (λ a b. is_scalar a && same_type a b) whole.c_type whole.typed in
      record { stands = whole.stands.0; c_type = whole.c_type; typed = parts.left; is = (and_parts (is_scalar whole.c_type) (same_type whole.c_type parts.b) parts.holds).0 }

  pub assign_value : (place : _) (p : _) (object : memory_object.Object) (q : _) (value : memory_value.Value) → ValueTyped source scope (V.Assign' place p object q value) → ValuePart is_scalar value
  assign_value place p object q value whole =
      let parts = first_parts (object_type_here object) (type_here value) (λ a b. is_scalar a && same_type a b) whole.c_type whole.typed in
      let both = and_parts (is_scalar whole.c_type) (same_type whole.c_type parts.b) parts.holds in
      record { stands = whole.stands.1; c_type = parts.b; typed = parts.right; is = subst (λ u. is_scalar u ≡ true) (same_type-true whole.c_type parts.b both.1) both.0 }

  pub compound_object : (op : BinOp) (place : _) (object_type int_type : IntType) (p : _) (object : memory_object.Object) (q : _) (value : memory_value.Value)
      → ValueTyped source scope (V.AssignArithmetic' op place object_type int_type p object q value) → ObjectPart (is_the object_type) object
  compound_object op place object_type int_type p object q value whole =
      let parts = first_parts (object_type_here object) (type_here value) (λ a b. same_type a (Integer object_type) && is_right op (Integer int_type) b) whole.c_type whole.typed in
      record { stands = whole.stands.0; c_type = whole.c_type; typed = parts.left; is = (and_parts (same_type whole.c_type (Integer object_type)) (is_right op (Integer int_type) parts.b) parts.holds).0 }

  pub compound_value : (op : BinOp) (place : _) (object_type int_type : IntType) (p : _) (object : memory_object.Object) (q : _) (value : memory_value.Value)
      → ValueTyped source scope (V.AssignArithmetic' op place object_type int_type p object q value) → ValuePart is_integer value
  compound_value op place object_type int_type p object q value whole =
      let parts = first_parts (object_type_here object) (type_here value) (λ a b. same_type a (Integer object_type) && is_right op (Integer int_type) b) whole.c_type whole.typed in
      let both = and_parts (same_type whole.c_type (Integer object_type)) (is_right op (Integer int_type) parts.b) parts.holds in
      record { stands = whole.stands.1; c_type = parts.b; typed = parts.right; is = right_integer op int_type parts.b both.1 }

  pub moved_object : (is_minus : Bool) (place : _) (p : _) (object : memory_object.Object) (q : _) (value : memory_value.Value) → ValueTyped source scope (V.AssignMoved' is_minus place p object q value)
      → ObjectPart points_to_complete object
  moved_object is_minus place p object q value whole =
      let parts = two_parts (object_type_here object) (type_here value) (moved structs) whole.c_type whole.typed in
      let kind = moved_kind structs parts.a parts.b whole.c_type parts.gave in
      record { stands = whole.stands.0; c_type = whole.c_type; typed = parts.left ∙ ap Some kind.0; is = kind.1 }

  pub moved_value : (is_minus : Bool) (place : _) (p : _) (object : memory_object.Object) (q : _) (value : memory_value.Value) → ValueTyped source scope (V.AssignMoved' is_minus place p object q value)
      → ValuePart is_integer value
  moved_value is_minus place p object q value whole =
      let parts = two_parts (object_type_here object) (type_here value) (moved structs) whole.c_type whole.typed in
      let kind = moved_kind structs parts.a parts.b whole.c_type parts.gave in
      record { stands = whole.stands.1; c_type = parts.b; typed = parts.right; is = kind.2 }

  pub step_object : (stepping : Stepping) (place : _) (n : IntType) (p : _) (object : memory_object.Object) → ValueTyped source scope (V.StepInteger' stepping place n p object) → ObjectPart (is_the n) object
  step_object stepping place n p object whole =
      let parts = same_parts (object_type_here object) (λ u. same_type u (Integer n)) whole.c_type whole.typed in
      record { stands = whole.stands; c_type = whole.c_type; typed = parts.0; is = parts.1 }

  pub step_pointer : (stepping : Stepping) (place : _) (p : _) (object : memory_object.Object) → ValueTyped source scope (V.StepPointer' stepping place p object) → ObjectPart points_to_complete object
  step_pointer stepping place p object whole =
      let parts = same_parts (object_type_here object) (is_pointer_to_complete structs) whole.c_type whole.typed in
      record { stands = whole.stands; c_type = whole.c_type; typed = parts.0; is = parts.1 }

  -- ---- kinds of what comes of them

  value_comes : (mode : memory_mode.Mode) (value : memory_value.Value) (t : CType) → type_here value ≡ Some t → (old new : Builder) (lowered : memory_lowered.Lowered)
      → LowersIn (types_of_source source) (λ points. ValueCode (program_in source) points (scope_of source scope) (mode_of mode) (value_in (types_of_source source) value)) old new lowered
      → HasForm (mode_of mode) (lowered_in (types_of_source source) lowered) t
  value_comes mode value t typed old new lowered code =
      let points = points_in (types_of_source source) new in
      value_form (program_in source) points homes (value_in (types_of_source source) value) (mode_of mode) t (spot_of (types_of_source source) old) (spot_of (types_of_source source) new)
      (lowered_in (types_of_source source) lowered) typed (code points (fills_same points))

  pub given_scalar : (value : memory_value.Value) → ValuePart is_scalar value → (old new : Builder) (given : memory_lowered.Lowered) → ValueLowers source scope N.Kept value old new given → IsScalar given
  given_scalar value part old new given code = scalar_given (types_of_source source) given part.c_type part.is (value_comes N.Kept value part.c_type part.typed old new given code.0)

  pub given_integer : (value : memory_value.Value) → ValuePart is_integer value → (old new : Builder) (given : memory_lowered.Lowered) → ValueLowers source scope N.Kept value old new given
      → IsInteger given
  given_integer value part old new given code = integer_kept (types_of_source source) given part.c_type part.is (value_comes N.Kept value part.c_type part.typed old new given code.0)

  target_is : (object : memory_object.Object) (t : CType) → object_type_here object ≡ Some t → (followed : Bool) (old new : Builder) (target : Target) → TargetLowers source scope followed object old new target
      → t ≡ target_type (types_of_source source) target
  target_is object t typed followed old new (Targets.Register home) code =
      home_type (program_in source) [] homes (object_in (types_of_source source) object) (home_in (types_of_source source) home) t code.0 typed
  target_is object t typed followed old new (Targets.Memory place) code =
      let points = points_in (types_of_source source) new in
      object_form (program_in source) points homes (object_in (types_of_source source) object) false followed t (spot_of (types_of_source source) old) (spot_of (types_of_source source) new)
      (place_in (types_of_source source) place) typed (code.1 points (fills_same points))

  pub target_stands : (object : memory_object.Object) → ObjectPart is_scalar object → (followed : Bool) (old new : Builder) (target : Target) (types : Interned) → types ≡ types_of_source source
      → TargetLowers source scope followed object old new target → TargetStands types target
  target_stands object part followed old new target types same code = subst (λ any. TargetStands any target) (sym same) (by target code (target_is object part.c_type part.typed followed old new target code))
    where
      by : (target : Target) → TargetLowers source scope followed object old new target → part.c_type ≡ target_type (types_of_source source) target → TargetStands (types_of_source source) target
      by (Targets.Register home) code is = (code.2, subst IsScalarType is (scalar_type part.c_type part.is))
      by (Targets.Memory place) code is = (code.2, subst IsScalarType is (scalar_type part.c_type part.is))

  pub target_points : (object : memory_object.Object) → ObjectPart points_to_complete object → (followed : Bool) (old new : Builder) (target : Target) (types : Interned) → types ≡ types_of_source source
      → TargetLowers source scope followed object old new target → TargetPoints types target
  target_points object part followed old new target types same code = subst (λ any. TargetPoints any target) (sym same) (by target code (target_is object part.c_type part.typed followed old new target code))
    where
      by : (target : Target) → TargetLowers source scope followed object old new target → part.c_type ≡ target_type (types_of_source source) target → TargetPoints (types_of_source source) target
      by (Targets.Register home) code is = (code.2, subst IsPointerType is (pointer_type structs part.c_type part.is))
      by (Targets.Memory place) code is = (code.2, subst IsPointerType is (pointer_type structs part.c_type part.is))

  integer_at : (value : memory_value.Value) (old new : Builder) (given : memory_lowered.Lowered) (operand : IntegerValue) → ValueLowers source scope N.Kept value old new given
      → ((t : Interned) → lowered_in t given ≡ integer_of operand) → (points : List Op) → Fills (points_in (types_of_source source) new) points
      → value_code points value (spot_of (types_of_source source) old) (spot_of (types_of_source source) new) (AsInteger operand.int_type (tree_of operand.tree.value))
  integer_at value old new given operand code is points fills =
      subst (λ l. value_code points value (spot_of (types_of_source source) old) (spot_of (types_of_source source) new) l) (is (types_of_source source)) (code.0 points fills)

  -- ---- codes

  abbrev AssignedAt : Bool → Bool → memory_object.Object → memory_value.Value → List Op → PartCode
  AssignedAt used followed object value points = AssignCode points used (home_here object) (object_code points followed object) (value_code points value)

  assigned : (used followed : Bool) (object : memory_object.Object) (value : memory_value.Value) (old mid next new : Builder) (target : Target) (given lowered : memory_lowered.Lowered)
      → TargetLowers source scope followed object old mid target → ValueLowers source scope N.Kept value mid next given → Grows mid next
      → LowersIn (types_of_source source) (AssignsTarget (types_of_source source) used target (lowered_in (types_of_source source) given)) next new lowered → Grows next new
      → LowersIn (types_of_source source) (AssignedAt used followed object value) old new lowered
  assigned used followed object value old mid next new (Targets.Register home) given lowered first second grows third more = λ points fills.
      let here = types_of_source source in
      let fills_next = fills_grown here next new points more fills in
      subst (λ found. AssignCode points used found (object_code points followed object) (value_code points value) (spot_of here old) (spot_of here new) (lowered_in here lowered)) (sym first.0) (
        spot_of here next,
        lowered_in here given,
        subst (λ b. value_code points value (spot_of here b) (spot_of here next) (lowered_in here given)) first.1 (second.0 points fills_next),
        third points fills,
      )
  assigned used followed object value old mid next new (Targets.Memory place) given lowered first second grows third more = λ points fills.
      let here = types_of_source source in
      let fills_next = fills_grown here next new points more fills in
      let fills_mid = fills_grown here mid next points grows fills_next in
      subst (λ found. AssignCode points used found (object_code points followed object) (value_code points value) (spot_of here old) (spot_of here new) (lowered_in here lowered)) (sym first.0)
      (spot_of here mid, spot_of here next, path_in here place.path.value, type_in here place.c_type, lowered_in here given, first.1 points fills_mid, second.0 points fills_next, third points fills)

  pub assign_code : (place : _) (p : _) (object : memory_object.Object) (q : _) (value : memory_value.Value) (mode : memory_mode.Mode) (used followed : Bool) (old mid next new : Builder) (target : Target)
      (given : memory_lowered.Lowered) (types : Interned) (result : Result memory_lowered.Lowered AllocError) → types ≡ types_of_source source → ValueTyped source scope (V.Assign' place p object q value)
      → used ≡ is_used (mode_of mode) → followed ≡ not (is_pure (scope_of source scope) (value_in (types_of_source source) value))
      → TargetLowers source scope followed object old mid target → ValueLowers source scope N.Kept value mid next given → Grows mid next
      → IfOk result (LowersIn types (AssignsTarget types used target (lowered_in types given)) next new) → IfOk result (λ lowered. LoweredHolds types given → LoweredHolds types lowered) → OnOk result (Grows next new)
      → IfOk result (ValueLowers source scope mode (V.Assign' place p object q value) old new)
  assign_code place p object q value mode used followed old mid next new target given types (Ok lowered) same whole is_used_here is_followed_here first second grows third holds more =
      let here = types_of_source source in
      let third_here = subst (λ any. LowersIn any (AssignsTarget any used target (lowered_in any given)) next new lowered) same third in
      let holds_here = subst (λ any. LoweredHolds any given → LoweredHolds any lowered) same holds in
      let code = assigned used followed object value old mid next new target given lowered first second grows third_here more in (
        subst (λ u. LowersIn here (AssignedAt u (not (is_pure (scope_of source scope) (value_in here value))) object value) old new lowered) is_used_here
            (subst (λ f. LowersIn here (AssignedAt used f object value) old new lowered) is_followed_here code),
        holds_here second.1,
      )
  assign_code place p object q value mode used followed old mid next new target given types (Err fault) same whole is_used_here is_followed_here first second grows third holds more = tt

  abbrev CompoundAt : Bool → Bool → memory_object.Object → memory_value.Value → IntType → (Register → Tree → Tree) → List Op → PartCode
  CompoundAt used followed object value object_type make points = CompoundCode points used (home_here object) (object_code points followed object) (value_code points value) object_type make

  compounded : (used followed : Bool) (object : memory_object.Object) (value : memory_value.Value) (object_type : IntType) (make : Register → Tree → Tree) (old mid next new : Builder) (target : Target)
      (operand : IntegerValue) (given lowered : memory_lowered.Lowered) → Integer object_type ≡ target_type (types_of_source source) target
      → TargetLowers source scope followed object old mid target → ValueLowers source scope N.Kept value mid next given → Grows mid next → ((t : Interned) → lowered_in t given ≡ integer_of operand)
      → LowersIn (types_of_source source) (UpdatesTarget (types_of_source source) used target object_type (λ register. make register (tree_of operand.tree.value))) next new lowered → Grows next new
      → LowersIn (types_of_source source) (CompoundAt used followed object value object_type make) old new lowered
  compounded used followed object value object_type make old mid next new (Targets.Register home) operand given lowered is_type first second grows is third more = λ points fills.
      let here = types_of_source source in
      let fills_next = fills_grown here next new points more fills in
      let done = third points fills in
      subst (λ found. CompoundCode points used found (object_code points followed object) (value_code points value) object_type make (spot_of here old) (spot_of here new) (lowered_in here lowered)) (sym first.0) (
        spot_of here next,
        operand.int_type,
        tree_of operand.tree.value,
        subst (λ b. value_code points value (spot_of here b) (spot_of here next) (AsInteger operand.int_type (tree_of operand.tree.value))) first.1 (integer_at value mid next given operand second is points fills_next),
        done.0,
        done.1,
      )
  compounded used followed object value object_type make old mid next new (Targets.Memory place) operand given lowered is_type first second grows is third more = λ points fills.
      let here = types_of_source source in
      let fills_next = fills_grown here next new points more fills in
      let fills_mid = fills_grown here mid next points grows fills_next in
      let done = third points fills in
      subst (λ found. CompoundCode points used found (object_code points followed object) (value_code points value) object_type make (spot_of here old) (spot_of here new) (lowered_in here lowered)) (sym first.0) (
        spot_of here mid,
        spot_of here next,
        path_in here place.path.value,
        type_in here place.c_type,
        operand.int_type,
        tree_of operand.tree.value,
        first.1 points fills_mid,
        integer_at value mid next given operand second is points fills_next,
        subst (λ t. HasOp points (spot_of here next).at (C.Load (temporary (spot_of here next)) t (path_in here place.path.value))) is_type done.0,
        subst (λ t. Stores points used (path_in here place.path.value) t (AsInteger object_type (make (temporary (spot_of here next)) (tree_of operand.tree.value))) (behind (with_temporary (spot_of here next))) (spot_of here new) (lowered_in here lowered))
            is_type done.1,
      )

  pub compound_code : (op : BinOp) (place : _) (object_type int_type : IntType) (p : _) (object : memory_object.Object) (q : _) (value : memory_value.Value) (mode : memory_mode.Mode) (used followed : Bool)
      (old mid next new : Builder) (target : Target) (operand : IntegerValue) (given : memory_lowered.Lowered) (result : Result memory_lowered.Lowered AllocError)
      → ValueTyped source scope (V.AssignArithmetic' op place object_type int_type p object q value)
      → used ≡ is_used (mode_of mode) → followed ≡ not (is_pure (scope_of source scope) (value_in (types_of_source source) value))
      → TargetLowers source scope followed object old mid target → ValueLowers source scope N.Kept value mid next given → Grows mid next → ((t : Interned) → lowered_in t given ≡ integer_of operand)
      → IfOk result (Lowers (λ table. UpdatesTarget table used target object_type (λ register. compound_tree op object_type int_type register (tree_of operand.tree.value))) next new) → OnOk result (Grows next new)
      → IfOk result (ValueLowers source scope mode (V.AssignArithmetic' op place object_type int_type p object q value) old new)
  unfolding compound_object
  compound_code op place object_type int_type p object q value mode used followed old mid next new target operand given (Ok lowered) whole is_used_here is_followed_here first second grows is third more =
      let here = types_of_source source in
      let part = compound_object op place object_type int_type p object q value whole in
      let own = same_type-true part.c_type (Integer object_type) part.is in
      let code = compounded used followed object value object_type (compound_tree op object_type int_type) old mid next new target operand given lowered
      (sym own ∙ target_is object part.c_type part.typed followed old mid target first) first second grows is (third here) more in
      let done = subst (λ u. LowersIn here (CompoundAt u (not (is_pure (scope_of source scope) (value_in here value))) object value object_type (compound_tree op object_type int_type)) old new lowered) is_used_here
      (subst (λ f. LowersIn here (CompoundAt used f object value object_type (compound_tree op object_type int_type)) old new lowered) is_followed_here code) in (
        done,
        form_holds here structs (mode_of mode) lowered whole.c_type (integer_movable structs whole.c_type (ap is_integer own))
            (value_comes mode (V.AssignArithmetic' op place object_type int_type p object q value) whole.c_type whole.typed old new lowered done),
      )
  compound_code op place object_type int_type p object q value mode used followed old mid next new target operand given (Err fault) whole is_used_here is_followed_here first second grows is third more = tt

  -- a pointer moves
  abbrev ShiftedAt : Bool → memory_object.Object → Bool → (List Op → PartCode) → List Op → Spot → Spot → Lowered → Lowered → Type 0
  ShiftedAt followed object is_minus number points = PointerCode points (home_here object) (object_code points followed object) is_minus (number points)

  shifted : (followed : Bool) (object : memory_object.Object) (is_minus : Bool) (number : List Op → PartCode) (own : IntType) (tree : Tree) (moment : Moment) (old mid next new : Builder) (target : Target)
      (lowered : memory_lowered.Lowered) → TargetLowers source scope followed object old mid target
      → ((points : List Op) → Fills (points_in (types_of_source source) next) points → number points (spot_of (types_of_source source) mid) (spot_of (types_of_source source) next) (AsInteger own tree)) → Grows mid next
      → LowersIn (types_of_source source) (ShiftsTarget (types_of_source source) target is_minus tree moment) next new lowered → Grows next new
      → (points : List Op) → Fills (points_in (types_of_source source) new) points
      → (before : Lowered) × (after : Lowered) × ShiftedAt followed object is_minus number points (spot_of (types_of_source source) old) (spot_of (types_of_source source) new) before after
      × (lowered_in (types_of_source source) lowered ≡ at_moment moment before after)
  shifted followed object is_minus number own tree moment old mid next new (Targets.Register home) lowered first second grows third more points fills =
      let here = types_of_source source in
      let fills_next = fills_grown here next new points more fills in
      let done = third points fills in (
        done.0,
        done.1,
        subst (λ found. PointerCode points found (object_code points followed object) is_minus (number points) (spot_of here old) (spot_of here new) done.0 done.1) (sym first.0)
            (spot_of here next, own, tree, subst (λ b. number points (spot_of here b) (spot_of here next) (AsInteger own tree)) first.1 (second points fills_next), done.2),
        done.3,
      )
  shifted followed object is_minus number own tree moment old mid next new (Targets.Memory place) lowered first second grows third more points fills =
      let here = types_of_source source in
      let fills_next = fills_grown here next new points more fills in
      let fills_mid = fills_grown here mid next points grows fills_next in
      let done = third points fills in (
        done.0,
        done.1,
        subst (λ found. PointerCode points found (object_code points followed object) is_minus (number points) (spot_of here old) (spot_of here new) done.0 done.1) (sym first.0)
            (spot_of here mid, spot_of here next, path_in here place.path.value, type_in here place.c_type, own, tree, first.1 points fills_mid, second points fills_next, done.2),
        done.3,
      )

  abbrev MovedAt : Bool → memory_object.Object → Bool → memory_value.Value → List Op → PartCode
  MovedAt followed object is_minus value points from to lowered = (before : Lowered) × ShiftedAt followed object is_minus (λ points. value_code points value) points from to before lowered

  pub moved_code : (is_minus : Bool) (place : _) (p : _) (object : memory_object.Object) (q : _) (value : memory_value.Value) (mode : memory_mode.Mode) (followed : Bool)
      (old mid next new : Builder) (target : Target) (operand : IntegerValue) (given : memory_lowered.Lowered) (types : Interned) (result : Result memory_lowered.Lowered AllocError) → types ≡ types_of_source source
      → ValueTyped source scope (V.AssignMoved' is_minus place p object q value) → followed ≡ not (is_pure (scope_of source scope) (value_in (types_of_source source) value))
      → TargetLowers source scope followed object old mid target → ValueLowers source scope N.Kept value mid next given → Grows mid next → ((t : Interned) → lowered_in t given ≡ integer_of operand)
      → IfOk result (LowersIn types (ShiftsTarget types target is_minus (tree_of operand.tree.value) Moments.After) next new) → OnOk result (Grows next new)
      → IfOk result (ValueLowers source scope mode (V.AssignMoved' is_minus place p object q value) old new)
  unfolding moved_object
  moved_code is_minus place p object q value mode followed old mid next new target operand given types (Ok lowered) same whole is_followed_here first second grows is third more =
      let here = types_of_source source in
      let part = moved_object is_minus place p object q value whole in
      let third_here = subst (λ any. LowersIn any (ShiftsTarget any target is_minus (tree_of operand.tree.value) Moments.After) next new lowered) same third in
      let code : LowersIn here (MovedAt followed object is_minus value) old new lowered = λ points fills.
      let done = shifted followed object is_minus (λ points. value_code points value) operand.int_type (tree_of operand.tree.value) Moments.After old mid next new target lowered first
      (integer_at value mid next given operand second is) grows third_here more points fills in
      (done.0, subst (λ l. ShiftedAt followed object is_minus (λ points. value_code points value) points (spot_of here old) (spot_of here new) done.0 l) (sym done.3) done.2) in
      let last = subst (λ f. LowersIn here (MovedAt f object is_minus value) old new lowered) is_followed_here code in (
        last,
        form_holds here structs (mode_of mode) lowered whole.c_type (pointer_movable structs whole.c_type part.is)
            (value_comes mode (V.AssignMoved' is_minus place p object q value) whole.c_type whole.typed old new lowered last),
      )
  moved_code is_minus place p object q value mode followed old mid next new target operand given types (Err fault) same whole is_followed_here first second grows is third more = tt

  pub step_code : (stepping : Stepping) (place : _) (p : _) (object : memory_object.Object) (mode : memory_mode.Mode) (is_minus : Bool) (tree : Tree) (moment : Moment) (old mid new : Builder) (target : Target)
      (types : Interned) (result : Result memory_lowered.Lowered AllocError) → types ≡ types_of_source source → ValueTyped source scope (V.StepPointer' stepping place p object)
      → is_minus ≡ not (is_up stepping) → tree ≡ Constant (pos 1) → ((before after : Lowered) → at_moment moment before after ≡ (if gives_old stepping then before else after))
      → TargetLowers source scope false object old mid target
      → IfOk result (LowersIn types (ShiftsTarget types target is_minus tree moment) mid new) → OnOk result (Grows mid new) → IfOk result (ValueLowers source scope mode (V.StepPointer' stepping place p object) old new)
  unfolding step_pointer
  step_code stepping place p object mode is_minus tree moment old mid new target types (Ok lowered) same whole down one told first third more =
      let here = types_of_source source in
      let part = step_pointer stepping place p object whole in
      let third_here = subst (λ any. LowersIn any (ShiftsTarget any target is_minus tree moment) mid new lowered) same third in
      let code : LowersIn here (λ points. ValueCode (program_in source) points (scope_of source scope) (mode_of mode) (value_in here (V.StepPointer' stepping place p object))) old new lowered = λ points fills.
      let done = shifted false object is_minus (λ points. OneCode points) I.Int tree moment old mid mid new target lowered first (λ points fills. (refl, ap (AsInteger I.Int) one)) (grows_same mid) third_here more points fills in
      (done.0, done.1, subst (λ b. ShiftedAt false object b (λ points. OneCode points) points (spot_of here old) (spot_of here new) done.0 done.1) down done.2, done.3 ∙ told done.0 done.1) in (
        code,
        form_holds here structs (mode_of mode) lowered whole.c_type (pointer_movable structs whole.c_type part.is)
            (value_comes mode (V.StepPointer' stepping place p object) whole.c_type whole.typed old new lowered code),
      )
  step_code stepping place p object mode is_minus tree moment old mid new target types (Err fault) same whole down one told first third more = tt

  abbrev SteppedAt : Bool → Stepping → IntType → memory_object.Object → List Op → PartCode
  SteppedAt used stepping n object points = SteppingCode points used stepping n (home_here object) (object_code points false object)

  stepped : (used : Bool) (stepping : Stepping) (n : IntType) (object : memory_object.Object) (old mid new : Builder) (target : Target) (lowered : memory_lowered.Lowered)
      → Integer n ≡ target_type (types_of_source source) target → TargetLowers source scope false object old mid target
      → LowersIn (types_of_source source) (StepsTarget (types_of_source source) used stepping target n) mid new lowered → Grows mid new
      → LowersIn (types_of_source source) (SteppedAt used stepping n object) old new lowered
  stepped used stepping n object old mid new (Targets.Register home) lowered is_type first second more = λ points fills.
      let here = types_of_source source in
      subst (λ found. SteppingCode points used stepping n found (object_code points false object) (spot_of here old) (spot_of here new) (lowered_in here lowered)) (sym first.0)
      (subst (λ b. SteppingCode points used stepping n (Some (home_in here home)) (object_code points false object) (spot_of here b) (spot_of here new) (lowered_in here lowered)) first.1
      (steps_as points used stepping n (home_in here home) (λ from to lowered. ⊥) (object_code points false object) (spot_of here mid) (spot_of here new) (lowered_in here lowered) (second points fills)))
  stepped used stepping n object old mid new (Targets.Memory place) lowered is_type first second more = λ points fills.
      let here = types_of_source source in
      let fills_mid = fills_grown here mid new points more fills in
      let done = second points fills in
      let path = path_in here place.path.value in
      subst (λ found. SteppingCode points used stepping n found (object_code points false object) (spot_of here old) (spot_of here new) (lowered_in here lowered)) (sym first.0) (
        spot_of here mid,
        path,
        type_in here place.c_type,
        done.0,
        first.1 points fills_mid,
        subst (λ t. HasOp points (spot_of here mid).at (C.Load (temporary (spot_of here mid)) t path)) is_type done.1,
        subst (λ t. Stores points (used && not (gives_old stepping)) path t (AsInteger n (step_tree stepping n (temporary (spot_of here mid)))) (behind (with_temporary (spot_of here mid))) (spot_of here new) done.0) is_type done.2,
        done.3,
      )

  pub step_integer_code : (stepping : Stepping) (place : _) (n : IntType) (p : _) (object : memory_object.Object) (mode : memory_mode.Mode) (used : Bool) (old mid new : Builder) (target : Target)
      (result : Result memory_lowered.Lowered AllocError) → ValueTyped source scope (V.StepInteger' stepping place n p object) → used ≡ is_used (mode_of mode) → TargetLowers source scope false object old mid target
      → IfOk result (Lowers (λ table. StepsTarget table used stepping target n) mid new) → OnOk result (Grows mid new)
      → IfOk result (ValueLowers source scope mode (V.StepInteger' stepping place n p object) old new)
  unfolding step_object
  step_integer_code stepping place n p object mode used old mid new target (Ok lowered) whole is_used_here first second more =
      let here = types_of_source source in
      let part = step_object stepping place n p object whole in
      let own = same_type-true part.c_type (Integer n) part.is in
      let code = stepped used stepping n object old mid new target lowered (sym own ∙ target_is object part.c_type part.typed false old mid target first) first (second here) more in
      let done = subst (λ u. LowersIn here (SteppedAt u stepping n object) old new lowered) is_used_here code in (
        done,
        form_holds here structs (mode_of mode) lowered whole.c_type (integer_movable structs whole.c_type (ap is_integer own))
            (value_comes mode (V.StepInteger' stepping place n p object) whole.c_type whole.typed old new lowered done),
      )
  step_integer_code stepping place n p object mode used old mid new target (Err fault) whole is_used_here first second more = tt
