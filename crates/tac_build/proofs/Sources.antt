-- What is asked of a tree in its surroundings holds of its parts; and what the parts come to.
use Rattle.std.proofs.Common.{◌≡◌, ℕ, Bool, true, false, not, ◌&&◌, ◌||◌, if◌then◌else◌, List, [], Option, Some, None, refl, sym, ap, ◌∙◌, subst}
use Rattle.std.proofs.lemmas.Bool.{false≢true, true≢false, and_parts, or_left, or_right, eq-eqb}
use Rattle.std.proofs.lemmas.Option.{none-some, same_Some}
use Rattle.c_num.specs.declared.IntType.{IntType}
use Rattle.c_num.specs.declared.BinOp.{BinOp}
use Rattle.c_num.specs.declared.Relation.{Relation}
use Rattle.c_num.specs.declared.Relation.TheVariants as R
use Rattle.c_num.specs.Arith.{is_shift}
use Rattle.c_typed.specs.declared.typed.Value as memory_value
use Rattle.c_typed.specs.declared.typed.Object as memory_object
use Rattle.c_typed.specs.Types.{CType, Void, Integer, Pointer, Array, Struct, Function, same_type, is_integer, is_pointer, is_array, is_struct, is_function, is_object_pointer, is_function_pointer}
use Rattle.c_typed.specs.Table.{Interned}
use Rattle.c_typed.specs.Typed as T
use Rattle.c_typed.specs.Typed.{Value, Object}
use Rattle.c_typed.specs.Views.{value_in, object_in, ValueStands, ObjectStands}
use Rattle.c_typed.proofs.Same.{same_type-true}
use Rattle.c_typed.specs.Expressions.{is_scalar, is_pointer_to_complete, are_alike, are_comparable, repoints, is_right, type_of, type_of_object}
use Rattle.tac_build.specs.declared.builder.Builder.{Builder}
use Rattle.tac_build.specs.declared.names.Source.{Source}
use Rattle.tac_build.specs.declared.homes.Home as memory_home
use Rattle.tac_build.specs.declared.lowered.Lowered as memory_lowered
use Rattle.tac_build.specs.declared.lowered.Lowered.TheVariants as L
use Rattle.tac_build.specs.declared.lowered.Mode as memory_mode
use Rattle.tac_build.specs.declared.lowered.Mode.TheVariants as N
use Rattle.tac_build.specs.Homes.{Home, Scope, home_of, in_register, register_home, home_behind, names_local, names_behind, takes}
use Rattle.tac_build.specs.Spots.{Mode, Kept, Behind, is_address}
use Rattle.tac_build.specs.Forms.{HasForm, HasObjectForm}
use Rattle.tac_build.specs.Building.{lowered_in, mode_of, IsInteger, IsPointer, IsObject, IsScalar, IsScalarType, points_in, spot_of}
use Rattle.tac_build.specs.Lowering.{program_in, types_of_source, scope_of, context_in, IsScope, ValueTyped, ObjectTyped, LieInMemory, ValueLives, ValueLowers, ObjectLowers}
use Rattle.tac_build.proofs.Forms.{value_form, object_form, home_type}
use Rattle.tac_build.proofs.Points.{fills_same}

-- ---- types of kinds

pub record IsIntegerOf (t : CType) : Type 0 where
  pub int_type : IntType
  pub is : t ≡ Integer int_type

pub record IsPointerTo (t : CType) : Type 0 where
  pub target : CType
  pub is : t ≡ Pointer target

pub integer_of_type : (t : CType) → is_integer t ≡ true → IsIntegerOf t
integer_of_type (Integer own) h = record { int_type = own; is = refl }
integer_of_type Void h = absurd (false≢true h)
integer_of_type (Pointer target) h = absurd (false≢true h)
integer_of_type (Array element count) h = absurd (false≢true h)
integer_of_type (Struct tag) h = absurd (false≢true h)
integer_of_type (Function result parameters) h = absurd (false≢true h)

pub integer_of_same : (t : CType) (own : IntType) → same_type t (Integer own) ≡ true → IsIntegerOf t
integer_of_same t own h = record { int_type = own; is = same_type-true t (Integer own) h }

pub pointer_of_type : (t : CType) → is_pointer t ≡ true → IsPointerTo t
pointer_of_type (Pointer target) h = record { target = target; is = refl }
pointer_of_type Void h = absurd (false≢true h)
pointer_of_type (Integer own) h = absurd (false≢true h)
pointer_of_type (Array element count) h = absurd (false≢true h)
pointer_of_type (Struct tag) h = absurd (false≢true h)
pointer_of_type (Function result parameters) h = absurd (false≢true h)

pub pointer_of_object : (t : CType) → is_object_pointer t ≡ true → IsPointerTo t
pointer_of_object (Pointer target) h = record { target = target; is = refl }
pointer_of_object Void h = absurd (false≢true h)
pointer_of_object (Integer own) h = absurd (false≢true h)
pointer_of_object (Array element count) h = absurd (false≢true h)
pointer_of_object (Struct tag) h = absurd (false≢true h)
pointer_of_object (Function result parameters) h = absurd (false≢true h)

pub pointer_of_function : (t : CType) → is_function_pointer t ≡ true → IsPointerTo t
pointer_of_function (Pointer target) h = record { target = target; is = refl }
pointer_of_function Void h = absurd (false≢true h)
pointer_of_function (Integer own) h = absurd (false≢true h)
pointer_of_function (Array element count) h = absurd (false≢true h)
pointer_of_function (Struct tag) h = absurd (false≢true h)
pointer_of_function (Function result parameters) h = absurd (false≢true h)

pub pointer_of_complete : (program : T.Program) (t : CType) → is_pointer_to_complete program.structs t ≡ true → IsPointerTo t
pointer_of_complete program (Pointer target) h = record { target = target; is = refl }
pointer_of_complete program Void h = absurd (false≢true h)
pointer_of_complete program (Integer own) h = absurd (false≢true h)
pointer_of_complete program (Array element count) h = absurd (false≢true h)
pointer_of_complete program (Struct tag) h = absurd (false≢true h)
pointer_of_complete program (Function result parameters) h = absurd (false≢true h)

-- what a conversion of pointers converts
pub pointer_repointed : (t target : CType) → repoints t target ≡ true → IsPointerTo t
pointer_repointed t target h = by (is_function target) h
  where
    by : (b : Bool) → (if b then is_function_pointer t else is_object_pointer t) ≡ true → IsPointerTo t
    by true h = pointer_of_function t h
    by false h = pointer_of_object t h

pub scalar_of_type : (t : CType) → is_scalar t ≡ true → IsScalarType t
scalar_of_type (Integer own) h = tt
scalar_of_type (Pointer target) h = tt
scalar_of_type Void h = absurd (false≢true h)
scalar_of_type (Array element count) h = absurd (false≢true h)
scalar_of_type (Struct tag) h = absurd (false≢true h)
scalar_of_type (Function result parameters) h = absurd (false≢true h)

-- the operands of a comparison of pointers
pub record ArePointers (a b : CType) : Type 0 where
  pub left : IsPointerTo a
  pub right : IsPointerTo b

pointers_same : (a b : CType) → (is_object_pointer a && same_type a b) ≡ true → ArePointers a b
pointers_same a b h =
    let parts = and_parts (is_object_pointer a) (same_type a b) h in
    let first = pointer_of_object a parts.0 in
    record { left = first; right = subst IsPointerTo (same_type-true a b parts.1) first }

pointers_alike : (a b : CType) → are_alike a b ≡ true → ArePointers a b
pointers_alike (Pointer target) (Pointer other) h = record { left = record { target = target; is = refl }; right = record { target = other; is = refl } }
pointers_alike (Pointer target) Void h = absurd (false≢true h)
pointers_alike (Pointer target) (Integer own) h = absurd (false≢true h)
pointers_alike (Pointer target) (Array element count) h = absurd (false≢true h)
pointers_alike (Pointer target) (Struct tag) h = absurd (false≢true h)
pointers_alike (Pointer target) (Function result parameters) h = absurd (false≢true h)
pointers_alike Void b h = absurd (false≢true h)
pointers_alike (Integer own) b h = absurd (false≢true h)
pointers_alike (Array element count) b h = absurd (false≢true h)
pointers_alike (Struct tag) b h = absurd (false≢true h)
pointers_alike (Function result parameters) b h = absurd (false≢true h)

pub pointers_compared : (relation : Relation) (a b : CType) → are_comparable relation a b ≡ true → ArePointers a b
pointers_compared R.Eq a b h = pointers_alike a b h
pointers_compared R.Ne a b h = pointers_alike a b h
pointers_compared R.Lt a b h = pointers_same a b h
pointers_compared R.Le a b h = pointers_same a b h
pointers_compared R.Gt a b h = pointers_same a b h
pointers_compared R.Ge a b h = pointers_same a b h

-- the right operand of an operator at an integer type
pub integer_right : (op : BinOp) (own : IntType) (a b : CType) → a ≡ Integer own → is_right op a b ≡ true → IsIntegerOf b
integer_right op own a b is h = by (is_shift op) h
  where
    by : (shifts : Bool) → (if shifts then is_integer b else same_type a b) ≡ true → IsIntegerOf b
    by true h = integer_of_type b h
    by false h = record { int_type = own; is = sym (same_type-true a b h) ∙ is }

-- ---- trees of a kind

-- an expression of integer type
pub record IntegerTyped (source : Source) (scope : List memory_home.Home) (value : memory_value.Value) : Type 0 where
  pub stands : ValueStands (types_of_source source) value
  pub int_type : IntType
  pub typed : type_of (context_in source scope) (value_in (types_of_source source) value) ≡ Some (Integer int_type)

-- an expression of pointer type
pub record PointerTyped (source : Source) (scope : List memory_home.Home) (value : memory_value.Value) : Type 0 where
  pub stands : ValueStands (types_of_source source) value
  pub target : CType
  pub typed : type_of (context_in source scope) (value_in (types_of_source source) value) ≡ Some (Pointer target)

pub typed_as : (source : Source) (scope : List memory_home.Home) (value : memory_value.Value) (t : CType) → ValueStands (types_of_source source) value
    → type_of (context_in source scope) (value_in (types_of_source source) value) ≡ Some t → ValueTyped source scope value
typed_as source scope value t stands typed = record { stands = stands; c_type = t; typed = typed }

pub object_typed_as : (source : Source) (scope : List memory_home.Home) (object : memory_object.Object) (t : CType) → ObjectStands (types_of_source source) object
    → type_of_object (context_in source scope) (object_in (types_of_source source) object) ≡ Some t → ObjectTyped source scope object
object_typed_as source scope object t stands typed = record { stands = stands; c_type = t; typed = typed }

pub typed_integer : (source : Source) (scope : List memory_home.Home) (value : memory_value.Value) → IntegerTyped source scope value → ValueTyped source scope value
typed_integer source scope value h = record { stands = h.stands; c_type = Integer h.int_type; typed = h.typed }

pub typed_pointer : (source : Source) (scope : List memory_home.Home) (value : memory_value.Value) → PointerTyped source scope value → ValueTyped source scope value
typed_pointer source scope value h = record { stands = h.stands; c_type = Pointer h.target; typed = h.typed }

pub integer_typed : (source : Source) (scope : List memory_home.Home) (value : memory_value.Value) (t : CType) → ValueStands (types_of_source source) value
    → type_of (context_in source scope) (value_in (types_of_source source) value) ≡ Some t → IsIntegerOf t → IntegerTyped source scope value
integer_typed source scope value t stands typed is = record { stands = stands; int_type = is.int_type; typed = typed ∙ ap Some is.is }

pub pointer_typed : (source : Source) (scope : List memory_home.Home) (value : memory_value.Value) (t : CType) → ValueStands (types_of_source source) value
    → type_of (context_in source scope) (value_in (types_of_source source) value) ≡ Some t → IsPointerTo t → PointerTyped source scope value
pointer_typed source scope value t stands typed is = record { stands = stands; target = is.target; typed = typed ∙ ap Some is.is }

-- ---- forms of what is lowered

pub integer_by_form : (table : Interned) (lowered : memory_lowered.Lowered) (own : IntType) → HasForm Kept (lowered_in table lowered) (Integer own) → IsInteger lowered
integer_by_form table (L.Integer int_type tree) own form = tt
integer_by_form table (L.Pointer register target) own form = absurd (cc)
integer_by_form table (L.Object path c_type) own form = absurd form
integer_by_form table L.Nothing own form = absurd (cc)

pub pointer_by_form : (table : Interned) (lowered : memory_lowered.Lowered) (target : CType) → HasForm Kept (lowered_in table lowered) (Pointer target) → IsPointer lowered
pointer_by_form table (L.Integer int_type tree) target form = absurd (cc)
pointer_by_form table (L.Pointer register own) target form = tt
pointer_by_form table (L.Object path c_type) target form = absurd form
pointer_by_form table L.Nothing target form = absurd (cc)

-- an object whose address isn't kept
pub object_by_form : (table : Interned) (lowered : memory_lowered.Lowered) (t : CType) → HasObjectForm false (lowered_in table lowered) t → IsObject lowered
object_by_form table (L.Integer int_type tree) t form = absurd form
object_by_form table (L.Pointer register own) t form = absurd form
object_by_form table (L.Object path c_type) t form = tt
object_by_form table L.Nothing t form = absurd form

pub scalar_by_form : (table : Interned) (lowered : memory_lowered.Lowered) (t : CType) → IsScalarType t → HasForm Kept (lowered_in table lowered) t → IsScalar lowered
scalar_by_form table (L.Integer int_type tree) t scalar form = tt
scalar_by_form table (L.Pointer register own) t scalar form = tt
scalar_by_form table (L.Object path c_type) t scalar form = absurd form
scalar_by_form table L.Nothing t scalar form = absurd (subst IsScalarType form scalar)

module _ (source : Source) (scope : List memory_home.Home) where
  -- what a value of a type comes to, in its own builder
  pub lowered_form : (mode : memory_mode.Mode) (value : memory_value.Value) (t : CType) (old new : Builder) (lowered : memory_lowered.Lowered)
      → type_of (context_in source scope) (value_in (types_of_source source) value) ≡ Some t → ValueLowers source scope mode value old new lowered → HasForm (mode_of mode) (lowered_in (types_of_source source) lowered) t
  lowered_form mode value t old new lowered typed lowers =
      let table = types_of_source source in
      let points = points_in table new in
      value_form (program_in source) points (scope_of source scope) (value_in table value) (mode_of mode) t (spot_of table old) (spot_of table new) (lowered_in table lowered) typed
      (lowers.0 points (fills_same points))

  pub object_lowered_form : (is_kept is_followed : Bool) (object : memory_object.Object) (t : CType) (old new : Builder) (lowered : memory_lowered.Lowered)
      → type_of_object (context_in source scope) (object_in (types_of_source source) object) ≡ Some t → ObjectLowers source scope is_kept is_followed object old new lowered
      → HasObjectForm is_kept (lowered_in (types_of_source source) lowered) t
  object_lowered_form is_kept is_followed object t old new lowered typed lowers =
      let table = types_of_source source in
      let points = points_in table new in
      object_form (program_in source) points (scope_of source scope) (object_in table object) is_kept is_followed t (spot_of table old) (spot_of table new) (lowered_in table lowered) typed
      (lowers.0 points (fills_same points))

  pub integer_lowered : (value : memory_value.Value) (old new : Builder) (lowered : memory_lowered.Lowered) → IntegerTyped source scope value → ValueLowers source scope N.Kept value old new lowered → IsInteger lowered
  integer_lowered value old new lowered typed lowers =
      integer_by_form (types_of_source source) lowered typed.int_type (lowered_form N.Kept value (Integer typed.int_type) old new lowered typed.typed lowers)

  pub pointer_lowered : (value : memory_value.Value) (old new : Builder) (lowered : memory_lowered.Lowered) → PointerTyped source scope value → ValueLowers source scope N.Kept value old new lowered → IsPointer lowered
  pointer_lowered value old new lowered typed lowers =
      pointer_by_form (types_of_source source) lowered typed.target (lowered_form N.Kept value (Pointer typed.target) old new lowered typed.typed lowers)

  pub object_lowered : (is_followed : Bool) (object : memory_object.Object) (old new : Builder) (lowered : memory_lowered.Lowered) → ObjectTyped source scope object
      → ObjectLowers source scope false is_followed object old new lowered → IsObject lowered
  object_lowered is_followed object old new lowered typed lowers =
      object_by_form (types_of_source source) lowered typed.c_type (object_lowered_form false is_followed object typed.c_type old new lowered typed.typed lowers)

-- ---- locals in registers

pub lies_within : (scope : Scope) (f g : ℕ → Bool) → ((number : ℕ) → f number ≡ true → g number ≡ true) → LieInMemory scope g → LieInMemory scope f
lies_within scope f g within lie = λ number home at taken. lie number home at (within number taken)

pub lies_left : (scope : Scope) (f g : ℕ → Bool) → LieInMemory scope (λ number. f number || g number) → LieInMemory scope f
lies_left scope f g lie = λ number home at taken. lie number home at (or_left (f number) (g number) taken)

pub lies_right : (scope : Scope) (f g : ℕ → Bool) → LieInMemory scope (λ number. f number || g number) → LieInMemory scope g
lies_right scope f g lie = λ number home at taken. lie number home at (or_right (f number) (g number) taken)

-- where the address of a local would be kept
pub lives_address : (scope : Scope) (mode : Mode) (value : Value) → is_address mode ≡ true → LieInMemory scope (λ number. takes false number value) → ValueLives scope mode value
lives_address scope mode value address lie = record {
  taken = λ number home at taken. lie number home at (subst (λ b. takes (not b) number value ≡ true) address taken);
  behind = λ other. absurd (true≢false (sym address ∙ other));
}

pub lives_kept : (scope : Scope) (value : Value) → LieInMemory scope (λ number. takes false number value) → ValueLives scope Kept value
lives_kept scope value lie = lives_address scope Kept value refl lie

-- where what a value points to is used at once
pub lives_behind : (scope : Scope) (followed : Bool) (value : Value) → LieInMemory scope (λ number. takes true number value) → home_behind scope value ≡ None → ValueLives scope (Behind followed) value
lives_behind scope followed value lie none = record { taken = lie; behind = λ same. none }

-- the local in a register that an expression names
pub record InRegister (scope : Scope) (home : Home) (names : ℕ → Bool) : Type 0 where
  pub number : ℕ
  pub found : home_of scope number ≡ Some home
  pub names_it : names number ≡ true
  pub not_object : home.is_object ≡ false

in_register_parts : (found : Option Home) (home : Home) → in_register found ≡ Some home → (found ≡ Some home) × (home.is_object ≡ false)
in_register_parts None home at = absurd (none-some home at)
in_register_parts (Some found) home at = by found.is_object refl at
  where
    by : (b : Bool) → found.is_object ≡ b → (if b then None else Some found) ≡ Some home → (Some found ≡ Some home) × (home.is_object ≡ false)
    by true is at = absurd (none-some home at)
    by false is at = (at, ap (λ h. h.is_object) (sym (same_Some found home at)) ∙ is)

mutual
  pub register_named : (scope : Scope) (object : Object) (home : Home) → register_home scope object ≡ Some home → InRegister scope home (λ number. names_local number object)
  register_named scope (T.Local number) home at =
      let parts = in_register_parts (home_of scope number) home at in
      record { number = number; found = parts.0; names_it = eq-eqb number number refl; not_object = parts.1 }
  register_named scope (T.GroupedObject place inner) home at =
      let inside = register_named scope inner home at in
      record { number = inside.number; found = inside.found; names_it = inside.names_it; not_object = inside.not_object }
  register_named scope (T.Pointed place pointer) home at =
      let inside = behind_named scope pointer home at in
      record { number = inside.number; found = inside.found; names_it = inside.names_it; not_object = inside.not_object }
  register_named scope (T.Global name) home at = absurd (none-some home at)
  register_named scope (T.Literal place bytes) home at = absurd (none-some home at)
  register_named scope (T.Element place pointer number) home at = absurd (none-some home at)
  register_named scope (T.ElementOf place number pointer) home at = absurd (none-some home at)
  register_named scope (T.MemberOf place object number) home at = absurd (none-some home at)
  register_named scope (T.PointedMember place pointer number) home at = absurd (none-some home at)

  pub behind_named : (scope : Scope) (value : Value) (home : Home) → home_behind scope value ≡ Some home → InRegister scope home (λ number. names_behind number value)
  behind_named scope (T.Grouped inner) home at =
      let inside = behind_named scope inner home at in
      record { number = inside.number; found = inside.found; names_it = inside.names_it; not_object = inside.not_object }
  behind_named scope (T.AddressOf place object) home at =
      let inside = register_named scope object home at in
      record { number = inside.number; found = inside.found; names_it = inside.names_it; not_object = inside.not_object }
  behind_named scope value home at = absurd (none-some home at)

-- an object none of whose names is in a register
pub register_none : (scope : Scope) (object : Object) → ((home : Home) → register_home scope object ≡ Some home → ⊥) → register_home scope object ≡ None
register_none scope object never = by (register_home scope object) never
  where
    by : (found : Option Home) → ((home : Home) → found ≡ Some home → ⊥) → found ≡ None
    by None never = refl
    by (Some home) never = absurd (never home refl)

pub kept_in_memory : (scope : Scope) (object : Object) → LieInMemory scope (λ number. names_local number object) → register_home scope object ≡ None
kept_in_memory scope object lie = register_none scope object (λ home at.
    let named = register_named scope object home at in
    true≢false (sym (lie named.number home named.found named.names_it) ∙ named.not_object))

-- arrays and structures lie in memory
pub whole_in_memory : (source : Source) (scope : List memory_home.Home) (object : Object) (t : CType) → IsScope source scope → type_of_object (context_in source scope) object ≡ Some t
    → (is_array t || is_struct t) ≡ true → register_home (scope_of source scope) object ≡ None
whole_in_memory source scope object t is typed whole = register_none (scope_of source scope) object (λ home at.
    let named = register_named (scope_of source scope) object home at in
    let same = home_type (program_in source) [] (scope_of source scope) object home t at typed in
    true≢false (sym (is.lie named.number home named.found (subst (λ u. (is_array u || is_struct u) ≡ true) same whole)) ∙ named.not_object))
