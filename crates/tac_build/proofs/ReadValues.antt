-- Expressions that read objects or take their addresses, and those in parentheses or cast: what is asked of their parts, and their code.
use Rattle.std.proofs.Common.{◌≡◌, ℕ, Bool, true, false, not, ◌&&◌, ◌||◌, List, [], Some, Result, Ok, Err, IfOk, OnOk, refl, sym, ap, ◌∙◌, subst}
use Rattle.std.proofs.lemmas.Bool.{false≢true, or_left, or_right}
use Rattle.std.proofs.lemmas.Option.{none-some, same_Some}
use Rattle.std.specs.declared.alloc.AllocError.{AllocError}
use Rattle.run_theory.specs.declared.place.Pos.{Pos}
use Rattle.c_typed.specs.declared.c_type.CType as number
use Rattle.c_typed.specs.declared.typed.Value as memory_value
use Rattle.c_typed.specs.declared.typed.Value.TheVariants as V
use Rattle.c_typed.specs.declared.typed.Object as memory_object
use Rattle.c_typed.specs.declared.typed.Designator as memory_designator
use Rattle.c_typed.specs.Types.{CType, Void, Integer, Pointer, Array, Struct, Function, is_array, is_struct, is_function}
use Rattle.c_typed.specs.Table.{Interned, Meaning, AType, AList, Nothing, meaning_of, IsAType, the_type, Stands, type_in}
use Rattle.c_typed.specs.Typed as T
use Rattle.c_typed.specs.Typed.{Object, Designator}
use Rattle.c_typed.specs.Views.{value_in, object_in, designator_in}
use Rattle.c_typed.specs.Expressions.{given, is_scalar, first_element, pointed_function, is_conversion, type_of, type_of_object, type_of_designator}
use Rattle.c_typed.proofs.Splitting.{given_parts, same_parts, unless_parts}
use Rattle.tac_ir.specs.declared.register.Register.{Register}
use Rattle.tac_ir.specs.declared.op.Callee as memory_callee
use Rattle.tac_ir.specs.declared.op.Callee.TheVariants as Callees
use Rattle.tac_ir.specs.Code.{Op, Through}
use Rattle.tac_ir.specs.Views.{path_in, callee_in}
use Rattle.tac_build.specs.declared.builder.Builder.{Builder}
use Rattle.tac_build.specs.declared.names.Source.{Source}
use Rattle.tac_build.specs.declared.homes.Home as memory_home
use Rattle.tac_build.specs.declared.lowered.Lowered as memory_lowered
use Rattle.tac_build.specs.declared.lowered.Lowered.TheVariants as L
use Rattle.tac_build.specs.declared.lowered.Mode as memory_mode
use Rattle.tac_build.specs.declared.lowered.Mode.TheVariants as N
use Rattle.tac_build.specs.declared.lowered.Place.{Place}
use Rattle.tac_build.specs.declared.objects.Target.{Target}
use Rattle.tac_build.specs.declared.objects.Target.TheVariants as Targets
use Rattle.tac_build.specs.declared.calls.Called.{Called}
use Rattle.tac_build.specs.Homes.{Scope, register_home, names_local, takes_in, takes_called}
use Rattle.tac_build.specs.Spots.{Spot, Lowered, AsObject, Mode, Kept, Dropped, Behind, Row, is_followed, is_address, cast_mode, expression}
use Rattle.tac_build.specs.Code.{ReadCode, ReadsLocal, Decays, TakesAddress, Addresses, ValueCode, ObjectCode, DesignatorCode}
use Rattle.tac_build.specs.Forms.{HasObjectForm}
use Rattle.tac_build.specs.Building.{lowered_in, mode_of, home_in, place_in, IsObject, IsArrayType, Grows, points_in, spot_of, Lowers, LowersIn, TargetStands, ReadsTarget}
use Rattle.tac_build.specs.Lowering.{program_in, types_of_source, scope_of, context_in, IsScope, ValueTyped, ObjectTyped, DesignatorTyped, LieInMemory, ValueLives, ObjectLives, LoweredHolds, ValueLowers, ObjectLowers, DesignatorLowers, TargetLowers}
use Rattle.tac_build.proofs.Forms.{home_type, object_form, designator_form}
use Rattle.tac_build.proofs.Points.{fills_same, fills_grown}
use Rattle.tac_build.proofs.Everywhere.{stands_everywhere, holds_pointer, holds_same}
use Rattle.tac_build.proofs.Sources.{typed_as, object_typed_as, scalar_of_type, object_by_form, object_lowered_form, lives_address, kept_in_memory, whole_in_memory}

-- ---- modes

is_address_cast : (mode : Mode) → is_address (cast_mode mode) ≡ true
is_address_cast Kept = refl
is_address_cast Dropped = refl
is_address_cast (Behind followed) = refl
is_address_cast (Row followed) = refl

-- ---- types

array_of_first : (u t : CType) → first_element u ≡ Some t → IsArrayType u
array_of_first (Array element count) t is = tt
array_of_first Void t is = absurd (none-some t is)
array_of_first (Integer own) t is = absurd (none-some t is)
array_of_first (Pointer target) t is = absurd (none-some t is)
array_of_first (Struct tag) t is = absurd (none-some t is)
array_of_first (Function result parameters) t is = absurd (none-some t is)

whole_of_array : (u : CType) → IsArrayType u → (is_array u || is_struct u) ≡ true
whole_of_array (Array element count) h = refl
whole_of_array Void h = absurd h
whole_of_array (Integer own) h = absurd h
whole_of_array (Pointer target) h = absurd h
whole_of_array (Struct tag) h = absurd h
whole_of_array (Function result parameters) h = absurd h

function_of_pointed : (u t : CType) → pointed_function u ≡ Some t → is_function t ≡ true
function_of_pointed (Pointer (Function result parameters)) t is = subst (λ u. is_function u ≡ true) (same_Some (Function result parameters) t is) refl
function_of_pointed (Pointer Void) t is = absurd (none-some t is)
function_of_pointed (Pointer (Integer own)) t is = absurd (none-some t is)
function_of_pointed (Pointer (Pointer target)) t is = absurd (none-some t is)
function_of_pointed (Pointer (Array element count)) t is = absurd (none-some t is)
function_of_pointed (Pointer (Struct tag)) t is = absurd (none-some t is)
function_of_pointed Void t is = absurd (none-some t is)
function_of_pointed (Integer own) t is = absurd (none-some t is)
function_of_pointed (Array element count) t is = absurd (none-some t is)
function_of_pointed (Struct tag) t is = absurd (none-some t is)
function_of_pointed (Function result parameters) t is = absurd (none-some t is)

-- a number that stands for a function stands
function_stands : (meaning : Meaning) → is_function (the_type meaning) ≡ true → IsAType meaning
function_stands (AType c_type) h = tt
function_stands (AList others) h = absurd (false≢true h)
function_stands Nothing h = absurd (false≢true h)

-- ---- objects

-- the place of an object that is lowered
pub place_stands : (found : memory_lowered.Lowered) (place : Place) → ((table : Interned) → lowered_in table found ≡ place_in table place) → (table : Interned) → LoweredHolds table found → Stands table place.c_type
place_stands (L.Object path c_type) place told table holds = stands_everywhere place.c_type c_type (λ any. ap type_of_lowered (sym (told any))) table holds
  where
    type_of_lowered : Lowered → CType
    type_of_lowered (AsObject path c_type) = c_type
    type_of_lowered _ = Void
place_stands (L.Integer own tree) place told table holds = let is = told table in absurd (cc)
place_stands (L.Pointer register target) place told table holds = let is = told table in absurd (cc)
place_stands L.Nothing place told table holds = let is = told table in absurd (cc)

-- what is taken of an address holds what the object does
address_holds : (mode : Mode) (found : memory_lowered.Lowered) (old new : Builder) (lowered : memory_lowered.Lowered) → Lowers (λ table points. TakesAddress points mode (lowered_in table found)) old new lowered
    → (table : Interned) → LoweredHolds table found → LoweredHolds table lowered
address_holds (Behind followed) found old new lowered code table holds = holds_same lowered found (λ any. (code any (points_in any new) (fills_same (points_in any new))).1) table holds
address_holds Kept (L.Object path c_type) old new lowered code table holds =
    holds_pointer lowered c_type (λ any. expression (spot_of any old)) (λ any. (code any (points_in any new) (fills_same (points_in any new))).2) table holds
address_holds Dropped (L.Object path c_type) old new lowered code table holds =
    holds_pointer lowered c_type (λ any. expression (spot_of any old)) (λ any. (code any (points_in any new) (fills_same (points_in any new))).2) table holds
address_holds (Row followed) (L.Object path c_type) old new lowered code table holds =
    holds_pointer lowered c_type (λ any. expression (spot_of any old)) (λ any. (code any (points_in any new) (fills_same (points_in any new))).2) table holds
address_holds Kept (L.Integer own tree) old new lowered code table holds = holds_same lowered (L.Integer own tree) (λ any. (code any (points_in any new) (fills_same (points_in any new))).1) table holds
address_holds Dropped (L.Integer own tree) old new lowered code table holds = holds_same lowered (L.Integer own tree) (λ any. (code any (points_in any new) (fills_same (points_in any new))).1) table holds
address_holds (Row followed) (L.Integer own tree) old new lowered code table holds = holds_same lowered (L.Integer own tree) (λ any. (code any (points_in any new) (fills_same (points_in any new))).1) table holds
address_holds Kept (L.Pointer register target) old new lowered code table holds = holds_same lowered (L.Pointer register target) (λ any. (code any (points_in any new) (fills_same (points_in any new))).1) table holds
address_holds Dropped (L.Pointer register target) old new lowered code table holds = holds_same lowered (L.Pointer register target) (λ any. (code any (points_in any new) (fills_same (points_in any new))).1) table holds
address_holds (Row followed) (L.Pointer register target) old new lowered code table holds = holds_same lowered (L.Pointer register target) (λ any. (code any (points_in any new) (fills_same (points_in any new))).1) table holds
address_holds Kept L.Nothing old new lowered code table holds = holds_same lowered L.Nothing (λ any. (code any (points_in any new) (fills_same (points_in any new))).1) table holds
address_holds Dropped L.Nothing old new lowered code table holds = holds_same lowered L.Nothing (λ any. (code any (points_in any new) (fills_same (points_in any new))).1) table holds
address_holds (Row followed) L.Nothing old new lowered code table holds = holds_same lowered L.Nothing (λ any. (code any (points_in any new) (fills_same (points_in any new))).1) table holds

module _ (source : Source) (scope : List memory_home.Home) where
  abbrev table : Interned
  table = types_of_source source

  abbrev homes : Scope
  homes = scope_of source scope

  -- ---- in parentheses, and casts

  pub grouped_typed : {p : _} (value inner : memory_value.Value) → value ≡ V.Grouped' p inner → ValueTyped source scope value → ValueTyped source scope inner
  grouped_typed value inner is h = let whole = subst (ValueTyped source scope) is h in record { stands = whole.stands; c_type = whole.c_type; typed = whole.typed }

  pub grouped_lives : {p : _} (mode : Mode) (value inner : memory_value.Value) → value ≡ V.Grouped' p inner → ValueLives homes mode (value_in table value) → ValueLives homes mode (value_in table inner)
  grouped_lives mode value inner is h = let whole = subst (λ v. ValueLives homes mode (value_in table v)) is h in record { taken = whole.taken; behind = whole.behind }

  pub grouped_lowers : {p : _} (mode : memory_mode.Mode) (value inner : memory_value.Value) (old new : Builder) (lowered : memory_lowered.Lowered) → value ≡ V.Grouped' p inner
      → ValueLowers source scope mode inner old new lowered → ValueLowers source scope mode value old new lowered
  grouped_lowers mode value inner old new lowered is lowers = subst (λ v. ValueLowers source scope mode v old new lowered) (sym is) lowers

  pub cast_typed : {p : _} (value inner : memory_value.Value) → value ≡ V.Cast' p inner → ValueTyped source scope value → ValueTyped source scope inner
  cast_typed value inner is h =
      let whole = subst (ValueTyped source scope) is h in
      typed_as source scope inner whole.c_type whole.stands (same_parts (type_of (context_in source scope) (value_in table inner)) is_scalar whole.c_type whole.typed).0

  pub cast_lives : {p : _} (mode cast : memory_mode.Mode) (value inner : memory_value.Value) → value ≡ V.Cast' p inner → mode_of cast ≡ cast_mode (mode_of mode) → ValueLives homes (mode_of mode) (value_in table value)
      → ValueLives homes (mode_of cast) (value_in table inner)
  cast_lives mode cast value inner is of h =
      let whole = subst (λ v. ValueLives homes (mode_of mode) (value_in table v)) is h in
      lives_address homes (mode_of cast) (value_in table inner) (ap is_address of ∙ is_address_cast (mode_of mode)) whole.taken

  pub cast_lowers : {p : _} (mode cast : memory_mode.Mode) (value inner : memory_value.Value) (old new : Builder) (lowered : memory_lowered.Lowered) → value ≡ V.Cast' p inner → mode_of cast ≡ cast_mode (mode_of mode)
      → ValueLowers source scope cast inner old new lowered → ValueLowers source scope mode value old new lowered
  cast_lowers mode cast value inner old new lowered is of lowers =
      subst (λ v. ValueLowers source scope mode v old new lowered) (sym is)
      (λ points fills. subst (λ m. ValueCode (program_in source) points homes m (value_in table inner) (spot_of table old) (spot_of table new) (lowered_in table lowered)) of (lowers.0 points fills), lowers.1)

  pub cast_void_typed : {p : _} (value inner : memory_value.Value) → value ≡ V.CastVoid' p inner → ValueTyped source scope value → ValueTyped source scope inner
  cast_void_typed value inner is h =
      let whole = subst (ValueTyped source scope) is h in
      let parts = given_parts (type_of (context_in source scope) (value_in table inner)) (λ u. Some Void) whole.c_type whole.typed in
      typed_as source scope inner parts.0 whole.stands parts.1

  pub cast_void_lives : {p : _} (mode : Mode) (value inner : memory_value.Value) → value ≡ V.CastVoid' p inner → ValueLives homes mode (value_in table value) → ValueLives homes Dropped (value_in table inner)
  cast_void_lives mode value inner is h =
      let whole = subst (λ v. ValueLives homes mode (value_in table v)) is h in
      lives_address homes Dropped (value_in table inner) refl whole.taken

  pub cast_void_lowers : {p : _} (mode : memory_mode.Mode) (value inner : memory_value.Value) (old new : Builder) (dropped : memory_lowered.Lowered) → value ≡ V.CastVoid' p inner
      → ValueLowers source scope N.Dropped inner old new dropped → ValueLowers source scope mode value old new L.Nothing
  cast_void_lowers mode value inner old new dropped is lowers =
      subst (λ v. ValueLowers source scope mode v old new L.Nothing) (sym is) (λ points fills. (lowered_in table dropped, lowers.0 points fills, refl), tt)

  -- ---- reading an object

  pub read_typed : {place : _} {p : _} (value : memory_value.Value) (object : memory_object.Object) → value ≡ V.Read' place p object → ValueTyped source scope value → ObjectTyped source scope object
  read_typed value object is h =
      let whole = subst (ValueTyped source scope) is h in
      object_typed_as source scope object whole.c_type whole.stands (same_parts (type_of_object (context_in source scope) (object_in table object)) is_scalar whole.c_type whole.typed).0

  pub read_lives : {place : _} {p : _} (mode : Mode) (value : memory_value.Value) (object : memory_object.Object) → value ≡ V.Read' place p object → ValueLives homes mode (value_in table value)
      → LieInMemory homes (λ number. takes_in number (object_in table object))
  read_lives mode value object is h = (subst (λ v. ValueLives homes mode (value_in table v)) is h).taken

  read_stands : (object : memory_object.Object) (t : CType) (old new : Builder) (target : Target) → type_of_object (context_in source scope) (object_in table object) ≡ Some t → is_scalar t ≡ true
      → TargetLowers source scope false object old new target → TargetStands table target
  read_stands object t old new (Targets.Register home) typed scalar lowers =
      (lowers.2, scalar_of_type (type_in table home.c_type) (subst (λ u. is_scalar u ≡ true) (home_type (program_in source) [] homes (object_in table object) (home_in table home) t lowers.0 typed) scalar))
  read_stands object t old new (Targets.Memory place) typed scalar lowers =
      let points = points_in table new in
      let same : t ≡ type_in table place.c_type =
      object_form (program_in source) points homes (object_in table object) false false t (spot_of table old) (spot_of table new) (place_in table place) typed (lowers.1 points (fills_same points)) in
      (lowers.2, scalar_of_type (type_in table place.c_type) (subst (λ u. is_scalar u ≡ true) same scalar))

  pub read_target : {place : _} {p : _} (value : memory_value.Value) (object : memory_object.Object) (old new : Builder) (target : Target) → value ≡ V.Read' place p object → ValueTyped source scope value
      → TargetLowers source scope false object old new target → TargetStands table target
  read_target value object old new target is h lowers =
      let whole = subst (ValueTyped source scope) is h in
      let parts = same_parts (type_of_object (context_in source scope) (object_in table object)) is_scalar whole.c_type whole.typed in
      read_stands object whole.c_type old new target parts.0 parts.1 lowers

  reads : (object : memory_object.Object) (old mid new : Builder) (target : Target) (lowered : memory_lowered.Lowered) → TargetLowers source scope false object old mid target
      → LowersIn table (ReadsTarget table target) mid new lowered → Grows mid new
      → LowersIn table (λ points. ReadCode points (register_home homes (object_in table object)) (ObjectCode (program_in source) points homes false false (object_in table object))) old new lowered
  reads object old mid new (Targets.Register home) lowered lowers code grows = λ points fills.
      subst (λ found. ReadCode points found (ObjectCode (program_in source) points homes false false (object_in table object)) (spot_of table old) (spot_of table new) (lowered_in table lowered)) (sym lowers.0)
      (subst (λ builder. ReadsLocal points (home_in table home) (spot_of table builder) (spot_of table new) (lowered_in table lowered)) lowers.1 (code points fills))
  reads object old mid new (Targets.Memory place) lowered lowers code grows = λ points fills.
      subst (λ found. ReadCode points found (ObjectCode (program_in source) points homes false false (object_in table object)) (spot_of table old) (spot_of table new) (lowered_in table lowered)) (sym lowers.0)
      (spot_of table mid, path_in table place.path.value, type_in table place.c_type, lowers.1 points (fills_grown table mid new points grows fills), code points fills)

  pub read_lowers : {place : _} {p : _} (mode : memory_mode.Mode) (value : memory_value.Value) (object : memory_object.Object) (old mid new : Builder) (target : Target) (lowered : memory_lowered.Lowered)
      → value ≡ V.Read' place p object → TargetLowers source scope false object old mid target → LowersIn table (ReadsTarget table target) mid new lowered → Grows mid new → LoweredHolds table lowered
      → ValueLowers source scope mode value old new lowered
  read_lowers mode value object old mid new target lowered is lowers code grows holds =
      subst (λ v. ValueLowers source scope mode v old new lowered) (sym is) (reads object old mid new target lowered lowers code grows, holds)

  -- ---- an array that is used as a value

  pub decay_typed : {place : _} {p : _} (value : memory_value.Value) (object : memory_object.Object) → value ≡ V.Decay' place p object → ValueTyped source scope value → ObjectTyped source scope object
  decay_typed value object is h =
      let whole = subst (ValueTyped source scope) is h in
      let parts = given_parts (type_of_object (context_in source scope) (object_in table object)) first_element whole.c_type whole.typed in
      object_typed_as source scope object parts.0 whole.stands parts.1

  pub decay_lives : {place : _} {p : _} (mode : Mode) (value : memory_value.Value) (object : memory_object.Object) → value ≡ V.Decay' place p object → IsScope source scope → ValueTyped source scope value
      → ValueLives homes mode (value_in table value) → ObjectLives homes false (object_in table object)
  decay_lives mode value object is homes_are h lives =
      let whole = subst (ValueTyped source scope) is h in
      let parts = given_parts (type_of_object (context_in source scope) (object_in table object)) first_element whole.c_type whole.typed in
      record {
        taken = (subst (λ v. ValueLives homes mode (value_in table v)) is lives).taken;
        kept = λ other. absurd (false≢true other);
        memory = whole_in_memory source scope (object_in table object) parts.0 homes_are parts.1 (whole_of_array parts.0 (array_of_first parts.0 whole.c_type parts.2));
      }

  pub decay_is_object : {place : _} {p : _} (value : memory_value.Value) (object : memory_object.Object) (followed : Bool) (old new : Builder) (found : memory_lowered.Lowered) → value ≡ V.Decay' place p object
      → ValueTyped source scope value → ObjectLowers source scope false followed object old new found → IsObject found
  decay_is_object value object followed old new found is h lowers =
      let typed = decay_typed value object is h in
      object_by_form table found typed.c_type (object_lowered_form source scope false followed object typed.c_type old new found typed.typed lowers)

  -- the array's type
  pub decay_array : {place : _} {p : _} (value : memory_value.Value) (object : memory_object.Object) (followed : Bool) (old new : Builder) (found : memory_lowered.Lowered) (array : Place) → value ≡ V.Decay' place p object
      → ValueTyped source scope value → ObjectLowers source scope false followed object old new found → lowered_in table found ≡ place_in table array → IsArrayType (type_in table array.c_type)
  decay_array value object followed old new found array is h lowers same =
      let whole = subst (ValueTyped source scope) is h in
      let parts = given_parts (type_of_object (context_in source scope) (object_in table object)) first_element whole.c_type whole.typed in
      let own : parts.0 ≡ type_in table array.c_type =
      subst (λ l. HasObjectForm false l parts.0) same (object_lowered_form source scope false followed object parts.0 old new found parts.1 lowers) in
      subst IsArrayType own (array_of_first parts.0 whole.c_type parts.2)

  pub decay_lowers : {place : _} {p : _} (mode : memory_mode.Mode) (value : memory_value.Value) (object : memory_object.Object) (followed : Bool) (old mid new : Builder) (found : memory_lowered.Lowered) (array : Place)
      (lowered : memory_lowered.Lowered) → value ≡ V.Decay' place p object → followed ≡ is_followed (mode_of mode) → ObjectLowers source scope false followed object old mid found → lowered_in table found ≡ place_in table array
      → LowersIn table (λ points start end lowered. (element : CType) × (count : ℕ) × (type_in table array.c_type ≡ Array element count)
      × Decays points (mode_of mode) (path_in table array.path.value) element count start end lowered) mid new lowered
      → Grows mid new → LoweredHolds table lowered → ValueLowers source scope mode value old new lowered
  decay_lowers mode value object followed old mid new found array lowered is of lowers same code grows holds =
      subst (λ v. ValueLowers source scope mode v old new lowered) (sym is) (
        λ points fills.
            let decayed = code points fills in
            let there = lowers.0 points (fills_grown table mid new points grows fills) in
            let whole : lowered_in table found ≡ AsObject (path_in table array.path.value) (Array decayed.0 decayed.1) = same ∙ ap (AsObject (path_in table array.path.value)) decayed.2 in (
              spot_of table mid,
              path_in table array.path.value,
              decayed.0,
              decayed.1,
              subst (λ b. ObjectCode (program_in source) points homes false b (object_in table object) (spot_of table old) (spot_of table mid) (AsObject (path_in table array.path.value) (Array decayed.0 decayed.1))) of
                  (subst (λ l. ObjectCode (program_in source) points homes false followed (object_in table object) (spot_of table old) (spot_of table mid) l) whole there),
              decayed.3,
            ),
        holds,
      )

  -- ---- addresses

  pub address_typed : {place : _} {p : _} (value : memory_value.Value) (object : memory_object.Object) → value ≡ V.AddressOf' place p object → ValueTyped source scope value → ObjectTyped source scope object
  address_typed value object is h =
      let whole = subst (ValueTyped source scope) is h in
      let parts = given_parts (type_of_object (context_in source scope) (object_in table object)) (λ u. Some (Pointer u)) whole.c_type whole.typed in
      object_typed_as source scope object parts.0 whole.stands parts.1

  address_parts : (mode : Mode) (kept : Bool) (place : Pos) (object : Object) → is_address mode ≡ kept → ValueLives homes mode (T.AddressOf place object) → ObjectLives homes kept object
  address_parts mode true place object of lives =
      let names : LieInMemory homes (λ number. names_local number object) = λ number home at named.
      lives.taken number home at (subst (λ b. ((not (not b) && names_local number object) || takes_in number object) ≡ true) (sym of) (or_left (names_local number object) (takes_in number object) named)) in
      record {
        taken = λ number home at taken. lives.taken number home at (or_right (not (not (is_address mode)) && names_local number object) (takes_in number object) taken);
        kept = λ same. names;
        memory = kept_in_memory homes object names;
      }
  address_parts mode false place object of lives = record {
    taken = λ number home at taken. lives.taken number home at (or_right (not (not (is_address mode)) && names_local number object) (takes_in number object) taken);
    kept = λ other. absurd (false≢true other);
    memory = lives.behind of;
  }

  pub address_lives : {place : _} {p : _} (mode : Mode) (kept : Bool) (value : memory_value.Value) (object : memory_object.Object) → value ≡ V.AddressOf' place p object → kept ≡ is_address mode
      → ValueLives homes mode (value_in table value) → ObjectLives homes kept (object_in table object)
  address_lives {place} mode kept value object is of lives =
      address_parts mode kept place (object_in table object) (sym of) (subst (λ v. ValueLives homes mode (value_in table v)) is lives)

  pub address_lowers : {place : _} {p : _} (mode : memory_mode.Mode) (kept followed : Bool) (value : memory_value.Value) (object : memory_object.Object) (old mid new : Builder) (found lowered : memory_lowered.Lowered)
      → value ≡ V.AddressOf' place p object → kept ≡ is_address (mode_of mode) → followed ≡ is_followed (mode_of mode) → ObjectLowers source scope kept followed object old mid found
      → Lowers (λ any points. TakesAddress points (mode_of mode) (lowered_in any found)) mid new lowered → Grows mid new → ValueLowers source scope mode value old new lowered
  address_lowers mode kept followed value object old mid new found lowered is of on lowers code grows =
      subst (λ v. ValueLowers source scope mode v old new lowered) (sym is) (
        λ points fills. (
          spot_of table mid,
          lowered_in table found,
          subst (λ b. ObjectCode (program_in source) points homes (is_address (mode_of mode)) b (object_in table object) (spot_of table old) (spot_of table mid) (lowered_in table found)) on
              (subst (λ b. ObjectCode (program_in source) points homes b followed (object_in table object) (spot_of table old) (spot_of table mid) (lowered_in table found)) of
              (lowers.0 points (fills_grown table mid new points grows fills))),
          code table points fills,
        ),
        address_holds (mode_of mode) found mid new lowered code table lowers.1,
      )

  -- ---- functions as values

  pub function_typed : {p : _} (value : memory_value.Value) (function : memory_designator.Designator) → value ≡ V.FunctionValue' p function → ValueTyped source scope value → DesignatorTyped source scope function
  function_typed value function is h =
      let whole = subst (ValueTyped source scope) is h in
      let parts = given_parts (type_of_designator (context_in source scope) (designator_in table function)) (λ u. Some (Pointer u)) whole.c_type whole.typed in
      record { stands = whole.stands; c_type = parts.0; typed = parts.1 }

  pub function_lives : {p : _} (mode : Mode) (value : memory_value.Value) (function : memory_designator.Designator) → value ≡ V.FunctionValue' p function → ValueLives homes mode (value_in table value)
      → LieInMemory homes (λ number. takes_called number (designator_in table function))
  function_lives mode value function is h = (subst (λ v. ValueLives homes mode (value_in table v)) is h).taken

  pub named_function_typed : {p : _} (value : memory_value.Value) (function : memory_designator.Designator) → value ≡ V.AddressOfFunction' p function → ValueTyped source scope value → DesignatorTyped source scope function
  named_function_typed value function is h =
      let whole = subst (ValueTyped source scope) is h in
      let parts = given_parts (type_of_designator (context_in source scope) (designator_in table function)) (λ u. Some (Pointer u)) whole.c_type whole.typed in
      record { stands = whole.stands; c_type = parts.0; typed = parts.1 }

  pub named_function_lives : {p : _} (mode : Mode) (value : memory_value.Value) (function : memory_designator.Designator) → value ≡ V.AddressOfFunction' p function → ValueLives homes mode (value_in table value)
      → LieInMemory homes (λ number. takes_called number (designator_in table function))
  named_function_lives mode value function is h = (subst (λ v. ValueLives homes mode (value_in table v)) is h).taken

  -- what is called through a pointer is a function
  through_function : (f : Designator) (t : CType) (register : Register) (own c_type : CType) (points : List Op) (from to : Spot) → type_of_designator (context_in source scope) f ≡ Some t
      → DesignatorCode (program_in source) points homes f from to (Through register own) c_type → is_function t ≡ true
  through_function (T.Function name) t register own c_type points from to typed code = let known = code.3 in absurd (cc)
  through_function (T.GroupedFunction inner) t register own c_type points from to typed code = through_function inner t register own c_type points from to typed code
  through_function (T.PointedFunction place pointer) t register own c_type points from to typed code =
      let parts = given_parts (type_of (context_in source scope) pointer) pointed_function t typed in
      function_of_pointed parts.0 t parts.2
  through_function (T.ThroughPointer place pointer) t register own c_type points from to typed code =
      let plain = unless_parts (is_conversion pointer) (given (type_of (context_in source scope) pointer) pointed_function) t typed in
      let parts = given_parts (type_of (context_in source scope) pointer) pointed_function t plain.1 in
      function_of_pointed parts.0 t parts.2

  function_holds : (function : memory_designator.Designator) (callee : memory_callee.Callee) (c_type : number.CType) (old mid new : Builder) (lowered : memory_lowered.Lowered) → DesignatorTyped source scope function
      → DesignatorLowers source scope function old mid (record { callee = callee; c_type = c_type }) → Lowers (λ any points. Addresses points (callee_in any callee) (type_in any c_type)) mid new lowered
      → LoweredHolds table lowered
  function_holds function (Callees.Function number) c_type old mid new lowered typed lowers code =
      holds_pointer lowered c_type (λ any. expression (spot_of any mid)) (λ any. (code any (points_in any new) (fills_same (points_in any new))).2) table lowers.1
  function_holds function (Callees.Through pointer own) c_type old mid new lowered typed lowers code =
      let points = points_in table mid in
      let named = lowers.0 points (fills_same points) in
      let form = designator_form (program_in source) points homes (designator_in table function) typed.c_type (spot_of table old) (spot_of table mid) (Through pointer (type_in table own)) (type_in table c_type) typed.typed named in
      let is = through_function (designator_in table function) typed.c_type pointer (type_in table own) (type_in table c_type) points (spot_of table old) (spot_of table mid) typed.typed named in
      holds_pointer lowered own (λ any. pointer) (λ any. (code any (points_in any new) (fills_same (points_in any new))).1) table
      (function_stands (meaning_of table own.0) (subst (λ u. is_function u ≡ true) form.1 is))

  pub function_lowers : {p : _} (mode : memory_mode.Mode) (value : memory_value.Value) (function : memory_designator.Designator) (called : Called) (old mid new : Builder) (lowered : memory_lowered.Lowered)
      → value ≡ V.FunctionValue' p function → ValueTyped source scope value → DesignatorLowers source scope function old mid called
      → Lowers (λ any points. Addresses points (callee_in any called.callee) (type_in any called.c_type)) mid new lowered → Grows mid new → ValueLowers source scope mode value old new lowered
  function_lowers mode value function called old mid new lowered is h lowers code grows =
      subst (λ v. ValueLowers source scope mode v old new lowered) (sym is) (
        λ points fills. (spot_of table mid, callee_in table called.callee, type_in table called.c_type, lowers.0 points (fills_grown table mid new points grows fills), code table points fills),
        function_holds function called.callee called.c_type old mid new lowered (function_typed value function is h) lowers code,
      )

  pub named_function_lowers : {p : _} (mode : memory_mode.Mode) (value : memory_value.Value) (function : memory_designator.Designator) (called : Called) (old mid new : Builder) (lowered : memory_lowered.Lowered)
      → value ≡ V.AddressOfFunction' p function → ValueTyped source scope value → DesignatorLowers source scope function old mid called
      → Lowers (λ any points. Addresses points (callee_in any called.callee) (type_in any called.c_type)) mid new lowered → Grows mid new → ValueLowers source scope mode value old new lowered
  named_function_lowers mode value function called old mid new lowered is h lowers code grows =
      subst (λ v. ValueLowers source scope mode v old new lowered) (sym is) (
        λ points fills. (spot_of table mid, callee_in table called.callee, type_in table called.c_type, lowers.0 points (fills_grown table mid new points grows fills), code table points fills),
        function_holds function called.callee called.c_type old mid new lowered (named_function_typed value function is h) lowers code,
      )

  -- ---- the whole, where a result is handed on

  pub read_done : {place : _} {p : _} (mode : memory_mode.Mode) (value : memory_value.Value) (object : memory_object.Object) (old mid new : Builder) (target : Target) (types : Interned)
      (result : Result memory_lowered.Lowered AllocError) → value ≡ V.Read' place p object → types ≡ table → TargetLowers source scope false object old mid target
      → IfOk result (LowersIn types (ReadsTarget types target) mid new) → OnOk result (Grows mid new) → IfOk result (LoweredHolds types) → IfOk result (ValueLowers source scope mode value old new)
  read_done mode value object old mid new target types (Ok lowered) is same lowers code grows holds =
      read_lowers mode value object old mid new target lowered is lowers (subst (λ t. LowersIn t (ReadsTarget t target) mid new lowered) same code) grows (subst (λ t. LoweredHolds t lowered) same holds)
  read_done mode value object old mid new target types (Err fault) is same lowers code grows holds = tt

  -- an array decays, in a table
  abbrev pub DecaysIn : Interned → Mode → Place → Builder → Builder → memory_lowered.Lowered → Type 0
  DecaysIn types mode array mid new lowered =
      LowersIn types (λ points start end lowered. (element : CType) × (count : ℕ) × (type_in types array.c_type ≡ Array element count) × Decays points mode (path_in types array.path.value) element count start end lowered) mid new lowered

  pub decay_done : {place : _} {p : _} (mode : memory_mode.Mode) (value : memory_value.Value) (object : memory_object.Object) (followed : Bool) (old mid new : Builder) (found : memory_lowered.Lowered) (array : Place) (types : Interned)
      (result : Result memory_lowered.Lowered AllocError) → value ≡ V.Decay' place p object → types ≡ table → followed ≡ is_followed (mode_of mode) → ObjectLowers source scope false followed object old mid found
      → lowered_in table found ≡ place_in table array → IfOk result (DecaysIn types (mode_of mode) array mid new) → OnOk result (Grows mid new) → IfOk result (LoweredHolds types) → IfOk result (ValueLowers source scope mode value old new)
  decay_done mode value object followed old mid new found array types (Ok lowered) is same of lowers placed code grows holds =
      decay_lowers mode value object followed old mid new found array lowered is of lowers placed (subst (λ t. DecaysIn t (mode_of mode) array mid new lowered) same code) grows (subst (λ t. LoweredHolds t lowered) same holds)
  decay_done mode value object followed old mid new found array types (Err fault) is same of lowers placed code grows holds = tt
