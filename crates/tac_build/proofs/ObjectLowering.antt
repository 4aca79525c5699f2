-- Objects: what is asked of their parts, and that their code is told by that of their parts.
use Rattle.std.proofs.Common.{◌≡◌, ℕ, suc, ◌+◌, Bool, true, false, not, ◌||◌, List, [], ◌∷◌, slice_get, Option, Some, None, is_some, refl, sym, ap, ◌∙◌, subst, arith, Result, Ok, Err, IfOk, OnOk, ◌⊎◌, inl, inr}
use Rattle.std.proofs.lemmas.Bool.{false≢true, true≢false, or_left, or_right}
use Rattle.std.proofs.lemmas.Option.{none-some, same_Some}
use Rattle.std.specs.declared.alloc.AllocError.{AllocError}
use Rattle.c_typed.specs.declared.c_type.CType as number
use Rattle.c_typed.specs.declared.typed.Value as memory_value
use Rattle.c_typed.specs.declared.typed.Object as memory_object
use Rattle.c_typed.specs.declared.typed.Object.TheVariants as O
use Rattle.c_typed.specs.Types.{CType, Integer, Pointer, is_integer, is_array, is_struct}
use Rattle.c_typed.specs.Layouts.{is_complete}
use Rattle.c_typed.specs.Table.{Interned, Stands, type_in, structs_in}
use Rattle.c_typed.specs.Typed as T
use Rattle.c_typed.specs.Typed.{Value, Object, GlobalDef, LiteralDef}
use Rattle.c_typed.specs.Views.{value_in, object_in, ValueStands}
use Rattle.c_typed.specs.Expressions.{given, element, pointed, member_of, type_of, type_of_object}
use Rattle.c_typed.proofs.Splitting.{Two, given_parts, two_parts, element_parts}
use Rattle.tac_ir.specs.Code.{Tree, Op, AtLocal, AtGlobal, AtLiteral, Pointed, Member}
use Rattle.tac_ir.specs.First.{named_global, placed_literal}
use Rattle.tac_ir.specs.Views.{tree_of, path_in}
use Rattle.tac_build.specs.declared.builder.Builder.{Builder}
use Rattle.tac_build.specs.declared.names.Source.{Source}
use Rattle.tac_build.specs.declared.homes.Home as memory_home
use Rattle.tac_build.specs.declared.lowered.Lowered as memory_lowered
use Rattle.tac_build.specs.declared.lowered.Lowered.TheVariants as L
use Rattle.tac_build.specs.declared.lowered.IntegerValue.{IntegerValue}
use Rattle.tac_build.specs.declared.lowered.Place.{Place}
use Rattle.tac_build.specs.declared.lowered.Mode as memory_mode
use Rattle.tac_build.specs.declared.lowered.Mode.TheVariants as N
use Rattle.tac_build.specs.Homes.{Home, Scope, home_of, is_pure, names_behind, takes}
use Rattle.tac_build.specs.Spots.{Lowered, AsInteger, AsObject, Mode, Kept, Behind, Row, pointed_mode}
use Rattle.tac_build.specs.Code.{path_from, then_step, type_of_member, pointed_by, KeepsTree, Indexes, ValueCode, ObjectCode}
use Rattle.tac_build.specs.Forms.{HasForm, HasObjectForm}
use Rattle.tac_build.specs.Building.{lowered_in, integer_of, place_in, mode_of, scope_in, home_in, optional_home, HomesStand, IsInteger, IsObject, IsRow, Fills, Grows, points_in, spot_of, LowersIn, Leads, HasRoom, Adds}
use Rattle.tac_build.specs.Lowering.{names_for, AddsFewer, program_in, types_of_source, scope_of, context_in, IsScope, ValueTyped, ObjectTyped, LieInMemory, ValueLives, ObjectLives, LoweredHolds, ValueLowers, ObjectLowers}
use Rattle.tac_build.proofs.Everywhere.{holds_object, holds_same}
use Rattle.tac_build.proofs.Forms.{value_form, object_form}
use Rattle.tac_build.proofs.ObjectForms.{typed_home, typed_global, typed_literal, in_memory_is, lies, has_member, takes_kept, element_integer, integer_kept, row_of, object_found, complete_holds, place_stands}
use Rattle.tac_build.proofs.Points.{if_ok, if_on_ok, fills_same, fills_grown}
use Rattle.tac_build.proofs.Scopes.{home_read}

-- ---- parts that are reached through their boxes

pub grouped_is : {object : memory_object.Object} {place : _} {p : _} {a inner : memory_object.Object} → object ≡ O.Grouped' place p a → inner ≡ a → object ≡ O.Grouped' place p inner
grouped_is {place = place} {p = p} e d = e ∙ (λ i. O.Grouped' place p (sym d i))

pub pointed_is : {object : memory_object.Object} {place : _} {p : _} {a pointer : memory_value.Value} → object ≡ O.Pointed' place p a → pointer ≡ a → object ≡ O.Pointed' place p pointer
pointed_is {place = place} {p = p} e d = e ∙ (λ i. O.Pointed' place p (sym d i))

pub element_is : {object : memory_object.Object} {place : _} {p : _} {q : _} {a b pointer number : memory_value.Value} → object ≡ O.Element' place p a q b → pointer ≡ a → number ≡ b
    → object ≡ O.Element' place p pointer q number
element_is {place = place} {p = p} {q = q} e d f = e ∙ (λ i. O.Element' place p (sym d i) q (sym f i))

pub element_of_is : {object : memory_object.Object} {place : _} {p : _} {q : _} {a b pointer number : memory_value.Value} → object ≡ O.ElementOf' place p a q b → number ≡ a → pointer ≡ b
    → object ≡ O.ElementOf' place p number q pointer
element_of_is {place = place} {p = p} {q = q} e d f = e ∙ (λ i. O.ElementOf' place p (sym d i) q (sym f i))

pub member_is : {object : memory_object.Object} {place : _} {p : _} {a inner : memory_object.Object} {number : ℕ} → object ≡ O.MemberOf' place p a number → inner ≡ a → object ≡ O.MemberOf' place p inner number
member_is {place = place} {p = p} {number = number} e d = e ∙ (λ i. O.MemberOf' place p (sym d i) number)

pub behind_is : {object : memory_object.Object} {place : _} {p : _} {a pointer : memory_value.Value} {number : ℕ} → object ≡ O.PointedMember' place p a number → pointer ≡ a
    → object ≡ O.PointedMember' place p pointer number
behind_is {place = place} {p = p} {number = number} e d = e ∙ (λ i. O.PointedMember' place p (sym d i) number)

pub pure_here : (types table : Interned) (scope : List memory_home.Home) (first second : memory_value.Value) → types ≡ table → first ≡ second
    → is_pure (scope_in types scope) (value_in types first) ≡ is_pure (scope_in table scope) (value_in table second)
pure_here types table scope first second e d = λ i. is_pure (scope_in (e i) scope) (value_in (e i) (d i))

pub or_first : (row followed other : Bool) → row ≡ followed → followed ≡ true → row ≡ (followed || other)
or_first row followed other is e = is ∙ e ∙ sym (ap (λ b. b || other) e)

pub or_second : (row followed other : Bool) → row ≡ other → followed ≡ false → row ≡ (followed || other)
or_second row followed other is e = is ∙ sym (ap (λ b. b || other) e)

-- ---- names that are added

pub room_first : (old : Builder) (a b : ℕ) → HasRoom old (names_for (suc (a + b))) → HasRoom old (names_for a)
room_first old a b room = omega (arith, room)

pub room_second : (old mid : Builder) (a b : ℕ) → HasRoom old (names_for (suc (a + b))) → AddsFewer old mid (names_for a) → HasRoom mid (names_for b)
room_second old mid a b room adds = omega (arith, room, adds)

pub room_last : (old mid next : Builder) (a b : ℕ) → HasRoom old (names_for (suc (a + b))) → AddsFewer old mid (names_for a) → AddsFewer mid next (names_for b) → HasRoom next 1
room_last old mid next a b room adds more = omega (arith, room, adds, more)

pub room_keep : (old mid : Builder) (a b : ℕ) → HasRoom old (names_for (suc (a + b))) → AddsFewer old mid (names_for a) → HasRoom mid 1
room_keep old mid a b room adds = omega (arith, room, adds)

pub room_kept : (old mid next : Builder) (a b : ℕ) → HasRoom old (names_for (suc (a + b))) → AddsFewer old mid (names_for a) → Adds mid next 1 → HasRoom next (names_for b)
room_kept old mid next a b room adds keeps = omega (arith, room, adds, keeps)

pub room_kept_last : (old mid next last : Builder) (a b : ℕ) → HasRoom old (names_for (suc (a + b))) → AddsFewer old mid (names_for a) → Adds mid next 1 → AddsFewer next last (names_for b)
    → HasRoom last 1
room_kept_last old mid next last a b room adds keeps more = omega (arith, room, adds, keeps, more)

pub fewer_one : (old new : Builder) (a : ℕ) → AddsFewer old new (names_for a) → AddsFewer old new (names_for (suc a))
fewer_one old new a adds = omega (arith, adds)

pub fewer_same : (old : Builder) → AddsFewer old old (names_for 1)
fewer_same old = omega (arith)

pub room_of_one : (old : Builder) (a : ℕ) → HasRoom old (names_for (suc a)) → HasRoom old (names_for a)
room_of_one old a room = omega (arith, room)

pub fewer_last : (old mid next new : Builder) (a b : ℕ) → AddsFewer old mid (names_for a) → AddsFewer mid next (names_for b) → Adds next new 1 → AddsFewer old new (names_for (suc (a + b)))
fewer_last old mid next new a b adds more last = omega (arith, adds, more, last)

pub fewer_kept_last : (old mid next last new : Builder) (a b : ℕ) → AddsFewer old mid (names_for a) → Adds mid next 1 → AddsFewer next last (names_for b) → Adds last new 1
    → AddsFewer old new (names_for (suc (a + b)))
fewer_kept_last old mid next last new a b adds keeps more point = omega (arith, adds, keeps, more, point)

-- ---- locals

pub lie_left : (scope : Scope) (first second : ℕ → Bool) → LieInMemory scope (λ number. first number || second number) → LieInMemory scope first
lie_left scope first second lies = λ number home at is. lies number home at (or_left (first number) (second number) is)

pub lie_right : (scope : Scope) (first second : ℕ → Bool) → LieInMemory scope (λ number. first number || second number) → LieInMemory scope second
lie_right scope first second lies = λ number home at is. lies number home at (or_right (first number) (second number) is)

-- a pointer whose object is in memory
pub pointed_lives : (scope : Scope) (is_kept followed : Bool) (mode : Mode) (place : _) (pointer : Value) → mode ≡ pointed_mode is_kept followed → ObjectLives scope is_kept (T.Pointed place pointer)
    → ValueLives scope mode pointer
pointed_lives scope is_kept followed mode place pointer is whole = subst (λ m. ValueLives scope m pointer) (sym is) (by is_kept whole)
  where
    by : (b : Bool) → ObjectLives scope b (T.Pointed place pointer) → ValueLives scope (pointed_mode b followed) pointer
    by false whole = record { taken = whole.taken; behind = λ e. whole.memory }
    by true whole = record {
      taken = λ number home at is. either number home at (takes_kept number pointer is);
      behind = λ e. absurd (true≢false e);
    }
      where
        either : (number : ℕ) (home : Home) → home_of scope number ≡ Some home → (takes true number pointer ≡ true) ⊎ (names_behind number pointer ≡ true) → home.is_object ≡ true
        either number home at (inl taken) = whole.taken number home at taken
        either number home at (inr named) = whole.kept refl number home at named

-- a value that is kept
pub kept_lives : (scope : Scope) (pointer : Value) → LieInMemory scope (λ number. takes false number pointer) → ValueLives scope Kept pointer
kept_lives scope pointer taken = record { taken = taken; behind = λ e. absurd (true≢false e) }

pub row_lives : (scope : Scope) (followed : Bool) (pointer : Value) → LieInMemory scope (λ number. takes false number pointer) → ValueLives scope (Row followed) pointer
row_lives scope followed pointer taken = record { taken = taken; behind = λ e. absurd (true≢false e) }

-- what is pointed to, or the pointer
pub pointed_holds : (is_kept : Bool) (lowered found : memory_lowered.Lowered) → ((t : Interned) → lowered_in t lowered ≡ pointed_by is_kept (lowered_in t found)) → (table : Interned) → LoweredHolds table found
    → LoweredHolds table lowered
pointed_holds false lowered (L.Pointer register target) told table holds = holds_object lowered target (λ t. path_from (Pointed register (type_in t target))) told table holds
pointed_holds true lowered (L.Pointer register target) told table holds = holds_same lowered (L.Pointer register target) told table holds
pointed_holds false lowered (L.Integer own tree) told table holds = holds_same lowered (L.Integer own tree) told table holds
pointed_holds true lowered (L.Integer own tree) told table holds = holds_same lowered (L.Integer own tree) told table holds
pointed_holds false lowered (L.Object path own) told table holds = holds_same lowered (L.Object path own) told table holds
pointed_holds true lowered (L.Object path own) told table holds = holds_same lowered (L.Object path own) told table holds
pointed_holds false lowered L.Nothing told table holds = holds_same lowered L.Nothing told table holds
pointed_holds true lowered L.Nothing told table holds = holds_same lowered L.Nothing told table holds

-- a local in memory, told in each table
abbrev pub AtHome : List memory_home.Home → ℕ → memory_lowered.Lowered → Type 0
AtHome scope number lowered = (t : Interned) → (home : Home) × (home_of (scope_in t scope) number ≡ Some home) × (lowered_in t lowered ≡ AsObject (path_from (AtLocal home.local)) home.c_type)

local_holds : (scope : List memory_home.Home) (number : ℕ) (lowered : memory_lowered.Lowered) → AtHome scope number lowered → (table : Interned) → HomesStand table scope → (found : Option memory_home.Home)
    → slice_get scope number ≡ found → LoweredHolds table lowered
local_holds scope number lowered told table stand None e =
    let here = told table in
    absurd (none-some here.0 (ap (optional_home table) (sym e) ∙ home_read table scope number ∙ here.1))
local_holds scope number lowered told table stand (Some home) e =
    let same : (t : Interned) → home_in t home ≡ (told t).0 = λ t. same_Some (home_in t home) (told t).0 (ap (optional_home t) (sym e) ∙ home_read t scope number ∙ (told t).1) in
    holds_object lowered home.c_type (λ t. path_from (AtLocal (told t).0.local)) (λ t. (told t).2 ∙ ap (λ (h : Home). AsObject (path_from (AtLocal (told t).0.local)) h.c_type) (sym (same t))) table (stand number home e)

module _ (source : Source) (scope : List memory_home.Home) where
  abbrev table : Interned
  table = types_of_source source

  abbrev homes : Scope
  homes = scope_of source scope

  abbrev type_here : memory_value.Value → Option CType
  type_here value = type_of (context_in source scope) (value_in (types_of_source source) value)

  abbrev object_type_here : memory_object.Object → Option CType
  object_type_here object = type_of_object (context_in source scope) (object_in (types_of_source source) object)

  -- ---- what codes come to

  pub value_comes : (mode : memory_mode.Mode) (value : memory_value.Value) (t : CType) → type_here value ≡ Some t → (old new : Builder) (lowered : memory_lowered.Lowered)
      → ValueLowers source scope mode value old new lowered → HasForm (mode_of mode) (lowered_in (types_of_source source) lowered) t
  value_comes mode value t typed old new lowered code =
      let points = points_in (types_of_source source) new in
      value_form (program_in source) points homes (value_in (types_of_source source) value) (mode_of mode) t (spot_of (types_of_source source) old) (spot_of (types_of_source source) new)
      (lowered_in (types_of_source source) lowered) typed (code.0 points (fills_same points))

  abbrev ObjectIs : Bool → Bool → memory_object.Object → Builder → Builder → memory_lowered.Lowered → Type 0
  ObjectIs is_kept followed object old new lowered =
      LowersIn (types_of_source source) (λ points. ObjectCode (program_in source) points (scope_of source scope) is_kept followed (object_in (types_of_source source) object)) old new lowered

  pub object_comes : (is_kept followed : Bool) (object : memory_object.Object) (t : CType) → object_type_here object ≡ Some t → (old new : Builder) (lowered : memory_lowered.Lowered)
      → ObjectIs is_kept followed object old new lowered → HasObjectForm is_kept (lowered_in (types_of_source source) lowered) t
  object_comes is_kept followed object t typed old new lowered code =
      let points = points_in (types_of_source source) new in
      object_form (program_in source) points homes (object_in (types_of_source source) object) is_kept followed t (spot_of (types_of_source source) old) (spot_of (types_of_source source) new)
      (lowered_in (types_of_source source) lowered) typed (code points (fills_same points))

  -- an object of a complete type
  complete_lowers : (is_kept followed : Bool) (object : memory_object.Object) (t : CType) → object_type_here object ≡ Some t → is_complete (structs_in (types_of_source source)) t ≡ true → (old new : Builder)
      (lowered : memory_lowered.Lowered) → ObjectIs is_kept followed object old new lowered → ObjectLowers source scope is_kept followed object old new lowered
  complete_lowers is_kept followed object t typed complete old new lowered code =
      (code, complete_holds (types_of_source source) (structs_in (types_of_source source)) is_kept lowered t complete (object_comes is_kept followed object t typed old new lowered code))

  integer_at : (value : memory_value.Value) (old new : Builder) (given : memory_lowered.Lowered) (index : IntegerValue) → ValueLowers source scope N.Kept value old new given
      → ((t : Interned) → lowered_in t given ≡ integer_of index) → (points : List Op) → Fills (points_in (types_of_source source) new) points
      → ValueCode (program_in source) points (scope_of source scope) Kept (value_in (types_of_source source) value) (spot_of (types_of_source source) old) (spot_of (types_of_source source) new)
      (AsInteger index.int_type (tree_of index.tree.value))
  integer_at value old new given index code is points fills =
      subst (λ l. ValueCode (program_in source) points (scope_of source scope) Kept (value_in (types_of_source source) value) (spot_of (types_of_source source) old) (spot_of (types_of_source source) new) l)
      (is (types_of_source source)) (code.0 points fills)

  -- ---- names

  pub local_there : (number : ℕ) → ObjectTyped source scope (O.Local number) → (t : Interned) × (home : Home) × (home_of (scope_in t scope) number ≡ Some home)
  local_there number whole = let found = typed_home homes number whole.c_type whole.typed in (types_of_source source, found.0, found.1)

  pub local_code : (number : ℕ) (is_kept followed : Bool) (old : Builder) (result : Result memory_lowered.Lowered AllocError) → IsScope source scope → ObjectLives homes is_kept (T.Local number)
      → IfOk result (AtHome scope number) → IfOk result (ObjectLowers source scope is_kept followed (O.Local number) old old)
  local_code number is_kept followed old result stands lives told =
      if_ok (AtHome scope number) (ObjectLowers source scope is_kept followed (O.Local number) old old) result
      (λ lowered told. (
        λ points fills. let here = told (types_of_source source) in (here.0, here.1, in_memory_is (home_of homes number) here.0 lives.memory here.1, refl, here.2),
        local_holds scope number lowered told (types_of_source source) stands.stand (slice_get scope number) refl,
      )) told

  pub global_there : (name : _) → ObjectTyped source scope (O.Global name) → is_some (named_global 0 (program_in source).globals name) ≡ true
  global_there name whole = typed_global (program_in source).globals name 0 whole.c_type whole.typed

  pub global_code : (name : _) (is_kept followed : Bool) (old : Builder) (result : Result memory_lowered.Lowered AllocError) (at : ℕ) (c_type : number.CType)
      → Stands (types_of_source source) c_type × ((found : ℕ × GlobalDef) × (named_global 0 (program_in source).globals name ≡ Some found) × (at ≡ found.0) × (type_in (types_of_source source) c_type ≡ found.1.c_type))
      → IfOk result (λ lowered. (t : Interned) → lowered_in t lowered ≡ AsObject (path_from (AtGlobal at)) (type_in t c_type)) → IfOk result (ObjectLowers source scope is_kept followed (O.Global name) old old)
  global_code name is_kept followed old result at c_type found told =
      if_ok (λ lowered. (t : Interned) → lowered_in t lowered ≡ AsObject (path_from (AtGlobal at)) (type_in t c_type)) (ObjectLowers source scope is_kept followed (O.Global name) old old) result
      (λ lowered told. (
        λ points fills. (found.1.0.0, found.1.0.1, found.1.1, refl, told (types_of_source source) ∙ (λ i. AsObject (path_from (AtGlobal (found.1.2 i))) (found.1.3 i))),
        holds_object lowered c_type (λ t. path_from (AtGlobal at)) told (types_of_source source) found.0,
      )) told

  pub literal_there : (place : _) (bytes : _) (c_type : number.CType) → ObjectTyped source scope (O.Literal place bytes c_type) → is_some (placed_literal 0 (program_in source).literals place) ≡ true
  literal_there place bytes c_type whole = typed_literal (program_in source).literals place _ whole.c_type whole.typed

  pub literal_code : (place : _) (bytes : _) (c_type : number.CType) (is_kept followed : Bool) (old : Builder) (result : Result memory_lowered.Lowered AllocError) (at : ℕ)
      → ObjectTyped source scope (O.Literal place bytes c_type) → (found : ℕ × LiteralDef) × (placed_literal 0 (program_in source).literals place ≡ Some found) × (at ≡ found.0)
      → IfOk result (λ lowered. (t : Interned) → lowered_in t lowered ≡ AsObject (path_from (AtLiteral at)) (type_in t c_type))
      → IfOk result (ObjectLowers source scope is_kept followed (O.Literal place bytes c_type) old old)
  literal_code place bytes c_type is_kept followed old result at whole found told =
      if_ok (λ lowered. (t : Interned) → lowered_in t lowered ≡ AsObject (path_from (AtLiteral at)) (type_in t c_type)) (ObjectLowers source scope is_kept followed (O.Literal place bytes c_type) old old) result
      (λ lowered told. (
        λ points fills. (found.0.0, found.0.1, found.1, refl, told (types_of_source source) ∙ (λ i. AsObject (path_from (AtLiteral (found.2 i))) (whole.stands.1 i))),
        holds_object lowered c_type (λ t. path_from (AtLiteral at)) told (types_of_source source) whole.stands.0,
      )) told

  abbrev pub GlobalFound : List ℕ → ℕ → number.CType → Type 0
  GlobalFound name at c_type =
      Stands (types_of_source source) c_type × ((found : ℕ × GlobalDef) × (named_global 0 (program_in source).globals name ≡ Some found) × (at ≡ found.0) × (type_in (types_of_source source) c_type ≡ found.1.c_type))

  -- ---- an object in parentheses

  pub grouped_typed : (place : _) (p : _) (inner : memory_object.Object) → ObjectTyped source scope (O.Grouped' place p inner) → ObjectTyped source scope inner
  grouped_typed place p inner whole = record { stands = whole.stands; c_type = whole.c_type; typed = whole.typed }

  pub grouped_code : (place : _) (p : _) (inner : memory_object.Object) (is_kept followed : Bool) (old new : Builder) (result : Result memory_lowered.Lowered AllocError)
      → ObjectTyped source scope (O.Grouped' place p inner) → IfOk result (ObjectLowers source scope is_kept followed inner old new) → IfOk result (ObjectLowers source scope is_kept followed (O.Grouped' place p inner) old new)
  grouped_code place p inner is_kept followed old new result whole code = code

  -- ---- what a pointer points to

  pub pointed_typed : (place : _) (p : _) (pointer : memory_value.Value) → ObjectTyped source scope (O.Pointed' place p pointer) → ValueTyped source scope pointer
  pointed_typed place p pointer whole =
      let parts = given_parts (type_here pointer) (pointed (structs_in (types_of_source source))) whole.c_type whole.typed in
      record { stands = whole.stands; c_type = parts.0; typed = parts.1 }

  pub pointed_code : (place : _) (p : _) (pointer : memory_value.Value) (is_kept followed : Bool) (mode : memory_mode.Mode) (old new : Builder) (found : memory_lowered.Lowered)
      (result : Result memory_lowered.Lowered AllocError) → ObjectTyped source scope (O.Pointed' place p pointer) → mode_of mode ≡ pointed_mode is_kept followed → ValueLowers source scope mode pointer old new found
      → IfOk result (λ lowered. (t : Interned) → lowered_in t lowered ≡ pointed_by is_kept (lowered_in t found)) → IfOk result (ObjectLowers source scope is_kept followed (O.Pointed' place p pointer) old new)
  pointed_code place p pointer is_kept followed mode old new found result whole is code told =
      if_ok (λ lowered. (t : Interned) → lowered_in t lowered ≡ pointed_by is_kept (lowered_in t found)) (ObjectLowers source scope is_kept followed (O.Pointed' place p pointer) old new) result
      (λ lowered told. (
        λ points fills. (
          lowered_in (types_of_source source) found,
          subst (λ m. ValueCode (program_in source) points (scope_of source scope) m (value_in (types_of_source source) pointer) (spot_of (types_of_source source) old) (spot_of (types_of_source source) new)
              (lowered_in (types_of_source source) found)) is (code.0 points fills),
          told (types_of_source source),
        ),
        pointed_holds is_kept lowered found told (types_of_source source) code.1,
      )) told

  -- ---- elements

  element_pair : (pointer number : memory_value.Value) (t : CType)
      → given (type_here pointer) (λ a. given (type_here number) (element (structs_in (types_of_source source)) a)) ≡ Some t → Two (type_here pointer) (type_here number) (element (structs_in (types_of_source source))) t
  element_pair pointer number t typed = two_parts (type_here pointer) (type_here number) (element (structs_in (types_of_source source))) t typed

  -- a row and an index
  pub record RowTyped (pointer number : memory_value.Value) (t : CType) : Type 0 where
    pub pointer_stands : ValueStands (types_of_source source) pointer
    pub number_stands : ValueStands (types_of_source source) number
    pub pointer_typed : type_of (context_in source scope) (value_in (types_of_source source) pointer) ≡ Some (Pointer t)
    pub complete : is_complete (structs_in (types_of_source source)) t ≡ true
    pub index : CType
    pub number_typed : type_of (context_in source scope) (value_in (types_of_source source) number) ≡ Some index
    pub is : is_integer index ≡ true

  row_from : (pointer number : memory_value.Value) (t : CType) → ValueStands (types_of_source source) pointer → ValueStands (types_of_source source) number
      → Two (type_here pointer) (type_here number) (element (structs_in (types_of_source source))) t → RowTyped pointer number t
  row_from pointer number t first second parts =
      let both = element_parts (structs_in (types_of_source source)) parts.a parts.b t parts.gave in
      record {
        pointer_stands = first;
        number_stands = second;
        pointer_typed = parts.left ∙ ap Some both.0;
        complete = both.1;
        index = parts.b;
        number_typed = parts.right;
        is = element_integer (structs_in (types_of_source source)) parts.a parts.b t parts.gave;
      }

  pub element_row : (place : _) (p : _) (pointer : memory_value.Value) (q : _) (number : memory_value.Value) → (whole : ObjectTyped source scope (O.Element' place p pointer q number)) → RowTyped pointer number whole.c_type
  element_row place p pointer q number whole = row_from pointer number whole.c_type whole.stands.0 whole.stands.1 (element_pair pointer number whole.c_type whole.typed)

  pub element_of_row : (place : _) (p : _) (number : memory_value.Value) (q : _) (pointer : memory_value.Value) → (whole : ObjectTyped source scope (O.ElementOf' place p number q pointer)) → RowTyped pointer number whole.c_type
  element_of_row place p number q pointer whole = row_from pointer number whole.c_type whole.stands.1 whole.stands.0 (element_pair pointer number whole.c_type whole.typed)

  pub row_pointer : (pointer number : memory_value.Value) (t : CType) → RowTyped pointer number t → ValueTyped source scope pointer
  row_pointer pointer number t row = record { stands = row.pointer_stands; c_type = Pointer t; typed = row.pointer_typed }

  pub row_number : (pointer number : memory_value.Value) (t : CType) → RowTyped pointer number t → ValueTyped source scope number
  row_number pointer number t row = record { stands = row.number_stands; c_type = row.index; typed = row.number_typed }

  pub row_integer : (pointer number : memory_value.Value) (t : CType) → RowTyped pointer number t → (old new : Builder) (given : memory_lowered.Lowered) → ValueLowers source scope N.Kept number old new given → IsInteger given
  row_integer pointer number t row old new given code = integer_kept (types_of_source source) given row.index row.is (value_comes N.Kept number row.index row.number_typed old new given code)

  pub row_is : (pointer number : memory_value.Value) (t : CType) → RowTyped pointer number t → (followed : Bool) (old new : Builder) (found : memory_lowered.Lowered) (types : Interned)
      → types ≡ types_of_source source → ValueLowers source scope (N.Row followed) pointer old new found → IsRow types found
  row_is pointer number t row followed old new found types same code =
      subst (λ any. IsRow any found) (sym same) (row_of (types_of_source source) found followed t (value_comes (N.Row followed) pointer (Pointer t) row.pointer_typed old new found code) code.1)

  abbrev pub IndexedFrom : Interned → Bool → Bool → memory_lowered.Lowered → Tree → Builder → Builder → memory_lowered.Lowered → Type 0
  IndexedFrom types is_kept followed found tree old new lowered = LowersIn types (λ points. Indexes points is_kept followed (lowered_in types found) tree) old new lowered

  pub element_code : (place : _) (p : _) (pointer : memory_value.Value) (q : _) (number : memory_value.Value) (is_kept followed row_followed : Bool) (old mid next new : Builder) (types : Interned)
      (found given : memory_lowered.Lowered) (index : IntegerValue) (result : Result memory_lowered.Lowered AllocError) → ObjectTyped source scope (O.Element' place p pointer q number)
      → types ≡ types_of_source source → row_followed ≡ (followed || not (is_pure (scope_of source scope) (value_in (types_of_source source) number)))
      → ValueLowers source scope (N.Row row_followed) pointer old mid found → ValueLowers source scope N.Kept number mid next given → Grows mid next → ((t : Interned) → lowered_in t given ≡ integer_of index)
      → IfOk result (IndexedFrom types is_kept followed found (tree_of index.tree.value) next new) → OnOk result (Grows next new)
      → IfOk result (ObjectLowers source scope is_kept followed (O.Element' place p pointer q number) old new)
  element_code place p pointer q number is_kept followed row_followed old mid next new types found given index result whole same row first second grows is third more =
      let here = types_of_source source in
      let typed = element_row place p pointer q number whole in
      let third_here = subst (λ any. IfOk result (IndexedFrom any is_kept followed found (tree_of index.tree.value) next new)) same third in
      if_on_ok (IndexedFrom here is_kept followed found (tree_of index.tree.value) next new) (ObjectLowers source scope is_kept followed (O.Element' place p pointer q number) old new) result
      (λ lowered third more. complete_lowers is_kept followed (O.Element' place p pointer q number) whole.c_type whole.typed typed.complete old new lowered
      (λ points fills.
      let fills_next = fills_grown here next new points more fills in
      let fills_mid = fills_grown here mid next points grows fills_next in (
        spot_of here mid,
        spot_of here next,
        lowered_in here found,
        index.int_type,
        tree_of index.tree.value,
        subst (λ b. ValueCode (program_in source) points (scope_of source scope) (Row b) (value_in here pointer) (spot_of here old) (spot_of here mid) (lowered_in here found)) row (first.0 points fills_mid),
        integer_at number mid next given index second is points fills_next,
        third points fills,
      ))) third_here more

  pub element_of_code : (place : _) (p : _) (number : memory_value.Value) (q : _) (pointer : memory_value.Value) (is_kept followed : Bool) (old start mid next new : Builder) (types : Interned)
      (given found : memory_lowered.Lowered) (index : IntegerValue) (kept : Tree) (result : Result memory_lowered.Lowered AllocError) → ObjectTyped source scope (O.ElementOf' place p number q pointer)
      → types ≡ types_of_source source → ValueLowers source scope N.Kept number old start given → ((t : Interned) → lowered_in t given ≡ integer_of index)
      → Leads (λ t points from to. KeepsTree points true (tree_of index.tree.value) from to kept) start mid → Grows start mid
      → ValueLowers source scope (N.Row followed) pointer mid next found → Grows mid next
      → IfOk result (IndexedFrom types is_kept false found kept next new) → OnOk result (Grows next new)
      → IfOk result (ObjectLowers source scope is_kept followed (O.ElementOf' place p number q pointer) old new)
  element_of_code place p number q pointer is_kept followed old start mid next new types given found index kept result whole same first is keeps grows second grown third more =
      let here = types_of_source source in
      let typed = element_of_row place p number q pointer whole in
      let third_here = subst (λ any. IfOk result (IndexedFrom any is_kept false found kept next new)) same third in
      if_on_ok (IndexedFrom here is_kept false found kept next new) (ObjectLowers source scope is_kept followed (O.ElementOf' place p number q pointer) old new) result
      (λ lowered third more. complete_lowers is_kept followed (O.ElementOf' place p number q pointer) whole.c_type whole.typed typed.complete old new lowered
      (λ points fills.
      let fills_next = fills_grown here next new points more fills in
      let fills_mid = fills_grown here mid next points grown fills_next in
      let fills_start = fills_grown here start mid points grows fills_mid in (
        spot_of here start,
        spot_of here mid,
        spot_of here next,
        index.int_type,
        tree_of index.tree.value,
        kept,
        lowered_in here found,
        integer_at number old start given index first is points fills_start,
        keeps here points fills_mid,
        second.0 points fills_next,
        third points fills,
      ))) third_here more

  -- ---- members

  -- what a member is taken of
  pub record MemberTyped (object : memory_object.Object) (number : ℕ) (t : CType) : Type 0 where
    pub own : CType
    pub typed : type_of_object (context_in source scope) (object_in (types_of_source source) object) ≡ Some own
    pub kind : (is_array own || is_struct own) ≡ true
    pub there : type_of_member (structs_in (types_of_source source)) own number ≡ Some t

  pub member_part : (place : _) (p : _) (object : memory_object.Object) (number : ℕ) → (whole : ObjectTyped source scope (O.MemberOf' place p object number)) → MemberTyped object number whole.c_type
  member_part place p object number whole =
      let parts = given_parts (object_type_here object) (member_of (structs_in (types_of_source source)) number) whole.c_type whole.typed in
      let has = has_member (structs_in (types_of_source source)) number parts.0 whole.c_type parts.2 in
      record { own = parts.0; typed = parts.1; kind = has.0; there = has.1 }

  pub member_typed : (place : _) (p : _) (object : memory_object.Object) (number : ℕ) → ObjectTyped source scope (O.MemberOf' place p object number) → ObjectTyped source scope object
  member_typed place p object number whole = let part = member_part place p object number whole in record { stands = whole.stands; c_type = part.own; typed = part.typed }

  pub member_lives : (place : _) (p : _) (object : memory_object.Object) (number : ℕ) (is_kept : Bool) → IsScope source scope → ObjectTyped source scope (O.MemberOf' place p object number)
      → ObjectLives homes is_kept (object_in (types_of_source source) (O.MemberOf' place p object number)) → ObjectLives homes false (object_in (types_of_source source) object)
  member_lives place p object number is_kept stands whole lives =
      let part = member_part place p object number whole in
      record {
        taken = lives.taken;
        kept = λ e. absurd (false≢true e);
        memory = lies (program_in source) homes stands.lie (object_in (types_of_source source) object) part.own part.typed part.kind;
      }

  -- the pointer as an expression for the object to which it points
  pub behind_part : (place : _) (p : _) (pointer : memory_value.Value) (number : ℕ) → (whole : ObjectTyped source scope (O.PointedMember' place p pointer number)) → MemberTyped (O.Pointed' place p pointer) number whole.c_type
  behind_part place p pointer number whole =
      let parts = given_parts (type_here pointer) (λ u. given (pointed (structs_in (types_of_source source)) u) (member_of (structs_in (types_of_source source)) number)) whole.c_type whole.typed in
      let inner = given_parts (pointed (structs_in (types_of_source source)) parts.0) (member_of (structs_in (types_of_source source)) number) whole.c_type parts.2 in
      let has = has_member (structs_in (types_of_source source)) number inner.0 whole.c_type inner.2 in
      record { own = inner.0; typed = ap (λ o. given o (pointed (structs_in (types_of_source source)))) parts.1 ∙ inner.1; kind = has.0; there = has.1 }

  pub behind_object : (place : _) (p : _) (pointer : memory_value.Value) (number : ℕ) → ObjectTyped source scope (O.PointedMember' place p pointer number) → ObjectTyped source scope (O.Pointed' place p pointer)
  behind_object place p pointer number whole = let part = behind_part place p pointer number whole in record { stands = whole.stands; c_type = part.own; typed = part.typed }

  pub behind_typed : (place : _) (p : _) (pointer : memory_value.Value) (number : ℕ) → ObjectTyped source scope (O.PointedMember' place p pointer number) → ValueTyped source scope pointer
  behind_typed place p pointer number whole = pointed_typed place p pointer (behind_object place p pointer number whole)

  pub behind_lives : (place : _) (p : _) (pointer : memory_value.Value) (number : ℕ) (is_kept followed : Bool) → IsScope source scope → ObjectTyped source scope (O.PointedMember' place p pointer number)
      → ObjectLives homes is_kept (object_in (types_of_source source) (O.PointedMember' place p pointer number)) → ValueLives homes (Behind followed) (value_in (types_of_source source) pointer)
  behind_lives place p pointer number is_kept followed stands whole lives =
      let part = behind_part place p pointer number whole in
      record {
        taken = lives.taken;
        behind = λ e. lies (program_in source) homes stands.lie (object_in (types_of_source source) (O.Pointed' place p pointer)) part.own part.typed part.kind;
      }

  pub part_found : (object : memory_object.Object) (t : CType) → object_type_here object ≡ Some t → (followed : Bool) (old new : Builder) (found : memory_lowered.Lowered)
      → ObjectLowers source scope false followed object old new found → IsObject found
  part_found object t typed followed old new found code = object_found (types_of_source source) found t (object_comes false followed object t typed old new found code.0)

  pub part_stands : (object : memory_object.Object) (followed : Bool) (old new : Builder) (found : memory_lowered.Lowered) (placed : Place) (types : Interned) → types ≡ types_of_source source
      → ObjectLowers source scope false followed object old new found → ((t : Interned) → lowered_in t found ≡ place_in t placed) → Stands types placed.c_type
  part_stands object followed old new found placed types same code is = subst (λ any. Stands any placed.c_type) (sym same) (place_stands found placed is (types_of_source source) code.1)

  pub part_member : (object : memory_object.Object) (number : ℕ) (t : CType) → MemberTyped object number t → (followed : Bool) (old new : Builder) (found : memory_lowered.Lowered) (placed : Place) (types : Interned)
      → types ≡ types_of_source source → ObjectLowers source scope false followed object old new found → ((t : Interned) → lowered_in t found ≡ place_in t placed)
      → (c_type : CType) × (type_of_member (structs_in types) (type_in types placed.c_type) number ≡ Some c_type)
  part_member object number t part followed old new found placed types same code is =
      let form = subst (λ l. HasObjectForm false l part.own) (is (types_of_source source)) (object_comes false followed object part.own part.typed old new found code.0) in
      (t, subst (λ any. type_of_member (structs_in any) (type_in any placed.c_type) number ≡ Some t) (sym same) (subst (λ u. type_of_member (structs_in (types_of_source source)) u number ≡ Some t) form part.there))

  abbrev pub MemberFrom : Interned → Place → ℕ → memory_lowered.Lowered → Type 0
  MemberFrom types placed number lowered =
      (c_type : CType) × (type_of_member (structs_in types) (type_in types placed.c_type) number ≡ Some c_type) × (lowered_in types lowered ≡ AsObject (then_step (path_in types placed.path.value) (Member number)) c_type)

  pub member_code : (place : _) (p : _) (object : memory_object.Object) (number : ℕ) (is_kept followed : Bool) (old new : Builder) (found : memory_lowered.Lowered) (placed : Place) (types : Interned)
      (result : Result memory_lowered.Lowered AllocError) → ObjectTyped source scope (O.MemberOf' place p object number) → types ≡ types_of_source source → ObjectLowers source scope false followed object old new found
      → ((t : Interned) → lowered_in t found ≡ place_in t placed)
      → IfOk result (MemberFrom types placed number) → IfOk result (LoweredHolds types) → IfOk result (ObjectLowers source scope is_kept followed (O.MemberOf' place p object number) old new)
  member_code place p object number is_kept followed old new found placed types result whole same code is given holds =
      let here = types_of_source source in
      by result (subst (λ any. IfOk result (MemberFrom any placed number)) same given) (subst (λ any. IfOk result (LoweredHolds any)) same holds)
    where
      by : (result : Result memory_lowered.Lowered AllocError) → IfOk result (MemberFrom (types_of_source source) placed number) → IfOk result (LoweredHolds (types_of_source source))
          → IfOk result (ObjectLowers source scope is_kept followed (O.MemberOf' place p object number) old new)
      by (Ok lowered) given holds = (
        λ points fills. (
          path_in (types_of_source source) placed.path.value,
          type_in (types_of_source source) placed.c_type,
          given.0,
          subst (λ l. ObjectCode (program_in source) points (scope_of source scope) false followed (object_in (types_of_source source) object) (spot_of (types_of_source source) old) (spot_of (types_of_source source) new) l)
              (is (types_of_source source)) (code.0 points fills),
          given.1,
          given.2,
        ),
        holds,
      )
      by (Err fault) given holds = tt

  pub behind_code : (place : _) (p : _) (pointer : memory_value.Value) (number : ℕ) (is_kept followed : Bool) (old new : Builder) (found object : memory_lowered.Lowered) (placed : Place) (types : Interned)
      (result : Result memory_lowered.Lowered AllocError) → ObjectTyped source scope (O.PointedMember' place p pointer number) → types ≡ types_of_source source
      → ValueLowers source scope (N.Behind followed) pointer old new found → ((t : Interned) → lowered_in t object ≡ pointed_by false (lowered_in t found)) → ((t : Interned) → lowered_in t object ≡ place_in t placed)
      → IfOk result (MemberFrom types placed number) → IfOk result (LoweredHolds types) → IfOk result (ObjectLowers source scope is_kept followed (O.PointedMember' place p pointer number) old new)
  behind_code place p pointer number is_kept followed old new found object placed types result whole same code told is given holds =
      by result (subst (λ any. IfOk result (MemberFrom any placed number)) same given) (subst (λ any. IfOk result (LoweredHolds any)) same holds)
    where
      by : (result : Result memory_lowered.Lowered AllocError) → IfOk result (MemberFrom (types_of_source source) placed number) → IfOk result (LoweredHolds (types_of_source source))
          → IfOk result (ObjectLowers source scope is_kept followed (O.PointedMember' place p pointer number) old new)
      by (Ok lowered) given holds = (
        λ points fills. (
          lowered_in (types_of_source source) found,
          path_in (types_of_source source) placed.path.value,
          type_in (types_of_source source) placed.c_type,
          given.0,
          code.0 points fills,
          sym (told (types_of_source source)) ∙ is (types_of_source source),
          given.1,
          given.2,
        ),
        holds,
      )
      by (Err fault) given holds = tt

  -- what is pointed to, as an object
  behind_lowers : (place : _) (p : _) (pointer : memory_value.Value) (number : ℕ) → ObjectTyped source scope (O.PointedMember' place p pointer number) → (followed : Bool) (old new : Builder)
      (found object : memory_lowered.Lowered) → ValueLowers source scope (N.Behind followed) pointer old new found → ((t : Interned) → lowered_in t object ≡ pointed_by false (lowered_in t found))
      → ObjectLowers source scope false followed (O.Pointed' place p pointer) old new object
  behind_lowers place p pointer number whole followed old new found object code told =
      pointed_code place p pointer false followed (N.Behind followed) old new found (Ok object) (behind_object place p pointer number whole) refl code told

  pub behind_found : (place : _) (p : _) (pointer : memory_value.Value) (number : ℕ) → ObjectTyped source scope (O.PointedMember' place p pointer number) → (followed : Bool) (old new : Builder)
      (found object : memory_lowered.Lowered) → ValueLowers source scope (N.Behind followed) pointer old new found → ((t : Interned) → lowered_in t object ≡ pointed_by false (lowered_in t found)) → IsObject object
  behind_found place p pointer number whole followed old new found object code told =
      let part = behind_part place p pointer number whole in
      part_found (O.Pointed' place p pointer) part.own part.typed followed old new object (behind_lowers place p pointer number whole followed old new found object code told)

  pub behind_stands : (place : _) (p : _) (pointer : memory_value.Value) (number : ℕ) → ObjectTyped source scope (O.PointedMember' place p pointer number) → (followed : Bool) (old new : Builder)
      (found object : memory_lowered.Lowered) (placed : Place) (types : Interned) → types ≡ types_of_source source → ValueLowers source scope (N.Behind followed) pointer old new found
      → ((t : Interned) → lowered_in t object ≡ pointed_by false (lowered_in t found)) → ((t : Interned) → lowered_in t object ≡ place_in t placed) → Stands types placed.c_type
  behind_stands place p pointer number whole followed old new found object placed types same code told is =
      part_stands (O.Pointed' place p pointer) followed old new object placed types same (behind_lowers place p pointer number whole followed old new found object code told) is

  pub behind_member : (place : _) (p : _) (pointer : memory_value.Value) (number : ℕ) (whole : ObjectTyped source scope (O.PointedMember' place p pointer number)) (followed : Bool) (old new : Builder)
      (found object : memory_lowered.Lowered) (placed : Place) (types : Interned) → types ≡ types_of_source source → ValueLowers source scope (N.Behind followed) pointer old new found
      → ((t : Interned) → lowered_in t object ≡ pointed_by false (lowered_in t found)) → ((t : Interned) → lowered_in t object ≡ place_in t placed)
      → (c_type : CType) × (type_of_member (structs_in types) (type_in types placed.c_type) number ≡ Some c_type)
  behind_member place p pointer number whole followed old new found object placed types same code told is =
      part_member (O.Pointed' place p pointer) number whole.c_type (behind_part place p pointer number whole) followed old new object placed types same
      (behind_lowers place p pointer number whole followed old new found object code told) is
