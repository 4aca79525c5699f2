-- Locals that begin to live: where they live, what is asked of their first values, and what the code of these comes to.
use Rattle.std.proofs.Common.{◌≡◌, ℕ, zero, suc, ◌+◌, Bool, true, false, ◌&&◌, ◌||◌, ◌==◌, if◌then◌else◌, List, [], ◌∷◌, ◌++◌, Option, Some, None, length, map, slice_get, Result, Ok, Err, OnOk, refl, sym, ap, ◌∙◌, subst, arith}
use Rattle.std.specs.Prelude.{reverse, option_map}
use Rattle.std.proofs.lemmas.Bool.{and_parts, or_right, eqb-true, true≢false, false≢true}
use Rattle.std.proofs.lemmas.Option.{same_Some}
use Rattle.std.proofs.lemmas.List.{map_push, reverse-append, length-reverse, length-map}
use Rattle.c_typed.specs.declared.typed.Value as memory_value
use Rattle.c_typed.specs.declared.statement.LocalDef as memory_local
use Rattle.c_typed.specs.Types.{CType, Void, Integer, Pointer, Array, Struct, Function, is_array, is_struct, same_type}
use Rattle.c_typed.specs.Layouts.{is_complete}
use Rattle.c_typed.specs.Table.{Interned, Stands, type_in}
use Rattle.c_typed.specs.Typed.{Value, LocalDef}
use Rattle.c_typed.specs.Views.{value_in}
use Rattle.c_typed.specs.StatementViews.{local_in, OptionalStands}
use Rattle.c_typed.proofs.Same.{same_type-true}
use Rattle.c_typed.specs.TypedNodes.{value_nodes, optional_nodes, local_nodes}
use Rattle.c_typed.specs.Context.{with_local}
use Rattle.c_typed.specs.Expressions.{is_scalar, type_of}
use Rattle.c_typed.specs.Statements.{holds_for, is_of_type, if_any}
use Rattle.tac_ir.specs.Code.{Op}
use Rattle.tac_build.specs.declared.builder.Builder.{Builder}
use Rattle.tac_build.specs.declared.names.Source.{Source}
use Rattle.tac_build.specs.declared.addressed.Addressed.{Addressed}
use Rattle.tac_build.specs.declared.homes.Home as memory_home
use Rattle.tac_build.specs.declared.lowered.Lowered as memory_lowered
use Rattle.tac_build.specs.declared.lowered.Lowered.TheVariants as L
use Rattle.tac_build.specs.declared.lowered.Mode.TheVariants as N
use Rattle.tac_build.specs.Homes.{Home, Scope, home_of, lies_in_memory, takes_optional}
use Rattle.tac_build.specs.Spots.{Spot, with_variable, Lowered, AsInteger, AsPointer, AsObject, AsNothing, Kept}
use Rattle.tac_build.specs.Code.{ValueCode}
use Rattle.tac_build.specs.StatementCode as codes
use Rattle.tac_build.specs.StatementCode.{with_home, FirstCode}
use Rattle.tac_build.specs.Forms.{HasForm, context_of}
use Rattle.tac_build.specs.Building.{lowered_in, home_in, IsScalar, IsScalarType, Grows, points_in, spot_of, names_of, LeadsIn, HasRoom, Adds}
use Rattle.tac_build.specs.Lowering.{names_for, AddsFewer, program_in, types_of_source, scope_of, context_in, IsScope, ValueTyped, LieInMemory, ValueLives, ValueLowers}
use Rattle.tac_build.specs.LoweringStatements.{LocalTyped, LocalLowers}
use Rattle.tac_build.specs.LoweringDefinitions.{IsNewHome}
use Rattle.tac_build.proofs.Points.{fills_same, fills_grown}
use Rattle.tac_build.proofs.Forms.{value_form}
use Rattle.tac_build.proofs.Named.{value_named}

-- ---- scopes

-- the home that is pushed is the newest
pub scope_pushed : (table : Interned) (scope : List memory_home.Home) (home : memory_home.Home) → reverse (map (home_in table) (scope ++ home ∷ [])) ≡ home_in table home ∷ reverse (map (home_in table) scope)
scope_pushed table scope home = ap reverse (map_push (home_in table) scope home) ∙ reverse-append (map (home_in table) scope) (home_in table home ∷ [])

pub scope_long : (table : Interned) (scope : List memory_home.Home) → length (reverse (map (home_in table) scope)) ≡ length scope
scope_long table scope = length-reverse (map (home_in table) scope) ∙ length-map scope (home_in table)

pub context_pushed : (source : Source) (scope : List memory_home.Home) (home : memory_home.Home) → context_in source (scope ++ home ∷ []) ≡ with_local (type_in (types_of_source source) home.c_type) (context_in source scope)
context_pushed source scope home = ap (context_of (program_in source)) (scope_pushed (types_of_source source) scope home)

-- what holds of the newest home and of the older ones
pub of_each : (P : Home → Type 0) (newest : Home) (scope : Scope) (number : ℕ) (home : Home) → (number ≡ length scope → P newest) → (home_of scope number ≡ Some home → P home) → home_of (newest ∷ scope) number ≡ Some home → P home
of_each P newest scope number home own old at = by (length scope == number) refl at
  where
    by : (b : Bool) → (length scope == number) ≡ b → (if b then Some newest else home_of scope number) ≡ Some home → P home
    by true same at = subst P (same_Some newest home at) (own (sym (eqb-true (length scope) number same)))
    by false other at = old at

of_pushed : {X : Type 0} (P : X → Type 0) (xs : List X) (x : X) → P x → ((number : ℕ) (y : X) → slice_get xs number ≡ Some y → P y) → (number : ℕ) (y : X) → slice_get (xs ++ x ∷ []) number ≡ Some y → P y
of_pushed P [] x own old zero y at = subst P (same_Some x y at) own
of_pushed P [] x own old (suc number) y at = absurd (cc)
of_pushed P (z ∷ xs) x own old zero y at = old 0 y at
of_pushed P (z ∷ xs) x own old (suc number) y at = of_pushed P xs x own (λ number y at. old (suc number) y at) number y at

pub scope_grown : (source : Source) (scope : List memory_home.Home) (home : memory_home.Home) → IsScope source scope → Stands (types_of_source source) home.c_type
    → ((is_array (type_in (types_of_source source) home.c_type) || is_struct (type_in (types_of_source source) home.c_type)) ≡ true → home.is_object ≡ true) → IsScope source (scope ++ home ∷ [])
scope_grown source scope home homes stands lies =
    let table = types_of_source source in
    record {
      stand = of_pushed (λ (home : memory_home.Home). Stands table home.c_type) scope home stands homes.stand;
      lie = λ number found at is.
          of_each (λ (home : Home). (is_array home.c_type || is_struct home.c_type) ≡ true → home.is_object ≡ true) (home_in table home) (scope_of source scope) number found
          (λ same. lies) (homes.lie number found) (ap (λ homes. home_of homes number) (sym (scope_pushed table scope home)) ∙ at) is;
    }

-- a local of which the address is taken lies in memory in the longer scope
pub lie_grown : (source : Source) (scope : List memory_home.Home) (home : memory_home.Home) (is_taken : ℕ → Bool) → LieInMemory (scope_of source scope) is_taken → (is_taken (length scope) ≡ true → home.is_object ≡ true)
    → LieInMemory (scope_of source (scope ++ home ∷ [])) is_taken
lie_grown source scope home is_taken lies own number found at is =
    let table = types_of_source source in
    of_each (λ (home : Home). home.is_object ≡ true) (home_in table home) (scope_of source scope) number found
    (λ same. own (ap is_taken (sym (same ∙ scope_long table scope)) ∙ is)) (λ at. lies number found at is) (ap (λ homes. home_of homes number) (sym (scope_pushed table scope home)) ∙ at)

-- ---- the home of a new local

lies_anyway : (a b c : Bool) → (a || b) ≡ true → (a || (b || c)) ≡ true
lies_anyway true b c e = refl
lies_anyway false true c e = refl
lies_anyway false false c e = absurd (false≢true e)

module _ (source : Source) (scope : List memory_home.Home) (local : memory_local.LocalDef) (is_taken : Bool) (home : memory_home.Home) (old : Builder) (is_new : IsNewHome (types_of_source source) old local is_taken home) where
  new_object : home.is_object ≡ lies_in_memory (type_in (types_of_source source) local.c_type) is_taken
  new_object = ap (λ (home : Home). home.is_object) is_new.0

  pub new_stands : LocalTyped source scope local → Stands (types_of_source source) home.c_type
  new_stands typed = subst (Stands (types_of_source source)) (sym is_new.1) typed.stands.0

  pub new_scope : LocalTyped source scope local → IsScope source scope → IsScope source (scope ++ home ∷ [])
  new_scope typed homes =
      let table = types_of_source source in
      scope_grown source scope home homes (new_stands typed) (λ is.
      let t = type_in table local.c_type in
      let own : (is_array t || is_struct t) ≡ true = ap (λ t. is_array (type_in table t) || is_struct (type_in table t)) (sym is_new.1) ∙ is in
      new_object ∙ lies_anyway (is_array t) (is_struct t) is_taken own)

  -- it lies in memory where its address is taken
  pub new_lies : is_taken ≡ true → home.is_object ≡ true
  new_lies is =
      let t = type_in (types_of_source source) local.c_type in
      new_object ∙ or_right (is_array t) (is_struct t || is_taken) (or_right (is_struct t) is_taken is)

  pub new_lie : (taken : ℕ → Bool) → LieInMemory (scope_of source scope) taken → (taken (length scope) ≡ true → is_taken ≡ true) → LieInMemory (scope_of source (scope ++ home ∷ [])) taken
  new_lie taken lies own = lie_grown source scope home taken lies (λ is. new_lies (own is))

-- told in the table that the code has
pub new_home_in : (own table : Interned) (addressed : Addressed) (old : Builder) (local : memory_local.LocalDef) (home : memory_home.Home) → own ≡ table
    → ((is_taken : Bool) → slice_get addressed.variables.items old.counts.variables ≡ Some is_taken → IsNewHome own old local is_taken home)
    → (is_taken : Bool) → slice_get addressed.variables.items old.counts.variables ≡ Some is_taken → IsNewHome table old local is_taken home
new_home_in own table addressed old local home same is_new is_taken at = subst (λ table. IsNewHome table old local is_taken home) same (is_new is_taken at)

-- ---- the first value

holding : (test : CType → Bool) (known : Option CType) → holds_for test known ≡ true → (t : CType) × (known ≡ Some t) × (test t ≡ true)
holding test (Some t) h = (t, refl, h)
holding test None h = absurd (false≢true h)

-- a scalar of the local's type, in whose scope it stands
pub record FirstTyped (source : Source) (inner : List memory_home.Home) (c_type : CType) (value : memory_value.Value) : Type 0 where
  pub typed : ValueTyped source inner value
  pub scalar : is_scalar c_type ≡ true
  pub same : c_type ≡ typed.c_type

pub first_typed : (source : Source) (scope : List memory_home.Home) (local : memory_local.LocalDef) (value : memory_value.Value) (home : memory_home.Home) → local.first ≡ Some value → home.c_type ≡ local.c_type → LocalTyped source scope local
    → FirstTyped source (scope ++ home ∷ []) (type_in (types_of_source source) home.c_type) value
first_typed source scope local value home is same typed =
    let table = types_of_source source in
    let around = context_in source scope in
    let t = type_in table local.c_type in
    let tree = value_in table value in
    let own : type_in table home.c_type ≡ t = ap (type_in table) same in
    let checked : (is_complete around.program.structs t && (is_scalar t && is_of_type (with_local t around) t tree)) ≡ true =
    subst (λ first. (is_complete around.program.structs t && if_any (λ value. is_scalar t && is_of_type (with_local t around) t value) (option_map (value_in table) first)) ≡ true) is typed.typed in
    let parts = and_parts (is_scalar t) (is_of_type (with_local t around) t tree) (and_parts (is_complete around.program.structs t) (is_scalar t && is_of_type (with_local t around) t tree) checked).1 in
    let known = holding (same_type t) (type_of (with_local t around) tree) parts.1 in
    let inner : context_in source (scope ++ home ∷ []) ≡ with_local t around = context_pushed source scope home ∙ ap (λ t. with_local t around) own in
    record {
      typed = record {
        stands = subst (OptionalStands table) is typed.stands.1;
        c_type = known.0;
        typed = ap (λ around. type_of around tree) inner ∙ known.1;
      };
      scalar = ap is_scalar own ∙ parts.0;
      same = own ∙ same_type-true t known.0 known.2;
    }

pub scalar_type : (t : CType) → is_scalar t ≡ true → IsScalarType t
scalar_type (Integer int_type) is = tt
scalar_type (Pointer target) is = tt
scalar_type Void is = absurd (false≢true is)
scalar_type (Array element count) is = absurd (false≢true is)
scalar_type (Struct tag) is = absurd (false≢true is)
scalar_type (Function result parameters) is = absurd (false≢true is)

scalar_form : (table : Interned) (lowered : memory_lowered.Lowered) (t : CType) → is_scalar t ≡ true → HasForm Kept (lowered_in table lowered) t → IsScalar lowered
scalar_form table (L.Integer own tree) t is form = tt
scalar_form table (L.Pointer register target) t is form = tt
scalar_form table (L.Object path own) t is form = absurd form
scalar_form table L.Nothing t is form = absurd (true≢false (sym is ∙ ap is_scalar form))

-- it comes to an integer or a pointer
pub first_scalar : (source : Source) (inner : List memory_home.Home) (c_type : CType) (value : memory_value.Value) (old new : Builder) (lowered : memory_lowered.Lowered) → FirstTyped source inner c_type value → ValueLowers source inner N.Kept value old new lowered
    → IsScalar lowered
first_scalar source inner c_type value old new lowered first lowers =
    let table = types_of_source source in
    let points = points_in table new in
    scalar_form table lowered first.typed.c_type (ap is_scalar (sym first.same) ∙ first.scalar)
    (value_form (program_in source) points (scope_of source inner) (value_in table value) Kept first.typed.c_type (spot_of table old) (spot_of table new) (lowered_in table lowered) first.typed.typed (lowers.0 points (fills_same points)))

-- no local that lives in a register has its address taken in it
pub first_lives : (source : Source) (inner : List memory_home.Home) (local : memory_local.LocalDef) (value : memory_value.Value) → local.first ≡ Some value
    → LieInMemory (scope_of source inner) (λ number. takes_optional number (local_in (types_of_source source) local).first) → ValueLives (scope_of source inner) Kept (value_in (types_of_source source) value)
first_lives source inner local value is lies = record {
  taken = subst (λ first. LieInMemory (scope_of source inner) (λ number. takes_optional number (option_map (value_in (types_of_source source)) first))) is lies;
  behind = λ is. absurd (true≢false is);
}

first_nodes : (table : Interned) (local : memory_local.LocalDef) (value : memory_value.Value) → local.first ≡ Some value → local_nodes (local_in table local) ≡ suc (value_nodes (value_in table value))
first_nodes table local value is = ap (λ first. suc (optional_nodes (option_map (value_in table) first))) is

pub first_room : (table : Interned) (local : memory_local.LocalDef) (value : memory_value.Value) (old named mid : Builder) → local.first ≡ Some value → Adds old named 1 → mid.counts ≡ named.counts → HasRoom old (names_for (local_nodes (local_in table local)))
    → HasRoom mid (names_for (value_nodes (value_in table value)))
first_room table local value old named mid is adds same room =
    let nodes = first_nodes table local value is in
    let counts = ap names_of same in
    omega (arith, nodes, counts, adds, room)

pub first_adds : (table : Interned) (local : memory_local.LocalDef) (value : memory_value.Value) (old named mid found new : Builder) → local.first ≡ Some value → Adds old named 1 → mid.counts ≡ named.counts
    → AddsFewer mid found (names_for (value_nodes (value_in table value))) → Adds found new 0 → Adds old new (names_for (local_nodes (local_in table local)))
first_adds table local value old named mid found new is adds same fewer none =
    let nodes = first_nodes table local value is in
    let counts = ap names_of same in
    omega (arith, nodes, counts, adds, fewer, none)

pub home_adds : (table : Interned) (local : memory_local.LocalDef) (old named new : Builder) → Adds old named 1 → new.counts ≡ named.counts → Adds old new (names_for (local_nodes (local_in table local)))
home_adds table local old named new adds same =
    let counts = ap names_of same in
    omega (arith, counts, adds)

-- ---- code

-- a spot behind a home
pub home_spot : (table : Interned) (home : memory_home.Home) (old named new : Builder) → spot_of table named ≡ with_variable (spot_of table old) → spot_of table new ≡ with_home (home_in table home) (spot_of table named)
    → spot_of table new ≡ with_home (home_in table home) (with_variable (spot_of table old))
home_spot table home old named new first second = second ∙ ap (with_home (home_in table home)) first

begins_counts : (points : List Op) (home : Home) (given : Lowered) (mid to : Spot) → codes.Begins points home given mid to → to.counts ≡ mid.counts
begins_counts points home given mid to code = by home.is_object given code
  where
    by : (b : Bool) (given : Lowered) → codes.Begins points (record home { is_object = b }) given mid to → to.counts ≡ mid.counts
    by true (AsInteger own tree) code = ap (λ (spot : Spot). spot.counts) code.1
    by true (AsPointer register target) code = ap (λ (spot : Spot). spot.counts) code.1
    by true (AsObject path own) code = absurd code
    by true AsNothing code = absurd code
    by false (AsInteger own tree) code = ap (λ (spot : Spot). spot.counts) code.1
    by false (AsPointer register target) code = ap (λ (spot : Spot). spot.counts) code.1
    by false (AsObject path own) code = absurd code
    by false AsNothing code = absurd code

pub begin_keeps : (table : Interned) (home : memory_home.Home) (lowered : memory_lowered.Lowered) (old new : Builder) → LeadsIn table (λ points. codes.Begins points (home_in table home) (lowered_in table lowered)) old new
    → new.counts.variables ≡ old.counts.variables
begin_keeps table home lowered old new code =
    let points = points_in table new in
    let same = begins_counts points (home_in table home) (lowered_in table lowered) (spot_of table old) (spot_of table new) (code points (fills_same points)) in
    λ i. (same i).variables

-- code of a value declares no variable
pub first_keeps : (source : Source) (inner : List memory_home.Home) (value : memory_value.Value) (old new : Builder) (lowered : memory_lowered.Lowered) → ValueLowers source inner N.Kept value old new lowered → new.counts.variables ≡ old.counts.variables
first_keeps source inner value old new lowered lowers =
    let table = types_of_source source in
    let points = points_in table new in
    (value_named (program_in source) points (scope_of source inner) (value_in table value) Kept (spot_of table old) (spot_of table new) (lowered_in table lowered) (lowers.0 points (fills_same points))).grows.variables

pub home_counts : (table : Interned) (old named : Builder) → spot_of table named ≡ with_variable (spot_of table old) → named.counts.variables ≡ old.counts.variables + 1
home_counts table old named spot =
    let same = ap (λ (spot : Spot). spot.counts.variables) spot in
    omega (arith, same)

-- a local without a first value
pub none_lowers : (source : Source) (scope : List memory_home.Home) (local : memory_local.LocalDef) (is_taken : Bool) (home : memory_home.Home) (old new : Builder) → local.first ≡ None → IsNewHome (types_of_source source) old local is_taken home
    → spot_of (types_of_source source) new ≡ with_home (home_in (types_of_source source) home) (with_variable (spot_of (types_of_source source) old)) → LocalLowers source scope local is_taken home old new
none_lowers source scope local is_taken home old new is is_new spot = λ points fills.
    let table = types_of_source source in (
      is_new.0,
      subst (λ first. FirstCode (program_in source) points (home_in table home ∷ scope_of source scope) (home_in table home) (option_map (value_in table) first) (with_home (home_in table home) (with_variable (spot_of table old))) (spot_of table new))
          (sym is) spot,
    )

-- one with a first value
pub first_lowers : (source : Source) (scope : List memory_home.Home) (local : memory_local.LocalDef) (is_taken : Bool) (home : memory_home.Home) (value : memory_value.Value) (old mid found new : Builder) (lowered : memory_lowered.Lowered)
    → local.first ≡ Some value → IsNewHome (types_of_source source) old local is_taken home
    → spot_of (types_of_source source) mid ≡ with_home (home_in (types_of_source source) home) (with_variable (spot_of (types_of_source source) old))
    → ValueLowers source (scope ++ home ∷ []) N.Kept value mid found lowered
    → LeadsIn (types_of_source source) (λ points. codes.Begins points (home_in (types_of_source source) home) (lowered_in (types_of_source source) lowered)) found new → Grows found new
    → LocalLowers source scope local is_taken home old new
first_lowers source scope local is_taken home value old mid found new lowered is is_new spot lowers begins grows = λ points fills.
    let table = types_of_source source in
    let own = home_in table home in
    let tree = value_in table value in
    let outside = lowers.0 points (fills_grown table found new points grows fills) in
    let inside = subst (λ scope. ValueCode (program_in source) points scope Kept tree (spot_of table mid) (spot_of table found) (lowered_in table lowered)) (scope_pushed table scope home) outside in
    let code = subst (λ from. ValueCode (program_in source) points (own ∷ scope_of source scope) Kept tree from (spot_of table found) (lowered_in table lowered)) spot inside in (
      is_new.0,
      subst (λ first. FirstCode (program_in source) points (own ∷ scope_of source scope) own (option_map (value_in table) first) (with_home own (with_variable (spot_of table old))) (spot_of table new))
          (sym is) (spot_of table found, lowered_in table lowered, code, begins points fills),
    )

-- ---- results

pub on_ok_two : {A : Type 0} → {E : Type 0} → {P : Type 0} → {Q : Type 0} → {R : Type 0} → (result : Result A E) → (P → Q → R) → OnOk result P → OnOk result Q → OnOk result R
on_ok_two (Ok a) f p q = f p q
on_ok_two (Err e) f p q = tt

-- there is room for the local's own name
pub home_room : (table : Interned) (local : memory_local.LocalDef) (old : Builder) → HasRoom old (names_for (local_nodes (local_in table local))) → HasRoom old 1
home_room table local old room = omega (arith, room)
