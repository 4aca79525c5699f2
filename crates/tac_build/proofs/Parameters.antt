-- Parameters, one behind another: where they live, and the code that stores arguments in memory.
use Rattle.std.proofs.Common.{◌≡◌, ℕ, zero, suc, ◌+◌, Bool, true, false, ◌||◌, List, [], ◌∷◌, ◌++◌, Option, Some, None, length, map, drop, slice_get, append_assoc, add-one, refl, sym, ap, ◌∙◌, subst, arith}
use Rattle.std.specs.Prelude.{reverse}
use Rattle.std.proofs.lemmas.Bool.{and_parts, or_right}
use Rattle.std.proofs.lemmas.Option.{same_Some}
use Rattle.std.proofs.lemmas.List.{append-nil}
use Rattle.std.proofs.lemmas.Grind.{reverse_onto}
use Rattle.c_typed.specs.declared.c_type.CType as number
use Rattle.c_typed.specs.Types.{CType, is_array, is_struct}
use Rattle.c_typed.specs.Table.{Interned, Stands, type_in}
use Rattle.c_typed.specs.Typed.{Block}
use Rattle.c_typed.specs.DefinitionViews.{TypesStand}
use Rattle.c_typed.specs.Expressions.{is_scalar}
use Rattle.c_typed.specs.Programs.{are_scalars, with_parameters}
use Rattle.tac_ir.specs.declared.register.Local.TheVariants as L
use Rattle.tac_ir.specs.Code.{Op}
use Rattle.tac_build.specs.declared.builder.Builder.{Builder}
use Rattle.tac_build.specs.declared.names.Source.{Source}
use Rattle.tac_build.specs.declared.addressed.Addressed.{Addressed}
use Rattle.tac_build.specs.declared.homes.Home as memory_home
use Rattle.tac_build.specs.Homes.{Home, Scope, home_of, lies_in_memory, takes_block}
use Rattle.tac_build.specs.Spots.{Spot}
use Rattle.tac_build.specs.Forms.{scope_types}
use Rattle.tac_build.specs.ProgramCode.{parameter_home, ParameterCode, ParametersCode}
use Rattle.tac_build.specs.Building.{home_in, optional_home, Fills, Grows, IsScalarType, points_in, spot_of, LeadsIn}
use Rattle.tac_build.specs.Lowering.{types_of_source, scope_of, IsScope, LieInMemory}
use Rattle.tac_build.specs.LoweringDefinitions.{ParametersForetold, parameter_homes, ParametersLower}
use Rattle.tac_build.proofs.Points.{fills_grown, grows_same, grows_on}
use Rattle.tac_build.proofs.Scopes.{home_read}
use Rattle.tac_build.proofs.Declaring.{scope_pushed, scalar_type}

-- ---- the loop

-- the parameters from one on are left
pub record ParametersSoFar (source : Source) (addressed : Addressed) (scope : List memory_home.Home) (all : List number.CType) (next : ℕ) (old now : Builder) : Type 0 where
  pub code : (body : Block) → ParametersForetold addressed (length all) body → (points : List Op) → Fills (points_in (types_of_source source) now) points → (to : Spot) (inner : Scope)
      → ParametersCode points body (map (type_in (types_of_source source)) (drop next all)) next (scope_of source scope) (spot_of (types_of_source source) now) to inner
      → ParametersCode points body (map (type_in (types_of_source source)) all) 0 [] (spot_of (types_of_source source) old) to inner
  pub homes : (body : Block) → ParametersForetold addressed (length all) body
      → scope ++ parameter_homes (types_of_source source) body next (drop next all) ≡ parameter_homes (types_of_source source) body 0 all
  pub grows : Grows old now
  pub counts : now.counts ≡ old.counts

pub parameters_begin : (source : Source) (addressed : Addressed) (scope : List memory_home.Home) (all : List number.CType) (old : Builder) → scope ≡ [] → ParametersSoFar source addressed scope all 0 old old
parameters_begin source addressed scope all old none = subst (λ scope. ParametersSoFar source addressed scope all 0 old old) (sym none) (record {
  code = λ body told points fills to inner code. code;
  homes = λ body told. refl;
  grows = grows_same old;
  counts = refl;
})

module _ (source : Source) (addressed : Addressed) (scope : List memory_home.Home) (all : List number.CType) (next : ℕ) (c_type : number.CType) (is_object : Bool) (old now new : Builder)
    (here : drop next all ≡ c_type ∷ drop (next + 1) all)
    (lies : (body : Block) → ParametersForetold addressed (length all) body → is_object ≡ lies_in_memory (type_in (types_of_source source) c_type) (takes_block next body)) where
  abbrev own_table : Interned
  own_table = types_of_source source

  abbrev home : memory_home.Home
  home = record { local = L.Parameter next; is_object = is_object; c_type = c_type }

  abbrev own : Block → Home
  own body = parameter_home next (type_in (types_of_source source) c_type) (takes_block next body)

  is_own : (body : Block) → ParametersForetold addressed (length all) body → home_in own_table home ≡ own body
  is_own body told = λ i. record { local = L.Parameter next; is_object = lies body told i; c_type = type_in own_table c_type }

  pub parameters_next : ((number : ℕ) → L.Parameter next ≡ L.Parameter number → LeadsIn (types_of_source source) (λ points. ParameterCode points (home_in (types_of_source source) (record { local = L.Parameter next; is_object = is_object; c_type = c_type })) number) now new)
      → Grows now new → new.counts ≡ now.counts → ParametersSoFar source addressed scope all next old now
      → ParametersSoFar source addressed (scope ++ record { local = L.Parameter next; is_object = is_object; c_type = c_type } ∷ []) all (next + 1) old new
  parameters_next lowers grows counts far = record {
    code = λ body told points fills to inner code.
        let rest = map (type_in own_table) (drop (next + 1) all) in
        let first = subst (λ home. ParameterCode points home next (spot_of own_table now) (spot_of own_table new)) (is_own body told) (lowers next refl points fills) in
        let counted = subst (λ number. ParametersCode points body rest number (scope_of source (scope ++ home ∷ [])) (spot_of own_table new) to inner) (add-one next) code in
        let behind = subst (λ scope. ParametersCode points body rest (suc next) scope (spot_of own_table new) to inner) (scope_pushed own_table scope home ∙ ap (λ home. home ∷ scope_of source scope) (is_own body told)) counted in
        far.code body told points (fills_grown own_table now new points grows fills) to inner
        (subst (λ left. ParametersCode points body (map (type_in own_table) left) next (scope_of source scope) (spot_of own_table now) to inner) (sym here) (spot_of own_table new, first, behind));
    homes = λ body told.
        let others = drop (next + 1) all in
        let same : home ≡ record { local = L.Parameter next; is_object = lies_in_memory (type_in own_table c_type) (takes_block next body); c_type = c_type } =
        (λ i. record { local = L.Parameter next; is_object = lies body told i; c_type = c_type }) in
        append_assoc scope (home ∷ []) (parameter_homes own_table body (next + 1) others)
        ∙ ap (λ number. scope ++ (home ∷ parameter_homes own_table body number others)) (add-one next)
        ∙ ap (λ home. scope ++ (home ∷ parameter_homes own_table body (suc next) others)) same
        ∙ ap (λ left. scope ++ parameter_homes own_table body next left) (sym here)
        ∙ far.homes body told;
    grows = grows_on old now new far.grows grows;
    counts = counts ∙ far.counts;
  }

module _ (source : Source) (addressed : Addressed) (scope : List memory_home.Home) (all : List number.CType) (next : ℕ) (old now : Builder) (none : drop next all ≡ []) (far : ParametersSoFar source addressed scope all next old now) where
  pub parameters_lower : (body : Block) → ParametersForetold addressed (length all) body → ParametersLower source body all scope old now
  parameters_lower body told = λ points fills.
      let table = types_of_source source in
      far.code body told points fills (spot_of table now) (scope_of source scope)
      (subst (λ left. ParametersCode points body (map (type_in table) left) next (scope_of source scope) (spot_of table now) (spot_of table now) (scope_of source scope)) (sym none) (refl, refl))

  pub parameters_homes : (body : Block) → ParametersForetold addressed (length all) body → scope ≡ parameter_homes (types_of_source source) body 0 all
  parameters_homes body told =
      sym (append-nil scope) ∙ ap (λ left. scope ++ parameter_homes (types_of_source source) body next left) (sym none) ∙ far.homes body told

-- ---- what is asked of the next one

pub all_stand : (table : Interned) (all : List number.CType) (next : ℕ) (c_type : number.CType) → TypesStand table all → slice_get all next ≡ Some c_type → Stands table c_type
all_stand table [] next c_type stand at = absurd (cc)
all_stand table (first ∷ others) zero c_type stand at = subst (Stands table) (same_Some first c_type at) stand.0
all_stand table (first ∷ others) (suc next) c_type stand at = all_stand table others next c_type stand.1 at

pub all_scalar : (table : Interned) (all : List number.CType) (next : ℕ) (c_type : number.CType) → are_scalars (map (type_in table) all) ≡ true → slice_get all next ≡ Some c_type → IsScalarType (type_in table c_type)
all_scalar table [] next c_type scalars at = absurd (cc)
all_scalar table (first ∷ others) zero c_type scalars at =
    let parts = and_parts (is_scalar (type_in table first)) (are_scalars (map (type_in table) others)) scalars in
    scalar_type (type_in table c_type) (ap (λ t. is_scalar (type_in table t)) (sym (same_Some first c_type at)) ∙ parts.0)
all_scalar table (first ∷ others) (suc next) c_type scalars at =
    all_scalar table others next c_type (and_parts (is_scalar (type_in table first)) (are_scalars (map (type_in table) others)) scalars).1 at

-- ---- the locals that they are

-- a parameter lies in memory where its address is taken
record IsParameter (table : Interned) (body : Block) (number : ℕ) (home : memory_home.Home) : Type 0 where
  lies : home.is_object ≡ lies_in_memory (type_in table home.c_type) (takes_block number body)
  stands : Stands table home.c_type

parameter_at : (table : Interned) (body : Block) (all : List number.CType) (first next : ℕ) (home : memory_home.Home) → TypesStand table all → slice_get (parameter_homes table body first all) next ≡ Some home → IsParameter table body (first + next) home
parameter_at table body [] first next home stand at = absurd (cc)
parameter_at table body (t ∷ others) first zero home stand at =
    let here : first ≡ first + 0 = omega arith in
    subst (IsParameter table body (first + 0)) (same_Some (record { local = L.Parameter first; is_object = lies_in_memory (type_in table t) (takes_block first body); c_type = t }) home at) (record {
      lies = ap (λ number. lies_in_memory (type_in table t) (takes_block number body)) here;
      stands = stand.0;
    })
parameter_at table body (t ∷ others) first (suc next) home stand at =
    let here : suc first + next ≡ first + suc next = omega arith in
    subst (λ number. IsParameter table body number home) here (parameter_at table body others (suc first) next home stand.1 at)

some_home : (table : Interned) (found : Option memory_home.Home) (home : Home) → optional_home table found ≡ Some home → (own : memory_home.Home) × (found ≡ Some own) × (home_in table own ≡ home)
some_home table None home is = absurd (cc)
some_home table (Some own) home is = (own, refl, same_Some (home_in table own) home is)

module _ (source : Source) (body : Block) (all : List number.CType) (stand : TypesStand (types_of_source source) all) where
  abbrev homes : List memory_home.Home
  homes = parameter_homes (types_of_source source) body 0 all

  scope_at : (number : ℕ) (home : Home) → home_of (scope_of source homes) number ≡ Some home → home.is_object ≡ lies_in_memory home.c_type (takes_block number body)
  scope_at number home at =
      let table = types_of_source source in
      let found = some_home table (slice_get homes number) home (home_read table homes number ∙ at) in
      let is = parameter_at table body all 0 number found.0 stand found.1 in
      let here : 0 + number ≡ number = omega arith in
      subst (λ (home : Home). home.is_object ≡ lies_in_memory home.c_type (takes_block number body)) found.2
      (is.lies ∙ ap (λ number. lies_in_memory (type_in table found.0.c_type) (takes_block number body)) here)

  lies_anyway : (a b c : Bool) → (a || b) ≡ true → (a || (b || c)) ≡ true
  lies_anyway true b c e = refl
  lies_anyway false true c e = refl
  lies_anyway false false c e = absurd (cc)

  pub parameters_scope : IsScope source (parameter_homes (types_of_source source) body 0 all)
  parameters_scope = record {
    stand = λ number home at. (parameter_at (types_of_source source) body all 0 number home stand at).stands;
    lie = λ number home at is. scope_at number home at ∙ lies_anyway (is_array home.c_type) (is_struct home.c_type) (takes_block number body) is;
  }

  pub parameters_lie : LieInMemory (scope_of source (parameter_homes (types_of_source source) body 0 all)) (λ number. takes_block number body)
  parameters_lie number home at is =
      scope_at number home at ∙ or_right (is_array home.c_type) (is_struct home.c_type || takes_block number body) (or_right (is_struct home.c_type) (takes_block number body) is)

-- ---- their types

turned : (first : Home) (scope behind : Scope) → reverse (first ∷ scope) ++ behind ≡ reverse scope ++ (first ∷ behind)
turned first scope behind = ap (λ homes. homes ++ behind) (reverse_onto scope first []) ∙ append_assoc (reverse scope) (first ∷ []) behind

types_onto : (table : Interned) (body : Block) (first : ℕ) (all : List number.CType) (behind : Scope)
    → scope_types (reverse (map (home_in table) (parameter_homes table body first all)) ++ behind) ≡ with_parameters (map (type_in table) all) (scope_types behind)
types_onto table body first [] behind = refl
types_onto table body first (t ∷ others) behind =
    let home = parameter_home first (type_in table t) (takes_block first body) in
    ap scope_types (turned home (map (home_in table) (parameter_homes table body (suc first) others)) behind) ∙ types_onto table body (suc first) others (home ∷ behind)

pub parameters_types : (table : Interned) (body : Block) (all : List number.CType) → scope_types (reverse (map (home_in table) (parameter_homes table body 0 all))) ≡ with_parameters (map (type_in table) all) []
parameters_types table body all =
    ap scope_types (sym (append-nil (reverse (map (home_in table) (parameter_homes table body 0 all))))) ∙ types_onto table body 0 all []

pub parameters_long : (table : Interned) (body : Block) (first : ℕ) (all : List number.CType) → length (parameter_homes table body first all) ≡ length all
parameters_long table body first [] = refl
parameters_long table body first (t ∷ others) = ap suc (parameters_long table body (suc first) others)
