-- The first values of a well typed program stand in its variables.
use Rattle.std.proofs.Common.{◌≡◌, ℕ, ◌<◌, true, ◌&&◌, ◌||◌, not, nat_lt, nat_le, List, [], ◌∷◌, map, Option, Some, None, ◌≤◌, refl, sym, ap, subst, ◌∙◌, arith}
use Rattle.std.proofs.lemmas.Bool.{false≢true, and_parts, ltb-true, leb-true}
use Rattle.std.proofs.lemmas.Option.{none-some, same_Some}
use Rattle.c_typed.specs.declared.part.Part.{Part}
use Rattle.c_typed.specs.declared.part.Part.TheVariants as P
use Rattle.c_typed.specs.declared.definition.GlobalDef as memory_global
use Rattle.c_typed.specs.declared.definition.Program as memory_program
use Rattle.c_typed.specs.Types.{CType, Void, Integer, Pointer, Array, Struct, Function, same_type, is_function, is_like_void}
use Rattle.c_typed.specs.Values as first
use Rattle.c_typed.specs.Typed.{Program}
use Rattle.c_typed.specs.Table.{Interned, type_in, structs_in}
use Rattle.c_typed.specs.Layouts.{is_complete}
use Rattle.c_typed.specs.DefinitionViews.{program_of, global_in, all_first, GlobalsStand, ProgramStands}
use Rattle.c_typed.specs.Expressions.{given, is_scalar}
use Rattle.c_typed.specs.Programs.{IsWellTyped, RowType, one_of, row_within, row_at, is_place, is_first, is_held, all_held, are_globals, are_structs}
use Rattle.c_typed.specs.Programs as rules
use Rattle.c_typed.specs.Sizes.{HasStorableTypes, is_small, fills, is_storable, globals_make, literals_make, functions_make}
use Rattle.ref_semantics.specs.First.{around_of, name_of, stepped}
use Rattle.ref_semantics.specs.Values.{Name, Heap, Place, object_place}
use Rattle.ref_semantics.specs.Rows.{Whole}
use Rattle.ref_semantics.specs.Store.{State}
use Rattle.ref_semantics.specs.First.{first_state}
use Rattle.ref_semantics.proofs.WellTyped.{well_structs, well_globals}
use Rattle.ref_semantics.proofs.Beginning.{member_within, elements_within, StandsAs, stepped_stands, root_static}
use Rattle.ref_meaning.specs.Firsts.{part_index, StepsLead, PlaceLeads, ValueLeads, HeldLeads, AllLead, GlobalsFit}
use Rattle.ref_meaning.proofs.SmallTypes.{small_object}

-- ---- where steps lead

below : (program : Program) (row inner : RowType) (step : Part) → row_within program.structs row step ≡ Some inner → nat_lt (part_index step) row.count ≡ true
below program row inner (P.Member index number) is = (member_within program.structs row.element row.count index number inner is).0
below program row inner (P.Elements index) is = (elements_within program.structs row.element row.count index inner is).0

module _ (program : Program) (state : State) (root : CType) (name : Name) where
  steps_lead : (steps : List Part) (place : Place) (row last : RowType) (k index : ℕ) → StandsAs program.structs root name row k place → row_at program.structs row steps ≡ Some last → index ≤ last.count
      → StepsLead (around_of program) place steps index
  steps_lead [] place row last k index stands is le =
      subst (λ n. index ≤ n) (sym (stands.is_count ∙ ap (λ (r : RowType). r.count) (same_Some row last is))) le
  steps_lead (step ∷ steps) place row last k index stands is le =
      by (row_within program.structs row step) refl is (λ inner. steps_lead steps (stepped (around_of program) place step) inner last 0 index)
    where
      by : (known : Option RowType) → row_within program.structs row step ≡ known → given known (λ inner. row_at program.structs inner steps) ≡ Some last
          → ((inner : RowType) → StandsAs program.structs root name inner 0 (stepped (around_of program) place step) → row_at program.structs inner steps ≡ Some last → index ≤ last.count
          → StepsLead (around_of program) (stepped (around_of program) place step) steps index)
          → StepsLead (around_of program) place (step ∷ steps) index
      by None at is rest = absurd (none-some last is)
      by (Some inner) at is rest = (
        subst (λ n. part_index step < n) (sym stands.is_count) (ltb-true (part_index step) row.count (below program row inner step at)),
        rest inner (stepped_stands program state root name place row inner k step stands at) is le,
      )

  -- from an object as a whole
  pub object_leads : (steps : List Part) (last : RowType) (index : ℕ) → row_at program.structs (one_of root) steps ≡ Some last → index ≤ last.count
      → StepsLead (around_of program) (object_place name root) steps index
  object_leads steps last index is le =
      steps_lead steps (object_place name root) (one_of root) last 0 index (record { named = refl; is_row = Whole; is_type = refl; is_count = refl; is_index = refl }) is le

-- ---- first values

module _ (program : Program) (well : IsWellTyped program) (storable : HasStorableTypes program) where
  abbrev state : State
  state = first_state program [] 0

  place_leads : (target : CType) (place : first.FirstPlace) → is_place program target place ≡ true → PlaceLeads program place
  place_leads target place h = by_type (rules.static_type program place.root) refl
    where
      by_row : (t : CType) → rules.static_type program place.root ≡ Some t → (known : Option RowType) → row_at program.structs (one_of t) place.steps ≡ known
          → given (rules.static_type program place.root) (λ c_type. row_at program.structs (one_of c_type) place.steps) ≡ known → PlaceLeads program place
      by_row t root None at is = absurd (false≢true (rw is at h))
      by_row t root (Some row) at is =
          let parts = and_parts (nat_le place.index row.count) (is_like_void program.completed target || same_type row.element target) (rw is at h) in
          subst (λ c_type. StepsLead (around_of program) (object_place (name_of place.root) c_type) place.steps place.index) (sym (root_static program well storable [] 0 place.root t root).0)
          (object_leads program state t (name_of place.root) place.steps row place.index at (leb-true place.index row.count parts.0))

      by_type : (known : Option CType) → rules.static_type program place.root ≡ known → PlaceLeads program place
      by_type None root = absurd (false≢true (rw (ap (λ known. given known (λ c_type. row_at program.structs (one_of c_type) place.steps)) root) at h))
      by_type (Some t) root = by_row t root (row_at program.structs (one_of t) place.steps) refl (ap (λ known. given known (λ c_type. row_at program.structs (one_of c_type) place.steps)) root)

  value_leads : (t : CType) (value : first.FirstScalar) → is_first program t value ≡ true → ValueLeads program value
  value_leads t (first.IntegerValue z) h = tt
  value_leads t first.NullValue h = tt
  value_leads t (first.FunctionValue name) h = tt
  value_leads (Pointer target) (first.PointerValue place) h = place_leads target place (and_parts (not (is_function target)) (is_place program target place) h).1
  value_leads Void (first.PointerValue place) h = absurd (false≢true h)
  value_leads (Integer int_type) (first.PointerValue place) h = absurd (false≢true h)
  value_leads (Array element n) (first.PointerValue place) h = absurd (false≢true h)
  value_leads (Struct tag) (first.PointerValue place) h = absurd (false≢true h)
  value_leads (Function result parameters) (first.PointerValue place) h = absurd (false≢true h)

  held_leads : (t : CType) (one : first.Held) → is_held program t one ≡ true → HeldLeads program t one
  held_leads t one h = by (row_at program.structs (one_of t) one.leaf.steps) refl
    where
      at_most : (a b : ℕ) → a < b → a ≤ b
      at_most a b lt = omega (arith, lt)

      by : (known : Option RowType) → row_at program.structs (one_of t) one.leaf.steps ≡ known → HeldLeads program t one
      by None at = absurd (false≢true (rw at at h))
      by (Some row) at =
          let outer = and_parts (nat_lt one.leaf.index row.count && is_scalar row.element) (is_first program row.element one.value) (rw at at h) in
          let inner = and_parts (nat_lt one.leaf.index row.count) (is_scalar row.element) outer.0 in (
            object_leads program state t (Heap 0) one.leaf.steps row one.leaf.index at (at_most one.leaf.index row.count (ltb-true one.leaf.index row.count inner.0)),
            value_leads row.element one.value outer.1,
          )

  all_lead : (t : CType) (all : List first.Held) → all_held program t all ≡ true → AllLead program t all
  all_lead t [] h = tt
  all_lead t (one ∷ others) h = let parts = and_parts (is_held program t one) (all_held program t others) h in (held_leads t one parts.0, all_lead t others parts.1)

  fit_all : (table : Interned) → structs_in table ≡ program.structs → (globals : List memory_global.GlobalDef) → GlobalsStand table globals → are_globals program (map (global_in table) globals) ≡ true
      → globals_make (is_storable program.structs) (map (global_in table) globals) ≡ true → GlobalsFit program table globals
  fit_all table same [] stand typed sized = tt
  fit_all table same (global ∷ others) stand typed sized =
      let t = type_in table global.c_type in
      let held = all_first global.first.items in
      let known = and_parts (is_complete program.structs t && all_held program t held) (are_globals program (map (global_in table) others)) typed in
      let own = and_parts (is_complete program.structs t) (all_held program t held) known.0 in
      let sizes = and_parts (is_storable program.structs t) (globals_make (is_storable program.structs) (map (global_in table) others)) sized in
      let small = (and_parts (is_small program.structs t) (fills program.structs t) sizes.0).0 in (
        (small_object table global.c_type (ap are_structs same ∙ well_structs program well) stand.0 (ap (λ s. is_small s t) same ∙ small), all_lead t held own.1),
        fit_all table same others stand.1 known.1 sizes.1,
      )

-- the variables of a program
pub globals_fit : (program : memory_program.Program) → ProgramStands program → IsWellTyped (program_of program) → HasStorableTypes (program_of program)
    → GlobalsFit (program_of program) program.types program.globals.items
globals_fit program stand well storable =
    let typed = program_of program in
    let sizes = and_parts (globals_make (is_storable typed.structs) typed.globals && literals_make (is_storable typed.structs) typed.literals) (functions_make (is_storable typed.structs) typed.functions) storable.1 in
    let own = and_parts (globals_make (is_storable typed.structs) typed.globals) (literals_make (is_storable typed.structs) typed.literals) sizes.0 in
    fit_all typed well storable program.types refl program.globals.items stand.globals (well_globals typed well) own.0
