-- First values of a well typed program stand inside its static objects, and their pointers point into these.
use Rattle.std.proofs.Common.{◌≡◌, ℕ, zero, suc, ◌+◌, ◌*◌, ◌<◌, ◌≤◌, true, not, ◌&&◌, ◌||◌, nat_lt, nat_le, List, [], ◌∷◌, slice_get, Option, Some, None, refl, sym, ap, subst, ◌∙◌, arith}
use Rattle.std.proofs.lemmas.Bool.{false≢true, and_parts, ltb-true, leb-true}
use Rattle.std.proofs.lemmas.Option.{none-some, same_Some}
use Rattle.c_typed.specs.Types.{CType, Void, Integer, Pointer, Array, Struct, Function, same_type, is_function, is_like_void}
use Rattle.c_typed.specs.Layouts.{is_complete}
use Rattle.c_typed.specs.Typed.{GlobalDef, Program}
use Rattle.c_typed.specs.Values.{FirstPlace, FirstScalar, IntegerValue, NullValue, FunctionValue, PointerValue, Held}
use Rattle.c_typed.specs.Expressions.{given, is_scalar}
use Rattle.c_typed.specs.Programs.{IsWellTyped, RowType, one_of, row_at, static_type, is_place, is_first, is_held, all_held, is_global, are_globals, are_structs}
use Rattle.c_typed.specs.Sizes.{HasStorableTypes}
use Rattle.ref_semantics.specs.Values.{whole_row}
use Rattle.ref_semantics.specs.Rows.{Whole, IsSmall, element_offset}
use Rattle.ref_semantics.proofs.WellTyped.{well_structs, well_globals}
use Rattle.tac_ir.specs.Values.{Value, Number, NoAddress, Code, Address}
use Rattle.tac_ir.specs.Layouts.{size_of, moved}
use Rattle.tac_ir.specs.Code as O
use Rattle.tac_ir.specs.Code.{Tac}
use Rattle.tac_ir.specs.First.{named_function, offset_in, address_of, constant_of}
use Rattle.tac_build.specs.ProgramCode as B
use Rattle.tac_simulation.proofs.Leaves.{place_found}
use Rattle.tac_simulation.proofs.Extents.{place_within}
use Rattle.pool_ir.specs.Memory.{slot_size}
use Rattle.pool_rewrite.specs.Rewriting.{slot_of}
use Rattle.pool_rewrite.specs.Placing.{statics_size, global_offset}
use Rattle.pool_simulation.specs.FirstValues.{IsInFirst, EachConstant, HasFirstValues}
use Rattle.pool_simulation.proofs.LeavesApart.{leaf_within}
use Rattle.pool_simulation.proofs.Placed.{global_within}
use Rattle.pool_rewrite.specs.Firsts.{element_behind, RootFits}
use Rattle.backend_correct.specs.Inside.{ValueInside, HeldInside, AllInside, GlobalsInsideFrom, GlobalsInside}
use Rattle.backend_correct.proofs.FoundRows.{begin_of, row_found}
use Rattle.backend_correct.proofs.StaticRoots.{code_of, global_small, root_found}

-- ---- what the rules tell

-- the row into which a pointer points
record PlaceKnown (program : Program) (place : FirstPlace) : Type 0 where
  c_type : CType
  row : RowType
  root : static_type program place.root ≡ Some c_type
  found : row_at program.structs (one_of c_type) place.steps ≡ Some row
  within : place.index ≤ row.count

place_known : (program : Program) (target : CType) (place : FirstPlace) → is_place program target place ≡ true → PlaceKnown program place
place_known program target place h = by_type (static_type program place.root) refl
  where
    by_row : (t : CType) → static_type program place.root ≡ Some t → (known : Option RowType) → row_at program.structs (one_of t) place.steps ≡ known
        → given (static_type program place.root) (λ c_type. row_at program.structs (one_of c_type) place.steps) ≡ known → PlaceKnown program place
    by_row t root None at is = absurd (false≢true (rw is at h))
    by_row t root (Some row) at is =
        let parts = and_parts (nat_le place.index row.count) (is_like_void program.completed target || same_type row.element target) (rw is at h) in
        record { c_type = t; row = row; root = root; found = at; within = leb-true place.index row.count parts.0 }

    by_type : (known : Option CType) → static_type program place.root ≡ known → PlaceKnown program place
    by_type None root = absurd (false≢true (rw (ap (λ known. given known (λ c_type. row_at program.structs (one_of c_type) place.steps)) root) at h))
    by_type (Some t) root = by_row t root (row_at program.structs (one_of t) place.steps) refl (ap (λ known. given known (λ c_type. row_at program.structs (one_of c_type) place.steps)) root)

-- the row in which a scalar stands
record HeldKnown (program : Program) (c_type : CType) (one : Held) : Type 0 where
  row : RowType
  found : row_at program.structs (one_of c_type) one.leaf.steps ≡ Some row
  within : one.leaf.index < row.count
  scalar : is_scalar row.element ≡ true
  value : is_first program row.element one.value ≡ true

held_known : (program : Program) (c_type : CType) (one : Held) → is_held program c_type one ≡ true → HeldKnown program c_type one
held_known program c_type one h = by (row_at program.structs (one_of c_type) one.leaf.steps) refl
  where
    by : (known : Option RowType) → row_at program.structs (one_of c_type) one.leaf.steps ≡ known → HeldKnown program c_type one
    by None at = absurd (false≢true (rw at at h))
    by (Some row) at =
        let outer = and_parts (nat_lt one.leaf.index row.count && is_scalar row.element) (is_first program row.element one.value) (rw at at h) in
        let inner = and_parts (nat_lt one.leaf.index row.count) (is_scalar row.element) outer.0 in
        record { row = row; found = at; within = ltb-true one.leaf.index row.count inner.0; scalar = inner.1; value = outer.1 }

global_held : (program : Program) (global : GlobalDef) → is_global program global ≡ true → all_held program global.c_type global.first ≡ true
global_held program global h = (and_parts (is_complete program.structs global.c_type) (all_held program global.c_type global.first) h).1

listed_global : (program : Program) (globals : List GlobalDef) (number : ℕ) (global : GlobalDef) → are_globals program globals ≡ true → slice_get globals number ≡ Some global → is_global program global ≡ true
listed_global program [] number global all there = absurd (none-some global there)
listed_global program (first ∷ others) zero global all there =
    subst (λ g. is_global program g ≡ true) (same_Some first global there) (and_parts (is_global program first) (are_globals program others) all).0
listed_global program (first ∷ others) (suc number) global all there = listed_global program others number global (and_parts (is_global program first) (are_globals program others) all).1 there

at_most : (a b : ℕ) → a < b → a ≤ b
at_most a b lt = omega (arith, lt)

-- ---- code with the program's structures and objects

module _ (program : Program) (well : IsWellTyped program) (storable : HasStorableTypes program) (functions : List O.Function) (start : O.Function) where
  abbrev tac : Tac
  tac = code_of program functions start

  sound : are_structs program.structs ≡ true
  sound = well_structs program well

  -- ---- pointers

  place_inside : (place : FirstPlace) → PlaceKnown program place → ValueInside tac (PointerValue place)
  place_inside place known =
      let root = root_found program storable functions start place.root known.c_type known.root in
      let found = row_found program.structs sound known.c_type root.small place.steps (whole_row known.c_type 1) Whole known.row known.found in
      subst (RootFits program.structs place.steps place.index) (sym root.found) (found.fit place.index known.within)

  place_in_first : (place : FirstPlace) → PlaceKnown program place → (value : Value) → address_of tac place ≡ Some value → IsInFirst tac value
  place_in_first place known value is =
      let root = root_found program storable functions start place.root known.c_type known.root in
      let found = row_found program.structs sound known.c_type root.small place.steps (whole_row known.c_type 1) Whole known.row known.found in
      let offset = element_offset program.structs found.last place.index in
      let below : place.index ≤ found.last.count = subst (λ (r : RowType). place.index ≤ r.count) (sym found.row_type) known.within in
      let within = place_within program.structs sound known.c_type root.small 1 found.last found.is_row place.index below in
      let stands : offset_in tac known.c_type place.steps place.index ≡ Some offset = rw found.reached refl in
      let address : address_of tac place ≡ Some (Address root.object offset) = rw root.found (rw stands refl) in
      subst (IsInFirst tac) (same_Some (Address root.object offset) value (sym address ∙ is)) (λ there. subst (λ n. offset ≤ n) (sym root.extent) within)

  value_inside : (t : CType) (value : FirstScalar) → is_first program t value ≡ true → ValueInside tac value
  value_inside t (IntegerValue z) h = tt
  value_inside t NullValue h = tt
  value_inside t (FunctionValue name) h = tt
  value_inside (Pointer target) (PointerValue place) h = place_inside place (place_known program target place (and_parts (not (is_function target)) (is_place program target place) h).1)
  value_inside Void (PointerValue place) h = absurd (false≢true h)
  value_inside (Integer int_type) (PointerValue place) h = absurd (false≢true h)
  value_inside (Array element n) (PointerValue place) h = absurd (false≢true h)
  value_inside (Struct tag) (PointerValue place) h = absurd (false≢true h)
  value_inside (Function result parameters) (PointerValue place) h = absurd (false≢true h)

  function_in_first : (name : List ℕ) (value : Value) → constant_of tac (FunctionValue name) ≡ Some value → IsInFirst tac value
  function_in_first name value is = by (named_function 0 functions name) is
    where
      of_function : Option ℕ → Option Value
      of_function None = None
      of_function (Some number) = Some (Code number)

      by : (found : Option ℕ) → of_function found ≡ Some value → IsInFirst tac value
      by None is = absurd (none-some value is)
      by (Some number) is = subst (IsInFirst tac) (same_Some (Code number) value is) tt

  constant_in_first : (t : CType) (constant : FirstScalar) → is_first program t constant ≡ true → (value : Value) → constant_of tac constant ≡ Some value → IsInFirst tac value
  constant_in_first t (IntegerValue z) h value is = subst (IsInFirst tac) (same_Some (Number z) value is) tt
  constant_in_first t NullValue h value is = subst (IsInFirst tac) (same_Some NoAddress value is) tt
  constant_in_first t (FunctionValue name) h value is = function_in_first name value is
  constant_in_first (Pointer target) (PointerValue place) h value is =
      place_in_first place (place_known program target place (and_parts (not (is_function target)) (is_place program target place) h).1) value is
  constant_in_first Void (PointerValue place) h value is = absurd (false≢true h)
  constant_in_first (Integer int_type) (PointerValue place) h value is = absurd (false≢true h)
  constant_in_first (Array element n) (PointerValue place) h value is = absurd (false≢true h)
  constant_in_first (Struct tag) (PointerValue place) h value is = absurd (false≢true h)
  constant_in_first (Function result parameters) (PointerValue place) h value is = absurd (false≢true h)

  each_in_first : (c_type : CType) (held : List Held) → all_held program c_type held ≡ true → EachConstant tac (IsInFirst tac) held
  each_in_first c_type [] h = tt
  each_in_first c_type (one ∷ others) h =
      let parts = and_parts (is_held program c_type one) (all_held program c_type others) h in
      let known = held_known program c_type one parts.0 in
      (constant_in_first known.row.element one.value known.value, each_in_first c_type others parts.1)

  globals_in_first : HasFirstValues tac
  globals_in_first number global there =
      each_in_first global.c_type global.first (global_held program global (listed_global program program.globals number global (well_globals program well) there))

  -- ---- scalars

  module _ (c_type : CType) (small : IsSmall program.structs c_type) (begin : ℕ) (room : begin + size_of program.structs c_type ≤ statics_size tac) where
    held_inside : (one : Held) → is_held program c_type one ≡ true → HeldInside tac c_type begin one
    held_inside one h =
        let known = held_known program c_type one h in
        let found = row_found program.structs sound c_type small one.leaf.steps (whole_row c_type 1) Whole known.row known.found in
        let offset = element_offset program.structs found.last one.leaf.index in
        let below : one.leaf.index < found.last.count = subst (λ (r : RowType). one.leaf.index < r.count) (sym found.row_type) known.within in
        let is_own : is_scalar found.last.c_type ≡ true = subst (λ (r : RowType). is_scalar r.element ≡ true) (sym found.row_type) known.scalar in
        let leaf = place_found program.structs sound c_type small 1 found.last found.is_row one.leaf.index below is_own in
        record {
          inner = moved program.structs one.leaf.index (begin_of found.last);
          reached = ap (element_behind program.structs one.leaf.index) found.reached;
          place = rw found.reached refl;
          scalar = leaf;
          room = ends offset (slot_size (slot_of found.last.c_type)) (size_of program.structs c_type) (statics_size tac) (leaf_within program.structs c_type 1 offset found.last.c_type small leaf) room;
          parts_fit = found.fit one.leaf.index (at_most one.leaf.index known.row.count known.within);
          value = value_inside known.row.element one.value known.value;
        }
      where
        ends : (offset own size all : ℕ) → offset + own ≤ 1 * size → begin + size ≤ all → begin + offset + own ≤ all
        ends offset own size all le le' = omega arith

    all_inside : (held : List Held) → all_held program c_type held ≡ true → AllInside tac c_type begin held
    all_inside [] h = tt
    all_inside (one ∷ others) h = let parts = and_parts (is_held program c_type one) (all_held program c_type others) h in (held_inside one parts.0, all_inside others parts.1)

  inside_from : (number : ℕ) (globals : List GlobalDef) → ((k : ℕ) (global : GlobalDef) → slice_get globals k ≡ Some global → slice_get program.globals (number + k) ≡ Some global)
      → are_globals program globals ≡ true → GlobalsInsideFrom tac number globals
  inside_from number [] are h = tt
  inside_from number (global ∷ others) are h =
      let parts = and_parts (is_global program global) (are_globals program others) h in
      let there : slice_get program.globals number ≡ Some global = ap (slice_get program.globals) first ∙ are 0 global refl in (
        all_inside global.c_type (global_small program storable number global there) (global_offset tac number) (global_within tac number global there) global.first (global_held program global parts.0),
        inside_from (suc number) others (λ k one at. ap (slice_get program.globals) (next k) ∙ are (suc k) one at) parts.1,
      )
    where
      first : number ≡ number + 0
      first = omega arith

      next : (k : ℕ) → suc number + k ≡ number + suc k
      next k = omega arith

  all_globals_inside : GlobalsInside tac
  all_globals_inside = inside_from 0 program.globals (λ k global there. ap (slice_get program.globals) (same k) ∙ there) (well_globals program well)
    where
      same : (k : ℕ) → 0 + k ≡ k
      same k = omega arith

-- ---- the code of a program

coded : (program : Program) (tac : Tac) → B.Code program tac → code_of program tac.functions tac.start ≡ tac
coded program tac code = λ i. record { structs = sym code.structs i; globals = sym code.globals i; literals = sym code.literals i; functions = tac.functions; start = tac.start }

-- each pointer among first values points into its object or to its end
pub first_values : (program : Program) (tac : Tac) → B.Code program tac → IsWellTyped program → HasStorableTypes program → HasFirstValues tac
first_values program tac code well storable = subst HasFirstValues (coded program tac code) (globals_in_first program well storable tac.functions tac.start)

-- each first value stands where a scalar of its object is
pub globals_inside : (program : Program) (tac : Tac) → B.Code program tac → IsWellTyped program → HasStorableTypes program → GlobalsInside tac
globals_inside program tac code well storable = subst GlobalsInside (coded program tac code) (all_globals_inside program well storable tac.functions tac.start)
