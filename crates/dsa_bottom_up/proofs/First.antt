-- First values of a well typed program stand, and `start` calls `main` by its name.
use Rattle.std.proofs.Common.{◌≡◌, ℕ, zero, suc, Bool, true, false, not, ◌&&◌, List, [], ◌∷◌, map, Option, Some, None, refl, sym, ap, subst, ◌∙◌}
use Rattle.std.specs.Prelude.{nat_lt, slice_get, if◌then◌else◌, bytes_eq}
use Rattle.std.specs.List.{AllByRecursion}
use Rattle.std.proofs.lemmas.Bool.{false≢true, and_parts}
use Rattle.std.proofs.lemmas.Option.{none-some, same_Some}
use Rattle.run_theory.specs.declared.place.Pos.{Pos}
use Rattle.c_typed.specs.declared.part.Part.{Part}
use Rattle.c_typed.specs.declared.part.Part.TheVariants as P
use Rattle.c_typed.specs.Types.{CType, Void, Integer, Pointer, Array, Struct, Function, literal_type, is_function}
use Rattle.c_typed.specs.Layouts.{StructDef, members_by_tag, known_members, member_type, is_complete}
use Rattle.c_typed.specs.Places.{is_same_place}
use Rattle.c_typed.specs.Values as first
use Rattle.c_typed.specs.Typed.{GlobalDef, LiteralDef, Program}
use Rattle.c_typed.specs.Context.{global_type, literal_bytes}
use Rattle.c_typed.specs.Expressions.{given, is_scalar}
use Rattle.c_typed.specs.Programs.{RowType, one_of, row_within, row_at, static_type, is_place, is_first, is_held, all_held, is_global, are_globals}
use Rattle.c_typed.proofs.Splitting.{given_parts}
use Rattle.tac_ir.specs.Code.{Base, AtGlobal, AtLiteral, Through, Tac}
use Rattle.tac_ir.specs.Code as O
use Rattle.tac_ir.specs.First.{named_global, placed_literal}
use Rattle.tac_ir.specs.States.{InStart}
use Rattle.tac_build.specs.Code.{path_from, type_of_member}
use Rattle.tac_build.specs.ProgramCode.{start_points, Code}
use Rattle.graph_unification.specs.GraphPremises.First.{step_in, path_to, global_base, literal_base, base_of, IsWithin, PlaceStands, ValueStands, HeldStands, FirstStands, CallsByName}
use Rattle.dsa_bottom_up.proofs.Paths.{TypedSteps, PathFound, IsOf, path_stands}
use Rattle.dsa_bottom_up.proofs.LoweredPoints.Expressions.{get_below, global_found, literal_found}

-- ---- rows

in_row : {A : Type 0} (b : Bool) (found : Option A) (a : A) → (if b then found else None) ≡ Some a → found ≡ Some a
in_row true found a is = is
in_row false found a is = absurd (none-some a is)

member_typed : (structs : List StructDef) (own : CType) (count index number : ℕ) (inner : RowType)
    → row_within structs (record { element = own; count = count }) (P.Member index number) ≡ Some inner → type_of_member structs own number ≡ Some inner.element
member_typed structs Void count index number inner is = absurd (none-some inner (in_row (nat_lt index count) None inner is))
member_typed structs (Integer int_type) count index number inner is = absurd (none-some inner (in_row (nat_lt index count) None inner is))
member_typed structs (Pointer target) count index number inner is = absurd (none-some inner (in_row (nat_lt index count) None inner is))
member_typed structs (Array element length) count index number inner is = absurd (none-some inner (in_row (nat_lt index count) None inner is))
member_typed structs (Function result parameters) count index number inner is = absurd (none-some inner (in_row (nat_lt index count) None inner is))
member_typed structs (Struct tag) count index number inner is = by (member_type (slice_get (known_members (members_by_tag structs tag)) number)) (in_row (nat_lt index count) _ inner is)
  where
    by : (found : Option CType) → given found (λ t. Some (one_of t)) ≡ Some inner → found ≡ Some inner.element
    by (Some t) is = ap (λ (row : RowType). Some row.element) (same_Some (one_of t) inner is)
    by None is = absurd (none-some inner is)

elements_typed : (structs : List StructDef) (own : CType) (count index : ℕ) (inner : RowType)
    → row_within structs (record { element = own; count = count }) (P.Elements index) ≡ Some inner → own ≡ Array inner.element inner.count
elements_typed structs Void count index inner is = absurd (none-some inner (in_row (nat_lt index count) None inner is))
elements_typed structs (Integer int_type) count index inner is = absurd (none-some inner (in_row (nat_lt index count) None inner is))
elements_typed structs (Pointer target) count index inner is = absurd (none-some inner (in_row (nat_lt index count) None inner is))
elements_typed structs (Struct tag) count index inner is = absurd (none-some inner (in_row (nat_lt index count) None inner is))
elements_typed structs (Function result parameters) count index inner is = absurd (none-some inner (in_row (nat_lt index count) None inner is))
elements_typed structs (Array element length) count index inner is =
    ap (λ (row : RowType). Array row.element row.count) (same_Some (record { element = element; count = length }) inner (in_row (nat_lt index count) (Some (record { element = element; count = length })) inner is))

-- steps from a row to a row lead to the type of its elements
row_typed : (structs : List StructDef) (steps : List Part) (row last : RowType) → row_at structs row steps ≡ Some last → TypedSteps structs (map step_in steps) row.element last.element
row_typed structs [] row last is = ap (λ (r : RowType). r.element) (same_Some row last is)
row_typed structs (P.Member index number ∷ steps) row last is =
    let inner = given_parts (row_within structs row (P.Member index number)) (λ inner. row_at structs inner steps) last is in
    (inner.0.element, member_typed structs row.element row.count index number inner.0 inner.1, row_typed structs steps inner.0 last inner.2)
row_typed structs (P.Elements index ∷ steps) row last is =
    let inner = given_parts (row_within structs row (P.Elements index)) (λ inner. row_at structs inner steps) last is in
    (inner.0.element, inner.0.count, elements_typed structs row.element row.count index inner.0 inner.1, row_typed structs steps inner.0 last inner.2)

-- ---- names

-- what has a type has a number
global_known : (globals : List GlobalDef) (from : ℕ) (name : List ℕ) (t : CType) → global_type globals name ≡ Some t
    → (found : ℕ × GlobalDef) × (named_global from globals name ≡ Some found) × (found.1.c_type ≡ t)
global_known [] from name t is = absurd (none-some t is)
global_known (one ∷ others) from name t is = by (bytes_eq one.name name) is (global_known others (suc from) name t)
  where
    by : (b : Bool) → (if b then Some one.c_type else global_type others name) ≡ Some t
        → (global_type others name ≡ Some t → (found : ℕ × GlobalDef) × (named_global (suc from) others name ≡ Some found) × (found.1.c_type ≡ t))
        → (found : ℕ × GlobalDef) × ((if b then Some (from, one) else named_global (suc from) others name) ≡ Some found) × (found.1.c_type ≡ t)
    by true is rest = ((from, one), refl, same_Some one.c_type t is)
    by false is rest = rest is

literal_known : (literals : List LiteralDef) (from : ℕ) (place : Pos) (bytes : List ℕ) → literal_bytes literals place ≡ Some bytes → (found : ℕ × LiteralDef) × (placed_literal from literals place ≡ Some found)
literal_known [] from place bytes is = absurd (none-some bytes is)
literal_known (one ∷ others) from place bytes is = by (is_same_place one.place place) is (literal_known others (suc from) place bytes)
  where
    by : (b : Bool) → (if b then Some one.bytes else literal_bytes others place) ≡ Some bytes
        → (literal_bytes others place ≡ Some bytes → (found : ℕ × LiteralDef) × (placed_literal (suc from) others place ≡ Some found))
        → (found : ℕ × LiteralDef) × ((if b then Some (from, one) else placed_literal (suc from) others place) ≡ Some found)
    by true is rest = ((from, one), refl)
    by false is rest = rest is

global_holds : (program : Program) (globals : List GlobalDef) → are_globals program globals ≡ true → (number : ℕ) (global : GlobalDef) → slice_get globals number ≡ Some global → all_held program global.c_type global.first ≡ true
global_holds program [] typed number global there = absurd (none-some global there)
global_holds program (one ∷ others) typed zero global there =
    let parts = and_parts (is_global program one) (are_globals program others) typed in
    subst (λ (g : GlobalDef). all_held program g.c_type g.first ≡ true) (same_Some one global there) (and_parts (is_complete program.structs one.c_type) (all_held program one.c_type one.first) parts.0).1
global_holds program (one ∷ others) typed (suc number) global there = global_holds program others (and_parts (is_global program one) (are_globals program others) typed).1 number global there

-- ---- first values

module _ (program : Program) (tac : Tac) (its : IsOf program tac InStart tac.start) where
  abbrev Begins : Base → CType → Type 0
  Begins base own = PathFound tac InStart tac.start (path_from base) own

  -- steps to a row lie within the object
  is_within : (base : Base) (own : CType) (steps : List Part) (row : RowType) → Begins base own → row_at program.structs (one_of own) steps ≡ Some row → IsWithin tac base steps
  is_within base own steps row begins is =
      let typed = subst (λ structs. TypedSteps structs (map step_in steps) own row.element) (sym its.structs) (row_typed program.structs steps (one_of own) row is) in
      path_stands tac InStart tac.start its.here its.made its.filled (path_to base steps) row.element
      (record { base = begins.base; own = begins.own; is = begins.is; steps = subst (λ t. TypedSteps tac.structs (map step_in steps) t row.element) (sym begins.steps) typed })

  -- the object that a constant names
  record Root (root : first.Static) (t : CType) : Type 0 where
    base : Base
    is : base_of tac root ≡ Some base
    begins : Begins base t

  root_found : (root : first.Static) (t : CType) → static_type program root ≡ Some t → Root root t
  root_found (first.StaticVariable name) t is =
      let known = global_known program.globals 0 name t is in
      record {
        base = AtGlobal known.0.0;
        is = ap (λ globals. global_base (named_global 0 globals name)) its.globals ∙ ap global_base known.1;
        begins = subst (Begins (AtGlobal known.0.0)) known.2 (global_found program tac InStart tac.start its [] name known.0.0 known.0.1 known.1);
      }
  root_found (first.StaticLiteral place) t is =
      let listed = given_parts (literal_bytes program.literals place) (λ bytes. Some (literal_type bytes)) t is in
      let known = literal_known program.literals 0 place listed.0 listed.1 in
      record {
        base = AtLiteral known.0.0;
        is = ap (λ literals. literal_base (placed_literal 0 literals place)) its.literals ∙ ap literal_base known.1;
        begins = subst (Begins (AtLiteral known.0.0)) (same_Some (literal_type listed.0) t listed.2) (literal_found program tac InStart tac.start its [] place listed.0 known.0.0 known.0.1 known.1);
      }

  place_stands : (target : CType) (place : first.FirstPlace) → is_place program target place ≡ true → PlaceStands tac place
  place_stands target place h = by (given (static_type program place.root) (λ t. row_at program.structs (one_of t) place.steps)) refl
    where
      by : (found : Option RowType) → given (static_type program place.root) (λ t. row_at program.structs (one_of t) place.steps) ≡ found → PlaceStands tac place
      by None is = absurd (false≢true (rw is at h))
      by (Some row) is =
          let typed = given_parts (static_type program place.root) (λ t. row_at program.structs (one_of t) place.steps) row is in
          let root = root_found place.root typed.0 typed.1 in
          record { base = root.base; is = root.is; within = is_within root.base typed.0 place.steps row root.begins typed.2 }

  value_stands : (t : CType) (value : first.FirstScalar) → is_first program t value ≡ true → ValueStands tac value
  value_stands t (first.IntegerValue z) h = tt
  value_stands t first.NullValue h = tt
  value_stands t (first.FunctionValue name) h = tt
  value_stands (Pointer target) (first.PointerValue place) h = place_stands target place (and_parts (not (is_function target)) (is_place program target place) h).1
  value_stands Void (first.PointerValue place) h = absurd (false≢true h)
  value_stands (Integer int_type) (first.PointerValue place) h = absurd (false≢true h)
  value_stands (Array element length) (first.PointerValue place) h = absurd (false≢true h)
  value_stands (Struct tag) (first.PointerValue place) h = absurd (false≢true h)
  value_stands (Function result parameters) (first.PointerValue place) h = absurd (false≢true h)

  module _ (number : ℕ) (global : GlobalDef) (there : slice_get tac.globals number ≡ Some global) where
    held_stands : (held : first.Held) → is_held program global.c_type held ≡ true → HeldStands tac number held
    held_stands held h = by (row_at program.structs (one_of global.c_type) held.leaf.steps) refl
      where
        begins : Begins (AtGlobal number) global.c_type
        begins = record { base = get_below tac.globals number global there; own = global.c_type; is = (global, there, refl); steps = refl }

        by : (found : Option RowType) → row_at program.structs (one_of global.c_type) held.leaf.steps ≡ found → HeldStands tac number held
        by None is = absurd (false≢true (rw is at h))
        by (Some row) is =
            let parts = and_parts (nat_lt held.leaf.index row.count && is_scalar row.element) (is_first program row.element held.value) (rw is at h) in
            record { place = is_within (AtGlobal number) global.c_type held.leaf.steps row begins is; value = value_stands row.element held.value parts.1 }

    all_stand : (all : List first.Held) → all_held program global.c_type all ≡ true → AllByRecursion (HeldStands tac number) all
    all_stand [] h = tt
    all_stand (held ∷ others) h =
        let parts = and_parts (is_held program global.c_type held) (all_held program global.c_type others) h in
        (held_stands held parts.0, all_stand others parts.1)

  pub first_stand : are_globals program program.globals ≡ true → FirstStands tac
  first_stand typed number global there =
      all_stand number global there global.first (global_holds program program.globals typed number global (subst (λ globals. slice_get globals number ≡ Some global) its.globals there))

-- ---- `start`

pub calls_by_name : (program : Program) (tac : Tac) → Code program tac → CallsByName tac
calls_by_name program tac code at site pointer c_type arguments is = none at (ap (λ points. slice_get points at) (sym code.start) ∙ is)
  where
    calls_through : Option O.Op → Bool
    calls_through (Some (O.Call site (Through pointer c_type) arguments)) = true
    calls_through found = false

    none : (at : ℕ) → slice_get (start_points code.main) at ≡ Some (O.Call site (Through pointer c_type) arguments) → ⊥
    none zero e = false≢true (ap calls_through e)
    none (suc zero) e = false≢true (ap calls_through e)
    none (suc (suc at)) e = none-some (O.Call site (Through pointer c_type) arguments) e
