-- The first state of a well typed program is sound.
use Rattle.std.proofs.Common.{◌≡◌, ℕ, zero, suc, ◌<◌, ◌≤◌, Bool, true, false, not, if◌then◌else◌, ◌&&◌, ◌||◌, cond, ◌==◌, nat_lt, nat_le, List, [], ◌∷◌, length, slice_get, Option, Some, None, is_some, bytes_eq, int_le, pos, refl, sym, ap, ◌∙◌, subst, arith}
use Rattle.std.proofs.lemmas.Bool.{false≢true, true≢false, and_parts, ltb-true, leb-true, eqb-true, and_from}
use Rattle.std.proofs.lemmas.Option.{none-some, same_Some}
use Rattle.run_theory.specs.declared.place.Pos.{Pos}
use Rattle.c_num.specs.declared.IntType.TheVariants as I
use Rattle.c_num.specs.Types.{is_value, least_of, greatest_of}
use Rattle.c_num.specs.Conversion.{convert_to}
use Rattle.c_num.proofs.Conversions.{convert_to-in_range}
use Rattle.c_num.proofs.Outcomes.{test_from_le}
use Rattle.c_typed.specs.declared.part.Part.{Part}
use Rattle.c_typed.specs.declared.part.Part.TheVariants as P
use Rattle.c_typed.specs.Types.{CType, Void, Integer, Pointer, Array, Struct, Function, literal_type, same_type, is_function, is_like_void}
use Rattle.c_typed.specs.Layouts.{StructDef, is_complete, members_by_tag, known_members, member_type, greatest}
use Rattle.c_typed.specs.Places.{is_same_place}
use Rattle.c_typed.specs.Values as first
use Rattle.c_typed.specs.Typed.{GlobalDef, LiteralDef, Program}
use Rattle.c_typed.proofs.Same.{same_type-true}
use Rattle.c_typed.specs.Context.{global_type, function_type, literal_bytes}
use Rattle.c_typed.specs.Expressions.{given, is_scalar, member_of}
use Rattle.c_typed.specs.Programs.{IsWellTyped, RowType, one_of, row_within, row_at, is_place, is_first, is_held, all_held, is_global, are_globals}
use Rattle.c_typed.specs.Programs as rules
use Rattle.c_typed.specs.Sizes.{HasStorableTypes, globals_make, literals_make, is_storable}
use Rattle.ref_semantics.specs.First.{around_of, type_of_global, literal_at, option_type, or_void, static_type, name_of, stepped, walked, first_place, first_scalar, first_held, global_content, characters, literal_content, first_objects, first_state}
use Rattle.ref_semantics.specs.Values.{Name, Heap, GlobalObject, LiteralObject, LocalObject, Place, Scalar, IntegerValue, Dead, Elements, whole_row, first_of_row, object_place, at_index}
use Rattle.ref_semantics.specs.Store.{State, offset_of, member_at, decayed, inner_row}
use Rattle.ref_semantics.specs.Rows.{RowOf, Whole, InArray, InStruct, LeafAt, element_offset}
use Rattle.ref_semantics.proofs.Storable.{storable_small, storable_filled}
use Rattle.ref_semantics.specs.Sound.{HasType, StandsIn, IsPlace, WasGiven, HoldsTyped, IsSoundContent, IsStatic, Sound}
use Rattle.ref_semantics.proofs.WellTyped.{well_globals, found_member}
use Rattle.ref_semantics.proofs.Pointing.{member_row_is}

-- ---- tests that hold

pub if_some : {A : Type 0} (b : Bool) (known : Option A) (a : A) → (if b then known else None) ≡ Some a → (b ≡ true) × (known ≡ Some a)
if_some true known a is = (refl, is)
if_some false known a is = absurd (none-some a is)

-- where a step leads
pub member_within : (structs : List StructDef) (element : CType) (count index number : ℕ) (inner : RowType)
    → row_within structs (record { element = element; count = count }) (P.Member index number) ≡ Some inner
    → (nat_lt index count ≡ true) × ((t : CType) × (member_of structs number element ≡ Some t) × (one_of t ≡ inner))
member_within structs Void count index number inner is = absurd (none-some inner (if_some (nat_lt index count) None inner is).1)
member_within structs (Integer int_type) count index number inner is = absurd (none-some inner (if_some (nat_lt index count) None inner is).1)
member_within structs (Pointer target) count index number inner is = absurd (none-some inner (if_some (nat_lt index count) None inner is).1)
member_within structs (Array element n) count index number inner is = absurd (none-some inner (if_some (nat_lt index count) None inner is).1)
member_within structs (Function result parameters) count index number inner is = absurd (none-some inner (if_some (nat_lt index count) None inner is).1)
member_within structs (Struct tag) count index number inner is =
    let parts = if_some (nat_lt index count) _ inner is in
    (parts.0, by (member_type (slice_get (known_members (members_by_tag structs tag)) number)) parts.1)
  where
    by : (known : Option CType) → given known (λ t. Some (one_of t)) ≡ Some inner → (t : CType) × (known ≡ Some t) × (one_of t ≡ inner)
    by (Some t) is = (t, refl, same_Some (one_of t) inner is)
    by None is = absurd (none-some inner is)

pub elements_within : (structs : List StructDef) (element : CType) (count index : ℕ) (inner : RowType)
    → row_within structs (record { element = element; count = count }) (P.Elements index) ≡ Some inner
    → (nat_lt index count ≡ true) × (element ≡ Array inner.element inner.count)
elements_within structs Void count index inner is = absurd (none-some inner (if_some (nat_lt index count) None inner is).1)
elements_within structs (Integer int_type) count index inner is = absurd (none-some inner (if_some (nat_lt index count) None inner is).1)
elements_within structs (Pointer target) count index inner is = absurd (none-some inner (if_some (nat_lt index count) None inner is).1)
elements_within structs (Struct tag) count index inner is = absurd (none-some inner (if_some (nat_lt index count) None inner is).1)
elements_within structs (Function result parameters) count index inner is = absurd (none-some inner (if_some (nat_lt index count) None inner is).1)
elements_within structs (Array element n) count index inner is =
    let parts = if_some (nat_lt index count) (Some (record { element = element; count = n })) inner is in
    let same = same_Some (record { element = element; count = n }) inner parts.1 in
    (parts.0, λ i. Array (same i).element (same i).count)

-- ---- places in an object

-- a place in an object alone of a type, in a row of this type
pub record StandsAs (structs : List StructDef) (root : CType) (name : Name) (row : RowType) (index : ℕ) (place : Place) : Type 0 where
  pub named : place.name ≡ name
  pub is_row : RowOf structs root 1 place.row
  pub is_type : place.row.c_type ≡ row.element
  pub is_count : place.row.count ≡ row.count
  pub is_index : place.index ≡ index

module _ (program : Program) (state : State) (root : CType) (name : Name) where
  stepped_member : (place : Place) (row : RowType) (k index number : ℕ) (t : CType) → StandsAs program.structs root name row k place → index < row.count
      → member_of program.structs number row.element ≡ Some t → StandsAs program.structs root name (one_of t) 0 (member_at (around_of program) (at_index place index) number)
  stepped_member place row k index number t stands lt is =
      let found = found_member program.structs number place.row.c_type t (subst (λ c_type. member_of program.structs number c_type ≡ Some t) (sym stands.is_type) is) in
      let offset = offset_of (around_of program) (at_index place index) in
      subst (λ r. StandsAs program.structs root name (one_of t) 0 (first_of_row place.name r)) (sym (member_row_is program state offset number place.row.c_type t found))
      (record {
        named = stands.named;
        is_row = InStruct place.row index found.tag found.members number found.member t stands.is_row (subst (λ n. index < n) (sym stands.is_count) lt) found.is_struct found.at found.there found.typed;
        is_type = refl;
        is_count = refl;
        is_index = refl;
      })

  stepped_elements : (place : Place) (row inner : RowType) (k index : ℕ) → StandsAs program.structs root name row k place → index < row.count → row.element ≡ Array inner.element inner.count
      → StandsAs program.structs root name inner 0 (decayed (around_of program) (at_index place index))
  stepped_elements place row inner k index stands lt is =
      let array = stands.is_type ∙ is in
      subst (λ c_type. StandsAs program.structs root name inner 0 (first_of_row place.name (inner_row (offset_of (around_of program) (at_index place index)) c_type))) (sym array)
      (record {
        named = stands.named;
        is_row = InArray place.row index inner.element inner.count stands.is_row (subst (λ n. index < n) (sym stands.is_count) lt) array;
        is_type = refl;
        is_count = refl;
        is_index = refl;
      })

  pub stepped_stands : (place : Place) (row inner : RowType) (k : ℕ) (step : Part) → StandsAs program.structs root name row k place → row_within program.structs row step ≡ Some inner
      → StandsAs program.structs root name inner 0 (stepped (around_of program) place step)
  stepped_stands place row inner k (P.Member index number) stands is =
      let parts = member_within program.structs row.element row.count index number inner is in
      subst (λ r. StandsAs program.structs root name r 0 (member_at (around_of program) (at_index place index) number)) parts.1.2
      (stepped_member place row k index number parts.1.0 stands (ltb-true index row.count parts.0) parts.1.1)
  stepped_stands place row inner k (P.Elements index) stands is =
      let parts = elements_within program.structs row.element row.count index inner is in
      stepped_elements place row inner k index stands (ltb-true index row.count parts.0) parts.1

  walked_stands : (steps : List Part) (place : Place) (row last : RowType) (k index : ℕ) → StandsAs program.structs root name row k place → row_at program.structs row steps ≡ Some last
      → StandsAs program.structs root name last index (walked (around_of program) place steps index)
  walked_stands [] place row last k index stands is =
      let same = same_Some row last is in
      record {
        named = stands.named;
        is_row = stands.is_row;
        is_type = stands.is_type ∙ ap (λ (r : RowType). r.element) same;
        is_count = stands.is_count ∙ ap (λ (r : RowType). r.count) same;
        is_index = refl;
      }
  walked_stands (step ∷ steps) place row last k index stands is =
      by (row_within program.structs row step) refl is (λ inner. walked_stands steps (stepped (around_of program) place step) inner last 0 index)
    where
      by : (known : Option RowType) → row_within program.structs row step ≡ known → given known (λ inner. row_at program.structs inner steps) ≡ Some last
          → ((inner : RowType) → StandsAs program.structs root name inner 0 (stepped (around_of program) place step) → row_at program.structs inner steps ≡ Some last
          → StandsAs program.structs root name last index (walked (around_of program) (stepped (around_of program) place step) steps index))
          → StandsAs program.structs root name last index (walked (around_of program) (stepped (around_of program) place step) steps index)
      by None at is rest = absurd (none-some last is)
      by (Some inner) at is rest = rest inner (stepped_stands place row inner k step stands at) is

  -- steps from the object as a whole
  object_stands : (steps : List Part) (last : RowType) (index : ℕ) → row_at program.structs (one_of root) steps ≡ Some last
      → StandsAs program.structs root name last index (walked (around_of program) (object_place name root) steps index)
  object_stands steps last index is = walked_stands steps (object_place name root) (one_of root) last 0 index (record { named = refl; is_row = Whole; is_type = refl; is_count = refl; is_index = refl }) is

-- ---- objects that live as long as the program

same_globals : (globals : List GlobalDef) (name : List ℕ) → type_of_global globals name ≡ global_type globals name
same_globals [] name = refl
same_globals (first ∷ others) name = ap (λ known. cond (bytes_eq first.name name) (Some first.c_type) known) (same_globals others name)

literal_is : (literals : List LiteralDef) (place : Pos) (bytes : List ℕ) → literal_bytes literals place ≡ Some bytes
    → (literal : LiteralDef) × (literal_at literals place ≡ Some literal) × (literal.bytes ≡ bytes)
literal_is [] place bytes is = absurd (none-some bytes is)
literal_is (first ∷ others) place bytes is = by (is_same_place first.place place) is (literal_is others place bytes)
  where
    by : (same : Bool) → cond same (Some first.bytes) (literal_bytes others place) ≡ Some bytes
        → (literal_bytes others place ≡ Some bytes → (literal : LiteralDef) × (literal_at others place ≡ Some literal) × (literal.bytes ≡ bytes))
        → (literal : LiteralDef) × (cond same (Some first) (literal_at others place) ≡ Some literal) × (literal.bytes ≡ bytes)
    by true is rest = (first, refl, same_Some first.bytes bytes is)
    by false is rest = rest is

module _ (program : Program) (well : IsWellTyped program) (storable : HasStorableTypes program) (input : List ℕ) (units : ℕ) where
  -- a variable outside functions has its type
  global_stands : (globals : List GlobalDef) (name : List ℕ) (t : CType) → global_type globals name ≡ Some t
      → (held : ℕ → Option Scalar) × (global_content program globals name ≡ Elements true t 1 held)
  global_stands [] name t is = absurd (none-some t is)
  global_stands (first ∷ others) name t is = by (bytes_eq first.name name) is (global_stands others name t)
    where
      by : (same : Bool) → cond same (Some first.c_type) (global_type others name) ≡ Some t
          → (global_type others name ≡ Some t → (held : ℕ → Option Scalar) × (global_content program others name ≡ Elements true t 1 held))
          → (held : ℕ → Option Scalar) × (cond same (Elements true first.c_type 1 (first_held program first.c_type first.first)) (global_content program others name) ≡ Elements true t 1 held)
      by true is rest = (first_held program first.c_type first.first, ap (λ c_type. Elements true c_type 1 (first_held program first.c_type first.first)) (same_Some first.c_type t is))
      by false is rest = rest is

  globals_stand : (name : List ℕ) (t : CType) → global_type program.globals name ≡ Some t → IsStatic (first_state program input units) (GlobalObject name) t
  globals_stand name t is = global_stands program.globals name t is

  literals_stand : (place : Pos) (bytes : List ℕ) → literal_bytes program.literals place ≡ Some bytes → IsStatic (first_state program input units) (LiteralObject place) (literal_type bytes)
  literals_stand place bytes is =
      let known = literal_is program.literals place bytes is in
      (characters known.0.bytes, ap literal_content known.1 ∙ ap (λ all. Elements true (literal_type all) 1 (characters known.0.bytes)) known.2)

  -- ---- first values

  -- the object of a root has the type that its steps begin with
  pub root_static : (root : first.Static) (t : CType) → rules.static_type program root ≡ Some t
      → (static_type program (name_of root) ≡ t) × IsStatic (first_state program input units) (name_of root) t × WasGiven (first_state program input units) (name_of root)
  root_static (first.StaticVariable name) t is = (ap or_void (same_globals program.globals name ∙ is), globals_stand name t is, tt)
  root_static (first.StaticLiteral place) t is = by (literal_bytes program.literals place) refl is
    where
      by : (known : Option (List ℕ)) → literal_bytes program.literals place ≡ known → given known (λ bytes. Some (literal_type bytes)) ≡ Some t
          → (static_type program (LiteralObject place) ≡ t) × IsStatic (first_state program input units) (LiteralObject place) t × WasGiven (first_state program input units) (LiteralObject place)
      by None at is = absurd (none-some t is)
      by (Some bytes) at is =
          let known = literal_is program.literals place bytes at in
          let same = same_Some (literal_type bytes) t is in
          (ap (λ l. or_void (option_type l)) known.1 ∙ ap literal_type known.2 ∙ same, subst (IsStatic (first_state program input units) (LiteralObject place)) same (literals_stand place bytes at), tt)

  -- a place in it
  first_stands : (target : CType) (place : first.FirstPlace) (t : CType) (row : RowType) → rules.static_type program place.root ≡ Some t
      → row_at program.structs (one_of t) place.steps ≡ Some row → nat_le place.index row.count ≡ true
      → (is_like_void program.completed target || same_type row.element target) ≡ true
      → IsPlace program (first_state program input units) (first_place program place) × (is_like_void program.completed target ≡ false → (first_place program place).row.c_type ≡ target)
  first_stands target place t row root at le typed =
      let known = root_static place.root t root in
      let stands = object_stands program (first_state program input units) t (name_of place.root) place.steps row place.index at in
      let last = walked (around_of program) (object_place (name_of place.root) t) place.steps place.index in
      subst (λ c_type. let last = walked (around_of program) (object_place (name_of place.root) c_type) place.steps place.index in
      IsPlace program (first_state program input units) last × (is_like_void program.completed target ≡ false → last.row.c_type ≡ target)) (sym known.0) (
        record {
          given = subst (WasGiven (first_state program input units)) (sym stands.named) known.2;
          stands = subst (λ content. StandsIn program content last) (sym (ap (first_objects program) stands.named ∙ known.1.1))
              (stands.is_row, subst (λ k. k ≤ last.row.count) (sym stands.is_index) (subst (λ n. place.index ≤ n) (sym stands.is_count) (leb-true place.index row.count le)));
        },
        λ known. stands.is_type ∙ same_type-true row.element target (or_else (is_like_void program.completed target) (same_type row.element target) typed known),
      )
    where
      or_else : (a b : Bool) → (a || b) ≡ true → a ≡ false → b ≡ true
      or_else true b h e = absurd (true≢false e)
      or_else false b h e = h

  pointer_stands : (target : CType) (place : first.FirstPlace) → is_place program target place ≡ true
      → IsPlace program (first_state program input units) (first_place program place) × (is_like_void program.completed target ≡ false → (first_place program place).row.c_type ≡ target)
  pointer_stands target place h = by_type (rules.static_type program place.root) refl
    where
      by_row : (t : CType) → rules.static_type program place.root ≡ Some t → (known : Option RowType) → row_at program.structs (one_of t) place.steps ≡ known
          → given (rules.static_type program place.root) (λ c_type. row_at program.structs (one_of c_type) place.steps) ≡ known
          → IsPlace program (first_state program input units) (first_place program place) × (is_like_void program.completed target ≡ false → (first_place program place).row.c_type ≡ target)
      by_row t root None at is = absurd (false≢true (rw is at h))
      by_row t root (Some row) at is =
          let parts = and_parts (nat_le place.index row.count) (is_like_void program.completed target || same_type row.element target) (rw is at h) in
          first_stands target place t row root at parts.0 parts.1

      by_type : (known : Option CType) → rules.static_type program place.root ≡ known
          → IsPlace program (first_state program input units) (first_place program place) × (is_like_void program.completed target ≡ false → (first_place program place).row.c_type ≡ target)
      by_type None root = absurd (false≢true (rw (ap (λ known. given known (λ c_type. row_at program.structs (one_of c_type) place.steps)) root) at h))
      by_type (Some t) root = by_row t root (row_at program.structs (one_of t) place.steps) refl (ap (λ known. given known (λ c_type. row_at program.structs (one_of c_type) place.steps)) root)

  value_typed : (t : CType) (value : first.FirstScalar) → is_first program t value ≡ true → HasType program (first_state program input units) t (first_scalar program value)
  value_typed (Integer int_type) (first.IntegerValue z) h = h
  value_typed (Pointer target) first.NullValue h = tt
  value_typed (Pointer target) (first.FunctionValue name) h = and_parts (is_function target) (is_some (function_type program.functions name)) h
  value_typed (Pointer target) (first.PointerValue place) h =
      let parts = and_parts (not (is_function target)) (is_place program target place) h in
      let stands = pointer_stands target place parts.1 in
      (not-true (is_function target) parts.0, stands.0, stands.1)
    where
      not-true : (b : Bool) → not b ≡ true → b ≡ false
      not-true true h = absurd (false≢true h)
      not-true false h = refl
  value_typed Void value h = tt
  value_typed (Integer int_type) first.NullValue h = absurd (false≢true h)
  value_typed (Integer int_type) (first.FunctionValue name) h = absurd (false≢true h)
  value_typed (Integer int_type) (first.PointerValue place) h = absurd (false≢true h)
  value_typed (Pointer target) (first.IntegerValue z) h = absurd (false≢true h)
  value_typed (Array element n) value h = absurd (false≢true h)
  value_typed (Struct tag) value h = absurd (false≢true h)
  value_typed (Function result parameters) value h = absurd (false≢true h)

  -- ---- what globals hold

  leaf_stands : (t : CType) (one : first.Held) → is_held program t one ≡ true
      → (own : CType) × LeafAt program.structs t 1 (offset_of (around_of program) (walked (around_of program) (object_place (Heap 0) t) one.leaf.steps one.leaf.index)) own
      × HasType program (first_state program input units) own (first_scalar program one.value)
  leaf_stands t one h = by (row_at program.structs (one_of t) one.leaf.steps) refl
    where
      by : (known : Option RowType) → row_at program.structs (one_of t) one.leaf.steps ≡ known
          → (own : CType) × LeafAt program.structs t 1 (offset_of (around_of program) (walked (around_of program) (object_place (Heap 0) t) one.leaf.steps one.leaf.index)) own
          × HasType program (first_state program input units) own (first_scalar program one.value)
      by None at = absurd (false≢true (rw at at h))
      by (Some row) at =
          let outer = and_parts (nat_lt one.leaf.index row.count && is_scalar row.element) (is_first program row.element one.value) (rw at at h) in
          let inner = and_parts (nat_lt one.leaf.index row.count) (is_scalar row.element) outer.0 in
          let place = walked (around_of program) (object_place (Heap 0) t) one.leaf.steps one.leaf.index in
          let stands = object_stands program (first_state program input units) t (Heap 0) one.leaf.steps row one.leaf.index at in (
            row.element,
            record {
              row = place.row;
              index = place.index;
              is_row = stands.is_row;
              within = subst (λ k. k < place.row.count) (sym stands.is_index) (subst (λ n. one.leaf.index < n) (sym stands.is_count) (ltb-true one.leaf.index row.count inner.0));
              is_own = stands.is_type;
              scalar = inner.1;
              stands = refl;
            },
            value_typed row.element one.value outer.1,
          )

  held_stands : (t : CType) (all : List first.Held) → all_held program t all ≡ true → (offset : ℕ) (value : Scalar) → first_held program t all offset ≡ Some value
      → (own : CType) × LeafAt program.structs t 1 offset own × HasType program (first_state program input units) own value
  held_stands t [] h offset value is = absurd (none-some value is)
  held_stands t (one ∷ others) h offset value is =
      let parts = and_parts (is_held program t one) (all_held program t others) h in
      by (offset_of (around_of program) (walked (around_of program) (object_place (Heap 0) t) one.leaf.steps one.leaf.index) == offset) refl is (leaf_stands t one parts.0) (held_stands t others parts.1 offset value)
    where
      by : (same : Bool) → (offset_of (around_of program) (walked (around_of program) (object_place (Heap 0) t) one.leaf.steps one.leaf.index) == offset) ≡ same
          → cond same (Some (first_scalar program one.value)) (first_held program t others offset) ≡ Some value
          → (own : CType) × LeafAt program.structs t 1 (offset_of (around_of program) (walked (around_of program) (object_place (Heap 0) t) one.leaf.steps one.leaf.index)) own
          × HasType program (first_state program input units) own (first_scalar program one.value)
          → (first_held program t others offset ≡ Some value → (own : CType) × LeafAt program.structs t 1 offset own × HasType program (first_state program input units) own value)
          → (own : CType) × LeafAt program.structs t 1 offset own × HasType program (first_state program input units) own value
      by true same is leaf rest =
          (leaf.0, subst (λ k. LeafAt program.structs t 1 k leaf.0) (eqb-true _ offset same) leaf.1, subst (HasType program (first_state program input units) leaf.0) (same_Some (first_scalar program one.value) value is) leaf.2)
      by false same is leaf rest = rest is

  globals_hold : (globals : List GlobalDef) (name : List ℕ) → are_globals program globals ≡ true → globals_make (is_storable program.structs) globals ≡ true
      → IsSoundContent program (first_state program input units) (global_content program globals name)
  globals_hold [] name h sizes = tt
  globals_hold (first ∷ others) name h sizes =
      let parts = and_parts (is_global program first) (are_globals program others) h in
      let own = and_parts (is_complete program.structs first.c_type) (all_held program first.c_type first.first) parts.0 in
      let own_sizes = and_parts (is_storable program.structs first.c_type) (globals_make (is_storable program.structs) others) sizes in
      by (bytes_eq first.name name)
      (record {
        complete = own.0;
        small = storable_small program.structs first.c_type own_sizes.0;
        filled = storable_filled program.structs first.c_type own_sizes.0 own.0;
        some = omega arith;
        leaves = held_stands first.c_type first.first own.1;
      })
      (globals_hold others name parts.1 own_sizes.1)
    where
      by : (same : Bool) → HoldsTyped program (first_state program input units) first.c_type 1 (first_held program first.c_type first.first)
          → IsSoundContent program (first_state program input units) (global_content program others name)
          → IsSoundContent program (first_state program input units) (cond same (Elements true first.c_type 1 (first_held program first.c_type first.first)) (global_content program others name))
      by true own rest = own
      by false own rest = rest

  -- ---- what literals hold

  character_typed : (byte : ℕ) → is_value I.Char (convert_to I.Char (pos byte)) ≡ true
  character_typed byte =
      let within = convert_to-in_range I.Char (pos byte) in
      and_from (int_le (least_of I.Char) (convert_to I.Char (pos byte))) (int_le (convert_to I.Char (pos byte)) (greatest_of I.Char))
      (test_from_le (least_of I.Char) (convert_to I.Char (pos byte)) within.least) (test_from_le (convert_to I.Char (pos byte)) (greatest_of I.Char) within.greatest)

  characters_typed : (bytes : List ℕ) (offset : ℕ) (value : Scalar) → characters bytes offset ≡ Some value
      → (offset < length bytes) × HasType program (first_state program input units) (Integer I.Char) value
  characters_typed [] offset value is = absurd (none-some value is)
  characters_typed (byte ∷ bytes) zero value is =
      (omega arith, subst (HasType program (first_state program input units) (Integer I.Char)) (same_Some (IntegerValue (convert_to I.Char (pos byte))) value is) (character_typed byte))
  characters_typed (byte ∷ bytes) (suc offset) value is = let rest = characters_typed bytes offset value is in let low = rest.0 in (omega (arith, low), rest.1)

  character_stands : (bytes : List ℕ) (offset : ℕ) → offset < length bytes → LeafAt program.structs (literal_type bytes) 1 offset (Integer I.Char)
  character_stands bytes offset lt = record {
    row = record { start = element_offset program.structs (whole_row (literal_type bytes) 1) 0; c_type = Integer I.Char; count = suc (length bytes) };
    index = offset;
    is_row = InArray (whole_row (literal_type bytes) 1) 0 (Integer I.Char) (suc (length bytes)) Whole (omega arith) refl;
    within = omega (arith, lt);
    is_own = refl;
    scalar = refl;
    stands = omega arith;
  }

  literals_hold : (literals : List LiteralDef) (place : Pos) → literals_make (is_storable program.structs) literals ≡ true
      → IsSoundContent program (first_state program input units) (literal_content (literal_at literals place))
  literals_hold [] place sizes = tt
  literals_hold (first ∷ others) place sizes =
      let own_sizes = and_parts (is_storable program.structs (literal_type first.bytes)) (literals_make (is_storable program.structs) others) sizes in
      by (is_same_place first.place place)
      (record {
        complete = refl;
        small = storable_small program.structs (literal_type first.bytes) own_sizes.0;
        filled = storable_filled program.structs (literal_type first.bytes) own_sizes.0 refl;
        some = omega arith;
        leaves = λ offset value is. let one = characters_typed first.bytes offset value is in (Integer I.Char, character_stands first.bytes offset one.0, one.1);
      })
      (literals_hold others place own_sizes.1)
    where
      by : (same : Bool) → HoldsTyped program (first_state program input units) (literal_type first.bytes) 1 (characters first.bytes)
          → IsSoundContent program (first_state program input units) (literal_content (literal_at others place))
          → IsSoundContent program (first_state program input units) (literal_content (cond same (Some first) (literal_at others place)))
      by true own rest = own
      by false own rest = rest

  -- ---- the first state

  all_sizes : (globals_make (is_storable program.structs) program.globals ≡ true) × (literals_make (is_storable program.structs) program.literals ≡ true)
  all_sizes = and_parts (globals_make (is_storable program.structs) program.globals) (literals_make (is_storable program.structs) program.literals)
      (and_parts (globals_make (is_storable program.structs) program.globals && literals_make (is_storable program.structs) program.literals) _ storable.1).0

  first_contents : (name : Name) → IsSoundContent program (first_state program input units) (first_objects program name)
  first_contents (Heap number) = tt
  first_contents (GlobalObject name) = globals_hold program.globals name (well_globals program well) all_sizes.0
  first_contents (LiteralObject place) = literals_hold program.literals place all_sizes.1
  first_contents (LocalObject number) = tt

  first_fresh : (name : Name) → (WasGiven (first_state program input units) name → ⊥) → first_objects program name ≡ Dead
  first_fresh (Heap number) fresh = refl
  first_fresh (GlobalObject name) fresh = absurd (fresh tt)
  first_fresh (LiteralObject place) fresh = absurd (fresh tt)
  first_fresh (LocalObject number) fresh = refl

  pub first_sound : Sound (record { program = program; locals = [] }) (first_state program input units)
  first_sound = record { contents = first_contents; fresh = first_fresh; locals = tt; globals = globals_stand; literals = literals_stand }
