-- What operators on pointers give, and the places of objects.
use Rattle.std.proofs.Common.{◌≡◌, ℕ, suc, ◌+◌, ◌<◌, ◌≤◌, ◌==◌, ◌/◌, ◌%◌, ◌-ℤ◌, Bool, true, false, not, ◌&&◌, ◌||◌, nat_lt, if◌then◌else◌, List, [], ◌∷◌, length, Option, Some, None, ℤ, refl, sym, ap, ◌∙◌, subst, zero-le, le_of_lt, slice_get, arith, eq-eqb}
use Rattle.std.proofs.lemmas.Bool.{false≢true, true≢false, not-false, not-true, ltb-true, ltb-false, cond-true}
use Rattle.std.proofs.lemmas.Option.{none-some, same_Some}
use Rattle.run_theory.specs.declared.place.Pos.{Pos}
use Rattle.run_theory.specs.declared.ends.UbKind.TheVariants as Ub
use Rattle.c_num.specs.declared.Relation.{Relation}
use Rattle.c_num.specs.declared.Relation.TheVariants as R
use Rattle.c_num.specs.declared.IntType.TheVariants as I
use Rattle.c_num.specs.Types.{is_value}
use Rattle.c_num.specs.Arith.{compare_of}
use Rattle.c_typed.specs.Types.{CType, Void, Integer, Pointer, Array, Struct, Function, int, literal_type, same_type, is_function, is_like_void}
use Rattle.c_typed.specs.Layouts.{is_complete, offset_before, layouts, known_members}
use Rattle.c_typed.specs.Typed.{Program}
use Rattle.c_typed.proofs.Same.{same_type-true}
use Rattle.c_typed.specs.Context.{local_type, global_type, literal_bytes}
use Rattle.c_typed.specs.Expressions.{repoints, member_of}
use Rattle.c_typed.specs.Programs.{IsWellTyped}
use Rattle.ref_semantics.specs.First.{around_of}
use Rattle.ref_semantics.specs.Values.{Name, Heap, GlobalObject, LiteralObject, LocalObject, Row, Place, Scalar, IntegerValue, NullValue, FunctionValue, PointerValue, RawPointer, Content, Dead, Raw, Elements, object_place, first_of_row, whole_row, at_index, is_end, place_of}
use Rattle.ref_semantics.specs.Store.{State, give, store_content, premise, member_at, member_row, members_of, inner_row, known_type, offset_of, decayed, size_of, row_of, is_null_pointer, is_dead_pointer}
use Rattle.ref_semantics.specs.Pointers.{truth, accessed, added, element, of_allocation, retyped, repointed, tested, compared_pointers, difference, index_moved, is_negative, is_above, is_at_least, or_zero, is_equality, truth_of_equality, are_equal, index_of, is_end_beside, are_in_one_row}
use Rattle.ref_semantics.specs.Meaning.{named, local_name, local_place}
use Rattle.ref_semantics.specs.Rows.{Whole, InArray, InStruct}
use Rattle.c_typed.specs.Sizes.{is_storable}
use Rattle.ref_semantics.proofs.Storable.{storable_small, storable_filled, some_elements}
use Rattle.ref_semantics.specs.Sound.{HasType, StandsIn, IsPlace, Sound, IsStatic, AreLocals, HoldsTyped, IsSoundContent, WasGiven, MayBecome}
use Rattle.ref_semantics.specs.Keeping.{IsElement}
use Rattle.ref_semantics.proofs.Lasting.{GivesAt, give_gives, undefined_gives, objects_gives, if_gives, unless_gives, guarded}
use Rattle.ref_semantics.proofs.Objects.{store_gives, stored}
pub use Rattle.ref_semantics.proofs.WellTyped.{FoundMember, found_member, complete_known, known_complete, complete_object, like_object, member_complete}

-- ---- values of truth

pub truth_typed : (program : Program) (state : State) (b : Bool) → HasType program state int (truth b)
truth_typed program state true = refl
truth_typed program state false = refl

equality_typed : (program : Program) (state : State) (relation : Relation) (same : Bool) → HasType program state int (truth_of_equality relation same)
equality_typed program state R.Eq same = truth_typed program state same
equality_typed program state R.Ne same = truth_typed program state (not same)
equality_typed program state R.Lt same = truth_typed program state same
equality_typed program state R.Le same = truth_typed program state same
equality_typed program state R.Gt same = truth_typed program state same
equality_typed program state R.Ge same = truth_typed program state same

-- ---- indices

index_within : (count : ℕ) (index : Option ℕ) → (is_negative index || is_above count index) ≡ false → or_zero index ≤ count
index_within count None h = absurd (true≢false h)
index_within count (Some n) h = ltb-false count n h

index_below : (count : ℕ) (index : Option ℕ) → is_at_least count index ≡ false → is_negative index ≡ false → or_zero index < count
index_below count None h negative = absurd (true≢false negative)
index_below count (Some n) h negative = ltb-true n count (not-false (nat_lt n count) h)

-- ---- locals

record FoundLocal (state : State) (names : List ℕ) (number : ℕ) (t : CType) : Type 0 where
  newest : ℕ
  found : local_name names number ≡ Some (LocalObject newest)
  given : newest < state.next_local
  held : ℕ → Option Scalar
  holds : state.objects (LocalObject newest) ≡ Elements false t 1 held

same_length : (state : State) (names : List ℕ) (types : List CType) → AreLocals state names types → length names ≡ length types
same_length state [] [] h = refl
same_length state (newest ∷ names) (t ∷ types) h = ap suc (same_length state names types h.2)
same_length state [] (t ∷ types) h = absurd h
same_length state (newest ∷ names) [] h = absurd h

found_local : (state : State) (names : List ℕ) (types : List CType) → AreLocals state names types → (number : ℕ) (t : CType) → local_type types number ≡ Some t
    → FoundLocal state names number t
found_local state [] [] h number t is = absurd (none-some t is)
found_local state [] (newest ∷ types) h number t is = absurd h
found_local state (newest ∷ names) [] h number t is = absurd h
found_local state (newest ∷ names) (own ∷ types) h number t is =
    by (length types == number) refl (ap (λ n. n == number) (same_length state names types h.2)) is (found_local state names types h.2 number t)
  where
    by : (b : Bool) → (length types == number) ≡ b → (length names == number) ≡ (length types == number) → (if b then Some own else local_type types number) ≡ Some t
        → (local_type types number ≡ Some t → FoundLocal state names number t) → FoundLocal state (newest ∷ names) number t
    by true here same is rest = record {
      newest = newest;
      found = ap (λ b. if b then Some (LocalObject newest) else local_name names number) (same ∙ here);
      given = h.0;
      held = h.1.0;
      holds = subst (λ c_type. state.objects (LocalObject newest) ≡ Elements false c_type 1 h.1.0) (same_Some own t is) h.1.1;
    }
    by false here same is rest =
        let older = rest is in
        record {
          newest = older.newest;
          found = ap (λ b. if b then Some (LocalObject newest) else local_name names number) (same ∙ here) ∙ older.found;
          given = older.given;
          held = older.held;
          holds = older.holds;
        }

module _ (program : Program) (state : State) where
  -- ---- places

  address_of : (t : CType) (place : Place) → is_function t ≡ false → IsElement program state t place → HasType program state (Pointer t) (PointerValue place)
  address_of t place object h = (object, h.place_stands, λ known. h.is_own)

  -- an object as a whole
  whole_stands : (is_static : Bool) (t : CType) (count : ℕ) (held : ℕ → Option Scalar) (name : Name) → state.objects name ≡ Elements is_static t count held
      → StandsIn program (state.objects name) (first_of_row name (whole_row t count))
  whole_stands is_static t count held name is =
      subst (λ content. StandsIn program content (first_of_row name (whole_row t count))) (sym is) (Whole, zero-le)

  pub static_element : (name : Name) (t : CType) → WasGiven state name → IsStatic state name t → IsElement program state t (object_place name t)
  static_element name t given h = record {
    place_stands = record { given = given; stands = whole_stands true t 1 h.0 name h.1 };
    within = omega arith;
    is_own = refl;
  }

  stands_at : (content : Content) (place : Place) (index : ℕ) → index ≤ place.row.count → StandsIn program content place → StandsIn program content (at_index place index)
  stands_at Dead place index le h = tt
  stands_at (Raw size) place index le h = absurd h
  stands_at (Elements s t n held) place index le h = (h.0, le)

  -- another element of the row, or its end
  pub place_at : (place : Place) (index : ℕ) → index ≤ place.row.count → IsPlace program state place → IsPlace program state (at_index place index)
  place_at place index le h = record { given = h.given; stands = stands_at (state.objects place.name) place index le h.stands }

  -- ---- members

  abbrev member_of_row : (number : ℕ) (own t : CType) → FoundMember program.structs number own t → ℕ → Row
  member_of_row number own t found offset =
      record { start = offset + offset_before (layouts program.structs) found.members number (Some found.member); c_type = t; count = 1 }

  pub member_row_is : (offset number : ℕ) (own t : CType) (found : FoundMember program.structs number own t)
      → member_row (around_of program) offset (members_of (around_of program) own) number (slice_get (members_of (around_of program) own) number) ≡ member_of_row number own t found offset
  member_row_is offset number own t found =
      ap (λ c_type. member_row (around_of program) offset (members_of (around_of program) c_type) number (slice_get (members_of (around_of program) c_type) number)) found.is_struct
      ∙ ap (λ known. member_row (around_of program) offset (known_members known) number (slice_get (known_members known) number)) found.at
      ∙ ap (λ one. member_row (around_of program) offset found.members number one) found.there
      ∙ (λ i. record { start = offset + offset_before (layouts program.structs) found.members number (Some found.member); c_type = known_type (found.typed i); count = 1 })

  member_stands : (content : Content) (place : Place) (number : ℕ) (t : CType) (found : FoundMember program.structs number place.row.c_type t) → place.index < place.row.count
      → StandsIn program content place
      → StandsIn program content (first_of_row place.name (member_of_row number place.row.c_type t found (offset_of (around_of program) place)))
  member_stands Dead place number t found lt h = tt
  member_stands (Raw size) place number t found lt h = absurd h
  member_stands (Elements s c_type n held) place number t found lt h =
      (InStruct place.row place.index found.tag found.members number found.member t h.0 lt found.is_struct found.at found.there found.typed, zero-le)

  member_place : (number : ℕ) (t : CType) (place : Place) (row : Row) → IsPlace program state place → StandsIn program (state.objects place.name) (first_of_row place.name row)
      → row.c_type ≡ t → row.count ≡ 1 → IsElement program state t (first_of_row place.name row)
  member_place number t place row h stands is one = record {
    place_stands = record { given = h.given; stands = stands };
    within = subst (λ n. 0 < n) (sym one) (omega arith);
    is_own = is;
  }

  member_in : (number : ℕ) (own t : CType) (place : Place) → member_of program.structs number own ≡ Some t → IsElement program state own place
      → IsElement program state t (member_at (around_of program) place number)
  member_in number own t place is h =
      let found = found_member program.structs number place.row.c_type t (subst (λ c_type. member_of program.structs number c_type ≡ Some t) (sym h.is_own) is) in
      let offset = offset_of (around_of program) place in
      let row = member_of_row number place.row.c_type t found offset in
      subst (λ r. IsElement program state t (first_of_row place.name r)) (sym (member_row_is offset number place.row.c_type t found))
      (member_place number t place row h.place_stands (member_stands (state.objects place.name) place number t found h.within h.place_stands.stands) refl refl)

  -- ---- arrays

  inner_stands : (content : Content) (place : Place) (t : CType) (n : ℕ) → place.row.c_type ≡ Array t n → place.index < place.row.count → StandsIn program content place
      → StandsIn program content (first_of_row place.name (record { start = offset_of (around_of program) place; c_type = t; count = n }))
  inner_stands Dead place t n is lt h = tt
  inner_stands (Raw size) place t n is lt h = absurd h
  inner_stands (Elements s c_type count held) place t n is lt h = (InArray place.row place.index t n h.0 lt is, zero-le)

  decayed_of : (t : CType) (n : ℕ) (place : Place) → is_function t ≡ false → IsElement program state (Array t n) place
      → HasType program state (Pointer t) (PointerValue (decayed (around_of program) place))
  decayed_of t n place object h =
      subst (λ c_type. HasType program state (Pointer t) (PointerValue (first_of_row place.name (inner_row (offset_of (around_of program) place) c_type)))) (sym h.is_own)
      (object, record { given = h.place_stands.given; stands = inner_stands (state.objects place.name) place t n h.is_own h.within h.place_stands.stands }, λ known. refl)

module _ (program : Program) (well : IsWellTyped program) (state : State) where
  -- the address of an element
  pub element_address : (t : CType) (place : Place) → is_function t ≡ false → IsElement program state t place → HasType program state (Pointer t) (PointerValue place)
  element_address = address_of program state

  pub member_element : (number : ℕ) (own t : CType) (place : Place) → member_of program.structs number own ≡ Some t → IsElement program state own place
      → IsElement program state t (member_at (around_of program) place number)
  member_element = member_in program state

  -- the first element of an array
  pub decayed_address : (t : CType) (n : ℕ) (place : Place) → is_function t ≡ false → IsElement program state (Array t n) place
      → HasType program state (Pointer t) (PointerValue (decayed (around_of program) place))
  decayed_address = decayed_of program state

module _ (program : Program) (well : IsWellTyped program) (locals : List CType) (before : State) (sound : Sound (record { program = program; locals = locals }) before) where
  -- ---- objects by their names

  complete_content : (name : Name) (is_static : Bool) (t : CType) (count : ℕ) (held : ℕ → Option Scalar) → before.objects name ≡ Elements is_static t count held
      → is_complete program.structs t ≡ true
  complete_content name is_static t count held is =
      let typed : HoldsTyped program before t count held = subst (IsSoundContent program before) is (sound.contents name) in
      typed.complete

  pub global_complete : (name : List ℕ) (t : CType) → global_type program.globals name ≡ Some t → is_complete program.structs t ≡ true
  global_complete name t is = let object = sound.globals name t is in complete_content (GlobalObject name) true t 1 object.0 object.1

  pub local_complete : (number : ℕ) (t : CType) → local_type locals number ≡ Some t → is_complete program.structs t ≡ true
  local_complete number t is =
      let found = found_local before before.locals locals sound.locals number t is in
      complete_content (LocalObject found.newest) false t 1 found.held found.holds

  pub literal_element : (place : Pos) (bytes : List ℕ) → literal_bytes program.literals place ≡ Some bytes
      → IsElement program before (literal_type bytes) (object_place (LiteralObject place) (literal_type bytes))
  literal_element place bytes is = static_element program before (LiteralObject place) (literal_type bytes) tt (sound.literals place bytes is)

  named_keeps : (name : Name) (is_static : Bool) (t : CType) (held : ℕ → Option Scalar) → WasGiven before name → before.objects name ≡ Elements is_static t 1 held
      → GivesAt (record { program = program; locals = locals }) (λ after place. IsElement program after t place) (named name) before
  named_keeps name is_static t held given is = objects_gives (λ objects. give (first_of_row name (row_of (objects name)))) (give_gives sound
      (subst (λ content. IsElement program before t (first_of_row name (row_of content))) (sym is) (record {
        place_stands = record { given = given; stands = whole_stands program before is_static t 1 held name is };
        within = omega arith;
        is_own = refl;
      })))

  pub global_keeps : (name : List ℕ) (t : CType) → global_type program.globals name ≡ Some t
      → GivesAt (record { program = program; locals = locals }) (λ after place. IsElement program after t place) (named (GlobalObject name)) before
  global_keeps name t is = let object = sound.globals name t is in named_keeps (GlobalObject name) true t object.0 tt object.1

  pub local_keeps : (number : ℕ) (t : CType) → local_type locals number ≡ Some t
      → GivesAt (record { program = program; locals = locals }) (λ after place. IsElement program after t place) (local_place number) before
  local_keeps number t is =
      let found = found_local before before.locals locals sound.locals number t is in
      by (LocalObject found.newest) found.found (named_keeps (LocalObject found.newest) false t found.held found.given found.holds)
    where
      by : (name : Name) → local_name before.locals number ≡ Some name
          → GivesAt (record { program = program; locals = locals }) (λ after place. IsElement program after t place) (named name) before
          → GivesAt (record { program = program; locals = locals }) (λ after place. IsElement program after t place) (local_place number) before
      by name e one = record { gives = λ a after. rw e (one.gives a after) }

  -- ---- operators

  -- a pointer to a complete type that isn't null points to a place
  to_complete : (P : Scalar → Type 0) (t : CType) → is_complete program.structs t ≡ true → ((place : Place) → IsPlace program before place → place.row.c_type ≡ t → P (PointerValue place))
      → (pointer : Scalar) → HasType program before (Pointer t) pointer → is_null_pointer pointer ≡ false → P pointer
  to_complete P t complete one (IntegerValue z) typed null = absurd typed
  to_complete P t complete one NullValue typed null = absurd (true≢false null)
  to_complete P t complete one (FunctionValue name) typed null = absurd (true≢false (sym typed.0 ∙ complete_object program well t complete))
  to_complete P t complete one (PointerValue place) typed null = one place typed.1 (typed.2 (complete_known program well t complete))
  to_complete P t complete one (RawPointer number) typed null = absurd (true≢false (sym typed.0 ∙ complete_known program well t complete))

  pub accessed_keeps : (here : Pos) (t : CType) (pointer : Scalar) → is_complete program.structs t ≡ true → HasType program before (Pointer t) pointer
      → GivesAt (record { program = program; locals = locals }) (λ after place. IsElement program after t place) (accessed here pointer) before
  accessed_keeps here t pointer complete typed = guarded here
      (premise (is_dead_pointer before.objects pointer) Ub.U06 ∷ premise (is_null_pointer pointer) Ub.U05 ∷ premise (is_end (place_of pointer)) Ub.U07 ∷ [])
      (give (place_of pointer)) refl (λ none. give_gives sound (at none.1.0 none.1.1.0))
    where
      at : is_null_pointer pointer ≡ false → is_end (place_of pointer) ≡ false → IsElement program before t (place_of pointer)
      at null = to_complete (λ p. is_end (place_of p) ≡ false → IsElement program before t (place_of p)) t complete
          (λ place stands is end. record { place_stands = stands; within = ltb-true place.index place.row.count (not-false (nat_lt place.index place.row.count) end); is_own = is })
          pointer typed null

  pub added_keeps : (here : Pos) (t : CType) (pointer : Scalar) (z : ℤ) → is_complete program.structs t ≡ true → HasType program before (Pointer t) pointer
      → GivesAt (record { program = program; locals = locals }) (λ after value. HasType program after (Pointer t) value) (added here pointer z) before
  added_keeps here t pointer z complete typed = guarded here
      (premise (is_dead_pointer before.objects pointer) Ub.U06
      ∷ premise (not (is_null_pointer pointer) && (is_negative (index_moved (place_of pointer).index z) || is_above (place_of pointer).row.count (index_moved (place_of pointer).index z))) Ub.U08
      ∷ premise (is_null_pointer pointer) Ub.U17 ∷ [])
      (give (PointerValue (at_index (place_of pointer) (or_zero (index_moved (place_of pointer).index z))))) refl (λ none. give_gives sound (at none.1.1.0 (within none.1.1.0 none.1.0)))
    where
      within : {outside : Bool} → is_null_pointer pointer ≡ false → (not (is_null_pointer pointer) && outside) ≡ false → outside ≡ false
      within {outside} null h = subst (λ b. (not b && outside) ≡ false) null h

      at : is_null_pointer pointer ≡ false → (is_negative (index_moved (place_of pointer).index z) || is_above (place_of pointer).row.count (index_moved (place_of pointer).index z)) ≡ false
          → HasType program before (Pointer t) (PointerValue (at_index (place_of pointer) (or_zero (index_moved (place_of pointer).index z))))
      at null = to_complete (λ p. (is_negative (index_moved (place_of p).index z) || is_above (place_of p).row.count (index_moved (place_of p).index z)) ≡ false
          → HasType program before (Pointer t) (PointerValue (at_index (place_of p) (or_zero (index_moved (place_of p).index z))))) t complete
          (λ place stands is inside. (
            complete_object program well t complete,
            place_at program before place (or_zero (index_moved place.index z)) (index_within place.row.count (index_moved place.index z) inside) stands,
            λ known. is,
          ))
          pointer typed null

  pub element_keeps : (here : Pos) (t : CType) (pointer : Scalar) (z : ℤ) → is_complete program.structs t ≡ true → HasType program before (Pointer t) pointer
      → GivesAt (record { program = program; locals = locals }) (λ after place. IsElement program after t place) (element here pointer z) before
  element_keeps here t pointer z complete typed = guarded here
      (premise (is_dead_pointer before.objects pointer) Ub.U06
      ∷ premise (is_null_pointer pointer) Ub.U05
      ∷ premise (is_at_least (place_of pointer).row.count (index_moved (place_of pointer).index z)) Ub.U07
      ∷ premise (is_negative (index_moved (place_of pointer).index z)) Ub.U08 ∷ [])
      (give (at_index (place_of pointer) (or_zero (index_moved (place_of pointer).index z)))) refl (λ none. give_gives sound (at none.1.0 none.1.1.0 none.1.1.1.0))
    where
      at : is_null_pointer pointer ≡ false → is_at_least (place_of pointer).row.count (index_moved (place_of pointer).index z) ≡ false → is_negative (index_moved (place_of pointer).index z) ≡ false
          → IsElement program before t (at_index (place_of pointer) (or_zero (index_moved (place_of pointer).index z)))
      at null = to_complete (λ p. is_at_least (place_of p).row.count (index_moved (place_of p).index z) ≡ false → is_negative (index_moved (place_of p).index z) ≡ false
          → IsElement program before t (at_index (place_of p) (or_zero (index_moved (place_of p).index z)))) t complete
          (λ place stands is least negative.
          let lt = index_below place.row.count (index_moved place.index z) least negative in
          record { place_stands = place_at program before place (or_zero (index_moved place.index z)) (le_of_lt lt) stands; within = lt; is_own = is })
          pointer typed null

  -- ---- conversions of pointers

  same_kind : (b c : Bool) → (if b then c else not c) ≡ true → b ≡ c
  same_kind true c h = sym h
  same_kind false c h = sym (not-true c h)

  neither : (b : Bool) → (if b then false else false) ≡ true → ⊥
  neither true h = false≢true h
  neither false h = false≢true h

  of_allocation_keeps : (here : Pos) (target : CType) (number : ℕ) → is_complete program.structs target ≡ true → is_function target ≡ false → is_storable program.structs target ≡ true → number < before.next_heap
      → (content : Content) → before.objects (Heap number) ≡ content
      → GivesAt (record { program = program; locals = locals }) (λ after value. HasType program after (Pointer target) value) (of_allocation (around_of program) here target number content) before
  of_allocation_keeps here target number complete object storable given (Raw size) is =
      let count = size / size_of (around_of program) target in
      let content = Elements false target count (λ offset. None) in
      let value = PointerValue (first_of_row (Heap number) (whole_row target count)) in
      guarded here (premise (not (size % size_of (around_of program) target == 0)) Ub.U13 ∷ []) (store_content (Heap number) content (give value)) refl (λ none.
      store_gives {rest = give value} (Heap number) content sound given (subst (λ c. MayBecome c content) (sym is) tt) (λ other. absurd (other tt))
      (record {
        complete = complete;
        small = storable_small program.structs target storable;
        filled = storable_filled program.structs target storable complete;
        some = some_elements size (size_of (around_of program) target) (subst (IsSoundContent program before) is (sound.contents (Heap number))) none.0;
        leaves = λ offset value e. absurd (none-some value e);
      })
      (λ keeps.
      let typed : HasType program (stored before (Heap number) content) (Pointer target) value = (
        object,
        record {
          given = given;
          stands = whole_stands program (stored before (Heap number) content) false target count (λ offset. None) (Heap number) (cond-true (number == number) _ _ (eq-eqb number number refl));
        },
        λ known. refl,
      ) in
      give_gives {value = value} keeps.sound typed))
  of_allocation_keeps here target number complete object storable given (Elements s t n held) is =
      unless_gives here (premise (not (same_type t target)) Ub.U12 ∷ []) (λ none.
      let typed : HasType program before (Pointer target) (PointerValue (first_of_row (Heap number) (whole_row t n))) =
      (object, record { given = given; stands = whole_stands program before s t n held (Heap number) is }, λ known. same_type-true t target (not-false (same_type t target) none.0)) in
      give_gives sound typed)
  of_allocation_keeps here target number complete object storable given Dead is = undefined_gives

  retyped_keeps : (here : Pos) (t target : CType) (value : Scalar) → is_function target ≡ is_function t → is_like_void program.completed target ≡ false → is_storable program.structs target ≡ true
      → HasType program before (Pointer t) value
      → GivesAt (record { program = program; locals = locals }) (λ after value. HasType program after (Pointer target) value) (retyped (around_of program) here target value) before
  retyped_keeps here t target (IntegerValue z) same known storable typed = absurd typed
  retyped_keeps here t target NullValue same known storable typed = give_gives sound tt
  retyped_keeps here t target (FunctionValue name) same known storable typed =
      let typed' : HasType program before (Pointer target) (FunctionValue name) = (same ∙ typed.0, typed.1) in
      give_gives sound typed'
  retyped_keeps here t target (PointerValue place) same known storable typed =
      unless_gives here (premise (not (same_type place.row.c_type target)) Ub.U12 ∷ []) (λ none.
      let typed' : HasType program before (Pointer target) (PointerValue place) =
      (same ∙ typed.0, typed.1, λ other. same_type-true place.row.c_type target (not-false (same_type place.row.c_type target) none.0)) in
      give_gives sound typed')
  retyped_keeps here t target (RawPointer number) same known storable typed =
      let object = same ∙ like_object program well t typed.0 in
      objects_gives (λ objects. of_allocation (around_of program) here target number (objects (Heap number))) (of_allocation_keeps here target number (known_complete program well target known object) object storable typed.1 (before.objects (Heap number)) refl)

  as_void : (t target : CType) (value : Scalar) → is_function target ≡ is_function t → is_like_void program.completed target ≡ true → HasType program before (Pointer t) value
      → HasType program before (Pointer target) value
  as_void t target (IntegerValue z) same like typed = absurd typed
  as_void t target NullValue same like typed = tt
  as_void t target (FunctionValue name) same like typed = (same ∙ typed.0, typed.1)
  as_void t target (PointerValue place) same like typed = (same ∙ typed.0, typed.1, λ known. absurd (true≢false (sym like ∙ known)))
  as_void t target (RawPointer number) same like typed = (like, typed.1)

  -- an allocation without a type gets one
  pub repointed_keeps : (here : Pos) (t target : CType) (value : Scalar) → repoints t target ≡ true → is_storable program.structs target ≡ true → HasType program before t value
      → GivesAt (record { program = program; locals = locals }) (λ after value. HasType program after (Pointer target) value) (repointed (around_of program) here target value) before
  repointed_keeps here (Pointer t) target value repoints storable typed =
      let same = same_kind (is_function target) (is_function t) repoints in
      guarded here (premise (is_dead_pointer before.objects value) Ub.U06 ∷ [])
      (if is_like_void program.completed target then give value else retyped (around_of program) here target value) refl
      (λ none. if_gives (is_like_void program.completed target)
      (λ like. give_gives sound (as_void t target value same like typed))
      (λ known. retyped_keeps here t target value same known storable typed))
  repointed_keeps here Void target value repoints storable typed = absurd (neither (is_function target) repoints)
  repointed_keeps here (Integer t) target value repoints storable typed = absurd (neither (is_function target) repoints)
  repointed_keeps here (Array t n) target value repoints storable typed = absurd (neither (is_function target) repoints)
  repointed_keeps here (Struct tag) target value repoints storable typed = absurd (neither (is_function target) repoints)
  repointed_keeps here (Function t ts) target value repoints storable typed = absurd (neither (is_function target) repoints)

  -- ---- tests and comparisons

  pub tested_keeps : (here : Pos) (value : Scalar)
      → GivesAt (record { program = program; locals = locals }) (λ after value. HasType program after int value) (tested here value) before
  tested_keeps here value = guarded here (premise (is_dead_pointer before.objects value) Ub.U06 ∷ [])
      (give (truth (not (is_null_pointer value)))) refl (λ none. give_gives sound (truth_typed program before (not (is_null_pointer value))))

  pub compared_keeps : (relation : Relation) (here : Pos) (a b : Scalar)
      → GivesAt (record { program = program; locals = locals }) (λ after value. HasType program after int value) (compared_pointers (around_of program) relation here a b) before
  compared_keeps relation here a b = guarded here
      (premise (is_dead_pointer before.objects a || is_dead_pointer before.objects b) Ub.U06
      ∷ premise (if is_equality relation then is_end_beside a b else not (are_in_one_row before.objects a b)) Ub.U09 ∷ [])
      (give (if is_equality relation then truth_of_equality relation (are_equal (around_of program) a b) else truth (compare_of relation (index_of a) (index_of b)))) refl
      (λ none. give_gives sound (by (is_equality relation)))
    where
      by : (equality : Bool) → HasType program before int (if equality then truth_of_equality relation (are_equal (around_of program) a b) else truth (compare_of relation (index_of a) (index_of b)))
      by true = equality_typed program before relation (are_equal (around_of program) a b)
      by false = truth_typed program before (compare_of relation (index_of a) (index_of b))

  pub difference_keeps : (here : Pos) (a b : Scalar)
      → GivesAt (record { program = program; locals = locals }) (λ after value. HasType program after (Integer I.Long) value) (difference here a b) before
  difference_keeps here a b = guarded here
      (premise (is_dead_pointer before.objects a || is_dead_pointer before.objects b) Ub.U06
      ∷ premise (not (are_in_one_row before.objects a b)) Ub.U10
      ∷ premise (not (is_value I.Long (index_of a -ℤ index_of b))) Ub.U10 ∷ [])
      (give (IntegerValue (index_of a -ℤ index_of b))) refl (λ none. give_gives sound (not-false (is_value I.Long (index_of a -ℤ index_of b)) none.1.1.0))
