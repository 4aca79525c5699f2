-- Pointers to elements of one row: they compare, and lie apart, as their indices do.
use Rattle.std.proofs.Common.{◌≡◌, ℕ, ◌+◌, ◌*◌, ◌≤◌, ◌==◌, nat_lt, lt-ltb, arith, ◌&&◌, ◌||◌, not, if◌then◌else◌, Bool, true, false, List, [], ◌∷◌, Some, None, ℤ, pos, ◌-ℤ◌, int_div, refl, sym, ap, ◌∙◌, subst, eqb-true}
use Rattle.std.proofs.lemmas.Bool.{false≢true, true≢false, and_parts, and_from, not-false}
use Rattle.std.proofs.lemmas.Option.{same_Some}
use Rattle.run_theory.specs.declared.place.Pos.{Pos}
use Rattle.run_theory.specs.declared.ends.UbKind.TheVariants as Ub
use Rattle.c_num.specs.declared.Relation.{Relation}
use Rattle.c_num.specs.declared.Relation.TheVariants as R
use Rattle.c_num.specs.declared.IntType.TheVariants as I
use Rattle.c_num.specs.Types.{is_value}
use Rattle.c_num.specs.Arith.{compare_of}
use Rattle.c_typed.specs.Types.{CType, same_type}
use Rattle.c_typed.specs.Layouts.{is_complete}
use Rattle.c_typed.specs.Typed.{Program}
use Rattle.c_typed.proofs.Same.{same_type-true}
use Rattle.c_typed.specs.Programs.{IsWellTyped}
use Rattle.ref_semantics.specs.Values as V
use Rattle.ref_semantics.specs.Values.{Heap, Place, Scalar, IntegerValue, NullValue, FunctionValue, PointerValue, RawPointer, same_name, same_row, whole_row, first_of_row}
use Rattle.ref_semantics.specs.Store as S
use Rattle.ref_semantics.specs.Store.{Then, give, premise, unless, offset_of, is_dead_pointer}
use Rattle.ref_semantics.specs.Pointers as P
use Rattle.ref_semantics.specs.Pointers.{is_equality, are_in_one_row, is_one_row, as_typed, to_first, index_of, compared_pointers, difference}
use Rattle.ref_semantics.specs.First.{around_of}
use Rattle.ref_semantics.specs.Rows.{size_in}
use Rattle.ref_semantics.specs.Sound.{PointsTo, Sound, IsSoundContent}
use Rattle.ref_semantics.proofs.Objects.{same_name-true}
use Rattle.ref_semantics.proofs.WellTyped.{well_structs, complete_known}
use Rattle.tac_ir.specs.Values.{Object, OfHeap, Value, Number, Address, Objects, same_object}
use Rattle.tac_ir.specs.Objects.{Surroundings, is_there}
use Rattle.tac_ir.specs.Pointers as C
use Rattle.tac_ir.specs.Pointers.{compared, in_order}
use Rattle.tac_simulation.specs.Standing.{Placement, image, ScalarStands, MemoryStands}
use Rattle.tac_simulation.proofs.Memory.{same_object-refl}
use Rattle.tac_simulation.proofs.Looking.{looked_at_alive, living_raw}
use Rattle.tac_simulation.proofs.Placing.{placed}
use Rattle.c_typed.specs.Sizes.{are_filled}
use Rattle.tac_simulation.proofs.Filled.{size_positive}
use Rattle.tac_simulation.proofs.Answered.{past, gave, typed_pointer}
use Rattle.tac_simulation.proofs.Tested.{truth_integer}
use Rattle.tac_simulation.proofs.Into.{sound_bytes, HasBytes, place_size, at_beginning}
use Rattle.tac_simulation.proofs.Equality.{neither_of, ComparedBoth}
use Rattle.tac_simulation.proofs.Scaled.{order_scaled, difference_scaled}

-- ---- rows

pub record OneRow (p q : Place) : Type 0 where
  pub name : p.name ≡ q.name
  pub start : p.row.start ≡ q.row.start
  pub c_type : p.row.c_type ≡ q.row.c_type

one_row : (p q : Place) → is_one_row (PointerValue p) (PointerValue q) ≡ true → OneRow p q
one_row p q h =
    let first = and_parts (same_name p.name q.name) (same_row p.row q.row) h in
    let second = and_parts (p.row.start == q.row.start) (same_type p.row.c_type q.row.c_type && (p.row.count == q.row.count)) first.1 in
    let third = and_parts (same_type p.row.c_type q.row.c_type) (p.row.count == q.row.count) second.1 in
    record { name = same_name-true p.name q.name first.0; start = eqb-true p.row.start q.row.start second.0; c_type = same_type-true p.row.c_type q.row.c_type third.0 }

-- nothing stands in a row with null or a function
no_row_null : (a : Scalar) → is_one_row a NullValue ≡ true → ⊥
no_row_null (IntegerValue z) h = false≢true h
no_row_null NullValue h = false≢true h
no_row_null (FunctionValue f) h = false≢true h
no_row_null (PointerValue p) h = false≢true h
no_row_null (RawPointer n) h = false≢true h

no_row_function : (a : Scalar) (g : List ℕ) → is_one_row a (FunctionValue g) ≡ true → ⊥
no_row_function (IntegerValue z) g h = false≢true h
no_row_function NullValue g h = false≢true h
no_row_function (FunctionValue f) g h = false≢true h
no_row_function (PointerValue p) g h = false≢true h
no_row_function (RawPointer n) g h = false≢true h

chosen_one : {A : Type 0} (b : Bool) (one other : A) → b ≡ true → (if b then one else other) ≡ one
chosen_one true one other e = refl
chosen_one false one other e = absurd (false≢true e)

module _ (program : Program) (well : IsWellTyped program) (filled : are_filled program.structs ≡ true) (placement : Placement) (locals : List CType) (s : S.State)
    (sound : Sound (record { program = program; locals = locals }) s) (objects' : Objects) (memory : MemoryStands program placement s.objects objects')
    (around : Surroundings) (same : around.structs ≡ program.structs) where
  -- a pointer to an element of a row
  record Spot (place : Place) (scalar : Scalar) (value : Value) : Type 0 where
    object : Object
    typed_is : as_typed s.objects scalar ≡ PointerValue place
    index : index_of scalar ≡ pos place.index
    is_image : image program placement place.name ≡ Some object
    value_is : value ≡ Address object (offset_of (around_of program) place)
    there : is_there (objects' object) ≡ true
    size : 1 ≤ size_in program.structs place.row.c_type

  -- a pointer to an allocation without a type
  record Whole (scalar : Scalar) (value : Value) : Type 0 where
    number : ℕ
    typed_is : as_typed s.objects scalar ≡ RawPointer number
    index : index_of scalar ≡ pos 0
    value_is : value ≡ Address (OfHeap number) 0

  data Stood (scalar : Scalar) (value : Value) : Type 0 where
    InRow : (place : Place) → Spot place scalar value → Stood scalar value
    AsWhole : Whole scalar value → Stood scalar value

  place_stood : (place : Place) (value : Value) (target : CType) → PointsTo program s target (PointerValue place) → is_dead_pointer s.objects (PointerValue place) ≡ false
      → ScalarStands program s.objects placement (PointerValue place) value → Spot place (PointerValue place) value
  place_stood place value target typed lives stands =
      let at = placed program well placement locals s sound objects' memory place value typed.1 lives stands in
      record {
        object = at.object;
        typed_is = refl;
        index = refl;
        is_image = at.is_image;
        value_is = at.value_is;
        there = ap is_there at.typed.content';
        size = place_size program well filled placement locals s sound objects' memory place at.object at.typed;
      }

  raw_stood : (number : ℕ) (value : Value) → is_dead_pointer s.objects (RawPointer number) ≡ false → ScalarStands program s.objects placement (RawPointer number) value → Stood (RawPointer number) value
  raw_stood number value lives stands =
      let at = living_raw program placement s.objects objects' memory number value lives stands in
      by at.0 at.1 (s.objects (Heap number)) refl (sound_bytes (record { program = program; locals = locals }) s sound (Heap number)) (sound.contents (Heap number))
    where
      by : value ≡ Address (OfHeap number) 0 → is_there (objects' (OfHeap number)) ≡ true → (own : V.Content) → s.objects (Heap number) ≡ own → HasBytes program own → IsSoundContent program s own → Stood (RawPointer number) value
      by value_is there V.Dead e some is_sound = AsWhole (record { number = number; typed_is = ap (to_first number) e; index = refl; value_is = value_is })
      by value_is there (V.Raw size) e some is_sound = AsWhole (record { number = number; typed_is = ap (to_first number) e; index = refl; value_is = value_is })
      by value_is there (V.Elements is_static c_type count held) e some is_sound = InRow (first_of_row (Heap number) (whole_row c_type count)) (record {
        object = OfHeap number;
        typed_is = ap (to_first number) e;
        index = refl;
        is_image = refl;
        value_is = value_is ∙ ap (Address (OfHeap number)) (at_beginning (size_in program.structs c_type));
        there = there;
        size = size_positive program.structs (well_structs program well) filled c_type some.0 is_sound.small;
      })

  -- ---- order

  offset_is : (p q : Place) → OneRow p q → offset_of (around_of program) q ≡ p.row.start + q.index * size_in program.structs p.row.c_type
  offset_is p q one = ap (λ start. start + q.index * size_in program.structs q.row.c_type) (sym one.start) ∙ ap (λ t. p.row.start + q.index * size_in program.structs t) (sym one.c_type)

  same_object_is : (p q : Place) (object other : Object) → OneRow p q → image program placement p.name ≡ Some object → image program placement q.name ≡ Some other → same_object object other ≡ true
  same_object_is p q object other one is is' =
      let alike : object ≡ other = same_Some object other (sym is ∙ ap (image program placement) one.name ∙ is') in
      subst (λ o. same_object object o ≡ true) alike (same_object-refl object)

  ordered_places : (relation : Relation) → is_equality relation ≡ false → (p q : Place) (object other : Object) → OneRow p q → image program placement p.name ≡ Some object → image program placement q.name ≡ Some other
      → 1 ≤ size_in program.structs p.row.c_type
      → in_order relation (Address object (offset_of (around_of program) p)) (Address other (offset_of (around_of program) q)) ≡ Some (compare_of relation (pos p.index) (pos q.index))
  ordered_places relation order p q object other one is is' size =
      chosen_one (same_object object other) (Some (compare_of relation (pos (offset_of (around_of program) p)) (pos (offset_of (around_of program) q)))) None (same_object_is p q object other one is is')
      ∙ ap (λ n. Some (compare_of relation (pos (offset_of (around_of program) p)) (pos n))) (offset_is p q one)
      ∙ ap (λ (b : Bool). Some b) (order_scaled relation order p.row.start (size_in program.structs p.row.c_type) p.index q.index size)

  two : (relation : Relation) {x x' y y' : Value} → x ≡ x' → y ≡ y' → in_order relation x y ≡ in_order relation x' y'
  two relation e e' = λ i. in_order relation (e i) (e' i)

  index_two : (relation : Relation) {x x' y y' : ℤ} → x ≡ x' → y ≡ y' → Some (compare_of relation x y) ≡ Some (compare_of relation x' y')
  index_two relation e e' = λ i. Some (compare_of relation (e i) (e' i))

  stood_order : (relation : Relation) → is_equality relation ≡ false → (a b : Scalar) (x y : Value) → Stood a x → Stood b y → are_in_one_row s.objects a b ≡ true
      → in_order relation x y ≡ Some (compare_of relation (index_of a) (index_of b))
  stood_order relation order a b x y (InRow p at) (InRow q at') h =
      let one = one_row p q (subst (λ v. is_one_row (PointerValue p) v ≡ true) at'.typed_is (subst (λ v. is_one_row v (as_typed s.objects b) ≡ true) at.typed_is h)) in
      two relation at.value_is at'.value_is ∙ ordered_places relation order p q at.object at'.object one at.is_image at'.is_image at.size ∙ index_two relation (sym at.index) (sym at'.index)
  stood_order relation order a b x y (InRow p at) (AsWhole at') h =
      absurd (false≢true (subst (λ v. is_one_row (PointerValue p) v ≡ true) at'.typed_is (subst (λ v. is_one_row v (as_typed s.objects b) ≡ true) at.typed_is h)))
  stood_order relation order a b x y (AsWhole at) (InRow q at') h =
      absurd (false≢true (subst (λ v. is_one_row (RawPointer at.number) v ≡ true) at'.typed_is (subst (λ v. is_one_row v (as_typed s.objects b) ≡ true) at.typed_is h)))
  stood_order relation order a b x y (AsWhole at) (AsWhole at') h =
      let one : (at.number == at'.number) ≡ true = subst (λ v. is_one_row (RawPointer at.number) v ≡ true) at'.typed_is (subst (λ v. is_one_row v (as_typed s.objects b) ≡ true) at.typed_is h) in
      two relation at.value_is at'.value_is ∙ chosen_one (at.number == at'.number) (Some (compare_of relation (pos 0) (pos 0))) None one ∙ index_two relation (sym at.index) (sym at'.index)

  order : (relation : Relation) → is_equality relation ≡ false → (target target' : CType) (a b : Scalar) (x y : Value) → PointsTo program s target a → PointsTo program s target' b
      → is_dead_pointer s.objects a ≡ false → is_dead_pointer s.objects b ≡ false → are_in_one_row s.objects a b ≡ true → ScalarStands program s.objects placement a x → ScalarStands program s.objects placement b y
      → in_order relation x y ≡ Some (compare_of relation (index_of a) (index_of b))
  order relation is_order target target' a b x y = by a b
    where
      by : (a b : Scalar) → PointsTo program s target a → PointsTo program s target' b
          → is_dead_pointer s.objects a ≡ false → is_dead_pointer s.objects b ≡ false → are_in_one_row s.objects a b ≡ true → ScalarStands program s.objects placement a x → ScalarStands program s.objects placement b y
          → in_order relation x y ≡ Some (compare_of relation (index_of a) (index_of b))
      by (IntegerValue z) b typed typed' lives lives' h stands stands' = absurd typed
      by NullValue b typed typed' lives lives' h stands stands' = absurd (false≢true h)
      by (FunctionValue f) b typed typed' lives lives' h stands stands' = absurd (false≢true h)
      by (PointerValue p) (IntegerValue z) typed typed' lives lives' h stands stands' = absurd typed'
      by (RawPointer n) (IntegerValue z) typed typed' lives lives' h stands stands' = absurd typed'
      by (PointerValue p) NullValue typed typed' lives lives' h stands stands' = absurd (no_row_null (PointerValue p) h)
      by (RawPointer n) NullValue typed typed' lives lives' h stands stands' = absurd (no_row_null (as_typed s.objects (RawPointer n)) h)
      by (PointerValue p) (FunctionValue g) typed typed' lives lives' h stands stands' = absurd (no_row_function (PointerValue p) g h)
      by (RawPointer n) (FunctionValue g) typed typed' lives lives' h stands stands' = absurd (no_row_function (as_typed s.objects (RawPointer n)) g h)
      by (PointerValue p) (PointerValue q) typed typed' lives lives' h stands stands' =
          stood_order relation is_order (PointerValue p) (PointerValue q) x y (InRow p (place_stood p x target typed lives stands)) (InRow q (place_stood q y target' typed' lives' stands')) h
      by (PointerValue p) (RawPointer m) typed typed' lives lives' h stands stands' =
          stood_order relation is_order (PointerValue p) (RawPointer m) x y (InRow p (place_stood p x target typed lives stands)) (raw_stood m y lives' stands') h
      by (RawPointer n) (PointerValue q) typed typed' lives lives' h stands stands' =
          stood_order relation is_order (RawPointer n) (PointerValue q) x y (raw_stood n x lives stands) (InRow q (place_stood q y target' typed' lives' stands')) h
      by (RawPointer n) (RawPointer m) typed typed' lives lives' h stands stands' =
          stood_order relation is_order (RawPointer n) (RawPointer m) x y (raw_stood n x lives stands) (raw_stood m y lives' stands') h

  pub order_is : (relation : Relation) (here : Pos) (target target' : CType) (a b : Scalar) (held held' : Value) (answer : Scalar) (after : S.State) → is_equality relation ≡ false
      → PointsTo program s target a → PointsTo program s target' b → ScalarStands program s.objects placement a held → ScalarStands program s.objects placement b held'
      → compared_pointers (around_of program) relation here a b s ≡ Then answer after → ComparedBoth around s after objects' relation answer held held'
  order_is relation here target target' a b held held' answer after is_order typed typed' stands stands' e = by relation is_order e
    where
      last : (relation : Relation) → is_equality relation ≡ false → (is_dead_pointer s.objects a || is_dead_pointer s.objects b) ≡ false
          → unless here (premise (not (are_in_one_row s.objects a b)) Ub.U09 ∷ []) (give (P.truth (compare_of relation (index_of a) (index_of b)))) s ≡ Then answer after
          → ((in_order relation held held' ≡ Some (compare_of relation (index_of a) (index_of b))) → compared around objects' relation held held' ≡ Some (compare_of relation (index_of a) (index_of b)))
          → ComparedBoth around s after objects' relation answer held held'
      last relation is_order alive e tests =
          let lives = neither_of (is_dead_pointer s.objects a) (is_dead_pointer s.objects b) alive in
          let second = past here (not (are_in_one_row s.objects a b)) Ub.U09 [] (give (P.truth (compare_of relation (index_of a) (index_of b)))) s answer after e in
          let third = gave (P.truth (compare_of relation (index_of a) (index_of b))) answer s after second.1 in
          record {
            same = third.1;
            alive = looked_at_alive program placement s.objects objects' memory a held (typed_pointer program s target a typed) lives.0 stands;
            alive' = looked_at_alive program placement s.objects objects' memory b held' (typed_pointer program s target' b typed') lives.1 stands';
            test = compare_of relation (index_of a) (index_of b);
            test_is = tests (order relation is_order target target' a b held held' typed typed' lives.0 lives.1 (not-false (are_in_one_row s.objects a b) second.0) stands stands');
            answer_is = third.0 ∙ truth_integer (compare_of relation (index_of a) (index_of b));
          }

      first_past : (relation : Relation) → unless here (premise (is_dead_pointer s.objects a || is_dead_pointer s.objects b) Ub.U06 ∷ premise (not (are_in_one_row s.objects a b)) Ub.U09 ∷ [])
          (give (P.truth (compare_of relation (index_of a) (index_of b)))) s ≡ Then answer after
          → ((is_dead_pointer s.objects a || is_dead_pointer s.objects b) ≡ false)
          × (unless here (premise (not (are_in_one_row s.objects a b)) Ub.U09 ∷ []) (give (P.truth (compare_of relation (index_of a) (index_of b)))) s ≡ Then answer after)
      first_past relation e =
          past here (is_dead_pointer s.objects a || is_dead_pointer s.objects b) Ub.U06 (premise (not (are_in_one_row s.objects a b)) Ub.U09 ∷ []) (give (P.truth (compare_of relation (index_of a) (index_of b)))) s answer after e

      by : (relation : Relation) → is_equality relation ≡ false → compared_pointers (around_of program) relation here a b s ≡ Then answer after → ComparedBoth around s after objects' relation answer held held'
      by R.Eq is_order e = absurd (true≢false is_order)
      by R.Ne is_order e = absurd (true≢false is_order)
      by R.Lt is_order e = let first = first_past R.Lt e in last R.Lt refl first.0 first.1 (λ h. h)
      by R.Le is_order e = let first = first_past R.Le e in last R.Le refl first.0 first.1 (λ h. h)
      by R.Gt is_order e = let first = first_past R.Gt e in last R.Gt refl first.0 first.1 (λ h. h)
      by R.Ge is_order e = let first = first_past R.Ge e in last R.Ge refl first.0 first.1 (λ h. h)

  -- ---- differences

  apart_places : (t : CType) (p q : Place) (object other : Object) → OneRow p q → image program placement p.name ≡ Some object → image program placement q.name ≡ Some other → is_there (objects' object) ≡ true
      → p.row.c_type ≡ t → 1 ≤ size_in program.structs p.row.c_type → is_value I.Long (pos p.index -ℤ pos q.index) ≡ true
      → C.difference around objects' t (Address object (offset_of (around_of program) p)) (Address other (offset_of (around_of program) q)) ≡ Some (Number (pos p.index -ℤ pos q.index))
  apart_places t p q object other one is is' there own size value =
      let own_size : size_in around.structs t ≡ size_in program.structs p.row.c_type = ap (λ structs. size_in structs t) same ∙ ap (size_in program.structs) (sym own) in
      let has_byte : nat_lt 0 (size_in around.structs t) ≡ true = subst (λ n. nat_lt 0 n ≡ true) (sym own_size) (lt-ltb 0 (size_in program.structs p.row.c_type) (omega (arith, size))) in
      let z : int_div (pos (offset_of (around_of program) p) -ℤ pos (offset_of (around_of program) q)) (pos (size_in around.structs t)) ≡ pos p.index -ℤ pos q.index =
      (λ k. int_div (pos (offset_of (around_of program) p) -ℤ pos (offset_is p q one k)) (pos (own_size k))) ∙ difference_scaled p.row.start (size_in program.structs p.row.c_type) p.index q.index size in
      ap (λ w. if same_object object other && (is_there (objects' object) && (nat_lt 0 (size_in around.structs t) && is_value I.Long w)) then Some (Number w) else None) z
      ∙ chosen_one (same_object object other && (is_there (objects' object) && (nat_lt 0 (size_in around.structs t) && is_value I.Long (pos p.index -ℤ pos q.index)))) (Some (Number (pos p.index -ℤ pos q.index))) None
      (and_from (same_object object other) (is_there (objects' object) && (nat_lt 0 (size_in around.structs t) && is_value I.Long (pos p.index -ℤ pos q.index))) (same_object_is p q object other one is is')
      (and_from (is_there (objects' object)) (nat_lt 0 (size_in around.structs t) && is_value I.Long (pos p.index -ℤ pos q.index)) there
      (and_from (nat_lt 0 (size_in around.structs t)) (is_value I.Long (pos p.index -ℤ pos q.index)) has_byte value)))

  pub difference_is : (here : Pos) (t : CType) (a b : Scalar) (held held' : Value) (answer : Scalar) (after : S.State) → is_complete program.structs t ≡ true
      → PointsTo program s t a → PointsTo program s t b → ScalarStands program s.objects placement a held → ScalarStands program s.objects placement b held'
      → difference here a b s ≡ Then answer after
      → (z : ℤ) × (after ≡ s) × (answer ≡ IntegerValue z) × (is_value I.Long z ≡ true) × (C.difference around objects' t held held' ≡ Some (Number z))
  difference_is here t a b held held' answer after complete typed typed' stands stands' e =
      let first = past here (is_dead_pointer s.objects a || is_dead_pointer s.objects b) Ub.U06 (premise (not (are_in_one_row s.objects a b)) Ub.U10 ∷ premise (not (is_value I.Long (index_of a -ℤ index_of b))) Ub.U10 ∷ [])
      (give (IntegerValue (index_of a -ℤ index_of b))) s answer after e in
      let second = past here (not (are_in_one_row s.objects a b)) Ub.U10 (premise (not (is_value I.Long (index_of a -ℤ index_of b))) Ub.U10 ∷ []) (give (IntegerValue (index_of a -ℤ index_of b))) s answer after first.1 in
      let third = past here (not (is_value I.Long (index_of a -ℤ index_of b))) Ub.U10 [] (give (IntegerValue (index_of a -ℤ index_of b))) s answer after second.1 in
      let fourth = gave (IntegerValue (index_of a -ℤ index_of b)) answer s after third.1 in
      let lives = neither_of (is_dead_pointer s.objects a) (is_dead_pointer s.objects b) first.0 in
      let value = not-false (is_value I.Long (index_of a -ℤ index_of b)) third.0 in (
        index_of a -ℤ index_of b,
        fourth.1,
        fourth.0,
        value,
        by a b typed typed' lives.0 lives.1 (not-false (are_in_one_row s.objects a b) second.0) value stands stands',
      )
    where
      by : (a b : Scalar) → PointsTo program s t a → PointsTo program s t b → is_dead_pointer s.objects a ≡ false → is_dead_pointer s.objects b ≡ false → are_in_one_row s.objects a b ≡ true
          → is_value I.Long (index_of a -ℤ index_of b) ≡ true → ScalarStands program s.objects placement a held → ScalarStands program s.objects placement b held'
          → C.difference around objects' t held held' ≡ Some (Number (index_of a -ℤ index_of b))
      by (IntegerValue z) b typed typed' lives lives' h value stands stands' = absurd typed
      by NullValue b typed typed' lives lives' h value stands stands' = absurd (false≢true h)
      by (FunctionValue f) b typed typed' lives lives' h value stands stands' = absurd (false≢true h)
      by (RawPointer n) b typed typed' lives lives' h value stands stands' = absurd (true≢false (sym typed.0 ∙ complete_known program well t complete))
      by (PointerValue p) (IntegerValue z) typed typed' lives lives' h value stands stands' = absurd typed'
      by (PointerValue p) NullValue typed typed' lives lives' h value stands stands' = absurd (false≢true h)
      by (PointerValue p) (FunctionValue g) typed typed' lives lives' h value stands stands' = absurd (false≢true h)
      by (PointerValue p) (RawPointer m) typed typed' lives lives' h value stands stands' = absurd (true≢false (sym typed'.0 ∙ complete_known program well t complete))
      by (PointerValue p) (PointerValue q) typed typed' lives lives' h value stands stands' =
          let at = place_stood p held t typed lives stands in
          let at' = place_stood q held' t typed' lives' stands' in
          (λ k. C.difference around objects' t (at.value_is k) (at'.value_is k))
          ∙ apart_places t p q at.object at'.object (one_row p q h) at.is_image at'.is_image at.there (typed.2 (complete_known program well t complete)) at.size value
