-- What operators do with pointers (C17 6.3.2.3, 6.5.2, 6.5.3, 6.5.6, 6.5.8, 6.5.9), and reading and writing.
use Rattle.std.specs.Prelude.{ℕ, ◌/◌, ◌%◌, Bool, true, false, not, ◌&&◌, ◌||◌, ◌==◌, nat_lt, if◌then◌else◌, List, [], ◌∷◌, Option, Some, None, ℤ, pos, negsuc, ◌+ℤ◌, ◌-ℤ◌, bytes_eq}
use Rattle.run_theory.specs.declared.place.Pos.{Pos}
use Rattle.run_theory.specs.declared.ends.UbKind.TheVariants as Ub
use Rattle.run_theory.specs.Runs.{Event, Loaded, Stored}
use Rattle.c_num.specs.declared.Relation.{Relation}
use Rattle.c_num.specs.declared.Relation.TheVariants as R
use Rattle.c_num.specs.declared.IntType.TheVariants as I
use Rattle.c_num.specs.Types.{is_value}
use Rattle.c_num.specs.Arith.{compare_of}
use Rattle.c_typed.specs.Types.{CType, same_type, is_like_void}
use Rattle.ref_semantics.specs.Values.{Name, Heap, Place, Scalar, IntegerValue, NullValue, FunctionValue, PointerValue, RawPointer, Content, Raw, Elements, same_name, same_row, whole_row, first_of_row, at_index, is_end, place_of}
use Rattle.ref_semantics.specs.Store.{TypeEnvironment, Objects, Eval, give, undefined, emit, with_objects, store_content, premise, unless, is_dead, is_dead_pointer, is_null_pointer, size_of, offset_of, scalar_at, holding}

abbrev pub truth : Bool → Scalar
truth true = IntegerValue (pos 1)
truth false = IntegerValue (pos 0)

-- ---- the elements of a row

-- the element that a pointer points to, for an access (C17 6.5.3.2 paragraph 4)
abbrev pub accessed : Pos → Scalar → Eval Place
accessed here pointer = with_objects (λ objects.
    unless here
    (premise (is_dead_pointer objects pointer) Ub.U06
    ∷ premise (is_null_pointer pointer) Ub.U05
    ∷ premise (is_end (place_of pointer)) Ub.U07 ∷ [])
    (give (place_of pointer)))

-- the index z elements further
abbrev pub index_moved : ℕ → ℤ → Option ℕ
index_moved index z = natural (pos index +ℤ z)
  where
    natural : ℤ → Option ℕ
    natural (pos n) = Some n
    natural (negsuc n) = None

abbrev pub is_negative : Option ℕ → Bool
is_negative None = true
is_negative (Some n) = false

abbrev pub is_above : ℕ → Option ℕ → Bool
is_above count (Some n) = nat_lt count n
is_above count None = false

abbrev pub is_at_least : ℕ → Option ℕ → Bool
is_at_least count (Some n) = not (nat_lt n count)
is_at_least count None = false

abbrev pub or_zero : Option ℕ → ℕ
or_zero (Some n) = n
or_zero None = 0

-- `p + z` (C17 6.5.6 paragraph 8)
abbrev pub added : Pos → Scalar → ℤ → Eval Scalar
added here pointer z = with_objects (λ objects.
    let place = place_of pointer in
    let index = index_moved place.index z in
    unless here
    (premise (is_dead_pointer objects pointer) Ub.U06
    ∷ premise (not (is_null_pointer pointer) && (is_negative index || is_above place.row.count index)) Ub.U08
    ∷ premise (is_null_pointer pointer) Ub.U17 ∷ [])
    (give (PointerValue (at_index place (or_zero index)))))

-- `p[z]` as an object (C17 6.5.2.1)
abbrev pub element : Pos → Scalar → ℤ → Eval Place
element here pointer z = with_objects (λ objects.
    let place = place_of pointer in
    let index = index_moved place.index z in
    unless here
    (premise (is_dead_pointer objects pointer) Ub.U06
    ∷ premise (is_null_pointer pointer) Ub.U05
    ∷ premise (is_at_least place.row.count index) Ub.U07
    ∷ premise (is_negative index) Ub.U08 ∷ [])
    (give (at_index place (or_zero index))))

-- ---- conversions to `T *` (this project's rules)

abbrev pub of_allocation : TypeEnvironment → Pos → CType → ℕ → Content → Eval Scalar
of_allocation around here target number (Raw size) =
    let own = size_of around target in
    unless here (premise (not (size % own == 0)) Ub.U13 ∷ [])
    (store_content (Heap number) (Elements false target (size / own) (λ offset. None))
    (give (PointerValue (first_of_row (Heap number) (whole_row target (size / own))))))
of_allocation around here target number (Elements is_static c_type count held) =
    unless here (premise (not (same_type c_type target)) Ub.U12 ∷ []) (give (PointerValue (first_of_row (Heap number) (whole_row c_type count))))
of_allocation around here target number content = undefined Ub.U06 here

abbrev pub retyped : TypeEnvironment → Pos → CType → Scalar → Eval Scalar
retyped around here target (RawPointer number) = with_objects (λ objects. of_allocation around here target number (objects (Heap number)))
retyped around here target (PointerValue place) = unless here (premise (not (same_type place.row.c_type target)) Ub.U12 ∷ []) (give (PointerValue place))
retyped around here target value = give value

abbrev pub repointed : TypeEnvironment → Pos → CType → Scalar → Eval Scalar
repointed around here target value = with_objects (λ objects.
    unless here (premise (is_dead_pointer objects value) Ub.U06 ∷ [])
    (if is_like_void around.completed target then give value else retyped around here target value))

-- whether a pointer isn't null
abbrev pub tested : Pos → Scalar → Eval Scalar
tested here value = with_objects (λ objects.
    unless here (premise (is_dead_pointer objects value) Ub.U06 ∷ []) (give (truth (not (is_null_pointer value)))))

-- ---- comparisons (C17 6.5.8, 6.5.9)

abbrev pub is_into_object : Scalar → Bool
is_into_object (PointerValue place) = true
is_into_object (RawPointer number) = true
is_into_object _ = false

abbrev pub same_object : Scalar → Scalar → Bool
same_object a b = same_name (place_of a).name (place_of b).name

abbrev pub is_past : Scalar → Bool
is_past (PointerValue place) = is_end place
is_past _ = false

abbrev pub same_function : Scalar → Scalar → Bool
same_function (FunctionValue a) (FunctionValue b) = bytes_eq a b
same_function NullValue NullValue = true
same_function _ _ = false

abbrev pub are_equal : TypeEnvironment → Scalar → Scalar → Bool
are_equal around a b =
    if is_into_object a && is_into_object b then same_object a b && (offset_of around (place_of a) == offset_of around (place_of b)) else same_function a b

-- an end, where the other points into another object
abbrev pub is_end_beside : Scalar → Scalar → Bool
is_end_beside a b = is_into_object a && (is_into_object b && (not (same_object a b) && (is_past a || is_past b)))

abbrev pub is_equality : Relation → Bool
is_equality R.Eq = true
is_equality R.Ne = true
is_equality _ = false

abbrev pub truth_of_equality : Relation → Bool → Scalar
truth_of_equality R.Ne same = truth (not same)
truth_of_equality _ same = truth same

-- A pointer to an allocation as a whole points to its first element, once that has a type.
abbrev pub to_first : ℕ → Content → Scalar
to_first number (Elements is_static c_type count held) = PointerValue (first_of_row (Heap number) (whole_row c_type count))
to_first number content = RawPointer number

abbrev pub as_typed : Objects → Scalar → Scalar
as_typed objects (RawPointer number) = to_first number (objects (Heap number))
as_typed objects value = value

-- elements of one row
abbrev pub is_one_row : Scalar → Scalar → Bool
is_one_row (PointerValue a) (PointerValue b) = same_name a.name b.name && same_row a.row b.row
is_one_row (RawPointer a) (RawPointer b) = a == b
is_one_row _ _ = false

abbrev pub are_in_one_row : Objects → Scalar → Scalar → Bool
are_in_one_row objects a b = is_one_row (as_typed objects a) (as_typed objects b)

abbrev pub index_of : Scalar → ℤ
index_of value = pos (place_of value).index

abbrev pub compared_pointers : TypeEnvironment → Relation → Pos → Scalar → Scalar → Eval Scalar
compared_pointers around relation here a b = with_objects (λ objects.
    unless here
    (premise (is_dead_pointer objects a || is_dead_pointer objects b) Ub.U06
    ∷ premise (if is_equality relation then is_end_beside a b else not (are_in_one_row objects a b)) Ub.U09 ∷ [])
    (give (if is_equality relation then truth_of_equality relation (are_equal around a b) else truth (compare_of relation (index_of a) (index_of b)))))

-- how many elements lie between two pointers, where that is a value of long (C17 6.5.6 paragraph 9)
abbrev pub difference : Pos → Scalar → Scalar → Eval Scalar
difference here a b = with_objects (λ objects.
    unless here
    (premise (is_dead_pointer objects a || is_dead_pointer objects b) Ub.U06
    ∷ premise (not (are_in_one_row objects a b)) Ub.U10
    ∷ premise (not (is_value I.Long (index_of a -ℤ index_of b))) Ub.U10 ∷ [])
    (give (IntegerValue (index_of a -ℤ index_of b))))

-- ---- reading and writing

-- an access to an object of the heap
abbrev pub access : (ℕ → Event) → Name → List Event
access event (Heap number) = event number ∷ []
access event _ = []

abbrev pub loaded : Pos → Name → Option Scalar → Eval Scalar
loaded here name (Some value) = emit (access Loaded name) (give value)
loaded here name None = undefined Ub.U04 here

abbrev pub read : TypeEnvironment → Pos → Place → Eval Scalar
read around here place = with_objects (λ objects.
    let content = objects place.name in
    unless here (premise (is_dead content) Ub.U06 ∷ []) (loaded here place.name (scalar_at around content place)))

abbrev pub write : TypeEnvironment → Pos → Place → Scalar → Eval Scalar
write around here place value = with_objects (λ objects.
    let content = objects place.name in
    unless here (premise (is_dead content) Ub.U06 ∷ [])
    (store_content place.name (holding (offset_of around place) value content) (emit (access Stored place.name) (give value))))
