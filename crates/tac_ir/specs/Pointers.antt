-- What operators do with pointers (C17 6.3.2.3, 6.5.6, 6.5.8, 6.5.9).
use Rattle.std.specs.Prelude.{ℕ, ◌/◌, ◌%◌, ◌==◌, Bool, true, false, not, ◌&&◌, ◌||◌, nat_lt, if◌then◌else◌, Option, Some, None, ℤ, pos, ◌-ℤ◌, ◌*ℤ◌, int_div}
use Rattle.run_theory.specs.Runs.{Move}
use Rattle.c_num.specs.declared.Relation.{Relation}
use Rattle.c_num.specs.declared.Relation.TheVariants as R
use Rattle.c_num.specs.declared.IntType.TheVariants as I
use Rattle.c_num.specs.Types.{is_value}
use Rattle.c_num.specs.Arith.{compare_of}
use Rattle.c_typed.specs.Types.{CType}
use Rattle.c_typed.specs.Layouts.{is_complete}
use Rattle.tac_ir.specs.declared.register.Register.{Register}
use Rattle.tac_ir.specs.Values.{Object, same_object, Value, Number, NoAddress, Code, Address, Content, Untyped, Typed, Objects}
use Rattle.tac_ir.specs.Layouts.{size_of}
use Rattle.tac_ir.specs.Objects.{Surroundings, offset_moved, is_there, extent_of, is_place}
use Rattle.tac_ir.specs.States.{State, write, store_content, given}

-- A pointer that may be looked at: it is null, a function's, or into an object that is there.
abbrev pub is_alive : Objects → Value → Bool
is_alive objects (Address object offset) = is_there (objects object)
is_alive objects (Number z) = false
is_alive objects value = true

abbrev pub is_null : Value → Bool
is_null NoAddress = true
is_null value = false

-- the place so many elements of a type further, where it is one
abbrev pub moved_pointer : Surroundings → Objects → CType → ℤ → Value → Option Value
moved_pointer around objects element z (Address object offset) = by (offset_moved offset (z *ℤ pos (size_of around.structs element)))
  where
    by : Option ℕ → Option Value
    by None = None
    by (Some further) = if is_place around.structs objects object further then Some (Address object further) else None
moved_pointer around objects element z value = None

-- the elements of a type between two places in one object
abbrev pub difference : Surroundings → Objects → CType → Value → Value → Option Value
difference around objects element (Address a i) (Address b j) =
    let size = size_of around.structs element in
    let z = int_div (pos i -ℤ pos j) (pos size) in
    if same_object a b && (is_there (objects a) && (nat_lt 0 size && is_value I.Long z)) then Some (Number z) else None
difference around objects element a b = None

-- the end of an object
abbrev pub is_end : Surroundings → Objects → Object → ℕ → Bool
is_end around objects object offset = extent_of around.structs (objects object) == offset

-- Whether two pointers are equal. The end of an object and a place in another may be at one address.
abbrev pub are_equal : Surroundings → Objects → Value → Value → Option Bool
are_equal around objects (Address a i) (Address b j) =
    if same_object a b then Some (i == j) else if is_end around objects a i || is_end around objects b j then None else Some false
are_equal around objects (Code f) (Code g) = Some (f == g)
are_equal around objects NoAddress NoAddress = Some true
are_equal around objects a b = Some false

abbrev pub in_order : Relation → Value → Value → Option Bool
in_order relation (Address a i) (Address b j) = if same_object a b then Some (compare_of relation (pos i) (pos j)) else None
in_order relation a b = None

abbrev pub compared : Surroundings → Objects → Relation → Value → Value → Option Bool
compared around objects R.Eq a b = are_equal around objects a b
compared around objects R.Ne a b = by (are_equal around objects a b)
  where
    by : Option Bool → Option Bool
    by None = None
    by (Some same) = Some (not same)
compared around objects relation a b = in_order relation a b

-- A type that an allocation gets when a pointer to it is converted: no type that is never completed, and none of functions.
abbrev pub gives_type : Surroundings → CType → Bool
gives_type around target = is_complete around.structs target

-- An allocation without a type gets one, where its size is a multiple of that of the type.
abbrev pub typed_content : Surroundings → CType → Content → Option Content
typed_content around target (Untyped size) =
    let own = size_of around.structs target in
    if gives_type around target then (if size % own == 0 then Some (Typed target (size / own) (λ offset. None)) else None) else Some (Untyped size)
typed_content around target content = Some content

abbrev pub repoint : Surroundings → CType → Register → Value → State → Move State
repoint around target to (Address object offset) state = given (typed_content around target (state.objects object)) state (λ content. write to (Address object offset) (store_content object content state))
repoint around target to value state = write to value state
