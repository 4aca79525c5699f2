-- What comparisons and differences of pointers come to, of which one points to an allocation as a whole.
use Rattle.std.specs.Prelude.{◌≡◌, ℕ, ◌==◌, if◌then◌else◌, true, false, [], None, pos, negsuc, ◌^◌, ◌+◌, ◌-◌, refl}
use Rattle.run_theory.specs.declared.place.Pos.{Pos}
use Rattle.run_theory.specs.declared.ends.UbKind.TheVariants as Ub
use Rattle.c_num.specs.declared.IntType.TheVariants as I
use Rattle.c_num.specs.declared.Relation.TheVariants as R
use Rattle.c_typed.specs.Types.{Integer}
use Rattle.ref_semantics.specs.Values.{Heap, Scalar, IntegerValue, NullValue, PointerValue, RawPointer, Dead, Raw, Elements, whole_row, first_of_row, at_index}
use Rattle.ref_semantics.specs.Store.{TypeEnvironment, Objects, State, Then, undefined}
use Rattle.ref_semantics.specs.Pointers.{truth, compared_pointers, difference, added}

abbrev around : TypeEnvironment
around = record { structs = []; completed = [] }

abbrev here : Pos
here = record { line = 1; column = 1 }

-- two ints, eight bytes without a type, and very many characters; any other object is dead
abbrev objects : Objects
objects (Heap number) =
    if number == 1 then Elements false (Integer I.Int) 2 (λ offset. None)
    else if number == 2 then Raw 8
    else if number == 3 then Elements false (Integer I.Char) (2 ^ 64 - 1) (λ offset. None)
    else Dead
objects _ = Dead

abbrev state : State
state = record { units = 0; input = []; trace = []; objects = objects; locals = []; next_local = 1; next_heap = 4 }

abbrev int_at : ℕ → Scalar
int_at index = PointerValue (at_index (first_of_row (Heap 1) (whole_row (Integer I.Int) 2)) index)

abbrev character_at : ℕ → Scalar
character_at index = PointerValue (at_index (first_of_row (Heap 3) (whole_row (Integer I.Char) (2 ^ 64 - 1))) index)

-- ---- `==` and `!=`

raw-is-first : compared_pointers around R.Eq here (RawPointer 1) (int_at 0) state ≡ Then (truth true) state
raw-is-first = refl

first-is-raw : compared_pointers around R.Ne here (int_at 0) (RawPointer 1) state ≡ Then (truth false) state
first-is-raw = refl

raw-is-not-second : compared_pointers around R.Eq here (RawPointer 1) (int_at 1) state ≡ Then (truth false) state
raw-is-not-second = refl

raw-is-not-end : compared_pointers around R.Ne here (RawPointer 1) (int_at 2) state ≡ Then (truth true) state
raw-is-not-end = refl

raw-beside-end : compared_pointers around R.Eq here (RawPointer 2) (int_at 2) state ≡ undefined Ub.U09 here state
raw-beside-end = refl

raw-is-not-null : compared_pointers around R.Eq here NullValue (RawPointer 2) state ≡ Then (truth false) state
raw-is-not-null = refl

dead-on-the-left : compared_pointers around R.Eq here (RawPointer 9) (int_at 0) state ≡ undefined Ub.U06 here state
dead-on-the-left = refl

dead-on-the-right : compared_pointers around R.Eq here NullValue (RawPointer 9) state ≡ undefined Ub.U06 here state
dead-on-the-right = refl

dead-on-both : compared_pointers around R.Ne here (RawPointer 9) (RawPointer 9) state ≡ undefined Ub.U06 here state
dead-on-both = refl

-- ---- order

raw-before-second : compared_pointers around R.Lt here (RawPointer 1) (int_at 1) state ≡ Then (truth true) state
raw-before-second = refl

second-not-before-raw : compared_pointers around R.Le here (int_at 1) (RawPointer 1) state ≡ Then (truth false) state
second-not-before-raw = refl

raw-beside-raw : compared_pointers around R.Ge here (RawPointer 1) (RawPointer 1) state ≡ Then (truth true) state
raw-beside-raw = refl

raw-without-type : compared_pointers around R.Ge here (RawPointer 2) (RawPointer 2) state ≡ Then (truth true) state
raw-without-type = refl

raw-in-another-object : compared_pointers around R.Gt here (RawPointer 2) (int_at 1) state ≡ undefined Ub.U09 here state
raw-in-another-object = refl

-- ---- differences

raw-to-second : difference here (RawPointer 1) (int_at 1) state ≡ Then (IntegerValue (negsuc 0)) state
raw-to-second = refl

greatest-difference : difference here (character_at (2 ^ 63 - 1)) (character_at 0) state ≡ Then (IntegerValue (pos (2 ^ 63 - 1))) state
greatest-difference = refl

no-long : difference here (character_at (2 ^ 63)) (character_at 0) state ≡ undefined Ub.U10 here state
no-long = refl

least-difference : difference here (RawPointer 3) (character_at (2 ^ 63)) state ≡ Then (IntegerValue (negsuc (2 ^ 63 - 1))) state
least-difference = refl

below-long : difference here (RawPointer 3) (character_at (2 ^ 63 + 1)) state ≡ undefined Ub.U10 here state
below-long = refl

-- ---- null

null-and-less : added here NullValue (negsuc 0) state ≡ undefined Ub.U17 here state
null-and-less = refl

null-and-nothing : added here NullValue (pos 0) state ≡ undefined Ub.U17 here state
null-and-nothing = refl

null-and-more : added here NullValue (pos 1) state ≡ undefined Ub.U17 here state
null-and-more = refl
