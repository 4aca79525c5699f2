-- The library (C17 7.21.7, 7.22.3, 7.22.4.4).
use Rattle.std.specs.Prelude.{ℕ, zero, suc, ◌%◌, Bool, true, false, not, ◌||◌, ◌==◌, List, [], ◌∷◌, ℤ, pos, negsuc, neg_ℤ}
use Rattle.run_theory.specs.declared.place.Pos.{Pos}
use Rattle.run_theory.specs.declared.ends.UbKind.TheVariants as Ub
use Rattle.run_theory.specs.Runs.{Output, Allocated, Freed, Ended}
use Rattle.c_num.specs.Conversion.{modulo}
use Rattle.c_typed.specs.declared.typed.LibraryFunction.{LibraryFunction}
use Rattle.c_typed.specs.declared.typed.LibraryFunction.TheVariants as L
use Rattle.ref_semantics.specs.Values.{Name, Heap, Scalar, IntegerValue, NullValue, PointerValue, RawPointer, Dead, Raw, place_of, integer_of}
use Rattle.ref_semantics.specs.Store.{TypeEnvironment, Objects, Outcome, Then, Eval, give, halt, emit, with_objects, store_content, premise, unless, is_dead, offset_of}
use Rattle.ref_semantics.specs.Pointers.{access}

abbrev pub low_byte : Scalar → ℕ
low_byte value = modulo (integer_of value) 256

abbrev pub natural_of : ℤ → ℕ
natural_of (pos n) = n
natural_of (negsuc n) = 0

-- the next byte of the input, or -1 at its end
abbrev pub next_byte : Eval Scalar
next_byte state = by state.input
  where
    by : List ℕ → Outcome Scalar
    by [] = Then (IntegerValue (neg_ℤ (pos 1))) state
    by (byte ∷ input) = Then (IntegerValue (pos (byte % 256))) (record state { input = input })

abbrev pub written : ℕ → Eval Scalar
written byte = emit (Output byte ∷ []) (give (IntegerValue (pos byte)))

-- no byte has no object
abbrev pub allocated : ℕ → Eval Scalar
allocated zero state = Then NullValue state
allocated (suc size) state =
    store_content (Heap state.next_heap) (Raw (suc size)) (emit (Allocated state.next_heap (suc size) ∷ []) (give (RawPointer state.next_heap))) (record state { next_heap = suc state.next_heap })

abbrev pub is_heap : Name → Bool
is_heap (Heap number) = true
is_heap _ = false

-- not the first byte of a living allocation
abbrev pub is_unfreeable : TypeEnvironment → Objects → Scalar → Bool
is_unfreeable around objects (RawPointer number) = is_dead (objects (Heap number))
is_unfreeable around objects (PointerValue place) = not (is_heap place.name) || (is_dead (objects place.name) || not (offset_of around place == 0))
is_unfreeable around objects _ = true

abbrev pub freed : TypeEnvironment → Pos → Scalar → Eval Scalar
freed around here NullValue = give NullValue
freed around here value = with_objects (λ objects.
    let name = (place_of value).name in
    unless here (premise (is_unfreeable around objects value) Ub.U11 ∷ []) (store_content name Dead (emit (access Freed name) (give NullValue))))

abbrev pub library : TypeEnvironment → LibraryFunction → Pos → List Scalar → Eval Scalar
library around L.Malloc here (size ∷ []) = allocated (natural_of (integer_of size))
library around L.Free here (pointer ∷ []) = freed around here pointer
library around L.GetChar here [] = next_byte
library around L.PutChar here (value ∷ []) = written (low_byte value)
library around L.Exit here (status ∷ []) = halt (Ended (low_byte status))
library around _ here _ = give NullValue
