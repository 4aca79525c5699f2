-- What operators do with pointers, the library, and the steps of statements never gain units.
use Rattle.std.proofs.Common.{◌≡◌, ℕ, zero, suc, Bool, true, false, if◌then◌else◌, List, [], ◌∷◌, length, Option, Some, None, Result, Ok, Err, ℤ, refl, subst, le_refl}
use Rattle.run_theory.specs.declared.place.Pos.{Pos}
use Rattle.run_theory.specs.declared.ends.UbKind.{UbKind}
use Rattle.run_theory.specs.declared.ends.UbKind.TheVariants as Ub
use Rattle.run_theory.specs.Runs.{Ended}
use Rattle.c_num.specs.declared.IntType.{IntType}
use Rattle.c_num.specs.declared.BinOp.{BinOp}
use Rattle.c_num.specs.declared.Relation.{Relation}
use Rattle.c_num.specs.declared.ArithUb.{ArithUb}
use Rattle.c_num.specs.Conversion.{convert_to}
use Rattle.c_num.specs.Arith.{outcome_of}
use Rattle.c_typed.specs.Types.{CType, is_like_void}
use Rattle.c_typed.specs.declared.typed.LibraryFunction.{LibraryFunction}
use Rattle.c_typed.specs.declared.typed.LibraryFunction.TheVariants as L
use Rattle.ref_semantics.specs.Values.{Name, Heap, Place, Scalar, NullValue, PointerValue, RawPointer, Content, Raw, Elements, integer_of}
use Rattle.ref_semantics.specs.Store.{TypeEnvironment, State, Outcome, Then, Stopped, Eval, undefined, is_dead, is_dead_pointer, scalar_at}
use Rattle.ref_semantics.specs.Pointers.{accessed, added, element, of_allocation, retyped, repointed, tested, compared_pointers, difference, loaded, read, write}
use Rattle.ref_semantics.specs.Library.{low_byte, natural_of, next_byte, allocated, freed, library}
use Rattle.ref_semantics.specs.Meaning.{kind_of, outcome_at, right_of, arithmetic, named, local_name, local_place, Completion, Normal, new_local, stored_first, leave, scoped, block_rest, bind, within_own}
use Rattle.ref_semantics.proofs.Shrinking.{Within, Shrinks, spends_shrinks, then_shrinks, give_shrinks, over_spends, undefined_spends, choice_shrinks}

-- a premise that fails stops, and else it goes on
premise_within : {A : Type 0} (state : State) (fails : Bool) (kind : UbKind) (here : Pos) (rest : Eval A) → Within state.units (rest state) → Within state.units ((if fails then undefined kind here else rest) state)
premise_within state true kind here rest h = tt
premise_within state false kind here rest h = h

-- ---- pointers

pub accessed_shrinks : (here : Pos) (pointer : Scalar) → Shrinks (accessed here pointer)
accessed_shrinks here pointer = record { from = λ state. search (premise_within, le_refl) }

pub added_shrinks : (here : Pos) (pointer : Scalar) (z : ℤ) → Shrinks (added here pointer z)
added_shrinks here pointer z = record { from = λ state. search (premise_within, le_refl) }

pub element_shrinks : (here : Pos) (pointer : Scalar) (z : ℤ) → Shrinks (element here pointer z)
element_shrinks here pointer z = record { from = λ state. search (premise_within, le_refl) }

of_allocation_shrinks : (around : TypeEnvironment) (here : Pos) (target : CType) (number : ℕ) (content : Content) → Shrinks (of_allocation around here target number content)
of_allocation_shrinks around here target number (Raw size) = record { from = λ state. search (premise_within, le_refl) }
of_allocation_shrinks around here target number (Elements is_static c_type count held) = record { from = λ state. search (premise_within, le_refl) }
of_allocation_shrinks around here target number content = spends_shrinks (undefined_spends Ub.U06 here)

retyped_shrinks : (around : TypeEnvironment) (here : Pos) (target : CType) (value : Scalar) → Shrinks (retyped around here target value)
retyped_shrinks around here target (RawPointer number) = record { from = λ state. (of_allocation_shrinks around here target number (state.objects (Heap number))).from state }
retyped_shrinks around here target (PointerValue place) = record { from = λ state. search (premise_within, le_refl) }
retyped_shrinks around here target value = give_shrinks value

pub repointed_shrinks : (around : TypeEnvironment) (here : Pos) (target : CType) (value : Scalar) → Shrinks (repointed around here target value)
repointed_shrinks around here target value = record {
  from = λ state.
      premise_within state (is_dead_pointer state.objects value) _ _ _
      ((choice_shrinks (is_like_void around.completed target) (give_shrinks value) (retyped_shrinks around here target value)).from state);
}

pub tested_shrinks : (here : Pos) (value : Scalar) → Shrinks (tested here value)
tested_shrinks here value = record { from = λ state. search (premise_within, le_refl) }

pub compared_pointers_shrinks : (around : TypeEnvironment) (relation : Relation) (here : Pos) (a b : Scalar) → Shrinks (compared_pointers around relation here a b)
compared_pointers_shrinks around relation here a b = record { from = λ state. search (premise_within, le_refl) }

pub difference_shrinks : (here : Pos) (a b : Scalar) → Shrinks (difference here a b)
difference_shrinks here a b = record { from = λ state. search (premise_within, le_refl) }

loaded_shrinks : (here : Pos) (name : Name) (held : Option Scalar) → Shrinks (loaded here name held)
loaded_shrinks here name (Some value) = record { from = λ state. le_refl state.units }
loaded_shrinks here name None = spends_shrinks (undefined_spends Ub.U04 here)

pub read_shrinks : (around : TypeEnvironment) (here : Pos) (place : Place) → Shrinks (read around here place)
read_shrinks around here place = record { from = λ state. premise_within state (is_dead (state.objects place.name)) _ _ _ ((loaded_shrinks here place.name (scalar_at around (state.objects place.name) place)).from state) }

pub write_shrinks : (around : TypeEnvironment) (here : Pos) (place : Place) (value : Scalar) → Shrinks (write around here place value)
write_shrinks around here place value = record { from = λ state. search (premise_within, le_refl) }

-- ---- the library

next_byte_shrinks : Shrinks next_byte
next_byte_shrinks = record { from = λ state. by state state.input refl }
  where
    by : (state : State) (input : List ℕ) → state.input ≡ input → Within state.units (next_byte state)
    by state [] e = rw e (le_refl state.units)
    by state (byte ∷ input) e = rw e (le_refl state.units)

allocated_shrinks : (size : ℕ) → Shrinks (allocated size)
allocated_shrinks zero = record { from = λ state. le_refl state.units }
allocated_shrinks (suc size) = record { from = λ state. le_refl state.units }

freed_shrinks : (around : TypeEnvironment) (here : Pos) (value : Scalar) → Shrinks (freed around here value)
freed_shrinks around here NullValue = give_shrinks NullValue
freed_shrinks around here (RawPointer number) = record { from = λ state. search (premise_within, le_refl) }
freed_shrinks around here (PointerValue place) = record { from = λ state. search (premise_within, le_refl) }
freed_shrinks around here value = record { from = λ state. tt }

pub library_shrinks : (around : TypeEnvironment) (function : LibraryFunction) (here : Pos) (given : List Scalar) → Shrinks (library around function here given)
library_shrinks around L.Malloc here (size ∷ []) = allocated_shrinks (natural_of (integer_of size))
library_shrinks around L.Free here (pointer ∷ []) = freed_shrinks around here pointer
library_shrinks around L.GetChar here [] = next_byte_shrinks
library_shrinks around L.PutChar here (value ∷ []) = record { from = λ state. le_refl state.units }
library_shrinks around L.Exit here (status ∷ []) = spends_shrinks (over_spends (Ended (low_byte status)))
library_shrinks around _ here _ = give_shrinks NullValue

-- ---- arithmetic

outcome_at_shrinks : (here : Pos) (result : Result ℤ ArithUb) → Shrinks (outcome_at here result)
outcome_at_shrinks here (Ok z) = give_shrinks _
outcome_at_shrinks here (Err kind) = spends_shrinks (undefined_spends (kind_of kind) here)

pub arithmetic_shrinks : (op : BinOp) (int_type : IntType) (here : Pos) (a b : Scalar) → Shrinks (arithmetic op int_type here a b)
arithmetic_shrinks op int_type here a b = outcome_at_shrinks here (outcome_of op int_type (convert_to int_type (integer_of a)) (right_of op int_type (integer_of b)))

-- ---- objects and locals

pub named_shrinks : (name : Name) → Shrinks (named name)
named_shrinks name = record { from = λ state. le_refl state.units }

pub local_place_shrinks : (number : ℕ) → Shrinks (local_place number)
local_place_shrinks number = record { from = λ state. by state (local_name state.locals number) refl }
  where
    by : (state : State) (found : Option Name) → local_name state.locals number ≡ found → Within state.units (local_place number state)
    by state (Some name) e = rw e (le_refl state.units)
    by state None e = rw e (le_refl state.units)

pub new_local_shrinks : (c_type : CType) → Shrinks (new_local c_type)
new_local_shrinks c_type = record { from = λ state. le_refl state.units }

pub stored_first_shrinks : (around : TypeEnvironment) (place : Place) (first : Option Scalar) → Shrinks (stored_first around place first)
stored_first_shrinks around place None = give_shrinks Normal
stored_first_shrinks around place (Some a) = then_shrinks (write_shrinks around (record { line = 1; column = 1 }) place a) (λ b. give_shrinks Normal)

pub bind_shrinks : (around : TypeEnvironment) (types : List CType) (given : List Scalar) → Shrinks (bind around types given)
bind_shrinks around (c_type ∷ types) (a ∷ given) = then_shrinks (new_local_shrinks c_type) (λ p. then_shrinks (stored_first_shrinks around p (Some a)) (λ way. bind_shrinks around types given))
bind_shrinks around (c_type ∷ types) [] = give_shrinks Normal
bind_shrinks around [] given = give_shrinks Normal

-- ---- the ends of statements

leave_shrinks : (way : Completion) (count : ℕ) → Shrinks (leave way count)
leave_shrinks way count = record { from = λ state. le_refl state.units }

pub scoped_shrinks : {inside : Eval Completion} → Shrinks inside → Shrinks (scoped inside)
scoped_shrinks h = record { from = λ state. (then_shrinks h (λ way. leave_shrinks way (length state.locals))).from state }

pub block_rest_shrinks : (way : Completion) {rest : Eval Completion} → Shrinks rest → Shrinks (block_rest way rest)
block_rest_shrinks Normal h = h
block_rest_shrinks way h = give_shrinks way

pub within_own_shrinks : {inside : Eval Completion} → Shrinks inside → Shrinks (within_own inside)
within_own_shrinks {inside = inside} h = record { from = λ state. by state (inside (record state { locals = [] })) refl }
  where
    by : (state : State) (outcome : Outcome Completion) → inside (record state { locals = [] }) ≡ outcome → Within state.units (within_own inside state)
    by state (Then way after) e = rw e (subst (λ o. Within state.units o) e (h.from (record state { locals = [] })))
    by state (Stopped answer after) e = rw e tt
