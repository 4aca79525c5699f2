-- What operators do with pointers, the library, and the steps of statements do the same with more units.
use Rattle.std.proofs.Common.{◌≡◌, ℕ, zero, suc, Bool, true, false, if◌then◌else◌, List, [], ◌∷◌, length, Option, Some, None, Result, Ok, Err, ℤ, refl, sym, subst, ap, ◌∙◌}
use Rattle.run_theory.specs.declared.place.Pos.{Pos}
use Rattle.run_theory.specs.declared.ends.UbKind.{UbKind}
use Rattle.run_theory.specs.declared.ends.UbKind.TheVariants as Ub
use Rattle.run_theory.specs.Runs.{Answer, Going, Over, Ended, Output, Allocated, IsPrefix}
use Rattle.c_num.specs.declared.IntType.{IntType}
use Rattle.c_num.specs.declared.BinOp.{BinOp}
use Rattle.c_num.specs.declared.Relation.{Relation}
use Rattle.c_num.specs.declared.ArithUb.{ArithUb}
use Rattle.c_num.specs.Conversion.{convert_to}
use Rattle.c_num.specs.Arith.{outcome_of}
use Rattle.c_typed.specs.Types.{CType, is_like_void}
use Rattle.c_typed.specs.declared.typed.LibraryFunction.{LibraryFunction}
use Rattle.c_typed.specs.declared.typed.LibraryFunction.TheVariants as L
use Rattle.ref_semantics.specs.Values.{Name, Heap, Place, Scalar, NullValue, PointerValue, RawPointer, Content, Raw, Elements, integer_of}
use Rattle.ref_semantics.specs.Store.{TypeEnvironment, State, Outcome, Then, Stopped, Eval, undefined, scalar_at}
use Rattle.ref_semantics.specs.Pointers.{accessed, added, element, of_allocation, retyped, repointed, tested, compared_pointers, difference, loaded, read, write}
use Rattle.ref_semantics.specs.Library.{low_byte, natural_of, next_byte, allocated, freed, library}
use Rattle.ref_semantics.specs.Meaning.{kind_of, outcome_at, right_of, arithmetic, named, local_name, local_place, Completion, Normal, new_local, stored_first, leave, scoped, block_rest, bind, within_own, killed}
use Rattle.ref_semantics.proofs.Budgets.{with_more, trace_in, Later, Lawful, prefix_refl, prefix_more, then_lawful, give_lawful, over_lawful, undefined_lawful, choice_lawful, with_objects_lawful, store_content_lawful, happened_lawful}

-- a premise that fails stops, and else it goes on
premise_later : {A : Type 0} (state : State) (more : ℕ) (fails : Bool) (kind : UbKind) (here : Pos) (rest : Eval A) → Later more (rest state) (rest (with_more more state))
    → Later more ((if fails then undefined kind here else rest) state) ((if fails then undefined kind here else rest) (with_more more state))
premise_later state more true kind here rest h = refl
premise_later state more false kind here rest h = h

premise_keeps : {A : Type 0} (state : State) (fails : Bool) (kind : UbKind) (here : Pos) (rest : Eval A) → IsPrefix state.trace (trace_in (rest state)) → IsPrefix state.trace (trace_in ((if fails then undefined kind here else rest) state))
premise_keeps state true kind here rest h = prefix_refl state.trace
premise_keeps state false kind here rest h = h

-- ---- pointers

pub accessed_lawful : (here : Pos) (pointer : Scalar) → Lawful (accessed here pointer)
accessed_lawful here pointer = record { later = λ state more. search (premise_later); keeps = λ state. search (premise_keeps, prefix_refl) }

pub added_lawful : (here : Pos) (pointer : Scalar) (z : ℤ) → Lawful (added here pointer z)
added_lawful here pointer z = record { later = λ state more. search (premise_later); keeps = λ state. search (premise_keeps, prefix_refl) }

pub element_lawful : (here : Pos) (pointer : Scalar) (z : ℤ) → Lawful (element here pointer z)
element_lawful here pointer z = record { later = λ state more. search (premise_later); keeps = λ state. search (premise_keeps, prefix_refl) }

of_allocation_lawful : (around : TypeEnvironment) (here : Pos) (target : CType) (number : ℕ) (content : Content) → Lawful (of_allocation around here target number content)
of_allocation_lawful around here target number (Raw size) = record { later = λ state more. search (premise_later); keeps = λ state. search (premise_keeps, prefix_refl) }
of_allocation_lawful around here target number (Elements is_static c_type count held) = choice_lawful _ (undefined_lawful _ here) (give_lawful _)
of_allocation_lawful around here target number content = undefined_lawful Ub.U06 here

retyped_lawful : (around : TypeEnvironment) (here : Pos) (target : CType) (value : Scalar) → Lawful (retyped around here target value)
retyped_lawful around here target (RawPointer number) = with_objects_lawful (λ objects. of_allocation_lawful around here target number (objects (Heap number)))
retyped_lawful around here target (PointerValue place) = choice_lawful _ (undefined_lawful _ here) (give_lawful _)
retyped_lawful around here target value = give_lawful value

pub repointed_lawful : (around : TypeEnvironment) (here : Pos) (target : CType) (value : Scalar) → Lawful (repointed around here target value)
repointed_lawful around here target value =
    with_objects_lawful (λ objects. choice_lawful _ (undefined_lawful _ here) (choice_lawful (is_like_void around.completed target) (give_lawful value) (retyped_lawful around here target value)))

pub tested_lawful : (here : Pos) (value : Scalar) → Lawful (tested here value)
tested_lawful here value = with_objects_lawful (λ objects. choice_lawful _ (undefined_lawful _ here) (give_lawful _))

pub compared_pointers_lawful : (around : TypeEnvironment) (relation : Relation) (here : Pos) (a b : Scalar) → Lawful (compared_pointers around relation here a b)
compared_pointers_lawful around relation here a b = record { later = λ state more. search (premise_later); keeps = λ state. search (premise_keeps, prefix_refl) }

pub difference_lawful : (here : Pos) (a b : Scalar) → Lawful (difference here a b)
difference_lawful here a b = record { later = λ state more. search (premise_later); keeps = λ state. search (premise_keeps, prefix_refl) }

loaded_lawful : (here : Pos) (name : Name) (held : Option Scalar) → Lawful (loaded here name held)
loaded_lawful here name (Some value) = happened_lawful _ (give_lawful value)
loaded_lawful here name None = undefined_lawful Ub.U04 here

pub read_lawful : (around : TypeEnvironment) (here : Pos) (place : Place) → Lawful (read around here place)
read_lawful around here place = with_objects_lawful (λ objects. choice_lawful _ (undefined_lawful _ here) (loaded_lawful here place.name (scalar_at around (objects place.name) place)))

pub write_lawful : (around : TypeEnvironment) (here : Pos) (place : Place) (value : Scalar) → Lawful (write around here place value)
write_lawful around here place value = with_objects_lawful (λ objects. choice_lawful _ (undefined_lawful _ here) (store_content_lawful _ _ (happened_lawful _ (give_lawful value))))

-- ---- the library

next_byte_lawful : Lawful next_byte
next_byte_lawful = record { later = λ state more. later state state.input refl more; keeps = λ state. keeps state state.input refl }
  where
    later : (state : State) (input : List ℕ) → state.input ≡ input → (more : ℕ) → Later more (next_byte state) (next_byte (with_more more state))
    later state [] e more = rw e refl
    later state (byte ∷ input) e more = rw e refl

    keeps : (state : State) (input : List ℕ) → state.input ≡ input → IsPrefix state.trace (trace_in (next_byte state))
    keeps state [] e = rw e (prefix_refl state.trace)
    keeps state (byte ∷ input) e = rw e (prefix_refl state.trace)

allocated_lawful : (size : ℕ) → Lawful (allocated size)
allocated_lawful zero = record { later = λ state more. refl; keeps = λ state. prefix_refl state.trace }
allocated_lawful (suc size) = record { later = λ state more. refl; keeps = λ state. prefix_more state.trace (Allocated state.next_heap (suc size) ∷ []) }

freed_lawful : (around : TypeEnvironment) (here : Pos) (value : Scalar) → Lawful (freed around here value)
freed_lawful around here NullValue = give_lawful NullValue
freed_lawful around here (RawPointer number) = record { later = λ state more. search (premise_later); keeps = λ state. search (premise_keeps, prefix_more) }
freed_lawful around here (PointerValue place) = record { later = λ state more. search (premise_later); keeps = λ state. search (premise_keeps, prefix_more) }
freed_lawful around here value = record { later = λ state more. refl; keeps = λ state. prefix_refl state.trace }

pub library_lawful : (around : TypeEnvironment) (function : LibraryFunction) (here : Pos) (given : List Scalar) → Lawful (library around function here given)
library_lawful around L.Malloc here (size ∷ []) = allocated_lawful (natural_of (integer_of size))
library_lawful around L.Free here (pointer ∷ []) = freed_lawful around here pointer
library_lawful around L.GetChar here [] = next_byte_lawful
library_lawful around L.PutChar here (value ∷ []) = happened_lawful (Output (low_byte value) ∷ []) (give_lawful _)
library_lawful around L.Exit here (status ∷ []) = over_lawful (Ended (low_byte status))
library_lawful around _ here _ = give_lawful NullValue

-- ---- arithmetic

outcome_at_lawful : (here : Pos) (result : Result ℤ ArithUb) → Lawful (outcome_at here result)
outcome_at_lawful here (Ok z) = give_lawful _
outcome_at_lawful here (Err kind) = undefined_lawful (kind_of kind) here

pub arithmetic_lawful : (op : BinOp) (int_type : IntType) (here : Pos) (a b : Scalar) → Lawful (arithmetic op int_type here a b)
arithmetic_lawful op int_type here a b = outcome_at_lawful here (outcome_of op int_type (convert_to int_type (integer_of a)) (right_of op int_type (integer_of b)))

-- ---- objects and locals

pub named_lawful : (name : Name) → Lawful (named name)
named_lawful name = with_objects_lawful (λ objects. give_lawful _)

pub local_place_lawful : (number : ℕ) → Lawful (local_place number)
local_place_lawful number = record { later = λ state more. later state (local_name state.locals number) refl more; keeps = λ state. keeps state (local_name state.locals number) refl }
  where
    later : (state : State) (found : Option Name) → local_name state.locals number ≡ found → (more : ℕ) → Later more (local_place number state) (local_place number (with_more more state))
    later state (Some name) e more = rw e refl
    later state None e more = rw e refl

    keeps : (state : State) (found : Option Name) → local_name state.locals number ≡ found → IsPrefix state.trace (trace_in (local_place number state))
    keeps state (Some name) e = rw e (prefix_refl state.trace)
    keeps state None e = rw e (prefix_refl state.trace)

pub new_local_lawful : (c_type : CType) → Lawful (new_local c_type)
new_local_lawful c_type = record { later = λ state more. refl; keeps = λ state. prefix_refl state.trace }

pub stored_first_lawful : (around : TypeEnvironment) (place : Place) (first : Option Scalar) → Lawful (stored_first around place first)
stored_first_lawful around place None = give_lawful Normal
stored_first_lawful around place (Some a) = then_lawful (write_lawful around (record { line = 1; column = 1 }) place a) (λ b. give_lawful Normal)

pub bind_lawful : (around : TypeEnvironment) (types : List CType) (given : List Scalar) → Lawful (bind around types given)
bind_lawful around (c_type ∷ types) (a ∷ given) = then_lawful (new_local_lawful c_type) (λ p. then_lawful (stored_first_lawful around p (Some a)) (λ way. bind_lawful around types given))
bind_lawful around (c_type ∷ types) [] = give_lawful Normal
bind_lawful around [] given = give_lawful Normal

-- ---- the ends of statements

pub leave_lawful : (way : Completion) (count : ℕ) → Lawful (leave way count)
leave_lawful way count = record { later = λ state more. refl; keeps = λ state. prefix_refl state.trace }

pub scoped_lawful : {inside : Eval Completion} → Lawful inside → Lawful (scoped inside)
scoped_lawful h = record {
  later = λ state more. (then_lawful h (λ way. leave_lawful way (length state.locals))).later state more;
  keeps = λ state. (then_lawful h (λ way. leave_lawful way (length state.locals))).keeps state;
}

pub block_rest_lawful : (way : Completion) {rest : Eval Completion} → Lawful rest → Lawful (block_rest way rest)
block_rest_lawful Normal h = h
block_rest_lawful way h = give_lawful way

-- what comes of an evaluation comes of one that changes what it comes to
same_behind : {A B : Type 0} (more : ℕ) (change : Outcome A → Outcome B) → ((value : A) (after : State) → Later more (change (Then value after)) (change (Then value (with_more more after))))
    → ((answer : Answer) (after : State) → change (Stopped answer after) ≡ Stopped answer after) → ((outcome : Outcome A) → trace_in (change outcome) ≡ trace_in outcome)
    → (outcome later : Outcome A) → Later more outcome later → Later more (change outcome) (change later)
same_behind more change each stopped trace (Then value after) later h = subst (λ o. Later more (change (Then value after)) (change o)) (sym h) (each value after)
same_behind more change each stopped trace (Stopped (Over final events) after) later h =
    subst (λ o. Later more o (change later)) (sym (stopped (Over final events) after)) (ap change h ∙ stopped (Over final events) (with_more more after))
same_behind more change each stopped trace (Stopped (Going events) after) later h =
    subst (λ o. Later more o (change later)) (sym (stopped (Going events) after)) (subst (λ t. IsPrefix events t) (sym (trace later)) h.0, h.1)

-- a function's own locals die, and those of its caller are in scope again
abbrev back : List ℕ → Outcome Completion → Outcome Completion
back locals (Then way after) = Then way (record after { objects = killed 0 after.locals after.objects; locals = locals })
back locals (Stopped answer after) = Stopped answer after

back_trace : (locals : List ℕ) (outcome : Outcome Completion) → trace_in (back locals outcome) ≡ trace_in outcome
back_trace locals (Then way after) = refl
back_trace locals (Stopped answer after) = refl

within_is : (inside : Eval Completion) (state : State) (outcome : Outcome Completion) → inside (record state { locals = [] }) ≡ outcome → within_own inside state ≡ back state.locals outcome
within_is inside state (Then way after) e = rw e refl
within_is inside state (Stopped answer after) e = rw e refl

pub within_own_lawful : {inside : Eval Completion} → Lawful inside → Lawful (within_own inside)
within_own_lawful {inside} h = record {
  later = λ state more.
      let own = record state { locals = [] } in
      subst (λ o. Later more o (within_own inside (with_more more state))) (sym (within_is inside state (inside own) refl))
      (subst (λ o. Later more (back state.locals (inside own)) o) (sym (within_is inside (with_more more state) (inside (with_more more own)) refl))
      (same_behind more (back state.locals) (λ way after. refl) (λ answer after. refl) (back_trace state.locals) (inside own) (inside (with_more more own)) (h.later own more)));
  keeps = λ state.
      let own = record state { locals = [] } in
      subst (λ t. IsPrefix state.trace t) (sym (ap trace_in (within_is inside state (inside own) refl) ∙ back_trace state.locals (inside own))) (h.keeps own);
}
