-- Evaluations that are undefined where a premise fails, and give a value where none does.
use Rattle.std.proofs.Common.{◌≡◌, ℕ, Bool, true, false, not, ◌&&◌, ◌||◌, ◌==◌, ◌/◌, ◌%◌, if◌then◌else◌, List, [], ◌∷◌, None, ℤ, ◌-ℤ◌, refl, sym, subst}
use Rattle.run_theory.specs.declared.place.Pos.{Pos}
use Rattle.run_theory.specs.declared.ends.UbKind.{UbKind}
use Rattle.run_theory.specs.declared.ends.UbKind.TheVariants as Ub
use Rattle.c_num.specs.declared.Relation.{Relation}
use Rattle.c_num.specs.declared.IntType.TheVariants as I
use Rattle.c_num.specs.Types.{is_value}
use Rattle.c_num.specs.Arith.{compare_of}
use Rattle.c_typed.specs.Types.{CType, same_type, is_like_void}
use Rattle.ref_semantics.specs.Values as V
use Rattle.ref_semantics.specs.Values.{Heap, Scalar, IntegerValue, NullValue, FunctionValue, PointerValue, RawPointer, place_of, at_index, first_of_row, whole_row}
use Rattle.ref_semantics.specs.Store as S
use Rattle.ref_semantics.specs.Store.{TypeEnvironment, Outcome, Then, Eval, Premise, premise, give, undefined, unless, store_content, with_content, size_of, is_dead_pointer, is_null_pointer}
use Rattle.ref_semantics.specs.Pointers.{truth, index_moved, is_negative, is_above, or_zero, is_equality, truth_of_equality, are_equal, is_end_beside, are_in_one_row, index_of, tested, added, compared_pointers, difference, retyped, of_allocation, repointed}
use Rattle.tac_ir.specs.States as M
use Rattle.tac_ir.specs.Code.{Tac}
use Rattle.tac_simulation.proofs.Paths.{Stand, Does, stray}

-- it gives a value, or is undefined
pub data Guards {A : Type 0} : Outcome A → Type 0 where
  goes : (value : A) (s : S.State) → Guards (Then value s)
  strays : (kind : UbKind) (here : Pos) (s : S.State) → Guards (undefined kind here s)

pub guarded_does : {A : Type 0} {tac : Tac} {worth : ℕ} {Stands : Stand A} {start : M.State} {n lag slack : ℕ} (outcome : Outcome A) → Guards outcome
    → ((value : A) (s : S.State) → outcome ≡ Then value s → Does tac worth start n lag slack Stands (Then value s)) → Does tac worth start n lag slack Stands outcome
guarded_does _ (goes value s) next = next value s refl
guarded_does _ (strays kind here s) next = stray kind here s

-- the state is as before
pub from_same : {A : Type 0} {tac : Tac} {worth : ℕ} {Stands : Stand A} {start : M.State} {n lag slack : ℕ} (value : A) (s after : S.State) → after ≡ s
    → Does tac worth start n lag slack Stands (Then value s) → Does tac worth start n lag slack Stands (Then value after)
from_same {tac = tac} {worth} {Stands} {start} {n} {lag} {slack} value s after same does = subst (λ last. Does tac worth start n lag slack Stands (Then value last)) (sym same) does

if_guards : {A : Type 0} (b : Bool) (kind : UbKind) (here : Pos) (rest : Eval A) (s : S.State) → Guards (rest s) → Guards ((if b then undefined kind here else rest) s)
if_guards true kind here rest s guards = strays kind here s
if_guards false kind here rest s guards = guards

pub unless_guards : {A : Type 0} (here : Pos) (premises : List Premise) (rest : Eval A) (s : S.State) → Guards (rest s) → Guards (unless here premises rest s)
unless_guards here [] rest s guards = guards
unless_guards here (first ∷ others) rest s guards = if_guards first.fails first.kind here (unless here others rest) s (unless_guards here others rest s guards)

pub tested_guards : (here : Pos) (value : Scalar) (s : S.State) → Guards (tested here value s)
tested_guards here value s =
    unless_guards here (premise (is_dead_pointer s.objects value) Ub.U06 ∷ []) (give (truth (not (is_null_pointer value)))) s (goes (truth (not (is_null_pointer value))) s)

pub added_guards : (here : Pos) (value : Scalar) (z : ℤ) (s : S.State) → Guards (added here value z s)
added_guards here value z s =
    let index = index_moved (place_of value).index z in
    let moved = PointerValue (at_index (place_of value) (or_zero (index_moved (place_of value).index z))) in
    unless_guards here
    (premise (is_dead_pointer s.objects value) Ub.U06
    ∷ premise (not (is_null_pointer value) && (is_negative index || is_above (place_of value).row.count index)) Ub.U08
    ∷ premise (is_null_pointer value) Ub.U17 ∷ [])
    (give moved) s (goes moved s)

pub compared_guards : (around : TypeEnvironment) (relation : Relation) (here : Pos) (a b : Scalar) (s : S.State) → Guards (compared_pointers around relation here a b s)
compared_guards around relation here a b s =
    let test = if is_equality relation then truth_of_equality relation (are_equal around a b) else truth (compare_of relation (index_of a) (index_of b)) in
    unless_guards here
    (premise (is_dead_pointer s.objects a || is_dead_pointer s.objects b) Ub.U06
    ∷ premise (if is_equality relation then is_end_beside a b else not (are_in_one_row s.objects a b)) Ub.U09 ∷ [])
    (give test) s (goes test s)

pub difference_guards : (here : Pos) (a b : Scalar) (s : S.State) → Guards (difference here a b s)
difference_guards here a b s =
    unless_guards here
    (premise (is_dead_pointer s.objects a || is_dead_pointer s.objects b) Ub.U06
    ∷ premise (not (are_in_one_row s.objects a b)) Ub.U10
    ∷ premise (not (is_value I.Long (index_of a -ℤ index_of b))) Ub.U10 ∷ [])
    (give (IntegerValue (index_of a -ℤ index_of b))) s (goes (IntegerValue (index_of a -ℤ index_of b)) s)

either_guards : {A : Type 0} (b : Bool) (first second : Eval A) (s : S.State) → Guards (first s) → Guards (second s) → Guards ((if b then first else second) s)
either_guards true first second s one other = one
either_guards false first second s one other = other

allocation_guards : (around : TypeEnvironment) (here : Pos) (target : CType) (number : ℕ) (content : V.Content) (s : S.State) → Guards (of_allocation around here target number content s)
allocation_guards around here target number V.Dead s = strays Ub.U06 here s
allocation_guards around here target number (V.Raw size) s =
    let own = size_of around target in
    let first = PointerValue (first_of_row (Heap number) (whole_row target (size / size_of around target))) in
    let content = V.Elements false target (size / size_of around target) (λ offset. None) in
    unless_guards here (premise (not (size % own == 0)) Ub.U13 ∷ []) (store_content (Heap number) content (give first)) s
    (goes first (record s { objects = with_content (Heap number) content s.objects }))
allocation_guards around here target number (V.Elements is_static c_type count held) s =
    let first = PointerValue (first_of_row (Heap number) (whole_row c_type count)) in
    unless_guards here (premise (not (same_type c_type target)) Ub.U12 ∷ []) (give first) s (goes first s)

retyped_guards : (around : TypeEnvironment) (here : Pos) (target : CType) (value : Scalar) (s : S.State) → Guards (retyped around here target value s)
retyped_guards around here target (IntegerValue z) s = goes (IntegerValue z) s
retyped_guards around here target NullValue s = goes NullValue s
retyped_guards around here target (FunctionValue name) s = goes (FunctionValue name) s
retyped_guards around here target (PointerValue place) s = unless_guards here (premise (not (same_type place.row.c_type target)) Ub.U12 ∷ []) (give (PointerValue place)) s (goes (PointerValue place) s)
retyped_guards around here target (RawPointer number) s = allocation_guards around here target number (s.objects (Heap number)) s

pub repointed_guards : (around : TypeEnvironment) (here : Pos) (target : CType) (value : Scalar) (s : S.State) → Guards (repointed around here target value s)
repointed_guards around here target value s =
    unless_guards here (premise (is_dead_pointer s.objects value) Ub.U06 ∷ []) (if is_like_void around.completed target then give value else retyped around here target value) s
    (either_guards (is_like_void around.completed target) (give value) (retyped around here target value) s (goes value s) (retyped_guards around here target value s))
