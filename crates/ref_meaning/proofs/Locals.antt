-- A local begins to live.
use Rattle.std.proofs.Common.{◌≡◌, ℕ, suc, ◌≤◌, false, List, [], ◌∷◌, ◌++◌, length, drop, reverse, Option, Some, Result, Ok, is_ok, if◌then◌else◌, sym, ap, subst, ◌∙◌}
use Rattle.std.proofs.lemmas.List.{drop-append-le, reverse-append}
use Rattle.run_theory.specs.Runs.{Trace}
use Rattle.c_typed.specs.Types.{CType}
use Rattle.c_typed.specs.Table.{type_in}
use Rattle.c_typed.specs.declared.c_type.CType as memory_type
use Rattle.ref_semantics.specs.Values.{LocalObject, Scalar, Elements}
use Rattle.ref_semantics.specs.Store.{TypeEnvironment, State, with_content}
use Rattle.ref_meaning.specs.declared.value.Name.TheVariants as N
use Rattle.ref_meaning.specs.declared.object.Content.TheVariants as C
use Rattle.ref_meaning.specs.declared.object.Elements as memory_elements
use Rattle.ref_meaning.specs.declared.store.Store.{Store}
use Rattle.ref_meaning.specs.Fitting.{ElementsStand}
use Rattle.ref_meaning.specs.RefStore.Holding.{At, AllHeld, ContentIs, elements}
use Rattle.ref_meaning.proofs.Updating.{Changes, all_changed}

pub grown : (base number : ℕ) (had new : List ℕ) → base ≤ length had → new ≡ had ++ (number ∷ []) → number ∷ reverse (drop base had) ≡ reverse (drop base new)
grown base number had new within more =
    sym (ap (λ locals. reverse (drop base locals)) more ∙ (ap reverse (drop-append-le base had (number ∷ []) within) ∙ reverse-append (drop base had) (number ∷ [])))

pub pushed : {E : Type 0} (result : Result (Unit {0}) E) (had before after : List ℕ) (number : ℕ) (done : Unit {0}) → after ≡ (if is_ok result then before ++ (number ∷ []) else before) → result ≡ Ok done → before ≡ had
    → after ≡ had ++ (number ∷ [])
pushed result had before after number done is ok same = is ∙ λ i. if is_ok (ok i) then same i ++ (number ∷ []) else same i

-- with one more local
abbrev pub living : State → ℕ → CType → (ℕ → Option Scalar) → Trace → State
living state number c_type held trace =
    record state { objects = with_content (LocalObject number) (Elements false c_type 1 held) state.objects; locals = number ∷ state.locals; next_local = suc number; trace = trace }

pub at_living : (around : TypeEnvironment) (store new : Store) (base : ℕ) (state : State) (row : memory_elements.Elements) (c_type : memory_type.CType) (held : ℕ → Option Scalar) (trace : Trace) → base ≤ length store.locals.items
    → row.is_static ≡ false → row.c_type ≡ c_type → row.count ≡ 1 → ElementsStand store.types.now c_type 1 → AllHeld store.types.now row.held held
    → new.next_local ≡ suc store.next_local → new.locals.items ≡ store.locals.items ++ (store.next_local ∷ []) → Changes (N.Own store.next_local) (Some (C.Elements row)) store.objects new.objects
    → At around store base state → At around (record store { objects = new.objects; locals = new.locals; next_local = new.next_local }) base (living state store.next_local (type_in store.types.now c_type) held trace)
at_living around store new base state row c_type held trace within is_static typed one stands all next locals changes at = record {
  structs = at.structs;
  completed = at.completed;
  objects = all_changed store.types.now store.objects new.objects state.objects (N.Own store.next_local) (Some (C.Elements row)) (Elements false (type_in store.types.now c_type) 1 held) changes content at.objects;
  locals = ap (λ others. store.next_local ∷ others) at.locals ∙ grown base store.next_local store.locals.items new.locals.items within locals;
  next_local = sym next;
  next_heap = at.next_heap;
}
  where
    content : ContentIs store.types.now (Some (C.Elements row)) (Elements false (type_in store.types.now c_type) 1 held)
    content = subst (ContentIs store.types.now (Some (C.Elements row))) (λ i. Elements (is_static i) (type_in store.types.now (typed i)) (one i) held)
        (elements row held (subst (ElementsStand store.types.now row.c_type) (sym one) (subst (λ t. ElementsStand store.types.now t 1) (sym typed) stands)) all)
