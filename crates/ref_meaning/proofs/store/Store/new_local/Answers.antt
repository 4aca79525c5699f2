use Rattle.std.proofs.Common.{◌≡◌, ℕ, suc, ◌≤◌, false, [], ◌∷◌, ◌++◌, length, None, Some, refl, sym, ap, subst, ◌∙◌, add-one}
use Rattle.c_typed.specs.Table.{type_in}
use Rattle.c_typed.specs.declared.c_type.CType as memory_type
use Rattle.ref_semantics.specs.Values.{LocalObject, object_place}
use Rattle.ref_semantics.specs.Store.{TypeEnvironment, State, Then}
use Rattle.ref_semantics.specs.Meaning.{new_local}
use Rattle.ref_meaning.specs.declared.value.Name.TheVariants as N
use Rattle.ref_meaning.specs.declared.value.Place as memory_place
use Rattle.ref_meaning.specs.declared.object.Content.TheVariants as C
use Rattle.ref_meaning.specs.declared.object.Elements as memory_elements
use Rattle.ref_meaning.specs.declared.store.Store.{Store}
use Rattle.ref_meaning.specs.RefStore.Views.{place_in}
use Rattle.ref_meaning.specs.Fitting.{ElementsStand}
use Rattle.ref_meaning.proofs.Fitting.{object_alone, whole_fits, first_stands}
use Rattle.ref_meaning.specs.RefStore.Holding.{At, AllHeld, Comes, left}
use Rattle.ref_meaning.proofs.Updating.{Changes, none_held}
use Rattle.ref_meaning.proofs.Locals.{living, at_living, pushed}
use Rattle.ref_meaning.proofs.store.Store.new_local.Goals as goal

begins : (around : TypeEnvironment) (store new : Store) (base : ℕ) (state : State) (row : memory_elements.Elements) (c_type : memory_type.CType) (place : memory_place.Place) → base ≤ length store.locals.items
    → row.is_static ≡ false → row.c_type ≡ c_type → row.count ≡ 1 → ElementsStand store.types.now c_type 1 → AllHeld store.types.now row.held (λ offset. None)
    → new.next_local ≡ suc store.next_local → new.locals.items ≡ store.locals.items ++ (store.next_local ∷ []) → Changes (N.Own store.next_local) (Some (C.Elements row)) store.objects new.objects
    → place ≡ record { name = N.Own store.next_local; row = record { start = 0; c_type = row.c_type; count = row.count }; index = 0 }
    → At around store base state → Comes around (record store { objects = new.objects; locals = new.locals; next_local = new.next_local }) base (new_local (type_in store.types.now c_type)) state (place_in store.types.now place)
begins around store new base state row c_type place within is_static typed one stands none next locals changes first at = record {
  after = after store.next_local;
  does = λ units input. ap (λ number. Then (object_place (LocalObject number) (type_in store.types.now c_type)) (left units input (after number))) at.next_local ∙ ap (λ p. Then p (left units input (after store.next_local))) (sym same);
  at = at_living around store new base state row c_type (λ offset. None) state.trace within is_static typed one stands none next locals changes at;
  quiet = refl;
}
  where
    after : ℕ → State
    after number = living state number (type_in store.types.now c_type) (λ offset. None) state.trace

    same : place_in store.types.now place ≡ object_place (LocalObject store.next_local) (type_in store.types.now c_type)
    same = ap (place_in store.types.now) first ∙ (λ i. record { name = LocalObject store.next_local; row = record { start = 0; c_type = type_in store.types.now (typed i); count = one i }; index = 0 })

pub returns-clause-made : goal.returns-clause-made
returns-clause-made c = λ around base state within at.
    let self = c.args.self.now in
    let new = c.new-elements in
    let locals = pushed c.push.result self.locals.items c.reserve.new.self.items c.push.new.self.items self.next_local c.unwrap.result c.push.ensures.items c.unwrap.ensures c.in_ok-reserve.ensures.items in
    begins around self (record self { objects = c.insert.new.self; locals = c.push.new.self; next_local = c.in-Some.next }) base state new.result c.args.c_type c.first.result within new.ensures.is_static new.ensures.c_type
    new.ensures.count (object_alone self.types.now c.args.c_type c.requires) (none_held self.types.now new.result.held new.ensures.held) (c.in-Some.ensures.1 ∙ add-one self.next_local) locals c.in_ok-insert.ensures.updates.0
    (c.first.ensures ∙ ap (λ r. record { name = N.Own self.next_local; row = r; index = 0 }) c.row-row.ensures) at

pub returns-clause-stands : goal.returns-clause-stands
returns-clause-stands c =
    let table = c.args.self.now.types.now in
    let made = c.new-elements in
    let stand = subst (ElementsStand table made.result.c_type) (sym made.ensures.count) (subst (λ t. ElementsStand table t 1) (sym made.ensures.c_type) (object_alone table c.args.c_type c.requires)) in
    first_stands table c.first.result (N.Own c.args.self.now.next_local) (record { start = 0; c_type = made.result.c_type; count = made.result.count })
    (c.first.ensures ∙ ap (λ r. record { name = N.Own c.args.self.now.next_local; row = r; index = 0 }) c.row-row.ensures)
    stand.0 (whole_fits table made.result.c_type made.result.count stand)
