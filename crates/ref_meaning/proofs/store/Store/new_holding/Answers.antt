use Rattle.std.proofs.Common.{◌≡◌, ℕ, suc, ◌+◌, ◌*◌, ◌≤◌, Bool, true, false, ◌==◌, if◌then◌else◌, [], ◌∷◌, ◌++◌, length, None, Some, refl, ap, ◌∙◌, zero-add, zero-mul, add-one, append-nil, eq-eqb}
use Rattle.run_theory.specs.declared.ends.UbKind.TheVariants as Ub
use Rattle.run_theory.specs.Runs.{output_of}
use Rattle.c_typed.specs.Types.{CType}
use Rattle.c_typed.specs.Table.{type_in}
use Rattle.c_typed.specs.declared.c_type.CType as memory_type
use Rattle.ref_semantics.specs.Values.{Name, LocalObject, Scalar, Content, Elements, same_name}
use Rattle.ref_semantics.specs.Store.{TypeEnvironment, Objects, State, Outcome, Then, continue_with, give, emit, store_content, premise, unless, is_dead, size_of, holding, with_content, with_scalar}
use Rattle.ref_semantics.specs.Meaning.{Completion, Normal}
use Rattle.ref_meaning.specs.declared.value.Name.TheVariants as N
use Rattle.ref_meaning.specs.declared.value.Scalar as memory_scalar
use Rattle.ref_meaning.specs.declared.object.Content.TheVariants as C
use Rattle.ref_meaning.specs.declared.object.Elements as memory_elements
use Rattle.ref_meaning.specs.declared.store.Store.{Store}
use Rattle.ref_meaning.specs.RefStore.Views.{scalar_in}
use Rattle.ref_meaning.specs.Fitting.{ElementsStand}
use Rattle.ref_meaning.proofs.Fitting.{object_alone}
use Rattle.ref_meaning.specs.RefStore.Holding.{At, AllHeld, Comes, left, new_local_of}
use Rattle.ref_meaning.proofs.Updating.{Changes, none_held}
use Rattle.ref_meaning.proofs.Locals.{living, at_living, pushed}
use Rattle.ref_meaning.proofs.Writing.{all_held}
use Rattle.ref_meaning.proofs.store.Store.new_holding.Goals as goal

twice : (name : Name) (last first : Content) (objects : Objects) → with_content name last (with_content name first objects) ≡ with_content name last objects
twice name last first objects = λ i other. by (same_name name other) (objects other) i
  where
    by : (b : Bool) (content : Content) → (if b then last else (if b then first else content)) ≡ (if b then last else content)
    by true content = refl
    by false content = refl

itself : (number : ℕ) → (number == number) ≡ true
itself number = eq-eqb number number refl

stored_at_once : (around : TypeEnvironment) (c_type : CType) (value : Scalar) (state : State) → new_local_of around c_type value state ≡ Then Normal (living state state.next_local c_type (with_scalar 0 value (λ offset. None)) (state.trace ++ []))
stored_at_once around c_type value state =
    ap (λ b. stored (if b then fresh else state.objects (LocalObject state.next_local)) (0 + 0 * size_of around c_type)) (itself state.next_local)
    ∙ (ap (stored fresh) (zero-add (0 * size_of around c_type) ∙ zero-mul (size_of around c_type))
    ∙ ap (λ objects. Then Normal (record begun { objects = objects; trace = state.trace ++ [] })) (twice (LocalObject state.next_local) (Elements false c_type 1 (with_scalar 0 value (λ offset. None))) fresh state.objects))
  where
    fresh : Content
    fresh = Elements false c_type 1 (λ offset. None)

    begun : State
    begun = living state state.next_local c_type (λ offset. None) state.trace

    stored : Content → ℕ → Outcome Completion
    stored content offset = continue_with (λ done. give Normal)
        (unless (record { line = 1; column = 1 }) (premise (is_dead content) Ub.U06 ∷ []) (store_content (LocalObject state.next_local) (holding offset value content) (emit [] (give value))) begun)

begins : (around : TypeEnvironment) (store new : Store) (base : ℕ) (state : State) (row : memory_elements.Elements) (c_type : memory_type.CType) (value : memory_scalar.Scalar) → base ≤ length store.locals.items
    → row.is_static ≡ false → row.c_type ≡ c_type → row.count ≡ 1 → ElementsStand store.types.now c_type 1 → AllHeld store.types.now row.held (with_scalar 0 (scalar_in store.types.now value) (λ offset. None))
    → new.next_local ≡ suc store.next_local → new.locals.items ≡ store.locals.items ++ (store.next_local ∷ []) → Changes (N.Own store.next_local) (Some (C.Elements row)) store.objects new.objects
    → At around store base state
    → Comes around (record store { objects = new.objects; locals = new.locals; next_local = new.next_local }) base (new_local_of around (type_in store.types.now c_type) (scalar_in store.types.now value)) state Normal
begins around store new base state row c_type value within is_static typed one stands all next locals changes at = record {
  after = after store.next_local;
  does = λ units input. stored_at_once around (type_in store.types.now c_type) (scalar_in store.types.now value) (left units input state) ∙ ap (λ number. Then Normal (left units input (after number))) at.next_local;
  at = at_living around store new base state row c_type (with_scalar 0 (scalar_in store.types.now value) (λ offset. None)) (state.trace ++ []) within is_static typed one stands all next locals changes at;
  quiet = ap output_of (append-nil state.trace);
}
  where
    after : ℕ → State
    after number = living state number (type_in store.types.now c_type) (with_scalar 0 (scalar_in store.types.now value) (λ offset. None)) (state.trace ++ [])

pub returns-clause-made : goal.returns-clause-made
returns-clause-made c = λ around base state within at.
    let self = c.args.self.now in
    let table = self.types.now in
    let new = c.new-elements in
    let row = c.hold.new.self in
    let locals = pushed c.push.result self.locals.items c.reserve.new.self.items c.push.new.self.items self.next_local c.unwrap.result c.push.ensures.items c.unwrap.ensures c.in_ok-reserve.ensures.items in
    let all = all_held table new.result.held row.held 0 c.args.value (λ offset. None) c.requires.value c.in_ok-hold.ensures.held (none_held table new.result.held new.ensures.held) in
    begins around self (record self { objects = c.insert.new.self; locals = c.push.new.self; next_local = c.in-Some.next }) base state row c.args.c_type c.args.value within
    (c.in_ok-hold.ensures.same.is_static ∙ new.ensures.is_static) (c.in_ok-hold.ensures.same.c_type ∙ new.ensures.c_type) (c.in_ok-hold.ensures.same.count ∙ new.ensures.count) (object_alone table c.args.c_type c.requires.c_type) all
    (c.in-Some.ensures.1 ∙ add-one self.next_local) locals c.in_ok-insert.ensures.updates.0 at
