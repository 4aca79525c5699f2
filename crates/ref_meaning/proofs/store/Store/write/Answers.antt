use Rattle.std.proofs.Common.{◌≡◌, ℕ, true, false, true≢false, ◌++◌, [], Option, Some, None, Result, Ok, Err, IsErrAnd, IsSome, refl, sym, subst, ◌∙◌}
use Rattle.indexmap.specs.IndexMap.{IndexMap, get, get_by}
use Rattle.run_theory.specs.declared.place.Pos.{Pos}
use Rattle.run_theory.specs.declared.ends.UbKind.TheVariants as Ub
use Rattle.run_theory.specs.Runs.{Stored}
use Rattle.c_typed.specs.Table.{Interned}
use Rattle.ref_semantics.specs.Values as V
use Rattle.ref_semantics.specs.Store.{TypeEnvironment, State, Eval, give, emit, with_content, store_content, is_dead, offset_of, holding}
use Rattle.ref_semantics.specs.Pointers.{access, write}
use Rattle.ref_meaning.specs.declared.value.Name.{Name}
use Rattle.ref_meaning.specs.declared.value.Place.{Place}
use Rattle.ref_meaning.specs.declared.value.Scalar.{Scalar}
use Rattle.ref_meaning.specs.declared.value.Stop.{Stop}
use Rattle.ref_meaning.specs.declared.value.Stop.TheVariants as T
use Rattle.ref_meaning.specs.declared.object.Content as memory_content
use Rattle.ref_meaning.specs.declared.store.Store.{Store}
use Rattle.ref_meaning.specs.contracts.value.NamePartialEq.TheImpl.{eq-value}
use Rattle.ref_meaning.specs.RefStore.Views.{name_of, same_memory, place_in, scalar_in}
use Rattle.ref_meaning.specs.RefStore.Holding.{At, Comes, ContentIs, dead, CallGives, IsUndefined, left}
use Rattle.ref_meaning.proofs.Giving.{unless-fails, unless-holds, undefined-here}
use Rattle.ref_meaning.proofs.Names.{get_name}
use Rattle.ref_meaning.proofs.Updating.{Changes, at_changed, at_kept, unheard}
use Rattle.ref_meaning.proofs.Writing.{quiet_access}
use Rattle.ref_meaning.proofs.Wanting.{out_where, errors}
use Rattle.ref_meaning.proofs.store.Store.write.Goals as goal

abbrev stores : TypeEnvironment → V.Place → V.Scalar → V.Content → Eval V.Scalar
stores around place value content = store_content place.name (holding (offset_of around place) value content) (emit (access Stored place.name) (give value))

is_undefined : (around : TypeEnvironment) (here : Pos) (place : V.Place) (value : V.Scalar) (state : State) → is_dead (state.objects place.name) ≡ true → IsUndefined (write around here place value) state Ub.U06 here
is_undefined around here place value state fails =
    undefined-here (write around here place value) state Ub.U06 here (λ units input. unless-fails here (is_dead (state.objects place.name)) Ub.U06 [] (stores around place value (state.objects place.name)) (left units input state) fails)

comes : (around : TypeEnvironment) (here : Pos) (store new : Store) (base : ℕ) (state : State) (place : Place) (value : Scalar) (memory : memory_content.Content) → is_dead (state.objects (name_of place.name)) ≡ false
    → Changes place.name (Some memory) store.objects new.objects
    → ContentIs store.types.now (Some memory) (holding (offset_of around (place_in store.types.now place)) (scalar_in store.types.now value) (state.objects (name_of place.name))) → At around store base state
    → Comes around (record store { objects = new.objects }) base (write around here (place_in store.types.now place) (scalar_in store.types.now value)) state (scalar_in store.types.now value)
comes around here store new base state place value memory alive changes is at = record {
  after = record state { objects = with_content name content state.objects; trace = state.trace ++ access Stored name };
  does = λ units input. unless-holds here (is_dead (state.objects name)) Ub.U06 [] (stores around (place_in store.types.now place) (scalar_in store.types.now value) (state.objects name)) (left units input state) alive;
  at = at_changed around store base state new place.name (Some memory) content (state.trace ++ access Stored name) changes is at;
  quiet = unheard state.trace (access Stored name) (quiet_access Stored (λ number. refl) name);
}
  where
    name : V.Name
    name = name_of place.name

    content : V.Content
    content = holding (offset_of around (place_in store.types.now place)) (scalar_in store.types.now value) (state.objects name)

-- what is found stands for what the state holds
there : {S : Type 0} (table : Interned) (map : IndexMap Name memory_content.Content S) (name : Name) (memory : Option memory_content.Content) (content : V.Content) → memory ≡ get eq-value.it map name
    → ContentIs table (get_by (same_memory name) map) content → ContentIs table memory content
there table map name memory content found is = subst (λ m. ContentIs table m content) (sym (found ∙ get_name map name)) is

alive_is_there : (table : Interned) (content : V.Content) → is_dead content ≡ false → ContentIs table None content → ⊥
alive_is_there table content alive dead = absurd (true≢false alive)

memory_out : {A B : Type 0} (around : TypeEnvironment) (old new : Store) (base : ℕ) (view : B → A) (eval : Eval A) (result : Result B Stop) → IsErrAnd result (λ e. e ≡ T.OutOfMemory)
    → ((state : State) → At around old base state → At around new base state) → CallGives around old new base view eval result
memory_out around old new base view eval (Ok value) out kept = absurd out
memory_out around old new base view eval (Err stop) out kept = subst (λ e. CallGives around old new base view eval (Err e)) (sym out) kept

pub returns-then-is_dead-clause-gives : goal.returns-then-is_dead-clause-gives
returns-then-is_dead-clause-gives c = λ around base state at.
    let table = c.args.self.now.types.now in
    is_undefined around c.args.here (place_in table c.args.place) (scalar_in table c.args.value) state (sym (c.is_dead.ensures around base state at) ∙ c.if-is_dead.true)

pub returns-in_err-hold-clause-gives : goal.returns-in_err-hold-clause-gives
returns-in_err-hold-clause-gives c = λ around base.
    let self = c.args.self.now in
    let new = record self { objects = c.get_mut.follows.lender c.hold.new.self } in
    memory_out around self new base _ _ c.from_residual.result c.from_residual.ensures.1 (λ state at.
    at_kept around self base state new c.args.place.name (Some c.hold.new.self) ((c.get_mut.follows.holds c.hold.new.self).3 (subst (λ o. IsSome o) c.in-Some.ensures.value refl)).0
    (c.in_err-hold.ensures.err self.types.now (state.objects (name_of c.args.place.name)) (there self.types.now self.objects c.args.place.name (Some c.in-Some.content.now) (state.objects (name_of c.args.place.name)) c.in-Some.ensures.value (at.objects c.args.place.name))) at)

pub returns-in_ok-hold-clause-gives : goal.returns-in_ok-hold-clause-gives
returns-in_ok-hold-clause-gives c = λ around base state at.
    let self = c.args.self.now in
    let table = self.types.now in
    let place = c.args.place in
    let content = state.objects (name_of place.name) in
    let is = there table self.objects place.name (Some c.in-Some.content.now) content c.in-Some.ensures.value (at.objects place.name) in
    comes around c.args.here self (record self { objects = c.get_mut.follows.lender c.hold.new.self }) base state place c.args.value c.hold.new.self (sym (c.is_dead.ensures around base state at) ∙ c.if-is_dead.false)
    ((c.get_mut.follows.holds c.hold.new.self).3 (subst (λ o. IsSome o) c.in-Some.ensures.value refl)).0
    (subst (λ offset. ContentIs table (Some c.hold.new.self) (holding offset (scalar_in table c.args.value) content)) (c.offset-offset.ensures around at.structs) (c.in_ok-hold.ensures.held table content c.requires.value is)) at

pub returns-in_default-clause-gives : goal.returns-in_default-clause-gives
returns-in_default-clause-gives c = λ around base state at.
    let self = c.args.self.now in
    let content = state.objects (name_of c.args.place.name) in
    absurd (alive_is_there self.types.now content (sym (c.is_dead.ensures around base state at) ∙ c.if-is_dead.false)
    (there self.types.now self.objects c.args.place.name None content c.in_default.ensures.value (at.objects c.args.place.name)))

pub returns-in_err-hold-clause-want : goal.returns-in_err-hold-clause-want
returns-in_err-hold-clause-want c = λ around base state at. errors _ c.from_residual.result (λ stop. out_where _ stop (sym (c.is_dead.ensures around base state at) ∙ c.if-is_dead.false))
