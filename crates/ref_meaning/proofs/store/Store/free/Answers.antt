use Rattle.std.proofs.Common.{◌≡◌, ℕ, true, false, true≢false, ◌++◌, [], ◌∷◌, None, refl, sym, ap, subst, ◌∙◌}
use Rattle.run_theory.specs.declared.place.Pos.{Pos}
use Rattle.run_theory.specs.declared.ends.UbKind.TheVariants as Ub
use Rattle.run_theory.specs.Runs.{Freed}
use Rattle.ref_semantics.specs.Values.{Name, Scalar, IntegerValue, NullValue, FunctionValue, PointerValue, RawPointer, Dead, place_of}
use Rattle.ref_semantics.specs.Store.{TypeEnvironment, State, Then, Eval, give, emit, with_objects, with_content, store_content, premise, unless, is_null_pointer}
use Rattle.ref_semantics.specs.Pointers.{access}
use Rattle.ref_semantics.specs.Library.{is_unfreeable, freed}
use Rattle.ref_meaning.specs.declared.value.Name as memory_name
use Rattle.ref_meaning.specs.declared.store.Store.{Store}
use Rattle.ref_meaning.specs.RefStore.Views.{name_of, scalar_in}
use Rattle.ref_meaning.specs.RefStore.Holding.{At, Comes, EvaluatesTo, IsUndefined, left, dead}
use Rattle.ref_meaning.proofs.Giving.{unless-fails, unless-holds, undefined-here}
use Rattle.ref_meaning.proofs.Updating.{Changes, at_changed, unheard}
use Rattle.ref_meaning.proofs.Writing.{quiet_access}
use Rattle.ref_meaning.proofs.store.Store.free.Goals as goal

abbrev ends : Name → Eval Scalar
ends name = store_content name Dead (emit (access Freed name) (give NullValue))

freed_so : (around : TypeEnvironment) (here : Pos) (value : Scalar) → is_null_pointer value ≡ false
    → freed around here value ≡ with_objects (λ objects. unless here (premise (is_unfreeable around objects value) Ub.U11 ∷ []) (store_content (place_of value).name Dead (emit (access Freed (place_of value).name) (give NullValue))))
freed_so around here NullValue not_null = absurd (true≢false not_null)
freed_so around here (IntegerValue value) not_null = refl
freed_so around here (FunctionValue name) not_null = refl
freed_so around here (PointerValue place) not_null = refl
freed_so around here (RawPointer number) not_null = refl

is_undefined : (around : TypeEnvironment) (here : Pos) (value : Scalar) (state : State) → is_null_pointer value ≡ false → is_unfreeable around state.objects value ≡ true → IsUndefined (freed around here value) state Ub.U11 here
is_undefined around here value state not_null fails = subst (λ eval. IsUndefined eval state Ub.U11 here) (sym (freed_so around here value not_null))
    (undefined-here _ state Ub.U11 here (λ units input. unless-fails here (is_unfreeable around state.objects value) Ub.U11 [] (ends (place_of value).name) (left units input state) fails))

abbrev after : State → Name → State
after state name = record state { objects = with_content name Dead state.objects; trace = state.trace ++ access Freed name }

does : (around : TypeEnvironment) (here : Pos) (value : Scalar) (state : State) → is_null_pointer value ≡ false → is_unfreeable around state.objects value ≡ false
    → EvaluatesTo (freed around here value) state NullValue (after state (place_of value).name)
does around here value state not_null holds = λ units input.
    ap (λ eval. eval (left units input state)) (freed_so around here value not_null) ∙ unless-holds here (is_unfreeable around state.objects value) Ub.U11 [] (ends (place_of value).name) (left units input state) holds

comes : (around : TypeEnvironment) (here : Pos) (value : Scalar) (store new : Store) (base : ℕ) (state : State) (name : memory_name.Name) → name_of name ≡ (place_of value).name → is_null_pointer value ≡ false
    → is_unfreeable around state.objects value ≡ false → Changes name None store.objects new.objects → At around store base state
    → Comes around (record store { objects = new.objects }) base (freed around here value) state NullValue
comes around here value store new base state name same not_null holds changes at = record {
  after = after state (name_of name);
  does = λ units input. does around here value state not_null holds units input ∙ ap (λ n. Then NullValue (left units input (after state n))) (sym same);
  at = at_changed around store base state new name None Dead (state.trace ++ access Freed (name_of name)) changes dead at;
  quiet = unheard state.trace (access Freed (name_of name)) (quiet_access Freed (λ number. refl) (name_of name));
}

pub returns-then-is_unfreeable-clause-gives : goal.returns-then-is_unfreeable-clause-gives
returns-then-is_unfreeable-clause-gives c = λ around base state at.
    let table = c.args.self.now.types.now in
    is_undefined around c.args.here (scalar_in table c.args.value) state (sym (c.is_null.ensures table) ∙ c.if-is_null.false) (sym (c.is_unfreeable.ensures around base state at) ∙ c.if-is_unfreeable.true)

pub returns-clause-gives : goal.returns-clause-gives
returns-clause-gives c = λ around base state at.
    let self = c.args.self.now in
    let table = self.types.now in
    comes around c.args.here (scalar_in table c.args.value) self (record self { objects = c.swap_remove.new.self }) base state c.place.result.name (ap (λ place. place.name) (c.place.ensures.means table))
    (sym (c.is_null.ensures table) ∙ c.if-is_null.false) (sym (c.is_unfreeable.ensures around base state at) ∙ c.if-is_unfreeable.false) c.swap_remove.ensures.updates.0 at
