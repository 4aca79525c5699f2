-- What follows a first operand, from what is found.
use Rattle.std.proofs.Common.{◌≡◌, ℕ, Result, Ok, Err, IfOk, IfErr, refl, sym, ap, subst, ◌∙◌}
use Rattle.c_typed.specs.declared.typed.Value as memory_value
use Rattle.c_typed.specs.declared.typed.Object as memory_object
use Rattle.c_typed.specs.Table.{Interned}
use Rattle.c_typed.specs.Views.{value_in, object_in}
use Rattle.ref_semantics.specs.Values.{Scalar, Place, PointerValue}
use Rattle.ref_semantics.specs.Store.{TypeEnvironment, State, Eval, Then, ◌>>=◌, give}
use Rattle.ref_semantics.specs.Parts as parts
use Rattle.ref_meaning.specs.declared.store.Store.{Store}
use Rattle.ref_meaning.specs.declared.value.Stop.{Stop}
use Rattle.ref_meaning.specs.declared.value.Stop.TheVariants as T
use Rattle.ref_meaning.specs.declared.value.Place as memory_place
use Rattle.ref_meaning.specs.declared.value.Scalar as memory_scalar
use Rattle.ref_meaning.specs.RefStore.Views.{place_in, scalar_in, ScalarStands}
use Rattle.ref_meaning.specs.RefStore.Holding.{At, CallGives, Comes, left}
use Rattle.ref_meaning.proofs.Giving.{comes-bind, comes-same, undefined-behind, undefined-first}
use Rattle.ref_meaning.specs.declared.first_operand.Next as memory_next
use Rattle.ref_meaning.specs.Doing.{next_in, NextStands}
use Rattle.ref_meaning.specs.Nexts.{scalar_next, place_next}

module _ (around : TypeEnvironment) (base : ℕ) where
  -- ---- one call behind another

  -- one call behind another that leaves the store as it is
  pub gives-behind : {A C D : Type 0} (old new : Store) (view : D → C) (first : Eval A) (next : A → Eval C) (a : A) (r : Result D Stop)
      → ((state : State) → At around old base state → Comes around old base first state a) → CallGives around old new base view (next a) r
      → CallGives around old new base view (first >>= next) r
  gives-behind old new view first next a (Ok value) one two = λ state at.
      let c = one state at in
      comes-bind around old new base first next state a (view value) c (two c.after c.at)
  gives-behind old new view first next a (Err (T.Undefined kind place)) one two = λ state at.
      let c = one state at in
      undefined-behind first next state c.after a kind place c.does c.quiet (two c.after c.at)
  gives-behind old new view first next a (Err T.OutOfMemory) one two = two

  -- the first of two stops
  pub gives-first : {A C D E : Type 0} (old new : Store) (view : E → A) (view' : D → C) (first : Eval A) (next : A → Eval C) (stop : Stop)
      → CallGives {A = A} {B = E} around old new base view first (Err stop) → CallGives {A = C} {B = D} around old new base view' (first >>= next) (Err stop)
  gives-first old new view view' first next (T.Undefined kind place) h = λ state at. undefined-first first next state kind place (h state at)
  gives-first old new view view' first next T.OutOfMemory h = h

  -- a value that depends on what comes first
  pub comes-then : {A C : Type 0} (old new : Store) (first : Eval A) (f : A → C) (a : A) (c : C) → f a ≡ c → ((state : State) → At around old base state → Comes around new base first state a)
      → (state : State) → At around old base state → Comes around new base (first >>= λ x. give (f x)) state c
  comes-then old new first f a c is one = λ state at.
      let done = one state at in
      comes-bind around new new base first (λ x. give (f x)) state a c done
      (comes-same around new base (give (f a)) done.after c (λ units input. ap (λ x. Then x (left units input done.after)) is) done.at)

  -- ---- what is next

  pub gives-scalar : (old new : Store) (table : Interned) (eval : Eval Scalar) (r : Result memory_scalar.Scalar Stop) → CallGives around old new base (scalar_in table) eval r
      → CallGives around old new base (next_in table) (parts.comes eval) (scalar_next r)
  gives-scalar old new table eval (Ok a) h = comes-then old new eval (λ x. parts.Comes x) (scalar_in table a) (parts.Comes (scalar_in table a)) refl h
  gives-scalar old new table eval (Err stop) h = gives-first old new (scalar_in table) (next_in table) eval (λ x. give (parts.Comes x)) stop h

  pub gives-place : (old new : Store) (table : Interned) (eval : Eval Place) (r : Result memory_place.Place Stop) → CallGives around old new base (place_in table) eval r
      → CallGives around old new base (next_in table) (eval >>= λ p. give (parts.Comes (PointerValue p))) (place_next r)
  gives-place old new table eval (Ok p) h = comes-then old new eval (λ x. parts.Comes (PointerValue x)) (place_in table p) (parts.Comes (PointerValue (place_in table p))) refl h
  gives-place old new table eval (Err stop) h = gives-first old new (place_in table) (next_in table) eval (λ p. give (parts.Comes (PointerValue p))) stop h

  -- a place that is known where the program is
  pub gives-found : (store : Store) (target : Place) (r : Result memory_place.Place Stop)
      → ((state : State) → At around store base state → IfOk r (λ p. place_in store.types.now p ≡ target)) → IfErr r (λ e. e ≡ T.OutOfMemory)
      → CallGives around store store base (next_in store.types.now) (give (parts.Comes (PointerValue target))) (place_next r)
  gives-found store target (Ok p) found only = λ state at.
      comes-same around store base (give (parts.Comes (PointerValue target))) state (parts.Comes (PointerValue (place_in store.types.now p)))
      (λ units input. ap (λ q. Then (parts.Comes (PointerValue q)) (left units input state)) (sym (found state at))) at
  gives-found store target (Err stop) found only =
      subst (λ (e : Stop). CallGives around store store base (next_in store.types.now) (give (parts.Comes (PointerValue target))) (Err e)) (sym only) (λ state at. at)

  -- what changes nothing
  pub gives-next : (store : Store) (eval : Eval parts.Next) (next : memory_next.Next) → eval ≡ give (next_in store.types.now next)
      → CallGives around store store base (next_in store.types.now) eval (Ok next)
  gives-next store eval next is = λ state at.
      comes-same around store base eval state (next_in store.types.now next) (λ units input. ap (λ e. e (left units input state)) is) at

  pub gives-is : {A B : Type 0} (old new : Store) (view : B → A) (eval eval' : Eval A) (r r' : Result B Stop) → eval' ≡ eval → r' ≡ r
      → CallGives around old new base view eval r → CallGives around old new base view eval' r'
  gives-is old new view eval eval' r r' same is h =
      subst (λ x. CallGives around old new base view eval' x) (sym is) (subst (λ e. CallGives around old new base view e r) (sym same) h)

-- ---- what an operator does, by its form

module _ (around : TypeEnvironment) (base : ℕ) (store : Store) (a : memory_scalar.Scalar) where
  abbrev pub table : Interned
  table = store.types.now

  module _ {F : Type 0} (nexts : F → Eval parts.Next) (v w : F) (is : v ≡ w) where
    pub form-next : (next : memory_next.Next) → nexts w ≡ give (next_in table next) → CallGives around store store base (next_in table) (nexts v) (Ok next)
    form-next next same = gives-next around base store (nexts v) next (ap nexts is ∙ same)

    pub form-scalar : (new : Store) (eval : Eval Scalar) (r : Result memory_scalar.Scalar Stop) (r' : Result memory_next.Next Stop) → nexts w ≡ parts.comes eval → r' ≡ scalar_next r
        → CallGives around store new base (scalar_in table) eval r → CallGives around store new base (next_in table) (nexts v) r'
    form-scalar new eval r r' same result h =
        gives-is around base store new (next_in table) (parts.comes eval) (nexts v) (scalar_next r) r' (ap nexts is ∙ same) result (gives-scalar around base store new table eval r h)

    pub form-place : (eval : Eval Place) (r : Result memory_place.Place Stop) (r' : Result memory_next.Next Stop) → nexts w ≡ (eval >>= λ p. give (parts.Comes (PointerValue p))) → r' ≡ place_next r
        → CallGives around store store base (place_in table) eval r → CallGives around store store base (next_in table) (nexts v) r'
    form-place eval r r' same result h =
        gives-is around base store store (next_in table) (eval >>= λ p. give (parts.Comes (PointerValue p))) (nexts v) (place_next r) r' (ap nexts is ∙ same) result
        (gives-place around base store store table eval r h)

    pub form-found : (target : Place) (r : Result memory_place.Place Stop) (r' : Result memory_next.Next Stop) → nexts w ≡ give (parts.Comes (PointerValue target)) → r' ≡ place_next r
        → ((state : State) → At around store base state → IfOk r (λ p. place_in table p ≡ target)) → IfErr r (λ e. e ≡ T.OutOfMemory)
        → CallGives around store store base (next_in table) (nexts v) r'
    form-found target r r' same result found only =
        gives-is around base store store (next_in table) (give (parts.Comes (PointerValue target))) (nexts v) (place_next r) r' (ap nexts is ∙ same) result
        (gives-found around base store target r found only)

    pub form-behind : {A : Type 0} (first : Eval A) (next : A → Eval parts.Next) (x : A) (r : Result memory_next.Next Stop) → nexts w ≡ (first >>= next)
        → ((state : State) → At around store base state → Comes around store base first state x) → CallGives around store store base (next_in table) (next x) r
        → CallGives around store store base (next_in table) (nexts v) r
    form-behind first next x r same one two =
        gives-is around base store store (next_in table) (first >>= next) (nexts v) r r (ap nexts is ∙ same) refl (gives-behind around base store store (next_in table) first next x r one two)

    pub form-first : {A E : Type 0} (view : E → A) (first : Eval A) (next : A → Eval parts.Next) (stop : Stop) → nexts w ≡ (first >>= next)
        → CallGives {A = A} {B = E} around store store base view first (Err stop) → CallGives {A = parts.Next} {B = memory_next.Next} around store store base (next_in table) (nexts v) (Err stop)
    form-first view first next stop same h =
        gives-is around base store store (next_in table) (first >>= next) (nexts v) (Err stop) (Err stop) (ap nexts is ∙ same) refl (gives-first around base store store view (next_in table) first next stop h)

  abbrev pub value_nexts : memory_value.Value → Eval parts.Next
  value_nexts v = parts.value_next around (value_in table v) (scalar_in table a)

  abbrev pub object_nexts : memory_object.Object → Eval parts.Next
  object_nexts object = parts.object_next around (object_in table object) (scalar_in table a)

-- ---- types stand

pub scalar_next-stands : (table : Interned) (r : Result memory_scalar.Scalar Stop) → IfOk r (ScalarStands table) → IfOk (scalar_next r) (NextStands table)
scalar_next-stands _ (Ok a) h = h
scalar_next-stands _ (Err stop) h = tt

pub stands-is : (table : Interned) (r r' : Result memory_next.Next Stop) → r' ≡ r → IfOk r (NextStands table) → IfOk r' (NextStands table)
stands-is table r r' is h = subst (λ x. IfOk x (NextStands table)) (sym is) h
