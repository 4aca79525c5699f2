-- A parameter gets its value, or the body of the function is entered.
use Rattle.std.proofs.Common.{◌≡◌, ℕ, zero, suc, ◌+◌, ◌-◌, ◌≤◌, ◌<◌, List, [], ◌∷◌, ◌++◌, length, map, drop, take, reverse, slice_get, slice_index_or, Option, Some, None, Result, Ok, Err, refl, sym, ap, subst, ◌∙◌, arith, add-one, length-append}
use Rattle.std.proofs.lemmas.List.{reverse-append, reverse-reverse, length-reverse, take-append-le, drop_all}
use Rattle.std.proofs.lemmas.Option.{slice_get_read, none-some, same_Some}
use Rattle.std.specs.Result.{IsErrAnd}
use Rattle.c_typed.specs.declared.c_type.CType as memory_type
use Rattle.c_typed.specs.Typed.{FunctionDef}
use Rattle.c_typed.specs.Table.{Interned, type_in}
use Rattle.ref_semantics.specs.Values.{Scalar}
use Rattle.ref_semantics.specs.Store.{Eval, State, give}
use Rattle.ref_semantics.specs.Meaning.{Normal}
use Rattle.ref_semantics.specs.Parts.{BodyPart}
use Rattle.ref_semantics.specs.Steps as steps
use Rattle.ref_semantics.specs.Steps.{Config}
use Rattle.ref_semantics.specs.Units as units
use Rattle.ref_meaning.specs.declared.value.Scalar as memory_scalar
use Rattle.ref_meaning.specs.declared.store.Store.{Store}
use Rattle.ref_meaning.specs.RefStore.Views.{scalar_in, ScalarStands}
use Rattle.ref_meaning.specs.RefStore.Holding.{At, Comes, new_local_of}
use Rattle.ref_meaning.specs.declared.control.Control.{Control}
use Rattle.ref_meaning.specs.declared.control.Node as memory_node
use Rattle.ref_meaning.specs.declared.control.Node.TheVariants as N
use Rattle.ref_meaning.specs.declared.control.Task.TheVariants as K
use Rattle.ref_meaning.specs.declared.run.Halt.{Halt}
use Rattle.ref_meaning.specs.declared.run.Halt.TheVariants as H
use Rattle.ref_meaning.specs.declared.run.RefRun.{RefRun}
use Rattle.ref_meaning.specs.Views.{config_in, around_run, functions_of, table_of, operands_of, operands_after, stack_of, part_in, task_in, frames_in, function_of, newest}
use Rattle.ref_meaning.specs.Holding.{IsConsistent, NodeStands, TaskFits, TaskFinds, Awaits, ScalarsStand, FramesHold, IsBody}
use Rattle.ref_meaning.specs.Doing.{acting}
use Rattle.ref_meaning.specs.Moving.{Moves, Becomes, Arrives}
use Rattle.ref_meaning.proofs.Binding.{last-taken, drop-there, get-dropped, get-mapped, bound-types, bound-given}
use Rattle.ref_meaning.proofs.Moves.{Alters, behind-alters, alters-config, alters-holds, alters-stays, arrives-behind}

-- ---- the newest operands

scalars-append : (table : Interned) (xs ys : List memory_scalar.Scalar) → ScalarsStand table xs → ScalarsStand table ys → ScalarsStand table (xs ++ ys)
scalars-append table [] ys one two = two
scalars-append table (x ∷ xs) ys one two = (one.0, scalars-append table xs ys one.1 two)

scalars-reverse : (table : Interned) (xs : List memory_scalar.Scalar) → ScalarsStand table xs → ScalarsStand table (reverse xs)
scalars-reverse table [] stands = tt
scalars-reverse table (x ∷ xs) stands = subst (ScalarsStand table) (sym (reverse-append (x ∷ []) xs)) (scalars-append table (reverse xs) (x ∷ []) (scalars-reverse table xs stands.1) (stands.0, tt))

scalar-there : (table : Interned) (xs : List memory_scalar.Scalar) (n : ℕ) (x : memory_scalar.Scalar) → slice_get xs n ≡ Some x → ScalarsStand table xs → ScalarStands table x
scalar-there table [] n x h stands = absurd (none-some x h)
scalar-there table (first ∷ others) zero x h stands = subst (ScalarStands table) (same_Some first x h) stands.0
scalar-there table (first ∷ others) (suc n) x h stands = scalar-there table others n x h stands.1

module _ (table : Interned) (items : List memory_scalar.Scalar) (count number : ℕ) where
  -- the one of this number
  module _ (all : ℕ) (x : memory_scalar.Scalar) (at : x ≡ slice_index_or items (all - count + number) x) (less : number < count) (there : count ≤ length (reverse items)) (all-is : all ≡ length items) where
    within : all - count + number < length items
    within = omega (arith, less, subst (λ n. count ≤ n) (length-reverse items) there, all-is)

    operand-is : slice_get items (all - count + number) ≡ Some x
    operand-is = slice_get_read items (length items) (all - count + number) x refl within at

    pub operand-stands : ScalarsStand table (reverse items) → ScalarStands table x
    operand-stands stands = scalar-there table items (all - count + number) x operand-is (subst (ScalarsStand table) (reverse-reverse items) (scalars-reverse table (reverse items) stands))

    pub operand-next : drop number (newest table count (reverse items)) ≡ scalar_in table x ∷ drop (suc number) (newest table count (reverse items))
    operand-next = drop-there (newest table count (reverse items)) number (scalar_in table x)
        (ap (λ l. slice_get (map (scalar_in table) l) number) (last-taken items count (subst (λ n. count ≤ n) (length-reverse items) there))
        ∙ get-mapped (scalar_in table) (drop (length items - count) items) number x
        (get-dropped items (length items - count) number ∙ (ap (λ n. slice_get items (n - count + number)) (sym all-is) ∙ operand-is)))

few-mapped : {X Y : Type 0} (f : X → Y) (xs : List X) → length (map f xs) ≡ length xs
few-mapped f [] = refl
few-mapped f (x ∷ xs) = ap suc (few-mapped f xs)

few-taken : {X : Type 0} (n : ℕ) (xs : List X) → length (take n xs) ≤ n
few-taken zero xs = omega arith
few-taken (suc n) [] = omega arith
few-taken (suc n) (x ∷ xs) = omega (arith, few-taken n xs)

-- none is left
pub operands-past : (table : Interned) (operands : List memory_scalar.Scalar) (count number : ℕ) → count ≤ number → drop number (newest table count operands) ≡ []
operands-past table operands count number past =
    drop_all number (newest table count operands)
    (omega (arith, past, few-taken count operands, few-mapped (scalar_in table) (reverse (take count operands)) ∙ length-reverse (take count operands)))

-- ---- the types of parameters

pub drop-past : {X : Type 0} (items : List X) (number : ℕ) → slice_get items number ≡ None → drop number items ≡ []
drop-past [] zero h = refl
drop-past [] (suc number) h = refl
drop-past (first ∷ others) zero h = absurd (none-some first (sym h))
drop-past (first ∷ others) (suc number) h = drop-past others number h

pub none-of : {X : Type 0} (r : Option X) → ((x : X) → r ≡ Some x → ⊥) → r ≡ None
none-of None h = refl
none-of (Some x) h = absurd (h x refl)

-- ---- what is bound

body-part : (table : Interned) (node : memory_node.Node) → IsBody node → BodyPart (function_of (part_in table node)) ≡ part_in table node
body-part table (N.Body function) body = refl
body-part table (N.Value v) body = absurd body
body-part table (N.Object object) body = absurd body
body-part table (N.Address object) body = absurd body
body-part table (N.Designator function) body = absurd body
body-part table (N.Stmt s) body = absurd body
body-part table N.Nothing body = absurd body

pub body-enters : (table : Interned) (node : memory_node.Node) (operands : ℕ) → IsBody node → TaskFits table node operands K.Enter
body-enters table (N.Body function) operands body = tt
body-enters table (N.Value v) operands body = absurd body
body-enters table (N.Object object) operands body = absurd body
body-enters table (N.Address object) operands body = absurd body
body-enters table (N.Designator function) operands body = absurd body
body-enters table (N.Stmt s) operands body = absurd body
body-enters table N.Nothing operands body = absurd body

module _ (old : RefRun) (node : memory_node.Node) (count number : ℕ) (is : old.control ≡ record { node = node; task = K.Bind count number }) (holds : IsConsistent old) where
  abbrev bound : FunctionDef
  bound = function_of (part_in (table_of old) node)

  abbrev given : List Scalar
  given = newest (table_of old) count (operands_of old)

  acting-bind : acting old ≡ steps.bind_next (around_run old) (functions_of old) bound (drop number bound.parameters) (drop number given) (config_in old)
  acting-bind = ap {A = Control} (λ control. units.act (around_run old) (functions_of old) (task_in (table_of old) (operands_of old) (part_in (table_of old) control.node) control.task) (config_in old)) is

  pub bind-fits : IsBody node × (count ≤ length (operands_of old))
  bind-fits = subst (λ control. TaskFits (table_of old) control.node (length (operands_of old)) control.task) is holds.task

  pub bind-node : NodeStands (table_of old) node
  bind-node = subst (λ control. NodeStands (table_of old) control.node) is holds.node

  pub bind-after : operands_after old.control.task (operands_of old) ≡ drop count (operands_of old)
  bind-after = ap (λ control. operands_after control.task (operands_of old)) is

  pub unawaited : Awaits (stack_of old) → ⊥
  unawaited awaits = subst (λ control. TaskFinds (table_of old) control.node control.task) is (holds.found.0 awaits)

  -- the body is entered
  abbrev entering : Config
  entering = record (config_in old) { task = steps.Enter (part_in (table_of old) node) }

  enters-part : give (steps.enters (around_run old) (functions_of old) (BodyPart bound) (config_in old)) ≡ give entering
  enters-part = ap (λ part. give (record (config_in old) { task = steps.Enter part })) (body-part (table_of old) node bind-fits.0)

  pub all-bound : count ≤ number → acting old ≡ give (record (config_in old) { task = steps.Enter (part_in (table_of old) node) })
  all-bound past =
      acting-bind
      ∙ (bound-given (around_run old) (functions_of old) bound (drop number bound.parameters) (drop number given) (config_in old) (operands-past (table_of old) (operands_of old) count number past) ∙ enters-part)

  pub no-parameter : slice_get (function_of (part_in (table_of old) node)).parameters number ≡ None → acting old ≡ give (record (config_in old) { task = steps.Enter (part_in (table_of old) node) })
  no-parameter none =
      acting-bind
      ∙ (bound-types (around_run old) (functions_of old) bound (drop number bound.parameters) (drop number given) (config_in old) (drop-past bound.parameters number none) ∙ enters-part)

  -- one more gets its value
  module _ (new : RefRun) (mid : Store) (c_type : memory_type.CType) (value : memory_scalar.Scalar) (local : ℕ) (parameter : slice_get (function_of (part_in (table_of old) node)).parameters number ≡ Some (type_in (table_of old) c_type))
      (operand : drop number (newest (table_of old) count (operands_of old)) ≡ scalar_in (table_of old) value ∷ drop (suc number) (newest (table_of old) count (operands_of old)))
      (types : mid.types ≡ old.store.types) (locals : mid.locals.items ≡ old.store.locals.items ++ local ∷ [])
      (becomes : Becomes (record old { store = mid }) new (record { node = node; task = K.Bind count (number + 1) }) (stack_of old))
      (comes : (state : State) → At (around_run old) old.store old.base state → Comes (around_run old) mid old.base (new_local_of (around_run old) (type_in (table_of old) c_type) (scalar_in (table_of old) value)) state Normal) where
    abbrev next : Control
    next = record { node = node; task = K.Bind count (number + 1) }

    alters : Alters old new next (stack_of old)
    alters = behind-alters old new mid next (stack_of old) types
        (ap (take old.base) locals ∙ take-append-le old.base old.store.locals.items (local ∷ []) holds.within)
        (subst (λ l. old.base ≤ length l) (sym locals) (omega (arith, length-append old.store.locals.items (local ∷ []), holds.within)))
        becomes

    waiting : FramesHold (table_of old) old.base (drop count (operands_of old)) (stack_of old)
    waiting = subst (λ operands. FramesHold (table_of old) old.base operands (stack_of old)) bind-after holds.frames

    abbrev bound_next : Config
    bound_next = record (config_in old) { task = steps.Bind bound (drop (suc number) bound.parameters) (drop (suc number) given) }

    config-bound : config_in new ≡ bound_next
    config-bound =
        alters-config old new next (stack_of old) alters waiting
        ∙ (λ i. record (config_in old) {
          task = steps.Bind bound (drop (add-one number i) bound.parameters) (drop (add-one number i) given);
          frames = frames_in (table_of old) old.store.locals.items old.base (sym bind-after i) (stack_of old);
        })

    new-holds : IsConsistent new
    new-holds =
        let came = comes holds.state holds.at in
        alters-holds old new next (stack_of old) alters holds (unawaited, holds.found.1) bind-node bind-fits waiting holds.calls came.after
        (subst (λ s. At (around_run old) s old.base came.after) (sym becomes.store) came.at)

    pub binds : (state : State) → At (around_run old) old.store old.base state → Arrives new (acting old) state
    binds state at =
        subst (λ eval. Arrives new eval state)
        (sym (acting-bind ∙ (λ i. steps.bind_next (around_run old) (functions_of old) bound (drop-there bound.parameters number (type_in (table_of old) c_type) parameter i) (operand i) (config_in old))))
        (arrives-behind old new mid (new_local_of (around_run old) (type_in (table_of old) c_type) (scalar_in (table_of old) value)) (λ way. give bound_next) Normal state alters.kept becomes.store becomes.base
        (ap give (sym config-bound)) new-holds (comes state at))

-- memory runs out as one gets its value
pub bind-stays : (old : RefRun) (mid : Store) (eval : Eval Config) (result : Result (Unit {0}) Halt) → IsErrAnd result (λ e. e ≡ H.OutOfMemory) → IsConsistent old → mid.types ≡ old.store.types
    → mid.locals.items ≡ old.store.locals.items → ((state : State) → At (around_run old) old.store old.base state → At (around_run old) mid old.base state) → Moves old (record old { store = mid }) eval result
bind-stays old mid eval (Ok done) same holds types locals keeps = absurd same
bind-stays old mid eval (Err halt) same holds types locals keeps =
    subst (λ h. Moves {A = Unit {0}} old (record old { store = mid }) eval (Err h)) (sym same)
    (alters-stays old (record old { store = mid })
    (behind-alters old (record old { store = mid }) mid old.control (stack_of old) types (ap (take old.base) locals) (subst (λ l. old.base ≤ length l) (sym locals) holds.within)
    (record { kept = record { program = refl; functions = refl; main = refl; spent = refl }; store = refl; operands = refl; base = refl; depth = refl; control = refl; stack = refl }))
    holds keeps)
