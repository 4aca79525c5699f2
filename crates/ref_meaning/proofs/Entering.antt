-- Evaluation of an expression begins.
use Rattle.std.proofs.Common.{◌≡◌, ℕ, List, ◌∷◌, Result, refl, sym, ap, subst, ◌∙◌}
use Rattle.c_typed.specs.Table.{Interned}
use Rattle.c_typed.specs.Typed as T
use Rattle.c_typed.specs.Typed.{FunctionDef, Value}
use Rattle.ref_semantics.specs.Store.{TypeEnvironment, State, Eval, ◌>>=◌, give}
use Rattle.ref_semantics.specs.Values as V
use Rattle.ref_semantics.specs.Parts.{Part, ValuePart, entry_of}
use Rattle.ref_semantics.specs.Steps as steps
use Rattle.ref_semantics.specs.Steps.{Config}
use Rattle.ref_meaning.specs.declared.value.Place as memory_place
use Rattle.ref_meaning.specs.declared.value.Scalar as memory_scalar
use Rattle.ref_meaning.specs.declared.value.Scalar.TheVariants as M
use Rattle.ref_meaning.specs.RefStore.Views.{place_in, scalar_in, ScalarStands, PlaceStands, IsElement}
use Rattle.ref_meaning.specs.RefStore.Holding.{At, Comes}
use Rattle.ref_meaning.specs.declared.control.Control.{Control}
use Rattle.ref_meaning.specs.declared.control.Frame as memory_frame
use Rattle.ref_meaning.specs.declared.control.Given.TheVariants as G
use Rattle.ref_meaning.specs.declared.control.Node as memory_node
use Rattle.ref_meaning.specs.declared.control.Node.TheVariants as N
use Rattle.ref_meaning.specs.declared.control.Stage.TheVariants as S
use Rattle.ref_meaning.specs.declared.control.Task.TheVariants as K
use Rattle.ref_meaning.specs.declared.entry.Entry as memory_entry
use Rattle.ref_meaning.specs.declared.run.Halt.{Halt}
use Rattle.ref_meaning.specs.declared.run.RefRun.{RefRun}
use Rattle.ref_meaning.specs.Views as views
use Rattle.ref_meaning.specs.Views.{config_in, around_run, functions_of, table_of, stack_of, part_in, entry_in, waiting}
use Rattle.ref_meaning.specs.Holding.{IsConsistent, NodeStands, Waits, TaskFits, IsLibraryCall, IsObject, IsPlaced, IsBehindFirst, PointsToElement, Awaits}
use Rattle.ref_meaning.specs.Doing.{TakesNone, IsExpression, evaluating}
use Rattle.ref_meaning.specs.Moving.{Becomes, Arrives, Moves}
use Rattle.ref_meaning.proofs.Moves.{becomes-alters, becomes-arrives, task-config, task-holds, wait-config, wait-holds, arrives-behind}

-- what waits for a value is entered
pub enter-fits : (table : Interned) (node : memory_node.Node) (operands : ℕ) → Waits node → TaskFits table node operands K.Enter
enter-fits table N.Nothing operands waits = absurd waits
enter-fits table _ operands waits = tt

pub expression-waits : (node : memory_node.Node) → IsExpression node → Waits node
expression-waits (N.Value v) is = tt
expression-waits (N.Object object) is = tt
expression-waits (N.Address object) is = tt
expression-waits (N.Designator function) is = tt
expression-waits (N.Stmt s) is = absurd is
expression-waits (N.Body function) is = absurd is
expression-waits N.Nothing is = absurd is

value-waiting : (around : TypeEnvironment) (functions : List FunctionDef) (v : Value) → waiting (ValuePart v) ≡ steps.first_frame around functions (ValuePart v)
value-waiting around functions (T.Call is_used place function c_type arguments) = refl
value-waiting around functions _ = refl

pub first-waiting : (around : TypeEnvironment) (functions : List FunctionDef) (table : Interned) (node : memory_node.Node) → IsExpression node → waiting (part_in table node) ≡ steps.first_frame around functions (part_in table node)
first-waiting around functions table (N.Value v) is = value-waiting around functions (views.value_of (part_in table (N.Value v)))
first-waiting around functions table (N.Object object) is = refl
first-waiting around functions table (N.Address object) is = refl
first-waiting around functions table (N.Designator function) is = refl
first-waiting around functions table (N.Stmt s) is = absurd is
first-waiting around functions table (N.Body function) is = absurd is
first-waiting around functions table N.Nothing is = absurd is

value-named : (around : TypeEnvironment) (functions : List FunctionDef) (v : Value) (groups : ℕ) (config : Config) → record config { task = views.named_call (ValuePart v) groups } ≡ steps.named_call around functions (ValuePart v) groups config
value-named around functions (T.LibraryCall function groups' place arguments) groups config = refl
value-named around functions _ groups config = refl

part-named : (around : TypeEnvironment) (functions : List FunctionDef) (part : Part) (groups : ℕ) (config : Config) → record config { task = views.named_call part groups } ≡ steps.named_call around functions part groups config
part-named around functions (ValuePart v) groups config = value-named around functions v groups config
part-named around functions _ groups config = refl

-- ---- by its entry

pub evaluates : {A : Type 0} (old new : RefRun) (node : memory_node.Node) (found entry : memory_entry.Entry) (result : Result A Halt) → entry_in (table_of old) found ≡ entry_of (part_in (table_of old) node) → found ≡ entry
    → Moves old new (steps.evaluate (around_run old) (functions_of old) (part_in (table_of old) node) (config_in old) (entry_in (table_of old) entry)) result → Moves old new (evaluating old (part_in (table_of old) node)) result
evaluates {A = A} old new node found entry result means is moves =
    subst (λ e. Moves {A = A} old new (steps.evaluate (around_run old) (functions_of old) (part_in (table_of old) node) (config_in old) e) result) (sym (ap (entry_in (table_of old)) is) ∙ means) moves

-- it is a value
pub gives-value : (old new : RefRun) (a : memory_scalar.Scalar) → IsConsistent old → TakesNone old.control.task → (Awaits (stack_of old) → PointsToElement (table_of old) a) → ScalarStands (table_of old) a → Becomes old new (record { node = old.control.node; task = K.Give (G.Scalar a) }) (stack_of old)
    → (state : State) → At (around_run old) old.store old.base state → Arrives new (give (steps.came (around_run old) (functions_of old) (steps.ScalarGiven (scalar_in (table_of old) a)) (config_in old))) state
gives-value old new a holds free finds stands becomes state at =
    let next : Control = record { node = old.control.node; task = K.Give (G.Scalar a) } in
    let alters = becomes-alters old new next (stack_of old) holds becomes in
    becomes-arrives old new next (stack_of old) (steps.came (around_run old) (functions_of old) (steps.ScalarGiven (scalar_in (table_of old) a)) (config_in old)) becomes
    (task-config old new next alters free tt holds)
    (task-holds old new next alters free tt holds finds holds.node stands holds.state (subst (λ s. At (around_run old) s old.base holds.state) (sym becomes.store) holds.at)) state at

-- it is an object that is found
pub finds-place : (old new : RefRun) (p : memory_place.Place) (found : Eval V.Place) → IsConsistent old → TakesNone old.control.task → ((state : State) → At (around_run old) old.store old.base state → IsElement (table_of old) p) → ((state : State) → At (around_run old) old.store old.base state → PlaceStands (table_of old) p)
    → ((state : State) → At (around_run old) old.store old.base state → Comes (around_run old) old.store old.base found state (place_in (table_of old) p))
    → Becomes old new (record { node = old.control.node; task = K.Give (G.Scalar (M.Pointer p)) }) (stack_of old)
    → (state : State) → At (around_run old) old.store old.base state
    → Arrives new (found >>= λ p'. give (steps.came (around_run old) (functions_of old) (steps.ScalarGiven (V.PointerValue p')) (config_in old))) state
finds-place old new p found holds free element stands comes becomes state at =
    let next : Control = record { node = old.control.node; task = K.Give (G.Scalar (M.Pointer p)) } in
    let alters = becomes-alters old new next (stack_of old) holds becomes in
    arrives-behind old new old.store found (λ p'. give (steps.came (around_run old) (functions_of old) (steps.ScalarGiven (V.PointerValue p')) (config_in old))) (place_in (table_of old) p) state becomes.kept becomes.store becomes.base
    (ap (λ c. give c) (sym (task-config old new next alters free tt holds)))
    (task-holds old new next alters free tt holds (λ awaits. element state at) holds.node (stands state at) holds.state (subst (λ s. At (around_run old) s old.base holds.state) (sym becomes.store) holds.at))
    (comes state at)

-- it comes to what another does
pub enters-other : (old new : RefRun) (part : memory_node.Node) → IsConsistent old → TakesNone old.control.task → (Awaits (stack_of old) → IsObject part) → NodeStands (table_of old) part → Waits part → Becomes old new (record { node = part; task = K.Enter }) (stack_of old)
    → (state : State) → At (around_run old) old.store old.base state → Arrives new (give (steps.enters (around_run old) (functions_of old) (part_in (table_of old) part) (config_in old))) state
enters-other old new part holds free finds stands waits becomes state at =
    let next : Control = record { node = part; task = K.Enter } in
    let alters = becomes-alters old new next (stack_of old) holds becomes in
    becomes-arrives old new next (stack_of old) (steps.enters (around_run old) (functions_of old) (part_in (table_of old) part) (config_in old)) becomes
    (task-config old new next alters free tt holds)
    (task-holds old new next alters free tt holds finds stands (enter-fits (table_of old) part _ waits) holds.state (subst (λ s. At (around_run old) s old.base holds.state) (sym becomes.store) holds.at)) state at

-- it waits for another
pub awaits-other : (old new : RefRun) (node part : memory_node.Node) → IsConsistent old → TakesNone old.control.task → (IsPlaced node → IsObject part) → (Awaits (stack_of old) → IsBehindFirst node) → NodeStands (table_of old) node → IsExpression node → NodeStands (table_of old) part → Waits part
    → Becomes old new (record { node = part; task = K.Enter }) (record { node = node; stage = S.First } ∷ stack_of old)
    → (state : State) → At (around_run old) old.store old.base state
    → Arrives new (give (steps.enters (around_run old) (functions_of old) (part_in (table_of old) part) (steps.waits (around_run old) (functions_of old) (steps.first_frame (around_run old) (functions_of old) (part_in (table_of old) node)) (config_in old)))) state
awaits-other old new node part holds free finds before stands is entered waits becomes state at =
    let next : Control = record { node = part; task = K.Enter } in
    let frames : List memory_frame.Frame = record { node = node; stage = S.First } ∷ stack_of old in
    let alters = becomes-alters old new next frames holds becomes in
    becomes-arrives old new next frames _ becomes
    (wait-config old new next node S.First alters free tt tt holds stands (expression-waits node is) tt tt
    ∙ ap (λ frame. steps.enters (around_run old) (functions_of old) (part_in (table_of old) part) (steps.waits (around_run old) (functions_of old) frame (config_in old))) (first-waiting (around_run old) (functions_of old) (table_of old) node is))
    (wait-holds old new next node S.First alters free tt tt holds stands (expression-waits node is) tt tt finds before entered (enter-fits (table_of old) part _ waits) holds.state (subst (λ s. At (around_run old) s old.base holds.state) (sym becomes.store) holds.at)) state at

-- it is a call of a library function
pub names-call : (old new : RefRun) (node : memory_node.Node) (groups : ℕ) → IsConsistent old → TakesNone old.control.task → (Awaits (stack_of old) → ⊥) → NodeStands (table_of old) node → IsLibraryCall node
    → Becomes old new (record { node = node; task = K.Library groups }) (stack_of old)
    → (state : State) → At (around_run old) old.store old.base state → Arrives new (give (steps.named_call (around_run old) (functions_of old) (part_in (table_of old) node) groups (config_in old))) state
names-call old new node groups holds free unawaited stands is becomes state at =
    let next : Control = record { node = node; task = K.Library groups } in
    let alters = becomes-alters old new next (stack_of old) holds becomes in
    becomes-arrives old new next (stack_of old) (steps.named_call (around_run old) (functions_of old) (part_in (table_of old) node) groups (config_in old)) becomes
    (task-config old new next alters free tt holds ∙ part-named (around_run old) (functions_of old) (part_in (table_of old) node) groups (config_in old))
    (task-holds old new next alters free tt holds (λ awaits. absurd (unawaited awaits)) stands is holds.state (subst (λ s. At (around_run old) s old.base holds.state) (sym becomes.store) holds.at)) state at
