-- Arguments of a call, one after the other.
use Rattle.std.proofs.Common.{◌≡◌, ℕ, zero, suc, ◌+◌, ◌-◌, ◌≤◌, List, [], ◌∷◌, ◌++◌, length, map, drop, take, reverse, slice_get, Vec, Global, Option, Some, None, IfSome, Bor, refl, sym, ap, subst, ◌∙◌, arith, add-one, option_copied}
use Rattle.std.proofs.lemmas.List.{reverse-append, map-append}
use Rattle.std.proofs.lemmas.Option.{none-some, same_Some}
use Rattle.std.specs.Slice.{IsItemAt}
use Rattle.c_typed.specs.declared.typed.Value as memory_value
use Rattle.c_typed.specs.declared.typed.Value.TheVariants as V
use Rattle.c_typed.specs.declared.c_type.CType as memory_type
use Rattle.c_typed.specs.Typed as T
use Rattle.c_typed.specs.Typed.{Values}
use Rattle.c_typed.specs.Table.{Interned}
use Rattle.ref_meaning.specs.Fitting.{IsObjectType}
use Rattle.c_typed.specs.Views.{value_in, values_in}
use Rattle.ref_meaning.specs.Trees.{TypesFit}
use Rattle.ref_semantics.specs.Store.{State, give}
use Rattle.ref_semantics.specs.Meaning.{greatest_depth}
use Rattle.ref_semantics.specs.Parts.{ValuePart}
use Rattle.ref_semantics.specs.Steps as steps
use Rattle.ref_semantics.specs.Steps.{Config}
use Rattle.ref_meaning.specs.declared.value.Scalar as memory_scalar
use Rattle.ref_meaning.specs.RefStore.Views.{scalar_in, ScalarStands}
use Rattle.ref_meaning.specs.RefStore.Holding.{At}
use Rattle.ref_meaning.specs.declared.control.Frame as memory_frame
use Rattle.ref_meaning.specs.declared.control.Node as memory_node
use Rattle.ref_meaning.specs.declared.control.Node.TheVariants as N
use Rattle.ref_meaning.specs.declared.control.Stage.TheVariants as S
use Rattle.ref_meaning.specs.declared.control.Task.TheVariants as K
use Rattle.ref_meaning.specs.declared.run.RefRun.{RefRun}
use Rattle.ref_meaning.specs.Views.{config_in, around_run, functions_of, table_of, operands_of, part_in, value_of, callee_of, arguments_of, arguments_from, newest, frames_in, waiting, base_behind, operands_behind}
use Rattle.ref_meaning.specs.Holding.{IsConsistent, NodeStands, Fits, StageStands, HasRoom, ScalarsStand, FramesHold, IsCall, IsBehindFirst, Awaits, FindsAt, FramesFind, calls_among}
use Rattle.ref_meaning.specs.Doing.{TakesNone, IsOwnCall, IsInnermost, innermost, popped, taking}
use Rattle.ref_meaning.specs.Moving.{IsKept, Arrives}
use Rattle.ref_meaning.specs.Calling.{IsArgument, OptionalNode, arguments_in, Goes, GoesOn}
use Rattle.ref_meaning.proofs.Moves.{innermost-popped, innermost-hold, innermost-calls, behind-found}
use Rattle.ref_meaning.proofs.Finding.{same-first}
use Rattle.ref_meaning.proofs.Numbered.{argument-there, argument-past, found-there, found-past}
use Rattle.ref_meaning.proofs.Turns.{Turns, turns-config, turns-holds, still-arrives}

pub there-is : (table : Interned) (vs : List memory_value.Value) (number : ℕ) (v : Bor memory_value.Value) → IsItemAt vs number (Some v) → IsArgument table (arguments_from number (values_in table vs)) (Some (N.Value v))
there-is table vs number v at = subst (λ arguments. IsArgument table arguments (Some (N.Value v))) (sym (argument-there table vs number v.now (found-there vs number v at))) refl

pub none-is : (table : Interned) (vs : List memory_value.Value) (number : ℕ) → IsItemAt vs number None → IsArgument table (arguments_from number (values_in table vs)) None
none-is table vs number at = subst (λ arguments. IsArgument table arguments None) (sym (argument-past table vs number (found-past vs number at))) tt

type-stands : (table : Interned) (types : List memory_type.CType) (number : ℕ) (t : memory_type.CType) → slice_get types number ≡ Some t → TypesFit table types → IsObjectType table t
type-stands table [] number t h stands = absurd (none-some t h)
type-stands table (first ∷ others) zero t h stands = subst (IsObjectType table) (same_Some first t h) stands.0
type-stands table (first ∷ others) (suc number) t h stands = type-stands table others number t h stands.1

pub parameter-stands : (table : Interned) (types : List memory_type.CType) (number : ℕ) (r : Option (Bor memory_type.CType)) → IsItemAt types number r → TypesFit table types → IfSome (option_copied r) (IsObjectType table)
parameter-stands table types number None at stands = tt
parameter-stands table types number (Some t) at stands = type-stands table types number t.now (found-there types number t at) stands

arguments-more : (number : ℕ) (arguments : Values) (first : T.Value) (others : Values) → arguments_from number arguments ≡ T.MoreValues first others → arguments_from (suc number) arguments ≡ others
arguments-more zero T.NoValues first others e = absurd (no-more e)
  where
    no-more : T.NoValues ≡ T.MoreValues first others → ⊥
    no-more e = subst is_none e tt
      where
        is_none : Values → Type 0
        is_none T.NoValues = Unit {0}
        is_none (T.MoreValues one more) = ⊥
arguments-more zero (T.MoreValues one more) first others e = ap rest e
  where
    rest : Values → Values
    rest T.NoValues = T.NoValues
    rest (T.MoreValues one more) = more
arguments-more (suc number) T.NoValues first others e = absurd (subst is_none e tt)
  where
    is_none : Values → Type 0
    is_none T.NoValues = Unit {0}
    is_none (T.MoreValues one more) = ⊥
arguments-more (suc number) (T.MoreValues one more) first others e = arguments-more number more first others e

-- ---- what a call goes on with

-- the first of the arguments that are left, or the call
goes-by : (old new : RefRun) (call : memory_node.Node) (function : memory_scalar.Scalar) (count : ℕ) (others : List memory_frame.Frame) (operands : List memory_scalar.Scalar) (task : steps.Task)
    (arguments : Values) (next : Option memory_node.Node) → arguments_in (table_of old) call count ≡ arguments → IsArgument (table_of old) arguments next → OptionalNode (table_of old) next
    → (o : Vec memory_scalar.Scalar Global) → reverse o.items ≡ operands → Goes (record old { operands = o }) new call function count others next → new.store ≡ old.store → IsConsistent old
    → NodeStands (table_of old) call → IsCall call → ScalarStands (table_of old) function → ScalarsStand (table_of old) operands → count ≤ length operands
    → FramesHold (table_of old) old.base (drop count operands) others → old.depth ≡ calls_among others → (Awaits others → ⊥) × FramesFind others
    → (config_in new ≡ steps.next_argument (around_run old) (functions_of old) (callee_of (value_of (part_in (table_of old) call)) (scalar_in (table_of old) function)) (newest (table_of old) count operands) arguments
    (record { task = task; frames = frames_in (table_of old) old.store.locals.items old.base (drop count operands) others; depth = greatest_depth - old.depth })) × IsConsistent new
goes-by old new call function count others operands task T.NoValues None is argument stands o given goes store holds node fits function_stands scalars there waiting calls found = (
  turns-config old new _ others operands old.base old.depth turns
      ∙ ap (λ locals. record { task = steps.Apply (callee_of (value_of (part_in (table_of old) call)) (scalar_in (table_of old) function)) (newest (table_of old) count operands); frames = frames_in (table_of old) locals old.base (drop count operands) others; depth = greatest_depth - old.depth })
      (ap (λ s. s.locals.items) store),
  turns-holds old new _ others operands old.base old.depth turns holds ((λ awaits. absurd (found.0 awaits)), found.1) node (fits, function_stands, there) scalars waiting
      (subst (λ s. old.base ≤ length s.locals.items) (sym store) holds.within) calls holds.shallow holds.state (subst (λ s. At (around_run old) s old.base holds.state) (sym store) holds.at),
)
  where
    turns : Turns old new (record { node = call; task = K.Apply function count }) others operands old.base old.depth
    turns = record {
      kept = record { program = goes.kept.program; functions = goes.kept.functions; main = goes.kept.main; spent = goes.kept.spent };
      types = ap (λ s. s.types) store;
      given = ap (λ v. reverse v.items) goes.operands ∙ given;
      based = goes.base;
      nested = goes.depth;
      control = goes.control;
      stack = goes.stack;
    }
goes-by old new call function count others operands task (T.MoreValues first more) (Some (N.Value v)) is argument stands o given goes store holds node fits function_stands scalars there waiting calls found = (
  turns-config old new _ _ operands old.base old.depth turns
      ∙ (λ i. record {
        task = steps.Enter (ValuePart (argument i));
        frames = steps.ForArgument (callee_of (value_of (part_in (table_of old) call)) (scalar_in (table_of old) function)) (newest (table_of old) count operands) (arguments-more count (arguments_of (value_of (part_in (table_of old) call))) first more is i)
            ∷ frames_in (table_of old) (store i).locals.items old.base (drop count operands) others;
        depth = greatest_depth - old.depth;
      }),
  turns-holds old new _ _ operands old.base old.depth turns holds ((λ awaits. absurd awaits), found) stands tt scalars (node, fits, function_stands, there, waiting)
      (subst (λ s. old.base ≤ length s.locals.items) (sym store) holds.within) calls holds.shallow holds.state (subst (λ s. At (around_run old) s old.base holds.state) (sym store) holds.at),
)
  where
    turns : Turns old new (record { node = N.Value v; task = K.Enter }) (record { node = call; stage = S.Argument function count } ∷ others) operands old.base old.depth
    turns = record {
      kept = record { program = goes.kept.program; functions = goes.kept.functions; main = goes.kept.main; spent = goes.kept.spent };
      types = ap (λ s. s.types) store;
      given = ap (λ v. reverse v.items) goes.operands ∙ given;
      based = goes.base;
      nested = goes.depth;
      control = goes.control;
      stack = goes.stack;
    }
goes-by old new call function count others operands task T.NoValues (Some next) is argument stands o given goes store holds node fits function_stands scalars there waiting calls found = absurd argument
goes-by old new call function count others operands task (T.MoreValues first more) None is argument stands o given goes store holds node fits function_stands scalars there waiting calls found = absurd argument
goes-by old new call function count others operands task (T.MoreValues first more) (Some (N.Object object)) is argument stands o given goes store holds node fits function_stands scalars there waiting calls found = absurd argument
goes-by old new call function count others operands task (T.MoreValues first more) (Some (N.Address object)) is argument stands o given goes store holds node fits function_stands scalars there waiting calls found = absurd argument
goes-by old new call function count others operands task (T.MoreValues first more) (Some (N.Designator designator)) is argument stands o given goes store holds node fits function_stands scalars there waiting calls found = absurd argument
goes-by old new call function count others operands task (T.MoreValues first more) (Some (N.Stmt s)) is argument stands o given goes store holds node fits function_stands scalars there waiting calls found = absurd argument
goes-by old new call function count others operands task (T.MoreValues first more) (Some (N.Body body)) is argument stands o given goes store holds node fits function_stands scalars there waiting calls found = absurd argument
goes-by old new call function count others operands task (T.MoreValues first more) (Some N.Nothing) is argument stands o given goes store holds node fits function_stands scalars there waiting calls found = absurd argument

goes-store : (old new : RefRun) (call : memory_node.Node) (function : memory_scalar.Scalar) (count : ℕ) (others : List memory_frame.Frame) (next : Option memory_node.Node) → Goes old new call function count others next → (new.store ≡ old.store) × (new.base ≡ old.base) × IsKept old new
goes-store old new call function count others None goes = (goes.store, goes.base, goes.kept)
goes-store old new call function count others (Some next) goes = (goes.store, goes.base, goes.kept)

-- where a run goes on with a call, from the configuration without what waited for it
pub goes-arrives : (old new : RefRun) (call : memory_node.Node) (function : memory_scalar.Scalar) (count : ℕ) (others : List memory_frame.Frame) (operands : List memory_scalar.Scalar) (config : Config)
    (o : Vec memory_scalar.Scalar Global) → reverse o.items ≡ operands → GoesOn (record old { operands = o }) new call function count others → IsConsistent old
    → NodeStands (table_of old) call → IsCall call → ScalarStands (table_of old) function → ScalarsStand (table_of old) operands → count ≤ length operands
    → FramesHold (table_of old) old.base (drop count operands) others → old.depth ≡ calls_among others → (Awaits others → ⊥) × FramesFind others
    → config ≡ record { task = config.task; frames = frames_in (table_of old) old.store.locals.items old.base (drop count operands) others; depth = greatest_depth - old.depth }
    → (state : State) → At (around_run old) old.store old.base state
    → Arrives new (give (steps.next_argument (around_run old) (functions_of old) (callee_of (value_of (part_in (table_of old) call)) (scalar_in (table_of old) function)) (newest (table_of old) count operands) (arguments_in (table_of old) call count) config)) state
goes-arrives old new call function count others operands config o given goes holds node fits function_stands scalars there waiting calls found is state at =
    still-arrives old new _ (record { program = kept.2.program; functions = kept.2.functions; main = kept.2.main; spent = kept.2.spent }) kept.0 kept.1
    (by.0 ∙ ap (steps.next_argument (around_run old) (functions_of old) (callee_of (value_of (part_in (table_of old) call)) (scalar_in (table_of old) function)) (newest (table_of old) count operands) (arguments_in (table_of old) call count)) (sym is)) by.1 state at
  where
    kept : (new.store ≡ old.store) × (new.base ≡ old.base) × IsKept (record old { operands = o }) new
    kept = goes-store (record old { operands = o }) new call function count others goes.next goes.goes

    by : (config_in new ≡ steps.next_argument (around_run old) (functions_of old) (callee_of (value_of (part_in (table_of old) call)) (scalar_in (table_of old) function)) (newest (table_of old) count operands) (arguments_in (table_of old) call count)
        (record { task = config.task; frames = frames_in (table_of old) old.store.locals.items old.base (drop count operands) others; depth = greatest_depth - old.depth })) × IsConsistent new
    by = goes-by old new call function count others operands config.task (arguments_in (table_of old) call count) goes.next refl goes.is goes.stands o given goes.goes kept.0 holds node fits function_stands scalars there waiting calls found

-- one more operand
newest-more : (table : Interned) (count : ℕ) (a : memory_scalar.Scalar) (operands : List memory_scalar.Scalar) → newest table (suc count) (a ∷ operands) ≡ newest table count operands ++ scalar_in table a ∷ []
newest-more table count a operands = ap (map (scalar_in table)) (reverse-append (a ∷ []) (take count operands)) ∙ map-append (scalar_in table) (reverse (take count operands)) (a ∷ [])

pub argument-given : (old new : RefRun) (top : ℕ) (call : memory_node.Node) (function : memory_scalar.Scalar) (count : ℕ) (a : memory_scalar.Scalar) (o : Vec memory_scalar.Scalar Global) → IsConsistent old → TakesNone old.control.task
    → NodeStands (table_of old) call → ScalarStands (table_of old) function → ScalarStands (table_of old) a → IsCall call
    → (waits : IsInnermost old top (part_in (table_of old) call) (S.Argument function count)) → o.items ≡ old.operands.items ++ a ∷ []
    → GoesOn (record old { operands = o }) new call function (count + 1) waits.others
    → (state : State) → At (around_run old) old.store old.base state
    → Arrives new (taking old (innermost old (part_in (table_of old) call) (S.Argument function count)) (steps.ScalarGiven (scalar_in (table_of old) a))) state
argument-given old new top call function count a o holds free node function_stands a_stands fits waits pushed goes state at =
    subst (λ given. Arrives new (give (steps.next_argument (around_run old) (functions_of old) (callee_of (value_of (part_in (table_of old) call)) (scalar_in (table_of old) function)) given (arguments_in (table_of old) call (suc count)) (popped (config_in old)))) state)
    (newest-more (table_of old) count a (operands_of old))
    (goes-arrives old new call function (suc count) waits.others (a ∷ operands_of old) (popped (config_in old)) o (ap reverse pushed ∙ reverse-append old.operands.items (a ∷ []))
    (subst (λ n. GoesOn (record old { operands = o }) new call function n waits.others) (add-one count) goes) holds node fits function_stands (a_stands, holds.operands) more
    behind.4 (innermost-calls old top _ _ waits holds) (behind-found old top (part_in (table_of old) call) (S.Argument function count) waits holds) (innermost-popped old top _ _ free waits) state at)
  where
    behind : NodeStands (table_of old) waits.node × Fits waits.node (S.Argument function count) × StageStands (table_of old) (S.Argument function count) × HasRoom (S.Argument function count) old.base (length (operands_of old))
        × FramesHold (table_of old) (base_behind (S.Argument function count) old.base) (operands_behind (S.Argument function count) (operands_of old)) waits.others
    behind = innermost-hold old top (part_in (table_of old) call) (S.Argument function count) free waits holds

    more : suc count ≤ length (a ∷ operands_of old)
    more = omega (arith, behind.3)

-- the function of a call
own-waits : (table : Interned) (call : memory_node.Node) (a : memory_scalar.Scalar) (around : _) (functions : _) (config : Config) → IsOwnCall call
    → (state : State) → steps.take around functions (waiting (part_in table call)) (steps.ScalarGiven (scalar_in table a)) config
    ≡ give (steps.next_argument around functions (callee_of (value_of (part_in table call)) (scalar_in table a)) [] (arguments_in table call 0) config)
own-waits table (N.Value v) a around functions config own state = by v.now own
  where
    by : (value : memory_value.Value) → IsOwnCall (N.Value (record v { now = value }))
        → steps.take around functions (waiting (ValuePart (value_in table value))) (steps.ScalarGiven (scalar_in table a)) config
        ≡ give (steps.next_argument around functions (callee_of (value_in table value) (scalar_in table a)) [] (arguments_in table (N.Value (record v { now = value })) 0) config)
    by (V.Call' is_used place p function c_type shape arguments) own = refl
    by _ own = absurd own
own-waits table (N.Object object) a around functions config own state = absurd own
own-waits table (N.Address object) a around functions config own state = absurd own
own-waits table (N.Designator designator) a around functions config own state = absurd own
own-waits table (N.Stmt s) a around functions config own state = absurd own
own-waits table (N.Body body) a around functions config own state = absurd own
own-waits table N.Nothing a around functions config own state = absurd own

own-call : (call : memory_node.Node) → IsOwnCall call → IsCall call
own-call (N.Value v) own = by v.now own
  where
    by : (value : memory_value.Value) → IsOwnCall (N.Value (record v { now = value })) → IsCall (N.Value (record v { now = value }))
    by (V.Call' is_used place p function c_type shape arguments) own = tt
    by _ own = absurd own
own-call (N.Object object) own = absurd own
own-call (N.Address object) own = absurd own
own-call (N.Designator designator) own = absurd own
own-call (N.Stmt s) own = absurd own
own-call (N.Body body) own = absurd own
own-call N.Nothing own = absurd own

-- it isn't found as an object
own-unfound : (call : memory_node.Node) → IsOwnCall call → IsBehindFirst call → ⊥
own-unfound (N.Object object) own is = own
own-unfound _ own is = is

pub function-given : (old new : RefRun) (top : ℕ) (call : memory_node.Node) (function : memory_scalar.Scalar) → IsConsistent old → TakesNone old.control.task
    → NodeStands (table_of old) call → ScalarStands (table_of old) function → IsOwnCall call
    → (waits : IsInnermost old top (part_in (table_of old) call) S.First) → GoesOn old new call function 0 waits.others
    → (state : State) → At (around_run old) old.store old.base state
    → Arrives new (taking old (waiting (part_in (table_of old) call)) (steps.ScalarGiven (scalar_in (table_of old) function))) state
function-given old new top call function holds free node function_stands own waits goes state at =
    subst (λ eval. Arrives new eval state) (sym (own-waits (table_of old) call function (around_run old) (functions_of old) (popped (config_in old)) own state))
    (goes-arrives old new call function 0 waits.others (operands_of old) (popped (config_in old)) old.operands refl goes holds node (own-call call own) function_stands holds.operands (omega arith)
    behind.4 (innermost-calls old top _ _ waits holds) ((λ awaits. own-unfound call own (same-first (table_of old) waits.node call waits.is (found.0 awaits))), found.1) (innermost-popped old top _ _ free waits) state at)
  where
    found : (Awaits waits.others → FindsAt waits.node S.First) × FramesFind waits.others
    found = behind-found old top (part_in (table_of old) call) S.First waits holds

    behind : NodeStands (table_of old) waits.node × Fits waits.node S.First × StageStands (table_of old) S.First × HasRoom S.First old.base (length (operands_of old))
        × FramesHold (table_of old) (base_behind S.First old.base) (operands_behind S.First (operands_of old)) waits.others
    behind = innermost-hold old top (part_in (table_of old) call) S.First free waits holds

pub goes-kept : (old new : RefRun) (o : Vec memory_scalar.Scalar Global) (call : memory_node.Node) (function : memory_scalar.Scalar) (count : ℕ) (others : List memory_frame.Frame) → GoesOn (record old { operands = o }) new call function count others → IsKept old new
goes-kept old new o call function count others goes = record { program = kept.program; functions = kept.functions; main = kept.main; spent = kept.spent }
  where
    kept : IsKept (record old { operands = o }) new
    kept = (goes-store (record old { operands = o }) new call function count others goes.next goes.goes).2
