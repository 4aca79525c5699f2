-- A function returns.
use Rattle.std.proofs.Common.{◌≡◌, ℕ, zero, suc, ◌-◌, ◌≤◌, Bool, true, false, ◌&&◌, not, if◌then◌else◌, nat_lt, List, [], ◌∷◌, ◌++◌, length, take, drop, reverse, Option, Some, None, IfSome, option_map, Bor, bytes_eq, codes, pos, refl, sym, ap, subst, ◌∙◌, arith, take-take, le-ltb}
use Rattle.std.proofs.lemmas.List.{take-append-drop, length-take-le, reverse-reverse, append-nil}
use Rattle.run_theory.specs.declared.place.Pos.{Pos}
use Rattle.run_theory.specs.declared.ends.UbKind.TheVariants as Ub
use Rattle.run_theory.specs.Runs as Runs
use Rattle.c_typed.specs.declared.definition.FunctionDef as memory_function
use Rattle.c_typed.specs.Types.{CType, Void, is_void, same_type}
use Rattle.c_typed.specs.Table.{Interned, type_in}
use Rattle.c_typed.proofs.Grown.{void_stands}
use Rattle.ref_semantics.specs.Values.{Scalar, NullValue, IntegerValue}
use Rattle.ref_semantics.specs.Store.{TypeEnvironment, Eval, State, Then, ◌>>=◌, give, emit, undefined, unless, premise}
use Rattle.ref_semantics.specs.Meaning.{greatest_depth, killed, kept, used_value, main_value, given_back}
use Rattle.ref_semantics.specs.Steps as steps
use Rattle.ref_semantics.specs.Steps.{Config}
use Rattle.ref_meaning.specs.declared.value.Scalar as memory_scalar
use Rattle.ref_meaning.specs.declared.value.Scalar.TheVariants as M
use Rattle.ref_meaning.specs.declared.store.Store.{Store}
use Rattle.ref_meaning.specs.RefStore.Views.{scalar_in, ScalarStands}
use Rattle.ref_meaning.specs.RefStore.Holding.{At, left}
use Rattle.ref_meaning.proofs.Updating.{unheard}
use Rattle.ref_meaning.specs.declared.control.Given.TheVariants as G
use Rattle.ref_meaning.specs.declared.control.Node as memory_node
use Rattle.ref_meaning.specs.declared.control.Node.TheVariants as N
use Rattle.ref_meaning.specs.declared.control.Stage.TheVariants as S
use Rattle.ref_meaning.specs.declared.control.Task.TheVariants as K
use Rattle.ref_meaning.specs.declared.control.Completion as memory_completion
use Rattle.ref_meaning.specs.declared.control.Completion.TheVariants as W
use Rattle.ref_meaning.specs.declared.run.RefRun.{RefRun}
use Rattle.ref_meaning.specs.Views.{config_in, around_run, functions_of, table_of, operands_of, part_in, completion_in, function_of, own_locals, frames_in}
use Rattle.ref_meaning.specs.Holding.{IsConsistent, NodeStands, Fits, StageStands, HasRoom, FramesHold, Awaits, FramesFind, CompletionStands, IsBody, calls_among}
use Rattle.ref_meaning.specs.Doing.{TakesNone, IsInnermost, innermost, popped, taking}
use Rattle.ref_meaning.specs.Moving.{Becomes, Arrives, IsOver}
use Rattle.ref_meaning.proofs.Moves.{innermost-popped, innermost-hold, innermost-calls, behind-found, frames-front, same-around}
use Rattle.ref_meaning.proofs.Turns.{Turns, turns-config, turns-holds}

-- ---- what is returned

-- what a way gives back
abbrev pub GivesBack : Interned → memory_completion.Completion → Option memory_scalar.Scalar → Type 0
GivesBack table way returned = (given_back (completion_in table way) ≡ option_map (scalar_in table) returned) × IfSome returned (ScalarStands table)

value-stands : (table : Interned) (value : Option memory_scalar.Scalar) → CompletionStands table (W.Return value) → IfSome value (ScalarStands table)
value-stands table None stands = tt
value-stands table (Some a) stands = stands

pub gives-value : (table : Interned) (way : memory_completion.Completion) (value returned : Option memory_scalar.Scalar) → way ≡ W.Return value → returned ≡ value → CompletionStands table way → GivesBack table way returned
gives-value table way value returned is same stands =
    subst (GivesBack table way) (sym same) (ap (λ w. given_back (completion_in table w)) is, value-stands table value (subst (CompletionStands table) is stands))

pub gives-none : (table : Interned) (way : memory_completion.Completion) (returned : Option memory_scalar.Scalar) → ((value : Option memory_scalar.Scalar) → way ≡ W.Return value → ⊥) → returned ≡ None → GivesBack table way returned
gives-none table W.Normal returned differs same = subst (GivesBack table W.Normal) (sym same) (refl, tt)
gives-none table W.Break returned differs same = subst (GivesBack table W.Break) (sym same) (refl, tt)
gives-none table W.Continue returned differs same = subst (GivesBack table W.Continue) (sym same) (refl, tt)
gives-none table (W.Return value) returned differs same = absurd (differs value refl)

-- what is given back, used as the value of a call of a function with this body
abbrev pub used_by : Interned → Bool → Pos → memory_node.Node → Option memory_scalar.Scalar → Eval Scalar
used_by table is_used here node returned = used_value here is_used (function_of (part_in table node)).result (main_value (function_of (part_in table node)).name (option_map (scalar_in table) returned))

abbrev pub IsUsed : Interned → Bool → Pos → memory_node.Node → Option memory_scalar.Scalar → memory_scalar.Scalar → Type 0
IsUsed table is_used here node returned value = (used_by table is_used here node returned ≡ give (scalar_in table value)) × ScalarStands table value

pub used-value : (table : Interned) (is_used : Bool) (here : Pos) (node : memory_node.Node) (returned : Option memory_scalar.Scalar) (a value : memory_scalar.Scalar) → returned ≡ Some a → value ≡ a
    → IfSome returned (ScalarStands table) → IsUsed table is_used here node returned value
used-value table is_used here node returned a value is same stands = (
  ap (used_by table is_used here node) is ∙ ap (λ v. give (scalar_in table v)) (sym same),
  subst (ScalarStands table) (sym same) (subst (λ r. IfSome r (ScalarStands table)) is stands),
)

is-void : (c_type : CType) → same_type c_type Void ≡ is_void c_type
is-void Void = refl
is-void _ = refl

-- whether the program is undefined where nothing is given back
abbrev pub needed : Interned → Bool → memory_function.FunctionDef → Bool
needed table is_used function = is_used && not (is_void (type_in table function.returned))

module _ (table : Interned) (is_used : Bool) (here : Pos) (node : memory_node.Node) (returned : Option memory_scalar.Scalar) (function : Bor memory_function.FunctionDef) (is : node ≡ N.Body function) (none : returned ≡ None) where
  abbrev by_name : Bool → Eval Scalar
  by_name is_main = used_value here is_used (type_in table function.now.returned) (if is_main then Some (IntegerValue (pos 0)) else None)

  named : (b : Bool) → b ≡ bytes_eq function.now.name (codes "main") → used_by table is_used here node returned ≡ by_name b
  named b e = (λ i. used_by table is_used here (is i) (none i)) ∙ ap by_name (sym e)

  -- `main` gives 0
  pub used-main : (value : memory_scalar.Scalar) → true ≡ bytes_eq function.now.name (codes "main") → value ≡ M.Integer (pos 0) → IsUsed table is_used here node returned value
  used-main value main same = (named true main ∙ ap (λ v. give (scalar_in table v)) (sym same), subst (ScalarStands table) (sym same) tt)

  abbrev unless_needed : Bool → Eval Scalar
  unless_needed b = unless here (premise b Ub.U16 ∷ []) (give NullValue)

  pub used-nothing : (value : memory_scalar.Scalar) → false ≡ bytes_eq function.now.name (codes "main") → needed table is_used function.now ≡ false → value ≡ M.Null → IsUsed table is_used here node returned value
  used-nothing value other needs same = (named false other ∙ (ap unless_needed needs ∙ ap (λ v. give (scalar_in table v)) (sym same)), subst (ScalarStands table) (sym same) tt)

  pub used-needed : false ≡ bytes_eq function.now.name (codes "main") → needed table is_used function.now ≡ true → used_by table is_used here node returned ≡ undefined Ub.U16 here
  used-needed other needs = named false other ∙ ap unless_needed needs

-- whether the result is void
pub is-needed : (run : RefRun) (is_used : Bool) (function : memory_function.FunctionDef) (b : Bool) → IsConsistent run → is_used ≡ true
    → b ≡ same_type (type_in run.program.now.types function.returned) (type_in run.program.now.types (record { 0 = 0 })) → needed (table_of run) is_used function ≡ not b
is-needed run is_used function b holds used same =
    ap (λ u. u && not (is_void (type_in (table_of run) function.returned))) used
    ∙ ap not (sym (is-void (type_in (table_of run) function.returned)) ∙ sym in-table)
  where
    in-table : b ≡ same_type (type_in (table_of run) function.returned) Void
    in-table =
        subst (λ table. b ≡ same_type (type_in table function.returned) (type_in table (record { 0 = 0 }))) (sym holds.types) same
        ∙ ap (same_type (type_in (table_of run) function.returned)) (void_stands (table_of run) (record { 0 = 0 }) refl).1

pub not-needed : (table : Interned) (is_used : Bool) (function : memory_function.FunctionDef) → is_used ≡ false → needed table is_used function ≡ false
not-needed table is_used function unused = ap (λ u. u && not (is_void (type_in table function.returned))) unused

pub no-body : (node : memory_node.Node) → IsBody node → ((function : Bor memory_function.FunctionDef) → node ≡ N.Body function → ⊥) → ⊥
no-body (N.Body function) body differs = differs function refl
no-body (N.Value v) body differs = body
no-body (N.Object object) body differs = body
no-body (N.Address object) body differs = body
no-body (N.Designator function) body differs = body
no-body (N.Stmt s) body differs = body
no-body N.Nothing body differs = body

-- ---- the store behind a call

none-kept : (locals : List ℕ) → kept 0 locals ≡ []
none-kept [] = refl
none-kept (newest ∷ others) = ap (λ few. if few then newest ∷ others else kept 0 others) (never (length others)) ∙ none-kept others
  where
    never : (n : ℕ) → nat_lt n 0 ≡ false
    never n = le-ltb n 0 (omega arith)

taken-within : {X : Type 0} (n : ℕ) (items : List X) → length (take n items) ≤ length items
taken-within zero items = omega arith
taken-within (suc n) [] = omega arith
taken-within (suc n) (first ∷ others) = omega (arith, taken-within n others)

none-left : (n : ℕ) → n - n ≡ 0
none-left n = omega arith

-- the state once the function has returned
abbrev pub back : RefRun → ℕ → State → State
back run base state = record state { trace = state.trace ++ (Runs.Returned ∷ []); objects = killed 0 state.locals state.objects; locals = own_locals base run.base run.store.locals.items }

module _ (old : RefRun) (mid : Store) (base : ℕ) (room : base ≤ old.base)
    (leaves : (around : TypeEnvironment) (base : ℕ) (state : State) → base ≤ old.base → At around old.store base state
    → At around mid base (record state { objects = killed (old.base - base) state.locals state.objects; locals = kept (old.base - base) state.locals }))
    (locals : take old.base mid.locals.items ≡ take old.base old.store.locals.items) where
  left-at : (state : State) → At (around_run old) old.store old.base state → At (around_run old) mid old.base (record state { objects = killed 0 state.locals state.objects; locals = kept 0 state.locals })
  left-at state at =
      subst (λ n. At (around_run old) mid old.base (record state { objects = killed n state.locals state.objects; locals = kept n state.locals })) (none-left old.base)
      (leaves (around_run old) old.base state (omega arith) at)

  none-behind : (state : State) → At (around_run old) old.store old.base state → drop old.base mid.locals.items ≡ []
  none-behind state at = sym (reverse-reverse (drop old.base mid.locals.items)) ∙ ap reverse (sym (left-at state at).locals ∙ none-kept state.locals)

  callers : (state : State) → At (around_run old) old.store old.base state → take old.base old.store.locals.items ≡ mid.locals.items
  callers state at =
      sym locals
      ∙ (sym (append-nil (take old.base mid.locals.items))
      ∙ (ap (λ l. take old.base mid.locals.items ++ l) (sym (none-behind state at)) ∙ take-append-drop old.base mid.locals.items))

  pub back-at : (state : State) → At (around_run old) old.store old.base state → At (around_run old) mid base (back old base state)
  back-at state at =
      let found = left-at state at in
      record {
        structs = found.structs;
        completed = found.completed;
        objects = found.objects;
        locals = ap (λ l. reverse (drop base l)) (callers state at);
        next_local = found.next_local;
        next_heap = found.next_heap;
      }

  pub front-locals : take base mid.locals.items ≡ take base old.store.locals.items
  front-locals = sym (take-take base old.base mid.locals.items room) ∙ (ap (take base) locals ∙ take-take base old.base old.store.locals.items room)

  pub back-within : old.base ≤ length old.store.locals.items → base ≤ length mid.locals.items
  back-within within = omega (arith, room, taken-within old.base mid.locals.items, ap length locals ∙ length-take-le old.base old.store.locals.items within)

-- ---- a run whose function returns

module _ (old : RefRun) (node : memory_node.Node) (is_used : Bool) (here : Pos) (base : ℕ) (way : memory_completion.Completion) (top : ℕ) (returned : Option memory_scalar.Scalar) (holds : IsConsistent old) (free : TakesNone old.control.task)
    (waits : IsInnermost old top (part_in (table_of old) node) (S.Call is_used here base)) (gives : GivesBack (table_of old) way returned) where
  abbrev returning : Eval Config
  returning = taking old (innermost old (part_in (table_of old) node) (S.Call is_used here base)) (steps.WayGiven (completion_in (table_of old) way))

  -- where the value is this
  abbrev by_value : Eval Scalar → Eval Config
  by_value value =
      (λ (state : State). emit (Runs.Returned ∷ []) value (record state { objects = killed 0 state.locals state.objects; locals = own_locals base old.base old.store.locals.items }))
      >>= λ a. give (steps.came (around_run old) (functions_of old) (steps.ScalarGiven a) (record (popped (config_in old)) { depth = suc (config_in old).depth }))

  by-value : returning ≡ by_value (used_by (table_of old) is_used here node returned)
  by-value = ap (λ given. by_value (used_value here is_used (function_of (part_in (table_of old) node)).result (main_value (function_of (part_in (table_of old) node)).name given))) gives.0

  -- there is none, though it is used
  pub returns-nothing : used_by (table_of old) is_used here node returned ≡ undefined Ub.U16 here → (state : State) → IsOver returning state (Runs.Undefined Ub.U16 here)
  returns-nothing missing state =
      subst (λ eval. IsOver eval state (Runs.Undefined Ub.U16 here)) (sym (by-value ∙ ap by_value missing))
      (record { there = back old base state; is = λ units input. refl; quiet = unheard state.trace (Runs.Returned ∷ []) refl })

  module _ (new : RefRun) (mid : Store) (value : memory_scalar.Scalar) (used : IsUsed (table_of old) is_used here node returned value) (types : mid.types ≡ old.store.types)
      (leaves : (around : TypeEnvironment) (base : ℕ) (state : State) → base ≤ old.base → At around old.store base state
      → At around mid base (record state { objects = killed (old.base - base) state.locals state.objects; locals = kept (old.base - base) state.locals }))
      (locals : take old.base mid.locals.items ≡ take old.base old.store.locals.items)
      (becomes : Becomes (record old { store = mid; base = base; depth = old.depth - 1 }) new (record { node = old.control.node; task = K.Give (G.Scalar value) }) waits.others) where
    behind : NodeStands (table_of old) waits.node × Fits waits.node (S.Call is_used here base) × StageStands (table_of old) (S.Call is_used here base) × HasRoom (S.Call is_used here base) old.base (length (operands_of old))
        × FramesHold (table_of old) base (operands_of old) waits.others
    behind = innermost-hold old top (part_in (table_of old) node) (S.Call is_used here base) free waits holds

    found : (Awaits waits.others → ⊥) × FramesFind waits.others
    found = behind-found old top (part_in (table_of old) node) (S.Call is_used here base) waits holds

    room : base ≤ old.base
    room = behind.3

    calls : old.depth ≡ suc (calls_among waits.others)
    calls = innermost-calls old top (part_in (table_of old) node) (S.Call is_used here base) waits holds

    turns : Turns old new (record { node = old.control.node; task = K.Give (G.Scalar value) }) waits.others (operands_of old) base (old.depth - 1)
    turns = record {
      kept = record { program = becomes.kept.program; functions = becomes.kept.functions; main = becomes.kept.main; spent = becomes.kept.spent };
      types = ap (λ s. s.types) becomes.store ∙ types;
      given = ap (λ v. reverse v.items) becomes.operands;
      based = becomes.base;
      nested = becomes.depth;
      control = becomes.control;
      stack = becomes.stack;
    }

    one-less : greatest_depth - (old.depth - 1) ≡ suc (greatest_depth - old.depth)
    one-less = omega (arith, calls, holds.shallow)

    frames-same : frames_in (table_of old) new.store.locals.items base (operands_of old) waits.others ≡ (popped (config_in old)).frames
    frames-same =
        ap (λ s. frames_in (table_of old) s.locals.items base (operands_of old) waits.others) becomes.store
        ∙ (frames-front (table_of old) old.store.locals.items mid.locals.items base (operands_of old) waits.others behind.4 (front-locals old mid base room leaves locals)
        ∙ ap (λ config. config.frames) (sym (innermost-popped old top (part_in (table_of old) node) (S.Call is_used here base) free waits)))

    came-back : config_in new ≡ record { task = steps.Give (steps.ScalarGiven (scalar_in (table_of old) value)); frames = (popped (config_in old)).frames; depth = suc (greatest_depth - old.depth) }
    came-back =
        turns-config old new _ waits.others (operands_of old) base (old.depth - 1) turns
        ∙ (λ i. record { task = steps.Give (steps.ScalarGiven (scalar_in (table_of old) value)); frames = frames-same i; depth = one-less i })

    new-at : (state : State) → At (around_run old) old.store old.base state → At (around_run old) new.store base (back old base state)
    new-at state at = subst (λ s. At (around_run old) s base (back old base state)) (sym becomes.store) (back-at old mid base room leaves locals state at)

    new-holds : IsConsistent new
    new-holds =
        turns-holds old new _ waits.others (operands_of old) base (old.depth - 1) turns holds ((λ awaits. absurd (found.0 awaits)), found.1) holds.node used.1 holds.operands behind.4
        (subst (λ s. base ≤ length s.locals.items) (sym becomes.store) (back-within old mid base room leaves locals holds.within))
        (omega (arith, calls)) (omega (arith, holds.shallow)) (back old base holds.state) (new-at holds.state holds.at)

    pub returns-value : (state : State) → At (around_run old) old.store old.base state → Arrives new returning state
    returns-value state at =
        subst (λ eval. Arrives new eval state) (sym (by-value ∙ ap by_value used.0))
        (record {
          after = back old base state;
          does = λ units input. ap (λ config. Then config (left units input (back old base state))) (sym came-back);
          at = subst (λ around. At around new.store new.base (back old base state)) (sym (same-around old new turns.kept)) (subst (λ b. At (around_run old) new.store b (back old base state)) (sym turns.based) (new-at state at));
          quiet = unheard state.trace (Runs.Returned ∷ []) refl;
          holds = new-holds;
        })
