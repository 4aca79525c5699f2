-- What waits behind that which is begun or comes to its end.
use Rattle.std.proofs.Common.{◌≡◌, ℕ, ◌-◌, List, ◌∷◌, length, Result, IsOk, Bor, refl, sym, ap, subst, ◌∙◌}
use Rattle.c_typed.specs.declared.statement.Stmt as memory_stmt
use Rattle.c_typed.specs.declared.statement.Stmt.TheVariants as M
use Rattle.c_typed.specs.Typed as T
use Rattle.c_typed.specs.Typed.{FunctionDef}
use Rattle.c_typed.specs.Table.{Interned}
use Rattle.ref_semantics.specs.Store.{TypeEnvironment, State, give}
use Rattle.ref_semantics.specs.Meaning.{greatest_depth}
use Rattle.ref_semantics.specs.Parts.{Part, ValuePart, StmtPart}
use Rattle.ref_semantics.specs.Steps as steps
use Rattle.ref_semantics.specs.Steps.{Loop, WhileLoop, DoLoop, ForLoop, Config}
use Rattle.ref_meaning.specs.RefStore.Holding.{At}
use Rattle.ref_meaning.specs.declared.value.Scalar as memory_scalar
use Rattle.ref_meaning.specs.declared.control.Control.{Control}
use Rattle.ref_meaning.specs.declared.control.Node as memory_node
use Rattle.ref_meaning.specs.declared.control.Node.TheVariants as N
use Rattle.ref_meaning.specs.declared.control.Given as memory_given
use Rattle.ref_meaning.specs.declared.control.Stage as memory_stage
use Rattle.ref_meaning.specs.declared.control.Stage.TheVariants as S
use Rattle.ref_meaning.specs.declared.control.Frame as memory_frame
use Rattle.ref_meaning.specs.declared.control.Task as memory_task
use Rattle.ref_meaning.specs.declared.control.Task.TheVariants as K
use Rattle.ref_meaning.specs.declared.run.Halt.{Halt}
use Rattle.ref_meaning.specs.declared.run.RefRun.{RefRun}
use Rattle.ref_meaning.specs.Views.{part_in, given_in, loop_of, stmt_of, waiting, behind_body, frame_in, frames_in, task_in, operands_after, operands_behind, base_behind, table_of, operands_of, stack_of, around_run, functions_of, config_in}
use Rattle.ref_meaning.specs.Holding.{IsConsistent, NodeStands, GivenStands, Waits, Fits, StageStands, HasRoom, TaskFits, FramesHold, IsCall, IsBody, IsLoop, IsTurning, IsPlaced, IsBehindFirst, IsBehindBoth, AwaitsAt, Awaits, FindsAt, FramesFind, calls_in, calls_among}
use Rattle.ref_meaning.specs.Doing.{TakesNone, IsOnTop, body_in, without_first, popped, turning, asking}
use Rattle.ref_meaning.specs.Moving.{Becomes, Arrives, Moves}
use Rattle.ref_meaning.proofs.Moves.{becomes-config, becomes-holds, becomes-arrives, becomes-then, IsPlain, plain-base, plain-operands, plain-calls, takes-none, all-frames, all-hold, ok-moves}

-- ---- one after the other

-- where the control does not change between them
pub becomes-on : (old mid new : RefRun) (task : memory_task.Task) (frames : List memory_frame.Frame) → Becomes old mid old.control frames → Becomes mid new (record { node = mid.control.node; task = task }) (stack_of mid)
    → Becomes old new (record { node = old.control.node; task = task }) frames
becomes-on old mid new task frames one two = becomes-then old mid new old.control (record { node = old.control.node; task = task }) frames one
    (subst (λ c. Becomes mid new (record { node = c.node; task = task }) (stack_of mid)) one.control two)

-- ---- stages that take no operands and leave no function

pub record IsBesides (stage : memory_stage.Stage) : Type 0 where
  pub bases : (base : ℕ) → base_behind stage base ≡ base
  pub operands : (operands : List memory_scalar.Scalar) → operands_behind stage operands ≡ operands
  pub calls : (n : ℕ) → calls_in stage n ≡ n

plain : (stage : memory_stage.Stage) → IsPlain stage → IsBesides stage
plain stage is = record { bases = λ base. plain-base stage base is; operands = λ operands. plain-operands stage operands is; calls = λ n. plain-calls stage n is }

-- ---- what waits, in a run and in a configuration

pub record Behind (run : RefRun) (others : List memory_frame.Frame) (config : Config) : Type 0 where
  pub frames : frames_in (table_of run) run.store.locals.items run.base (operands_of run) others ≡ config.frames
  pub hold : FramesHold (table_of run) run.base (operands_of run) others
  pub calls : run.depth ≡ calls_among others
  pub depth : greatest_depth - run.depth ≡ config.depth
  pub unawaited : Awaits others → ⊥
  pub finding : FramesFind others

-- all but the innermost
pub popped-behind : (run : RefRun) (first : memory_frame.Frame) (others : List memory_frame.Frame) → IsConsistent run → TakesNone run.control.task → stack_of run ≡ first ∷ others → IsPlain first.stage → (FindsAt first.node first.stage → ⊥) → Behind run others (popped (config_in run))
popped-behind run first others holds free stack is unfound = record {
  frames = (λ i. frames_in (table_of run) run.store.locals.items (sym (besides.bases run.base) i) (sym none i) others)
      ∙ sym (ap (λ s. without_first (frames_in (table_of run) run.store.locals.items run.base taken s)) stack);
  hold = subst (λ b. FramesHold (table_of run) b (operands_of run) others) (besides.bases run.base) (subst (λ o. FramesHold (table_of run) (base_behind first.stage run.base) o others) none all.4);
  calls = holds.calls ∙ (ap calls_among stack ∙ besides.calls (calls_among others));
  depth = refl;
  unawaited = λ awaits. unfound (found.0 awaits);
  finding = found.1;
}
  where
    taken : List memory_scalar.Scalar
    taken = operands_after run.control.task (operands_of run)

    besides : IsBesides first.stage
    besides = plain first.stage is

    none : operands_behind first.stage taken ≡ operands_of run
    none = besides.operands taken ∙ takes-none run.control.task (operands_of run) free

    all : FramesHold (table_of run) run.base taken (first ∷ others)
    all = subst (λ s. FramesHold (table_of run) run.base taken s) stack holds.frames

    found : (Awaits others → FindsAt first.node first.stage) × FramesFind others
    found = subst (λ s. FramesFind s) stack holds.found.1

-- all of them
pub all-behind : (run : RefRun) → IsConsistent run → TakesNone run.control.task → (Awaits (stack_of run) → ⊥) → Behind run (stack_of run) (config_in run)
all-behind run holds free unawaited = record {
  frames = sym (all-frames run free);
  hold = all-hold run free holds;
  calls = holds.calls;
  depth = refl;
  unawaited = unawaited;
  finding = holds.found.1;
}

-- one more waits
pub pushed-behind : (run : RefRun) (others : List memory_frame.Frame) (config : Config) (node : memory_node.Node) (stage : memory_stage.Stage) → Behind run others config → IsPlain stage → (AwaitsAt node stage → ⊥)
    → NodeStands (table_of run) node → Fits node stage → StageStands (table_of run) stage → HasRoom stage run.base (length (operands_of run))
    → Behind run (record { node = node; stage = stage } ∷ others) (record config { frames = frame_in (table_of run) run.store.locals.items run.base (operands_of run) (part_in (table_of run) node) stage ∷ config.frames })
pushed-behind run others config node stage behind is unplaced stands fits known room = record {
  frames = ap (λ fs. frame_in (table_of run) run.store.locals.items run.base (operands_of run) (part_in (table_of run) node) stage ∷ fs)
      ((λ i. frames_in (table_of run) run.store.locals.items (besides.bases run.base i) (besides.operands (operands_of run) i) others) ∙ behind.frames);
  hold = (
    stands,
    fits,
    known,
    room,
    subst (λ b. FramesHold (table_of run) b (operands_behind stage (operands_of run)) others) (sym (besides.bases run.base)) (subst (λ o. FramesHold (table_of run) run.base o others) (sym (besides.operands (operands_of run))) behind.hold),
  );
  calls = behind.calls ∙ sym (besides.calls (calls_among others));
  depth = behind.depth;
  unawaited = unplaced;
  finding = ((λ awaits. absurd (behind.unawaited awaits)), behind.finding);
}
  where
    besides : IsBesides stage
    besides = plain stage is

-- ---- what the run comes to

abbrev doing : RefRun → Control → Config → Config
doing old next config = record config { task = task_in (table_of old) (operands_of old) (part_in (table_of old) next.node) next.task }

config-so : (old new : RefRun) (next : Control) (others : List memory_frame.Frame) (config : Config) → Behind old others config → TakesNone next.task → Becomes old new next others → config_in new ≡ doing old next config
config-so old new next others config behind free becomes = becomes-config old new next others becomes ∙ λ i. record {
  task = task_in (table_of old) (operands_of old) (part_in (table_of old) next.node) next.task;
  frames = (ap (λ o. frames_in (table_of old) old.store.locals.items old.base o others) (takes-none next.task (operands_of old) free) ∙ behind.frames) i;
  depth = behind.depth i;
}

holds-so : (old new : RefRun) (next : Control) (others : List memory_frame.Frame) (config : Config) → IsConsistent old → Behind old others config → TakesNone next.task → NodeStands (table_of old) next.node
    → TaskFits (table_of old) next.node (length (operands_of old)) next.task → Becomes old new next others → IsConsistent new
holds-so old new next others config holds behind free node task becomes = becomes-holds old new next others becomes holds ((λ awaits. absurd (behind.unawaited awaits)), behind.finding) node task
    (subst (λ o. FramesHold (table_of old) old.base o others) (sym (takes-none next.task (operands_of old) free)) behind.hold) behind.calls

pub arrives-so : (old new : RefRun) (next : Control) (others : List memory_frame.Frame) (config : Config) → IsConsistent old → Behind old others config → TakesNone next.task → NodeStands (table_of old) next.node
    → TaskFits (table_of old) next.node (length (operands_of old)) next.task → Becomes old new next others
    → (state : State) → At (around_run old) old.store old.base state → Arrives new (give (doing old next config)) state
arrives-so old new next others config holds behind free node task becomes state at =
    becomes-arrives old new next others (doing old next config) becomes (config-so old new next others config behind free becomes) (holds-so old new next others config holds behind free node task becomes) state at

-- it comes to this
pub moves-given : (old new : RefRun) (given : memory_given.Given) (others : List memory_frame.Frame) (config : Config) (result : Result (Unit {0}) Halt) → IsConsistent old → Behind old others config → GivenStands (table_of old) given
    → Becomes old new (record { node = old.control.node; task = K.Give given }) others → IsOk result → Moves old new (give (record config { task = steps.Give (given_in (table_of old) given) })) result
moves-given old new given others config result holds behind stands becomes ok = ok-moves old new (give (record config { task = steps.Give (given_in (table_of old) given) })) result ok
    (arrives-so old new (record { node = old.control.node; task = K.Give given }) others config holds behind tt holds.node stands becomes)

-- another part is entered
pub moves-enters : (old new : RefRun) (node : memory_node.Node) (others : List memory_frame.Frame) (config : Config) (result : Result (Unit {0}) Halt) → IsConsistent old → Behind old others config → NodeStands (table_of old) node
    → TaskFits (table_of old) node (length (operands_of old)) K.Enter → Becomes old new (record { node = node; task = K.Enter }) others → IsOk result
    → Moves old new (give (record config { task = steps.Enter (part_in (table_of old) node) })) result
moves-enters old new node others config result holds behind stands fits becomes ok = ok-moves old new (give (record config { task = steps.Enter (part_in (table_of old) node) })) result ok
    (arrives-so old new (record { node = node; task = K.Enter }) others config holds behind tt stands fits becomes)

-- ---- loops

abbrev pub IsStmtPart : Part → Type 0
IsStmtPart (StmtPart s) = Unit {0}
IsStmtPart _ = ⊥

no-call : (table : Interned) (node : memory_node.Node) → IsStmtPart (part_in table node) → IsCall node → ⊥
no-call table (N.Value v) part is = absurd part
no-call table (N.Object object) part is = absurd is
no-call table (N.Address object) part is = absurd is
no-call table (N.Designator function) part is = absurd is
no-call table (N.Stmt s) part is = absurd is
no-call table (N.Body function) part is = absurd is
no-call table N.Nothing part is = absurd is

no-body : (table : Interned) (node : memory_node.Node) → IsStmtPart (part_in table node) → IsBody node → ⊥
no-body table (N.Value v) part is = absurd is
no-body table (N.Object object) part is = absurd is
no-body table (N.Address object) part is = absurd is
no-body table (N.Designator function) part is = absurd is
no-body table (N.Stmt s) part is = absurd is
no-body table (N.Body function) part is = absurd part
no-body table N.Nothing part is = absurd is

-- a statement waits at a plain stage
stmt-plain : (table : Interned) (node : memory_node.Node) (stage : memory_stage.Stage) → IsStmtPart (part_in table node) → Fits node stage → IsPlain stage
stmt-plain table node S.First part fits = tt
stmt-plain table node (S.Second a) part fits = tt
stmt-plain table node S.Right part fits = tt
stmt-plain table node (S.Argument function count) part fits = no-call table node part fits
stmt-plain table node (S.Local place) part fits = tt
stmt-plain table node (S.Item number) part fits = tt
stmt-plain table node S.Begin part fits = tt
stmt-plain table node S.Turn part fits = tt
stmt-plain table node S.Step part fits = tt
stmt-plain table node (S.Scope height) part fits = tt
stmt-plain table node (S.Call is_used place base) part fits = no-body table node part fits

-- and isn't found as an object, nor awaits one
stmt-unplaced : (table : Interned) (node : memory_node.Node) → IsStmtPart (part_in table node) → IsPlaced node → ⊥
stmt-unplaced table (N.Stmt s) part is = is
stmt-unplaced table (N.Value v) part is = part
stmt-unplaced table (N.Object object) part is = part
stmt-unplaced table (N.Address object) part is = part
stmt-unplaced table (N.Designator function) part is = is
stmt-unplaced table (N.Body function) part is = is
stmt-unplaced table N.Nothing part is = is

no-first : (table : Interned) (node : memory_node.Node) → IsStmtPart (part_in table node) → IsBehindFirst node → ⊥
no-first table (N.Object object) part is = part
no-first table (N.Value v) part is = is
no-first table (N.Address object) part is = is
no-first table (N.Designator function) part is = is
no-first table (N.Stmt s) part is = is
no-first table (N.Body function) part is = is
no-first table N.Nothing part is = is

no-both : (table : Interned) (node : memory_node.Node) → IsStmtPart (part_in table node) → IsBehindBoth node → ⊥
no-both table (N.Object object) part is = part
no-both table (N.Value v) part is = is
no-both table (N.Address object) part is = is
no-both table (N.Designator function) part is = is
no-both table (N.Stmt s) part is = is
no-both table (N.Body function) part is = is
no-both table N.Nothing part is = is

pub stmt-unfound : (table : Interned) (node : memory_node.Node) (stage : memory_stage.Stage) → IsStmtPart (part_in table node) → FindsAt node stage → ⊥
stmt-unfound table node S.First part finds = no-first table node part finds
stmt-unfound table node (S.Second a) part finds = no-both table node part finds
stmt-unfound table node _ part finds = finds

-- what waits behind a statement on top
pub top-behind : (run : RefRun) (top : ℕ) (part : Part) → IsConsistent run → TakesNone run.control.task → IsStmtPart part → (on : IsOnTop run top part) → Behind run on.innermost.others (popped (config_in run))
top-behind run top part holds free is on = popped-behind run (record { node = on.innermost.node; stage = on.stage }) on.innermost.others holds free on.innermost.stack
    (stmt-plain (table_of run) on.innermost.node on.stage (subst IsStmtPart (sym on.innermost.is) is) all.1)
    (stmt-unfound (table_of run) on.innermost.node on.stage (subst IsStmtPart (sym on.innermost.is) is))
  where
    all : FramesHold (table_of run) run.base (operands_after run.control.task (operands_of run)) (record { node = on.innermost.node; stage = on.stage } ∷ on.innermost.others)
    all = subst (λ s. FramesHold (table_of run) run.base (operands_after run.control.task (operands_of run)) s) on.innermost.stack holds.frames

-- how a loop waits
pub record WaitsAsLoop (table : Interned) (node : memory_node.Node) : Type 0 where
  pub part : IsStmtPart (part_in table node)
  pub body : behind_body (part_in table node) ≡ steps.Body (loop_of (stmt_of (part_in table node)))
  pub condition : waiting (part_in table node) ≡ steps.Condition (loop_of (stmt_of (part_in table node)))
  pub turns : IsTurning node
  pub waits : Waits node

as-loop : (table : Interned) (s : Bor memory_stmt.Stmt) (m : memory_stmt.Stmt) → IsLoop (N.Stmt (record s { now = m })) → WaitsAsLoop table (N.Stmt (record s { now = m }))
as-loop table s (M.Block' shape items) is = absurd is
as-loop table s M.Empty is = absurd is
as-loop table s (M.Expression value) is = absurd is
as-loop table s (M.If' condition p taken) is = absurd is
as-loop table s (M.IfElse' condition p taken q otherwise) is = absurd is
as-loop table s (M.While' condition p body) is = record { part = tt; body = refl; condition = refl; turns = tt; waits = tt }
as-loop table s (M.DoWhile' p body condition) is = record { part = tt; body = refl; condition = refl; turns = tt; waits = tt }
as-loop table s (M.For' start condition step p body) is = record { part = tt; body = refl; condition = refl; turns = tt; waits = tt }
as-loop table s (M.Switch' value shape items) is = absurd is
as-loop table s M.Break is = absurd is
as-loop table s M.Continue is = absurd is
as-loop table s (M.Return value) is = absurd is

pub waits-as-loop : (table : Interned) (node : memory_node.Node) → IsLoop node → WaitsAsLoop table node
waits-as-loop table (N.Value v) is = absurd is
waits-as-loop table (N.Object object) is = absurd is
waits-as-loop table (N.Address object) is = absurd is
waits-as-loop table (N.Designator function) is = absurd is
waits-as-loop table (N.Stmt s) is = as-loop table s s.now is
waits-as-loop table (N.Body function) is = absurd is
waits-as-loop table N.Nothing is = absurd is

same-body : (around : TypeEnvironment) (functions : List FunctionDef) (l : Loop) → body_in l ≡ steps.body_of around functions l
same-body around functions (WhileLoop condition body) = refl
same-body around functions (DoLoop body condition) = refl
same-body around functions (ForLoop condition step body) = refl

stmt-fits : (table : Interned) (node : memory_node.Node) (operands : ℕ) → IsStmtPart (part_in table node) → TaskFits table node operands K.Enter
stmt-fits table (N.Value v) operands is = absurd is
stmt-fits table (N.Object object) operands is = absurd is
stmt-fits table (N.Address object) operands is = absurd is
stmt-fits table (N.Designator function) operands is = absurd is
stmt-fits table (N.Stmt s) operands is = tt
stmt-fits table (N.Body function) operands is = absurd is
stmt-fits table N.Nothing operands is = absurd is

-- a loop's body is performed
pub moves-turning : (old new : RefRun) (top : ℕ) (node body : memory_node.Node) (result : Result (Unit {0}) Halt) → IsConsistent old → TakesNone old.control.task → NodeStands (table_of old) node → IsLoop node
    → (on : IsOnTop old top (part_in (table_of old) node)) → part_in (table_of old) body ≡ StmtPart (body_in (loop_of (stmt_of (part_in (table_of old) node)))) → NodeStands (table_of old) body
    → Becomes old new (record { node = body; task = K.Enter }) (record { node = node; stage = S.Turn } ∷ on.innermost.others) → IsOk result
    → Moves old new (turning old (stmt_of (part_in (table_of old) node))) result
moves-turning old new top node body result holds free stands is on part body_stands becomes ok =
    subst (λ c. Moves old new (give c) result) same
    (moves-enters old new body (record { node = node; stage = S.Turn } ∷ on.innermost.others) (record rest { frames = behind_body (part_in (table_of old) node) ∷ rest.frames }) result holds
    (pushed-behind old on.innermost.others rest node S.Turn (top-behind old top (part_in (table_of old) node) holds free loop.part on) tt (λ is. is) stands loop.turns tt tt)
    body_stands (stmt-fits (table_of old) body (length (operands_of old)) (subst IsStmtPart (sym part) tt)) becomes ok)
  where
    rest : Config
    rest = popped (config_in old)

    loop : WaitsAsLoop (table_of old) node
    loop = waits-as-loop (table_of old) node is

    same : record rest { frames = behind_body (part_in (table_of old) node) ∷ rest.frames; task = steps.Enter (part_in (table_of old) body) }
        ≡ steps.turn_body (around_run old) (functions_of old) (loop_of (stmt_of (part_in (table_of old) node))) rest
    same = λ i. record rest { frames = loop.body i ∷ rest.frames; task = steps.Enter ((part ∙ ap StmtPart (same-body (around_run old) (functions_of old) (loop_of (stmt_of (part_in (table_of old) node))))) i) }

-- and its condition evaluated
pub moves-asking : (old new : RefRun) (top : ℕ) (node condition : memory_node.Node) (v : T.Value) (result : Result (Unit {0}) Halt) → IsConsistent old → TakesNone old.control.task → NodeStands (table_of old) node → IsLoop node
    → (on : IsOnTop old top (part_in (table_of old) node)) → part_in (table_of old) condition ≡ ValuePart v → NodeStands (table_of old) condition → TaskFits (table_of old) condition (length (operands_of old)) K.Enter
    → Becomes old new (record { node = condition; task = K.Enter }) (record { node = node; stage = S.First } ∷ on.innermost.others) → IsOk result
    → Moves old new (asking old (stmt_of (part_in (table_of old) node)) v) result
moves-asking old new top node condition v result holds free stands is on part condition_stands fits becomes ok =
    subst (λ c. Moves old new (give c) result) same
    (moves-enters old new condition (record { node = node; stage = S.First } ∷ on.innermost.others) (record rest { frames = waiting (part_in (table_of old) node) ∷ rest.frames }) result holds
    (pushed-behind old on.innermost.others rest node S.First (top-behind old top (part_in (table_of old) node) holds free loop.part on) tt (stmt-unplaced (table_of old) node loop.part) stands loop.waits tt tt)
    condition_stands fits becomes ok)
  where
    rest : Config
    rest = popped (config_in old)

    loop : WaitsAsLoop (table_of old) node
    loop = waits-as-loop (table_of old) node is

    same : record rest { frames = waiting (part_in (table_of old) node) ∷ rest.frames; task = steps.Enter (part_in (table_of old) condition) }
        ≡ steps.enters (around_run old) (functions_of old) (ValuePart v) (steps.waits (around_run old) (functions_of old) (steps.Condition (loop_of (stmt_of (part_in (table_of old) node)))) rest)
    same = λ i. record rest { frames = loop.condition i ∷ rest.frames; task = steps.Enter (part i) }
