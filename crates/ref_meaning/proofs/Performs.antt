-- Statements get the values that they wait for, and turns of loops begin.
use Rattle.std.proofs.Common.{◌≡◌, ℕ, ℤ, Bool, true, false, ◌∷◌, length, Option, None, Result, IsOk, Bor, Box, Global, ◌⊎◌, inl, inr, refl, sym, ap, subst, ◌∙◌}
use Rattle.c_typed.specs.declared.statement.Stmt as memory_stmt
use Rattle.c_typed.specs.declared.statement.Stmt.{roll-Stmt, roll-out-Stmt}
use Rattle.c_typed.specs.declared.statement.Stmt.TheVariants as M
use Rattle.c_typed.specs.declared.statement.ForStart as memory_start
use Rattle.c_typed.specs.declared.typed.Value as memory_value
use Rattle.c_typed.specs.Table.{Interned}
use Rattle.c_typed.specs.Typed.{Stmt}
use Rattle.c_typed.specs.StatementViews.{stmt_in}
use Rattle.ref_meaning.specs.Trees.{StmtFits}
use Rattle.ref_semantics.specs.Store.{State, give}
use Rattle.ref_semantics.specs.Values.{Scalar}
use Rattle.ref_semantics.specs.Meaning.{is_true}
use Rattle.ref_semantics.specs.Parts.{StmtPart}
use Rattle.ref_semantics.specs.Steps as steps
use Rattle.ref_semantics.specs.Steps.{ScalarGiven}
use Rattle.ref_meaning.specs.RefStore.Holding.{At}
use Rattle.ref_meaning.specs.declared.control.Control.{Control}
use Rattle.ref_meaning.specs.declared.control.Node as memory_node
use Rattle.ref_meaning.specs.declared.control.Node.TheVariants as N
use Rattle.ref_meaning.specs.declared.control.Given as memory_given
use Rattle.ref_meaning.specs.declared.control.Stage.TheVariants as S
use Rattle.ref_meaning.specs.declared.control.Task.TheVariants as K
use Rattle.ref_meaning.specs.declared.run.Halt.{Halt}
use Rattle.ref_meaning.specs.declared.run.RefRun.{RefRun}
use Rattle.ref_meaning.specs.Views.{part_in, given_in, loop_of, case_items_of, behind_body, waiting, table_of, operands_of, around_run, functions_of, config_in}
use Rattle.ref_meaning.specs.Holding.{IsConsistent, NodeStands, GivenStands, TaskFits, IsLoop, IsSwitch, IsTurning}
use Rattle.ref_meaning.specs.Doing.{TakesNone, IsInnermost, popped, taking, turning, beginning_turn}
use Rattle.ref_meaning.specs.Moving.{Becomes, Moves, Arrives}
use Rattle.ref_meaning.proofs.Behind.{Behind, IsStmtPart, stmt-unfound, popped-behind, pushed-behind, arrives-so, moves-given, moves-enters, WaitsAsLoop, waits-as-loop}

value-behind : (old : RefRun) (top : ℕ) (stmt : Bor memory_stmt.Stmt) → IsConsistent old → TakesNone old.control.task → (on : IsInnermost old top (StmtPart (stmt_in (table_of old) stmt.now)) S.First) → Behind old on.others (popped (config_in old))
value-behind old top stmt holds free on = popped-behind old (record { node = on.node; stage = S.First }) on.others holds free on.stack tt (stmt-unfound (table_of old) on.node S.First (subst IsStmtPart (sym on.is) tt))

pub value-given : (old new : RefRun) (top : ℕ) (stmt : Bor memory_stmt.Stmt) (m : memory_stmt.Stmt) (given : memory_given.Given) (a : Scalar) (result : Result (Unit {0}) Halt) → stmt.now ≡ m
    → (on : IsInnermost old top (StmtPart (stmt_in (table_of old) stmt.now)) S.First) → Becomes old new (record { node = old.control.node; task = K.Give given }) on.others → IsOk result
    → IsConsistent old → TakesNone old.control.task → GivenStands (table_of old) given
    → give (record (popped (config_in old)) { task = steps.Give (given_in (table_of old) given) }) ≡ taking old (waiting (StmtPart (stmt_in (table_of old) m))) (ScalarGiven a)
    → Moves old new (taking old (waiting (StmtPart (stmt_in (table_of old) stmt.now))) (ScalarGiven a)) result
value-given old new top stmt m given a result is on becomes ok holds free stands so =
    subst (λ eval. Moves old new eval result) (so ∙ ap (λ s. taking old (waiting (StmtPart (stmt_in (table_of old) s))) (ScalarGiven a)) (sym is))
    (moves-given old new given on.others (popped (config_in old)) result holds (value-behind old top stmt holds free on) stands becomes ok)

pub value-enters : (old new : RefRun) (top : ℕ) (stmt : Bor memory_stmt.Stmt) (m : memory_stmt.Stmt) (node : memory_node.Node) (a : Scalar) (result : Result (Unit {0}) Halt) → stmt.now ≡ m
    → (on : IsInnermost old top (StmtPart (stmt_in (table_of old) stmt.now)) S.First) → Becomes old new (record { node = node; task = K.Enter }) on.others → IsOk result
    → IsConsistent old → TakesNone old.control.task → NodeStands (table_of old) node → TaskFits (table_of old) node (length (operands_of old)) K.Enter
    → give (record (popped (config_in old)) { task = steps.Enter (part_in (table_of old) node) }) ≡ taking old (waiting (StmtPart (stmt_in (table_of old) m))) (ScalarGiven a)
    → Moves old new (taking old (waiting (StmtPart (stmt_in (table_of old) stmt.now))) (ScalarGiven a)) result
value-enters old new top stmt m node a result is on becomes ok holds free stands fits so =
    subst (λ eval. Moves old new eval result) (so ∙ ap (λ s. taking old (waiting (StmtPart (stmt_in (table_of old) s))) (ScalarGiven a)) (sym is))
    (moves-enters old new node on.others (popped (config_in old)) result holds (value-behind old top stmt holds free on) stands fits becomes ok)

-- a loop takes the value of its condition
loop-takes : (old : RefRun) (stmt : Bor memory_stmt.Stmt) (a : Scalar) (b : Bool) → IsLoop (N.Stmt stmt) → is_true a ≡ b
    → give (steps.ask (around_run old) (functions_of old) (loop_of (stmt_in (table_of old) stmt.now)) b (popped (config_in old))) ≡ taking old (waiting (StmtPart (stmt_in (table_of old) stmt.now))) (ScalarGiven a)
loop-takes old stmt a b is so =
    (λ i. give (steps.ask (around_run old) (functions_of old) (loop_of (stmt_in (table_of old) stmt.now)) (sym so i) (popped (config_in old))))
    ∙ ap (λ frame. taking old frame (ScalarGiven a)) (sym loop.condition)
  where
    loop : WaitsAsLoop (table_of old) (N.Stmt stmt)
    loop = waits-as-loop (table_of old) (N.Stmt stmt) is

pub is-loop : (stmt : Bor memory_stmt.Stmt)
    → (((condition : _) × (body : _) × (stmt.now ≡ M.While condition body)) ⊎ (((body : _) × (condition : _) × (stmt.now ≡ M.DoWhile body condition)) ⊎ ((start : _) × (condition : _) × (step : _) × (body : _) × (stmt.now ≡ M.For start condition step body))))
    → IsLoop (N.Stmt stmt)
is-loop stmt (inl is) = subst (λ s. IsLoop (N.Stmt (record stmt { now = s }))) (sym is.2) tt
is-loop stmt (inr (inl is)) = subst (λ s. IsLoop (N.Stmt (record stmt { now = s }))) (sym is.2) tt
is-loop stmt (inr (inr is)) = subst (λ s. IsLoop (N.Stmt (record stmt { now = s }))) (sym is.4) tt

pub loop-turns : (old new : RefRun) (stmt : Bor memory_stmt.Stmt) (a : Scalar) (result : Result (Unit {0}) Halt) → IsLoop (N.Stmt stmt) → is_true a ≡ true → Moves old new (turning old (stmt_in (table_of old) stmt.now)) result
    → Moves old new (taking old (waiting (StmtPart (stmt_in (table_of old) stmt.now))) (ScalarGiven a)) result
loop-turns old new stmt a result is so moves = subst (λ eval. Moves old new eval result) (loop-takes old stmt a true is so) moves

pub loop-ends : (old new : RefRun) (top : ℕ) (stmt : Bor memory_stmt.Stmt) (given : memory_given.Given) (a : Scalar) (result : Result (Unit {0}) Halt) → IsLoop (N.Stmt stmt) → is_true a ≡ false
    → (on : IsInnermost old top (StmtPart (stmt_in (table_of old) stmt.now)) S.First) → Becomes old new (record { node = old.control.node; task = K.Give given }) on.others → IsOk result
    → IsConsistent old → TakesNone old.control.task → GivenStands (table_of old) given
    → give (record (popped (config_in old)) { task = steps.Give (given_in (table_of old) given) }) ≡ give (steps.ask (around_run old) (functions_of old) (loop_of (stmt_in (table_of old) stmt.now)) false (popped (config_in old)))
    → Moves old new (taking old (waiting (StmtPart (stmt_in (table_of old) stmt.now))) (ScalarGiven a)) result
loop-ends old new top stmt given a result is so on becomes ok holds free stands same =
    subst (λ eval. Moves old new eval result) (same ∙ loop-takes old stmt a false is so)
    (moves-given old new given on.others (popped (config_in old)) result holds (value-behind old top stmt holds free on) stands becomes ok)

-- `if` chooses by it
pub chooses : (old : RefRun) (taken : Stmt) (otherwise : Option Stmt) (a : Scalar) (b : Bool) → is_true a ≡ b
    → give (steps.choose (around_run old) (functions_of old) b taken otherwise (popped (config_in old))) ≡ taking old (steps.ToChoose taken otherwise) (ScalarGiven a)
chooses old taken otherwise a b so = λ i. give (steps.choose (around_run old) (functions_of old) (sym so i) taken otherwise (popped (config_in old)))

-- a `switch` looks for its label
pub value-searches : (old mid : RefRun) (top : ℕ) (stmt : Bor memory_stmt.Stmt) (m : memory_stmt.Stmt) (z : ℤ) (a : Scalar) → stmt.now ≡ m
    → (on : IsInnermost old top (StmtPart (stmt_in (table_of old) stmt.now)) S.First) → Becomes old mid old.control (record { node = N.Stmt stmt; stage = S.Turn } ∷ on.others)
    → IsConsistent old → TakesNone old.control.task → StmtFits (table_of old) stmt.now → IsTurning (N.Stmt (record stmt { now = m })) → IsSwitch (N.Stmt (record stmt { now = m }))
    → give (record (popped (config_in old)) { task = steps.Search z (case_items_of (stmt_in (table_of old) m)) None; frames = behind_body (StmtPart (stmt_in (table_of old) m)) ∷ (popped (config_in old)).frames })
    ≡ taking old (waiting (StmtPart (stmt_in (table_of old) m))) (ScalarGiven a)
    → (state : State) → At (around_run old) old.store old.base state
    → Arrives (record mid { control = record { node = N.Stmt stmt; task = K.Label z 0 None } }) (taking old (waiting (StmtPart (stmt_in (table_of old) stmt.now))) (ScalarGiven a)) state
value-searches old mid top stmt m z a is on becomes holds free stands turns is_switch so state at =
    subst (λ eval. Arrives new eval state)
    ((λ i. give (record (popped (config_in old)) {
      task = steps.Search z (case_items_of (stmt_in (table_of old) (is i))) None;
      frames = behind_body (StmtPart (stmt_in (table_of old) (is i))) ∷ (popped (config_in old)).frames;
    })) ∙ (so ∙ ap (λ s. taking old (waiting (StmtPart (stmt_in (table_of old) s))) (ScalarGiven a)) (sym is)))
    (arrives-so old new next (record { node = N.Stmt stmt; stage = S.Turn } ∷ on.others)
    (record (popped (config_in old)) { frames = behind_body (StmtPart (stmt_in (table_of old) stmt.now)) ∷ (popped (config_in old)).frames }) holds
    (pushed-behind old on.others (popped (config_in old)) (N.Stmt stmt) S.Turn (value-behind old top stmt holds free on) tt (λ is. is) stands (subst (λ s. IsTurning (N.Stmt (record stmt { now = s }))) (sym is) turns) tt tt)
    tt stands (subst (λ s. IsSwitch (N.Stmt (record stmt { now = s }))) (sym is) is_switch)
    (record {
      kept = record { program = becomes.kept.program; functions = becomes.kept.functions; main = becomes.kept.main; spent = becomes.kept.spent };
      store = becomes.store;
      operands = becomes.operands;
      base = becomes.base;
      depth = becomes.depth;
      control = refl;
      stack = becomes.stack;
    }) state at)
  where
    next : Control
    next = record { node = N.Stmt stmt; task = K.Label z 0 None }

    new : RefRun
    new = record mid { control = next }

-- another statement drops it
pub drops : (table : Interned) (s : memory_stmt.Stmt) → ((condition : _) (taken : _) → s ≡ M.If condition taken → ⊥) → ((condition : _) (taken : _) (otherwise : _) → s ≡ M.IfElse condition taken otherwise → ⊥) → ((condition : _) (body : _) → s ≡ M.While condition body → ⊥)
    → ((body : _) (condition : _) → s ≡ M.DoWhile body condition → ⊥) → ((start : _) (condition : _) (step : _) (body : _) → s ≡ M.For start condition step body → ⊥) → ((value : _) (items : _) → s ≡ M.Switch value items → ⊥)
    → ((value : _) → s ≡ M.Return value → ⊥) → waiting (StmtPart (stmt_in table s)) ≡ steps.ToDrop
drops table (M.If' condition p taken) not_if not_else not_while not_do not_for not_switch not_return =
    absurd (not_if _ _ (sym (roll-out-Stmt (M.If' condition p taken)) ∙ ap roll-Stmt (M.outs-If' condition p taken) ∙ M.rolls-If _ _))
drops table (M.IfElse' condition p taken q otherwise) not_if not_else not_while not_do not_for not_switch not_return =
    absurd (not_else _ _ _ (sym (roll-out-Stmt (M.IfElse' condition p taken q otherwise)) ∙ ap roll-Stmt (M.outs-IfElse' condition p taken q otherwise) ∙ M.rolls-IfElse _ _ _))
drops table (M.While' condition p body) not_if not_else not_while not_do not_for not_switch not_return =
    absurd (not_while _ _ (sym (roll-out-Stmt (M.While' condition p body)) ∙ ap roll-Stmt (M.outs-While' condition p body) ∙ M.rolls-While _ _))
drops table (M.DoWhile' p body condition) not_if not_else not_while not_do not_for not_switch not_return =
    absurd (not_do _ _ (sym (roll-out-Stmt (M.DoWhile' p body condition)) ∙ ap roll-Stmt (M.outs-DoWhile' p body condition) ∙ M.rolls-DoWhile _ _))
drops table (M.For' start condition step p body) not_if not_else not_while not_do not_for not_switch not_return =
    absurd (not_for _ _ _ _ (sym (roll-out-Stmt (M.For' start condition step p body)) ∙ ap roll-Stmt (M.outs-For' start condition step p body) ∙ M.rolls-For _ _ _ _))
drops table (M.Switch' value shape items) not_if not_else not_while not_do not_for not_switch not_return =
    absurd (not_switch _ _ (sym (roll-out-Stmt (M.Switch' value shape items)) ∙ ap roll-Stmt (M.outs-Switch' value shape items) ∙ M.rolls-Switch _ _))
drops table (M.Return value) not_if not_else not_while not_do not_for not_switch not_return = absurd (not_return value refl)
drops table (M.Block' shape items) not_if not_else not_while not_do not_for not_switch not_return = refl
drops table M.Empty not_if not_else not_while not_do not_for not_switch not_return = refl
drops table (M.Expression value) not_if not_else not_while not_do not_for not_switch not_return = refl
drops table M.Break not_if not_else not_while not_do not_for not_switch not_return = refl
drops table M.Continue not_if not_else not_while not_do not_for not_switch not_return = refl

-- ---- turns begin

-- without a condition before the body
pub for-turns : (old : RefRun) (s : memory_stmt.Stmt) (start : memory_start.ForStart) (condition step : Option memory_value.Value) (body : Box memory_stmt.Stmt Global) → s ≡ M.For start condition step body → condition ≡ None
    → turning old (stmt_in (table_of old) s) ≡ beginning_turn old (stmt_in (table_of old) s)
for-turns old s start condition step body is none =
    subst (λ t. turning old (stmt_in (table_of old) t) ≡ beginning_turn old (stmt_in (table_of old) t)) (ap (λ o. M.For start o step body) (sym none) ∙ sym is) refl

pub do-turns : (old : RefRun) (s : Bor memory_stmt.Stmt) → IsLoop (N.Stmt s) → ((condition : _) (body : _) → s.now ≡ M.While condition body → ⊥) → ((start : _) (condition : _) (step : _) (body : _) → s.now ≡ M.For start condition step body → ⊥)
    → turning old (stmt_in (table_of old) s.now) ≡ beginning_turn old (stmt_in (table_of old) s.now)
do-turns old s is not_while not_for = by s.now is not_while not_for
  where
    by : (t : memory_stmt.Stmt) → IsLoop (N.Stmt (record s { now = t })) → ((condition : _) (body : _) → t ≡ M.While condition body → ⊥) → ((start : _) (condition : _) (step : _) (body : _) → t ≡ M.For start condition step body → ⊥) → turning old (stmt_in (table_of old) t) ≡ beginning_turn old (stmt_in (table_of old) t)
    by (M.DoWhile' p body condition) is not_while not_for = refl
    by (M.While' condition p body) is not_while not_for = absurd (not_while _ _ (sym (roll-out-Stmt (M.While' condition p body)) ∙ ap roll-Stmt (M.outs-While' condition p body) ∙ M.rolls-While _ _))
    by (M.For' start condition step p body) is not_while not_for = absurd (not_for _ _ _ _ (sym (roll-out-Stmt (M.For' start condition step p body)) ∙ ap roll-Stmt (M.outs-For' start condition step p body) ∙ M.rolls-For _ _ _ _))
    by _ is not_while not_for = absurd is
