-- Steps that neither read nor write.
use Rattle.std.proofs.Common.{◌≡◌, ℕ, List, ◌∷◌, ◌++◌, Option, Some, Result, Ok, Err, OnOk, OnErr, IfErr, refl, sym, ap, subst, ◌∙◌}
use Rattle.run_theory.specs.Runs.{output_of}
use Rattle.c_typed.specs.declared.definition.FunctionDef.{FunctionDef}
use Rattle.c_typed.specs.declared.statement.Stmt.{Stmt}
use Rattle.c_typed.specs.StatementViews.{stmt_in}
use Rattle.c_typed.specs.DefinitionViews.{function_in}
use Rattle.std.specs.Borrow.{Bor}
use Rattle.c_typed.specs.Table.{Interned}
use Rattle.ref_semantics.specs.Store.{State, Eval}
use Rattle.ref_semantics.specs.Meaning.{Normal}
use Rattle.ref_semantics.specs.Steps as steps
use Rattle.ref_semantics.specs.Steps.{Config}
use Rattle.ref_semantics.specs.Units as units
use Rattle.ref_meaning.specs.declared.control.Node as memory_node
use Rattle.ref_meaning.specs.declared.control.Node.TheVariants as N
use Rattle.ref_meaning.specs.declared.control.Completion.TheVariants as W
use Rattle.ref_meaning.specs.declared.control.Given.TheVariants as G
use Rattle.ref_meaning.specs.declared.control.Stage.TheVariants as S
use Rattle.ref_meaning.specs.declared.control.Task as memory_task
use Rattle.ref_meaning.specs.declared.control.Task.TheVariants as K
use Rattle.ref_meaning.specs.declared.control.Final as memory_final
use Rattle.ref_meaning.specs.declared.run.Halt.{Halt}
use Rattle.ref_meaning.specs.declared.run.Halt.TheVariants as H
use Rattle.ref_meaning.specs.declared.run.RefRun.{RefRun}
use Rattle.ref_meaning.specs.Views.{config_in, around_run, functions_of, table_of, operands_of, stack_of, part_in, task_in, frames_in, operands_after, at_item}
use Rattle.ref_meaning.specs.Holding.{IsConsistent, TaskFits, TaskFinds, FramesHold, HasItems}
use Rattle.ref_meaning.specs.Doing.{acting, performing, evaluating, IsExpression, TakesNone}
use Rattle.ref_meaning.specs.Moving.{Becomes, IsSame, Arrives, Moves, Acts, IsTold}
use Rattle.ref_meaning.proofs.Moves.{becomes-config, becomes-holds, becomes-arrives, same-stays}

told-still : (base input : List ℕ) (old new : State) (is_left written : Option (List ℕ)) → IsTold base input old is_left written → output_of new.trace ≡ output_of old.trace → IsTold base input new is_left written
told-still base input old new is_left written told quiet = (told.0, told.1 ∙ ap (λ bytes. Some (base ++ bytes)) (sym quiet))

-- what moves acts, with nothing read and nothing written
pub moves-acts : {A : Type 0} (old new : RefRun) (eval : Eval Config) (result : Result A Halt) (is_left written : Option (List ℕ)) → Moves old new eval result → Acts old new eval result is_left written is_left written
moves-acts old new eval (Ok done) is_left written moves = λ base input state at told.
    let arrives = moves state at in
    record {
      after = arrives.after;
      rest = input;
      does = λ units. arrives.does units input;
      at = arrives.at;
      told = told-still base input state arrives.after is_left written told arrives.quiet;
      holds = arrives.holds;
    }
moves-acts old new eval (Err (H.Final final)) is_left written moves = λ base input state at told.
    let is_over = moves state at in
    record {
      there = is_over.there;
      rest = input;
      is = λ units. is_over.is units input;
      told = told-still base input state is_over.there is_left written told is_over.quiet;
    }
moves-acts old new eval (Err H.OutOfMemory) is_left written moves = record { stays = moves; unread = refl; unwritten = refl }
moves-acts old new eval (Err H.ReadFault) is_left written moves = absurd moves
moves-acts old new eval (Err H.WriteFault) is_left written moves = absurd moves

-- and it meets no fault
pub no-read : {A B : Type 0} (old new : RefRun) (eval : Eval Config) (result : Result A Halt) → Moves old new eval result → result ≡ Err H.ReadFault → B
no-read old new eval result moves e = absurd (subst (Moves old new eval) e moves)

pub no-write : {A B : Type 0} (old new : RefRun) (eval : Eval Config) (result : Result A Halt) → Moves old new eval result → result ≡ Err H.WriteFault → B
no-write old new eval result moves e = absurd (subst (Moves old new eval) e moves)

-- ---- what is entered

-- what is next, where the part and the task are known
acting-at : (run : RefRun) (node : memory_node.Node) (task : memory_task.Task) → run.control.node ≡ node → run.control.task ≡ task
    → acting run ≡ units.act (around_run run) (functions_of run) (task_in (table_of run) (operands_of run) (part_in (table_of run) node) task) (config_in run)
acting-at run node task is_node is_task = λ i. units.act (around_run run) (functions_of run) (task_in (table_of run) (operands_of run) (part_in (table_of run) (is_node i)) (is_task i)) (config_in run)

pub performs : (run : RefRun) (s : Bor Stmt) → run.control.node ≡ N.Stmt s → run.control.task ≡ K.Enter → performing run (stmt_in (table_of run) s.now) ≡ acting run
performs run s is_node is_task = sym (acting-at run (N.Stmt s) K.Enter is_node is_task)

evaluates-part : (run : RefRun) (node : memory_node.Node) → IsExpression node → units.act (around_run run) (functions_of run) (task_in (table_of run) (operands_of run) (part_in (table_of run) node) K.Enter) (config_in run) ≡ evaluating run (part_in (table_of run) node)
evaluates-part run (N.Value v) is = refl
evaluates-part run (N.Object object) is = refl
evaluates-part run (N.Address object) is = refl
evaluates-part run (N.Designator function) is = refl
evaluates-part run (N.Stmt s) is = absurd is
evaluates-part run (N.Body function) is = absurd is
evaluates-part run N.Nothing is = absurd is

pub evaluates : (run : RefRun) (node : memory_node.Node) → IsExpression node → run.control.node ≡ node → run.control.task ≡ K.Enter → evaluating run (part_in (table_of run) node) ≡ acting run
evaluates run node is is_node is_task = sym (acting-at run node K.Enter is_node is_task ∙ evaluates-part run node is)

-- a function's body begins with its first item
pub body-begins : {A : Type 0} (old new : RefRun) (function : Bor FunctionDef) (result : Result A Halt) → IsConsistent old → old.control.node ≡ N.Body function → old.control.task ≡ K.Enter
    → OnOk result (Becomes old new (record { node = old.control.node; task = K.Give (G.Completion W.Normal) }) (record { node = old.control.node; stage = S.Item 0 } ∷ stack_of old))
    → OnErr result (IsSame old new) → IfErr result (λ e. e ≡ H.OutOfMemory) → Moves old new (acting old) result
body-begins old new function (Ok done) holds is_node is_task begins same only =
    let table = table_of old in
    let locals = old.store.locals.items in
    let operands = operands_of old in
    let back = sym is_task in
    let config : Config = steps.came (around_run old) (functions_of old) (steps.WayGiven Normal) (steps.waits (around_run old) (functions_of old) (steps.Items (function_in table function.now).body) (config_in old)) in
    let is : config_in new ≡ config =
    becomes-config old new _ _ begins ∙ (λ i. record {
      task = steps.Give (steps.WayGiven Normal);
      frames = at_item (part_in table (is_node i)) 0 ∷ frames_in table locals old.base (operands_after (back i) operands) (stack_of old);
      depth = (config_in old).depth;
    }) in
    λ state at. subst (λ (eval : Eval Config). Arrives new eval state) (sym (acting-at old (N.Body function) K.Enter is_node is_task))
    (becomes-arrives old new _ _ config begins is
    (becomes-holds old new _ _ begins holds ((λ awaits. absurd awaits), ((λ awaits. subst (λ n. TaskFinds table n K.Enter) is_node (subst (λ task. TaskFinds table old.control.node task) is_task (holds.found.0 awaits))), holds.found.1)) holds.node tt
    (holds.node, subst HasItems (sym is_node) tt, tt, tt, subst (λ task. FramesHold table old.base (operands_after task operands) (stack_of old)) is_task holds.frames)
    holds.calls)
    state at)
body-begins {A = A} old new function (Err halt) holds is_node is_task begins same only =
    subst (λ (h : Halt). Moves {A = A} old new (acting old) (Err h)) (sym only) (same-stays old new same holds)

-- nothing is left to do
abbrev pub finished : Result (Unit {0}) Halt
finished = Ok tt

pub over-stays : (run : RefRun) (final : memory_final.Final) → IsConsistent run → run.control.task ≡ K.Over final → Moves run run (acting run) finished
over-stays run final holds is_task = λ state at. subst (λ (eval : Eval Config). Arrives run eval state) (sym (acting-at run run.control.node (K.Over final) refl is_task))
    (record { after = state; does = λ units input. refl; at = at; quiet = refl; holds = holds })

-- where it moves, it holds behind that
pub moves-holds : {A : Type 0} (old new : RefRun) (eval : Eval Config) (result : Result A Halt) → IsConsistent old → Moves old new eval result → OnOk result (IsConsistent new)
moves-holds old new eval (Ok done) holds moves = (moves holds.state holds.at).holds
moves-holds old new eval (Err halt) holds moves = tt

-- what is entered is an expression where it is no statement and no body
pub is-expression : (table : Interned) (node : memory_node.Node) (operands : ℕ) → TaskFits table node operands K.Enter → ((s : Bor Stmt) → node ≡ N.Stmt s → ⊥) → ((function : Bor FunctionDef) → node ≡ N.Body function → ⊥) → IsExpression node
is-expression table (N.Value v) operands fits no_stmt no_body = tt
is-expression table (N.Object object) operands fits no_stmt no_body = tt
is-expression table (N.Address object) operands fits no_stmt no_body = tt
is-expression table (N.Designator function) operands fits no_stmt no_body = tt
is-expression table (N.Stmt s) operands fits no_stmt no_body = absurd (no_stmt s refl)
is-expression table (N.Body function) operands fits no_stmt no_body = absurd (no_body function refl)
is-expression table N.Nothing operands fits no_stmt no_body = absurd fits

-- what is next, where its task is known
pub control-is : (run : RefRun) (task : memory_task.Task) → run.control.task ≡ task → run.control ≡ record { node = run.control.node; task = task }
control-is run task is = λ i. record { node = run.control.node; task = is i }

pub takes-none : (run : RefRun) (task : memory_task.Task) → run.control.task ≡ task → TakesNone task → TakesNone run.control.task
takes-none run task is none = subst TakesNone (sym is) none
