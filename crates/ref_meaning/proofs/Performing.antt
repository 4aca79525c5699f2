-- A statement is performed.
use Rattle.std.proofs.Common.{◌≡◌, ℕ, ◌-◌, List, ◌∷◌, length, drop, Result, IsOk, OnOk, OnErr, IfErr, Bor, sym, ap, subst, ◌∙◌, length-drop}
use Rattle.std.proofs.lemmas.List.{length-reverse}
use Rattle.c_typed.specs.declared.statement.Stmt as memory_stmt
use Rattle.c_typed.specs.Table.{Interned}
use Rattle.c_typed.specs.StatementViews.{stmt_in}
use Rattle.ref_meaning.specs.Trees.{StmtFits}
use Rattle.ref_semantics.specs.Store.{State, give}
use Rattle.ref_semantics.specs.Parts.{StmtPart}
use Rattle.ref_semantics.specs.Steps as steps
use Rattle.ref_semantics.specs.Steps.{Config, Frame, WayGiven}
use Rattle.ref_meaning.specs.RefStore.Holding.{At, left}
use Rattle.ref_meaning.specs.declared.control.Control.{Control}
use Rattle.ref_meaning.specs.declared.control.Node as memory_node
use Rattle.ref_meaning.specs.declared.control.Node.TheVariants as N
use Rattle.ref_meaning.specs.declared.control.Completion as memory_completion
use Rattle.ref_meaning.specs.declared.control.Given.TheVariants as G
use Rattle.ref_meaning.specs.declared.control.Stage as memory_stage
use Rattle.ref_meaning.specs.declared.control.Stage.TheVariants as S
use Rattle.ref_meaning.specs.declared.control.Frame as memory_frame
use Rattle.ref_meaning.specs.declared.control.Task.TheVariants as K
use Rattle.ref_meaning.specs.declared.run.Halt.{Halt}
use Rattle.ref_meaning.specs.declared.run.Halt.TheVariants as H
use Rattle.ref_meaning.specs.declared.run.RefRun.{RefRun}
use Rattle.ref_meaning.specs.Views.{part_in, completion_in, task_in, table_of, operands_of, stack_of, around_run, functions_of, config_in}
use Rattle.ref_meaning.specs.Holding.{IsConsistent, NodeStands, CompletionStands, Fits, StageStands, HasRoom, TaskFits, AwaitsAt, Awaits}
use Rattle.ref_meaning.specs.Doing.{TakesNone, innermost, performing}
use Rattle.ref_meaning.specs.Moving.{Becomes, IsSame, Arrives, Moves}
use Rattle.ref_meaning.proofs.Moves.{IsPlain, memory-moves, ok-moves}
use Rattle.ref_meaning.proofs.Behind.{Behind, all-behind, pushed-behind, arrives-so, moves-given}

module _ (old : RefRun) (holds : IsConsistent old) (free : TakesNone old.control.task) (unawaited : Awaits (stack_of old) → ⊥) (stmt : Bor memory_stmt.Stmt) (m : memory_stmt.Stmt) (is : stmt.now ≡ m) where
  abbrev pub table : Interned
  table = table_of old

  all : Behind old (stack_of old) (config_in old)
  all = all-behind old holds free unawaited

  performs : performing old (stmt_in table m) ≡ performing old (stmt_in table stmt.now)
  performs = ap (λ s. performing old (stmt_in table s)) (sym is)

  -- it ends so
  pub ends : (new : RefRun) (way : memory_completion.Completion) (result : Result (Unit {0}) Halt) → CompletionStands table way
      → Becomes old new (record { node = old.control.node; task = K.Give (G.Completion way) }) (stack_of old) → IsOk result
      → give (record (config_in old) { task = steps.Give (WayGiven (completion_in table way)) }) ≡ performing old (stmt_in table m)
      → Moves old new (performing old (stmt_in table stmt.now)) result
  ends new way result stands becomes ok so =
      subst (λ eval. Moves old new eval result) (so ∙ performs) (moves-given old new (G.Completion way) (stack_of old) (config_in old) result holds all stands becomes ok)

  -- it waits at a stage
  module _ (stage : memory_stage.Stage) (plain : IsPlain stage) (unplaced : AwaitsAt (N.Stmt stmt) stage → ⊥) (stands : StmtFits table stmt.now)
      (fits : Fits (N.Stmt stmt) stage) (known : StageStands table stage) (room : HasRoom stage old.base (length (operands_of old))) where
    -- while this is done
    abbrev pub inside : Control → memory_stmt.Stmt → Config → Config
    inside next s config = record config { task = task_in table (operands_of old) (part_in table next.node) next.task; frames = innermost old (StmtPart (stmt_in table s)) stage ∷ config.frames }

    pub waits : (new : RefRun) (part : memory_node.Node) (result : Result (Unit {0}) Halt)
        → OnOk result (Becomes old new (record { node = part; task = K.Enter }) (record { node = N.Stmt stmt; stage = stage } ∷ stack_of old))
        → OnErr result (IsSame old new) → IfErr result (λ e. e ≡ H.OutOfMemory) → NodeStands table part → TaskFits table part (length (operands_of old)) K.Enter
        → give (inside (record { node = part; task = K.Enter }) m (config_in old)) ≡ performing old (stmt_in table m)
        → Moves old new (performing old (stmt_in table stmt.now)) result
    waits new part result waiting same only entered enters so =
        memory-moves old new (performing old (stmt_in table stmt.now)) next frames result waiting same only holds
        (λ becomes state at. subst (λ eval. Arrives new eval state) ((λ i. give (inside next (is i) (config_in old))) ∙ (so ∙ performs))
        (arrives-so old new next frames (record (config_in old) { frames = innermost old (StmtPart (stmt_in table stmt.now)) stage ∷ (config_in old).frames }) holds
        (pushed-behind old (stack_of old) (config_in old) (N.Stmt stmt) stage all plain unplaced stands fits known room) tt entered enters becomes state at))
      where
        next : Control
        next = record { node = part; task = K.Enter }

        frames : List memory_frame.Frame
        frames = record { node = N.Stmt stmt; stage = stage } ∷ stack_of old

    -- in a scope of its own
    abbrev pub scope : ℕ → Config
    scope count = record (config_in old) { frames = steps.Scope count ∷ (config_in old).frames }

    scope-behind : Behind old (record { node = N.Nothing; stage = S.Scope (length old.store.locals.items) } ∷ stack_of old) (scope (length old.store.locals.items - old.base))
    scope-behind = pushed-behind old (stack_of old) (config_in old) N.Nothing (S.Scope (length old.store.locals.items)) all tt (λ awaits. awaits) tt tt tt holds.within

    count-is : (state : State) → At (around_run old) old.store old.base state → length state.locals ≡ length old.store.locals.items - old.base
    count-is state at = ap length at.locals ∙ (length-reverse (drop old.base old.store.locals.items) ∙ length-drop old.base old.store.locals.items)

    pub opens : (new : RefRun) (next : Control) (result : Result (Unit {0}) Halt) → TakesNone next.task → NodeStands table next.node → TaskFits table next.node (length (operands_of old)) next.task
        → Becomes old new next (record { node = N.Stmt stmt; stage = stage } ∷ record { node = N.Nothing; stage = S.Scope (length old.store.locals.items) } ∷ stack_of old) → IsOk result
        → steps.in_scope (around_run old) (functions_of old) (inside next m) (config_in old) ≡ performing old (stmt_in table m)
        → Moves old new (performing old (stmt_in table stmt.now)) result
    opens new next result freed entered task becomes ok so =
        ok-moves old new (performing old (stmt_in table stmt.now)) result ok (λ state at.
        subst (λ eval. Arrives new eval state) ((λ i. steps.in_scope (around_run old) (functions_of old) (inside next (is i)) (config_in old)) ∙ (so ∙ performs))
        (scoped state at
        (arrives-so old new next frames (record (scope (length old.store.locals.items - old.base)) { frames = innermost old (StmtPart (stmt_in table stmt.now)) stage ∷ (scope (length old.store.locals.items - old.base)).frames }) holds
        (pushed-behind old behind (scope (length old.store.locals.items - old.base)) (N.Stmt stmt) stage scope-behind plain unplaced stands fits known room) freed entered task becomes state at)))
      where
        behind : List memory_frame.Frame
        behind = record { node = N.Nothing; stage = S.Scope (length old.store.locals.items) } ∷ stack_of old

        frames : List memory_frame.Frame
        frames = record { node = N.Stmt stmt; stage = stage } ∷ behind

        scoped : (state : State) → At (around_run old) old.store old.base state → Arrives new (give (inside next stmt.now (scope (length old.store.locals.items - old.base)))) state
            → Arrives new (steps.in_scope (around_run old) (functions_of old) (inside next stmt.now) (config_in old)) state
        scoped state at arrives = record {
          after = arrives.after;
          does = λ units input. ap (λ count. give (inside next stmt.now (scope count)) (left units input state)) (count-is state at) ∙ arrives.does units input;
          at = arrives.at;
          quiet = arrives.quiet;
          holds = arrives.holds;
        }
