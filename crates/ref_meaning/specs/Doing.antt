-- What is done next, from the configuration of a run.
use Rattle.std.specs.Prelude.{◌≡◌, ℕ, suc, true, false, List, [], ◌∷◌, length}
use Rattle.c_typed.specs.declared.typed.Value as memory_value
use Rattle.c_typed.specs.declared.typed.Value.TheVariants as V
use Rattle.c_typed.specs.Typed as T
use Rattle.c_typed.specs.Typed.{Stmt}
use Rattle.c_typed.specs.Table.{Interned}
use Rattle.ref_meaning.specs.Trees.{ValueFits}
use Rattle.ref_semantics.specs.Store.{TypeEnvironment, Eval, give}
use Rattle.ref_semantics.specs.Parts as parts
use Rattle.ref_semantics.specs.Parts.{Part, ValuePart, Next, Comes, Enters, Role, entry_of}
use Rattle.ref_semantics.specs.Steps as steps
use Rattle.ref_semantics.specs.Steps.{Given, Frame, Config, Task, Loop}
use Rattle.ref_semantics.specs.Units as units
use Rattle.ref_meaning.specs.RefStore.Views.{scalar_in, ScalarStands}
use Rattle.ref_meaning.specs.declared.control.Node as memory_node
use Rattle.ref_meaning.specs.declared.control.Node.TheVariants as N
use Rattle.ref_meaning.specs.declared.control.Stage as memory_stage
use Rattle.ref_meaning.specs.declared.control.Stage.TheVariants as S
use Rattle.ref_meaning.specs.declared.control.Frame as memory_frame
use Rattle.ref_meaning.specs.declared.control.Task as memory_task
use Rattle.ref_meaning.specs.declared.control.Task.TheVariants as K
use Rattle.ref_meaning.specs.declared.entry.Entry as memory_entry
use Rattle.ref_meaning.specs.declared.entry.Entry.TheVariants as E
use Rattle.ref_meaning.specs.declared.first_operand.Next as memory_next
use Rattle.ref_meaning.specs.declared.first_operand.Next.TheVariants as X
use Rattle.ref_meaning.specs.declared.first_operand.Role as memory_role
use Rattle.ref_meaning.specs.declared.first_operand.Role.TheVariants as O
use Rattle.ref_meaning.specs.declared.run.RefRun.{RefRun}
use Rattle.ref_meaning.specs.Views.{part_in, value_of, loop_of, frame_in, table_of, operands_of, stack_of, around_run, functions_of, config_in}
use Rattle.ref_meaning.specs.Holding.{NodeStands, Waits, IsLibraryCall, IsObject, IsBehindFirst, IsBehindBoth, PointsToElement}

-- ---- entries and what follows a first operand

abbrev pub EntryStands : Interned → memory_node.Node → memory_entry.Entry → Type 0
EntryStands table node (E.Give a) = ScalarStands table a
EntryStands table node (E.Enter part waits) = NodeStands table part × Waits part
EntryStands table node (E.Library groups) = IsLibraryCall node
EntryStands table node _ = Unit {0}

-- the entry of an object comes to an element
abbrev pub EntryFinds : Interned → memory_node.Node → memory_entry.Entry → Type 0
EntryFinds table node (E.Give a) = PointsToElement table a
EntryFinds table node (E.Local number) = Unit {0}
EntryFinds table node (E.Named name) = Unit {0}
EntryFinds table node (E.Enter part true) = IsBehindFirst node
EntryFinds table node (E.Enter part false) = IsObject part
EntryFinds table node (E.Library groups) = ⊥

-- it enters an object
abbrev pub EntersObject : memory_entry.Entry → Type 0
EntersObject (E.Enter part true) = IsObject part
EntersObject _ = ⊥

-- it enters another, and waits for that
abbrev pub IsAwaited : parts.Entry → Type 0
IsAwaited (parts.Awaits part) = Unit {0}
IsAwaited _ = ⊥

abbrev pub role_of : memory_role.Role → Role
role_of O.Second = parts.AsSecond
role_of O.Right = parts.AsRight
role_of O.Whole = parts.AsWhole

abbrev pub next_in : Interned → memory_next.Next → Next
next_in table (X.Given a) = Comes (scalar_in table a)
next_in table (X.Enter part role) = Enters (value_of (part_in table part)) (role_of role)

-- what is entered is an expression for its value
abbrev pub NextStands : Interned → memory_next.Next → Type 0
NextStands table (X.Given a) = ScalarStands table a
NextStands table (X.Enter (N.Value v) role) = ValueFits table v.now
NextStands table (X.Enter _ role) = ⊥

abbrev pub IsAssignment : T.Value → Type 0
IsAssignment (T.Assign place object operand) = Unit {0}
IsAssignment (T.AssignArithmetic op place object_type int_type object operand) = Unit {0}
IsAssignment (T.AssignMoved is_minus place object number) = Unit {0}
IsAssignment v = ⊥

-- a call of a function of the program
abbrev pub IsOwnCall : memory_node.Node → Type 0
IsOwnCall (N.Value v) = by v.now
  where
    by : memory_value.Value → Type 0
    by (V.Call' is_used place p function c_type shape arguments) = Unit {0}
    by _ = ⊥
IsOwnCall _ = ⊥

abbrev pub IsExpression : memory_node.Node → Type 0
IsExpression (N.Value v) = Unit {0}
IsExpression (N.Object object) = Unit {0}
IsExpression (N.Address object) = Unit {0}
IsExpression (N.Designator function) = Unit {0}
IsExpression _ = ⊥

abbrev pub body_in : Loop → Stmt
body_in (steps.WhileLoop condition body) = body
body_in (steps.DoLoop body condition) = body
body_in (steps.ForLoop condition step body) = body

-- what is done once its first operand is known comes to an element
abbrev pub NextFinds : Interned → memory_node.Node → memory_next.Next → Type 0
NextFinds table node (X.Given a) = PointsToElement table a
NextFinds table node (X.Enter part O.Second) = IsBehindBoth node
NextFinds table node (X.Enter part _) = ⊥

-- ---- the innermost

-- the task takes no operands, so that all of them are those of what waits
abbrev pub TakesNone : memory_task.Task → Type 0
TakesNone (K.Apply function count) = ⊥
TakesNone (K.Bind count number) = ⊥
TakesNone _ = Unit {0}

-- this part waits at this stage, and stands on top of all that wait
pub record IsInnermost (run : RefRun) (top : ℕ) (part : Part) (stage : memory_stage.Stage) : Type 0 where
  pub node : memory_node.Node
  pub others : List memory_frame.Frame
  pub is : part_in (table_of run) node ≡ part
  pub stack : stack_of run ≡ record { node = node; stage = stage } ∷ others
  pub number : suc top ≡ length run.frames.items

-- this part waits on top of all, at some stage
pub record IsOnTop (run : RefRun) (top : ℕ) (part : Part) : Type 0 where
  pub stage : memory_stage.Stage
  pub innermost : IsInnermost run top part stage

-- a stage at which a statement waits, but for a value that it chooses by
abbrev pub IsOfStatement : memory_stage.Stage → Type 0
IsOfStatement (S.Local place) = Unit {0}
IsOfStatement (S.Item number) = Unit {0}
IsOfStatement S.Begin = Unit {0}
IsOfStatement S.Turn = Unit {0}
IsOfStatement S.Step = Unit {0}
IsOfStatement (S.Scope height) = Unit {0}
IsOfStatement _ = ⊥

-- ---- what is done

abbrev pub without_first : List Frame → List Frame
without_first [] = []
without_first (frame ∷ frames) = frames

-- without the innermost
abbrev pub popped : Config → Config
popped config = record config { frames = without_first config.frames }

-- how a frame stands in a run, as the innermost one
abbrev pub innermost : RefRun → Part → memory_stage.Stage → Frame
innermost run part stage = frame_in (table_of run) run.store.locals.items run.base (operands_of run) part stage

abbrev pub taking : RefRun → Frame → Given → Eval Config
taking run frame given = steps.take (around_run run) (functions_of run) frame given (popped (config_in run))

-- a loop that waits on top, for its body, for what a turn begins with, and for its condition
abbrev pub turning : RefRun → Stmt → Eval Config
turning run s = give (steps.turn_body (around_run run) (functions_of run) (loop_of s) (popped (config_in run)))

abbrev pub beginning_turn : RefRun → Stmt → Eval Config
beginning_turn run s = give (steps.begin_turn (around_run run) (functions_of run) (loop_of s) (popped (config_in run)))

abbrev pub asking : RefRun → Stmt → T.Value → Eval Config
asking run s condition =
    give (steps.enters (around_run run) (functions_of run) (ValuePart condition) (steps.waits (around_run run) (functions_of run) (steps.Condition (loop_of s)) (popped (config_in run))))

abbrev pub performing : RefRun → Stmt → Eval Config
performing run s = steps.perform (around_run run) (functions_of run) s (config_in run)

abbrev pub evaluating : RefRun → Part → Eval Config
evaluating run part = steps.evaluate (around_run run) (functions_of run) part (config_in run) (entry_of part)

abbrev pub enter_library : TypeEnvironment → List T.FunctionDef → Part → ℕ → Config → Config
enter_library around functions (ValuePart (T.LibraryCall function groups' place arguments)) groups config = steps.enter_name around functions function place arguments groups config
enter_library around functions part groups config = config

abbrev pub naming : RefRun → Part → ℕ → Eval Config
naming run part groups = give (enter_library (around_run run) (functions_of run) part groups (config_in run))

-- what is next, once its unit is spent
abbrev pub acting : RefRun → Eval Config
acting run = units.act (around_run run) (functions_of run) (config_in run).task (config_in run)

abbrev pub takes : RefRun → Task
takes run = (config_in run).task
