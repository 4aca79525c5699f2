-- The configuration of small steps that a run in memory stands for.
use Rattle.std.specs.Prelude.{ℕ, zero, suc, true, false, ◌-◌, List, [], ◌∷◌, drop, take, reverse, map, option_map, Some, None}
use Rattle.run_theory.specs.Runs as Runs
use Rattle.run_theory.specs.Runs.{Final}
use Rattle.c_typed.specs.Types.{Void}
use Rattle.c_typed.specs.Typed as T
use Rattle.c_typed.specs.Typed.{FunctionDef, Values, Block, SwitchItems, LocalDef, ForStart, Stmt, Value}
use Rattle.c_typed.specs.Table.{Interned}
use Rattle.c_typed.specs.Views.{value_in, object_in, designator_in}
use Rattle.c_typed.specs.StatementViews.{stmt_in}
use Rattle.c_typed.specs.DefinitionViews.{function_in, program_of}
use Rattle.ref_semantics.specs.Values.{Scalar, NullValue}
use Rattle.ref_semantics.specs.Store.{TypeEnvironment}
use Rattle.ref_semantics.specs.Meaning.{Completion, Normal, Break, Continue, Return, greatest_depth}
use Rattle.ref_semantics.specs.First.{around_of}
use Rattle.ref_semantics.specs.Parts.{Part, ValuePart, ObjectPart, AddressPart, FunctionPart, StmtPart, BodyPart, Entry, Gives, FindsLocal, Finds, Becomes, Awaits, CallsLibrary}
use Rattle.ref_semantics.specs.Steps as steps
use Rattle.ref_semantics.specs.Steps.{Given, ScalarGiven, WayGiven, Loop, WhileLoop, DoLoop, ForLoop, Callee, Own, FromLibrary, Task, Frame, Config}
use Rattle.ref_meaning.specs.RefStore.Views.{name_of, scalar_in, place_in}
use Rattle.ref_meaning.specs.declared.value.Scalar as memory_scalar
use Rattle.ref_meaning.specs.declared.control.Node as memory_node
use Rattle.ref_meaning.specs.declared.control.Node.TheVariants as N
use Rattle.ref_meaning.specs.declared.control.Completion as memory_completion
use Rattle.ref_meaning.specs.declared.control.Completion.TheVariants as W
use Rattle.ref_meaning.specs.declared.control.Given as memory_given
use Rattle.ref_meaning.specs.declared.control.Given.TheVariants as G
use Rattle.ref_meaning.specs.declared.control.Stage as memory_stage
use Rattle.ref_meaning.specs.declared.control.Stage.TheVariants as S
use Rattle.ref_meaning.specs.declared.control.Frame as memory_frame
use Rattle.ref_meaning.specs.declared.control.Task as memory_task
use Rattle.ref_meaning.specs.declared.control.Task.TheVariants as K
use Rattle.ref_meaning.specs.declared.control.Final as memory_final
use Rattle.ref_meaning.specs.declared.control.Final.TheVariants as F
use Rattle.ref_meaning.specs.declared.entry.Entry as memory_entry
use Rattle.ref_meaning.specs.declared.entry.Entry.TheVariants as E
use Rattle.ref_meaning.specs.declared.run.RefRun.{RefRun}

-- ---- parts of the program

-- an expression for its function that has no name
abbrev pub no_part : Part
no_part = FunctionPart (T.Function [])

abbrev pub part_in : Interned → memory_node.Node → Part
part_in table (N.Value v) = ValuePart (value_in table v.now)
part_in table (N.Object object) = ObjectPart (object_in table object.now)
part_in table (N.Address object) = AddressPart (object_in table object.now)
part_in table (N.Designator function) = FunctionPart (designator_in table function.now)
part_in table (N.Stmt s) = StmtPart (stmt_in table s.now)
part_in table (N.Body function) = BodyPart (function_in table function.now)
part_in table N.Nothing = no_part

abbrev pub entry_in : Interned → memory_entry.Entry → Entry
entry_in table (E.Give a) = Gives (scalar_in table a)
entry_in table (E.Local number) = FindsLocal number
entry_in table (E.Named name) = Finds (name_of name)
entry_in table (E.Enter part true) = Awaits (part_in table part)
entry_in table (E.Enter part false) = Becomes (part_in table part)
entry_in table (E.Library groups) = CallsLibrary groups

abbrev pub completion_in : Interned → memory_completion.Completion → Completion
completion_in table W.Normal = Normal
completion_in table W.Break = Break
completion_in table W.Continue = Continue
completion_in table (W.Return value) = Return (option_map (scalar_in table) value)

abbrev pub given_in : Interned → memory_given.Given → Given
given_in table (G.Scalar a) = ScalarGiven (scalar_in table a)
given_in table (G.Completion way) = WayGiven (completion_in table way)

abbrev pub final_of : memory_final.Final → Final
final_of (F.Ended status) = Runs.Ended status
final_of F.Depth = Runs.DepthReached
final_of (F.Undefined kind place) = Runs.Undefined kind place

-- ---- the parts of a part

abbrev pub loop_of : Stmt → Loop
loop_of (T.While condition body) = WhileLoop condition body
loop_of (T.DoWhile body condition) = DoLoop body condition
loop_of (T.For begin condition step body) = ForLoop condition step body
loop_of s = DoLoop s T.NullPointer

abbrev pub arguments_of : Value → Values
arguments_of (T.Call is_used place function c_type arguments) = arguments
arguments_of (T.LibraryCall function groups place arguments) = arguments
arguments_of v = T.NoValues

-- what an expression calls, once its function is known
abbrev pub callee_of : Value → Scalar → Callee
callee_of (T.LibraryCall function groups place arguments) a = FromLibrary function place
callee_of (T.Call is_used place function c_type arguments) a = Own is_used place c_type a
callee_of v a = Own false (record { line = 1; column = 1 }) Void a

abbrev pub value_of : Part → Value
value_of (ValuePart v) = v
value_of part = T.NullPointer

abbrev pub stmt_of : Part → Stmt
stmt_of (StmtPart s) = s
stmt_of part = T.Empty

abbrev pub no_function : FunctionDef
no_function = record { name = []; c_type = Void; parameters = []; result = Void; body = T.Close }

abbrev pub function_of : Part → FunctionDef
function_of (BodyPart function) = function
function_of part = no_function

abbrev pub arguments_from : ℕ → Values → Values
arguments_from zero arguments = arguments
arguments_from (suc n) T.NoValues = T.NoValues
arguments_from (suc n) (T.MoreValues first others) = arguments_from n others

abbrev pub items_from : ℕ → Block → Block
items_from zero items = items
items_from (suc n) T.Close = T.Close
items_from (suc n) (T.Declare local others) = items_from n others
items_from (suc n) (T.Perform one others) = items_from n others

abbrev pub case_items_from : ℕ → SwitchItems → SwitchItems
case_items_from zero items = items
case_items_from (suc n) T.SwitchEnd = T.SwitchEnd
case_items_from (suc n) (T.Case label others) = case_items_from n others
case_items_from (suc n) (T.Default others) = case_items_from n others
case_items_from (suc n) (T.SwitchStmt one others) = case_items_from n others

abbrev pub case_items_of : Stmt → SwitchItems
case_items_of (T.Switch v items) = items
case_items_of s = T.SwitchEnd

abbrev pub locals_of : ForStart → List LocalDef
locals_of (T.StartLocals locals) = locals
locals_of begin = []

-- ---- what waits

-- a part that waits for the first value that it needs
abbrev pub waiting : Part → Frame
waiting (StmtPart (T.If condition taken)) = steps.ToChoose taken None
waiting (StmtPart (T.IfElse condition taken otherwise)) = steps.ToChoose taken (Some otherwise)
waiting (StmtPart (T.While condition body)) = steps.Condition (WhileLoop condition body)
waiting (StmtPart (T.DoWhile body condition)) = steps.Condition (DoLoop body condition)
waiting (StmtPart (T.For begin condition step body)) = steps.Condition (ForLoop condition step body)
waiting (StmtPart (T.Switch v items)) = steps.ToSearch items
waiting (StmtPart (T.Return v)) = steps.ToReturn
waiting (StmtPart s) = steps.ToDrop
waiting (ValuePart (T.Call is_used place function c_type arguments)) = steps.ForFunction is_used place c_type arguments
waiting part = steps.First part

-- a part at its items, from a number on
abbrev pub at_item : Part → ℕ → Frame
at_item (StmtPart (T.BlockStmt items)) number = steps.Items (items_from number items)
at_item (StmtPart (T.Switch v items)) number = steps.CaseItems (case_items_from number items)
at_item (StmtPart (T.For begin condition step body)) number = steps.Locals (drop number (locals_of begin)) (ForLoop condition step body)
at_item (BodyPart function) number = steps.Items (items_from number function.body)
at_item part number = steps.Items T.Close

-- a part behind the body of its turn
abbrev pub behind_body : Part → Frame
behind_body (StmtPart (T.Switch v items)) = steps.Switched
behind_body part = steps.Body (loop_of (stmt_of part))

-- the newest operands, in their order
abbrev pub newest : Interned → ℕ → List memory_scalar.Scalar → List Scalar
newest table count operands = map (scalar_in table) (reverse (take count operands))

-- the locals of a function that begin behind so many of all and end at so many, the newest first
abbrev pub own_locals : ℕ → ℕ → List ℕ → List ℕ
own_locals first last locals = reverse (drop first (take last locals))

abbrev pub frame_in : Interned → List ℕ → ℕ → List memory_scalar.Scalar → Part → memory_stage.Stage → Frame
frame_in table locals base operands part S.First = waiting part
frame_in table locals base operands part (S.Second a) = steps.Second part (scalar_in table a)
frame_in table locals base operands part S.Right = steps.Right
frame_in table locals base operands part (S.Argument function count) =
    steps.ForArgument (callee_of (value_of part) (scalar_in table function)) (newest table count operands) (arguments_from (suc count) (arguments_of (value_of part)))
frame_in table locals base operands part (S.Local place) = steps.ToHold (place_in table place)
frame_in table locals base operands part (S.Item number) = at_item part number
frame_in table locals base operands part S.Begin = steps.NextTurn (loop_of (stmt_of part))
frame_in table locals base operands part S.Turn = behind_body part
frame_in table locals base operands part S.Step = steps.NextTurn (loop_of (stmt_of part))
frame_in table locals base operands part (S.Scope height) = steps.Scope (height - base)
frame_in table locals base operands part (S.Call is_used place base') = steps.Running (function_of part) is_used place (own_locals base' base locals)

-- the operands of what waits farther out
abbrev pub operands_behind : memory_stage.Stage → List memory_scalar.Scalar → List memory_scalar.Scalar
operands_behind (S.Argument function count) operands = drop count operands
operands_behind _ operands = operands

abbrev pub base_behind : memory_stage.Stage → ℕ → ℕ
base_behind (S.Call is_used place base') base = base'
base_behind _ base = base

-- What waits, the innermost first, where the locals of the function that runs begin behind so many of all, and the operands of all
-- calls that are being made stand newest first.
abbrev pub frames_in : Interned → List ℕ → ℕ → List memory_scalar.Scalar → List memory_frame.Frame → List Frame
frames_in table locals base operands [] = []
frames_in table locals base operands (frame ∷ frames) =
    frame_in table locals base operands (part_in table frame.node) frame.stage ∷ frames_in table locals (base_behind frame.stage base) (operands_behind frame.stage operands) frames

-- ---- what is done next

abbrev pub named_call : Part → ℕ → Task
named_call (ValuePart (T.LibraryCall function groups' place arguments)) groups = steps.EnterName function place arguments groups
named_call part groups = steps.Give (ScalarGiven NullValue)

abbrev pub task_in : Interned → List memory_scalar.Scalar → Part → memory_task.Task → Task
task_in table operands part K.Start = steps.Start
task_in table operands part K.Enter = steps.Enter part
task_in table operands part (K.Library groups) = named_call part groups
task_in table operands part (K.Apply function count) = steps.Apply (callee_of (value_of part) (scalar_in table function)) (newest table count operands)
task_in table operands part (K.Bind count number) = steps.Bind (function_of part) (drop number (function_of part).parameters) (drop number (newest table count operands))
task_in table operands part (K.Label z number default) =
    steps.Search z (case_items_from number (case_items_of (stmt_of part))) (option_map (λ n. case_items_from n (case_items_of (stmt_of part))) default)
task_in table operands part (K.Give given) = steps.Give (given_in table given)
task_in table operands part (K.Over final) = steps.Over (final_of final)

-- the operands that the task takes are the newest
abbrev pub operands_after : memory_task.Task → List memory_scalar.Scalar → List memory_scalar.Scalar
operands_after (K.Apply function count) operands = drop count operands
operands_after (K.Bind count number) operands = drop count operands
operands_after _ operands = operands

-- ---- runs

abbrev pub table_of : RefRun → Interned
table_of run = run.store.types.now

abbrev pub operands_of : RefRun → List memory_scalar.Scalar
operands_of run = reverse run.operands.items

-- the innermost first
abbrev pub stack_of : RefRun → List memory_frame.Frame
stack_of run = reverse run.frames.items

abbrev pub around_run : RefRun → TypeEnvironment
around_run run = around_of (program_of run.program.now)

abbrev pub functions_of : RefRun → List FunctionDef
functions_of run = (program_of run.program.now).functions

abbrev pub config_in : RefRun → Config
config_in run =
    record {
      task = task_in (table_of run) (operands_of run) (part_in (table_of run) run.control.node) run.control.task;
      frames = frames_in (table_of run) run.store.locals.items run.base (operands_after run.control.task (operands_of run)) (stack_of run);
      depth = greatest_depth - run.depth;
    }
