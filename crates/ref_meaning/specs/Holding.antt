-- What holds of a run throughout.
use Rattle.std.specs.Prelude.{◌≡◌, ℕ, suc, ◌≤◌, List, [], ◌∷◌, length, Some, option_map, bytes_eq, codes}
use Rattle.indexmap.specs.IndexMap.{get_by}
use Rattle.c_typed.specs.declared.typed.Value.TheVariants as V
use Rattle.c_typed.specs.declared.typed.Value as memory_value
use Rattle.c_typed.specs.declared.typed.Object as memory_object
use Rattle.c_typed.specs.declared.typed.Object.TheVariants as O
use Rattle.c_typed.specs.declared.statement.Stmt as memory_stmt
use Rattle.c_typed.specs.declared.statement.Stmt.TheVariants as M
use Rattle.c_typed.specs.Table.{Interned}
use Rattle.ref_meaning.specs.Trees.{ValueFits, ObjectFits, DesignatorFits, StmtFits, FunctionFits, ProgramFits}
use Rattle.ref_semantics.specs.Meaning.{function_from, greatest_depth}
use Rattle.ref_semantics.specs.Store.{State}
use Rattle.ref_meaning.specs.declared.value.Scalar as memory_scalar
use Rattle.ref_meaning.specs.declared.value.Scalar.TheVariants as A
use Rattle.ref_meaning.specs.RefStore.Views.{ScalarStands, PlaceStands, IsElement}
use Rattle.ref_meaning.specs.RefStore.Holding.{At}
use Rattle.ref_meaning.specs.declared.control.Control.{Control}
use Rattle.ref_meaning.specs.declared.control.Node as memory_node
use Rattle.ref_meaning.specs.declared.control.Node.TheVariants as N
use Rattle.ref_meaning.specs.declared.control.Completion as memory_completion
use Rattle.ref_meaning.specs.declared.control.Completion.TheVariants as W
use Rattle.ref_meaning.specs.declared.control.Given as memory_given
use Rattle.ref_meaning.specs.declared.control.Given.TheVariants as G
use Rattle.ref_meaning.specs.declared.control.Stage as memory_stage
use Rattle.ref_meaning.specs.declared.control.Stage.TheVariants as S
use Rattle.ref_meaning.specs.declared.control.Frame as memory_frame
use Rattle.ref_meaning.specs.declared.control.Task as memory_task
use Rattle.ref_meaning.specs.declared.control.Task.TheVariants as K
use Rattle.ref_meaning.specs.declared.run.RefRun.{RefRun}
use Rattle.ref_meaning.specs.Views.{table_of, operands_of, stack_of, around_run, functions_of, operands_behind, base_behind, operands_after}

-- ---- types stand

abbrev pub NodeStands : Interned → memory_node.Node → Type 0
NodeStands table (N.Value v) = ValueFits table v.now
NodeStands table (N.Object object) = ObjectFits table object.now
NodeStands table (N.Address object) = ObjectFits table object.now
NodeStands table (N.Designator function) = DesignatorFits table function.now
NodeStands table (N.Stmt s) = StmtFits table s.now
NodeStands table (N.Body function) = FunctionFits table function.now
NodeStands table N.Nothing = Unit {0}

abbrev pub CompletionStands : Interned → memory_completion.Completion → Type 0
CompletionStands table (W.Return (Some value)) = ScalarStands table value
CompletionStands table _ = Unit {0}

abbrev pub GivenStands : Interned → memory_given.Given → Type 0
GivenStands table (G.Scalar a) = ScalarStands table a
GivenStands table (G.Completion way) = CompletionStands table way

abbrev pub ScalarsStand : Interned → List memory_scalar.Scalar → Type 0
ScalarsStand table [] = Unit {0}
ScalarsStand table (first ∷ others) = ScalarStands table first × ScalarsStand table others

-- ---- a stage or a task fits a part

abbrev pub IsCall : memory_node.Node → Type 0
IsCall (N.Value v) = by v.now
  where
    by : memory_value.Value → Type 0
    by (V.Call' is_used place p function c_type shape arguments) = Unit {0}
    by (V.LibraryCall' function groups place shape arguments) = Unit {0}
    by _ = ⊥
IsCall _ = ⊥

abbrev pub IsLibraryCall : memory_node.Node → Type 0
IsLibraryCall (N.Value v) = by v.now
  where
    by : memory_value.Value → Type 0
    by (V.LibraryCall' function groups place shape arguments) = Unit {0}
    by _ = ⊥
IsLibraryCall _ = ⊥

abbrev pub IsObject : memory_node.Node → Type 0
IsObject (N.Object object) = Unit {0}
IsObject _ = ⊥

abbrev pub IsMember : memory_object.Object → Type 0
IsMember (O.MemberOf' place p object number) = Unit {0}
IsMember _ = ⊥

-- it works on what an object is found as: an array that decays, or a member
abbrev pub IsPlaced : memory_node.Node → Type 0
IsPlaced (N.Value v) = by v.now
  where
    by : memory_value.Value → Type 0
    by (V.Decay' place p object) = Unit {0}
    by _ = ⊥
IsPlaced (N.Object object) = IsMember object.now
IsPlaced (N.Address object) = IsMember object.now
IsPlaced _ = ⊥

-- an object that is found once its first operand is known, or the next one
abbrev pub IsBehindFirst : memory_node.Node → Type 0
IsBehindFirst (N.Object object) = by object.now
  where
    by : memory_object.Object → Type 0
    by (O.Pointed' place p pointer) = Unit {0}
    by (O.Element' place p pointer q number) = Unit {0}
    by (O.ElementOf' place p number q pointer) = Unit {0}
    by (O.MemberOf' place p object number) = Unit {0}
    by (O.PointedMember' place p pointer number) = Unit {0}
    by _ = ⊥
IsBehindFirst _ = ⊥

-- an object that is found once both operands are known
abbrev pub IsBehindBoth : memory_node.Node → Type 0
IsBehindBoth (N.Object object) = by object.now
  where
    by : memory_object.Object → Type 0
    by (O.Element' place p pointer q number) = Unit {0}
    by (O.ElementOf' place p number q pointer) = Unit {0}
    by _ = ⊥
IsBehindBoth _ = ⊥

-- a pointer to an element
abbrev pub PointsToElement : Interned → memory_scalar.Scalar → Type 0
PointsToElement table (A.Pointer place) = IsElement table place
PointsToElement table _ = ⊥

abbrev pub IsBody : memory_node.Node → Type 0
IsBody (N.Body function) = Unit {0}
IsBody _ = ⊥

abbrev pub IsLoop : memory_node.Node → Type 0
IsLoop (N.Stmt s) = by s.now
  where
    by : memory_stmt.Stmt → Type 0
    by (M.While' condition p body) = Unit {0}
    by (M.DoWhile' p body condition) = Unit {0}
    by (M.For' start condition step p body) = Unit {0}
    by _ = ⊥
IsLoop _ = ⊥

abbrev pub IsSwitch : memory_node.Node → Type 0
IsSwitch (N.Stmt s) = by s.now
  where
    by : memory_stmt.Stmt → Type 0
    by (M.Switch' value shape items) = Unit {0}
    by _ = ⊥
IsSwitch _ = ⊥

abbrev pub IsTurning : memory_node.Node → Type 0
IsTurning (N.Stmt s) = by s.now
  where
    by : memory_stmt.Stmt → Type 0
    by (M.While' condition p body) = Unit {0}
    by (M.DoWhile' p body condition) = Unit {0}
    by (M.For' start condition step p body) = Unit {0}
    by (M.Switch' value shape items) = Unit {0}
    by _ = ⊥
IsTurning _ = ⊥

-- it has items: a block, a `switch`, a `for`, or a function's body
abbrev pub HasItems : memory_node.Node → Type 0
HasItems (N.Stmt s) = by s.now
  where
    by : memory_stmt.Stmt → Type 0
    by (M.Block' shape items) = Unit {0}
    by (M.For' start condition step p body) = Unit {0}
    by (M.Switch' value shape items) = Unit {0}
    by _ = ⊥
HasItems (N.Body function) = Unit {0}
HasItems _ = ⊥

abbrev pub Waits : memory_node.Node → Type 0
Waits (N.Body function) = ⊥
Waits N.Nothing = ⊥
Waits _ = Unit {0}

abbrev pub Fits : memory_node.Node → memory_stage.Stage → Type 0
Fits node S.First = Waits node
Fits node (S.Second a) = Waits node
Fits node (S.Argument function count) = IsCall node
Fits node (S.Item number) = HasItems node
Fits node S.Begin = IsLoop node
Fits node S.Turn = IsTurning node
Fits node S.Step = IsLoop node
Fits node (S.Call is_used place base) = IsBody node
Fits node _ = Unit {0}

abbrev pub StageStands : Interned → memory_stage.Stage → Type 0
StageStands table (S.Second a) = ScalarStands table a
StageStands table (S.Argument function count) = ScalarStands table function
StageStands table (S.Local place) = PlaceStands table place
StageStands table _ = Unit {0}

-- its operands are there, and its locals begin behind those of its callers
abbrev pub HasRoom : memory_stage.Stage → ℕ → ℕ → Type 0
HasRoom (S.Argument function count) base operands = count ≤ operands
HasRoom (S.Scope height) base operands = base ≤ height
HasRoom (S.Call is_used place base') base operands = base' ≤ base
HasRoom _ base operands = Unit {0}

abbrev pub calls_in : memory_stage.Stage → ℕ → ℕ
calls_in (S.Call is_used place base) n = suc n
calls_in _ n = n

abbrev pub calls_among : List memory_frame.Frame → ℕ
calls_among [] = 0
calls_among (frame ∷ frames) = calls_in frame.stage (calls_among frames)

-- what waits, the innermost first
abbrev pub FramesHold : Interned → ℕ → List memory_scalar.Scalar → List memory_frame.Frame → Type 0
FramesHold table base operands [] = Unit {0}
FramesHold table base operands (frame ∷ frames) =
    NodeStands table frame.node × Fits frame.node frame.stage × StageStands table frame.stage × HasRoom frame.stage base (length operands)
    × FramesHold table (base_behind frame.stage base) (operands_behind frame.stage operands) frames

abbrev pub TaskFits : Interned → memory_node.Node → ℕ → memory_task.Task → Type 0
TaskFits table node operands K.Start = Unit {0}
TaskFits table N.Nothing operands K.Enter = ⊥
TaskFits table node operands K.Enter = Unit {0}
TaskFits table node operands (K.Library groups) = IsLibraryCall node
TaskFits table node operands (K.Apply function count) = IsCall node × ScalarStands table function × (count ≤ operands)
TaskFits table node operands (K.Bind count number) = IsBody node × (count ≤ operands)
TaskFits table node operands (K.Label z number default) = IsSwitch node
TaskFits table node operands (K.Give given) = GivenStands table given
TaskFits table node operands (K.Over final) = Unit {0}

-- the functions have their numbers
abbrev pub AreNumbered : RefRun → Type 0
AreNumbered run = (name : List ℕ) → get_by (λ key. bytes_eq name key.now) run.functions ≡ option_map (λ found. found.0) (function_from 0 (functions_of run) name)

-- ---- what is found as an object is an element

-- it awaits what an object is found as
abbrev pub AwaitsAt : memory_node.Node → memory_stage.Stage → Type 0
AwaitsAt node S.First = IsPlaced node
AwaitsAt node _ = ⊥

abbrev pub Awaits : List memory_frame.Frame → Type 0
Awaits [] = ⊥
Awaits (frame ∷ frames) = AwaitsAt frame.node frame.stage

-- an object that waits for an operand, and then is found
abbrev pub FindsAt : memory_node.Node → memory_stage.Stage → Type 0
FindsAt node S.First = IsBehindFirst node
FindsAt node (S.Second a) = IsBehindBoth node
FindsAt node _ = ⊥

abbrev pub FramesFind : List memory_frame.Frame → Type 0
FramesFind [] = Unit {0}
FramesFind (frame ∷ frames) = (Awaits frames → FindsAt frame.node frame.stage) × FramesFind frames

abbrev pub GivenFinds : Interned → memory_given.Given → Type 0
GivenFinds table (G.Scalar a) = PointsToElement table a
GivenFinds table (G.Completion way) = ⊥

-- what is done next finds an object
abbrev pub TaskFinds : Interned → memory_node.Node → memory_task.Task → Type 0
TaskFinds table node K.Enter = IsObject node
TaskFinds table node (K.Give given) = GivenFinds table given
TaskFinds table node _ = ⊥

-- where what is found as an object is awaited, an object is being evaluated
abbrev pub IsFound : Interned → Control → List memory_frame.Frame → Type 0
IsFound table control frames = (Awaits frames → TaskFinds table control.node control.task) × FramesFind frames

pub record IsConsistent (run : RefRun) : Type 0 where
  pub program : ProgramFits run.program.now
  pub types : run.store.types.now ≡ run.program.now.types
  pub numbered : AreNumbered run
  pub main : run.main ≡ option_map (λ found. found.0) (function_from 0 (functions_of run) (codes "main"))
  pub node : NodeStands (table_of run) run.control.node
  pub task : TaskFits (table_of run) run.control.node (length (operands_of run)) run.control.task
  pub operands : ScalarsStand (table_of run) (operands_of run)
  pub frames : FramesHold (table_of run) run.base (operands_after run.control.task (operands_of run)) (stack_of run)
  pub found : IsFound (table_of run) run.control (stack_of run)
  pub within : run.base ≤ length run.store.locals.items
  pub calls : run.depth ≡ calls_among (stack_of run)
  pub shallow : run.depth ≤ greatest_depth
  pub state : State
  pub at : At (around_run run) run.store run.base state
