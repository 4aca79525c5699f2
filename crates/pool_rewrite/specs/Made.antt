-- What is made of the parts of three-address code in memory.
use Rattle.std.specs.Prelude.{◌≡◌, List, map, Option, Some, None}
use Rattle.c_typed.specs.Table.{Interned, type_in, structs_in}
use Rattle.c_typed.specs.DefinitionViews.{LiteralsStand}
use Rattle.tac_ir.specs.declared.register.Local.{Local}
use Rattle.tac_ir.specs.declared.path.Base as tac_base
use Rattle.tac_ir.specs.declared.path.Path as tac_path
use Rattle.tac_ir.specs.declared.op.Op as tac_op
use Rattle.tac_ir.specs.declared.program.Tac as memory_tac
use Rattle.tac_ir.specs.Layouts as T
use Rattle.tac_ir.specs.Code as C
use Rattle.tac_ir.specs.Views.{base_in, path_in, op_in, tac_of}
use Rattle.pool_ir.specs.declared.path.Path as pool_path
use Rattle.pool_ir.specs.declared.op.Op as pool_op
use Rattle.pool_ir.specs.Code as O
use Rattle.pool_ir.specs.Code.{FrameLayout}
use Rattle.pool_ir.specs.Views as V
use Rattle.pool_rewrite.specs.declared.paths.Inner.{Inner}
use Rattle.pool_rewrite.specs.declared.paths.TypedBase.{TypedBase}
use Rattle.pool_rewrite.specs.declared.paths.TypedStep.{TypedStep}
use Rattle.pool_rewrite.specs.declared.points.Found.{Found}
use Rattle.pool_rewrite.specs.declared.locals.Locals.{Locals}
use Rattle.pool_rewrite.specs.declared.plan.FunctionPlan as memory_plan
use Rattle.pool_rewrite.specs.Plan.{FunctionPlan}
use Rattle.pool_rewrite.specs.Views.{function_plan_of}
use Rattle.pool_rewrite.specs.Rewriting as R
use Rattle.pool_rewrite.specs.Rewritable.{known_type}
use Rattle.pool_rewrite.specs.Places.{AreStatics, TellsSignatures, TellsLocals, found_in, found_offset, found_type}

-- ---- paths

abbrev pub inner_in : Interned → Inner → T.Inner
inner_in table inner = record { offset = inner.offset; c_type = type_in table inner.c_type }

-- a part is found where there is one
abbrev pub IsInner : Interned → Option T.Inner → Option Inner → Type 0
IsInner table expected None = expected ≡ None
IsInner table expected (Some inner) = (expected ≡ Some (inner_in table inner))

pub record IsTypedStep (table : Interned) (expected : R.Typed O.Step) (made : TypedStep) : Type 0 where
  pub part : V.step_of made.step ≡ expected.part
  pub c_type : known_type table made.c_type ≡ expected.c_type

pub record IsTypedBase (table : Interned) (expected : R.Typed O.Base) (made : TypedBase) : Type 0 where
  pub part : V.base_of made.base ≡ expected.part
  pub c_type : known_type table made.c_type ≡ expected.c_type

pub record IsLocalBase (locals : Locals) (local : Local) (made : TypedBase) : Type 0 where
  pub part : V.base_of made.base ≡ O.AtFrame (found_offset (found_in locals local))
  pub c_type : made.c_type ≡ found_type (found_in locals local)

abbrev pub MakesBase : memory_tac.Tac → Locals → tac_base.Base → TypedBase → Type 0
MakesBase tac locals base made =
    (own : List C.LocalObject) (frame : FrameLayout) → TellsLocals tac.types own frame locals → IsTypedBase tac.types (R.base_of (tac_of tac) own frame (base_in tac.types base)) made

abbrev pub MakesPath : memory_tac.Tac → Locals → tac_path.Path → pool_path.Path → Type 0
MakesPath tac locals path made =
    (own : List C.LocalObject) (frame : FrameLayout) → TellsLocals tac.types own frame locals → V.path_of made ≡ R.path_of (tac_of tac) own frame (path_in tac.types path)

-- ---- points

pub record IsProgram (tac : memory_tac.Tac) (found : Found) : Type 0 where
  pub literals : LiteralsStand tac.types tac.literals.items
  pub statics : AreStatics (tac_of tac) found.statics
  pub signatures : TellsSignatures tac.types tac.functions.items found.signatures

-- where there are neither types nor paths nor pools
abbrev pub MakesPlain : tac_op.Op → pool_op.Op → Type 0
MakesPlain op made = (table : Interned) (tac : C.Tac) (plan : FunctionPlan) (own : List C.LocalObject) (frame : FrameLayout) → V.op_of made ≡ R.op_of tac plan own frame (op_in table op)

abbrev pub MakesSized : Interned → tac_op.Op → pool_op.Op → Type 0
MakesSized table op made =
    (tac : C.Tac) (plan : FunctionPlan) (own : List C.LocalObject) (frame : FrameLayout) → tac.structs ≡ structs_in table → V.op_of made ≡ R.op_of tac plan own frame (op_in table op)

abbrev pub MakesAccess : memory_tac.Tac → Locals → tac_op.Op → pool_op.Op → Type 0
MakesAccess tac locals op made =
    (plan : FunctionPlan) (own : List C.LocalObject) (frame : FrameLayout) → TellsLocals tac.types own frame locals → V.op_of made ≡ R.op_of (tac_of tac) plan own frame (op_in tac.types op)

abbrev pub MakesPooled : memory_tac.Tac → memory_plan.FunctionPlan → tac_op.Op → pool_op.Op → Type 0
MakesPooled tac plan op made =
    (own : List C.LocalObject) (frame : FrameLayout) → V.op_of made ≡ R.op_of (tac_of tac) (function_plan_of plan) own frame (op_in tac.types op)

abbrev pub MakesPoint : memory_tac.Tac → memory_plan.FunctionPlan → Locals → tac_op.Op → pool_op.Op → Type 0
MakesPoint tac plan locals op made =
    (own : List C.LocalObject) (frame : FrameLayout) → TellsLocals tac.types own frame locals → V.op_of made ≡ R.op_of (tac_of tac) (function_plan_of plan) own frame (op_in tac.types op)

abbrev pub MakesPoints : memory_tac.Tac → memory_plan.FunctionPlan → Locals → List tac_op.Op → List pool_op.Op → Type 0
MakesPoints tac plan locals ops made =
    (own : List C.LocalObject) (frame : FrameLayout) → TellsLocals tac.types own frame locals
    → map V.op_of made ≡ map (R.op_of (tac_of tac) (function_plan_of plan) own frame) (map (op_in tac.types) ops)
