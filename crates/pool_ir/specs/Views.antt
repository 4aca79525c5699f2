-- The plain code that code in memory stands for.
use Rattle.std.specs.Prelude.{ℕ, List, map}
use Rattle.tac_ir.specs.Views.{tree_of, operand_of, optional_operand}
use Rattle.pool_ir.specs.declared.number.Descriptor.{Descriptor}
use Rattle.pool_ir.specs.declared.path.Slot as memory_slot
use Rattle.pool_ir.specs.declared.path.Slot.TheVariants as W
use Rattle.pool_ir.specs.declared.path.Base as memory_base
use Rattle.pool_ir.specs.declared.path.Base.TheVariants as B
use Rattle.pool_ir.specs.declared.path.Step as memory_step
use Rattle.pool_ir.specs.declared.path.Step.TheVariants as S
use Rattle.pool_ir.specs.declared.path.Path as memory_path
use Rattle.pool_ir.specs.declared.op.Callee as memory_callee
use Rattle.pool_ir.specs.declared.op.Callee.TheVariants as C
use Rattle.pool_ir.specs.declared.op.Op as memory_op
use Rattle.pool_ir.specs.declared.op.Op.TheVariants as O
use Rattle.pool_ir.specs.declared.program.Action as memory_action
use Rattle.pool_ir.specs.declared.program.Action.TheVariants as A
use Rattle.pool_ir.specs.declared.program.Edge as memory_edge
use Rattle.pool_ir.specs.declared.program.FrameObject as memory_object
use Rattle.pool_ir.specs.declared.program.FrameLayout as memory_frame
use Rattle.pool_ir.specs.declared.program.Function as memory_function
use Rattle.pool_ir.specs.declared.program.PoolCode as memory_code
use Rattle.pool_ir.specs.Code

abbrev pub slot_of : memory_slot.Slot → Code.Slot
slot_of (W.Integer int_type) = Code.IntegerSlot int_type
slot_of W.Address = Code.AddressSlot
slot_of (W.Index descriptor) = Code.IndexSlot descriptor.0

abbrev pub base_of : memory_base.Base → Code.Base
base_of (B.Frame offset) = Code.AtFrame offset
base_of (B.Globals offset) = Code.AtGlobals offset
base_of (B.Pointed pointer) = Code.Pointed pointer
base_of (B.Indexed pointer size number) = Code.Indexed pointer size (tree_of number)

abbrev pub step_of : memory_step.Step → Code.Step
step_of (S.Member offset) = Code.Member offset
step_of (S.Element size index) = Code.Element size (tree_of index)

abbrev pub path_of : memory_path.Path → Code.Path
path_of path = record { base = base_of path.base; steps = map step_of path.steps.items }

abbrev pub callee_of : memory_callee.Callee → Code.Callee
callee_of (C.Function function) = Code.Known function.0
callee_of (C.Through pointer signature) = Code.Through pointer signature.0

abbrev pub descriptors_of : List Descriptor → List ℕ
descriptors_of descriptors = map (λ (descriptor : Descriptor). descriptor.0) descriptors

abbrev pub op_of : memory_op.Op → Code.Op
op_of O.Reserved = Code.Reserved
op_of (O.Jump to) = Code.Jump to.0
op_of (O.Branch int_type condition holds fails) = Code.Branch int_type (tree_of condition) holds.0 fails.0
op_of (O.Assign to tree) = Code.Assign to (tree_of tree)
op_of (O.Null to) = Code.Null to
op_of (O.FunctionAddress to function) = Code.FunctionAddress to function.0
op_of (O.Copy to from) = Code.Copy to from
op_of (O.Test to pointer) = Code.Test to pointer
op_of (O.Move to pointer size is_minus number) = Code.Move to pointer size is_minus (tree_of number)
op_of (O.Difference to size left right) = Code.Difference to size left right
op_of (O.ComparePointers to relation left right) = Code.ComparePointers to relation left right
op_of (O.Address to path) = Code.AddressOf to (path_of path)
op_of (O.Load to slot path) = Code.Load to (slot_of slot) (path_of path)
op_of (O.Store path slot value) = Code.Store (path_of path) (slot_of slot) (operand_of value)
op_of (O.Allocate site size pool) = Code.Allocate site (tree_of size) pool.0
op_of (O.Free site pointer pool) = Code.Free site pointer pool.0
op_of (O.Call site callee arguments pools) = Code.Call site (callee_of callee) arguments.items (descriptors_of pools.items)
op_of (O.GetChar site) = Code.GetChar site
op_of (O.PutChar site value) = Code.PutChar site (tree_of value)
op_of (O.Exit status) = Code.Exit (tree_of status)
op_of (O.Return value) = Code.Return (optional_operand value)

abbrev pub action_of : memory_action.Action → Code.Action
action_of (A.Make descriptor kind) = Code.Make descriptor.0 kind.0
action_of (A.Destroy descriptor) = Code.Destroy descriptor.0

abbrev pub edge_of : memory_edge.Edge → Code.Edge
edge_of edge = record { from = edge.from.0; to = edge.to.0; actions = map action_of edge.actions.items }

abbrev pub object_of : memory_object.FrameObject → Code.FrameObject
object_of object = record { local = object.local; offset = object.offset; size = object.size }

abbrev pub frame_of : memory_frame.FrameLayout → Code.FrameLayout
frame_of frame =
    record {
      descriptors = frame.descriptors;
      parameters = frame.parameters;
      registers = frame.registers;
      objects = map object_of frame.objects.items;
      size = frame.size;
    }

abbrev pub function_of : memory_function.Function → Code.Function
function_of function =
    record {
      signature = function.signature.0;
      taken = function.taken;
      frame = frame_of function.frame;
      entering = map action_of function.entering.items;
      edges = map edge_of function.edges.items;
      leaving = map action_of function.leaving.items;
      points = map op_of function.points.items;
    }

abbrev pub code_of : memory_code.PoolCode → Code.PoolCode
code_of code =
    record {
      functions = map function_of code.functions.items;
      start = function_of code.start;
      kinds = code.kinds.items;
      globals = code.globals;
      contents = code.contents.items;
    }
