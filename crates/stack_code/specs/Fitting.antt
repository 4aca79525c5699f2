-- When code with pools can be emitted: what it names is there, and its frames lie between the globals and the heap.
use Rattle.std.specs.Prelude.{◌≡◌, ⊤, ℕ, ◌+◌, ◌^◌, ◌<◌, ◌≤◌, List, length, slice_get, Option, Some, None}
use Rattle.std.specs.List.{AllByRecursion}
use Rattle.slab_space.specs.declared.kind.PoolKind.{PoolKind}
use Rattle.tac_ir.specs.declared.register.Register.TheVariants as R
use Rattle.tac_ir.specs.States.{Owner}
use Rattle.tac_ir.specs.Code.{Tree, Constant, Held, Convert, Complement, Not, Arithmetic, Compare, Operand, IntegerOperand, PointerOperand}
use Rattle.pool_isa.specs.Machine.{globals_start}
use Rattle.pool_ir.specs.Code.{Slot, IntegerSlot, AddressSlot, IndexSlot, Base, AtFrame, AtGlobals, Pointed, Indexed, Step, Member, Element, Path, Callee, Known, Through, Op, Action, Make, Destroy, FrameLayout, Function, PoolCode}
use Rattle.pool_ir.specs.Code as O
use Rattle.pool_ir.specs.Frames.{objects_start}
use Rattle.pool_ir.specs.States.{actions_from, function_of}
use Rattle.stack_code.specs.Standing.{HasRegister, HasDescriptor, greatest_frame}

-- ---- registers and descriptors that the frame has words for

abbrev pub TreeFits : FrameLayout → Tree → Type 0
TreeFits frame (Constant z) = ⊤
TreeFits frame (Held register) = HasRegister frame register
TreeFits frame (Convert int_type operand) = TreeFits frame operand
TreeFits frame (Complement int_type operand) = TreeFits frame operand
TreeFits frame (Not int_type operand) = TreeFits frame operand
TreeFits frame (Arithmetic operator int_type left right) = TreeFits frame left × TreeFits frame right
TreeFits frame (Compare relation int_type left right) = TreeFits frame left × TreeFits frame right

abbrev pub OperandFits : FrameLayout → Operand → Type 0
OperandFits frame (IntegerOperand tree) = TreeFits frame tree
OperandFits frame (PointerOperand register) = HasRegister frame register

abbrev pub BaseFits : FrameLayout → Base → Type 0
BaseFits frame (AtFrame offset) = offset ≤ frame.size
BaseFits frame (AtGlobals offset) = ⊤
BaseFits frame (Pointed pointer) = HasRegister frame pointer
BaseFits frame (Indexed pointer size number) = HasRegister frame pointer × TreeFits frame number

abbrev pub StepFits : FrameLayout → Step → Type 0
StepFits frame (Member offset) = ⊤
StepFits frame (Element size index) = TreeFits frame index

abbrev pub PathFits : FrameLayout → Path → Type 0
PathFits frame path = BaseFits frame path.base × AllByRecursion (StepFits frame) path.steps

abbrev pub SlotFits : FrameLayout → Slot → Type 0
SlotFits frame (IntegerSlot int_type) = ⊤
SlotFits frame AddressSlot = ⊤
SlotFits frame (IndexSlot descriptor) = HasDescriptor frame descriptor

abbrev pub CalleeFits : FrameLayout → Callee → Type 0
CalleeFits frame (Known function) = ⊤
CalleeFits frame (Through pointer signature) = HasRegister frame pointer

abbrev pub ValueFits : FrameLayout → Option Operand → Type 0
ValueFits frame None = ⊤
ValueFits frame (Some value) = OperandFits frame value

abbrev pub OpFits : FrameLayout → Op → Type 0
OpFits frame O.Reserved = ⊤
OpFits frame (O.Jump to) = ⊤
OpFits frame (O.Branch int_type condition holds fails) = TreeFits frame condition
OpFits frame (O.Assign to tree) = HasRegister frame to × TreeFits frame tree
OpFits frame (O.Null to) = HasRegister frame to
OpFits frame (O.FunctionAddress to function) = HasRegister frame to
OpFits frame (O.Copy to from) = HasRegister frame to × HasRegister frame from
OpFits frame (O.Test to pointer) = HasRegister frame to × HasRegister frame pointer
OpFits frame (O.Move to pointer size is_minus number) = HasRegister frame to × HasRegister frame pointer × TreeFits frame number
OpFits frame (O.Difference to size left right) = HasRegister frame to × HasRegister frame left × HasRegister frame right
OpFits frame (O.ComparePointers to relation left right) = HasRegister frame to × HasRegister frame left × HasRegister frame right
OpFits frame (O.AddressOf to path) = HasRegister frame to × PathFits frame path
OpFits frame (O.Load to slot path) = HasRegister frame to × SlotFits frame slot × PathFits frame path
OpFits frame (O.Store path slot value) = PathFits frame path × SlotFits frame slot × OperandFits frame value
OpFits frame (O.Allocate site size pool) = HasRegister frame (R.Call site) × TreeFits frame size × HasDescriptor frame pool
OpFits frame (O.Free site pointer pool) = HasRegister frame pointer × HasDescriptor frame pool
OpFits frame (O.Call site callee arguments pools) =
    HasRegister frame (R.Call site) × CalleeFits frame callee × AllByRecursion (HasRegister frame) arguments × AllByRecursion (HasDescriptor frame) pools
OpFits frame (O.GetChar site) = HasRegister frame (R.Call site)
OpFits frame (O.PutChar site value) = HasRegister frame (R.Call site) × TreeFits frame value
OpFits frame (O.Exit status) = TreeFits frame status
OpFits frame (O.Return value) = ValueFits frame value

abbrev pub ActionFits : FrameLayout → Action → Type 0
ActionFits frame (Make descriptor kind) = HasDescriptor frame descriptor
ActionFits frame (Destroy descriptor) = HasDescriptor frame descriptor

-- a pool of a kind that is there is made
abbrev pub IsMaking : List PoolKind → Action → Type 0
IsMaking kinds (Make descriptor kind) = kind < length kinds
IsMaking kinds (Destroy descriptor) = ⊥

-- ---- functions and programs

-- at most so many actions stand on an edge, at entry or at leaving, and at most so many pools are passed at once
abbrev pub PassesFew : ℕ → Op → Type 0
PassesFew most (O.Call site callee arguments pools) = length pools ≤ most
PassesFew most op = ⊤

pub record FunctionFits (most : ℕ) (function : Function) : Type 0 where
  pub taken : function.taken ≤ function.frame.descriptors
  pub words : objects_start function.frame ≤ function.frame.size
  pub size : function.frame.size ≤ greatest_frame
  pub points : (number : ℕ) (op : Op) → slice_get function.points number ≡ Some op → OpFits function.frame op × PassesFew most op
  pub entering : AllByRecursion (ActionFits function.frame) function.entering × (length function.entering ≤ most)
  pub leaving : AllByRecursion (ActionFits function.frame) function.leaving × (length function.leaving ≤ most)
  pub edges : (from to : ℕ) → AllByRecursion (ActionFits function.frame) (actions_from function.edges from to) × (length (actions_from function.edges from to) ≤ most)

pub record CodeFits (most : ℕ) (code : PoolCode) : Type 0 where
  pub functions : (owner : Owner) (function : Function) → function_of code owner ≡ Some function → FunctionFits most function
  pub contents : length code.contents ≤ code.globals
  pub globals : globals_start + code.globals ≤ 2 ^ 40
  -- nothing calls `start`, and at its entry no more is done than pools made
  pub start : (code.start.taken ≡ 0) × (code.start.frame.parameters ≡ 0)
  pub making : AllByRecursion (IsMaking code.kinds) code.start.entering
