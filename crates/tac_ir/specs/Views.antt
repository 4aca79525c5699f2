-- The plain code that code in memory stands for.
use Rattle.std.specs.Prelude.{map, Option, Some, None}
use Rattle.c_typed.specs.Types.{CType, Integer, Pointer}
use Rattle.c_typed.specs.Table.{Interned, type_in, structs_in}
use Rattle.c_typed.specs.DefinitionViews.{global_in, literal_of}
use Rattle.tac_ir.specs.declared.tree.Tree as memory_tree
use Rattle.tac_ir.specs.declared.tree.Tree.TheVariants as T
use Rattle.tac_ir.specs.declared.path.Base as memory_base
use Rattle.tac_ir.specs.declared.path.Base.TheVariants as B
use Rattle.tac_ir.specs.declared.path.Step as memory_step
use Rattle.tac_ir.specs.declared.path.Step.TheVariants as S
use Rattle.tac_ir.specs.declared.path.Path as memory_path
use Rattle.tac_ir.specs.declared.op.Scalar.{Scalar}
use Rattle.tac_ir.specs.declared.op.Scalar.TheVariants as K
use Rattle.tac_ir.specs.declared.op.Operand as memory_operand
use Rattle.tac_ir.specs.declared.op.Operand.TheVariants as P
use Rattle.tac_ir.specs.declared.op.Callee as memory_callee
use Rattle.tac_ir.specs.declared.op.Callee.TheVariants as C
use Rattle.tac_ir.specs.declared.op.Op as memory_op
use Rattle.tac_ir.specs.declared.op.Op.TheVariants as O
use Rattle.tac_ir.specs.declared.program.LocalObject as memory_object
use Rattle.tac_ir.specs.declared.program.Function as memory_function
use Rattle.tac_ir.specs.declared.program.Tac as memory_tac
use Rattle.tac_ir.specs.Code

abbrev pub tree_of : memory_tree.Tree → Code.Tree
tree_of (T.Constant z) = Code.Constant z
tree_of (T.Held register) = Code.Held register
tree_of (T.Convert' int_type p operand) = Code.Convert int_type (tree_of operand)
tree_of (T.Complement' int_type p operand) = Code.Complement int_type (tree_of operand)
tree_of (T.Not' int_type p operand) = Code.Not int_type (tree_of operand)
tree_of (T.Arithmetic' operator int_type p left q right) = Code.Arithmetic operator int_type (tree_of left) (tree_of right)
tree_of (T.Compare' relation int_type p left q right) = Code.Compare relation int_type (tree_of left) (tree_of right)

abbrev pub base_in : Interned → memory_base.Base → Code.Base
base_in table (B.Local local) = Code.AtLocal local
base_in table (B.Global global) = Code.AtGlobal global.0
base_in table (B.Literal literal) = Code.AtLiteral literal.0
base_in table (B.Pointed pointer target) = Code.Pointed pointer (type_in table target)
base_in table (B.Indexed pointer target number) = Code.Indexed pointer (type_in table target) (tree_of number)

abbrev pub step_of : memory_step.Step → Code.Step
step_of (S.Member number) = Code.Member number
step_of (S.Element index) = Code.Element (tree_of index)

abbrev pub path_in : Interned → memory_path.Path → Code.Path
path_in table path = record { base = base_in table path.base; steps = map step_of path.steps.items }

abbrev pub scalar_in : Interned → Scalar → CType
scalar_in table (K.Integer int_type) = Integer int_type
scalar_in table (K.Pointer target) = Pointer (type_in table target)

abbrev pub operand_of : memory_operand.Operand → Code.Operand
operand_of (P.Integer tree) = Code.IntegerOperand (tree_of tree)
operand_of (P.Pointer register) = Code.PointerOperand register

abbrev pub optional_operand : Option memory_operand.Operand → Option Code.Operand
optional_operand None = None
optional_operand (Some operand) = Some (operand_of operand)

abbrev pub callee_in : Interned → memory_callee.Callee → Code.Callee
callee_in table (C.Function function) = Code.Known function.0
callee_in table (C.Through pointer c_type) = Code.Through pointer (type_in table c_type)

abbrev pub op_in : Interned → memory_op.Op → Code.Op
op_in table O.Reserved = Code.Reserved
op_in table (O.Jump to) = Code.Jump to.0
op_in table (O.Branch int_type condition holds fails) = Code.Branch int_type (tree_of condition) holds.0 fails.0
op_in table (O.Assign to tree) = Code.Assign to (tree_of tree)
op_in table (O.Null to) = Code.Null to
op_in table (O.FunctionAddress to function) = Code.FunctionAddress to function.0
op_in table (O.Copy to from) = Code.Copy to from
op_in table (O.Test to pointer) = Code.Test to pointer
op_in table (O.Move to pointer element is_minus number) = Code.Move to pointer (type_in table element) is_minus (tree_of number)
op_in table (O.Difference to element left right) = Code.Difference to (type_in table element) left right
op_in table (O.ComparePointers to relation left right) = Code.ComparePointers to relation left right
op_in table (O.Repoint to target from) = Code.Repoint to (type_in table target) from
op_in table (O.Address to path) = Code.AddressOf to (path_in table path)
op_in table (O.Load to scalar path) = Code.Load to (scalar_in table scalar) (path_in table path)
op_in table (O.Store path scalar value) = Code.Store (path_in table path) (scalar_in table scalar) (operand_of value)
op_in table (O.Allocate site size) = Code.Allocate site (tree_of size)
op_in table (O.Free site pointer) = Code.Free site pointer
op_in table (O.Call site callee arguments) = Code.Call site (callee_in table callee) arguments.items
op_in table (O.GetChar site) = Code.GetChar site
op_in table (O.PutChar site value) = Code.PutChar site (tree_of value)
op_in table (O.Exit status) = Code.Exit (tree_of status)
op_in table (O.Return value) = Code.Return (optional_operand value)

abbrev pub object_in : Interned → memory_object.LocalObject → Code.LocalObject
object_in table object = record { local = object.local; c_type = type_in table object.c_type }

abbrev pub function_in : Interned → memory_function.Function → Code.Function
function_in table function =
    record {
      name = function.name;
      c_type = type_in table function.c_type;
      parameters = function.parameters;
      counts = function.counts;
      objects = map (object_in table) function.objects.items;
      points = map (op_in table) function.points.items;
    }

abbrev pub tac_of : memory_tac.Tac → Code.Tac
tac_of tac =
    record {
      structs = structs_in tac.types;
      globals = map (global_in tac.types) tac.globals.items;
      literals = map literal_of tac.literals.items;
      functions = map (function_in tac.types) tac.functions.items;
      start = function_in tac.types tac.start;
    }
