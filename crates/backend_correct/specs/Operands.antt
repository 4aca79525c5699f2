-- How many operands the parts of three-address code need: a tree as many as its height, and a call one for each argument.
use Rattle.std.specs.Prelude.{ℕ, max, List, [], ◌∷◌, length, Option, Some, None}
use Rattle.tac_ir.specs.Code.{Base, Indexed, Step, Element, Path, Operand, Op}
use Rattle.tac_ir.specs.Code as O
use Rattle.tac_build.specs.Spots.{Lowered, AsInteger, AsObject}
use Rattle.stack_code.specs.Emitting.{tree_height, operand_height}

-- lowered code needs fewer than this
abbrev pub greatest_operands : ℕ
greatest_operands = 65000

-- ---- the highest tree of a path

abbrev pub base_operands : Base → ℕ
base_operands (Indexed pointer target number) = tree_height number
base_operands base = 0

abbrev pub step_operands : Step → ℕ
step_operands (Element index) = tree_height index
step_operands step = 0

abbrev pub steps_operands : List Step → ℕ
steps_operands [] = 0
steps_operands (first ∷ others) = max (step_operands first) (steps_operands others)

abbrev pub path_operands : Path → ℕ
path_operands path = max (base_operands path.base) (steps_operands path.steps)

-- ---- what is done at a point

abbrev pub value_operands : Option Operand → ℕ
value_operands None = 0
value_operands (Some value) = operand_height value

abbrev pub op_operands : Op → ℕ
op_operands (O.Branch int_type condition holds fails) = tree_height condition
op_operands (O.Assign to tree) = tree_height tree
op_operands (O.Move to pointer element is_minus number) = tree_height number
op_operands (O.AddressOf to path) = path_operands path
op_operands (O.Load to scalar path) = path_operands path
op_operands (O.Store path scalar value) = max (path_operands path) (operand_height value)
op_operands (O.Allocate site size) = tree_height size
op_operands (O.Call site callee arguments) = length arguments
op_operands (O.PutChar site value) = tree_height value
op_operands (O.Exit status) = tree_height status
op_operands (O.Return value) = value_operands value
op_operands op = 0

-- what an expression comes to
abbrev pub lowered_operands : Lowered → ℕ
lowered_operands (AsInteger int_type tree) = tree_height tree
lowered_operands (AsObject path c_type) = path_operands path
lowered_operands lowered = 0
