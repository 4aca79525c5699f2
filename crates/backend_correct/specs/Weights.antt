-- Weights of three-address code: no part of a point has more instructions, where nothing is done with pools on edges and at returns.
use Rattle.std.specs.Prelude.{ℕ, zero, suc, ◌+◌, ◌*◌, List, [], ◌∷◌, length, Option, Some, None}
use Rattle.tac_ir.specs.Code.{Tree, Constant, Held, Convert, Complement, Not, Arithmetic, Compare, Base, AtLocal, AtGlobal, AtLiteral, Pointed, Indexed, Step, Member, Element, Path, Operand, IntegerOperand, PointerOperand, Op}
use Rattle.tac_ir.specs.Code as O
use Rattle.tac_build.specs.Spots.{Lowered, AsInteger, AsPointer, AsObject, AsNothing}

abbrev pub tree_weight : Tree → ℕ
tree_weight (Constant z) = 1
tree_weight (Held register) = 2
tree_weight (Convert int_type operand) = tree_weight operand + 1
tree_weight (Complement int_type operand) = tree_weight operand + 1
tree_weight (Not int_type operand) = tree_weight operand + 2
tree_weight (Arithmetic operator int_type left right) = tree_weight left + tree_weight right + 1
tree_weight (Compare relation int_type left right) = tree_weight left + tree_weight right + 1

abbrev pub operand_weight : Operand → ℕ
operand_weight (IntegerOperand tree) = tree_weight tree
operand_weight (PointerOperand register) = 2

abbrev pub base_weight : Base → ℕ
base_weight (AtLocal local) = 1
base_weight (AtGlobal number) = 1
base_weight (AtLiteral number) = 1
base_weight (Pointed pointer target) = 2
base_weight (Indexed pointer target number) = tree_weight number + 5

abbrev pub step_weight : Step → ℕ
step_weight (Member number) = 2
step_weight (Element index) = tree_weight index + 3

abbrev pub steps_weight : List Step → ℕ
steps_weight [] = 0
steps_weight (first ∷ others) = step_weight first + steps_weight others

abbrev pub path_weight : Path → ℕ
path_weight path = base_weight path.base + steps_weight path.steps

abbrev pub value_weight : Option Operand → ℕ
value_weight None = 1
value_weight (Some value) = operand_weight value

-- trees, paths and arguments of a point
abbrev pub parts_weight : Op → ℕ
parts_weight (O.Branch int_type condition holds fails) = tree_weight condition
parts_weight (O.Assign to tree) = tree_weight tree
parts_weight (O.Move to pointer element is_minus number) = tree_weight number
parts_weight (O.AddressOf to path) = path_weight path
parts_weight (O.Load to scalar path) = path_weight path
parts_weight (O.Store path scalar value) = path_weight path + operand_weight value
parts_weight (O.Allocate site size) = tree_weight size
parts_weight (O.Call site callee arguments) = 2 * length arguments
parts_weight (O.PutChar site value) = tree_weight value
parts_weight (O.Exit status) = tree_weight status
parts_weight (O.Return value) = value_weight value
parts_weight op = 0

abbrev pub op_weight : Op → ℕ
op_weight op = parts_weight op + 10

-- the points before one
unfoldable pub weight_before : List Op → ℕ → ℕ
weight_before [] number = 0
weight_before (op ∷ ops) zero = 0
weight_before (op ∷ ops) (suc number) = op_weight op + weight_before ops number

-- what an expression comes to
abbrev pub lowered_weight : Lowered → ℕ
lowered_weight (AsInteger int_type tree) = tree_weight tree
lowered_weight (AsPointer register target) = 2
lowered_weight (AsObject path c_type) = path_weight path
lowered_weight AsNothing = 0
