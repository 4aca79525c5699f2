-- What points cost: one, and one more for each node of their trees, each step of their path, and each argument.
use Rattle.std.specs.Prelude.{ℕ, ◌+◌, List, [], ◌∷◌, length, Some}
use Rattle.tac_ir.specs.Trees.{tree_nodes}
use Rattle.tac_ir.specs.Code.{Base, Indexed, Step, Member, Element, Path, Operand, IntegerOperand, PointerOperand, Op}
use Rattle.tac_ir.specs.Code as O

abbrev pub step_cost : Step → ℕ
step_cost (Member number) = 1
step_cost (Element tree) = 1 + tree_nodes tree

abbrev pub steps_cost : List Step → ℕ
steps_cost [] = 0
steps_cost (first ∷ others) = step_cost first + steps_cost others

abbrev pub path_cost : Path → ℕ
path_cost path = by path.base + steps_cost path.steps
  where
    by : Base → ℕ
    by (Indexed pointer target number) = tree_nodes number
    by _ = 0

abbrev pub operand_cost : Operand → ℕ
operand_cost (IntegerOperand tree) = tree_nodes tree
operand_cost (PointerOperand register) = 0

abbrev pub more_cost : Op → ℕ
more_cost (O.Branch int_type condition holds fails) = tree_nodes condition
more_cost (O.Assign to tree) = tree_nodes tree
more_cost (O.Move to pointer element is_minus number) = tree_nodes number
more_cost (O.AddressOf to path) = path_cost path
more_cost (O.Load to scalar path) = path_cost path
more_cost (O.Store path scalar value) = path_cost path + operand_cost value
more_cost (O.Allocate site size) = tree_nodes size
more_cost (O.Call site callee arguments) = length arguments
more_cost (O.PutChar site value) = tree_nodes value
more_cost (O.Exit status) = tree_nodes status
more_cost (O.Return (Some operand)) = operand_cost operand
more_cost _ = 0
