-- How many nodes of syntax trees what functions do has: expressions, statements and declarators. The names of types, and what is
-- declared outside functions, have none.
use Rattle.std.specs.Prelude.{ℕ, suc, ◌+◌, List, [], ◌∷◌, Option, Some, None}
use Rattle.c_syntax.specs.Trees
use Rattle.c_syntax.specs.Trees.{ExprTree, ArgumentsTree, InitTree, InitDeclaratorTree, ForTree, StmtTree, BlockTree, SwitchTree, ItemTree, ProgramTree}

abbrev mutual
  pub expr_nodes : ExprTree → ℕ
  expr_nodes (Trees.Named name) = 1
  expr_nodes (Trees.Integer value int_type place) = 1
  expr_nodes (Trees.Character byte place) = 1
  expr_nodes (Trees.Literal bytes place) = 1
  expr_nodes (Trees.Null place) = 1
  expr_nodes (Trees.EndOfFile place) = 1
  expr_nodes (Trees.Parenthesized place inner) = suc (expr_nodes inner)
  expr_nodes (Trees.Index array index) = suc (expr_nodes array + expr_nodes index)
  expr_nodes (Trees.Call function open_place arguments) = suc (expr_nodes function + arguments_nodes arguments)
  expr_nodes (Trees.Member object member) = suc (expr_nodes object)
  expr_nodes (Trees.PointerMember pointer member) = suc (expr_nodes pointer)
  expr_nodes (Trees.PostIncrement operand) = suc (expr_nodes operand)
  expr_nodes (Trees.PostDecrement operand) = suc (expr_nodes operand)
  expr_nodes (Trees.Prefix operator place operand) = suc (expr_nodes operand)
  expr_nodes (Trees.SizeofExpr place operand) = 1
  expr_nodes (Trees.SizeofType place type_name) = 1
  expr_nodes (Trees.Cast place type_name operand) = suc (expr_nodes operand)
  expr_nodes (Trees.Binary operator left right) = suc (expr_nodes left + expr_nodes right)
  expr_nodes (Trees.Conditional condition taken otherwise) = suc (expr_nodes condition + (expr_nodes taken + expr_nodes otherwise))
  expr_nodes (Trees.Assign operator object value) = suc (expr_nodes object + expr_nodes value)

  pub arguments_nodes : ArgumentsTree → ℕ
  arguments_nodes Trees.NoArguments = 0
  arguments_nodes (Trees.Argument value others) = expr_nodes value + arguments_nodes others

abbrev pub optional_nodes : Option ExprTree → ℕ
optional_nodes None = 0
optional_nodes (Some value) = expr_nodes value

-- a local has no list of first values
abbrev pub first_nodes : Option InitTree → ℕ
first_nodes (Some (Trees.InitValue value)) = expr_nodes value
first_nodes _ = 0

abbrev pub declarators_nodes : List InitDeclaratorTree → ℕ
declarators_nodes [] = 0
declarators_nodes (first ∷ others) = suc (first_nodes first.init + declarators_nodes others)

abbrev pub start_nodes : ForTree → ℕ
start_nodes Trees.ForNothing = 0
start_nodes (Trees.ForDeclaration declaration) = declarators_nodes declaration.declarators
start_nodes (Trees.ForExpression value) = expr_nodes value

abbrev mutual
  pub stmt_nodes : StmtTree → ℕ
  stmt_nodes (Trees.BlockStmt place items) = suc (block_nodes items)
  stmt_nodes (Trees.Empty place) = 1
  stmt_nodes (Trees.Expression value) = suc (expr_nodes value)
  stmt_nodes (Trees.If place condition taken) = suc (expr_nodes condition + stmt_nodes taken)
  stmt_nodes (Trees.IfElse place condition taken otherwise) = suc (expr_nodes condition + (stmt_nodes taken + stmt_nodes otherwise))
  stmt_nodes (Trees.While place condition body) = suc (expr_nodes condition + stmt_nodes body)
  stmt_nodes (Trees.Do place body condition) = suc (stmt_nodes body + expr_nodes condition)
  stmt_nodes (Trees.For place start condition step body) =
      suc (start_nodes start + (optional_nodes condition + (optional_nodes step + stmt_nodes body)))
  stmt_nodes (Trees.Switch place value items) = suc (expr_nodes value + switch_nodes items)
  stmt_nodes (Trees.Break place) = 1
  stmt_nodes (Trees.Continue place) = 1
  stmt_nodes (Trees.Return place value) = suc (optional_nodes value)

  pub block_nodes : BlockTree → ℕ
  block_nodes Trees.Close = 0
  block_nodes (Trees.Declare declaration others) = declarators_nodes declaration.declarators + block_nodes others
  block_nodes (Trees.Perform stmt others) = stmt_nodes stmt + block_nodes others

  pub switch_nodes : SwitchTree → ℕ
  switch_nodes Trees.SwitchEnd = 0
  switch_nodes (Trees.Case place value others) = suc (expr_nodes value + switch_nodes others)
  switch_nodes (Trees.Default place others) = suc (switch_nodes others)
  switch_nodes (Trees.SwitchStmt stmt others) = stmt_nodes stmt + switch_nodes others

abbrev pub items_nodes : List ItemTree → ℕ
items_nodes [] = 0
items_nodes (Trees.Declaration base declarators ∷ others) = items_nodes others
items_nodes (Trees.Function base declarator place body ∷ others) = block_nodes body + items_nodes others

abbrev pub program_nodes : ProgramTree → ℕ
program_nodes program = items_nodes program.items
