-- How deep the expressions of a syntax tree nest: the most expressions on one path, in what functions do. Statements are no nodes here.
-- The operand of `sizeof`, the names of types and what is declared outside functions have no depth: no value of the typed tree is made
-- of them.
use Rattle.std.specs.Prelude.{ℕ, suc, max, List, [], ◌∷◌, Option, Some, None}
use Rattle.c_syntax.specs.Trees
use Rattle.c_syntax.specs.Trees.{ExprTree, ArgumentsTree, InitTree, InitDeclaratorTree, ForTree, StmtTree, BlockTree, SwitchTree, ItemTree, ProgramTree}

abbrev mutual
  pub expr_depth : ExprTree → ℕ
  expr_depth (Trees.Named name) = 1
  expr_depth (Trees.Integer value int_type place) = 1
  expr_depth (Trees.Character byte place) = 1
  expr_depth (Trees.Literal bytes place) = 1
  expr_depth (Trees.Null place) = 1
  expr_depth (Trees.EndOfFile place) = 1
  expr_depth (Trees.Parenthesized place inner) = suc (expr_depth inner)
  expr_depth (Trees.Index array index) = suc (max (expr_depth array) (expr_depth index))
  expr_depth (Trees.Call function open_place arguments) = suc (max (expr_depth function) (arguments_depth arguments))
  expr_depth (Trees.Member object member) = suc (expr_depth object)
  expr_depth (Trees.PointerMember pointer member) = suc (expr_depth pointer)
  expr_depth (Trees.PostIncrement operand) = suc (expr_depth operand)
  expr_depth (Trees.PostDecrement operand) = suc (expr_depth operand)
  expr_depth (Trees.Prefix operator place operand) = suc (expr_depth operand)
  expr_depth (Trees.SizeofExpr place operand) = 1
  expr_depth (Trees.SizeofType place type_name) = 1
  expr_depth (Trees.Cast place type_name operand) = suc (expr_depth operand)
  expr_depth (Trees.Binary operator left right) = suc (max (expr_depth left) (expr_depth right))
  expr_depth (Trees.Conditional condition taken otherwise) = suc (max (expr_depth condition) (max (expr_depth taken) (expr_depth otherwise)))
  expr_depth (Trees.Assign operator object value) = suc (max (expr_depth object) (expr_depth value))

  pub arguments_depth : ArgumentsTree → ℕ
  arguments_depth Trees.NoArguments = 0
  arguments_depth (Trees.Argument value others) = max (expr_depth value) (arguments_depth others)

abbrev pub optional_depth : Option ExprTree → ℕ
optional_depth None = 0
optional_depth (Some value) = expr_depth value

-- a local has no list of first values
abbrev pub first_depth : Option InitTree → ℕ
first_depth (Some (Trees.InitValue value)) = expr_depth value
first_depth _ = 0

abbrev pub declarators_depth : List InitDeclaratorTree → ℕ
declarators_depth [] = 0
declarators_depth (first ∷ others) = max (first_depth first.init) (declarators_depth others)

abbrev pub start_depth : ForTree → ℕ
start_depth Trees.ForNothing = 0
start_depth (Trees.ForDeclaration declaration) = declarators_depth declaration.declarators
start_depth (Trees.ForExpression value) = expr_depth value

abbrev mutual
  pub stmt_depth : StmtTree → ℕ
  stmt_depth (Trees.BlockStmt place items) = block_depth items
  stmt_depth (Trees.Empty place) = 0
  stmt_depth (Trees.Expression value) = expr_depth value
  stmt_depth (Trees.If place condition taken) = max (expr_depth condition) (stmt_depth taken)
  stmt_depth (Trees.IfElse place condition taken otherwise) = max (expr_depth condition) (max (stmt_depth taken) (stmt_depth otherwise))
  stmt_depth (Trees.While place condition body) = max (expr_depth condition) (stmt_depth body)
  stmt_depth (Trees.Do place body condition) = max (stmt_depth body) (expr_depth condition)
  stmt_depth (Trees.For place start condition step body) = max (start_depth start) (max (optional_depth condition) (max (optional_depth step) (stmt_depth body)))
  stmt_depth (Trees.Switch place value items) = max (expr_depth value) (switch_depth items)
  stmt_depth (Trees.Break place) = 0
  stmt_depth (Trees.Continue place) = 0
  stmt_depth (Trees.Return place value) = optional_depth value

  pub block_depth : BlockTree → ℕ
  block_depth Trees.Close = 0
  block_depth (Trees.Declare declaration others) = max (declarators_depth declaration.declarators) (block_depth others)
  block_depth (Trees.Perform stmt others) = max (stmt_depth stmt) (block_depth others)

  pub switch_depth : SwitchTree → ℕ
  switch_depth Trees.SwitchEnd = 0
  switch_depth (Trees.Case place value others) = max (expr_depth value) (switch_depth others)
  switch_depth (Trees.Default place others) = switch_depth others
  switch_depth (Trees.SwitchStmt stmt others) = max (stmt_depth stmt) (switch_depth others)

abbrev pub items_depth : List ItemTree → ℕ
items_depth [] = 0
items_depth (Trees.Declaration base declarators ∷ others) = items_depth others
items_depth (Trees.Function base declarator place body ∷ others) = max (block_depth body) (items_depth others)

abbrev pub program_depth : ProgramTree → ℕ
program_depth program = items_depth program.items
