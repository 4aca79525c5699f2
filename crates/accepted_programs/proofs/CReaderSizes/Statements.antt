-- A declaration or statement has at most as many nodes as its tree has leaves.
use Rattle.std.proofs.Common.{ℕ, suc, ◌+◌, ◌≤◌, Option, Some, None, arith}
use Rattle.run_theory.specs.declared.place.Pos.{Pos}
use Rattle.c_grammar.specs.Table.{Alone, Nothing, Then, Node}
use Rattle.c_grammar.specs.Forms
use Rattle.c_syntax.specs.Trees.{ExprTree, StmtTree}
use Rattle.c_syntax.specs.SyntaxNodes.{expr_nodes, optional_nodes, first_nodes, declarators_nodes, start_nodes, stmt_nodes, block_nodes, switch_nodes}
use Rattle.c_reader.specs.Grammar.{Parse}
use Rattle.c_reader.specs.Shapes.{expr_of, init_of, first_value_of, declarators_of, declaration_of, for_of, value_of, if_of, stmt_of, else_of, block_of, switch_of}
use Rattle.accepted_programs.specs.Rows.{size, IsOf}
use Rattle.accepted_programs.proofs.Filling.{token_size, filled_size, least_size}
use Rattle.accepted_programs.proofs.CReaderSizes.Expressions.{expr_sized}

init_sized : (parse : Parse) → IsOf Forms.Init parse → first_nodes (Some (init_of parse)) ≤ suc (size parse)
init_sized (Node Forms.InitValue (Then value Nothing)) is = omega (arith, expr_sized value is.1.0)
init_sized (Node Forms.InitList (Then (Alone opening) (Then init (Then others Nothing)))) is = omega arith
init_sized _ is = omega arith

first_sized : (parse : Parse) → IsOf Forms.FirstValue parse → first_nodes (first_value_of parse) ≤ size parse
first_sized (Node Forms.Value (Then equal (Then init Nothing))) is = omega (arith, token_size equal is.1.0, init_sized init is.1.1.0)
first_sized _ is = omega arith

-- a token stands before each of them, and one behind the last
declarators_sized : (parse : Parse) → IsOf Forms.DeclaratorsMore parse → suc (declarators_nodes (declarators_of parse)) ≤ size parse
declarators_sized (Node Forms.DeclarationNext (Then comma (Then declarator (Then value (Then others Nothing))))) is = omega (arith, token_size comma is.1.0, first_sized value is.1.1.1.0, declarators_sized others is.1.1.1.1.0)
declarators_sized parse is = least_size Forms.DeclaratorsMore parse is

declaration_sized : (parse : Parse) → IsOf Forms.Declaration parse → declarators_nodes (declaration_of parse).declarators ≤ size parse
declaration_sized (Node Forms.DeclarationRow (Then base (Then declarator (Then value (Then others Nothing))))) is = omega (arith, first_sized value is.1.1.1.0, declarators_sized others is.1.1.1.1.0)
declaration_sized _ is = omega arith

for_sized : (parse : Parse) → IsOf Forms.ForFirst parse → start_nodes (for_of parse) ≤ size parse
for_sized (Node Forms.ForDeclaration (Then declaration Nothing)) is = omega (arith, declaration_sized declaration is.1.0)
for_sized (Node Forms.ForExpression (Then value semicolon)) is = omega (arith, expr_sized value is.1.0)
for_sized _ is = omega arith

value_sized : (sort : Forms.Sort) (parse : Parse) → IsOf sort parse → optional_nodes (value_of parse) ≤ size parse
value_sized sort (Node Forms.SomeExpr (Then value Nothing)) is = omega (arith, expr_sized value is.1.0)
value_sized sort (Node Forms.ReturnExpr (Then value semicolon)) is = omega (arith, expr_sized value is.1.0)
value_sized sort _ is = omega arith

abbrev else_nodes : Option StmtTree → ℕ
else_nodes None = 0
else_nodes (Some otherwise) = stmt_nodes otherwise

if_sized : (n : ℕ) (place : Pos) (condition : ExprTree) (taken : StmtTree) (otherwise : Option StmtTree) → suc (expr_nodes condition + (stmt_nodes taken + else_nodes otherwise)) ≤ n → stmt_nodes (if_of place condition taken otherwise) ≤ n
if_sized n place condition taken None fits = omega (arith, fits)
if_sized n place condition taken (Some otherwise) fits = omega (arith, fits)

mutual
  stmt_sized : (parse : Parse) → IsOf Forms.Stmt parse → stmt_nodes (stmt_of parse) ≤ size parse
  stmt_sized (Node Forms.Block (Then (Alone opening) (Then items Nothing))) is = omega (arith, block_sized items is.1.1.0)
  stmt_sized (Node Forms.Empty (Then (Alone semicolon) Nothing)) is = omega arith
  stmt_sized (Node Forms.Expression (Then value semicolon)) is = omega (arith, expr_sized value is.1.0, filled_size (Forms.symbols_of Forms.Empty) semicolon is.1.1)
  stmt_sized (Node Forms.IfRow (Then (Alone word) (Then opening (Then condition (Then close (Then taken (Then otherwise Nothing))))))) is =
      if_sized (size (Node Forms.IfRow (Then (Alone word) (Then opening (Then condition (Then close (Then taken (Then otherwise Nothing)))))))) word.place (expr_of condition) (stmt_of taken) (else_of otherwise)
      (omega (arith, expr_sized condition is.1.1.1.0, stmt_sized taken is.1.1.1.1.1.0, else_sized otherwise is.1.1.1.1.1.1.0))
  stmt_sized (Node Forms.WhileRow (Then (Alone word) (Then opening (Then condition (Then close (Then body Nothing)))))) is = omega (arith, expr_sized condition is.1.1.1.0, stmt_sized body is.1.1.1.1.1.0)
  stmt_sized (Node Forms.DoRow (Then (Alone word) (Then body (Then while_word (Then opening (Then condition close)))))) is = omega (arith, stmt_sized body is.1.1.0, expr_sized condition is.1.1.1.1.1.0)
  stmt_sized (Node Forms.ForRow (Then (Alone word) (Then opening (Then start (Then condition (Then semicolon (Then step (Then close (Then body Nothing))))))))) is =
      omega (arith, for_sized start is.1.1.1.0, value_sized Forms.ExprOpt condition is.1.1.1.1.0, value_sized Forms.ExprOpt step is.1.1.1.1.1.1.0, stmt_sized body is.1.1.1.1.1.1.1.1.0)
  stmt_sized (Node Forms.SwitchRow (Then (Alone word) (Then opening (Then value (Then close (Then brace (Then items Nothing))))))) is = omega (arith, expr_sized value is.1.1.1.0, switch_sized items is.1.1.1.1.1.1.0)
  stmt_sized (Node Forms.BreakRow (Then (Alone word) semicolon)) is = omega arith
  stmt_sized (Node Forms.ContinueRow (Then (Alone word) semicolon)) is = omega arith
  stmt_sized (Node Forms.ReturnRow (Then (Alone word) (Then value Nothing))) is = omega (arith, value_sized Forms.ReturnValue value is.1.1.0)
  stmt_sized parse is = least_size Forms.Stmt parse is

  else_sized : (parse : Parse) → IsOf Forms.ElseOpt parse → else_nodes (else_of parse) ≤ size parse
  else_sized (Node Forms.ElseRow (Then word (Then stmt Nothing))) is = omega (arith, stmt_sized stmt is.1.1.0)
  else_sized _ is = omega arith

  pub block_sized : (parse : Parse) → IsOf Forms.BlockItems parse → block_nodes (block_of parse) ≤ size parse
  block_sized (Node Forms.BlockDeclaration (Then declaration (Then others Nothing))) is = omega (arith, declaration_sized declaration is.1.0, block_sized others is.1.1.0)
  block_sized (Node Forms.BlockStatement (Then stmt (Then others Nothing))) is = omega (arith, stmt_sized stmt is.1.0, block_sized others is.1.1.0)
  block_sized _ is = omega arith

  switch_sized : (parse : Parse) → IsOf Forms.SwitchItems parse → switch_nodes (switch_of parse) ≤ size parse
  switch_sized (Node Forms.CaseRow (Then (Alone word) (Then value (Then colon (Then others Nothing))))) is = omega (arith, expr_sized value is.1.1.0, switch_sized others is.1.1.1.1.0)
  switch_sized (Node Forms.DefaultRow (Then (Alone word) (Then colon (Then others Nothing)))) is = omega (arith, switch_sized others is.1.1.1.0)
  switch_sized (Node Forms.SwitchStatement (Then stmt (Then others Nothing))) is = omega (arith, stmt_sized stmt is.1.0, switch_sized others is.1.1.0)
  switch_sized _ is = omega arith
