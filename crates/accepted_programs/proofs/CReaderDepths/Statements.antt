-- The expressions of a declaration or statement nest no deeper than its tree, where a tree that counts for nothing is one deep.
use Rattle.std.proofs.Common.{ℕ, suc, max, ◌≤◌, Option, Some, None, arith}
use Rattle.run_theory.specs.declared.place.Pos.{Pos}
use Rattle.c_grammar.specs.Table.{Alone, Nothing, Then, Node}
use Rattle.c_grammar.specs.Forms
use Rattle.c_syntax.specs.Trees.{ExprTree, StmtTree}
use Rattle.c_syntax.specs.SyntaxDepths.{expr_depth, optional_depth, first_depth, declarators_depth, start_depth, stmt_depth, block_depth, switch_depth}
use Rattle.c_reader.specs.Grammar.{Parse}
use Rattle.c_reader.specs.Shapes.{expr_of, init_of, first_value_of, declarators_of, declaration_of, for_of, value_of, if_of, stmt_of, else_of, block_of, switch_of}
use Rattle.accepted_programs.proofs.Nesting.{NestsIn}
use Rattle.accepted_programs.proofs.CReaderDepths.Expressions.{one_fits, none_fits, expr_nests}

-- ---- declarations

init_nests : (n : ℕ) (parse : Parse) → NestsIn n parse → first_depth (Some (init_of parse)) ≤ suc n
init_nests n (Node Forms.InitValue (Then value Nothing)) is = omega (arith, is.1, expr_nests is.0 value is.2.0)
init_nests n (Node Forms.InitList (Then (Alone opening) (Then init (Then others Nothing)))) is = none_fits (suc n)
init_nests n _ is = one_fits n

first_nests : (n : ℕ) (parse : Parse) → NestsIn n parse → first_depth (first_value_of parse) ≤ suc n
first_nests n (Node Forms.Value (Then equal (Then init Nothing))) is = omega (arith, is.1, init_nests is.0 init is.2.1.0)
first_nests n _ is = none_fits (suc n)

declarators_nest : (n : ℕ) (parse : Parse) → NestsIn n parse → declarators_depth (declarators_of parse) ≤ suc n
declarators_nest n (Node Forms.DeclarationNext (Then comma (Then declarator (Then value (Then others Nothing))))) is = omega (arith, is.1, first_nests is.0 value is.2.1.1.0, declarators_nest is.0 others is.2.1.1.1.0)
declarators_nest n _ is = none_fits (suc n)

declaration_nests : (n : ℕ) (parse : Parse) → NestsIn n parse → declarators_depth (declaration_of parse).declarators ≤ suc n
declaration_nests n (Node Forms.DeclarationRow (Then base (Then declarator (Then value (Then others Nothing))))) is = omega (arith, is.1, first_nests is.0 value is.2.1.1.0, declarators_nest is.0 others is.2.1.1.1.0)
declaration_nests n _ is = none_fits (suc n)

-- ---- statements

for_nests : (n : ℕ) (parse : Parse) → NestsIn n parse → start_depth (for_of parse) ≤ suc n
for_nests n (Node Forms.ForDeclaration (Then declaration Nothing)) is = omega (arith, is.1, declaration_nests is.0 declaration is.2.0)
for_nests n (Node Forms.ForExpression (Then value semicolon)) is = omega (arith, is.1, expr_nests is.0 value is.2.0)
for_nests n _ is = none_fits (suc n)

value_nests : (n : ℕ) (parse : Parse) → NestsIn n parse → optional_depth (value_of parse) ≤ suc n
value_nests n (Node Forms.SomeExpr (Then value Nothing)) is = omega (arith, is.1, expr_nests is.0 value is.2.0)
value_nests n (Node Forms.ReturnExpr (Then value semicolon)) is = omega (arith, is.1, expr_nests is.0 value is.2.0)
value_nests n _ is = none_fits (suc n)

-- what stands behind `else`, if anything
abbrev else_depth : Option StmtTree → ℕ
else_depth None = 0
else_depth (Some otherwise) = stmt_depth otherwise

if_nests : (n : ℕ) (place : Pos) (condition : ExprTree) (taken : StmtTree) (otherwise : Option StmtTree) → max (expr_depth condition) (max (stmt_depth taken) (else_depth otherwise)) ≤ n → stmt_depth (if_of place condition taken otherwise) ≤ n
if_nests n place condition taken None fits = omega (arith, fits)
if_nests n place condition taken (Some otherwise) fits = fits

mutual
  stmt_nests : (n : ℕ) (parse : Parse) → NestsIn n parse → stmt_depth (stmt_of parse) ≤ suc n
  stmt_nests n (Node Forms.Block (Then (Alone opening) (Then items Nothing))) is = omega (arith, is.1, block_nests is.0 items is.2.1.0)
  stmt_nests n (Node Forms.Empty (Then (Alone semicolon) Nothing)) is = none_fits (suc n)
  stmt_nests n (Node Forms.Expression (Then value semicolon)) is = omega (arith, is.1, expr_nests is.0 value is.2.0)
  stmt_nests n (Node Forms.IfRow (Then (Alone word) (Then opening (Then condition (Then close (Then taken (Then otherwise Nothing))))))) is =
      if_nests (suc n) word.place (expr_of condition) (stmt_of taken) (else_of otherwise)
      (omega (arith, is.1, expr_nests is.0 condition is.2.1.1.0, stmt_nests is.0 taken is.2.1.1.1.1.0, else_nests is.0 otherwise is.2.1.1.1.1.1.0))
  stmt_nests n (Node Forms.WhileRow (Then (Alone word) (Then opening (Then condition (Then close (Then body Nothing)))))) is = omega (arith, is.1, expr_nests is.0 condition is.2.1.1.0, stmt_nests is.0 body is.2.1.1.1.1.0)
  stmt_nests n (Node Forms.DoRow (Then (Alone word) (Then body (Then while_word (Then opening (Then condition close)))))) is = omega (arith, is.1, stmt_nests is.0 body is.2.1.0, expr_nests is.0 condition is.2.1.1.1.1.0)
  stmt_nests n (Node Forms.ForRow (Then (Alone word) (Then opening (Then start (Then condition (Then semicolon (Then step (Then close (Then body Nothing))))))))) is =
      omega (arith, is.1, for_nests is.0 start is.2.1.1.0, value_nests is.0 condition is.2.1.1.1.0, value_nests is.0 step is.2.1.1.1.1.1.0, stmt_nests is.0 body is.2.1.1.1.1.1.1.1.0)
  stmt_nests n (Node Forms.SwitchRow (Then (Alone word) (Then opening (Then value (Then close (Then brace (Then items Nothing))))))) is = omega (arith, is.1, expr_nests is.0 value is.2.1.1.0, switch_nests is.0 items is.2.1.1.1.1.1.0)
  stmt_nests n (Node Forms.BreakRow (Then (Alone word) semicolon)) is = none_fits (suc n)
  stmt_nests n (Node Forms.ContinueRow (Then (Alone word) semicolon)) is = none_fits (suc n)
  stmt_nests n (Node Forms.ReturnRow (Then (Alone word) (Then value Nothing))) is = omega (arith, is.1, value_nests is.0 value is.2.1.0)
  stmt_nests n _ is = none_fits (suc n)

  else_nests : (n : ℕ) (parse : Parse) → NestsIn n parse → else_depth (else_of parse) ≤ suc n
  else_nests n (Node Forms.ElseRow (Then word (Then stmt Nothing))) is = omega (arith, is.1, stmt_nests is.0 stmt is.2.1.0)
  else_nests n _ is = none_fits (suc n)

  pub block_nests : (n : ℕ) (parse : Parse) → NestsIn n parse → block_depth (block_of parse) ≤ suc n
  block_nests n (Node Forms.BlockDeclaration (Then declaration (Then others Nothing))) is = omega (arith, is.1, declaration_nests is.0 declaration is.2.0, block_nests is.0 others is.2.1.0)
  block_nests n (Node Forms.BlockStatement (Then stmt (Then others Nothing))) is = omega (arith, is.1, stmt_nests is.0 stmt is.2.0, block_nests is.0 others is.2.1.0)
  block_nests n _ is = none_fits (suc n)

  switch_nests : (n : ℕ) (parse : Parse) → NestsIn n parse → switch_depth (switch_of parse) ≤ suc n
  switch_nests n (Node Forms.CaseRow (Then (Alone word) (Then value (Then colon (Then others Nothing))))) is = omega (arith, is.1, expr_nests is.0 value is.2.1.0, switch_nests is.0 others is.2.1.1.1.0)
  switch_nests n (Node Forms.DefaultRow (Then (Alone word) (Then colon (Then others Nothing)))) is = omega (arith, is.1, switch_nests is.0 others is.2.1.1.0)
  switch_nests n (Node Forms.SwitchStatement (Then stmt (Then others Nothing))) is = omega (arith, is.1, stmt_nests is.0 stmt is.2.0, switch_nests is.0 others is.2.1.0)
  switch_nests n _ is = none_fits (suc n)
