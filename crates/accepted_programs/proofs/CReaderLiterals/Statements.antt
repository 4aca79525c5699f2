-- The literals of a declaration or statement stand in its tree of the grammar's rows.
use Rattle.std.proofs.Common.{List, [], ◌++◌, Option, Some, None, subst}
use Rattle.std.proofs.lemmas.List.{append-nil}
use Rattle.run_theory.specs.declared.place.Pos.{Pos}
use Rattle.c_grammar.specs.Table.{Alone, Nothing, Then, Node}
use Rattle.c_grammar.specs.Forms
use Rattle.c_syntax.specs.Trees.{ExprTree, StmtTree}
use Rattle.c_typed.specs.Typed.{LiteralDef}
use Rattle.c_rules.specs.Elaborated.{literals_in, literals_in_declarator, literals_in_init, literals_in_inits, literals_in_first, literals_in_value, literals_in_declarators, literals_in_start, literals_in_stmt, literals_in_block, literals_in_switch}
use Rattle.c_reader.specs.Grammar.{Parse}
use Rattle.c_reader.specs.Shapes.{expr_of, declarator_of, init_of, inits_of, first_value_of, declarators_of, declaration_of, for_of, value_of, if_of, stmt_of, else_of, block_of, switch_of}
use Rattle.accepted_programs.specs.Literals.{LiteralsStand, no_literal, in_row, in_first, in_others, in_both, regrouped}
use Rattle.accepted_programs.proofs.CReaderLiterals.Expressions.{expr_held, declarator_held}

mutual
  pub init_held : (parse : Parse) → LiteralsStand (literals_in_init (init_of parse)) parse
  init_held (Node Forms.InitValue (Then value Nothing)) = in_row (in_first (expr_held value))
  init_held (Node Forms.InitList (Then (Alone opening) (Then init (Then others Nothing)))) = in_row (in_others (in_both (init_held init) (in_first (inits_held others))))
  init_held _ = no_literal

  pub inits_held : (parse : Parse) → LiteralsStand (literals_in_inits (inits_of parse)) parse
  inits_held (Node Forms.InitComma (Then comma (Then (Node Forms.InitOther (Then init (Then others Nothing))) Nothing))) = in_row (in_others (in_first (in_row (in_both (init_held init) (in_first (inits_held others))))))
  inits_held _ = no_literal

pub first_value_held : (parse : Parse) → LiteralsStand (literals_in_first (first_value_of parse)) parse
first_value_held (Node Forms.Value (Then equal (Then init Nothing))) = in_row (in_others (in_first (init_held init)))
first_value_held _ = no_literal

pub declarators_held : (parse : Parse) → LiteralsStand (literals_in_declarators (declarators_of parse)) parse
declarators_held (Node Forms.DeclarationNext (Then comma (Then declarator (Then value (Then others Nothing))))) =
    in_row (in_others (regrouped (literals_in_declarator (declarator_of declarator)) (literals_in_first (first_value_of value)) (literals_in_declarators (declarators_of others))
    (in_both (declarator_held declarator) (in_both (first_value_held value) (in_first (declarators_held others))))))
declarators_held _ = no_literal

pub declaration_held : (parse : Parse) → LiteralsStand (literals_in_declarators (declaration_of parse).declarators) parse
declaration_held (Node Forms.DeclarationRow (Then base (Then declarator (Then value (Then others Nothing))))) =
    in_row (in_others (regrouped (literals_in_declarator (declarator_of declarator)) (literals_in_first (first_value_of value)) (literals_in_declarators (declarators_of others))
    (in_both (declarator_held declarator) (in_both (first_value_held value) (in_first (declarators_held others))))))
declaration_held _ = no_literal

pub for_held : (parse : Parse) → LiteralsStand (literals_in_start (for_of parse)) parse
for_held (Node Forms.ForDeclaration (Then declaration Nothing)) = in_row (in_first (declaration_held declaration))
for_held (Node Forms.ForExpression (Then value semicolon)) = in_row (in_first (expr_held value))
for_held _ = no_literal

pub value_held : (parse : Parse) → LiteralsStand (literals_in_value (value_of parse)) parse
value_held (Node Forms.SomeExpr (Then value Nothing)) = in_row (in_first (expr_held value))
value_held (Node Forms.ReturnExpr (Then value semicolon)) = in_row (in_first (expr_held value))
value_held _ = no_literal

abbrev literals_in_else : Option StmtTree → List LiteralDef
literals_in_else None = []
literals_in_else (Some otherwise) = literals_in_stmt otherwise

if_held : (place : Pos) (condition : ExprTree) (taken : StmtTree) (otherwise : Option StmtTree) (parse : Parse) → LiteralsStand (literals_in condition ++ literals_in_stmt taken ++ literals_in_else otherwise) parse → LiteralsStand (literals_in_stmt (if_of place condition taken otherwise)) parse
if_held place condition taken None parse holds = subst (λ literals. LiteralsStand literals parse) (append-nil (literals_in condition ++ literals_in_stmt taken)) holds
if_held place condition taken (Some otherwise) parse holds = holds

mutual
  pub stmt_held : (parse : Parse) → LiteralsStand (literals_in_stmt (stmt_of parse)) parse
  stmt_held (Node Forms.Block (Then (Alone opening) (Then items Nothing))) = in_row (in_others (in_first (block_held items)))
  stmt_held (Node Forms.Empty (Then (Alone semicolon) Nothing)) = no_literal
  stmt_held (Node Forms.Expression (Then value semicolon)) = in_row (in_first (expr_held value))
  stmt_held (Node Forms.IfRow (Then (Alone word) (Then opening (Then condition (Then close (Then taken (Then otherwise Nothing))))))) =
      if_held word.place (expr_of condition) (stmt_of taken) (else_of otherwise) (Node Forms.IfRow (Then (Alone word) (Then opening (Then condition (Then close (Then taken (Then otherwise Nothing)))))))
      (in_row (in_others (in_others (regrouped (literals_in (expr_of condition)) (literals_in_stmt (stmt_of taken)) (literals_in_else (else_of otherwise))
      (in_both (expr_held condition) (in_others (in_both (stmt_held taken) (in_first (else_held otherwise)))))))))
  stmt_held (Node Forms.WhileRow (Then (Alone word) (Then opening (Then condition (Then close (Then body Nothing)))))) = in_row (in_others (in_others (in_both (expr_held condition) (in_others (in_first (stmt_held body))))))
  stmt_held (Node Forms.DoRow (Then (Alone word) (Then body (Then while_word (Then opening (Then condition close)))))) = in_row (in_others (in_both (stmt_held body) (in_others (in_others (in_first (expr_held condition))))))
  stmt_held (Node Forms.ForRow (Then (Alone word) (Then opening (Then start (Then condition (Then semicolon (Then step (Then close (Then body Nothing))))))))) =
      let s = literals_in_start (for_of start) in
      let c = literals_in_value (value_of condition) in
      let n = literals_in_value (value_of step) in
      let b = literals_in_stmt (stmt_of body) in
      in_row (in_others (in_others (regrouped (s ++ c) n b (regrouped s c (n ++ b)
      (in_both (for_held start) (in_both (value_held condition) (in_others (in_both (value_held step) (in_others (in_first (stmt_held body)))))))))))
  stmt_held (Node Forms.SwitchRow (Then (Alone word) (Then opening (Then value (Then close (Then brace (Then items Nothing))))))) = in_row (in_others (in_others (in_both (expr_held value) (in_others (in_others (in_first (switch_held items)))))))
  stmt_held (Node Forms.BreakRow (Then (Alone word) semicolon)) = no_literal
  stmt_held (Node Forms.ContinueRow (Then (Alone word) semicolon)) = no_literal
  stmt_held (Node Forms.ReturnRow (Then (Alone word) (Then value Nothing))) = in_row (in_others (in_first (value_held value)))
  stmt_held _ = no_literal

  else_held : (parse : Parse) → LiteralsStand (literals_in_else (else_of parse)) parse
  else_held (Node Forms.ElseRow (Then word (Then stmt Nothing))) = in_row (in_others (in_first (stmt_held stmt)))
  else_held _ = no_literal

  pub block_held : (parse : Parse) → LiteralsStand (literals_in_block (block_of parse)) parse
  block_held (Node Forms.BlockDeclaration (Then declaration (Then others Nothing))) = in_row (in_both (declaration_held declaration) (in_first (block_held others)))
  block_held (Node Forms.BlockStatement (Then stmt (Then others Nothing))) = in_row (in_both (stmt_held stmt) (in_first (block_held others)))
  block_held _ = no_literal

  pub switch_held : (parse : Parse) → LiteralsStand (literals_in_switch (switch_of parse)) parse
  switch_held (Node Forms.CaseRow (Then (Alone word) (Then value (Then colon (Then others Nothing))))) = in_row (in_others (in_both (expr_held value) (in_others (in_first (switch_held others)))))
  switch_held (Node Forms.DefaultRow (Then (Alone word) (Then colon (Then others Nothing)))) = in_row (in_others (in_others (in_first (switch_held others))))
  switch_held (Node Forms.SwitchStatement (Then stmt (Then others Nothing))) = in_row (in_both (stmt_held stmt) (in_first (switch_held others)))
  switch_held _ = no_literal
