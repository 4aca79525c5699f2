-- An expression nests no deeper than its tree, where a tree that counts for nothing is one deep.
use Rattle.std.proofs.Common.{ℕ, suc, ◌≤◌, arith}
use Rattle.c_grammar.specs.Table.{Alone, Nothing, Then, Node}
use Rattle.c_grammar.specs.declared.kind.Kind.TheVariants as K
use Rattle.c_grammar.specs.Forms
use Rattle.c_grammar.specs.Leaves.{Leaf}
use Rattle.c_grammar.specs.declared.token.Lexeme.{Lexeme}
use Rattle.c_grammar.specs.declared.token.Lexeme.TheVariants as L
use Rattle.c_syntax.specs.SyntaxDepths.{expr_depth, arguments_depth}
use Rattle.c_reader.specs.Grammar.{Parse}
use Rattle.c_reader.specs.Shapes.{single_of, expr_of, arguments_of}
use Rattle.accepted_programs.proofs.Nesting.{NestsIn}

-- A token that is an expression alone is one deep.
single_one : (leaf : Leaf) (lexeme : Lexeme) → expr_depth (single_of leaf lexeme) ≤ 1
single_one leaf (L.Name bytes) = omega arith
single_one leaf (L.Integer value int_type) = omega arith
single_one leaf (L.Character byte) = omega arith
single_one leaf (L.Fixed K.EndOfFile) = omega arith
single_one leaf _ = omega arith

-- what stands for a tree that is none of a row's
pub one_fits : (n : ℕ) → 1 ≤ suc n
one_fits n = omega arith

pub none_fits : (n : ℕ) → 0 ≤ n
none_fits n = omega arith

-- Each row of an expression counts for nesting.
mutual
  pub expr_nests : (n : ℕ) (parse : Parse) → NestsIn n parse → expr_depth (expr_of parse) ≤ suc n
  expr_nests n (Node (Forms.Single kind) (Then (Alone leaf) Nothing)) is = omega (arith, single_one leaf leaf.lexeme)
  expr_nests n (Node Forms.Text (Then (Alone literal) (Then others Nothing))) is = one_fits n
  expr_nests n (Node Forms.Parenthesized (Then (Alone opening) (Then inner close))) is = omega (arith, is.1, expr_nests is.0 inner is.2.1.0)
  expr_nests n (Node Forms.Cast (Then (Alone opening) (Then type_name (Then close (Then operand Nothing))))) is = omega (arith, is.1, expr_nests is.0 operand is.2.1.1.1.0)
  expr_nests n (Node Forms.SizeofRow (Then (Alone word) (Then (Node Forms.SizeofType (Then opening (Then type_name close))) Nothing))) is = one_fits n
  expr_nests n (Node Forms.SizeofRow (Then (Alone word) (Then (Node Forms.SizeofExpr (Then operand Nothing)) Nothing))) is = one_fits n
  expr_nests n (Node (Forms.Prefix kind level) (Then (Alone operator) (Then operand Nothing))) is = omega (arith, is.1, expr_nests is.0 operand is.2.1.0)
  expr_nests n (Node (Forms.Binary kind level) (Then left (Then operator (Then right Nothing)))) is = omega (arith, is.1, expr_nests is.0 left is.2.0, expr_nests is.0 right is.2.1.1.0)
  expr_nests n (Node (Forms.Assign kind) (Then object (Then operator (Then value Nothing)))) is = omega (arith, is.1, expr_nests is.0 object is.2.0, expr_nests is.0 value is.2.1.1.0)
  expr_nests n (Node Forms.Conditional (Then condition (Then question (Then taken (Then colon (Then otherwise Nothing)))))) is = omega (arith, is.1, expr_nests is.0 condition is.2.0, expr_nests is.0 taken is.2.1.1.0, expr_nests is.0 otherwise is.2.1.1.1.1.0)
  expr_nests n (Node Forms.Index (Then array (Then opening (Then index close)))) is = omega (arith, is.1, expr_nests is.0 array is.2.0, expr_nests is.0 index is.2.1.1.0)
  expr_nests n (Node Forms.Call (Then function (Then (Alone opening) (Then arguments close)))) is = omega (arith, is.1, expr_nests is.0 function is.2.0, arguments_nest is.0 arguments is.2.1.1.0)
  expr_nests n (Node Forms.Member (Then object (Then dot (Then (Alone name) Nothing)))) is = omega (arith, is.1, expr_nests is.0 object is.2.0)
  expr_nests n (Node Forms.PointerMember (Then pointer (Then arrow (Then (Alone name) Nothing)))) is = omega (arith, is.1, expr_nests is.0 pointer is.2.0)
  expr_nests n (Node Forms.PostIncrement (Then operand operator)) is = omega (arith, is.1, expr_nests is.0 operand is.2.0)
  expr_nests n (Node Forms.PostDecrement (Then operand operator)) is = omega (arith, is.1, expr_nests is.0 operand is.2.0)
  expr_nests n parse is = one_fits n

  arguments_nest : (n : ℕ) (parse : Parse) → NestsIn n parse → arguments_depth (arguments_of parse) ≤ suc n
  arguments_nest n (Node Forms.OneArgument (Then value (Then others Nothing))) is = omega (arith, is.1, expr_nests is.0 value is.2.0, arguments_nest is.0 others is.2.1.0)
  arguments_nest n (Node Forms.ArgumentsNext (Then comma (Then value (Then others Nothing)))) is = omega (arith, is.1, expr_nests is.0 value is.2.1.0, arguments_nest is.0 others is.2.1.1.0)
  arguments_nest n _ is = none_fits (suc n)
