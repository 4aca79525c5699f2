-- An expression has at most as many nodes as its tree has leaves.
use Rattle.std.proofs.Common.{◌≤◌, arith}
use Rattle.c_grammar.specs.Table.{Alone, Nothing, Then, Node}
use Rattle.c_grammar.specs.declared.kind.Kind.TheVariants as K
use Rattle.c_grammar.specs.Forms
use Rattle.c_grammar.specs.Leaves.{Leaf}
use Rattle.c_grammar.specs.declared.token.Lexeme.{Lexeme}
use Rattle.c_grammar.specs.declared.token.Lexeme.TheVariants as L
use Rattle.c_syntax.specs.SyntaxNodes.{expr_nodes, arguments_nodes}
use Rattle.c_reader.specs.Grammar.{Parse}
use Rattle.c_reader.specs.Shapes.{single_of, expr_of, arguments_of}
use Rattle.accepted_programs.specs.Rows.{size, IsOf}
use Rattle.accepted_programs.proofs.Filling.{token_size, filled_size, least_size}

single_one : (leaf : Leaf) (lexeme : Lexeme) → expr_nodes (single_of leaf lexeme) ≤ 1
single_one leaf (L.Name bytes) = omega arith
single_one leaf (L.Integer value int_type) = omega arith
single_one leaf (L.Character byte) = omega arith
single_one leaf (L.Fixed K.EndOfFile) = omega arith
single_one leaf _ = omega arith

mutual
  pub expr_sized : (parse : Parse) → IsOf Forms.Expr parse → expr_nodes (expr_of parse) ≤ size parse
  expr_sized (Node (Forms.Single kind) (Then (Alone leaf) Nothing)) is = omega (arith, single_one leaf leaf.lexeme)
  expr_sized (Node Forms.Text (Then (Alone literal) (Then others Nothing))) is = omega arith
  expr_sized (Node Forms.Parenthesized (Then (Alone opening) (Then inner close))) is = omega (arith, expr_sized inner is.1.1.0)
  expr_sized (Node Forms.Cast (Then (Alone opening) (Then type_name (Then close (Then operand Nothing))))) is = omega (arith, expr_sized operand is.1.1.1.1.0)
  expr_sized (Node Forms.SizeofRow (Then (Alone word) (Then (Node Forms.SizeofType (Then opening (Then type_name close))) Nothing))) is = omega arith
  expr_sized (Node Forms.SizeofRow (Then (Alone word) (Then (Node Forms.SizeofExpr (Then operand Nothing)) Nothing))) is = omega arith
  expr_sized (Node (Forms.Prefix kind level) (Then (Alone operator) (Then operand Nothing))) is = omega (arith, expr_sized operand is.1.1.0)
  expr_sized (Node (Forms.Binary kind level) (Then left (Then operator (Then right Nothing)))) is = omega (arith, expr_sized left is.1.0, token_size operator is.1.1.0, expr_sized right is.1.1.1.0)
  expr_sized (Node (Forms.Assign kind) (Then object (Then operator (Then value Nothing)))) is = omega (arith, expr_sized object is.1.0, token_size operator is.1.1.0, expr_sized value is.1.1.1.0)
  expr_sized (Node Forms.Conditional (Then condition (Then question (Then taken (Then colon (Then otherwise Nothing)))))) is = omega (arith, expr_sized condition is.1.0, token_size question is.1.1.0, expr_sized taken is.1.1.1.0, expr_sized otherwise is.1.1.1.1.1.0)
  expr_sized (Node Forms.Index (Then array (Then opening (Then index close)))) is = omega (arith, expr_sized array is.1.0, token_size opening is.1.1.0, expr_sized index is.1.1.1.0)
  expr_sized (Node Forms.Call (Then function (Then (Alone opening) (Then arguments close)))) is = omega (arith, expr_sized function is.1.0, arguments_sized Forms.Arguments arguments is.1.1.1.0)
  expr_sized (Node Forms.Member (Then object (Then dot (Then (Alone name) Nothing)))) is = omega (arith, expr_sized object is.1.0)
  expr_sized (Node Forms.PointerMember (Then pointer (Then arrow (Then (Alone name) Nothing)))) is = omega (arith, expr_sized pointer is.1.0)
  expr_sized (Node Forms.PostIncrement (Then operand operator)) is = omega (arith, expr_sized operand is.1.0, filled_size (Forms.symbols_of Forms.PostIncrement) operator is.1.1)
  expr_sized (Node Forms.PostDecrement (Then operand operator)) is = omega (arith, expr_sized operand is.1.0, filled_size (Forms.symbols_of Forms.PostDecrement) operator is.1.1)
  expr_sized parse is = least_size Forms.Expr parse is

  arguments_sized : (sort : Forms.Sort) (parse : Parse) → IsOf sort parse → arguments_nodes (arguments_of parse) ≤ size parse
  arguments_sized sort (Node Forms.OneArgument (Then value (Then others Nothing))) is = omega (arith, expr_sized value is.1.0, arguments_sized Forms.ArgumentsMore others is.1.1.0)
  arguments_sized sort (Node Forms.ArgumentsNext (Then comma (Then value (Then others Nothing)))) is = omega (arith, expr_sized value is.1.1.0, arguments_sized Forms.ArgumentsMore others is.1.1.1.0)
  arguments_sized sort _ is = omega arith
