-- The literals of an expression stand in its tree of the grammar's rows.
use Rattle.std.proofs.Common.{◌≡◌, [], ◌++◌, refl, sym, subst}
use Rattle.c_grammar.specs.Table.{Alone, Nothing, Then, Node}
use Rattle.c_grammar.specs.declared.kind.Kind.TheVariants as K
use Rattle.c_grammar.specs.Forms
use Rattle.c_grammar.specs.Leaves.{Leaf}
use Rattle.c_grammar.specs.declared.token.Lexeme.{Lexeme}
use Rattle.c_grammar.specs.declared.token.Lexeme.TheVariants as L
use Rattle.c_rules.specs.Elaborated.{literals_in, literals_in_arguments, literals_in_type, literals_in_optional, literals_in_declarator, literals_in_direct, literals_in_suffixes, literals_in_length, literals_in_parameters}
use Rattle.c_reader.specs.Grammar.{Parse}
use Rattle.c_reader.specs.Shapes.{single_of, expr_of, arguments_of, type_of, optional_of, declarator_of, direct_of, suffixes_of, length_of, parameters_of}
use Rattle.accepted_programs.specs.Literals.{LiteralsStand, no_literal, literal, in_row, in_first, in_others, in_both, regrouped}

-- one token that is an expression is no literal
single_none : (leaf : Leaf) (lexeme : Lexeme) → literals_in (single_of leaf lexeme) ≡ []
single_none leaf (L.Name bytes) = refl
single_none leaf (L.Integer value int_type) = refl
single_none leaf (L.Character byte) = refl
single_none leaf (L.Fixed K.EndOfFile) = refl
single_none leaf _ = refl

mutual
  pub expr_held : (parse : Parse) → LiteralsStand (literals_in (expr_of parse)) parse
  expr_held (Node (Forms.Single kind) (Then (Alone leaf) Nothing)) = subst (λ literals. LiteralsStand literals (Node (Forms.Single kind) (Then (Alone leaf) Nothing))) (sym (single_none leaf leaf.lexeme)) no_literal
  expr_held (Node Forms.Text (Then (Alone first) (Then others Nothing))) = in_row (in_first (literal _ refl))
  expr_held (Node Forms.Parenthesized (Then (Alone opening) (Then inner close))) = in_row (in_others (in_first (expr_held inner)))
  expr_held (Node Forms.Cast (Then (Alone opening) (Then type_name (Then close (Then operand Nothing))))) = in_row (in_others (in_both (type_held type_name) (in_others (in_first (expr_held operand)))))
  expr_held (Node Forms.SizeofRow (Then (Alone word) (Then (Node Forms.SizeofType (Then opening (Then type_name close))) Nothing))) = in_row (in_others (in_first (in_row (in_others (in_first (type_held type_name))))))
  expr_held (Node Forms.SizeofRow (Then (Alone word) (Then (Node Forms.SizeofExpr (Then operand Nothing)) Nothing))) = in_row (in_others (in_first (in_row (in_first (expr_held operand)))))
  expr_held (Node (Forms.Prefix kind level) (Then (Alone operator) (Then operand Nothing))) = in_row (in_others (in_first (expr_held operand)))
  expr_held (Node (Forms.Binary kind level) (Then left (Then operator (Then right Nothing)))) = in_row (in_both (expr_held left) (in_others (in_first (expr_held right))))
  expr_held (Node (Forms.Assign kind) (Then object (Then operator (Then value Nothing)))) = in_row (in_both (expr_held object) (in_others (in_first (expr_held value))))
  expr_held (Node Forms.Conditional (Then condition (Then question (Then taken (Then colon (Then otherwise Nothing)))))) =
      in_row (regrouped (literals_in (expr_of condition)) (literals_in (expr_of taken)) (literals_in (expr_of otherwise)) (in_both (expr_held condition) (in_others (in_both (expr_held taken) (in_others (in_first (expr_held otherwise)))))))
  expr_held (Node Forms.Index (Then array (Then opening (Then index close)))) = in_row (in_both (expr_held array) (in_others (in_first (expr_held index))))
  expr_held (Node Forms.Call (Then function (Then (Alone opening) (Then arguments close)))) = in_row (in_both (expr_held function) (in_others (in_first (arguments_held arguments))))
  expr_held (Node Forms.Member (Then object (Then dot (Then (Alone name) Nothing)))) = in_row (in_first (expr_held object))
  expr_held (Node Forms.PointerMember (Then pointer (Then arrow (Then (Alone name) Nothing)))) = in_row (in_first (expr_held pointer))
  expr_held (Node Forms.PostIncrement (Then operand operator)) = in_row (in_first (expr_held operand))
  expr_held (Node Forms.PostDecrement (Then operand operator)) = in_row (in_first (expr_held operand))
  expr_held _ = no_literal

  pub arguments_held : (parse : Parse) → LiteralsStand (literals_in_arguments (arguments_of parse)) parse
  arguments_held (Node Forms.OneArgument (Then value (Then others Nothing))) = in_row (in_both (expr_held value) (in_first (arguments_held others)))
  arguments_held (Node Forms.ArgumentsNext (Then comma (Then value (Then others Nothing)))) = in_row (in_others (in_both (expr_held value) (in_first (arguments_held others))))
  arguments_held _ = no_literal

  pub type_held : (parse : Parse) → LiteralsStand (literals_in_type (type_of parse)) parse
  type_held (Node Forms.TypeRow (Then base (Then declarator Nothing))) = in_row (in_others (in_first (optional_held declarator)))
  type_held _ = no_literal

  pub optional_held : (parse : Parse) → LiteralsStand (literals_in_optional (optional_of parse)) parse
  optional_held (Node (Forms.OptionalPointer named) (Then star (Then stars (Then direct Nothing)))) = in_row (in_others (in_others (in_first (direct_held direct))))
  optional_held (Node (Forms.OptionalDirect named) (Then direct Nothing)) = in_row (in_first (direct_held direct))
  optional_held _ = no_literal

  pub declarator_held : (parse : Parse) → LiteralsStand (literals_in_declarator (declarator_of parse)) parse
  declarator_held (Node Forms.DeclaratorRow (Then stars (Then direct Nothing))) = in_row (in_others (in_first (direct_held direct)))
  declarator_held (Node (Forms.InnerPointer named) (Then star (Then stars (Then direct Nothing)))) = in_row (in_others (in_others (in_first (direct_held direct))))
  declarator_held (Node (Forms.InnerDirect named) (Then direct Nothing)) = in_row (in_first (direct_held direct))
  declarator_held _ = no_literal

  -- what a declarator is built on stands before what follows that
  pub direct_held : (parse : Parse) → LiteralsStand (literals_in_direct (direct_of parse) ++ literals_in_suffixes (suffixes_of parse)) parse
  direct_held (Node Forms.DirectName (Then (Alone name) (Then others Nothing))) = in_row (in_others (in_first (suffixes_held others)))
  direct_held (Node Forms.DirectName (Then Nothing (Then others Nothing))) = in_row (in_others (in_first (suffixes_held others)))
  direct_held (Node Forms.DirectName (Then (Then a b) (Then others Nothing))) = in_row (in_others (in_first (suffixes_held others)))
  direct_held (Node Forms.DirectName (Then (Node a b) (Then others Nothing))) = in_row (in_others (in_first (suffixes_held others)))
  direct_held (Node (Forms.ParamName named) (Then (Alone name) (Then others Nothing))) = in_row (in_others (in_first (suffixes_held others)))
  direct_held (Node (Forms.ParamName named) (Then Nothing (Then others Nothing))) = in_row (in_others (in_first (suffixes_held others)))
  direct_held (Node (Forms.ParamName named) (Then (Then a b) (Then others Nothing))) = in_row (in_others (in_first (suffixes_held others)))
  direct_held (Node (Forms.ParamName named) (Then (Node a b) (Then others Nothing))) = in_row (in_others (in_first (suffixes_held others)))
  direct_held (Node Forms.DirectNested (Then opening (Then declarator (Then close (Then others Nothing))))) = in_row (in_others (in_both (declarator_held declarator) (in_others (in_first (suffixes_held others)))))
  direct_held (Node Forms.DirectNested (Then opening (Then declarator suffixes))) = in_row (in_others (in_both (declarator_held declarator) no_literal))
  direct_held (Node (Forms.ParamNested named) (Then opening (Then declarator (Then close (Then others Nothing))))) = in_row (in_others (in_both (declarator_held declarator) (in_others (in_first (suffixes_held others)))))
  direct_held (Node (Forms.ParamNested named) (Then opening (Then declarator suffixes))) = in_row (in_others (in_both (declarator_held declarator) no_literal))
  direct_held (Node (Forms.DirectSome named) (Then direct Nothing)) = in_row (in_first (direct_held direct))
  direct_held (Node Forms.Array (Then opening (Then length (Then close (Then others Nothing))))) = in_row (in_others (in_both (length_held length) (in_others (in_first (suffixes_held others)))))
  direct_held (Node (Forms.ParamArray named) (Then opening (Then length (Then close (Then others Nothing))))) = in_row (in_others (in_both (length_held length) (in_others (in_first (suffixes_held others)))))
  direct_held (Node Forms.Function (Then opening (Then parameters (Then close (Then others Nothing))))) = in_row (in_others (in_both (parameters_held parameters) (in_others (in_first (suffixes_held others)))))
  direct_held (Node (Forms.ParamFunction named) (Then opening (Then parameters (Then close (Then others Nothing))))) = in_row (in_others (in_both (parameters_held parameters) (in_others (in_first (suffixes_held others)))))
  direct_held _ = no_literal

  pub suffixes_held : (parse : Parse) → LiteralsStand (literals_in_suffixes (suffixes_of parse)) parse
  suffixes_held (Node Forms.DirectName (Then name (Then others Nothing))) = in_row (in_others (in_first (suffixes_held others)))
  suffixes_held (Node (Forms.ParamName named) (Then name (Then others Nothing))) = in_row (in_others (in_first (suffixes_held others)))
  suffixes_held (Node Forms.DirectNested (Then opening (Then declarator (Then close (Then others Nothing))))) = in_row (in_others (in_others (in_others (in_first (suffixes_held others)))))
  suffixes_held (Node (Forms.ParamNested named) (Then opening (Then declarator (Then close (Then others Nothing))))) = in_row (in_others (in_others (in_others (in_first (suffixes_held others)))))
  suffixes_held (Node (Forms.DirectSome named) (Then direct Nothing)) = in_row (in_first (suffixes_held direct))
  suffixes_held (Node Forms.Array (Then opening (Then length (Then close (Then others Nothing))))) = in_row (in_others (in_both (length_held length) (in_others (in_first (suffixes_held others)))))
  suffixes_held (Node (Forms.ParamArray named) (Then opening (Then length (Then close (Then others Nothing))))) = in_row (in_others (in_both (length_held length) (in_others (in_first (suffixes_held others)))))
  suffixes_held (Node Forms.Function (Then opening (Then parameters (Then close (Then others Nothing))))) = in_row (in_others (in_both (parameters_held parameters) (in_others (in_first (suffixes_held others)))))
  suffixes_held (Node (Forms.ParamFunction named) (Then opening (Then parameters (Then close (Then others Nothing))))) = in_row (in_others (in_both (parameters_held parameters) (in_others (in_first (suffixes_held others)))))
  suffixes_held _ = no_literal

  pub length_held : (parse : Parse) → LiteralsStand (literals_in_length (length_of parse)) parse
  length_held (Node Forms.LengthRow (Then value Nothing)) = in_row (in_first (expr_held value))
  length_held _ = no_literal

  pub parameters_held : (parse : Parse) → LiteralsStand (literals_in_parameters (parameters_of parse)) parse
  parameters_held (Node Forms.OneParam (Then (Node Forms.ParamRow (Then base (Then declarator Nothing))) (Then others Nothing))) = in_row (in_both (in_row (in_others (in_first (optional_held declarator)))) (in_first (parameters_held others)))
  parameters_held (Node Forms.ParamsNext (Then comma (Then (Node Forms.ParamRow (Then base (Then declarator Nothing))) (Then others Nothing)))) = in_row (in_others (in_both (in_row (in_others (in_first (optional_held declarator)))) (in_first (parameters_held others))))
  parameters_held _ = no_literal
