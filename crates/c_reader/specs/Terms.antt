-- What stands before and behind operands.
use Rattle.std.specs.Prelude.{◌≡◌, ℕ, false, List, ◌∷◌, Option, Some, None, Result, Ok, Err, Box, Vec}
use Rattle.std.specs.declared.alloc.Global.{Global}
use Rattle.run_theory.specs.declared.place.Pos.{Pos}
use Rattle.c_grammar.specs.Table.{Symbol, Terminal, Nonterminal}
use Rattle.c_grammar.specs.Runs.{Parts, Whole}
use Rattle.c_grammar.specs.declared.kind.Kind.{Kind}
use Rattle.c_grammar.specs.declared.kind.Kind.TheVariants as K
use Rattle.c_grammar.specs.Forms
use Rattle.c_grammar.specs.Leaves.{Leaf, kind_of, leaves_of}
use Rattle.c_syntax.specs.Trees
use Rattle.c_syntax.specs.Views.{expr_tree, type_tree, arguments_of}
use Rattle.c_reader.specs.declared.choice.Wrapping.{Wrapping}
use Rattle.c_reader.specs.declared.choice.Wrapping.TheVariants as W
use Rattle.c_reader.specs.declared.choice.Joining.{Joining}
use Rattle.c_reader.specs.declared.choice.Joining.TheVariants as J
use Rattle.c_reader.specs.declared.syntax_err.SyntaxErr.{SyntaxErr}
use Rattle.c_syntax.specs.declared.expr.Expr.{Expr}
use Rattle.c_reader.specs.declared.token.Read.{Read}
use Rattle.c_reader.specs.declared.operand.Operand.{Operand}
use Rattle.c_reader.specs.declared.term.Frame.{Frame}
use Rattle.c_reader.specs.declared.term.Term.{Term}
use Rattle.c_reader.specs.declared.term.EnclosedType.{EnclosedType}
use Rattle.c_reader.specs.Shapes.{expr_of, prefix_of, binary_of, assign_of}
use Rattle.c_reader.specs.Readings.{Fails, IsRead, Passes}
use Rattle.c_reader.specs.ExpressionSteps.{ReadsType, expr_in, operand_tree}

-- the symbols of a frame, and those behind it
abbrev pub closing_symbols : Option Kind → List (Symbol Kind Forms.Sort) → List (Symbol Kind Forms.Sort)
closing_symbols None more = more
closing_symbols (Some last) more = Terminal last ∷ more

abbrev pub frame_symbols : Frame → List (Symbol Kind Forms.Sort) → List (Symbol Kind Forms.Sort)
frame_symbols frame more = Terminal frame.first ∷ Nonterminal Forms.Expr frame.level ∷ closing_symbols frame.last more

abbrev pub wrapped_tree : Wrapping → Pos → Trees.ExprTree → Trees.ExprTree
wrapped_tree W.Parenthesis place inner = Trees.Parenthesized place inner
wrapped_tree (W.Prefix kind operand) place inner = Trees.Prefix (prefix_of kind) place inner

abbrev pub joined_tree : Joining → Trees.ExprTree → Trees.ExprTree → Trees.ExprTree
joined_tree J.Index left right = Trees.Index left right
joined_tree (J.Assign kind) left right = Trees.Assign (assign_of kind) left right
joined_tree (J.Binary kind operand level) left right = Trees.Binary (binary_of kind) left right

-- `c ? a : b` of what was read, and a call of it
abbrev pub chosen_tree : Operand → Term → Read (Box Expr Global) → Trees.ExprTree
chosen_tree condition taken otherwise = Trees.Conditional (operand_tree condition) (expr_in taken.value) (expr_in otherwise.value)

abbrev pub called_tree : Operand → Pos → Read (Vec Expr Global) → Trees.ExprTree
called_tree function opening arguments = Trees.Call (operand_tree function) opening (arguments_of arguments.value.items)

-- A token of this kind stands at the front, and then the others.
pub record PassesOne (kind : Kind) (text behind : List Leaf) : Type 0 where
  pub leaf : Leaf
  pub parts : text ≡ leaf ∷ behind
  pub is_kind : kind_of leaf ≡ kind

-- The token that has to stand behind a frame's expression was passed.
abbrev pub Closes : Option Kind → List Leaf → List Leaf → Type 0
Closes None text behind = text ≡ behind
Closes (Some last) text behind = PassesOne last text behind

-- It doesn't stand there, whatever follows in the row.
abbrev pub FailsToClose : Option Kind → List Leaf → SyntaxErr → Type 0
FailsToClose last text fault = (room : ℕ) (more : List (Symbol Kind Forms.Sort)) → Fails (Parts (closing_symbols last more)) room text fault

-- A frame was read.
pub record ReadsTerm (frame : Frame) (room : ℕ) (text : List Leaf) (place : Pos) (tree : Trees.ExprTree) (high : ℕ) (behind : List Leaf) : Type 0 where
  pub inside : List Leaf
  pub opens : Passes frame.first text place inside
  pub rest : List Leaf
  pub value : IsRead (Whole Forms.Expr frame.level) room inside expr_of tree high rest
  pub closes : Closes frame.last rest behind

abbrev pub GivesTerm : Frame → ℕ → List Leaf → Result Term SyntaxErr → Type 0
GivesTerm frame room text (Ok term) = ReadsTerm frame room text term.place (expr_tree term.value.value) term.height (leaves_of term.rest.now)
GivesTerm frame room text (Err fault) = (more : List (Symbol Kind Forms.Sort)) → Fails (Parts (frame_symbols frame more)) room text fault

-- The name of a type in parentheses was read.
pub record ReadsEnclosedType (room : ℕ) (text : List Leaf) (place : Pos) (tree : Trees.TypeTree) (high : ℕ) (behind : List Leaf) : Type 0 where
  pub inside : List Leaf
  pub opens : Passes K.OpenParenthesis text place inside
  pub rest : List Leaf
  pub named : ReadsType false room inside tree high rest
  pub closes : PassesOne K.CloseParenthesis rest behind

abbrev pub GivesEnclosedType : ℕ → List Leaf → Result EnclosedType SyntaxErr → Type 0
GivesEnclosedType room text (Ok named) = ReadsEnclosedType room text named.place (type_tree named.type_name.value) named.height (leaves_of named.rest.now)
GivesEnclosedType room text (Err fault) = (more : List (Symbol Kind Forms.Sort)) → Fails (Parts (Terminal K.OpenParenthesis ∷ Nonterminal Forms.Type_name 0 ∷ Terminal K.CloseParenthesis ∷ more)) room text fault
