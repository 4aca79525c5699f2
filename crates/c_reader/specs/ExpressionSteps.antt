-- What the smaller parts of the reader answer.
use Rattle.std.specs.Prelude.{Box, ◌≡◌, ℕ, max, Bool, true, false, ◌||◌, List, [], ◌∷◌, ◌++◌, Some, Result, Ok, Err}
use Rattle.std.specs.declared.alloc.Global.{Global}
use Rattle.run_theory.specs.declared.place.Pos.{Pos}
use Rattle.run_theory.specs.Places.{first_place}
use Rattle.c_grammar.specs.Table.{Alone, Nothing, Then, Node, height, leaves}
use Rattle.c_grammar.specs.Runs.{Parts, Whole, More, Outcome, Done, level_of, Run}
use Rattle.c_grammar.specs.declared.kind.Kind.TheVariants as K
use Rattle.c_grammar.specs.Forms
use Rattle.c_grammar.specs.Kinds.{is}
use Rattle.c_grammar.specs.Chooses.{take, begins_direct}
use Rattle.c_grammar.specs.Language.{choose_at}
use Rattle.c_grammar.specs.declared.token.Lexeme.TheVariants as L
use Rattle.c_grammar.specs.Leaves.{Leaf, kind_of, leaves_of, sample}
use Rattle.c_syntax.specs.declared.expr.Expr.{Expr}
use Rattle.c_syntax.specs.declared.expr.TypeName.{TypeName}
use Rattle.c_syntax.specs.declared.expr.Declarator.{Declarator}
use Rattle.c_syntax.specs.declared.expr.Suffix.{Suffix}
use Rattle.c_syntax.specs.declared.expr.Suffix as memory_suffix
use Rattle.c_syntax.specs.declared.expr.Parameter.{Parameter}
use Rattle.c_syntax.specs.declared.expr.Parameter as memory_parameter
use Rattle.c_syntax.specs.Trees
use Rattle.c_syntax.specs.Views.{expr_tree, words_tree, optional_tree, declarator_tree, type_tree, length_tree, parameters_tree}
use Rattle.c_reader.specs.declared.syntax_err.SyntaxErr.{SyntaxErr}
use Rattle.c_reader.specs.declared.operand.Operand.{Operand}
use Rattle.c_reader.specs.declared.operand.Literals.{Literals}
use Rattle.c_reader.specs.declared.token.Read.{Read}
use Rattle.c_reader.specs.Grammar.{grammar, Parse}
use Rattle.c_reader.specs.Shapes.{name_of, single_of, literals_of, words_of, expr_of, direct_of, suffixes_of, optional_of}
use Rattle.c_reader.specs.Choices.{next_form}
use Rattle.c_reader.specs.Readings.{Fails, IsRead, IsReading}
use Rattle.c_reader.specs.Steps.{Onto}

-- ---- expressions

-- the syntax tree of an expression in a box
abbrev pub expr_in : Box Expr Global → Trees.ExprTree
expr_in boxed = expr_tree boxed.value

-- This row of an expression is chosen.
pub record Chooses (level : ℕ) (form : Forms.Production) (leaves : List Leaf) : Type 0 where
  pub told : choose_at kind_of sample Forms.Expr level leaves ≡ take form

-- An expression of a level was read so far as this tree, which may go on; `own` is how loosely it binds.
pub record Starts (level room : ℕ) (text : List Leaf) (tree : Trees.ExprTree) (high own : ℕ) (behind : List Leaf) : Type 0 where
  pub parse : Parse
  pub goes : (outcome : Outcome Leaf Forms.Production) → Run grammar (More Forms.Expr level parse) room behind outcome → Run grammar (Whole Forms.Expr level) room text outcome
  pub shape : expr_of parse ≡ tree
  pub measured : height grammar parse ≡ high
  pub binds : level_of grammar parse ≡ own

abbrev pub GivesOperand : ℕ → ℕ → List Leaf → Result Operand SyntaxErr → Type 0
GivesOperand level room text (Ok operand) = Starts level room text (expr_tree operand.expr.value) operand.height operand.level (leaves_of operand.rest.now)
GivesOperand level room text (Err fault) = Fails (Whole Forms.Expr level) room text fault

-- the expression that the first token is alone
abbrev pub first_single : List Leaf → Trees.ExprTree
first_single [] = Trees.Null first_place
first_single (leaf ∷ text) = single_of leaf leaf.lexeme

-- literals behind others, with the bytes of those
abbrev pub joined : List ℕ → Parse → List ℕ
joined first others = first ++ literals_of others

abbrev pub GivesLiterals : ℕ → List ℕ → List Leaf → Result Literals SyntaxErr → Type 0
GivesLiterals room first leaves (Ok read) = IsRead (Whole Forms.Literals 0) room leaves (joined first) read.bytes.items 0 (leaves_of read.rest.now)
GivesLiterals room first leaves (Err fault) = Fails (Whole Forms.Literals 0) room leaves fault

-- The row goes on behind the expression that was read so far.
abbrev pub Extends : Forms.Production → Trees.ExprTree → ℕ → ℕ → List Leaf → ℕ → Result Operand SyntaxErr → Type 0
Extends form left high own rest room result = (level : ℕ) (text : List Leaf) → Starts level room text left high own rest → next_form level own rest ≡ Some form → GivesOperand level room text result

-- the tree of an operand
abbrev pub operand_tree : Operand → Trees.ExprTree
operand_tree operand = expr_tree operand.expr.value

-- a postfix operator of this form is read behind an operand
abbrev pub ExtendsOperand : Forms.Production → Operand → ℕ → Result Operand SyntaxErr → Type 0
ExtendsOperand form left room result = Extends form (operand_tree left) left.height left.level (leaves_of left.rest.now) room result

-- the expression of a `sizeof` at a place with this operand
abbrev pub sizeof_of : Pos → Parse → Trees.ExprTree
sizeof_of place operand = expr_of (Node Forms.SizeofRow (Then (Alone (record { lexeme = L.Fixed K.Sizeof; place = place })) (Then operand Nothing)))

-- ---- declarators

-- a declarator with so many stars in front of this
abbrev pub built_of : ℕ → Parse → Trees.DeclaratorTree
built_of stars direct = Trees.Declarator stars (direct_of direct) (suffixes_of direct)

abbrev pub parameter_type : Parameter → Trees.TypeTree
parameter_type (memory_parameter.Parameter' simple declarator) = Trees.TypeName (words_tree simple) (optional_tree declarator)

-- the name of a declarator with so many stars, and what follows, in each row that begins with it
pub record ReadsNamed (room : ℕ) (text : List Leaf) (stars : ℕ) (tree : Trees.DeclaratorTree) (high : ℕ) (behind : List Leaf) : Type 0 where
  pub name : Leaf
  pub others : Parse
  pub run : Run grammar (Parts (Forms.symbols_of Forms.DirectName)) room text (Done (Then (Alone name) (Then others Nothing)) behind)
  pub shape : Trees.Declarator stars (Trees.DeclaredName (name_of name)) (suffixes_of others) ≡ tree
  pub measured : height grammar others ≡ high

abbrev pub GivesNamed : ℕ → ℕ → List Leaf → Result (Read Declarator) SyntaxErr → Type 0
GivesNamed stars room text (Ok read) = ReadsNamed room text stars (declarator_tree read.value) read.height (leaves_of read.rest.now)
GivesNamed stars room text (Err fault) = Fails (Parts (Forms.symbols_of Forms.DirectName)) room text fault

-- The words of a type and a declarator that may lack its name: a parameter where it may have one, else the name of a
-- type.
abbrev pub type_form : Bool → Forms.Production
type_form true = Forms.ParamRow
type_form false = Forms.TypeRow

pub record ReadsType (named : Bool) (room : ℕ) (text : List Leaf) (tree : Trees.TypeTree) (high : ℕ) (behind : List Leaf) : Type 0 where
  pub base : Parse
  pub declarator : Parse
  pub run : Run grammar (Whole (Forms.sort_of (type_form named)) 0) room text (Done (Node (type_form named) (Then base (Then declarator Nothing))) behind)
  pub shape : Trees.TypeName (words_of base) (optional_of declarator) ≡ tree
  pub measured : height grammar (Node (type_form named) (Then base (Then declarator Nothing))) ≡ high

abbrev pub GivesType : Bool → ℕ → List Leaf → Result (Read TypeName) SyntaxErr → Type 0
GivesType named room text (Ok read) = ReadsType named room text (type_tree read.value) read.height (leaves_of read.rest.now)
GivesType named room text (Err fault) = Fails (Whole (Forms.sort_of (type_form named)) 0) room text fault

-- Does a declarator that may lack its name begin so?
abbrev pub BeginsOptional : Bool → List Leaf → Type 0
BeginsOptional named [] = ⊥
BeginsOptional named (leaf ∷ text) = (is (kind_of leaf) K.Star || begins_direct named (kind_of leaf)) ≡ true

abbrev pub EndsOptional : Bool → List Leaf → Type 0
EndsOptional named [] = ⊥
EndsOptional named (leaf ∷ text) = (is (kind_of leaf) K.Star || begins_direct named (kind_of leaf)) ≡ false

-- a declarator is read that could have been left out
abbrev pub GivesOptional : Bool → ℕ → List Leaf → Result (Read Declarator) SyntaxErr → Type 0
GivesOptional named room text result = IsReading (Whole (Forms.Optional named) 0) room text optional_of (λ declarator. Trees.Declared (declarator_tree declarator)) result

-- one length of an array or one list of parameters, with what follows
abbrev pub suffix_onto : Suffix → Trees.SuffixesTree → Trees.SuffixesTree
suffix_onto (memory_suffix.TheVariants.Array' length) others = Trees.ArraySuffix (length_tree length) others
suffix_onto (memory_suffix.TheVariants.Function' shape parameters) others = Trees.FunctionSuffix (parameters_tree parameters) others

pub record ReadsSuffix (room : ℕ) (text : List Leaf) (suffix : Suffix) (high : ℕ) (rest : List Leaf) : Type 0 where
  pub build : Parse → Parse
  pub onto : Onto (Whole Forms.Suffixes 0) (Whole Forms.Suffixes 0) room text rest build
  pub shape : (tree : Parse) → suffixes_of (build tree) ≡ suffix_onto suffix (suffixes_of tree)
  pub high_is : (tree : Parse) → height grammar (build tree) ≡ max high (height grammar tree)

abbrev pub GivesSuffix : ℕ → List Leaf → Result (Read Suffix) SyntaxErr → Type 0
GivesSuffix room text (Ok read) = ReadsSuffix room text read.value read.height (leaves_of read.rest.now)
GivesSuffix room text (Err fault) = Fails (Whole Forms.Suffixes 0) room text fault
