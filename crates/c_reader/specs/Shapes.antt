-- The syntax tree that a tree of the grammar's rows stands for: what is told by places in the row, and the punctuation,
-- are left out.
use Rattle.std.specs.Prelude.{ℕ, suc, List, [], ◌∷◌, ◌++◌, Option, Some, None}
use Rattle.run_theory.specs.declared.place.Pos.{Pos}
use Rattle.run_theory.specs.Places.{first_place}
use Rattle.c_num.specs.declared.IntType.{IntType}
use Rattle.c_num.specs.declared.IntType.TheVariants as T
use Rattle.c_grammar.specs.Table.{Alone, Nothing, Then, Node, leaves}
use Rattle.c_grammar.specs.declared.kind.Kind.{Kind}
use Rattle.c_grammar.specs.declared.kind.Kind.TheVariants as K
use Rattle.c_grammar.specs.declared.words.Sign.{Sign}
use Rattle.c_grammar.specs.declared.words.Sign.TheVariants.{IsUnsigned}
use Rattle.c_grammar.specs.declared.words.Size.{Size}
use Rattle.c_grammar.specs.declared.words.Size.TheVariants.{NoSize, CharSize, ShortSize, LongSize}
use Rattle.c_grammar.specs.declared.words.Words.{Words}
use Rattle.c_grammar.specs.declared.words.Words.TheVariants.{Integers}
use Rattle.c_grammar.specs.Forms
use Rattle.c_grammar.specs.declared.token.Lexeme.{Lexeme}
use Rattle.c_grammar.specs.declared.token.Lexeme.TheVariants as L
use Rattle.c_grammar.specs.Leaves.{Leaf}
use Rattle.c_syntax.specs.declared.operator.PrefixOperator.{PrefixOperator}
use Rattle.c_syntax.specs.declared.operator.PrefixOperator.TheVariants as prefix
use Rattle.c_syntax.specs.declared.operator.BinaryOperator.{BinaryOperator}
use Rattle.c_syntax.specs.declared.operator.BinaryOperator.TheVariants as binary
use Rattle.c_syntax.specs.declared.operator.AssignOperator.{AssignOperator}
use Rattle.c_syntax.specs.declared.operator.AssignOperator.TheVariants as assign
use Rattle.c_syntax.specs.Trees
use Rattle.c_reader.specs.Grammar.{Parse}

-- ---- tokens

abbrev pub bytes_of : Lexeme → List ℕ
bytes_of (L.Name bytes) = bytes
bytes_of (L.Literal bytes) = bytes
bytes_of _ = []

abbrev pub name_of : Leaf → Trees.NameTree
name_of leaf = record { bytes = bytes_of leaf.lexeme; place = leaf.place }

-- the place of a tree's first token
abbrev pub place_of : List Leaf → Pos
place_of [] = first_place
place_of (leaf ∷ leaves) = leaf.place

abbrev pub single_of : Leaf → Lexeme → Trees.ExprTree
single_of leaf (L.Name bytes) = Trees.Named (name_of leaf)
single_of leaf (L.Integer value int_type) = Trees.Integer value int_type leaf.place
single_of leaf (L.Character byte) = Trees.Character byte leaf.place
single_of leaf (L.Fixed K.EndOfFile) = Trees.EndOfFile leaf.place
single_of leaf _ = Trees.Null leaf.place

abbrev pub prefix_of : Kind → PrefixOperator
prefix_of K.PlusPlus = prefix.Increment
prefix_of K.MinusMinus = prefix.Decrement
prefix_of K.Ampersand = prefix.Address
prefix_of K.Star = prefix.Dereference
prefix_of K.Plus = prefix.Plus
prefix_of K.Minus = prefix.Minus
prefix_of K.Tilde = prefix.Complement
prefix_of _ = prefix.Not

abbrev pub binary_of : Kind → BinaryOperator
binary_of K.Star = binary.Multiply
binary_of K.Slash = binary.Divide
binary_of K.Percent = binary.Remainder
binary_of K.Plus = binary.Add
binary_of K.Minus = binary.Subtract
binary_of K.ShiftLeft = binary.ShiftLeft
binary_of K.ShiftRight = binary.ShiftRight
binary_of K.Less = binary.Less
binary_of K.Greater = binary.Greater
binary_of K.LessEqual = binary.LessEqual
binary_of K.GreaterEqual = binary.GreaterEqual
binary_of K.EqualEqual = binary.Equal
binary_of K.ExclamationEqual = binary.NotEqual
binary_of K.Ampersand = binary.BitAnd
binary_of K.Caret = binary.BitXor
binary_of K.Bar = binary.BitOr
binary_of K.AmpersandAmpersand = binary.And
binary_of _ = binary.Or

abbrev pub assign_of : Kind → AssignOperator
assign_of K.StarEqual = assign.Multiply
assign_of K.SlashEqual = assign.Divide
assign_of K.PercentEqual = assign.Remainder
assign_of K.PlusEqual = assign.Add
assign_of K.MinusEqual = assign.Subtract
assign_of K.ShiftLeftEqual = assign.ShiftLeft
assign_of K.ShiftRightEqual = assign.ShiftRight
assign_of K.AmpersandEqual = assign.BitAnd
assign_of K.CaretEqual = assign.BitXor
assign_of K.BarEqual = assign.BitOr
assign_of _ = assign.Assign

-- ---- the words of a type (C17 6.7.2 paragraph 2)

abbrev pub int_type_of : Sign → Size → IntType
int_type_of IsUnsigned CharSize = T.UChar
int_type_of IsUnsigned ShortSize = T.UShort
int_type_of IsUnsigned LongSize = T.ULong
int_type_of IsUnsigned NoSize = T.UInt
int_type_of _ CharSize = T.Char
int_type_of _ ShortSize = T.Short
int_type_of _ LongSize = T.Long
int_type_of _ NoSize = T.Int

abbrev pub type_of_words : Words → Trees.SimpleTree
type_of_words (Integers sign size has_int) = Trees.IntegerWords (int_type_of sign size)
type_of_words _ = Trees.VoidWord

abbrev pub simple_of : Parse → Trees.SimpleTree
simple_of (Node (Forms.BaseEnd own words) parts) = type_of_words words
simple_of (Node (Forms.BaseWord own words kind next) (Then word (Then others Nothing))) = simple_of others
simple_of (Node (Forms.BaseStruct own) (Then word (Then (Alone name) others))) = Trees.StructTag (name_of name)
simple_of _ = Trees.VoidWord

abbrev pub words_of : Parse → Trees.WordsTree
words_of base = record { place = place_of (leaves base); words = simple_of base }

abbrev pub stars_after : Parse → ℕ
stars_after (Node Forms.StarNext (Then star (Then others Nothing))) = suc (stars_after others)
stars_after (Node Forms.StarConst (Then word (Then others Nothing))) = stars_after others
stars_after _ = 0

abbrev pub stars_of : Parse → ℕ
stars_of (Node Forms.StarFirst (Then star (Then others Nothing))) = suc (stars_after others)
stars_of _ = 0

-- ---- expressions, and the types and declarators in them

abbrev pub literals_of : Parse → List ℕ
literals_of (Node Forms.MoreLiteral (Then (Alone literal) (Then others Nothing))) = bytes_of literal.lexeme ++ literals_of others
literals_of _ = []

abbrev mutual
  pub expr_of : Parse → Trees.ExprTree
  expr_of (Node (Forms.Single kind) (Then (Alone leaf) Nothing)) = single_of leaf leaf.lexeme
  expr_of (Node Forms.Text (Then (Alone literal) (Then others Nothing))) = Trees.Literal (bytes_of literal.lexeme ++ literals_of others) literal.place
  expr_of (Node Forms.Parenthesized (Then (Alone opening) (Then inner close))) = Trees.Parenthesized opening.place (expr_of inner)
  expr_of (Node Forms.Cast (Then (Alone opening) (Then type_name (Then close (Then operand Nothing))))) = Trees.Cast opening.place (type_of type_name) (expr_of operand)
  expr_of (Node Forms.SizeofRow (Then (Alone word) (Then (Node Forms.SizeofType (Then opening (Then type_name close))) Nothing))) = Trees.SizeofType word.place (type_of type_name)
  expr_of (Node Forms.SizeofRow (Then (Alone word) (Then (Node Forms.SizeofExpr (Then operand Nothing)) Nothing))) = Trees.SizeofExpr word.place (expr_of operand)
  expr_of (Node (Forms.Prefix kind level) (Then (Alone operator) (Then operand Nothing))) = Trees.Prefix (prefix_of kind) operator.place (expr_of operand)
  expr_of (Node (Forms.Binary kind level) (Then left (Then operator (Then right Nothing)))) = Trees.Binary (binary_of kind) (expr_of left) (expr_of right)
  expr_of (Node (Forms.Assign kind) (Then object (Then operator (Then value Nothing)))) = Trees.Assign (assign_of kind) (expr_of object) (expr_of value)
  expr_of (Node Forms.Conditional (Then condition (Then question (Then taken (Then colon (Then otherwise Nothing)))))) = Trees.Conditional (expr_of condition) (expr_of taken) (expr_of otherwise)
  expr_of (Node Forms.Index (Then array (Then opening (Then index close)))) = Trees.Index (expr_of array) (expr_of index)
  expr_of (Node Forms.Call (Then function (Then (Alone opening) (Then arguments close)))) = Trees.Call (expr_of function) opening.place (arguments_of arguments)
  expr_of (Node Forms.Member (Then object (Then dot (Then (Alone name) Nothing)))) = Trees.Member (expr_of object) (name_of name)
  expr_of (Node Forms.PointerMember (Then pointer (Then arrow (Then (Alone name) Nothing)))) = Trees.PointerMember (expr_of pointer) (name_of name)
  expr_of (Node Forms.PostIncrement (Then operand operator)) = Trees.PostIncrement (expr_of operand)
  expr_of (Node Forms.PostDecrement (Then operand operator)) = Trees.PostDecrement (expr_of operand)
  expr_of _ = Trees.Null first_place

  pub arguments_of : Parse → Trees.ArgumentsTree
  arguments_of (Node Forms.OneArgument (Then value (Then others Nothing))) = Trees.Argument (expr_of value) (arguments_of others)
  arguments_of (Node Forms.ArgumentsNext (Then comma (Then value (Then others Nothing)))) = Trees.Argument (expr_of value) (arguments_of others)
  arguments_of _ = Trees.NoArguments

  pub type_of : Parse → Trees.TypeTree
  type_of (Node Forms.TypeRow (Then base (Then declarator Nothing))) = Trees.TypeName (words_of base) (optional_of declarator)
  type_of _ = Trees.TypeName (record { place = first_place; words = Trees.VoidWord }) Trees.NoDeclarator

  pub optional_of : Parse → Trees.OptionalTree
  optional_of (Node (Forms.OptionalPointer named) (Then star (Then stars (Then direct Nothing)))) = Trees.Declared (Trees.Declarator (suc (stars_after stars)) (direct_of direct) (suffixes_of direct))
  optional_of (Node (Forms.OptionalDirect named) (Then direct Nothing)) = Trees.Declared (Trees.Declarator 0 (direct_of direct) (suffixes_of direct))
  optional_of _ = Trees.NoDeclarator

  pub declarator_of : Parse → Trees.DeclaratorTree
  declarator_of (Node Forms.DeclaratorRow (Then stars (Then direct Nothing))) = Trees.Declarator (stars_of stars) (direct_of direct) (suffixes_of direct)
  declarator_of (Node (Forms.InnerPointer named) (Then star (Then stars (Then direct Nothing)))) = Trees.Declarator (suc (stars_after stars)) (direct_of direct) (suffixes_of direct)
  declarator_of (Node (Forms.InnerDirect named) (Then direct Nothing)) = Trees.Declarator 0 (direct_of direct) (suffixes_of direct)
  declarator_of _ = Trees.Declarator 0 Trees.NoName Trees.NoSuffixes

  -- what a declarator is built on
  pub direct_of : Parse → Trees.DirectTree
  direct_of (Node Forms.DirectName (Then (Alone name) suffixes)) = Trees.DeclaredName (name_of name)
  direct_of (Node (Forms.ParamName named) (Then (Alone name) suffixes)) = Trees.DeclaredName (name_of name)
  direct_of (Node Forms.DirectNested (Then opening (Then declarator suffixes))) = Trees.Nested (declarator_of declarator)
  direct_of (Node (Forms.ParamNested named) (Then opening (Then declarator suffixes))) = Trees.Nested (declarator_of declarator)
  direct_of (Node (Forms.DirectSome named) (Then direct Nothing)) = direct_of direct
  direct_of _ = Trees.NoName

  -- and what follows that
  pub suffixes_of : Parse → Trees.SuffixesTree
  suffixes_of (Node Forms.DirectName (Then name (Then others Nothing))) = suffixes_of others
  suffixes_of (Node (Forms.ParamName named) (Then name (Then others Nothing))) = suffixes_of others
  suffixes_of (Node Forms.DirectNested (Then opening (Then declarator (Then close (Then others Nothing))))) = suffixes_of others
  suffixes_of (Node (Forms.ParamNested named) (Then opening (Then declarator (Then close (Then others Nothing))))) = suffixes_of others
  suffixes_of (Node (Forms.DirectSome named) (Then direct Nothing)) = suffixes_of direct
  suffixes_of (Node Forms.Array (Then opening (Then length (Then close (Then others Nothing))))) = Trees.ArraySuffix (length_of length) (suffixes_of others)
  suffixes_of (Node (Forms.ParamArray named) (Then opening (Then length (Then close (Then others Nothing))))) = Trees.ArraySuffix (length_of length) (suffixes_of others)
  suffixes_of (Node Forms.Function (Then opening (Then parameters (Then close (Then others Nothing))))) = Trees.FunctionSuffix (parameters_of parameters) (suffixes_of others)
  suffixes_of (Node (Forms.ParamFunction named) (Then opening (Then parameters (Then close (Then others Nothing))))) = Trees.FunctionSuffix (parameters_of parameters) (suffixes_of others)
  suffixes_of _ = Trees.NoSuffixes

  pub length_of : Parse → Trees.LengthTree
  length_of (Node Forms.LengthRow (Then value Nothing)) = Trees.ArrayLength (expr_of value)
  length_of _ = Trees.NoLength

  pub parameters_of : Parse → Trees.ParametersTree
  parameters_of (Node Forms.OneParam (Then (Node Forms.ParamRow (Then base (Then declarator Nothing))) (Then others Nothing))) = Trees.Parameter (words_of base) (optional_of declarator) (parameters_of others)
  parameters_of (Node Forms.ParamsNext (Then comma (Then (Node Forms.ParamRow (Then base (Then declarator Nothing))) (Then others Nothing)))) = Trees.Parameter (words_of base) (optional_of declarator) (parameters_of others)
  parameters_of _ = Trees.NoParameters

-- ---- declarations

abbrev mutual
  pub init_of : Parse → Trees.InitTree
  init_of (Node Forms.InitValue (Then value Nothing)) = Trees.InitValue (expr_of value)
  init_of (Node Forms.InitList (Then (Alone opening) (Then init (Then others Nothing)))) = Trees.InitList opening.place (Trees.Inits (init_of init) (inits_of others))
  init_of _ = Trees.InitValue (Trees.Null first_place)

  pub inits_of : Parse → Trees.InitsTree
  inits_of (Node Forms.InitComma (Then comma (Then (Node Forms.InitOther (Then init (Then others Nothing))) Nothing))) = Trees.Inits (init_of init) (inits_of others)
  inits_of _ = Trees.NoInits

abbrev pub first_value_of : Parse → Option Trees.InitTree
first_value_of (Node Forms.Value (Then equal (Then init Nothing))) = Some (init_of init)
first_value_of _ = None

abbrev pub init_declarator_of : Parse → Parse → Trees.InitDeclaratorTree
init_declarator_of declarator value = record { declarator = declarator_of declarator; init = first_value_of value }

abbrev pub declarators_of : Parse → List Trees.InitDeclaratorTree
declarators_of (Node Forms.DeclarationNext (Then comma (Then declarator (Then value (Then others Nothing))))) = init_declarator_of declarator value ∷ declarators_of others
declarators_of _ = []

abbrev pub declaration_of : Parse → Trees.DeclarationTree
declaration_of (Node Forms.DeclarationRow (Then base (Then declarator (Then value (Then others Nothing))))) = record { words = words_of base; declarators = init_declarator_of declarator value ∷ declarators_of others }
declaration_of _ = record { words = record { place = first_place; words = Trees.VoidWord }; declarators = [] }

-- ---- statements

abbrev pub for_of : Parse → Trees.ForTree
for_of (Node Forms.ForDeclaration (Then declaration Nothing)) = Trees.ForDeclaration (declaration_of declaration)
for_of (Node Forms.ForExpression (Then value semicolon)) = Trees.ForExpression (expr_of value)
for_of _ = Trees.ForNothing

abbrev pub value_of : Parse → Option Trees.ExprTree
value_of (Node Forms.SomeExpr (Then value Nothing)) = Some (expr_of value)
value_of (Node Forms.ReturnExpr (Then value semicolon)) = Some (expr_of value)
value_of _ = None

-- `if`, with `else` where a tree for it is there
abbrev pub if_of : Pos → Trees.ExprTree → Trees.StmtTree → Option Trees.StmtTree → Trees.StmtTree
if_of place condition taken None = Trees.If place condition taken
if_of place condition taken (Some otherwise) = Trees.IfElse place condition taken otherwise

abbrev mutual
  pub stmt_of : Parse → Trees.StmtTree
  stmt_of (Node Forms.Block (Then (Alone opening) (Then items Nothing))) = Trees.BlockStmt opening.place (block_of items)
  stmt_of (Node Forms.Empty (Then (Alone semicolon) Nothing)) = Trees.Empty semicolon.place
  stmt_of (Node Forms.Expression (Then value semicolon)) = Trees.Expression (expr_of value)
  stmt_of (Node Forms.IfRow (Then (Alone word) (Then opening (Then condition (Then close (Then taken (Then otherwise Nothing))))))) = if_of word.place (expr_of condition) (stmt_of taken) (else_of otherwise)
  stmt_of (Node Forms.WhileRow (Then (Alone word) (Then opening (Then condition (Then close (Then body Nothing)))))) = Trees.While word.place (expr_of condition) (stmt_of body)
  stmt_of (Node Forms.DoRow (Then (Alone word) (Then body (Then while_word (Then opening (Then condition close)))))) = Trees.Do word.place (stmt_of body) (expr_of condition)
  stmt_of (Node Forms.ForRow (Then (Alone word) (Then opening (Then start (Then condition (Then semicolon (Then step (Then close (Then body Nothing))))))))) = Trees.For word.place (for_of start) (value_of condition) (value_of step) (stmt_of body)
  stmt_of (Node Forms.SwitchRow (Then (Alone word) (Then opening (Then value (Then close (Then brace (Then items Nothing))))))) = Trees.Switch word.place (expr_of value) (switch_of items)
  stmt_of (Node Forms.BreakRow (Then (Alone word) semicolon)) = Trees.Break word.place
  stmt_of (Node Forms.ContinueRow (Then (Alone word) semicolon)) = Trees.Continue word.place
  stmt_of (Node Forms.ReturnRow (Then (Alone word) (Then value Nothing))) = Trees.Return word.place (value_of value)
  stmt_of _ = Trees.Empty first_place

  pub else_of : Parse → Option Trees.StmtTree
  else_of (Node Forms.ElseRow (Then word (Then stmt Nothing))) = Some (stmt_of stmt)
  else_of _ = None

  pub block_of : Parse → Trees.BlockTree
  block_of (Node Forms.BlockDeclaration (Then declaration (Then others Nothing))) = Trees.Declare (declaration_of declaration) (block_of others)
  block_of (Node Forms.BlockStatement (Then stmt (Then others Nothing))) = Trees.Perform (stmt_of stmt) (block_of others)
  block_of _ = Trees.Close

  pub switch_of : Parse → Trees.SwitchTree
  switch_of (Node Forms.CaseRow (Then (Alone word) (Then value (Then colon (Then others Nothing))))) = Trees.Case word.place (expr_of value) (switch_of others)
  switch_of (Node Forms.DefaultRow (Then (Alone word) (Then colon (Then others Nothing)))) = Trees.Default word.place (switch_of others)
  switch_of (Node Forms.SwitchStatement (Then stmt (Then others Nothing))) = Trees.SwitchStmt (stmt_of stmt) (switch_of others)
  switch_of _ = Trees.SwitchEnd

-- ---- outside functions

-- the declarators behind the first one of a member
abbrev pub member_declarators_of : Parse → List Trees.DeclaratorTree
member_declarators_of (Node Forms.MemberNext (Then comma (Then declarator (Then others Nothing)))) = declarator_of declarator ∷ member_declarators_of others
member_declarators_of _ = []

abbrev pub member_of : Parse → Trees.MemberTree
member_of (Node Forms.MemberRow (Then base (Then declarator (Then others Nothing)))) = record { words = words_of base; declarators = declarator_of declarator ∷ member_declarators_of others }
member_of _ = record { words = record { place = first_place; words = Trees.VoidWord }; declarators = [] }

abbrev pub more_members_of : Parse → List Trees.MemberTree
more_members_of (Node Forms.MembersNext (Then member (Then others Nothing))) = member_of member ∷ more_members_of others
more_members_of _ = []

-- a struct at a place, with its members where these stand
abbrev pub struct_of : Pos → Leaf → Parse → Trees.BaseTree
struct_of place name (Node Forms.Members (Then opening (Then member (Then others Nothing)))) = Trees.StructBody place (name_of name) (member_of member ∷ more_members_of others)
struct_of place name _ = Trees.Plain (record { place = place; words = Trees.StructTag (name_of name) })

-- the words of a type outside functions, the first of which stands at the place
abbrev pub base_from : Pos → Parse → Trees.BaseTree
base_from place (Node (Forms.BaseWord own words kind next) (Then word (Then others Nothing))) = base_from place others
base_from place (Node (Forms.BaseStruct own) (Then word (Then (Alone name) (Then members others)))) = struct_of place name members
base_from place base = Trees.Plain (record { place = place; words = simple_of base })

abbrev pub body_of : Trees.BaseTree → Trees.DeclaratorTree → Parse → Trees.ItemTree
body_of base declarator (Node Forms.BodyRow (Then (Alone opening) (Then items Nothing))) = Trees.Function base declarator opening.place (block_of items)
body_of base declarator _ = Trees.Declaration base []

abbrev pub declared_of : Trees.BaseTree → Parse → Trees.ItemTree
declared_of base (Node Forms.DeclaredRow (Then declarator (Then (Node Forms.FunctionBody (Then body Nothing)) Nothing))) = body_of base (declarator_of declarator) body
declared_of base (Node Forms.DeclaredRow (Then declarator (Then (Node Forms.DeclaredValues (Then value (Then others Nothing))) Nothing))) = Trees.Declaration base (init_declarator_of declarator value ∷ declarators_of others)
declared_of base _ = Trees.Declaration base []

-- what follows a struct with which an item begins
abbrev pub tail_of : Trees.BaseTree → Parse → Trees.ItemTree
tail_of base (Node Forms.TailTyped (Then consts (Then declared Nothing))) = declared_of base declared
tail_of base _ = Trees.Declaration base []

abbrev pub item_of : Parse → Trees.ItemTree
item_of (Node (Forms.Storage kind) (Then word (Then item Nothing))) = item_of item
item_of (Node Forms.ItemStruct (Then (Alone word) (Then (Alone name) (Then members (Then others Nothing))))) = tail_of (struct_of word.place name members) others
item_of (Node (Forms.ItemTyped kind next) (Then (Alone word) (Then base (Then declared Nothing)))) = declared_of (base_from word.place base) declared
item_of _ = Trees.Declaration (Trees.Plain (record { place = first_place; words = Trees.VoidWord })) []

abbrev pub items_of : Parse → List Trees.ItemTree
items_of (Node Forms.OneItem (Then item (Then others Nothing))) = item_of item ∷ items_of others
items_of _ = []

abbrev pub program_of : Parse → Trees.ProgramTree
program_of (Node Forms.WholeProgram (Then items (Then (Alone end) Nothing))) = record { items = items_of items; end = end.place }
program_of _ = record { items = []; end = first_place }
