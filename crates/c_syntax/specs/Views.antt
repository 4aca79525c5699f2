-- The views that lead from the trees in memory to those of plain data.
use Rattle.std.specs.Prelude.{List, [], ◌∷◌, map, option_map, Option, Some, None}
use Rattle.c_syntax.specs.declared.name.Name as memory_name
use Rattle.c_syntax.specs.declared.expr.Simple as memory_simple
use Rattle.c_syntax.specs.declared.expr.SimpleKind.{SimpleKind}
use Rattle.c_syntax.specs.declared.expr.SimpleKind.TheVariants as K
use Rattle.c_syntax.specs.declared.expr.Expr as memory_expr
use Rattle.c_syntax.specs.declared.expr.Expr.TheVariants as E
use Rattle.c_syntax.specs.declared.expr.TypeName as memory_type
use Rattle.c_syntax.specs.declared.expr.Declarator as memory_declarator
use Rattle.c_syntax.specs.declared.expr.Direct as memory_direct
use Rattle.c_syntax.specs.declared.expr.Direct.TheVariants as D
use Rattle.c_syntax.specs.declared.expr.Suffix as memory_suffix
use Rattle.c_syntax.specs.declared.expr.Suffix.TheVariants as S
use Rattle.c_syntax.specs.declared.expr.Parameter as memory_parameter
use Rattle.c_syntax.specs.declared.declaration.Init as memory_init
use Rattle.c_syntax.specs.declared.declaration.Init.TheVariants as I
use Rattle.c_syntax.specs.declared.declaration.InitDeclarator as memory_init_declarator
use Rattle.c_syntax.specs.declared.declaration.Declaration as memory_declaration
use Rattle.c_syntax.specs.declared.declaration.Member as memory_member
use Rattle.c_syntax.specs.declared.declaration.Base.{Base}
use Rattle.c_syntax.specs.declared.declaration.Base.TheVariants as O
use Rattle.c_syntax.specs.declared.declaration.Item.{Item}
use Rattle.c_syntax.specs.declared.declaration.Item.TheVariants as P
use Rattle.c_syntax.specs.declared.declaration.Program as memory_program
use Rattle.c_syntax.specs.declared.statement.ForFirst.{ForFirst}
use Rattle.c_syntax.specs.declared.statement.ForFirst.TheVariants as F
use Rattle.c_syntax.specs.declared.statement.Stmt as memory_stmt
use Rattle.c_syntax.specs.declared.statement.Stmt.TheVariants as T
use Rattle.c_syntax.specs.declared.statement.BlockItem as memory_item
use Rattle.c_syntax.specs.declared.statement.BlockItem.TheVariants as B
use Rattle.c_syntax.specs.declared.statement.SwitchItem as memory_switch
use Rattle.c_syntax.specs.declared.statement.SwitchItem.TheVariants as W
use Rattle.c_syntax.specs.Trees

abbrev pub name_tree : memory_name.Name → Trees.NameTree
name_tree n = record { bytes = n.bytes; place = n.place }

abbrev pub simple_tree : SimpleKind → Trees.SimpleTree
simple_tree K.Void = Trees.VoidWord
simple_tree (K.Integer int_type) = Trees.IntegerWords int_type
simple_tree (K.Struct name) = Trees.StructTag (name_tree name)

abbrev pub words_tree : memory_simple.Simple → Trees.WordsTree
words_tree s = record { place = s.place; words = simple_tree s.kind }

abbrev mutual
  pub expr_tree : memory_expr.Expr → Trees.ExprTree
  expr_tree (E.Named name) = Trees.Named (name_tree name)
  expr_tree (E.Integer value int_type place) = Trees.Integer value int_type place
  expr_tree (E.Character byte place) = Trees.Character byte place
  expr_tree (E.Literal bytes place) = Trees.Literal bytes place
  expr_tree (E.Null place) = Trees.Null place
  expr_tree (E.EndOfFile place) = Trees.EndOfFile place
  expr_tree (E.Parenthesized' place p inner) = Trees.Parenthesized place (expr_tree inner)
  expr_tree (E.Index' p array q index) = Trees.Index (expr_tree array) (expr_tree index)
  expr_tree (E.Call' p function open_place shape row) = Trees.Call (expr_tree function) open_place (arguments_tree row)
  expr_tree (E.Member' p object member) = Trees.Member (expr_tree object) (name_tree member)
  expr_tree (E.PointerMember' p pointer member) = Trees.PointerMember (expr_tree pointer) (name_tree member)
  expr_tree (E.PostIncrement' p operand) = Trees.PostIncrement (expr_tree operand)
  expr_tree (E.PostDecrement' p operand) = Trees.PostDecrement (expr_tree operand)
  expr_tree (E.Prefix' operator place p operand) = Trees.Prefix operator place (expr_tree operand)
  expr_tree (E.SizeofExpr' place p operand) = Trees.SizeofExpr place (expr_tree operand)
  expr_tree (E.SizeofType' place p type_name) = Trees.SizeofType place (type_tree type_name)
  expr_tree (E.Cast' place p type_name q operand) = Trees.Cast place (type_tree type_name) (expr_tree operand)
  expr_tree (E.Binary' operator p left q right) = Trees.Binary operator (expr_tree left) (expr_tree right)
  expr_tree (E.Conditional' p condition q taken r otherwise) = Trees.Conditional (expr_tree condition) (expr_tree taken) (expr_tree otherwise)
  expr_tree (E.Assign' operator p object q value) = Trees.Assign operator (expr_tree object) (expr_tree value)

  pub arguments_tree : {shape : _} → memory_expr.Row_of-Expr shape → Trees.ArgumentsTree
  arguments_tree memory_expr.end_of-Expr = Trees.NoArguments
  arguments_tree (memory_expr.more_of-Expr value rest) = Trees.Argument (expr_tree value) (arguments_tree rest)

  pub type_tree : memory_type.TypeName → Trees.TypeTree
  type_tree (memory_type.TypeName' simple declarator) = Trees.TypeName (words_tree simple) (optional_tree declarator)

  pub optional_tree : memory_type.Held-Parameter-declarator → Trees.OptionalTree
  optional_tree memory_type.Parameter-declarator-None' = Trees.NoDeclarator
  optional_tree (memory_type.Parameter-declarator-Some' stars direct shape suffixes) = Trees.Declared (Trees.Declarator stars (direct_tree direct) (suffixes_tree suffixes))

  pub direct_tree : memory_direct.Direct → Trees.DirectTree
  direct_tree (D.Named name) = Trees.DeclaredName (name_tree name)
  direct_tree (D.Nested' p stars direct shape suffixes) = Trees.Nested (Trees.Declarator stars (direct_tree direct) (suffixes_tree suffixes))
  direct_tree D.Nothing = Trees.NoName

  pub suffixes_tree : {shape : _} → memory_direct.Row_of-Suffix shape → Trees.SuffixesTree
  suffixes_tree memory_direct.end_of-Suffix = Trees.NoSuffixes
  suffixes_tree (memory_direct.more_of-Suffix (S.Array' length) rest) = Trees.ArraySuffix (length_tree length) (suffixes_tree rest)
  suffixes_tree (memory_direct.more_of-Suffix (S.Function' shape parameters) rest) = Trees.FunctionSuffix (parameters_tree parameters) (suffixes_tree rest)

  pub length_tree : memory_suffix.Held-Suffix-Array-0 → Trees.LengthTree
  length_tree memory_suffix.Suffix-Array-0-None' = Trees.NoLength
  length_tree (memory_suffix.Suffix-Array-0-Some' value) = Trees.ArrayLength (expr_tree value)

  pub parameters_tree : {shape : _} → memory_suffix.Row_of-Parameter shape → Trees.ParametersTree
  parameters_tree memory_suffix.end_of-Parameter = Trees.NoParameters
  parameters_tree (memory_suffix.more_of-Parameter (memory_parameter.Parameter' simple declarator) rest) = Trees.Parameter (words_tree simple) (optional_tree declarator) (parameters_tree rest)

-- ---- lists of these, as the items of a vector

abbrev pub arguments_of : List memory_expr.Expr → Trees.ArgumentsTree
arguments_of [] = Trees.NoArguments
arguments_of (value ∷ rest) = Trees.Argument (expr_tree value) (arguments_of rest)

abbrev pub suffixes_of : List memory_suffix.Suffix → Trees.SuffixesTree
suffixes_of [] = Trees.NoSuffixes
suffixes_of (S.Array' length ∷ rest) = Trees.ArraySuffix (length_tree length) (suffixes_of rest)
suffixes_of (S.Function' shape parameters ∷ rest) = Trees.FunctionSuffix (parameters_tree parameters) (suffixes_of rest)

abbrev pub declarator_tree : memory_declarator.Declarator → Trees.DeclaratorTree
declarator_tree d = Trees.Declarator d.stars (direct_tree d.direct) (suffixes_of d.suffixes.items)

abbrev pub optional_of : Option memory_declarator.Declarator → Trees.OptionalTree
optional_of None = Trees.NoDeclarator
optional_of (Some declarator) = Trees.Declared (declarator_tree declarator)

abbrev pub length_of : Option memory_expr.Expr → Trees.LengthTree
length_of None = Trees.NoLength
length_of (Some value) = Trees.ArrayLength (expr_tree value)

abbrev pub parameters_of : List memory_parameter.Parameter → Trees.ParametersTree
parameters_of [] = Trees.NoParameters
parameters_of (memory_parameter.Parameter' simple declarator ∷ rest) = Trees.Parameter (words_tree simple) (optional_tree declarator) (parameters_of rest)

abbrev pub value_tree : Option memory_expr.Expr → Option Trees.ExprTree
value_tree value = option_map expr_tree value

-- ---- declarations

abbrev mutual
  pub init_tree : memory_init.Init → Trees.InitTree
  init_tree (I.Value value) = Trees.InitValue (expr_tree value)
  init_tree (I.List' place shape inits) = Trees.InitList place (inits_tree inits)

  pub inits_tree : {shape : _} → memory_init.Row_of-Init shape → Trees.InitsTree
  inits_tree memory_init.end_of-Init = Trees.NoInits
  inits_tree (memory_init.more_of-Init init rest) = Trees.Inits (init_tree init) (inits_tree rest)

abbrev pub inits_of : List memory_init.Init → Trees.InitsTree
inits_of [] = Trees.NoInits
inits_of (init ∷ rest) = Trees.Inits (init_tree init) (inits_of rest)

abbrev pub init_declarator_tree : memory_init_declarator.InitDeclarator → Trees.InitDeclaratorTree
init_declarator_tree d = record { declarator = declarator_tree d.declarator; init = option_map init_tree d.init }

abbrev pub declaration_tree : memory_declaration.Declaration → Trees.DeclarationTree
declaration_tree d = record { words = words_tree d.simple; declarators = map init_declarator_tree d.declarators.items }

-- ---- statements

abbrev pub for_tree : ForFirst → Trees.ForTree
for_tree F.Nothing = Trees.ForNothing
for_tree (F.Declaration declaration) = Trees.ForDeclaration (declaration_tree declaration)
for_tree (F.Expression value) = Trees.ForExpression (expr_tree value)

abbrev mutual
  pub stmt_tree : memory_stmt.Stmt → Trees.StmtTree
  stmt_tree (T.Block' place shape items) = Trees.BlockStmt place (block_tree items)
  stmt_tree (T.Empty place) = Trees.Empty place
  stmt_tree (T.Expression value) = Trees.Expression (expr_tree value)
  stmt_tree (T.If' place condition p taken) = Trees.If place (expr_tree condition) (stmt_tree taken)
  stmt_tree (T.IfElse' place condition p taken q otherwise) = Trees.IfElse place (expr_tree condition) (stmt_tree taken) (stmt_tree otherwise)
  stmt_tree (T.While' place condition p body) = Trees.While place (expr_tree condition) (stmt_tree body)
  stmt_tree (T.Do' place p body condition) = Trees.Do place (stmt_tree body) (expr_tree condition)
  stmt_tree (T.For' place start condition step p body) = Trees.For place (for_tree start) (value_tree condition) (value_tree step) (stmt_tree body)
  stmt_tree (T.Switch' place value shape items) = Trees.Switch place (expr_tree value) (switch_tree items)
  stmt_tree (T.Break place) = Trees.Break place
  stmt_tree (T.Continue place) = Trees.Continue place
  stmt_tree (T.Return place value) = Trees.Return place (value_tree value)

  pub block_tree : {shape : _} → memory_stmt.Row_of-BlockItem shape → Trees.BlockTree
  block_tree memory_stmt.end_of-BlockItem = Trees.Close
  block_tree (memory_stmt.more_of-BlockItem (B.Declaration declaration) rest) = Trees.Declare (declaration_tree declaration) (block_tree rest)
  block_tree (memory_stmt.more_of-BlockItem (B.Statement stmt) rest) = Trees.Perform (stmt_tree stmt) (block_tree rest)

  pub switch_tree : {shape : _} → memory_stmt.Row_of-SwitchItem shape → Trees.SwitchTree
  switch_tree memory_stmt.end_of-SwitchItem = Trees.SwitchEnd
  switch_tree (memory_stmt.more_of-SwitchItem (W.Case place value) rest) = Trees.Case place (expr_tree value) (switch_tree rest)
  switch_tree (memory_stmt.more_of-SwitchItem (W.Default place) rest) = Trees.Default place (switch_tree rest)
  switch_tree (memory_stmt.more_of-SwitchItem (W.Statement stmt) rest) = Trees.SwitchStmt (stmt_tree stmt) (switch_tree rest)

abbrev pub block_of : List memory_item.BlockItem → Trees.BlockTree
block_of [] = Trees.Close
block_of (B.Declaration declaration ∷ rest) = Trees.Declare (declaration_tree declaration) (block_of rest)
block_of (B.Statement stmt ∷ rest) = Trees.Perform (stmt_tree stmt) (block_of rest)

abbrev pub switch_of : List memory_switch.SwitchItem → Trees.SwitchTree
switch_of [] = Trees.SwitchEnd
switch_of (W.Case place value ∷ rest) = Trees.Case place (expr_tree value) (switch_of rest)
switch_of (W.Default place ∷ rest) = Trees.Default place (switch_of rest)
switch_of (W.Statement stmt ∷ rest) = Trees.SwitchStmt (stmt_tree stmt) (switch_of rest)

-- ---- outside functions

abbrev pub member_tree : memory_member.Member → Trees.MemberTree
member_tree m = record { words = words_tree m.simple; declarators = map declarator_tree m.declarators.items }

abbrev pub base_tree : Base → Trees.BaseTree
base_tree (O.Simple simple) = Trees.Plain (words_tree simple)
base_tree (O.Struct place name members) = Trees.StructBody place (name_tree name) (map member_tree members.items)

abbrev pub item_tree : Item → Trees.ItemTree
item_tree (P.Declaration base declarators) = Trees.Declaration (base_tree base) (map init_declarator_tree declarators.items)
item_tree (P.Function base declarator body) = Trees.Function (base_tree base) (declarator_tree declarator) body.place (block_of body.items.items)

abbrev pub program_tree : memory_program.Program → Trees.ProgramTree
program_tree p = record { items = map item_tree p.items.items; end = p.end }
