-- A vector inside of a recursive type shows as a row. The tree of a row is that of its items.
use Rattle.std.proofs.Common.{◌≡◌, List, ◌∷◌, Box, Vec, Global, Option, Some, None, refl, ap, ◌∙◌}
use Rattle.run_theory.specs.declared.place.Pos.{Pos}
use Rattle.c_syntax.specs.declared.expr.Direct.TheBlock.{hidden-the_row-Suffix-0, items_hidden-the_row-Suffix-0, hidden-the_row-Expr-1, items_hidden-the_row-Expr-1, hidden-the_row-Parameter-2, items_hidden-the_row-Parameter-2, items-the_row-Expr, items-the_row-Suffix, items-the_row-Parameter}
use Rattle.c_syntax.specs.declared.declaration.Init.TheBlock.{hidden-the_row-Init-0, items_hidden-the_row-Init-0, items-the_row-Init}
use Rattle.c_syntax.specs.declared.statement.BlockItem.TheBlock.{hidden-the_row-BlockItem-0, items_hidden-the_row-BlockItem-0, hidden-the_row-SwitchItem-1, items_hidden-the_row-SwitchItem-1, items-the_row-BlockItem, items-the_row-SwitchItem}
use Rattle.c_syntax.specs.declared.expr.Expr.{Expr, Row_of-Expr, end_of-Expr, more_of-Expr}
use Rattle.c_syntax.specs.declared.expr.Expr.TheVariants as E
use Rattle.c_syntax.specs.declared.expr.Simple.{Simple}
use Rattle.c_syntax.specs.declared.expr.TypeName.{roll-TypeName}
use Rattle.c_syntax.specs.declared.expr.Declarator.{Declarator}
use Rattle.c_syntax.specs.declared.expr.Direct.{Row_of-Suffix, end_of-Suffix, more_of-Suffix}
use Rattle.c_syntax.specs.declared.expr.Direct.TheVariants as D
use Rattle.c_syntax.specs.declared.expr.Suffix.{Suffix, Row_of-Parameter, end_of-Parameter, more_of-Parameter}
use Rattle.c_syntax.specs.declared.expr.Suffix.TheVariants as S
use Rattle.c_syntax.specs.declared.expr.Parameter.{Parameter, Parameter', roll-Parameter}
use Rattle.c_syntax.specs.declared.declaration.Init.{Init, Row_of-Init, end_of-Init, more_of-Init}
use Rattle.c_syntax.specs.declared.declaration.Init.TheVariants as I
use Rattle.c_syntax.specs.declared.statement.BlockItem.TheVariants as B
use Rattle.c_syntax.specs.declared.statement.SwitchItem.{SwitchItem}
use Rattle.c_syntax.specs.declared.statement.SwitchItem.TheVariants as W
use Rattle.c_syntax.specs.declared.statement.Block.{Block}
use Rattle.c_syntax.specs.declared.statement.Stmt.{Row_of-BlockItem, end_of-BlockItem, more_of-BlockItem, Row_of-SwitchItem, end_of-SwitchItem, more_of-SwitchItem}
use Rattle.c_syntax.specs.declared.statement.Stmt.TheVariants as T
use Rattle.c_syntax.specs.Trees
use Rattle.c_syntax.specs.Views.{expr_tree, arguments_tree, arguments_of, words_tree, direct_tree, suffixes_tree, suffixes_of, declarator_tree, optional_tree, optional_of, length_tree, length_of, parameters_tree, parameters_of, type_tree, init_tree, inits_tree, inits_of, declaration_tree, stmt_tree, block_tree, block_of, switch_tree, switch_of}

-- ---- rows

pub arguments_tree-items : (shape : _) (row : Row_of-Expr shape) → arguments_tree row ≡ arguments_of (items-the_row-Expr shape row)
arguments_tree-items shape end_of-Expr = refl
arguments_tree-items shape (more_of-Expr value rest) = ap (Trees.Argument (expr_tree value)) (arguments_tree-items _ rest)

pub parameters_tree-items : (shape : _) (row : Row_of-Parameter shape) → parameters_tree row ≡ parameters_of (items-the_row-Parameter shape row)
parameters_tree-items shape end_of-Parameter = refl
parameters_tree-items shape (more_of-Parameter (Parameter' simple declarator) rest) = ap (Trees.Parameter (words_tree simple) (optional_tree declarator)) (parameters_tree-items _ rest)

pub suffixes_tree-items : (shape : _) (row : Row_of-Suffix shape) → suffixes_tree row ≡ suffixes_of (items-the_row-Suffix shape row)
suffixes_tree-items shape end_of-Suffix = refl
suffixes_tree-items shape (more_of-Suffix (S.Array' length) rest) = ap (Trees.ArraySuffix (length_tree length)) (suffixes_tree-items _ rest)
suffixes_tree-items shape (more_of-Suffix (S.Function' inner parameters) rest) = ap (Trees.FunctionSuffix (parameters_tree parameters)) (suffixes_tree-items _ rest)

pub inits_tree-items : (shape : _) (row : Row_of-Init shape) → inits_tree row ≡ inits_of (items-the_row-Init shape row)
inits_tree-items shape end_of-Init = refl
inits_tree-items shape (more_of-Init init rest) = ap (Trees.Inits (init_tree init)) (inits_tree-items _ rest)

pub block_tree-items : (shape : _) (row : Row_of-BlockItem shape) → block_tree row ≡ block_of (items-the_row-BlockItem shape row)
block_tree-items shape end_of-BlockItem = refl
block_tree-items shape (more_of-BlockItem (B.Declaration declaration) rest) = ap (Trees.Declare (declaration_tree declaration)) (block_tree-items _ rest)
block_tree-items shape (more_of-BlockItem (B.Statement stmt) rest) = ap (Trees.Perform (stmt_tree stmt)) (block_tree-items _ rest)

pub switch_tree-items : (shape : _) (row : Row_of-SwitchItem shape) → switch_tree row ≡ switch_of (items-the_row-SwitchItem shape row)
switch_tree-items shape end_of-SwitchItem = refl
switch_tree-items shape (more_of-SwitchItem (W.Case place value) rest) = ap (Trees.Case place (expr_tree value)) (switch_tree-items _ rest)
switch_tree-items shape (more_of-SwitchItem (W.Default place) rest) = ap (Trees.Default place) (switch_tree-items _ rest)
switch_tree-items shape (more_of-SwitchItem (W.Statement stmt) rest) = ap (Trees.SwitchStmt (stmt_tree stmt)) (switch_tree-items _ rest)

-- ---- what is built of a vector

pub init_tree-list : (place : Pos) (inits : Vec Init Global) → init_tree (I.List place inits) ≡ Trees.InitList place (inits_of inits.items)
init_tree-list place inits =
    ap (Trees.InitList place) (inits_tree-items _ (hidden-the_row-Init-0 inits) ∙ ap inits_of (items_hidden-the_row-Init-0 inits))

pub stmt_tree-switch : (place : Pos) (value : Expr) (items : Vec SwitchItem Global) → stmt_tree (T.Switch place value items) ≡ Trees.Switch place (expr_tree value) (switch_of items.items)
stmt_tree-switch place value items =
    ap (Trees.Switch place (expr_tree value)) (switch_tree-items _ (hidden-the_row-SwitchItem-1 items) ∙ ap switch_of (items_hidden-the_row-SwitchItem-1 items))

pub stmt_tree-block : (block : Block) → stmt_tree (T.Block block) ≡ Trees.BlockStmt block.place (block_of block.items.items)
stmt_tree-block block =
    ap (Trees.BlockStmt block.place) (block_tree-items _ (hidden-the_row-BlockItem-0 block.items) ∙ ap block_of (items_hidden-the_row-BlockItem-0 block.items))

pub expr_tree-call : (function : Box Expr Global) (open_place : Pos) (arguments : Vec Expr Global) → expr_tree (E.Call function open_place arguments) ≡ Trees.Call (expr_tree function.value) open_place (arguments_of arguments.items)
expr_tree-call function open_place arguments =
    ap (Trees.Call (expr_tree function.value) open_place) (arguments_tree-items _ (hidden-the_row-Expr-1 arguments) ∙ ap arguments_of (items_hidden-the_row-Expr-1 arguments))

-- ---- declarators, and what is built of them

suffixes_tree-vec : (suffixes : Vec Suffix Global) → suffixes_tree (hidden-the_row-Suffix-0 suffixes) ≡ suffixes_of suffixes.items
suffixes_tree-vec suffixes = suffixes_tree-items _ (hidden-the_row-Suffix-0 suffixes) ∙ ap suffixes_of (items_hidden-the_row-Suffix-0 suffixes)

parameters_tree-vec : (parameters : Vec Parameter Global) → parameters_tree (hidden-the_row-Parameter-2 parameters) ≡ parameters_of parameters.items
parameters_tree-vec parameters = parameters_tree-items _ (hidden-the_row-Parameter-2 parameters) ∙ ap parameters_of (items_hidden-the_row-Parameter-2 parameters)

pub direct_tree-nested : (inner : Box Declarator Global) → direct_tree (D.Nested inner) ≡ Trees.Nested (declarator_tree inner.value)
direct_tree-nested inner =
    ap (λ suffixes. Trees.Nested (Trees.Declarator inner.value.stars (direct_tree inner.value.direct) suffixes)) (suffixes_tree-vec inner.value.suffixes)

pub suffixes_of-array : (length : Option Expr) (rest : List Suffix) → suffixes_of (S.Array length ∷ rest) ≡ Trees.ArraySuffix (length_of length) (suffixes_of rest)
suffixes_of-array None rest = refl
suffixes_of-array (Some length) rest = refl

pub suffixes_of-function : (parameters : Vec Parameter Global) (rest : List Suffix) → suffixes_of (S.Function parameters ∷ rest) ≡ Trees.FunctionSuffix (parameters_of parameters.items) (suffixes_of rest)
suffixes_of-function parameters rest = ap (λ tree. Trees.FunctionSuffix tree (suffixes_of rest)) (parameters_tree-vec parameters)

pub type_tree-name : (simple : Simple) (declarator : Option Declarator) → type_tree (roll-TypeName (record { simple = simple; declarator = declarator })) ≡ Trees.TypeName (words_tree simple) (optional_of declarator)
unfolding roll-TypeName denote.Hole.Carrier.roll
type_tree-name simple None = refl
type_tree-name simple (Some declarator) =
    ap (λ suffixes. Trees.TypeName (words_tree simple) (Trees.Declared (Trees.Declarator declarator.stars (direct_tree declarator.direct) suffixes))) (suffixes_tree-vec declarator.suffixes)

pub parameters_of-parameter : (simple : Simple) (declarator : Option Declarator) (rest : List Parameter) → parameters_of (roll-Parameter (record { simple = simple; declarator = declarator }) ∷ rest) ≡ Trees.Parameter (words_tree simple) (optional_of declarator) (parameters_of rest)
unfolding roll-Parameter denote.Hole.Carrier.roll
parameters_of-parameter simple None rest = refl
parameters_of-parameter simple (Some declarator) rest =
    ap (λ suffixes. Trees.Parameter (words_tree simple) (Trees.Declared (Trees.Declarator declarator.stars (direct_tree declarator.direct) suffixes)) (parameters_of rest)) (suffixes_tree-vec declarator.suffixes)
