-- The typed tree of a statement has at most three nodes for each of the statement's.
use Rattle.std.proofs.Common.{◌≡◌, suc, ◌+◌, ◌*◌, ◌≤◌, List, [], ◌∷◌, Option, Some, None, arith}
use Rattle.run_theory.specs.declared.place.Pos.{Pos}
use Rattle.c_num.specs.declared.IntType.{IntType}
use Rattle.c_syntax.specs.Trees
use Rattle.c_syntax.specs.Trees.{ExprTree, InitTree, InitDeclaratorTree, DeclarationTree, ForTree, StmtTree, BlockTree, SwitchTree}
use Rattle.c_typed.specs.Types.{CType}
use Rattle.c_typed.specs.Typed.{Value, Block, LocalDef}
use Rattle.c_syntax.specs.SyntaxNodes as S
use Rattle.c_syntax.specs.SyntaxNodes.{expr_nodes, first_nodes, declarators_nodes}
use Rattle.c_typed.specs.TypedNodes.{value_nodes, optional_nodes, local_nodes, locals_nodes, start_nodes, stmt_nodes, block_nodes, switch_nodes}
use Rattle.c_rules.specs.Names.{Scope, entered}
use Rattle.c_rules.specs.Operators.{as_integer}
use Rattle.c_rules.specs.Expressions.{expr, place_of, words_type, declared_name, declared_type, name_place, Required}
use Rattle.c_rules.specs.Statements.{object_type, with_declared, declare_local, declaration, for_start, label_type}
use Rattle.c_rules.specs.Elaborated.{value_of, unused, test_of, mapped, value_as, first_local, local_of, locals_of, declared_locals, declare_each, start_of, switched, stmt_of, block_of, switch_of}
use Rattle.c_rules.proofs.Sizes.Expressions.{value_of_nodes, unused_nodes, test_nodes, value_as_nodes}

mapped_nodes : (f : ExprTree → Value) → ((e : ExprTree) → value_nodes (f e) ≤ 3 * expr_nodes e) → (value : Option ExprTree) → optional_nodes (mapped f value) ≤ 3 * S.optional_nodes value
mapped_nodes f each None = omega arith
mapped_nodes f each (Some e) = each e

-- ---- locals

first_local_nodes : (scope : Scope) (t : Option CType) (init : Option InitTree) → optional_nodes (first_local scope t init) ≤ 3 * first_nodes init
first_local_nodes scope t None = omega arith
first_local_nodes scope t (Some (Trees.InitValue value)) = value_as_nodes scope t value
first_local_nodes scope t (Some (Trees.InitList place inits)) = omega arith

local_of_nodes : (place : Pos) (base : Option CType) (tree : InitDeclaratorTree) (scope : Scope) → local_nodes (local_of place base tree scope) ≤ 3 * suc (first_nodes tree.init)
local_of_nodes place base tree scope =
    let name = declared_name tree.declarator in
    let here = name_place name place in
    let own = object_type scope here (declared_type scope here Required base tree.declarator) in
    let a = first_local_nodes (with_declared name own.known scope) own.known tree.init in
    omega arith

locals_of_nodes : (place : Pos) (base : Option CType) (trees : List InitDeclaratorTree) (scope : Scope) → locals_nodes (locals_of place base trees scope) ≤ 3 * declarators_nodes trees
locals_of_nodes place base [] scope = omega arith
locals_of_nodes place base (first ∷ others) scope =
    let a = local_of_nodes place base first scope in
    let b = locals_of_nodes place base others (declare_local place base first scope).scope in
    omega arith

declared_locals_nodes : (scope : Scope) (tree : DeclarationTree) → locals_nodes (declared_locals scope tree) ≤ 3 * declarators_nodes tree.declarators
declared_locals_nodes scope tree = locals_of_nodes tree.words.place (words_type scope tree.words).known tree.declarators scope

declare_each_nodes : (locals : List LocalDef) (block : Block) → block_nodes (declare_each locals block) ≡ locals_nodes locals + block_nodes block
declare_each_nodes [] block = omega arith
declare_each_nodes (first ∷ others) block = let a = declare_each_nodes others block in omega arith

-- ---- statements

start_of_nodes : (scope : Scope) (start : ForTree) → start_nodes (start_of scope start) ≤ 3 * S.start_nodes start
start_of_nodes scope Trees.ForNothing = omega arith
start_of_nodes scope (Trees.ForExpression value) = unused_nodes scope value
start_of_nodes scope (Trees.ForDeclaration tree) = declared_locals_nodes scope tree

switched_nodes : (n : Option IntType) (value : Value) → value_nodes (switched n value) ≤ suc (value_nodes value)
switched_nodes None value = omega arith
switched_nodes (Some n) value = omega arith

mutual
  stmt_of_nodes : (scope : Scope) (result : Option CType) (stmt : StmtTree) → stmt_nodes (stmt_of scope result stmt) ≤ 3 * S.stmt_nodes stmt
  stmt_of_nodes scope result (Trees.BlockStmt place items) = let a = block_of_nodes (entered scope) result items in omega arith
  stmt_of_nodes scope result (Trees.Empty place) = omega arith
  stmt_of_nodes scope result (Trees.Expression value) = let a = unused_nodes scope value in omega arith
  stmt_of_nodes scope result (Trees.If place condition taken) =
      let a = test_nodes scope condition in
      let b = stmt_of_nodes scope result taken in
      omega arith
  stmt_of_nodes scope result (Trees.IfElse place condition taken otherwise) =
      let a = test_nodes scope condition in
      let b = stmt_of_nodes scope result taken in
      let c = stmt_of_nodes scope result otherwise in
      omega arith
  stmt_of_nodes scope result (Trees.While place condition body) =
      let a = test_nodes scope condition in
      let b = stmt_of_nodes scope result body in
      omega arith
  stmt_of_nodes scope result (Trees.Do place body condition) =
      let a = stmt_of_nodes scope result body in
      let b = test_nodes scope condition in
      omega arith
  stmt_of_nodes scope result (Trees.For place start condition step body) =
      let inside = (for_start (entered scope) start).scope in
      let a = start_of_nodes (entered scope) start in
      let b = mapped_nodes (test_of inside) (test_nodes inside) condition in
      let c = mapped_nodes (unused inside) (unused_nodes inside) step in
      let d = stmt_of_nodes inside result body in
      omega arith
  stmt_of_nodes scope result (Trees.Switch place value items) =
      let n = label_type (as_integer (place_of value) (expr scope value)).known in
      let a = switched_nodes n (value_of scope value) in
      let b = value_of_nodes scope value in
      let c = switch_of_nodes scope result n items in
      omega arith
  stmt_of_nodes scope result (Trees.Break place) = omega arith
  stmt_of_nodes scope result (Trees.Continue place) = omega arith
  stmt_of_nodes scope result (Trees.Return place value) = let a = mapped_nodes (value_as scope result) (value_as_nodes scope result) value in omega arith

  pub block_of_nodes : (scope : Scope) (result : Option CType) (block : BlockTree) → block_nodes (block_of scope result block) ≤ 3 * S.block_nodes block
  block_of_nodes scope result Trees.Close = omega arith
  block_of_nodes scope result (Trees.Declare tree others) =
      let rest = block_of (declaration scope tree).scope result others in
      let a = declared_locals_nodes scope tree in
      let b = block_of_nodes (declaration scope tree).scope result others in
      let c = declare_each_nodes (declared_locals scope tree) rest in
      omega arith
  block_of_nodes scope result (Trees.Perform one others) =
      let a = stmt_of_nodes scope result one in
      let b = block_of_nodes scope result others in
      omega arith

  switch_of_nodes : (scope : Scope) (result : Option CType) (n : Option IntType) (items : SwitchTree) → switch_nodes (switch_of scope result n items) ≤ 3 * S.switch_nodes items
  switch_of_nodes scope result n Trees.SwitchEnd = omega arith
  switch_of_nodes scope result n (Trees.Case place value others) = let a = switch_of_nodes scope result n others in omega arith
  switch_of_nodes scope result n (Trees.Default place others) = let a = switch_of_nodes scope result n others in omega arith
  switch_of_nodes scope result n (Trees.SwitchStmt one others) =
      let a = stmt_of_nodes scope result one in
      let b = switch_of_nodes scope result n others in
      omega arith
