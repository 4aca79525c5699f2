-- The expressions of a typed statement nest at most three nodes deep for each one of the statement's.
use Rattle.std.proofs.Common.{◌≡◌, suc, max, ◌*◌, ◌≤◌, List, [], ◌∷◌, Option, Some, None, arith}
use Rattle.run_theory.specs.declared.place.Pos.{Pos}
use Rattle.c_num.specs.declared.IntType.{IntType}
use Rattle.c_syntax.specs.Trees
use Rattle.c_syntax.specs.Trees.{ExprTree, InitTree, InitDeclaratorTree, DeclarationTree, ForTree, StmtTree, BlockTree, SwitchTree}
use Rattle.c_typed.specs.Types.{CType}
use Rattle.c_typed.specs.Typed.{Value, Block, LocalDef}
use Rattle.c_syntax.specs.SyntaxDepths as S
use Rattle.c_syntax.specs.SyntaxDepths.{expr_depth, first_depth, declarators_depth}
use Rattle.c_typed.specs.TypedDepths.{value_depth, optional_depth, local_depth, locals_depth, start_depth, stmt_depth, block_depth, switch_depth}
use Rattle.c_rules.specs.Names.{Scope, entered}
use Rattle.c_rules.specs.Operators.{as_integer}
use Rattle.c_rules.specs.Expressions.{expr, place_of, words_type, declared_name, declared_type, name_place, Required}
use Rattle.c_rules.specs.Statements.{object_type, with_declared, declare_local, declaration, for_start, label_type}
use Rattle.c_rules.specs.Elaborated.{value_of, unused, test_of, mapped, value_as, first_local, local_of, locals_of, declared_locals, declare_each, start_of, switched, stmt_of, block_of, switch_of}
use Rattle.c_rules.proofs.Depths.Expressions.{value_of_depth, unused_depth, test_depth, value_as_depth}

-- where a value may be left out
mapped_depth : (f : ExprTree → Value) → ((e : ExprTree) → value_depth (f e) ≤ 3 * expr_depth e) → (value : Option ExprTree) → optional_depth (mapped f value) ≤ 3 * S.optional_depth value
mapped_depth f each None = omega arith
mapped_depth f each (Some e) = each e

-- ---- locals

first_local_depth : (scope : Scope) (t : Option CType) (init : Option InitTree) → optional_depth (first_local scope t init) ≤ 3 * first_depth init
first_local_depth scope t None = omega arith
first_local_depth scope t (Some (Trees.InitValue value)) = value_as_depth scope t value
first_local_depth scope t (Some (Trees.InitList place inits)) = omega arith

local_of_depth : (place : Pos) (base : Option CType) (tree : InitDeclaratorTree) (scope : Scope) → local_depth (local_of place base tree scope) ≤ 3 * first_depth tree.init
local_of_depth place base tree scope =
    let name = declared_name tree.declarator in
    let here = name_place name place in
    let own = object_type scope here (declared_type scope here Required base tree.declarator) in
    let a = first_local_depth (with_declared name own.known scope) own.known tree.init in
    omega arith

locals_of_depth : (place : Pos) (base : Option CType) (trees : List InitDeclaratorTree) (scope : Scope) → locals_depth (locals_of place base trees scope) ≤ 3 * declarators_depth trees
locals_of_depth place base [] scope = omega arith
locals_of_depth place base (first ∷ others) scope =
    let a = local_of_depth place base first scope in
    let b = locals_of_depth place base others (declare_local place base first scope).scope in
    omega arith

declared_locals_depth : (scope : Scope) (tree : DeclarationTree) → locals_depth (declared_locals scope tree) ≤ 3 * declarators_depth tree.declarators
declared_locals_depth scope tree = locals_of_depth tree.words.place (words_type scope tree.words).known tree.declarators scope

-- Locals before a block nest beside it.
declare_each_depth : (locals : List LocalDef) (block : Block) → block_depth (declare_each locals block) ≡ max (locals_depth locals) (block_depth block)
declare_each_depth [] block = omega arith
declare_each_depth (first ∷ others) block = let a = declare_each_depth others block in omega arith

-- ---- statements

start_of_depth : (scope : Scope) (start : ForTree) → start_depth (start_of scope start) ≤ 3 * S.start_depth start
start_of_depth scope Trees.ForNothing = omega arith
start_of_depth scope (Trees.ForExpression value) = unused_depth scope value
start_of_depth scope (Trees.ForDeclaration tree) = declared_locals_depth scope tree

switched_depth : (n : Option IntType) (value : Value) → value_depth (switched n value) ≤ suc (value_depth value)
switched_depth None value = omega arith
switched_depth (Some n) value = omega arith

-- at most three typed nodes for each expression on a path
mutual
  stmt_of_depth : (scope : Scope) (result : Option CType) (stmt : StmtTree) → stmt_depth (stmt_of scope result stmt) ≤ 3 * S.stmt_depth stmt
  stmt_of_depth scope result (Trees.BlockStmt place items) = let a = block_of_depth (entered scope) result items in omega arith
  stmt_of_depth scope result (Trees.Empty place) = omega arith
  stmt_of_depth scope result (Trees.Expression value) = let a = unused_depth scope value in omega arith
  stmt_of_depth scope result (Trees.If place condition taken) =
      let a = test_depth scope condition in
      let b = stmt_of_depth scope result taken in
      omega arith
  stmt_of_depth scope result (Trees.IfElse place condition taken otherwise) =
      let a = test_depth scope condition in
      let b = stmt_of_depth scope result taken in
      let c = stmt_of_depth scope result otherwise in
      omega arith
  stmt_of_depth scope result (Trees.While place condition body) =
      let a = test_depth scope condition in
      let b = stmt_of_depth scope result body in
      omega arith
  stmt_of_depth scope result (Trees.Do place body condition) =
      let a = stmt_of_depth scope result body in
      let b = test_depth scope condition in
      omega arith
  stmt_of_depth scope result (Trees.For place start condition step body) =
      let inside = (for_start (entered scope) start).scope in
      let a = start_of_depth (entered scope) start in
      let b = mapped_depth (test_of inside) (test_depth inside) condition in
      let c = mapped_depth (unused inside) (unused_depth inside) step in
      let d = stmt_of_depth inside result body in
      omega arith
  stmt_of_depth scope result (Trees.Switch place value items) =
      let n = label_type (as_integer (place_of value) (expr scope value)).known in
      let a = switched_depth n (value_of scope value) in
      let b = value_of_depth scope value in
      let c = switch_of_depth scope result n items in
      omega arith
  stmt_of_depth scope result (Trees.Break place) = omega arith
  stmt_of_depth scope result (Trees.Continue place) = omega arith
  stmt_of_depth scope result (Trees.Return place value) = let a = mapped_depth (value_as scope result) (value_as_depth scope result) value in omega arith

  pub block_of_depth : (scope : Scope) (result : Option CType) (block : BlockTree) → block_depth (block_of scope result block) ≤ 3 * S.block_depth block
  block_of_depth scope result Trees.Close = omega arith
  block_of_depth scope result (Trees.Declare tree others) =
      let rest = block_of (declaration scope tree).scope result others in
      let a = declared_locals_depth scope tree in
      let b = block_of_depth (declaration scope tree).scope result others in
      let c = declare_each_depth (declared_locals scope tree) rest in
      omega arith
  block_of_depth scope result (Trees.Perform one others) =
      let a = stmt_of_depth scope result one in
      let b = block_of_depth scope result others in
      omega arith

  switch_of_depth : (scope : Scope) (result : Option CType) (n : Option IntType) (items : SwitchTree) → switch_depth (switch_of scope result n items) ≤ 3 * S.switch_depth items
  switch_of_depth scope result n Trees.SwitchEnd = omega arith
  switch_of_depth scope result n (Trees.Case place value others) = let a = switch_of_depth scope result n others in omega arith
  switch_of_depth scope result n (Trees.Default place others) = let a = switch_of_depth scope result n others in omega arith
  switch_of_depth scope result n (Trees.SwitchStmt one others) =
      let a = stmt_of_depth scope result one in
      let b = switch_of_depth scope result n others in
      omega arith
