-- The expressions of a typed tree nest at most three nodes deep for each one of its syntax tree, whether the program
-- violates rules or not.
use Rattle.std.proofs.Common.{max, ◌*◌, ◌≤◌, true, false, List, [], ◌∷◌, ◌++◌, Option, Some, None, arith}
use Rattle.c_syntax.specs.Trees
use Rattle.c_syntax.specs.Trees.{NameTree, DeclaratorTree, BlockTree, ItemTree, ProgramTree}
use Rattle.c_typed.specs.Types.{CType}
use Rattle.c_typed.specs.Typed.{FunctionDef}
use Rattle.c_syntax.specs.SyntaxDepths as S
use Rattle.c_typed.specs.TypedDepths as T
use Rattle.c_rules.specs.Names.{Scope}
use Rattle.c_rules.specs.Expressions.{declared_type, declared_name, Required}
use Rattle.c_rules.specs.Programs.{base_type, body_type, declare_outside, entered_function, own_parameters, result_of, outermost, item}
use Rattle.c_rules.specs.Elaborated.{defined_function, in_items, typed_of}
use Rattle.c_rules.proofs.Depths.Statements.{block_of_depth}

-- a function that is defined, before others
function_depth : (scope : Scope) (base : Option CType) (declarator : DeclaratorTree) (body : BlockTree) (name : Option NameTree) (rest : List FunctionDef)
    → T.functions_depth (defined_function scope base declarator body name ++ rest) ≤ max (3 * S.block_depth body) (T.functions_depth rest)
function_depth scope base declarator body None rest = omega arith
function_depth scope base declarator body (Some name) rest =
    let own = body_type name.place (declared_type scope name.place Required base declarator) in
    let inside = (entered_function (declare_outside name own.known false true scope).scope (own_parameters declarator)).scope in
    let a = block_of_depth inside (result_of own.known) body in
    omega arith

items_depth : (scope : Scope) (items : List ItemTree) → T.functions_depth (in_items scope items).functions ≤ 3 * S.items_depth items
items_depth scope [] = omega arith
items_depth scope (Trees.Declaration base declarators ∷ others) = items_depth (item scope (Trees.Declaration base declarators)).scope others
items_depth scope (Trees.Function base declarator place body ∷ others) =
    let behind = (item scope (Trees.Function base declarator place body)).scope in
    let based = base_type scope base in
    let a = function_depth based.scope based.type_of.known declarator body (declared_name declarator) (in_items behind others).functions in
    let b = items_depth behind others in
    omega arith

-- The expressions of a typed tree nest at most three times as deep as those of its syntax tree.
pub typed_depth : (program : ProgramTree) → T.program_depth (typed_of program) ≤ 3 * S.program_depth program
typed_depth program = items_depth (outermost program) program.items
