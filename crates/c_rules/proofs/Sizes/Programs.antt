-- The typed tree of a program has at most three nodes for each of its syntax tree, whether the program
-- violates rules or not.
use Rattle.std.proofs.Common.{◌+◌, ◌*◌, ◌≤◌, true, false, List, [], ◌∷◌, ◌++◌, Option, Some, None, arith}
use Rattle.c_syntax.specs.Trees
use Rattle.c_syntax.specs.Trees.{NameTree, DeclaratorTree, BlockTree, ItemTree, ProgramTree}
use Rattle.c_typed.specs.Types.{CType}
use Rattle.c_typed.specs.Typed.{FunctionDef}
use Rattle.c_syntax.specs.SyntaxNodes as S
use Rattle.c_typed.specs.TypedNodes as T
use Rattle.c_rules.specs.Names.{Scope}
use Rattle.c_rules.specs.Expressions.{declared_type, declared_name, Required}
use Rattle.c_rules.specs.Programs.{base_type, body_type, declare_outside, entered_function, own_parameters, result_of, outermost, item}
use Rattle.c_rules.specs.Elaborated.{defined_function, in_items, typed_of}
use Rattle.c_rules.proofs.Sizes.Statements.{block_of_nodes}

function_nodes : (scope : Scope) (base : Option CType) (declarator : DeclaratorTree) (body : BlockTree) (name : Option NameTree) (rest : List FunctionDef)
    → T.functions_nodes (defined_function scope base declarator body name ++ rest) ≤ 3 * S.block_nodes body + T.functions_nodes rest
function_nodes scope base declarator body None rest = omega arith
function_nodes scope base declarator body (Some name) rest =
    let own = body_type name.place (declared_type scope name.place Required base declarator) in
    let inside = (entered_function (declare_outside name own.known false true scope).scope (own_parameters declarator)).scope in
    let a = block_of_nodes inside (result_of own.known) body in
    omega arith

items_nodes : (scope : Scope) (items : List ItemTree) → T.functions_nodes (in_items scope items).functions ≤ 3 * S.items_nodes items
items_nodes scope [] = omega arith
items_nodes scope (Trees.Declaration base declarators ∷ others) = items_nodes (item scope (Trees.Declaration base declarators)).scope others
items_nodes scope (Trees.Function base declarator place body ∷ others) =
    let behind = (item scope (Trees.Function base declarator place body)).scope in
    let based = base_type scope base in
    let a = function_nodes based.scope based.type_of.known declarator body (declared_name declarator) (in_items behind others).functions in
    let b = items_nodes behind others in
    omega arith

pub typed_nodes : (program : ProgramTree) → T.program_nodes (typed_of program) ≤ 3 * S.program_nodes program
typed_nodes program = items_nodes (outermost program) program.items
