-- The types that declarations, statements and programs name.
use Rattle.std.specs.Prelude.{true, false, List, [], ◌∷◌, ◌++◌, Option, Some, None}
use Rattle.run_theory.specs.declared.place.Pos.{Pos}
use Rattle.c_syntax.specs.Trees
use Rattle.c_syntax.specs.Trees.{NameTree, ExprTree, DeclaratorTree, InitTree, InitsTree, InitDeclaratorTree, DeclarationTree, ForTree, StmtTree, BlockTree, SwitchTree, MemberTree, BaseTree, ItemTree, ProgramTree}
use Rattle.c_typed.specs.Types.{CType, Struct}
use Rattle.c_rules.specs.Names.{Scope, entered}
use Rattle.c_rules.specs.Expressions.{Required, declared_type, declared_name, name_place, words_type}
use Rattle.c_rules.specs.Statements.{object_type, with_declared, declare_local, declaration, for_start}
use Rattle.c_rules.specs.Programs.{outside_type, body_type, role_of, declare_outside, has_first, base_type, base_place, file_declarator, entered_function, own_parameters, outermost, item}
use Rattle.c_rules.specs.Named.{NamedType, named_at, named_in, named_in_declarator}

abbrev mutual
  pub named_in_init : Scope → InitTree → List NamedType
  named_in_init scope (Trees.InitValue value) = named_in scope value
  named_in_init scope (Trees.InitList place inits) = named_in_inits scope inits

  pub named_in_inits : Scope → InitsTree → List NamedType
  named_in_inits scope Trees.NoInits = []
  named_in_inits scope (Trees.Inits init others) = named_in_init scope init ++ named_in_inits scope others

abbrev pub named_in_first : Scope → Option InitTree → List NamedType
named_in_first scope None = []
named_in_first scope (Some init) = named_in_init scope init

abbrev pub named_in_value : Scope → Option ExprTree → List NamedType
named_in_value scope None = []
named_in_value scope (Some value) = named_in scope value

-- ---- declarations in blocks

abbrev pub named_in_local : Pos → Option CType → InitDeclaratorTree → Scope → List NamedType
named_in_local place base tree scope =
    let name = declared_name tree.declarator in
    let here = name_place name place in
    let own = object_type scope here (declared_type scope here Required base tree.declarator) in
    (named_in_declarator scope tree.declarator ++ named_at here own.known) ++ named_in_first (with_declared name own.known scope) tree.init

abbrev pub named_in_locals : Pos → Option CType → List InitDeclaratorTree → Scope → List NamedType
named_in_locals place base [] scope = []
named_in_locals place base (first ∷ others) scope = named_in_local place base first scope ++ named_in_locals place base others (declare_local place base first scope).scope

abbrev pub named_in_declaration : Scope → DeclarationTree → List NamedType
named_in_declaration scope tree = named_in_locals tree.words.place (words_type scope tree.words).known tree.declarators scope

abbrev pub named_in_start : Scope → ForTree → List NamedType
named_in_start scope Trees.ForNothing = []
named_in_start scope (Trees.ForExpression value) = named_in scope value
named_in_start scope (Trees.ForDeclaration tree) = named_in_declaration scope tree

-- ---- statements

abbrev mutual
  pub named_in_stmt : Scope → StmtTree → List NamedType
  named_in_stmt scope (Trees.BlockStmt place items) = named_in_block (entered scope) items
  named_in_stmt scope (Trees.Empty place) = []
  named_in_stmt scope (Trees.Expression value) = named_in scope value
  named_in_stmt scope (Trees.If place condition taken) = named_in scope condition ++ named_in_stmt scope taken
  named_in_stmt scope (Trees.IfElse place condition taken otherwise) = (named_in scope condition ++ named_in_stmt scope taken) ++ named_in_stmt scope otherwise
  named_in_stmt scope (Trees.While place condition body) = named_in scope condition ++ named_in_stmt scope body
  named_in_stmt scope (Trees.Do place body condition) = named_in_stmt scope body ++ named_in scope condition
  named_in_stmt scope (Trees.For place start condition step body) =
      let inside = (for_start (entered scope) start).scope in
      ((named_in_start (entered scope) start ++ named_in_value inside condition) ++ named_in_value inside step) ++ named_in_stmt inside body
  named_in_stmt scope (Trees.Switch place value items) = named_in scope value ++ named_in_switch scope items
  named_in_stmt scope (Trees.Break place) = []
  named_in_stmt scope (Trees.Continue place) = []
  named_in_stmt scope (Trees.Return place value) = named_in_value scope value

  pub named_in_block : Scope → BlockTree → List NamedType
  named_in_block scope Trees.Close = []
  named_in_block scope (Trees.Declare tree others) = named_in_declaration scope tree ++ named_in_block (declaration scope tree).scope others
  named_in_block scope (Trees.Perform one others) = named_in_stmt scope one ++ named_in_block scope others

  pub named_in_switch : Scope → SwitchTree → List NamedType
  named_in_switch scope Trees.SwitchEnd = []
  named_in_switch scope (Trees.Case place value others) = named_in scope value ++ named_in_switch scope others
  named_in_switch scope (Trees.Default place others) = named_in_switch scope others
  named_in_switch scope (Trees.SwitchStmt one others) = named_in_stmt scope one ++ named_in_switch scope others

-- ---- outside functions

abbrev pub named_in_members : Scope → Pos → Option CType → List DeclaratorTree → List NamedType
named_in_members scope place base [] = []
named_in_members scope place base (declarator ∷ others) =
    let here = name_place (declared_name declarator) place in
    (named_in_declarator scope declarator ++ named_at here (object_type scope here (declared_type scope here Required base declarator)).known) ++ named_in_members scope place base others

abbrev pub named_in_all_members : Scope → List MemberTree → List NamedType
named_in_all_members scope [] = []
named_in_all_members scope (first ∷ others) = named_in_members scope first.words.place (words_type scope first.words).known first.declarators ++ named_in_all_members scope others

abbrev pub named_in_base : Scope → BaseTree → List NamedType
named_in_base scope (Trees.Plain words) = []
named_in_base scope (Trees.StructBody place name members) = named_in_all_members scope members ++ named_at name.place (Some (Struct name.bytes))

abbrev pub named_in_file_declarator : Scope → Option CType → InitDeclaratorTree → Option NameTree → List NamedType
named_in_file_declarator scope base tree None = []
named_in_file_declarator scope base tree (Some name) =
    let own = outside_type scope name.place (declared_type scope name.place (role_of tree.init) base tree.declarator) in
    (named_in_declarator scope tree.declarator ++ named_at name.place own.known) ++ named_in_first (declare_outside name own.known (has_first tree.init) false scope).scope tree.init

abbrev pub named_in_file_declarators : Scope → Pos → Option CType → List InitDeclaratorTree → List NamedType
named_in_file_declarators scope place base [] = []
named_in_file_declarators scope place base (first ∷ others) =
    named_in_file_declarator scope base first (declared_name first.declarator) ++ named_in_file_declarators (file_declarator scope place base first (declared_name first.declarator)).scope place base others

abbrev pub named_in_function : Scope → Option CType → DeclaratorTree → BlockTree → Option NameTree → List NamedType
named_in_function scope base declarator body None = []
named_in_function scope base declarator body (Some name) =
    let own = body_type name.place (declared_type scope name.place Required base declarator) in
    let inside = (entered_function (declare_outside name own.known false true scope).scope (own_parameters declarator)).scope in
    (named_in_declarator scope declarator ++ named_at name.place own.known) ++ named_in_block inside body

abbrev pub named_in_item : Scope → ItemTree → List NamedType
named_in_item scope (Trees.Declaration base declarators) =
    let based = base_type scope base in
    named_in_base scope base ++ named_in_file_declarators based.scope (base_place base) based.type_of.known declarators
named_in_item scope (Trees.Function base declarator place body) =
    let based = base_type scope base in
    named_in_base scope base ++ named_in_function based.scope based.type_of.known declarator body (declared_name declarator)

abbrev pub named_in_items : Scope → List ItemTree → List NamedType
named_in_items scope [] = []
named_in_items scope (first ∷ others) = named_in_item scope first ++ named_in_items (item scope first).scope others

-- all types that a program names
abbrev pub named_types : ProgramTree → List NamedType
named_types program = named_in_items (outermost program) program.items
