-- The calls of statements have few arguments where the types that they name are narrow.
use Rattle.std.proofs.Common.{List, [], ◌∷◌, ◌++◌, Option, Some, None}
use Rattle.run_theory.specs.declared.place.Pos.{Pos}
use Rattle.c_num.specs.declared.IntType.{IntType}
use Rattle.c_syntax.specs.Trees
use Rattle.c_syntax.specs.Trees.{NameTree, ExprTree, InitTree, InitDeclaratorTree, DeclarationTree, ForTree, StmtTree, BlockTree, SwitchTree}
use Rattle.c_typed.specs.Types.{CType}
use Rattle.c_typed.specs.Typed.{Value, LocalDef, Block}
use Rattle.c_typed.specs.TypedArguments.{ValueFew, OptionalFew, LocalsFew, StartFew, StmtFew, BlockFew, SwitchFew}
use Rattle.c_rules.specs.Names.{Scope, LocalName, entered, locals_in}
use Rattle.c_rules.specs.Operators.{as_integer}
use Rattle.c_rules.specs.Expressions.{expr, place_of, words_type, declared_type, declared_name, name_place, Required}
use Rattle.c_rules.specs.Statements.{object_type, with_declared, declare_local, declare_locals, declaration, for_start, label_type}
use Rattle.c_rules.specs.Elaborated.{first_local, local_of, locals_of, declared_locals, declare_each, start_of, switched, mapped, unused, test_of, value_of, value_as, stmt_of, block_of, switch_of}
use Rattle.c_rules.specs.Named.{named_at, named_in, named_in_declarator}
use Rattle.c_rules.specs.NamedItems.{named_in_first, named_in_value, named_in_local, named_in_locals, named_in_declaration, named_in_start, named_in_stmt, named_in_block, named_in_switch}
use Rattle.accepted_programs.specs.Small.{IfKnown, Every}
use Rattle.accepted_programs.specs.Narrow.{IsNarrow, LocalNarrow, NarrowNames}
use Rattle.accepted_programs.proofs.CTypesArguments.Expressions.{Named, named_left, named_right, at_narrow, value_of_narrow, unused_narrow, test_of_narrow, value_as_narrow}

-- ---- names in scope

appended_none : (names : List LocalName) → Every LocalNarrow names → Every LocalNarrow ([] ++ names)
appended_none names all = all

entered_narrow : (scope : Scope) → NarrowNames scope → NarrowNames (entered scope)
entered_narrow scope names = record { locals = appended_none (locals_in scope) names.locals; file = names.file; members = names.members }

pub declared_narrow : (scope : Scope) → NarrowNames scope → (name : Option NameTree) (known : Option CType) → IfKnown IsNarrow known → NarrowNames (with_declared name known scope)
declared_narrow scope names None known narrow = record { locals = (narrow, names.locals); file = names.file; members = names.members }
declared_narrow scope names (Some name) known narrow = record { locals = (narrow, names.locals); file = names.file; members = names.members }

-- ---- locals

first_local_narrow : (scope : Scope) → NarrowNames scope → (known : Option CType) → IfKnown IsNarrow known → (init : Option InitTree) → Named (named_in_first scope init)
    → OptionalFew (first_local scope known init)
first_local_narrow scope names known narrow None all = tt
first_local_narrow scope names known narrow (Some (Trees.InitList place inits)) all = tt
first_local_narrow scope names known narrow (Some (Trees.InitValue value)) all = value_as_narrow scope names known narrow value all

module _ (scope : Scope) (names : NarrowNames scope) (place : Pos) (base : Option CType) (tree : InitDeclaratorTree) (all : Named (named_in_local place base tree scope)) where
  abbrev here : Pos
  here = name_place (declared_name tree.declarator) place

  abbrev own : Option CType
  own = (object_type scope here (declared_type scope here Required base tree.declarator)).known

  abbrev behind : Scope
  behind = with_declared (declared_name tree.declarator) own scope

  own_narrow : IfKnown IsNarrow own
  own_narrow =
      at_narrow here own (named_right (named_in_declarator scope tree.declarator) (named_at here own)
      (named_left (named_in_declarator scope tree.declarator ++ named_at here own) (named_in_first behind tree.init) all))

  behind_narrow : NarrowNames (declare_local place base tree scope).scope
  behind_narrow = declared_narrow scope names (declared_name tree.declarator) own own_narrow

  local_narrow : OptionalFew (local_of place base tree scope).first
  local_narrow =
      first_local_narrow behind behind_narrow own own_narrow tree.init (named_right (named_in_declarator scope tree.declarator ++ named_at here own) (named_in_first behind tree.init) all)

abbrev LocalsNarrow : Scope → List LocalDef → Type 0
LocalsNarrow behind locals = LocalsFew locals × NarrowNames behind

locals_narrow : (scope : Scope) → NarrowNames scope → (place : Pos) (base : Option CType) (trees : List InitDeclaratorTree) → Named (named_in_locals place base trees scope)
    → LocalsNarrow (declare_locals place base trees scope).scope (locals_of place base trees scope)
locals_narrow scope names place base [] all = (tt, names)
locals_narrow scope names place base (first ∷ others) all =
    let one = declare_local place base first scope in
    let own_all = named_left (named_in_local place base first scope) (named_in_locals place base others one.scope) all in
    let others_all = named_right (named_in_local place base first scope) (named_in_locals place base others one.scope) all in
    let rest = locals_narrow one.scope (behind_narrow scope names place base first own_all) place base others others_all in
    ((local_narrow scope names place base first own_all, rest.0), rest.1)

declaration_narrow : (scope : Scope) → NarrowNames scope → (tree : DeclarationTree) → Named (named_in_declaration scope tree)
    → LocalsNarrow (declaration scope tree).scope (declared_locals scope tree)
declaration_narrow scope names tree all = locals_narrow scope names tree.words.place (words_type scope tree.words).known tree.declarators all

each_narrow : (locals : List LocalDef) (block : Block) → LocalsFew locals → BlockFew block → BlockFew (declare_each locals block)
each_narrow [] block narrow rest = rest
each_narrow (first ∷ others) block narrow rest =
    (narrow.0, each_narrow others block narrow.1 rest)

start_narrow : (scope : Scope) → NarrowNames scope → (tree : ForTree) → Named (named_in_start scope tree)
    → StartFew (start_of scope tree) × NarrowNames (for_start scope tree).scope
start_narrow scope names Trees.ForNothing all = (tt, names)
start_narrow scope names (Trees.ForExpression value) all = (unused_narrow scope names value all, names)
start_narrow scope names (Trees.ForDeclaration tree) all = declaration_narrow scope names tree all

-- ---- values that may be left out

mapped_narrow : (scope : Scope) (f : ExprTree → Value) → ((e : ExprTree) → Named (named_in scope e) → ValueFew (f e))
    → (value : Option ExprTree) → Named (named_in_value scope value) → OptionalFew (mapped f value)
mapped_narrow scope f narrow None all = tt
mapped_narrow scope f narrow (Some value) all = narrow value all

switched_narrow : (int_type : Option IntType) (value : Value) → ValueFew value → ValueFew (switched int_type value)
switched_narrow None value narrow = narrow
switched_narrow (Some int_type) value narrow = narrow

-- ---- statements

module _ (result : Option CType) (result_narrow : IfKnown IsNarrow result) where
  mutual
    pub stmt_narrow : (scope : Scope) → NarrowNames scope → (s : StmtTree) → Named (named_in_stmt scope s) → StmtFew (stmt_of scope result s)
    stmt_narrow scope names (Trees.BlockStmt place items) all = block_narrow (entered scope) (entered_narrow scope names) items all
    stmt_narrow scope names (Trees.Empty place) all = tt
    stmt_narrow scope names (Trees.Expression value) all = unused_narrow scope names value all
    stmt_narrow scope names (Trees.If place condition taken) all =
        (test_of_narrow scope names condition (named_left (named_in scope condition) (named_in_stmt scope taken) all), stmt_narrow scope names taken (named_right (named_in scope condition) (named_in_stmt scope taken) all))
    stmt_narrow scope names (Trees.IfElse place condition taken otherwise) all =
        let front = named_left (named_in scope condition ++ named_in_stmt scope taken) (named_in_stmt scope otherwise) all in
        ((test_of_narrow scope names condition (named_left (named_in scope condition) (named_in_stmt scope taken) front), stmt_narrow scope names taken (named_right (named_in scope condition) (named_in_stmt scope taken) front)), stmt_narrow scope names otherwise (named_right (named_in scope condition ++ named_in_stmt scope taken) (named_in_stmt scope otherwise) all))
    stmt_narrow scope names (Trees.While place condition body) all =
        (test_of_narrow scope names condition (named_left (named_in scope condition) (named_in_stmt scope body) all), stmt_narrow scope names body (named_right (named_in scope condition) (named_in_stmt scope body) all))
    stmt_narrow scope names (Trees.Do place body condition) all =
        (stmt_narrow scope names body (named_left (named_in_stmt scope body) (named_in scope condition) all), test_of_narrow scope names condition (named_right (named_in_stmt scope body) (named_in scope condition) all))
    stmt_narrow scope names (Trees.For place start condition step body) all =
        let inside = (for_start (entered scope) start).scope in
        let n_start = named_in_start (entered scope) start in
        let n_condition = named_in_value inside condition in
        let n_step = named_in_value inside step in
        let n_body = named_in_stmt inside body in
        let all_three = named_left (n_start ++ n_condition ++ n_step) n_body all in
        let all_two = named_left (n_start ++ n_condition) n_step all_three in
        let started = start_narrow (entered scope) (entered_narrow scope names) start (named_left n_start n_condition all_two) in
        (((started.0, mapped_narrow inside (test_of inside) (test_of_narrow inside started.1) condition (named_right n_start n_condition all_two)), mapped_narrow inside (unused inside) (unused_narrow inside started.1) step (named_right (n_start ++ n_condition) n_step all_three)), stmt_narrow inside started.1 body (named_right (n_start ++ n_condition ++ n_step) n_body all))
    stmt_narrow scope names (Trees.Switch place value items) all =
        let int_type = label_type (as_integer (place_of value) (expr scope value)).known in (
          switched_narrow int_type (value_of scope value)
              (value_of_narrow scope names value (named_left (named_in scope value) (named_in_switch scope items) all)),
          switch_narrow scope names int_type items (named_right (named_in scope value) (named_in_switch scope items) all),
        )
    stmt_narrow scope names (Trees.Break place) all = tt
    stmt_narrow scope names (Trees.Continue place) all = tt
    stmt_narrow scope names (Trees.Return place value) all = mapped_narrow scope (value_as scope result) (value_as_narrow scope names result result_narrow) value all

    pub block_narrow : (scope : Scope) → NarrowNames scope → (b : BlockTree) → Named (named_in_block scope b) → BlockFew (block_of scope result b)
    block_narrow scope names Trees.Close all = tt
    block_narrow scope names (Trees.Declare tree others) all =
        let behind = (declaration scope tree).scope in
        let declared = declaration_narrow scope names tree (named_left (named_in_declaration scope tree) (named_in_block behind others) all) in
        each_narrow (declared_locals scope tree) (block_of behind result others) declared.0
        (block_narrow behind declared.1 others (named_right (named_in_declaration scope tree) (named_in_block behind others) all))
    block_narrow scope names (Trees.Perform one others) all =
        (stmt_narrow scope names one (named_left (named_in_stmt scope one) (named_in_block scope others) all), block_narrow scope names others (named_right (named_in_stmt scope one) (named_in_block scope others) all))

    switch_narrow : (scope : Scope) → NarrowNames scope → (int_type : Option IntType) (items : SwitchTree) → Named (named_in_switch scope items)
        → SwitchFew (switch_of scope result int_type items)
    switch_narrow scope names int_type Trees.SwitchEnd all = tt
    switch_narrow scope names int_type (Trees.Case place value others) all =
        switch_narrow scope names int_type others (named_right (named_in scope value) (named_in_switch scope others) all)
    switch_narrow scope names int_type (Trees.Default place others) all = switch_narrow scope names int_type others all
    switch_narrow scope names int_type (Trees.SwitchStmt one others) all =
        (stmt_narrow scope names one (named_left (named_in_stmt scope one) (named_in_switch scope others) all), switch_narrow scope names int_type others (named_right (named_in_stmt scope one) (named_in_switch scope others) all))
