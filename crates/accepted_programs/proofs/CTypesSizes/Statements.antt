-- Statements have small types where those are that they name.
use Rattle.std.proofs.Common.{◌≡◌, true, ◌&&◌, List, [], ◌∷◌, ◌++◌, Option, Some, None, refl}
use Rattle.std.proofs.lemmas.Bool.{and_parts, and_from}
use Rattle.run_theory.specs.declared.place.Pos.{Pos}
use Rattle.c_num.specs.declared.IntType.{IntType}
use Rattle.c_syntax.specs.Trees
use Rattle.c_syntax.specs.Trees.{NameTree, ExprTree, InitTree, InitDeclaratorTree, DeclarationTree, ForTree, StmtTree, BlockTree, SwitchTree}
use Rattle.c_typed.specs.Types.{CType}
use Rattle.c_typed.specs.Layouts.{StructDef}
use Rattle.c_typed.specs.Typed.{Value, LocalDef, Block}
use Rattle.c_typed.specs.Sizes.{is_small, makes, any_makes, local_makes, locals_make, start_makes, stmt_makes, block_makes, items_make}
use Rattle.c_rules.specs.Names.{Scope, LocalName, entered, locals_in}
use Rattle.c_rules.specs.Operators.{as_integer}
use Rattle.c_rules.specs.Expressions.{expr, place_of, words_type, declared_type, declared_name, name_place, Required}
use Rattle.c_rules.specs.Statements.{object_type, with_declared, declare_local, declare_locals, declaration, for_start, label_type}
use Rattle.c_rules.specs.Elaborated.{literals_in, literals_in_declarator, literals_in_first, literals_in_value, literals_in_declarators, literals_in_start, literals_in_stmt, literals_in_block, literals_in_switch, first_local, type_or_void, local_of, locals_of, declared_locals, declare_each, start_of, switched, mapped, unused, test_of, value_of, value_as, stmt_of, block_of, switch_of}
use Rattle.c_rules.specs.Named.{named_at, named_in, named_in_declarator}
use Rattle.c_rules.specs.NamedItems.{named_in_first, named_in_value, named_in_local, named_in_locals, named_in_declaration, named_in_start, named_in_stmt, named_in_block, named_in_switch}
use Rattle.accepted_programs.specs.Small.{IfKnown, Every, IsSmall, LocalSmall, SmallNames}
use Rattle.accepted_programs.proofs.CTypesSizes.Types.{small_itself}
use Rattle.accepted_programs.proofs.CTypesSizes.Expressions.{Named, Listed, named_left, named_right, listed_left, listed_right, at_small, value_of_small, unused_small, test_of_small, value_as_small}

module _ (structs : List StructDef) where
  -- ---- names in scope

  appended_none : (names : List LocalName) → Every (LocalSmall structs) names → Every (LocalSmall structs) ([] ++ names)
  appended_none names all = all

  entered_small : (scope : Scope) → SmallNames structs scope → SmallNames structs (entered scope)
  entered_small scope names = record { locals = appended_none (locals_in scope) names.locals; file = names.file; members = names.members }

  pub declared_small : (scope : Scope) → SmallNames structs scope → (name : Option NameTree) (known : Option CType) → IfKnown (IsSmall structs) known → SmallNames structs (with_declared name known scope)
  declared_small scope names None known small = record { locals = (small, names.locals); file = names.file; members = names.members }
  declared_small scope names (Some name) known small = record { locals = (small, names.locals); file = names.file; members = names.members }

  void_or_small : (known : Option CType) → IfKnown (IsSmall structs) known → is_small structs (type_or_void known) ≡ true
  void_or_small None small = refl
  void_or_small (Some t) small = small_itself structs t small

  -- ---- locals

  first_local_small : (scope : Scope) → SmallNames structs scope → (known : Option CType) → IfKnown (IsSmall structs) known → (init : Option InitTree) → Named structs (named_in_first scope init) → Listed structs (literals_in_first init)
      → any_makes (is_small structs) (first_local scope known init) ≡ true
  first_local_small scope names known small None all listed = refl
  first_local_small scope names known small (Some (Trees.InitList place inits)) all listed = refl
  first_local_small scope names known small (Some (Trees.InitValue value)) all listed = value_as_small structs scope names known small value all listed

  module _ (scope : Scope) (names : SmallNames structs scope) (place : Pos) (base : Option CType) (tree : InitDeclaratorTree) (all : Named structs (named_in_local place base tree scope)) where
    abbrev here : Pos
    here = name_place (declared_name tree.declarator) place

    abbrev own : Option CType
    own = (object_type scope here (declared_type scope here Required base tree.declarator)).known

    abbrev behind : Scope
    behind = with_declared (declared_name tree.declarator) own scope

    own_small : IfKnown (IsSmall structs) own
    own_small =
        at_small structs here own (named_right structs (named_in_declarator scope tree.declarator) (named_at here own)
        (named_left structs (named_in_declarator scope tree.declarator ++ named_at here own) (named_in_first behind tree.init) all))

    behind_small : SmallNames structs (declare_local place base tree scope).scope
    behind_small = declared_small scope names (declared_name tree.declarator) own own_small

    local_small : Listed structs (literals_in_first tree.init) → local_makes (is_small structs) (local_of place base tree scope) ≡ true
    local_small listed =
        and_from (is_small structs (type_or_void own)) (any_makes (is_small structs) (first_local behind own tree.init)) (void_or_small own own_small)
        (first_local_small behind behind_small own own_small tree.init (named_right structs (named_in_declarator scope tree.declarator ++ named_at here own) (named_in_first behind tree.init) all) listed)

  abbrev LocalsSmall : Scope → List LocalDef → Type 0
  LocalsSmall behind locals = (locals_make (is_small structs) locals ≡ true) × SmallNames structs behind

  locals_small : (scope : Scope) → SmallNames structs scope → (place : Pos) (base : Option CType) (trees : List InitDeclaratorTree) → Named structs (named_in_locals place base trees scope) → Listed structs (literals_in_declarators trees)
      → LocalsSmall (declare_locals place base trees scope).scope (locals_of place base trees scope)
  locals_small scope names place base [] all listed = (refl, names)
  locals_small scope names place base (first ∷ others) all listed =
      let one = declare_local place base first scope in
      let own_all = named_left structs (named_in_local place base first scope) (named_in_locals place base others one.scope) all in
      let others_all = named_right structs (named_in_local place base first scope) (named_in_locals place base others one.scope) all in
      let own_literals = literals_in_declarator first.declarator ++ literals_in_first first.init in
      let own_listed = listed_right structs (literals_in_declarator first.declarator) (literals_in_first first.init) (listed_left structs own_literals (literals_in_declarators others) listed) in
      let rest = locals_small one.scope (behind_small scope names place base first own_all) place base others others_all (listed_right structs own_literals (literals_in_declarators others) listed) in
      (and_from (local_makes (is_small structs) (local_of place base first scope)) (locals_make (is_small structs) (locals_of place base others one.scope)) (local_small scope names place base first own_all own_listed) rest.0, rest.1)

  declaration_small : (scope : Scope) → SmallNames structs scope → (tree : DeclarationTree) → Named structs (named_in_declaration scope tree) → Listed structs (literals_in_declarators tree.declarators)
      → LocalsSmall (declaration scope tree).scope (declared_locals scope tree)
  declaration_small scope names tree all listed = locals_small scope names tree.words.place (words_type scope tree.words).known tree.declarators all listed

  each_small : (locals : List LocalDef) (block : Block) → locals_make (is_small structs) locals ≡ true → block_makes (is_small structs) block ≡ true → block_makes (is_small structs) (declare_each locals block) ≡ true
  each_small [] block small rest = rest
  each_small (first ∷ others) block small rest =
      let parts = and_parts (local_makes (is_small structs) first) (locals_make (is_small structs) others) small in
      and_from (local_makes (is_small structs) first) (block_makes (is_small structs) (declare_each others block)) parts.0 (each_small others block parts.1 rest)

  start_small : (scope : Scope) → SmallNames structs scope → (tree : ForTree) → Named structs (named_in_start scope tree) → Listed structs (literals_in_start tree)
      → (start_makes (is_small structs) (start_of scope tree) ≡ true) × SmallNames structs (for_start scope tree).scope
  start_small scope names Trees.ForNothing all listed = (refl, names)
  start_small scope names (Trees.ForExpression value) all listed = (unused_small structs scope names value all listed, names)
  start_small scope names (Trees.ForDeclaration tree) all listed = declaration_small scope names tree all listed

  -- ---- values that may be left out

  mapped_small : (scope : Scope) (f : ExprTree → Value) → ((e : ExprTree) → Named structs (named_in scope e) → Listed structs (literals_in e) → makes (is_small structs) (f e) ≡ true)
      → (value : Option ExprTree) → Named structs (named_in_value scope value) → Listed structs (literals_in_value value) → any_makes (is_small structs) (mapped f value) ≡ true
  mapped_small scope f small None all listed = refl
  mapped_small scope f small (Some value) all listed = small value all listed

  switched_small : (int_type : Option IntType) (value : Value) → makes (is_small structs) value ≡ true → makes (is_small structs) (switched int_type value) ≡ true
  switched_small None value small = small
  switched_small (Some int_type) value small = small

  -- ---- statements

  module _ (result : Option CType) (result_small : IfKnown (IsSmall structs) result) where
    mutual
      pub stmt_small : (scope : Scope) → SmallNames structs scope → (s : StmtTree) → Named structs (named_in_stmt scope s) → Listed structs (literals_in_stmt s) → stmt_makes (is_small structs) (stmt_of scope result s) ≡ true
      stmt_small scope names (Trees.BlockStmt place items) all listed = block_small (entered scope) (entered_small scope names) items all listed
      stmt_small scope names (Trees.Empty place) all listed = refl
      stmt_small scope names (Trees.Expression value) all listed = unused_small structs scope names value all listed
      stmt_small scope names (Trees.If place condition taken) all listed =
          and_from (makes (is_small structs) (test_of scope condition)) (stmt_makes (is_small structs) (stmt_of scope result taken))
          (test_of_small structs scope names condition (named_left structs (named_in scope condition) (named_in_stmt scope taken) all) (listed_left structs (literals_in condition) (literals_in_stmt taken) listed))
          (stmt_small scope names taken (named_right structs (named_in scope condition) (named_in_stmt scope taken) all) (listed_right structs (literals_in condition) (literals_in_stmt taken) listed))
      stmt_small scope names (Trees.IfElse place condition taken otherwise) all listed =
          let front = named_left structs (named_in scope condition ++ named_in_stmt scope taken) (named_in_stmt scope otherwise) all in
          let front_listed = listed_left structs (literals_in condition ++ literals_in_stmt taken) (literals_in_stmt otherwise) listed in
          and_from (makes (is_small structs) (test_of scope condition) && stmt_makes (is_small structs) (stmt_of scope result taken)) (stmt_makes (is_small structs) (stmt_of scope result otherwise))
          (and_from (makes (is_small structs) (test_of scope condition)) (stmt_makes (is_small structs) (stmt_of scope result taken))
          (test_of_small structs scope names condition (named_left structs (named_in scope condition) (named_in_stmt scope taken) front) (listed_left structs (literals_in condition) (literals_in_stmt taken) front_listed))
          (stmt_small scope names taken (named_right structs (named_in scope condition) (named_in_stmt scope taken) front) (listed_right structs (literals_in condition) (literals_in_stmt taken) front_listed)))
          (stmt_small scope names otherwise (named_right structs (named_in scope condition ++ named_in_stmt scope taken) (named_in_stmt scope otherwise) all)
          (listed_right structs (literals_in condition ++ literals_in_stmt taken) (literals_in_stmt otherwise) listed))
      stmt_small scope names (Trees.While place condition body) all listed =
          and_from (makes (is_small structs) (test_of scope condition)) (stmt_makes (is_small structs) (stmt_of scope result body))
          (test_of_small structs scope names condition (named_left structs (named_in scope condition) (named_in_stmt scope body) all) (listed_left structs (literals_in condition) (literals_in_stmt body) listed))
          (stmt_small scope names body (named_right structs (named_in scope condition) (named_in_stmt scope body) all) (listed_right structs (literals_in condition) (literals_in_stmt body) listed))
      stmt_small scope names (Trees.Do place body condition) all listed =
          and_from (stmt_makes (is_small structs) (stmt_of scope result body)) (makes (is_small structs) (test_of scope condition))
          (stmt_small scope names body (named_left structs (named_in_stmt scope body) (named_in scope condition) all) (listed_left structs (literals_in_stmt body) (literals_in condition) listed))
          (test_of_small structs scope names condition (named_right structs (named_in_stmt scope body) (named_in scope condition) all) (listed_right structs (literals_in_stmt body) (literals_in condition) listed))
      stmt_small scope names (Trees.For place start condition step body) all listed =
          let inside = (for_start (entered scope) start).scope in
          let n_start = named_in_start (entered scope) start in
          let n_condition = named_in_value inside condition in
          let n_step = named_in_value inside step in
          let n_body = named_in_stmt inside body in
          let l_start = literals_in_start start in
          let l_condition = literals_in_value condition in
          let l_step = literals_in_value step in
          let l_body = literals_in_stmt body in
          let all_three = named_left structs (n_start ++ n_condition ++ n_step) n_body all in
          let all_two = named_left structs (n_start ++ n_condition) n_step all_three in
          let listed_three = listed_left structs (l_start ++ l_condition ++ l_step) l_body listed in
          let listed_two = listed_left structs (l_start ++ l_condition) l_step listed_three in
          let started = start_small (entered scope) (entered_small scope names) start (named_left structs n_start n_condition all_two) (listed_left structs l_start l_condition listed_two) in
          let b_start = start_makes (is_small structs) (start_of (entered scope) start) in
          let b_condition = any_makes (is_small structs) (mapped (test_of inside) condition) in
          let b_step = any_makes (is_small structs) (mapped (unused inside) step) in
          let b_body = stmt_makes (is_small structs) (stmt_of inside result body) in
          and_from (b_start && b_condition && b_step) b_body
          (and_from (b_start && b_condition) b_step
          (and_from b_start b_condition started.0
          (mapped_small inside (test_of inside) (test_of_small structs inside started.1) condition (named_right structs n_start n_condition all_two) (listed_right structs l_start l_condition listed_two)))
          (mapped_small inside (unused inside) (unused_small structs inside started.1) step (named_right structs (n_start ++ n_condition) n_step all_three) (listed_right structs (l_start ++ l_condition) l_step listed_three)))
          (stmt_small inside started.1 body (named_right structs (n_start ++ n_condition ++ n_step) n_body all) (listed_right structs (l_start ++ l_condition ++ l_step) l_body listed))
      stmt_small scope names (Trees.Switch place value items) all listed =
          let int_type = label_type (as_integer (place_of value) (expr scope value)).known in
          and_from (makes (is_small structs) (switched int_type (value_of scope value))) (items_make (is_small structs) (switch_of scope result int_type items))
          (switched_small int_type (value_of scope value)
          (value_of_small structs scope names value (named_left structs (named_in scope value) (named_in_switch scope items) all) (listed_left structs (literals_in value) (literals_in_switch items) listed)))
          (switch_small scope names int_type items (named_right structs (named_in scope value) (named_in_switch scope items) all) (listed_right structs (literals_in value) (literals_in_switch items) listed))
      stmt_small scope names (Trees.Break place) all listed = refl
      stmt_small scope names (Trees.Continue place) all listed = refl
      stmt_small scope names (Trees.Return place value) all listed = mapped_small scope (value_as scope result) (value_as_small structs scope names result result_small) value all listed

      pub block_small : (scope : Scope) → SmallNames structs scope → (b : BlockTree) → Named structs (named_in_block scope b) → Listed structs (literals_in_block b) → block_makes (is_small structs) (block_of scope result b) ≡ true
      block_small scope names Trees.Close all listed = refl
      block_small scope names (Trees.Declare tree others) all listed =
          let behind = (declaration scope tree).scope in
          let declared = declaration_small scope names tree (named_left structs (named_in_declaration scope tree) (named_in_block behind others) all) (listed_left structs (literals_in_declarators tree.declarators) (literals_in_block others) listed) in
          each_small (declared_locals scope tree) (block_of behind result others) declared.0
          (block_small behind declared.1 others (named_right structs (named_in_declaration scope tree) (named_in_block behind others) all) (listed_right structs (literals_in_declarators tree.declarators) (literals_in_block others) listed))
      block_small scope names (Trees.Perform one others) all listed =
          and_from (stmt_makes (is_small structs) (stmt_of scope result one)) (block_makes (is_small structs) (block_of scope result others))
          (stmt_small scope names one (named_left structs (named_in_stmt scope one) (named_in_block scope others) all) (listed_left structs (literals_in_stmt one) (literals_in_block others) listed))
          (block_small scope names others (named_right structs (named_in_stmt scope one) (named_in_block scope others) all) (listed_right structs (literals_in_stmt one) (literals_in_block others) listed))

      switch_small : (scope : Scope) → SmallNames structs scope → (int_type : Option IntType) (items : SwitchTree) → Named structs (named_in_switch scope items) → Listed structs (literals_in_switch items)
          → items_make (is_small structs) (switch_of scope result int_type items) ≡ true
      switch_small scope names int_type Trees.SwitchEnd all listed = refl
      switch_small scope names int_type (Trees.Case place value others) all listed =
          switch_small scope names int_type others (named_right structs (named_in scope value) (named_in_switch scope others) all) (listed_right structs (literals_in value) (literals_in_switch others) listed)
      switch_small scope names int_type (Trees.Default place others) all listed = switch_small scope names int_type others all listed
      switch_small scope names int_type (Trees.SwitchStmt one others) all listed =
          and_from (stmt_makes (is_small structs) (stmt_of scope result one)) (items_make (is_small structs) (switch_of scope result int_type others))
          (stmt_small scope names one (named_left structs (named_in_stmt scope one) (named_in_switch scope others) all) (listed_left structs (literals_in_stmt one) (literals_in_switch others) listed))
          (switch_small scope names int_type others (named_right structs (named_in_stmt scope one) (named_in_switch scope others) all) (listed_right structs (literals_in_stmt one) (literals_in_switch others) listed))
