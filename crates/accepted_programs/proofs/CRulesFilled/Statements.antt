-- Statements have filled types where those are that they name.
use Rattle.std.proofs.Common.{◌≡◌, true, ◌&&◌, List, [], ◌∷◌, ◌++◌, Option, Some, None, refl}
use Rattle.std.proofs.lemmas.Bool.{and_parts, and_from}
use Rattle.run_theory.specs.declared.place.Pos.{Pos}
use Rattle.c_num.specs.declared.IntType.{IntType}
use Rattle.c_syntax.specs.Trees
use Rattle.c_syntax.specs.Trees.{NameTree, ExprTree, InitTree, InitDeclaratorTree, DeclarationTree, ForTree, StmtTree, BlockTree, SwitchTree}
use Rattle.c_typed.specs.Types.{CType}
use Rattle.c_typed.specs.Layouts.{StructDef}
use Rattle.c_typed.specs.Typed.{Value, LocalDef, Block}
use Rattle.c_typed.specs.Sizes.{fills, makes, any_makes, local_makes, locals_make, start_makes, stmt_makes, block_makes, items_make}
use Rattle.c_rules.specs.Names.{Scope, LocalName, entered, locals_in}
use Rattle.c_rules.specs.Operators.{as_integer}
use Rattle.c_rules.specs.Expressions.{expr, place_of, words_type, declared_type, declared_name, name_place, Required}
use Rattle.c_rules.specs.Statements.{object_type, with_declared, declare_local, declare_locals, declaration, for_start, label_type}
use Rattle.c_rules.specs.Elaborated.{first_local, type_or_void, local_of, locals_of, declared_locals, declare_each, start_of, switched, mapped, unused, test_of, value_of, value_as, stmt_of, block_of, switch_of}
use Rattle.accepted_programs.specs.Knows.{IfKnown, Every}
use Rattle.accepted_programs.specs.Whole.{IsWhole, LocalFilled, FilledNames}
use Rattle.accepted_programs.proofs.CRulesFilled.Types.{filled_itself}
use Rattle.accepted_programs.proofs.Declared.{words_whole, object_whole}
use Rattle.accepted_programs.proofs.CRulesFilled.Expressions.{value_of_filled, unused_filled, test_of_filled, value_as_filled}

module _ (structs : List StructDef) where
  -- ---- names in scope

  appended_none : (names : List LocalName) → Every (LocalFilled structs) names → Every (LocalFilled structs) ([] ++ names)
  appended_none names all = all

  entered_filled : (scope : Scope) → FilledNames structs scope → FilledNames structs (entered scope)
  entered_filled scope names = record { locals = appended_none (locals_in scope) names.locals; file = names.file; members = names.members; keeps = names.keeps }

  pub declared_filled : (scope : Scope) → FilledNames structs scope → (name : Option NameTree) (known : Option CType) → IfKnown (IsWhole structs) known → FilledNames structs (with_declared name known scope)
  declared_filled scope names None known filled = record { locals = (filled, names.locals); file = names.file; members = names.members; keeps = names.keeps }
  declared_filled scope names (Some name) known filled = record { locals = (filled, names.locals); file = names.file; members = names.members; keeps = names.keeps }

  void_or_filled : (known : Option CType) → IfKnown (IsWhole structs) known → fills structs (type_or_void known) ≡ true
  void_or_filled None filled = refl
  void_or_filled (Some t) filled = filled_itself structs t filled

  -- ---- locals

  first_local_filled : (scope : Scope) → FilledNames structs scope → (known : Option CType) → IfKnown (IsWhole structs) known → (init : Option InitTree)
      → any_makes (fills structs) (first_local scope known init) ≡ true
  first_local_filled scope names known filled None = refl
  first_local_filled scope names known filled (Some (Trees.InitList place inits)) = refl
  first_local_filled scope names known filled (Some (Trees.InitValue value)) = value_as_filled structs scope names known filled value

  module _ (scope : Scope) (names : FilledNames structs scope) (place : Pos) (base : Option CType) (tree : InitDeclaratorTree) (whole : IfKnown (IsWhole structs) base) where
    abbrev here : Pos
    here = name_place (declared_name tree.declarator) place

    abbrev own : Option CType
    own = (object_type scope here (declared_type scope here Required base tree.declarator)).known

    abbrev behind : Scope
    behind = with_declared (declared_name tree.declarator) own scope

    own_filled : IfKnown (IsWhole structs) own
    own_filled =
        object_whole structs scope names.keeps here base whole tree.declarator

    behind_filled : FilledNames structs (declare_local place base tree scope).scope
    behind_filled = declared_filled scope names (declared_name tree.declarator) own own_filled

    local_filled : local_makes (fills structs) (local_of place base tree scope) ≡ true
    local_filled =
        and_from (fills structs (type_or_void own)) (any_makes (fills structs) (first_local behind own tree.init)) (void_or_filled own own_filled)
        (first_local_filled behind behind_filled own own_filled tree.init)

  abbrev LocalsFilled : Scope → List LocalDef → Type 0
  LocalsFilled behind locals = (locals_make (fills structs) locals ≡ true) × FilledNames structs behind

  locals_filled : (scope : Scope) → FilledNames structs scope → (place : Pos) (base : Option CType) → IfKnown (IsWhole structs) base → (trees : List InitDeclaratorTree)
      → LocalsFilled (declare_locals place base trees scope).scope (locals_of place base trees scope)
  locals_filled scope names place base whole [] = (refl, names)
  locals_filled scope names place base whole (first ∷ others) =
      let one = declare_local place base first scope in
      let rest = locals_filled one.scope (behind_filled scope names place base first whole) place base whole others in
      (and_from (local_makes (fills structs) (local_of place base first scope)) (locals_make (fills structs) (locals_of place base others one.scope)) (local_filled scope names place base first whole) rest.0, rest.1)

  declaration_filled : (scope : Scope) → FilledNames structs scope → (tree : DeclarationTree)
      → LocalsFilled (declaration scope tree).scope (declared_locals scope tree)
  declaration_filled scope names tree = locals_filled scope names tree.words.place (words_type scope tree.words).known (words_whole structs scope names.keeps tree.words).holds tree.declarators

  each_filled : (locals : List LocalDef) (block : Block) → locals_make (fills structs) locals ≡ true → block_makes (fills structs) block ≡ true → block_makes (fills structs) (declare_each locals block) ≡ true
  each_filled [] block filled rest = rest
  each_filled (first ∷ others) block filled rest =
      let parts = and_parts (local_makes (fills structs) first) (locals_make (fills structs) others) filled in
      and_from (local_makes (fills structs) first) (block_makes (fills structs) (declare_each others block)) parts.0 (each_filled others block parts.1 rest)

  start_filled : (scope : Scope) → FilledNames structs scope → (tree : ForTree)
      → (start_makes (fills structs) (start_of scope tree) ≡ true) × FilledNames structs (for_start scope tree).scope
  start_filled scope names Trees.ForNothing = (refl, names)
  start_filled scope names (Trees.ForExpression value) = (unused_filled structs scope names value, names)
  start_filled scope names (Trees.ForDeclaration tree) = declaration_filled scope names tree

  -- ---- values that may be left out

  mapped_filled : (scope : Scope) (f : ExprTree → Value) → ((e : ExprTree) → makes (fills structs) (f e) ≡ true)
      → (value : Option ExprTree) → any_makes (fills structs) (mapped f value) ≡ true
  mapped_filled scope f filled None = refl
  mapped_filled scope f filled (Some value) = filled value

  switched_filled : (int_type : Option IntType) (value : Value) → makes (fills structs) value ≡ true → makes (fills structs) (switched int_type value) ≡ true
  switched_filled None value filled = filled
  switched_filled (Some int_type) value filled = filled

  -- ---- statements

  module _ (result : Option CType) (result_filled : IfKnown (IsWhole structs) result) where
    mutual
      pub stmt_filled : (scope : Scope) → FilledNames structs scope → (s : StmtTree) → stmt_makes (fills structs) (stmt_of scope result s) ≡ true
      stmt_filled scope names (Trees.BlockStmt place items) = block_filled (entered scope) (entered_filled scope names) items
      stmt_filled scope names (Trees.Empty place) = refl
      stmt_filled scope names (Trees.Expression value) = unused_filled structs scope names value
      stmt_filled scope names (Trees.If place condition taken) =
          and_from (makes (fills structs) (test_of scope condition)) (stmt_makes (fills structs) (stmt_of scope result taken))
          (test_of_filled structs scope names condition)
          (stmt_filled scope names taken)
      stmt_filled scope names (Trees.IfElse place condition taken otherwise) =
          and_from (makes (fills structs) (test_of scope condition) && stmt_makes (fills structs) (stmt_of scope result taken)) (stmt_makes (fills structs) (stmt_of scope result otherwise))
          (and_from (makes (fills structs) (test_of scope condition)) (stmt_makes (fills structs) (stmt_of scope result taken))
          (test_of_filled structs scope names condition)
          (stmt_filled scope names taken))
          (stmt_filled scope names otherwise)
      stmt_filled scope names (Trees.While place condition body) =
          and_from (makes (fills structs) (test_of scope condition)) (stmt_makes (fills structs) (stmt_of scope result body))
          (test_of_filled structs scope names condition)
          (stmt_filled scope names body)
      stmt_filled scope names (Trees.Do place body condition) =
          and_from (stmt_makes (fills structs) (stmt_of scope result body)) (makes (fills structs) (test_of scope condition))
          (stmt_filled scope names body)
          (test_of_filled structs scope names condition)
      stmt_filled scope names (Trees.For place start condition step body) =
          let inside = (for_start (entered scope) start).scope in
          let started = start_filled (entered scope) (entered_filled scope names) start in
          let b_start = start_makes (fills structs) (start_of (entered scope) start) in
          let b_condition = any_makes (fills structs) (mapped (test_of inside) condition) in
          let b_step = any_makes (fills structs) (mapped (unused inside) step) in
          let b_body = stmt_makes (fills structs) (stmt_of inside result body) in
          and_from (b_start && b_condition && b_step) b_body
          (and_from (b_start && b_condition) b_step
          (and_from b_start b_condition started.0
          (mapped_filled inside (test_of inside) (test_of_filled structs inside started.1) condition))
          (mapped_filled inside (unused inside) (unused_filled structs inside started.1) step))
          (stmt_filled inside started.1 body)
      stmt_filled scope names (Trees.Switch place value items) =
          let int_type = label_type (as_integer (place_of value) (expr scope value)).known in
          and_from (makes (fills structs) (switched int_type (value_of scope value))) (items_make (fills structs) (switch_of scope result int_type items))
          (switched_filled int_type (value_of scope value)
          (value_of_filled structs scope names value))
          (switch_filled scope names int_type items)
      stmt_filled scope names (Trees.Break place) = refl
      stmt_filled scope names (Trees.Continue place) = refl
      stmt_filled scope names (Trees.Return place value) = mapped_filled scope (value_as scope result) (value_as_filled structs scope names result result_filled) value

      pub block_filled : (scope : Scope) → FilledNames structs scope → (b : BlockTree) → block_makes (fills structs) (block_of scope result b) ≡ true
      block_filled scope names Trees.Close = refl
      block_filled scope names (Trees.Declare tree others) =
          let behind = (declaration scope tree).scope in
          let declared = declaration_filled scope names tree in
          each_filled (declared_locals scope tree) (block_of behind result others) declared.0
          (block_filled behind declared.1 others)
      block_filled scope names (Trees.Perform one others) =
          and_from (stmt_makes (fills structs) (stmt_of scope result one)) (block_makes (fills structs) (block_of scope result others))
          (stmt_filled scope names one)
          (block_filled scope names others)

      switch_filled : (scope : Scope) → FilledNames structs scope → (int_type : Option IntType) (items : SwitchTree)
          → items_make (fills structs) (switch_of scope result int_type items) ≡ true
      switch_filled scope names int_type Trees.SwitchEnd = refl
      switch_filled scope names int_type (Trees.Case place value others) =
          switch_filled scope names int_type others
      switch_filled scope names int_type (Trees.Default place others) = switch_filled scope names int_type others
      switch_filled scope names int_type (Trees.SwitchStmt one others) =
          and_from (stmt_makes (fills structs) (stmt_of scope result one)) (items_make (fills structs) (switch_of scope result int_type others))
          (stmt_filled scope names one)
          (switch_filled scope names int_type others)
