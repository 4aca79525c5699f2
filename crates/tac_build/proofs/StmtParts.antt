-- What a statement asks, for its parts.
use Rattle.std.proofs.Common.{◌≡◌, ℕ, Bool, true, ◌&&◌, List, Option, Vec, Global, length, refl, sym, ap, ◌∙◌, subst}
use Rattle.std.proofs.lemmas.Bool.{and_parts}
use Rattle.c_num.specs.declared.IntType.{IntType}
use Rattle.c_typed.specs.declared.typed.Value as memory_value
use Rattle.c_typed.specs.declared.statement.Stmt as memory_stmt
use Rattle.c_typed.specs.declared.statement.Stmt.TheVariants as S
use Rattle.c_typed.specs.declared.statement.BlockItem as memory_item
use Rattle.c_typed.specs.declared.statement.SwitchItem as memory_switch
use Rattle.c_typed.specs.declared.statement.ForStart as memory_start
use Rattle.c_typed.specs.Types.{integer_type}
use Rattle.c_typed.specs.Table.{Interned}
use Rattle.c_typed.specs.Typed as T
use Rattle.c_typed.specs.Typed.{Stmt}
use Rattle.c_typed.specs.Views.{value_in, ValueStands}
use Rattle.c_typed.specs.StatementViews.{optional_value_in, OptionalStands, start_in, StartStands, stmt_in, StmtStands, block_in, BlockStands, switch_in, SwitchStands}
use Rattle.c_typed.proofs.StatementsStay.{stmt_in-block, stmt_in-switch}
use Rattle.c_typed.proofs.StatementItems.{block-items, switch-items}
use Rattle.c_typed.specs.TypedNodes.{stmt_nodes}
use Rattle.c_typed.specs.Context.{Context}
use Rattle.c_typed.specs.Expressions.{given, type_of}
use Rattle.c_typed.specs.Statements.{Within, in_loop, in_switch, is_stmt, is_start, with_start, is_condition, is_expression, if_any}
use Rattle.tac_build.specs.declared.builder.Builder.{Builder}
use Rattle.tac_build.specs.declared.names.Source.{Source}
use Rattle.tac_build.specs.declared.addressed.Addressed.{Addressed}
use Rattle.tac_build.specs.declared.homes.Home as memory_home
use Rattle.tac_build.specs.Homes.{takes_start, takes_stmt}
use Rattle.tac_build.specs.Building.{HasRoom}
use Rattle.tac_build.specs.Taken.{taken_start, taken_stmt, taken_in_turns, depth_behind}
use Rattle.tac_build.specs.Lowering.{names_for, types_of_source, scope_of, context_in, LieInMemory}
use Rattle.tac_build.specs.LoweringStatements.{StmtTyped, BlockTyped, ItemsTyped, StartTyped, ConditionTyped, TestTyped, StepTyped, Foretold, Declares}
use Rattle.tac_build.proofs.InOrder.{foretold_front, foretold_behind, lies_left, lies_right}

-- what is asked of a typed tree
pub record Asked (source : Source) (addressed : Addressed) (scope : List memory_home.Home) (tree : Stmt) (old : Builder) : Type 0 where
  pub within : Within
  pub typed : is_stmt (context_in source scope) within tree ≡ true
  pub lives : LieInMemory (scope_of source scope) (λ number. takes_stmt number tree)
  pub foretold : Foretold addressed old.counts.variables (taken_stmt (length scope) tree)
  pub room : HasRoom old (names_for (stmt_nodes tree))

pub block_is : (table : Interned) (stmt : memory_stmt.Stmt) (items : Vec memory_item.BlockItem Global) (slice : List memory_item.BlockItem) → stmt ≡ S.Block items → slice ≡ items.items → stmt_in table stmt ≡ T.BlockStmt (block_in table slice)
block_is table stmt items slice is same = ap (stmt_in table) is ∙ stmt_in-block table items ∙ ap (λ items. T.BlockStmt (block_in table items)) (sym same)

pub switch_is : (table : Interned) (stmt : memory_stmt.Stmt) (value : memory_value.Value) (items : Vec memory_switch.SwitchItem Global) (slice : List memory_switch.SwitchItem) → stmt ≡ S.Switch value items → slice ≡ items.items
    → stmt_in table stmt ≡ T.Switch (value_in table value) (switch_in table slice)
switch_is table stmt value items slice is same = ap (stmt_in table) is ∙ stmt_in-switch table value items ∙ ap (λ items. T.Switch (value_in table value) (switch_in table items)) (sym same)

module _ (source : Source) (addressed : Addressed) (scope : List memory_home.Home) where
  abbrev table : Interned
  table = types_of_source source

  abbrev around : Context
  around = context_in source scope

  pub asked : (stmt : memory_stmt.Stmt) (tree : Stmt) (old : Builder) → stmt_in (types_of_source source) stmt ≡ tree → ((within : Within) × StmtTyped source scope within stmt)
      → LieInMemory (scope_of source scope) (λ number. takes_stmt number (stmt_in (types_of_source source) stmt)) → Foretold addressed old.counts.variables (taken_stmt (length scope) (stmt_in (types_of_source source) stmt))
      → HasRoom old (names_for (stmt_nodes (stmt_in (types_of_source source) stmt))) → Asked source addressed scope tree old
  asked stmt tree old is typed lives foretold room = record {
    within = typed.0;
    typed = subst (λ tree. is_stmt around typed.0 tree ≡ true) is typed.1.typed;
    lives = subst (λ tree. LieInMemory (scope_of source scope) (λ number. takes_stmt number tree)) is lives;
    foretold = subst (λ tree. Foretold addressed old.counts.variables (taken_stmt (length scope) tree)) is foretold;
    room = subst (λ tree. HasRoom old (names_for (stmt_nodes tree))) is room;
  }

  -- ---- blocks

  pub block_typed : (stmt : memory_stmt.Stmt) (items : Vec memory_item.BlockItem Global) (slice : List memory_item.BlockItem) (old : Builder) → stmt ≡ S.Block items → slice ≡ items.items → StmtStands (types_of_source source) stmt
      → Asked source addressed scope (T.BlockStmt (block_in (types_of_source source) slice)) old → (within : Within) × BlockTyped source scope within slice
  block_typed stmt items slice old is same stands ask =
      (ask.within, record { stand = subst (BlockStands table) (sym same) (block-items table items (subst (StmtStands table) is stands)); typed = ask.typed })

  -- ---- `if`

  pub if_typed : (condition : memory_value.Value) (body : memory_stmt.Stmt) (old : Builder) → ValueStands (types_of_source source) condition
      → Asked source addressed scope (T.If (value_in (types_of_source source) condition) (stmt_in (types_of_source source) body)) old → ConditionTyped source scope condition
  if_typed condition body old stands ask = record { stands = stands; typed = (and_parts (is_condition around (value_in table condition)) _ ask.typed).0 }

  pub if_body : (condition : memory_value.Value) (body : memory_stmt.Stmt) (old : Builder) → StmtStands (types_of_source source) body
      → Asked source addressed scope (T.If (value_in (types_of_source source) condition) (stmt_in (types_of_source source) body)) old → (within : Within) × StmtTyped source scope within body
  if_body condition body old stands ask = (ask.within, record { stands = stands; typed = (and_parts (is_condition around (value_in table condition)) _ ask.typed).1 })

  -- ---- `if` with `else`

  pub if_else_typed : (condition : memory_value.Value) (body otherwise : memory_stmt.Stmt) (old : Builder) → ValueStands (types_of_source source) condition
      → Asked source addressed scope (T.IfElse (value_in (types_of_source source) condition) (stmt_in (types_of_source source) body) (stmt_in (types_of_source source) otherwise)) old → ConditionTyped source scope condition
  if_else_typed condition body otherwise old stands ask =
      let tested = is_condition around (value_in table condition) in
      let parts = and_parts (tested && is_stmt around ask.within (stmt_in table body)) _ ask.typed in
      record { stands = stands; typed = (and_parts tested _ parts.0).0 }

  pub if_else_body : (condition : memory_value.Value) (body otherwise : memory_stmt.Stmt) (old : Builder) → StmtStands (types_of_source source) body
      → Asked source addressed scope (T.IfElse (value_in (types_of_source source) condition) (stmt_in (types_of_source source) body) (stmt_in (types_of_source source) otherwise)) old → (within : Within) × StmtTyped source scope within body
  if_else_body condition body otherwise old stands ask =
      let tested = is_condition around (value_in table condition) in
      let parts = and_parts (tested && is_stmt around ask.within (stmt_in table body)) _ ask.typed in
      (ask.within, record { stands = stands; typed = (and_parts tested _ parts.0).1 })

  pub if_else_otherwise : (condition : memory_value.Value) (body otherwise : memory_stmt.Stmt) (old : Builder) → StmtStands (types_of_source source) otherwise
      → Asked source addressed scope (T.IfElse (value_in (types_of_source source) condition) (stmt_in (types_of_source source) body) (stmt_in (types_of_source source) otherwise)) old → (within : Within) × StmtTyped source scope within otherwise
  if_else_otherwise condition body otherwise old stands ask =
      let tested = is_condition around (value_in table condition) in
      let parts = and_parts (tested && is_stmt around ask.within (stmt_in table body)) _ ask.typed in
      (ask.within, record { stands = stands; typed = parts.1 })

  -- ---- loops

  pub while_typed : (condition : memory_value.Value) (body : memory_stmt.Stmt) (old : Builder) → ValueStands (types_of_source source) condition
      → Asked source addressed scope (T.While (value_in (types_of_source source) condition) (stmt_in (types_of_source source) body)) old → ConditionTyped source scope condition
  while_typed condition body old stands ask = record { stands = stands; typed = (and_parts (is_condition around (value_in table condition)) _ ask.typed).0 }

  pub while_body : (condition : memory_value.Value) (body : memory_stmt.Stmt) (old : Builder) → StmtStands (types_of_source source) body
      → Asked source addressed scope (T.While (value_in (types_of_source source) condition) (stmt_in (types_of_source source) body)) old → (within : Within) × StmtTyped source scope within body
  while_body condition body old stands ask = (in_loop ask.within, record { stands = stands; typed = (and_parts (is_condition around (value_in table condition)) _ ask.typed).1 })

  pub do_typed : (condition : memory_value.Value) (body : memory_stmt.Stmt) (old : Builder) → ValueStands (types_of_source source) condition
      → Asked source addressed scope (T.DoWhile (stmt_in (types_of_source source) body) (value_in (types_of_source source) condition)) old → ConditionTyped source scope condition
  do_typed condition body old stands ask = record { stands = stands; typed = (and_parts (is_stmt around (in_loop ask.within) (stmt_in table body)) _ ask.typed).1 }

  pub do_body : (condition : memory_value.Value) (body : memory_stmt.Stmt) (old : Builder) → StmtStands (types_of_source source) body
      → Asked source addressed scope (T.DoWhile (stmt_in (types_of_source source) body) (value_in (types_of_source source) condition)) old → (within : Within) × StmtTyped source scope within body
  do_body condition body old stands ask = (in_loop ask.within, record { stands = stands; typed = (and_parts (is_stmt around (in_loop ask.within) (stmt_in table body)) _ ask.typed).0 })

  -- ---- `for`

  module _ (start : memory_start.ForStart) (condition step : Option memory_value.Value) (body : memory_stmt.Stmt) (old : Builder)
      (ask : Asked source addressed scope (T.For (start_in (types_of_source source) start) (optional_value_in (types_of_source source) condition) (optional_value_in (types_of_source source) step) (stmt_in (types_of_source source) body)) old) where
    abbrev begins : Bool
    begins = is_start around (start_in table start)

    abbrev inside : Context
    inside = with_start (start_in table start) around

    abbrev tests : Bool
    tests = if_any (is_condition inside) (optional_value_in table condition)

    abbrev steps : Bool
    steps = if_any (is_expression inside) (optional_value_in table step)

    pub for_start : StartStands (types_of_source source) start → StartTyped source scope start
    for_start stands =
        let three = and_parts (begins && tests && steps) _ ask.typed in
        let two = and_parts (begins && tests) _ three.0 in
        record { stands = stands; typed = (and_parts begins _ two.0).0 }

    pub for_test : (inner : List memory_home.Home) → context_in source inner ≡ with_start (start_in (types_of_source source) start) (context_in source scope) → OptionalStands (types_of_source source) condition → TestTyped source inner condition
    for_test inner same stands =
        let three = and_parts (begins && tests && steps) _ ask.typed in
        let two = and_parts (begins && tests) _ three.0 in
        record { stands = stands; typed = subst (λ around. if_any (is_condition around) (optional_value_in table condition) ≡ true) (sym same) (and_parts begins _ two.0).1 }

    pub for_step : (inner : List memory_home.Home) → context_in source inner ≡ with_start (start_in (types_of_source source) start) (context_in source scope) → OptionalStands (types_of_source source) step → StepTyped source inner step
    for_step inner same stands =
        let three = and_parts (begins && tests && steps) _ ask.typed in
        record { stands = stands; typed = subst (λ around. if_any (is_expression around) (optional_value_in table step) ≡ true) (sym same) (and_parts (begins && tests) _ three.0).1 }

    pub for_body : (inner : List memory_home.Home) → context_in source inner ≡ with_start (start_in (types_of_source source) start) (context_in source scope) → StmtStands (types_of_source source) body → (within : Within) × StmtTyped source inner within body
    for_body inner same stands =
        let three = and_parts (begins && tests && steps) _ ask.typed in
        (in_loop ask.within, record { stands = stands; typed = subst (λ around. is_stmt around (in_loop ask.within) (stmt_in table body) ≡ true) (sym same) three.1 })

    abbrev is_taken : ℕ → Bool
    is_taken = taken_in_turns (optional_value_in table condition) (optional_value_in table step) (stmt_in table body)

    pub for_starts : LieInMemory (scope_of source scope) (λ number. takes_start number (start_in (types_of_source source) start))
    for_starts = lies_left (scope_of source scope) (λ number. takes_start number (start_in table start)) is_taken ask.lives

    pub for_lives : LieInMemory (scope_of source scope) (taken_in_turns (optional_value_in (types_of_source source) condition) (optional_value_in (types_of_source source) step) (stmt_in (types_of_source source) body))
    for_lives = lies_right (scope_of source scope) (λ number. takes_start number (start_in table start)) is_taken ask.lives

    pub for_foretold : Foretold addressed old.counts.variables (taken_start (length scope) (taken_in_turns (optional_value_in (types_of_source source) condition) (optional_value_in (types_of_source source) step) (stmt_in (types_of_source source) body)) (start_in (types_of_source source) start))
    for_foretold = foretold_front addressed old.counts.variables old.counts.variables (taken_start (length scope) is_taken (start_in table start)) (taken_stmt (depth_behind (length scope) (start_in table start)) (stmt_in table body)) refl ask.foretold

    pub for_behind : (begun : Builder) (inner : List memory_home.Home) → length inner ≡ depth_behind (length scope) (start_in (types_of_source source) start)
        → Declares old begun (taken_start (length scope) (taken_in_turns (optional_value_in (types_of_source source) condition) (optional_value_in (types_of_source source) step) (stmt_in (types_of_source source) body)) (start_in (types_of_source source) start))
        → Foretold addressed begun.counts.variables (taken_stmt (length inner) (stmt_in (types_of_source source) body))
    for_behind begun inner deep declares =
        subst (λ depth. Foretold addressed begun.counts.variables (taken_stmt depth (stmt_in table body))) (sym deep)
        (foretold_behind addressed old.counts.variables begun.counts.variables (taken_start (length scope) is_taken (start_in table start)) (taken_stmt (depth_behind (length scope) (start_in table start)) (stmt_in table body)) declares ask.foretold)

  -- ---- `switch`

  pub switch_value : (value : memory_value.Value) (items : List memory_switch.SwitchItem) (old : Builder) → ValueStands (types_of_source source) value
      → Asked source addressed scope (T.Switch (value_in (types_of_source source) value) (switch_in (types_of_source source) items)) old → ConditionTyped source scope value
  switch_value value items old stands ask = record { stands = stands; typed = (and_parts (is_condition around (value_in table value)) _ ask.typed).0 }

  pub switch_typed : (stmt : memory_stmt.Stmt) (value : memory_value.Value) (items : Vec memory_switch.SwitchItem Global) (slice : List memory_switch.SwitchItem) (old : Builder) → stmt ≡ S.Switch value items → slice ≡ items.items → StmtStands (types_of_source source) stmt
      → Asked source addressed scope (T.Switch (value_in (types_of_source source) value) (switch_in (types_of_source source) slice)) old → (within : Within) × (own : Option IntType) × ItemsTyped source scope within own slice
  switch_typed stmt value items slice old is same stands ask = (
    in_switch ask.within,
    given (type_of around (value_in table value)) integer_type,
    record { stand = subst (SwitchStands table) (sym same) (switch-items table value items (subst (StmtStands table) is stands)); typed = (and_parts (is_condition around (value_in table value)) _ ask.typed).1 },
  )
