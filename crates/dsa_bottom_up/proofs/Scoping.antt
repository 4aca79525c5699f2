-- The locals in scope, what counts in locals and in the items of blocks, and the counts of functions.
use Rattle.std.proofs.Common.{◌≡◌, ℕ, ◌+◌, Box, Vec, Global, List, [], ◌∷◌, ◌++◌, map, length, take, append_assoc, Option, option_map, refl, sym, ap, subst, ◌∙◌, arith}
use Rattle.std.proofs.lemmas.List.{map-append, length-map, append-nil}
use Rattle.std.proofs.Math.Seq.{take-append_seam}
use Rattle.c_typed.specs.declared.c_type.CType as number
use Rattle.c_typed.specs.declared.typed.Value as memory_value
use Rattle.c_typed.specs.declared.statement.LocalDef as memory_local
use Rattle.c_typed.specs.declared.statement.Stmt as memory_stmt
use Rattle.c_typed.specs.declared.statement.Stmt.TheVariants as S
use Rattle.c_typed.specs.declared.statement.ForStart as memory_start
use Rattle.c_typed.specs.declared.statement.ForStart.TheVariants as Start
use Rattle.c_typed.specs.declared.statement.BlockItem as memory_item
use Rattle.c_typed.specs.declared.statement.BlockItem.TheVariants as Item
use Rattle.c_typed.specs.declared.statement.SwitchItem as memory_switch
use Rattle.c_typed.specs.declared.statement.SwitchItem.TheVariants as Label
use Rattle.c_typed.specs.declared.definition.FunctionDef as memory_function
use Rattle.c_typed.specs.declared.definition.Program as memory_program
use Rattle.c_typed.specs.Table.{Interned, type_in}
use Rattle.c_typed.specs.StatementViews.{optional_value_in, local_in, LocalsStand, start_in, StmtStands, BlockRowStands, SwitchRowStands, stmt_in, block_in, BlockStands, switch_in, SwitchStands}
use Rattle.c_typed.specs.DefinitionViews.{function_in, program_of, FunctionStands, FunctionsStand}
use Rattle.c_typed.specs.Views.{ValueStands, values_in, ValuesStand}
use Rattle.c_typed.proofs.StatementsStay.{stmt_in-block, stmt_in-switch}
use Rattle.c_typed.specs.declared.statement.BlockItem.TheBlock.{hidden-the_row-BlockItem-0, items_hidden-the_row-BlockItem-0, hidden-the_row-SwitchItem-1, items_hidden-the_row-SwitchItem-1, items-the_row-BlockItem, items-the_row-SwitchItem}
use Rattle.dsa_bottom_up.specs.declared.names.Names.{Names}
use Rattle.dsa_bottom_up.specs.Counting.{counted_values, counted_optional, counted_locals, counted_stmt, counted_block, counted_items, with_local, with_locals, with_start, within, counted_function, counted_functions}
use Rattle.dsa_bottom_up.specs.Counts.{CountsValues, CountsEffect, CountsStart, CountsTurns, CountsLocal, CountsLocals, CountsStmt, CountsBlock, CountsBlockItem, CountsItems, CountsSwitchItem, VariableTypes, FunctionTypes, around_in, scope_behind, scope_at_start, CountsDefinition}
use Rattle.dsa_bottom_up.proofs.NamedTypes.{variables_typed, functions_typed}

module _ (table : Interned) (names : Names) where
  -- one more local in scope
  pub around_more : (scope : List number.CType) (c_type : number.CType) → around_in table names (scope ++ c_type ∷ []) ≡ with_local (type_in table c_type) (around_in table names scope)
  around_more scope c_type = λ i. record (around_in table names scope) { locals = map-append (type_in table) scope (c_type ∷ []) i }

  pub around_behind : (scope : List number.CType) (locals : List memory_local.LocalDef) → around_in table names (scope_behind scope locals) ≡ with_locals (map (local_in table) locals) (around_in table names scope)
  around_behind scope [] = refl
  around_behind scope (first ∷ others) = around_behind (scope ++ first.c_type ∷ []) others ∙ ap (with_locals (map (local_in table) others)) (around_more scope first.c_type)

  pub around_start : (scope : List number.CType) (start : memory_start.ForStart) → around_in table names (scope_at_start scope start) ≡ with_start (start_in table start) (around_in table names scope)
  around_start scope Start.Nothing = refl
  around_start scope (Start.Value value) = refl
  around_start scope (Start.Locals locals) = around_behind scope locals.items

-- what stands behind the locals that were in scope
pub behind_adds : (scope : List number.CType) (locals : List memory_local.LocalDef) → (added : List number.CType) × (scope_behind scope locals ≡ scope ++ added)
behind_adds scope [] = ([], sym (append-nil scope))
behind_adds scope (first ∷ others) =
    let rest = behind_adds (scope ++ first.c_type ∷ []) others in
    (first.c_type ∷ rest.0, rest.1 ∙ append_assoc scope (first.c_type ∷ []) rest.0)

pub start_adds : (scope : List number.CType) (start : memory_start.ForStart) → (added : List number.CType) × (scope_at_start scope start ≡ scope ++ added)
start_adds scope Start.Nothing = ([], sym (append-nil scope))
start_adds scope (Start.Value value) = ([], sym (append-nil scope))
start_adds scope (Start.Locals locals) = behind_adds scope locals.items

-- they are let go
pub let_go : (scope now kept : List number.CType) (outside : ℕ) (added : List number.CType) → now ≡ scope ++ added → outside ≡ length scope → kept ≡ take outside now → kept ≡ scope
let_go scope now kept outside added is at taken = taken ∙ ((λ i. take (at i) (is i)) ∙ take-append_seam scope added)

-- ---- functions

pub around_within : (program : memory_program.Program) (names : Names) (scope : List number.CType) → VariableTypes names.variables program.globals.items → FunctionTypes names.functions program.functions.items
    → around_in program.types names scope ≡ within (program_of program) (map (type_in program.types) scope)
around_within program names scope variables functions = λ i.
    record (around_in program.types names scope) {
      variable_type = λ name. (ap (option_map (type_in program.types)) (variables name) ∙ variables_typed program.types program.globals.items name) i;
      function_type = λ name. (ap (option_map (type_in program.types)) (functions name) ∙ functions_typed program.types program.functions.items name) i;
    }

-- ---- statements

module _ (table : Interned) where
  block_stands-items : (shape : _) (row : memory_stmt.Row_of-BlockItem shape) → BlockRowStands table row → BlockStands table (items-the_row-BlockItem shape row)
  block_stands-items shape memory_stmt.end_of-BlockItem h = tt
  block_stands-items shape (memory_stmt.more_of-BlockItem (Item.Local local) others) h = (h.0, block_stands-items _ others h.1)
  block_stands-items shape (memory_stmt.more_of-BlockItem (Item.Statement stmt) others) h = (h.0, block_stands-items _ others h.1)

  switch_stands-items : (shape : _) (row : memory_stmt.Row_of-SwitchItem shape) → SwitchRowStands table row → SwitchStands table (items-the_row-SwitchItem shape row)
  switch_stands-items shape memory_stmt.end_of-SwitchItem h = tt
  switch_stands-items shape (memory_stmt.more_of-SwitchItem (Label.Case label) others) h = switch_stands-items _ others h
  switch_stands-items shape (memory_stmt.more_of-SwitchItem Label.Default others) h = switch_stands-items _ others h
  switch_stands-items shape (memory_stmt.more_of-SwitchItem (Label.Statement stmt) others) h = (h.0, switch_stands-items _ others h.1)

  block_stands : (items : Vec memory_item.BlockItem Global) → StmtStands table (S.Block items) → BlockStands table items.items
  block_stands items h = subst (BlockStands table) (items_hidden-the_row-BlockItem-0 items) (block_stands-items _ (hidden-the_row-BlockItem-0 items) h)

  switch_stands : (value : memory_value.Value) (items : Vec memory_switch.SwitchItem Global) → StmtStands table (S.Switch value items) → ValueStands table value × SwitchStands table items.items
  switch_stands value items h = (h.0, subst (SwitchStands table) (items_hidden-the_row-SwitchItem-1 items) (switch_stands-items _ (hidden-the_row-SwitchItem-1 items) h.1))

module _ (table : Interned) (names : Names) (scope : List number.CType) where
  pub block_counts : (items : Vec memory_item.BlockItem Global) (n : ℕ) → CountsBlock table names scope items.items n → CountsStmt table names scope (S.Block items) n
  block_counts items n its = λ stands. its (block_stands table items stands) ∙ sym (ap (counted_stmt (around_in table names scope)) (stmt_in-block table items))

  pub switch_counts : (value : memory_value.Value) (items : Vec memory_switch.SwitchItem Global) (a b n : ℕ) → CountsEffect table names scope value a → CountsItems table names scope items.items b → n ≡ a + b
      → CountsStmt table names scope (S.Switch value items) n
  switch_counts value items a b n first second sum = λ stands.
      let parts = switch_stands table value items stands in
      sum ∙ ((λ i. first parts.0 i + second parts.1 i) ∙ sym (ap (counted_stmt (around_in table names scope)) (stmt_in-switch table value items)))

  pub for_counts : (start : memory_start.ForStart) (condition step : Option memory_value.Value) (body : Box memory_stmt.Stmt Global) (inside : List number.CType) (a b n : ℕ)
      → CountsStart table names scope start a → inside ≡ scope_at_start scope start → CountsTurns table names inside condition step body.value b → n ≡ a + b
      → CountsStmt table names scope (S.For start condition step body) n
  for_counts start condition step body inside a b n first is second sum = λ stands.
      let around : around_in table names inside ≡ with_start (start_in table start) (around_in table names scope) = ap (around_in table names) is ∙ around_start table names scope start in
      let turns = second stands.1 stands.2 stands.3 ∙ ap (λ around. counted_optional around (optional_value_in table condition) + (counted_optional around (optional_value_in table step) + counted_stmt around (stmt_in table body.value))) around in
      sum ∙ (λ i. first stands.0 i + turns i)

-- ---- what is left of the locals of a declaration, and of the items of a block

module _ (table : Interned) (names : Names) where
  -- behind these locals the others are left
  pub record LocalsLeft (start scope : List number.CType) (count : ℕ) (left locals : List memory_local.LocalDef) : Type 0 where
    pub behind : scope_behind scope left ≡ scope_behind start locals
    pub counted : LocalsStand table locals
        → LocalsStand table left × (count + counted_locals (around_in table names scope) (map (local_in table) left) ≡ counted_locals (around_in table names start) (map (local_in table) locals))

  pub locals_first : (start : List number.CType) (locals : List memory_local.LocalDef) → LocalsLeft start start 0 locals locals
  locals_first start locals = record { behind = refl; counted = λ stand. (stand, omega arith) }

  pub locals_next : (start scope next : List number.CType) (count one more : ℕ) (left others locals : List memory_local.LocalDef) (local : memory_local.LocalDef) → left ≡ local ∷ others
      → next ≡ scope ++ local.c_type ∷ [] → CountsLocal table names scope local one → more ≡ count + one → LocalsLeft start scope count left locals → LocalsLeft start next more others locals
  locals_next start scope next count one more left others locals local is grown its sum so_far =
      let here = subst (λ left. LocalsLeft start scope count left locals) is so_far in
      record {
        behind = ap (λ scope. scope_behind scope others) grown ∙ here.behind;
        counted = λ stand.
            let rest = here.counted stand in
            let around : around_in table names next ≡ with_local (type_in table local.c_type) (around_in table names scope) = ap (around_in table names) grown ∙ around_more table names scope local.c_type in
            let all : counted_locals (around_in table names next) (map (local_in table) others) ≡ counted_locals (with_local (type_in table local.c_type) (around_in table names scope)) (map (local_in table) others) = ap (λ around. counted_locals around (map (local_in table) others)) around in
            (rest.0.1, omega (arith, sum, its rest.0.0, all, rest.1));
      }

  pub locals_end : (start scope : List number.CType) (count : ℕ) (left locals : List memory_local.LocalDef) → left ≡ [] → LocalsLeft start scope count left locals
      → (scope ≡ scope_behind start locals) × CountsLocals table names start locals count
  locals_end start scope count left locals is so_far =
      let here = subst (λ left. LocalsLeft start scope count left locals) is so_far in
      (here.behind, λ stand. omega (arith, (here.counted stand).1))

  -- behind these items of a block the others are left
  pub record BlockLeft (start scope : List number.CType) (count : ℕ) (left items : List memory_item.BlockItem) : Type 0 where
    pub added : List number.CType
    pub behind : scope ≡ start ++ added
    pub counted : BlockStands table items
        → BlockStands table left × (count + counted_block (around_in table names scope) (block_in table left) ≡ counted_block (around_in table names start) (block_in table items))

  pub block_first : (start : List number.CType) (items : List memory_item.BlockItem) → BlockLeft start start 0 items items
  block_first start items = record { added = []; behind = sym (append-nil start); counted = λ stand. (stand, omega arith) }

  block_by : (start scope next : List number.CType) (count one more : ℕ) (others items : List memory_item.BlockItem) (item : memory_item.BlockItem)
      → CountsBlockItem table names scope next item one → more ≡ count + one → BlockLeft start scope count (item ∷ others) items → BlockLeft start next more others items
  block_by start scope next count one more others items (Item.Local local) its sum here =
      record {
        added = here.added ++ local.c_type ∷ [];
        behind = its.0 ∙ (ap (λ scope. scope ++ local.c_type ∷ []) here.behind ∙ append_assoc start here.added (local.c_type ∷ []));
        counted = λ stand.
            let rest = here.counted stand in
            let around : around_in table names next ≡ with_local (type_in table local.c_type) (around_in table names scope) = ap (around_in table names) its.0 ∙ around_more table names scope local.c_type in
            let all : counted_block (around_in table names next) (block_in table others) ≡ counted_block (with_local (type_in table local.c_type) (around_in table names scope)) (block_in table others) = ap (λ around. counted_block around (block_in table others)) around in
            (rest.0.1, omega (arith, sum, its.1 rest.0.0, all, rest.1));
      }
  block_by start scope next count one more others items (Item.Statement stmt) its sum here =
      record {
        added = here.added;
        behind = its.0 ∙ here.behind;
        counted = λ stand.
            let rest = here.counted stand in
            let all : counted_block (around_in table names next) (block_in table others) ≡ counted_block (around_in table names scope) (block_in table others) = ap (λ scope. counted_block (around_in table names scope) (block_in table others)) its.0 in
            (rest.0.1, omega (arith, sum, its.1 rest.0.0, all, rest.1));
      }

  pub block_next : (start scope next : List number.CType) (count one more : ℕ) (left others items : List memory_item.BlockItem) (item : memory_item.BlockItem) → left ≡ item ∷ others
      → CountsBlockItem table names scope next item one → more ≡ count + one → BlockLeft start scope count left items → BlockLeft start next more others items
  block_next start scope next count one more left others items item is its sum so_far = block_by start scope next count one more others items item its sum (subst (λ left. BlockLeft start scope count left items) is so_far)

  pub block_end : (start scope : List number.CType) (count : ℕ) (left items : List memory_item.BlockItem) → left ≡ [] → BlockLeft start scope count left items → CountsBlock table names start items count
  block_end start scope count left items is so_far = λ stand.
      let here = subst (λ left. BlockLeft start scope count left items) is so_far in
      omega (arith, (here.counted stand).1)

  -- behind these items of a `switch` the others are left
  pub record ItemsLeft (start scope : List number.CType) (count : ℕ) (left items : List memory_switch.SwitchItem) : Type 0 where
    pub behind : scope ≡ start
    pub counted : SwitchStands table items
        → SwitchStands table left × (count + counted_items (around_in table names start) (switch_in table left) ≡ counted_items (around_in table names start) (switch_in table items))

  pub items_first : (start : List number.CType) (items : List memory_switch.SwitchItem) → ItemsLeft start start 0 items items
  items_first start items = record { behind = refl; counted = λ stand. (stand, omega arith) }

  items_by : (start scope next : List number.CType) (count one more : ℕ) (others items : List memory_switch.SwitchItem) (item : memory_switch.SwitchItem)
      → CountsSwitchItem table names scope next item one → more ≡ count + one → ItemsLeft start scope count (item ∷ others) items → ItemsLeft start next more others items
  items_by start scope next count one more others items (Label.Case label) its sum here =
      record { behind = its.0 ∙ here.behind; counted = λ stand. let rest = here.counted stand in (rest.0, omega (arith, sum, its.1, rest.1)) }
  items_by start scope next count one more others items Label.Default its sum here =
      record { behind = its.0 ∙ here.behind; counted = λ stand. let rest = here.counted stand in (rest.0, omega (arith, sum, its.1, rest.1)) }
  items_by start scope next count one more others items (Label.Statement stmt) its sum here =
      record {
        behind = its.0 ∙ here.behind;
        counted = λ stand.
            let rest = here.counted stand in
            let first : one ≡ counted_stmt (around_in table names start) (stmt_in table stmt) = subst (λ scope. CountsStmt table names scope stmt one) here.behind its.1 rest.0.0 in
            (rest.0.1, omega (arith, sum, first, rest.1));
      }

  pub items_next : (start scope next : List number.CType) (count one more : ℕ) (left others items : List memory_switch.SwitchItem) (item : memory_switch.SwitchItem) → left ≡ item ∷ others
      → CountsSwitchItem table names scope next item one → more ≡ count + one → ItemsLeft start scope count left items → ItemsLeft start next more others items
  items_next start scope next count one more left others items item is its sum so_far = items_by start scope next count one more others items item its sum (subst (λ left. ItemsLeft start scope count left items) is so_far)

  pub items_end : (start scope : List number.CType) (count : ℕ) (left items : List memory_switch.SwitchItem) → left ≡ [] → ItemsLeft start scope count left items → (scope ≡ start) × CountsItems table names start items count
  items_end start scope count left items is so_far =
      let here = subst (λ left. ItemsLeft start scope count left items) is so_far in
      (here.behind, λ stand. omega (arith, (here.counted stand).1))

pub values_count : (program : memory_program.Program) (names : Names) (scope : List number.CType) (values : List memory_value.Value) (n : ℕ) → scope ≡ [] → VariableTypes names.variables program.globals.items → FunctionTypes names.functions program.functions.items
    → CountsValues program.types names scope values n → ValuesStand program.types values → n ≡ counted_values (within (program_of program) []) (values_in program.types values)
values_count program names scope values n none variables functions its stand =
    its stand ∙ ap (λ around. counted_values around (values_in program.types values)) (ap (around_in program.types names) none ∙ around_within program names [] variables functions)

pub definition_counts : (program : memory_program.Program) (names : Names) (function : memory_function.FunctionDef) (n : ℕ) → VariableTypes names.variables program.globals.items → FunctionTypes names.functions program.functions.items
    → FunctionStands program.types function → CountsDefinition program.types names function n → n ≡ counted_function (program_of program) (function_in program.types function)
definition_counts program names function n variables functions stands its =
    its stands ∙ (λ i. sym (length-map function.parameters.items (type_in program.types)) i + counted_block (around_within program names function.parameters.items variables functions i) (block_in program.types function.body.items))

-- behind these functions the others are left
pub record FunctionsLeft (program : memory_program.Program) (counts : List ℕ) (left : List memory_function.FunctionDef) : Type 0 where
  pub stand : FunctionsStand program.types left
  pub counted : counts ++ map (counted_function (program_of program)) (map (function_in program.types) left) ≡ counted_functions (program_of program)

pub functions_first : (program : memory_program.Program) (counts : List ℕ) (functions : List memory_function.FunctionDef) → counts ≡ [] → functions ≡ program.functions.items → FunctionsStand program.types program.functions.items → FunctionsLeft program counts functions
functions_first program counts functions none is stand = record {
  stand = subst (FunctionsStand program.types) (sym is) stand;
  counted = λ i. none i ++ map (counted_function (program_of program)) (map (function_in program.types) (is i));
}

pub functions_next : (program : memory_program.Program) (names : Names) (counts more : List ℕ) (n : ℕ) (left others : List memory_function.FunctionDef) (function : memory_function.FunctionDef) → left ≡ function ∷ others
    → VariableTypes names.variables program.globals.items → FunctionTypes names.functions program.functions.items → CountsDefinition program.types names function n → more ≡ counts ++ n ∷ [] → FunctionsLeft program counts left → FunctionsLeft program more others
functions_next program names counts more n left others function is variables functions its grown so_far =
    let here = subst (FunctionsLeft program counts) is so_far in
    let rest = map (counted_function (program_of program)) (map (function_in program.types) others) in
    record {
      stand = here.stand.1;
      counted = ap (λ counts. counts ++ rest) grown ∙ (append_assoc counts (n ∷ []) rest ∙ (ap (λ n. counts ++ n ∷ rest) (definition_counts program names function n variables functions here.stand.0 its) ∙ here.counted));
    }

pub functions_end : (program : memory_program.Program) (counts : List ℕ) (left : List memory_function.FunctionDef) → left ≡ [] → FunctionsLeft program counts left → counts ≡ counted_functions (program_of program)
functions_end program counts left is so_far = let here = subst (FunctionsLeft program counts) is so_far in sym (append-nil counts) ∙ here.counted
