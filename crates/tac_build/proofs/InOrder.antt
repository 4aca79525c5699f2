-- Items of blocks and of `switch`, one behind another, and the locals that begin to live there.
use Rattle.std.proofs.Common.{◌≡◌, ℕ, zero, suc, ◌+◌, ◌<◌, Bool, true, false, ◌||◌, ◌==◌, if◌then◌else◌, List, [], ◌∷◌, ◌++◌, Option, Some, None, length, map, drop, get_or, slice_get, append_assoc, refl, sym, ap, ◌∙◌, subst, arith, length-append, unwrap_or}
use Rattle.std.specs.Prelude.{ℤ, reverse}
use Rattle.std.specs.Int.{w128}
use Rattle.std.proofs.lemmas.Int.{to_z-of_z as same_int}
use Rattle.std.proofs.lemmas.Bool.{and_parts, or_left, or_right, eqb-true}
use Rattle.std.proofs.lemmas.Option.{same_Some}
use Rattle.std.proofs.lemmas.List.{append-nil, drop-drop, drop_more, reverse-append, length-reverse, length-map}
use Rattle.c_num.specs.declared.IntType.{IntType}
use Rattle.c_typed.specs.declared.statement.Stmt as memory_stmt
use Rattle.c_typed.specs.declared.statement.BlockItem as memory_item
use Rattle.c_typed.specs.declared.statement.BlockItem.TheVariants as B
use Rattle.c_typed.specs.declared.statement.SwitchItem as memory_switch
use Rattle.c_typed.specs.declared.statement.SwitchItem.TheVariants as W
use Rattle.c_typed.specs.declared.statement.LocalDef as memory_local
use Rattle.c_typed.specs.declared.statement.ForStart as memory_start
use Rattle.c_typed.specs.Types.{is_array, is_struct}
use Rattle.c_typed.specs.Table.{Interned}
use Rattle.c_typed.specs.Typed as T
use Rattle.c_typed.specs.Typed.{Stmt, LocalDef, ForStart}
use Rattle.c_typed.specs.StatementViews.{local_in, start_in, stmt_in, block_in, switch_in}
use Rattle.c_typed.specs.TypedNodes.{local_nodes, stmt_nodes, block_nodes, switch_nodes}
use Rattle.c_typed.specs.Context.{with_local}
use Rattle.c_typed.specs.Statements.{Within, is_stmt, is_block, are_items, is_local, is_label, with_locals, with_start}
use Rattle.tac_ir.specs.declared.register.Register.{Register}
use Rattle.tac_ir.specs.declared.register.PointId.{PointId}
use Rattle.tac_ir.specs.Code.{Op}
use Rattle.tac_build.specs.declared.builder.Builder.{Builder}
use Rattle.tac_build.specs.declared.names.Source.{Source}
use Rattle.tac_build.specs.declared.addressed.Addressed.{Addressed}
use Rattle.tac_build.specs.declared.statements.Ways as memory_ways
use Rattle.tac_build.specs.declared.switches.Label.{Label}
use Rattle.tac_build.specs.declared.switches.Switched.{Switched}
use Rattle.tac_build.specs.declared.homes.Home as memory_home
use Rattle.tac_build.specs.Homes.{Home, Scope, home_of, takes_optional, takes_first, takes_stmt, takes_block, takes_items}
use Rattle.tac_build.specs.Spots.{Spot, behind}
use Rattle.tac_build.specs.Forms.{context_of}
use Rattle.tac_build.specs.Code.{HasOp, Emits}
use Rattle.tac_build.specs.StatementCode.{LocalCode, LocalsCode, StartCode, BlockCode, SwitchCode}
use Rattle.tac_build.specs.Building.{home_in, Fills, Grows, points_in, spot_of, Leads, HasRoom, Adds}
use Rattle.tac_build.specs.Taken.{taken_stmt, taken_block, taken_items}
use Rattle.tac_build.specs.Lowering.{names_for, program_in, types_of_source, scope_of, context_in, IsScope, LieInMemory}
use Rattle.tac_build.specs.LoweringStatements.{StmtTyped, BlockTyped, ItemsTyped, LocalTyped, Foretold, Declares, ways_in, stored, label_test, TestsStand, TestsCode, place_of, StmtLowers, BlockLowers, LocalLowers, StartLowers}
use Rattle.tac_build.proofs.Points.{fills_same, fills_grown, grows_same, grows_on}
use Rattle.tac_build.proofs.LabelFits.{label_fits}
use Rattle.tac_build.proofs.SoFar.{BlockSoFar, ItemsSoFar, or_later, TestsSoFar}

-- ---- items that are left

pub next_left : {X : Type 0} (xs : List X) (here : ℕ) (x : X) → here < length xs → x ≡ get_or xs here x → drop here xs ≡ x ∷ drop (here + 1) xs
next_left xs here x within is = drop_more xs here x within ∙ ap (λ y. y ∷ drop (here + 1) xs) (sym is)

-- ---- which locals are told to be taken

drop_front : {X : Type 0} (xs ys : List X) → drop (length xs) (xs ++ ys) ≡ ys
drop_front [] ys = refl
drop_front (x ∷ xs) ys = drop_front xs ys

read_drop : {X : Type 0} (xs : List X) (n : ℕ) → slice_get xs n ≡ slice_get (drop n xs) 0
read_drop [] zero = refl
read_drop [] (suc n) = refl
read_drop (x ∷ xs) zero = refl
read_drop (x ∷ xs) (suc n) = read_drop xs n

pub foretold_at : (addressed : Addressed) (from here : ℕ) (flags : List Bool) → here ≡ from → Foretold addressed from flags → Foretold addressed here flags
foretold_at addressed from here flags same told = subst (λ n. Foretold addressed n flags) (sym same) told

pub foretold_front : (addressed : Addressed) (from here : ℕ) (one other : List Bool) → here ≡ from → Foretold addressed from (one ++ other) → Foretold addressed here one
foretold_front addressed from here one other same told = foretold_at addressed from here one same (other ++ told.0, told.1 ∙ append_assoc one other told.0)

pub foretold_behind : (addressed : Addressed) (from here : ℕ) (one other : List Bool) → here ≡ from + length one → Foretold addressed from (one ++ other) → Foretold addressed here other
foretold_behind addressed from here one other behind told =
    let items = addressed.variables.items in (
      told.0,
      ap (λ n. drop n items) behind ∙ sym (drop-drop (length one) from items) ∙ ap (drop (length one)) (told.1 ∙ append_assoc one other told.0) ∙ drop_front one (other ++ told.0),
    )

foretold_first : (addressed : Addressed) (from : ℕ) (flag : Bool) (flags : List Bool) → Foretold addressed from (flag ∷ flags) → slice_get addressed.variables.items from ≡ Some flag
foretold_first addressed from flag flags told = read_drop addressed.variables.items from ∙ ap (λ items. slice_get items 0) told.1

-- ---- locals in memory

pub lies_left : (scope : Scope) (one other : ℕ → Bool) → LieInMemory scope (λ number. one number || other number) → LieInMemory scope one
lies_left scope one other lies number home at is = lies number home at (or_left (one number) (other number) is)

pub lies_right : (scope : Scope) (one other : ℕ → Bool) → LieInMemory scope (λ number. one number || other number) → LieInMemory scope other
lies_right scope one other lies number home at is = lies number home at (or_right (one number) (other number) is)

pub lies_newest : (scope : Scope) (newest : Home) (is_taken : ℕ → Bool) → LieInMemory scope is_taken → (is_taken (length scope) ≡ true → newest.is_object ≡ true) → LieInMemory (newest ∷ scope) is_taken
lies_newest scope newest is_taken lies own number home at is = by (length scope == number) refl at
  where
    by : (b : Bool) → (length scope == number) ≡ b → (if b then Some newest else home_of scope number) ≡ Some home → home.is_object ≡ true
    by true same at =
        let there = eqb-true (length scope) number same in
        subst (λ (home : Home). home.is_object ≡ true) (same_Some newest home at) (own (ap is_taken there ∙ is))
    by false other at = lies number home at is

-- a new home lies in memory where its address is taken
new_lies : (source : Source) (points : List Op) (scope : Scope) (local : LocalDef) (is_taken : Bool) (from to : Spot) (home : Home) → LocalCode (program_in source) points scope local is_taken from to home → is_taken ≡ true → home.is_object ≡ true
new_lies source points scope local is_taken from to home code is =
    ap (λ (home : Home). home.is_object) code.0 ∙ or_right (is_array local.c_type) (is_struct local.c_type || is_taken) (or_right (is_struct local.c_type) is_taken is)

-- ---- scopes

map_push : (table : Interned) (scope : List memory_home.Home) (home : memory_home.Home) → map (home_in table) (scope ++ home ∷ []) ≡ map (home_in table) scope ++ home_in table home ∷ []
map_push table [] home = refl
map_push table (first ∷ scope) home = ap (λ homes. home_in table first ∷ homes) (map_push table scope home)

pub scope_push : (source : Source) (scope : List memory_home.Home) (home : memory_home.Home) → scope_of source (scope ++ home ∷ []) ≡ home_in (types_of_source source) home ∷ scope_of source scope
scope_push source scope home =
    let table = types_of_source source in
    ap reverse (map_push table scope home) ∙ reverse-append (map (home_in table) scope) (home_in table home ∷ [])

pub scope_length : (source : Source) (scope : List memory_home.Home) → length (scope_of source scope) ≡ length scope
scope_length source scope = length-reverse (map (home_in (types_of_source source)) scope) ∙ length-map scope (home_in (types_of_source source))

-- ---- blocks

module _ (source : Source) (addressed : Addressed) where
  abbrev table : Interned
  table = types_of_source source

  pub block_begins : (outer : List memory_home.Home) (ways : memory_ways.Ways) (items : List memory_item.BlockItem) (old : Builder) → IsScope source outer → ((within : Within) × BlockTyped source outer within items)
      → LieInMemory (scope_of source outer) (λ number. takes_block number (block_in (types_of_source source) items)) → Foretold addressed old.counts.variables (taken_block (length outer) (block_in (types_of_source source) items))
      → BlockSoFar source addressed outer outer ways items items old old
  block_begins outer ways items old homes typed lives foretold = record {
    homes = homes;
    typed = typed;
    lives = lives;
    foretold = foretold;
    code = λ points fills to code. code;
    begun = ([], sym (append-nil outer));
    grows = grows_same old;
    names = omega arith;
    variables = refl;
  }

  -- what is asked where a local is declared
  pub local_typed : (outer scope : List memory_home.Home) (ways : memory_ways.Ways) (all left : List memory_item.BlockItem) (local : memory_local.LocalDef) (old now : Builder) → BlockSoFar source addressed outer scope ways all (B.Local local ∷ left) old now
      → LocalTyped source scope local
  local_typed outer scope ways all left local old now far =
      let typed = far.typed.1 in
      let tree = local_in table local in
      record { stands = typed.stand.0; typed = (and_parts (is_local (context_in source scope) tree) (is_block (with_local tree.c_type (context_in source scope)) far.typed.0 (block_in table left)) typed.typed).0 }

  pub local_lives : (outer scope : List memory_home.Home) (ways : memory_ways.Ways) (all left : List memory_item.BlockItem) (local : memory_local.LocalDef) (old now : Builder) → BlockSoFar source addressed outer scope ways all (B.Local local ∷ left) old now
      → LieInMemory (scope_of source scope) (λ number. takes_optional number (local_in (types_of_source source) local).first)
  local_lives outer scope ways all left local old now far =
      lies_left (scope_of source scope) (λ number. takes_optional number (local_in table local).first) (λ number. takes_block number (block_in table left)) far.lives

  pub local_own : (outer scope : List memory_home.Home) (ways : memory_ways.Ways) (all left : List memory_item.BlockItem) (local : memory_local.LocalDef) (old now : Builder) → BlockSoFar source addressed outer scope ways all (B.Local local ∷ left) old now
      → (is_taken : Bool) × (slice_get addressed.variables.items now.counts.variables ≡ Some is_taken) × (takes_optional (length scope) (local_in (types_of_source source) local).first ≡ true → is_taken ≡ true)
  local_own outer scope ways all left local old now far =
      let first = takes_optional (length scope) (local_in table local).first in
      let rest = takes_block (length scope) (block_in table left) in
      (first || rest, foretold_first addressed now.counts.variables (first || rest) (taken_block (suc (length scope)) (block_in table left)) far.foretold, λ is. or_left first rest is)

  pub local_room : (outer scope : List memory_home.Home) (ways : memory_ways.Ways) (all left : List memory_item.BlockItem) (local : memory_local.LocalDef) (old now : Builder) → BlockSoFar source addressed outer scope ways all (B.Local local ∷ left) old now
      → HasRoom old (names_for (block_nodes (block_in (types_of_source source) all))) → HasRoom now (names_for (local_nodes (local_in (types_of_source source) local)))
  local_room outer scope ways all left local old now far room =
      let names = far.names in
      omega (arith, names, room)

  pub local_next : (outer scope : List memory_home.Home) (ways : memory_ways.Ways) (all left : List memory_item.BlockItem) (local : memory_local.LocalDef) (old now new : Builder) (inner : List memory_home.Home)
      → BlockSoFar source addressed outer scope ways all (B.Local local ∷ left) old now
      → (home : memory_home.Home) × (inner ≡ scope ++ home ∷ []) × ((is_taken : Bool) → slice_get addressed.variables.items now.counts.variables ≡ Some is_taken → LocalLowers source scope local is_taken home now new)
      → IsScope source inner → Grows now new → Adds now new (names_for (local_nodes (local_in (types_of_source source) local))) → new.counts.variables ≡ now.counts.variables + 1
      → BlockSoFar source addressed outer inner ways all left old new
  local_next outer scope ways all left local old now new inner far begins homes grows adds counted =
      let tree = local_in table local in
      let others = block_in table left in
      let here = scope_of source scope in
      let first = takes_optional (length scope) tree.first in
      let rest = takes_block (length scope) others in
      let told = foretold_first addressed now.counts.variables (first || rest) (taken_block (suc (length scope)) others) far.foretold in
      let lowers = begins.2 (first || rest) told in
      let home = home_in table begins.0 in
      let inner_is : scope_of source inner ≡ home ∷ here = ap (scope_of source) begins.1 ∙ scope_push source scope begins.0 in
      let deep : length inner ≡ suc (length scope) = omega (arith, ap length begins.1, length-append scope (begins.0 ∷ [])) in
      let same_depth = scope_length source scope in
      let now_points = points_in table new in
      let code = lowers now_points (fills_same now_points) in
      let type_is : home.c_type ≡ tree.c_type = ap (λ (home : Home). home.c_type) code.0 in
      let parts = and_parts (is_local (context_in source scope) tree) (is_block (with_local tree.c_type (context_in source scope)) far.typed.0 others) far.typed.1.typed in
      let inside = subst (λ t. is_block (with_local t (context_in source scope)) far.typed.0 others ≡ true) (sym type_is) parts.1 in
      let more = lies_right here (λ number. takes_optional number tree.first) (λ number. takes_block number others) far.lives in
      let lies = lies_newest here home (λ number. takes_block number others) more (λ is. new_lies source now_points here tree (first || rest) (spot_of table now) (spot_of table new) home code (or_right first rest (ap (λ n. takes_block n others) (sym same_depth) ∙ is))) in
      let names = far.names in
      let variables = far.variables in
      record {
        homes = homes;
        typed = (far.typed.0, record { stand = far.typed.1.stand.1; typed = subst (λ scope. is_block (context_of (program_in source) scope) far.typed.0 others ≡ true) (sym inner_is) inside });
        lives = subst (λ scope. LieInMemory scope (λ number. takes_block number others)) (sym inner_is) lies;
        foretold = subst (λ n. Foretold addressed new.counts.variables (taken_block n others)) (sym deep) (foretold_behind addressed now.counts.variables new.counts.variables ((first || rest) ∷ []) (taken_block (suc (length scope)) others) counted far.foretold);
        code = λ points fills to code.
            let at_now = fills_grown table now new points grows fills in
            let begun = subst (λ n. LocalCode (program_in source) points here tree (takes_optional n tree.first || takes_block n others) (spot_of table now) (spot_of table new) home) (sym same_depth) (lowers points fills) in
            let rest_code = subst (λ scope. BlockCode (program_in source) points scope others (spot_of table new) to (ways_in source points ways)) inner_is code in
            far.code points at_now to (spot_of table new, home, begun, rest_code);
        begun = (far.begun.0 ++ begins.0 ∷ [], begins.1 ∙ ap (λ scope. scope ++ begins.0 ∷ []) far.begun.1 ∙ append_assoc outer far.begun.0 (begins.0 ∷ []));
        grows = grows_on old now new far.grows grows;
        names = omega (arith, names, adds);
        variables = ap (λ n. new.counts.variables + length (taken_block n others)) deep ∙ omega (arith, variables, counted);
      }

  pub stmt_typed : (outer scope : List memory_home.Home) (ways : memory_ways.Ways) (all left : List memory_item.BlockItem) (stmt : memory_stmt.Stmt) (old now : Builder) → BlockSoFar source addressed outer scope ways all (B.Statement stmt ∷ left) old now
      → (within : Within) × StmtTyped source scope within stmt
  stmt_typed outer scope ways all left stmt old now far =
      let typed = far.typed.1 in
      (far.typed.0, record { stands = typed.stand.0; typed = (and_parts (is_stmt (context_in source scope) far.typed.0 (stmt_in table stmt)) (is_block (context_in source scope) far.typed.0 (block_in table left)) typed.typed).0 })

  pub stmt_lives : (outer scope : List memory_home.Home) (ways : memory_ways.Ways) (all left : List memory_item.BlockItem) (stmt : memory_stmt.Stmt) (old now : Builder) → BlockSoFar source addressed outer scope ways all (B.Statement stmt ∷ left) old now
      → LieInMemory (scope_of source scope) (λ number. takes_stmt number (stmt_in (types_of_source source) stmt))
  stmt_lives outer scope ways all left stmt old now far = lies_left (scope_of source scope) (λ number. takes_stmt number (stmt_in table stmt)) (λ number. takes_block number (block_in table left)) far.lives

  pub stmt_foretold : (outer scope : List memory_home.Home) (ways : memory_ways.Ways) (all left : List memory_item.BlockItem) (stmt : memory_stmt.Stmt) (old now : Builder) → BlockSoFar source addressed outer scope ways all (B.Statement stmt ∷ left) old now
      → Foretold addressed now.counts.variables (taken_stmt (length scope) (stmt_in (types_of_source source) stmt))
  stmt_foretold outer scope ways all left stmt old now far =
      foretold_front addressed now.counts.variables now.counts.variables (taken_stmt (length scope) (stmt_in table stmt)) (taken_block (length scope) (block_in table left)) refl far.foretold

  pub stmt_room : (outer scope : List memory_home.Home) (ways : memory_ways.Ways) (all left : List memory_item.BlockItem) (stmt : memory_stmt.Stmt) (old now : Builder) → BlockSoFar source addressed outer scope ways all (B.Statement stmt ∷ left) old now
      → HasRoom old (names_for (block_nodes (block_in (types_of_source source) all))) → HasRoom now (names_for (stmt_nodes (stmt_in (types_of_source source) stmt)))
  stmt_room outer scope ways all left stmt old now far room =
      let names = far.names in
      omega (arith, names, room)

  pub stmt_next : (outer scope : List memory_home.Home) (ways : memory_ways.Ways) (all left : List memory_item.BlockItem) (stmt : memory_stmt.Stmt) (old now new : Builder) (inner : List memory_home.Home)
      → BlockSoFar source addressed outer scope ways all (B.Statement stmt ∷ left) old now
      → StmtLowers source scope ways stmt now new → inner ≡ scope → Grows now new → Adds now new (names_for (stmt_nodes (stmt_in (types_of_source source) stmt)))
      → Declares now new (taken_stmt (length scope) (stmt_in (types_of_source source) stmt))
      → BlockSoFar source addressed outer inner ways all left old new
  stmt_next outer scope ways all left stmt old now new inner far lowers same grows adds declares =
      let tree = stmt_in table stmt in
      let others = block_in table left in
      let typed = far.typed.1 in
      let parts = and_parts (is_stmt (context_in source scope) far.typed.0 tree) (is_block (context_in source scope) far.typed.0 others) typed.typed in
      let names = far.names in
      let variables = far.variables in
      let long = length-append (taken_stmt (length scope) tree) (taken_block (length scope) others) in
      subst (λ inner. BlockSoFar source addressed outer inner ways all left old new) (sym same) (record {
        homes = far.homes;
        typed = (far.typed.0, record { stand = typed.stand.1; typed = parts.1 });
        lives = lies_right (scope_of source scope) (λ number. takes_stmt number tree) (λ number. takes_block number others) far.lives;
        foretold = foretold_behind addressed now.counts.variables new.counts.variables (taken_stmt (length scope) tree) (taken_block (length scope) others) declares far.foretold;
        code = λ points fills to code. far.code points (fills_grown table now new points grows fills) to (spot_of table new, lowers points fills, code);
        begun = far.begun;
        grows = grows_on old now new far.grows grows;
        names = omega (arith, names, adds);
        variables = omega (arith, variables, declares, long);
      })

  pub block_ends : (outer scope : List memory_home.Home) (ways : memory_ways.Ways) (all : List memory_item.BlockItem) (old now : Builder) → BlockSoFar source addressed outer scope ways all [] old now → BlockLowers source outer ways all old now
  block_ends outer scope ways all old now far = λ points fills. far.code points fills (spot_of table now) refl

  -- ---- `switch`

  tests_front : (points : List Op) (own : IntType) (switched : Register) (tests : ℕ) (cases : List Label) (label : Label) → TestsStand points own switched tests (cases ++ label ∷ []) → TestsStand points own switched tests cases
  tests_front points own switched tests [] label stand = tt
  tests_front points own switched tests (first ∷ cases) label stand = (stand.0, tests_front points own switched (suc tests) cases label stand.1)

  tests_last : (points : List Op) (own : IntType) (switched : Register) (tests last : ℕ) (cases : List Label) (label : Label) → last ≡ tests + length cases → TestsStand points own switched tests (cases ++ label ∷ [])
      → HasOp points last (label_test own switched (stored label.value) label.place.0 (suc last))
  tests_last points own switched tests last [] label is stand =
      subst (λ at. HasOp points at (label_test own switched (stored label.value) label.place.0 (suc at))) (omega (arith, is)) stand.0
  tests_last points own switched tests last (first ∷ cases) label is stand = tests_last points own switched (suc tests) last cases label (omega (arith, is)) stand.1

  pub items_begin : (scope : List memory_home.Home) (ways : memory_ways.Ways) (items : List memory_switch.SwitchItem) (old : Builder) → ((within : Within) × (own : Option IntType) × ItemsTyped source scope within own items)
      → LieInMemory (scope_of source scope) (λ number. takes_items number (switch_in (types_of_source source) items)) → Foretold addressed old.counts.variables (taken_items (length scope) (switch_in (types_of_source source) items))
      → ItemsSoFar source addressed scope ways items items [] None old old
  items_begin scope ways items old typed lives foretold = record {
    typed = typed;
    lives = lives;
    foretold = foretold;
    code = λ points fills own switched tests last to later stand code.
        let none : tests + 0 ≡ tests = omega arith in
        subst (λ tests. SwitchCode (program_in source) points (scope_of source scope) (switch_in table items) own switched tests (spot_of table old) to last later (ways_in source points ways)) none code;
    grows = grows_same old;
    names = omega arith;
    variables = refl;
  }

  pub case_fits : (scope : List memory_home.Home) (ways : memory_ways.Ways) (all left : List memory_switch.SwitchItem) (value : ℤ) (cases : List Label) (default : Option PointId) (old now : Builder)
      → ItemsSoFar source addressed scope ways all (W.Case value ∷ left) cases default old now → stored value ≡ value
  case_fits scope ways all left value cases default old now far =
      same_int w128 value (label_fits far.typed.1 value (and_parts (is_label far.typed.1 value) (are_items (context_in source scope) far.typed.0 far.typed.1 (switch_in table left)) far.typed.2.typed).0)

  pub case_next : (scope : List memory_home.Home) (ways : memory_ways.Ways) (all left : List memory_switch.SwitchItem) (value held : ℤ) (cases : List Label) (default : Option PointId) (old now : Builder) (place : PointId)
      → stored held ≡ value → place.0 ≡ length now.points.items → ItemsSoFar source addressed scope ways all (W.Case value ∷ left) cases default old now
      → ItemsSoFar source addressed scope ways all left (cases ++ record { value = held; place = place } ∷ []) default old now
  case_next scope ways all left value held cases default old now place same here far =
      let typed = far.typed.2 in
      let others = switch_in table left in
      let names = far.names in
      let variables = far.variables in
      record {
        typed = (far.typed.0, far.typed.1, record { stand = typed.stand; typed = (and_parts (is_label far.typed.1 value) (are_items (context_in source scope) far.typed.0 far.typed.1 others) typed.typed).1 });
        lives = far.lives;
        foretold = far.foretold;
        code = λ points fills own switched tests last to later stand code.
            let label : Label = record { value = held; place = place } in
            let test = tests_last points own switched tests (tests + length cases) cases label refl stand in
            let at = test ∙ (λ i. Some (label_test own switched (same i) (here i) (suc (tests + length cases)))) in
            let more : tests + length (cases ++ label ∷ []) ≡ suc (tests + length cases) = omega (arith, length-append cases (label ∷ [])) in
            let rest = subst (λ tests. SwitchCode (program_in source) points (scope_of source scope) others own switched tests (spot_of table now) to last later (ways_in source points ways)) more code in
            far.code points fills own switched tests last to later (tests_front points own switched tests cases label stand) (at, rest);
        grows = far.grows;
        names = omega (arith, names);
        variables = variables;
      }

  later_default : (default : Option PointId) (here : PointId) (at : ℕ) (later : Option ℕ) → here.0 ≡ at → or_later (place_of default) (Some at) ≡ or_later (place_of (Some (unwrap_or default here))) later
  later_default None here at later is = ap Some (sym is)
  later_default (Some place) here at later is = refl

  pub default_next : (scope : List memory_home.Home) (ways : memory_ways.Ways) (all left : List memory_switch.SwitchItem) (cases : List Label) (default : Option PointId) (old now : Builder) (here : PointId)
      → here.0 ≡ length now.points.items → ItemsSoFar source addressed scope ways all (W.Default ∷ left) cases default old now
      → ItemsSoFar source addressed scope ways all left cases (Some (unwrap_or default here)) old now
  default_next scope ways all left cases default old now here is far =
      let names = far.names in
      record {
        typed = (far.typed.0, far.typed.1, record { stand = far.typed.2.stand; typed = far.typed.2.typed });
        lives = far.lives;
        foretold = far.foretold;
        code = λ points fills own switched tests last to later stand code.
            subst (λ default. SwitchCode (program_in source) points (scope_of source scope) (switch_in table all) own switched tests (spot_of table old) to last default (ways_in source points ways))
            (later_default default here (length now.points.items) later is)
            (far.code points fills own switched tests last to (Some (length now.points.items)) stand (later, refl, code));
        grows = far.grows;
        names = omega (arith, names);
        variables = far.variables;
      }

  pub item_typed : (scope : List memory_home.Home) (ways : memory_ways.Ways) (all left : List memory_switch.SwitchItem) (stmt : memory_stmt.Stmt) (cases : List Label) (default : Option PointId) (old now : Builder)
      → ItemsSoFar source addressed scope ways all (W.Statement stmt ∷ left) cases default old now → (within : Within) × StmtTyped source scope within stmt
  item_typed scope ways all left stmt cases default old now far =
      let typed = far.typed.2 in
      (far.typed.0, record { stands = typed.stand.0; typed = (and_parts (is_stmt (context_in source scope) far.typed.0 (stmt_in table stmt)) (are_items (context_in source scope) far.typed.0 far.typed.1 (switch_in table left)) typed.typed).0 })

  pub item_lives : (scope : List memory_home.Home) (ways : memory_ways.Ways) (all left : List memory_switch.SwitchItem) (stmt : memory_stmt.Stmt) (cases : List Label) (default : Option PointId) (old now : Builder)
      → ItemsSoFar source addressed scope ways all (W.Statement stmt ∷ left) cases default old now → LieInMemory (scope_of source scope) (λ number. takes_stmt number (stmt_in (types_of_source source) stmt))
  item_lives scope ways all left stmt cases default old now far = lies_left (scope_of source scope) (λ number. takes_stmt number (stmt_in table stmt)) (λ number. takes_items number (switch_in table left)) far.lives

  pub item_foretold : (scope : List memory_home.Home) (ways : memory_ways.Ways) (all left : List memory_switch.SwitchItem) (stmt : memory_stmt.Stmt) (cases : List Label) (default : Option PointId) (old now : Builder)
      → ItemsSoFar source addressed scope ways all (W.Statement stmt ∷ left) cases default old now → Foretold addressed now.counts.variables (taken_stmt (length scope) (stmt_in (types_of_source source) stmt))
  item_foretold scope ways all left stmt cases default old now far =
      foretold_front addressed now.counts.variables now.counts.variables (taken_stmt (length scope) (stmt_in table stmt)) (taken_items (length scope) (switch_in table left)) refl far.foretold

  pub item_room : (scope : List memory_home.Home) (ways : memory_ways.Ways) (all left : List memory_switch.SwitchItem) (stmt : memory_stmt.Stmt) (cases : List Label) (default : Option PointId) (old now : Builder)
      → ItemsSoFar source addressed scope ways all (W.Statement stmt ∷ left) cases default old now
      → HasRoom old (names_for (switch_nodes (switch_in (types_of_source source) all))) → HasRoom now (names_for (stmt_nodes (stmt_in (types_of_source source) stmt)))
  item_room scope ways all left stmt cases default old now far room =
      let names = far.names in
      omega (arith, names, room)

  pub item_next : (scope : List memory_home.Home) (ways : memory_ways.Ways) (all left : List memory_switch.SwitchItem) (stmt : memory_stmt.Stmt) (cases : List Label) (default : Option PointId) (old now new : Builder)
      → ItemsSoFar source addressed scope ways all (W.Statement stmt ∷ left) cases default old now
      → StmtLowers source scope ways stmt now new → Grows now new → Adds now new (names_for (stmt_nodes (stmt_in (types_of_source source) stmt)))
      → Declares now new (taken_stmt (length scope) (stmt_in (types_of_source source) stmt))
      → ItemsSoFar source addressed scope ways all left cases default old new
  item_next scope ways all left stmt cases default old now new far lowers grows adds declares =
      let tree = stmt_in table stmt in
      let others = switch_in table left in
      let typed = far.typed.2 in
      let names = far.names in
      let variables = far.variables in
      let long = length-append (taken_stmt (length scope) tree) (taken_items (length scope) others) in
      record {
        typed = (far.typed.0, far.typed.1, record { stand = typed.stand.1; typed = (and_parts (is_stmt (context_in source scope) far.typed.0 tree) (are_items (context_in source scope) far.typed.0 far.typed.1 others) typed.typed).1 });
        lives = lies_right (scope_of source scope) (λ number. takes_stmt number tree) (λ number. takes_items number others) far.lives;
        foretold = foretold_behind addressed now.counts.variables new.counts.variables (taken_stmt (length scope) tree) (taken_items (length scope) others) declares far.foretold;
        code = λ points fills own switched tests last to later stand code.
            far.code points (fills_grown table now new points grows fills) own switched tests last to later stand (spot_of table new, lowers points fills, code);
        grows = grows_on old now new far.grows grows;
        names = omega (arith, names, adds);
        variables = omega (arith, variables, declares, long);
      }

  or_none : (default : Option ℕ) → or_later default None ≡ default
  or_none None = refl
  or_none (Some place) = refl

  pub items_end : (scope : List memory_home.Home) (ways : memory_ways.Ways) (all : List memory_switch.SwitchItem) (cases : List Label) (default : Option PointId) (old now : Builder) → ItemsSoFar source addressed scope ways all [] cases default old now
      → (points : List Op) → Fills (points_in (types_of_source source) now) points → (own : IntType) (switched : Register) (tests : ℕ) → TestsStand points own switched tests cases
      → SwitchCode (program_in source) points (scope_of source scope) (switch_in (types_of_source source) all) own switched tests (spot_of (types_of_source source) old) (spot_of (types_of_source source) now) (tests + length cases) (place_of default)
      (ways_in source points ways)
  items_end scope ways all cases default old now far points fills own switched tests stand =
      subst (λ default. SwitchCode (program_in source) points (scope_of source scope) (switch_in table all) own switched tests (spot_of table old) (spot_of table now) (tests + length cases) default (ways_in source points ways)) (or_none (place_of default))
      (far.code points fills own switched tests (tests + length cases) (spot_of table now) None stand (refl, refl, refl))

-- ---- the tests of labels

pub tests_begin : (switched : Switched) (cases : List Label) (old : Builder) → TestsSoFar switched cases cases old old
tests_begin switched cases old = record {
  code = λ table points fills stand. stand;
  at = λ table. refl;
  spot = λ table. refl;
  grows = grows_same old;
  counts = refl;
}

pub tests_next : (switched : Switched) (all left : List Label) (label : Label) (old now new : Builder) → TestsSoFar switched all (label ∷ left) old now
    → Leads (λ table points from to. Emits points (label_test switched.int_type switched.register (stored label.value) label.place.0 (suc from.at)) from to) now new → Grows now new → new.counts ≡ now.counts
    → TestsSoFar switched all left old new
tests_next switched all left label old now new far emits grows counts =
    let moved : (table : Interned) → spot_of table new ≡ behind (spot_of table now) = λ table. (emits table (points_in table new) (fills_same (points_in table new))).1 in
    record {
      code = λ table points fills stand.
          let longer : length new.points.items ≡ suc (length now.points.items) = ap (λ (spot : Spot). spot.at) (moved table) in
          far.code table points (fills_grown table now new points grows fills)
          ((emits table points fills).0, subst (λ at. TestsStand points switched.int_type switched.register at left) longer stand);
      at = λ table.
          let at = far.at table in
          let longer : length new.points.items ≡ suc (length now.points.items) = ap (λ (spot : Spot). spot.at) (moved table) in
          omega (arith, at, longer);
      spot = λ table. moved table ∙ (λ i. record (far.spot table i) { at = suc (length now.points.items) }) ∙ (λ i. record (spot_of table old) { at = ap (λ (spot : Spot). spot.at) (sym (moved table)) i });
      grows = grows_on old now new far.grows grows;
      counts = counts ∙ far.counts;
    }

pub tests_end : (switched : Switched) (all : List Label) (old now : Builder) → TestsSoFar switched all [] old now → Leads (λ table. TestsCode all switched) old now
tests_end switched all old now far = λ table points fills.
    let at = far.at table in
    let count : length now.points.items ≡ length old.points.items + length all = omega (arith, at) in
    (far.code table points fills tt, far.spot table ∙ (λ i. record (spot_of table old) { at = count i }))

-- ---- what a `for` begins with

module _ (source : Source) (points : List Op) (is_taken : ℕ → Bool) where
  locals_lie : (scope inner : Scope) (locals : List LocalDef) (from to : Spot) → LocalsCode (program_in source) points scope is_taken locals from to inner → LieInMemory scope is_taken → LieInMemory inner is_taken
  locals_lie scope inner [] from to code lies = subst (λ scope. LieInMemory scope is_taken) (sym code.1) lies
  locals_lie scope inner (first ∷ others) from to code lies =
      locals_lie (code.1 ∷ scope) inner others code.0 to code.3
      (lies_newest scope code.1 is_taken lies (λ is. new_lies source points scope first (takes_first (length scope) (first ∷ others) || is_taken (length scope)) from code.0 code.1 code.2 (or_right (takes_first (length scope) (first ∷ others)) (is_taken (length scope)) is)))

  locals_around : (scope inner : Scope) (locals : List LocalDef) (from to : Spot) → LocalsCode (program_in source) points scope is_taken locals from to inner → context_of (program_in source) inner ≡ with_locals locals (context_of (program_in source) scope)
  locals_around scope inner [] from to code = ap (context_of (program_in source)) code.1
  locals_around scope inner (first ∷ others) from to code =
      locals_around (code.1 ∷ scope) inner others code.0 to code.3
      ∙ ap (λ t. with_locals others (with_local t (context_of (program_in source) scope))) (ap (λ (home : Home). home.c_type) code.2.0)

  start_lies : (scope inner : Scope) (start : ForStart) (from to : Spot) → StartCode (program_in source) points scope is_taken start from to inner → LieInMemory scope is_taken → LieInMemory inner is_taken
  start_lies scope inner T.StartNothing from to code lies = subst (λ scope. LieInMemory scope is_taken) (sym code.1) lies
  start_lies scope inner (T.StartValue value) from to code lies = subst (λ scope. LieInMemory scope is_taken) (sym code.2) lies
  start_lies scope inner (T.StartLocals locals) from to code lies = locals_lie scope inner locals from to code lies

  start_around : (scope inner : Scope) (start : ForStart) (from to : Spot) → StartCode (program_in source) points scope is_taken start from to inner → context_of (program_in source) inner ≡ with_start start (context_of (program_in source) scope)
  start_around scope inner T.StartNothing from to code = ap (context_of (program_in source)) code.1
  start_around scope inner (T.StartValue value) from to code = ap (context_of (program_in source)) code.2
  start_around scope inner (T.StartLocals locals) from to code = locals_around scope inner locals from to code

module _ (source : Source) (scope inner : List memory_home.Home) (is_taken : ℕ → Bool) (start : memory_start.ForStart) (old new : Builder) (lowers : StartLowers source scope is_taken start inner old new) where
  begun_code : StartCode (program_in source) (points_in (types_of_source source) new) (scope_of source scope) is_taken (start_in (types_of_source source) start) (spot_of (types_of_source source) old) (spot_of (types_of_source source) new) (scope_of source inner)
  begun_code = lowers (points_in (types_of_source source) new) (fills_same (points_in (types_of_source source) new))

  -- the locals that begin to live lie in memory where their address is taken
  pub begun_lie : LieInMemory (scope_of source scope) is_taken → LieInMemory (scope_of source inner) is_taken
  begun_lie lies = start_lies source (points_in (types_of_source source) new) is_taken (scope_of source scope) (scope_of source inner) (start_in (types_of_source source) start) (spot_of (types_of_source source) old) (spot_of (types_of_source source) new) begun_code lies

  pub begun_around : context_in source inner ≡ with_start (start_in (types_of_source source) start) (context_in source scope)
  begun_around = start_around source (points_in (types_of_source source) new) is_taken (scope_of source scope) (scope_of source inner) (start_in (types_of_source source) start) (spot_of (types_of_source source) old) (spot_of (types_of_source source) new) begun_code
