use Rattle.std.proofs.Common.{rules, ◌≡◌, suc, ◌+◌, false, ◌||◌, List, ◌++◌, Some, length, length-append, refl, sym, ap, subst, ◌∙◌, arith, Vec, Global, drop, [], ◌∷◌, None, unwrap_or}
use Rattle.c_typed.specs.declared.statement.Stmt.{the_lemmas as stmt_lemmas}
use Rattle.c_typed.specs.Views.{value_in}
use Rattle.c_typed.specs.StatementViews.{optional_value_in, start_in, stmt_in, StmtStands, block_in, switch_in}
use Rattle.c_typed.specs.TypedNodes.{value_nodes, optional_nodes, start_nodes, stmt_nodes, block_nodes, switch_nodes}
use Rattle.c_typed.specs.Statements.{Within}
use Rattle.tac_ir.specs.Views.{tree_of}
use Rattle.tac_build.specs.declared.homes.Home.{Home}
use Rattle.tac_build.specs.Homes.{takes, takes_optional, takes_stmt, takes_items}
use Rattle.tac_build.specs.Taken.{taken_start, taken_stmt, taken_block, taken_items, taken_in_turns, depth_behind}
use Rattle.tac_build.specs.Building.{HasRoom, Adds, Leads}
use Rattle.tac_build.specs.Lowering.{names_for, types_of_source, scope_of, IsScope, ValueTyped, LieInMemory}
use Rattle.tac_build.specs.LoweringStatements.{StmtTyped, ConditionTyped, StepTyped, ReturnTyped, Foretold, Declares, EffectLowers, ConditionLowers, OwnLowers, StmtLowers, TestTyped, TestLowers, StepLowers, turn_op, SwitchedLowers, TestsCode, stored}
use Rattle.tac_build.proofs.Points.{on_ok, on_ok_then, grows_same, grows_on, grows_beyond}
use Rattle.tac_build.proofs.ValueParts.{step_typed}
use Rattle.tac_build.proofs.InOrder.{foretold_at, foretold_front, foretold_behind, lies_left, lies_right, begun_lie, begun_around, block_begins, local_typed, local_lives, local_own, local_room, local_next, stmt_typed, stmt_lives, stmt_foretold, stmt_room, stmt_next, block_ends, items_begin, case_fits, case_next, default_next, item_typed, item_lives, item_foretold, item_room, item_next, items_end}
use Rattle.tac_build.proofs.AtItem.{scope_back, block_at, block_joined, block_done, block_adds, block_declares, items_at, items_joined, items_done, items_add, items_declare}
use Rattle.tac_build.proofs.Repeating.{Reserves, grows_filled, grows_past, variables_same, names_same, still_on, still_past, later_apart, if_lowers, if_else_lowers, for_lowers, while_lowers, do_lowers, turns_lower, switch_lowers}
use Rattle.tac_build.proofs.StmtParts.{block_is, switch_is, asked, block_typed, if_typed, if_body, if_else_typed, if_else_body, if_else_otherwise, while_typed, while_body, do_typed, do_body, for_start, for_test, for_step, for_body, for_starts, for_lives, for_foretold, for_behind, switch_value, switch_typed}
use Rattle.tac_build.proofs.StmtDone.{in_slice, of_slice, comes_to, adds_all, declares_all, declares_none, own_in}
use Rattle.std.specs.Prelude.{◌||◌}
use Rattle.tac_build.specs.declared.switches.Label.{Label}
use Rattle.tac_build.proofs.SoFar.{ItemsSoFar}
use Rattle.c_typed.specs.Typed as T
use Rattle.tac_ir.specs.Code as C
use Rattle.c_typed.specs.declared.statement.BlockItem.TheVariants as B
use Rattle.c_typed.specs.declared.statement.SwitchItem.TheVariants as W
use Rattle.c_typed.specs.declared.statement.BlockItem.{the_lemmas as block_lemmas}
use Rattle.tac_build.proofs.builder.Builder.+statements.Goals.{block-in-Local+in_ok-declare-in-Local, block-in-Statement+in_ok-statement-in-Statement, switch_items-in-Case+in_ok-push-in-Case, switch_items-in-Default, switch_items-in-Statement+in_ok-statement-in-Statement}
use Rattle.tac_build.proofs.builder.Builder.+statements.Goals as goal

pub statement-block-requires : goal.statement-block-requires
statement-block-requires t c = (
  search (rules, stmt_lemmas, block_lemmas),
  (
    c.requires.source,
    (
      c.requires.homes,
      (
        (let source = c.args.source.now in
            let addressed = c.args.addressed.now in
            let scope = c.args.scope.now.items in
            let table = types_of_source source in
            let old = c.args.self.now in
            let stmt = c.args.stmt.now in
            let slice = c.as_slice.result.now in
            let tree = T.BlockStmt (block_in table slice) in
            let is : stmt_in table stmt ≡ tree = block_is table stmt c.in-Block.items slice c.in-Block.is c.as_slice.ensures.value in
            let ask = asked source addressed scope stmt tree old is c.requires.typed c.requires.lives c.requires.foretold c.requires.room in
            block_typed source addressed scope stmt c.in-Block.items slice old c.in-Block.is c.as_slice.ensures.value c.requires.typed.1.stands ask),
        (
          (let source = c.args.source.now in
              let addressed = c.args.addressed.now in
              let scope = c.args.scope.now.items in
              let table = types_of_source source in
              let old = c.args.self.now in
              let stmt = c.args.stmt.now in
              let slice = c.as_slice.result.now in
              let tree = T.BlockStmt (block_in table slice) in
              let is : stmt_in table stmt ≡ tree = block_is table stmt c.in-Block.items slice c.in-Block.is c.as_slice.ensures.value in
              let ask = asked source addressed scope stmt tree old is c.requires.typed c.requires.lives c.requires.foretold c.requires.room in
              ask.lives),
          (
            (let source = c.args.source.now in
                let addressed = c.args.addressed.now in
                let scope = c.args.scope.now.items in
                let table = types_of_source source in
                let old = c.args.self.now in
                let stmt = c.args.stmt.now in
                let slice = c.as_slice.result.now in
                let tree = T.BlockStmt (block_in table slice) in
                let is : stmt_in table stmt ≡ tree = block_is table stmt c.in-Block.items slice c.in-Block.is c.as_slice.ensures.value in
                let ask = asked source addressed scope stmt tree old is c.requires.typed c.requires.lives c.requires.foretold c.requires.room in
                ask.foretold),
            (let source = c.args.source.now in
                let addressed = c.args.addressed.now in
                let scope = c.args.scope.now.items in
                let table = types_of_source source in
                let old = c.args.self.now in
                let stmt = c.args.stmt.now in
                let slice = c.as_slice.result.now in
                let tree = T.BlockStmt (block_in table slice) in
                let is : stmt_in table stmt ≡ tree = block_is table stmt c.in-Block.items slice c.in-Block.is c.as_slice.ensures.value in
                let ask = asked source addressed scope stmt tree old is c.requires.typed c.requires.lives c.requires.foretold c.requires.room in
                let room = ask.room in
                omega (arith, room)),
          ),
        ),
      ),
    ),
  ),
)

pub statement-returns-in-Block-clause-code : goal.statement-returns-in-Block-clause-code
statement-returns-in-Block-clause-code t c =
    let source = c.args.source.now in
    let addressed = c.args.addressed.now in
    let scope = c.args.scope.now.items in
    let table = types_of_source source in
    let old = c.args.self.now in
    let stmt = c.args.stmt.now in
    let slice = c.as_slice.result.now in
    let tree = T.BlockStmt (block_in table slice) in
    let is : stmt_in table stmt ≡ tree = block_is table stmt c.in-Block.items slice c.in-Block.is c.as_slice.ensures.value in
    on_ok_then c.block.result (comes_to source scope stmt tree is old c.block.new.self c.args.ways) c.block.ensures.code

pub statement-returns-in-Block-clause-scope : goal.statement-returns-in-Block-clause-scope
statement-returns-in-Block-clause-scope t c = c.block.ensures.scope

pub statement-returns-in-Block-clause-grows : goal.statement-returns-in-Block-clause-grows
statement-returns-in-Block-clause-grows t c = c.block.ensures.grows

pub statement-returns-in-Block-clause-adds : goal.statement-returns-in-Block-clause-adds
statement-returns-in-Block-clause-adds t c =
    let source = c.args.source.now in
    let addressed = c.args.addressed.now in
    let scope = c.args.scope.now.items in
    let table = types_of_source source in
    let old = c.args.self.now in
    let stmt = c.args.stmt.now in
    let slice = c.as_slice.result.now in
    let tree = T.BlockStmt (block_in table slice) in
    let is : stmt_in table stmt ≡ tree = block_is table stmt c.in-Block.items slice c.in-Block.is c.as_slice.ensures.value in
    on_ok_then c.block.result (adds_all source scope stmt tree is old c.block.new.self (names_for (block_nodes (block_in table slice))) (omega arith)) c.block.ensures.adds

pub statement-returns-in-Block-clause-variables : goal.statement-returns-in-Block-clause-variables
statement-returns-in-Block-clause-variables t c =
    let source = c.args.source.now in
    let addressed = c.args.addressed.now in
    let scope = c.args.scope.now.items in
    let table = types_of_source source in
    let old = c.args.self.now in
    let stmt = c.args.stmt.now in
    let slice = c.as_slice.result.now in
    let tree = T.BlockStmt (block_in table slice) in
    let is : stmt_in table stmt ≡ tree = block_is table stmt c.in-Block.items slice c.in-Block.is c.as_slice.ensures.value in
    on_ok_then c.block.result (declares_all source scope stmt tree is old c.block.new.self (taken_block (length scope) (block_in table slice)) refl) c.block.ensures.variables

pub statement-returns-in-Empty-clause-code : goal.statement-returns-in-Empty-clause-code
statement-returns-in-Empty-clause-code t c =
    let source = c.args.source.now in
    let addressed = c.args.addressed.now in
    let scope = c.args.scope.now.items in
    let table = types_of_source source in
    let old = c.args.self.now in
    let stmt = c.args.stmt.now in
    let tree = T.Empty in
    let is : stmt_in table stmt ≡ tree = ap (stmt_in table) c.in-Empty.is in
    comes_to source scope stmt tree is old old c.args.ways (λ points fills. refl)

pub statement-returns-in-Empty-clause-grows : goal.statement-returns-in-Empty-clause-grows
statement-returns-in-Empty-clause-grows t c = grows_same c.args.self.now

pub statement-returns-in-Empty-clause-adds : goal.statement-returns-in-Empty-clause-adds
statement-returns-in-Empty-clause-adds t c =
    let source = c.args.source.now in
    let addressed = c.args.addressed.now in
    let scope = c.args.scope.now.items in
    let table = types_of_source source in
    let old = c.args.self.now in
    let stmt = c.args.stmt.now in
    let tree = T.Empty in
    let is : stmt_in table stmt ≡ tree = ap (stmt_in table) c.in-Empty.is in
    adds_all source scope stmt tree is old old 0 (omega arith) (omega arith)

pub statement-returns-in-Empty-clause-variables : goal.statement-returns-in-Empty-clause-variables
statement-returns-in-Empty-clause-variables t c =
    let source = c.args.source.now in
    let addressed = c.args.addressed.now in
    let scope = c.args.scope.now.items in
    let table = types_of_source source in
    let old = c.args.self.now in
    let stmt = c.args.stmt.now in
    let tree = T.Empty in
    let is : stmt_in table stmt ≡ tree = ap (stmt_in table) c.in-Empty.is in
    declares_none source scope stmt tree is old old refl refl

pub statement-effect-requires-clause-homes : goal.statement-effect-requires-clause-homes
statement-effect-requires-clause-homes t c = in_slice (IsScope c.args.source.now) c.as_slice-in-Expression.result.now c.args.scope.now.items c.as_slice-in-Expression.ensures.value c.requires.homes

pub statement-effect-requires-clause-typed : goal.statement-effect-requires-clause-typed
statement-effect-requires-clause-typed t c =
    let source = c.args.source.now in
    let addressed = c.args.addressed.now in
    let scope = c.args.scope.now.items in
    let table = types_of_source source in
    let old = c.args.self.now in
    let stmt = c.args.stmt.now in
    let value = c.in-Expression.value in
    let slice = c.as_slice-in-Expression.result.now in
    let same = c.as_slice-in-Expression.ensures.value in
    let tree = T.Expression (value_in table value) in
    let is : stmt_in table stmt ≡ tree = ap (stmt_in table) c.in-Expression.is in
    let ask = asked source addressed scope stmt tree old is c.requires.typed c.requires.lives c.requires.foretold c.requires.room in
    let given : StepTyped source scope (Some value) = record { stands = subst (StmtStands table) c.in-Expression.is c.requires.typed.1.stands; typed = ask.typed } in
    in_slice (λ scope. ValueTyped source scope value) slice scope same (step_typed source scope (Some value) value refl given)

pub statement-effect-requires-clause-lives : goal.statement-effect-requires-clause-lives
statement-effect-requires-clause-lives t c =
    let source = c.args.source.now in
    let addressed = c.args.addressed.now in
    let scope = c.args.scope.now.items in
    let table = types_of_source source in
    let old = c.args.self.now in
    let stmt = c.args.stmt.now in
    let value = c.in-Expression.value in
    let slice = c.as_slice-in-Expression.result.now in
    let same = c.as_slice-in-Expression.ensures.value in
    let tree = T.Expression (value_in table value) in
    let is : stmt_in table stmt ≡ tree = ap (stmt_in table) c.in-Expression.is in
    let ask = asked source addressed scope stmt tree old is c.requires.typed c.requires.lives c.requires.foretold c.requires.room in
    in_slice (λ scope. LieInMemory (scope_of source scope) (λ number. takes false number (value_in table value))) slice scope same ask.lives

pub statement-effect-requires-clause-room : goal.statement-effect-requires-clause-room
statement-effect-requires-clause-room t c =
    let source = c.args.source.now in
    let addressed = c.args.addressed.now in
    let scope = c.args.scope.now.items in
    let table = types_of_source source in
    let old = c.args.self.now in
    let stmt = c.args.stmt.now in
    let value = c.in-Expression.value in
    let slice = c.as_slice-in-Expression.result.now in
    let same = c.as_slice-in-Expression.ensures.value in
    let tree = T.Expression (value_in table value) in
    let is : stmt_in table stmt ≡ tree = ap (stmt_in table) c.in-Expression.is in
    let ask = asked source addressed scope stmt tree old is c.requires.typed c.requires.lives c.requires.foretold c.requires.room in
    let room = ask.room in
    omega (arith, room)

pub statement-returns-in-Expression-clause-code : goal.statement-returns-in-Expression-clause-code
statement-returns-in-Expression-clause-code t c =
    let source = c.args.source.now in
    let addressed = c.args.addressed.now in
    let scope = c.args.scope.now.items in
    let table = types_of_source source in
    let old = c.args.self.now in
    let stmt = c.args.stmt.now in
    let value = c.in-Expression.value in
    let slice = c.as_slice-in-Expression.result.now in
    let same = c.as_slice-in-Expression.ensures.value in
    let tree = T.Expression (value_in table value) in
    let is : stmt_in table stmt ≡ tree = ap (stmt_in table) c.in-Expression.is in
    on_ok_then c.effect.result (λ lowers. comes_to source scope stmt tree is old c.effect.new.self c.args.ways (of_slice (λ scope. EffectLowers source scope value old c.effect.new.self) slice scope same lowers)) c.effect.ensures.code

pub statement-returns-in-Expression-clause-scope : goal.statement-returns-in-Expression-clause-scope
statement-returns-in-Expression-clause-scope t c = on_ok c.effect.result refl

pub statement-returns-in-Expression-clause-grows : goal.statement-returns-in-Expression-clause-grows
statement-returns-in-Expression-clause-grows t c = c.effect.ensures.grows

pub statement-returns-in-Expression-clause-adds : goal.statement-returns-in-Expression-clause-adds
statement-returns-in-Expression-clause-adds t c =
    let source = c.args.source.now in
    let addressed = c.args.addressed.now in
    let scope = c.args.scope.now.items in
    let table = types_of_source source in
    let old = c.args.self.now in
    let stmt = c.args.stmt.now in
    let value = c.in-Expression.value in
    let slice = c.as_slice-in-Expression.result.now in
    let same = c.as_slice-in-Expression.ensures.value in
    let tree = T.Expression (value_in table value) in
    let is : stmt_in table stmt ≡ tree = ap (stmt_in table) c.in-Expression.is in
    on_ok_then c.effect.result (adds_all source scope stmt tree is old c.effect.new.self (names_for (value_nodes (value_in table value))) (omega arith)) c.effect.ensures.adds

pub statement-returns-in-Expression-clause-variables : goal.statement-returns-in-Expression-clause-variables
statement-returns-in-Expression-clause-variables t c =
    let source = c.args.source.now in
    let addressed = c.args.addressed.now in
    let scope = c.args.scope.now.items in
    let table = types_of_source source in
    let old = c.args.self.now in
    let stmt = c.args.stmt.now in
    let value = c.in-Expression.value in
    let slice = c.as_slice-in-Expression.result.now in
    let same = c.as_slice-in-Expression.ensures.value in
    let tree = T.Expression (value_in table value) in
    let is : stmt_in table stmt ≡ tree = ap (stmt_in table) c.in-Expression.is in
    on_ok_then c.effect.result (declares_none source scope stmt tree is old c.effect.new.self refl) c.effect.ensures.variables

pub statement-condition-requires-clause-homes : goal.statement-condition-requires-clause-homes
statement-condition-requires-clause-homes t c = in_slice (IsScope c.args.source.now) c.as_slice-in-If.result.now c.args.scope.now.items c.as_slice-in-If.ensures.value c.requires.homes

pub statement-condition-requires-clause-typed : goal.statement-condition-requires-clause-typed
statement-condition-requires-clause-typed t c =
    let source = c.args.source.now in
    let addressed = c.args.addressed.now in
    let scope = c.args.scope.now.items in
    let table = types_of_source source in
    let old = c.args.self.now in
    let stmt = c.args.stmt.now in
    let condition = c.in-If.condition in
    let body = c.in-If.«then».value in
    let slice = c.as_slice-in-If.result.now in
    let same = c.as_slice-in-If.ensures.value in
    let tree = T.If (value_in table condition) (stmt_in table body) in
    let is : stmt_in table stmt ≡ tree = ap (stmt_in table) c.in-If.is in
    let ask = asked source addressed scope stmt tree old is c.requires.typed c.requires.lives c.requires.foretold c.requires.room in
    let stands = subst (StmtStands table) c.in-If.is c.requires.typed.1.stands in
    in_slice (λ scope. ConditionTyped source scope condition) slice scope same (if_typed source addressed scope condition body old stands.0 ask)

pub statement-condition-requires-clause-lives : goal.statement-condition-requires-clause-lives
statement-condition-requires-clause-lives t c =
    let source = c.args.source.now in
    let addressed = c.args.addressed.now in
    let scope = c.args.scope.now.items in
    let table = types_of_source source in
    let old = c.args.self.now in
    let stmt = c.args.stmt.now in
    let condition = c.in-If.condition in
    let body = c.in-If.«then».value in
    let slice = c.as_slice-in-If.result.now in
    let same = c.as_slice-in-If.ensures.value in
    let tree = T.If (value_in table condition) (stmt_in table body) in
    let is : stmt_in table stmt ≡ tree = ap (stmt_in table) c.in-If.is in
    let ask = asked source addressed scope stmt tree old is c.requires.typed c.requires.lives c.requires.foretold c.requires.room in
    in_slice (λ scope. LieInMemory (scope_of source scope) (λ number. takes false number (value_in table condition))) slice scope same (lies_left (scope_of source scope) (λ number. takes false number (value_in table condition)) (λ number. takes_stmt number (stmt_in table body)) ask.lives)

pub statement-condition-requires-clause-room : goal.statement-condition-requires-clause-room
statement-condition-requires-clause-room t c =
    let source = c.args.source.now in
    let addressed = c.args.addressed.now in
    let scope = c.args.scope.now.items in
    let table = types_of_source source in
    let old = c.args.self.now in
    let stmt = c.args.stmt.now in
    let condition = c.in-If.condition in
    let body = c.in-If.«then».value in
    let slice = c.as_slice-in-If.result.now in
    let same = c.as_slice-in-If.ensures.value in
    let tree = T.If (value_in table condition) (stmt_in table body) in
    let is : stmt_in table stmt ≡ tree = ap (stmt_in table) c.in-If.is in
    let ask = asked source addressed scope stmt tree old is c.requires.typed c.requires.lives c.requires.foretold c.requires.room in
    let room = ask.room in
    omega (arith, room)

pub statement-statement-requires : goal.statement-statement-requires
statement-statement-requires t c =
    let source = c.args.source.now in
    let addressed = c.args.addressed.now in
    let scope = c.args.scope.now.items in
    let table = types_of_source source in
    let old = c.args.self.now in
    let stmt = c.args.stmt.now in
    let condition = c.in-If.condition in
    let body = c.in-If.«then».value in
    let slice = c.as_slice-in-If.result.now in
    let same = c.as_slice-in-If.ensures.value in
    let tree = T.If (value_in table condition) (stmt_in table body) in
    let is : stmt_in table stmt ≡ tree = ap (stmt_in table) c.in-If.is in
    let ask = asked source addressed scope stmt tree old is c.requires.typed c.requires.lives c.requires.foretold c.requires.room in
    let stands = subst (StmtStands table) c.in-If.is c.requires.typed.1.stands in
    let tested = c.in_ok-condition-in-If.ensures.adds in
    let reserved = names_same c.condition.new.self c.reserve.new.self c.in_ok-test-in-If.ensures.counts in
    let room = ask.room in
    let same_count = variables_same c.condition.new.self c.reserve.new.self c.in_ok-test-in-If.ensures.counts ∙ c.in_ok-condition-in-If.ensures.variables in (
      search (rules, stmt_lemmas, block_lemmas),
      (
        c.requires.source,
        (
          c.requires.homes,
          (
            subst (λ body. (within : Within) × StmtTyped source scope within body) (sym c.deref.ensures) (if_body source addressed scope condition body old stands.1 ask),
            (
              subst (λ body. LieInMemory (scope_of source scope) (λ number. takes_stmt number (stmt_in table body))) (sym c.deref.ensures) (lies_right (scope_of source scope) (λ number. takes false number (value_in table condition)) (λ number. takes_stmt number (stmt_in table body)) ask.lives),
              (
                subst (λ body. Foretold addressed c.reserve.new.self.counts.variables (taken_stmt (length scope) (stmt_in table body))) (sym c.deref.ensures) (foretold_at addressed old.counts.variables c.reserve.new.self.counts.variables (taken_stmt (length scope) (stmt_in table body)) same_count ask.foretold),
                (subst (λ body. HasRoom c.reserve.new.self (names_for (stmt_nodes (stmt_in table body)))) (sym c.deref.ensures) (omega (arith, tested, reserved, room))),
              ),
            ),
          ),
        ),
      ),
    )

pub statement-fill_test-requires : goal.statement-fill_test-requires
statement-fill_test-requires t c = still_on c.reserve.new.self c.statement.new.self c.in_ok-test-in-If.test.0 c.in_ok-test-in-If.ensures.reserved c.in_ok-statement-in-If.ensures.grows

pub statement-returns-in_ok-statement-in-If-clause-code : goal.statement-returns-in_ok-statement-in-If-clause-code
statement-returns-in_ok-statement-in-If-clause-code t c =
    let source = c.args.source.now in
    let addressed = c.args.addressed.now in
    let scope = c.args.scope.now.items in
    let table = types_of_source source in
    let old = c.args.self.now in
    let stmt = c.args.stmt.now in
    let condition = c.in-If.condition in
    let body = c.in-If.«then».value in
    let slice = c.as_slice-in-If.result.now in
    let same = c.as_slice-in-If.ensures.value in
    let tree = T.If (value_in table condition) (stmt_in table body) in
    let is : stmt_in table stmt ≡ tree = ap (stmt_in table) c.in-If.is in
    comes_to source scope stmt tree is old c.fill_test.new.self c.args.ways
    (if_lowers source scope c.args.ways condition body old c.condition.new.self c.reserve.new.self c.statement.new.self c.fill_test.new.self c.in_ok-condition-in-If.condition c.in_ok-test-in-If.test.0
    (of_slice (λ scope. ConditionLowers source scope condition old c.condition.new.self c.in_ok-condition-in-If.condition) slice scope same c.in_ok-condition-in-If.ensures.code)
    (record { place = c.in_ok-test-in-If.ensures.at; is = c.in_ok-test-in-If.ensures.reserved; spot = c.in_ok-test-in-If.ensures.spot; grows = c.in_ok-test-in-If.ensures.grows }) (subst (λ body. StmtLowers source scope c.args.ways body c.reserve.new.self c.statement.new.self) c.deref.ensures c.in_ok-statement-in-If.ensures.code) c.in_ok-statement-in-If.ensures.grows
    (record { code = c.fill_test.ensures.code; spot = c.fill_test.ensures.spot; grows = c.fill_test.ensures.grows }))

pub statement-returns-in_ok-statement-in-If-clause-scope : goal.statement-returns-in_ok-statement-in-If-clause-scope
statement-returns-in_ok-statement-in-If-clause-scope t c = c.in_ok-statement-in-If.ensures.scope

pub statement-returns-in_ok-statement-in-If-clause-grows : goal.statement-returns-in_ok-statement-in-If-clause-grows
statement-returns-in_ok-statement-in-If-clause-grows t c =
    let old = c.args.self.now in
    let tested = c.in_ok-condition-in-If.ensures.grows in
    let longer = tested.longer in
    let place = c.in_ok-test-in-If.ensures.at in
    let reserved = grows_on old c.condition.new.self c.reserve.new.self tested c.in_ok-test-in-If.ensures.grows in
    let done = grows_on old c.reserve.new.self c.statement.new.self reserved c.in_ok-statement-in-If.ensures.grows in
    grows_beyond old c.statement.new.self c.fill_test.new.self c.in_ok-test-in-If.test.0 (omega (arith, place, longer)) done c.fill_test.ensures.grows

pub statement-returns-in_ok-statement-in-If-clause-adds : goal.statement-returns-in_ok-statement-in-If-clause-adds
statement-returns-in_ok-statement-in-If-clause-adds t c =
    let source = c.args.source.now in
    let addressed = c.args.addressed.now in
    let scope = c.args.scope.now.items in
    let table = types_of_source source in
    let old = c.args.self.now in
    let stmt = c.args.stmt.now in
    let condition = c.in-If.condition in
    let body = c.in-If.«then».value in
    let slice = c.as_slice-in-If.result.now in
    let same = c.as_slice-in-If.ensures.value in
    let tree = T.If (value_in table condition) (stmt_in table body) in
    let is : stmt_in table stmt ≡ tree = ap (stmt_in table) c.in-If.is in
    let tested = c.in_ok-condition-in-If.ensures.adds in
    let reserved = names_same c.condition.new.self c.reserve.new.self c.in_ok-test-in-If.ensures.counts in
    let more = subst (λ body. Adds c.reserve.new.self c.statement.new.self (names_for (stmt_nodes (stmt_in table body)))) c.deref.ensures c.in_ok-statement-in-If.ensures.adds in
    let filled = names_same c.statement.new.self c.fill_test.new.self c.fill_test.ensures.counts in
    adds_all source scope stmt tree is old c.fill_test.new.self (names_for (value_nodes (value_in table condition) + stmt_nodes (stmt_in table body))) (omega arith) (omega (arith, tested, reserved, more, filled))

pub statement-returns-in_ok-statement-in-If-clause-variables : goal.statement-returns-in_ok-statement-in-If-clause-variables
statement-returns-in_ok-statement-in-If-clause-variables t c =
    let source = c.args.source.now in
    let addressed = c.args.addressed.now in
    let scope = c.args.scope.now.items in
    let table = types_of_source source in
    let old = c.args.self.now in
    let stmt = c.args.stmt.now in
    let condition = c.in-If.condition in
    let body = c.in-If.«then».value in
    let slice = c.as_slice-in-If.result.now in
    let same = c.as_slice-in-If.ensures.value in
    let tree = T.If (value_in table condition) (stmt_in table body) in
    let is : stmt_in table stmt ≡ tree = ap (stmt_in table) c.in-If.is in
    let same_count = variables_same c.condition.new.self c.reserve.new.self c.in_ok-test-in-If.ensures.counts ∙ c.in_ok-condition-in-If.ensures.variables in
    let more = subst (λ body. Declares c.reserve.new.self c.statement.new.self (taken_stmt (length scope) (stmt_in table body))) c.deref.ensures c.in_ok-statement-in-If.ensures.variables in
    declares_all source scope stmt tree is old c.fill_test.new.self (taken_stmt (length scope) (stmt_in table body)) refl
    (variables_same c.statement.new.self c.fill_test.new.self c.fill_test.ensures.counts ∙ more ∙ ap (λ n. n + length (taken_stmt (length scope) (stmt_in table body))) same_count)

pub statement-condition-requires-in-IfElse-clause-homes : goal.statement-condition-requires-in-IfElse-clause-homes
statement-condition-requires-in-IfElse-clause-homes t c = in_slice (IsScope c.args.source.now) c.as_slice-in-IfElse.result.now c.args.scope.now.items c.as_slice-in-IfElse.ensures.value c.requires.homes

pub statement-condition-requires-in-IfElse-clause-typed : goal.statement-condition-requires-in-IfElse-clause-typed
statement-condition-requires-in-IfElse-clause-typed t c =
    let source = c.args.source.now in
    let addressed = c.args.addressed.now in
    let scope = c.args.scope.now.items in
    let table = types_of_source source in
    let old = c.args.self.now in
    let stmt = c.args.stmt.now in
    let condition = c.in-IfElse.condition in
    let body = c.in-IfElse.«then».value in
    let slice = c.as_slice-in-IfElse.result.now in
    let same = c.as_slice-in-IfElse.ensures.value in
    let otherwise = c.in-IfElse.otherwise.value in
    let tree = T.IfElse (value_in table condition) (stmt_in table body) (stmt_in table otherwise) in
    let is : stmt_in table stmt ≡ tree = ap (stmt_in table) c.in-IfElse.is in
    let ask = asked source addressed scope stmt tree old is c.requires.typed c.requires.lives c.requires.foretold c.requires.room in
    let stands = subst (StmtStands table) c.in-IfElse.is c.requires.typed.1.stands in
    in_slice (λ scope. ConditionTyped source scope condition) slice scope same (if_else_typed source addressed scope condition body otherwise old stands.0 ask)

pub statement-condition-requires-in-IfElse-clause-lives : goal.statement-condition-requires-in-IfElse-clause-lives
statement-condition-requires-in-IfElse-clause-lives t c =
    let source = c.args.source.now in
    let addressed = c.args.addressed.now in
    let scope = c.args.scope.now.items in
    let table = types_of_source source in
    let old = c.args.self.now in
    let stmt = c.args.stmt.now in
    let condition = c.in-IfElse.condition in
    let body = c.in-IfElse.«then».value in
    let slice = c.as_slice-in-IfElse.result.now in
    let same = c.as_slice-in-IfElse.ensures.value in
    let otherwise = c.in-IfElse.otherwise.value in
    let tree = T.IfElse (value_in table condition) (stmt_in table body) (stmt_in table otherwise) in
    let is : stmt_in table stmt ≡ tree = ap (stmt_in table) c.in-IfElse.is in
    let ask = asked source addressed scope stmt tree old is c.requires.typed c.requires.lives c.requires.foretold c.requires.room in
    in_slice (λ scope. LieInMemory (scope_of source scope) (λ number. takes false number (value_in table condition))) slice scope same (lies_left (scope_of source scope) (λ number. takes false number (value_in table condition)) (λ number. takes_stmt number (stmt_in table body) || takes_stmt number (stmt_in table otherwise)) ask.lives)

pub statement-condition-requires-in-IfElse-clause-room : goal.statement-condition-requires-in-IfElse-clause-room
statement-condition-requires-in-IfElse-clause-room t c =
    let source = c.args.source.now in
    let addressed = c.args.addressed.now in
    let scope = c.args.scope.now.items in
    let table = types_of_source source in
    let old = c.args.self.now in
    let stmt = c.args.stmt.now in
    let condition = c.in-IfElse.condition in
    let body = c.in-IfElse.«then».value in
    let slice = c.as_slice-in-IfElse.result.now in
    let same = c.as_slice-in-IfElse.ensures.value in
    let otherwise = c.in-IfElse.otherwise.value in
    let tree = T.IfElse (value_in table condition) (stmt_in table body) (stmt_in table otherwise) in
    let is : stmt_in table stmt ≡ tree = ap (stmt_in table) c.in-IfElse.is in
    let ask = asked source addressed scope stmt tree old is c.requires.typed c.requires.lives c.requires.foretold c.requires.room in
    let room = ask.room in
    omega (arith, room)

pub statement-statement-requires-in-IfElse : goal.statement-statement-requires-in-IfElse
statement-statement-requires-in-IfElse t c =
    let source = c.args.source.now in
    let addressed = c.args.addressed.now in
    let scope = c.args.scope.now.items in
    let table = types_of_source source in
    let old = c.args.self.now in
    let stmt = c.args.stmt.now in
    let condition = c.in-IfElse.condition in
    let body = c.in-IfElse.«then».value in
    let slice = c.as_slice-in-IfElse.result.now in
    let same = c.as_slice-in-IfElse.ensures.value in
    let otherwise = c.in-IfElse.otherwise.value in
    let tree = T.IfElse (value_in table condition) (stmt_in table body) (stmt_in table otherwise) in
    let is : stmt_in table stmt ≡ tree = ap (stmt_in table) c.in-IfElse.is in
    let ask = asked source addressed scope stmt tree old is c.requires.typed c.requires.lives c.requires.foretold c.requires.room in
    let stands = subst (StmtStands table) c.in-IfElse.is c.requires.typed.1.stands in
    let tested = c.in_ok-condition-in-IfElse.ensures.adds in
    let reserved = names_same c.condition-in-IfElse.new.self c.reserve-in-IfElse.new.self c.in_ok-test-in-IfElse.ensures.counts in
    let room = ask.room in
    let same_count = variables_same c.condition-in-IfElse.new.self c.reserve-in-IfElse.new.self c.in_ok-test-in-IfElse.ensures.counts ∙ c.in_ok-condition-in-IfElse.ensures.variables in (
      search (rules, stmt_lemmas, block_lemmas),
      (
        c.requires.source,
        (
          c.requires.homes,
          (
            subst (λ body. (within : Within) × StmtTyped source scope within body) (sym c.deref-in-IfElse.ensures) (if_else_body source addressed scope condition body otherwise old stands.1 ask),
            (
              subst (λ body. LieInMemory (scope_of source scope) (λ number. takes_stmt number (stmt_in table body))) (sym c.deref-in-IfElse.ensures) (lies_left (scope_of source scope) (λ number. takes_stmt number (stmt_in table body)) (λ number. takes_stmt number (stmt_in table otherwise)) (lies_right (scope_of source scope) (λ number. takes false number (value_in table condition)) (λ number. takes_stmt number (stmt_in table body) || takes_stmt number (stmt_in table otherwise)) ask.lives)),
              (
                subst (λ body. Foretold addressed c.reserve-in-IfElse.new.self.counts.variables (taken_stmt (length scope) (stmt_in table body))) (sym c.deref-in-IfElse.ensures) (foretold_front addressed old.counts.variables c.reserve-in-IfElse.new.self.counts.variables (taken_stmt (length scope) (stmt_in table body)) (taken_stmt (length scope) (stmt_in table otherwise)) same_count ask.foretold),
                (subst (λ body. HasRoom c.reserve-in-IfElse.new.self (names_for (stmt_nodes (stmt_in table body)))) (sym c.deref-in-IfElse.ensures) (omega (arith, tested, reserved, room))),
              ),
            ),
          ),
        ),
      ),
    )

pub statement-fill_test-requires-in-IfElse : goal.statement-fill_test-requires-in-IfElse
statement-fill_test-requires-in-IfElse t c = still_on c.statement-in-IfElse.new.self c.reserve-in-IfElse-2.new.self c.in_ok-test-in-IfElse.test.0 (still_on c.reserve-in-IfElse.new.self c.statement-in-IfElse.new.self c.in_ok-test-in-IfElse.test.0 c.in_ok-test-in-IfElse.ensures.reserved c.in_ok-statement-in-IfElse.ensures.grows) c.in_ok-jump-in-IfElse.ensures.grows

pub statement-statement-requires-in-IfElse-2 : goal.statement-statement-requires-in-IfElse-2
statement-statement-requires-in-IfElse-2 t c =
    let source = c.args.source.now in
    let addressed = c.args.addressed.now in
    let scope = c.args.scope.now.items in
    let table = types_of_source source in
    let old = c.args.self.now in
    let stmt = c.args.stmt.now in
    let condition = c.in-IfElse.condition in
    let body = c.in-IfElse.«then».value in
    let slice = c.as_slice-in-IfElse.result.now in
    let same = c.as_slice-in-IfElse.ensures.value in
    let otherwise = c.in-IfElse.otherwise.value in
    let tree = T.IfElse (value_in table condition) (stmt_in table body) (stmt_in table otherwise) in
    let is : stmt_in table stmt ≡ tree = ap (stmt_in table) c.in-IfElse.is in
    let ask = asked source addressed scope stmt tree old is c.requires.typed c.requires.lives c.requires.foretold c.requires.room in
    let stands = subst (StmtStands table) c.in-IfElse.is c.requires.typed.1.stands in
    let tested = c.in_ok-condition-in-IfElse.ensures.adds in
    let reserved = names_same c.condition-in-IfElse.new.self c.reserve-in-IfElse.new.self c.in_ok-test-in-IfElse.ensures.counts in
    let more = subst (λ body. Adds c.reserve-in-IfElse.new.self c.statement-in-IfElse.new.self (names_for (stmt_nodes (stmt_in table body)))) c.deref-in-IfElse.ensures c.in_ok-statement-in-IfElse.ensures.adds in
    let ended = names_same c.statement-in-IfElse.new.self c.reserve-in-IfElse-2.new.self c.in_ok-jump-in-IfElse.ensures.counts in
    let filled = names_same c.reserve-in-IfElse-2.new.self c.fill_test-in-IfElse.new.self c.fill_test-in-IfElse.ensures.counts in
    let room = ask.room in
    let same_count = variables_same c.condition-in-IfElse.new.self c.reserve-in-IfElse.new.self c.in_ok-test-in-IfElse.ensures.counts ∙ c.in_ok-condition-in-IfElse.ensures.variables in
    let same_scope = c.in_ok-statement-in-IfElse.ensures.scope in
    let declared = subst (λ body. Declares c.reserve-in-IfElse.new.self c.statement-in-IfElse.new.self (taken_stmt (length scope) (stmt_in table body))) c.deref-in-IfElse.ensures c.in_ok-statement-in-IfElse.ensures.variables in
    let counted = variables_same c.reserve-in-IfElse-2.new.self c.fill_test-in-IfElse.new.self c.fill_test-in-IfElse.ensures.counts ∙ variables_same c.statement-in-IfElse.new.self c.reserve-in-IfElse-2.new.self c.in_ok-jump-in-IfElse.ensures.counts ∙ declared ∙ ap (λ n. n + length (taken_stmt (length scope) (stmt_in table body))) same_count in (
      search (rules, stmt_lemmas, block_lemmas),
      (
        c.requires.source,
        (
          subst (IsScope source) (sym same_scope) c.requires.homes,
          (
            subst (λ scope. (within : Within) × StmtTyped source scope within c.deref-in-IfElse-2.result.now) (sym same_scope) (subst (λ otherwise. (within : Within) × StmtTyped source scope within otherwise) (sym c.deref-in-IfElse-2.ensures) (if_else_otherwise source addressed scope condition body otherwise old stands.2 ask)),
            (
              subst (λ scope. LieInMemory (scope_of source scope) (λ number. takes_stmt number (stmt_in table c.deref-in-IfElse-2.result.now))) (sym same_scope) (subst (λ otherwise. LieInMemory (scope_of source scope) (λ number. takes_stmt number (stmt_in table otherwise))) (sym c.deref-in-IfElse-2.ensures) (lies_right (scope_of source scope) (λ number. takes_stmt number (stmt_in table body)) (λ number. takes_stmt number (stmt_in table otherwise)) (lies_right (scope_of source scope) (λ number. takes false number (value_in table condition)) (λ number. takes_stmt number (stmt_in table body) || takes_stmt number (stmt_in table otherwise)) ask.lives))),
              (
                subst (λ (scope : List Home). Foretold addressed c.fill_test-in-IfElse.new.self.counts.variables (taken_stmt (length scope) (stmt_in table c.deref-in-IfElse-2.result.now))) (sym same_scope) (subst (λ otherwise. Foretold addressed c.fill_test-in-IfElse.new.self.counts.variables (taken_stmt (length scope) (stmt_in table otherwise))) (sym c.deref-in-IfElse-2.ensures)
                    (foretold_behind addressed old.counts.variables c.fill_test-in-IfElse.new.self.counts.variables (taken_stmt (length scope) (stmt_in table body)) (taken_stmt (length scope) (stmt_in table otherwise)) counted ask.foretold)),
                (subst (λ otherwise. HasRoom c.fill_test-in-IfElse.new.self (names_for (stmt_nodes (stmt_in table otherwise)))) (sym c.deref-in-IfElse-2.ensures) (omega (arith, tested, reserved, more, ended, filled, room))),
              ),
            ),
          ),
        ),
      ),
    )

pub statement-fill_jump-requires : goal.statement-fill_jump-requires
statement-fill_jump-requires t c =
    let test : Reserves c.condition-in-IfElse.new.self c.reserve-in-IfElse.new.self c.in_ok-test-in-IfElse.test.0 = record { place = c.in_ok-test-in-IfElse.ensures.at; is = c.in_ok-test-in-IfElse.ensures.reserved; spot = c.in_ok-test-in-IfElse.ensures.spot; grows = c.in_ok-test-in-IfElse.ensures.grows } in
    let jump : Reserves c.statement-in-IfElse.new.self c.reserve-in-IfElse-2.new.self c.in_ok-jump-in-IfElse.jump.0 = record { place = c.in_ok-jump-in-IfElse.ensures.at; is = c.in_ok-jump-in-IfElse.ensures.reserved; spot = c.in_ok-jump-in-IfElse.ensures.spot; grows = c.in_ok-jump-in-IfElse.ensures.grows } in
    let longer = c.in_ok-statement-in-IfElse.ensures.grows.longer in
    let apart = later_apart c.args.source.now c.condition-in-IfElse.new.self c.reserve-in-IfElse.new.self c.statement-in-IfElse.new.self c.reserve-in-IfElse-2.new.self c.in_ok-test-in-IfElse.test.0 c.in_ok-jump-in-IfElse.jump.0 test longer jump in
    still_past c.reserve-in-IfElse-2.new.self c.reserve-in-IfElse-2.new.self c.fill_test-in-IfElse.new.self c.statement-in-IfElse-2.new.self c.in_ok-jump-in-IfElse.jump.0 c.in_ok-test-in-IfElse.test.0 (C.Branch c.in_ok-condition-in-IfElse.condition.int_type (tree_of c.in_ok-condition-in-IfElse.condition.tree.value) (suc c.in_ok-test-in-IfElse.test.0) (length c.reserve-in-IfElse-2.new.self.points.items)) c.in_ok-jump-in-IfElse.ensures.reserved (grows_same c.reserve-in-IfElse-2.new.self) (record { code = c.fill_test-in-IfElse.ensures.code; spot = c.fill_test-in-IfElse.ensures.spot; grows = c.fill_test-in-IfElse.ensures.grows }) apart c.in_ok-statement-in-IfElse-2.ensures.grows

pub statement-returns-in_ok-statement-in-IfElse-2-clause-code : goal.statement-returns-in_ok-statement-in-IfElse-2-clause-code
statement-returns-in_ok-statement-in-IfElse-2-clause-code t c =
    let source = c.args.source.now in
    let addressed = c.args.addressed.now in
    let scope = c.args.scope.now.items in
    let table = types_of_source source in
    let old = c.args.self.now in
    let stmt = c.args.stmt.now in
    let condition = c.in-IfElse.condition in
    let body = c.in-IfElse.«then».value in
    let slice = c.as_slice-in-IfElse.result.now in
    let same = c.as_slice-in-IfElse.ensures.value in
    let otherwise = c.in-IfElse.otherwise.value in
    let tree = T.IfElse (value_in table condition) (stmt_in table body) (stmt_in table otherwise) in
    let is : stmt_in table stmt ≡ tree = ap (stmt_in table) c.in-IfElse.is in
    comes_to source scope stmt tree is old c.fill_jump.new.self c.args.ways
    (if_else_lowers source scope c.args.ways condition body otherwise old c.condition-in-IfElse.new.self c.reserve-in-IfElse.new.self c.statement-in-IfElse.new.self c.reserve-in-IfElse-2.new.self c.fill_test-in-IfElse.new.self c.statement-in-IfElse-2.new.self c.fill_jump.new.self c.in_ok-condition-in-IfElse.condition c.in_ok-test-in-IfElse.test.0 c.in_ok-jump-in-IfElse.jump.0
    (of_slice (λ scope. ConditionLowers source scope condition old c.condition-in-IfElse.new.self c.in_ok-condition-in-IfElse.condition) slice scope same c.in_ok-condition-in-IfElse.ensures.code)
    (record { place = c.in_ok-test-in-IfElse.ensures.at; is = c.in_ok-test-in-IfElse.ensures.reserved; spot = c.in_ok-test-in-IfElse.ensures.spot; grows = c.in_ok-test-in-IfElse.ensures.grows }) (subst (λ body. StmtLowers source scope c.args.ways body c.reserve-in-IfElse.new.self c.statement-in-IfElse.new.self) c.deref-in-IfElse.ensures c.in_ok-statement-in-IfElse.ensures.code) c.in_ok-statement-in-IfElse.ensures.grows
    (record { place = c.in_ok-jump-in-IfElse.ensures.at; is = c.in_ok-jump-in-IfElse.ensures.reserved; spot = c.in_ok-jump-in-IfElse.ensures.spot; grows = c.in_ok-jump-in-IfElse.ensures.grows }) (record { code = c.fill_test-in-IfElse.ensures.code; spot = c.fill_test-in-IfElse.ensures.spot; grows = c.fill_test-in-IfElse.ensures.grows })
    (subst (λ otherwise. StmtLowers source scope c.args.ways otherwise c.fill_test-in-IfElse.new.self c.statement-in-IfElse-2.new.self) c.deref-in-IfElse-2.ensures (subst (λ scope. StmtLowers source scope c.args.ways c.deref-in-IfElse-2.result.now c.fill_test-in-IfElse.new.self c.statement-in-IfElse-2.new.self) c.in_ok-statement-in-IfElse.ensures.scope c.in_ok-statement-in-IfElse-2.ensures.code)) c.in_ok-statement-in-IfElse-2.ensures.grows
    (record { code = c.fill_jump.ensures.code; spot = c.fill_jump.ensures.spot; grows = c.fill_jump.ensures.grows }))

pub statement-returns-in_ok-statement-in-IfElse-2-clause-scope : goal.statement-returns-in_ok-statement-in-IfElse-2-clause-scope
statement-returns-in_ok-statement-in-IfElse-2-clause-scope t c = c.in_ok-statement-in-IfElse-2.ensures.scope ∙ c.in_ok-statement-in-IfElse.ensures.scope

pub statement-returns-in_ok-statement-in-IfElse-2-clause-grows : goal.statement-returns-in_ok-statement-in-IfElse-2-clause-grows
statement-returns-in_ok-statement-in-IfElse-2-clause-grows t c =
    let old = c.args.self.now in
    let tested = c.in_ok-condition-in-IfElse.ensures.grows in
    let test_place = c.in_ok-test-in-IfElse.ensures.at in
    let jump_place = c.in_ok-jump-in-IfElse.ensures.at in
    let one = grows_on old c.condition-in-IfElse.new.self c.reserve-in-IfElse.new.self tested c.in_ok-test-in-IfElse.ensures.grows in
    let done = grows_on old c.reserve-in-IfElse.new.self c.statement-in-IfElse.new.self one c.in_ok-statement-in-IfElse.ensures.grows in
    let ended = grows_on old c.statement-in-IfElse.new.self c.reserve-in-IfElse-2.new.self done c.in_ok-jump-in-IfElse.ensures.grows in
    let test_longer = tested.longer in
    let jump_longer = done.longer in
    let back = grows_past old c.reserve-in-IfElse-2.new.self c.fill_test-in-IfElse.new.self c.statement-in-IfElse-2.new.self c.in_ok-test-in-IfElse.test.0 (C.Branch c.in_ok-condition-in-IfElse.condition.int_type (tree_of c.in_ok-condition-in-IfElse.condition.tree.value) (suc c.in_ok-test-in-IfElse.test.0) (length c.reserve-in-IfElse-2.new.self.points.items)) (omega (arith, test_place, test_longer)) ended (record { code = c.fill_test-in-IfElse.ensures.code; spot = c.fill_test-in-IfElse.ensures.spot; grows = c.fill_test-in-IfElse.ensures.grows }) c.in_ok-statement-in-IfElse-2.ensures.grows in
    grows_filled old c.statement-in-IfElse-2.new.self c.fill_jump.new.self c.in_ok-jump-in-IfElse.jump.0 (C.Jump (length c.statement-in-IfElse-2.new.self.points.items)) (omega (arith, jump_place, jump_longer)) back (record { code = c.fill_jump.ensures.code; spot = c.fill_jump.ensures.spot; grows = c.fill_jump.ensures.grows })

pub statement-returns-in_ok-statement-in-IfElse-2-clause-adds : goal.statement-returns-in_ok-statement-in-IfElse-2-clause-adds
statement-returns-in_ok-statement-in-IfElse-2-clause-adds t c =
    let source = c.args.source.now in
    let addressed = c.args.addressed.now in
    let scope = c.args.scope.now.items in
    let table = types_of_source source in
    let old = c.args.self.now in
    let stmt = c.args.stmt.now in
    let condition = c.in-IfElse.condition in
    let body = c.in-IfElse.«then».value in
    let slice = c.as_slice-in-IfElse.result.now in
    let same = c.as_slice-in-IfElse.ensures.value in
    let otherwise = c.in-IfElse.otherwise.value in
    let tree = T.IfElse (value_in table condition) (stmt_in table body) (stmt_in table otherwise) in
    let is : stmt_in table stmt ≡ tree = ap (stmt_in table) c.in-IfElse.is in
    let tested = c.in_ok-condition-in-IfElse.ensures.adds in
    let reserved = names_same c.condition-in-IfElse.new.self c.reserve-in-IfElse.new.self c.in_ok-test-in-IfElse.ensures.counts in
    let more = subst (λ body. Adds c.reserve-in-IfElse.new.self c.statement-in-IfElse.new.self (names_for (stmt_nodes (stmt_in table body)))) c.deref-in-IfElse.ensures c.in_ok-statement-in-IfElse.ensures.adds in
    let ended = names_same c.statement-in-IfElse.new.self c.reserve-in-IfElse-2.new.self c.in_ok-jump-in-IfElse.ensures.counts in
    let filled = names_same c.reserve-in-IfElse-2.new.self c.fill_test-in-IfElse.new.self c.fill_test-in-IfElse.ensures.counts in
    let others = subst (λ otherwise. Adds c.fill_test-in-IfElse.new.self c.statement-in-IfElse-2.new.self (names_for (stmt_nodes (stmt_in table otherwise)))) c.deref-in-IfElse-2.ensures c.in_ok-statement-in-IfElse-2.ensures.adds in
    let jumped = names_same c.statement-in-IfElse-2.new.self c.fill_jump.new.self c.fill_jump.ensures.counts in
    adds_all source scope stmt tree is old c.fill_jump.new.self (names_for (value_nodes (value_in table condition) + (stmt_nodes (stmt_in table body) + stmt_nodes (stmt_in table otherwise)))) (omega arith) (omega (arith, tested, reserved, more, ended, filled, others, jumped))

pub statement-returns-in_ok-statement-in-IfElse-2-clause-variables : goal.statement-returns-in_ok-statement-in-IfElse-2-clause-variables
statement-returns-in_ok-statement-in-IfElse-2-clause-variables t c =
    let source = c.args.source.now in
    let addressed = c.args.addressed.now in
    let scope = c.args.scope.now.items in
    let table = types_of_source source in
    let old = c.args.self.now in
    let stmt = c.args.stmt.now in
    let condition = c.in-IfElse.condition in
    let body = c.in-IfElse.«then».value in
    let slice = c.as_slice-in-IfElse.result.now in
    let same = c.as_slice-in-IfElse.ensures.value in
    let otherwise = c.in-IfElse.otherwise.value in
    let tree = T.IfElse (value_in table condition) (stmt_in table body) (stmt_in table otherwise) in
    let is : stmt_in table stmt ≡ tree = ap (stmt_in table) c.in-IfElse.is in
    let same_count = variables_same c.condition-in-IfElse.new.self c.reserve-in-IfElse.new.self c.in_ok-test-in-IfElse.ensures.counts ∙ c.in_ok-condition-in-IfElse.ensures.variables in
    let first = taken_stmt (length scope) (stmt_in table body) in
    let second = taken_stmt (length scope) (stmt_in table otherwise) in
    let declared = subst (λ body. Declares c.reserve-in-IfElse.new.self c.statement-in-IfElse.new.self (taken_stmt (length scope) (stmt_in table body))) c.deref-in-IfElse.ensures c.in_ok-statement-in-IfElse.ensures.variables in
    let ended = variables_same c.statement-in-IfElse.new.self c.reserve-in-IfElse-2.new.self c.in_ok-jump-in-IfElse.ensures.counts in
    let filled = variables_same c.reserve-in-IfElse-2.new.self c.fill_test-in-IfElse.new.self c.fill_test-in-IfElse.ensures.counts in
    let others = subst (λ otherwise. Declares c.fill_test-in-IfElse.new.self c.statement-in-IfElse-2.new.self (taken_stmt (length scope) (stmt_in table otherwise))) c.deref-in-IfElse-2.ensures (subst (λ (scope : List Home). Declares c.fill_test-in-IfElse.new.self c.statement-in-IfElse-2.new.self (taken_stmt (length scope) (stmt_in table c.deref-in-IfElse-2.result.now))) c.in_ok-statement-in-IfElse.ensures.scope c.in_ok-statement-in-IfElse-2.ensures.variables) in
    let jumped = variables_same c.statement-in-IfElse-2.new.self c.fill_jump.new.self c.fill_jump.ensures.counts in
    let long = length-append first second in
    declares_all source scope stmt tree is old c.fill_jump.new.self (first ++ second) refl (omega (arith, same_count, declared, filled, ended, others, jumped, long))

pub statement-while_loop-requires : goal.statement-while_loop-requires
statement-while_loop-requires t c = (
  search (rules, stmt_lemmas, block_lemmas),
  (
    c.requires.source,
    (
      c.requires.homes,
      (
        (let source = c.args.source.now in
            let addressed = c.args.addressed.now in
            let scope = c.args.scope.now.items in
            let table = types_of_source source in
            let old = c.args.self.now in
            let stmt = c.args.stmt.now in
            let condition = c.in-While.condition in
            let body = c.deref-in-While.result.now in
            let tree = T.While (value_in table condition) (stmt_in table body) in
            let is : stmt_in table stmt ≡ tree = ap (stmt_in table) c.in-While.is ∙ ap (λ body. T.While (value_in table condition) (stmt_in table body)) (sym c.deref-in-While.ensures) in
            let ask = asked source addressed scope stmt tree old is c.requires.typed c.requires.lives c.requires.foretold c.requires.room in
            let stands = subst (StmtStands table) c.in-While.is c.requires.typed.1.stands in
            while_typed source addressed scope condition body old stands.0 ask),
        (
          (let source = c.args.source.now in
              let addressed = c.args.addressed.now in
              let scope = c.args.scope.now.items in
              let table = types_of_source source in
              let old = c.args.self.now in
              let stmt = c.args.stmt.now in
              let condition = c.in-While.condition in
              let body = c.deref-in-While.result.now in
              let tree = T.While (value_in table condition) (stmt_in table body) in
              let is : stmt_in table stmt ≡ tree = ap (stmt_in table) c.in-While.is ∙ ap (λ body. T.While (value_in table condition) (stmt_in table body)) (sym c.deref-in-While.ensures) in
              let ask = asked source addressed scope stmt tree old is c.requires.typed c.requires.lives c.requires.foretold c.requires.room in
              let stands = subst (StmtStands table) c.in-While.is c.requires.typed.1.stands in
              while_body source addressed scope condition body old (subst (StmtStands table) (sym c.deref-in-While.ensures) stands.1) ask),
          (
            (let source = c.args.source.now in
                let addressed = c.args.addressed.now in
                let scope = c.args.scope.now.items in
                let table = types_of_source source in
                let old = c.args.self.now in
                let stmt = c.args.stmt.now in
                let condition = c.in-While.condition in
                let body = c.deref-in-While.result.now in
                let tree = T.While (value_in table condition) (stmt_in table body) in
                let is : stmt_in table stmt ≡ tree = ap (stmt_in table) c.in-While.is ∙ ap (λ body. T.While (value_in table condition) (stmt_in table body)) (sym c.deref-in-While.ensures) in
                let ask = asked source addressed scope stmt tree old is c.requires.typed c.requires.lives c.requires.foretold c.requires.room in
                lies_left (scope_of source scope) (λ number. takes false number (value_in table condition)) (λ number. takes_stmt number (stmt_in table body)) ask.lives),
            (
              (let source = c.args.source.now in
                  let addressed = c.args.addressed.now in
                  let scope = c.args.scope.now.items in
                  let table = types_of_source source in
                  let old = c.args.self.now in
                  let stmt = c.args.stmt.now in
                  let condition = c.in-While.condition in
                  let body = c.deref-in-While.result.now in
                  let tree = T.While (value_in table condition) (stmt_in table body) in
                  let is : stmt_in table stmt ≡ tree = ap (stmt_in table) c.in-While.is ∙ ap (λ body. T.While (value_in table condition) (stmt_in table body)) (sym c.deref-in-While.ensures) in
                  let ask = asked source addressed scope stmt tree old is c.requires.typed c.requires.lives c.requires.foretold c.requires.room in
                  lies_right (scope_of source scope) (λ number. takes false number (value_in table condition)) (λ number. takes_stmt number (stmt_in table body)) ask.lives),
              (
                (let source = c.args.source.now in
                    let addressed = c.args.addressed.now in
                    let scope = c.args.scope.now.items in
                    let table = types_of_source source in
                    let old = c.args.self.now in
                    let stmt = c.args.stmt.now in
                    let condition = c.in-While.condition in
                    let body = c.deref-in-While.result.now in
                    let tree = T.While (value_in table condition) (stmt_in table body) in
                    let is : stmt_in table stmt ≡ tree = ap (stmt_in table) c.in-While.is ∙ ap (λ body. T.While (value_in table condition) (stmt_in table body)) (sym c.deref-in-While.ensures) in
                    let ask = asked source addressed scope stmt tree old is c.requires.typed c.requires.lives c.requires.foretold c.requires.room in
                    ask.foretold),
                (let source = c.args.source.now in
                    let addressed = c.args.addressed.now in
                    let scope = c.args.scope.now.items in
                    let table = types_of_source source in
                    let old = c.args.self.now in
                    let stmt = c.args.stmt.now in
                    let condition = c.in-While.condition in
                    let body = c.deref-in-While.result.now in
                    let tree = T.While (value_in table condition) (stmt_in table body) in
                    let is : stmt_in table stmt ≡ tree = ap (stmt_in table) c.in-While.is ∙ ap (λ body. T.While (value_in table condition) (stmt_in table body)) (sym c.deref-in-While.ensures) in
                    let ask = asked source addressed scope stmt tree old is c.requires.typed c.requires.lives c.requires.foretold c.requires.room in
                    let room = ask.room in
                    omega (arith, room)),
              ),
            ),
          ),
        ),
      ),
    ),
  ),
)

pub statement-returns-in-While-clause-code : goal.statement-returns-in-While-clause-code
statement-returns-in-While-clause-code t c =
    let source = c.args.source.now in
    let addressed = c.args.addressed.now in
    let scope = c.args.scope.now.items in
    let table = types_of_source source in
    let old = c.args.self.now in
    let stmt = c.args.stmt.now in
    let condition = c.in-While.condition in
    let body = c.deref-in-While.result.now in
    let tree = T.While (value_in table condition) (stmt_in table body) in
    let is : stmt_in table stmt ≡ tree = ap (stmt_in table) c.in-While.is ∙ ap (λ body. T.While (value_in table condition) (stmt_in table body)) (sym c.deref-in-While.ensures) in
    on_ok_then c.while_loop.result (λ lowers. comes_to source scope stmt tree is old c.while_loop.new.self c.args.ways (own_in source scope c.args.ways tree old c.while_loop.new.self lowers)) c.while_loop.ensures.code

pub statement-returns-in-While-clause-scope : goal.statement-returns-in-While-clause-scope
statement-returns-in-While-clause-scope t c = c.while_loop.ensures.scope

pub statement-returns-in-While-clause-grows : goal.statement-returns-in-While-clause-grows
statement-returns-in-While-clause-grows t c = c.while_loop.ensures.grows

pub statement-returns-in-While-clause-adds : goal.statement-returns-in-While-clause-adds
statement-returns-in-While-clause-adds t c =
    let source = c.args.source.now in
    let addressed = c.args.addressed.now in
    let scope = c.args.scope.now.items in
    let table = types_of_source source in
    let old = c.args.self.now in
    let stmt = c.args.stmt.now in
    let condition = c.in-While.condition in
    let body = c.deref-in-While.result.now in
    let tree = T.While (value_in table condition) (stmt_in table body) in
    let is : stmt_in table stmt ≡ tree = ap (stmt_in table) c.in-While.is ∙ ap (λ body. T.While (value_in table condition) (stmt_in table body)) (sym c.deref-in-While.ensures) in
    on_ok_then c.while_loop.result (adds_all source scope stmt tree is old c.while_loop.new.self (names_for (value_nodes (value_in table condition) + stmt_nodes (stmt_in table body))) (omega arith)) c.while_loop.ensures.adds

pub statement-returns-in-While-clause-variables : goal.statement-returns-in-While-clause-variables
statement-returns-in-While-clause-variables t c =
    let source = c.args.source.now in
    let addressed = c.args.addressed.now in
    let scope = c.args.scope.now.items in
    let table = types_of_source source in
    let old = c.args.self.now in
    let stmt = c.args.stmt.now in
    let condition = c.in-While.condition in
    let body = c.deref-in-While.result.now in
    let tree = T.While (value_in table condition) (stmt_in table body) in
    let is : stmt_in table stmt ≡ tree = ap (stmt_in table) c.in-While.is ∙ ap (λ body. T.While (value_in table condition) (stmt_in table body)) (sym c.deref-in-While.ensures) in
    on_ok_then c.while_loop.result (declares_all source scope stmt tree is old c.while_loop.new.self (taken_stmt (length scope) (stmt_in table body)) refl) c.while_loop.ensures.variables

pub statement-do_loop-requires : goal.statement-do_loop-requires
statement-do_loop-requires t c = (
  search (rules, stmt_lemmas, block_lemmas),
  (
    c.requires.source,
    (
      c.requires.homes,
      (
        (let source = c.args.source.now in
            let addressed = c.args.addressed.now in
            let scope = c.args.scope.now.items in
            let table = types_of_source source in
            let old = c.args.self.now in
            let stmt = c.args.stmt.now in
            let condition = c.in-DoWhile.condition in
            let body = c.deref-in-DoWhile.result.now in
            let tree = T.DoWhile (stmt_in table body) (value_in table condition) in
            let is : stmt_in table stmt ≡ tree = ap (stmt_in table) c.in-DoWhile.is ∙ ap (λ body. T.DoWhile (stmt_in table body) (value_in table condition)) (sym c.deref-in-DoWhile.ensures) in
            let ask = asked source addressed scope stmt tree old is c.requires.typed c.requires.lives c.requires.foretold c.requires.room in
            let stands = subst (StmtStands table) c.in-DoWhile.is c.requires.typed.1.stands in
            do_typed source addressed scope condition body old stands.1 ask),
        (
          (let source = c.args.source.now in
              let addressed = c.args.addressed.now in
              let scope = c.args.scope.now.items in
              let table = types_of_source source in
              let old = c.args.self.now in
              let stmt = c.args.stmt.now in
              let condition = c.in-DoWhile.condition in
              let body = c.deref-in-DoWhile.result.now in
              let tree = T.DoWhile (stmt_in table body) (value_in table condition) in
              let is : stmt_in table stmt ≡ tree = ap (stmt_in table) c.in-DoWhile.is ∙ ap (λ body. T.DoWhile (stmt_in table body) (value_in table condition)) (sym c.deref-in-DoWhile.ensures) in
              let ask = asked source addressed scope stmt tree old is c.requires.typed c.requires.lives c.requires.foretold c.requires.room in
              let stands = subst (StmtStands table) c.in-DoWhile.is c.requires.typed.1.stands in
              do_body source addressed scope condition body old (subst (StmtStands table) (sym c.deref-in-DoWhile.ensures) stands.0) ask),
          (
            (let source = c.args.source.now in
                let addressed = c.args.addressed.now in
                let scope = c.args.scope.now.items in
                let table = types_of_source source in
                let old = c.args.self.now in
                let stmt = c.args.stmt.now in
                let condition = c.in-DoWhile.condition in
                let body = c.deref-in-DoWhile.result.now in
                let tree = T.DoWhile (stmt_in table body) (value_in table condition) in
                let is : stmt_in table stmt ≡ tree = ap (stmt_in table) c.in-DoWhile.is ∙ ap (λ body. T.DoWhile (stmt_in table body) (value_in table condition)) (sym c.deref-in-DoWhile.ensures) in
                let ask = asked source addressed scope stmt tree old is c.requires.typed c.requires.lives c.requires.foretold c.requires.room in
                lies_right (scope_of source scope) (λ number. takes_stmt number (stmt_in table body)) (λ number. takes false number (value_in table condition)) ask.lives),
            (
              (let source = c.args.source.now in
                  let addressed = c.args.addressed.now in
                  let scope = c.args.scope.now.items in
                  let table = types_of_source source in
                  let old = c.args.self.now in
                  let stmt = c.args.stmt.now in
                  let condition = c.in-DoWhile.condition in
                  let body = c.deref-in-DoWhile.result.now in
                  let tree = T.DoWhile (stmt_in table body) (value_in table condition) in
                  let is : stmt_in table stmt ≡ tree = ap (stmt_in table) c.in-DoWhile.is ∙ ap (λ body. T.DoWhile (stmt_in table body) (value_in table condition)) (sym c.deref-in-DoWhile.ensures) in
                  let ask = asked source addressed scope stmt tree old is c.requires.typed c.requires.lives c.requires.foretold c.requires.room in
                  lies_left (scope_of source scope) (λ number. takes_stmt number (stmt_in table body)) (λ number. takes false number (value_in table condition)) ask.lives),
              (
                (let source = c.args.source.now in
                    let addressed = c.args.addressed.now in
                    let scope = c.args.scope.now.items in
                    let table = types_of_source source in
                    let old = c.args.self.now in
                    let stmt = c.args.stmt.now in
                    let condition = c.in-DoWhile.condition in
                    let body = c.deref-in-DoWhile.result.now in
                    let tree = T.DoWhile (stmt_in table body) (value_in table condition) in
                    let is : stmt_in table stmt ≡ tree = ap (stmt_in table) c.in-DoWhile.is ∙ ap (λ body. T.DoWhile (stmt_in table body) (value_in table condition)) (sym c.deref-in-DoWhile.ensures) in
                    let ask = asked source addressed scope stmt tree old is c.requires.typed c.requires.lives c.requires.foretold c.requires.room in
                    ask.foretold),
                (let source = c.args.source.now in
                    let addressed = c.args.addressed.now in
                    let scope = c.args.scope.now.items in
                    let table = types_of_source source in
                    let old = c.args.self.now in
                    let stmt = c.args.stmt.now in
                    let condition = c.in-DoWhile.condition in
                    let body = c.deref-in-DoWhile.result.now in
                    let tree = T.DoWhile (stmt_in table body) (value_in table condition) in
                    let is : stmt_in table stmt ≡ tree = ap (stmt_in table) c.in-DoWhile.is ∙ ap (λ body. T.DoWhile (stmt_in table body) (value_in table condition)) (sym c.deref-in-DoWhile.ensures) in
                    let ask = asked source addressed scope stmt tree old is c.requires.typed c.requires.lives c.requires.foretold c.requires.room in
                    let room = ask.room in
                    omega (arith, room)),
              ),
            ),
          ),
        ),
      ),
    ),
  ),
)

pub statement-returns-in-DoWhile-clause-code : goal.statement-returns-in-DoWhile-clause-code
statement-returns-in-DoWhile-clause-code t c =
    let source = c.args.source.now in
    let addressed = c.args.addressed.now in
    let scope = c.args.scope.now.items in
    let table = types_of_source source in
    let old = c.args.self.now in
    let stmt = c.args.stmt.now in
    let condition = c.in-DoWhile.condition in
    let body = c.deref-in-DoWhile.result.now in
    let tree = T.DoWhile (stmt_in table body) (value_in table condition) in
    let is : stmt_in table stmt ≡ tree = ap (stmt_in table) c.in-DoWhile.is ∙ ap (λ body. T.DoWhile (stmt_in table body) (value_in table condition)) (sym c.deref-in-DoWhile.ensures) in
    on_ok_then c.do_loop.result (λ lowers. comes_to source scope stmt tree is old c.do_loop.new.self c.args.ways (own_in source scope c.args.ways tree old c.do_loop.new.self lowers)) c.do_loop.ensures.code

pub statement-returns-in-DoWhile-clause-scope : goal.statement-returns-in-DoWhile-clause-scope
statement-returns-in-DoWhile-clause-scope t c = c.do_loop.ensures.scope

pub statement-returns-in-DoWhile-clause-grows : goal.statement-returns-in-DoWhile-clause-grows
statement-returns-in-DoWhile-clause-grows t c = c.do_loop.ensures.grows

pub statement-returns-in-DoWhile-clause-adds : goal.statement-returns-in-DoWhile-clause-adds
statement-returns-in-DoWhile-clause-adds t c =
    let source = c.args.source.now in
    let addressed = c.args.addressed.now in
    let scope = c.args.scope.now.items in
    let table = types_of_source source in
    let old = c.args.self.now in
    let stmt = c.args.stmt.now in
    let condition = c.in-DoWhile.condition in
    let body = c.deref-in-DoWhile.result.now in
    let tree = T.DoWhile (stmt_in table body) (value_in table condition) in
    let is : stmt_in table stmt ≡ tree = ap (stmt_in table) c.in-DoWhile.is ∙ ap (λ body. T.DoWhile (stmt_in table body) (value_in table condition)) (sym c.deref-in-DoWhile.ensures) in
    on_ok_then c.do_loop.result (adds_all source scope stmt tree is old c.do_loop.new.self (names_for (stmt_nodes (stmt_in table body) + value_nodes (value_in table condition))) (omega arith)) c.do_loop.ensures.adds

pub statement-returns-in-DoWhile-clause-variables : goal.statement-returns-in-DoWhile-clause-variables
statement-returns-in-DoWhile-clause-variables t c =
    let source = c.args.source.now in
    let addressed = c.args.addressed.now in
    let scope = c.args.scope.now.items in
    let table = types_of_source source in
    let old = c.args.self.now in
    let stmt = c.args.stmt.now in
    let condition = c.in-DoWhile.condition in
    let body = c.deref-in-DoWhile.result.now in
    let tree = T.DoWhile (stmt_in table body) (value_in table condition) in
    let is : stmt_in table stmt ≡ tree = ap (stmt_in table) c.in-DoWhile.is ∙ ap (λ body. T.DoWhile (stmt_in table body) (value_in table condition)) (sym c.deref-in-DoWhile.ensures) in
    on_ok_then c.do_loop.result (declares_all source scope stmt tree is old c.do_loop.new.self (taken_stmt (length scope) (stmt_in table body)) refl) c.do_loop.ensures.variables

pub statement-start-requires-clause-homes : goal.statement-start-requires-clause-homes
statement-start-requires-clause-homes t c = c.requires.homes

pub statement-start-requires-clause-typed : goal.statement-start-requires-clause-typed
statement-start-requires-clause-typed t c =
    let source = c.args.source.now in
    let addressed = c.args.addressed.now in
    let scope = c.args.scope.now.items in
    let table = types_of_source source in
    let old = c.args.self.now in
    let stmt = c.args.stmt.now in
    let start = c.in-For.start in
    let condition = c.in-For.condition in
    let step = c.in-For.step in
    let body = c.in-For.body.value in
    let tree = T.For (start_in table start) (optional_value_in table condition) (optional_value_in table step) (stmt_in table body) in
    let is : stmt_in table stmt ≡ tree = ap (stmt_in table) c.in-For.is in
    let ask = asked source addressed scope stmt tree old is c.requires.typed c.requires.lives c.requires.foretold c.requires.room in
    let stands = subst (StmtStands table) c.in-For.is c.requires.typed.1.stands in
    for_start source addressed scope start condition step body old ask stands.0

pub statement-start-requires-clause-lives : goal.statement-start-requires-clause-lives
statement-start-requires-clause-lives t c =
    let source = c.args.source.now in
    let addressed = c.args.addressed.now in
    let scope = c.args.scope.now.items in
    let table = types_of_source source in
    let old = c.args.self.now in
    let stmt = c.args.stmt.now in
    let start = c.in-For.start in
    let condition = c.in-For.condition in
    let step = c.in-For.step in
    let body = c.in-For.body.value in
    let tree = T.For (start_in table start) (optional_value_in table condition) (optional_value_in table step) (stmt_in table body) in
    let is : stmt_in table stmt ≡ tree = ap (stmt_in table) c.in-For.is in
    let ask = asked source addressed scope stmt tree old is c.requires.typed c.requires.lives c.requires.foretold c.requires.room in
    for_starts source addressed scope start condition step body old ask

pub statement-start-requires-clause-foretold : goal.statement-start-requires-clause-foretold
statement-start-requires-clause-foretold t c =
    let source = c.args.source.now in
    let addressed = c.args.addressed.now in
    let scope = c.args.scope.now.items in
    let table = types_of_source source in
    let old = c.args.self.now in
    let stmt = c.args.stmt.now in
    let start = c.in-For.start in
    let condition = c.in-For.condition in
    let step = c.in-For.step in
    let body = c.in-For.body.value in
    let tree = T.For (start_in table start) (optional_value_in table condition) (optional_value_in table step) (stmt_in table body) in
    let is : stmt_in table stmt ≡ tree = ap (stmt_in table) c.in-For.is in
    let ask = asked source addressed scope stmt tree old is c.requires.typed c.requires.lives c.requires.foretold c.requires.room in
    let is_taken = taken_in_turns (optional_value_in table condition) (optional_value_in table step) (stmt_in table body) in
    (is_taken, for_foretold source addressed scope start condition step body old ask)

pub statement-start-requires-clause-room : goal.statement-start-requires-clause-room
statement-start-requires-clause-room t c =
    let source = c.args.source.now in
    let addressed = c.args.addressed.now in
    let scope = c.args.scope.now.items in
    let table = types_of_source source in
    let old = c.args.self.now in
    let stmt = c.args.stmt.now in
    let start = c.in-For.start in
    let condition = c.in-For.condition in
    let step = c.in-For.step in
    let body = c.in-For.body.value in
    let tree = T.For (start_in table start) (optional_value_in table condition) (optional_value_in table step) (stmt_in table body) in
    let is : stmt_in table stmt ≡ tree = ap (stmt_in table) c.in-For.is in
    let ask = asked source addressed scope stmt tree old is c.requires.typed c.requires.lives c.requires.foretold c.requires.room in
    let room = ask.room in
    omega (arith, room)

pub statement-turns-requires : goal.statement-turns-requires
statement-turns-requires t c = (
  search (rules, stmt_lemmas, block_lemmas),
  (
    c.requires.source,
    (
      c.in_ok-start-in-For.ensures.homes,
      (
        (let source = c.args.source.now in
            let addressed = c.args.addressed.now in
            let scope = c.args.scope.now.items in
            let table = types_of_source source in
            let old = c.args.self.now in
            let stmt = c.args.stmt.now in
            let start = c.in-For.start in
            let condition = c.in-For.condition in
            let step = c.in-For.step in
            let body = c.deref-in-For.result.now in
            let tree = T.For (start_in table start) (optional_value_in table condition) (optional_value_in table step) (stmt_in table body) in
            let is : stmt_in table stmt ≡ tree = ap (stmt_in table) c.in-For.is ∙ ap (λ body. T.For (start_in table start) (optional_value_in table condition) (optional_value_in table step) (stmt_in table body)) (sym c.deref-in-For.ensures) in
            let ask = asked source addressed scope stmt tree old is c.requires.typed c.requires.lives c.requires.foretold c.requires.room in
            let stands = subst (StmtStands table) c.in-For.is c.requires.typed.1.stands in
            let is_taken = taken_in_turns (optional_value_in table condition) (optional_value_in table step) (stmt_in table body) in
            let begun = c.start.new.self in
            let inner = c.start.new.scope.items in
            let lowers = c.in_ok-start-in-For.ensures.code is_taken (for_foretold source addressed scope start condition step body old ask) in
            let around = begun_around source scope inner is_taken start old begun lowers in
            for_test source addressed scope start condition step body old ask inner around stands.1),
        (
          (let source = c.args.source.now in
              let addressed = c.args.addressed.now in
              let scope = c.args.scope.now.items in
              let table = types_of_source source in
              let old = c.args.self.now in
              let stmt = c.args.stmt.now in
              let start = c.in-For.start in
              let condition = c.in-For.condition in
              let step = c.in-For.step in
              let body = c.deref-in-For.result.now in
              let tree = T.For (start_in table start) (optional_value_in table condition) (optional_value_in table step) (stmt_in table body) in
              let is : stmt_in table stmt ≡ tree = ap (stmt_in table) c.in-For.is ∙ ap (λ body. T.For (start_in table start) (optional_value_in table condition) (optional_value_in table step) (stmt_in table body)) (sym c.deref-in-For.ensures) in
              let ask = asked source addressed scope stmt tree old is c.requires.typed c.requires.lives c.requires.foretold c.requires.room in
              let stands = subst (StmtStands table) c.in-For.is c.requires.typed.1.stands in
              let is_taken = taken_in_turns (optional_value_in table condition) (optional_value_in table step) (stmt_in table body) in
              let begun = c.start.new.self in
              let inner = c.start.new.scope.items in
              let lowers = c.in_ok-start-in-For.ensures.code is_taken (for_foretold source addressed scope start condition step body old ask) in
              let around = begun_around source scope inner is_taken start old begun lowers in
              for_step source addressed scope start condition step body old ask inner around stands.2),
          (
            (let source = c.args.source.now in
                let addressed = c.args.addressed.now in
                let scope = c.args.scope.now.items in
                let table = types_of_source source in
                let old = c.args.self.now in
                let stmt = c.args.stmt.now in
                let start = c.in-For.start in
                let condition = c.in-For.condition in
                let step = c.in-For.step in
                let body = c.deref-in-For.result.now in
                let tree = T.For (start_in table start) (optional_value_in table condition) (optional_value_in table step) (stmt_in table body) in
                let is : stmt_in table stmt ≡ tree = ap (stmt_in table) c.in-For.is ∙ ap (λ body. T.For (start_in table start) (optional_value_in table condition) (optional_value_in table step) (stmt_in table body)) (sym c.deref-in-For.ensures) in
                let ask = asked source addressed scope stmt tree old is c.requires.typed c.requires.lives c.requires.foretold c.requires.room in
                let stands = subst (StmtStands table) c.in-For.is c.requires.typed.1.stands in
                let is_taken = taken_in_turns (optional_value_in table condition) (optional_value_in table step) (stmt_in table body) in
                let begun = c.start.new.self in
                let inner = c.start.new.scope.items in
                let lowers = c.in_ok-start-in-For.ensures.code is_taken (for_foretold source addressed scope start condition step body old ask) in
                let around = begun_around source scope inner is_taken start old begun lowers in
                for_body source addressed scope start condition step body old ask inner around (subst (StmtStands table) (sym c.deref-in-For.ensures) stands.3)),
            (
              (let source = c.args.source.now in
                  let addressed = c.args.addressed.now in
                  let scope = c.args.scope.now.items in
                  let table = types_of_source source in
                  let old = c.args.self.now in
                  let stmt = c.args.stmt.now in
                  let start = c.in-For.start in
                  let condition = c.in-For.condition in
                  let step = c.in-For.step in
                  let body = c.deref-in-For.result.now in
                  let tree = T.For (start_in table start) (optional_value_in table condition) (optional_value_in table step) (stmt_in table body) in
                  let is : stmt_in table stmt ≡ tree = ap (stmt_in table) c.in-For.is ∙ ap (λ body. T.For (start_in table start) (optional_value_in table condition) (optional_value_in table step) (stmt_in table body)) (sym c.deref-in-For.ensures) in
                  let ask = asked source addressed scope stmt tree old is c.requires.typed c.requires.lives c.requires.foretold c.requires.room in
                  let stands = subst (StmtStands table) c.in-For.is c.requires.typed.1.stands in
                  let is_taken = taken_in_turns (optional_value_in table condition) (optional_value_in table step) (stmt_in table body) in
                  let begun = c.start.new.self in
                  let inner = c.start.new.scope.items in
                  let lowers = c.in_ok-start-in-For.ensures.code is_taken (for_foretold source addressed scope start condition step body old ask) in
                  let around = begun_around source scope inner is_taken start old begun lowers in
                  begun_lie source scope inner is_taken start old begun lowers (for_lives source addressed scope start condition step body old ask)),
              (
                (let source = c.args.source.now in
                    let addressed = c.args.addressed.now in
                    let scope = c.args.scope.now.items in
                    let table = types_of_source source in
                    let old = c.args.self.now in
                    let stmt = c.args.stmt.now in
                    let start = c.in-For.start in
                    let condition = c.in-For.condition in
                    let step = c.in-For.step in
                    let body = c.deref-in-For.result.now in
                    let tree = T.For (start_in table start) (optional_value_in table condition) (optional_value_in table step) (stmt_in table body) in
                    let is : stmt_in table stmt ≡ tree = ap (stmt_in table) c.in-For.is ∙ ap (λ body. T.For (start_in table start) (optional_value_in table condition) (optional_value_in table step) (stmt_in table body)) (sym c.deref-in-For.ensures) in
                    let ask = asked source addressed scope stmt tree old is c.requires.typed c.requires.lives c.requires.foretold c.requires.room in
                    let stands = subst (StmtStands table) c.in-For.is c.requires.typed.1.stands in
                    let is_taken = taken_in_turns (optional_value_in table condition) (optional_value_in table step) (stmt_in table body) in
                    let begun = c.start.new.self in
                    let inner = c.start.new.scope.items in
                    let lowers = c.in_ok-start-in-For.ensures.code is_taken (for_foretold source addressed scope start condition step body old ask) in
                    let around = begun_around source scope inner is_taken start old begun lowers in
                    for_behind source addressed scope start condition step body old ask begun inner c.in_ok-start-in-For.ensures.depth (c.in_ok-start-in-For.ensures.variables is_taken)),
                (let source = c.args.source.now in
                    let addressed = c.args.addressed.now in
                    let scope = c.args.scope.now.items in
                    let table = types_of_source source in
                    let old = c.args.self.now in
                    let stmt = c.args.stmt.now in
                    let start = c.in-For.start in
                    let condition = c.in-For.condition in
                    let step = c.in-For.step in
                    let body = c.deref-in-For.result.now in
                    let tree = T.For (start_in table start) (optional_value_in table condition) (optional_value_in table step) (stmt_in table body) in
                    let is : stmt_in table stmt ≡ tree = ap (stmt_in table) c.in-For.is ∙ ap (λ body. T.For (start_in table start) (optional_value_in table condition) (optional_value_in table step) (stmt_in table body)) (sym c.deref-in-For.ensures) in
                    let ask = asked source addressed scope stmt tree old is c.requires.typed c.requires.lives c.requires.foretold c.requires.room in
                    let room = ask.room in
                    let adds = c.in_ok-start-in-For.ensures.adds in
                    omega (arith, adds, room)),
              ),
            ),
          ),
        ),
      ),
    ),
  ),
)

pub statement-returns-in_ok-turns-in-For-clause-code : goal.statement-returns-in_ok-turns-in-For-clause-code
statement-returns-in_ok-turns-in-For-clause-code t c =
    let source = c.args.source.now in
    let addressed = c.args.addressed.now in
    let scope = c.args.scope.now.items in
    let table = types_of_source source in
    let old = c.args.self.now in
    let stmt = c.args.stmt.now in
    let start = c.in-For.start in
    let condition = c.in-For.condition in
    let step = c.in-For.step in
    let body = c.deref-in-For.result.now in
    let tree = T.For (start_in table start) (optional_value_in table condition) (optional_value_in table step) (stmt_in table body) in
    let is : stmt_in table stmt ≡ tree = ap (stmt_in table) c.in-For.is ∙ ap (λ body. T.For (start_in table start) (optional_value_in table condition) (optional_value_in table step) (stmt_in table body)) (sym c.deref-in-For.ensures) in
    let ask = asked source addressed scope stmt tree old is c.requires.typed c.requires.lives c.requires.foretold c.requires.room in
    let is_taken = taken_in_turns (optional_value_in table condition) (optional_value_in table step) (stmt_in table body) in
    let begun = c.start.new.self in
    let inner = c.start.new.scope.items in
    let lowers = c.in_ok-start-in-For.ensures.code is_taken (for_foretold source addressed scope start condition step body old ask) in
    let around = begun_around source scope inner is_taken start old begun lowers in
    comes_to source scope stmt tree is old c.turns.new.self c.args.ways
    (for_lowers source scope c.args.ways inner start condition step body old begun c.turns.new.self lowers c.in_ok-turns-in-For.ensures.code c.in_ok-turns-in-For.ensures.grows)

pub statement-returns-in_ok-turns-in-For-clause-scope : goal.statement-returns-in_ok-turns-in-For-clause-scope
statement-returns-in_ok-turns-in-For-clause-scope t c = scope_back c.args.scope.now.items c.turns.new.scope.items c.truncate.new.self.items c.len-outside.result (c.len-outside.ensures ∙ c.args.scope.now.ok.0) (c.in_ok-start-in-For.ensures.scope.0, c.in_ok-turns-in-For.ensures.scope ∙ c.in_ok-start-in-For.ensures.scope.1) c.truncate.ensures.items

pub statement-returns-in_ok-turns-in-For-clause-grows : goal.statement-returns-in_ok-turns-in-For-clause-grows
statement-returns-in_ok-turns-in-For-clause-grows t c = grows_on c.args.self.now c.start.new.self c.turns.new.self c.in_ok-start-in-For.ensures.grows c.in_ok-turns-in-For.ensures.grows

pub statement-returns-in_ok-turns-in-For-clause-adds : goal.statement-returns-in_ok-turns-in-For-clause-adds
statement-returns-in_ok-turns-in-For-clause-adds t c =
    let source = c.args.source.now in
    let addressed = c.args.addressed.now in
    let scope = c.args.scope.now.items in
    let table = types_of_source source in
    let old = c.args.self.now in
    let stmt = c.args.stmt.now in
    let start = c.in-For.start in
    let condition = c.in-For.condition in
    let step = c.in-For.step in
    let body = c.deref-in-For.result.now in
    let tree = T.For (start_in table start) (optional_value_in table condition) (optional_value_in table step) (stmt_in table body) in
    let is : stmt_in table stmt ≡ tree = ap (stmt_in table) c.in-For.is ∙ ap (λ body. T.For (start_in table start) (optional_value_in table condition) (optional_value_in table step) (stmt_in table body)) (sym c.deref-in-For.ensures) in
    let adds = c.in_ok-start-in-For.ensures.adds in
    let more = c.in_ok-turns-in-For.ensures.adds in
    adds_all source scope stmt tree is old c.turns.new.self (names_for (start_nodes (start_in table start) + (optional_nodes (optional_value_in table condition) + (optional_nodes (optional_value_in table step) + stmt_nodes (stmt_in table body))))) (omega arith) (omega (arith, adds, more))

pub statement-returns-in_ok-turns-in-For-clause-variables : goal.statement-returns-in_ok-turns-in-For-clause-variables
statement-returns-in_ok-turns-in-For-clause-variables t c =
    let source = c.args.source.now in
    let addressed = c.args.addressed.now in
    let scope = c.args.scope.now.items in
    let table = types_of_source source in
    let old = c.args.self.now in
    let stmt = c.args.stmt.now in
    let start = c.in-For.start in
    let condition = c.in-For.condition in
    let step = c.in-For.step in
    let body = c.deref-in-For.result.now in
    let tree = T.For (start_in table start) (optional_value_in table condition) (optional_value_in table step) (stmt_in table body) in
    let is : stmt_in table stmt ≡ tree = ap (stmt_in table) c.in-For.is ∙ ap (λ body. T.For (start_in table start) (optional_value_in table condition) (optional_value_in table step) (stmt_in table body)) (sym c.deref-in-For.ensures) in
    let ask = asked source addressed scope stmt tree old is c.requires.typed c.requires.lives c.requires.foretold c.requires.room in
    let is_taken = taken_in_turns (optional_value_in table condition) (optional_value_in table step) (stmt_in table body) in
    let first = taken_start (length scope) is_taken (start_in table start) in
    let second = taken_stmt (depth_behind (length scope) (start_in table start)) (stmt_in table body) in
    let declared = c.in_ok-start-in-For.ensures.variables is_taken in
    let more = subst (λ depth. Declares c.start.new.self c.turns.new.self (taken_stmt depth (stmt_in table body))) c.in_ok-start-in-For.ensures.depth c.in_ok-turns-in-For.ensures.variables in
    let long = length-append first second in
    declares_all source scope stmt tree is old c.turns.new.self (first ++ second) refl (omega (arith, declared, more, long))

pub statement-switch-requires : goal.statement-switch-requires
statement-switch-requires t c = (
  search (rules, stmt_lemmas, block_lemmas),
  (
    c.requires.source,
    (
      c.requires.homes,
      (
        (let source = c.args.source.now in
            let addressed = c.args.addressed.now in
            let scope = c.args.scope.now.items in
            let table = types_of_source source in
            let old = c.args.self.now in
            let stmt = c.args.stmt.now in
            let value = c.in-Switch.value in
            let slice = c.as_slice-in-Switch.result.now in
            let tree = T.Switch (value_in table value) (switch_in table slice) in
            let is : stmt_in table stmt ≡ tree = switch_is table stmt value c.in-Switch.items slice c.in-Switch.is c.as_slice-in-Switch.ensures.value in
            let ask = asked source addressed scope stmt tree old is c.requires.typed c.requires.lives c.requires.foretold c.requires.room in
            let stands = subst (StmtStands table) c.in-Switch.is c.requires.typed.1.stands in
            switch_value source addressed scope value slice old stands.0 ask),
        (
          (let source = c.args.source.now in
              let addressed = c.args.addressed.now in
              let scope = c.args.scope.now.items in
              let table = types_of_source source in
              let old = c.args.self.now in
              let stmt = c.args.stmt.now in
              let value = c.in-Switch.value in
              let slice = c.as_slice-in-Switch.result.now in
              let tree = T.Switch (value_in table value) (switch_in table slice) in
              let is : stmt_in table stmt ≡ tree = switch_is table stmt value c.in-Switch.items slice c.in-Switch.is c.as_slice-in-Switch.ensures.value in
              let ask = asked source addressed scope stmt tree old is c.requires.typed c.requires.lives c.requires.foretold c.requires.room in
              switch_typed source addressed scope stmt value c.in-Switch.items slice old c.in-Switch.is c.as_slice-in-Switch.ensures.value c.requires.typed.1.stands ask),
          (
            (let source = c.args.source.now in
                let addressed = c.args.addressed.now in
                let scope = c.args.scope.now.items in
                let table = types_of_source source in
                let old = c.args.self.now in
                let stmt = c.args.stmt.now in
                let value = c.in-Switch.value in
                let slice = c.as_slice-in-Switch.result.now in
                let tree = T.Switch (value_in table value) (switch_in table slice) in
                let is : stmt_in table stmt ≡ tree = switch_is table stmt value c.in-Switch.items slice c.in-Switch.is c.as_slice-in-Switch.ensures.value in
                let ask = asked source addressed scope stmt tree old is c.requires.typed c.requires.lives c.requires.foretold c.requires.room in
                lies_left (scope_of source scope) (λ number. takes false number (value_in table value)) (λ number. takes_items number (switch_in table slice)) ask.lives),
            (
              (let source = c.args.source.now in
                  let addressed = c.args.addressed.now in
                  let scope = c.args.scope.now.items in
                  let table = types_of_source source in
                  let old = c.args.self.now in
                  let stmt = c.args.stmt.now in
                  let value = c.in-Switch.value in
                  let slice = c.as_slice-in-Switch.result.now in
                  let tree = T.Switch (value_in table value) (switch_in table slice) in
                  let is : stmt_in table stmt ≡ tree = switch_is table stmt value c.in-Switch.items slice c.in-Switch.is c.as_slice-in-Switch.ensures.value in
                  let ask = asked source addressed scope stmt tree old is c.requires.typed c.requires.lives c.requires.foretold c.requires.room in
                  lies_right (scope_of source scope) (λ number. takes false number (value_in table value)) (λ number. takes_items number (switch_in table slice)) ask.lives),
              (
                (let source = c.args.source.now in
                    let addressed = c.args.addressed.now in
                    let scope = c.args.scope.now.items in
                    let table = types_of_source source in
                    let old = c.args.self.now in
                    let stmt = c.args.stmt.now in
                    let value = c.in-Switch.value in
                    let slice = c.as_slice-in-Switch.result.now in
                    let tree = T.Switch (value_in table value) (switch_in table slice) in
                    let is : stmt_in table stmt ≡ tree = switch_is table stmt value c.in-Switch.items slice c.in-Switch.is c.as_slice-in-Switch.ensures.value in
                    let ask = asked source addressed scope stmt tree old is c.requires.typed c.requires.lives c.requires.foretold c.requires.room in
                    ask.foretold),
                (let source = c.args.source.now in
                    let addressed = c.args.addressed.now in
                    let scope = c.args.scope.now.items in
                    let table = types_of_source source in
                    let old = c.args.self.now in
                    let stmt = c.args.stmt.now in
                    let value = c.in-Switch.value in
                    let slice = c.as_slice-in-Switch.result.now in
                    let tree = T.Switch (value_in table value) (switch_in table slice) in
                    let is : stmt_in table stmt ≡ tree = switch_is table stmt value c.in-Switch.items slice c.in-Switch.is c.as_slice-in-Switch.ensures.value in
                    let ask = asked source addressed scope stmt tree old is c.requires.typed c.requires.lives c.requires.foretold c.requires.room in
                    let room = ask.room in
                    omega (arith, room)),
              ),
            ),
          ),
        ),
      ),
    ),
  ),
)

pub statement-returns-in-Switch-clause-code : goal.statement-returns-in-Switch-clause-code
statement-returns-in-Switch-clause-code t c =
    let source = c.args.source.now in
    let addressed = c.args.addressed.now in
    let scope = c.args.scope.now.items in
    let table = types_of_source source in
    let old = c.args.self.now in
    let stmt = c.args.stmt.now in
    let value = c.in-Switch.value in
    let slice = c.as_slice-in-Switch.result.now in
    let tree = T.Switch (value_in table value) (switch_in table slice) in
    let is : stmt_in table stmt ≡ tree = switch_is table stmt value c.in-Switch.items slice c.in-Switch.is c.as_slice-in-Switch.ensures.value in
    on_ok_then c.switch.result (comes_to source scope stmt tree is old c.switch.new.self c.args.ways) c.switch.ensures.code

pub statement-returns-in-Switch-clause-scope : goal.statement-returns-in-Switch-clause-scope
statement-returns-in-Switch-clause-scope t c = c.switch.ensures.scope

pub statement-returns-in-Switch-clause-grows : goal.statement-returns-in-Switch-clause-grows
statement-returns-in-Switch-clause-grows t c = c.switch.ensures.grows

pub statement-returns-in-Switch-clause-adds : goal.statement-returns-in-Switch-clause-adds
statement-returns-in-Switch-clause-adds t c =
    let source = c.args.source.now in
    let addressed = c.args.addressed.now in
    let scope = c.args.scope.now.items in
    let table = types_of_source source in
    let old = c.args.self.now in
    let stmt = c.args.stmt.now in
    let value = c.in-Switch.value in
    let slice = c.as_slice-in-Switch.result.now in
    let tree = T.Switch (value_in table value) (switch_in table slice) in
    let is : stmt_in table stmt ≡ tree = switch_is table stmt value c.in-Switch.items slice c.in-Switch.is c.as_slice-in-Switch.ensures.value in
    on_ok_then c.switch.result (adds_all source scope stmt tree is old c.switch.new.self (names_for (value_nodes (value_in table value) + switch_nodes (switch_in table slice))) (omega arith)) c.switch.ensures.adds

pub statement-returns-in-Switch-clause-variables : goal.statement-returns-in-Switch-clause-variables
statement-returns-in-Switch-clause-variables t c =
    let source = c.args.source.now in
    let addressed = c.args.addressed.now in
    let scope = c.args.scope.now.items in
    let table = types_of_source source in
    let old = c.args.self.now in
    let stmt = c.args.stmt.now in
    let value = c.in-Switch.value in
    let slice = c.as_slice-in-Switch.result.now in
    let tree = T.Switch (value_in table value) (switch_in table slice) in
    let is : stmt_in table stmt ≡ tree = switch_is table stmt value c.in-Switch.items slice c.in-Switch.is c.as_slice-in-Switch.ensures.value in
    on_ok_then c.switch.result (declares_all source scope stmt tree is old c.switch.new.self (taken_items (length scope) (switch_in table slice)) refl) c.switch.ensures.variables

pub statement-returns-in-Break-clause-code : goal.statement-returns-in-Break-clause-code
statement-returns-in-Break-clause-code t c =
    let source = c.args.source.now in
    let addressed = c.args.addressed.now in
    let scope = c.args.scope.now.items in
    let table = types_of_source source in
    let old = c.args.self.now in
    let stmt = c.args.stmt.now in
    let tree = T.Break in
    let is : stmt_in table stmt ≡ tree = ap (stmt_in table) c.in-Break.is in
    on_ok_then c.append.result (λ leads. comes_to source scope stmt tree is old c.append.new.self c.args.ways (leads table)) c.append.ensures.code

pub statement-returns-in-Break-clause-scope : goal.statement-returns-in-Break-clause-scope
statement-returns-in-Break-clause-scope t c = on_ok c.append.result refl

pub statement-returns-in-Break-clause-grows : goal.statement-returns-in-Break-clause-grows
statement-returns-in-Break-clause-grows t c = c.append.ensures.grows

pub statement-returns-in-Break-clause-adds : goal.statement-returns-in-Break-clause-adds
statement-returns-in-Break-clause-adds t c =
    let source = c.args.source.now in
    let addressed = c.args.addressed.now in
    let scope = c.args.scope.now.items in
    let table = types_of_source source in
    let old = c.args.self.now in
    let stmt = c.args.stmt.now in
    let tree = T.Break in
    let is : stmt_in table stmt ≡ tree = ap (stmt_in table) c.in-Break.is in
    let same = names_same old c.append.new.self c.append.ensures.counts in
    on_ok c.append.result (adds_all source scope stmt tree is old c.append.new.self 0 (omega arith) (omega (arith, same)))

pub statement-returns-in-Break-clause-variables : goal.statement-returns-in-Break-clause-variables
statement-returns-in-Break-clause-variables t c =
    let source = c.args.source.now in
    let addressed = c.args.addressed.now in
    let scope = c.args.scope.now.items in
    let table = types_of_source source in
    let old = c.args.self.now in
    let stmt = c.args.stmt.now in
    let tree = T.Break in
    let is : stmt_in table stmt ≡ tree = ap (stmt_in table) c.in-Break.is in
    on_ok c.append.result (declares_none source scope stmt tree is old c.append.new.self refl (variables_same old c.append.new.self c.append.ensures.counts))

pub statement-returns-in-Continue-clause-code : goal.statement-returns-in-Continue-clause-code
statement-returns-in-Continue-clause-code t c =
    let source = c.args.source.now in
    let addressed = c.args.addressed.now in
    let scope = c.args.scope.now.items in
    let table = types_of_source source in
    let old = c.args.self.now in
    let stmt = c.args.stmt.now in
    let tree = T.Continue in
    let is : stmt_in table stmt ≡ tree = ap (stmt_in table) c.in-Continue.is in
    on_ok_then c.append-in-Continue.result (λ leads. comes_to source scope stmt tree is old c.append-in-Continue.new.self c.args.ways (leads table)) c.append-in-Continue.ensures.code

pub statement-returns-in-Continue-clause-scope : goal.statement-returns-in-Continue-clause-scope
statement-returns-in-Continue-clause-scope t c = on_ok c.append-in-Continue.result refl

pub statement-returns-in-Continue-clause-grows : goal.statement-returns-in-Continue-clause-grows
statement-returns-in-Continue-clause-grows t c = c.append-in-Continue.ensures.grows

pub statement-returns-in-Continue-clause-adds : goal.statement-returns-in-Continue-clause-adds
statement-returns-in-Continue-clause-adds t c =
    let source = c.args.source.now in
    let addressed = c.args.addressed.now in
    let scope = c.args.scope.now.items in
    let table = types_of_source source in
    let old = c.args.self.now in
    let stmt = c.args.stmt.now in
    let tree = T.Continue in
    let is : stmt_in table stmt ≡ tree = ap (stmt_in table) c.in-Continue.is in
    let same = names_same old c.append-in-Continue.new.self c.append-in-Continue.ensures.counts in
    on_ok c.append-in-Continue.result (adds_all source scope stmt tree is old c.append-in-Continue.new.self 0 (omega arith) (omega (arith, same)))

pub statement-returns-in-Continue-clause-variables : goal.statement-returns-in-Continue-clause-variables
statement-returns-in-Continue-clause-variables t c =
    let source = c.args.source.now in
    let addressed = c.args.addressed.now in
    let scope = c.args.scope.now.items in
    let table = types_of_source source in
    let old = c.args.self.now in
    let stmt = c.args.stmt.now in
    let tree = T.Continue in
    let is : stmt_in table stmt ≡ tree = ap (stmt_in table) c.in-Continue.is in
    on_ok c.append-in-Continue.result (declares_none source scope stmt tree is old c.append-in-Continue.new.self refl (variables_same old c.append-in-Continue.new.self c.append-in-Continue.ensures.counts))

pub statement-returned-requires-clause-homes : goal.statement-returned-requires-clause-homes
statement-returned-requires-clause-homes t c = in_slice (IsScope c.args.source.now) c.as_slice-in-Return.result.now c.args.scope.now.items c.as_slice-in-Return.ensures.value c.requires.homes

pub statement-returned-requires-clause-typed : goal.statement-returned-requires-clause-typed
statement-returned-requires-clause-typed t c =
    let source = c.args.source.now in
    let addressed = c.args.addressed.now in
    let scope = c.args.scope.now.items in
    let table = types_of_source source in
    let old = c.args.self.now in
    let stmt = c.args.stmt.now in
    let value = c.in-Return.value in
    let slice = c.as_slice-in-Return.result.now in
    let same = c.as_slice-in-Return.ensures.value in
    let tree = T.Return (optional_value_in table value) in
    let is : stmt_in table stmt ≡ tree = ap (stmt_in table) c.in-Return.is in
    let ask = asked source addressed scope stmt tree old is c.requires.typed c.requires.lives c.requires.foretold c.requires.room in
    (ask.within.result, in_slice (λ scope. ReturnTyped source scope ask.within.result value) slice scope same (record { stands = subst (StmtStands table) c.in-Return.is c.requires.typed.1.stands; typed = ask.typed }))

pub statement-returned-requires-clause-lives : goal.statement-returned-requires-clause-lives
statement-returned-requires-clause-lives t c =
    let source = c.args.source.now in
    let addressed = c.args.addressed.now in
    let scope = c.args.scope.now.items in
    let table = types_of_source source in
    let old = c.args.self.now in
    let stmt = c.args.stmt.now in
    let value = c.in-Return.value in
    let slice = c.as_slice-in-Return.result.now in
    let same = c.as_slice-in-Return.ensures.value in
    let tree = T.Return (optional_value_in table value) in
    let is : stmt_in table stmt ≡ tree = ap (stmt_in table) c.in-Return.is in
    let ask = asked source addressed scope stmt tree old is c.requires.typed c.requires.lives c.requires.foretold c.requires.room in
    in_slice (λ scope. LieInMemory (scope_of source scope) (λ number. takes_optional number (optional_value_in table value))) slice scope same ask.lives

pub statement-returned-requires-clause-room : goal.statement-returned-requires-clause-room
statement-returned-requires-clause-room t c =
    let source = c.args.source.now in
    let addressed = c.args.addressed.now in
    let scope = c.args.scope.now.items in
    let table = types_of_source source in
    let old = c.args.self.now in
    let stmt = c.args.stmt.now in
    let value = c.in-Return.value in
    let slice = c.as_slice-in-Return.result.now in
    let same = c.as_slice-in-Return.ensures.value in
    let tree = T.Return (optional_value_in table value) in
    let is : stmt_in table stmt ≡ tree = ap (stmt_in table) c.in-Return.is in
    let ask = asked source addressed scope stmt tree old is c.requires.typed c.requires.lives c.requires.foretold c.requires.room in
    let room = ask.room in
    omega (arith, room)

pub statement-returns-in-Return-clause-code : goal.statement-returns-in-Return-clause-code
statement-returns-in-Return-clause-code t c =
    let source = c.args.source.now in
    let addressed = c.args.addressed.now in
    let scope = c.args.scope.now.items in
    let table = types_of_source source in
    let old = c.args.self.now in
    let stmt = c.args.stmt.now in
    let value = c.in-Return.value in
    let slice = c.as_slice-in-Return.result.now in
    let same = c.as_slice-in-Return.ensures.value in
    let tree = T.Return (optional_value_in table value) in
    let is : stmt_in table stmt ≡ tree = ap (stmt_in table) c.in-Return.is in
    on_ok_then c.returned.result (λ lowers. comes_to source scope stmt tree is old c.returned.new.self c.args.ways (own_in source scope c.args.ways tree old c.returned.new.self (of_slice (λ scope. OwnLowers source scope tree old c.returned.new.self) slice scope same lowers))) c.returned.ensures.code

pub statement-returns-in-Return-clause-scope : goal.statement-returns-in-Return-clause-scope
statement-returns-in-Return-clause-scope t c = on_ok c.returned.result refl

pub statement-returns-in-Return-clause-grows : goal.statement-returns-in-Return-clause-grows
statement-returns-in-Return-clause-grows t c = c.returned.ensures.grows

pub statement-returns-in-Return-clause-adds : goal.statement-returns-in-Return-clause-adds
statement-returns-in-Return-clause-adds t c =
    let source = c.args.source.now in
    let addressed = c.args.addressed.now in
    let scope = c.args.scope.now.items in
    let table = types_of_source source in
    let old = c.args.self.now in
    let stmt = c.args.stmt.now in
    let value = c.in-Return.value in
    let slice = c.as_slice-in-Return.result.now in
    let same = c.as_slice-in-Return.ensures.value in
    let tree = T.Return (optional_value_in table value) in
    let is : stmt_in table stmt ≡ tree = ap (stmt_in table) c.in-Return.is in
    on_ok_then c.returned.result (adds_all source scope stmt tree is old c.returned.new.self (names_for (optional_nodes (optional_value_in table value))) (omega arith)) c.returned.ensures.adds

pub statement-returns-in-Return-clause-variables : goal.statement-returns-in-Return-clause-variables
statement-returns-in-Return-clause-variables t c =
    let source = c.args.source.now in
    let addressed = c.args.addressed.now in
    let scope = c.args.scope.now.items in
    let table = types_of_source source in
    let old = c.args.self.now in
    let stmt = c.args.stmt.now in
    let value = c.in-Return.value in
    let slice = c.as_slice-in-Return.result.now in
    let same = c.as_slice-in-Return.ensures.value in
    let tree = T.Return (optional_value_in table value) in
    let is : stmt_in table stmt ≡ tree = ap (stmt_in table) c.in-Return.is in
    on_ok_then c.returned.result (declares_none source scope stmt tree is old c.returned.new.self refl) c.returned.ensures.variables

pub while_loop-condition-requires-clause-homes : goal.while_loop-condition-requires-clause-homes
while_loop-condition-requires-clause-homes t c = in_slice (IsScope c.args.source.now) c.as_slice.result.now c.args.scope.now.items (c.as_slice.ensures.value) c.requires.homes

pub while_loop-condition-requires-clause-typed : goal.while_loop-condition-requires-clause-typed
while_loop-condition-requires-clause-typed t c = in_slice (λ scope. ConditionTyped c.args.source.now scope c.args.condition.now) c.as_slice.result.now c.args.scope.now.items (c.as_slice.ensures.value) c.requires.condition

pub while_loop-condition-requires-clause-lives : goal.while_loop-condition-requires-clause-lives
while_loop-condition-requires-clause-lives t c =
    in_slice (λ scope. LieInMemory (scope_of c.args.source.now scope) (λ number. takes false number (value_in (types_of_source c.args.source.now) c.args.condition.now))) c.as_slice.result.now c.args.scope.now.items (c.as_slice.ensures.value) c.requires.tested

pub while_loop-condition-requires-clause-room : goal.while_loop-condition-requires-clause-room
while_loop-condition-requires-clause-room t c =
    let room = c.requires.room in
    omega (arith, room)

pub while_loop-behind-exit-requires : goal.while_loop-behind-exit-requires
while_loop-behind-exit-requires t c = omega (arith, c.here.ensures, c.condition.new.self.points.ok, c.condition.new.self.points.small)

pub while_loop-behind-requires : goal.while_loop-behind-requires
while_loop-behind-requires t c = omega (arith, c.behind-exit.ensures, c.here.ensures, c.condition.new.self.points.ok, c.condition.new.self.points.small)

pub while_loop-statement-requires : goal.while_loop-statement-requires
while_loop-statement-requires t c = (
  search (rules, stmt_lemmas, block_lemmas),
  (
    c.requires.source,
    (
      c.requires.homes,
      (
        c.requires.typed,
        (
          c.requires.lives,
          (
            (let same = variables_same c.append.new.self c.reserve.new.self c.in_ok-exit.ensures.counts ∙ variables_same c.condition.new.self c.append.new.self c.in_ok-append.ensures.counts ∙ c.in_ok-condition.ensures.variables in
                foretold_at c.args.addressed.now c.args.self.now.counts.variables c.reserve.new.self.counts.variables _ same c.requires.foretold),
            (let adds = c.in_ok-condition.ensures.adds in
                let one = names_same c.condition.new.self c.append.new.self c.in_ok-append.ensures.counts in
                let two = names_same c.append.new.self c.reserve.new.self c.in_ok-exit.ensures.counts in
                let room = c.requires.room in
                omega (arith, adds, one, two, room)),
          ),
        ),
      ),
    ),
  ),
)

pub while_loop-fill_jump-requires : goal.while_loop-fill_jump-requires
while_loop-fill_jump-requires t c =
    still_on c.statement.new.self c.append-2.new.self c.in_ok-exit.exit.0 (still_on c.reserve.new.self c.statement.new.self c.in_ok-exit.exit.0 c.in_ok-exit.ensures.reserved c.in_ok-statement.ensures.grows) c.in_ok-append-2.ensures.grows

pub while_loop-returns-clause-code : goal.while_loop-returns-clause-code
while_loop-returns-clause-code t c =
    let integer = c.in_ok-condition.condition in
    let out = c.behind-exit.ensures ∙ ap suc c.here.ensures in
    let onward = c.behind.ensures ∙ ap suc out in
    while_lowers c.args.source.now c.args.scope.now.items c.args.condition.now c.args.body.now c.args.self.now c.condition.new.self c.append.new.self c.reserve.new.self c.statement.new.self c.append-2.new.self c.fill_jump.new.self
    integer c.branch-condition-2.result (record { broken = c.in_ok-exit.exit; continued = c.here-entry.result })
    (of_slice (λ scope. ConditionLowers c.args.source.now scope c.args.condition.now c.args.self.now c.condition.new.self integer) c.as_slice.result.now c.args.scope.now.items c.as_slice.ensures.value c.in_ok-condition.ensures.code) (λ table. c.branch-condition-2.ensures.code table ∙ (λ i. C.Branch integer.int_type (tree_of integer.tree.value) (onward i) (out i)))
    c.in_ok-append.ensures.code c.in_ok-append.ensures.grows
    (record { place = c.in_ok-exit.ensures.at; is = c.in_ok-exit.ensures.reserved; spot = c.in_ok-exit.ensures.spot; grows = c.in_ok-exit.ensures.grows }) c.here-entry.ensures
    c.in_ok-statement.ensures.code c.in_ok-statement.ensures.grows c.in_ok-append-2.ensures.code c.in_ok-append-2.ensures.grows
    (record { code = c.fill_jump.ensures.code; spot = c.fill_jump.ensures.spot; grows = c.fill_jump.ensures.grows })

pub while_loop-returns-clause-grows : goal.while_loop-returns-clause-grows
while_loop-returns-clause-grows t c =
    let old = c.args.self.now in
    let one = c.in_ok-condition.ensures.grows in
    let two = c.in_ok-append.ensures.grows in
    let branched = grows_on old c.condition.new.self c.append.new.self one two in
    let reserved = grows_on old c.append.new.self c.reserve.new.self branched c.in_ok-exit.ensures.grows in
    let done = grows_on old c.reserve.new.self c.statement.new.self reserved c.in_ok-statement.ensures.grows in
    let jumped = grows_on old c.statement.new.self c.append-2.new.self done c.in_ok-append-2.ensures.grows in
    let place = c.in_ok-exit.ensures.at in
    let longer = branched.longer in
    grows_beyond old c.append-2.new.self c.fill_jump.new.self c.in_ok-exit.exit.0 (omega (arith, place, longer)) jumped c.fill_jump.ensures.grows

pub while_loop-returns-clause-adds : goal.while_loop-returns-clause-adds
while_loop-returns-clause-adds t c =
    let adds = c.in_ok-condition.ensures.adds in
    let one = names_same c.condition.new.self c.append.new.self c.in_ok-append.ensures.counts in
    let two = names_same c.append.new.self c.reserve.new.self c.in_ok-exit.ensures.counts in
    let more = c.in_ok-statement.ensures.adds in
    let three = names_same c.statement.new.self c.append-2.new.self c.in_ok-append-2.ensures.counts in
    let four = names_same c.append-2.new.self c.fill_jump.new.self c.fill_jump.ensures.counts in
    omega (arith, adds, one, two, more, three, four)

pub while_loop-returns-clause-variables : goal.while_loop-returns-clause-variables
while_loop-returns-clause-variables t c =
    let same = variables_same c.append.new.self c.reserve.new.self c.in_ok-exit.ensures.counts ∙ variables_same c.condition.new.self c.append.new.self c.in_ok-append.ensures.counts ∙ c.in_ok-condition.ensures.variables in
    let flags = taken_stmt (length c.args.scope.now.items) (stmt_in (types_of_source c.args.source.now) c.args.body.now) in
    variables_same c.append-2.new.self c.fill_jump.new.self c.fill_jump.ensures.counts ∙ variables_same c.statement.new.self c.append-2.new.self c.in_ok-append-2.ensures.counts ∙ c.in_ok-statement.ensures.variables ∙ ap (λ n. n + length flags) same

pub do_loop-condition-requires-clause-homes : goal.do_loop-condition-requires-clause-homes
do_loop-condition-requires-clause-homes t c = in_slice (IsScope c.args.source.now) c.as_slice.result.now c.args.scope.now.items (c.as_slice.ensures.value ∙ c.in_ok-statement.ensures.scope) c.requires.homes

pub do_loop-condition-requires-clause-typed : goal.do_loop-condition-requires-clause-typed
do_loop-condition-requires-clause-typed t c = in_slice (λ scope. ConditionTyped c.args.source.now scope c.args.condition.now) c.as_slice.result.now c.args.scope.now.items (c.as_slice.ensures.value ∙ c.in_ok-statement.ensures.scope) c.requires.condition

pub do_loop-condition-requires-clause-lives : goal.do_loop-condition-requires-clause-lives
do_loop-condition-requires-clause-lives t c =
    in_slice (λ scope. LieInMemory (scope_of c.args.source.now scope) (λ number. takes false number (value_in (types_of_source c.args.source.now) c.args.condition.now))) c.as_slice.result.now c.args.scope.now.items (c.as_slice.ensures.value ∙ c.in_ok-statement.ensures.scope) c.requires.tested

pub do_loop-fill_jump-requires : goal.do_loop-fill_jump-requires
do_loop-fill_jump-requires t c = still_on c.reserve-2.new.self c.reserve-3.new.self c.in_ok-entry.entry.0 (still_on c.reserve.new.self c.reserve-2.new.self c.in_ok-entry.entry.0 c.in_ok-entry.ensures.reserved c.in_ok-exit.ensures.grows) c.in_ok-check.ensures.grows

pub do_loop-statement-requires : goal.do_loop-statement-requires
do_loop-statement-requires t c = (
  search (rules, stmt_lemmas, block_lemmas),
  (
    c.requires.source,
    (
      c.requires.homes,
      (
        c.requires.typed,
        (
          c.requires.lives,
          (
            (let same = variables_same c.reserve-3.new.self c.fill_jump.new.self c.fill_jump.ensures.counts ∙ variables_same c.reserve-2.new.self c.reserve-3.new.self c.in_ok-check.ensures.counts
                ∙ variables_same c.reserve.new.self c.reserve-2.new.self c.in_ok-exit.ensures.counts ∙ variables_same c.args.self.now c.reserve.new.self c.in_ok-entry.ensures.counts in
                foretold_at c.args.addressed.now c.args.self.now.counts.variables c.fill_jump.new.self.counts.variables _ same c.requires.foretold),
            (let one = names_same c.args.self.now c.reserve.new.self c.in_ok-entry.ensures.counts in
                let two = names_same c.reserve.new.self c.reserve-2.new.self c.in_ok-exit.ensures.counts in
                let three = names_same c.reserve-2.new.self c.reserve-3.new.self c.in_ok-check.ensures.counts in
                let four = names_same c.reserve-3.new.self c.fill_jump.new.self c.fill_jump.ensures.counts in
                let room = c.requires.room in
                omega (arith, one, two, three, four, room)),
          ),
        ),
      ),
    ),
  ),
)

pub do_loop-fill_jump-requires-2 : goal.do_loop-fill_jump-requires-2
do_loop-fill_jump-requires-2 t c =
    let source = c.args.source.now in
    let entry : Reserves c.args.self.now c.reserve.new.self c.in_ok-entry.entry.0 = record { place = c.in_ok-entry.ensures.at; is = c.in_ok-entry.ensures.reserved; spot = c.in_ok-entry.ensures.spot; grows = c.in_ok-entry.ensures.grows } in
    let check : Reserves c.reserve-2.new.self c.reserve-3.new.self c.in_ok-check.check.0 = record { place = c.in_ok-check.ensures.at; is = c.in_ok-check.ensures.reserved; spot = c.in_ok-check.ensures.spot; grows = c.in_ok-check.ensures.grows } in
    still_past c.reserve-3.new.self c.reserve-3.new.self c.fill_jump.new.self c.statement.new.self c.in_ok-check.check.0 c.in_ok-entry.entry.0 (C.Jump (length c.reserve-3.new.self.points.items)) c.in_ok-check.ensures.reserved
    (grows_same c.reserve-3.new.self) (record { code = c.fill_jump.ensures.code; spot = c.fill_jump.ensures.spot; grows = c.fill_jump.ensures.grows })
    (later_apart source c.args.self.now c.reserve.new.self c.reserve-2.new.self c.reserve-3.new.self c.in_ok-entry.entry.0 c.in_ok-check.check.0 entry c.in_ok-exit.ensures.grows.longer check) c.in_ok-statement.ensures.grows

pub do_loop-condition-requires-clause-room : goal.do_loop-condition-requires-clause-room
do_loop-condition-requires-clause-room t c =
    let one = names_same c.args.self.now c.reserve.new.self c.in_ok-entry.ensures.counts in
    let two = names_same c.reserve.new.self c.reserve-2.new.self c.in_ok-exit.ensures.counts in
    let three = names_same c.reserve-2.new.self c.reserve-3.new.self c.in_ok-check.ensures.counts in
    let four = names_same c.reserve-3.new.self c.fill_jump.new.self c.fill_jump.ensures.counts in
    let adds = c.in_ok-statement.ensures.adds in
    let five = names_same c.statement.new.self c.fill_jump-2.new.self c.fill_jump-2.ensures.counts in
    let room = c.requires.room in
    omega (arith, one, two, three, four, adds, five, room)

pub do_loop-fill_jump-requires-3 : goal.do_loop-fill_jump-requires-3
do_loop-fill_jump-requires-3 t c =
    let source = c.args.source.now in
    let entry : Reserves c.args.self.now c.reserve.new.self c.in_ok-entry.entry.0 = record { place = c.in_ok-entry.ensures.at; is = c.in_ok-entry.ensures.reserved; spot = c.in_ok-entry.ensures.spot; grows = c.in_ok-entry.ensures.grows } in
    let exit : Reserves c.reserve.new.self c.reserve-2.new.self c.in_ok-exit.exit.0 = record { place = c.in_ok-exit.ensures.at; is = c.in_ok-exit.ensures.reserved; spot = c.in_ok-exit.ensures.spot; grows = c.in_ok-exit.ensures.grows } in
    let check : Reserves c.reserve-2.new.self c.reserve-3.new.self c.in_ok-check.check.0 = record { place = c.in_ok-check.ensures.at; is = c.in_ok-check.ensures.reserved; spot = c.in_ok-check.ensures.spot; grows = c.in_ok-check.ensures.grows } in
    let exit_done = still_past c.reserve-2.new.self c.reserve-3.new.self c.fill_jump.new.self c.statement.new.self c.in_ok-exit.exit.0 c.in_ok-entry.entry.0 (C.Jump (length c.reserve-3.new.self.points.items)) c.in_ok-exit.ensures.reserved
    c.in_ok-check.ensures.grows (record { code = c.fill_jump.ensures.code; spot = c.fill_jump.ensures.spot; grows = c.fill_jump.ensures.grows })
    (later_apart source c.args.self.now c.reserve.new.self c.reserve.new.self c.reserve-2.new.self c.in_ok-entry.entry.0 c.in_ok-exit.exit.0 entry (omega arith) exit) c.in_ok-statement.ensures.grows in
    let apart = later_apart source c.reserve.new.self c.reserve-2.new.self c.reserve-2.new.self c.reserve-3.new.self c.in_ok-exit.exit.0 c.in_ok-check.check.0 exit (omega arith) check in
    still_past c.statement.new.self c.statement.new.self c.fill_jump-2.new.self c.append.new.self c.in_ok-exit.exit.0 c.in_ok-check.check.0 (C.Jump (length c.statement.new.self.points.items)) exit_done (grows_same c.statement.new.self)
    (record { code = c.fill_jump-2.ensures.code; spot = c.fill_jump-2.ensures.spot; grows = c.fill_jump-2.ensures.grows }) (λ same. apart (sym same))
    (grows_on c.fill_jump-2.new.self c.condition.new.self c.append.new.self c.in_ok-condition.ensures.grows c.in_ok-append.ensures.grows)

pub do_loop-returns-clause-code : goal.do_loop-returns-clause-code
do_loop-returns-clause-code t c =
    let integer = c.in_ok-condition.condition in
    do_lowers c.args.source.now c.args.scope.now.items c.args.condition.now c.args.body.now c.args.self.now c.reserve.new.self c.reserve-2.new.self c.reserve-3.new.self c.fill_jump.new.self c.statement.new.self c.fill_jump-2.new.self c.condition.new.self c.append.new.self c.fill_jump-3.new.self
    integer c.branch-condition-2.result c.in_ok-entry.entry.0 (record { broken = c.in_ok-exit.exit; continued = c.in_ok-check.check })
    (record { place = c.in_ok-entry.ensures.at; is = c.in_ok-entry.ensures.reserved; spot = c.in_ok-entry.ensures.spot; grows = c.in_ok-entry.ensures.grows })
    (record { place = c.in_ok-exit.ensures.at; is = c.in_ok-exit.ensures.reserved; spot = c.in_ok-exit.ensures.spot; grows = c.in_ok-exit.ensures.grows })
    (record { place = c.in_ok-check.ensures.at; is = c.in_ok-check.ensures.reserved; spot = c.in_ok-check.ensures.spot; grows = c.in_ok-check.ensures.grows })
    (record { code = c.fill_jump.ensures.code; spot = c.fill_jump.ensures.spot; grows = c.fill_jump.ensures.grows })
    c.in_ok-statement.ensures.code c.in_ok-statement.ensures.grows
    (record { code = c.fill_jump-2.ensures.code; spot = c.fill_jump-2.ensures.spot; grows = c.fill_jump-2.ensures.grows })
    (of_slice (λ scope. ConditionLowers c.args.source.now scope c.args.condition.now c.fill_jump-2.new.self c.condition.new.self integer) c.as_slice.result.now c.args.scope.now.items (c.as_slice.ensures.value ∙ c.in_ok-statement.ensures.scope) c.in_ok-condition.ensures.code) c.in_ok-condition.ensures.grows
    (λ table. c.branch-condition-2.ensures.code table ∙ (λ i. C.Branch integer.int_type (tree_of integer.tree.value) (c.here-inside.ensures i) c.in_ok-exit.exit.0))
    c.in_ok-append.ensures.code c.in_ok-append.ensures.grows
    (record { code = c.fill_jump-3.ensures.code; spot = c.fill_jump-3.ensures.spot; grows = c.fill_jump-3.ensures.grows })

pub do_loop-returns-clause-grows : goal.do_loop-returns-clause-grows
do_loop-returns-clause-grows t c =
    let old = c.args.self.now in
    let one = c.in_ok-entry.ensures.grows in
    let two = grows_on old c.reserve.new.self c.reserve-2.new.self one c.in_ok-exit.ensures.grows in
    let three = grows_on old c.reserve-2.new.self c.reserve-3.new.self two c.in_ok-check.ensures.grows in
    let entry_place = c.in_ok-entry.ensures.at in
    let exit_place = c.in_ok-exit.ensures.at in
    let check_place = c.in_ok-check.ensures.at in
    let one_longer = one.longer in
    let two_longer = two.longer in
    let done = grows_past old c.reserve-3.new.self c.fill_jump.new.self c.statement.new.self c.in_ok-entry.entry.0 (C.Jump (length c.reserve-3.new.self.points.items)) (omega (arith, entry_place)) three
    (record { code = c.fill_jump.ensures.code; spot = c.fill_jump.ensures.spot; grows = c.fill_jump.ensures.grows }) c.in_ok-statement.ensures.grows in
    let branched = grows_past old c.statement.new.self c.fill_jump-2.new.self c.append.new.self c.in_ok-check.check.0 (C.Jump (length c.statement.new.self.points.items)) (omega (arith, check_place, two_longer)) done
    (record { code = c.fill_jump-2.ensures.code; spot = c.fill_jump-2.ensures.spot; grows = c.fill_jump-2.ensures.grows })
    (grows_on c.fill_jump-2.new.self c.condition.new.self c.append.new.self c.in_ok-condition.ensures.grows c.in_ok-append.ensures.grows) in
    grows_filled old c.append.new.self c.fill_jump-3.new.self c.in_ok-exit.exit.0 (C.Jump (length c.append.new.self.points.items)) (omega (arith, exit_place, one_longer)) branched
    (record { code = c.fill_jump-3.ensures.code; spot = c.fill_jump-3.ensures.spot; grows = c.fill_jump-3.ensures.grows })

pub do_loop-returns-clause-adds : goal.do_loop-returns-clause-adds
do_loop-returns-clause-adds t c =
    let one = names_same c.args.self.now c.reserve.new.self c.in_ok-entry.ensures.counts in
    let two = names_same c.reserve.new.self c.reserve-2.new.self c.in_ok-exit.ensures.counts in
    let three = names_same c.reserve-2.new.self c.reserve-3.new.self c.in_ok-check.ensures.counts in
    let four = names_same c.reserve-3.new.self c.fill_jump.new.self c.fill_jump.ensures.counts in
    let adds = c.in_ok-statement.ensures.adds in
    let five = names_same c.statement.new.self c.fill_jump-2.new.self c.fill_jump-2.ensures.counts in
    let more = c.in_ok-condition.ensures.adds in
    let six = names_same c.condition.new.self c.append.new.self c.in_ok-append.ensures.counts in
    let seven = names_same c.append.new.self c.fill_jump-3.new.self c.fill_jump-3.ensures.counts in
    omega (arith, one, two, three, four, adds, five, more, six, seven)

pub do_loop-returns-clause-variables : goal.do_loop-returns-clause-variables
do_loop-returns-clause-variables t c =
    let same = variables_same c.reserve-3.new.self c.fill_jump.new.self c.fill_jump.ensures.counts ∙ variables_same c.reserve-2.new.self c.reserve-3.new.self c.in_ok-check.ensures.counts
    ∙ variables_same c.reserve.new.self c.reserve-2.new.self c.in_ok-exit.ensures.counts ∙ variables_same c.args.self.now c.reserve.new.self c.in_ok-entry.ensures.counts in
    let flags = taken_stmt (length c.args.scope.now.items) (stmt_in (types_of_source c.args.source.now) c.args.body.now) in
    variables_same c.append.new.self c.fill_jump-3.new.self c.fill_jump-3.ensures.counts ∙ variables_same c.condition.new.self c.append.new.self c.in_ok-append.ensures.counts ∙ c.in_ok-condition.ensures.variables
    ∙ variables_same c.statement.new.self c.fill_jump-2.new.self c.fill_jump-2.ensures.counts ∙ c.in_ok-statement.ensures.variables ∙ ap (λ n. n + length flags) same

pub turns-optional_condition-requires-clause-homes : goal.turns-optional_condition-requires-clause-homes
turns-optional_condition-requires-clause-homes t c = in_slice (IsScope c.args.source.now) c.as_slice.result.now c.args.scope.now.items c.as_slice.ensures.value c.requires.homes

pub turns-optional_condition-requires-clause-typed : goal.turns-optional_condition-requires-clause-typed
turns-optional_condition-requires-clause-typed t c = in_slice (λ scope. TestTyped c.args.source.now scope c.args.condition.now) c.as_slice.result.now c.args.scope.now.items c.as_slice.ensures.value c.requires.condition

pub turns-optional_condition-requires-clause-lives : goal.turns-optional_condition-requires-clause-lives
turns-optional_condition-requires-clause-lives t c =
    let source = c.args.source.now in
    let table = types_of_source source in
    in_slice (λ scope. LieInMemory (scope_of source scope) (λ number. takes_optional number (optional_value_in table c.args.condition.now))) c.as_slice.result.now c.args.scope.now.items c.as_slice.ensures.value
    (lies_left (scope_of source c.args.scope.now.items) (λ number. takes_optional number (optional_value_in table c.args.condition.now))
    (λ number. takes_optional number (optional_value_in table c.args.step.now) || takes_stmt number (stmt_in table c.args.body.now)) c.requires.lives)

pub turns-optional_condition-requires-clause-room : goal.turns-optional_condition-requires-clause-room
turns-optional_condition-requires-clause-room t c =
    let room = c.requires.room in
    omega (arith, room)

pub turns-optional_effect-requires-clause-homes : goal.turns-optional_effect-requires-clause-homes
turns-optional_effect-requires-clause-homes t c = in_slice (IsScope c.args.source.now) c.as_slice-2.result.now c.args.scope.now.items c.as_slice-2.ensures.value c.requires.homes

pub turns-optional_effect-requires-clause-typed : goal.turns-optional_effect-requires-clause-typed
turns-optional_effect-requires-clause-typed t c = in_slice (λ scope. StepTyped c.args.source.now scope c.args.step.now) c.as_slice-2.result.now c.args.scope.now.items c.as_slice-2.ensures.value c.requires.step

pub turns-optional_effect-requires-clause-lives : goal.turns-optional_effect-requires-clause-lives
turns-optional_effect-requires-clause-lives t c =
    let source = c.args.source.now in
    let table = types_of_source source in
    in_slice (λ scope. LieInMemory (scope_of source scope) (λ number. takes_optional number (optional_value_in table c.args.step.now))) c.as_slice-2.result.now c.args.scope.now.items c.as_slice-2.ensures.value
    (lies_left (scope_of source c.args.scope.now.items) (λ number. takes_optional number (optional_value_in table c.args.step.now)) (λ number. takes_stmt number (stmt_in table c.args.body.now))
    (lies_right (scope_of source c.args.scope.now.items) (λ number. takes_optional number (optional_value_in table c.args.condition.now))
    (λ number. takes_optional number (optional_value_in table c.args.step.now) || takes_stmt number (stmt_in table c.args.body.now)) c.requires.lives))

pub turns-optional_effect-requires-clause-room : goal.turns-optional_effect-requires-clause-room
turns-optional_effect-requires-clause-room t c =
    let adds = c.in_ok-condition.ensures.adds in
    let one = names_same c.optional_condition.new.self c.reserve.new.self c.in_ok-test.ensures.counts in
    let two = names_same c.reserve.new.self c.reserve-2.new.self c.in_ok-exit.ensures.counts in
    let room = c.requires.room in
    omega (arith, adds, one, two, room)

pub turns-fill_turn-requires : goal.turns-fill_turn-requires
turns-fill_turn-requires t c =
    let stepped = grows_on c.reserve-2.new.self c.optional_effect.new.self c.append.new.self c.in_ok-optional_effect.ensures.grows c.in_ok-append.ensures.grows in
    still_on c.reserve-2.new.self c.append.new.self c.in_ok-test.test.0 (still_on c.reserve.new.self c.reserve-2.new.self c.in_ok-test.test.0 c.in_ok-test.ensures.reserved c.in_ok-exit.ensures.grows) stepped

pub turns-statement-requires : goal.turns-statement-requires
turns-statement-requires t c = (
  search (rules, stmt_lemmas, block_lemmas),
  (
    c.requires.source,
    (
      c.requires.homes,
      (
        c.requires.typed,
        (
          (let table = types_of_source c.args.source.now in
              lies_right (scope_of c.args.source.now c.args.scope.now.items) (λ number. takes_optional number (optional_value_in table c.args.step.now)) (λ number. takes_stmt number (stmt_in table c.args.body.now))
              (lies_right (scope_of c.args.source.now c.args.scope.now.items) (λ number. takes_optional number (optional_value_in table c.args.condition.now))
              (λ number. takes_optional number (optional_value_in table c.args.step.now) || takes_stmt number (stmt_in table c.args.body.now)) c.requires.lives)),
          (
            (let same = variables_same c.append.new.self c.fill_turn.new.self c.fill_turn.ensures.counts ∙ variables_same c.optional_effect.new.self c.append.new.self c.in_ok-append.ensures.counts ∙ c.in_ok-optional_effect.ensures.variables
                ∙ variables_same c.reserve.new.self c.reserve-2.new.self c.in_ok-exit.ensures.counts ∙ variables_same c.optional_condition.new.self c.reserve.new.self c.in_ok-test.ensures.counts ∙ c.in_ok-condition.ensures.variables in
                foretold_at c.args.addressed.now c.args.self.now.counts.variables c.fill_turn.new.self.counts.variables _ same c.requires.foretold),
            (let adds = c.in_ok-condition.ensures.adds in
                let one = names_same c.optional_condition.new.self c.reserve.new.self c.in_ok-test.ensures.counts in
                let two = names_same c.reserve.new.self c.reserve-2.new.self c.in_ok-exit.ensures.counts in
                let stepped = c.in_ok-optional_effect.ensures.adds in
                let three = names_same c.optional_effect.new.self c.append.new.self c.in_ok-append.ensures.counts in
                let four = names_same c.append.new.self c.fill_turn.new.self c.fill_turn.ensures.counts in
                let room = c.requires.room in
                omega (arith, adds, one, two, stepped, three, four, room)),
          ),
        ),
      ),
    ),
  ),
)

pub turns-fill_jump-requires : goal.turns-fill_jump-requires
turns-fill_jump-requires t c =
    let test : Reserves c.optional_condition.new.self c.reserve.new.self c.in_ok-test.test.0 = record { place = c.in_ok-test.ensures.at; is = c.in_ok-test.ensures.reserved; spot = c.in_ok-test.ensures.spot; grows = c.in_ok-test.ensures.grows } in
    let exit : Reserves c.reserve.new.self c.reserve-2.new.self c.in_ok-exit.exit.0 = record { place = c.in_ok-exit.ensures.at; is = c.in_ok-exit.ensures.reserved; spot = c.in_ok-exit.ensures.spot; grows = c.in_ok-exit.ensures.grows } in
    let apart = later_apart c.args.source.now c.optional_condition.new.self c.reserve.new.self c.reserve.new.self c.reserve-2.new.self c.in_ok-test.test.0 c.in_ok-exit.exit.0 test (omega arith) exit in
    let stepped = grows_on c.reserve-2.new.self c.optional_effect.new.self c.append.new.self c.in_ok-optional_effect.ensures.grows c.in_ok-append.ensures.grows in
    still_past c.reserve-2.new.self c.append.new.self c.fill_turn.new.self c.append-2.new.self c.in_ok-exit.exit.0 c.in_ok-test.test.0 (turn_op c.in_ok-condition.condition (length c.append.new.self.points.items) c.in_ok-exit.exit.0) c.in_ok-exit.ensures.reserved stepped
    (record { code = c.fill_turn.ensures.code; spot = c.fill_turn.ensures.spot; grows = c.fill_turn.ensures.grows }) apart
    (grows_on c.fill_turn.new.self c.statement.new.self c.append-2.new.self c.in_ok-statement.ensures.grows c.in_ok-append-2.ensures.grows)

pub turns-returns-clause-code : goal.turns-returns-clause-code
turns-returns-clause-code t c =
    turns_lower c.args.source.now c.args.scope.now.items c.args.condition.now c.args.step.now c.args.body.now c.args.self.now c.optional_condition.new.self c.reserve.new.self c.reserve-2.new.self c.optional_effect.new.self c.append.new.self c.fill_turn.new.self c.statement.new.self c.append-2.new.self c.fill_jump.new.self
    c.in_ok-condition.condition c.in_ok-test.test.0 (record { broken = c.in_ok-exit.exit; continued = c.here-next.result })
    (of_slice (λ scope. TestLowers c.args.source.now scope c.args.condition.now c.args.self.now c.optional_condition.new.self c.in_ok-condition.condition) c.as_slice.result.now c.args.scope.now.items c.as_slice.ensures.value c.in_ok-condition.ensures.code)
    (record { place = c.in_ok-test.ensures.at; is = c.in_ok-test.ensures.reserved; spot = c.in_ok-test.ensures.spot; grows = c.in_ok-test.ensures.grows })
    (record { place = c.in_ok-exit.ensures.at; is = c.in_ok-exit.ensures.reserved; spot = c.in_ok-exit.ensures.spot; grows = c.in_ok-exit.ensures.grows }) c.here-next.ensures
    (of_slice (λ scope. StepLowers c.args.source.now scope c.args.step.now c.reserve-2.new.self c.optional_effect.new.self) c.as_slice-2.result.now c.args.scope.now.items c.as_slice-2.ensures.value c.in_ok-optional_effect.ensures.code) c.in_ok-optional_effect.ensures.grows
    (λ table points fills. let jumped = c.in_ok-append.ensures.code table points fills in (jumped.0 ∙ (λ i. Some (C.Jump (c.here-head.ensures i))), jumped.1)) c.in_ok-append.ensures.grows
    (record { code = c.fill_turn.ensures.code; spot = c.fill_turn.ensures.spot; grows = c.fill_turn.ensures.grows })
    c.in_ok-statement.ensures.code c.in_ok-statement.ensures.grows c.in_ok-append-2.ensures.code c.in_ok-append-2.ensures.grows
    (record { code = c.fill_jump.ensures.code; spot = c.fill_jump.ensures.spot; grows = c.fill_jump.ensures.grows })

pub turns-returns-clause-grows : goal.turns-returns-clause-grows
turns-returns-clause-grows t c =
    let old = c.args.self.now in
    let tested = c.in_ok-condition.ensures.grows in
    let one = grows_on old c.optional_condition.new.self c.reserve.new.self tested c.in_ok-test.ensures.grows in
    let two = grows_on old c.reserve.new.self c.reserve-2.new.self one c.in_ok-exit.ensures.grows in
    let stepped = grows_on old c.reserve-2.new.self c.optional_effect.new.self two c.in_ok-optional_effect.ensures.grows in
    let jumped = grows_on old c.optional_effect.new.self c.append.new.self stepped c.in_ok-append.ensures.grows in
    let test_place = c.in_ok-test.ensures.at in
    let exit_place = c.in_ok-exit.ensures.at in
    let tested_longer = tested.longer in
    let one_longer = one.longer in
    let back = grows_past old c.append.new.self c.fill_turn.new.self c.append-2.new.self c.in_ok-test.test.0 (turn_op c.in_ok-condition.condition (length c.append.new.self.points.items) c.in_ok-exit.exit.0) (omega (arith, test_place, tested_longer)) jumped
    (record { code = c.fill_turn.ensures.code; spot = c.fill_turn.ensures.spot; grows = c.fill_turn.ensures.grows })
    (grows_on c.fill_turn.new.self c.statement.new.self c.append-2.new.self c.in_ok-statement.ensures.grows c.in_ok-append-2.ensures.grows) in
    grows_filled old c.append-2.new.self c.fill_jump.new.self c.in_ok-exit.exit.0 (C.Jump (length c.append-2.new.self.points.items)) (omega (arith, exit_place, one_longer)) back
    (record { code = c.fill_jump.ensures.code; spot = c.fill_jump.ensures.spot; grows = c.fill_jump.ensures.grows })

pub turns-returns-clause-adds : goal.turns-returns-clause-adds
turns-returns-clause-adds t c =
    let adds = c.in_ok-condition.ensures.adds in
    let one = names_same c.optional_condition.new.self c.reserve.new.self c.in_ok-test.ensures.counts in
    let two = names_same c.reserve.new.self c.reserve-2.new.self c.in_ok-exit.ensures.counts in
    let stepped = c.in_ok-optional_effect.ensures.adds in
    let three = names_same c.optional_effect.new.self c.append.new.self c.in_ok-append.ensures.counts in
    let four = names_same c.append.new.self c.fill_turn.new.self c.fill_turn.ensures.counts in
    let more = c.in_ok-statement.ensures.adds in
    let five = names_same c.statement.new.self c.append-2.new.self c.in_ok-append-2.ensures.counts in
    let six = names_same c.append-2.new.self c.fill_jump.new.self c.fill_jump.ensures.counts in
    omega (arith, adds, one, two, stepped, three, four, more, five, six)

pub turns-returns-clause-variables : goal.turns-returns-clause-variables
turns-returns-clause-variables t c =
    let same = variables_same c.append.new.self c.fill_turn.new.self c.fill_turn.ensures.counts ∙ variables_same c.optional_effect.new.self c.append.new.self c.in_ok-append.ensures.counts ∙ c.in_ok-optional_effect.ensures.variables
    ∙ variables_same c.reserve.new.self c.reserve-2.new.self c.in_ok-exit.ensures.counts ∙ variables_same c.optional_condition.new.self c.reserve.new.self c.in_ok-test.ensures.counts ∙ c.in_ok-condition.ensures.variables in
    let flags = taken_stmt (length c.args.scope.now.items) (stmt_in (types_of_source c.args.source.now) c.args.body.now) in
    variables_same c.append-2.new.self c.fill_jump.new.self c.fill_jump.ensures.counts ∙ variables_same c.statement.new.self c.append-2.new.self c.in_ok-append-2.ensures.counts ∙ c.in_ok-statement.ensures.variables ∙ ap (λ n. n + length flags) same

pub block-loop-item-init : goal.block-loop-item-init
block-loop-item-init t c = block_begins c.args.source.now c.args.addressed.now c.args.scope.now.items c.args.ways c.args.items.now c.args.self.now c.requires.homes c.requires.typed c.requires.lives c.requires.foretold

pub block-declare-requires-clause-homes : goal.block-declare-requires-clause-homes
block-declare-requires-clause-homes t c = c.loop-item.invariant.homes

pub block-declare-requires-clause-typed : goal.block-declare-requires-clause-typed
block-declare-requires-clause-typed t c =
    let source = c.args.source.now in
    let addressed = c.args.addressed.now in
    let outer = c.args.scope.now.items in
    let scope = c.loop-item.scope.items in
    let all = c.args.items.now in
    let left = drop (c.loop-item.item-index + 1) all in
    let far = block_at source addressed c.args.ways c.args.self.now outer scope all c.loop-item.item-index c.item-item.result (B.Local c.in-Local.local) c.loop-item.self c.loop-item-test.true c.item-item.is c.in-Local.is c.loop-item.invariant in
    local_typed source addressed outer scope c.args.ways all left c.in-Local.local c.args.self.now c.loop-item.self far

pub block-declare-requires-clause-lives : goal.block-declare-requires-clause-lives
block-declare-requires-clause-lives t c =
    let source = c.args.source.now in
    let addressed = c.args.addressed.now in
    let outer = c.args.scope.now.items in
    let scope = c.loop-item.scope.items in
    let all = c.args.items.now in
    let left = drop (c.loop-item.item-index + 1) all in
    let far = block_at source addressed c.args.ways c.args.self.now outer scope all c.loop-item.item-index c.item-item.result (B.Local c.in-Local.local) c.loop-item.self c.loop-item-test.true c.item-item.is c.in-Local.is c.loop-item.invariant in
    local_lives source addressed outer scope c.args.ways all left c.in-Local.local c.args.self.now c.loop-item.self far

pub block-declare-requires-clause-own : goal.block-declare-requires-clause-own
block-declare-requires-clause-own t c =
    let source = c.args.source.now in
    let addressed = c.args.addressed.now in
    let outer = c.args.scope.now.items in
    let scope = c.loop-item.scope.items in
    let all = c.args.items.now in
    let left = drop (c.loop-item.item-index + 1) all in
    let far = block_at source addressed c.args.ways c.args.self.now outer scope all c.loop-item.item-index c.item-item.result (B.Local c.in-Local.local) c.loop-item.self c.loop-item-test.true c.item-item.is c.in-Local.is c.loop-item.invariant in
    local_own source addressed outer scope c.args.ways all left c.in-Local.local c.args.self.now c.loop-item.self far

pub block-declare-requires-clause-room : goal.block-declare-requires-clause-room
block-declare-requires-clause-room t c =
    let source = c.args.source.now in
    let addressed = c.args.addressed.now in
    let outer = c.args.scope.now.items in
    let scope = c.loop-item.scope.items in
    let all = c.args.items.now in
    let left = drop (c.loop-item.item-index + 1) all in
    let far = block_at source addressed c.args.ways c.args.self.now outer scope all c.loop-item.item-index c.item-item.result (B.Local c.in-Local.local) c.loop-item.self c.loop-item-test.true c.item-item.is c.in-Local.is c.loop-item.invariant in
    local_room source addressed outer scope c.args.ways all left c.in-Local.local c.args.self.now c.loop-item.self far c.requires.room

pub block-statement-requires : goal.block-statement-requires
block-statement-requires t c = (
  search (rules, stmt_lemmas, block_lemmas),
  (
    c.requires.source,
    (
      c.loop-item.invariant.homes,
      (
        (let source = c.args.source.now in
            let addressed = c.args.addressed.now in
            let outer = c.args.scope.now.items in
            let scope = c.loop-item.scope.items in
            let all = c.args.items.now in
            let left = drop (c.loop-item.item-index + 1) all in
            let far = block_at source addressed c.args.ways c.args.self.now outer scope all c.loop-item.item-index c.item-item.result (B.Statement c.in-Statement.stmt) c.loop-item.self c.loop-item-test.true c.item-item.is c.in-Statement.is c.loop-item.invariant in
            stmt_typed source addressed outer scope c.args.ways all left c.in-Statement.stmt c.args.self.now c.loop-item.self far),
        (
          (let source = c.args.source.now in
              let addressed = c.args.addressed.now in
              let outer = c.args.scope.now.items in
              let scope = c.loop-item.scope.items in
              let all = c.args.items.now in
              let left = drop (c.loop-item.item-index + 1) all in
              let far = block_at source addressed c.args.ways c.args.self.now outer scope all c.loop-item.item-index c.item-item.result (B.Statement c.in-Statement.stmt) c.loop-item.self c.loop-item-test.true c.item-item.is c.in-Statement.is c.loop-item.invariant in
              stmt_lives source addressed outer scope c.args.ways all left c.in-Statement.stmt c.args.self.now c.loop-item.self far),
          (
            (let source = c.args.source.now in
                let addressed = c.args.addressed.now in
                let outer = c.args.scope.now.items in
                let scope = c.loop-item.scope.items in
                let all = c.args.items.now in
                let left = drop (c.loop-item.item-index + 1) all in
                let far = block_at source addressed c.args.ways c.args.self.now outer scope all c.loop-item.item-index c.item-item.result (B.Statement c.in-Statement.stmt) c.loop-item.self c.loop-item-test.true c.item-item.is c.in-Statement.is c.loop-item.invariant in
                stmt_foretold source addressed outer scope c.args.ways all left c.in-Statement.stmt c.args.self.now c.loop-item.self far),
            (let source = c.args.source.now in
                let addressed = c.args.addressed.now in
                let outer = c.args.scope.now.items in
                let scope = c.loop-item.scope.items in
                let all = c.args.items.now in
                let left = drop (c.loop-item.item-index + 1) all in
                let far = block_at source addressed c.args.ways c.args.self.now outer scope all c.loop-item.item-index c.item-item.result (B.Statement c.in-Statement.stmt) c.loop-item.self c.loop-item-test.true c.item-item.is c.in-Statement.is c.loop-item.invariant in
                stmt_room source addressed outer scope c.args.ways all left c.in-Statement.stmt c.args.self.now c.loop-item.self far c.requires.room),
          ),
        ),
      ),
    ),
  ),
)

pub block-loop-item-preserved : goal.block-loop-item-preserved
block-loop-item-preserved t c =
    let source = c.args.source.now in
    let addressed = c.args.addressed.now in
    let outer = c.args.scope.now.items in
    let scope = c.loop-item.scope.items in
    let all = c.args.items.now in
    let left = drop (c.loop-item.item-index + 1) all in
    let old = c.args.self.now in
    let now = c.loop-item.self in
    elim c.match-item.branch [
      | block-in-Local+in_ok-declare-in-Local w ↦
          let far = block_at source addressed c.args.ways old outer scope all c.loop-item.item-index c.item-item.result (B.Local w.in-Local.local) now c.loop-item-test.true c.item-item.is w.in-Local.is c.loop-item.invariant in
          block_joined source addressed c.args.ways old outer w.declare.new.scope.items c.match-item.scope.items all left w.declare.new.self c.match-item.self w.self-is (ap (λ (homes : Vec Home Global). homes.items) w.scope-is)
          (local_next source addressed outer scope c.args.ways all left w.in-Local.local old now w.declare.new.self w.declare.new.scope.items far w.in_ok-declare-in-Local.ensures.code w.in_ok-declare-in-Local.ensures.homes w.in_ok-declare-in-Local.ensures.grows w.in_ok-declare-in-Local.ensures.adds w.in_ok-declare-in-Local.ensures.variables)
      | block-in-Statement+in_ok-statement-in-Statement w ↦
          let far = block_at source addressed c.args.ways old outer scope all c.loop-item.item-index c.item-item.result (B.Statement w.in-Statement.stmt) now c.loop-item-test.true c.item-item.is w.in-Statement.is c.loop-item.invariant in
          block_joined source addressed c.args.ways old outer w.statement.new.scope.items c.match-item.scope.items all left w.statement.new.self c.match-item.self w.self-is (ap (λ (homes : Vec Home Global). homes.items) w.scope-is)
          (stmt_next source addressed outer scope c.args.ways all left w.in-Statement.stmt old now w.statement.new.self w.statement.new.scope.items far w.in_ok-statement-in-Statement.ensures.code w.in_ok-statement-in-Statement.ensures.scope w.in_ok-statement-in-Statement.ensures.grows w.in_ok-statement-in-Statement.ensures.adds w.in_ok-statement-in-Statement.ensures.variables)
    ]

pub block-returns-clause-code : goal.block-returns-clause-code
block-returns-clause-code t c =
    block_ends c.args.source.now c.args.addressed.now c.args.scope.now.items c.loop-item.scope.items c.args.ways c.args.items.now c.args.self.now c.loop-item.self
    (block_done c.args.source.now c.args.addressed.now c.args.ways c.args.self.now c.args.scope.now.items c.loop-item.scope.items c.args.items.now c.loop-item.item-index c.loop-item.self c.loop-item-test.false c.loop-item.invariant)

pub block-returns-clause-scope : goal.block-returns-clause-scope
block-returns-clause-scope t c =
    scope_back c.args.scope.now.items c.loop-item.scope.items c.truncate.new.self.items c.len-outside.result (c.len-outside.ensures ∙ c.args.scope.now.ok.0) c.loop-item.invariant.begun c.truncate.ensures.items

pub block-returns-clause-grows : goal.block-returns-clause-grows
block-returns-clause-grows t c = c.loop-item.invariant.grows

pub block-returns-clause-adds : goal.block-returns-clause-adds
block-returns-clause-adds t c =
    block_adds c.args.source.now c.args.addressed.now c.args.ways c.args.self.now c.args.scope.now.items c.loop-item.scope.items c.args.items.now c.loop-item.self
    (block_done c.args.source.now c.args.addressed.now c.args.ways c.args.self.now c.args.scope.now.items c.loop-item.scope.items c.args.items.now c.loop-item.item-index c.loop-item.self c.loop-item-test.false c.loop-item.invariant)

pub block-returns-clause-variables : goal.block-returns-clause-variables
block-returns-clause-variables t c =
    block_declares c.args.source.now c.args.addressed.now c.args.ways c.args.self.now c.args.scope.now.items c.loop-item.scope.items c.args.items.now c.loop-item.self
    (block_done c.args.source.now c.args.addressed.now c.args.ways c.args.self.now c.args.scope.now.items c.loop-item.scope.items c.args.items.now c.loop-item.item-index c.loop-item.self c.loop-item-test.false c.loop-item.invariant)

pub switch-switched-requires-clause-homes : goal.switch-switched-requires-clause-homes
switch-switched-requires-clause-homes t c = in_slice (IsScope c.args.source.now) c.as_slice.result.now c.args.scope.now.items (c.as_slice.ensures.value) c.requires.homes

pub switch-switched-requires-clause-typed : goal.switch-switched-requires-clause-typed
switch-switched-requires-clause-typed t c = in_slice (λ scope. ConditionTyped c.args.source.now scope c.args.value.now) c.as_slice.result.now c.args.scope.now.items (c.as_slice.ensures.value) c.requires.value

pub switch-switched-requires-clause-lives : goal.switch-switched-requires-clause-lives
switch-switched-requires-clause-lives t c =
    in_slice (λ scope. LieInMemory (scope_of c.args.source.now scope) (λ number. takes false number (value_in (types_of_source c.args.source.now) c.args.value.now))) c.as_slice.result.now c.args.scope.now.items (c.as_slice.ensures.value) c.requires.switched

pub switch-switched-requires-clause-room : goal.switch-switched-requires-clause-room
switch-switched-requires-clause-room t c =
    let room = c.requires.room in
    omega (arith, room)

pub switch-switch_items-requires : goal.switch-switch_items-requires
switch-switch_items-requires t c = (
  search (rules, stmt_lemmas, block_lemmas),
  (
    c.requires.source,
    (
      c.requires.homes,
      (
        c.requires.typed,
        (
          c.requires.lives,
          (
            (let same = variables_same c.reserve.new.self c.reserve-2.new.self c.in_ok-exit.ensures.counts ∙ variables_same c.switched.new.self c.reserve.new.self c.in_ok-begin.ensures.counts ∙ c.in_ok-switched.ensures.variables in
                foretold_at c.args.addressed.now c.args.self.now.counts.variables c.reserve-2.new.self.counts.variables _ same c.requires.foretold),
            (let adds = c.in_ok-switched.ensures.adds in
                let one = names_same c.switched.new.self c.reserve.new.self c.in_ok-begin.ensures.counts in
                let two = names_same c.reserve.new.self c.reserve-2.new.self c.in_ok-exit.ensures.counts in
                let room = c.requires.room in
                omega (arith, adds, one, two, room)),
          ),
        ),
      ),
    ),
  ),
)

pub switch-fill_jump-requires : goal.switch-fill_jump-requires
switch-fill_jump-requires t c =
    let done = grows_on c.reserve-2.new.self c.switch_items.new.self c.append.new.self c.in_ok-labels.ensures.grows c.in_ok-append.ensures.grows in
    still_on c.reserve-2.new.self c.append.new.self c.in_ok-begin.begin.0 (still_on c.reserve.new.self c.reserve-2.new.self c.in_ok-begin.begin.0 c.in_ok-begin.ensures.reserved c.in_ok-exit.ensures.grows) done

pub switch-fill_jump-requires-2 : goal.switch-fill_jump-requires-2
switch-fill_jump-requires-2 t c =
    let begin : Reserves c.switched.new.self c.reserve.new.self c.in_ok-begin.begin.0 = record { place = c.in_ok-begin.ensures.at; is = c.in_ok-begin.ensures.reserved; spot = c.in_ok-begin.ensures.spot; grows = c.in_ok-begin.ensures.grows } in
    let exit : Reserves c.reserve.new.self c.reserve-2.new.self c.in_ok-exit.exit.0 = record { place = c.in_ok-exit.ensures.at; is = c.in_ok-exit.ensures.reserved; spot = c.in_ok-exit.ensures.spot; grows = c.in_ok-exit.ensures.grows } in
    let apart = later_apart c.args.source.now c.switched.new.self c.reserve.new.self c.reserve.new.self c.reserve-2.new.self c.in_ok-begin.begin.0 c.in_ok-exit.exit.0 begin (omega arith) exit in
    let done = grows_on c.reserve-2.new.self c.switch_items.new.self c.append.new.self c.in_ok-labels.ensures.grows c.in_ok-append.ensures.grows in
    still_past c.reserve-2.new.self c.append.new.self c.fill_jump.new.self c.append-2.new.self c.in_ok-exit.exit.0 c.in_ok-begin.begin.0 (C.Jump (length c.append.new.self.points.items)) c.in_ok-exit.ensures.reserved done
    (record { code = c.fill_jump.ensures.code; spot = c.fill_jump.ensures.spot; grows = c.fill_jump.ensures.grows }) apart
    (grows_on c.fill_jump.new.self c.tests.new.self c.append-2.new.self c.in_ok-tests.ensures.grows c.in_ok-append-2.ensures.grows)

pub switch-returns-clause-code : goal.switch-returns-clause-code
switch-returns-clause-code t c =
    switch_lowers c.args.source.now c.args.scope.now.items c.args.ways c.args.value.now c.args.items.now c.args.self.now c.switched.new.self c.reserve.new.self c.reserve-2.new.self c.switch_items.new.self c.append.new.self c.fill_jump.new.self c.tests.new.self c.append-2.new.self c.fill_jump-2.new.self
    c.in_ok-switched.switched c.in_ok-labels.labels c.in_ok-begin.begin.0 c.unwrap_or.result c.in_ok-exit.exit (record { broken = c.in_ok-exit.exit; continued = c.args.ways.continued })
    (of_slice (λ scope. SwitchedLowers c.args.source.now scope c.args.value.now c.args.self.now c.switched.new.self c.in_ok-switched.switched) c.as_slice.result.now c.args.scope.now.items c.as_slice.ensures.value c.in_ok-switched.ensures.code)
    (record { place = c.in_ok-begin.ensures.at; is = c.in_ok-begin.ensures.reserved; spot = c.in_ok-begin.ensures.spot; grows = c.in_ok-begin.ensures.grows })
    (record { place = c.in_ok-exit.ensures.at; is = c.in_ok-exit.ensures.reserved; spot = c.in_ok-exit.ensures.spot; grows = c.in_ok-exit.ensures.grows }) refl refl
    c.in_ok-labels.ensures.code c.in_ok-labels.ensures.grows c.in_ok-append.ensures.code c.in_ok-append.ensures.grows
    (record { code = c.fill_jump.ensures.code; spot = c.fill_jump.ensures.spot; grows = c.fill_jump.ensures.grows })
    (subst (λ cases. Leads (λ table. TestsCode cases c.in_ok-switched.switched) c.fill_jump.new.self c.tests.new.self) c.as_slice-2.ensures.value c.in_ok-tests.ensures.code) c.in_ok-tests.ensures.grows c.unwrap_or.ensures c.in_ok-append-2.ensures.code c.in_ok-append-2.ensures.grows
    (record { code = c.fill_jump-2.ensures.code; spot = c.fill_jump-2.ensures.spot; grows = c.fill_jump-2.ensures.grows })

pub switch-returns-clause-grows : goal.switch-returns-clause-grows
switch-returns-clause-grows t c =
    let old = c.args.self.now in
    let held = c.in_ok-switched.ensures.grows in
    let one = grows_on old c.switched.new.self c.reserve.new.self held c.in_ok-begin.ensures.grows in
    let two = grows_on old c.reserve.new.self c.reserve-2.new.self one c.in_ok-exit.ensures.grows in
    let done = grows_on old c.reserve-2.new.self c.switch_items.new.self two c.in_ok-labels.ensures.grows in
    let ended = grows_on old c.switch_items.new.self c.append.new.self done c.in_ok-append.ensures.grows in
    let begin_place = c.in_ok-begin.ensures.at in
    let exit_place = c.in_ok-exit.ensures.at in
    let held_longer = held.longer in
    let one_longer = one.longer in
    let jumped = grows_past old c.append.new.self c.fill_jump.new.self c.append-2.new.self c.in_ok-begin.begin.0 (C.Jump (length c.append.new.self.points.items)) (omega (arith, begin_place, held_longer)) ended
    (record { code = c.fill_jump.ensures.code; spot = c.fill_jump.ensures.spot; grows = c.fill_jump.ensures.grows })
    (grows_on c.fill_jump.new.self c.tests.new.self c.append-2.new.self c.in_ok-tests.ensures.grows c.in_ok-append-2.ensures.grows) in
    grows_filled old c.append-2.new.self c.fill_jump-2.new.self c.in_ok-exit.exit.0 (C.Jump (length c.append-2.new.self.points.items)) (omega (arith, exit_place, one_longer)) jumped
    (record { code = c.fill_jump-2.ensures.code; spot = c.fill_jump-2.ensures.spot; grows = c.fill_jump-2.ensures.grows })

pub switch-returns-clause-adds : goal.switch-returns-clause-adds
switch-returns-clause-adds t c =
    let adds = c.in_ok-switched.ensures.adds in
    let one = names_same c.switched.new.self c.reserve.new.self c.in_ok-begin.ensures.counts in
    let two = names_same c.reserve.new.self c.reserve-2.new.self c.in_ok-exit.ensures.counts in
    let more = c.in_ok-labels.ensures.adds in
    let three = names_same c.switch_items.new.self c.append.new.self c.in_ok-append.ensures.counts in
    let four = names_same c.append.new.self c.fill_jump.new.self c.fill_jump.ensures.counts in
    let five = names_same c.fill_jump.new.self c.tests.new.self c.tests.ensures.counts in
    let six = names_same c.tests.new.self c.append-2.new.self c.in_ok-append-2.ensures.counts in
    let seven = names_same c.append-2.new.self c.fill_jump-2.new.self c.fill_jump-2.ensures.counts in
    omega (arith, adds, one, two, more, three, four, five, six, seven)

pub switch-returns-clause-variables : goal.switch-returns-clause-variables
switch-returns-clause-variables t c =
    let same = variables_same c.reserve.new.self c.reserve-2.new.self c.in_ok-exit.ensures.counts ∙ variables_same c.switched.new.self c.reserve.new.self c.in_ok-begin.ensures.counts ∙ c.in_ok-switched.ensures.variables in
    let flags = taken_items (length c.args.scope.now.items) (switch_in (types_of_source c.args.source.now) c.args.items.now) in
    variables_same c.append-2.new.self c.fill_jump-2.new.self c.fill_jump-2.ensures.counts ∙ variables_same c.tests.new.self c.append-2.new.self c.in_ok-append-2.ensures.counts ∙ variables_same c.fill_jump.new.self c.tests.new.self c.tests.ensures.counts
    ∙ variables_same c.append.new.self c.fill_jump.new.self c.fill_jump.ensures.counts ∙ variables_same c.switch_items.new.self c.append.new.self c.in_ok-append.ensures.counts ∙ c.in_ok-labels.ensures.variables ∙ ap (λ n. n + length flags) same

pub switch_items-loop-item-init : goal.switch_items-loop-item-init
switch_items-loop-item-init t c =
    let old = c.args.self.now in (
      refl,
      subst (λ cases. ItemsSoFar c.args.source.now c.args.addressed.now c.args.scope.now.items c.args.ways c.args.items.now c.args.items.now cases None old old) (sym c.new-cases.ensures.items)
          (items_begin c.args.source.now c.args.addressed.now c.args.scope.now.items c.args.ways c.args.items.now old c.requires.typed c.requires.lives c.requires.foretold),
    )

pub switch_items-statement-requires : goal.switch_items-statement-requires
switch_items-statement-requires t c = (
  search (rules, stmt_lemmas, block_lemmas),
  (
    c.requires.source,
    (
      (subst (IsScope c.args.source.now) (sym c.loop-item.invariant.0) c.requires.homes),
      (
        (let source = c.args.source.now in
            let addressed = c.args.addressed.now in
            let scope = c.args.scope.now.items in
            let all = c.args.items.now in
            let left = drop (c.loop-item.item-index + 1) all in
            let old = c.args.self.now in
            let now = c.loop-item.self in
            let cases = c.loop-item.cases.items in
            let default = c.loop-item.default in
            let far = items_at source addressed c.args.ways old scope all c.loop-item.item-index c.item-item.result (W.Statement c.in-Statement.stmt) cases default now c.loop-item-test.true c.item-item.is c.in-Statement.is c.loop-item.invariant.1 in
            subst (λ scope. (within : Within) × StmtTyped source scope within c.in-Statement.stmt) (sym c.loop-item.invariant.0) (item_typed source addressed scope c.args.ways all left c.in-Statement.stmt cases default old now far)),
        (
          (let source = c.args.source.now in
              let addressed = c.args.addressed.now in
              let scope = c.args.scope.now.items in
              let all = c.args.items.now in
              let left = drop (c.loop-item.item-index + 1) all in
              let old = c.args.self.now in
              let now = c.loop-item.self in
              let cases = c.loop-item.cases.items in
              let default = c.loop-item.default in
              let far = items_at source addressed c.args.ways old scope all c.loop-item.item-index c.item-item.result (W.Statement c.in-Statement.stmt) cases default now c.loop-item-test.true c.item-item.is c.in-Statement.is c.loop-item.invariant.1 in
              subst (λ scope. LieInMemory (scope_of source scope) (λ number. takes_stmt number (stmt_in (types_of_source source) c.in-Statement.stmt))) (sym c.loop-item.invariant.0) (item_lives source addressed scope c.args.ways all left c.in-Statement.stmt cases default old now far)),
          (
            (let source = c.args.source.now in
                let addressed = c.args.addressed.now in
                let scope = c.args.scope.now.items in
                let all = c.args.items.now in
                let left = drop (c.loop-item.item-index + 1) all in
                let old = c.args.self.now in
                let now = c.loop-item.self in
                let cases = c.loop-item.cases.items in
                let default = c.loop-item.default in
                let far = items_at source addressed c.args.ways old scope all c.loop-item.item-index c.item-item.result (W.Statement c.in-Statement.stmt) cases default now c.loop-item-test.true c.item-item.is c.in-Statement.is c.loop-item.invariant.1 in
                subst (λ (scope : List Home). Foretold addressed now.counts.variables (taken_stmt (length scope) (stmt_in (types_of_source source) c.in-Statement.stmt))) (sym c.loop-item.invariant.0) (item_foretold source addressed scope c.args.ways all left c.in-Statement.stmt cases default old now far)),
            (let source = c.args.source.now in
                let addressed = c.args.addressed.now in
                let scope = c.args.scope.now.items in
                let all = c.args.items.now in
                let left = drop (c.loop-item.item-index + 1) all in
                let old = c.args.self.now in
                let now = c.loop-item.self in
                let cases = c.loop-item.cases.items in
                let default = c.loop-item.default in
                let far = items_at source addressed c.args.ways old scope all c.loop-item.item-index c.item-item.result (W.Statement c.in-Statement.stmt) cases default now c.loop-item-test.true c.item-item.is c.in-Statement.is c.loop-item.invariant.1 in
                item_room source addressed scope c.args.ways all left c.in-Statement.stmt cases default old now far c.requires.room),
          ),
        ),
      ),
    ),
  ),
)

pub switch_items-loop-item-preserved : goal.switch_items-loop-item-preserved
switch_items-loop-item-preserved t c =
    let source = c.args.source.now in
    let addressed = c.args.addressed.now in
    let scope = c.args.scope.now.items in
    let all = c.args.items.now in
    let left = drop (c.loop-item.item-index + 1) all in
    let old = c.args.self.now in
    let now = c.loop-item.self in
    let cases = c.loop-item.cases.items in
    let default = c.loop-item.default in
    elim c.match-item.branch [
      | switch_items-in-Case+in_ok-push-in-Case w ↦
          let far = items_at source addressed c.args.ways old scope all c.loop-item.item-index c.item-item.result (W.Case w.in-Case.value) cases default now c.loop-item-test.true c.item-item.is w.in-Case.is c.loop-item.invariant.1 in
          let value = w.in-Case.value in
          let same = case_fits source addressed scope c.args.ways all left value cases default old now far in (
            ap (λ (homes : Vec Home Global). homes.items) w.scope-is ∙ c.loop-item.invariant.0,
            items_joined source addressed c.args.ways old scope all left (cases ++ record { value = stored value; place = w.here.result } ∷ []) c.match-item.cases.items default c.match-item.default now c.match-item.self w.self-is
                (ap (λ (labels : Vec Label Global). labels.items) w.cases-is ∙ w.in_ok-push-in-Case.ensures.items) w.default-is
                (case_next source addressed scope c.args.ways all left value (stored value) cases default old now w.here.result (ap stored same ∙ same) w.here.ensures far),
          )
      | switch_items-in-Default w ↦
          let far = items_at source addressed c.args.ways old scope all c.loop-item.item-index c.item-item.result W.Default cases default now c.loop-item-test.true c.item-item.is w.in-Default.is c.loop-item.invariant.1 in (
            ap (λ (homes : Vec Home Global). homes.items) w.scope-is ∙ c.loop-item.invariant.0,
            items_joined source addressed c.args.ways old scope all left cases c.match-item.cases.items (Some (unwrap_or default w.here-in-Default.result)) c.match-item.default now c.match-item.self w.self-is
                (ap (λ (labels : Vec Label Global). labels.items) w.cases-is) (w.default-is ∙ ap Some w.unwrap_or.ensures)
                (default_next source addressed scope c.args.ways all left cases default old now w.here-in-Default.result w.here-in-Default.ensures far),
          )
      | switch_items-in-Statement+in_ok-statement-in-Statement w ↦
          let far = items_at source addressed c.args.ways old scope all c.loop-item.item-index c.item-item.result (W.Statement w.in-Statement.stmt) cases default now c.loop-item-test.true c.item-item.is w.in-Statement.is c.loop-item.invariant.1 in
          let new = w.statement.new.self in
          let stmt = w.in-Statement.stmt in
          let lowers = subst (λ scope. StmtLowers source scope c.args.ways stmt now new) c.loop-item.invariant.0 w.in_ok-statement-in-Statement.ensures.code in
          let declares = subst (λ (scope : List Home). Declares now new (taken_stmt (length scope) (stmt_in (types_of_source source) stmt))) c.loop-item.invariant.0 w.in_ok-statement-in-Statement.ensures.variables in (
            ap (λ (homes : Vec Home Global). homes.items) w.scope-is ∙ w.in_ok-statement-in-Statement.ensures.scope ∙ c.loop-item.invariant.0,
            items_joined source addressed c.args.ways old scope all left cases c.match-item.cases.items default c.match-item.default new c.match-item.self w.self-is
                (ap (λ (labels : Vec Label Global). labels.items) w.cases-is) w.default-is
                (item_next source addressed scope c.args.ways all left stmt cases default old now new far lowers w.in_ok-statement-in-Statement.ensures.grows w.in_ok-statement-in-Statement.ensures.adds declares),
          )
    ]

pub switch_items-returns-clause-code : goal.switch_items-returns-clause-code
switch_items-returns-clause-code t c =
    items_end c.args.source.now c.args.addressed.now c.args.scope.now.items c.args.ways c.args.items.now c.loop-item.cases.items c.loop-item.default c.args.self.now c.loop-item.self
    (items_done c.args.source.now c.args.addressed.now c.args.ways c.args.self.now c.args.scope.now.items c.args.items.now c.loop-item.item-index c.loop-item.cases.items c.loop-item.default c.loop-item.self c.loop-item-test.false c.loop-item.invariant.1)

pub switch_items-returns-clause-scope : goal.switch_items-returns-clause-scope
switch_items-returns-clause-scope t c = c.loop-item.invariant.0

pub switch_items-returns-clause-grows : goal.switch_items-returns-clause-grows
switch_items-returns-clause-grows t c = c.loop-item.invariant.1.grows

pub switch_items-returns-clause-adds : goal.switch_items-returns-clause-adds
switch_items-returns-clause-adds t c =
    items_add c.args.source.now c.args.addressed.now c.args.ways c.args.self.now c.args.scope.now.items c.args.items.now c.loop-item.cases.items c.loop-item.default c.loop-item.self
    (items_done c.args.source.now c.args.addressed.now c.args.ways c.args.self.now c.args.scope.now.items c.args.items.now c.loop-item.item-index c.loop-item.cases.items c.loop-item.default c.loop-item.self c.loop-item-test.false c.loop-item.invariant.1)

pub switch_items-returns-clause-variables : goal.switch_items-returns-clause-variables
switch_items-returns-clause-variables t c =
    items_declare c.args.source.now c.args.addressed.now c.args.ways c.args.self.now c.args.scope.now.items c.args.items.now c.loop-item.cases.items c.loop-item.default c.loop-item.self
    (items_done c.args.source.now c.args.addressed.now c.args.ways c.args.self.now c.args.scope.now.items c.args.items.now c.loop-item.item-index c.loop-item.cases.items c.loop-item.default c.loop-item.self c.loop-item-test.false c.loop-item.invariant.1)
