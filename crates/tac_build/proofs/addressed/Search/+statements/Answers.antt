use Rattle.std.proofs.Common.{take, refl, sym, ap, subst, ◌∙◌, arith}
use Rattle.std.proofs.lemmas.List.{drop_all}
use Rattle.std.proofs.lemmas.Result.{on_ok_weaker}
use Rattle.c_typed.specs.Typed as T
use Rattle.c_typed.specs.Views.{value_in}
use Rattle.c_typed.specs.StatementViews.{optional_value_in, start_in, stmt_in, block_in, switch_in}
use Rattle.c_typed.proofs.StatementsStay.{stmt_in-block, stmt_in-switch}
use Rattle.tac_build.specs.declared.addressed.Search.{Search}
use Rattle.tac_build.specs.Marks.{PassesStmt}
use Rattle.tac_build.proofs.Opening.{left_first, for_passes}
use Rattle.tac_build.proofs.MarkedStatements.{passes_nothing, passes_value, passes_return, passes_if, passes_choice, passes_do, passes_switch, BlockLeft, BlockItemPasses, block_turn, block_end, ItemsLeft, items_first, SwitchItemPasses, items_turn, items_end}
use Rattle.tac_build.proofs.addressed.Search.+statements.Goals.{block-in-Local+in_ok-local-in-Local, block-in-Statement+in_ok-statement-in-Statement, items-in-Case, items-in-Default, items-in-Statement+in_ok-statement-in-Statement}
use Rattle.tac_build.proofs.addressed.Search.+statements.Goals as goal

-- ---- loops

pub block-loop-item-init : goal.block-loop-item-init
block-loop-item-init t c = λ w table. left_first c.args.self.now _ _ w

pub block-loop-item-preserved : goal.block-loop-item-preserved
block-loop-item-preserved t c = λ w table.
    let old = c.args.self.now in
    let items = c.args.items.now in
    let now = c.loop-item.self in
    let one : BlockItemPasses table now c.match-item.self c.item-item.result = elim c.match-item.branch [
      | block-in-Local+in_ok-local-in-Local w ↦ rw (w.in-Local.is, w.self-is) (w.in_ok-local-in-Local.ensures {u = tt} table)
      | block-in-Statement+in_ok-statement-in-Statement w ↦ rw (w.in-Statement.is, w.self-is) (w.in_ok-statement-in-Statement.ensures {u = tt} table)
    ] in
    block_turn table old now c.match-item.self items c.loop-item.item-index c.item-item.result (block_in table items) (omega arith) c.item-item.is (c.loop-item.invariant w table) one

pub block-returns : goal.block-returns
block-returns t c = λ table.
    let old = c.args.self.now in
    let items = c.args.items.now in
    let now = c.loop-item.self in
    let final : Search = record { flags = now.flags; scope = c.truncate.new.self } in
    block_end old now final (block_in table items)
    (λ w. subst (λ left. BlockLeft old now (block_in table left) (block_in table items)) (drop_all c.loop-item.item-index items (omega arith)) (c.loop-item.invariant w table))
    (c.truncate.ensures.items ∙ ap (λ n. take n now.scope.items) (c.len-outside.ensures ∙ old.scope.ok.0)) refl

pub items-loop-item-init : goal.items-loop-item-init
items-loop-item-init t c = λ w table. items_first c.args.self.now (switch_in table c.args.items.now) w

pub items-loop-item-preserved : goal.items-loop-item-preserved
items-loop-item-preserved t c = λ w table.
    let old = c.args.self.now in
    let items = c.args.items.now in
    let now = c.loop-item.self in
    let one : SwitchItemPasses table now c.match-item.self c.item-item.result = elim c.match-item.branch [
      | items-in-Case w ↦ rw (w.in-Case.is, w.self-is) (passes_nothing now)
      | items-in-Default w ↦ rw (w.in-Default.is, w.self-is) (passes_nothing now)
      | items-in-Statement+in_ok-statement-in-Statement w ↦ rw (w.in-Statement.is, w.self-is) (w.in_ok-statement-in-Statement.ensures {u = tt} table)
    ] in
    items_turn table old now c.match-item.self items c.loop-item.item-index c.item-item.result (switch_in table items) (omega arith) c.item-item.is (c.loop-item.invariant w table) one

pub items-returns : goal.items-returns
items-returns t c = λ table.
    let old = c.args.self.now in
    let items = c.args.items.now in
    let now = c.loop-item.self in
    items_end old now (switch_in table items)
    (λ w. subst (λ left. ItemsLeft old now (switch_in table left) (switch_in table items)) (drop_all c.loop-item.item-index items (omega arith)) (c.loop-item.invariant w table))

-- ---- statements

pub statement-returns-in-Block : goal.statement-returns-in-Block
statement-returns-in-Block t c = λ table.
    let old = c.args.self.now in
    let new = c.block.new.self in
    on_ok_weaker c.block.result
    (λ passes. subst (λ stmt. PassesStmt old new stmt) (ap (λ items. T.BlockStmt (block_in table items)) c.as_slice.ensures.value ∙ sym (ap (stmt_in table) c.in-Block.is ∙ stmt_in-block table c.in-Block.items)) passes)
    (c.block.ensures table)

pub statement-returns-in-Empty : goal.statement-returns-in-Empty
statement-returns-in-Empty t c = λ table. subst (λ stmt. PassesStmt c.args.self.now c.args.self.now (stmt_in table stmt)) (sym c.in-Empty.is) (passes_nothing c.args.self.now)

pub statement-returns-in-Break : goal.statement-returns-in-Break
statement-returns-in-Break t c = λ table. subst (λ stmt. PassesStmt c.args.self.now c.args.self.now (stmt_in table stmt)) (sym c.in-Break.is) (passes_nothing c.args.self.now)

pub statement-returns-in-Continue : goal.statement-returns-in-Continue
statement-returns-in-Continue t c = λ table. subst (λ stmt. PassesStmt c.args.self.now c.args.self.now (stmt_in table stmt)) (sym c.in-Continue.is) (passes_nothing c.args.self.now)

pub statement-returns-in-Expression : goal.statement-returns-in-Expression
statement-returns-in-Expression t c = λ table.
    subst (λ stmt. PassesStmt c.args.self.now c.value.new.self (stmt_in table stmt)) (sym c.in-Expression.is) (passes_value c.args.self.now c.value.new.self (value_in table c.in-Expression.value) (c.value.ensures table))

pub statement-returns-in-Return : goal.statement-returns-in-Return
statement-returns-in-Return t c = λ table.
    subst (λ stmt. PassesStmt c.args.self.now c.optional-in-Return.new.self (stmt_in table stmt)) (sym c.in-Return.is) (passes_return c.args.self.now c.optional-in-Return.new.self (optional_value_in table c.in-Return.value) (c.optional-in-Return.ensures table))

pub statement-returns-in-If : goal.statement-returns-in-If
statement-returns-in-If t c = λ table.
    let old = c.args.self.now in
    let new = c.statement.new.self in
    on_ok_weaker c.statement.result
    (λ passes. subst (λ stmt. PassesStmt old new stmt) ((λ i. T.If (value_in table c.in-If.condition) (stmt_in table (c.deref.ensures i))) ∙ sym (ap (stmt_in table) c.in-If.is))
    (passes_if old c.value-in-If.new.self new (value_in table c.in-If.condition) (stmt_in table c.deref.result.now) (c.value-in-If.ensures table) passes))
    (c.statement.ensures table)

pub statement-returns-in_ok-statement-in-IfElse : goal.statement-returns-in_ok-statement-in-IfElse
statement-returns-in_ok-statement-in-IfElse t c = λ table.
    let old = c.args.self.now in
    let new = c.statement-in-IfElse-2.new.self in
    on_ok_weaker c.statement-in-IfElse-2.result
    (λ passes. subst (λ stmt. PassesStmt old new stmt) ((λ i. T.IfElse (value_in table c.in-IfElse.condition) (stmt_in table (c.deref-in-IfElse.ensures i)) (stmt_in table (c.deref-in-IfElse-2.ensures i))) ∙ sym (ap (stmt_in table) c.in-IfElse.is))
    (passes_choice old c.value-in-IfElse.new.self c.statement-in-IfElse.new.self new (value_in table c.in-IfElse.condition) (stmt_in table c.deref-in-IfElse.result.now) (stmt_in table c.deref-in-IfElse-2.result.now) (c.value-in-IfElse.ensures table) (c.in_ok-statement-in-IfElse.ensures {u = tt} table) passes))
    (c.statement-in-IfElse-2.ensures table)

pub statement-returns-in-While : goal.statement-returns-in-While
statement-returns-in-While t c = λ table.
    let old = c.args.self.now in
    let new = c.statement-in-While.new.self in
    on_ok_weaker c.statement-in-While.result
    (λ passes. subst (λ stmt. PassesStmt old new stmt) ((λ i. T.While (value_in table c.in-While.condition) (stmt_in table (c.deref-in-While.ensures i))) ∙ sym (ap (stmt_in table) c.in-While.is))
    (passes_if old c.value-in-While.new.self new (value_in table c.in-While.condition) (stmt_in table c.deref-in-While.result.now) (c.value-in-While.ensures table) passes))
    (c.statement-in-While.ensures table)

pub statement-returns-in_ok-statement-in-DoWhile : goal.statement-returns-in_ok-statement-in-DoWhile
statement-returns-in_ok-statement-in-DoWhile t c = λ table.
    let old = c.args.self.now in
    let new = c.value-in-DoWhile.new.self in
    subst (λ stmt. PassesStmt old new stmt) ((λ i. T.DoWhile (stmt_in table (c.deref-in-DoWhile.ensures i)) (value_in table c.in-DoWhile.condition)) ∙ sym (ap (stmt_in table) c.in-DoWhile.is))
    (passes_do old c.statement-in-DoWhile.new.self new (stmt_in table c.deref-in-DoWhile.result.now) (value_in table c.in-DoWhile.condition) (c.in_ok-statement-in-DoWhile.ensures {u = tt} table) (c.value-in-DoWhile.ensures table))

pub statement-returns-in-Switch : goal.statement-returns-in-Switch
statement-returns-in-Switch t c = λ table.
    let old = c.args.self.now in
    let new = c.items.new.self in
    on_ok_weaker c.items.result
    (λ passes. subst (λ stmt. PassesStmt old new stmt) (ap (λ items. T.Switch (value_in table c.in-Switch.value) (switch_in table items)) c.as_slice-in-Switch.ensures.value ∙ sym (ap (stmt_in table) c.in-Switch.is ∙ stmt_in-switch table c.in-Switch.value c.in-Switch.items))
    (passes_switch old c.value-in-Switch.new.self new (value_in table c.in-Switch.value) (switch_in table c.as_slice-in-Switch.result.now) (c.value-in-Switch.ensures table) passes))
    (c.items.ensures table)

pub statement-returns-in_ok-statement-in-For : goal.statement-returns-in_ok-statement-in-For
statement-returns-in_ok-statement-in-For t c = λ table.
    let old = c.args.self.now in
    let fourth = c.statement-in-For.new.self in
    let final : Search = record { flags = fourth.flags; scope = c.truncate.new.self } in
    subst (λ stmt. PassesStmt old final stmt)
    ((λ i. T.For (start_in table c.in-For.start) (optional_value_in table c.in-For.condition) (optional_value_in table c.in-For.step) (stmt_in table (c.deref-in-For.ensures i))) ∙ sym (ap (stmt_in table) c.in-For.is))
    (for_passes old c.start.new.self c.optional.new.self c.optional-in-For.new.self fourth final
    (start_in table c.in-For.start) (optional_value_in table c.in-For.condition) (optional_value_in table c.in-For.step) (stmt_in table c.deref-in-For.result.now)
    (c.in_ok-start-in-For.ensures {u = tt} table) (c.optional.ensures table) (c.optional-in-For.ensures table) (c.in_ok-statement-in-For.ensures {u = tt} table)
    (c.truncate.ensures.items ∙ ap (λ n. take n fourth.scope.items) (c.len-outside.ensures ∙ old.scope.ok.0)) refl)
