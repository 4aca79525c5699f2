use Rattle.std.proofs.Common.{IfOk, drop, sym, subst, ◌∙◌, arith}
use Rattle.std.proofs.lemmas.List.{drop_all}
use Rattle.dsa_bottom_up.specs.Counts.{CountsEffect, CountsStmt, CountsBlock, CountsItems, CountsTurns}
use Rattle.dsa_bottom_up.proofs.Arms.{if_then, on_ok, next_left}
use Rattle.dsa_bottom_up.proofs.Scoping.{let_go, start_adds, block_counts, switch_counts, for_counts, block_first, block_next, block_end, items_first, items_next, items_end}
use Rattle.dsa_bottom_up.proofs.names.Names.+statements.Goals as goal

pub block-loop-item-init : goal.block-loop-item-init
block-loop-item-init t c = block_first c.args.types.now c.args.self.now _ c.args.items.now

pub block-loop-item-preserved : goal.block-loop-item-preserved
block-loop-item-preserved t c =
    let items = c.args.items.now in
    block_next c.args.types.now c.args.self.now _ c.loop-item.scope.items _ c.loop-item.count c.in_ok-one.one c.in_ok-count.count (drop c.loop-item.item-index items) _ items c.item-item.result
    (next_left items c.loop-item.item-index c.item-item.result (omega arith) c.item-item.is) (c.in_ok-one.ensures {u = tt}) (c.in_ok-count.ensures {u = tt}) c.loop-item.invariant

pub block-returns-clause-count : goal.block-returns-clause-count
block-returns-clause-count t c =
    let items = c.args.items.now in
    block_end c.args.types.now c.args.self.now _ c.loop-item.scope.items c.loop-item.count (drop c.loop-item.item-index items) items (drop_all c.loop-item.item-index items (omega arith)) c.loop-item.invariant

pub block-returns-clause-scope : goal.block-returns-clause-scope
block-returns-clause-scope t c = let_go _ c.loop-item.scope.items _ c.len-outside.result c.loop-item.invariant.added c.loop-item.invariant.behind (c.len-outside.ensures ∙ c.args.scope.now.ok.0) c.truncate.ensures.items

pub items-loop-item-init : goal.items-loop-item-init
items-loop-item-init t c = items_first c.args.types.now c.args.self.now _ c.args.items.now

pub items-loop-item-preserved : goal.items-loop-item-preserved
items-loop-item-preserved t c =
    let items = c.args.items.now in
    items_next c.args.types.now c.args.self.now _ c.loop-item.scope.items _ c.loop-item.count c.in_ok-one.one c.in_ok-count.count (drop c.loop-item.item-index items) _ items c.item-item.result
    (next_left items c.loop-item.item-index c.item-item.result (omega arith) c.item-item.is) (c.in_ok-one.ensures {u = tt}) (c.in_ok-count.ensures {u = tt}) c.loop-item.invariant

pub items-returns-clause-count : goal.items-returns-clause-count
items-returns-clause-count t c =
    let items = c.args.items.now in
    (items_end c.args.types.now c.args.self.now _ c.loop-item.scope.items c.loop-item.count (drop c.loop-item.item-index items) items (drop_all c.loop-item.item-index items (omega arith)) c.loop-item.invariant).1

pub items-returns-clause-scope : goal.items-returns-clause-scope
items-returns-clause-scope t c = c.loop-item.invariant.behind

-- ---- statements

pub statement-returns-in-Block-clause-count : goal.statement-returns-in-Block-clause-count
statement-returns-in-Block-clause-count t c =
    subst (λ stmt. IfOk c.block.result (CountsStmt c.args.types.now c.args.self.now c.args.scope.now.items stmt)) (sym c.in-Block.is)
    (if_then c.block.result (λ n its. block_counts c.args.types.now c.args.self.now c.args.scope.now.items c.in-Block.items n its)
    (subst (λ items. IfOk c.block.result (CountsBlock c.args.types.now c.args.self.now c.args.scope.now.items items)) c.as_slice.ensures.value c.block.ensures.count))

pub statement-returns-in_ok-items-in-Switch-clause-count : goal.statement-returns-in_ok-items-in-Switch-clause-count
statement-returns-in_ok-items-in-Switch-clause-count t c =
    let given = subst (λ items. CountsItems c.args.types.now c.args.self.now c.args.scope.now.items items c.in_ok-items-in-Switch.items) c.as_slice-in-Switch-2.ensures.value c.in_ok-items-in-Switch.ensures.count in
    let value = subst (λ scope. CountsEffect c.args.types.now c.args.self.now scope c.in-Switch.value c.in_ok-value-in-Switch.value) c.as_slice-in-Switch.ensures.value (c.in_ok-value-in-Switch.ensures {u = tt}) in
    subst (λ stmt. IfOk c.sum-in-Switch.result (CountsStmt c.args.types.now c.args.self.now c.args.scope.now.items stmt)) (sym c.in-Switch.is)
    (if_then c.sum-in-Switch.result (λ n sum. switch_counts c.args.types.now c.args.self.now c.args.scope.now.items c.in-Switch.value c.in-Switch.items c.in_ok-value-in-Switch.value c.in_ok-items-in-Switch.items n value given sum) c.sum-in-Switch.ensures)

pub statement-returns-in_ok-turns-in-For-clause-count : goal.statement-returns-in_ok-turns-in-For-clause-count
statement-returns-in_ok-turns-in-For-clause-count t c =
    let turns = subst (λ body. CountsTurns c.args.types.now c.args.self.now c.start.new.scope.items c.in-For.condition c.in-For.step body c.in_ok-turns-in-For.turns) c.deref-in-For.ensures c.in_ok-turns-in-For.ensures.count in
    subst (λ stmt. IfOk c.sum.result (CountsStmt c.args.types.now c.args.self.now c.args.scope.now.items stmt)) (sym c.in-For.is)
    (if_then c.sum.result
    (λ n sum. for_counts c.args.types.now c.args.self.now c.args.scope.now.items c.in-For.start c.in-For.condition c.in-For.step c.in-For.body c.start.new.scope.items c.in_ok-start-in-For.start c.in_ok-turns-in-For.turns n c.in_ok-start-in-For.ensures.count c.in_ok-start-in-For.ensures.scope turns sum)
    c.sum.ensures)

pub statement-returns-in_ok-turns-in-For-clause-scope : goal.statement-returns-in_ok-turns-in-For-clause-scope
statement-returns-in_ok-turns-in-For-clause-scope t c =
    let adds = start_adds c.args.scope.now.items c.in-For.start in
    on_ok c.sum.result
    (let_go c.args.scope.now.items c.turns.new.scope.items c.truncate.new.self.items c.len-outside.result adds.0 (c.in_ok-turns-in-For.ensures.scope ∙ (c.in_ok-start-in-For.ensures.scope ∙ adds.1)) (c.len-outside.ensures ∙ c.args.scope.now.ok.0) c.truncate.ensures.items)
