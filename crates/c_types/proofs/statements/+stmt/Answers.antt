use Rattle.std.proofs.Common.{List, [], ◌∷◌, ◌++◌, refl, sym, ap, subst, ◌∙◌, ◌+◌, drop, arith, rules, OnOk}
use Rattle.std.specs.Int.{w128}
use Rattle.std.proofs.lemmas.Int.{to_z-of_z as same_int}
use Rattle.std.proofs.lemmas.List.{drop_all, drop_more}
use Rattle.std.proofs.lemmas.Result.{IfOk-weaker}
use Rattle.c_syntax.specs.Trees
use Rattle.c_syntax.specs.declared.statement.BlockItem.TheViews.{the_lemmas}
use Rattle.c_typed.specs.declared.typed.Value as memory_value
use Rattle.c_typed.specs.declared.statement.Stmt.TheVariants as S
use Rattle.c_typed.specs.declared.statement.BlockItem as made_item
use Rattle.c_typed.specs.declared.statement.BlockItem.TheVariants as made_items
use Rattle.c_typed.specs.declared.statement.SwitchItem as made_switch
use Rattle.c_syntax.specs.Views.{expr_tree, stmt_tree, value_tree, for_tree, block_of, switch_of}
use Rattle.c_syntax.proofs.SyntaxRows.{stmt_tree-block, stmt_tree-switch}
use Rattle.c_typed.specs.Table.{Stands, type_in}
use Rattle.c_typed.proofs.Grown.{grows_trans}
use Rattle.c_types_state.specs.Finding.{AllStand, each_in}
use Rattle.c_rules.specs.Names.{entered}
use Rattle.c_types_state.specs.NameTables.{scope_of}
use Rattle.c_rules.specs.Statements.{for_start}
use Rattle.c_types_expressions.proofs.Passing.{with_checker}
use Rattle.c_types.specs.Made.{Covers, AddsItems}
use Rattle.c_types.specs.Parts.{around_in, behind_block, item_found, item_named, item_adds, item_scope}
use Rattle.c_types.proofs.StatementsMade.{BlockFar, SwitchFar, around-stands, stmt-tree, stmt-same, made-empty, made-expression, made-if, made-if_else, made-while, made-do, made-return, made-switch, made-break, made-continue, made-block, made-for, leaves-enough, within-block, within-start, block-none, block-step, block-all, switch-none, switch-step, switch-all, adds-statement, part-item, part-case, part-default, part-statement}
use Rattle.c_types.proofs.statements.+stmt.Goals as goal

pub block_items-loop-item-init : goal.block_items-loop-item-init
block_items-loop-item-init t c =
    let s = c.args.pass.now in
    subst (λ (made : List made_item.BlockItem). BlockFar (around_in s.checker.table c.args.around) s c.args.items.now c.args.items.now s made) (sym c.new-made.ensures.items)
    (block-none (around_in s.checker.table c.args.around) s c.args.items.now)

pub block_items-loop-item-preserved : goal.block_items-loop-item-preserved
block_items-loop-item-preserved t c =
    let all = c.args.items.now in
    let here = c.loop-item.item-index in
    let item = c.item-item.result in
    block-step c.args.around c.args.pass.now c.loop-item.pass c.block_item.new.pass c.requires
    (drop_more all here item (omega arith) ∙ ap (λ first. first ∷ drop (here + 1) all) (sym c.item-item.is))
    c.in_ok-block_item.ensures.covers c.in_ok-block_item.ensures.made c.loop-item.invariant

pub block_items-block_item-requires : goal.block_items-block_item-requires
block_items-block_item-requires t c = (search (rules, the_lemmas), around-stands c.args.pass.now.checker.table c.loop-item.pass.checker.table c.loop-item.invariant.covers.grows c.args.around c.requires)

pub block_items-returns : goal.block_items-returns
block_items-returns t c = block-all c.loop-item.made (drop_all c.loop-item.item-index c.args.items.now (omega arith)) c.loop-item.invariant

pub block_item-statement-requires : goal.block_item-statement-requires
block_item-statement-requires t c = (search (rules, the_lemmas), c.requires)

pub block_item-returns-in-Declaration-clause-covers : goal.block_item-returns-in-Declaration-clause-covers
block_item-returns-in-Declaration-clause-covers t c =
    let s = c.args.pass.now in
    let u = c.block_declaration.new.pass in
    let scope = scope_of s.checker in
    subst (λ item. OnOk c.block_declaration.result (Covers (item_found scope (around_in s.checker.table c.args.around) item) (item_named scope item) (item_scope scope item) s u)) (sym c.in-Declaration.is) c.block_declaration.ensures.covers

pub block_item-returns-in-Declaration-clause-made : goal.block_item-returns-in-Declaration-clause-made
block_item-returns-in-Declaration-clause-made t c =
    let s = c.args.pass.now in
    let u = c.block_declaration.new.pass in
    subst (λ item. OnOk c.block_declaration.result (AddsItems (item_adds (scope_of s.checker) (each_in type_in s.checker.table c.args.around.returned) item) u.checker.table c.args.made.now.items c.block_declaration.new.made.items)) (sym c.in-Declaration.is) c.block_declaration.ensures.made

pub block_item-returns-in_ok-push-in-Statement-clause-covers : goal.block_item-returns-in_ok-push-in-Statement-clause-covers
block_item-returns-in_ok-push-in-Statement-clause-covers t c =
    let s = c.args.pass.now in
    let scope = scope_of s.checker in
    subst (λ item. Covers (item_found scope (around_in s.checker.table c.args.around) item) (item_named scope item) (item_scope scope item) s c.statement.new.pass) (sym c.in-Statement.is) c.in_ok-stmt-in-Statement.ensures.covers

pub block_item-returns-in_ok-push-in-Statement-clause-made : goal.block_item-returns-in_ok-push-in-Statement-clause-made
block_item-returns-in_ok-push-in-Statement-clause-made t c =
    let s = c.args.pass.now in
    let table = c.statement.new.pass.checker.table in
    subst (λ item. AddsItems (item_adds (scope_of s.checker) (each_in type_in s.checker.table c.args.around.returned) item) table c.args.made.now.items c.push.new.self.items) (sym c.in-Statement.is)
    (adds-statement table c.in_ok-stmt-in-Statement.stmt.value _ c.args.made.now.items c.push.new.self.items c.in_ok-stmt-in-Statement.ensures.made
    (c.in_ok-push-in-Statement.ensures.items ∙ (λ i. c.args.made.now.items ++ made_items.Statement (c.into_inner-stmt.ensures i) ∷ [])))

pub switch_items-switch_item-requires : goal.switch_items-switch_item-requires
switch_items-switch_item-requires t c = (search (rules, the_lemmas), around-stands c.args.pass.now.checker.table c.loop-item.pass.checker.table c.loop-item.invariant.covers.grows c.args.around c.requires)

pub switch_items-loop-item-init : goal.switch_items-loop-item-init
switch_items-loop-item-init t c =
    let s = c.args.pass.now in
    subst (λ (made : List made_switch.SwitchItem). SwitchFar (around_in s.checker.table c.args.around) c.args.int_type s c.args.items.now c.args.items.now c.new-labels.result.values.keys c.new-labels.result.has_default s made) (sym c.new-made.ensures.items)
    (switch-none (around_in s.checker.table c.args.around) c.args.int_type s c.args.items.now c.new-labels.result.values.keys c.new-labels.result.has_default c.new-labels.ensures.values c.new-labels.ensures.has_default)

pub switch_items-loop-item-preserved : goal.switch_items-loop-item-preserved
switch_items-loop-item-preserved t c =
    let all = c.args.items.now in
    let here = c.loop-item.item-index in
    let item = c.item-item.result in
    switch-step c.args.around c.args.pass.now c.loop-item.pass c.switch_item.new.pass c.requires
    (drop_more all here item (omega arith) ∙ ap (λ first. first ∷ drop (here + 1) all) (sym c.item-item.is))
    c.in_ok-item.ensures.made c.in_ok-item.ensures.labels c.in_ok-item.ensures.has_default c.in_ok-push.ensures.items c.loop-item.invariant

pub switch_items-returns : goal.switch_items-returns
switch_items-returns t c = switch-all c.loop-item.made (drop_all c.loop-item.item-index c.args.items.now (omega arith)) c.loop-item.invariant

pub switch_item-statement-requires : goal.switch_item-statement-requires
switch_item-statement-requires t c = (search (rules, the_lemmas), c.requires)

pub switch_item-returns-in_ok-is_new-in-Case-clause-made : goal.switch_item-returns-in_ok-is_new-in-Case-clause-made
switch_item-returns-in_ok-is_new-in-Case-clause-made t c =
    let s = c.args.pass.now in
    part-item c.args.around s.checker.table c.args.int_type c.args.labels.now.values.keys c.args.labels.now.has_default c.in-Case.is
    (part-case c.args.around s.checker.table c.args.int_type c.args.labels.now.values.keys c.args.labels.now.has_default c.in-Case.place c.in-Case.value _ c.in_ok-stated-in-Case.ensures c.converted_label-label.ensures c.in_ok-is_new-in-Case.ensures.is_new (same_int w128 c.unwrap_or.result (record { sfits = c.unwrap_or.type_inv }) ∙ c.unwrap_or.ensures) c.require.ensures.noted refl)

pub switch_item-returns-in-Default-clause-made : goal.switch_item-returns-in-Default-clause-made
switch_item-returns-in-Default-clause-made t c =
    let s = c.args.pass.now in
    part-item c.args.around s.checker.table c.args.int_type c.args.labels.now.values.keys c.args.labels.now.has_default c.in-Default.is
    (part-default c.args.around s.checker.table c.args.int_type c.args.labels.now.values.keys c.args.labels.now.has_default c.in-Default.place c.add_default-is_first.ensures.is_first c.require-in-Default.ensures.noted refl)

pub switch_item-returns-in_ok-stmt-in-Statement-clause-made : goal.switch_item-returns-in_ok-stmt-in-Statement-clause-made
switch_item-returns-in_ok-stmt-in-Statement-clause-made t c =
    let s = c.args.pass.now in
    part-item c.args.around s.checker.table c.args.int_type c.args.labels.now.values.keys c.args.labels.now.has_default c.in-Statement.is
    (part-statement c.args.around s.checker.table c.args.int_type c.args.labels.now.values.keys c.args.labels.now.has_default c.in-Statement.stmt c.into_inner-stmt.result (stmt-same s.checker.table refl refl c.into_inner-stmt.ensures c.in_ok-stmt-in-Statement.ensures))

pub block_stmt-block_items-requires : goal.block_stmt-block_items-requires
block_stmt-block_items-requires t c = (search rules, subst (λ table. AllStand Stands table c.args.around.returned) (sym c.enter-outer.ensures.scope.table) c.requires)

pub block_stmt-leave-requires : goal.block_stmt-leave-requires
block_stmt-leave-requires t c =
    let scope = scope_of c.args.pass.now.checker in
    leaves-enough scope c.block_items.new.pass.checker c.enter-outer.result (c.in_ok-items.ensures.covers.scope ∙ ap (λ scope. behind_block scope (block_of c.args.items.now)) c.enter-outer.ensures.scope.scope)
    (within-block (entered scope) (block_of c.args.items.now)) c.enter-outer.ensures.outer

pub block_stmt-returns : goal.block_stmt-returns
block_stmt-returns t c =
    IfOk-weaker c.boxed.result _ _ (λ _ is place. stmt-same c.args.pass.now.checker.table {around = c.args.around} {tree = Trees.BlockStmt place (block_of c.args.items.now)} refl refl is
    (made-block c.args.around {s0 = with_checker c.args.pass.now c.enter-outer.new.self} {t = c.block_items.new.pass} {u = with_checker c.block_items.new.pass c.leave.new.self} c.requires c.enter-outer.ensures.scope c.enter-outer.ensures.outer refl (block_of c.args.items.now) c.in_ok-items.items c.in_ok-items.ensures c.leave.ensures refl place))
    c.boxed.ensures

pub for_stmt-statement-requires : goal.for_stmt-statement-requires
for_stmt-statement-requires t c =
    let s0 = subst (λ table. AllStand Stands table c.args.around.returned) (sym c.enter-outer.ensures.scope.table) c.requires in
    let grows = grows_trans _ _ _ (grows_trans _ _ _ c.in_ok-start.ensures.covers.grows c.in_ok-condition.ensures.covers.grows) c.in_ok-step.ensures.covers.grows in
    (search rules, subst (λ around. AllStand Stands c.optional_unused.new.pass.checker.table around.returned) (sym c.within_loop.ensures) (around-stands _ _ grows c.args.around s0))

pub for_stmt-leave-requires : goal.for_stmt-leave-requires
for_stmt-leave-requires t c =
    let scope = scope_of c.args.pass.now.checker in
    let first = for_tree c.args.first.now in
    leaves-enough scope c.statement.new.pass.checker c.enter-outer.result
    (c.in_ok-body.ensures.covers.scope ∙ c.in_ok-step.ensures.covers.scope ∙ c.in_ok-condition.ensures.covers.scope ∙ c.in_ok-start.ensures.covers.scope ∙ ap (λ scope. (for_start scope first).scope) c.enter-outer.ensures.scope.scope)
    (within-start (entered scope) first) c.enter-outer.ensures.outer

pub for_stmt-returns : goal.for_stmt-returns
for_stmt-returns t c =
    IfOk-weaker c.boxed.result _ _ (λ _ is place. stmt-same c.args.pass.now.checker.table {around = c.args.around} {tree = Trees.For place (for_tree c.args.first.now) (value_tree c.args.condition.now) (value_tree c.args.step.now) (stmt_tree c.args.body.now)} refl refl
    (is ∙ (λ i. S.For (c.into_inner-start.ensures i) (c.unboxed-condition.ensures i) (c.unboxed-step.ensures i) c.in_ok-body.body))
    (made-for c.args.around {s0 = with_checker c.args.pass.now c.enter-outer.new.self} {t = c.statement.new.pass} {u = with_checker c.statement.new.pass c.leave.new.self} c.requires c.enter-outer.ensures.scope c.enter-outer.ensures.outer refl (for_tree c.args.first.now) (value_tree c.args.condition.now) (value_tree c.args.step.now) (stmt_tree c.args.body.now) c.in_ok-start.start.value _ _ c.in_ok-body.body
    c.in_ok-start.ensures c.in_ok-condition.ensures c.in_ok-step.ensures (stmt-same c.optional_unused.new.pass.checker.table c.within_loop.ensures refl refl c.in_ok-body.ensures) c.leave.ensures refl place))
    c.boxed.ensures

pub statement-block_stmt-requires : goal.statement-block_stmt-requires
statement-block_stmt-requires t c = (search (rules, the_lemmas), c.requires)

pub statement-for_stmt-requires : goal.statement-for_stmt-requires
statement-for_stmt-requires t c = (search (rules, the_lemmas), c.requires)

pub statement-statement-requires : goal.statement-statement-requires
statement-statement-requires t c = (search (rules, the_lemmas), around-stands _ _ c.in_ok-condition-in-If.ensures.covers.grows c.args.around c.requires)

pub statement-statement-requires-in-IfElse : goal.statement-statement-requires-in-IfElse
statement-statement-requires-in-IfElse t c = (search (rules, the_lemmas), around-stands _ _ c.in_ok-condition-in-IfElse.ensures.covers.grows c.args.around c.requires)

pub statement-statement-requires-in-IfElse-2 : goal.statement-statement-requires-in-IfElse-2
statement-statement-requires-in-IfElse-2 t c = (search (rules, the_lemmas), around-stands _ _ (grows_trans _ _ _ c.in_ok-condition-in-IfElse.ensures.covers.grows c.in_ok-then-in-IfElse.ensures.covers.grows) c.args.around c.requires)

pub statement-statement-requires-in-While : goal.statement-statement-requires-in-While
statement-statement-requires-in-While t c = (search (rules, the_lemmas), subst (λ around. AllStand Stands c.condition-in-While.new.pass.checker.table around.returned) (sym c.within_loop.ensures) (around-stands _ _ c.in_ok-condition-in-While.ensures.covers.grows c.args.around c.requires))

pub statement-statement-requires-in-Do : goal.statement-statement-requires-in-Do
statement-statement-requires-in-Do t c = (search (rules, the_lemmas), subst (λ around. AllStand Stands c.args.pass.now.checker.table around.returned) (sym c.within_loop-in-Do.ensures) c.requires)

pub statement-switch_items-requires : goal.statement-switch_items-requires
statement-switch_items-requires t c = (search (rules, the_lemmas), subst (λ around. AllStand Stands c.switched.new.pass.checker.table around.returned) (sym c.within_switch.ensures) (around-stands _ _ c.in_ok-value-in-Switch.ensures.covers.grows c.args.around c.requires))

pub statement-returns-in-Block : goal.statement-returns-in-Block
statement-returns-in-Block t c =
    let block = c.in-Block.block in
    IfOk-weaker c.block_stmt.result _ _
    (λ b made. stmt-tree c.args.around c.args.pass.now.checker.table (ap stmt_tree c.in-Block.is ∙ stmt_tree-block block ∙ ap (λ items. Trees.BlockStmt block.place (block_of items)) (sym c.as_slice.ensures.value)) (made block.place))
    c.block_stmt.ensures

pub statement-returns-in-Empty : goal.statement-returns-in-Empty
statement-returns-in-Empty t c =
    let table = c.args.pass.now.checker.table in
    IfOk-weaker c.boxed.result _ _ (λ _ is.
    stmt-same table refl (sym (ap stmt_tree c.in-Empty.is)) is (made-empty c.args.around table c.in-Empty.place))
    c.boxed.ensures

pub statement-returns-in_ok-value-in-Expression : goal.statement-returns-in_ok-value-in-Expression
statement-returns-in_ok-value-in-Expression t c =
    let table = c.args.pass.now.checker.table in
    IfOk-weaker c.boxed-in-Expression.result _ _ (λ _ is.
    stmt-same table refl (sym (ap stmt_tree c.in-Expression.is)) (is ∙ ap S.Expression c.into_inner-value.ensures)
    (made-expression c.args.around table (expr_tree c.in-Expression.value) c.in_ok-value-in-Expression.ensures))
    c.boxed-in-Expression.ensures

pub statement-returns-in_ok-then-in-If : goal.statement-returns-in_ok-then-in-If
statement-returns-in_ok-then-in-If t c =
    let taken = c.in_ok-then-in-If.«then» in
    IfOk-weaker c.boxed-in-If.result _ _ (λ _ is.
    stmt-same c.args.pass.now.checker.table refl (sym (ap stmt_tree c.in-If.is)) (is ∙ ap (λ (v : memory_value.Value). S.If v taken) c.into_inner-condition.ensures)
    (made-if c.args.around (expr_tree c.in-If.tested) c.requires c.in_ok-condition-in-If.ensures c.in-If.place (stmt_tree c.in-If.«then».value) taken (stmt-same c.condition.new.pass.checker.table refl (ap stmt_tree c.deref.ensures) refl c.in_ok-then-in-If.ensures)))
    c.boxed-in-If.ensures

pub statement-returns-in_ok-otherwise-in-IfElse : goal.statement-returns-in_ok-otherwise-in-IfElse
statement-returns-in_ok-otherwise-in-IfElse t c =
    let taken = c.in_ok-then-in-IfElse.«then» in
    let otherwise = c.in_ok-otherwise-in-IfElse.otherwise in
    IfOk-weaker c.boxed-in-IfElse.result _ _ (λ _ is.
    stmt-same c.args.pass.now.checker.table refl (sym (ap stmt_tree c.in-IfElse.is)) (is ∙ ap (λ (v : memory_value.Value). S.IfElse v taken otherwise) c.into_inner-condition-in-IfElse.ensures)
    (made-if_else c.args.around (expr_tree c.in-IfElse.tested) c.requires c.in_ok-condition-in-IfElse.ensures c.in-IfElse.place (stmt_tree c.in-IfElse.«then».value) (stmt_tree c.in-IfElse.otherwise.value) taken otherwise
    (stmt-same c.condition-in-IfElse.new.pass.checker.table refl (ap stmt_tree c.deref-in-IfElse.ensures) refl c.in_ok-then-in-IfElse.ensures)
    (stmt-same c.statement-in-IfElse.new.pass.checker.table refl (ap stmt_tree c.deref-in-IfElse-2.ensures) refl c.in_ok-otherwise-in-IfElse.ensures)))
    c.boxed-in-IfElse.ensures

pub statement-returns-in_ok-body-in-While : goal.statement-returns-in_ok-body-in-While
statement-returns-in_ok-body-in-While t c =
    let body = c.in_ok-body-in-While.body in
    IfOk-weaker c.boxed-in-While.result _ _ (λ _ is.
    stmt-same c.args.pass.now.checker.table refl (sym (ap stmt_tree c.in-While.is)) (is ∙ ap (λ (v : memory_value.Value). S.While v body) c.into_inner-condition-in-While.ensures)
    (made-while c.args.around (expr_tree c.in-While.tested) c.requires c.in_ok-condition-in-While.ensures c.in-While.place (stmt_tree c.in-While.body.value) body (stmt-same c.condition-in-While.new.pass.checker.table c.within_loop.ensures (ap stmt_tree c.deref-in-While.ensures) refl c.in_ok-body-in-While.ensures)))
    c.boxed-in-While.ensures

pub statement-returns-in_ok-condition-in-Do : goal.statement-returns-in_ok-condition-in-Do
statement-returns-in_ok-condition-in-Do t c =
    let body = c.in_ok-body-in-Do.body in
    IfOk-weaker c.boxed-in-Do.result _ _ (λ _ is.
    stmt-same c.args.pass.now.checker.table refl (sym (ap stmt_tree c.in-Do.is)) (is ∙ ap (S.DoWhile body) c.into_inner-condition-in-Do.ensures)
    (made-do c.args.around c.in-Do.place (stmt_tree c.in-Do.body.value) (expr_tree c.in-Do.tested) body (stmt-same c.args.pass.now.checker.table c.within_loop-in-Do.ensures (ap stmt_tree c.deref-in-Do.ensures) refl c.in_ok-body-in-Do.ensures) c.in_ok-condition-in-Do.ensures))
    c.boxed-in-Do.ensures

pub statement-returns-in-For : goal.statement-returns-in-For
statement-returns-in-For t c =
    IfOk-weaker c.for_stmt.result _ _
    (λ b made. stmt-tree c.args.around c.args.pass.now.checker.table (ap stmt_tree c.in-For.is ∙ ap (λ body. Trees.For c.in-For.place (for_tree c.in-For.first) (value_tree c.in-For.condition) (value_tree c.in-For.step) (stmt_tree body)) (sym c.deref-in-For.ensures)) (made c.in-For.place))
    c.for_stmt.ensures

pub statement-returns-in_ok-items-in-Switch : goal.statement-returns-in_ok-items-in-Switch
statement-returns-in_ok-items-in-Switch t c =
    let items = c.in-Switch.items in
    let made = c.in_ok-items-in-Switch.items in
    IfOk-weaker c.boxed-in-Switch.result _ _ (λ _ is.
    stmt-same c.args.pass.now.checker.table refl
    (sym (ap stmt_tree c.in-Switch.is ∙ stmt_tree-switch c.in-Switch.place c.in-Switch.value items ∙ ap (λ items. Trees.Switch c.in-Switch.place (expr_tree c.in-Switch.value) (switch_of items)) (sym c.as_slice-in-Switch.ensures.value)))
    (is ∙ ap (λ (v : memory_value.Value). S.Switch v made) c.into_inner-value-in-Switch.ensures)
    (made-switch c.args.around c.in-Switch.place (expr_tree c.in-Switch.value) (switch_of c.as_slice-in-Switch.result.now) made c.requires c.in_ok-value-in-Switch.ensures (rw c.within_switch.ensures at c.in_ok-items-in-Switch.ensures)))
    c.boxed-in-Switch.ensures

pub statement-returns-in-Break : goal.statement-returns-in-Break
statement-returns-in-Break t c =
    let table = c.args.pass.now.checker.table in
    IfOk-weaker c.boxed-in-Break.result _ _ (λ _ is.
    stmt-same table refl (sym (ap stmt_tree c.in-Break.is)) is (made-break c.args.around table c.in-Break.place refl c.require.ensures.noted))
    c.boxed-in-Break.ensures

pub statement-returns-in-Continue : goal.statement-returns-in-Continue
statement-returns-in-Continue t c =
    let table = c.args.pass.now.checker.table in
    IfOk-weaker c.boxed-in-Continue.result _ _ (λ _ is.
    stmt-same table refl (sym (ap stmt_tree c.in-Continue.is)) is (made-continue c.args.around table c.in-Continue.place refl c.require-in-Continue.ensures.noted))
    c.boxed-in-Continue.ensures

pub statement-returns-in_ok-value-in-Return : goal.statement-returns-in_ok-value-in-Return
statement-returns-in_ok-value-in-Return t c =
    IfOk-weaker c.boxed-in-Return.result _ _ (λ _ is.
    stmt-same c.args.pass.now.checker.table refl (sym (ap stmt_tree c.in-Return.is)) (is ∙ ap S.Return c.unboxed-value.ensures)
    (made-return c.args.around c.in-Return.place (value_tree c.in-Return.value) c.in_ok-value-in-Return.ensures))
    c.boxed-in-Return.ensures
