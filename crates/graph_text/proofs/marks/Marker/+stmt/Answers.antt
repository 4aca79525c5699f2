use Rattle.std.proofs.Common.{◌≡◌, ◌∙◌, true, ap, sym, subst}
use Rattle.std.proofs.lemmas.Result.{on_ok_weaker}
use Rattle.c_syntax.specs.Views.{expr_tree, for_tree, stmt_tree, block_of, switch_of}
use Rattle.c_syntax.proofs.SyntaxRows.{stmt_tree-block, stmt_tree-switch}
use Rattle.c_rules.specs.Names.{entered}
use Rattle.c_rules.specs.Statements.{for_start}
use Rattle.c_types.specs.Parts.{behind_block}
use Rattle.graph_text.specs.Adding.{scope_at, Adds}
use Rattle.graph_text.specs.Marks.{marks_in, marks_in_stmt, marks_in_block, marks_in_switch}
use Rattle.graph_text.proofs.MarksAdded.{adds-then, adds-of}
use Rattle.graph_text.proofs.ScopesWithin.{Within, within-block, within-start, leaves-enough, left-again}
use Rattle.graph_text.proofs.marks.Marker.+stmt.Goals as goal

pub inner_block-leave-requires : goal.inner_block-leave-requires
inner_block-leave-requires t c =
    let scope = scope_at c.args.self.now in
    let block = block_of c.args.items.now in
    let is : scope_at c.block.new.self ≡ behind_block (entered scope) block = (c.in_ok-block.ensures {u = tt}).scope ∙ ap (λ scope. behind_block scope block) c.enter-outer.ensures.scope in
    leaves-enough (scope_at c.block.new.self) scope c.enter-outer.result (subst (λ there. Within there (entered scope)) (sym is) (within-block (entered scope) block)) c.enter-outer.ensures.outer

pub inner_block-returns-clause-scope : goal.inner_block-returns-clause-scope
inner_block-returns-clause-scope t c =
    let scope = scope_at c.args.self.now in
    let block = block_of c.args.items.now in
    let is : scope_at c.block.new.self ≡ behind_block (entered scope) block = (c.in_ok-block.ensures {u = tt}).scope ∙ ap (λ scope. behind_block scope block) c.enter-outer.ensures.scope in
    left-again (scope_at c.block.new.self) scope (scope_at c.leave.new.self) c.enter-outer.result (subst (λ there. Within there (entered scope)) (sym is) (within-block (entered scope) block)) c.enter-outer.ensures.outer c.leave.ensures.scope

pub for_stmt-leave-requires : goal.for_stmt-leave-requires
for_stmt-leave-requires t c =
    let scope = scope_at c.args.self.now in
    let first = for_tree c.args.first.now in
    let is : scope_at c.stmt.new.self ≡ (for_start (entered scope) first).scope
    = (c.in_ok-stmt.ensures {u = tt}).scope ∙ (c.in_ok-optional-2.ensures {u = tt}).scope ∙ (c.in_ok-optional.ensures {u = tt}).scope ∙ (c.in_ok-start.ensures {u = tt}).scope
    ∙ ap (λ scope. (for_start scope first).scope) c.enter-outer.ensures.scope in
    leaves-enough (scope_at c.stmt.new.self) scope c.enter-outer.result (subst (λ there. Within there (entered scope)) (sym is) (within-start (entered scope) first)) c.enter-outer.ensures.outer

pub for_stmt-returns-clause-scope : goal.for_stmt-returns-clause-scope
for_stmt-returns-clause-scope t c =
    let scope = scope_at c.args.self.now in
    let first = for_tree c.args.first.now in
    let is : scope_at c.stmt.new.self ≡ (for_start (entered scope) first).scope
    = (c.in_ok-stmt.ensures {u = tt}).scope ∙ (c.in_ok-optional-2.ensures {u = tt}).scope ∙ (c.in_ok-optional.ensures {u = tt}).scope ∙ (c.in_ok-start.ensures {u = tt}).scope
    ∙ ap (λ scope. (for_start scope first).scope) c.enter-outer.ensures.scope in
    left-again (scope_at c.stmt.new.self) scope (scope_at c.leave.new.self) c.enter-outer.result (subst (λ there. Within there (entered scope)) (sym is) (within-start (entered scope) first)) c.enter-outer.ensures.outer c.leave.ensures.scope

pub stmt-returns-in-Block-clause-marks : goal.stmt-returns-in-Block-clause-marks
stmt-returns-in-Block-clause-marks t c =
    let scope = scope_at c.args.self.now in
    let tree = ap (marks_in_stmt scope) (ap stmt_tree c.in-Block.is ∙ stmt_tree-block c.in-Block.block) in
    adds-of _ _ c.args.self.now c.inner_block.new.self c.inner_block.result (ap (λ items. marks_in_block (entered scope) (block_of items)) c.as_slice.ensures.value ∙ sym tree) c.inner_block.ensures.marks

pub stmt-returns-in_ok-expr-in-Switch-clause-marks : goal.stmt-returns-in_ok-expr-in-Switch-clause-marks
stmt-returns-in_ok-expr-in-Switch-clause-marks t c =
    let scope = scope_at c.args.self.now in
    let old = c.args.self.now in
    let mid = c.expr-in-Switch.new.self in
    let new = c.switch.new.self in
    let own = c.in_ok-expr-in-Switch.ensures {u = tt} in
    let tree = ap (marks_in_stmt scope) (ap stmt_tree c.in-Switch.is ∙ stmt_tree-switch c.in-Switch.place c.in-Switch.value c.in-Switch.items) in
    let same : marks_in_switch (scope_at mid) (switch_of c.as_slice-in-Switch.result.now) ≡ marks_in_switch scope (switch_of c.in-Switch.items.items)
    = λ i. marks_in_switch (own.scope i) (switch_of (c.as_slice-in-Switch.ensures.value i)) in
    on_ok_weaker c.switch.result
    (λ more. subst (λ ms. Adds ms old new) (sym tree) (adds-then (marks_in scope true (expr_tree c.in-Switch.value)) (marks_in_switch scope (switch_of c.in-Switch.items.items)) old mid new own.marks (subst (λ ms. Adds ms mid new) same more)))
    c.switch.ensures.marks
