use Rattle.std.proofs.Common.{◌+◌, ◌∙◌, ap, sym, subst, refl, drop, arith, OnOk}
use Rattle.std.proofs.lemmas.Result.{on_ok_weaker}
use Rattle.c_syntax.specs.Views.{stmt_tree, block_of, switch_of}
use Rattle.c_syntax.proofs.SyntaxRows.{stmt_tree-block, stmt_tree-switch}
use Rattle.c_rules.specs.Elaborated.{literals_in_stmt, literals_in_block, literals_in_switch}
use Rattle.c_types_state.specs.Lists.{AddsLiterals}
use Rattle.c_types_state.proofs.LiteralsAdded.{adds-none, adds-then, so_far-more, so_far-all, in_block_item, in_switch_item, block_more, switch_more}
use Rattle.c_types_state.proofs.literals.Literals.+stmt.Goals as goal
use Rattle.c_types_state.proofs.literals.Literals.+stmt.Goals.{of_block-in-Declaration+in_ok-of_declaration-in-Declaration, of_block-in-Statement+in_ok-of_stmt-in-Statement, of_switch-in-Case+in_ok-of_expr-in-Case, of_switch-in-Default, of_switch-in-Statement+in_ok-of_stmt-in-Statement}

pub of_block-loop-item-init : goal.of_block-loop-item-init
of_block-loop-item-init t c = refl

pub of_block-loop-item-preserved : goal.of_block-loop-item-preserved
of_block-loop-item-preserved t c =
    let items = c.args.items.now in
    let more : AddsLiterals (in_block_item c.item-item.result) c.loop-item.self.found.items c.match-item.self.found.items
    = elim c.match-item.branch [ of_block-in-Declaration+in_ok-of_declaration-in-Declaration w ↦ rw (w.in-Declaration.is, w.self-is) (w.in_ok-of_declaration-in-Declaration.ensures {u = tt}) | of_block-in-Statement+in_ok-of_stmt-in-Statement w ↦ rw (w.in-Statement.is, w.self-is) (w.in_ok-of_stmt-in-Statement.ensures {u = tt}) ] in
    so_far-more (λ left. literals_in_block (block_of left)) items c.loop-item.item-index c.item-item.result (in_block_item c.item-item.result) (literals_in_block (block_of items)) c.args.self.now.found.items c.loop-item.self.found.items c.match-item.self.found.items
    (omega arith) c.item-item.is (block_more c.item-item.result (drop (c.loop-item.item-index + 1) items)) c.loop-item.invariant more

pub of_block-returns : goal.of_block-returns
of_block-returns t c =
    so_far-all (λ left. literals_in_block (block_of left)) c.args.items.now c.loop-item.item-index (literals_in_block (block_of c.args.items.now)) c.args.self.now.found.items c.loop-item.self.found.items (omega arith) refl c.loop-item.invariant

pub of_switch-loop-item-init : goal.of_switch-loop-item-init
of_switch-loop-item-init t c = refl

pub of_switch-loop-item-preserved : goal.of_switch-loop-item-preserved
of_switch-loop-item-preserved t c =
    let items = c.args.items.now in
    let more : AddsLiterals (in_switch_item c.item-item.result) c.loop-item.self.found.items c.match-item.self.found.items
    = elim c.match-item.branch [ of_switch-in-Case+in_ok-of_expr-in-Case w ↦ rw (w.in-Case.is, w.self-is) (w.in_ok-of_expr-in-Case.ensures {u = tt}) | of_switch-in-Default w ↦ rw (w.in-Default.is, w.self-is) (adds-none c.loop-item.self.found.items) | of_switch-in-Statement+in_ok-of_stmt-in-Statement w ↦ rw (w.in-Statement.is, w.self-is) (w.in_ok-of_stmt-in-Statement.ensures {u = tt}) ] in
    so_far-more (λ left. literals_in_switch (switch_of left)) items c.loop-item.item-index c.item-item.result (in_switch_item c.item-item.result) (literals_in_switch (switch_of items)) c.args.self.now.found.items c.loop-item.self.found.items c.match-item.self.found.items
    (omega arith) c.item-item.is (switch_more c.item-item.result (drop (c.loop-item.item-index + 1) items)) c.loop-item.invariant more

pub of_switch-returns : goal.of_switch-returns
of_switch-returns t c =
    so_far-all (λ left. literals_in_switch (switch_of left)) c.args.items.now c.loop-item.item-index (literals_in_switch (switch_of c.args.items.now)) c.args.self.now.found.items c.loop-item.self.found.items (omega arith) refl c.loop-item.invariant

pub of_stmt-returns-in-Block : goal.of_stmt-returns-in-Block
of_stmt-returns-in-Block t c =
    let old = c.args.self.now.found.items in
    let new = c.of_block.new.self.found.items in
    let tree = ap literals_in_stmt (ap stmt_tree c.in-Block.is ∙ stmt_tree-block c.in-Block.block) in
    subst (λ ls. OnOk c.of_block.result (AddsLiterals ls old new)) (ap (λ is. literals_in_block (block_of is)) c.as_slice.ensures.value ∙ sym tree) c.of_block.ensures

pub of_stmt-returns-in_ok-of_expr-in-Switch : goal.of_stmt-returns-in_ok-of_expr-in-Switch
of_stmt-returns-in_ok-of_expr-in-Switch t c =
    let old = c.args.self.now.found.items in
    let now = c.of_expr-in-Switch.new.self.found.items in
    let new = c.of_switch.new.self.found.items in
    let tree = ap literals_in_stmt (ap stmt_tree c.in-Switch.is ∙ stmt_tree-switch c.in-Switch.place c.in-Switch.value c.in-Switch.items) in
    let items = subst (λ is. OnOk c.of_switch.result (AddsLiterals (literals_in_switch (switch_of is)) now new)) c.as_slice-in-Switch.ensures.value c.of_switch.ensures in
    on_ok_weaker c.of_switch.result (λ more. subst (λ ls. AddsLiterals ls old new) (sym tree) (adds-then _ _ old now new (c.in_ok-of_expr-in-Switch.ensures {u = tt}) more)) items
