use Rattle.std.proofs.Common.{rules, List, sym, subst, ap, ◌∙◌, arith}
use Rattle.c_typed.specs.Table.{structs_in}
use Rattle.c_typed.specs.Layouts.{layouts}
use Rattle.c_typed.specs.StatementViews.{stmt_in, StmtStands, block_in, BlockStands, switch_in, SwitchStands}
use Rattle.c_typed.specs.declared.statement.BlockItem.{BlockItem}
use Rattle.c_typed.specs.declared.statement.SwitchItem.{SwitchItem}
use Rattle.c_typed.specs.declared.statement.Stmt.{the_lemmas as stmt_lemmas}
use Rattle.c_typed.specs.declared.statement.BlockItem.{the_lemmas as block_lemmas}
use Rattle.c_typed.proofs.StatementsStay.{stmt_in-block, stmt_in-switch}
use Rattle.c_types.specs.Limits.{stmt_size, block_size, switch_size}
use Rattle.c_typed.proofs.StatementItems.{block-items, switch-items}
use Rattle.c_types.proofs.NoLocals.{no_locals}
use Rattle.c_types.proofs.Totals.{switch_size-before}
use Rattle.c_types.proofs.limits.+size.Goals as goal

pub stmt_size-block_size-requires : goal.stmt_size-block_size-requires
stmt_size-block_size-requires t c =
    let table = c.args.types.now in
    (search (rules, stmt_lemmas, block_lemmas), subst (λ (items : List BlockItem). BlockStands table items) (sym c.as_slice.ensures.value) (block-items table c.in-Block.items (subst (StmtStands table) c.in-Block.is c.requires)))

pub stmt_size-switch_size-requires : goal.stmt_size-switch_size-requires
stmt_size-switch_size-requires t c =
    let table = c.args.types.now in
    (search (rules, stmt_lemmas, block_lemmas), subst (λ (items : List SwitchItem). SwitchStands table items) (sym c.as_slice-in-Switch.ensures.value) (switch-items table c.in-Switch.value c.in-Switch.items (subst (StmtStands table) c.in-Switch.is c.requires)))

pub stmt_size-returns-in-Block : goal.stmt_size-returns-in-Block
stmt_size-returns-in-Block t c =
    let table = c.args.types.now in
    let sizes = layouts (structs_in table) in
    c.block_size.ensures ∙ ap (λ (items : List BlockItem). block_size sizes (block_in table items)) c.as_slice.ensures.value
    ∙ sym (ap (stmt_size sizes) (ap (stmt_in table) c.in-Block.is ∙ stmt_in-block table c.in-Block.items))

pub stmt_size-returns-in-Switch : goal.stmt_size-returns-in-Switch
stmt_size-returns-in-Switch t c =
    let table = c.args.types.now in
    let sizes = layouts (structs_in table) in
    c.switch_size.ensures ∙ ap (λ (items : List SwitchItem). switch_size sizes (switch_in table items)) c.as_slice-in-Switch.ensures.value
    ∙ sym (ap (stmt_size sizes) (ap (stmt_in table) c.in-Switch.is ∙ stmt_in-switch table c.in-Switch.value c.in-Switch.items))

pub switch_size-loop-item-init : goal.switch_size-loop-item-init
switch_size-loop-item-init t c =
    let table = c.args.types.now in
    record { stand = c.requires; fits = omega arith; whole = switch_size-before (layouts (structs_in table)) (switch_in table c.args.items.now) }

pub stmt_size-returns-in_default : goal.stmt_size-returns-in_default
stmt_size-returns-in_default t c =
    let table = c.args.types.now in
    no_locals (layouts (structs_in table)) table c.args.stmt.now c.in_default.not-Block c.in_default.not-If c.in_default.not-IfElse c.in_default.not-While c.in_default.not-DoWhile c.in_default.not-For c.in_default.not-Switch
