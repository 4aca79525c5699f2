use Rattle.std.proofs.Common.{◌∷◌, None, Some, true, false, FitsSigned, to_z-of_z, refl, sym, ap, subst, ◌∙◌}
use Rattle.std.specs.Int.{w128}
use Rattle.c_typed.specs.declared.statement.Stmt.TheVariants as M
use Rattle.c_typed.specs.StatementViews.{stmt_in}
use Rattle.ref_meaning.specs.Trees.{StmtFits}
use Rattle.ref_semantics.specs.Store.{give}
use Rattle.ref_semantics.specs.Parts.{StmtPart}
use Rattle.ref_semantics.specs.Steps as steps
use Rattle.ref_semantics.specs.Steps.{ScalarGiven}
use Rattle.ref_meaning.specs.RefStore.Views.{scalar_in}
use Rattle.ref_meaning.specs.declared.control.Frame as memory_frame
use Rattle.ref_meaning.specs.declared.control.Given.TheVariants as G
use Rattle.ref_meaning.specs.declared.control.Completion.TheVariants as W
use Rattle.ref_meaning.specs.declared.control.Node.TheVariants as N
use Rattle.ref_meaning.specs.declared.control.Stage.TheVariants as S
use Rattle.ref_meaning.specs.declared.control.Task.TheVariants as K
use Rattle.ref_meaning.specs.Views.{table_of, case_items_of, config_in}
use Rattle.ref_meaning.specs.Doing.{popped, taking}
use Rattle.ref_meaning.proofs.Moves.{becomes-then}
use Rattle.ref_meaning.proofs.Behind.{becomes-on}
use Rattle.ref_meaning.proofs.Performs.{value-given, value-enters, chooses, is-loop, loop-turns, loop-ends, value-searches, drops}
use Rattle.ref_meaning.proofs.run.RefRun.give_value.Goals as goal

pub returns-then-is_true-clause-moves : goal.returns-then-is_true-clause-moves
returns-then-is_true-clause-moves c =
    let old = c.args.self.now in
    let table = table_of old in
    let on = c.requires.innermost in
    let first : memory_frame.Frame = record { node = on.node; stage = S.First } in
    let a = scalar_in table c.args.value in
    let stands = subst (StmtFits table) c.in-If.is c.requires.stands in
    value-enters old c.enter.new.self c.args.top c.args.stmt (M.If c.in-If.condition c.in-If.then) (N.Stmt c.deref.result) a c.enter.result c.in-If.is on
    (becomes-then old c.let_go.new.self c.enter.new.self old.control (record { node = N.Stmt c.deref.result; task = K.Enter }) on.others (c.let_go.ensures first on.others on.stack) c.enter.ensures.becomes)
    c.enter.ensures.ok c.requires.holds c.requires.free (subst (StmtFits table) (sym c.deref.ensures) stands.1) tt
    ((λ i. give (record (popped (config_in old)) { task = steps.Enter (StmtPart (stmt_in table (c.deref.ensures i))) }))
    ∙ chooses old (stmt_in table c.in-If.then.value) None a true (sym (c.is_true.ensures table) ∙ c.if-is_true.true))

pub returns-else-is_true-clause-moves : goal.returns-else-is_true-clause-moves
returns-else-is_true-clause-moves c =
    let old = c.args.self.now in
    let table = table_of old in
    let on = c.requires.innermost in
    let first : memory_frame.Frame = record { node = on.node; stage = S.First } in
    let a = scalar_in table c.args.value in
    value-given old c.go.new.self c.args.top c.args.stmt (M.If c.in-If.condition c.in-If.then) (G.Completion W.Normal) a c.go.result c.in-If.is on
    (becomes-on old c.let_go.new.self c.go.new.self (K.Give (G.Completion W.Normal)) on.others (c.let_go.ensures first on.others on.stack) c.go.ensures.becomes)
    c.go.ensures.ok c.requires.holds c.requires.free tt
    (chooses old (stmt_in table c.in-If.then.value) None a false (sym (c.is_true.ensures table) ∙ c.if-is_true.false))

pub returns-then-is_true-2-clause-moves : goal.returns-then-is_true-2-clause-moves
returns-then-is_true-2-clause-moves c =
    let old = c.args.self.now in
    let table = table_of old in
    let on = c.requires.innermost in
    let first : memory_frame.Frame = record { node = on.node; stage = S.First } in
    let a = scalar_in table c.args.value in
    let stands = subst (StmtFits table) c.in-IfElse.is c.requires.stands in
    value-enters old c.enter-then-is_true-2.new.self c.args.top c.args.stmt (M.IfElse c.in-IfElse.condition c.in-IfElse.then c.in-IfElse.otherwise) (N.Stmt c.deref-then-is_true-2.result) a c.enter-then-is_true-2.result c.in-IfElse.is on
    (becomes-then old c.let_go-in-IfElse.new.self c.enter-then-is_true-2.new.self old.control (record { node = N.Stmt c.deref-then-is_true-2.result; task = K.Enter }) on.others (c.let_go-in-IfElse.ensures first on.others on.stack) c.enter-then-is_true-2.ensures.becomes)
    c.enter-then-is_true-2.ensures.ok c.requires.holds c.requires.free (subst (StmtFits table) (sym c.deref-then-is_true-2.ensures) stands.1) tt
    ((λ i. give (record (popped (config_in old)) { task = steps.Enter (StmtPart (stmt_in table (c.deref-then-is_true-2.ensures i))) }))
    ∙ chooses old (stmt_in table c.in-IfElse.then.value) (Some (stmt_in table c.in-IfElse.otherwise.value)) a true (sym (c.is_true-in-IfElse.ensures table) ∙ c.if-is_true-2.true))

pub returns-else-is_true-2-clause-moves : goal.returns-else-is_true-2-clause-moves
returns-else-is_true-2-clause-moves c =
    let old = c.args.self.now in
    let table = table_of old in
    let on = c.requires.innermost in
    let first : memory_frame.Frame = record { node = on.node; stage = S.First } in
    let a = scalar_in table c.args.value in
    let stands = subst (StmtFits table) c.in-IfElse.is c.requires.stands in
    value-enters old c.enter-else-is_true-2.new.self c.args.top c.args.stmt (M.IfElse c.in-IfElse.condition c.in-IfElse.then c.in-IfElse.otherwise) (N.Stmt c.deref-else-is_true-2.result) a c.enter-else-is_true-2.result c.in-IfElse.is on
    (becomes-then old c.let_go-in-IfElse.new.self c.enter-else-is_true-2.new.self old.control (record { node = N.Stmt c.deref-else-is_true-2.result; task = K.Enter }) on.others (c.let_go-in-IfElse.ensures first on.others on.stack) c.enter-else-is_true-2.ensures.becomes)
    c.enter-else-is_true-2.ensures.ok c.requires.holds c.requires.free (subst (StmtFits table) (sym c.deref-else-is_true-2.ensures) stands.2) tt
    ((λ i. give (record (popped (config_in old)) { task = steps.Enter (StmtPart (stmt_in table (c.deref-else-is_true-2.ensures i))) }))
    ∙ chooses old (stmt_in table c.in-IfElse.then.value) (Some (stmt_in table c.in-IfElse.otherwise.value)) a false (sym (c.is_true-in-IfElse.ensures table) ∙ c.if-is_true-2.false))

pub returns-then-is_true-3-clause-moves : goal.returns-then-is_true-3-clause-moves
returns-then-is_true-3-clause-moves c =
    let old = c.args.self.now in
    loop-turns old c.turn.new.self c.args.stmt (scalar_in (table_of old) c.args.value) c.turn.result (is-loop c.args.stmt c.in-While.is) (sym (c.is_true-in-While.ensures (table_of old)) ∙ c.if-is_true-3.true) c.turn.ensures.moves

pub returns-else-is_true-3-clause-moves : goal.returns-else-is_true-3-clause-moves
returns-else-is_true-3-clause-moves c =
    let old = c.args.self.now in
    let table = table_of old in
    let on = c.requires.innermost in
    let first : memory_frame.Frame = record { node = on.node; stage = S.First } in
    let a = scalar_in table c.args.value in
    loop-ends old c.done-else-is_true-3.new.self c.args.top c.args.stmt (G.Completion W.Normal) a c.done-else-is_true-3.result (is-loop c.args.stmt c.in-While.is)
    (sym (c.is_true-in-While.ensures table) ∙ c.if-is_true-3.false) on (c.done-else-is_true-3.ensures.becomes first on.others on.stack) c.done-else-is_true-3.ensures.ok c.requires.holds c.requires.free tt refl

pub returns-in-Switch-clause-moves : goal.returns-in-Switch-clause-moves
returns-in-Switch-clause-moves c =
    let old = c.args.self.now in
    let table = table_of old in
    let on = c.requires.innermost in
    let first : memory_frame.Frame = record { node = on.node; stage = S.First } in
    let a = scalar_in table c.args.value in
    let m = M.Switch c.in-Switch.value c.in-Switch.items in
    let fits : FitsSigned w128 c.integer.result = record { sfits = c.integer.type_inv } in
    value-searches old c.at_stage.new.self c.args.top c.args.stmt m _ a c.in-Switch.is on (c.at_stage.ensures first on.others on.stack)
    c.requires.holds c.requires.free c.requires.stands tt tt
    (λ i. give (record (popped (config_in old)) { task = steps.Search ((to_z-of_z fits ∙ c.integer.ensures table) i) (case_items_of (stmt_in table m)) None; frames = steps.Switched ∷ (popped (config_in old)).frames }))

pub returns-in-Return-clause-moves : goal.returns-in-Return-clause-moves
returns-in-Return-clause-moves c =
    let old = c.args.self.now in
    let table = table_of old in
    let on = c.requires.innermost in
    let first : memory_frame.Frame = record { node = on.node; stage = S.First } in
    let a = scalar_in table c.args.value in
    value-given old c.done.new.self c.args.top c.args.stmt (M.Return c.in-Return.field-0) (G.Completion (W.Return (Some c.args.value))) a c.done.result c.in-Return.is on
    (c.done.ensures.becomes first on.others on.stack) c.done.ensures.ok c.requires.holds c.requires.free c.requires.value refl

pub returns-in_default-clause-moves : goal.returns-in_default-clause-moves
returns-in_default-clause-moves c =
    let old = c.args.self.now in
    let table = table_of old in
    let on = c.requires.innermost in
    let first : memory_frame.Frame = record { node = on.node; stage = S.First } in
    let a = scalar_in table c.args.value in
    value-given old c.done-in_default.new.self c.args.top c.args.stmt c.args.stmt.now (G.Completion W.Normal) a c.done-in_default.result refl on
    (c.done-in_default.ensures.becomes first on.others on.stack) c.done-in_default.ensures.ok c.requires.holds c.requires.free tt
    (ap (λ frame. taking old frame (ScalarGiven a))
    (sym (drops table c.args.stmt.now c.in_default.not-If c.in_default.not-IfElse c.in_default.not-While c.in_default.not-DoWhile c.in_default.not-For c.in_default.not-Switch c.in_default.not-Return)))
