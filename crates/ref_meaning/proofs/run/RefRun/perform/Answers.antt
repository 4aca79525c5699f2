use Rattle.std.proofs.Common.{◌∷◌, Some, None, refl, sym, ap, subst, ◌∙◌}
use Rattle.c_typed.specs.declared.statement.Stmt.TheVariants as M
use Rattle.c_typed.specs.declared.statement.ForStart.TheVariants as F
use Rattle.c_typed.specs.StatementViews.{stmt_in}
use Rattle.ref_meaning.specs.Trees.{StmtFits}
use Rattle.ref_semantics.specs.Store.{give}
use Rattle.ref_semantics.specs.Parts.{StmtPart}
use Rattle.ref_semantics.specs.Steps as steps
use Rattle.ref_meaning.specs.declared.control.Node.TheVariants as N
use Rattle.ref_meaning.specs.declared.control.Given.TheVariants as G
use Rattle.ref_meaning.specs.declared.control.Completion.TheVariants as W
use Rattle.ref_meaning.specs.declared.control.Stage.TheVariants as S
use Rattle.ref_meaning.specs.declared.control.Task.TheVariants as K
use Rattle.ref_meaning.specs.Views.{table_of, behind_body, config_in}
use Rattle.ref_meaning.specs.Holding.{IsTurning, HasItems, IsLoop}
use Rattle.ref_meaning.proofs.Moves.{becomes-then}
use Rattle.ref_meaning.proofs.Behind.{becomes-on}
use Rattle.ref_meaning.proofs.Performing.{ends, waits, opens}
use Rattle.ref_meaning.proofs.run.RefRun.perform.Goals as goal

pub returns-in_ok-open_scope-in-Block-clause-moves : goal.returns-in_ok-open_scope-in-Block-clause-moves
returns-in_ok-open_scope-in-Block-clause-moves c =
    let old = c.args.self.now in
    let fits : HasItems (N.Stmt c.args.stmt) = subst (λ s. HasItems (N.Stmt (record c.args.stmt { now = s }))) (sym c.in-Block.is) tt in
    opens old c.requires.holds c.requires.free c.requires.unawaited c.args.stmt (M.Block c.in-Block.field-0) c.in-Block.is (S.Item 0) tt (λ awaits. awaits) c.requires.stands fits tt tt
    c.go.new.self (record { node = old.control.node; task = K.Give (G.Completion W.Normal) }) c.go.result tt c.requires.holds.node tt
    (becomes-on old c.open_scope.new.self c.go.new.self (K.Give (G.Completion W.Normal)) _ c.in_ok-open_scope-in-Block.ensures.opens c.go.ensures.becomes)
    c.go.ensures.ok refl

pub returns-in-Empty-clause-moves : goal.returns-in-Empty-clause-moves
returns-in-Empty-clause-moves c =
    ends c.args.self.now c.requires.holds c.requires.free c.requires.unawaited c.args.stmt M.Empty c.in-Empty.is c.go-in-Empty.new.self W.Normal c.go-in-Empty.result tt c.go-in-Empty.ensures.becomes c.go-in-Empty.ensures.ok refl

pub returns-in-Expression-clause-moves : goal.returns-in-Expression-clause-moves
returns-in-Expression-clause-moves c =
    let old = c.args.self.now in
    let stands = subst (StmtFits (table_of old)) c.in-Expression.is c.requires.stands in
    waits old c.requires.holds c.requires.free c.requires.unawaited c.args.stmt (M.Expression c.in-Expression.value) c.in-Expression.is S.First tt (λ awaits. awaits) c.requires.stands tt tt tt
    c.wait.new.self _ c.wait.result c.wait.ensures.waits c.wait.ensures.same c.wait.ensures.only stands tt refl

pub returns-in-If-clause-moves : goal.returns-in-If-clause-moves
returns-in-If-clause-moves c =
    let old = c.args.self.now in
    let stands = subst (StmtFits (table_of old)) c.in-If.is c.requires.stands in
    waits old c.requires.holds c.requires.free c.requires.unawaited c.args.stmt (M.If c.in-If.condition c.in-If.then) c.in-If.is S.First tt (λ awaits. awaits) c.requires.stands tt tt tt
    c.wait-in-If.new.self _ c.wait-in-If.result c.wait-in-If.ensures.waits c.wait-in-If.ensures.same c.wait-in-If.ensures.only stands.0 tt refl

pub returns-in-IfElse-clause-moves : goal.returns-in-IfElse-clause-moves
returns-in-IfElse-clause-moves c =
    let old = c.args.self.now in
    let stands = subst (StmtFits (table_of old)) c.in-IfElse.is c.requires.stands in
    waits old c.requires.holds c.requires.free c.requires.unawaited c.args.stmt (M.IfElse c.in-IfElse.condition c.in-IfElse.then c.in-IfElse.otherwise) c.in-IfElse.is S.First tt (λ awaits. awaits) c.requires.stands tt tt tt
    c.wait-in-IfElse.new.self _ c.wait-in-IfElse.result c.wait-in-IfElse.ensures.waits c.wait-in-IfElse.ensures.same c.wait-in-IfElse.ensures.only stands.0 tt refl

pub returns-in-While-clause-moves : goal.returns-in-While-clause-moves
returns-in-While-clause-moves c =
    let old = c.args.self.now in
    let stands = subst (StmtFits (table_of old)) c.in-While.is c.requires.stands in
    waits old c.requires.holds c.requires.free c.requires.unawaited c.args.stmt (M.While c.in-While.condition c.in-While.body) c.in-While.is S.First tt (λ awaits. awaits) c.requires.stands tt tt tt
    c.wait-in-While.new.self _ c.wait-in-While.result c.wait-in-While.ensures.waits c.wait-in-While.ensures.same c.wait-in-While.ensures.only stands.0 tt refl

pub returns-in-DoWhile-clause-moves : goal.returns-in-DoWhile-clause-moves
returns-in-DoWhile-clause-moves c =
    let old = c.args.self.now in
    let table = table_of old in
    let m = M.DoWhile c.in-DoWhile.body c.in-DoWhile.condition in
    let stands = subst (StmtFits table) c.in-DoWhile.is c.requires.stands in
    let turns : IsTurning (N.Stmt c.args.stmt) = subst (λ s. IsTurning (N.Stmt (record c.args.stmt { now = s }))) (sym c.in-DoWhile.is) tt in
    waits old c.requires.holds c.requires.free c.requires.unawaited c.args.stmt m c.in-DoWhile.is S.Turn tt (λ awaits. awaits) c.requires.stands turns tt tt
    c.wait-in-DoWhile.new.self (N.Stmt c.deref.result) c.wait-in-DoWhile.result c.wait-in-DoWhile.ensures.waits c.wait-in-DoWhile.ensures.same c.wait-in-DoWhile.ensures.only
    (subst (StmtFits table) (sym c.deref.ensures) stands.0) tt
    (λ i. give (record (config_in old) { task = steps.Enter (StmtPart (stmt_in table (c.deref.ensures i))); frames = behind_body (StmtPart (stmt_in table m)) ∷ (config_in old).frames }))

pub returns-in_ok-open_scope-in-Nothing-clause-moves : goal.returns-in_ok-open_scope-in-Nothing-clause-moves
returns-in_ok-open_scope-in-Nothing-clause-moves c =
    let old = c.args.self.now in
    let f = c.in-For in
    let is = f.is ∙ ap (λ start. M.For start f.condition f.step f.body) c.in-Nothing.is in
    let fits : IsLoop (N.Stmt c.args.stmt) = subst (λ s. IsLoop (N.Stmt (record c.args.stmt { now = s }))) (sym is) tt in
    opens old c.requires.holds c.requires.free c.requires.unawaited c.args.stmt (M.For F.Nothing f.condition f.step f.body) is S.Begin tt (λ awaits. awaits) c.requires.stands fits tt tt
    c.go-in-Nothing.new.self (record { node = old.control.node; task = K.Give (G.Completion W.Normal) }) c.go-in-Nothing.result tt c.requires.holds.node tt
    (becomes-on old c.open_scope-in-Nothing.new.self c.go-in-Nothing.new.self (K.Give (G.Completion W.Normal)) _ c.in_ok-open_scope-in-Nothing.ensures.opens c.go-in-Nothing.ensures.becomes)
    c.go-in-Nothing.ensures.ok refl

pub returns-in_ok-open_scope-in-Value-clause-moves : goal.returns-in_ok-open_scope-in-Value-clause-moves
returns-in_ok-open_scope-in-Value-clause-moves c =
    let old = c.args.self.now in
    let f = c.in-For in
    let is = f.is ∙ ap (λ start. M.For start f.condition f.step f.body) c.in-Value.is in
    let fits : IsLoop (N.Stmt c.args.stmt) = subst (λ s. IsLoop (N.Stmt (record c.args.stmt { now = s }))) (sym is) tt in
    opens old c.requires.holds c.requires.free c.requires.unawaited c.args.stmt (M.For (F.Value c.in-Value.value) f.condition f.step f.body) is S.Begin tt (λ awaits. awaits) c.requires.stands fits tt tt
    c.enter.new.self _ c.enter.result tt (subst (StmtFits (table_of old)) is c.requires.stands).0 tt
    (becomes-then old c.open_scope-in-Value.new.self c.enter.new.self _ _ _ c.in_ok-open_scope-in-Value.ensures.opens c.enter.ensures.becomes)
    c.enter.ensures.ok refl

pub returns-in_ok-open_scope-in-Locals-clause-moves : goal.returns-in_ok-open_scope-in-Locals-clause-moves
returns-in_ok-open_scope-in-Locals-clause-moves c =
    let old = c.args.self.now in
    let f = c.in-For in
    let is = f.is ∙ ap (λ start. M.For start f.condition f.step f.body) c.in-Locals.is in
    let fits : HasItems (N.Stmt c.args.stmt) = subst (λ s. HasItems (N.Stmt (record c.args.stmt { now = s }))) (sym is) tt in
    opens old c.requires.holds c.requires.free c.requires.unawaited c.args.stmt (M.For (F.Locals c.in-Locals.field-0) f.condition f.step f.body) is (S.Item 0) tt (λ awaits. awaits) c.requires.stands fits tt tt
    c.go-in-Locals.new.self (record { node = old.control.node; task = K.Give (G.Completion W.Normal) }) c.go-in-Locals.result tt c.requires.holds.node tt
    (becomes-on old c.open_scope-in-Locals.new.self c.go-in-Locals.new.self (K.Give (G.Completion W.Normal)) _ c.in_ok-open_scope-in-Locals.ensures.opens c.go-in-Locals.ensures.becomes)
    c.go-in-Locals.ensures.ok refl

pub returns-in-Switch-clause-moves : goal.returns-in-Switch-clause-moves
returns-in-Switch-clause-moves c =
    let old = c.args.self.now in
    let stands = subst (StmtFits (table_of old)) c.in-Switch.is c.requires.stands in
    waits old c.requires.holds c.requires.free c.requires.unawaited c.args.stmt (M.Switch c.in-Switch.value c.in-Switch.items) c.in-Switch.is S.First tt (λ awaits. awaits) c.requires.stands tt tt tt
    c.wait-in-Switch.new.self _ c.wait-in-Switch.result c.wait-in-Switch.ensures.waits c.wait-in-Switch.ensures.same c.wait-in-Switch.ensures.only stands.0 tt refl

pub returns-in-Break-clause-moves : goal.returns-in-Break-clause-moves
returns-in-Break-clause-moves c =
    ends c.args.self.now c.requires.holds c.requires.free c.requires.unawaited c.args.stmt M.Break c.in-Break.is c.go-in-Break.new.self W.Break c.go-in-Break.result tt c.go-in-Break.ensures.becomes c.go-in-Break.ensures.ok refl

pub returns-in-Continue-clause-moves : goal.returns-in-Continue-clause-moves
returns-in-Continue-clause-moves c =
    ends c.args.self.now c.requires.holds c.requires.free c.requires.unawaited c.args.stmt M.Continue c.in-Continue.is c.go-in-Continue.new.self W.Continue c.go-in-Continue.result tt c.go-in-Continue.ensures.becomes c.go-in-Continue.ensures.ok refl

pub returns-in-None-clause-moves : goal.returns-in-None-clause-moves
returns-in-None-clause-moves c =
    let is = c.in-Return.is ∙ ap (λ value. M.Return value) c.in-None.is in
    ends c.args.self.now c.requires.holds c.requires.free c.requires.unawaited c.args.stmt (M.Return None) is c.go-in-None.new.self (W.Return None) c.go-in-None.result tt c.go-in-None.ensures.becomes c.go-in-None.ensures.ok refl

pub returns-in-Some-clause-moves : goal.returns-in-Some-clause-moves
returns-in-Some-clause-moves c =
    let old = c.args.self.now in
    let is = c.in-Return.is ∙ ap (λ value. M.Return value) c.in-Some.is in
    waits old c.requires.holds c.requires.free c.requires.unawaited c.args.stmt (M.Return (Some c.in-Some.value)) is S.First tt (λ awaits. awaits) c.requires.stands tt tt tt
    c.wait-in-Some.new.self _ c.wait-in-Some.result c.wait-in-Some.ensures.waits c.wait-in-Some.ensures.same c.wait-in-Some.ensures.only
    (subst (StmtFits (table_of old)) is c.requires.stands) tt refl
