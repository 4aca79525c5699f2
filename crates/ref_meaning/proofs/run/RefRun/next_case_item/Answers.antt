use Rattle.std.proofs.Common.{suc, sym, subst, add-one}
use Rattle.c_typed.specs.StatementViews.{stmt_in}
use Rattle.ref_semantics.specs.Parts.{StmtPart}
use Rattle.ref_meaning.specs.declared.control.Node.TheVariants as N
use Rattle.ref_meaning.specs.declared.control.Stage.TheVariants as S
use Rattle.ref_meaning.specs.declared.control.Given.TheVariants as G
use Rattle.ref_meaning.specs.declared.control.Completion.TheVariants as W
use Rattle.ref_meaning.specs.Views.{table_of, case_items_of}
use Rattle.ref_meaning.specs.Items.{ThisCaseItem}
use Rattle.ref_meaning.specs.Moving.{Moves}
use Rattle.ref_meaning.proofs.Moves.{kept-behind}
use Rattle.ref_meaning.proofs.Advancing.{case-performs, case-passes, case-ends, enters-moves, goes-moves, done-moves, numbered-stage, switch-has}
use Rattle.ref_meaning.proofs.run.RefRun.next_case_item.Goals as goal

pub returns-in-Statement-clause-moves : goal.returns-in-Statement-clause-moves
returns-in-Statement-clause-moves c =
    let old = c.args.self.now in
    let table = table_of old in
    let s = c.args.stmt in
    let number = c.args.number in
    let waits = c.requires.innermost in
    let this = subst (ThisCaseItem table number (case_items_of (stmt_in table s.now))) c.in-Statement.is (c.in-Some.ensures table c.requires.stands).0 in
    subst (λ e. Moves old c.enter.new.self e c.enter.result) (sym (case-performs old s number (stmt_in table c.in-Statement.inner) c.requires.items this.0))
    (enters-moves old c.at_stage.new.self c.enter.new.self c.args.top (StmtPart (stmt_in table s.now)) (S.Item number) waits (N.Stmt s) (S.Item (suc number)) _ c.enter.result tt tt tt c.enter.ensures.ok
    c.requires.holds c.requires.free c.requires.stands (switch-has s c.requires.items) tt tt this.1
    (numbered-stage old c.at_stage.new.self (N.Stmt s) number _ waits.others (add-one number) (c.at_stage.ensures (record { node = waits.node; stage = S.Item number }) waits.others waits.stack)) c.enter.ensures.becomes)

pub returns-in_default : goal.returns-in_default
returns-in_default c =
    let old = c.args.self.now in
    let table = table_of old in
    let s = c.args.stmt in
    let number = c.args.number in
    let waits = c.requires.innermost in
    let staged = numbered-stage old c.at_stage.new.self (N.Stmt s) number _ waits.others (add-one number) (c.at_stage.ensures (record { node = waits.node; stage = S.Item number }) waits.others waits.stack) in
    record {
      moves = subst (λ e. Moves old c.go.new.self e c.go.result) (sym (case-passes old s number c.in-Some.item.now c.requires.items (c.in-Some.ensures table c.requires.stands).0 c.in_default.not-Statement))
          (goes-moves old c.at_stage.new.self c.go.new.self c.args.top (StmtPart (stmt_in table s.now)) (S.Item number) waits (N.Stmt s) (S.Item (suc number)) W.Normal c.go.result tt tt c.go.ensures.ok
          c.requires.holds c.requires.free c.requires.stands (switch-has s c.requires.items) tt tt tt staged c.go.ensures.becomes);
      kept = kept-behind old c.at_stage.new.self c.go.new.self staged.kept c.go.ensures.becomes.kept;
    }

pub returns-in-None-clause-moves : goal.returns-in-None-clause-moves
returns-in-None-clause-moves c =
    let old = c.args.self.now in
    let table = table_of old in
    let s = c.args.stmt in
    let number = c.args.number in
    let waits = c.requires.innermost in
    subst (λ e. Moves old c.done.new.self e c.done.result) (sym (case-ends old s number c.requires.items (c.in-None.ensures table c.requires.stands)))
    (done-moves old c.done.new.self c.args.top (StmtPart (stmt_in table s.now)) (S.Item number) waits (G.Completion W.Normal) c.done.result tt c.done.ensures.ok c.requires.holds c.requires.free tt
    (c.done.ensures.becomes (record { node = waits.node; stage = S.Item number }) waits.others waits.stack))
