use Rattle.std.proofs.Common.{suc, sym, ap, subst, ◌∙◌}
use Rattle.c_typed.specs.StatementViews.{local_in}
use Rattle.ref_semantics.specs.Steps.{WayGiven}
use Rattle.ref_meaning.specs.declared.control.Given.TheVariants as G
use Rattle.ref_meaning.specs.declared.control.Node.TheVariants as N
use Rattle.ref_meaning.specs.declared.control.Stage.TheVariants as S
use Rattle.ref_meaning.specs.Views.{table_of, part_in, stmt_of, completion_in, at_item}
use Rattle.ref_meaning.specs.Holding.{NodeStands}
use Rattle.ref_meaning.specs.Doing.{taking, beginning_turn}
use Rattle.ref_meaning.specs.Items.{declaring}
use Rattle.ref_meaning.specs.Moving.{Moves}
use Rattle.ref_meaning.proofs.Advancing.{IsFor, for-declares, for-begins, case-breaks, switch-is, done-moves}
use Rattle.ref_meaning.proofs.run.RefRun.next_item.Goals as goal

pub returns-in-Some-clause-moves : goal.returns-in-Some-clause-moves
returns-in-Some-clause-moves c =
    let old = c.args.self.now in
    let table = table_of old in
    let s = c.in-Stmt.stmt in
    let number = c.args.number in
    let way = completion_in table c.args.way in
    let local = local_in table c.in-Some.local.now in
    let there = c.in-Some.ensures table (subst (NodeStands table) c.in-Stmt.is c.requires.node) in
    subst (λ n. Moves old c.declare.new.self (taking old (at_item (part_in table n) number) (WayGiven way)) c.declare.result) (sym c.in-Stmt.is)
    (subst (λ e. Moves old c.declare.new.self e c.declare.result) (sym (for-declares old s.now number way local (subst IsFor (sym c.in-For.is) tt) there.0))
    (subst (λ n. Moves old c.declare.new.self (declaring old local (at_item (part_in table n) (suc number))) c.declare.result) c.in-Stmt.is c.declare.ensures.moves))

pub returns-in-None-clause-moves : goal.returns-in-None-clause-moves
returns-in-None-clause-moves c =
    let old = c.args.self.now in
    let table = table_of old in
    let s = c.in-Stmt.stmt in
    let number = c.args.number in
    let way = completion_in table c.args.way in
    let none = c.in-None.ensures table (subst (NodeStands table) c.in-Stmt.is c.requires.node) in
    subst (λ e. Moves old c.begin_turn.new.self e c.begin_turn.result)
    (sym (ap (λ n. taking old (at_item (part_in table n) number) (WayGiven way)) c.in-Stmt.is ∙ (for-begins old s.now number way (subst IsFor (sym c.in-For.is) tt) none ∙ ap (λ n. beginning_turn old (stmt_of (part_in table n))) (sym c.in-Stmt.is))))
    c.begin_turn.ensures.moves

pub returns-in-Normal-clause-moves : goal.returns-in-Normal-clause-moves
returns-in-Normal-clause-moves c =
    let old = c.args.self.now in
    let table = table_of old in
    let number = c.args.number in
    subst (λ n. Moves old c.next_case_item.new.self (taking old (at_item (part_in table n) number) (WayGiven (completion_in table c.args.way))) c.next_case_item.result) (sym c.in-Stmt.is)
    (subst (λ w. Moves old c.next_case_item.new.self (taking old (at_item (part_in table (N.Stmt c.in-Stmt.stmt)) number) (WayGiven (completion_in table w))) c.next_case_item.result) (sym c.in-Normal.is) c.next_case_item.ensures.moves)

pub returns-in_default-way : goal.returns-in_default-way
returns-in_default-way c =
    let old = c.args.self.now in
    let table = table_of old in
    let s = c.in-Stmt.stmt in
    let number = c.args.number in
    let waits = c.requires.innermost in
    let becomes = c.done.ensures.becomes (record { node = waits.node; stage = S.Item number }) waits.others waits.stack in
    record {
      moves = subst (λ n. Moves old c.done.new.self (taking old (at_item (part_in table n) number) (WayGiven (completion_in table c.args.way))) c.done.result) (sym c.in-Stmt.is)
          (subst (λ e. Moves old c.done.new.self e c.done.result) (sym (case-breaks old s number c.args.way (switch-is s c.in-Switch.value c.in-Switch.items c.in-Switch.is) c.in_default-way.not-Normal))
          (done-moves old c.done.new.self c.args.top (part_in table c.args.node) (S.Item number) waits (G.Completion c.args.way) c.done.result tt c.done.ensures.ok c.requires.holds c.requires.free c.requires.way becomes));
      kept = becomes.kept;
    }
