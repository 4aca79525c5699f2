use Rattle.std.proofs.Common.{sym, ap, subst, ◌∙◌}
use Rattle.ref_semantics.specs.Store.{give}
use Rattle.ref_semantics.specs.Steps as steps
use Rattle.ref_semantics.specs.Steps.{WayGiven}
use Rattle.ref_meaning.specs.declared.control.Given.TheVariants as G
use Rattle.ref_meaning.specs.declared.control.Stage.TheVariants as S
use Rattle.ref_meaning.specs.Views.{config_in, around_run, functions_of, table_of, part_in, completion_in, behind_body}
use Rattle.ref_meaning.specs.Holding.{IsTurning}
use Rattle.ref_meaning.specs.Doing.{taking, popped}
use Rattle.ref_meaning.specs.Moving.{Moves}
use Rattle.ref_meaning.proofs.Advancing.{switch-turns, switch-is, turn-loops, turn-breaks, turn-ends, done-moves}
use Rattle.ref_meaning.proofs.run.RefRun.after_turn.Goals as goal

pub returns-in-Switch-clause-moves : goal.returns-in-Switch-clause-moves
returns-in-Switch-clause-moves c =
    let old = c.args.self.now in
    let table = table_of old in
    let s = c.in-Stmt.stmt in
    let waits = c.requires.innermost in
    subst (λ e. Moves old c.done-in-Switch.new.self e c.done-in-Switch.result)
    (sym (ap (λ n. taking old (behind_body (part_in table n)) (WayGiven (completion_in table c.args.way))) c.in-Stmt.is
    ∙ (switch-turns old s (completion_in table c.args.way) (switch-is s c.in-Switch.value c.in-Switch.items c.in-Switch.is)
    ∙ ap (λ w. give (steps.came (around_run old) (functions_of old) (WayGiven w) (popped (config_in old)))) (sym (c.broken_out.ensures.means table)))))
    (done-moves old c.done-in-Switch.new.self c.args.top (part_in table c.args.node) S.Turn waits (G.Completion c.broken_out.result) c.done-in-Switch.result tt c.done-in-Switch.ensures.ok c.requires.holds c.requires.free (c.broken_out.ensures.stands table c.requires.way)
    (c.done-in-Switch.ensures.becomes (record { node = waits.node; stage = S.Turn }) waits.others waits.stack))

pub returns-in-Some : goal.returns-in-Some
returns-in-Some c =
    let old = c.args.self.now in
    let table = table_of old in
    let s = c.in-Stmt.stmt in
    let waits = c.requires.innermost in
    let loop = turn-loops old s (subst IsTurning c.in-Stmt.is c.requires.turns) c.in_default-stmt.not-Switch in
    let becomes = c.done-in-Some.ensures.becomes (record { node = waits.node; stage = S.Turn }) waits.others waits.stack in
    record {
      moves = subst (λ e. Moves old c.done-in-Some.new.self e c.done-in-Some.result)
          (sym (ap (λ n. taking old (behind_body (part_in table n)) (WayGiven (completion_in table c.args.way))) c.in-Stmt.is
          ∙ turn-breaks old s.now (completion_in table c.args.way) (completion_in table c.in-Some.way) loop.1 (c.in-Some.ensures.means table)))
          (done-moves old c.done-in-Some.new.self c.args.top (part_in table c.args.node) S.Turn waits (G.Completion c.in-Some.way) c.done-in-Some.result tt c.done-in-Some.ensures.ok c.requires.holds c.requires.free
          (c.in-Some.ensures.stands table c.requires.way) becomes);
      kept = becomes.kept;
    }

pub returns-in-None : goal.returns-in-None
returns-in-None c =
    let old = c.args.self.now in
    let table = table_of old in
    let s = c.in-Stmt.stmt in
    let loop = turn-loops old s (subst IsTurning c.in-Stmt.is c.requires.turns) c.in_default-stmt.not-Switch in
    record {
      moves = subst (λ e. Moves old c.end_turn.new.self e c.end_turn.result)
          (sym (ap (λ n. taking old (behind_body (part_in table n)) (WayGiven (completion_in table c.args.way))) c.in-Stmt.is
          ∙ turn-ends old s.now (completion_in table c.args.way) loop.1 (c.in-None.ensures.means table)))
          c.end_turn.ensures.moves;
      kept = c.end_turn.ensures.kept;
    }
