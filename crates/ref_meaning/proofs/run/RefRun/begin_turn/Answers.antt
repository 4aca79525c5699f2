use Rattle.std.proofs.Common.{sym, ap, subst, ◌∙◌}
use Rattle.ref_meaning.specs.Views.{table_of, part_in, stmt_of}
use Rattle.ref_meaning.specs.Holding.{IsLoop}
use Rattle.ref_meaning.specs.Doing.{beginning_turn}
use Rattle.ref_meaning.specs.Moving.{Moves}
use Rattle.ref_meaning.proofs.Performs.{for-turns, do-turns}
use Rattle.ref_meaning.proofs.run.RefRun.begin_turn.Goals as goal

pub returns-in-None-clause-moves : goal.returns-in-None-clause-moves
returns-in-None-clause-moves c =
    let old = c.args.self.now in
    subst (λ e. Moves old c.turn.new.self e c.turn.result)
    (for-turns old c.in-Stmt.stmt.now c.in-For.start c.in-For.condition c.in-For.step c.in-For.body c.in-For.is c.in-None.is ∙ ap (λ n. beginning_turn old (stmt_of (part_in (table_of old) n))) (sym c.in-Stmt.is))
    c.turn.ensures.moves

pub returns-in_default-stmt : goal.returns-in_default-stmt
returns-in_default-stmt c =
    let old = c.args.self.now in
    record {
      moves = subst (λ e. Moves old c.turn-in_default-stmt.new.self e c.turn-in_default-stmt.result)
          (do-turns old c.in-Stmt.stmt (subst IsLoop c.in-Stmt.is c.requires.is_loop) c.in_default-stmt.not-While c.in_default-stmt.not-For ∙ ap (λ n. beginning_turn old (stmt_of (part_in (table_of old) n))) (sym c.in-Stmt.is))
          c.turn-in_default-stmt.ensures.moves;
      kept = c.turn-in_default-stmt.ensures.kept;
    }
