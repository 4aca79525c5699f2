use Rattle.std.proofs.Common.{sym, subst}
use Rattle.ref_meaning.specs.Moving.{Moves}
use Rattle.ref_meaning.proofs.Advancing.{for-ends, while-ends}
use Rattle.ref_meaning.proofs.run.RefRun.end_turn.Goals as goal

pub returns-in-None-clause-moves : goal.returns-in-None-clause-moves
returns-in-None-clause-moves c =
    let old = c.args.self.now in
    subst (λ e. Moves old c.begin_turn.new.self e c.begin_turn.result) (sym (for-ends old c.args.stmt.now c.in-For.start c.in-For.condition c.in-For.step c.in-For.body c.in-For.is c.in-None.is)) c.begin_turn.ensures.moves

pub returns-in_default : goal.returns-in_default
returns-in_default c =
    let old = c.args.self.now in
    record {
      moves = subst (λ e. Moves old c.begin_turn-in_default.new.self e c.begin_turn-in_default.result) (sym (while-ends old c.args.stmt c.requires.is_loop c.in_default.not-DoWhile c.in_default.not-For)) c.begin_turn-in_default.ensures.moves;
      kept = c.begin_turn-in_default.ensures.kept;
    }
