use Rattle.std.proofs.Common.{length, FitsSigned, rules, subst, refl, sym, ap, ◌∙◌}
use Rattle.std.specs.Int.{w128}
use Rattle.std.proofs.lemmas.Int.{to_z-of_z}
use Rattle.ref_semantics.specs.Store.{Eval}
use Rattle.ref_semantics.specs.Steps.{Config}
use Rattle.ref_meaning.specs.declared.control.Task.TheVariants as K
use Rattle.ref_meaning.specs.Views.{table_of, operands_of}
use Rattle.ref_meaning.specs.Holding.{NodeStands, TaskFits, TaskFinds}
use Rattle.ref_meaning.specs.Doing.{acting}
use Rattle.ref_meaning.specs.Moving.{Moves}
use Rattle.ref_meaning.proofs.Acting.{moves-acts, moves-holds, no-read, no-write, performs, evaluates, body-begins, finished, over-stays, is-expression, control-is, takes-none}
use Rattle.ref_meaning.proofs.run.RefRun.act.Goals as goal

pub returns-in-Start-clause-holds : goal.returns-in-Start-clause-holds
returns-in-Start-clause-holds g c = moves-holds c.args.self.now c.start.new.self (acting c.args.self.now) c.start.result c.requires c.start.ensures.moves

pub returns-in-Start-clause-acts : goal.returns-in-Start-clause-acts
returns-in-Start-clause-acts g c = moves-acts c.args.self.now c.start.new.self (acting c.args.self.now) c.start.result _ _ c.start.ensures.moves

pub returns-in-Start-clause-read_cause : goal.returns-in-Start-clause-read_cause
returns-in-Start-clause-read_cause g c = λ e. no-read c.args.self.now c.start.new.self (acting c.args.self.now) c.start.result c.start.ensures.moves e

pub returns-in-Start-clause-write_cause : goal.returns-in-Start-clause-write_cause
returns-in-Start-clause-write_cause g c = λ e. no-write c.args.self.now c.start.new.self (acting c.args.self.now) c.start.result c.start.ensures.moves e

pub returns-in-Stmt-clause-holds : goal.returns-in-Stmt-clause-holds
returns-in-Stmt-clause-holds g c = moves-holds c.args.self.now c.perform.new.self (acting c.args.self.now) c.perform.result c.requires (subst (λ (eval : Eval Config). Moves c.args.self.now c.perform.new.self eval c.perform.result) (performs c.args.self.now c.in-Stmt.stmt c.in-Stmt.is c.in-Enter.is) c.perform.ensures.moves)

pub returns-in-Stmt-clause-acts : goal.returns-in-Stmt-clause-acts
returns-in-Stmt-clause-acts g c = moves-acts c.args.self.now c.perform.new.self (acting c.args.self.now) c.perform.result _ _ (subst (λ (eval : Eval Config). Moves c.args.self.now c.perform.new.self eval c.perform.result) (performs c.args.self.now c.in-Stmt.stmt c.in-Stmt.is c.in-Enter.is) c.perform.ensures.moves)

pub returns-in-Stmt-clause-read_cause : goal.returns-in-Stmt-clause-read_cause
returns-in-Stmt-clause-read_cause g c = λ e. no-read c.args.self.now c.perform.new.self (acting c.args.self.now) c.perform.result (subst (λ (eval : Eval Config). Moves c.args.self.now c.perform.new.self eval c.perform.result) (performs c.args.self.now c.in-Stmt.stmt c.in-Stmt.is c.in-Enter.is) c.perform.ensures.moves) e

pub returns-in-Stmt-clause-write_cause : goal.returns-in-Stmt-clause-write_cause
returns-in-Stmt-clause-write_cause g c = λ e. no-write c.args.self.now c.perform.new.self (acting c.args.self.now) c.perform.result (subst (λ (eval : Eval Config). Moves c.args.self.now c.perform.new.self eval c.perform.result) (performs c.args.self.now c.in-Stmt.stmt c.in-Stmt.is c.in-Enter.is) c.perform.ensures.moves) e

pub returns-in-Body-clause-holds : goal.returns-in-Body-clause-holds
returns-in-Body-clause-holds g c = moves-holds c.args.self.now c.part.new.self (acting c.args.self.now) c.part.result c.requires (body-begins c.args.self.now c.part.new.self _ c.part.result c.requires c.in-Body.is c.in-Enter.is c.part.ensures.waits c.part.ensures.same c.part.ensures.only)

pub returns-in-Body-clause-acts : goal.returns-in-Body-clause-acts
returns-in-Body-clause-acts g c = moves-acts c.args.self.now c.part.new.self (acting c.args.self.now) c.part.result _ _ (body-begins c.args.self.now c.part.new.self _ c.part.result c.requires c.in-Body.is c.in-Enter.is c.part.ensures.waits c.part.ensures.same c.part.ensures.only)

pub returns-in-Body-clause-read_cause : goal.returns-in-Body-clause-read_cause
returns-in-Body-clause-read_cause g c = λ e. no-read c.args.self.now c.part.new.self (acting c.args.self.now) c.part.result (body-begins c.args.self.now c.part.new.self _ c.part.result c.requires c.in-Body.is c.in-Enter.is c.part.ensures.waits c.part.ensures.same c.part.ensures.only) e

pub returns-in-Body-clause-write_cause : goal.returns-in-Body-clause-write_cause
returns-in-Body-clause-write_cause g c = λ e. no-write c.args.self.now c.part.new.self (acting c.args.self.now) c.part.result (body-begins c.args.self.now c.part.new.self _ c.part.result c.requires c.in-Body.is c.in-Enter.is c.part.ensures.waits c.part.ensures.same c.part.ensures.only) e

pub returns-in_default-clause-holds : goal.returns-in_default-clause-holds
returns-in_default-clause-holds g c = moves-holds c.args.self.now c.evaluate.new.self (acting c.args.self.now) c.evaluate.result c.requires (subst (λ (eval : Eval Config). Moves c.args.self.now c.evaluate.new.self eval c.evaluate.result) (evaluates c.args.self.now c.args.self.now.control.node (is-expression (table_of c.args.self.now) c.args.self.now.control.node (length (operands_of c.args.self.now)) (subst (λ task. TaskFits (table_of c.args.self.now) c.args.self.now.control.node (length (operands_of c.args.self.now)) task) c.in-Enter.is c.requires.task) c.in_default.not-Stmt c.in_default.not-Body) refl c.in-Enter.is) c.evaluate.ensures.moves)

pub returns-in_default-clause-acts : goal.returns-in_default-clause-acts
returns-in_default-clause-acts g c = moves-acts c.args.self.now c.evaluate.new.self (acting c.args.self.now) c.evaluate.result _ _ (subst (λ (eval : Eval Config). Moves c.args.self.now c.evaluate.new.self eval c.evaluate.result) (evaluates c.args.self.now c.args.self.now.control.node (is-expression (table_of c.args.self.now) c.args.self.now.control.node (length (operands_of c.args.self.now)) (subst (λ task. TaskFits (table_of c.args.self.now) c.args.self.now.control.node (length (operands_of c.args.self.now)) task) c.in-Enter.is c.requires.task) c.in_default.not-Stmt c.in_default.not-Body) refl c.in-Enter.is) c.evaluate.ensures.moves)

pub returns-in_default-clause-read_cause : goal.returns-in_default-clause-read_cause
returns-in_default-clause-read_cause g c = λ e. no-read c.args.self.now c.evaluate.new.self (acting c.args.self.now) c.evaluate.result (subst (λ (eval : Eval Config). Moves c.args.self.now c.evaluate.new.self eval c.evaluate.result) (evaluates c.args.self.now c.args.self.now.control.node (is-expression (table_of c.args.self.now) c.args.self.now.control.node (length (operands_of c.args.self.now)) (subst (λ task. TaskFits (table_of c.args.self.now) c.args.self.now.control.node (length (operands_of c.args.self.now)) task) c.in-Enter.is c.requires.task) c.in_default.not-Stmt c.in_default.not-Body) refl c.in-Enter.is) c.evaluate.ensures.moves) e

pub returns-in_default-clause-write_cause : goal.returns-in_default-clause-write_cause
returns-in_default-clause-write_cause g c = λ e. no-write c.args.self.now c.evaluate.new.self (acting c.args.self.now) c.evaluate.result (subst (λ (eval : Eval Config). Moves c.args.self.now c.evaluate.new.self eval c.evaluate.result) (evaluates c.args.self.now c.args.self.now.control.node (is-expression (table_of c.args.self.now) c.args.self.now.control.node (length (operands_of c.args.self.now)) (subst (λ task. TaskFits (table_of c.args.self.now) c.args.self.now.control.node (length (operands_of c.args.self.now)) task) c.in-Enter.is c.requires.task) c.in_default.not-Stmt c.in_default.not-Body) refl c.in-Enter.is) c.evaluate.ensures.moves) e

pub returns-in-Library-clause-holds : goal.returns-in-Library-clause-holds
returns-in-Library-clause-holds g c = moves-holds c.args.self.now c.library.new.self (acting c.args.self.now) c.library.result c.requires c.library.ensures.moves

pub returns-in-Library-clause-acts : goal.returns-in-Library-clause-acts
returns-in-Library-clause-acts g c = moves-acts c.args.self.now c.library.new.self (acting c.args.self.now) c.library.result _ _ c.library.ensures.moves

pub returns-in-Library-clause-read_cause : goal.returns-in-Library-clause-read_cause
returns-in-Library-clause-read_cause g c = λ e. no-read c.args.self.now c.library.new.self (acting c.args.self.now) c.library.result c.library.ensures.moves e

pub returns-in-Library-clause-write_cause : goal.returns-in-Library-clause-write_cause
returns-in-Library-clause-write_cause g c = λ e. no-write c.args.self.now c.library.new.self (acting c.args.self.now) c.library.result c.library.ensures.moves e

pub returns-in-Bind-clause-holds : goal.returns-in-Bind-clause-holds
returns-in-Bind-clause-holds g c = moves-holds c.args.self.now c.bind.new.self (acting c.args.self.now) c.bind.result c.requires c.bind.ensures.moves

pub returns-in-Bind-clause-acts : goal.returns-in-Bind-clause-acts
returns-in-Bind-clause-acts g c = moves-acts c.args.self.now c.bind.new.self (acting c.args.self.now) c.bind.result _ _ c.bind.ensures.moves

pub returns-in-Bind-clause-read_cause : goal.returns-in-Bind-clause-read_cause
returns-in-Bind-clause-read_cause g c = λ e. no-read c.args.self.now c.bind.new.self (acting c.args.self.now) c.bind.result c.bind.ensures.moves e

pub returns-in-Bind-clause-write_cause : goal.returns-in-Bind-clause-write_cause
returns-in-Bind-clause-write_cause g c = λ e. no-write c.args.self.now c.bind.new.self (acting c.args.self.now) c.bind.result c.bind.ensures.moves e

pub returns-in-Label-clause-holds : goal.returns-in-Label-clause-holds
returns-in-Label-clause-holds g c = moves-holds c.args.self.now c.label.new.self (acting c.args.self.now) c.label.result c.requires c.label.ensures.moves

pub returns-in-Label-clause-acts : goal.returns-in-Label-clause-acts
returns-in-Label-clause-acts g c = moves-acts c.args.self.now c.label.new.self (acting c.args.self.now) c.label.result _ _ c.label.ensures.moves

pub returns-in-Label-clause-read_cause : goal.returns-in-Label-clause-read_cause
returns-in-Label-clause-read_cause g c = λ e. no-read c.args.self.now c.label.new.self (acting c.args.self.now) c.label.result c.label.ensures.moves e

pub returns-in-Label-clause-write_cause : goal.returns-in-Label-clause-write_cause
returns-in-Label-clause-write_cause g c = λ e. no-write c.args.self.now c.label.new.self (acting c.args.self.now) c.label.result c.label.ensures.moves e

pub returns-in-Give-clause-holds : goal.returns-in-Give-clause-holds
returns-in-Give-clause-holds g c = moves-holds c.args.self.now c.give.new.self (acting c.args.self.now) c.give.result c.requires c.give.ensures.moves

pub returns-in-Give-clause-acts : goal.returns-in-Give-clause-acts
returns-in-Give-clause-acts g c = moves-acts c.args.self.now c.give.new.self (acting c.args.self.now) c.give.result _ _ c.give.ensures.moves

pub returns-in-Give-clause-read_cause : goal.returns-in-Give-clause-read_cause
returns-in-Give-clause-read_cause g c = λ e. no-read c.args.self.now c.give.new.self (acting c.args.self.now) c.give.result c.give.ensures.moves e

pub returns-in-Give-clause-write_cause : goal.returns-in-Give-clause-write_cause
returns-in-Give-clause-write_cause g c = λ e. no-write c.args.self.now c.give.new.self (acting c.args.self.now) c.give.result c.give.ensures.moves e

pub returns-in-Over-clause-holds : goal.returns-in-Over-clause-holds
returns-in-Over-clause-holds g c = moves-holds c.args.self.now c.args.self.now (acting c.args.self.now) finished c.requires (over-stays c.args.self.now _ c.requires c.in-Over.is)

pub returns-in-Over-clause-acts : goal.returns-in-Over-clause-acts
returns-in-Over-clause-acts g c = moves-acts c.args.self.now c.args.self.now (acting c.args.self.now) finished _ _ (over-stays c.args.self.now _ c.requires c.in-Over.is)

pub returns-in-Over-clause-read_cause : goal.returns-in-Over-clause-read_cause
returns-in-Over-clause-read_cause g c = λ e. no-read c.args.self.now c.args.self.now (acting c.args.self.now) finished (over-stays c.args.self.now _ c.requires c.in-Over.is) e

pub returns-in-Over-clause-write_cause : goal.returns-in-Over-clause-write_cause
returns-in-Over-clause-write_cause g c = λ e. no-write c.args.self.now c.args.self.now (acting c.args.self.now) finished (over-stays c.args.self.now _ c.requires c.in-Over.is) e

pub perform-requires : goal.perform-requires
perform-requires g c = record {
  holds = c.requires;
  free = takes-none c.args.self.now K.Enter c.in-Enter.is tt;
  unawaited = λ awaits. subst (λ node. TaskFinds (table_of c.args.self.now) node K.Enter) c.in-Stmt.is
      (subst (λ task. TaskFinds (table_of c.args.self.now) c.args.self.now.control.node task) c.in-Enter.is (c.requires.found.0 awaits));
  stands = subst (NodeStands (table_of c.args.self.now)) c.in-Stmt.is c.requires.node;
}

pub evaluate-requires : goal.evaluate-requires
evaluate-requires g c = record {
  holds = c.requires;
  free = takes-none c.args.self.now K.Enter c.in-Enter.is tt;
  node = c.requires.node;
  expression = (is-expression (table_of c.args.self.now) c.args.self.now.control.node (length (operands_of c.args.self.now)) (subst (λ task. TaskFits (table_of c.args.self.now) c.args.self.now.control.node (length (operands_of c.args.self.now)) task) c.in-Enter.is c.requires.task) c.in_default.not-Stmt c.in_default.not-Body);
  finds = λ awaits. subst (λ task. TaskFinds (table_of c.args.self.now) c.args.self.now.control.node task) c.in-Enter.is (c.requires.found.0 awaits);
}

pub library-requires : goal.library-requires
library-requires g c = record {
  holds = c.requires;
  control = control-is c.args.self.now _ c.in-Library.is;
}

pub apply-requires : goal.apply-requires
apply-requires g c = record {
  holds = c.requires;
  control = control-is c.args.self.now _ c.in-Apply.is;
}

pub bind-requires : goal.bind-requires
bind-requires g c = record {
  holds = c.requires;
  control = control-is c.args.self.now _ c.in-Bind.is;
}

pub label-requires : goal.label-requires
label-requires g c =
    let fits : FitsSigned w128 c.in-Label.value = search rules in
    record {
      holds = c.requires;
      control = control-is c.args.self.now _ (c.in-Label.is ∙ ap (λ z. K.Label z c.in-Label.number c.in-Label.default) (sym (to_z-of_z w128 c.in-Label.value fits)));
    }
