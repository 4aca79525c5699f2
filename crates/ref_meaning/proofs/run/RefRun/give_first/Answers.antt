use Rattle.std.proofs.Common.{sym, subst}
use Rattle.ref_semantics.specs.Steps.{ScalarGiven}
use Rattle.ref_meaning.specs.RefStore.Views.{scalar_in}
use Rattle.ref_meaning.specs.Views.{part_in, waiting}
use Rattle.ref_meaning.specs.Doing.{taking}
use Rattle.ref_meaning.specs.Moving.{Moves}
use Rattle.ref_meaning.proofs.run.RefRun.give_first.Goals as goal

pub returns-in-Stmt-clause-moves : goal.returns-in-Stmt-clause-moves
returns-in-Stmt-clause-moves c =
    let old = c.args.self.now in
    let table = old.store.types.now in
    subst (λ n. Moves old c.give_value.new.self (taking old (waiting (part_in table n)) (ScalarGiven (scalar_in table c.args.first))) c.give_value.result) (sym c.in-Stmt.is) c.give_value.ensures.moves
