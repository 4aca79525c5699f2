use Rattle.c_types_state.proofs.Named.{entered_stand}
use Rattle.c_types_state.proofs.checker.Checker.enter.Goals as goal

pub invariant_of-self : goal.invariant_of-self
invariant_of-self c =
    let had = c.self.inside in
    entered_stand had.types had.locals c.enter.new.self c.enter.ensures.scope c.self.invariant.file c.self.invariant.inner c.self.invariant.outer
