use Rattle.run_theory.proofs.Following.{follows_trapped}
use Rattle.run_theory.proofs.run_laws.traps_are_undefined.Goals as goal

pub returns : goal.returns
returns c = follows_trapped
