use Rattle.run_theory.proofs.Following.{follows_end}
use Rattle.run_theory.proofs.run_laws.ends_are_the_programs.Goals as goal

pub returns : goal.returns
returns c = follows_end
