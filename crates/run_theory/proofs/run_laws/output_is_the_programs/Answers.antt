use Rattle.run_theory.proofs.Following.{follows_output}
use Rattle.run_theory.proofs.run_laws.output_is_the_programs.Goals as goal

pub returns : goal.returns
returns c = follows_output
