use Rattle.run_theory.proofs.Simulations.{follows}
use Rattle.run_theory.proofs.run_laws.simulation_follows.Goals as goal

pub returns : goal.returns
returns g c = λ by appends. follows by appends
