use Rattle.run_theory.proofs.Simulations.{explains}
use Rattle.run_theory.proofs.run_laws.reverse_direction.Goals as goal

pub returns : goal.returns
returns g c = λ by appends. explains by appends
