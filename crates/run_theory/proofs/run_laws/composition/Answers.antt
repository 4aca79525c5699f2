use Rattle.run_theory.proofs.Simulations.{compose}
use Rattle.run_theory.proofs.run_laws.composition.Goals as goal

pub returns : goal.returns
returns g c = λ by by' through connects. compose by by' through connects
