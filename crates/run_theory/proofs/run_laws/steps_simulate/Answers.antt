use Rattle.run_theory.proofs.Machines.{locked}
use Rattle.run_theory.proofs.run_laws.steps_simulate.Goals as goal

pub returns : goal.returns
returns g c = λ by act trace act' trace' related bound locks s t r. locked by act trace act' trace' _ bound locks s t r
