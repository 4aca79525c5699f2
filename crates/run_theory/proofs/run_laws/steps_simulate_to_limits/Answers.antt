use Rattle.run_theory.proofs.Machines.{locked_to_limits}
use Rattle.run_theory.proofs.run_laws.steps_simulate_to_limits.Goals as goal

pub returns : goal.returns
returns g c = λ by appends act trace act' trace' related bound keeps locks s t r. locked_to_limits by act trace act' trace' _ bound appends keeps locks s t r
