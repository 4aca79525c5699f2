use Rattle.run_theory.proofs.Machines.{steps_run}
use Rattle.run_theory.proofs.run_laws.machine_is_run.Goals as goal

pub returns : goal.returns
returns g c = λ act trace keeps s. steps_run act trace keeps s
