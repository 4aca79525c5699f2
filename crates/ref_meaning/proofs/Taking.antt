-- Whether a unit is spent on what is next.
use Rattle.std.proofs.Common.{◌≡◌, ap}
use Rattle.ref_semantics.specs.Units.{takes_unit}
use Rattle.ref_meaning.specs.declared.control.Task as memory_task
use Rattle.ref_meaning.specs.declared.run.RefRun.{RefRun}
use Rattle.ref_meaning.specs.Views.{table_of, operands_of, part_in, task_in}
use Rattle.ref_meaning.specs.Doing.{takes}

pub task-takes : (run : RefRun) (task : memory_task.Task) → run.control.task ≡ task → takes_unit (takes run) ≡ takes_unit (task_in (table_of run) (operands_of run) (part_in (table_of run) run.control.node) task)
task-takes run task is = ap (λ t. takes_unit (task_in (table_of run) (operands_of run) (part_in (table_of run) run.control.node) t)) is
