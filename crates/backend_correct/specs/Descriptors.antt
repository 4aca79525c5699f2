-- How many descriptors of pools a function may have.
use Rattle.std.specs.Prelude.{ℕ, ◌≤◌, ◌^◌}
use Rattle.tac_ir.specs.States.{Owner}
use Rattle.pool_rewrite.specs.Plan.{Plan}
use Rattle.pool_simulation.specs.InStep.{plan_for}

-- with these, too, each frame of lowered code is in its range
abbrev pub greatest_descriptors : ℕ
greatest_descriptors = 2 ^ 20

abbrev pub FewDescriptors : Plan → Type 0
FewDescriptors plan = (owner : Owner) → (plan_for plan owner).descriptors ≤ greatest_descriptors
