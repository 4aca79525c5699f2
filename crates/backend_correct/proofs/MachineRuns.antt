-- The machine simulates three-address code, by the code with pools of a plan whose pools serve, and that fits.
use Rattle.std.proofs.Common.{◌≡◌, ℕ, ◌+◌, ◌*◌, ◌^◌, ◌≤◌, List, [], refl, arith, mul-le-mul_left}
use Rattle.std.proofs.lemmas.Bool.{false≢true}
use Rattle.run_theory.specs.Runs.{SimulatesBy, Connects}
use Rattle.run_theory.proofs.Simulations.{compose}
use Rattle.tac_ir.specs.First.{tac_run}
use Rattle.tac_ir.specs.Code.{Tac}
use Rattle.pool_isa.specs.Machine as M
use Rattle.pool_rewrite.specs.Plan.{Plan, one_pool}
use Rattle.pool_rewrite.specs.Rewriting.{rewritten}
use Rattle.pool_simulation.specs.FirstValues.{HasFirstValues}
use Rattle.pool_simulation.specs.InStep.{Fits}
use Rattle.pool_simulation.specs.Comparing.{seen_pool_events}
use Rattle.pool_simulation.specs.Serving.{Serves}
use Rattle.pool_simulation.proofs.OnePoolServes.{one_pool_serves}
use Rattle.pool_simulation.proofs.SeenRuns.{plan_seen}
use Rattle.stack_code.specs.Emitting.{emitted}
use Rattle.stack_code.specs.Standing.{stack_events}
use Rattle.stack_code.specs.Fitting.{CodeFits}
use Rattle.stack_code.specs.Following.{defined_run, steps_for}
use Rattle.stack_code.proofs.Simulated.{emitted_simulates}
use Rattle.backend_correct.specs.Comparing.{machine_events}
use Rattle.backend_correct.proofs.DefinedRuns.{simulates_defined}

-- ---- code with pools that is trapped owes nothing

pub plan_defined : (tac : Tac) (plan : Plan) (slabs : ℕ) → Serves tac plan slabs → HasFirstValues tac → tac.start.objects ≡ [] → (index : ℕ) → slabs ≤ 2 ^ 32 → (input : List ℕ)
    → SimulatesBy (seen_pool_events slabs) (tac_run tac input) (defined_run (rewritten plan tac) slabs index input) 1 0
plan_defined tac plan slabs serves values none index few input =
    simulates_defined (rewritten plan tac) (seen_pool_events slabs) (tac_run tac input) slabs index input 1 0 (plan_seen tac plan slabs serves values none index few input)

-- ---- on the machine

joined : (slabs : ℕ) → Connects (seen_pool_events slabs) stack_events (λ trace. trace)
joined slabs = record { appends = λ s t. refl; meets = λ trace. refl; refuses = λ final trace event is. absurd (false≢true is) }

more_steps : (most n j : ℕ) → j ≤ 1 * n + 0 → steps_for most * j + 3 * most ≤ steps_for most * n + 3 * most
more_steps most n j le =
    let less : j ≤ n = omega (arith, le) in
    let times : steps_for most * j ≤ steps_for most * n = mul-le-mul_left (steps_for most) less in
    omega (arith, times)

-- At most so many steps of the machine are made for one of three-address code, with the same events of the reference and the same end, or
-- where the heap refused the next allocation.
pub plan_runs : (tac : Tac) (plan : Plan) (slabs : ℕ) → Serves tac plan slabs → HasFirstValues tac → tac.start.objects ≡ [] → (most : ℕ) → CodeFits most (rewritten plan tac) → (index : ℕ) → slabs ≤ 2 ^ 32 → (input : List ℕ)
    → SimulatesBy (machine_events slabs) (tac_run tac input) (M.mach (emitted (rewritten plan tac)) slabs index input) (steps_for most) (3 * most)
plan_runs tac plan slabs serves values none most fits index few input =
    let code = rewritten plan tac in
    compose (seen_pool_events slabs) stack_events (λ trace. trace) (joined slabs) (tac_run tac input) (defined_run code slabs index input) (M.mach (emitted code) slabs index input) 1 0 (steps_for most) (3 * most)
    (steps_for most) (3 * most) (plan_defined tac plan slabs serves values none index few input) (emitted_simulates code most fits slabs index input) (more_steps most)

-- with one pool: at most 24 steps for one
pub one_pool_runs : (tac : Tac) → Fits tac (one_pool tac) → HasFirstValues tac → tac.start.objects ≡ [] → CodeFits 1 (rewritten (one_pool tac) tac) → (slabs index : ℕ) → slabs ≤ 2 ^ 32 → (input : List ℕ)
    → SimulatesBy (machine_events slabs) (tac_run tac input) (M.mach (emitted (rewritten (one_pool tac) tac)) slabs index input) 24 3
one_pool_runs tac fits values none code_fits slabs index few input = plan_runs tac (one_pool tac) slabs (one_pool_serves tac fits slabs) values none 1 code_fits index few input
