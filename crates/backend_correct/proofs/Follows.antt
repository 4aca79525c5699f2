-- The machine follows a program: through its three-address code, its code with one pool and the instructions of that.
use Rattle.std.proofs.Common.{◌≡◌, ℕ, ◌+◌, ◌*◌, ◌^◌, ◌≤◌, List, None, refl, arith}
use Rattle.run_theory.specs.Runs.{Event, SimulatesBy, Connects, FollowsBy}
use Rattle.run_theory.proofs.Simulations.{compose, never_in_front, follows}
use Rattle.c_typed.specs.Typed.{Program}
use Rattle.c_typed.specs.Programs.{IsWellTyped}
use Rattle.c_typed.specs.Sizes.{HasStorableTypes}
use Rattle.c_typed.specs.TypedNodes.{program_nodes, greatest_nodes}
use Rattle.c_rules.specs.Named.{NamedType}
use Rattle.c_types.specs.Limits.{exceeded}
use Rattle.ref_semantics.specs.First.{reference}
use Rattle.tac_ir.specs.Code.{Tac}
use Rattle.tac_ir.specs.First.{tac_run}
use Rattle.tac_ir.specs.Events.{seen}
use Rattle.tac_ir.proofs.Limits.{never_exhausts}
use Rattle.tac_build.specs.ProgramCode.{Code}
use Rattle.tac_simulation.specs.Comparing.{seen_events}
use Rattle.tac_simulation.proofs.Simulated.{code_simulates}
use Rattle.pool_isa.specs.Machine as M
use Rattle.pool_isa.proofs.MachineRuns.{mach_is_run}
use Rattle.pool_rewrite.specs.Plan.{one_pool}
use Rattle.pool_rewrite.specs.Rewriting.{rewritten}
use Rattle.pool_simulation.specs.Comparing.{refuses_seen}
use Rattle.backend_correct.proofs.Ranges.{ranges, one_pool_few}
use Rattle.backend_correct.proofs.InsideObjects.{first_values}
use Rattle.stack_code.specs.Emitting.{emitted}
use Rattle.backend_correct.proofs.Premises.{one_pool_accepted_fits}
use Rattle.backend_correct.specs.Comparing.{machine_events}
use Rattle.backend_correct.proofs.MachineRuns.{one_pool_runs}
use Rattle.backend_correct.specs.HeapEvents.{heap_events}
use Rattle.backend_correct.proofs.Refusing.{simulates_with}

-- the machine code of three-address code, by the plan of one pool
abbrev pub one_pool_code : Tac → M.Code
one_pool_code tac = emitted (rewritten (one_pool tac) tac)

joined : (slabs : ℕ) → Connects (record { in_front = λ (trace : List Event). trace; behind = seen; refuses = refuses_seen slabs }) (machine_events slabs) (λ trace. trace)
joined slabs = record { appends = λ s t. refl; meets = λ trace. refl; refuses = λ final trace event is. (event, is, refl) }

more_steps : (n j : ℕ) → j ≤ 16 * n + 16 → 24 * j + 3 ≤ 384 * n + 387
more_steps n j le = omega (arith, le)

module _ (program : Program) (tac : Tac) (named_types : List NamedType) (code : Code program tac) (well : IsWellTyped program) (storable : HasStorableTypes program) (none : exceeded program named_types ≡ None)
    (few : program_nodes program ≤ greatest_nodes) where
  -- at most 384 steps of the machine for a unit of the program, and 387 more
  pub one_pool_simulates : (slabs index : ℕ) → slabs ≤ 2 ^ 32 → (input : List ℕ) → SimulatesBy (heap_events slabs) (reference program input) (M.mach (one_pool_code tac) slabs index input) 384 387
  one_pool_simulates slabs index small input =
      compose (record { in_front = λ (trace : List Event). trace; behind = seen; refuses = refuses_seen slabs }) (machine_events slabs) (λ trace. trace) (joined slabs) (reference program input) (tac_run tac input) (M.mach (one_pool_code tac) slabs index input) 16 16 24 3 384 387
      (simulates_with (λ trace. trace) seen (refuses_seen slabs) (reference program input) (tac_run tac input) 16 16 (code_simulates program tac code well storable input))
      (one_pool_runs tac (ranges program tac named_types code well none few (one_pool tac) (one_pool_few tac)) (first_values program tac code well storable) code.objects
      (one_pool_accepted_fits program tac named_types code well none few) slabs index small input)
      more_steps

  -- So whatever the program does while it is defined, the machine does; and what the machine does is the program's.
  pub one_pool_follows : (slabs index : ℕ) → slabs ≤ 2 ^ 32 → (input : List ℕ) → FollowsBy (heap_events slabs) (reference program input) (M.mach (one_pool_code tac) slabs index input)
  one_pool_follows slabs index small input =
      follows (heap_events slabs) (λ s t. refl) (reference program input) (M.mach (one_pool_code tac) slabs index input) 384 387 (one_pool_simulates slabs index small input)
      (mach_is_run (one_pool_code tac) slabs index input)
      (never_in_front seen_events (reference program input) (tac_run tac input) 16 16 (code_simulates program tac code well storable input) (never_exhausts tac input))
      (λ n. omega arith)
