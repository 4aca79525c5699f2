-- What is to be shown: each step of code with pools is so many of the machine's, with the same end.
use Rattle.std.specs.Prelude.{◌≡◌, ℕ, ◌+◌, ◌*◌, ◌≤◌, ◌⊎◌, List}
use Rattle.run_theory.specs.Places.{first_place}
use Rattle.run_theory.specs.declared.ends.TrapKind.{TrapKind}
use Rattle.run_theory.specs.declared.ends.UbKind.TheVariants as Ub
use Rattle.run_theory.specs.Runs.{Final, Undefined, Trapped, Move, To, Halt, Leads, IsProgramEnd, IsResourceEnd, RunOf, SimulatesBy, steps}
use Rattle.tac_ir.specs.Events.{seen}
use Rattle.pool_isa.specs.Machine as M
use Rattle.pool_ir.specs.Code.{Op, PoolCode}
use Rattle.pool_ir.specs.States as P
use Rattle.pool_ir.specs.States.{PoolEvent, same}
use Rattle.pool_ir.specs.Meaning as meaning
use Rattle.pool_ir.specs.Meaning.{more_cost, begun, from_start, initial}
use Rattle.stack_code.specs.Emitting.{emitted}
use Rattle.stack_code.specs.Standing.{stack_events, Stands}
use Rattle.stack_code.specs.Fitting.{CodeFits}

-- ---- code with pools that is trapped owes nothing

abbrev pub unless_trapped : Move P.State → Move P.State
unless_trapped (Halt (Trapped kind) state) = Halt (Undefined Ub.U04 first_place) state
unless_trapped move = move

abbrev pub defined_act : PoolCode → P.State → Move P.State
defined_act code state = unless_trapped (meaning.act code state)

-- the run of code with pools, which is undefined where it is trapped
abbrev pub defined_run : PoolCode → ℕ → ℕ → List ℕ → RunOf PoolEvent
defined_run code slabs index input n =
    let first = initial code slabs index input in
    steps (defined_act code) (λ (state : P.State). state.trace) n (begun code (from_start code first) first)

-- ---- steps

-- What so many steps of the machine come to, where code with pools makes this move: a state that stands for the next one, the same end, or
-- anything, where that is trapped.
pub data Answers (code : PoolCode) (most : ℕ) (machine : M.State) : Move P.State → Type 0 where
  goes : (next : P.State) (later : M.State) (taken : ℕ) → 1 ≤ taken → taken ≤ most → Leads (M.act (emitted code)) machine taken later → Stands code next later → next.paid ≡ 0 → Answers code most machine (To next)
  ends : (final : Final) (last : P.State) (before later : M.State) (taken : ℕ) → taken + 1 ≤ most → Leads (M.act (emitted code)) machine taken before
      → M.act (emitted code) before ≡ Halt final later → later.trace ≡ seen (same last.trace) → IsProgramEnd final ⊎ IsResourceEnd final → Answers code most machine (Halt final last)
  traps : (kind : TrapKind) (last : P.State) → Answers code most machine (Halt (Trapped kind) last)

-- the most steps for what is done once a point is prepared: for its own work, and for so many pools at a return and at the edge behind the call
abbrev pub finishing_steps : ℕ → ℕ
finishing_steps most = 8 + 6 * most

-- A point is prepared, of which nothing is seen, in at least as many steps as it costs, and not many more; and then it is done.
pub record PointFollows (code : PoolCode) (most : ℕ) (state : P.State) (machine : M.State) (op : Op) : Type 0 where
  pub prepared : ℕ
  pub ready : M.State
  pub enough : more_cost op ≤ prepared
  pub few : prepared ≤ 8 * more_cost op + (8 + 2 * most)
  pub leads : Leads (M.act (emitted code)) machine prepared ready
  pub quiet : ready.trace ≡ machine.trace
  pub does : Answers code (finishing_steps most) ready (meaning.execute code op state)

-- the most steps of the machine for one of code with pools
abbrev pub steps_for : ℕ → ℕ
steps_for most = 16 + 8 * most

-- ---- the whole

-- On every input the machine does what the code does, while that isn't trapped.
abbrev pub EmittedSimulates : Type 0
EmittedSimulates =
    (code : PoolCode) (most : ℕ) → CodeFits most code → (slabs index : ℕ) (input : List ℕ) →
    SimulatesBy stack_events (defined_run code slabs index input) (M.mach (emitted code) slabs index input) (steps_for most) (3 * most)
