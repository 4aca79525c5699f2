-- Code with pools that serve it simulates three-address code, step for step; and it ends as that does, or where the heap is exhausted,
-- unless three-address code is lost.
use Rattle.std.proofs.Common.{◌≡◌, ℕ, zero, suc, ◌^◌, ◌≤◌, ◌⊎◌, inl, inr, List, [], refl, sym, subst, arith}
use Rattle.run_theory.specs.declared.ends.TrapKind.{TrapKind}
use Rattle.run_theory.specs.Runs.{Final, Ended, DepthReached, Undefined, HeapExhausted, IndexExhausted, Trapped, AnswerOf, Over, IsUndefined, IsProgramEnd, Move, To, after, SimulatesBy, steps}
use Rattle.run_theory.proofs.Machines.{step_to, step_halts}
use Rattle.tac_ir.specs.Events.{TacEvent}
use Rattle.tac_ir.specs.States as T
use Rattle.tac_ir.specs.Meaning.{act}
use Rattle.tac_ir.specs.First.{initial, tac_run}
use Rattle.tac_ir.specs.Code.{Tac}
use Rattle.tac_ir.proofs.Activations.{stacked_next}
use Rattle.pool_ir.specs.States as P
use Rattle.pool_ir.specs.States.{PoolEvent}
use Rattle.pool_ir.specs.Meaning as M
use Rattle.pool_ir.specs.Meaning.{pool_run}
use Rattle.pool_rewrite.specs.Plan.{Plan, one_pool}
use Rattle.pool_rewrite.specs.Rewriting.{rewritten}
use Rattle.pool_simulation.specs.FirstValues.{HasFirstValues}
use Rattle.pool_simulation.specs.InStep.{Fits}
use Rattle.pool_simulation.specs.Comparing.{pool_events}
use Rattle.pool_simulation.specs.Serving.{code_of, Serves}
use Rattle.pool_simulation.proofs.Stepping.{StepDoes, to_next, to_end, to_wrong, to_refusal}
use Rattle.pool_simulation.proofs.AllSteps.{step_does}
use Rattle.pool_simulation.proofs.Locking.{Related, steps_simulate}
use Rattle.pool_simulation.proofs.FirstInStep.{run_begins}
use Rattle.pool_simulation.proofs.OnePoolServes.{one_pool_serves}

-- ---- how a run may end

-- the program's own ends, and that of the heap
abbrev pub MayEnd : Final → Type 0
MayEnd (Ended status) = Unit {0}
MayEnd DepthReached = Unit {0}
MayEnd (Undefined kind place) = ⊥
MayEnd HeapExhausted = Unit {0}
MayEnd IndexExhausted = ⊥
MayEnd (Trapped kind) = ⊥

program_may : (final : Final) → IsProgramEnd final → MayEnd final
program_may (Ended status) is = tt
program_may DepthReached is = tt
program_may (Undefined kind place) is = absurd is
program_may HeapExhausted is = absurd is
program_may IndexExhausted is = absurd is
program_may (Trapped kind) is = absurd is

module _ (tac : Tac) (plan : Plan) (slabs : ℕ) (serves : Serves tac plan slabs) where
  abbrev tac_steps : ℕ → T.State → AnswerOf TacEvent
  tac_steps n state = steps (act tac) (λ (s : T.State). s.trace) n state

  abbrev pool_steps : ℕ → P.State → AnswerOf PoolEvent
  pool_steps n machine = steps (M.act (code_of tac plan)) (λ (s : P.State). s.trace) n machine

  -- three-address code is lost after so many steps at most
  abbrev pub IsLost : ℕ → T.State → Type 0
  IsLost most state = (n : ℕ) × (n ≤ most) × IsUndefined (tac_steps n state)

  lost_later : (most : ℕ) (state next : T.State) → act tac state ≡ To next → IsLost most next → IsLost (suc most) state
  lost_later most state next is lost = (suc lost.0, omega (arith, lost.1), subst IsUndefined (sym (step_to (act tac) (λ (s : T.State). s.trace) lost.0 state next is)) lost.2)

  ends_by : (most : ℕ) (state : T.State) (machine : P.State) → Related tac plan slabs serves state machine → (move : Move T.State) (does : Move P.State) → StepDoes tac plan slabs state machine move does → act tac state ≡ move
      → (final : Final) (trace : List PoolEvent) → after (λ (s : P.State). s.trace) (pool_steps most) does ≡ Over final trace
      → ((next : T.State) (later : P.State) → Related tac plan slabs serves next later → pool_steps most later ≡ Over final trace → IsLost most next ⊎ MayEnd final) → IsLost (suc most) state ⊎ MayEnd final
  ends_by most state machine related move does (to_next next later in_step does_pools) is final trace over rest =
      elim (rest next later (stacked_next tac state next related.0 is, in_step, serves.kept state next machine later related.1 related.2 is does_pools in_step) over) [
        | inl lost ↦ inl (lost_later most state next is lost)
        | inr may ↦ inr may
      ]
  ends_by most state machine related move does (to_end own last later same program) is final trace over rest =
      let one : own ≡ final = cc in
      inr (subst MayEnd one (program_may own program))
  ends_by most state machine related move does (to_wrong own last _ w) is final trace over rest =
      inl (1, omega arith, subst IsUndefined (sym (step_halts (act tac) (λ (s : T.State). s.trace) 0 state last own is)) w)
  ends_by most state machine related move does (to_refusal next later event) is final trace over rest =
      let one : HeapExhausted ≡ final = cc in
      inr (subst MayEnd one tt)

  -- a run ends so, or three-address code is lost by then
  pub steps_end : (m : ℕ) (state : T.State) (machine : P.State) → Related tac plan slabs serves state machine → (final : Final) (trace : List PoolEvent) → pool_steps m machine ≡ Over final trace
      → IsLost m state ⊎ MayEnd final
  steps_end zero state machine related final trace over = absurd (cc)
  steps_end (suc m) state machine related final trace over =
      ends_by m state machine related (act tac state) (M.act (code_of tac plan) machine) (step_does tac plan slabs serves state machine related) refl final trace over
      (λ next later also is. steps_end m next later also final trace is)

-- ---- whole runs

-- The code with pools of a plan whose pools serve simulates three-address code, for every input.
pub plan_simulates : (tac : Tac) (plan : Plan) (slabs : ℕ) → Serves tac plan slabs → HasFirstValues tac → tac.start.objects ≡ [] → (index : ℕ) → slabs ≤ 2 ^ 32 → (input : List ℕ)
    → SimulatesBy (pool_events slabs) (tac_run tac input) (pool_run (code_of tac plan) slabs index input) 1 0
plan_simulates tac plan slabs serves values none index few input =
    let fresh = M.initial (code_of tac plan) slabs index input in
    let start = run_begins tac plan slabs serves values none index few input in
    subst (λ (begun : Move P.State). SimulatesBy (pool_events slabs) (tac_run tac input) (λ n. pool_steps tac plan slabs serves n (M.begun (code_of tac plan) begun fresh)) 1 0) (sym start.begins)
    (steps_simulate tac plan slabs serves (step_does tac plan slabs serves) (initial tac input) start.first start.related)

-- The run ends as a program does or where the heap is exhausted, unless three-address code is lost by then.
pub plan_ends : (tac : Tac) (plan : Plan) (slabs : ℕ) → Serves tac plan slabs → HasFirstValues tac → tac.start.objects ≡ [] → (index : ℕ) → slabs ≤ 2 ^ 32
    → (input : List ℕ) (m : ℕ) (final : Final) (trace : List PoolEvent) → pool_run (code_of tac plan) slabs index input m ≡ Over final trace
    → ((n : ℕ) × (n ≤ m) × IsUndefined (tac_run tac input n)) ⊎ MayEnd final
plan_ends tac plan slabs serves values none index few input m final trace over =
    let fresh = M.initial (code_of tac plan) slabs index input in
    let start = run_begins tac plan slabs serves values none index few input in
    steps_end tac plan slabs serves m (initial tac input) start.first start.related final trace
    (subst (λ (begun : Move P.State). pool_steps tac plan slabs serves m (M.begun (code_of tac plan) begun fresh) ≡ Over final trace) start.begins over)

-- so it never runs out of the cells of an index
pub plan_never_index : (tac : Tac) (plan : Plan) (slabs : ℕ) → Serves tac plan slabs → HasFirstValues tac → tac.start.objects ≡ [] → (index : ℕ) → slabs ≤ 2 ^ 32
    → (input : List ℕ) (m : ℕ) (trace : List PoolEvent) → pool_run (code_of tac plan) slabs index input m ≡ Over IndexExhausted trace
    → (n : ℕ) × (n ≤ m) × IsUndefined (tac_run tac input n)
plan_never_index tac plan slabs serves values none index few input m trace over =
    elim (plan_ends tac plan slabs serves values none index few input m IndexExhausted trace over) [
      | inl lost ↦ lost
      | inr may ↦ absurd may
    ]

-- nor is it trapped
pub plan_never_trapped : (tac : Tac) (plan : Plan) (slabs : ℕ) → Serves tac plan slabs → HasFirstValues tac → tac.start.objects ≡ [] → (index : ℕ) → slabs ≤ 2 ^ 32
    → (input : List ℕ) (m : ℕ) (kind : TrapKind) (trace : List PoolEvent) → pool_run (code_of tac plan) slabs index input m ≡ Over (Trapped kind) trace
    → (n : ℕ) × (n ≤ m) × IsUndefined (tac_run tac input n)
plan_never_trapped tac plan slabs serves values none index few input m kind trace over =
    elim (plan_ends tac plan slabs serves values none index few input m (Trapped kind) trace over) [
      | inl lost ↦ lost
      | inr may ↦ absurd may
    ]

-- ---- with one pool

pub one_pool_simulates : (tac : Tac) → Fits tac (one_pool tac) → HasFirstValues tac → tac.start.objects ≡ [] → (slabs index : ℕ) → slabs ≤ 2 ^ 32 → (input : List ℕ)
    → SimulatesBy (pool_events slabs) (tac_run tac input) (pool_run (rewritten (one_pool tac) tac) slabs index input) 1 0
one_pool_simulates tac fits values none slabs index few input = plan_simulates tac (one_pool tac) slabs (one_pool_serves tac fits slabs) values none index few input

pub one_pool_ends : (tac : Tac) → Fits tac (one_pool tac) → HasFirstValues tac → tac.start.objects ≡ [] → (slabs index : ℕ) → slabs ≤ 2 ^ 32 → (input : List ℕ) (m : ℕ) (final : Final) (trace : List PoolEvent)
    → pool_run (rewritten (one_pool tac) tac) slabs index input m ≡ Over final trace → ((n : ℕ) × (n ≤ m) × IsUndefined (tac_run tac input n)) ⊎ MayEnd final
one_pool_ends tac fits values none slabs index few input m final trace over = plan_ends tac (one_pool tac) slabs (one_pool_serves tac fits slabs) values none index few input m final trace over

pub never_index : (tac : Tac) → Fits tac (one_pool tac) → HasFirstValues tac → tac.start.objects ≡ [] → (slabs index : ℕ) → slabs ≤ 2 ^ 32 → (input : List ℕ) (m : ℕ) (trace : List PoolEvent)
    → pool_run (rewritten (one_pool tac) tac) slabs index input m ≡ Over IndexExhausted trace → (n : ℕ) × (n ≤ m) × IsUndefined (tac_run tac input n)
never_index tac fits values none slabs index few input m trace over = plan_never_index tac (one_pool tac) slabs (one_pool_serves tac fits slabs) values none index few input m trace over

pub never_trapped : (tac : Tac) → Fits tac (one_pool tac) → HasFirstValues tac → tac.start.objects ≡ [] → (slabs index : ℕ) → slabs ≤ 2 ^ 32 → (input : List ℕ) (m : ℕ) (kind : TrapKind) (trace : List PoolEvent)
    → pool_run (rewritten (one_pool tac) tac) slabs index input m ≡ Over (Trapped kind) trace → (n : ℕ) × (n ≤ m) × IsUndefined (tac_run tac input n)
never_trapped tac fits values none slabs index few input m kind trace over =
    plan_never_trapped tac (one_pool tac) slabs (one_pool_serves tac fits slabs) values none index few input m kind trace over
