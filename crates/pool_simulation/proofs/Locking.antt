-- Code with pools goes in step with three-address code, given that each step does: so its run simulates that of three-address code.
use Rattle.std.proofs.Common.{◌≡◌, ℕ, ◌+◌, ◌≤◌, ◌⊎◌, inl, inr, refl, subst, arith}
use Rattle.run_theory.specs.Runs.{Final, HeapExhausted, Move, To, Halt, Leads, here, onward, IsProgramEnd, IsResourceEnd, IsWrong, Refused, MeetsLimit, LocksToLimits, SimulatesBy, steps}
use Rattle.run_theory.proofs.Machines.{locked_to_limits}
use Rattle.tac_ir.specs.States as T
use Rattle.tac_ir.specs.Meaning.{act}
use Rattle.tac_ir.specs.Code.{Tac}
use Rattle.tac_ir.proofs.Activations.{IsStacked, stacked_next}
use Rattle.tac_ir.proofs.Traces.{keeps_trace}
use Rattle.pool_ir.specs.States as P
use Rattle.pool_ir.specs.Meaning as M
use Rattle.pool_rewrite.specs.Plan.{Plan}
use Rattle.pool_simulation.specs.Comparing.{pool_events}
use Rattle.pool_simulation.specs.InStep.{InStep}
use Rattle.pool_simulation.specs.Serving.{code_of, Serves}
use Rattle.pool_simulation.proofs.Stepping.{StepDoes, to_next, to_end, to_wrong, to_refusal}

module _ (tac : Tac) (plan : Plan) (slabs : ℕ) (serves : Serves tac plan slabs) where
  -- what holds of two states at every step
  abbrev pub Related : T.State → P.State → Type 0
  Related state machine = IsStacked tac state × InStep tac plan slabs state machine × serves.Knows state machine

  abbrev Goes : T.State → P.State → Type 0
  Goes next machine =
      ((k : ℕ) × (later : P.State) × (1 ≤ k) × (k ≤ 1) × Leads (M.act (code_of tac plan)) machine k later × Related next later)
      ⊎ MeetsLimit (pool_events slabs) (M.act (code_of tac plan)) (λ (s : P.State). s.trace) machine 1 next.trace

  goes_by : (state next : T.State) (machine : P.State) → Related state machine → act tac state ≡ To next → (move : Move T.State) (does : Move P.State) → StepDoes tac plan slabs state machine move does → move ≡ To next
      → M.act (code_of tac plan) machine ≡ does → Goes next machine
  goes_by state next machine kept own move does (to_next reached later in_step does_pools) e is =
      let same : reached ≡ next = cc in
      let now = subst (λ s. InStep tac plan slabs s later) same in_step in
      inl (1, later, omega arith, omega arith, onward machine later later 0 is (here later), (stacked_next tac state next kept.0 own, now, serves.kept state next machine later kept.1 kept.2 own does_pools now))
  goes_by state next machine kept own move does (to_end final last later same program) e is = absurd (cc)
  goes_by state next machine kept own move does (to_wrong final last _ w) e is = absurd (cc)
  goes_by state next machine kept own move does (to_refusal reached later event) e is =
      let same : reached ≡ next = cc in
      inr (record {
        taken = 0;
        before = machine;
        last = later;
        final = HeapExhausted;
        soon = omega arith;
        leads = here machine;
        halts = is;
        limit = tt;
        refused = subst (λ (s : T.State). Refused (pool_events slabs) HeapExhausted later.trace s.trace) same event;
      })

  abbrev Halts : Final → T.State → P.State → Type 0
  Halts final last machine =
      IsWrong final
      ⊎ (((k : ℕ) × (before later : P.State) × (k + 1 ≤ 1) × Leads (M.act (code_of tac plan)) machine k before × (M.act (code_of tac plan) before ≡ Halt final later) × (P.same later.trace ≡ last.trace)
      × (IsProgramEnd final ⊎ IsResourceEnd final))
      ⊎ MeetsLimit (pool_events slabs) (M.act (code_of tac plan)) (λ (s : P.State). s.trace) machine 1 last.trace)

  halts_by : (state : T.State) (final : Final) (last : T.State) (machine : P.State) (move : Move T.State) (does : Move P.State) → StepDoes tac plan slabs state machine move does → move ≡ Halt final last → M.act (code_of tac plan) machine ≡ does
      → Halts final last machine
  halts_by state final last machine move does (to_next reached later in_step does_pools) e is = absurd (cc)
  halts_by state final last machine move does (to_end own kept later same program) e is =
      let one : own ≡ final = cc in
      let two : kept ≡ last = cc in
      subst (λ f. Halts f last machine) one (subst (λ s. Halts own s machine) two (inr (inl (0, machine, later, omega arith, here machine, is, same, inl program))))
  halts_by state final last machine move does (to_wrong own kept _ w) e is =
      let one : own ≡ final = cc in
      inl (subst IsWrong one w)
  halts_by state final last machine move does (to_refusal reached later event) e is = absurd (cc)

  module _ (step : (state : T.State) (machine : P.State) → Related state machine → StepDoes tac plan slabs state machine (act tac state) (M.act (code_of tac plan) machine)) where
    locks : LocksToLimits (pool_events slabs) (act tac) (λ (s : T.State). s.trace) (M.act (code_of tac plan)) (λ (s : P.State). s.trace) Related 1
    locks =
        record {
          traces = λ state machine related. related.1.trace;
          goes_on = λ state next machine related own. goes_by state next machine related own (act tac state) (M.act (code_of tac plan) machine) (step state machine related) own refl;
          halts = λ state last machine final related own. halts_by state final last machine (act tac state) (M.act (code_of tac plan) machine) (step state machine related) own refl;
        }

    pub steps_simulate : (state : T.State) (machine : P.State) → Related state machine
        → SimulatesBy (pool_events slabs) (λ n. steps (act tac) (λ (s : T.State). s.trace) n state) (λ n. steps (M.act (code_of tac plan)) (λ (s : P.State). s.trace) n machine) 1 0
    steps_simulate state machine related =
        locked_to_limits (pool_events slabs) (act tac) (λ (s : T.State). s.trace) (M.act (code_of tac plan)) (λ (s : P.State). s.trace) Related 1 (λ s t. refl) (keeps_trace tac) locks state machine related
