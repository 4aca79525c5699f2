-- Three-address code has no limit: no run of it ends at one.
use Rattle.std.proofs.Common.{◌≡◌, ℕ, zero, suc, List, sym, subst}
use Rattle.run_theory.specs.Runs.{Final, Over, Move, after, steps, IsResourceEnd, NeverExhausts}
use Rattle.run_theory.proofs.Simulations.{final_of}
use Rattle.tac_ir.specs.Events.{TacEvent}
use Rattle.tac_ir.specs.States.{State}
use Rattle.tac_ir.specs.Meaning.{act}
use Rattle.tac_ir.specs.First.{initial, tac_run}
use Rattle.tac_ir.specs.Code.{Tac}
use Rattle.tac_ir.proofs.Steps.{Keeps, goes_on, halts, step_keeps}

of_steps : (tac : Tac) (n : ℕ) (state : State) (final : Final) (trace : List TacEvent) → IsResourceEnd final → steps (act tac) (λ s. s.trace) n state ≡ Over final trace → ⊥
of_steps tac zero state final trace r e = absurd (cc)
of_steps tac (suc n) state final trace r e = go (act tac state) (step_keeps tac state) (λ next. of_steps tac n next final trace r) e
  where
    go : (move : Move State) → Keeps state.trace move → ((next : State) → steps (act tac) (λ s. s.trace) n next ≡ Over final trace → ⊥) → after (λ s. s.trace) (steps (act tac) (λ s. s.trace) n) move ≡ Over final trace → ⊥
    go move (goes_on next kept) rest same = rest next same
    go move (halts final' last kept none) rest same = none (subst IsResourceEnd (sym (final_of same)) r)

pub never_exhausts : (tac : Tac) (input : List ℕ) → NeverExhausts (tac_run tac input)
never_exhausts tac input n final trace r e = of_steps tac n (initial tac input) final trace r e
