-- What simulates by code with pools does so, too, where that is undefined instead of trapped: a trap matches only what is lost.
use Rattle.std.proofs.Common.{◌≡◌, ℕ, zero, suc, ◌⊎◌, inl, inr, List, refl, sym, subst}
use Rattle.run_theory.specs.Places.{first_place}
use Rattle.run_theory.specs.declared.ends.UbKind.TheVariants as Ub
use Rattle.run_theory.specs.Runs.{Final, Ended, DepthReached, Undefined, HeapExhausted, IndexExhausted, Trapped, AnswerOf, Going, Over, IsGoing, IsProgramEnd, IsResourceEnd, Move, To, Halt, after, steps, RunOf, Comparison, MatchesBy, wrong, going, ended, short, SimulatesBy}
use Rattle.pool_ir.specs.Code.{PoolCode}
use Rattle.pool_ir.specs.States as P
use Rattle.pool_ir.specs.States.{PoolEvent}
use Rattle.pool_ir.specs.Meaning.{act, begun, from_start, initial, pool_run}
use Rattle.stack_code.specs.Following.{unless_trapped, defined_act, defined_run}

abbrev pub defined : Final → Final
defined (Ended status) = Ended status
defined DepthReached = DepthReached
defined (Undefined kind place) = Undefined kind place
defined HeapExhausted = HeapExhausted
defined IndexExhausted = IndexExhausted
defined (Trapped kind) = Undefined Ub.U04 first_place

abbrev pub untrapped : {E : Type 0} → AnswerOf E → AnswerOf E
untrapped (Going trace) = Going trace
untrapped (Over final trace) = Over (defined final) trace

-- the ends of programs and limits are no traps
defined_end : (final : Final) → IsProgramEnd final ⊎ IsResourceEnd final → defined final ≡ final
defined_end (Ended status) kind = refl
defined_end DepthReached kind = refl
defined_end (Undefined kind place) is = refl
defined_end HeapExhausted kind = refl
defined_end IndexExhausted kind = refl
defined_end (Trapped kind) (inl is) = absurd is
defined_end (Trapped kind) (inr is) = absurd is

module _ {E F C : Type 0} (by : Comparison E F C) where
  matches_untrapped : (a : AnswerOf E) (b : AnswerOf F) → MatchesBy by a b → MatchesBy by a (untrapped b)
  matches_untrapped a b (wrong _ _ is) = wrong a (untrapped b) is
  matches_untrapped _ _ (going trace trace' same) = going trace trace' same
  matches_untrapped _ _ (ended final trace trace' same kind) =
      subst (λ (own : Final). MatchesBy by (Over final trace) (Over own trace')) (sym (defined_end final kind)) (ended final trace trace' same kind)
  matches_untrapped a _ (short _ final trace' limit refused) =
      subst (λ (own : Final). MatchesBy by a (Over own trace')) (sym (defined_end final (inr limit))) (short a final trace' limit refused)

  going_untrapped : (b : AnswerOf F) → IsGoing (untrapped b) → IsGoing b
  going_untrapped (Going trace) is = tt
  going_untrapped (Over final trace) is = absurd is

  simulates_untrapped : (front : RunOf E) (behind other : RunOf F) (factor constant : ℕ) → ((n : ℕ) → other n ≡ untrapped (behind n)) → SimulatesBy by front behind factor constant → SimulatesBy by front other factor constant
  simulates_untrapped front behind other factor constant same simulates = record {
    at = simulates.at;
    bound = simulates.bound;
    matches = λ n. subst (MatchesBy by (front n)) (sym (same (simulates.at n))) (matches_untrapped (front n) (behind (simulates.at n)) (simulates.matches n));
    pace = λ m.
        let own = simulates.pace m in
        (own.0, λ n far goes goes_behind. own.1 n far goes (going_untrapped (behind (simulates.at n)) (subst IsGoing (same (simulates.at n)) goes_behind)));
  }

-- ---- code with pools

module _ (code : PoolCode) where
  abbrev own_steps : ℕ → P.State → AnswerOf PoolEvent
  own_steps n state = steps (act code) (λ (s : P.State). s.trace) n state

  abbrev defined_steps : ℕ → P.State → AnswerOf PoolEvent
  defined_steps n state = steps (defined_act code) (λ (s : P.State). s.trace) n state

  move_untrapped : (n : ℕ) → ((state : P.State) → defined_steps n state ≡ untrapped (own_steps n state)) → (move : Move P.State)
      → after (λ (s : P.State). s.trace) (defined_steps n) (unless_trapped move) ≡ untrapped (after (λ (s : P.State). s.trace) (own_steps n) move)
  move_untrapped n later (To next) = later next
  move_untrapped n later (Halt (Ended status) last) = refl
  move_untrapped n later (Halt DepthReached last) = refl
  move_untrapped n later (Halt (Undefined kind place) last) = refl
  move_untrapped n later (Halt HeapExhausted last) = refl
  move_untrapped n later (Halt IndexExhausted last) = refl
  move_untrapped n later (Halt (Trapped kind) last) = refl

  steps_untrapped : (n : ℕ) (state : P.State) → defined_steps n state ≡ untrapped (own_steps n state)
  steps_untrapped zero state = refl
  steps_untrapped (suc n) state = move_untrapped n (steps_untrapped n) (act code state)

  pub simulates_defined : {E C : Type 0} (by : Comparison E PoolEvent C) (front : RunOf E) (slabs index : ℕ) (input : List ℕ) (factor constant : ℕ) → SimulatesBy by front (pool_run code slabs index input) factor constant
      → SimulatesBy by front (defined_run code slabs index input) factor constant
  simulates_defined by front slabs index input factor constant simulates =
      let first = initial code slabs index input in
      simulates_untrapped by front (pool_run code slabs index input) (defined_run code slabs index input) factor constant (λ n. steps_untrapped n (begun code (from_start code first) first)) simulates
