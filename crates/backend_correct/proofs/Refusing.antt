-- What simulates where nothing may be refused does so where something may.
use Rattle.std.proofs.Common.{ℕ, Bool, false, List}
use Rattle.std.proofs.lemmas.Bool.{false≢true}
use Rattle.run_theory.specs.Runs.{Final, AnswerOf, RunOf, Comparison, MatchesBy, wrong, going, ended, short, SimulatesBy}

module _ {E F C : Type 0} (front_of : List E → List C) (behind_of : List F → List C) (refuses : Final → List C → C → Bool) where
  abbrev pub without : Comparison E F C
  without = record { in_front = front_of; behind = behind_of; refuses = λ final trace event. false }

  abbrev pub with_refusals : Comparison E F C
  with_refusals = record { in_front = front_of; behind = behind_of; refuses = refuses }

  matches_with : (a : AnswerOf E) (b : AnswerOf F) → MatchesBy without a b → MatchesBy with_refusals a b
  matches_with a b (wrong _ _ is) = wrong a b is
  matches_with _ _ (going trace trace' same) = going trace trace' same
  matches_with _ _ (ended final trace trace' same kind) = ended final trace trace' same kind
  matches_with a _ (short _ final trace' limit refused) = absurd (false≢true refused.refused)

  pub simulates_with : (front : RunOf E) (behind : RunOf F) (factor constant : ℕ) → SimulatesBy without front behind factor constant → SimulatesBy with_refusals front behind factor constant
  simulates_with front behind factor constant simulates = record {
    at = simulates.at;
    bound = simulates.bound;
    matches = λ n. matches_with (front n) (behind (simulates.at n)) (simulates.matches n);
    pace = simulates.pace;
  }
