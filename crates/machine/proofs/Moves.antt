-- Where the steps of a machine lead, and what a run answers there.
use Rattle.std.proofs.Common.{◌≡◌, ℕ, zero, suc, ◌+◌, ◌≤◌, refl, ap, ◌∙◌, arith}
use Rattle.run_theory.specs.Runs.{Trace, Final, Going, Over, Move, To, Halt, after, steps}
use Rattle.run_theory.specs.Moves.{then_move, moves, answer_of}

module _ {S : Type 0} (act : S → Move S) where
  then_move-to : (move : Move S) → then_move (λ (s : S). To s) move ≡ move
  then_move-to (To state) = refl
  then_move-to (Halt final state) = refl

  -- one step more, at the end
  pub moves-suc : (n : ℕ) (s : S) → moves act (suc n) s ≡ then_move act (moves act n s)
  moves-suc zero s = then_move-to (act s)
  moves-suc (suc n) s = go (act s) (moves-suc n)
    where
      go : (move : Move S) → ((t : S) → moves act (suc n) t ≡ then_move act (moves act n t)) → then_move (moves act (suc n)) move ≡ then_move act (then_move (moves act n) move)
      go (To t) more = more t
      go (Halt final t) more = refl

  -- some steps, and then others
  pub moves-more : (n m k : ℕ) (s t : S) (move : Move S) → k ≡ n + m → moves act n s ≡ To t → moves act m t ≡ move → moves act k s ≡ move
  moves-more zero m k s t move e here more =
      let there : To s ≡ To t = here in
      let same : s ≡ t = cc in
      let count : k ≡ m = omega (arith, e) in
      ap (λ j. moves act j s) count ∙ ap (moves act m) same ∙ more
  moves-more (suc n) m zero s t move e here more = absurd (omega (arith, e))
  moves-more (suc n) m (suc k) s t move e here more = go (act s) here (λ r h. moves-more n m k r t move (omega (arith, e)) h more)
    where
      go : (first : Move S) → then_move (moves act n) first ≡ To t → ((r : S) → moves act n r ≡ To t → moves act k r ≡ move) → then_move (moves act k) first ≡ move
      go (To r) there on = on r there
      go (Halt final r) there on = absurd cc

  -- what has halted stands still
  pub halted_stays : (m n : ℕ) (s last : S) (final : Final) → m ≤ n → moves act m s ≡ Halt final last → moves act n s ≡ Halt final last
  halted_stays zero n s last final le e = cc
  halted_stays (suc m) zero s last final le e = absurd (omega arith)
  halted_stays (suc m) (suc n) s last final le e = go (act s) e (λ t. halted_stays m n t last final (omega arith))
    where
      go : (move : Move S) → then_move (moves act m) move ≡ Halt final last → ((t : S) → moves act m t ≡ Halt final last → moves act n t ≡ Halt final last) → then_move (moves act n) move ≡ Halt final last
      go (To t) here more = more t here
      go (Halt f t) here more = here

  -- the answer of a run is that of where its steps lead
  pub steps-moves : (trace : S → Trace) (n : ℕ) (s : S) → steps act trace n s ≡ answer_of trace (moves act n s)
  steps-moves trace zero s = refl
  steps-moves trace (suc n) s = go (act s) (steps-moves trace n)
    where
      go : (move : Move S) → ((t : S) → steps act trace n t ≡ answer_of trace (moves act n t)) → after trace (steps act trace n) move ≡ answer_of trace (then_move (moves act n) move)
      go (To t) more = more t
      go (Halt final t) more = refl

  pub over_from_halt : (trace : S → Trace) (n : ℕ) (s last : S) (final : Final) → moves act n s ≡ Halt final last → steps act trace n s ≡ Over final (trace last)
  over_from_halt trace n s last final e = steps-moves trace n s ∙ ap (answer_of trace) e

  pub going_from_to : (trace : S → Trace) (n : ℕ) (s last : S) → moves act n s ≡ To last → steps act trace n s ≡ Going (trace last)
  going_from_to trace n s last e = steps-moves trace n s ∙ ap (answer_of trace) e
