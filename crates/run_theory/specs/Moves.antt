-- Where the steps of a machine lead, its state included.
use Rattle.std.specs.Prelude.{ℕ, zero, suc, List}
use Rattle.run_theory.specs.Runs.{AnswerOf, Going, Over, Move, To, Halt}

-- goes on after a step, unless the machine has halted
abbrev pub then_move : {S : Type 0} → (S → Move S) → Move S → Move S
then_move go (To state) = go state
then_move go (Halt final state) = Halt final state

-- where n steps lead; a machine that has halted stands still
abbrev pub moves : {S : Type 0} → (S → Move S) → ℕ → S → Move S
moves act zero state = To state
moves act (suc n) state = then_move (moves act n) (act state)

-- the answer of a run that has come there
abbrev pub answer_of : {E S : Type 0} → (S → List E) → Move S → AnswerOf E
answer_of trace (To state) = Going (trace state)
answer_of trace (Halt final state) = Over final (trace state)
