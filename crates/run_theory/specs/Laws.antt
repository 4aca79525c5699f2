-- The laws of runs, each as one statement over all of them.
use Rattle.std.specs.Prelude.{◌≡◌, ℕ, ◌+◌, ◌*◌, ◌≤◌, ◌⊎◌, Bool, IsTrue, List}
use Rattle.run_theory.specs.declared.ends.TrapKind.{TrapKind}
use Rattle.run_theory.specs.Runs.{Trace, output_of, Final, Trapped, Over, trace_of, RunOf, Run, IsUndefined, IsProgramEnd, IsPrefix, Comparison, Appends, Move, steps, KeepsTrace, IsRun, SimulatesBy, composed, Connects, ExplainsBy, steps_per_unit, FollowsBy, Follows, NeverExhausts, LocksBy, LocksToLimits}

-- A machine that never takes an event back is a run from each state.
abbrev pub MachineIsRun : Type 0 → Type 0 → Type 0
MachineIsRun E S =
    (act : S → Move S) (trace : S → List E) →
    ((s : S) → KeepsTrace trace s (act s)) →
    (s : S) → IsRun (λ n. steps act trace n s)

-- Simulations compose, within any bound that covers both of theirs, and whatever events are compared, where one comparison
-- connects with the other.
abbrev pub Composition : Type 0 → Type 0 → Type 0 → Type 0 → Type 0 → Type 0
Composition E F G C D =
    (by : Comparison E F C) (by' : Comparison F G D) (through : List D → List C) →
    Connects by by' through →
    (front : RunOf E) (between : RunOf F) (behind : RunOf G) (factor constant factor' constant' factor'' constant'' : ℕ) →
    SimulatesBy by front between factor constant →
    SimulatesBy by' between behind factor' constant' →
    ((n j : ℕ) → j ≤ factor * n + constant → factor' * j + constant' ≤ factor'' * n + constant'') →
    SimulatesBy (composed by by' through) front behind factor'' constant''

-- Of two machines in step the second simulates the first, from related states. (Here a test says which are related; the
-- lemmas `locked` and `locked_to_limits` say the same of any relation.)
abbrev pub StepsSimulate : Type 0 → Type 0 → Type 0 → Type 0 → Type 0 → Type 0
StepsSimulate E F C S T =
    (by : Comparison E F C) (act : S → Move S) (trace : S → List E) (act' : T → Move T) (trace' : T → List F) (related : S → T → Bool) (bound : ℕ) →
    LocksBy by act trace act' trace' (λ s t. IsTrue (related s t)) bound →
    (s : S) (t : T) → IsTrue (related s t) →
    SimulatesBy by (λ n. steps act trace n s) (λ n. steps act' trace' n t) bound 0

-- The same where the second may meet limits that the first does not have.
abbrev pub StepsSimulateToLimits : Type 0 → Type 0 → Type 0 → Type 0 → Type 0 → Type 0
StepsSimulateToLimits E F C S T =
    (by : Comparison E F C) → Appends by.in_front →
    (act : S → Move S) (trace : S → List E) (act' : T → Move T) (trace' : T → List F) (related : S → T → Bool) (bound : ℕ) →
    ((s : S) → KeepsTrace trace s (act s)) →
    LocksToLimits by act trace act' trace' (λ s t. IsTrue (related s t)) bound →
    (s : S) (t : T) → IsTrue (related s t) →
    SimulatesBy by (λ n. steps act trace n s) (λ n. steps act' trace' n t) bound 0

-- What a run does that simulates a program, the program does, unless it goes wrong.
abbrev pub ReverseDirection : Type 0 → Type 0 → Type 0 → Type 0
ReverseDirection E F C =
    (by : Comparison E F C) → Appends by.behind →
    (front : RunOf E) (behind : RunOf F) (factor constant : ℕ) →
    SimulatesBy by front behind factor constant → IsRun behind →
    (m : ℕ) → ExplainsBy by front (behind m)

-- A run follows a program without limits that it simulates within the stated bound.
abbrev pub SimulationFollows : Type 0 → Type 0 → Type 0 → Type 0
SimulationFollows E F C =
    (by : Comparison E F C) → Appends by.behind →
    (program : RunOf E) (run : RunOf F) (factor constant : ℕ) →
    SimulatesBy by program run factor constant → IsRun run → NeverExhausts program →
    ((n : ℕ) → factor * n + constant ≤ steps_per_unit * (n + 1)) →
    FollowsBy by program run

-- Where a run that follows a program ends as a program does, the program ends so, or goes wrong.
abbrev pub EndsAreThePrograms : Type 0
EndsAreThePrograms =
    (program run : Run) → Follows program run →
    (m : ℕ) (final : Final) (trace : Trace) → IsProgramEnd final → run m ≡ Over final trace →
    (n : ℕ) × (IsUndefined (program n) ⊎ (program n ≡ Over final trace))

-- Where it traps, the program goes wrong.
abbrev pub TrapsAreUndefined : Type 0
TrapsAreUndefined =
    (program run : Run) → Follows program run →
    (m : ℕ) (kind : TrapKind) (trace : Trace) → run m ≡ Over (Trapped kind) trace →
    (n : ℕ) × IsUndefined (program n)

-- All that it writes, the program writes, or goes wrong.
abbrev pub OutputIsThePrograms : Type 0
OutputIsThePrograms =
    (program run : Run) → Follows program run →
    (m : ℕ) → (n : ℕ) × (IsUndefined (program n) ⊎ IsPrefix (output_of (trace_of (run m))) (output_of (trace_of (program n))))
