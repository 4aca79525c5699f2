-- Runs on an input with a budget: how they end, what they leave, and when one follows another.
use Rattle.std.specs.Prelude.{◌≡◌, ℕ, zero, suc, ◌+◌, ◌*◌, ◌≤◌, ◌⊎◌, Bool, true, false, List, [], ◌∷◌, ◌++◌}
use Rattle.run_theory.specs.declared.place.Pos.{Pos}
use Rattle.run_theory.specs.declared.ends.UbKind.{UbKind}
use Rattle.run_theory.specs.declared.ends.TrapKind.{TrapKind}

-- What a run does that theorems speak of: what it writes; the calls of the program's functions, by their numbers, those of an image's
-- `start`, which is none of them, and the returns; and what becomes of the objects of the heap, by their numbers: allocations with
-- their sizes, frees, and each load and store of a scalar within one.
pub data Event : Type 0 where
  Output : (byte : ℕ) → Event
  Called : (function : ℕ) → Event
  CalledStart : Event
  Returned : Event
  Allocated : (object size : ℕ) → Event
  Freed : (object : ℕ) → Event
  Loaded : (object : ℕ) → Event
  Stored : (object : ℕ) → Event

-- the events so far, the first one first
abbrev pub Trace : Type 0
Trace = List Event

-- the bytes that a trace writes
abbrev pub output_of : Trace → List ℕ
output_of [] = []
output_of (Output byte ∷ trace) = byte ∷ output_of trace
output_of (event ∷ trace) = output_of trace

-- how a run ends
pub data Final : Type 0 where
  Ended : (status : ℕ) → Final
  DepthReached : Final
  Undefined : (kind : UbKind) (place : Pos) → Final
  HeapExhausted : Final
  IndexExhausted : Final
  Trapped : (kind : TrapKind) → Final

-- What a run answers within a budget: it is still going, or it is over, with the events so far. Runs differ in what events they have.
pub data AnswerOf (E : Type 0) : Type 0 where
  Going : (trace : List E) → AnswerOf E
  Over : (final : Final) (trace : List E) → AnswerOf E

-- an answer with the events of the reference
abbrev pub Answer : Type 0
Answer = AnswerOf Event

abbrev pub trace_of : {E : Type 0} → AnswerOf E → List E
trace_of (Going trace) = trace
trace_of (Over final trace) = trace

-- a run: its answer for each budget
abbrev pub RunOf : Type 0 → Type 0
RunOf E = ℕ → AnswerOf E

abbrev pub Run : Type 0
Run = RunOf Event

abbrev pub IsGoing : {E : Type 0} → AnswerOf E → Type 0
IsGoing (Going trace) = Unit {0}
IsGoing (Over final trace) = ⊥

abbrev pub IsOver : {E : Type 0} → AnswerOf E → Type 0
IsOver (Going trace) = ⊥
IsOver (Over final trace) = Unit {0}

-- the program's own ends
abbrev pub IsProgramEnd : Final → Type 0
IsProgramEnd (Ended status) = Unit {0}
IsProgramEnd DepthReached = Unit {0}
IsProgramEnd (Undefined kind place) = ⊥
IsProgramEnd HeapExhausted = ⊥
IsProgramEnd IndexExhausted = ⊥
IsProgramEnd (Trapped kind) = ⊥

-- a stated limit was reached
abbrev pub IsResourceEnd : Final → Type 0
IsResourceEnd (Ended status) = ⊥
IsResourceEnd DepthReached = ⊥
IsResourceEnd (Undefined kind place) = ⊥
IsResourceEnd HeapExhausted = Unit {0}
IsResourceEnd IndexExhausted = Unit {0}
IsResourceEnd (Trapped kind) = ⊥

-- the program went wrong
abbrev pub IsWrong : Final → Type 0
IsWrong (Ended status) = ⊥
IsWrong DepthReached = ⊥
IsWrong (Undefined kind place) = Unit {0}
IsWrong HeapExhausted = ⊥
IsWrong IndexExhausted = ⊥
IsWrong (Trapped kind) = ⊥

abbrev pub IsUndefined : {E : Type 0} → AnswerOf E → Type 0
IsUndefined (Going trace) = ⊥
IsUndefined (Over final trace) = IsWrong final

-- front begins whole
abbrev pub IsPrefix : {X : Type 0} → List X → List X → Type 0
IsPrefix {X} front whole = (rest : List X) × (whole ≡ front ++ rest)

-- How two runs with different events are compared: what is seen of the events in front, and of those behind; and which event a
-- limit may refuse, where a run ends so after what was seen of it.
pub record Comparison (E F C : Type 0) : Type 0 where
  pub in_front : List E → List C
  pub behind : List F → List C
  pub refuses : Final → List C → C → Bool

-- what is seen of two traces in a row is what is seen of each
abbrev pub Appends : {E C : Type 0} → (List E → List C) → Type 0
Appends {E} seen = (s t : List E) → seen (s ++ t) ≡ seen s ++ seen t

-- All events are compared, and nothing is refused: neither run has a limit.
abbrev pub all_events : {E : Type 0} → Comparison E E E
all_events = record { in_front = λ trace. trace; behind = λ trace. trace; refuses = λ final trace event. false }

-- The next event of the whole was refused: it stands behind what was seen of the run that ended so.
pub record Refused {E F C : Type 0} (by : Comparison E F C) (final : Final) (trace : List F) (whole : List C) : Type 0 where
  pub event : C
  pub refused : by.refuses final (by.behind trace) event ≡ true
  pub next : IsPrefix (by.behind trace ++ event ∷ []) whole

-- What is behind is a match of what is in front: anything, where that is undefined; the same answer, as far as its events are
-- compared; or a resource end before it, which refused the next event.
pub data MatchesBy {E F C : Type 0} (by : Comparison E F C) : AnswerOf E → AnswerOf F → Type 0 where
  wrong : (a : AnswerOf E) (b : AnswerOf F) → IsUndefined a → MatchesBy by a b
  going : (trace : List E) (trace' : List F) → by.behind trace' ≡ by.in_front trace → MatchesBy by (Going trace) (Going trace')
  ended : (final : Final) (trace : List E) (trace' : List F) → by.behind trace' ≡ by.in_front trace → IsProgramEnd final ⊎ IsResourceEnd final → MatchesBy by (Over final trace) (Over final trace')
  short : (a : AnswerOf E) (final : Final) (trace' : List F) → IsResourceEnd final → Refused by final trace' (by.in_front (trace_of a)) → MatchesBy by a (Over final trace')

abbrev pub Matches : Answer → Answer → Type 0
Matches a b = MatchesBy all_events a b

-- what a step leads to: a state, or an end, which keeps the state
pub data Move (S : Type 0) : Type 0 where
  To : (state : S) → Move S
  Halt : (final : Final) (state : S) → Move S

-- goes on after a step
abbrev pub after : {E S : Type 0} → (S → List E) → (S → AnswerOf E) → Move S → AnswerOf E
after trace go (To state) = go state
after trace go (Halt final state) = Over final (trace state)

-- the run of a machine that makes small steps
abbrev pub steps : {E S : Type 0} → (S → Move S) → (S → List E) → ℕ → S → AnswerOf E
steps act trace zero state = Going (trace state)
steps act trace (suc n) state = after trace (steps act trace n) (act state)

-- From a state some number of steps lead to a state.
pub data Leads {S : Type 0} (act : S → Move S) : S → ℕ → S → Type 0 where
  here : (state : S) → Leads act state zero state
  onward : (state next last : S) (n : ℕ) → act state ≡ To next → Leads act next n last → Leads act state (suc n) last

-- a step never takes an event back
abbrev pub KeepsTrace : {E S : Type 0} → (S → List E) → S → Move S → Type 0
KeepsTrace trace old (To new) = IsPrefix (trace old) (trace new)
KeepsTrace trace old (Halt final new) = IsPrefix (trace old) (trace new)

-- With more budget a run has the same events and perhaps more, and what is over stays over.
pub record IsRun {E : Type 0} (run : RunOf E) : Type 0 where
  pub grows : (m n : ℕ) → m ≤ n → IsPrefix (trace_of (run m)) (trace_of (run n))
  pub stays : (m n : ℕ) → m ≤ n → IsOver (run m) → run n ≡ run m

-- Behind stands for front: for each budget in front there is one behind, at most so large, with a matching answer;
-- and while both are going, the budgets behind grow past every bound.
pub record SimulatesBy {E F C : Type 0} (by : Comparison E F C) (front : RunOf E) (behind : RunOf F) (factor constant : ℕ) : Type 0 where
  pub at : ℕ → ℕ
  pub bound : (n : ℕ) → at n ≤ factor * n + constant
  pub matches : (n : ℕ) → MatchesBy by (front n) (behind (at n))
  pub pace : (m : ℕ) → (from : ℕ) × ((n : ℕ) → from ≤ n → IsGoing (front n) → IsGoing (behind (at n)) → m ≤ at n)

abbrev pub Simulates : Run → Run → ℕ → ℕ → Type 0
Simulates front behind factor constant = SimulatesBy all_events front behind factor constant

-- What is compared in front and in between, and what is compared in between and behind, makes one comparison, where what is seen
-- there leads through to what is seen here.
abbrev pub composed : {E F G C D : Type 0} → Comparison E F C → Comparison F G D → (List D → List C) → Comparison E G C
composed by by' through = record { in_front = by.in_front; behind = λ trace. through (by'.behind trace); refuses = by.refuses }

pub record Connects {E F G C D : Type 0} (by : Comparison E F C) (by' : Comparison F G D) (through : List D → List C) : Type 0 where
  pub appends : Appends through
  pub meets : (trace : List F) → by.behind trace ≡ through (by'.in_front trace)
  pub refuses : (final : Final) (trace : List D) (event : D) → by'.refuses final trace event ≡ true → (seen : C) × (by.refuses final (through trace) seen ≡ true) × (through (event ∷ []) ≡ seen ∷ [])

-- the answer is the same as far as its events are compared, or a limit was reached before it
pub data AgreesBy {E F C : Type 0} (by : Comparison E F C) : AnswerOf E → AnswerOf F → Type 0 where
  both_go_on : (trace : List E) (trace' : List F) → by.behind trace' ≡ by.in_front trace → AgreesBy by (Going trace) (Going trace')
  both_end : (final : Final) (trace : List E) (trace' : List F) → by.behind trace' ≡ by.in_front trace → AgreesBy by (Over final trace) (Over final trace')
  is_refused : (a : AnswerOf E) (final : Final) (trace' : List F) → IsResourceEnd final → Refused by final trace' (by.in_front (trace_of a)) → AgreesBy by a (Over final trace')

-- Why a run may answer so: the program goes wrong at some budget, or ends so itself, or has at least these events
-- while this run goes on, or a limit refused the program's next event.
pub data ExplainsBy {E F C : Type 0} (by : Comparison E F C) (front : RunOf E) : AnswerOf F → Type 0 where
  goes_wrong : (answer : AnswerOf F) (n : ℕ) → IsUndefined (front n) → ExplainsBy by front answer
  ends_alike : (final : Final) (trace : List E) (trace' : List F) (n : ℕ) → IsProgramEnd final ⊎ IsResourceEnd final → front n ≡ Over final trace → by.behind trace' ≡ by.in_front trace → ExplainsBy by front (Over final trace')
  is_part : (trace' : List F) (n : ℕ) → IsPrefix (by.behind trace') (by.in_front (trace_of (front n))) → ExplainsBy by front (Going trace')
  is_cut : (final : Final) (trace' : List F) (n : ℕ) → IsResourceEnd final → Refused by final trace' (by.in_front (trace_of (front n))) → ExplainsBy by front (Over final trace')

-- At most so many steps of the machine are made for a unit of a program. The bound is chosen as 64 * 257: a function has at most 256
-- pools, and 64 steps are reckoned for each of them, at an entry or a return, and for the function's own work.
abbrev pub steps_per_unit : ℕ
steps_per_unit = 16448

-- A run follows a program's: whatever the program does while it is defined, the run does within a bounded number
-- of steps, unless a limit is reached; whatever the run does, the program does, unless it goes wrong; and where the run ends at
-- a limit, this refused the program's next event, unless the program goes wrong.
pub record FollowsBy {E F C : Type 0} (by : Comparison E F C) (program : RunOf E) (run : RunOf F) : Type 0 where
  pub forward : (n : ℕ) → (IsUndefined (program n) → ⊥) → (m : ℕ) × (m ≤ steps_per_unit * (n + 1)) × AgreesBy by (program n) (run m)
  pub backward : (m : ℕ) → ExplainsBy by program (run m)
  pub exhaustion : (m : ℕ) (final : Final) (trace : List F) → IsResourceEnd final → run m ≡ Over final trace → (n : ℕ) × (IsUndefined (program n) ⊎ Refused by final trace (by.in_front (trace_of (program n))))

abbrev pub Follows : Run → Run → Type 0
Follows program run = FollowsBy all_events program run

-- a run that has no limit
abbrev pub NeverExhausts : {E : Type 0} → RunOf E → Type 0
NeverExhausts {E} run = (n : ℕ) (final : Final) (trace : List E) → IsResourceEnd final → run n ≡ Over final trace → ⊥

-- Two machines in step: from related states each step of the first is 1 to bound steps of the second, to related
-- states, and where the first halts, the second halts alike within as many steps.
pub record LocksBy {E F C S T : Type 0} (by : Comparison E F C) (act : S → Move S) (trace : S → List E) (act' : T → Move T) (trace' : T → List F) (R : S → T → Type 0) (bound : ℕ) : Type 0 where
  pub traces : (s : S) (t : T) → R s t → by.behind (trace' t) ≡ by.in_front (trace s)
  pub goes_on : (s next : S) (t : T) → R s t → act s ≡ To next → (k : ℕ) × (next' : T) × (1 ≤ k) × (k ≤ bound) × Leads act' t k next' × R next next'
  pub halts : (s last : S) (t : T) (final : Final) → R s t → act s ≡ Halt final last → IsWrong final ⊎ ((k : ℕ) × (before last' : T) × (k + 1 ≤ bound) × Leads act' t k before × (act' before ≡ Halt final last') × (by.behind (trace' last') ≡ by.in_front (trace last)) × (IsProgramEnd final ⊎ IsResourceEnd final))

abbrev pub Locks : {S T : Type 0} → (S → Move S) → (S → Trace) → (T → Move T) → (T → Trace) → (S → T → Type 0) → ℕ → Type 0
Locks act trace act' trace' R bound = LocksBy all_events act trace act' trace' R bound

-- Within so many steps the second machine halts at a limit, which refuses the next of these events.
pub record MeetsLimit {E F C T : Type 0} (by : Comparison E F C) (act : T → Move T) (trace : T → List F) (start : T) (bound : ℕ) (whole : List C) : Type 0 where
  pub taken : ℕ
  pub before : T
  pub last : T
  pub final : Final
  pub soon : taken + 1 ≤ bound
  pub leads : Leads act start taken before
  pub halts : act before ≡ Halt final last
  pub limit : IsResourceEnd final
  pub refused : Refused by final (trace last) whole

-- Two machines in step, where the second may also meet a limit that the first does not have.
pub record LocksToLimits {E F C S T : Type 0} (by : Comparison E F C) (act : S → Move S) (trace : S → List E) (act' : T → Move T) (trace' : T → List F) (R : S → T → Type 0) (bound : ℕ) : Type 0 where
  pub traces : (s : S) (t : T) → R s t → by.behind (trace' t) ≡ by.in_front (trace s)
  pub goes_on : (s next : S) (t : T) → R s t → act s ≡ To next → ((k : ℕ) × (next' : T) × (1 ≤ k) × (k ≤ bound) × Leads act' t k next' × R next next') ⊎ MeetsLimit by act' trace' t bound (by.in_front (trace next))
  pub halts : (s last : S) (t : T) (final : Final) → R s t → act s ≡ Halt final last → IsWrong final ⊎ (((k : ℕ) × (before last' : T) × (k + 1 ≤ bound) × Leads act' t k before × (act' before ≡ Halt final last') × (by.behind (trace' last') ≡ by.in_front (trace last)) × (IsProgramEnd final ⊎ IsResourceEnd final)) ⊎ MeetsLimit by act' trace' t bound (by.in_front (trace last)))
