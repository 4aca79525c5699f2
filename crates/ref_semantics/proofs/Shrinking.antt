-- Evaluations never gain units: where one goes on, no more are left than before. Where each turn of a loop spends some, the loop
-- has as many turns as it needs.
use Rattle.std.proofs.Common.{◌≡◌, ℕ, zero, suc, ◌<◌, ◌≤◌, ◌++◌, Bool, true, false, if◌then◌else◌, List, [], ◌∷◌, Option, Some, None, refl, le_refl, le_trans, le_of_lt, lt_of_le_of_lt, lt_of_lt_of_le, lt-suc_self, le_of_suc-le-suc, not-suc-le-zero}
use Rattle.run_theory.specs.declared.place.Pos.{Pos}
use Rattle.run_theory.specs.declared.ends.UbKind.{UbKind}
use Rattle.run_theory.specs.Runs.{Event, Final}
use Rattle.ref_semantics.specs.Values.{Name, Content}
use Rattle.ref_semantics.specs.Store.{Objects, State, Outcome, Then, Stopped, Eval, with_content, continue_with, ◌>>=◌, give, halt, undefined, spend, tick, ticks, emit, with_objects, store_content, Premise, unless}
use Rattle.ref_semantics.specs.Meaning.{Completion, Normal, way_or, turns, loop}

-- ---- what is left

-- where an evaluation goes on, no more units are left than so many
abbrev pub Within : {A : Type 0} → ℕ → Outcome A → Type 0
Within units (Then value after) = after.units ≤ units
Within units (Stopped answer after) = Unit {0}

-- where it goes on, fewer are left
abbrev pub Below : {A : Type 0} → ℕ → Outcome A → Type 0
Below units (Then value after) = after.units < units
Below units (Stopped answer after) = Unit {0}

-- an evaluation that never gains units
pub record Shrinks {A : Type 0} (eval : Eval A) : Type 0 where
  pub from : (state : State) → Within state.units (eval state)

-- an evaluation that spends a unit wherever it goes on
pub record Spends {A : Type 0} (eval : Eval A) : Type 0 where
  pub from : (state : State) → Below state.units (eval state)

within_more : {A : Type 0} {m n : ℕ} → m ≤ n → (outcome : Outcome A) → Within m outcome → Within n outcome
within_more more (Then value after) h = le_trans h more
within_more more (Stopped answer after) h = tt

below_of_within : {A : Type 0} {m n : ℕ} → m < n → (outcome : Outcome A) → Within m outcome → Below n outcome
below_of_within more (Then value after) h = lt_of_le_of_lt h more
below_of_within more (Stopped answer after) h = tt

below_more : {A : Type 0} {m n : ℕ} → m ≤ n → (outcome : Outcome A) → Below m outcome → Below n outcome
below_more more (Then value after) h = lt_of_lt_of_le h more
below_more more (Stopped answer after) h = tt

within_of_below : {A : Type 0} (n : ℕ) (outcome : Outcome A) → Below n outcome → Within n outcome
within_of_below n (Then value after) h = le_of_lt h
within_of_below n (Stopped answer after) h = tt

pub spends_shrinks : {A : Type 0} {eval : Eval A} → Spends eval → Shrinks eval
spends_shrinks {eval = eval} h = record { from = λ state. within_of_below state.units (eval state) (h.from state) }

-- ---- one evaluation behind another

then_within : {A B : Type 0} (units : ℕ) {next : A → Eval B} → ((a : A) → Shrinks (next a)) → (outcome : Outcome A) → Within units outcome → Within units (continue_with next outcome)
then_within units {next = next} each (Then value after) h = within_more h (next value after) ((each value).from after)
then_within units each (Stopped answer after) h = tt

then_below : {A B : Type 0} (units : ℕ) {next : A → Eval B} → ((a : A) → Shrinks (next a)) → (outcome : Outcome A) → Below units outcome → Below units (continue_with next outcome)
then_below units {next = next} each (Then value after) h = below_of_within h (next value after) ((each value).from after)
then_below units each (Stopped answer after) h = tt

then_below_later : {A B : Type 0} (units : ℕ) {next : A → Eval B} → ((a : A) → Spends (next a)) → (outcome : Outcome A) → Within units outcome → Below units (continue_with next outcome)
then_below_later units {next = next} each (Then value after) h = below_more h (next value after) ((each value).from after)
then_below_later units each (Stopped answer after) h = tt

pub then_shrinks : {A B : Type 0} {first : Eval A} {next : A → Eval B} → Shrinks first → ((a : A) → Shrinks (next a)) → Shrinks (first >>= next)
then_shrinks {first = first} h each = record { from = λ state. then_within state.units each (first state) (h.from state) }

pub then_spends : {A B : Type 0} {first : Eval A} {next : A → Eval B} → Spends first → ((a : A) → Shrinks (next a)) → Spends (first >>= next)
then_spends {first = first} h each = record { from = λ state. then_below state.units each (first state) (h.from state) }

pub then_spends_later : {A B : Type 0} {first : Eval A} {next : A → Eval B} → Shrinks first → ((a : A) → Spends (next a)) → Spends (first >>= next)
then_spends_later {first = first} h each = record { from = λ state. then_below_later state.units each (first state) (h.from state) }

-- ---- the forms of evaluations

pub give_shrinks : {A : Type 0} (value : A) → Shrinks (give value)
give_shrinks value = record { from = λ state. le_refl state.units }

pub over_spends : {A : Type 0} (final : Final) → Spends (halt {A = A} final)
over_spends final = record { from = λ state. tt }

pub undefined_spends : {A : Type 0} (kind : UbKind) (here : Pos) → Spends (undefined {A = A} kind here)
undefined_spends kind here = record { from = λ state. tt }

below_spend : {A : Type 0} {rest : Eval A} → Shrinks rest → (units : ℕ) (state : State) → Below units (spend rest units state)
below_spend h zero state = tt
below_spend {rest = rest} h (suc units) state = below_of_within (lt-suc_self units) (rest (record state { units = units })) (h.from (record state { units = units }))

pub entered_spends : {A : Type 0} {rest : Eval A} → Shrinks rest → Spends (tick rest)
entered_spends h = record { from = λ state. below_spend h state.units state }

pub entered_times_shrinks : {A : Type 0} (n : ℕ) {rest : Eval A} → Shrinks rest → Shrinks (ticks n rest)
entered_times_shrinks zero h = h
entered_times_shrinks (suc n) h = spends_shrinks (entered_spends (entered_times_shrinks n h))

pub happened_shrinks : {A : Type 0} (events : List Event) {rest : Eval A} → Shrinks rest → Shrinks (emit events rest)
happened_shrinks events h = record { from = λ state. h.from (record state { trace = state.trace ++ events }) }

pub with_objects_shrinks : {A : Type 0} {next : Objects → Eval A} → ((objects : Objects) → Shrinks (next objects)) → Shrinks (with_objects next)
with_objects_shrinks each = record { from = λ state. (each state.objects).from state }

pub store_content_shrinks : {A : Type 0} (name : Name) (content : Content) {rest : Eval A} → Shrinks rest → Shrinks (store_content name content rest)
store_content_shrinks name content h = record { from = λ state. h.from (record state { objects = with_content name content state.objects }) }

pub choice_shrinks : {A : Type 0} (is_first : Bool) {first second : Eval A} → Shrinks first → Shrinks second → Shrinks (if is_first then first else second)
choice_shrinks true one other = one
choice_shrinks false one other = other

pub choice_spends : {A : Type 0} (is_first : Bool) {first second : Eval A} → Spends first → Spends second → Spends (if is_first then first else second)
choice_spends true one other = one
choice_spends false one other = other

pub unless_shrinks : {A : Type 0} (here : Pos) (premises : List Premise) {rest : Eval A} → Shrinks rest → Shrinks (unless here premises rest)
unless_shrinks here [] h = h
unless_shrinks here (first ∷ others) h = choice_shrinks first.fails (spends_shrinks (undefined_spends first.kind here)) (unless_shrinks here others h)

-- ---- loops

way_or_shrinks : (way : Option Completion) {rest : Eval Completion} → Shrinks rest → Shrinks (way_or way rest)
way_or_shrinks (Some way) h = give_shrinks way
way_or_shrinks None h = h

pub turns_shrink : {turn : Eval (Option Completion)} → Shrinks turn → (n : ℕ) → Shrinks (turns turn n)
turns_shrink h zero = give_shrinks Normal
turns_shrink h (suc n) = then_shrinks h (λ way. way_or_shrinks way (turns_shrink h n))

pub loop_shrinks : {turn : Eval (Option Completion)} → Shrinks turn → Shrinks (loop turn)
loop_shrinks h = record { from = λ state. (turns_shrink h (suc state.units)).from state }

-- what goes on alike wherever fewer units are left goes on alike behind a turn
same_behind : (rest other : Eval Completion) (units : ℕ) → ((after : State) → after.units < units → rest after ≡ other after) → (outcome : Outcome (Option Completion)) → Below units outcome → continue_with (λ way. way_or way rest) outcome ≡ continue_with (λ way. way_or way other) outcome
same_behind rest other units same (Then (Some way) after) h = refl
same_behind rest other units same (Then None after) h = same after h
same_behind rest other units same (Stopped answer after) h = refl

-- a loop needs no more turns than units are left
pub turns-enough : (turn : Eval (Option Completion)) → Spends turn → (n m : ℕ) (state : State) → state.units < n → state.units < m → turns turn n state ≡ turns turn m state
turns-enough turn h zero m state fits fits' = absurd (not-suc-le-zero fits)
turns-enough turn h (suc n) zero state fits fits' = absurd (not-suc-le-zero fits')
turns-enough turn h (suc n) (suc m) state fits fits' =
    same_behind (turns turn n) (turns turn m) state.units (λ after fewer. turns-enough turn h n m after (lt_of_lt_of_le fewer (le_of_suc-le-suc fits)) (lt_of_lt_of_le fewer (le_of_suc-le-suc fits'))) (turn state) (h.from state)

-- a loop is one turn and the loop again
pub loop-unfolds : (turn : Eval (Option Completion)) → Spends turn → (state : State) → loop turn state ≡ (turn >>= λ way. way_or way (loop turn)) state
loop-unfolds turn h state =
    same_behind (turns turn state.units) (loop turn) state.units (λ after fewer. turns-enough turn h state.units (suc after.units) after fewer (lt-suc_self after.units)) (turn state) (h.from state)
