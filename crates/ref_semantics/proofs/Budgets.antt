-- With more units an evaluation does the same, and perhaps more, and it never takes an event back.
use Rattle.std.proofs.Common.{◌≡◌, ℕ, zero, suc, ◌+◌, ◌++◌, Bool, true, false, if◌then◌else◌, List, [], ◌∷◌, Option, Some, None, refl, sym, ap, subst, ◌∙◌, append_assoc, append-nil, arith, lt-suc_self}
use Rattle.run_theory.specs.declared.place.Pos.{Pos}
use Rattle.run_theory.specs.declared.ends.UbKind.{UbKind}
use Rattle.run_theory.specs.Runs.{Event, Final, Trace, Going, Over, trace_of, IsPrefix}
use Rattle.ref_semantics.specs.Values.{Name, Content}
use Rattle.ref_semantics.specs.Store.{Objects, State, Outcome, Then, Stopped, Eval, with_content, continue_with, ◌>>=◌, give, halt, undefined, spend, tick, ticks, emit, with_objects, store_content, Premise, unless}
use Rattle.ref_semantics.specs.Meaning.{Completion, Normal, way_or, turns, loop}
use Rattle.ref_semantics.proofs.Shrinking.{Spends, turns-enough}

-- ---- what is longer

pub prefix_refl : (trace : Trace) → IsPrefix trace trace
prefix_refl trace = ([], sym (append-nil trace))

pub prefix_trans : (a b c : Trace) → IsPrefix a b → IsPrefix b c → IsPrefix a c
prefix_trans a b c one two = (one.0 ++ two.0, two.1 ∙ (ap (λ front. front ++ two.0) one.1 ∙ append_assoc a one.0 two.0))

pub prefix_more : (trace : Trace) (events : List Event) → IsPrefix trace (trace ++ events)
prefix_more trace events = (events, refl)

-- ---- the law

abbrev pub with_more : ℕ → State → State
with_more more state = record state { units = state.units + more }

-- the events of what an evaluation comes to
abbrev pub trace_in : {A : Type 0} → Outcome A → Trace
trace_in (Then value state) = state.trace
trace_in (Stopped answer state) = trace_of answer

-- What comes with more units is the same, but that what was going may go on; that had no unit left.
abbrev pub Later : {A : Type 0} → ℕ → Outcome A → Outcome A → Type 0
Later more (Then value state) later = later ≡ Then value (with_more more state)
Later more (Stopped (Over final trace) state) later = later ≡ Stopped (Over final trace) (with_more more state)
Later more (Stopped (Going trace) state) later = IsPrefix trace (trace_in later) × (state.units ≡ 0)

pub record Lawful {A : Type 0} (eval : Eval A) : Type 0 where
  pub later : (state : State) (more : ℕ) → Later more (eval state) (eval (with_more more state))
  pub keeps : (state : State) → IsPrefix state.trace (trace_in (eval state))

-- ---- one evaluation behind another

then_keeps : {A B : Type 0} (trace : Trace) (next : A → Eval B) → ((a : A) → Lawful (next a)) → (outcome : Outcome A) → IsPrefix trace (trace_in outcome) → IsPrefix trace (trace_in (continue_with next outcome))
then_keeps trace next each (Then value state) h = prefix_trans trace state.trace (trace_in (next value state)) h ((each value).keeps state)
then_keeps trace next each (Stopped answer state) h = h

then_later : {A B : Type 0} (more : ℕ) (next : A → Eval B) → ((a : A) → Lawful (next a)) → (outcome later : Outcome A) → Later more outcome later → Later more (continue_with next outcome) (continue_with next later)
then_later more next each (Then value state) later h = subst (λ o. Later more (next value state) (continue_with next o)) (sym h) ((each value).later state more)
then_later more next each (Stopped (Over final trace) state) later h = ap (continue_with next) h
then_later more next each (Stopped (Going trace) state) later h = (then_keeps trace next each later h.0, h.1)

pub then_lawful : {A B : Type 0} {first : Eval A} {next : A → Eval B} → Lawful first → ((a : A) → Lawful (next a)) → Lawful (first >>= next)
then_lawful {first = first} {next = next} h each = record {
  later = λ state more. then_later more next each (first state) (first (with_more more state)) (h.later state more);
  keeps = λ state. then_keeps state.trace next each (first state) (h.keeps state);
}

-- ---- the forms of evaluations

pub give_lawful : {A : Type 0} (value : A) → Lawful (give value)
give_lawful value = record { later = λ state more. refl; keeps = λ state. prefix_refl state.trace }

pub over_lawful : {A : Type 0} (final : Final) → Lawful (halt {A = A} final)
over_lawful final = record { later = λ state more. refl; keeps = λ state. prefix_refl state.trace }

pub undefined_lawful : {A : Type 0} (kind : UbKind) (here : Pos) → Lawful (undefined {A = A} kind here)
undefined_lawful kind here = record { later = λ state more. refl; keeps = λ state. prefix_refl state.trace }

spend_keeps : {A : Type 0} {rest : Eval A} → Lawful rest → (units : ℕ) (state : State) → IsPrefix state.trace (trace_in (spend rest units state))
spend_keeps h zero state = prefix_refl state.trace
spend_keeps h (suc units) state = h.keeps (record state { units = units })

spend_later : {A : Type 0} (rest : Eval A) → Lawful rest → (units : ℕ) (state : State) (more : ℕ) → state.units ≡ units → Later more (spend rest units state) (spend rest (units + more) (with_more more state))
spend_later rest h zero state more e = (spend_keeps h (0 + more) (with_more more state), e)
spend_later rest h (suc units) state more e = subst (λ left. Later more (rest (record state { units = units })) (spend rest left (with_more more state))) (sum units more) (h.later (record state { units = units }) more)
  where
    sum : (a b : ℕ) → suc (a + b) ≡ suc a + b
    sum a b = omega (arith)

pub entered_lawful : {A : Type 0} {rest : Eval A} → Lawful rest → Lawful (tick rest)
entered_lawful {rest = rest} h = record { later = λ state more. spend_later rest h state.units state more refl; keeps = λ state. spend_keeps h state.units state }

pub entered_times_lawful : {A : Type 0} (n : ℕ) {rest : Eval A} → Lawful rest → Lawful (ticks n rest)
entered_times_lawful zero h = h
entered_times_lawful (suc n) h = entered_lawful (entered_times_lawful n h)

pub happened_lawful : {A : Type 0} (events : List Event) {rest : Eval A} → Lawful rest → Lawful (emit events rest)
happened_lawful events {rest} h = record {
  later = λ state more. h.later (record state { trace = state.trace ++ events }) more;
  keeps = λ state. prefix_trans state.trace (state.trace ++ events) (trace_in (emit events rest state)) (prefix_more state.trace events) (h.keeps (record state { trace = state.trace ++ events }));
}

pub with_objects_lawful : {A : Type 0} {next : Objects → Eval A} → ((objects : Objects) → Lawful (next objects)) → Lawful (with_objects next)
with_objects_lawful each = record { later = λ state more. (each state.objects).later state more; keeps = λ state. (each state.objects).keeps state }

pub store_content_lawful : {A : Type 0} (name : Name) (content : Content) {rest : Eval A} → Lawful rest → Lawful (store_content name content rest)
store_content_lawful name content h = record {
  later = λ state more. h.later (record state { objects = with_content name content state.objects }) more;
  keeps = λ state. h.keeps (record state { objects = with_content name content state.objects });
}

pub choice_lawful : {A : Type 0} (is_first : Bool) {first second : Eval A} → Lawful first → Lawful second → Lawful (if is_first then first else second)
choice_lawful true one other = one
choice_lawful false one other = other

pub unless_lawful : {A : Type 0} (here : Pos) (premises : List Premise) {rest : Eval A} → Lawful rest → Lawful (unless here premises rest)
unless_lawful here [] h = h
unless_lawful here (first ∷ others) h = choice_lawful first.fails (undefined_lawful first.kind here) (unless_lawful here others h)

-- ---- loops

pub way_or_lawful : (way : Option Completion) {rest : Eval Completion} → Lawful rest → Lawful (way_or way rest)
way_or_lawful (Some way) h = give_lawful way
way_or_lawful None h = h

turns_lawful : {turn : Eval (Option Completion)} → Lawful turn → (n : ℕ) → Lawful (turns turn n)
turns_lawful h zero = give_lawful Normal
turns_lawful h (suc n) = then_lawful h (λ way. way_or_lawful way (turns_lawful h n))

-- a loop has as many turns as it needs
pub loop_lawful : {turn : Eval (Option Completion)} → Spends turn → Lawful turn → Lawful (loop turn)
loop_lawful {turn} spends h = record {
  later = λ state more.
      subst (λ outcome. Later more outcome (loop turn (with_more more state))) (enough state more) ((turns_lawful h (suc (state.units + more))).later state more);
  keeps = λ state. (turns_lawful h (suc state.units)).keeps state;
}
  where
    enough : (state : State) (more : ℕ) → turns turn (suc (state.units + more)) state ≡ loop turn state
    enough state more = turns-enough turn spends (suc (state.units + more)) (suc state.units) state (omega (arith)) (lt-suc_self state.units)
