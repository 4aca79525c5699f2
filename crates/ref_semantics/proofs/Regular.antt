-- Evaluations that never gain units, do the same with more units, and never take an event back.
use Rattle.std.proofs.Common.{ℕ, Bool, if◌then◌else◌, List, Option}
use Rattle.run_theory.specs.declared.place.Pos.{Pos}
use Rattle.run_theory.specs.declared.ends.UbKind.{UbKind}
use Rattle.run_theory.specs.Runs.{Event, Final}
use Rattle.ref_semantics.specs.Store.{Eval, ◌>>=◌, give, halt, undefined, tick, ticks, emit}
use Rattle.ref_semantics.specs.Meaning.{Completion, loop}
use Rattle.ref_semantics.proofs.Shrinking.{Shrinks, Spends, spends_shrinks, then_shrinks, then_spends, give_shrinks, over_spends, undefined_spends, entered_spends, entered_times_shrinks, happened_shrinks, choice_shrinks, loop_shrinks}
use Rattle.ref_semantics.proofs.Budgets.{Lawful, then_lawful, give_lawful, over_lawful, undefined_lawful, entered_lawful, entered_times_lawful, happened_lawful, choice_lawful, loop_lawful}

pub record Regular {A : Type 0} (eval : Eval A) : Type 0 where
  pub shrinks : Shrinks eval
  pub lawful : Lawful eval

-- one that spends a unit wherever it goes on
pub record Strict {A : Type 0} (eval : Eval A) : Type 0 where
  pub spends : Spends eval
  pub lawful : Lawful eval

pub strict_regular : {A : Type 0} {eval : Eval A} → Strict eval → Regular eval
strict_regular h = record { shrinks = spends_shrinks h.spends; lawful = h.lawful }

pub then_regular : {A B : Type 0} {first : Eval A} {next : A → Eval B} → Regular first → ((a : A) → Regular (next a)) → Regular (first >>= next)
then_regular h each = record { shrinks = then_shrinks h.shrinks (λ a. (each a).shrinks); lawful = then_lawful h.lawful (λ a. (each a).lawful) }

pub then_strict : {A B : Type 0} {first : Eval A} {next : A → Eval B} → Strict first → ((a : A) → Regular (next a)) → Strict (first >>= next)
then_strict h each = record { spends = then_spends h.spends (λ a. (each a).shrinks); lawful = then_lawful h.lawful (λ a. (each a).lawful) }

pub give_regular : {A : Type 0} (value : A) → Regular (give value)
give_regular value = record { shrinks = give_shrinks value; lawful = give_lawful value }

pub over_strict : {A : Type 0} (final : Final) → Strict (halt {A = A} final)
over_strict final = record { spends = over_spends final; lawful = over_lawful final }

pub undefined_strict : {A : Type 0} (kind : UbKind) (here : Pos) → Strict (undefined {A = A} kind here)
undefined_strict kind here = record { spends = undefined_spends kind here; lawful = undefined_lawful kind here }

pub entered_strict : {A : Type 0} {rest : Eval A} → Regular rest → Strict (tick rest)
entered_strict h = record { spends = entered_spends h.shrinks; lawful = entered_lawful h.lawful }

pub entered_times_regular : {A : Type 0} (n : ℕ) {rest : Eval A} → Regular rest → Regular (ticks n rest)
entered_times_regular n h = record { shrinks = entered_times_shrinks n h.shrinks; lawful = entered_times_lawful n h.lawful }

pub happened_regular : {A : Type 0} (events : List Event) {rest : Eval A} → Regular rest → Regular (emit events rest)
happened_regular events h = record { shrinks = happened_shrinks events h.shrinks; lawful = happened_lawful events h.lawful }

pub choice_regular : {A : Type 0} (is_first : Bool) {first second : Eval A} → Regular first → Regular second → Regular (if is_first then first else second)
choice_regular is_first one other = record { shrinks = choice_shrinks is_first one.shrinks other.shrinks; lawful = choice_lawful is_first one.lawful other.lawful }

-- a loop has as many turns as it needs
pub loop_regular : {turn : Eval (Option Completion)} → Strict turn → Regular (loop turn)
loop_regular h = record { shrinks = loop_shrinks (spends_shrinks h.spends); lawful = loop_lawful h.spends h.lawful }
