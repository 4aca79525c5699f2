-- Behind a function's parameters its body runs: the unit of the function is spent, and the body does what is shown of blocks.
use Rattle.std.proofs.Common.{ℕ, zero, suc, ◌+◌, ◌*◌, ◌<◌, ◌≤◌, List, [], Option, refl}
use Rattle.run_theory.specs.Runs.{Going}
use Rattle.c_typed.specs.Typed.{Block, Program}
use Rattle.ref_semantics.specs.Values as V
use Rattle.ref_semantics.specs.Store as S
use Rattle.ref_semantics.specs.Store.{Outcome, continue_with, spend, tick}
use Rattle.ref_semantics.specs.Meaning as Meaning
use Rattle.ref_semantics.specs.Meaning.{Calls, Completion}
use Rattle.ref_semantics.specs.First.{around_of}
use Rattle.ref_semantics.proofs.Lasting.{aside_keeps}
use Rattle.tac_ir.specs.Code.{Op, Tac}
use Rattle.tac_ir.specs.States.{State}
use Rattle.tac_build.specs.Homes.{Scope}
use Rattle.tac_build.specs.StatementCode.{Ways}
use Rattle.tac_simulation.specs.Comparing.{ticks_per_unit}
use Rattle.tac_simulation.specs.Standing.{Placement, Frame}
use Rattle.tac_simulation.proofs.Paths.{Passage as Passing, Does, comes, stops, allows, comes_seen}
use Rattle.tac_simulation.proofs.Spotting.{Runs, at_units}
use Rattle.tac_simulation.proofs.Evaluating.{AtSpot}
use Rattle.tac_simulation.proofs.Executing.{Extends, Begun, LeavesWithin}
use Rattle.tac_simulation.proofs.Paid.{repaid, body_paid}

module _ (tac : Tac) (program : Program) (inner : Calls) (worth : ℕ) (points : List Op) (hidden : ℕ → Option V.Content) (frame : Frame) (runs : Runs tac program points frame) where
  -- The body has run from where the parameters were bound.
  pub record Ran (count : ℕ) (placement : Placement) (parameters : Scope) (onward : ℕ) (ways : Ways program points) (way : Completion) (s : S.State) (t : State) : Type 0 where
    pub bound : Placement
    pub newest : ℕ
    pub outer : List ℕ
    pub newer : count ≤ newest
    pub extends : Extends frame count placement bound
    pub left : LeavesWithin tac program inner worth points hidden frame newest outer bound parameters onward ways way s t

  spot_units : (placement : Placement) (scope : Scope) (at left : ℕ) (s : S.State) (t : State) → AtSpot tac program inner worth points placement hidden frame scope at s t
      → AtSpot tac program inner worth points placement hidden frame scope at (record s { units = left }) t
  spot_units placement scope at left s t h = record {
    stands = at_units tac program points placement hidden frame scope runs at s t left h.stands;
    sound = (aside_keeps (record s { units = left }) h.sound refl refl refl refl).sound;
  }

  -- What binding the parameters does is given twice: once with what the point of the call paid for.
  pub body_runs : (start : State) (n lag slack units count : ℕ) (outer : List ℕ) (placement : Placement) (parameters : Scope) (at onward : ℕ) (ways : Ways program points) (body : Block) (outcome : Outcome Completion)
      → Does tac worth start (n + worth) lag (slack + ticks_per_unit * worth) (Begun tac program inner worth points hidden frame count outer placement [] parameters at) outcome
      → Does tac worth start n lag slack (Begun tac program inner worth points hidden frame count outer placement [] parameters at) outcome
      → ((bound : Placement) (s : S.State) (t : State) → AtSpot tac program inner worth points bound hidden frame parameters at s t
      → Does tac worth t s.units units 0 (LeavesWithin tac program inner worth points hidden frame s.next_local s.locals bound parameters onward ways) (Meaning.block (around_of program) inner body s))
      → units < worth
      → Does tac worth start n lag (slack + ticks_per_unit) (Ran count placement parameters onward ways) (continue_with (λ way. tick (Meaning.block (around_of program) inner body)) outcome)
  body_runs start n lag slack units count outer placement parameters at onward ways body _ paid (stops answer s a) does less = stops answer s a
  body_runs start n lag slack units count outer placement parameters at onward ways body _ (comes way s t p g) plain does less = by s.units p
    where
      by : (left : ℕ) → Passing tac worth start t (n + worth) left lag (slack + ticks_per_unit * worth)
          → Does tac worth start n lag (slack + ticks_per_unit) (Ran count placement parameters onward ways) (spend (Meaning.block (around_of program) inner body) left s)
      by zero p = stops (Going s.trace) s (comes_seen (repaid n 0 lag slack p) g.there.stands.stands.trace)
      by (suc left) p =
          body_paid n left lag units slack p
          (allows (does g.placed (record s { units = left }) t (spot_units g.placed parameters at left s t g.there))
          (λ way' s' t' leaves. record { bound = g.placed; newest = s.next_local; outer = s.locals; newer = g.newer; extends = g.extends; left = leaves }))
          less
