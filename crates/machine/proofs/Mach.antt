-- What a run that was carried out says of the machine's meaning.
use Rattle.std.proofs.Common.{◌≡◌, ℕ, suc, ◌≤◌, List, ◌++◌, Option, Some, ap, ◌∙◌, arith}
use Rattle.run_theory.specs.Runs.{Trace, output_of, Final, Going, Over, Halt}
use Rattle.run_theory.specs.Moves.{then_move, moves}
use Rattle.pool_isa.specs.Machine.{Code, Activation, Heap, State, act, initial, mach}
use Rattle.machine.specs.Run.{HaltsAt, ComesTo, BreaksOff}
use Rattle.machine.proofs.Moves.{moves-suc, halted_stays, over_from_halt, going_from_to}

module _ (code : Code) (slabs index : ℕ) (input base : List ℕ) (steps : ℕ) (heap : Heap) (left written : Option (List ℕ)) where
  -- where the run that halted stands still
  stands_still : (final : Final) (made : ℕ) (h : HaltsAt code (initial code slabs index input) base steps final made heap left written) → moves (act code) steps (initial code slabs index input) ≡ Halt final h.last
  stands_still final made h =
      let first = initial code slabs index input in
      let halts = moves-suc (act code) h.before first ∙ ap (then_move (act code)) h.comes ∙ h.halts in
      halted_stays (act code) (suc h.before) steps first h.last final (omega (arith, h.count, h.within)) halts

  -- a run that is over
  pub mach_over : (final : Final) (made : ℕ) → HaltsAt code (initial code slabs index input) base steps final made heap left written
      → (trace : Trace) × (mach code slabs index input steps ≡ Over final trace) × (written ≡ Some (base ++ output_of trace))
  mach_over final made h = (h.last.trace, over_from_halt (act code) (λ (s : State). s.trace) steps (initial code slabs index input) h.last final (stands_still final made h), h.left_at.1)

  -- a run that has come so far
  pub mach_going : (activations : List Activation) → ComesTo code (initial code slabs index input) base steps activations heap left written
      → (trace : Trace) × (mach code slabs index input steps ≡ Going trace) × (written ≡ Some (base ++ output_of trace))
  mach_going activations h = (h.last.trace, going_from_to (act code) (λ (s : State). s.trace) steps (initial code slabs index input) h.last h.comes, h.left_at.1)

  -- a run that was broken off
  pub mach_broken : (made : ℕ) (activations : List Activation) → BreaksOff code (initial code slabs index input) base steps made activations heap left written
      → (made : ℕ) × (trace : Trace) × (made ≤ steps) × (mach code slabs index input made ≡ Going trace) × (written ≡ Some (base ++ output_of trace))
  mach_broken made activations h = (made, h.comes.last.trace, h.within, going_from_to (act code) (λ (s : State). s.trace) made (initial code slabs index input) h.comes.last h.comes.comes, h.comes.left_at.1)
