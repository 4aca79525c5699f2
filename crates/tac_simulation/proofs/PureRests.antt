-- A pure operand leaves the registers as they are, those of locals too.
use Rattle.std.proofs.Common.{◌≡◌, ℕ, ◌+◌, true, List, Option, Some}
use Rattle.c_typed.specs.Types.{CType}
use Rattle.c_typed.specs.Typed.{Value, Program}
use Rattle.c_typed.specs.Expressions.{type_of}
use Rattle.c_typed.specs.Sizes.{makes, is_storable}
use Rattle.ref_semantics.specs.Values as V
use Rattle.ref_semantics.specs.Store as S
use Rattle.ref_semantics.specs.Meaning.{Calls, value}
use Rattle.ref_semantics.specs.First.{around_of}
use Rattle.tac_ir.specs.Code.{Op, Tac}
use Rattle.tac_ir.specs.States.{State}
use Rattle.tac_build.specs.Homes.{Scope, is_pure}
use Rattle.tac_build.specs.Spots.{Spot, Lowered, Mode}
use Rattle.tac_build.specs.Code.{ValueCode}
use Rattle.tac_build.specs.Forms.{context_of}
use Rattle.tac_simulation.specs.Standing.{Placement, Frame}
use Rattle.tac_simulation.proofs.Evaluating.{AtSpot, ComesToValue, value_units, laid_by, left_for}
use Rattle.tac_simulation.proofs.Paths.{Passage as Passing, Does}

module _ (tac : Tac) (program : Program) (calls : Calls) (worth : ℕ) (points : List Op) (placement : Placement) (hidden : ℕ → Option V.Content) (frame : Frame) (scope : Scope) where
  -- what holds of pure expressions
  abbrev pub Rests : Value → Type 0
  Rests tree =
      is_pure scope tree ≡ true → (mode : Mode) (from to : Spot) (lowered : Lowered) (t : CType) → ValueCode program points scope mode tree from to lowered → type_of (context_of program scope) tree ≡ Some t → makes (is_storable program.structs) tree ≡ true
      → (start : State) (n lag slack : ℕ) (s : S.State) (state : State) → Passing tac worth start state n s.units lag slack → AtSpot tac program calls worth points placement hidden frame scope from.at s state
      → Does tac worth start n (lag + value_units tree) (slack + (laid_by lowered + left_for tree))
      (λ scalar s' state'. ComesToValue tac program calls worth points placement hidden frame scope mode from to lowered state.running.registers scalar s' state' × (state'.running.registers ≡ state.running.registers))
      (value (around_of program) calls tree s)
