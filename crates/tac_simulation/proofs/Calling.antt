-- What a call of the program's functions does, which the code of a call form asks: from the point of the call to the point behind it, with
-- what stands for the value in the register of the call.
use Rattle.std.proofs.Common.{◌≡◌, ℕ, suc, ◌+◌, Bool, ◌&&◌, true, List, Option}
use Rattle.run_theory.specs.declared.place.Pos.{Pos}
use Rattle.std.specs.Prelude.{not}
use Rattle.c_typed.specs.Types.{CType, CTypes, Pointer, Function, is_void}
use Rattle.c_typed.specs.Typed.{Program}
use Rattle.ref_semantics.specs.Values as V
use Rattle.ref_semantics.specs.Values.{Scalar}
use Rattle.ref_semantics.specs.Store as S
use Rattle.ref_semantics.specs.Meaning.{Calls}
use Rattle.ref_semantics.specs.Sound.{HasType, HaveTypes}
use Rattle.tac_ir.specs.declared.register.Register.{Register}
use Rattle.tac_ir.specs.declared.register.Register.TheVariants as R
use Rattle.tac_ir.specs.Code.{Op, Callee, Tac}
use Rattle.tac_ir.specs.Code as O
use Rattle.tac_ir.specs.Trees.{Registers}
use Rattle.tac_ir.specs.States.{State}
use Rattle.tac_build.specs.Homes.{Scope}
use Rattle.tac_build.specs.Code.{HasOp}
use Rattle.tac_build.specs.Forms.{CalleeForm}
use Rattle.tac_simulation.specs.Standing.{Placement, Frame, At, HoldsFor}
use Rattle.tac_simulation.proofs.Paths.{Passage as Passing, Does}
use Rattle.tac_simulation.proofs.Evaluating.{AtSpot, CalleeStands, AllHold, all_passed_ticks}

module _ (tac : Tac) (program : Program) (calls : Calls) (worth : ℕ) (points : List Op) (placement : Placement) (hidden : ℕ → Option V.Content) (frame : Frame) (scope : Scope) where
  -- a register that a call leaves as it was
  abbrev pub IsOther : ℕ → Register → Type 0
  IsOther site (R.Local local) = Unit {0}
  IsOther site (R.Call number) = number ≡ site → ⊥
  IsOther site (R.Argument number) = Unit {0}
  IsOther site (R.Expression number) = Unit {0}
  IsOther site (R.Temporary number) = Unit {0}

  -- The code is behind the call. A value that is used, of a function that isn't void, stands in the register of the call; the activation's
  -- other registers hold what they held.
  pub record Returned (at site : ℕ) (is_needed : Bool) (before : Registers) (scalar : Scalar) (s : S.State) (t : State) : Type 0 where
    pub there : At program placement hidden frame scope (suc at) s t
    pub others : (register : Register) → IsOther site register → t.running.registers register ≡ before register
    pub gives : is_needed ≡ true → HoldsFor program s.objects placement scalar (t.running.registers (R.Call site))

  -- Each argument has left ticks for the call, and for the store of a parameter that lies in memory. What is spent in the function is paid for
  -- by its own points, so that the lag is what it was before.
  abbrev pub CallsDo : Type 0
  CallsDo =
      (here : Pos) (is_used : Bool) (result : CType) (parameters : CTypes) (function : Scalar) (given : List Scalar) (at site : ℕ) (callee : Callee) (registers : List Register)
      → HasOp points at (O.Call site callee registers)
      → (start : State) (n lag slack : ℕ) (s : S.State) (state : State) → Passing tac worth start state n s.units lag (slack + all_passed_ticks parameters + 3) → AtSpot tac program calls worth points placement hidden frame scope at s state
      → CalleeStands tac program calls worth points placement hidden frame scope callee s.objects state.running.registers function
      → AllHold tac program calls worth points placement hidden frame scope s.objects state.running.registers registers given
      → CalleeForm callee (Function result parameters) → HasType program s (Pointer (Function result parameters)) function → HaveTypes program s parameters given
      → Does tac worth start n lag slack (Returned at site (is_used && not (is_void result)) state.running.registers) (calls here is_used (Function result parameters) function given s)
