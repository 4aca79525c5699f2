-- The code of constants, parentheses, conversions and of operators on one integer.
use Rattle.std.proofs.Common.{ℕ, suc, ◌+◌, ◌≤◌, Bool, true, false, if◌then◌else◌, List, Option, Some, ℤ, refl, ap, arith}
use Rattle.c_num.specs.declared.IntType.{IntType}
use Rattle.c_typed.specs.Types.{Void}
use Rattle.c_typed.specs.Typed as T
use Rattle.c_typed.specs.Typed.{Value, Program}
use Rattle.c_typed.specs.Expressions.{is_conversion}
use Rattle.c_typed.specs.Programs.{IsWellTyped}
use Rattle.ref_semantics.specs.Values as V
use Rattle.ref_semantics.specs.Values.{IntegerValue, NullValue}
use Rattle.ref_semantics.specs.Store.{give}
use Rattle.ref_semantics.specs.Meaning.{Calls, value}
use Rattle.ref_semantics.specs.First.{around_of}
use Rattle.ref_semantics.specs.Keeping.{CallsKeep}
use Rattle.tac_ir.specs.Code.{Op, Tac}
use Rattle.tac_ir.specs.Code as O
use Rattle.tac_ir.specs.Values as M
use Rattle.tac_build.specs.Homes.{Scope}
use Rattle.tac_build.specs.Spots.{Spot, expression, AsInteger, AsPointer}
use Rattle.tac_simulation.specs.Comparing.{ticks_per_unit}
use Rattle.tac_simulation.specs.Standing.{Placement, Frame}
use Rattle.tac_simulation.proofs.Spotting.{Runs, kept_same, written_there}
use Rattle.tac_simulation.proofs.Evaluating.{ValueDoes, laid_by, left_for}
use Rattle.tac_simulation.proofs.Paths.{eases}
use Rattle.tac_simulation.proofs.Combining.{ticked, puts, has_come}

-- an expression leaves some ticks, and no more than six
pub left_most : (tree : Value) → 3 ≤ left_for tree
left_most tree = by (is_conversion tree)
  where
    by : (b : Bool) → 3 ≤ (if b then 3 else 6)
    by true = omega arith
    by false = omega arith

module _ (tac : Tac) (program : Program) (calls : Calls) (worth : ℕ) (points : List Op) (placement : Placement) (hidden : ℕ → Option V.Content) (frame : Frame) (scope : Scope)
    (runs : Runs tac program points frame) (well : IsWellTyped program) (keep : CallsKeep program calls) where
  abbrev Follows : Value → Type 0
  Follows tree = ValueDoes tac program calls worth points placement hidden frame scope tree

  pub constants : (int_type : IntType) (z : ℤ) → Follows (T.Constant int_type z)
  constants int_type z mode from to lowered t code typed small start n lag slack s state p at =
      ticked tac program calls worth points placement hidden frame scope runs well keep (give (IntegerValue z)) from.at s state p at (omega arith) (λ left p' at'.
      has_come tac program calls worth points placement hidden frame scope runs well keep mode from from to lowered (AsInteger int_type (O.Constant z)) state.running.registers (IntegerValue z) (record s { units = left }) state p' at'.stands
      (kept_same from.counts state.running.registers) code.0 code.1 (z, refl, refl) (omega arith) (let laid = ap laid_by code.1 in omega (arith, laid)))

  pub null_pointers : Follows T.NullPointer
  null_pointers mode from to lowered t code typed small start n lag slack s state p at =
      ticked tac program calls worth points placement hidden frame scope runs well keep (give NullValue) from.at s state p at (omega arith) (λ left p' at'.
      puts tac program calls worth points placement hidden frame scope runs well keep (O.Null (expression from)) (expression from) M.NoAddress mode from from to lowered (AsPointer (expression from) Void) state.running.registers NullValue
      (record s { units = left }) state p' at'.stands (kept_same from.counts state.running.registers) code.0 refl (omega arith) tt (ap (λ (spot : Spot). spot.at) code.1) code.2
      (M.NoAddress, written_there (expression from) (Some M.NoAddress) state.running.registers, refl) (omega arith) (let laid = ap laid_by code.2 in omega (arith, laid)))

  pub groups : (inner : Value) → Follows inner → Follows (T.Grouped inner)
  groups inner follows mode from to lowered t code typed small start n lag slack s state p at =
      ticked tac program calls worth points placement hidden frame scope runs well keep (value (around_of program) calls inner) from.at s state p at (omega arith) (λ left p' at'.
      eases (follows mode from to lowered t code typed small start n (suc lag) (ticks_per_unit + slack) (record s { units = left }) state p' at') (omega arith) (let least = left_most inner in omega (arith, least)))
