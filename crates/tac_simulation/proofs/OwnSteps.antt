-- The code of `++` and `--` of integers in registers, and of assignments wherever their objects are.
use Rattle.std.proofs.Common.{◌≡◌, ℕ, suc, ◌+◌, ◌≤◌, Bool, true, false, not, ◌&&◌, if◌then◌else◌, List, Option, Some, None, ◌⊎◌, inl, inr, ℤ, pos, refl, sym, ap, ◌∙◌, subst, arith}
use Rattle.std.proofs.lemmas.Bool.{true≢false}
use Rattle.run_theory.specs.declared.place.Pos.{Pos}
use Rattle.c_num.specs.declared.IntType.{IntType}
use Rattle.c_num.specs.declared.IntType.TheVariants as I
use Rattle.c_num.specs.declared.BinOp.{BinOp}
use Rattle.c_num.specs.Types.{common_of}
use Rattle.c_num.specs.Conversion.{convert_to}
use Rattle.c_typed.specs.declared.typed.Stepping.{Stepping}
use Rattle.c_typed.specs.declared.typed.Stepping.TheVariants as Steppings
use Rattle.c_typed.specs.Types.{CType, Integer, same_type}
use Rattle.c_typed.specs.Typed as T
use Rattle.c_typed.specs.Typed.{Value, Object, Program}
use Rattle.c_typed.proofs.Same.{same_type-true}
use Rattle.c_typed.specs.Context.{Context}
use Rattle.c_typed.specs.Expressions.{type_of, type_of_object}
use Rattle.c_typed.specs.Programs.{IsWellTyped}
use Rattle.c_typed.specs.Sizes.{makes, is_storable}
use Rattle.ref_semantics.specs.Values as V
use Rattle.ref_semantics.specs.Values.{Scalar, IntegerValue, LocalObject, object_place}
use Rattle.ref_semantics.specs.Store as S
use Rattle.ref_semantics.specs.Store.{Outcome, Then, ◌>>=◌, continue_with, undefined, give}
use Rattle.ref_semantics.specs.Pointers.{read, write}
use Rattle.ref_semantics.specs.Meaning as Meaning
use Rattle.ref_semantics.specs.Meaning.{Calls, value, find, arithmetic, converted, step_result}
use Rattle.ref_semantics.specs.First.{around_of}
use Rattle.ref_semantics.specs.Keeping.{CallsKeep}
use Rattle.c_typed.proofs.Splitting.{same_parts}
use Rattle.ref_semantics.proofs.Operating.{integer_scalar}
use Rattle.tac_ir.specs.Code.{Op, Tac}
use Rattle.tac_ir.specs.Code as O
use Rattle.tac_ir.specs.Values as M
use Rattle.tac_ir.specs.Trees.{computes, integer_in}
use Rattle.tac_ir.specs.States.{State}
use Rattle.tac_build.specs.Homes.{Home, Scope, register_home, is_pure}
use Rattle.tac_build.specs.Spots.{Spot, behind, with_temporary, temporary, Lowered, AsInteger, Mode, Kept, Dropped, Behind, Row, is_used}
use Rattle.tac_build.specs.Code as Code
use Rattle.tac_build.specs.Code.{HasOp, AssignCode, CompoundCode, SteppingCode, compound_tree, gives_old, ValueCode, ObjectCode}
use Rattle.tac_build.specs.Forms.{context_of}
use Rattle.tac_simulation.specs.Comparing.{ticks_per_unit}
use Rattle.tac_simulation.specs.Standing.{Placement, Frame, At, ScalarStands, LoweredStands}
use Rattle.tac_simulation.proofs.Paths.{Stand, Passage as Passing, Does, comes, eased}
use Rattle.tac_simulation.proofs.Spotting.{Runs, kept_write, written_there, with_written}
use Rattle.tac_simulation.proofs.Evaluating.{ValueDoes, FindDoes, AtSpot, ComesToValue, value_units, object_units, laid_by, Stood, stood}
use Rattle.tac_simulation.proofs.Combining.{ticked}
use Rattle.tac_simulation.proofs.Unchanged.{keeps_then}
use Rattle.tac_simulation.proofs.Computing.{converted_fits, computes_arithmetic, computes_convert}
use Rattle.tac_simulation.proofs.Resting.{ValueRests}
use Rattle.tac_simulation.proofs.Compounded.{integer_scalar_is, then_arithmetic, own_read, then_own, compounds_local}
use Rattle.tac_simulation.proofs.StoredCompounds.{compounds_object, steps_object, step_operator_is, one_fits}
use Rattle.tac_simulation.proofs.Assigning.{IsHome, own_at, local_holds}
use Rattle.tac_simulation.proofs.Assigned.{then_local, local_write, writes_local, LocalWritten, assigns_local}
use Rattle.tac_simulation.proofs.Going.{writes}
use Rattle.tac_ir.specs.declared.register.Register.TheVariants as R
use Rattle.tac_simulation.proofs.StoredForms.{assigns_object}

-- nothing is asked where the value isn't used
stood_either : (mode : Mode) (P A : Type 0) → P ⊎ (mode ≡ Dropped) → (P → A) → Stood mode A
stood_either mode P A (inl holds) stands = stood mode A (stands holds)
stood_either mode P A (inr dropped) stands = subst (λ m. Stood m A) (sym dropped) tt

module _ (tac : Tac) (program : Program) (calls : Calls) (worth : ℕ) (points : List Op) (placement : Placement) (hidden : ℕ → Option V.Content) (frame : Frame) (scope : Scope)
    (runs : Runs tac program points frame) (well : IsWellTyped program) (keep : CallsKeep program calls) where
  abbrev Follows : Value → Type 0
  Follows tree = ValueDoes tac program calls worth points placement hidden frame scope tree

  abbrev around : Context
  around = context_of program scope

  -- `o = v`
  pub assigns : (place : Pos) (object : Object) (operand : Value) → FindDoes tac program calls worth points placement hidden frame scope object → Follows operand → ValueRests tac program calls worth points placement hidden frame scope runs well keep operand
      → Follows (T.Assign place object operand)
  assigns place object operand finds follows rests mode from to lowered t code typed small start n lag slack s state p at = by (register_home scope object) refl code
    where
      by : (home : Option Home) → register_home scope object ≡ home → AssignCode points (is_used mode) home (ObjectCode program points scope false (not (is_pure scope operand)) object) (ValueCode program points scope Kept operand) from to lowered
          → Does tac worth start n (lag + value_units (T.Assign place object operand)) (slack + (laid_by lowered + 6))
          (ComesToValue tac program calls worth points placement hidden frame scope mode from to lowered state.running.registers) (value (around_of program) calls (T.Assign place object operand) s)
      by (Some home) e code' = assigns_local tac program calls worth points placement hidden frame scope runs well keep place object operand follows home e mode from to lowered t code' typed small start n lag slack s state p at
      by None e code' = assigns_object tac program calls worth points placement hidden frame scope runs well keep place object operand finds follows rests mode from to lowered t code' typed small start n lag slack s state p at

  -- `o op= v`
  pub compounds : (op : BinOp) (place : Pos) (object_type int_type : IntType) (object : Object) (operand : Value) → FindDoes tac program calls worth points placement hidden frame scope object → Follows operand → ValueRests tac program calls worth points placement hidden frame scope runs well keep operand
      → Follows (T.AssignArithmetic op place object_type int_type object operand)
  compounds op place object_type int_type object operand finds follows rests mode from to lowered t code typed small start n lag slack s state p at = by (register_home scope object) refl code
    where
      by : (home : Option Home) → register_home scope object ≡ home → CompoundCode points (is_used mode) home (ObjectCode program points scope false (not (is_pure scope operand)) object) (ValueCode program points scope Kept operand) object_type (compound_tree op object_type int_type) from to lowered
          → Does tac worth start n (lag + value_units (T.AssignArithmetic op place object_type int_type object operand)) (slack + (laid_by lowered + 6))
          (ComesToValue tac program calls worth points placement hidden frame scope mode from to lowered state.running.registers) (value (around_of program) calls (T.AssignArithmetic op place object_type int_type object operand) s)
      by (Some home) e code' = compounds_local tac program calls worth points placement hidden frame scope runs well keep op place object_type int_type object operand follows home e mode from to lowered t code' typed small start n lag slack s state p at
      by None e code' = compounds_object tac program calls worth points placement hidden frame scope runs well keep op place object_type int_type object operand finds follows rests mode from to lowered t code' typed small start n lag slack s state p at

  -- what a local holds is computed anew, and the evaluation goes on
  pub then_local_step : {B : Type 0} {Stands' : Stand B} {start : State} {n lag lag' slack slack' : ℕ} (between : ℕ) (here : Pos) (stepping : Stepping) (int_type : IntType) (further : Outcome Scalar → Outcome B) (at : ℕ) (home : Home) (number : ℕ) (old : ℤ) (s : S.State) (state : State)
      → HasOp points at (O.Assign (R.Local home.local) (Code.step_tree stepping int_type (R.Local home.local))) → ((u : S.State) (kind : _) → further (undefined kind here u) ≡ undefined kind here u)
      → Passing tac worth start state n s.units lag slack → At program placement hidden frame scope at s state → home.is_object ≡ false → IsHome scope s.locals home number
      → state.running.registers (R.Local home.local) ≡ Some (M.Number old) → between + 6 ≤ slack
      → ((z : ℤ) → LocalWritten tac program calls worth points placement hidden frame scope runs well keep start n s.units lag between at home number (IntegerValue z) (M.Number z) s state
      → Does tac worth start n lag' slack' Stands' (further (Then (IntegerValue z) (local_holds number (IntegerValue z) s))))
      → Does tac worth start n lag' slack' Stands' (continue_with (λ c. λ v. further (write (around_of program) here (object_place (LocalObject number) home.c_type) (converted int_type c) v)) (arithmetic (Code.step_operator stepping) (common_of int_type I.Int) here (converted (common_of int_type I.Int) (IntegerValue old)) (IntegerValue (pos 1)) s))
  then_local_step {B} {Stands'} {start} {n} {lag} {lag'} {slack} {slack'} between here stepping int_type further at home number old s state has stopped p h own in_scope holds less rest =
      let common = common_of int_type I.Int in
      let op = Code.step_operator stepping in
      let place = object_place (LocalObject number) home.c_type in
      then_arithmetic op common here (convert_to common old) (pos 1) (λ c. λ v. further (write (around_of program) here place (converted int_type c) v)) s (converted_fits common old) (λ shifts. one_fits tac program calls worth points placement hidden frame scope runs well keep common) (λ c e.
      let left_is = computes_convert state.running.registers common (O.Held (R.Local home.local)) old (ap integer_in holds) in
      let computed : computes state.running.registers (Code.step_tree stepping int_type (R.Local home.local)) ≡ Some (convert_to int_type c) =
      computes_convert state.running.registers int_type (O.Arithmetic op common (O.Convert common (O.Held (R.Local home.local))) (O.Constant (pos 1))) c
      (computes_arithmetic state.running.registers op common (O.Convert common (O.Held (R.Local home.local))) (O.Constant (pos 1)) (convert_to common old) (pos 1) c left_is refl (converted_fits common old) (λ shifts. one_fits tac program calls worth points placement hidden frame scope runs well keep common) e) in
      let held = own_at tac program points placement hidden frame scope runs at home number s state own in_scope h in
      let w = writes_local tac program calls worth points placement hidden frame scope runs well keep between (O.Assign (R.Local home.local) (Code.step_tree stepping int_type (R.Local home.local))) at home number (IntegerValue (convert_to int_type c)) (M.Number (convert_to int_type c)) s state p h has (rw computed refl) own in_scope refl (omega arith) in
      subst (λ outcome. Does tac worth start n lag' slack' Stands' (further outcome)) (sym (local_write program here home number held.held (IntegerValue (convert_to int_type c)) s held.content)) (rest (convert_to int_type c) w))

  -- `++x` and `--x`, and `x++` whose value is kept, of an integer in a register
  abbrev pub OwnStepCode : Bool → Mode → Stepping → IntType → Home → Spot → Spot → Lowered → Type 0
  OwnStepCode taken mode stepping int_type home from to lowered = by taken
    where
      by : Bool → Type 0
      by false = ((gives_old stepping ≡ false) ⊎ (mode ≡ Dropped)) × HasOp points from.at (O.Assign (R.Local home.local) (Code.step_tree stepping int_type (R.Local home.local))) × (to ≡ behind from) × (lowered ≡ AsInteger int_type (O.Held (R.Local home.local)))
      by true =
          (gives_old stepping ≡ true) × HasOp points from.at (O.Assign (temporary from) (O.Held (R.Local home.local)))
          × HasOp points (suc from.at) (O.Assign (R.Local home.local) (Code.step_tree stepping int_type (R.Local home.local))) × (to ≡ behind (behind (with_temporary from))) × (lowered ≡ AsInteger int_type (O.Held (temporary from)))

  result_is : (stepping : Stepping) (a c : Scalar) (b : Bool) → gives_old stepping ≡ b → step_result stepping a c ≡ (if b then a else c)
  result_is Steppings.PreIncrement a c false e = refl
  result_is Steppings.PreDecrement a c false e = refl
  result_is Steppings.PostIncrement a c true e = refl
  result_is Steppings.PostDecrement a c true e = refl
  result_is Steppings.PreIncrement a c true e = absurd (cc)
  result_is Steppings.PreDecrement a c true e = absurd (cc)
  result_is Steppings.PostIncrement a c false e = absurd (cc)
  result_is Steppings.PostDecrement a c false e = absurd (cc)

  pub steps_own : (taken : Bool) (stepping : Stepping) (place : Pos) (int_type : IntType) (object : Object) → (home : Home) → register_home scope object ≡ Some home
      → (mode : Mode) (from to : Spot) (lowered : Lowered) (t : CType) → OwnStepCode taken mode stepping int_type home from to lowered
      → type_of around (T.StepInteger stepping place int_type object) ≡ Some t → makes (is_storable program.structs) (T.StepInteger stepping place int_type object) ≡ true
      → (start : State) (n lag slack : ℕ) (s : S.State) (state : State) → Passing tac worth start state n s.units lag slack → AtSpot tac program calls worth points placement hidden frame scope from.at s state
      → Does tac worth start n (lag + value_units (T.StepInteger stepping place int_type object)) (slack + (laid_by lowered + 6))
      (ComesToValue tac program calls worth points placement hidden frame scope mode from to lowered state.running.registers) (value (around_of program) calls (T.StepInteger stepping place int_type object) s)
  steps_own taken stepping place int_type object home is_home mode from to lowered t code typed small start n lag slack s state p at =
      let parts = same_parts (type_of_object around object) (λ u. same_type u (Integer int_type)) t typed in
      let is : t ≡ Integer int_type = same_type-true t (Integer int_type) parts.1 in
      ticked tac program calls worth points placement hidden frame scope runs well keep
      (find (around_of program) calls object >>= λ q. read (around_of program) place q >>= λ a. arithmetic (Meaning.step_operator stepping) (common_of int_type I.Int) place (converted (common_of int_type I.Int) a) (IntegerValue (pos 1)) >>= λ c. write (around_of program) place q (converted int_type c) >>= λ new. give (step_result stepping a new))
      from.at s state p at (omega arith) (λ left p1 at1.
      then_local tac program calls worth points placement hidden frame scope runs well keep object home is_home
      (λ q. read (around_of program) place q >>= λ a. arithmetic (Meaning.step_operator stepping) (common_of int_type I.Int) place (converted (common_of int_type I.Int) a) (IntegerValue (pos 1)) >>= λ c. write (around_of program) place q (converted int_type c) >>= λ new. give (step_result stepping a new))
      from.at t parts.0 small (record s { units = left }) state p1 at1 (omega arith) (λ number s2 p2 at2 in_scope own element.
      let there = object_place (LocalObject number) home.c_type in
      then_own tac program calls worth points placement hidden frame scope runs well keep place
      (λ a. arithmetic (Meaning.step_operator stepping) (common_of int_type I.Int) place (converted (common_of int_type I.Int) a) (IntegerValue (pos 1)) >>= λ c. write (around_of program) place there (converted int_type c) >>= λ new. give (step_result stepping a new))
      from.at home number t s2 state at2.stands at2.sound own in_scope (integer_scalar t int_type is) element (λ scalar held_value holds stands h3 keeps has.
      let old = integer_scalar_is program (own_read s2) t int_type scalar is has in
      let held : state.running.registers (R.Local home.local) ≡ Some (M.Number old.0) = holds ∙ ap Some (subst (λ x. ScalarStands program s2.objects placement x held_value) old.1 stands) in
      subst (λ x. Does tac worth start n (lag + value_units (T.StepInteger stepping place int_type object)) (slack + (laid_by lowered + 6))
      (ComesToValue tac program calls worth points placement hidden frame scope mode from to lowered state.running.registers)
      (continue_with (λ c. write (around_of program) place there (converted int_type c) >>= λ new. give (step_result stepping x new)) (arithmetic (Meaning.step_operator stepping) (common_of int_type I.Int) place (converted (common_of int_type I.Int) x) (IntegerValue (pos 1)) (own_read s2)))) (sym old.1)
      (subst (λ op. Does tac worth start n (lag + value_units (T.StepInteger stepping place int_type object)) (slack + (laid_by lowered + 6))
      (ComesToValue tac program calls worth points placement hidden frame scope mode from to lowered state.running.registers)
      (continue_with (λ c. write (around_of program) place there (converted int_type c) >>= λ new. give (step_result stepping (IntegerValue old.0) new)) (arithmetic op (common_of int_type I.Int) place (converted (common_of int_type I.Int) (IntegerValue old.0)) (IntegerValue (pos 1)) (own_read s2)))) (sym (step_operator_is tac program calls worth points placement hidden frame scope runs well keep stepping))
      (by taken code number old.0 (own_read s2) p2 h3 own in_scope held)))))
    where
      by : (b : Bool) → OwnStepCode b mode stepping int_type home from to lowered → (number : ℕ) (old : ℤ) (u : S.State) → Passing tac worth start state n u.units (suc lag + object_units object) (ticks_per_unit + slack + 6) → At program placement hidden frame scope from.at u state
          → home.is_object ≡ false → IsHome scope u.locals home number → state.running.registers (R.Local home.local) ≡ Some (M.Number old)
          → Does tac worth start n (lag + value_units (T.StepInteger stepping place int_type object)) (slack + (laid_by lowered + 6))
          (ComesToValue tac program calls worth points placement hidden frame scope mode from to lowered state.running.registers)
          (continue_with (λ c. write (around_of program) place (object_place (LocalObject number) home.c_type) (converted int_type c) >>= λ new. give (step_result stepping (IntegerValue old) new)) (arithmetic (Code.step_operator stepping) (common_of int_type I.Int) place (converted (common_of int_type I.Int) (IntegerValue old)) (IntegerValue (pos 1)) u))
      by false code number old u p h own in_scope held =
          let laid = ap laid_by code.3 in
          then_local_step (slack + (laid_by lowered + 6)) place stepping int_type (λ outcome. continue_with (λ new. give (step_result stepping (IntegerValue old) new)) outcome) from.at home number old u state code.1 (λ v kind. refl) p h own in_scope held (omega (arith, laid)) (λ z w.
          let after = with_written tac program points placement hidden frame scope runs (R.Local home.local) (M.Number z) state in
          let last = local_holds number (IntegerValue z) u in
          comes (step_result stepping (IntegerValue old) (IntegerValue z)) last after (eased w.passing (omega arith) (omega arith)) (
            record {
              there = subst (λ (spot : Spot). At program placement hidden frame scope spot.at last after) (sym code.2) w.there;
              kept = kept_write from.counts (R.Local home.local) (Some (M.Number z)) state.running.registers tt;
            },
            stood_either mode (gives_old stepping ≡ false) _ code.0 (λ e. subst (λ l. LoweredStands program mode frame placement last.objects after.running.registers l (step_result stepping (IntegerValue old) (IntegerValue z))) (sym code.3)
                (z, result_is stepping (IntegerValue old) (IntegerValue z) false e, ap integer_in (written_there (R.Local home.local) (Some (M.Number z)) state.running.registers))),
          ))
      by true code number old u p h own in_scope held =
          let laid = ap laid_by code.4 in
          let w1 = writes tac program worth points placement hidden frame scope runs (slack + 20) (O.Assign (temporary from) (O.Held (R.Local home.local))) (temporary from) (M.Number old) from.at u state p h code.1 (rw held refl) tt (omega arith) in
          let state1 = with_written tac program points placement hidden frame scope runs (temporary from) (M.Number old) state in
          let held1 : state1.running.registers (R.Local home.local) ≡ Some (M.Number old) = held in
          then_local_step (slack + (laid_by lowered + 6)) place stepping int_type (λ outcome. continue_with (λ new. give (step_result stepping (IntegerValue old) new)) outcome) (suc from.at) home number old u state1 code.2 (λ v kind. refl) w1.passing w1.there own in_scope held1 (omega (arith, laid)) (λ z w.
          let after = with_written tac program points placement hidden frame scope runs (R.Local home.local) (M.Number z) state1 in
          let last = local_holds number (IntegerValue z) u in
          comes (step_result stepping (IntegerValue old) (IntegerValue z)) last after (eased w.passing (omega arith) (omega arith)) (
            record {
              there = subst (λ (spot : Spot). At program placement hidden frame scope spot.at last after) (sym code.3) w.there;
              kept = keeps_then from.counts state.running.registers state1.running.registers after.running.registers (kept_write from.counts (temporary from) (Some (M.Number old)) state.running.registers (omega arith))
                  (kept_write from.counts (R.Local home.local) (Some (M.Number z)) state1.running.registers tt);
            },
            stood mode _ (subst (λ l. LoweredStands program mode frame placement last.objects after.running.registers l (step_result stepping (IntegerValue old) (IntegerValue z))) (sym code.4)
                (old, result_is stepping (IntegerValue old) (IntegerValue z) true code.0, ap integer_in (written_there (temporary from) (Some (M.Number old)) state.running.registers))),
          ))

  -- a value that isn't used is dropped
  unused : (mode : Mode) → is_used mode ≡ false → mode ≡ Dropped
  unused Dropped h = refl
  unused Kept h = absurd (true≢false h)
  unused (Behind followed) h = absurd (true≢false h)
  unused (Row followed) h = absurd (true≢false h)

  own_code : (used : Bool) (stepping : Stepping) (int_type : IntType) (home : Home) (object : Code.PartCode) (mode : Mode) (from to : Spot) (lowered : Lowered) → (used ≡ false → mode ≡ Dropped)
      → SteppingCode points used stepping int_type (Some home) object from to lowered → OwnStepCode (used && gives_old stepping) mode stepping int_type home from to lowered
  own_code true Steppings.PreIncrement int_type home object mode from to lowered dropped code = (inl refl, code.0.0, code.0.1, code.1)
  own_code true Steppings.PreDecrement int_type home object mode from to lowered dropped code = (inl refl, code.0.0, code.0.1, code.1)
  own_code true Steppings.PostIncrement int_type home object mode from to lowered dropped code = (refl, code.0, code.1.0, code.1.1, code.2)
  own_code true Steppings.PostDecrement int_type home object mode from to lowered dropped code = (refl, code.0, code.1.0, code.1.1, code.2)
  own_code false Steppings.PreIncrement int_type home object mode from to lowered dropped code = (inl refl, code.0.0, code.0.1, code.1)
  own_code false Steppings.PreDecrement int_type home object mode from to lowered dropped code = (inl refl, code.0.0, code.0.1, code.1)
  own_code false Steppings.PostIncrement int_type home object mode from to lowered dropped code = (inr (dropped refl), code.0.0, code.0.1, code.1)
  own_code false Steppings.PostDecrement int_type home object mode from to lowered dropped code = (inr (dropped refl), code.0.0, code.0.1, code.1)

  -- `o++` and its like, of an integer
  pub steps_integer : (stepping : Stepping) (place : Pos) (int_type : IntType) (object : Object) → FindDoes tac program calls worth points placement hidden frame scope object → Follows (T.StepInteger stepping place int_type object)
  steps_integer stepping place int_type object finds mode from to lowered t code typed small start n lag slack s state p at = by (register_home scope object) refl code
    where
      by : (home : Option Home) → register_home scope object ≡ home → SteppingCode points (is_used mode) stepping int_type home (ObjectCode program points scope false false object) from to lowered
          → Does tac worth start n (lag + value_units (T.StepInteger stepping place int_type object)) (slack + (laid_by lowered + 6))
          (ComesToValue tac program calls worth points placement hidden frame scope mode from to lowered state.running.registers) (value (around_of program) calls (T.StepInteger stepping place int_type object) s)
      by (Some home) e code' =
          steps_own (is_used mode && gives_old stepping) stepping place int_type object home e mode from to lowered t
          (own_code (is_used mode) stepping int_type home (ObjectCode program points scope false false object) mode from to lowered (unused mode) code') typed small start n lag slack s state p at
      by None e code' = steps_object tac program calls worth points placement hidden frame scope runs well keep stepping place int_type object finds mode from to lowered t code' typed small start n lag slack s state p at
