-- The code of compound assignments to objects in memory, and of `++` and `--` of integers there.
use Rattle.std.proofs.Common.{◌≡◌, ℕ, ◌+◌, ◌*◌, ◌≤◌, Bool, true, false, not, ◌&&◌, if◌then◌else◌, List, Option, Some, None, ℤ, pos, refl, sym, ap, ◌∙◌, subst, arith}
use Rattle.std.proofs.lemmas.Bool.{and_parts}
use Rattle.run_theory.specs.declared.place.Pos.{Pos}
use Rattle.run_theory.specs.declared.ends.UbKind.TheVariants as Ub
use Rattle.c_num.specs.declared.IntType.{IntType}
use Rattle.c_num.specs.declared.IntType.TheVariants as I
use Rattle.c_num.specs.declared.BinOp.{BinOp}
use Rattle.c_num.specs.Types.{is_value, common_of}
use Rattle.c_num.specs.Conversion.{convert_to}
use Rattle.c_num.specs.Arith.{is_shift}
use Rattle.c_typed.specs.declared.typed.Stepping.{Stepping}
use Rattle.c_typed.specs.declared.typed.Stepping.TheVariants as Steppings
use Rattle.c_typed.specs.Types.{CType, Integer, same_type}
use Rattle.c_typed.specs.Typed as T
use Rattle.c_typed.specs.Typed.{Value, Object, Program}
use Rattle.c_typed.proofs.Same.{same_type-true}
use Rattle.c_typed.specs.Context.{Context}
use Rattle.c_typed.specs.Expressions.{is_right, type_of, type_of_object}
use Rattle.c_typed.specs.Programs.{IsWellTyped}
use Rattle.c_typed.specs.Sizes.{makes, object_makes, is_storable}
use Rattle.ref_semantics.specs.Values as V
use Rattle.ref_semantics.specs.Values.{Place, Scalar, IntegerValue}
use Rattle.ref_semantics.specs.Store as S
use Rattle.ref_semantics.specs.Store.{Outcome, Then, ◌>>=◌, continue_with, undefined, give}
use Rattle.ref_semantics.specs.Pointers.{read, write}
use Rattle.ref_semantics.specs.Meaning as Meaning
use Rattle.ref_semantics.specs.Meaning.{Calls, value, find, arithmetic, converted, step_result}
use Rattle.ref_semantics.specs.First.{around_of}
use Rattle.ref_semantics.specs.Sound.{HasType, Sound}
use Rattle.ref_semantics.specs.Keeping.{CallsKeep, IsElement}
use Rattle.c_typed.proofs.Splitting.{first_parts, same_parts}
use Rattle.ref_semantics.proofs.Lasting.{element_lasts}
use Rattle.ref_semantics.proofs.Operating.{integer_scalar}
use Rattle.tac_ir.specs.declared.register.Register.{Register}
use Rattle.tac_ir.specs.Code.{Op, Tac, Tree, Path}
use Rattle.tac_ir.specs.Code as O
use Rattle.tac_ir.specs.Values as M
use Rattle.tac_ir.specs.Trees.{computes, tree_nodes, integer_in}
use Rattle.tac_ir.specs.Costs.{path_cost}
use Rattle.tac_ir.specs.States.{State}
use Rattle.tac_build.specs.Homes.{Scope, is_pure}
use Rattle.tac_build.specs.Spots.{Spot, behind, with_temporary, temporary, Lowered, AsInteger, AsObject, Mode, Kept, is_used}
use Rattle.tac_build.specs.Code as Code
use Rattle.tac_build.specs.Code.{HasOp, Stores, CompoundCode, SteppingCode, compound_tree, gives_old, ValueCode, ObjectCode}
use Rattle.tac_build.specs.Forms.{context_of, PathNamed, TreeNamed, IsNamed}
use Rattle.tac_simulation.specs.Standing.{Placement, Frame, KeepsBefore, At, ScalarStands, PathStands, LoweredStands}
use Rattle.tac_simulation.proofs.Paths.{Stand, Passage as Passing, Does, comes, eased}
use Rattle.tac_simulation.proofs.Spotting.{Runs, written_there}
use Rattle.tac_simulation.proofs.Evaluating.{ValueDoes, FindDoes, AtSpot, ComesToValue, value_units, laid_by, left_for, stood}
use Rattle.tac_simulation.proofs.Combining.{ticked}
use Rattle.tac_simulation.proofs.Constants.{left_most}
use Rattle.tac_build.proofs.Named.{value_named, object_named}
use Rattle.tac_build.proofs.Naming.{lowered_later, behind_grows, temporary_grows, grows_then}
use Rattle.tac_simulation.proofs.Unchanged.{tree_same, keeps_fewer, keeps_then}
use Rattle.tac_build.proofs.Forms.{value_form, object_form}
use Rattle.tac_simulation.proofs.Integers.{integer_fits}
use Rattle.tac_simulation.proofs.Computing.{converted_fits, computes_arithmetic, computes_convert}
use Rattle.tac_simulation.proofs.Resting.{ValueRests}
use Rattle.tac_simulation.proofs.Finding.{then_find}
use Rattle.tac_simulation.proofs.Stored.{then_read, with_read, was_read}
use Rattle.tac_simulation.proofs.Compounded.{integer_scalar_is, right_fits, then_arithmetic}
use Rattle.tac_simulation.proofs.StoredForms.{KeepsNamed, kept_named, named_before_keeps, path_keeps, stores_laid, then_operand, then_store}

module _ (tac : Tac) (program : Program) (calls : Calls) (worth : ℕ) (points : List Op) (placement : Placement) (hidden : ℕ → Option V.Content) (frame : Frame) (scope : Scope)
    (runs : Runs tac program points frame) (well : IsWellTyped program) (keep : CallsKeep program calls) where
  abbrev Follows : Value → Type 0
  Follows tree = ValueDoes tac program calls worth points placement hidden frame scope tree

  abbrev around : Context
  around = context_of program scope

  -- behind the code that stores what was computed
  pub record Computed (mode : Mode) (from to : Spot) (new : Lowered) (old : ℤ) (scalar : Scalar) (s s' : S.State) (before after : State) : Type 0 where
    pub there : At program placement hidden frame scope to.at s' after
    pub kept : KeepsBefore from.counts before.running.registers after.running.registers
    pub stands : LoweredStands program mode frame placement s'.objects after.running.registers new scalar
    pub old_held : after.running.registers (temporary from) ≡ Some (M.Number old)

  -- an object is read, and the value of an operator stored, and the evaluation goes on
  pub then_computed : {B : Type 0} {Stands' : Stand B} {start : State} {n lag lag' slack slack' : ℕ} (between : ℕ) (here : Pos) (op : BinOp) (object_type int_type : IntType) (further : Scalar → Outcome Scalar → Outcome B) (used : Bool) (mode : Mode) (from to : Spot)
      (path : Path) (own t : CType) (place : Place) (operand : Tree) (z : ℤ) (new : Lowered) (s : S.State) (state : State)
      → HasOp points from.at (O.Load (temporary from) own path) → Stores points used path own (AsInteger object_type (compound_tree op object_type int_type (temporary from) operand)) (behind (with_temporary from)) to new
      → ((a : Scalar) (u : S.State) → further a (undefined Ub.U06 here u) ≡ undefined Ub.U06 here u)
      → Passing tac worth start state n s.units lag slack → At program placement hidden frame scope from.at s state → Sound around s
      → PathStands program frame placement state.running.registers path own place → PathNamed from.counts path → own ≡ t → t ≡ Integer object_type → IsElement program s t place
      → computes state.running.registers operand ≡ Some z → TreeNamed from.counts operand → (is_shift op ≡ false → is_value int_type z ≡ true) → between + 2 * path_cost path + tree_nodes operand + 8 ≤ slack
      → ((old : ℤ) (scalar : Scalar) (s' : S.State) (after : State) → Passing tac worth start after n s'.units lag between → Computed mode from to new old scalar s s' state after → Does tac worth start n lag' slack' Stands' (further (IntegerValue old) (Then scalar s')))
      → Does tac worth start n lag' slack' Stands' (continue_with (λ a. λ u. continue_with (λ c. λ v. further a (write (around_of program) here place (converted object_type c) v)) (arithmetic op int_type here (converted int_type a) (IntegerValue z) u)) (read (around_of program) here place s))
  then_computed {B} {Stands'} {start} {n} {lag} {lag'} {slack} {slack'} between here op object_type int_type further used mode from to path own t place operand z new s state has stores stopped p h sound stands named same is element computes_z tree_named fits less rest =
      then_read tac program worth points placement hidden frame scope runs well (between + path_cost path + tree_nodes operand + 7) here
      (λ a. λ u. continue_with (λ c. λ v. further a (write (around_of program) here place (converted object_type c) v)) (arithmetic op int_type here (converted int_type a) (IntegerValue z) u))
      (temporary from) from.at t own path place s state p h sound stands same (integer_scalar t object_type is) element has tt (omega (arith, less)) (λ object scalar held r.
      let s1 = was_read place.name s in
      let state1 = with_read (temporary from) held object state in
      let old = integer_scalar_is program s1 t object_type scalar is r.has in
      let value_is : held ≡ M.Number old.0 = subst (λ x. ScalarStands program s.objects placement x held) old.1 r.stands in
      let keeps : KeepsNamed from.counts state.running.registers state1.running.registers = kept_named from.counts (temporary from) (Some held) state.running.registers (omega arith) tt in
      let there : state1.running.registers (temporary from) ≡ Some (M.Number old.0) = written_there (temporary from) (Some held) state.running.registers ∙ ap Some value_is in
      let left_is = computes_convert state1.running.registers int_type (O.Held (temporary from)) old.0 (ap integer_in there) in
      let right_is : computes state1.running.registers operand ≡ Some z = tree_same (IsNamed from.counts) state.running.registers state1.running.registers keeps operand tree_named ∙ computes_z in
      let grows = grows_then (temporary_grows from) (behind_grows (with_temporary from)) in
      let last = behind (with_temporary from) in
      subst (λ x. Does tac worth start n lag' slack' Stands' (continue_with (λ c. λ v. further x (write (around_of program) here place (converted object_type c) v)) (arithmetic op int_type here (converted int_type x) (IntegerValue z) s1))) (sym old.1)
      (then_arithmetic op int_type here (convert_to int_type old.0) z (λ c. λ v. further (IntegerValue old.0) (write (around_of program) here place (converted object_type c) v)) s1 (converted_fits int_type old.0) fits (λ c e.
      let tree = compound_tree op object_type int_type (temporary from) operand in
      let computed : computes state1.running.registers tree ≡ Some (convert_to object_type c) =
      computes_convert state1.running.registers object_type (O.Arithmetic op int_type (O.Convert int_type (O.Held (temporary from))) operand) c
      (computes_arithmetic state1.running.registers op int_type (O.Convert int_type (O.Held (temporary from))) operand (convert_to int_type old.0) z c left_is right_is (converted_fits int_type old.0) fits e) in
      then_store tac program calls worth points placement hidden frame scope runs well keep between here (further (IntegerValue old.0)) used mode last to path own t place (AsInteger object_type tree) new (IntegerValue (convert_to object_type c)) s1 state1 stores (stopped (IntegerValue old.0) s1)
      r.passing r.there r.keeps.sound (path_keeps program frame placement from.counts state.running.registers state1.running.registers keeps path own place named stands) (lowered_later grows (AsObject path own) named) same (integer_scalar t object_type is)
      (element_lasts program r.keeps.later t place element) (convert_to object_type c, refl, computed) (subst (λ u. HasType program s1 u (IntegerValue (convert_to object_type c))) (sym is) (converted_fits object_type c)) (omega arith)
      (λ s2 after p2 stored keeps2.
      rest old.0 (IntegerValue (convert_to object_type c)) s2 after p2 (record {
        there = stored.there;
        kept = keeps_then from.counts state.running.registers state1.running.registers after.running.registers (named_before_keeps from.counts state.running.registers state1.running.registers keeps)
            (keeps_fewer state1.running.registers after.running.registers grows (named_before_keeps last.counts state1.running.registers after.running.registers stored.named));
        stands = stored.stands;
        old_held = stored.named (temporary from) (omega arith) ∙ there;
      })))))

  -- `o op= v`, where o is in memory
  pub compounds_object : (op : BinOp) (place : Pos) (object_type int_type : IntType) (object : Object) (operand : Value) → FindDoes tac program calls worth points placement hidden frame scope object → Follows operand → ValueRests tac program calls worth points placement hidden frame scope runs well keep operand
      → (mode : Mode) (from to : Spot) (lowered : Lowered) (t : CType)
      → CompoundCode points (is_used mode) None (ObjectCode program points scope false (not (is_pure scope operand)) object) (ValueCode program points scope Kept operand) object_type (compound_tree op object_type int_type) from to lowered
      → type_of around (T.AssignArithmetic op place object_type int_type object operand) ≡ Some t → makes (is_storable program.structs) (T.AssignArithmetic op place object_type int_type object operand) ≡ true
      → (start : State) (n lag slack : ℕ) (s : S.State) (state : State) → Passing tac worth start state n s.units lag slack → AtSpot tac program calls worth points placement hidden frame scope from.at s state
      → Does tac worth start n (lag + value_units (T.AssignArithmetic op place object_type int_type object operand)) (slack + (laid_by lowered + 6))
      (ComesToValue tac program calls worth points placement hidden frame scope mode from to lowered state.running.registers) (value (around_of program) calls (T.AssignArithmetic op place object_type int_type object operand) s)
  compounds_object op place object_type int_type object operand finds follows rests mode from to lowered t code typed small start n lag slack s state p at =
      let parts = first_parts (type_of_object around object) (type_of around operand) (λ a b. same_type a (Integer object_type) && is_right op (Integer int_type) b) t typed in
      let tests = and_parts (same_type t (Integer object_type)) (is_right op (Integer int_type) parts.b) parts.holds in
      let is : t ≡ Integer object_type = same_type-true t (Integer object_type) tests.0 in
      let sizes = and_parts (object_makes (is_storable program.structs) object) (makes (is_storable program.structs) operand) small in
      let followed = not (is_pure scope operand) in
      let some : 3 ≤ left_for operand = left_most operand in
      ticked tac program calls worth points placement hidden frame scope runs well keep
      (find (around_of program) calls object >>= λ q. value (around_of program) calls operand >>= λ b. read (around_of program) place q >>= λ a. arithmetic op int_type place (converted int_type a) b >>= λ c. write (around_of program) place q (converted object_type c))
      from.at s state p at (omega arith) (λ left p1 at1.
      then_find tac program calls worth points placement hidden frame scope runs well keep object finds
      (λ q. value (around_of program) calls operand >>= λ b. read (around_of program) place q >>= λ a. arithmetic op int_type place (converted int_type a) b >>= λ c. write (around_of program) place q (converted object_type c))
      followed from code.0 code.2 code.3 t code.6 parts.left sizes.0 (record s { units = left }) state p1 at1 (omega arith) (λ q s2 state2 p2 came keeps element.
      let names = object_named program points scope object false followed from code.0 (AsObject code.2 code.3) code.6 in
      then_operand tac program calls worth points placement hidden frame scope runs well keep object operand follows rests (λ b. read (around_of program) place q >>= λ a. arithmetic op int_type place (converted int_type a) b >>= λ c. write (around_of program) place q (converted object_type c))
      from code.0 code.1 code.2 code.3 q (AsInteger code.4 code.5) parts.b code.6 code.7 parts.right sizes.1 s2 state2 came.1 p2 (record { stands = came.0.there; sound = keeps.sound }) (omega arith)
      (λ scalar s3 state3 p3 came3 keeps3 has path_stands.
      let later = value_named program points scope operand Kept code.0 code.1 (AsInteger code.4 code.5) code.7 in
      let z = came3.1.0 in
      let is_b = value_form program points scope operand Kept parts.b code.0 code.1 (AsInteger code.4 code.5) parts.right code.7 in
      let fits = integer_fits program s3 parts.b code.4 scalar z is_b came3.1.1 has in
      let laid = stores_laid points (is_used mode) code.2 code.3 (AsInteger object_type (compound_tree op object_type int_type (temporary code.1) code.5)) (behind (with_temporary code.1)) to lowered code.9 in
      subst (λ x. Does tac worth start n (lag + value_units (T.AssignArithmetic op place object_type int_type object operand)) (slack + (laid_by lowered + 6))
      (ComesToValue tac program calls worth points placement hidden frame scope mode from to lowered state.running.registers)
      (continue_with (λ a. arithmetic op int_type place (converted int_type a) x >>= λ c. write (around_of program) place q (converted object_type c)) (read (around_of program) place q s3))) (sym came3.1.1)
      (then_computed (slack + (laid_by lowered + 6)) place op object_type int_type (λ a outcome. outcome) (is_used mode) mode code.1 to code.2 code.3 t q code.5 z lowered s3 state3 code.8 code.9 (λ a u. refl) p3 came3.0.there keeps3.sound path_stands
      (lowered_later later.grows (AsObject code.2 code.3) names.named) (sym (object_form program points scope object false followed t from code.0 (AsObject code.2 code.3) parts.left code.6)) is
      (element_lasts program keeps3.later t q element) came3.1.2 later.named (right_fits op int_type code.4 parts.b z tests.1 is_b fits) (omega (arith, laid, some))
      (λ old scalar' s4 after p4 computed.
      comes scalar' s4 after (eased p4 (omega arith) (omega arith)) (
        record {
          there = computed.there;
          kept = keeps_then from.counts state.running.registers state2.running.registers after.running.registers came.0.kept (keeps_fewer state2.running.registers after.running.registers names.grows
              (keeps_then code.0.counts state2.running.registers state3.running.registers after.running.registers came3.0.kept (keeps_fewer state3.running.registers after.running.registers later.grows computed.kept)));
        },
        stood mode _ computed.stands,
      ))))))

  pub step_operator_is : (stepping : Stepping) → Meaning.step_operator stepping ≡ Code.step_operator stepping
  step_operator_is Steppings.PreIncrement = refl
  step_operator_is Steppings.PostIncrement = refl
  step_operator_is Steppings.PreDecrement = refl
  step_operator_is Steppings.PostDecrement = refl

  pub one_fits : (int_type : IntType) → is_value int_type (pos 1) ≡ true
  one_fits I.Char = refl
  one_fits I.UChar = refl
  one_fits I.Short = refl
  one_fits I.UShort = refl
  one_fits I.Int = refl
  one_fits I.UInt = refl
  one_fits I.Long = refl
  one_fits I.ULong = refl

  -- the old value or the new one
  step_stands : (stepping : Stepping) (int_type : IntType) (mode : Mode) (register : Register) (old : ℤ) (scalar : Scalar) (s : S.State) (after : State) (new : Lowered) → after.running.registers register ≡ Some (M.Number old)
      → LoweredStands program mode frame placement s.objects after.running.registers new scalar
      → LoweredStands program mode frame placement s.objects after.running.registers (if gives_old stepping then AsInteger int_type (O.Held register) else new) (step_result stepping (IntegerValue old) scalar)
  step_stands Steppings.PreIncrement int_type mode register old scalar s after new held stands = stands
  step_stands Steppings.PreDecrement int_type mode register old scalar s after new held stands = stands
  step_stands Steppings.PostIncrement int_type mode register old scalar s after new held stands = (old, refl, ap integer_in held)
  step_stands Steppings.PostDecrement int_type mode register old scalar s after new held stands = (old, refl, ap integer_in held)

  step_laid : (stepping : Stepping) (int_type : IntType) (register : Register) (new : Lowered) → laid_by new ≤ 2 → laid_by (if gives_old stepping then AsInteger int_type (O.Held register) else new) ≤ 2
  step_laid Steppings.PreIncrement int_type register new less = less
  step_laid Steppings.PreDecrement int_type register new less = less
  step_laid Steppings.PostIncrement int_type register new less = omega arith
  step_laid Steppings.PostDecrement int_type register new less = omega arith

  -- `o++` and its like, where o is an integer in memory
  pub steps_object : (stepping : Stepping) (place : Pos) (int_type : IntType) (object : Object) → FindDoes tac program calls worth points placement hidden frame scope object
      → (mode : Mode) (from to : Spot) (lowered : Lowered) (t : CType) → SteppingCode points (is_used mode) stepping int_type None (ObjectCode program points scope false false object) from to lowered
      → type_of around (T.StepInteger stepping place int_type object) ≡ Some t → makes (is_storable program.structs) (T.StepInteger stepping place int_type object) ≡ true
      → (start : State) (n lag slack : ℕ) (s : S.State) (state : State) → Passing tac worth start state n s.units lag slack → AtSpot tac program calls worth points placement hidden frame scope from.at s state
      → Does tac worth start n (lag + value_units (T.StepInteger stepping place int_type object)) (slack + (laid_by lowered + 6))
      (ComesToValue tac program calls worth points placement hidden frame scope mode from to lowered state.running.registers) (value (around_of program) calls (T.StepInteger stepping place int_type object) s)
  steps_object stepping place int_type object finds mode from to lowered t code typed small start n lag slack s state p at =
      let parts = same_parts (type_of_object around object) (λ u. same_type u (Integer int_type)) t typed in
      let is : t ≡ Integer int_type = same_type-true t (Integer int_type) parts.1 in
      let common = common_of int_type I.Int in
      ticked tac program calls worth points placement hidden frame scope runs well keep
      (find (around_of program) calls object >>= λ q. read (around_of program) place q >>= λ a. arithmetic (Meaning.step_operator stepping) (common_of int_type I.Int) place (converted (common_of int_type I.Int) a) (IntegerValue (pos 1)) >>= λ c. write (around_of program) place q (converted int_type c) >>= λ new. give (step_result stepping a new))
      from.at s state p at (omega arith) (λ left p1 at1.
      then_find tac program calls worth points placement hidden frame scope runs well keep object finds
      (λ q. read (around_of program) place q >>= λ a. arithmetic (Meaning.step_operator stepping) (common_of int_type I.Int) place (converted (common_of int_type I.Int) a) (IntegerValue (pos 1)) >>= λ c. write (around_of program) place q (converted int_type c) >>= λ new. give (step_result stepping a new))
      false from code.0 code.1 code.2 t code.4 parts.0 small (record s { units = left }) state p1 at1 (omega arith) (λ q s2 state2 p2 came keeps element.
      let names = object_named program points scope object false false from code.0 (AsObject code.1 code.2) code.4 in
      let laid = step_laid stepping int_type (temporary code.0) code.3 (stores_laid points (is_used mode && not (gives_old stepping)) code.1 code.2 (AsInteger int_type (Code.step_tree stepping int_type (temporary code.0))) (behind (with_temporary code.0)) to code.3 code.6) in
      let laid' = ap laid_by code.7 in
      subst (λ op. Does tac worth start n (lag + value_units (T.StepInteger stepping place int_type object)) (slack + (laid_by lowered + 6))
      (ComesToValue tac program calls worth points placement hidden frame scope mode from to lowered state.running.registers)
      (continue_with (λ a. arithmetic op (common_of int_type I.Int) place (converted (common_of int_type I.Int) a) (IntegerValue (pos 1)) >>= λ c. write (around_of program) place q (converted int_type c) >>= λ new. give (step_result stepping a new)) (read (around_of program) place q s2))) (sym (step_operator_is stepping))
      (then_computed (slack + (laid_by lowered + 6)) place (Code.step_operator stepping) int_type common (λ a outcome. continue_with (λ new. give (step_result stepping a new)) outcome) (is_used mode && not (gives_old stepping)) mode code.0 to code.1 code.2 t q (O.Constant (pos 1)) (pos 1) code.3 s2 state2
      code.5 code.6 (λ a u. refl) p2 came.0.there keeps.sound came.1 names.named (sym (object_form program points scope object false false t from code.0 (AsObject code.1 code.2) parts.0 code.4)) is element refl tt (λ shifts. one_fits common)
      (omega (arith, laid, laid'))
      (λ old scalar s4 after p4 computed.
      comes (step_result stepping (IntegerValue old) scalar) s4 after (eased p4 (omega arith) (omega arith)) (
        record {
          there = computed.there;
          kept = keeps_then from.counts state.running.registers state2.running.registers after.running.registers came.0.kept (keeps_fewer state2.running.registers after.running.registers names.grows computed.kept);
        },
        stood mode _ (subst (λ l. LoweredStands program mode frame placement s4.objects after.running.registers l (step_result stepping (IntegerValue old) scalar)) (sym code.7)
            (step_stands stepping int_type mode (temporary code.0) old scalar s4 after code.3 computed.old_held computed.stands)),
      )))))
