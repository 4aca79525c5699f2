-- The code of `p += n`, `p -= n`, `p++` and their like follows the reference.
use Rattle.std.proofs.Common.{◌≡◌, ℕ, ◌+◌, ◌≤◌, Bool, true, false, not, ◌&&◌, if◌then◌else◌, List, Option, Some, None, pos, neg_ℤ, refl, sym, ap, ◌∙◌, subst, arith}
use Rattle.std.proofs.lemmas.Bool.{and_parts}
use Rattle.run_theory.specs.declared.place.Pos.{Pos}
use Rattle.c_typed.specs.declared.typed.Stepping.{Stepping}
use Rattle.c_typed.specs.declared.typed.Stepping.TheVariants as Steppings
use Rattle.c_typed.specs.Types.{CType, is_integer}
use Rattle.c_typed.specs.Typed as T
use Rattle.c_typed.specs.Typed.{Value, Object, Program}
use Rattle.c_typed.specs.Context.{Context}
use Rattle.c_typed.specs.Expressions.{is_pointer_to_complete, type_of, type_of_object}
use Rattle.c_typed.specs.Programs.{IsWellTyped}
use Rattle.c_typed.specs.Sizes.{makes, object_makes, is_storable}
use Rattle.ref_semantics.specs.Values as V
use Rattle.ref_semantics.specs.Values.{Scalar, LocalObject, object_place, integer_of}
use Rattle.ref_semantics.specs.Store as S
use Rattle.ref_semantics.specs.Store.{◌>>=◌, continue_with, give}
use Rattle.ref_semantics.specs.Pointers.{read, write, added}
use Rattle.ref_semantics.specs.Meaning.{Calls, value, find, step_amount, step_result}
use Rattle.ref_semantics.specs.First.{around_of}
use Rattle.ref_semantics.specs.Keeping.{CallsKeep, IsElement}
use Rattle.c_typed.proofs.Splitting.{first_parts, same_parts, to_complete}
use Rattle.ref_semantics.proofs.Lasting.{element_lasts}
use Rattle.tac_ir.specs.Code.{Op, Tac}
use Rattle.tac_ir.specs.Code as O
use Rattle.tac_ir.specs.Trees.{Registers, computes, tree_nodes}
use Rattle.tac_ir.specs.States.{State}
use Rattle.tac_build.specs.Homes.{Home, Scope, register_home, is_pure}
use Rattle.tac_build.specs.Spots.{Spot, Lowered, AsInteger, AsObject, Mode, Kept}
use Rattle.tac_build.specs.Code.{PointerCode, OneCode, is_up, gives_old, ValueCode, ObjectCode}
use Rattle.tac_build.specs.Forms.{context_of, TreeNamed, PathNamed}
use Rattle.tac_simulation.specs.Standing.{Placement, Frame, KeepsBefore, At, LoweredStands}
use Rattle.tac_simulation.proofs.Paths.{Passage as Passing, Does, comes, eased}
use Rattle.tac_simulation.proofs.Spotting.{Runs}
use Rattle.tac_simulation.proofs.Evaluating.{ValueDoes, FindDoes, AtSpot, ComesToValue, value_units, laid_by, left_for, stood}
use Rattle.tac_simulation.proofs.Combining.{ticked}
use Rattle.tac_simulation.proofs.Constants.{left_most}
use Rattle.tac_build.proofs.Named.{value_named, object_named}
use Rattle.tac_build.proofs.Naming.{lowered_later}
use Rattle.tac_simulation.proofs.Unchanged.{keeps_fewer, keeps_then}
use Rattle.tac_build.proofs.Forms.{object_form}
use Rattle.tac_simulation.proofs.Resting.{ValueRests}
use Rattle.tac_simulation.proofs.Finding.{then_find}
use Rattle.tac_simulation.proofs.Assigning.{IsHome}
use Rattle.tac_simulation.proofs.Assigned.{then_local}
use Rattle.tac_simulation.proofs.Compounded.{then_number}
use Rattle.tac_simulation.proofs.StoredForms.{then_operand}
use Rattle.tac_simulation.proofs.PointerSteps.{then_stepped_local, then_stepped_object}

module _ (tac : Tac) (program : Program) (calls : Calls) (worth : ℕ) (points : List Op) (placement : Placement) (hidden : ℕ → Option V.Content) (frame : Frame) (scope : Scope)
    (runs : Runs tac program points frame) (well : IsWellTyped program) (keep : CallsKeep program calls) where
  abbrev Follows : Value → Type 0
  Follows tree = ValueDoes tac program calls worth points placement hidden frame scope tree

  abbrev around : Context
  around = context_of program scope

  -- `p += n` and `p -= n`, where p is a local in a register
  pub moves_local : (is_minus : Bool) (place : Pos) (object : Object) (operand : Value) → Follows operand → (home : Home) → register_home scope object ≡ Some home
      → (mode : Mode) (from to : Spot) (old lowered : Lowered) (t : CType) → PointerCode points (Some home) (ObjectCode program points scope false (not (is_pure scope operand)) object) is_minus (ValueCode program points scope Kept operand) from to old lowered
      → laid_by lowered ≤ 2
      → type_of around (T.AssignMoved is_minus place object operand) ≡ Some t → makes (is_storable program.structs) (T.AssignMoved is_minus place object operand) ≡ true
      → (start : State) (n lag slack : ℕ) (s : S.State) (state : State) → Passing tac worth start state n s.units lag slack → AtSpot tac program calls worth points placement hidden frame scope from.at s state
      → Does tac worth start n (lag + value_units (T.AssignMoved is_minus place object operand)) (slack + (laid_by lowered + 6))
      (ComesToValue tac program calls worth points placement hidden frame scope mode from to lowered state.running.registers) (value (around_of program) calls (T.AssignMoved is_minus place object operand) s)
  moves_local is_minus place object operand follows home is_home mode from to old lowered t code laid typed small start n lag slack s state p at =
      let parts = first_parts (type_of_object around object) (type_of around operand) (λ a b. is_pointer_to_complete program.structs a && is_integer b) t typed in
      let tests = and_parts (is_pointer_to_complete program.structs t) (is_integer parts.b) parts.holds in
      let target = to_complete program.structs t tests.0 in
      let sizes = and_parts (object_makes (is_storable program.structs) object) (makes (is_storable program.structs) operand) small in
      let some : 3 ≤ left_for operand = left_most operand in
      ticked tac program calls worth points placement hidden frame scope runs well keep
      (find (around_of program) calls object >>= λ q. value (around_of program) calls operand >>= λ b. read (around_of program) place q >>= λ a. added place a (if is_minus then neg_ℤ (integer_of b) else integer_of b) >>= λ c. write (around_of program) place q c)
      from.at s state p at (omega arith) (λ left p1 at1.
      then_local tac program calls worth points placement hidden frame scope runs well keep object home is_home
      (λ q. value (around_of program) calls operand >>= λ b. read (around_of program) place q >>= λ a. added place a (if is_minus then neg_ℤ (integer_of b) else integer_of b) >>= λ c. write (around_of program) place q c)
      from.at t parts.left sizes.0 (record s { units = left }) state p1 at1 (omega arith) (λ number s2 p2 at2 in_scope own element.
      let there = object_place (LocalObject number) home.c_type in
      then_number tac program calls worth points placement hidden frame scope runs well keep operand follows (λ b. read (around_of program) place there >>= λ a. added place a (if is_minus then neg_ℤ (integer_of b) else integer_of b) >>= λ c. write (around_of program) place there c)
      from code.0 code.1 code.2 parts.b code.3 parts.right sizes.1 s2 state p2 at2 (omega arith) (λ z s3 state3 p3 came keeps computes_z is_b fits.
      let named = value_named program points scope operand Kept from code.0 (AsInteger code.1 code.2) code.3 in
      let element3 = subst (λ u. IsElement program s3 u there) target.is (element_lasts program keeps.later t there element) in
      then_stepped_local tac program calls worth points placement hidden frame scope runs well keep (slack + (laid_by lowered + 6)) place (λ a outcome. outcome) mode home number code.0 to target.target t is_minus code.2 old lowered z (if is_minus then neg_ℤ z else z) s3 state3
      code.4 p3 came.there keeps.sound own (subst (λ locals. IsHome scope locals home number) (sym keeps.locals) in_scope) (element.is_own ∙ target.is) target.complete element3 computes_z named.named refl (omega (arith, some, laid))
      (λ a c s4 after p4 stepped.
      comes c s4 after (eased p4 (omega arith) (omega arith)) (
        record { there = stepped.there; kept = keeps_then from.counts state.running.registers state3.running.registers after.running.registers came.kept (keeps_fewer state3.running.registers after.running.registers named.grows stepped.kept) },
        stood mode _ stepped.new_stands,
      )))))

  -- the same, where p is in memory
  pub moves_object : (is_minus : Bool) (place : Pos) (object : Object) (operand : Value) → FindDoes tac program calls worth points placement hidden frame scope object → Follows operand → ValueRests tac program calls worth points placement hidden frame scope runs well keep operand
      → (mode : Mode) (from to : Spot) (old lowered : Lowered) (t : CType) → PointerCode points None (ObjectCode program points scope false (not (is_pure scope operand)) object) is_minus (ValueCode program points scope Kept operand) from to old lowered
      → laid_by lowered ≤ 2
      → type_of around (T.AssignMoved is_minus place object operand) ≡ Some t → makes (is_storable program.structs) (T.AssignMoved is_minus place object operand) ≡ true
      → (start : State) (n lag slack : ℕ) (s : S.State) (state : State) → Passing tac worth start state n s.units lag slack → AtSpot tac program calls worth points placement hidden frame scope from.at s state
      → Does tac worth start n (lag + value_units (T.AssignMoved is_minus place object operand)) (slack + (laid_by lowered + 6))
      (ComesToValue tac program calls worth points placement hidden frame scope mode from to lowered state.running.registers) (value (around_of program) calls (T.AssignMoved is_minus place object operand) s)
  moves_object is_minus place object operand finds follows rests mode from to old lowered t code laid typed small start n lag slack s state p at =
      let parts = first_parts (type_of_object around object) (type_of around operand) (λ a b. is_pointer_to_complete program.structs a && is_integer b) t typed in
      let tests = and_parts (is_pointer_to_complete program.structs t) (is_integer parts.b) parts.holds in
      let target = to_complete program.structs t tests.0 in
      let sizes = and_parts (object_makes (is_storable program.structs) object) (makes (is_storable program.structs) operand) small in
      let followed = not (is_pure scope operand) in
      let some : 3 ≤ left_for operand = left_most operand in
      ticked tac program calls worth points placement hidden frame scope runs well keep
      (find (around_of program) calls object >>= λ q. value (around_of program) calls operand >>= λ b. read (around_of program) place q >>= λ a. added place a (if is_minus then neg_ℤ (integer_of b) else integer_of b) >>= λ c. write (around_of program) place q c)
      from.at s state p at (omega arith) (λ left p1 at1.
      then_find tac program calls worth points placement hidden frame scope runs well keep object finds
      (λ q. value (around_of program) calls operand >>= λ b. read (around_of program) place q >>= λ a. added place a (if is_minus then neg_ℤ (integer_of b) else integer_of b) >>= λ c. write (around_of program) place q c)
      followed from code.0 code.2 code.3 t code.6 parts.left sizes.0 (record s { units = left }) state p1 at1 (omega arith) (λ q s2 state2 p2 came keeps element.
      let names = object_named program points scope object false followed from code.0 (AsObject code.2 code.3) code.6 in
      then_operand tac program calls worth points placement hidden frame scope runs well keep object operand follows rests (λ b. read (around_of program) place q >>= λ a. added place a (if is_minus then neg_ℤ (integer_of b) else integer_of b) >>= λ c. write (around_of program) place q c)
      from code.0 code.1 code.2 code.3 q (AsInteger code.4 code.5) parts.b code.6 code.7 parts.right sizes.1 s2 state2 came.1 p2 (record { stands = came.0.there; sound = keeps.sound }) (omega arith)
      (λ scalar s3 state3 p3 came3 keeps3 has path_stands.
      let later = value_named program points scope operand Kept code.0 code.1 (AsInteger code.4 code.5) code.7 in
      let z = came3.1.0 in
      let element3 = subst (λ u. IsElement program s3 u q) target.is (element_lasts program keeps3.later t q element) in
      subst (λ x. Does tac worth start n (lag + value_units (T.AssignMoved is_minus place object operand)) (slack + (laid_by lowered + 6))
      (ComesToValue tac program calls worth points placement hidden frame scope mode from to lowered state.running.registers)
      (continue_with (λ a. added place a (if is_minus then neg_ℤ (integer_of x) else integer_of x) >>= λ c. write (around_of program) place q c) (read (around_of program) place q s3))) (sym came3.1.1)
      (then_stepped_object tac program calls worth points placement hidden frame scope runs well keep (slack + (laid_by lowered + 6)) place (λ a outcome. outcome) mode code.1 to code.2 code.3 target.target q is_minus code.5 old lowered z (if is_minus then neg_ℤ z else z) s3 state3
      code.8 (λ a u. refl) p3 came3.0.there keeps3.sound path_stands (lowered_later later.grows (AsObject code.2 code.3) names.named)
      (sym (object_form program points scope object false followed t from code.0 (AsObject code.2 code.3) parts.left code.6) ∙ target.is) target.complete element3 came3.1.2 later.named refl (omega (arith, some, laid))
      (λ a c s4 after p4 stepped.
      comes c s4 after (eased p4 (omega arith) (omega arith)) (
        record {
          there = stepped.there;
          kept = keeps_then from.counts state.running.registers state2.running.registers after.running.registers came.0.kept (keeps_fewer state2.running.registers after.running.registers names.grows
              (keeps_then code.0.counts state2.running.registers state3.running.registers after.running.registers came3.0.kept (keeps_fewer state3.running.registers after.running.registers later.grows stepped.kept)));
        },
        stood mode _ stepped.new_stands,
      ))))))

  amount_is : (stepping : Stepping) → (if not (is_up stepping) then neg_ℤ (pos 1) else pos 1) ≡ step_amount stepping
  amount_is Steppings.PreIncrement = refl
  amount_is Steppings.PostIncrement = refl
  amount_is Steppings.PreDecrement = refl
  amount_is Steppings.PostDecrement = refl

  -- the old pointer or the new one
  pointer_stands : (stepping : Stepping) (mode : Mode) (old new : Lowered) (a c : Scalar) (s : S.State) (registers : Registers) → LoweredStands program mode frame placement s.objects registers old a → LoweredStands program mode frame placement s.objects registers new c
      → LoweredStands program mode frame placement s.objects registers (if gives_old stepping then old else new) (step_result stepping a c)
  pointer_stands Steppings.PreIncrement mode old new a c s registers one other = other
  pointer_stands Steppings.PostIncrement mode old new a c s registers one other = one
  pointer_stands Steppings.PreDecrement mode old new a c s registers one other = other
  pointer_stands Steppings.PostDecrement mode old new a c s registers one other = one

  either_laid : (b : Bool) (old new lowered : Lowered) → lowered ≡ (if b then old else new) → laid_by old ≤ 2 → laid_by new ≤ 2 → laid_by lowered ≤ 2
  either_laid true old new lowered is one other = let laid = ap laid_by is in omega (arith, laid, one)
  either_laid false old new lowered is one other = let laid = ap laid_by is in omega (arith, laid, other)

  -- `p++` and its like, where p is a local in a register
  pub steps_local : (stepping : Stepping) (place : Pos) (object : Object) → (home : Home) → register_home scope object ≡ Some home
      → (mode : Mode) (from to : Spot) (old new lowered : Lowered) (t : CType) → PointerCode points (Some home) (ObjectCode program points scope false false object) (not (is_up stepping)) (OneCode points) from to old new
      → lowered ≡ (if gives_old stepping then old else new)
      → type_of around (T.StepPointer stepping place object) ≡ Some t → makes (is_storable program.structs) (T.StepPointer stepping place object) ≡ true
      → (start : State) (n lag slack : ℕ) (s : S.State) (state : State) → Passing tac worth start state n s.units lag slack → AtSpot tac program calls worth points placement hidden frame scope from.at s state
      → Does tac worth start n (lag + value_units (T.StepPointer stepping place object)) (slack + (laid_by lowered + 6))
      (ComesToValue tac program calls worth points placement hidden frame scope mode from to lowered state.running.registers) (value (around_of program) calls (T.StepPointer stepping place object) s)
  steps_local stepping place object home is_home mode from to old new lowered t code lowered_is typed small start n lag slack s state p at =
      let parts = same_parts (type_of_object around object) (is_pointer_to_complete program.structs) t typed in
      let target = to_complete program.structs t parts.1 in
      let one = code.3.1 in
      let laid = either_laid (gives_old stepping) old new lowered lowered_is (let l = ap laid_by code.4.5 in omega (arith, l)) (let l = ap laid_by code.4.6.2 in omega (arith, l)) in
      ticked tac program calls worth points placement hidden frame scope runs well keep
      (find (around_of program) calls object >>= λ q. read (around_of program) place q >>= λ a. added place a (step_amount stepping) >>= λ c. write (around_of program) place q c >>= λ made. give (step_result stepping a made))
      from.at s state p at (omega arith) (λ left p1 at1.
      then_local tac program calls worth points placement hidden frame scope runs well keep object home is_home
      (λ q. read (around_of program) place q >>= λ a. added place a (step_amount stepping) >>= λ c. write (around_of program) place q c >>= λ made. give (step_result stepping a made))
      from.at t parts.0 small (record s { units = left }) state p1 at1 (omega arith) (λ number s2 p2 at2 in_scope own element.
      let there = object_place (LocalObject number) home.c_type in
      let tree_is : code.2 ≡ O.Constant (pos 1) = cc in
      then_stepped_local tac program calls worth points placement hidden frame scope runs well keep (slack + (laid_by lowered + 6)) place (λ a outcome. continue_with (λ made. give (step_result stepping a made)) outcome) mode home number code.0 to target.target t (not (is_up stepping)) code.2 old new (pos 1) (step_amount stepping) s2 state
      code.4 p2 (subst (λ (spot : Spot). At program placement hidden frame scope spot.at s2 state) (sym code.3.0) at2.stands) at2.sound own in_scope (element.is_own ∙ target.is) target.complete (subst (λ u. IsElement program s2 u there) target.is element)
      (ap (computes state.running.registers) tree_is) (subst (λ tree. TreeNamed code.0.counts tree) (sym tree_is) tt) (amount_is stepping) (let nodes = ap tree_nodes tree_is in omega (arith, nodes, laid))
      (λ a c s4 after p4 stepped.
      comes (step_result stepping a c) s4 after (eased p4 (omega arith) (omega arith)) (
        record { there = stepped.there; kept = subst (λ (spot : Spot). KeepsBefore spot.counts state.running.registers after.running.registers) code.3.0 stepped.kept },
        stood mode _ (subst (λ l. LoweredStands program mode frame placement s4.objects after.running.registers l (step_result stepping a c)) (sym lowered_is) (pointer_stands stepping mode old new a c s4 after.running.registers stepped.old_stands stepped.new_stands)),
      ))))

  -- the same, where p is in memory
  pub steps_object : (stepping : Stepping) (place : Pos) (object : Object) → FindDoes tac program calls worth points placement hidden frame scope object
      → (mode : Mode) (from to : Spot) (old new lowered : Lowered) (t : CType) → PointerCode points None (ObjectCode program points scope false false object) (not (is_up stepping)) (OneCode points) from to old new
      → lowered ≡ (if gives_old stepping then old else new)
      → type_of around (T.StepPointer stepping place object) ≡ Some t → makes (is_storable program.structs) (T.StepPointer stepping place object) ≡ true
      → (start : State) (n lag slack : ℕ) (s : S.State) (state : State) → Passing tac worth start state n s.units lag slack → AtSpot tac program calls worth points placement hidden frame scope from.at s state
      → Does tac worth start n (lag + value_units (T.StepPointer stepping place object)) (slack + (laid_by lowered + 6))
      (ComesToValue tac program calls worth points placement hidden frame scope mode from to lowered state.running.registers) (value (around_of program) calls (T.StepPointer stepping place object) s)
  steps_object stepping place object finds mode from to old new lowered t code lowered_is typed small start n lag slack s state p at =
      let parts = same_parts (type_of_object around object) (is_pointer_to_complete program.structs) t typed in
      let target = to_complete program.structs t parts.1 in
      let laid = either_laid (gives_old stepping) old new lowered lowered_is (let l = ap laid_by code.8.5 in omega (arith, l)) (let l = ap laid_by code.8.6.2 in omega (arith, l)) in
      let one = code.7.1 in
      ticked tac program calls worth points placement hidden frame scope runs well keep
      (find (around_of program) calls object >>= λ q. read (around_of program) place q >>= λ a. added place a (step_amount stepping) >>= λ c. write (around_of program) place q c >>= λ made. give (step_result stepping a made))
      from.at s state p at (omega arith) (λ left p1 at1.
      then_find tac program calls worth points placement hidden frame scope runs well keep object finds
      (λ q. read (around_of program) place q >>= λ a. added place a (step_amount stepping) >>= λ c. write (around_of program) place q c >>= λ made. give (step_result stepping a made))
      false from code.0 code.2 code.3 t code.6 parts.0 small (record s { units = left }) state p1 at1 (omega arith) (λ q s2 state2 p2 came keeps element.
      let names = object_named program points scope object false false from code.0 (AsObject code.2 code.3) code.6 in
      let tree_is : code.5 ≡ O.Constant (pos 1) = cc in
      then_stepped_object tac program calls worth points placement hidden frame scope runs well keep (slack + (laid_by lowered + 6)) place (λ a outcome. continue_with (λ made. give (step_result stepping a made)) outcome) mode code.1 to code.2 code.3 target.target q (not (is_up stepping)) code.5 old new (pos 1) (step_amount stepping) s2 state2
      code.8 (λ a u. refl) p2 (subst (λ (spot : Spot). At program placement hidden frame scope spot.at s2 state2) (sym code.7.0) came.0.there) keeps.sound came.1 (subst (λ (spot : Spot). PathNamed spot.counts code.2) (sym code.7.0) names.named)
      (sym (object_form program points scope object false false t from code.0 (AsObject code.2 code.3) parts.0 code.6) ∙ target.is) target.complete (subst (λ u. IsElement program s2 u q) target.is element)
      (ap (computes state2.running.registers) tree_is) (subst (λ tree. TreeNamed code.1.counts tree) (sym tree_is) tt) (amount_is stepping) (let nodes = ap tree_nodes tree_is in omega (arith, nodes, laid))
      (λ a c s4 after p4 stepped.
      comes (step_result stepping a c) s4 after (eased p4 (omega arith) (omega arith)) (
        record {
          there = stepped.there;
          kept = keeps_then from.counts state.running.registers state2.running.registers after.running.registers came.0.kept (keeps_fewer state2.running.registers after.running.registers names.grows
              (subst (λ (spot : Spot). KeepsBefore spot.counts state2.running.registers after.running.registers) code.7.0 stepped.kept));
        },
        stood mode _ (subst (λ l. LoweredStands program mode frame placement s4.objects after.running.registers l (step_result stepping a c)) (sym lowered_is) (pointer_stands stepping mode old new a c s4 after.running.registers stepped.old_stands stepped.new_stands)),
      ))))

  -- `p += n` and `p -= n`
  pub moves : (is_minus : Bool) (place : Pos) (object : Object) (operand : Value) → FindDoes tac program calls worth points placement hidden frame scope object → Follows operand → ValueRests tac program calls worth points placement hidden frame scope runs well keep operand
      → Follows (T.AssignMoved is_minus place object operand)
  moves is_minus place object operand finds follows rests mode from to lowered t code typed small start n lag slack s state p at = by (register_home scope object) refl code.1
    where
      by : (home : Option Home) → register_home scope object ≡ home → PointerCode points home (ObjectCode program points scope false (not (is_pure scope operand)) object) is_minus (ValueCode program points scope Kept operand) from to code.0 lowered
          → Does tac worth start n (lag + value_units (T.AssignMoved is_minus place object operand)) (slack + (laid_by lowered + 6))
          (ComesToValue tac program calls worth points placement hidden frame scope mode from to lowered state.running.registers) (value (around_of program) calls (T.AssignMoved is_minus place object operand) s)
      by (Some home) e code' = moves_local is_minus place object operand follows home e mode from to code.0 lowered t code' (let l = ap laid_by code'.4.6.2 in omega (arith, l)) typed small start n lag slack s state p at
      by None e code' = moves_object is_minus place object operand finds follows rests mode from to code.0 lowered t code' (let l = ap laid_by code'.8.6.2 in omega (arith, l)) typed small start n lag slack s state p at

  -- `p++` and its like
  pub steps : (stepping : Stepping) (place : Pos) (object : Object) → FindDoes tac program calls worth points placement hidden frame scope object → Follows (T.StepPointer stepping place object)
  steps stepping place object finds mode from to lowered t code typed small start n lag slack s state p at = by (register_home scope object) refl code.2
    where
      by : (home : Option Home) → register_home scope object ≡ home → PointerCode points home (ObjectCode program points scope false false object) (not (is_up stepping)) (OneCode points) from to code.0 code.1
          → Does tac worth start n (lag + value_units (T.StepPointer stepping place object)) (slack + (laid_by lowered + 6))
          (ComesToValue tac program calls worth points placement hidden frame scope mode from to lowered state.running.registers) (value (around_of program) calls (T.StepPointer stepping place object) s)
      by (Some home) e code' = steps_local stepping place object home e mode from to code.0 code.1 lowered t code' code.3 typed small start n lag slack s state p at
      by None e code' = steps_object stepping place object finds mode from to code.0 code.1 lowered t code' code.3 typed small start n lag slack s state p at
