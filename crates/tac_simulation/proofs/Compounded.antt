-- The code of compound assignments to locals in registers.
use Rattle.std.proofs.Common.{◌≡◌, ℕ, ◌+◌, ◌*◌, ◌≤◌, Bool, true, false, not, ◌&&◌, if◌then◌else◌, List, [], ◌++◌, Option, Some, None, ℤ, Result, Ok, Err, refl, sym, ap, ◌∙◌, subst, arith}
use Rattle.std.proofs.lemmas.Bool.{and_parts, true≢false}
use Rattle.std.proofs.lemmas.List.{append-nil}
use Rattle.run_theory.specs.declared.place.Pos.{Pos}
use Rattle.run_theory.specs.declared.ends.UbKind.TheVariants as Ub
use Rattle.c_num.specs.declared.IntType.{IntType}
use Rattle.c_num.specs.declared.ArithUb.{ArithUb}
use Rattle.c_num.specs.declared.BinOp.{BinOp}
use Rattle.c_num.specs.Types.{is_value}
use Rattle.c_num.specs.Conversion.{convert_to}
use Rattle.c_num.specs.Arith.{is_shift, outcome_of}
use Rattle.c_typed.specs.Types.{CType, Integer, same_type, is_integer}
use Rattle.c_typed.specs.Typed as T
use Rattle.c_typed.specs.Typed.{Value, Object, Program}
use Rattle.c_typed.proofs.Same.{same_type-true}
use Rattle.c_typed.specs.Context.{Context}
use Rattle.c_typed.specs.Expressions.{is_scalar, is_right, type_of, type_of_object}
use Rattle.c_typed.specs.Programs.{IsWellTyped}
use Rattle.c_typed.specs.Sizes.{makes, object_makes, is_storable}
use Rattle.ref_semantics.specs.Values as V
use Rattle.ref_semantics.specs.Values.{Scalar, IntegerValue, NullValue, FunctionValue, PointerValue, RawPointer, LocalObject, object_place}
use Rattle.ref_semantics.specs.Store as S
use Rattle.ref_semantics.specs.Store.{Then, Eval, ◌>>=◌, continue_with, offset_of, scalar_or}
use Rattle.ref_semantics.specs.Pointers.{read, write, loaded}
use Rattle.ref_semantics.specs.Meaning.{Calls, value, find, arithmetic, converted, outcome_at, kind_of}
use Rattle.ref_semantics.specs.First.{around_of}
use Rattle.ref_semantics.specs.Sound.{HasType, Sound}
use Rattle.ref_semantics.specs.Keeping.{Keeps, CallsKeep, IsElement}
use Rattle.c_typed.proofs.Splitting.{first_parts}
use Rattle.ref_semantics.proofs.Storing.{read_keeps}
use Rattle.ref_semantics.proofs.Lasting.{element_lasts}
use Rattle.ref_semantics.proofs.Operating.{integer_scalar}
use Rattle.tac_ir.specs.declared.register.Register.TheVariants as R
use Rattle.tac_ir.specs.Code.{Op, Tac, Tree}
use Rattle.tac_ir.specs.Code as O
use Rattle.tac_ir.specs.Values as M
use Rattle.tac_ir.specs.Trees.{computes, tree_nodes, integer_in}
use Rattle.tac_ir.specs.States.{State}
use Rattle.tac_build.specs.Homes.{Home, Scope, register_home, is_pure}
use Rattle.tac_build.specs.Spots.{Spot, Lowered, AsInteger, Mode, Kept, is_used}
use Rattle.tac_build.specs.Code.{CompoundCode, compound_tree, ValueCode, ObjectCode}
use Rattle.tac_build.specs.Forms.{scope_types, context_of}
use Rattle.tac_simulation.specs.Standing.{Placement, Frame, At, ScalarStands}
use Rattle.tac_simulation.proofs.Paths.{Stand, Passage as Passing, Does, stray}
use Rattle.tac_simulation.proofs.Spotting.{Runs, written_there}
use Rattle.tac_simulation.proofs.Evaluating.{ValueDoes, AtSpot, Came, ComesToValue, value_units, laid_by, left_for}
use Rattle.tac_simulation.proofs.Combining.{ticked, then_value}
use Rattle.tac_simulation.proofs.Constants.{left_most}
use Rattle.tac_build.proofs.Forms.{value_form}
use Rattle.tac_simulation.proofs.Integers.{integer_is, integer_fits}
use Rattle.tac_simulation.proofs.Computing.{converted_fits, arithmetic_is, computes_arithmetic, computes_convert}
use Rattle.tac_simulation.proofs.Assigning.{IsHome, Own, own_at}
use Rattle.tac_simulation.proofs.Assigned.{then_local, puts_local}

-- a value of an integer type is an integer of it
pub integer_scalar_is : (program : Program) (s : S.State) (t : CType) (own : IntType) (scalar : Scalar) → t ≡ Integer own → HasType program s t scalar → (z : ℤ) × (scalar ≡ IntegerValue z) × (is_value own z ≡ true)
integer_scalar_is program s t own scalar is typed = by scalar (subst (λ u. HasType program s u scalar) is typed)
  where
    by : (x : Scalar) → HasType program s (Integer own) x → (z : ℤ) × (x ≡ IntegerValue z) × (is_value own z ≡ true)
    by (IntegerValue z) h = (z, refl, h)
    by NullValue h = absurd h
    by (FunctionValue name) h = absurd h
    by (PointerValue place) h = absurd h
    by (RawPointer number) h = absurd h

-- the right operand of an operator is a value of the type in which that works, unless it shifts
pub right_fits : (op : BinOp) (int_type own : IntType) (t : CType) (z : ℤ) → is_right op (Integer int_type) t ≡ true → t ≡ Integer own → is_value own z ≡ true → is_shift op ≡ false → is_value int_type z ≡ true
right_fits op int_type own t z right is fits no_shift = by (is_shift op) no_shift right
  where
    by : (b : Bool) → b ≡ false → (if b then is_integer t else same_type (Integer int_type) t) ≡ true → is_value int_type z ≡ true
    by true e right = absurd (true≢false e)
    by false e right = subst (λ n. is_value n z ≡ true) (sym (integer_is (same_type-true (Integer int_type) t right ∙ is))) fits

-- an operator on values of its type, and the evaluation goes on
pub then_arithmetic : {tac : Tac} {worth : ℕ} {B : Type 0} {Stands : Stand B} {start : State} {n lag slack : ℕ} (op : BinOp) (int_type : IntType) (here : Pos) (a b : ℤ) (next : Scalar → Eval B) (s : S.State)
    → is_value int_type a ≡ true → (is_shift op ≡ false → is_value int_type b ≡ true)
    → ((z : ℤ) → outcome_of op int_type a b ≡ Ok z → Does tac worth start n lag slack Stands (next (IntegerValue z) s))
    → Does tac worth start n lag slack Stands (continue_with next (arithmetic op int_type here (IntegerValue a) (IntegerValue b) s))
then_arithmetic {tac} {worth} {B} {Stands} {start} {n} {lag} {slack} op int_type here a b next s fits fits' rest =
    subst (λ (eval : Eval Scalar). Does tac worth start n lag slack Stands (continue_with next (eval s))) (sym (arithmetic_is op int_type here a b fits fits')) (by (outcome_of op int_type a b) refl)
  where
    by : (result : Result ℤ ArithUb) → outcome_of op int_type a b ≡ result → Does tac worth start n lag slack Stands (continue_with next (outcome_at here result s))
    by (Ok z) e = rest z e
    by (Err kind) e = stray (kind_of kind) here s

-- the state in which a local was read
abbrev pub own_read : S.State → S.State
own_read s = record s { trace = s.trace ++ [] }

module _ (tac : Tac) (program : Program) (calls : Calls) (worth : ℕ) (points : List Op) (placement : Placement) (hidden : ℕ → Option V.Content) (frame : Frame) (scope : Scope)
    (runs : Runs tac program points frame) (well : IsWellTyped program) (keep : CallsKeep program calls) where
  abbrev Follows : Value → Type 0
  Follows tree = ValueDoes tac program calls worth points placement hidden frame scope tree

  abbrev around : Context
  around = context_of program scope

  pub at_own_read : (at : ℕ) (s : S.State) (t : State) → At program placement hidden frame scope at s t → At program placement hidden frame scope at (own_read s) t
  at_own_read at s t h = record {
    stands = record { input = h.stands.input; heap = h.stands.heap; trace = h.stands.trace ∙ sym (append-nil s.trace); memory = h.stands.memory; placed = h.stands.placed; unchanged = h.stands.unchanged };
    homes = h.homes;
    own = record { there = h.own.there; in_scope = h.own.in_scope };
    point = h.point;
    owner = h.owner;
    number = h.number;
    callers = h.callers;
    paid = h.paid;
  }

  -- an operand comes to an integer of its type, and the evaluation goes on
  pub then_number : {B : Type 0} {Stands : Stand B} {start : State} {n lag lag' slack slack' : ℕ} (tree : Value) → Follows tree → (next : Scalar → Eval B)
      → (from to : Spot) (own : IntType) (a : Tree) (t : CType) → ValueCode program points scope Kept tree from to (AsInteger own a) → type_of around tree ≡ Some t → makes (is_storable program.structs) tree ≡ true
      → (s : S.State) (state : State) → Passing tac worth start state n s.units lag slack → AtSpot tac program calls worth points placement hidden frame scope from.at s state → lag + value_units tree ≤ lag'
      → ((z : ℤ) (s' : S.State) (state' : State) → Passing tac worth start state' n s'.units (lag + value_units tree) (slack + (2 * tree_nodes a + left_for tree))
      → Came tac program calls worth points placement hidden frame scope from to state.running.registers s' state' → Keeps around s s' → computes state'.running.registers a ≡ Some z → t ≡ Integer own → is_value own z ≡ true
      → Does tac worth start n lag' slack' Stands (next (IntegerValue z) s'))
      → Does tac worth start n lag' slack' Stands (continue_with next (value (around_of program) calls tree s))
  then_number {B} {Stands} {start} {n} {lag} {lag'} {slack} {slack'} tree follows next from to own a t code typed small s state p at more rest =
      then_value tac program calls worth points placement hidden frame scope runs well keep {lag' = lag'} {slack' = slack'} tree follows next Kept from to (AsInteger own a) t code typed small s state p at more (λ scalar s' state' p' came keeps has.
      let is = value_form program points scope tree Kept t from to (AsInteger own a) typed code in
      subst (λ x. Does tac worth start n lag' slack' Stands (next x s')) (sym came.1.1)
      (rest came.1.0 s' state' p' came.0 keeps came.1.2 is (integer_fits program s' t own scalar came.1.0 is came.1.1 has)))

  -- a local in a register is read, and the evaluation goes on: no point is passed
  pub then_own : {B : Type 0} {Stands : Stand B} {start : State} {n lag slack : ℕ} (here : Pos) (next : Scalar → Eval B) (at : ℕ) (home : Home) (number : ℕ) (t : CType) (s : S.State) (state : State)
      → At program placement hidden frame scope at s state → Sound around s → home.is_object ≡ false → IsHome scope s.locals home number → is_scalar t ≡ true → IsElement program s t (object_place (LocalObject number) home.c_type)
      → ((scalar : Scalar) (value : M.Value) → state.running.registers (R.Local home.local) ≡ Some value → ScalarStands program s.objects placement scalar value → At program placement hidden frame scope at (own_read s) state
      → Keeps around s (own_read s) → HasType program (own_read s) t scalar → Does tac worth start n lag slack Stands (next scalar (own_read s)))
      → Does tac worth start n lag slack Stands (continue_with next (read (around_of program) here (object_place (LocalObject number) home.c_type) s))
  then_own {B} {Stands} {start} {n} {lag} {slack} here next at home number t s state h sound own is is_scalar_type element rest = by (held.held 0) refl
    where
      held : Own program placement s.objects state.running.registers home number
      held = own_at tac program points placement hidden frame scope runs at home number s state own is h

      first : offset_of (around_of program) (object_place (LocalObject number) home.c_type) ≡ 0
      first = omega arith

      read_is : read (around_of program) here (object_place (LocalObject number) home.c_type) s ≡ loaded here (LocalObject number) (scalar_or (held.held 0) false home.c_type) s
      read_is = rw (held.content, first) refl

      by : (found : Option Scalar) → held.held 0 ≡ found → Does tac worth start n lag slack Stands (continue_with next (read (around_of program) here (object_place (LocalObject number) home.c_type) s))
      by None e =
          subst (λ outcome. Does tac worth start n lag slack Stands (continue_with next outcome)) (sym (read_is ∙ ap (λ f. loaded here (LocalObject number) (scalar_or f false home.c_type) s) e)) (stray Ub.U04 here s)
      by (Some scalar) e =
          let gave : read (around_of program) here (object_place (LocalObject number) home.c_type) s ≡ Then scalar (own_read s) = read_is ∙ ap (λ f. loaded here (LocalObject number) (scalar_or f false home.c_type) s) e in
          let typed = (read_keeps program well (scope_types scope) s sound here t (object_place (LocalObject number) home.c_type) is_scalar_type element).gives scalar (own_read s) gave in
          let holds = held.holds scalar e in
          subst (λ outcome. Does tac worth start n lag slack Stands (continue_with next outcome)) (sym gave) (rest scalar holds.0 holds.1 holds.2 (at_own_read at s state h) typed.0 typed.1)

  -- `x op= v`, where x is a local in a register
  pub compounds_local : (op : BinOp) (place : Pos) (object_type int_type : IntType) (object : Object) (operand : Value) → Follows operand → (home : Home) → register_home scope object ≡ Some home
      → (mode : Mode) (from to : Spot) (lowered : Lowered) (t : CType)
      → CompoundCode points (is_used mode) (Some home) (ObjectCode program points scope false (not (is_pure scope operand)) object) (ValueCode program points scope Kept operand) object_type (compound_tree op object_type int_type) from to lowered
      → type_of around (T.AssignArithmetic op place object_type int_type object operand) ≡ Some t → makes (is_storable program.structs) (T.AssignArithmetic op place object_type int_type object operand) ≡ true
      → (start : State) (n lag slack : ℕ) (s : S.State) (state : State) → Passing tac worth start state n s.units lag slack → AtSpot tac program calls worth points placement hidden frame scope from.at s state
      → Does tac worth start n (lag + value_units (T.AssignArithmetic op place object_type int_type object operand)) (slack + (laid_by lowered + 6))
      (ComesToValue tac program calls worth points placement hidden frame scope mode from to lowered state.running.registers) (value (around_of program) calls (T.AssignArithmetic op place object_type int_type object operand) s)
  compounds_local op place object_type int_type object operand follows home is_home mode from to lowered t code typed small start n lag slack s state p at =
      let parts = first_parts (type_of_object around object) (type_of around operand) (λ a b. same_type a (Integer object_type) && is_right op (Integer int_type) b) t typed in
      let tests = and_parts (same_type t (Integer object_type)) (is_right op (Integer int_type) parts.b) parts.holds in
      let is : t ≡ Integer object_type = same_type-true t (Integer object_type) tests.0 in
      let sizes = and_parts (object_makes (is_storable program.structs) object) (makes (is_storable program.structs) operand) small in
      let some : 3 ≤ left_for operand = left_most operand in
      ticked tac program calls worth points placement hidden frame scope runs well keep
      (find (around_of program) calls object >>= λ q. value (around_of program) calls operand >>= λ b. read (around_of program) place q >>= λ a. arithmetic op int_type place (converted int_type a) b >>= λ c. write (around_of program) place q (converted object_type c))
      from.at s state p at (omega arith) (λ left p1 at1.
      then_local tac program calls worth points placement hidden frame scope runs well keep object home is_home
      (λ q. value (around_of program) calls operand >>= λ b. read (around_of program) place q >>= λ a. arithmetic op int_type place (converted int_type a) b >>= λ c. write (around_of program) place q (converted object_type c))
      from.at t parts.left sizes.0 (record s { units = left }) state p1 at1 (omega arith) (λ number s2 p2 at2 in_scope own element.
      let there = object_place (LocalObject number) home.c_type in
      then_number operand follows (λ b. read (around_of program) place there >>= λ a. arithmetic op int_type place (converted int_type a) b >>= λ c. write (around_of program) place there (converted object_type c))
      from code.0 code.1 code.2 parts.b code.3 parts.right sizes.1 s2 state p2 at2 (omega arith) (λ z s3 state3 p3 came keeps computes_z is_b fits.
      let in_scope3 : IsHome scope s3.locals home number = subst (λ locals. IsHome scope locals home number) (sym keeps.locals) in_scope in
      then_own place (λ a. arithmetic op int_type place (converted int_type a) (IntegerValue z) >>= λ c. write (around_of program) place there (converted object_type c)) code.0.at home number t s3 state3 came.there keeps.sound own in_scope3
      (integer_scalar t object_type is) (element_lasts program keeps.later t there element) (λ scalar value holds stands at4 keeps4 has.
      let old = integer_scalar_is program (own_read s3) t object_type scalar is has in
      let reads : computes state3.running.registers (O.Held (R.Local home.local)) ≡ Some old.0 = ap integer_in (holds ∙ ap Some (subst (λ x. ScalarStands program s3.objects placement x value) old.1 stands)) in
      let left_is = computes_convert state3.running.registers int_type (O.Held (R.Local home.local)) old.0 reads in
      let right = right_fits op int_type code.1 parts.b z tests.1 is_b fits in
      subst (λ x. Does tac worth start n (lag + value_units (T.AssignArithmetic op place object_type int_type object operand)) (slack + (laid_by lowered + 6))
      (ComesToValue tac program calls worth points placement hidden frame scope mode from to lowered state.running.registers)
      (continue_with (λ c. write (around_of program) place there (converted object_type c)) (arithmetic op int_type place (converted int_type x) (IntegerValue z) (own_read s3)))) (sym old.1)
      (then_arithmetic op int_type place (convert_to int_type old.0) z (λ c. write (around_of program) place there (converted object_type c)) (own_read s3) (converted_fits int_type old.0) right (λ c e.
      let tree = compound_tree op object_type int_type (R.Local home.local) code.2 in
      let new : computes state3.running.registers tree ≡ Some (convert_to object_type c) =
      computes_convert state3.running.registers object_type (O.Arithmetic op int_type (O.Convert int_type (O.Held (R.Local home.local))) code.2) c
      (computes_arithmetic state3.running.registers op int_type (O.Convert int_type (O.Held (R.Local home.local))) code.2 (convert_to int_type old.0) z c left_is computes_z (converted_fits int_type old.0) right e) in
      puts_local tac program calls worth points placement hidden frame scope runs well keep place (O.Assign (R.Local home.local) tree) home number (M.Number (convert_to object_type c)) mode from code.0 to lowered
      (AsInteger object_type (O.Held (R.Local home.local))) state.running.registers (IntegerValue (convert_to object_type c)) (own_read s3) state3 p3 at4 came.kept code.4.0 (rw new refl) own in_scope3 refl
      (ap (λ (spot : Spot). spot.at) code.4.1) code.5
      (convert_to object_type c, refl, ap integer_in (written_there (R.Local home.local) (Some (M.Number (convert_to object_type c))) state3.running.registers)) (omega arith)
      (let laid = ap laid_by code.5 in omega (arith, laid, some))))))))
