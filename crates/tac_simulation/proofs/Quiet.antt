-- Each pure expression leaves the registers as they are.
use Rattle.std.proofs.Common.{◌≡◌, ℕ, ◌+◌, ◌*◌, Bool, true, false, List, [], ◌∷◌, Option, Some, None, ℤ, refl, sym, ap, ◌∙◌, subst, arith}
use Rattle.std.proofs.lemmas.Bool.{false≢true}
use Rattle.std.proofs.lemmas.List.{append-nil}
use Rattle.std.proofs.lemmas.Option.{same_Some}
use Rattle.run_theory.specs.declared.place.Pos.{Pos}
use Rattle.run_theory.specs.declared.ends.UbKind.TheVariants as Ub
use Rattle.c_num.specs.declared.IntType.{IntType}
use Rattle.c_typed.specs.Types.{CType, Void, Integer, Pointer, Array, Struct, Function, is_integer}
use Rattle.c_typed.specs.Typed as T
use Rattle.c_typed.specs.Typed.{Value, Object, Program}
use Rattle.c_typed.specs.Context.{Context}
use Rattle.c_typed.specs.Expressions.{type_of}
use Rattle.c_typed.specs.Programs.{IsWellTyped}
use Rattle.c_typed.specs.Sizes.{makes, is_storable}
use Rattle.ref_semantics.specs.Values as V
use Rattle.ref_semantics.specs.Values.{LocalObject, Place, Scalar, IntegerValue, NullValue, FunctionValue, PointerValue, RawPointer, object_place}
use Rattle.ref_semantics.specs.Store as S
use Rattle.ref_semantics.specs.Store.{TypeEnvironment, Outcome, Then, premise, unless, is_dead, offset_of, size_of, scalar_or, scalar_at}
use Rattle.ref_semantics.specs.Pointers.{read, loaded}
use Rattle.ref_semantics.specs.Meaning.{Calls, value}
use Rattle.ref_semantics.specs.First.{around_of}
use Rattle.ref_semantics.specs.Sound.{HasType, Sound}
use Rattle.ref_semantics.specs.Keeping.{CallsKeep}
use Rattle.ref_semantics.proofs.ValuesKeep.{value_keeps}
use Rattle.tac_ir.specs.declared.register.Local.{Local}
use Rattle.tac_ir.specs.declared.register.Register.TheVariants as R
use Rattle.tac_ir.specs.Code.{Op, Tac}
use Rattle.tac_ir.specs.Code as O
use Rattle.tac_ir.specs.States.{State}
use Rattle.tac_ir.specs.Trees.{Registers, integer_in}
use Rattle.tac_build.specs.Homes.{Home, Scope, register_home, holds_integer}
use Rattle.tac_build.specs.Spots.{Spot, Lowered, AsInteger}
use Rattle.tac_build.specs.Code.{ReadsLocal, ReadCode, ObjectCode}
use Rattle.tac_build.specs.Forms.{scope_types, context_of, HasForm}
use Rattle.tac_simulation.specs.Standing.{Placement, Frame, At, HomeStands, HoldsFor, ScalarStands}
use Rattle.tac_simulation.proofs.Spotting.{Runs}
use Rattle.tac_simulation.proofs.Evaluating
use Rattle.tac_simulation.specs.Standing
use Rattle.tac_simulation.proofs.Evaluating.{ValueDoes, object_units, laid_by}
use Rattle.tac_simulation.proofs.Paths.{Stand, Passage as Passing, Does, comes, stops, eases, allows, bind, stray}
use Rattle.tac_build.proofs.Forms.{value_form}
use Rattle.tac_simulation.proofs.Leading.{found_home}
use Rattle.tac_simulation.proofs.Finding.{finds_local}
use Rattle.tac_simulation.proofs.Finding
use Rattle.tac_simulation.proofs.PureRests.{Rests}
use Rattle.tac_simulation.proofs.Resting.{ValueRests, rests_of}
use Rattle.tac_simulation.proofs.Rested.{constant_rests, grouped_rests, converted_rests, plus_rests, cast_rests, minus_rests, complement_rests, not_rests, operator_rests, relation_rests}

without_static : (found : Option Scalar) (t : CType) → scalar_or found false t ≡ found
without_static None t = refl
without_static (Some scalar) t = refl

first_offset : (size : ℕ) → 0 + 0 * size ≡ 0
first_offset size = omega arith

-- a local that is alone in its object is read
read_alone : (around : TypeEnvironment) (here : Pos) (number : ℕ) (t : CType) (held : ℕ → Option Scalar) (s : S.State) → s.objects (LocalObject number) ≡ V.Elements false t 1 held
    → read around here (object_place (LocalObject number) t) s ≡ loaded here (LocalObject number) (held 0) s
read_alone around here number t held s e =
    ap (λ content. unless here (premise (is_dead content) Ub.U06 ∷ []) (loaded here (LocalObject number) (scalar_at around content (object_place (LocalObject number) t))) s) e
    ∙ ap (λ found. loaded here (LocalObject number) found s) (without_static (held (offset_of around (object_place (LocalObject number) t))) t ∙ ap held (first_offset (size_of around t)))

record ReadsInteger (home : Home) (from to : Spot) (lowered : Lowered) : Type 0 where
  own : IntType
  type_is : home.c_type ≡ Integer own
  next : to ≡ from
  is : lowered ≡ AsInteger own (O.Held (R.Local home.local))

reads_integer : (points : List Op) (local : Local) (is_object : Bool) (own : CType) (from to : Spot) (lowered : Lowered) → is_integer own ≡ true
    → ReadsLocal points (record { local = local; is_object = is_object; c_type = own }) from to lowered → ReadsInteger (record { local = local; is_object = is_object; c_type = own }) from to lowered
reads_integer points local is_object (Integer int_type) from to lowered pure code = record { own = int_type; type_is = refl; next = code.0; is = code.1 }
reads_integer points local is_object (Pointer target) from to lowered pure code = absurd (false≢true pure)
reads_integer points local is_object Void from to lowered pure code = absurd code
reads_integer points local is_object (Array element count) from to lowered pure code = absurd code
reads_integer points local is_object (Struct tag) from to lowered pure code = absurd code
reads_integer points local is_object (Function result parameters) from to lowered pure code = absurd code

-- a local in a register, and what is held there
record InRegister (program : Program) (objects : S.Objects) (placement : Placement) (registers : Registers) (home : Home) (number : ℕ) : Type 0 where
  held : ℕ → Option Scalar
  holds : objects (LocalObject number) ≡ V.Elements false home.c_type 1 held
  stands : (scalar : Scalar) → held 0 ≡ Some scalar → HoldsFor program objects placement scalar (registers (R.Local home.local))

in_a_register : (program : Program) (objects : S.Objects) (placement : Placement) (activation : ℕ) (registers : Registers) (home : Home) (number : ℕ) (b : Bool) → b ≡ false
    → HomeStands program placement activation objects registers (record home { is_object = b }) number → InRegister program objects placement registers home number
in_a_register program objects placement activation registers home number true e stands = absurd (cc)
in_a_register program objects placement activation registers home number false e stands = record { held = stands.1.0; holds = stands.1.1; stands = stands.1.2 }

-- an integer
integer_held : (program : Program) (s : S.State) (t : CType) (own : IntType) (scalar : Scalar) → t ≡ Integer own → HasType program s t scalar → (z : ℤ) × (scalar ≡ IntegerValue z)
integer_held program s t own scalar is has = by scalar (subst (λ u. HasType program s u scalar) is has)
  where
    by : (scalar : Scalar) → HasType program s (Integer own) scalar → (z : ℤ) × (scalar ≡ IntegerValue z)
    by (IntegerValue z) has = (z, refl)
    by NullValue has = absurd has
    by (FunctionValue name) has = absurd has
    by (PointerValue place) has = absurd has
    by (RawPointer number) has = absurd has

module _ (tac : Tac) (program : Program) (calls : Calls) (worth : ℕ) (points : List Op) (placement : Placement) (hidden : ℕ → Option V.Content) (frame : Frame) (scope : Scope)
    (runs : Runs tac program points frame) (well : IsWellTyped program) (keep : CallsKeep program calls) where
  abbrev Quiet : Value → Type 0
  Quiet tree = Rests tac program calls worth points placement hidden frame scope tree

  abbrev around : Context
  around = context_of program scope

  -- what an expression gives is of its type, too
  typed_does : {Stands : Stand Scalar} {start : State} {n lag slack : ℕ} (tree : Value) (t : CType) → type_of around tree ≡ Some t → makes (is_storable program.structs) tree ≡ true → (s : S.State) → Sound around s
      → Does tac worth start n lag slack Stands (value (around_of program) calls tree s)
      → Does tac worth start n lag slack (λ scalar s' state'. Stands scalar s' state' × HasType program s' t scalar) (value (around_of program) calls tree s)
  typed_does {Stands} {start} {n} {lag} {slack} tree t typed small s sound does = by (value (around_of program) calls tree s) refl does
    where
      by : (outcome : Outcome Scalar) → value (around_of program) calls tree s ≡ outcome → Does tac worth start n lag slack Stands outcome
          → Does tac worth start n lag slack (λ scalar s' state'. Stands scalar s' state' × HasType program s' t scalar) outcome
      by _ e (comes scalar s' state' p stands) = comes scalar s' state' p (stands, (value_keeps program well calls keep (scope_types scope) tree small t typed s sound scalar s' e).1)
      by _ e (stops answer s' a) = stops answer s' a

  -- the register holds what is read, and no step was made
  abbrev ReadAt : ℕ → Home → State → Stand Scalar
  ReadAt at home before scalar s state = (state ≡ before) × At program placement hidden frame scope at s state × HoldsFor program s.objects placement scalar (state.running.registers (R.Local home.local))

  read_does : {start : State} {n lag slack : ℕ} (here : Pos) (at : ℕ) (home : Home) (before : State) (place : Place) (s : S.State) (state : State) → Passing tac worth start state n s.units lag slack
      → Finding.FoundLocal tac program calls worth points placement hidden frame scope runs well keep at home before place s state
      → Does tac worth start n lag slack (ReadAt at home before) (read (around_of program) here place s)
  read_does {start} {n} {lag} {slack} here at home before place s state p found =
      let home_found = found_home program placement frame.number state.running.registers s scope s.locals found.there.stands.homes found.there.sound.locals found.index home found.home_is in
      let inside = in_a_register program s.objects placement frame.number state.running.registers home home_found.number home.is_object found.is_register home_found.stands in
      let same : LocalObject home_found.number ≡ LocalObject found.number = same_Some (LocalObject home_found.number) (LocalObject found.number) (sym home_found.name_is ∙ found.name_is) in
      let same' : place ≡ object_place (LocalObject home_found.number) home.c_type = found.place_is ∙ ap (λ name. object_place name home.c_type) (sym same) in
      subst (λ outcome. Does tac worth start n lag slack (ReadAt at home before) outcome)
      (sym (ap (λ place. read (around_of program) here place s) same' ∙ read_alone (around_of program) here home_found.number home.c_type inside.held s inside.holds))
      (by home_found.number (inside.held 0) (inside.stands))
    where
      by : (number : ℕ) (result : Option Scalar) → ((scalar : Scalar) → result ≡ Some scalar → HoldsFor program s.objects placement scalar (state.running.registers (R.Local home.local)))
          → Does tac worth start n lag slack (ReadAt at home before) (loaded here (LocalObject number) result s)
      by number None holds = stray Ub.U04 here s
      by number (Some scalar) holds =
          subst (λ trace. Does tac worth start n lag slack (ReadAt at home before) (Then scalar (record s { trace = trace }))) (sym (append-nil s.trace))
          (comes scalar s state p (found.same, found.there.stands, holds scalar refl))

  pub read_rests : (here : Pos) (object : Object) → Quiet (T.Read here object)
  read_rests here object pure mode from to lowered t code typed small start n lag slack s state p at =
      by (register_home scope object) refl pure code
    where
      by : (found : Option Home) → register_home scope object ≡ found → holds_integer found ≡ true → ReadCode points found (ObjectCode program points scope false false object) from to lowered
          → Does tac worth start n (lag + object_units object) (slack + (laid_by lowered + 6))
          (λ scalar s' state'. Evaluating.ComesToValue tac program calls worth points placement hidden frame scope mode from to lowered state.running.registers scalar s' state' × (state'.running.registers ≡ state.running.registers)) (value (around_of program) calls (T.Read here object) s)
      by None e pure code' = absurd (false≢true pure)
      by (Some home) e pure code' =
          let parts = reads_integer points home.local home.is_object home.c_type from to lowered pure code' in
          let laid = ap laid_by parts.is in
          let typed_as : t ≡ Integer parts.own = subst (λ l. HasForm mode l t) parts.is (value_form program points scope (T.Read here object) mode t from to lowered typed code) in
          eases (allows (typed_does (T.Read here object) t typed small s at.sound
          (bind (read (around_of program) here) (finds_local tac program calls worth points placement hidden frame scope runs well keep object home e from.at start n lag slack s state p at) (omega arith)
          (λ place s' state' q found. read_does here from.at home state place s' state' q found)))
          (λ scalar s' state' stands.
          let z = integer_held program s' t parts.own scalar typed_as stands.1 in
          let registers = ap (λ (t : State). t.running.registers) stands.0.0 in (
            (
              record { there = subst (λ (spot : Spot). At program placement hidden frame scope spot.at s' state') (sym parts.next) stands.0.1; kept = λ register named. ap (λ (registers : Registers). registers register) registers },
              Evaluating.stood mode _ (subst (λ l. Standing.LoweredStands program mode frame placement s'.objects state'.running.registers l scalar) (sym parts.is)
                  (z.0, z.1, ap integer_in (stands.0.2.1 ∙ ap Some (subst (λ x. ScalarStands program s'.objects placement x stands.0.2.0) z.1 stands.0.2.2)))),
            ),
            registers,
          )))
          (omega arith) (omega (arith, laid))

  pub pure_rests : (tree : Value) → Quiet tree
  pure_rests (T.Constant int_type z) = constant_rests tac program calls worth points placement hidden frame scope runs well keep int_type z
  pure_rests (T.Grouped inner) = grouped_rests tac program calls worth points placement hidden frame scope runs well keep inner (pure_rests inner)
  pure_rests (T.Read here object) = read_rests here object
  pure_rests (T.Converted int_type operand) = converted_rests tac program calls worth points placement hidden frame scope runs well keep int_type operand (pure_rests operand)
  pure_rests (T.Plus operand) = plus_rests tac program calls worth points placement hidden frame scope runs well keep operand (pure_rests operand)
  pure_rests (T.Minus place int_type operand) = minus_rests tac program calls worth points placement hidden frame scope runs well keep place int_type operand (pure_rests operand)
  pure_rests (T.Complement int_type operand) = complement_rests tac program calls worth points placement hidden frame scope runs well keep int_type operand (pure_rests operand)
  pure_rests (T.Not operand) = not_rests tac program calls worth points placement hidden frame scope runs well keep operand (pure_rests operand)
  pure_rests (T.Arithmetic op place int_type left right) = operator_rests tac program calls worth points placement hidden frame scope runs well keep op place int_type left right (pure_rests left) (pure_rests right)
  pure_rests (T.Compare relation left right) = relation_rests tac program calls worth points placement hidden frame scope runs well keep relation left right (pure_rests left) (pure_rests right)
  pure_rests (T.Cast operand) = cast_rests tac program calls worth points placement hidden frame scope runs well keep operand (pure_rests operand)
  pure_rests tree = λ pure. absurd (false≢true pure)

  -- what an operand does, and a pure one leaves the registers as they are
  pub operand_rests : (tree : Value) → ValueDoes tac program calls worth points placement hidden frame scope tree → ValueRests tac program calls worth points placement hidden frame scope runs well keep tree
  operand_rests tree follows = rests_of tac program calls worth points placement hidden frame scope runs well keep tree follows (λ e mode from to lowered t code typed small start n lag slack s state p at.
      allows (pure_rests tree e mode from to lowered t code typed small start n lag slack s state p at) (λ scalar s' state' came. (came.0, λ same. came.1)))
