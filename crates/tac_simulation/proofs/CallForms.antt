-- The code of calls of the program's functions: what is called is found, arguments come to their registers, and the function gives its value to
-- the register of the call.
use Rattle.std.proofs.Common.{◌≡◌, ℕ, suc, ◌+◌, ◌≤◌, Bool, true, false, ◌&&◌, if◌then◌else◌, List, Option, Some, refl, sym, ap, ◌∙◌, subst, arith}
use Rattle.std.specs.Prelude.{not}
use Rattle.std.proofs.lemmas.Bool.{and_parts}
use Rattle.run_theory.specs.declared.place.Pos.{Pos}
use Rattle.c_typed.specs.Types.{CType, CTypes, Void, Integer, Pointer, Array, Struct, Function, same_type, is_void}
use Rattle.c_typed.specs.Typed as T
use Rattle.c_typed.specs.Typed.{Value, Values, Designator, Program}
use Rattle.c_typed.specs.Expressions.{given, where_holds, result_of, types_of, type_of_designator}
use Rattle.c_typed.specs.Programs.{IsWellTyped}
use Rattle.c_typed.specs.Sizes.{all_make, designator_makes, is_storable}
use Rattle.ref_semantics.specs.Values as V
use Rattle.ref_semantics.specs.Values.{Scalar, IntegerValue, NullValue, FunctionValue, PointerValue, RawPointer}
use Rattle.ref_semantics.specs.Store as S
use Rattle.ref_semantics.specs.Store.{Outcome, ◌>>=◌}
use Rattle.ref_semantics.specs.Meaning.{Calls, values, designated}
use Rattle.ref_semantics.specs.First.{around_of}
use Rattle.ref_semantics.specs.Sound.{HasType, HaveTypes, Sound, Later}
use Rattle.ref_semantics.specs.Keeping.{CallsKeep}
use Rattle.ref_semantics.proofs.Lasting.{type_lasts}
use Rattle.c_typed.proofs.Splitting.{two_parts, called_parts}
use Rattle.tac_ir.specs.declared.program.Counts.{Counts}
use Rattle.tac_ir.specs.declared.register.Register.{Register}
use Rattle.tac_ir.specs.declared.register.Register.TheVariants as R
use Rattle.tac_ir.specs.Code.{Op, Callee, Known, Through, Tac}
use Rattle.tac_ir.specs.Values as M
use Rattle.tac_ir.specs.Trees.{Registers, integer_in}
use Rattle.tac_ir.specs.States.{State}
use Rattle.tac_build.specs.Homes.{Scope}
use Rattle.tac_build.specs.Spots.{Spot, with_call, Lowered, Mode}
use Rattle.tac_build.specs.Code.{call_gives}
use Rattle.tac_build.specs.Forms.{scope_types, IsBefore, context_of, CalleeForm, CalleeNamed}
use Rattle.tac_build.proofs.Forms.{designator_form}
use Rattle.tac_simulation.specs.Standing.{Placement, Frame, KeepsBefore, At, HoldsFor, LoweredStands}
use Rattle.tac_simulation.proofs.Paths.{Passage as Passing, Does, comes, stops, eased}
use Rattle.tac_simulation.proofs.Spotting.{Runs}
use Rattle.tac_simulation.proofs.Evaluating
use Rattle.tac_simulation.proofs.Evaluating.{laid_by, all_passed_ticks, value_units}
use Rattle.tac_build.proofs.Naming.{call_grows, before_more}
use Rattle.tac_build.proofs.Named.{designator_named}
use Rattle.tac_simulation.proofs.Lasting.{register_later}
use Rattle.tac_simulation.proofs.Combining.{ticked}
use Rattle.tac_simulation.proofs.Calling as Calling
use Rattle.tac_simulation.proofs.Arguments.{then_values, then_designated}

-- no more is laid by for what a call gives than for a register
gives_laid : (is_used : Bool) (c_type : CType) (site : ℕ) → laid_by (call_gives is_used c_type site) ≤ 2
gives_laid true (Function (Integer int_type) parameters) site = omega arith
gives_laid true (Function (Pointer target) parameters) site = omega arith
gives_laid true (Function Void parameters) site = omega arith
gives_laid true (Function (Array element count) parameters) site = omega arith
gives_laid true (Function (Struct tag) parameters) site = omega arith
gives_laid true (Function (Function inner others) parameters) site = omega arith
gives_laid true Void site = omega arith
gives_laid true (Integer int_type) site = omega arith
gives_laid true (Pointer target) site = omega arith
gives_laid true (Array element count) site = omega arith
gives_laid true (Struct tag) site = omega arith
gives_laid false c_type site = omega arith

module _ (tac : Tac) (program : Program) (calls : Calls) (worth : ℕ) (points : List Op) (placement : Placement) (hidden : ℕ → Option V.Content) (frame : Frame) (scope : Scope)
    (runs : Runs tac program points frame) (well : IsWellTyped program) (keep : CallsKeep program calls)
    (calls_do : Calling.CallsDo tac program calls worth points placement hidden frame scope) where
  abbrev Follows : Value → Type 0
  Follows tree = Evaluating.ValueDoes tac program calls worth points placement hidden frame scope tree

  abbrev Passed : Values → Type 0
  Passed trees = Evaluating.ArgumentsDo tac program calls worth points placement hidden frame scope trees

  abbrev Leads : Designator → Type 0
  Leads tree = Evaluating.DesignatorDoes tac program calls worth points placement hidden frame scope tree

  abbrev CalleeIs : Callee → S.Objects → Registers → Scalar → Type 0
  CalleeIs callee objects registers scalar = Evaluating.CalleeStands tac program calls worth points placement hidden frame scope callee objects registers scalar

  -- what is called stays behind the arguments
  callee_later : (counts : Counts) (callee : Callee) (t : CType) (scalar : Scalar) (s s' : S.State) (before after : Registers) → Later s s' → KeepsBefore counts before after → CalleeNamed counts callee
      → HasType program s (Pointer t) scalar → CalleeIs callee s.objects before scalar → CalleeIs callee s'.objects after scalar
  callee_later counts (Known number) t scalar s s' before after later keeps named typed stands = stands
  callee_later counts (Through register c_type) t scalar s s' before after later keeps named typed stands =
      register_later program placement s s' later counts before after register t scalar keeps named typed stands

  -- registers that were named before the call are others than its own
  named_other : (counts : Counts) (site : ℕ) → counts.calls ≤ site → (register : Register) → IsBefore counts register → Calling.IsOther tac program calls worth points placement hidden frame scope site register
  named_other counts site least (R.Local local) before = tt
  named_other counts site least (R.Call number) before = λ same. omega (arith, least, before, same)
  named_other counts site least (R.Argument number) before = tt
  named_other counts site least (R.Expression number) before = tt
  named_other counts site least (R.Temporary number) before = tt

  integer_stands : (int_type : _) (s : S.State) (scalar : Scalar) (held : Option M.Value) → HasType program s (Integer int_type) scalar → HoldsFor program s.objects placement scalar held
      → (z : _) × (scalar ≡ IntegerValue z) × (integer_in held ≡ Some z)
  integer_stands int_type s (IntegerValue z) held typed holds = (z, refl, ap integer_in (holds.1 ∙ ap Some holds.2))
  integer_stands int_type s NullValue held typed holds = absurd typed
  integer_stands int_type s (FunctionValue name) held typed holds = absurd typed
  integer_stands int_type s (PointerValue place) held typed holds = absurd typed
  integer_stands int_type s (RawPointer number) held typed holds = absurd typed

  -- what a call gives stands for its value
  gives_stands : (mode : Mode) (is_used : Bool) (result : CType) (parameters : CTypes) (site : ℕ) (s : S.State) (registers : Registers) (scalar : Scalar) → HasType program s (if is_used then result else Void) scalar
      → (is_used && not (is_void result) ≡ true → HoldsFor program s.objects placement scalar (registers (R.Call site)))
      → LoweredStands program mode frame placement s.objects registers (call_gives is_used (Function result parameters) site) scalar
  gives_stands mode false result parameters site s registers scalar typed holds = tt
  gives_stands mode true (Integer int_type) parameters site s registers scalar typed holds = integer_stands int_type s scalar (registers (R.Call site)) typed (holds refl)
  gives_stands mode true (Pointer target) parameters site s registers scalar typed holds = holds refl
  gives_stands mode true Void parameters site s registers scalar typed holds = tt
  gives_stands mode true (Array element count) parameters site s registers scalar typed holds = tt
  gives_stands mode true (Struct tag) parameters site s registers scalar typed holds = tt
  gives_stands mode true (Function inner others) parameters site s registers scalar typed holds = tt

  pub called : (is_used : Bool) (place : Pos) (function : Designator) (c_type : CType) (arguments : Values) → Leads function → Passed arguments → Follows (T.Call is_used place function c_type arguments)
  called is_used place function c_type arguments leads passed mode from to lowered t code typed small start n lag slack s state p at =
      let sizes = and_parts (designator_makes (is_storable program.structs) function) (all_make (is_storable program.structs) arguments) small in
      let parts = two_parts (type_of_designator (context_of program scope) function) (types_of (context_of program scope) arguments)
      (λ u types. given (result_of types u) (λ result. where_holds (same_type u c_type) (if is_used then result else Void))) t typed in
      let known = called_parts parts.b parts.a c_type is_used t parts.gave in
      let found = designator_named program points scope function from code.0 code.2 code.3 code.5 in
      let site = code.0.counts.calls in
      ticked tac program calls worth points placement hidden frame scope runs well keep
      (designated (around_of program) calls function >>= λ f. values (around_of program) calls arguments >>= λ given. calls place is_used c_type f given) from.at s state p at (omega arith) (λ left p1 at1.
      then_designated tac program calls worth points placement hidden frame scope runs well keep function leads (λ f. values (around_of program) calls arguments >>= λ given. calls place is_used c_type f given)
      from code.0 code.2 code.3 parts.a code.5 parts.left sizes.0 (record s { units = left }) state p1 at1 (omega arith) (λ f s1 state1 p2 come1 keeps1 holds1.
      then_values tac program calls worth points placement hidden frame scope runs well keep arguments passed (λ given. calls place is_used c_type f given)
      (with_call code.0) code.1 code.4 parts.b code.6 parts.right sizes.1 s1 state1 p2 (record { stands = come1.0.there; sound = keeps1.sound }) (omega arith) (λ scalars s2 state2 p3 come2 keeps2 holds2.
      let kept : KeepsBefore code.0.counts state1.running.registers state2.running.registers = λ register before. come2.0.kept register (before_more (call_grows code.0) register before) in
      let function_typed : HasType program s2 (Pointer (Function known.result known.parameters)) f =
      subst (λ u. HasType program s2 (Pointer u) f) known.is_function (type_lasts program keeps2.later (Pointer parts.a) f holds1) in
      let arguments_typed : HaveTypes program s2 known.parameters scalars = subst (λ us. HaveTypes program s2 us scalars) known.passed holds2 in
      let p4 : Passing tac worth start state2 n s2.units (lag + value_units (T.Call is_used place function c_type arguments)) (slack + (laid_by lowered + 6) + all_passed_ticks known.parameters + 3) =
      eased p3 (omega arith) (let laid = ap laid_by code.8 in let most = gives_laid is_used c_type site in let same = ap all_passed_ticks known.passed in omega (arith, laid, most, same)) in
      let done = calls_do place is_used known.result known.parameters f scalars code.1.at site code.2 code.4 code.7.0 start n (lag + value_units (T.Call is_used place function c_type arguments)) (slack + (laid_by lowered + 6)) s2 state2 p4
      (record { stands = come2.0.there; sound = keeps2.sound })
      (callee_later code.0.counts code.2 parts.a f s1 s2 state1.running.registers state2.running.registers keeps2.later kept found.1 holds1 come1.1) come2.1
      (subst (λ u. CalleeForm code.2 u) known.is_function (designator_form program points scope function parts.a from code.0 code.2 code.3 parts.left code.5).1) function_typed arguments_typed in
      subst (λ u. Does tac worth start n (lag + value_units (T.Call is_used place function c_type arguments)) (slack + (laid_by lowered + 6))
      (Evaluating.ComesToValue tac program calls worth points placement hidden frame scope mode from to lowered state.running.registers) (calls place is_used u f scalars s2)) (sym known.called)
      (returned is_used place mode from to lowered known.result known.parameters f scalars code.1 site state.running.registers s2 state2
      (code.8 ∙ ap (λ u. call_gives is_used u site) known.called) (ap (λ (spot : Spot). spot.at) code.7.1) keeps2.sound function_typed arguments_typed
      (λ register before. kept register (before_more found.0 register before) ∙ come1.0.kept register before)
      (let more = found.0.calls in omega (arith, more)) (calls place is_used (Function known.result known.parameters) f scalars s2) refl done))))
    where
      returned : {start : State} {n lag slack : ℕ} (is_used : Bool) (place : Pos) (mode : Mode) (from to : Spot) (lowered : Lowered) (result : CType) (parameters : CTypes) (f : Scalar) (scalars : List Scalar) (next : Spot) (site : ℕ)
          (before : Registers) (s2 : S.State) (state2 : State) → lowered ≡ call_gives is_used (Function result parameters) site → to.at ≡ suc next.at → Sound (context_of program scope) s2
          → HasType program s2 (Pointer (Function result parameters)) f → HaveTypes program s2 parameters scalars
          → KeepsBefore from.counts before state2.running.registers → from.counts.calls ≤ site
          → (outcome : Outcome Scalar) → calls place is_used (Function result parameters) f scalars s2 ≡ outcome
          → Does tac worth start n lag slack (Calling.Returned tac program calls worth points placement hidden frame scope next.at site (is_used && not (is_void result)) state2.running.registers) outcome
          → Does tac worth start n lag slack (Evaluating.ComesToValue tac program calls worth points placement hidden frame scope mode from to lowered before) outcome
      returned is_used place mode from to lowered result parameters f scalars next site before s2 state2 is there sound function_typed arguments_typed kept least _ e (comes scalar s3 state3 p back) =
          let keeps = keep (scope_types scope) place is_used result parameters f scalars s2 sound function_typed arguments_typed scalar s3 e in
          comes scalar s3 state3 p (
            record {
              there = subst (λ where_it_is. At program placement hidden frame scope where_it_is s3 state3) (sym there) back.there;
              kept = λ register named. back.others register (named_other from.counts site least register named) ∙ kept register named;
            },
            Evaluating.stood mode _ (subst (λ l. LoweredStands program mode frame placement s3.objects state3.running.registers l scalar) (sym is) (gives_stands mode is_used result parameters site s3 state3.running.registers scalar keeps.1 back.gives)),
          )
      returned is_used place mode from to lowered result parameters f scalars next site before s2 state2 is there sound function_typed arguments_typed kept least _ e (stops answer s3 a) = stops answer s3 a
