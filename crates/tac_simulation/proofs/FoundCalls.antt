-- A call of a function that a name finds: at the greatest depth both end, and else the function is entered, runs and hands its value back.
use Rattle.std.proofs.Common.{◌≡◌, ℕ, suc, ◌+◌, ◌*◌, ◌≤◌, ◌<◌, Bool, true, ◌&&◌, not, List, [], ◌∷◌, length, Option, Some, refl, sym, ap, ◌∙◌, subst, arith}
use Rattle.std.specs.Prelude.{slice_get}
use Rattle.run_theory.specs.declared.place.Pos.{Pos}
use Rattle.c_typed.specs.Types.{CType, CTypes, Void, Integer, Pointer, Array, Struct, Function, is_void}
use Rattle.c_typed.specs.Typed.{FunctionDef, Program}
use Rattle.c_typed.specs.Programs.{IsWellTyped, function_of}
use Rattle.c_typed.specs.Sizes.{HasStorableTypes}
use Rattle.ref_semantics.specs.Values as V
use Rattle.ref_semantics.specs.Values.{Scalar}
use Rattle.ref_semantics.specs.Store as S
use Rattle.ref_semantics.specs.Store.{continue_with, tick}
use Rattle.ref_semantics.specs.Meaning as Meaning
use Rattle.ref_semantics.specs.Meaning.{Calls, bind, used_value, function_from, call_named, bodies_within}
use Rattle.ref_semantics.specs.First.{around_of}
use Rattle.ref_semantics.specs.Sound.{HaveTypes}
use Rattle.ref_semantics.proofs.WellTyped.{well_functions}
use Rattle.ref_semantics.proofs.ProgramsKeep.{IsFound, found_is, functions_small, parameters_of, calls_keep, body_within, function_parts}
use Rattle.tac_ir.specs.declared.register.Register.{Register}
use Rattle.tac_ir.specs.Code.{Op, Callee, Known, Through, Tac}
use Rattle.tac_ir.specs.Code as O
use Rattle.tac_ir.specs.States.{State}
use Rattle.tac_ir.specs.Calls.{greatest_depth, enter}
use Rattle.tac_build.specs.Homes.{Scope}
use Rattle.tac_build.specs.Code.{HasOp}
use Rattle.tac_build.specs.ProgramCode.{Code}
use Rattle.tac_build.specs.Forms.{CalleeForm}
use Rattle.c_typed.specs.Statements.{is_block}
use Rattle.tac_simulation.specs.Comparing.{ticks_per_unit}
use Rattle.tac_simulation.specs.Standing.{Placement, Frame, surroundings}
use Rattle.tac_simulation.specs.Entered.{entered, hidden_within}
use Rattle.tac_simulation.proofs.Paths.{Passage as Passing, Does, slower}
use Rattle.tac_simulation.proofs.Spotting.{Runs}
use Rattle.tac_simulation.proofs.Evaluating.{AtSpot, CalleeStands, AllHold, passed_ticks, all_passed_ticks}
use Rattle.tac_simulation.proofs.Calling.{Returned, CallsDo}
use Rattle.tac_simulation.proofs.Executing.{block_units, LeavesWithin}
use Rattle.tac_simulation.proofs.Parametric.{argument_ticks}
use Rattle.tac_simulation.proofs.Parameters.{arguments_ticks}
use Rattle.tac_simulation.proofs.Called.{Coded, found_coded, arguments_held, CalledAs, Within, begun_call, goes_within, ends_deep}
use Rattle.tac_simulation.proofs.Owning.{last_have, inside_have, inside_numbered, inside_context}
use Rattle.tac_simulation.proofs.InBody.{in_body_does}
use Rattle.tac_simulation.proofs.Together.{block_follows}
use Rattle.tac_simulation.proofs.Through.{granted, granted_paid, through}
use Rattle.tac_simulation.proofs.Delivering.{delivers}

-- ---- what arguments have left

abbrev result_of : CType → CType
result_of (Function result parameters) = result
result_of Void = Void
result_of (Integer int_type) = Void
result_of (Pointer target) = Void
result_of (Array element count) = Void
result_of (Struct tag) = Void

passed_is : (t : CType) → passed_ticks t ≡ argument_ticks t + 1
passed_is Void = refl
passed_is (Integer int_type) = refl
passed_is (Pointer target) = refl
passed_is (Array element count) = refl
passed_is (Struct tag) = refl
passed_is (Function result parameters) = refl

all_passed_is : (result : CType) (types : List CType) → all_passed_ticks (parameters_of (function_of result types)) ≡ arguments_ticks types + length types
all_passed_is result [] = refl
all_passed_is result (first ∷ others) = let one = passed_is first in let rest = all_passed_is result others in omega (arith, one, rest)

typed_many : (program : Program) (s : S.State) (result : CType) (types : List CType) (given : List Scalar) → HaveTypes program s (parameters_of (function_of result types)) given → length given ≡ length types
typed_many program s result [] [] typed = refl
typed_many program s result [] (first ∷ given) typed = absurd typed
typed_many program s result (t ∷ types) [] typed = absurd typed
typed_many program s result (t ∷ types) (first ∷ given) typed = ap suc (typed_many program s result types given typed.1)

module _ (tac : Tac) (program : Program) (calls : Calls) (worth : ℕ) (points : List Op) (placement : Placement) (hidden : ℕ → Option V.Content) (frame : Frame) (scope : Scope)
    (runs : Runs tac program points frame) (coded : Code program tac) (well : IsWellTyped program) (storable : HasStorableTypes program)
    (here : Pos) (is_used : Bool) (result : CType) (parameters : CTypes) (name : List ℕ) (given : List Scalar) (at site : ℕ) (callee : Callee) (registers : List Register) (has : HasOp points at (O.Call site callee registers))
    (start : State) (n lag slack : ℕ) (s : S.State) (state : State) (p : Passing tac worth start state n s.units lag (slack + all_passed_ticks parameters + 3)) (h : AtSpot tac program calls worth points placement hidden frame scope at s state)
    (stands : CalleeStands tac program calls worth points placement hidden frame scope callee s.objects state.running.registers (V.FunctionValue name))
    (hold : AllHold tac program calls worth points placement hidden frame scope s.objects state.running.registers registers given) (form : CalleeForm callee (Function result parameters))
    (given_typed : HaveTypes program s parameters given) (found : ℕ × FunctionDef) (is : function_from 0 program.functions name ≡ Some found) where
  known : IsFound program program.functions name found.1
  known = found_is program program.functions name 0 found (well_functions program well) (functions_small program well storable) is

  stood : Coded program tac.functions 0 found.0 found.1
  stood = found_coded program program.functions tac.functions coded.functions 0 name found is

  there : slice_get tac.functions found.0 ≡ Some stood.function
  there = ap (slice_get tac.functions) (let number = stood.number_is in omega (arith, number)) ∙ stood.is

  module _ (same : found.1.c_type ≡ Function result parameters) where
    is_type : function_of found.1.result found.1.parameters ≡ Function result parameters
    is_type = sym (function_parts program well storable found.1 known.well).typed ∙ same

    typed : HaveTypes program s (parameters_of (function_of found.1.result found.1.parameters)) given
    typed = subst (λ t. HaveTypes program s (parameters_of t) given) (sym is_type) given_typed

    many : length given ≡ length found.1.parameters
    many = typed_many program s found.1.result found.1.parameters given typed

    alike : CalledAs tac program calls worth points placement hidden frame scope callee found.1.c_type
    alike = by callee form
      where
        by : (callee : Callee) → CalleeForm callee (Function result parameters) → CalledAs tac program calls worth points placement hidden frame scope callee found.1.c_type
        by (Known number) form = tt
        by (Through register own) form = sym form ∙ sym same

    -- the ticks of the call's point, and of the stores of parameters
    enough : Passing tac worth start state n s.units lag (slack + arguments_ticks found.1.parameters + length registers + 1)
    enough =
        let held = arguments_held tac program calls worth points placement hidden frame scope s.objects state.running.registers registers given hold in
        let read = held.many in
        let scalars = held.given_many in
        let all = sym (ap (λ t. all_passed_ticks (parameters_of t)) is_type) ∙ all_passed_is found.1.result found.1.parameters in
        slower (slack + arguments_ticks found.1.parameters + length registers + 1) p (omega (arith, read, scalars, many, all))

    -- calls nest too deep
    pub known_ends : greatest_depth ≤ length frame.callers
        → Does tac worth start n lag slack (Returned tac program calls worth points placement hidden frame scope at site (is_used && not (is_void result)) state.running.registers)
        (continue_with (λ value. used_value here is_used found.1.result value) (bodies_within (around_of program) program.functions 0 found.0 found.1 given s))
    unfolding bodies_within
    known_ends most =
        ends_deep tac program calls worth points placement hidden frame scope runs coded start n lag (slack + arguments_ticks found.1.parameters) at site callee registers name found given s state stood.function has enough h stands hold is there stood.code alike many most

    -- or not: the function is entered
    module _ (depth : ℕ) (less : length frame.callers < greatest_depth) (fits : block_units found.1.body < worth)
        (calls_do : (inside : List Op) (called : Frame) (hides : ℕ → Option V.Content) → Runs tac program inside called → length called.callers ≡ suc (length frame.callers) → (placed : Placement) (inner : Scope)
        → CallsDo tac program (call_named program.functions (bodies_within (around_of program) program.functions depth)) worth inside placed hides called inner) where
      abbrev inner_calls : Calls
      inner_calls = call_named program.functions (bodies_within (around_of program) program.functions depth)

      abbrev asks : ℕ
      asks = arguments_ticks found.1.parameters

      abbrev hides : ℕ → Option V.Content
      hides = hidden_within placement s.locals s.objects hidden

      abbrev called : Frame
      called = entered site found.0 stood.function state

      within : Within tac program calls worth points placement hidden frame scope runs coded start n lag (slack + asks) site found.0 stood.function given s state
      within = goes_within tac program calls worth points placement hidden frame scope runs coded start n lag (slack + arguments_ticks found.1.parameters) at site callee registers name found given s state stood.function has enough h stands hold is there stood.code alike many less

      abbrev mid : State
      mid = enter (surroundings program frame) site found.0 stood.function within.values state

      -- the same, from where the function is entered
      abbrev from_within : Within tac program calls worth points placement hidden frame scope runs coded (enter (surroundings program frame) site found.0 stood.function within.values state) (s.units + asks) (asks + worth) (15 * asks + asks) site found.0 stood.function given s state
      from_within = record {
        values = within.values;
        stand = within.stand;
        passing = slower (15 * asks + asks) (granted tac worth mid s.units asks) (omega arith);
        paid = slower (15 * asks + asks + ticks_per_unit * worth) (granted_paid tac worth mid s.units asks) (omega arith);
        there = within.there;
        sound = within.sound;
        inside = within.inside;
      }

      body_follows : (bound : Placement) (s1 : S.State) (t1 : State) → AtSpot tac program inner_calls worth stood.function.points bound hides called stood.code.scope stood.code.inside.at s1 t1
          → Does tac worth t1 s1.units (block_units found.1.body) 0
          (LeavesWithin tac program inner_calls worth stood.function.points hides called s1.next_local s1.locals bound stood.code.scope stood.code.last.at (record { broken = 0; continued = 0 }))
          (Meaning.block (around_of program) inner_calls found.1.body s1)
      body_follows bound s1 t1 at1 =
          block_follows tac program inner_calls worth stood.function.points hides called within.inside well (calls_keep program well storable depth) storable.0
          (calls_do stood.function.points called hides within.inside (let same = ap length h.stands.callers in omega (arith, same))) found.1.body (body_within program well storable found.1) bound stood.code.scope stood.code.inside stood.code.last
          (record { broken = 0; continued = 0 }) stood.code.body
          (subst (λ around. is_block around (body_within program well storable found.1) found.1.body ≡ true) (sym (inside_context program found.1 stood.function stood.code)) (function_parts program well storable found.1 known.well).body)
          known.small (inside_numbered program found.1 stood.function stood.code) (last_have program found.1 stood.function stood.code) (omega (arith, fits)) s1 t1 at1

      pub known_goes : Does tac worth start n lag slack (Returned tac program calls worth points placement hidden frame scope at site (is_used && not (is_void result)) state.running.registers)
          (continue_with (λ value. used_value here is_used found.1.result value) (bodies_within (around_of program) program.functions (suc depth) found.0 found.1 given s))
      known_goes =
          let scalars = (function_parts program well storable found.1 known.well).scalars in
          let have = inside_have program found.1 stood.function stood.code in
          let outcome = continue_with (λ way. tick (Meaning.block (around_of program) inner_calls found.1.body)) (bind (around_of program) found.1.parameters given (begun_call found.0 s)) in
          subst (λ t. Does tac worth start n lag slack (Returned tac program calls worth points placement hidden frame scope at site (is_used && not (is_void t)) state.running.registers)
          (continue_with (λ value. used_value here is_used found.1.result value) (bodies_within (around_of program) program.functions (suc depth) found.0 found.1 given s))) (ap result_of is_type)
          (delivers tac program calls worth points placement hidden frame scope well storable at s state h site found.0 stood.function within.values depth name found.1 stood.code known given typed within.inside start n lag slack here is_used outcome refl
          (through tac worth start (enter (surroundings program frame) site found.0 stood.function within.values state) n s.units lag slack asks 16 outcome within.paid
          (in_body_does tac program calls worth points placement hidden frame scope runs coded well at s state h site found.0 found.1 stood.function inner_calls stood.code given start n lag slack within scalars have typed fits body_follows)
          (in_body_does tac program calls worth points placement hidden frame scope runs coded well at s state h site found.0 found.1 stood.function inner_calls stood.code given (enter (surroundings program frame) site found.0 stood.function within.values state)
          (s.units + asks) (asks + worth) (15 * asks) from_within scalars have typed fits body_follows)))
