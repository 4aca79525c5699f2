-- Each call does as the reference says, however deep calls may nest: by induction on how many more may.
use Rattle.std.proofs.Common.{◌≡◌, ℕ, zero, suc, ◌+◌, Bool, ◌&&◌, not, List, [], length, Option, Some, None, is_some, refl, sym, ap, ◌∙◌, arith}
use Rattle.std.proofs.lemmas.Bool.{false≢true, not-false}
use Rattle.run_theory.specs.declared.place.Pos.{Pos}
use Rattle.run_theory.specs.declared.ends.UbKind.TheVariants as Ub
use Rattle.c_typed.specs.Types.{CType, CTypes, Function, same_type, is_void}
use Rattle.c_typed.specs.Typed.{FunctionDef, Program}
use Rattle.c_typed.proofs.Same.{same_type-true}
use Rattle.c_typed.specs.Programs.{IsWellTyped}
use Rattle.c_typed.specs.Sizes.{HasStorableTypes}
use Rattle.ref_semantics.specs.Values as V
use Rattle.ref_semantics.specs.Values.{Scalar, IntegerValue, NullValue, FunctionValue, PointerValue, RawPointer}
use Rattle.ref_semantics.specs.Store as S
use Rattle.ref_semantics.specs.Store.{◌>>=◌, undefined}
use Rattle.ref_semantics.specs.Meaning as Meaning
use Rattle.ref_semantics.specs.Meaning.{used_value, function_from, Bodies, call_known, call_named, bodies_within}
use Rattle.ref_semantics.specs.First.{around_of}
use Rattle.ref_semantics.specs.Sound.{HaveTypes}
use Rattle.ref_semantics.proofs.ProgramsKeep.{none_found}
use Rattle.tac_ir.specs.declared.register.Register.{Register}
use Rattle.tac_ir.specs.Code.{Op, Callee, Tac}
use Rattle.tac_ir.specs.Code as O
use Rattle.tac_ir.specs.States.{State}
use Rattle.tac_ir.specs.Calls.{greatest_depth}
use Rattle.tac_build.specs.Homes.{Scope}
use Rattle.tac_build.specs.Code.{HasOp}
use Rattle.tac_build.specs.ProgramCode.{Code}
use Rattle.tac_build.specs.Forms.{CalleeForm}
use Rattle.tac_simulation.specs.Standing.{Placement, Frame}
use Rattle.tac_simulation.proofs.Paths.{Passage as Passing, Does, chosen, stray}
use Rattle.tac_simulation.proofs.Spotting.{Runs}
use Rattle.tac_simulation.proofs.Evaluating.{AtSpot, CalleeStands, AllHold, all_passed_ticks}
use Rattle.tac_simulation.proofs.Calling.{Returned, CallsDo}
use Rattle.tac_simulation.proofs.Worth.{IsWorth, found_worth}
use Rattle.tac_simulation.proofs.FoundCalls.{known_ends, known_goes}

same_depth : 0 + Meaning.greatest_depth ≡ greatest_depth
unfolding Meaning.greatest_depth greatest_depth
same_depth = refl

module _ (tac : Tac) (program : Program) (worth : ℕ) (coded : Code program tac) (well : IsWellTyped program) (storable : HasStorableTypes program) (fits : IsWorth program.functions worth) where
  abbrev pub bodies_at : ℕ → Bodies
  bodies_at depth = bodies_within (around_of program) program.functions depth

  -- of each activation, from each of its scopes
  abbrev pub AllCallsDo : ℕ → Type 0
  AllCallsDo depth =
      (points : List Op) (frame : Frame) (hidden : ℕ → Option V.Content) → Runs tac program points frame → length frame.callers + depth ≡ greatest_depth
      → (placement : Placement) (scope : Scope) → CallsDo tac program (call_named program.functions (bodies_within (around_of program) program.functions depth)) worth points placement hidden frame scope

  -- a call does as the reference says, if the one of a function that is found does
  module _ (depth : ℕ) (points : List Op) (frame : Frame) (hidden : ℕ → Option V.Content) (placement : Placement) (scope : Scope) where
    abbrev FoundDo : Type 0
    FoundDo =
        (here : Pos) (is_used : Bool) (result : CType) (parameters : CTypes) (name : List ℕ) (given : List Scalar) (at site : ℕ) (callee : Callee) (registers : List Register) → HasOp points at (O.Call site callee registers)
        → (start : State) (n lag slack : ℕ) (s : S.State) (state : State) → Passing tac worth start state n s.units lag (slack + all_passed_ticks parameters + 3)
        → AtSpot tac program (call_named program.functions (bodies_at depth)) worth points placement hidden frame scope at s state
        → CalleeStands tac program (call_named program.functions (bodies_at depth)) worth points placement hidden frame scope callee s.objects state.running.registers (FunctionValue name)
        → AllHold tac program (call_named program.functions (bodies_at depth)) worth points placement hidden frame scope s.objects state.running.registers registers given
        → CalleeForm callee (Function result parameters) → HaveTypes program s parameters given → (found : ℕ × FunctionDef) → function_from 0 program.functions name ≡ Some found → found.1.c_type ≡ Function result parameters
        → Does tac worth start n lag slack (Returned tac program (call_named program.functions (bodies_at depth)) worth points placement hidden frame scope at site (is_used && not (is_void result)) state.running.registers)
        ((bodies_at depth found.0 found.1 given >>= λ value. used_value here is_used found.1.result value) s)

    from_found : FoundDo → CallsDo tac program (call_named program.functions (bodies_at depth)) worth points placement hidden frame scope
    from_found does here is_used result parameters NullValue given at site callee registers has start n lag slack s state p h stands hold form typed given_typed = stray Ub.U15 here s
    from_found does here is_used result parameters (PointerValue place) given at site callee registers has start n lag slack s state p h stands hold form typed given_typed = stray Ub.U15 here s
    from_found does here is_used result parameters (RawPointer number) given at site callee registers has start n lag slack s state p h stands hold form typed given_typed = stray Ub.U15 here s
    from_found does here is_used result parameters (IntegerValue z) given at site callee registers has start n lag slack s state p h stands hold form typed given_typed = absurd typed
    from_found does here is_used result parameters (FunctionValue name) given at site callee registers has start n lag slack s state p h stands hold form typed given_typed = by (function_from 0 program.functions name) refl
      where
        by : (found : Option (ℕ × FunctionDef)) → function_from 0 program.functions name ≡ found
            → Does tac worth start n lag slack (Returned tac program (call_named program.functions (bodies_at depth)) worth points placement hidden frame scope at site (is_used && not (is_void result)) state.running.registers)
            (call_known (bodies_at depth) here is_used (Function result parameters) given found s)
        by None is = absurd (false≢true (ap is_some (sym (none_found program program.functions name 0 is)) ∙ typed.1))
        by (Some found) is =
            chosen (not (same_type found.1.c_type (Function result parameters))) (undefined Ub.U14 here) (bodies_at depth found.0 found.1 given >>= λ value. used_value here is_used found.1.result value) s
            (λ fails. stray Ub.U14 here s)
            (λ holds. does here is_used result parameters name given at site callee registers has start n lag slack s state p h stands hold form given_typed found is
            (same_type-true found.1.c_type (Function result parameters) (not-false (same_type found.1.c_type (Function result parameters)) holds)))

  pub calls_do : (depth : ℕ) → AllCallsDo depth
  calls_do zero points frame hidden runs most placement scope =
      from_found 0 points frame hidden placement scope (λ here is_used result parameters name given at site callee registers has start n lag slack s state p h stands hold form given_typed found is same.
      known_ends tac program (call_named program.functions (bodies_at 0)) worth points placement hidden frame scope runs coded well storable here is_used result parameters name given at site callee registers has start n lag slack s state p h stands hold form given_typed found is same
      (omega (arith, most)))
  calls_do (suc depth) points frame hidden runs most placement scope =
      from_found (suc depth) points frame hidden placement scope (λ here is_used result parameters name given at site callee registers has start n lag slack s state p h stands hold form given_typed found is same.
      known_goes tac program (call_named program.functions (bodies_at (suc depth))) worth points placement hidden frame scope runs coded well storable here is_used result parameters name given at site callee registers has start n lag slack s state p h stands hold form given_typed found is same
      depth (omega (arith, most)) (found_worth program.functions worth 0 name found fits is)
      (λ inside called hides inner_runs deeper placed inner. calls_do depth inside called hides inner_runs (omega (arith, most, deeper)) placed inner))

  -- `main` is called where none waits, at the greatest depth of the reference
  pub main_calls_do : (points : List Op) (frame : Frame) (hidden : ℕ → Option V.Content) → Runs tac program points frame → frame.callers ≡ []
      → (placement : Placement) (scope : Scope) → CallsDo tac program (call_named program.functions (bodies_at Meaning.greatest_depth)) worth points placement hidden frame scope
  main_calls_do points frame hidden runs none placement scope =
      calls_do Meaning.greatest_depth points frame hidden runs (ap (λ callers. length callers + Meaning.greatest_depth) none ∙ same_depth) placement scope
