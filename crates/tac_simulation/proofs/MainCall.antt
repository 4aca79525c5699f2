-- The call of `main` in `start`, and the end behind it: the code ends with the status that `main` gives, as the reference does.
use Rattle.std.proofs.Common.{◌≡◌, ℕ, suc, true, List, [], Option, Some, None, is_some, codes, refl, ap, ◌∙◌, arith}
use Rattle.std.proofs.lemmas.Bool.{false≢true, and_parts}
use Rattle.run_theory.specs.Runs.{Over, Ended, Halt}
use Rattle.c_num.specs.declared.IntType.TheVariants as I
use Rattle.c_num.specs.Conversion.{bits_of}
use Rattle.c_typed.specs.Types.{CType, NoTypes, int}
use Rattle.c_typed.specs.Typed.{Program}
use Rattle.c_typed.specs.Context.{function_type}
use Rattle.c_typed.specs.Programs.{IsWellTyped, has_main}
use Rattle.c_typed.specs.Sizes.{HasStorableTypes}
use Rattle.ref_semantics.specs.Values.{Scalar, IntegerValue, NullValue, FunctionValue, PointerValue, RawPointer}
use Rattle.ref_semantics.specs.Store as S
use Rattle.ref_semantics.specs.Store.{Outcome}
use Rattle.ref_semantics.specs.Library.{low_byte}
use Rattle.ref_semantics.specs.Meaning.{Calls, call_named, bodies_within, greatest_depth}
use Rattle.ref_semantics.specs.First.{around_of, first_state, status_of, run_main}
use Rattle.ref_semantics.specs.Sound.{HasType}
use Rattle.ref_semantics.proofs.ProgramsKeep.{first_sound, main_keeps}
use Rattle.tac_ir.specs.declared.register.Register.TheVariants as R
use Rattle.tac_ir.specs.Code.{Held, Known, Tac}
use Rattle.tac_ir.specs.Code as O
use Rattle.tac_ir.specs.Trees.{no_registers, integer_in}
use Rattle.tac_ir.specs.States as T
use Rattle.tac_ir.specs.First.{initial}
use Rattle.tac_build.specs.ProgramCode.{Code, start_points}
use Rattle.tac_simulation.proofs.Paths.{Passage as Passing, Answers, Does, comes, stops, start, spent, eased, ends_seen}
use Rattle.tac_simulation.proofs.Spotting.{before_at}
use Rattle.tac_simulation.proofs.Calling.{Returned, CallsDo}
use Rattle.tac_simulation.proofs.Started.{start_frame, none_placed, none_hidden, start_runs, spot_at_start}

-- calls of a program's functions in `start`, of which none waits yet
abbrev pub first_calls : Program → Calls
first_calls program = call_named program.functions (bodies_within (around_of program) program.functions greatest_depth)

main_known : (program : Program) (known : Option CType) → function_type program.functions (codes "main") ≡ known → has_main program ≡ true → is_some known ≡ true
main_known program None is h = absurd (false≢true (rw is at h))
main_known program (Some c_type) is h = refl

-- `main` is one of the program's functions
main_there : (program : Program) → IsWellTyped program → is_some (function_type program.functions (codes "main")) ≡ true
main_there program well = main_known program (function_type program.functions (codes "main")) refl (and_parts _ (has_main program) well).1

module _ (program : Program) (tac : Tac) (coded : Code program tac) (worth : ℕ) where
  -- what calls do in `start`
  abbrev pub FirstCallsDo : Type 0
  FirstCallsDo = CallsDo tac program (first_calls program) worth (start_points coded.main) none_placed none_hidden start_frame []

  -- the code is behind the call of `main`
  abbrev Behind : Scalar → S.State → T.State → Type 0
  Behind = Returned tac program (first_calls program) worth (start_points coded.main) none_placed none_hidden start_frame [] 0 0 true no_registers

  module _ (well : IsWellTyped program) (storable : HasStorableTypes program) (input : List ℕ) (units : ℕ) where
    -- One unit more than the reference has pays for the call and the end.
    main_does : FirstCallsDo → Does tac worth (initial tac input) (suc units) 1 13 Behind (run_main program (first_state program input units))
    main_does calls_do =
        calls_do (record { line = 1; column = 1 }) true int NoTypes (FunctionValue (codes "main")) [] 0 0 (Known coded.main) [] refl
        (initial tac input) (suc units) 1 13 (first_state program input units) (initial tac input) (eased (spent (start (initial tac input) (suc units))) (omega arith) (omega arith))
        (spot_at_start program tac coded well input units storable (first_calls program) worth)
        (codes "main", coded.named, refl) tt tt (refl, main_there program well) tt

    exits : (scalar : Scalar) (s : S.State) (t : T.State) → Passing tac worth (initial tac input) t (suc units) s.units 1 13 → Behind scalar s t → HasType program s int scalar
        → Answers tac worth (initial tac input) (suc units) 1 (Over (Ended (low_byte scalar)) s.trace)
    exits (IntegerValue z) s t p behind typed =
        let held = behind.gives refl in
        ends_seen p (record {
          before = before_at tac program (start_points coded.main) none_placed none_hidden start_frame [] (start_runs program tac coded) 1 (O.Exit (Held (R.Call 0))) s t refl behind.there;
          does = ap (λ found. T.given found t (λ z. Halt (Ended (bits_of I.UChar z)) t)) (ap integer_in (held.1 ∙ ap Some held.2));
        }) (omega arith) behind.there.stands.trace tt
    exits NullValue s t p behind typed = absurd typed
    exits (FunctionValue name) s t p behind typed = absurd typed
    exits (PointerValue place) s t p behind typed = absurd typed
    exits (RawPointer number) s t p behind typed = absurd typed

    ends_alike : (outcome : Outcome Scalar) → run_main program (first_state program input units) ≡ outcome → Does tac worth (initial tac input) (suc units) 1 13 Behind outcome
        → Answers tac worth (initial tac input) (suc units) 1 (status_of outcome)
    ends_alike _ is (comes value s t p behind) = exits value s t p behind (main_keeps program well storable (first_state program input units) (first_sound program well storable input units) value s is).1
    ends_alike _ is (stops answer s a) = a

    -- the code answers as the reference does
    pub answers_main : FirstCallsDo → Answers tac worth (initial tac input) (suc units) 1 (status_of (run_main program (first_state program input units)))
    answers_main calls_do = ends_alike (run_main program (first_state program input units)) refl (main_does calls_do)
