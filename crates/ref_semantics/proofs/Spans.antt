-- What budgets do to a whole program.
use Rattle.std.proofs.Common.{◌≡◌, ℕ, ◌+◌, ◌-◌, true, List, [], codes, refl, sym, ap, subst, arith, ◌∙◌}
use Rattle.run_theory.specs.Runs.{Going, Over, trace_of, IsPrefix, IsGoing, IsOver}
use Rattle.c_typed.specs.Typed.{FunctionDef, Program}
use Rattle.ref_semantics.specs.Values.{Scalar, FunctionValue}
use Rattle.ref_semantics.specs.Store.{TypeEnvironment, State, Outcome, Then, Stopped}
use Rattle.ref_semantics.specs.Meaning.{greatest_depth}
use Rattle.ref_semantics.specs.First.{around_of, main_type, first_state, status_of, run_main, reference, spent, units_left}
use Rattle.ref_semantics.specs.Steps.{Config, goes_on}
use Rattle.ref_semantics.proofs.Budgets.{with_more, trace_in, Later, Lawful, prefix_refl}
use Rattle.ref_semantics.proofs.RegularTrees.{calls-regular}
use Rattle.ref_semantics.proofs.BudgetRuns.{goes_lawful}

run_main_lawful : (program : Program) → Lawful (run_main program)
run_main_lawful program = (calls-regular (around_of program) program.functions greatest_depth (record { line = 1; column = 1 }) true main_type (FunctionValue (codes "main")) []).lawful

status_trace : (outcome : Outcome Scalar) → trace_of (status_of outcome) ≡ trace_in outcome
status_trace (Then value state) = refl
status_trace (Stopped answer state) = refl

later_prefix : (more : ℕ) (outcome later : Outcome Scalar) → Later more outcome later → IsPrefix (trace_in outcome) (trace_in later)
later_prefix more (Then value state) later h = subst (λ o. IsPrefix state.trace (trace_in o)) (sym h) (prefix_refl state.trace)
later_prefix more (Stopped (Over final trace) state) later h = subst (λ o. IsPrefix trace (trace_in o)) (sym h) (prefix_refl trace)
later_prefix more (Stopped (Going trace) state) later h = h.0

pub grows : (program : Program) (input : List ℕ) (units more : ℕ) → IsPrefix (trace_of (reference program input units)) (trace_of (reference program input (units + more)))
grows program input units more =
    let start = first_state program input units in
    let one = run_main program start in
    let two = run_main program (with_more more start) in
    subst (λ a. IsPrefix a (trace_of (status_of two))) (sym (status_trace one)) (subst (λ b. IsPrefix (trace_in one) b) (sym (status_trace two)) (later_prefix more one two ((run_main_lawful program).later start more)))

later_stays : (more : ℕ) (outcome later : Outcome Scalar) → Later more outcome later → IsOver (status_of outcome) → status_of later ≡ status_of outcome
later_stays more (Then value state) later h over = ap status_of h
later_stays more (Stopped (Over final trace) state) later h over = ap status_of h
later_stays more (Stopped (Going trace) state) later h over = absurd over

pub stays : (program : Program) (input : List ℕ) (units more : ℕ) → IsOver (reference program input units) → reference program input (units + more) ≡ reference program input units
stays program input units more over =
    let start = first_state program input units in
    later_stays more (run_main program start) (run_main program (with_more more start)) ((run_main_lawful program).later start more) over

none_left : (more : ℕ) (outcome later : Outcome Scalar) → Later more outcome later → IsGoing (status_of outcome) → units_left outcome ≡ 0
none_left more (Then value state) later h going = absurd going
none_left more (Stopped (Over final trace) state) later h going = absurd going
none_left more (Stopped (Going trace) state) later h going = h.1

pub spends_all : (program : Program) (input : List ℕ) (units : ℕ) → IsGoing (reference program input units) → spent program input units ≡ units
spends_all program input units going =
    let start = first_state program input units in
    ap (λ left. units - left) (none_left 0 (run_main program start) (run_main program (with_more 0 start)) ((run_main_lawful program).later start 0) going) ∙ whole
  where
    whole : units - 0 ≡ units
    whole = omega (arith)

pub kept : (around : TypeEnvironment) (functions : List FunctionDef) (config : Config) (state : State) → IsPrefix state.trace (trace_of (status_of (goes_on around functions config state)))
kept around functions config state = subst (λ t. IsPrefix state.trace t) (sym (status_trace (goes_on around functions config state))) ((goes_lawful around functions config).keeps state)
