-- Instructions that change the innermost activation alone, one after the other.
use Rattle.std.proofs.Common.{◌≡◌, ℕ, suc, ◌+◌, List, ◌∷◌, Bool, true, false, Some, slice_get, drop, ap, ◌∙◌, arith}
use Rattle.std.specs.Bool.{MatchBool}
use Rattle.run_theory.specs.Runs.{To}
use Rattle.run_theory.specs.Moves.{then_move, moves}
use Rattle.pool_isa.specs.declared.instr.Instr.{Instr}
use Rattle.pool_isa.specs.declared.instr.Instr.TheVariants as instrs
use Rattle.pool_isa.specs.Machine.{Function, Activation, State, with_one, pushed, act, act_in, perform}
use Rattle.machine.specs.declared.ends.Step.{Step}
use Rattle.machine.specs.declared.ends.Step.TheVariants.{On, Over}
use Rattle.machine.specs.Steps.{state_of, PerformsAlone, Keeps, Advances, MayAdvance, goes_on}
use Rattle.machine.specs.Promises.{AdvancesBy}
use Rattle.machine.proofs.Moves.{moves-suc}

-- a step that went on, or left all as it was
pub after_step : (height : ℕ) (instr : Instr) (result : Step) (old new : Activation) → ((function : Function) → PerformsAlone function instr old result new) → Keeps result old new → MayAdvance height instr (goes_on result) old new
after_step height instr On old new performs keeps = λ function h. performs function
after_step height instr (Over end) old new performs keeps = keeps

-- an access is the same, however many operands a function may hold
pub at_any_height : (height : ℕ) (instr : Instr) (result : Bool) (old new : Activation) → MatchBool result ((function : Function) → Advances function instr old new) (new ≡ old) → MayAdvance height instr result old new
at_any_height height instr true old new advances = λ function h. advances function
at_any_height height instr false old new kept = kept

-- a word that is pushed again
pub duplicated : (height word : ℕ) (result : Bool) (old new : Activation) → old.operands ≡ word ∷ drop 1 old.operands → MayAdvance height (instrs.Constant word) result old new → MayAdvance height instrs.Duplicate result old new
duplicated height word true old new last advances = λ function h code callers heap history input trace.
    let state : State = state_of (old ∷ callers) heap history input trace in
    ap (λ os. with_one os state (λ w rest. pushed function.height w old.operands old callers state)) last ∙ advances function h code callers heap history input trace
duplicated height word false old new last kept = kept

-- one instruction more
pub advanced_more : (function : Function) (instr : Instr) (count : ℕ) (first old new : Activation) → AdvancesBy function count first old → old.function ≡ first.function → slice_get function.code old.place ≡ Some instr → Advances function instr old new → AdvancesBy function (count + 1) first new
advanced_more function instr count first old new before same there advances code callers heap history input trace found =
    let start : State = state_of (first ∷ callers) heap history input trace in
    let here : State = state_of (old ∷ callers) heap history input trace in
    let stands : slice_get code.functions old.function ≡ Some function = ap (slice_get code.functions) same ∙ found in
    let step : act code here ≡ To (state_of (new ∷ callers) heap history input trace) = ap (λ f. act_in code f old callers here) stands ∙ ap (λ i. perform i code function old callers here) there ∙ advances code callers heap history input trace in
    let more : count + 1 ≡ suc count = omega arith in
    ap (λ m. moves (act code) m start) more ∙ moves-suc (act code) count start ∙ ap (then_move (act code)) (before code callers heap history input trace found) ∙ step
