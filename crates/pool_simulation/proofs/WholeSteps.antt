-- A whole step: the cost of a point is paid alike, and a point that is not there is lost.
use Rattle.std.proofs.Common.{◌≡◌, ℕ, suc, Bool, true, false, if◌then◌else◌, length, Option, Some, None, refl, sym, ap, subst, ◌∙◌}
use Rattle.std.specs.Prelude.{nat_lt, slice_get, option_map}
use Rattle.run_theory.specs.Runs.{Move, To}
use Rattle.tac_ir.specs.States as T
use Rattle.tac_ir.specs.Costs.{more_cost}
use Rattle.tac_ir.specs.Meaning as meaning
use Rattle.tac_ir.specs.Code.{Tac}
use Rattle.tac_ir.specs.Code as O
use Rattle.tac_ir.proofs.Activations.{stacked_next}
use Rattle.pool_ir.specs.Code as C
use Rattle.pool_ir.specs.States as P
use Rattle.pool_ir.specs.Meaning as M
use Rattle.pool_rewrite.specs.Plan.{Plan}
use Rattle.pool_simulation.specs.InStep.{plan_for, frame_for, InStep}
use Rattle.pool_simulation.specs.Serving.{code_of, entered, passed_for, actions_to, cost_paid, point_left, function_entered}
use Rattle.pool_simulation.proofs.Stepping.{op_for, Ready, Does, goes, pays, enters, ends, wrong, refused, PointDoes, StepDoes, to_next, to_end, to_wrong, to_refusal}
use Rattle.pool_simulation.proofs.PlannedCode.{points_alike, costs_alike}
use Rattle.pool_simulation.proofs.InStepWords.{pays_in_step, goes_in_step}
use Rattle.pool_simulation.proofs.Actions.{with_pools, actions_done}

module _ (tac : Tac) (plan : Plan) (slabs : ℕ) (state : T.State) (machine : P.State) (planned : length plan.functions ≡ length tac.functions) (step : InStep tac plan slabs state machine) where
  -- what is left of a cost is paid, or what is done does
  pub pay_does : (cost cost' : ℕ) (done : Move T.State) (done' : Move P.State) → cost' ≡ cost → Does tac plan slabs state machine done done' → Does tac plan slabs state machine (meaning.pay cost state done) (M.pay cost' machine done')
  pay_does cost cost' done done' same does =
      subst (λ (b : Bool). Does tac plan slabs state machine (meaning.pay cost state done) (if b then To (record machine { paid = suc machine.paid }) else done'))
      (sym (ap (λ n. nat_lt machine.paid n) same ∙ ap (λ n. nat_lt n cost) step.paid)) (by (nat_lt state.paid cost))
    where
      by : (b : Bool) → Does tac plan slabs state machine (if b then To (record state { paid = suc state.paid }) else done) (if b then To (record machine { paid = suc machine.paid }) else done')
      by true = pays _ _ (pays_in_step tac plan slabs state machine step (suc state.paid) (suc machine.paid) (ap suc step.paid))
          (record { owner = refl; descriptors = refl; at = refl; callers = refl; pools = refl; placed = refl })
      by false = does

  pub act_at_does : (found : Option O.Op) → ((op : O.Op) → found ≡ Some op → PointDoes tac plan slabs state machine op)
      → Does tac plan slabs state machine (meaning.act_at tac found state) (M.act_at (code_of tac plan) (option_map (op_for tac plan state.running.owner) found) machine)
  act_at_does None does = wrong _ state _ tt
  act_at_does (Some op) does =
      pay_does (more_cost op) (M.more_cost (op_for tac plan state.running.owner op)) (meaning.execute tac (T.around_of tac state.running) op state)
      (M.execute (code_of tac plan) (op_for tac plan state.running.owner op) machine)
      (costs_alike tac (plan_for plan state.running.owner) (T.objects_of (T.function_of tac state.running.owner)) (frame_for tac plan state.running.owner) op) (does op refl)

  -- the point is that of the function, as the other is that of the code with pools
  same_point : slice_get (P.points_of (P.function_of (code_of tac plan) machine.running.owner)) machine.running.at
      ≡ option_map (op_for tac plan state.running.owner) (slice_get (T.points_of (T.function_of tac state.running.owner)) state.running.at)
  same_point =
      ap (λ (owner : T.Owner). slice_get (P.points_of (P.function_of (code_of tac plan) owner)) machine.running.at) step.running.owner
      ∙ ap (λ (at : ℕ). slice_get (P.points_of (P.function_of (code_of tac plan) state.running.owner)) at) step.running.at
      ∙ points_alike tac plan planned state.running.owner state.running.at

  pub act_does : ((op : O.Op) → slice_get (T.points_of (T.function_of tac state.running.owner)) state.running.at ≡ Some op → PointDoes tac plan slabs state machine op)
      → Does tac plan slabs state machine (meaning.act tac state) (M.act (code_of tac plan) machine)
  act_does does =
      subst (λ (found : Option C.Op). Does tac plan slabs state machine (meaning.act tac state) (M.act_at (code_of tac plan) found machine)) (sym same_point)
      (act_at_does (slice_get (T.points_of (T.function_of tac state.running.owner)) state.running.at) does)

-- ---- actions

-- the actions on an edge or at entry are done, and both are at the next point
pub step_comes : (tac : Tac) (plan : Plan) (slabs : ℕ) (state : T.State) (machine : P.State) → Ready tac plan slabs state machine → (move : Move T.State) (does : Move P.State)
    → Does tac plan slabs state machine move does → meaning.act tac state ≡ move → StepDoes tac plan slabs state machine move does
step_comes tac plan slabs state machine ready _ _ (goes at next later in_step effect) is =
    let stacked = stacked_next tac state _ ready.stacked is in
    let can = ready.serving.crosses at next later is in_step effect in
    let acted = actions_done tac plan slabs ready.kinds next stacked (actions_to tac plan later at) later in_step can in
    let after = with_pools acted.descriptors acted.pools acted.trace later in
    subst (StepDoes tac plan slabs state machine (T.go_to at next)) (sym (acted.goes (P.arrived later.running.at at)))
    (to_next _ _ (goes_in_step tac plan slabs next after acted.in_step at) (point_left at next later after _ is in_step effect can (acted.goes To) refl))
step_comes tac plan slabs state machine ready _ _ (pays next later in_step same) is = to_next next later in_step (cost_paid later same)
step_comes tac plan slabs state machine ready _ _ (enters site number callee arguments function words next at found in_step) is =
    let stacked = stacked_next tac state next ready.stacked is in
    let first = entered site number function words (passed_for plan state machine site) machine in
    let can = ready.serving.enters site number callee arguments function words next at is found in_step in
    let acted = actions_done tac plan slabs ready.kinds next stacked function.entering first in_step can in
    let after = with_pools acted.descriptors acted.pools acted.trace first in
    subst (StepDoes tac plan slabs state machine (To next)) (sym (acted.goes To))
    (to_next next after acted.in_step (function_entered site number callee arguments function words next after at is found in_step can (acted.goes To)))
step_comes tac plan slabs state machine ready _ _ (ends final last later same program) is = to_end final last later same program
step_comes tac plan slabs state machine ready _ _ (wrong final last does w) is = to_wrong final last does w
step_comes tac plan slabs state machine ready _ _ (refused next later event) is = to_refusal next later event
