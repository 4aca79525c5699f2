-- Returns.
use Rattle.std.proofs.Common.{◌≡◌, ℕ, ◌+◌, ◌*◌, ◌%◌, ◌^◌, ◌≤◌, inl, List, [], ◌∷◌, ◌++◌, Option, Some, None, length, refl, sym, ap, ◌∙◌, subst, arith, length-append}
use Rattle.std.specs.Prelude.{slice_get, if◌then◌else◌}
use Rattle.std.proofs.lemmas.Bool.{lt-ltb}
use Rattle.run_theory.specs.declared.ends.TrapKind.TheVariants as traps
use Rattle.run_theory.specs.Runs
use Rattle.run_theory.specs.Runs.{Event, Returned, Ended, To, Halt}
use Rattle.run_theory.proofs.Machines.{one_step}
use Rattle.pool_isa.specs.declared.instr.Instr.TheVariants as instrs
use Rattle.pool_isa.specs.Machine as M
use Rattle.tac_ir.specs.declared.register.Register.TheVariants as R
use Rattle.tac_ir.specs.Events.{Left}
use Rattle.tac_ir.specs.Code.{Operand}
use Rattle.pool_ir.specs.Code.{Function, PoolCode}
use Rattle.pool_ir.specs.Code as O
use Rattle.pool_ir.specs.Words.{operand_word}
use Rattle.pool_ir.specs.States as P
use Rattle.pool_ir.specs.States.{Same}
use Rattle.pool_ir.specs.Meaning.{back, leave, leaving_of}
use Rattle.stack_code.specs.Emitting.{actions_code, preparing, keeping, calling, height_of, place_of, function_code, emitted}
use Rattle.stack_code.specs.Standing.{activation_at, place_in, CallersStand, StandsAt, Stands, Stacked, greatest_frame}
use Rattle.stack_code.specs.Fitting.{CodeFits}
use Rattle.stack_code.specs.Following.{Answers, ends, traps, finishing_steps, PointFollows}
use Rattle.stack_code.proofs.Turns.{StandsIn, stands_split}
use Rattle.stack_code.proofs.BlockPlaces.{block_stands, place_behind}
use Rattle.stack_code.proofs.Told.{seen_more, told_more}
use Rattle.stack_code.proofs.Steps.{image_has, function_fits, machine_at, performs}
use Rattle.stack_code.proofs.Actions.{Acted, acted, stuck, acts_do}
use Rattle.stack_code.proofs.PoolStack.Ways.{three_each}
use Rattle.stack_code.proofs.PoolStack.Points.{point_follows, keeps, within, answers_from}

-- what is given back, with nobody to take it, and with a caller
back_last : (code : PoolCode) (word : ℕ) (state : P.State) → state.callers ≡ [] → back code word state ≡ Halt (Ended (word % 256)) state
back_last code word state e = rw e refl

back_to : (code : PoolCode) (word : ℕ) (state : P.State) (site : ℕ) (caller : P.Activation) (callers : List (ℕ × P.Activation)) → state.callers ≡ (site, caller) ∷ callers
    → back code word state ≡ P.write code (R.Call site) word (record state { running = caller; callers = callers; trace = state.trace ++ Same Left ∷ [] })
back_to code word state site caller callers e = rw e refl

module _ (code : PoolCode) (most : ℕ) (fits : CodeFits most code) where
  -- a frame lies as high as so many frames reach
  high_start : (own : P.Activation) (callers : List (ℕ × P.Activation)) (others : List M.Activation) → CallersStand code callers others → Stacked own callers → own.start ≤ 2 ^ 40 + length callers * greatest_frame
  high_start own [] [] stand stacked = omega (arith, stacked)
  high_start own [] (first ∷ others) stand stacked = absurd stand
  high_start own (one ∷ callers) [] stand stacked = absurd stand
  high_start own ((site, caller) ∷ callers) (first ∷ others) stand stacked =
      let rest = high_start caller callers others stand.1 stacked.1 in
      let size = (fits.functions caller.owner stand.0.function stand.0.is).size in
      omega (arith, rest, stacked.0, size, stand.0.frame.long)

  module _ (state : P.State) (machine : M.State) (function : Function) (place word : ℕ) (stands : StandsAt code state machine function place (word ∷ [])) (there : slice_get (function_code function) place ≡ Some instrs.ReturnValue) where
    -- of `start`
    last_return : state.callers ≡ [] → Answers code (4 + 3 * most) machine (back code word state)
    last_return e =
        let none : CallersStand code [] stands.callers = subst (λ (c : List (ℕ × P.Activation)). CallersStand code c stands.callers) e stands.waiting in
        let canon = machine_at code most fits state machine function place (word ∷ []) stands place (word ∷ []) in
        subst (Answers code (4 + 3 * most) machine) (sym (back_last code word state e))
        (ends (Ended (word % 256)) state machine canon 0 (omega arith) (Runs.here machine)
        (performs code most fits state machine function place (word ∷ []) stands instrs.ReturnValue there ∙ by stands.callers none canon) stands.rest.trace (inl tt))
      where
        by : (callers : List M.Activation) → CallersStand code [] callers → (s : M.State) → M.returned_value (emitted code).functions word callers s ≡ Halt (Ended (word % 256)) s
        by [] none s = refl
        by (first ∷ others) none s = absurd none

    -- to a caller
    return_to : (site : ℕ) (caller : P.Activation) (callers : List (ℕ × P.Activation)) → state.callers ≡ (site, caller) ∷ callers → Answers code (4 + 3 * most) machine (back code word state)
    return_to site caller callers e =
        subst (Answers code (4 + 3 * most) machine) (sym (back_to code word state site caller callers e))
        (by stands.callers refl (subst (λ (c : List (ℕ × P.Activation)). CallersStand code c stands.callers) e stands.waiting) (subst (λ (c : List (ℕ × P.Activation)). Stacked state.running c) e stands.lie.stacked))
      where
        next : P.State
        next = record state { running = caller; callers = callers; trace = state.trace ++ Same Left ∷ [] }

        by : (others : List M.Activation) → stands.callers ≡ others → CallersStand code ((site, caller) ∷ callers) others → Stacked state.running ((site, caller) ∷ callers)
            → Answers code (4 + 3 * most) machine (P.write code (R.Call site) word (record state { running = caller; callers = callers; trace = state.trace ++ Same Left ∷ [] }))
        by [] are waiting stacked = absurd waiting
        by (first ∷ others) are waiting stacked =
            let own = waiting.0 in
            let op = O.Call site own.callee own.arguments own.pools in
            let whole = stands_split (function_code own.function) (preparing own.function op) (calling own.callee ∷ keeping own.function caller.at) (place_of own.function caller.at)
            (block_stands own.function caller.at op own.waits) in
            let named = ((fits.functions caller.owner own.function own.is).points caller.at op own.waits).0 in
            let at = place_of own.function caller.at + (length (preparing own.function op) + 1) in
            let operand = place_in own.function caller (R.Call site) ∷ [] in
            let canon = machine_at code most fits state machine function place (word ∷ []) stands place (word ∷ []) in
            let after = record machine {
              activations = activation_at caller at (word ∷ operand) own.bytes ∷ others;
              history = record machine.history { pool_events = machine.history.pool_events ++ M.Left ∷ [] };
              trace = machine.trace ++ Returned ∷ [];
            } in
            let step : M.act (emitted code) machine ≡ To after = performs code most fits state machine function place (word ∷ []) stands instrs.ReturnValue there
            ∙ ap (λ (c : List M.Activation). M.returned_value (emitted code).functions word c canon) are
            ∙ ap (λ (a : M.Activation). M.given word a others (slice_get (emitted code).functions a.function) canon) own.activation
            ∙ ap (λ (f : Option M.Function). M.given word (activation_at caller at operand own.bytes) others f canon) (image_has code caller.owner own.function own.is)
            ∙ ap (λ b. if b then To after else M.trap traps.StackFull canon) (lt-ltb 1 (height_of own.function) (omega arith)) in
            let stand : StandsAt code (record state { running = caller; callers = callers; trace = state.trace ++ Same Left ∷ [] }) after own.function at (word ∷ operand) = record {
              bytes = own.bytes;
              callers = others;
              is = own.is;
              activations = refl;
              frame = own.frame;
              waiting = waiting.1;
              lie = record {
                stacked = stacked.1;
                low = high_start caller callers others waiting.1 stacked.1;
                depth = omega (arith, stands.lie.depth, ap (λ (c : List (ℕ × P.Activation)). length c) e);
                globals = stands.lie.globals;
              };
              rest = record {
                globals = stands.rest.globals;
                pools = stands.rest.pools;
                placed = stands.rest.placed;
                told = ap (λ (t : List M.PoolEvent). t ++ M.Left ∷ []) stands.rest.told ∙ sym (told_more state.trace (Same Left ∷ []));
                input = stands.rest.input;
                trace = ap (λ (t : List Event). t ++ Returned ∷ []) stands.rest.trace ∙ sym (seen_more state.trace (Same Left ∷ []));
              };
            } in
            let behind = place_behind own.function caller.at op own.waits in
            let long = length-append (preparing own.function op) (calling own.callee ∷ keeping own.function caller.at) in
            within code most fits (1 + (2 + 3 * most)) (4 + 3 * most) machine (P.write code (R.Call site) word (record state { running = caller; callers = callers; trace = state.trace ++ Same Left ∷ [] })) (omega arith)
            (answers_from code most fits 1 (2 + 3 * most) machine after (P.write code (R.Call site) word (record state { running = caller; callers = callers; trace = state.trace ++ Same Left ∷ [] }))
            (one_step (M.act (emitted code)) machine after step)
            (keeps code most fits (record state { running = caller; callers = callers; trace = state.trace ++ Same Left ∷ [] }) after own.function at (R.Call site) word stand named.0
            (subst (λ (p : ℕ). StandsIn (function_code own.function) p (keeping own.function caller.at)) (omega arith) whole.1.1) (omega (arith, behind, long))))

    returns_back : Answers code (4 + 3 * most) machine (back code word state)
    returns_back = by state.callers refl
      where
        by : (callers : List (ℕ × P.Activation)) → state.callers ≡ callers → Answers code (4 + 3 * most) machine (back code word state)
        by [] e = last_return e
        by ((site, caller) ∷ callers) e = return_to site caller callers e

  -- what is done at leaving, and the return
  leaves : (state : P.State) (machine : M.State) (function : Function) (place word : ℕ) (stands : StandsAt code state machine function place (word ∷ []))
      → StandsIn (function_code function) place (actions_code function function.leaving ++ instrs.ReturnValue ∷ []) → Answers code (finishing_steps most) machine (leave code word state)
  leaves state machine function place word stands there =
      let parts = stands_split (function_code function) (actions_code function function.leaving) (instrs.ReturnValue ∷ []) place there in
      let own = function_fits code most fits state machine function place (word ∷ []) stands in
      by parts.1.0 (three_each function function.leaving) own.leaving.1 (acts_do code most fits function.leaving state machine function place (word ∷ []) own.leaving.0 stands (omega arith) parts.0)
    where
      its : leave code word state ≡ P.acts code function.leaving state (back code word)
      its = ap (λ (f : Option Function). P.acts code (leaving_of f) state (back code word)) stands.is

      by : slice_get (function_code function) (place + length (actions_code function function.leaving)) ≡ Some instrs.ReturnValue → length (actions_code function function.leaving) ≡ 3 * length function.leaving → length function.leaving ≤ most
          → Acted code most fits function.leaving state machine function place (word ∷ []) → Answers code (finishing_steps most) machine (leave code word state)
      by instr long few (acted later does kept comes) =
          subst (Answers code (finishing_steps most) machine) (sym (its ∙ does (back code word)))
          (within code most fits (length (actions_code function function.leaving) + (4 + 3 * most)) (finishing_steps most) machine (back code word later) (omega (arith, long, few))
          (answers_from code most fits (length (actions_code function function.leaving)) (4 + 3 * most) machine comes.later (back code word later) comes.leads
          (returns_back later comes.later function (place + length (actions_code function function.leaving)) word comes.stands instr)))
      by instr long few (stuck kind last does) = subst (Answers code (finishing_steps most) machine) (sym (its ∙ does (back code word))) (traps kind last)

  module _ (state : P.State) (machine : M.State) (stands : Stands code state machine) where
    pub returns : (value : Option Operand) → slice_get (P.points_of (P.function_of code state.running.owner)) state.running.at ≡ Some (O.Return value) → PointFollows code most state machine (O.Return value)
    returns None is = point_follows code most fits state machine stands (O.Return None) is (λ r. leaves state r.later r.function r.at 0 r.stands r.there)
    returns (Some value) is =
        point_follows code most fits state machine stands (O.Return (Some value)) is (λ r. leaves state r.later r.function r.at (operand_word state.running.words value) r.stands r.there)
