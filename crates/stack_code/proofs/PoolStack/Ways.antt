-- Ways from a point to another: what is done with pools on the edge, and a jump.
use Rattle.std.proofs.Common.{◌≡◌, ℕ, suc, ◌+◌, ◌*◌, ◌≤◌, List, [], ◌∷◌, ◌++◌, Some, length, refl, sym, ap, ◌∙◌, subst, arith, append-nil}
use Rattle.std.specs.Prelude.{slice_get}
use Rattle.run_theory.specs.declared.ends.TrapKind.{TrapKind}
use Rattle.run_theory.specs.Runs.{Trapped, Move, To, Halt, Leads}
use Rattle.run_theory.proofs.Machines.{one_step, leads_compose}
use Rattle.pool_isa.specs.declared.instr.Instr.TheVariants as instrs
use Rattle.pool_isa.specs.Machine as M
use Rattle.tac_ir.specs.declared.register.Register.{Register}
use Rattle.tac_ir.specs.Events.{Crossed, seen}
use Rattle.pool_ir.specs.Code.{Action, Make, Destroy, Function, PoolCode}
use Rattle.pool_ir.specs.Words.{with_word}
use Rattle.pool_ir.specs.States as P
use Rattle.pool_ir.specs.States.{Same, same, actions_from, actions_of, go_to, go_on}
use Rattle.stack_code.specs.Emitting.{actions_code, edge_code, way, way_on, keeping, place_of, function_code, emitted}
use Rattle.stack_code.specs.Standing.{told, HasRegister, place_in, StandsAt, Stands}
use Rattle.stack_code.specs.Fitting.{CodeFits}
use Rattle.stack_code.specs.Following.{Answers, goes, traps}
use Rattle.stack_code.proofs.Turns.{StandsIn, stands_split}
use Rattle.stack_code.proofs.Told.{seen_more, told_more}
use Rattle.stack_code.proofs.FrameRanges.{stacked_as}
use Rattle.stack_code.proofs.Steps.{Comes, function_fits, stands_as, machine_at, performs, register_stored}
use Rattle.stack_code.proofs.Actions.{Acted, acted, stuck, acts_do}

-- so many steps come to the same as a move of code with pools, or that is trapped
pub data Continues (code : PoolCode) (machine : M.State) (taken : ℕ) : Move P.State → Type 0 where
  continues : (next : P.State) (later : M.State) → Leads (M.act (emitted code)) machine taken later → Stands code next later → next.paid ≡ 0 → Continues code machine taken (To next)
  trapped : (kind : TrapKind) (last : P.State) → Continues code machine taken (Halt (Trapped kind) last)

pub continues_from : (code : PoolCode) (machine middle : M.State) (k l m : ℕ) (move : Move P.State) → m ≡ k + l → Leads (M.act (emitted code)) machine k middle → Continues code middle l move → Continues code machine m move
continues_from code machine middle k l m _ e leads (continues next later more stands paid) = continues next later (leads_compose (M.act (emitted code)) machine middle later k l m e leads more) stands paid
continues_from code machine middle k l m _ e leads (trapped kind last) = trapped kind last

pub answers_by : (code : PoolCode) (most taken : ℕ) (machine : M.State) (move : Move P.State) → Continues code machine taken move → 1 ≤ taken → taken ≤ most → Answers code most machine move
answers_by code most taken machine _ (continues next later leads stands paid) low high = goes next later taken low high leads stands paid
answers_by code most taken machine _ (trapped kind last) low high = traps kind last

-- each action is three instructions
pub three_each : (function : Function) (actions : List Action) → length (actions_code function actions) ≡ 3 * length actions
three_each function [] = refl
three_each function (Make descriptor kind ∷ others) = omega (arith, three_each function others)
three_each function (Destroy descriptor ∷ others) = omega (arith, three_each function others)

-- ---- at another point

module _ (code : PoolCode) (state : P.State) (machine : M.State) (function : Function) (place : ℕ) (stands : StandsAt code state machine function place []) (from to : ℕ) (is : place ≡ place_of function to) where
  abbrev arrives : P.State
  arrives = record state { running = record state.running { at = to }; trace = state.trace ++ Same (Crossed from to) ∷ []; paid = 0 }

  pub arrived_stands : Stands code (record state { running = record state.running { at = to }; trace = state.trace ++ Same (Crossed from to) ∷ []; paid = 0 }) machine
  arrived_stands = record {
    function = function;
    at = subst (λ p. StandsAt code (record state { running = record state.running { at = to }; trace = state.trace ++ Same (Crossed from to) ∷ []; paid = 0 }) machine function p []) is (record {
      bytes = stands.bytes;
      callers = stands.callers;
      is = stands.is;
      activations = stands.activations;
      frame = record {
        kept = stands.frame.kept;
        long = stands.frame.long;
        as_long = stands.frame.as_long;
        registers = stands.frame.registers;
        descriptors = stands.frame.descriptors;
        objects = stands.frame.objects;
        words = stands.frame.words;
        pools = stands.frame.pools;
      };
      waiting = stands.waiting;
      lie = record {
        stacked = stacked_as state.running state.callers (record state.running { at = to }) refl stands.lie.stacked;
        low = stands.lie.low;
        depth = stands.lie.depth;
        globals = stands.lie.globals;
      };
      rest = record {
        globals = stands.rest.globals;
        pools = stands.rest.pools;
        placed = stands.rest.placed;
        told = stands.rest.told ∙ sym (append-nil (told state.trace)) ∙ sym (told_more state.trace (Same (Crossed from to) ∷ []));
        input = stands.rest.input;
        trace = stands.rest.trace ∙ sym (append-nil (seen (same state.trace))) ∙ sym (seen_more state.trace (Same (Crossed from to) ∷ []));
      };
    });
  }

module _ (code : PoolCode) (most : ℕ) (fits : CodeFits most code) where
  -- a jump
  jumped : (state : P.State) (machine : M.State) (function : Function) (place target : ℕ) (operands : List ℕ) (stands : StandsAt code state machine function place operands)
      → slice_get (function_code function) place ≡ Some (instrs.Jump target) → Comes code machine 1 state function target operands
  jumped state machine function place target operands stands there = record {
    later = machine_at code most fits state machine function place operands stands target operands;
    leads =
        one_step (M.act (emitted code)) machine (machine_at code most fits state machine function place operands stands target operands)
        (performs code most fits state machine function place operands stands (instrs.Jump target) there);
    stands = stands_as code most fits state machine function place operands stands target operands;
  }

  module _ (state : P.State) (machine : M.State) (function : Function) (place to : ℕ) (stands : StandsAt code state machine function place []) where
    abbrev actions : List Action
    actions = actions_from function.edges state.running.at to

    edge_does : StandsIn (function_code function) place (edge_code function state.running.at to) → Acted code most fits (actions_from function.edges state.running.at to) state machine function place []
    edge_does there =
        acts_do code most fits (actions_from function.edges state.running.at to) state machine function place []
        ((function_fits code most fits state machine function place [] stands).edges state.running.at to).0 stands (omega arith) there

    its_actions : go_to code to state ≡ P.acts code (actions_from function.edges state.running.at to) state (P.arrived state.running.at to)
    its_actions = ap (λ f. P.acts code (actions_of f state.running.at to) state (P.arrived state.running.at to)) stands.is

    -- to the point behind
    pub falls : StandsIn (function_code function) place (edge_code function state.running.at to) → place + length (edge_code function state.running.at to) ≡ place_of function to
        → Continues code machine (length (edge_code function state.running.at to)) (go_to code to state)
    falls there is = by (edge_does there)
      where
        by : Acted code most fits (actions_from function.edges state.running.at to) state machine function place [] → Continues code machine (length (edge_code function state.running.at to)) (go_to code to state)
        by (acted later same kept comes) =
            subst (λ m. Continues code machine (length (edge_code function state.running.at to)) m) (sym (its_actions ∙ same (P.arrived state.running.at to)))
            (continues _ comes.later comes.leads (arrived_stands code later comes.later function (place + length (edge_code function state.running.at to)) comes.stands state.running.at to is) refl)
        by (stuck kind last same) =
            subst (λ m. Continues code machine (length (edge_code function state.running.at to)) m) (sym (its_actions ∙ same (P.arrived state.running.at to))) (trapped kind last)

    -- to any point
    pub jumps : StandsIn (function_code function) place (way (place_of function) function state.running.at to) → Continues code machine (length (edge_code function state.running.at to) + 1) (go_to code to state)
    jumps there =
        let parts = stands_split (function_code function) (edge_code function state.running.at to) (instrs.Jump (place_of function to) ∷ []) place there in
        by parts.1 (edge_does parts.0)
      where
        by : StandsIn (function_code function) (place + length (edge_code function state.running.at to)) (instrs.Jump (place_of function to) ∷ [])
            → Acted code most fits (actions_from function.edges state.running.at to) state machine function place [] → Continues code machine (length (edge_code function state.running.at to) + 1) (go_to code to state)
        by there (acted later same kept comes) =
            let further = jumped later comes.later function (place + length (edge_code function state.running.at to)) (place_of function to) [] comes.stands there.0 in
            subst (λ m. Continues code machine (length (edge_code function state.running.at to) + 1) m) (sym (its_actions ∙ same (P.arrived state.running.at to)))
            (continues_from code machine comes.later (length (edge_code function state.running.at to)) 1 (length (edge_code function state.running.at to) + 1) _ refl comes.leads
            (continues _ further.later further.leads (arrived_stands code later further.later function (place_of function to) further.stands state.running.at to refl) refl))
        by there (stuck kind last same) =
            subst (λ m. Continues code machine (length (edge_code function state.running.at to) + 1) m) (sym (its_actions ∙ same (P.arrived state.running.at to))) (trapped kind last)

  -- a word goes to a register, and the run goes on behind the point
  pub keeps_word : (state : P.State) (machine : M.State) (function : Function) (place : ℕ) (to : Register) (word : ℕ) (stands : StandsAt code state machine function place (word ∷ place_in function state.running to ∷ []))
      → HasRegister function.frame to → StandsIn (function_code function) place (keeping function state.running.at) → place + length (keeping function state.running.at) ≡ place_of function (suc state.running.at)
      → Continues code machine (length (keeping function state.running.at)) (P.write code to word state)
  keeps_word state machine function place to word stands has there is =
      let stored = register_stored code most fits state machine function place word [] to stands has there.0 in
      let next = record state { running = record state.running { words = with_word to word state.running.words } } in
      continues_from code machine stored.later 1 (length (way_on function state.running.at)) (length (keeping function state.running.at)) (go_on code next) (omega arith) stored.leads
      (falls next stored.later function (place + 1) (suc state.running.at) stored.stands there.1 (omega (arith, is)))
