-- A branch.
use Rattle.std.proofs.Common.{◌≡◌, ℕ, suc, ◌+◌, ◌*◌, ◌≤◌, ◌==◌, not, Bool, true, false, List, [], ◌∷◌, ◌++◌, Some, length, refl, sym, ap, ◌∙◌, subst, arith, length-append, eqb-true}
use Rattle.std.specs.Prelude.{slice_get, if◌then◌else◌}
use Rattle.run_theory.specs.Runs.{To}
use Rattle.run_theory.proofs.Machines.{one_step}
use Rattle.c_num.specs.declared.IntType.{IntType}
use Rattle.pool_isa.specs.declared.instr.Instr.{Instr}
use Rattle.pool_isa.specs.declared.instr.Instr.TheVariants as instrs
use Rattle.pool_isa.specs.Machine as M
use Rattle.pool_isa.specs.Machine.{converted_word}
use Rattle.tac_ir.specs.Code.{Tree}
use Rattle.pool_ir.specs.Code.{Function, PoolCode}
use Rattle.pool_ir.specs.Code as O
use Rattle.pool_ir.specs.Words.{word_in, is_zero_word}
use Rattle.pool_ir.specs.States as P
use Rattle.pool_ir.specs.States.{go_to}
use Rattle.stack_code.specs.Emitting.{edge_code, way_or_on, way_at_zero, preparing, place_of, function_code, emitted}
use Rattle.stack_code.specs.Standing.{activation_at, StandsAt, Stands}
use Rattle.stack_code.specs.Fitting.{CodeFits}
use Rattle.stack_code.specs.Following.{Answers, finishing_steps, PointFollows}
use Rattle.stack_code.proofs.Turns.{StandsIn, stands_split}
use Rattle.stack_code.proofs.Steps.{Comes, stands_as, machine_at, performs}
use Rattle.stack_code.proofs.PoolStack.Ways.{Continues, continues_from, answers_by, falls, jumps}
use Rattle.stack_code.proofs.PoolStack.Points.{Ready, point_follows, edge_short}

module _ (code : PoolCode) (most : ℕ) (fits : CodeFits most code) where
  -- a jump that is made or not, by the word that is popped
  module _ (state : P.State) (machine : M.State) (function : Function) (place target word : ℕ) (stands : StandsAt code state machine function place (word ∷ [])) where
    abbrev next_at : Bool → ℕ
    next_at test = if test then target else place + 1

    tested : (test : Bool) → (M.branched test target (activation_at state.running place (word ∷ []) stands.bytes) []) ≡ activation_at state.running (if test then target else place + 1) [] stands.bytes
    tested true = refl
    tested false = refl

    comes_tested : (test : Bool) → M.act (emitted code) machine ≡ To (record machine { activations = M.branched test target (activation_at state.running place (word ∷ []) stands.bytes) [] ∷ stands.callers })
        → Comes code machine 1 state function (if test then target else place + 1) []
    comes_tested test step = record {
      later = machine_at code most fits state machine function place (word ∷ []) stands (if test then target else place + 1) [];
      leads =
          one_step (M.act (emitted code)) machine (machine_at code most fits state machine function place (word ∷ []) stands (if test then target else place + 1) [])
          (step ∙ ap (λ (a : M.Activation). To (record machine { activations = a ∷ stands.callers })) (tested test));
      stands = stands_as code most fits state machine function place (word ∷ []) stands (if test then target else place + 1) [];
    }

    at_zero : slice_get (function_code function) place ≡ Some (instrs.JumpIfZero target) → (test : Bool) → (word == 0) ≡ test → Comes code machine 1 state function (if test then target else place + 1) []
    at_zero there test is =
        comes_tested test (performs code most fits state machine function place (word ∷ []) stands (instrs.JumpIfZero target) there
        ∙ ap (λ b. To (record machine { activations = M.branched b target (activation_at state.running place (word ∷ []) stands.bytes) [] ∷ stands.callers })) is)

    at_nonzero : slice_get (function_code function) place ≡ Some (instrs.JumpIfNotZero target) → (test : Bool) → (word == 0) ≡ test → Comes code machine 1 state function (if not test then target else place + 1) []
    at_nonzero there test is =
        comes_tested (not test) (performs code most fits state machine function place (word ∷ []) stands (instrs.JumpIfNotZero target) there
        ∙ ap (λ b. To (record machine { activations = M.branched (not b) target (activation_at state.running place (word ∷ []) stands.bytes) [] ∷ stands.callers })) is)

  -- the last way of a block
  way_out : (state : P.State) (machine : M.State) (function : Function) (place to : ℕ) (stands : StandsAt code state machine function place [])
      → StandsIn (function_code function) place (way_or_on (place_of function) function state.running.at to)
      → place + length (way_or_on (place_of function) function state.running.at to) ≡ place_of function (suc state.running.at)
      → (taken : ℕ) × (taken ≤ 1 + 3 * most) × Continues code machine taken (go_to code to state)
  way_out state machine function place to stands there behind = by (to == suc state.running.at) refl there behind
    where
      short : length (edge_code function state.running.at to) ≤ 3 * most
      short = edge_short code most fits function state.running.at to state machine place [] stands

      by : (b : Bool) → (to == suc state.running.at) ≡ b → StandsIn (function_code function) place (edge_code function state.running.at to ++ (if b then [] else instrs.Jump (place_of function to) ∷ []))
          → place + length (edge_code function state.running.at to ++ (if b then [] else instrs.Jump (place_of function to) ∷ [])) ≡ place_of function (suc state.running.at)
          → (taken : ℕ) × (taken ≤ 1 + 3 * most) × Continues code machine taken (go_to code to state)
      by true is there behind =
          let parts = stands_split (function_code function) (edge_code function state.running.at to) [] place there in
          let long = length-append (edge_code function state.running.at to) [] in
          let next = eqb-true to (suc state.running.at) is in (
            length (edge_code function state.running.at to),
            omega (arith, short),
            falls code most fits state machine function place to stands parts.0 (omega (arith, behind, long) ∙ ap (place_of function) (sym next)),
          )
      by false is there behind = (length (edge_code function state.running.at to) + 1, omega (arith, short), jumps code most fits state machine function place to stands there)

  module _ (state : P.State) (machine : M.State) (stands : Stands code state machine) where
    pub branch : (int_type : IntType) (condition : Tree) (holds fails : ℕ) → slice_get (P.points_of (P.function_of code state.running.owner)) state.running.at ≡ Some (O.Branch int_type condition holds fails)
        → PointFollows code most state machine (O.Branch int_type condition holds fails)
    branch int_type condition holds fails is =
        point_follows code most fits state machine stands (O.Branch int_type condition holds fails) is (λ r. by r (edge_code r.function state.running.at fails) refl r.there r.behind (is_zero_word int_type (word_in state.running.words condition)) refl)
      where
        front : Function → ℕ
        front function = length (preparing function (O.Branch int_type condition holds fails))

        -- the block behind what prepares the word, with the edge's actions told
        Rest : Function → List Instr → List Instr
        Rest function actions = way_at_zero (place_of function) state.running.at fails (front function) actions ++ way_or_on (place_of function) function state.running.at holds

        finish : (r : Ready code most fits state machine (O.Branch int_type condition holds fails)) (to : ℕ) → (taken : ℕ) → taken ≤ 2 + 3 * most → 1 ≤ taken → Continues code r.later taken (go_to code to state)
            → Answers code (finishing_steps most) r.later (go_to code to state)
        finish r to taken high low on = answers_by code (finishing_steps most) taken r.later (go_to code to state) on low (omega (arith, high))

        by : (r : Ready code most fits state machine (O.Branch int_type condition holds fails)) (actions : List Instr) → edge_code r.function state.running.at fails ≡ actions
            → StandsIn (function_code r.function) r.at (Rest r.function actions) → r.at + length (Rest r.function actions) ≡ place_of r.function (suc state.running.at)
            → (test : Bool) → is_zero_word int_type (word_in state.running.words condition) ≡ test → Answers code (finishing_steps most) r.later (go_to code (if test then fails else holds) state)
        by r [] none there behind true is =
            let word = converted_word int_type (word_in state.running.words condition) in
            let one = at_zero state r.later r.function r.at (place_of r.function fails) word r.stands there.0 true is in
            let on = falls code most fits state one.later r.function (place_of r.function fails) fails one.stands (subst (StandsIn (function_code r.function) (place_of r.function fails)) (sym none) tt)
            (ap (λ (e : List Instr). place_of r.function fails + length e) none ∙ omega arith) in
            finish r fails (1 + length (edge_code r.function state.running.at fails)) (omega (arith, ap length none)) (omega arith)
            (continues_from code r.later one.later 1 (length (edge_code r.function state.running.at fails)) (1 + length (edge_code r.function state.running.at fails)) (go_to code fails state) refl one.leads on)
        by r [] none there behind false is =
            let word = converted_word int_type (word_in state.running.words condition) in
            let one = at_zero state r.later r.function r.at (place_of r.function fails) word r.stands there.0 false is in
            let on = way_out state one.later r.function (r.at + 1) holds one.stands there.1 (omega (arith, behind)) in
            finish r holds (1 + on.0) (omega (arith, on.1)) (omega arith) (continues_from code r.later one.later 1 on.0 (1 + on.0) (go_to code holds state) refl one.leads on.2)
        by r (first ∷ others) some there behind true is =
            let word = converted_word int_type (word_in state.running.words condition) in
            let target = place_of r.function state.running.at + (front r.function + (length (first ∷ others) + 2)) in
            let one = at_nonzero state r.later r.function r.at target word r.stands there.0 true is in
            let parts = stands_split (function_code r.function) ((first ∷ others) ++ instrs.Jump (place_of r.function fails) ∷ []) (way_or_on (place_of r.function) r.function state.running.at holds) (r.at + 1) there.1 in
            let on = jumps code most fits state one.later r.function (r.at + 1) fails one.stands
            (subst (λ (e : List Instr). StandsIn (function_code r.function) (r.at + 1) (e ++ instrs.Jump (place_of r.function fails) ∷ [])) (sym some) parts.0) in
            let short = edge_short code most fits r.function state.running.at fails state r.later r.at (word ∷ []) r.stands in
            let edge = length (edge_code r.function state.running.at fails) in
            finish r fails (1 + (edge + 1)) (omega (arith, short)) (omega arith) (continues_from code r.later one.later 1 (edge + 1) (1 + (edge + 1)) (go_to code fails state) refl one.leads on)
        by r (first ∷ others) some there behind false is =
            let word = converted_word int_type (word_in state.running.words condition) in
            let actions = first ∷ others in
            let target = place_of r.function state.running.at + (front r.function + (length actions + 2)) in
            let one = at_nonzero state r.later r.function r.at target word r.stands there.0 false is in
            let passed = actions ++ instrs.Jump (place_of r.function fails) ∷ [] in
            let parts = stands_split (function_code r.function) passed (way_or_on (place_of r.function) r.function state.running.at holds) (r.at + 1) there.1 in
            let long = length-append actions (instrs.Jump (place_of r.function fails) ∷ []) in
            let more = length-append passed (way_or_on (place_of r.function) r.function state.running.at holds) in
            let here : r.at + 1 + length passed ≡ target = omega (arith, long, r.begins) in
            let on = way_out state one.later r.function target holds one.stands
            (subst (λ p. StandsIn (function_code r.function) p (way_or_on (place_of r.function) r.function state.running.at holds)) here parts.1) (omega (arith, here, more, behind)) in
            finish r holds (1 + on.0) (omega (arith, on.1)) (omega arith) (continues_from code r.later one.later 1 on.0 (1 + on.0) (go_to code holds state) refl one.leads on.2)
