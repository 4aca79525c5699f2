-- Points that change registers, the input or what is written, and those that lead to other points.
use Rattle.std.proofs.Common.{◌≡◌, ℕ, suc, ◌+◌, ◌*◌, ◌%◌, ◌≤◌, inl, Bool, List, [], ◌∷◌, ◌++◌, Some, length, refl, sym, ap, ◌∙◌, subst, arith, append-nil, length-append}
use Rattle.std.specs.Prelude.{slice_get, if◌then◌else◌}
use Rattle.std.proofs.lemmas.Bool.{lt-ltb}
use Rattle.run_theory.specs.declared.ends.TrapKind.TheVariants as traps
use Rattle.run_theory.specs.Runs.{Ended, Move, To, Leads, here, Output}
use Rattle.run_theory.proofs.Machines.{one_step, leads_compose}
use Rattle.slab_space.specs.Pools.{Pools}
use Rattle.pool_isa.specs.declared.instr.Instr.TheVariants as instrs
use Rattle.pool_isa.specs.Machine as M
use Rattle.pool_isa.specs.Machine.{input_word}
use Rattle.tac_ir.specs.declared.register.Register.{Register}
use Rattle.tac_ir.specs.declared.register.Register.TheVariants as R
use Rattle.tac_ir.specs.Events.{Wrote}
use Rattle.tac_ir.specs.Calls.{after_next}
use Rattle.tac_ir.specs.Code.{Tree}
use Rattle.pool_ir.specs.Code.{Op, Function, PoolCode}
use Rattle.pool_ir.specs.Code as O
use Rattle.pool_ir.specs.Words.{word_in}
use Rattle.pool_ir.specs.States as P
use Rattle.pool_ir.specs.States.{PoolEvent, Same, same, actions_from, go_to}
use Rattle.pool_ir.specs.Meaning.{execute}
use Rattle.stack_code.specs.Emitting.{edge_code, way_on, preparing, keeping, finishing, height_of, place_of, function_code, emitted}
use Rattle.stack_code.specs.Standing.{told, HasRegister, activation_at, place_in, RestStands, StandsAt, Stands}
use Rattle.stack_code.specs.Fitting.{CodeFits, OpFits}
use Rattle.stack_code.specs.Following.{Answers, goes, ends, traps, finishing_steps, PointFollows}
use Rattle.stack_code.proofs.Turns.{StandsIn, stands_split}
use Rattle.stack_code.proofs.Prepared.{prepared}
use Rattle.stack_code.proofs.BlockPlaces.{block_stands, place_behind}
use Rattle.stack_code.proofs.Told.{seen_more, told_more}
use Rattle.stack_code.proofs.Costs.{point_costs}
use Rattle.stack_code.proofs.Steps.{Comes, function_fits, machine_at, performs, comes_prepared}
use Rattle.stack_code.proofs.PoolStack.Ways.{Continues, continues_from, answers_by, three_each, falls, jumps, keeps_word}

module _ (code : PoolCode) (most : ℕ) (fits : CodeFits most code) where
  -- ---- a point that is prepared

  pub record Ready (state : P.State) (machine : M.State) (op : Op) : Type 0 where
    pub function : Function
    pub later : M.State
    pub at : ℕ
    pub stands : StandsAt code state later function at (prepared function state.running op)
    pub there : StandsIn (function_code function) at (finishing (place_of function) function state.running.at op)
    pub behind : at + length (finishing (place_of function) function state.running.at op) ≡ place_of function (suc state.running.at)
    pub begins : at ≡ place_of function state.running.at + length (preparing function op)
    pub named : OpFits function.frame op
    pub is_at : slice_get function.points state.running.at ≡ Some op

  module _ (state : P.State) (machine : M.State) (stands : Stands code state machine) (op : Op) (is : slice_get (P.points_of (P.function_of code state.running.owner)) state.running.at ≡ Some op) where
    abbrev function : Function
    function = stands.function

    at_point : slice_get stands.function.points state.running.at ≡ Some op
    at_point = ap (λ f. slice_get (P.points_of f) state.running.at) (sym stands.at.is) ∙ is

    whole : StandsIn (function_code stands.function) (place_of stands.function state.running.at) (preparing stands.function op)
        × StandsIn (function_code stands.function) (place_of stands.function state.running.at + length (preparing stands.function op)) (finishing (place_of stands.function) stands.function state.running.at op)
    whole =
        stands_split (function_code stands.function) (preparing stands.function op) (finishing (place_of stands.function) stands.function state.running.at op) (place_of stands.function state.running.at)
        (block_stands stands.function state.running.at op at_point)

    comes : Comes code machine (length (preparing stands.function op)) state stands.function (place_of stands.function state.running.at + length (preparing stands.function op)) (prepared stands.function state.running op)
    comes = comes_prepared code most fits state machine stands.function (place_of stands.function state.running.at) stands.at op at_point whole.0

    ready : Ready state machine op
    ready = record {
      function = stands.function;
      later = comes.later;
      at = place_of stands.function state.running.at + length (preparing stands.function op);
      stands = comes.stands;
      there = whole.1;
      behind =
          omega (arith, length-append (preparing stands.function op) (finishing (place_of stands.function) stands.function state.running.at op), place_behind stands.function state.running.at op at_point);
      begins = refl;
      named = ((fits.functions state.running.owner stands.function stands.at.is).points state.running.at op at_point).0;
      is_at = at_point;
    }

    -- what is left is to do it
    pub point_follows : ((r : Ready state machine op) → Answers code (finishing_steps most) r.later (execute code op state)) → PointFollows code most state machine op
    unfolding comes ready
    point_follows does =
        let costs = point_costs stands.function most op ((fits.functions state.running.owner stands.function stands.at.is).points state.running.at op at_point).1 in
        record {
          prepared = length (preparing stands.function op);
          ready = comes.later;
          enough = costs.0;
          few = costs.1;
          leads = comes.leads;
          quiet = comes.stands.rest.trace ∙ sym stands.at.rest.trace;
          does = does ready;
        }

  -- ---- states that differ in what is beside the activations

  pub changed : (state : P.State) (machine : M.State) (function : Function) (place : ℕ) (operands : List ℕ) (stands : StandsAt code state machine function place operands)
      (globals : List ℕ) (pools : Pools) (placed input : List ℕ) (trace : List PoolEvent) (later : M.State) (at : ℕ) (left : List ℕ) → length globals ≡ length state.globals
      → later.activations ≡ activation_at state.running at left stands.bytes ∷ stands.callers → RestStands (record state { globals = globals; pools = pools; placed = placed; input = input; trace = trace }) later
      → StandsAt code (record state { globals = globals; pools = pools; placed = placed; input = input; trace = trace }) later function at left
  changed state machine function place operands stands globals pools placed input trace later at left long activations rest = record {
    bytes = stands.bytes;
    callers = stands.callers;
    is = stands.is;
    activations = activations;
    frame = stands.frame;
    waiting = stands.waiting;
    lie = record { stacked = stands.lie.stacked; low = stands.lie.low; depth = stands.lie.depth; globals = omega (arith, long, stands.lie.globals) };
    rest = rest;
  }

  pub answers_from : (k few : ℕ) (machine middle : M.State) (move : Move P.State) → Leads (M.act (emitted code)) machine k middle → Answers code few middle move → Answers code (k + few) machine move
  answers_from k few machine middle _ leads (goes next later taken low high more stands paid) =
      goes next later (k + taken) (omega (arith, low)) (omega (arith, high)) (leads_compose (M.act (emitted code)) machine middle later k taken (k + taken) refl leads more) stands paid
  answers_from k few machine middle _ leads (ends final last before later taken high more halts same kind) =
      ends final last before later (k + taken) (omega (arith, high)) (leads_compose (M.act (emitted code)) machine middle before k taken (k + taken) refl leads more) halts same kind
  answers_from k few machine middle _ leads (traps kind last) = traps kind last

  same_next : (input : List ℕ) → M.after_next input ≡ after_next input
  same_next [] = refl
  same_next (byte ∷ input) = refl

  -- ---- registers

  pub edge_short : (function : Function) (from to : ℕ) (state : P.State) (machine : M.State) (place : ℕ) (operands : List ℕ) → StandsAt code state machine function place operands → length (edge_code function from to) ≤ 3 * most
  edge_short function from to state machine place operands stands =
      omega (arith, three_each function (actions_from function.edges from to), ((function_fits code most fits state machine function place operands stands).edges from to).1)

  pub keeps : (state : P.State) (machine : M.State) (function : Function) (place : ℕ) (to : Register) (word : ℕ) (stands : StandsAt code state machine function place (word ∷ place_in function state.running to ∷ []))
      → HasRegister function.frame to → StandsIn (function_code function) place (keeping function state.running.at) → place + length (keeping function state.running.at) ≡ place_of function (suc state.running.at)
      → Answers code (2 + 3 * most) machine (P.write code to word state)
  keeps state machine function place to word stands has there is =
      answers_by code (2 + 3 * most) (length (keeping function state.running.at)) machine (P.write code to word state) (keeps_word code most fits state machine function place to word stands has there is) (omega arith)
      (omega (arith, edge_short function state.running.at (suc state.running.at) state machine place (word ∷ place_in function state.running to ∷ []) stands))

  -- an answer within more steps
  pub within : (few many : ℕ) (machine : M.State) (move : Move P.State) → few ≤ many → Answers code few machine move → Answers code many machine move
  within few many machine _ le (goes next later taken low high leads stands paid) = goes next later taken low (omega (arith, high, le)) leads stands paid
  within few many machine _ le (ends final last before later taken high leads halts same kind) = ends final last before later taken (omega (arith, high, le)) leads halts same kind
  within few many machine _ le (traps kind last) = traps kind last

  -- some steps, and what is done with pools on the way to the point behind
  pub goes_behind : (k many : ℕ) (next : P.State) (machine after : M.State) (function : Function) (place from : ℕ) → 1 ≤ k → k + 3 * most ≤ many → Leads (M.act (emitted code)) machine k after
      → StandsAt code next after function place [] → next.running.at ≡ from → StandsIn (function_code function) place (way_on function from) → place + length (way_on function from) ≡ place_of function (suc from)
      → Answers code many machine (P.go_on code next)
  goes_behind k many next machine after function place from low high leads stands is there behind =
      let on : Continues code after (length (way_on function next.running.at)) (P.go_on code next) =
      falls code most fits next after function place (suc next.running.at) stands (subst (λ f. StandsIn (function_code function) place (way_on function f)) (sym is) there)
      (subst (λ f. place + length (way_on function f) ≡ place_of function (suc f)) (sym is) behind) in
      answers_by code many (k + length (way_on function next.running.at)) machine (P.go_on code next)
      (continues_from code machine after k (length (way_on function next.running.at)) (k + length (way_on function next.running.at)) (P.go_on code next) refl leads on) (omega (arith, low))
      (omega (arith, high, edge_short function next.running.at (suc next.running.at) next after place [] stands))

  -- the points that do no more than write a register
  keeps_point : (state : P.State) (machine : M.State) (function : Function) (place : ℕ) (to : Register) (word : ℕ) → StandsAt code state machine function place (word ∷ place_in function state.running to ∷ [])
      → HasRegister function.frame to → StandsIn (function_code function) place (keeping function state.running.at) → place + length (keeping function state.running.at) ≡ place_of function (suc state.running.at)
      → Answers code (finishing_steps most) machine (P.write code to word state)
  keeps_point state machine function place to word stands has there is = within (2 + 3 * most) (finishing_steps most) machine (P.write code to word state) (omega arith) (keeps state machine function place to word stands has there is)

  module _ (state : P.State) (machine : M.State) (stands : Stands code state machine) where
    abbrev IsAt : Op → Type 0
    IsAt op = slice_get (P.points_of (P.function_of code state.running.owner)) state.running.at ≡ Some op

    pub assign : (to : Register) (tree : Tree) → IsAt (O.Assign to tree) → PointFollows code most state machine (O.Assign to tree)
    assign to tree is = point_follows state machine stands (O.Assign to tree) is (λ r. keeps_point state r.later r.function r.at to (word_in state.running.words tree) r.stands r.named.0 r.there r.behind)

    pub null : (to : Register) → IsAt (O.Null to) → PointFollows code most state machine (O.Null to)
    null to is = point_follows state machine stands (O.Null to) is (λ r. keeps_point state r.later r.function r.at to 0 r.stands r.named r.there r.behind)

    pub function_address : (to : Register) (number : ℕ) → IsAt (O.FunctionAddress to number) → PointFollows code most state machine (O.FunctionAddress to number)
    function_address to number is = point_follows state machine stands (O.FunctionAddress to number) is (λ r. keeps_point state r.later r.function r.at to _ r.stands r.named r.there r.behind)

    pub copy : (to from : Register) → IsAt (O.Copy to from) → PointFollows code most state machine (O.Copy to from)
    copy to from is = point_follows state machine stands (O.Copy to from) is (λ r. keeps_point state r.later r.function r.at to _ r.stands r.named.0 r.there r.behind)

    pub test : (to pointer : Register) → IsAt (O.Test to pointer) → PointFollows code most state machine (O.Test to pointer)
    test to pointer is = point_follows state machine stands (O.Test to pointer) is (λ r. keeps_point state r.later r.function r.at to _ r.stands r.named.0 r.there r.behind)

    pub move : (to pointer : Register) (size : ℕ) (is_minus : Bool) (number : Tree) → IsAt (O.Move to pointer size is_minus number) → PointFollows code most state machine (O.Move to pointer size is_minus number)
    move to pointer size is_minus number is =
        point_follows state machine stands (O.Move to pointer size is_minus number) is (λ r. keeps_point state r.later r.function r.at to _ r.stands r.named.0 r.there r.behind)

    pub difference : (to : Register) (size : ℕ) (left right : Register) → IsAt (O.Difference to size left right) → PointFollows code most state machine (O.Difference to size left right)
    difference to size left right is =
        point_follows state machine stands (O.Difference to size left right) is (λ r. keeps_point state r.later r.function r.at to _ r.stands r.named.0 r.there r.behind)

    pub compare_pointers : (to : Register) (relation : _) (left right : Register) → IsAt (O.ComparePointers to relation left right) → PointFollows code most state machine (O.ComparePointers to relation left right)
    compare_pointers to relation left right is =
        point_follows state machine stands (O.ComparePointers to relation left right) is (λ r. keeps_point state r.later r.function r.at to _ r.stands r.named.0 r.there r.behind)

    pub address_of : (to : Register) (path : O.Path) → IsAt (O.AddressOf to path) → PointFollows code most state machine (O.AddressOf to path)
    address_of to path is = point_follows state machine stands (O.AddressOf to path) is (λ r. keeps_point state r.later r.function r.at to _ r.stands r.named.0 r.there r.behind)

    pub reserved : IsAt O.Reserved → PointFollows code most state machine O.Reserved
    reserved is = point_follows state machine stands O.Reserved is (λ r. traps traps.Reached state)

    -- ---- other points

    pub jump : (to : ℕ) → IsAt (O.Jump to) → PointFollows code most state machine (O.Jump to)
    jump to is =
        point_follows state machine stands (O.Jump to) is (λ r.
        answers_by code (finishing_steps most) (length (edge_code r.function state.running.at to) + 1) r.later (go_to code to state) (jumps code most fits state r.later r.function r.at to r.stands r.there) (omega arith)
        (omega (arith, edge_short r.function state.running.at to state r.later r.at [] r.stands)))

    pub exit : (status : Tree) → IsAt (O.Exit status) → PointFollows code most state machine (O.Exit status)
    exit status is =
        point_follows state machine stands (O.Exit status) is (λ r.
        let word = word_in state.running.words status in
        let last = machine_at code most fits state r.later r.function r.at (word ∷ []) r.stands r.at (word ∷ []) in
        ends (Ended (word % 256)) state r.later last 0 (omega arith) (here r.later) (performs code most fits state r.later r.function r.at (word ∷ []) r.stands instrs.Exit r.there.0) r.stands.rest.trace (inl tt))

    -- ---- input and output

    pub get_char : (site : ℕ) → IsAt (O.GetChar site) → PointFollows code most state machine (O.GetChar site)
    get_char site is = point_follows state machine stands (O.GetChar site) is (λ r. got site r)
      where
        got : (site : ℕ) (r : Ready state machine (O.GetChar site)) → Answers code (finishing_steps most) r.later (execute code (O.GetChar site) state)
        got site r =
            let here = place_in r.function state.running (R.Call site) ∷ [] in
            let next = record state { input = after_next state.input } in
            let word = input_word r.later.input in
            let canon = machine_at code most fits state r.later r.function r.at here r.stands r.at here in
            let after = record r.later { activations = activation_at state.running (r.at + 1) (word ∷ here) r.stands.bytes ∷ r.stands.callers; input = M.after_next r.later.input } in
            let word_is : word ≡ input_word state.input = ap input_word r.stands.rest.input in
            let stand : StandsAt code next after r.function (r.at + 1) (input_word state.input ∷ here) = changed state r.later r.function r.at here r.stands state.globals state.pools state.placed (after_next state.input) state.trace after (r.at + 1) (input_word state.input ∷ here) refl
            (ap (λ w. activation_at state.running (r.at + 1) (w ∷ here) r.stands.bytes ∷ r.stands.callers) word_is) (record {
              globals = r.stands.rest.globals;
              pools = r.stands.rest.pools;
              placed = r.stands.rest.placed;
              told = r.stands.rest.told;
              input = ap M.after_next r.stands.rest.input ∙ same_next state.input;
              trace = r.stands.rest.trace;
            }) in
            let step : M.act (emitted code) r.later ≡ To after = performs code most fits state r.later r.function r.at here r.stands instrs.GetChar r.there.0
            ∙ ap (λ b. if b then To after else M.trap traps.StackFull canon) (lt-ltb 1 (height_of r.function) (omega arith)) in
            within (1 + (2 + 3 * most)) (finishing_steps most) r.later (execute code (O.GetChar site) state) (omega arith)
            (answers_from 1 (2 + 3 * most) r.later after (execute code (O.GetChar site) state) (one_step (M.act (emitted code)) r.later after step)
            (keeps next after r.function (r.at + 1) (R.Call site) (input_word state.input) stand r.named r.there.1 (omega (arith, r.behind))))

    pub put_char : (site : ℕ) (value : Tree) → IsAt (O.PutChar site value) → PointFollows code most state machine (O.PutChar site value)
    put_char site value is = point_follows state machine stands (O.PutChar site value) is (λ r. put site value r)
      where
        put : (site : ℕ) (value : Tree) (r : Ready state machine (O.PutChar site value)) → Answers code (finishing_steps most) r.later (execute code (O.PutChar site value) state)
        put site value r =
            let word = word_in state.running.words value in
            let here = place_in r.function state.running (R.Call site) ∷ [] in
            let event = Same (Wrote (word % 256)) ∷ [] in
            let next = P.emit event state in
            let after = record r.later { activations = activation_at state.running (r.at + 1) (word % 256 ∷ here) r.stands.bytes ∷ r.stands.callers; trace = r.later.trace ++ Output (word % 256) ∷ [] } in
            let stand : StandsAt code next after r.function (r.at + 1) (word % 256 ∷ here) = changed state r.later r.function r.at (word ∷ here) r.stands state.globals state.pools state.placed state.input (state.trace ++ event) after (r.at + 1) (word % 256 ∷ here) refl refl (record {
              globals = r.stands.rest.globals;
              pools = r.stands.rest.pools;
              placed = r.stands.rest.placed;
              told = r.stands.rest.told ∙ sym (append-nil (told state.trace)) ∙ sym (told_more state.trace event);
              input = r.stands.rest.input;
              trace = ap (λ t. t ++ Output (word % 256) ∷ []) r.stands.rest.trace ∙ sym (seen_more state.trace event);
            }) in
            within (1 + (2 + 3 * most)) (finishing_steps most) r.later (execute code (O.PutChar site value) state) (omega arith)
            (answers_from 1 (2 + 3 * most) r.later after (execute code (O.PutChar site value) state)
            (one_step (M.act (emitted code)) r.later after (performs code most fits state r.later r.function r.at (word ∷ here) r.stands instrs.PutChar r.there.0))
            (keeps next after r.function (r.at + 1) (R.Call site) (word % 256) stand r.named.0 r.there.1 (omega (arith, r.behind))))
