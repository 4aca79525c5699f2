-- What is done with pools on the way from a point to another.
use Rattle.std.proofs.Common.{◌≡◌, ℕ, suc, ◌+◌, ◌*◌, ◌<◌, ◌≤◌, Bool, true, false, List, [], ◌∷◌, ◌++◌, Option, Some, None, length, refl, sym, ap, ◌∙◌, subst, arith, append-nil, length-append}
use Rattle.std.specs.Prelude.{slice_get, if◌then◌else◌}
use Rattle.std.specs.List.{AllByRecursion}
use Rattle.std.proofs.lemmas.Bool.{lt-ltb}
use Rattle.run_theory.specs.declared.ends.TrapKind.{TrapKind}
use Rattle.run_theory.specs.declared.ends.TrapKind.TheVariants as traps
use Rattle.run_theory.specs.Runs.{Trapped, Move, To, Halt, Leads}
use Rattle.run_theory.proofs.Machines.{one_step, leads_compose}
use Rattle.slab_space.specs.declared.kind.PoolKind.{PoolKind}
use Rattle.slab_space.specs.Pools.{init_step, destroy_step, lives_of}
use Rattle.pool_isa.specs.declared.instr.Instr.TheVariants as instrs
use Rattle.pool_isa.specs.Machine as M
use Rattle.tac_ir.specs.Events.{seen}
use Rattle.pool_ir.specs.Code.{Action, Make, Destroy, Function, PoolCode}
use Rattle.pool_ir.specs.Frames.{word_of_descriptor}
use Rattle.pool_ir.specs.States as P
use Rattle.pool_ir.specs.States.{Opened, Closed, same, with_descriptor}
use Rattle.stack_code.specs.Emitting.{descriptor_code, action_code, actions_code, height_of, function_code, emitted_function, emitted}
use Rattle.stack_code.specs.Standing.{HasDescriptor, activation_at, StandsAt}
use Rattle.stack_code.specs.Fitting.{ActionFits, CodeFits}
use Rattle.stack_code.proofs.Turns.{StandsIn, stands_split, turns_local}
use Rattle.stack_code.proofs.PoolStack.Trees.{descriptor_pushes}
use Rattle.stack_code.proofs.Told.{seen_more, told_more}
use Rattle.stack_code.proofs.Steps.{Comes, comes_here, comes_then, top, in_image, comes_by, performs, words_stand, descriptor_stored}

module _ (code : PoolCode) (most : ℕ) (fits : CodeFits most code) where
  -- ---- a pool is made

  with_pool : ℕ → PoolKind → P.State → P.State
  with_pool number kind state = P.emit (Opened (suc (length state.pools.pools)) number ∷ []) (record state { pools = init_step state.pools kind })

  made : (number : ℕ) (kind : PoolKind) (state : P.State) (machine : M.State) (function : Function) (place : ℕ) (operands : List ℕ) (stands : StandsAt code state machine function place operands)
      → slice_get code.kinds number ≡ Some kind → length operands < height_of function → slice_get (function_code function) place ≡ Some (instrs.PoolInit number)
      → Comes code machine 1 (with_pool number kind state) function (place + 1) (suc (length state.pools.pools) ∷ operands)
  unfolding with_pool
  made number kind state machine function place operands stands has low there =
      let before = top code most fits state machine function place operands stands place operands in
      let canon = record machine { activations = before ∷ stands.callers } in
      let pool = suc (length machine.heap.pools.pools) in
      let pool_is : pool ≡ suc (length state.pools.pools) = ap (λ p. suc (length p.pools)) stands.rest.pools in
      let later = record machine {
        activations = activation_at state.running (place + 1) (pool ∷ operands) stands.bytes ∷ stands.callers;
        heap = M.with_new_pool (M.site_of before) kind machine.heap;
        history = record machine.history { pool_events = machine.history.pool_events ++ M.Made number ∷ [] };
      } in
      record {
        later = later;
        leads = one_step (M.act (emitted code)) machine later (
            performs code most fits state machine function place operands stands (instrs.PoolInit number) there
            ∙ ap (λ k. M.makes k number (emitted_function function) before stands.callers canon) has
            ∙ ap (λ b. if b then To later else M.trap traps.StackFull canon) (lt-ltb (length operands) (height_of function) low)
            );
        stands = record {
          bytes = stands.bytes;
          callers = stands.callers;
          is = stands.is;
          activations = ap (λ p. activation_at state.running (place + 1) (p ∷ operands) stands.bytes ∷ stands.callers) pool_is;
          frame = stands.frame;
          waiting = stands.waiting;
          lie = record { stacked = stands.lie.stacked; low = stands.lie.low; depth = stands.lie.depth; globals = stands.lie.globals };
          rest = record {
            globals = stands.rest.globals;
            pools = ap (λ p. init_step p kind) stands.rest.pools;
            placed = stands.rest.placed;
            told = ap (λ t. t ++ M.Made number ∷ []) stands.rest.told ∙ sym (told_more state.trace (Opened (suc (length state.pools.pools)) number ∷ []));
            input = stands.rest.input;
            trace = stands.rest.trace ∙ sym (append-nil (seen (same state.trace))) ∙ sym (seen_more state.trace (Opened (suc (length state.pools.pools)) number ∷ []));
          };
        };
      }

  opened : ℕ → ℕ → PoolKind → P.State → P.State
  opened descriptor number kind state =
      let pool = suc (length state.pools.pools) in
      P.emit (Opened pool number ∷ []) (record state { running = record state.running { descriptors = with_descriptor descriptor pool state.running.descriptors }; pools = init_step state.pools kind })

  make_comes : (descriptor number : ℕ) (kind : PoolKind) (state : P.State) (machine : M.State) (function : Function) (place : ℕ) (operands : List ℕ) (stands : StandsAt code state machine function place operands)
      → slice_get code.kinds number ≡ Some kind → HasDescriptor function.frame descriptor → length operands + 2 ≤ height_of function → StandsIn (function_code function) place (action_code function (Make descriptor number))
      → Comes code machine 3 (opened descriptor number kind state) function (place + 3) operands
  unfolding with_pool opened
  make_comes descriptor number kind state machine function place operands stands has own low there =
      let word = word_of_descriptor function descriptor in
      let address = state.running.start + 8 * word in
      let pool = suc (length state.pools.pools) in
      let stand = words_stand code most fits state machine function place operands stands in
      let one = comes_by code most fits state machine function place operands stands (instrs.Local (8 * word) ∷ []) (address ∷ operands)
      (turns_local (emitted code) (emitted_function function) (top code most fits state machine function place operands stands 0 []) stands.callers machine (in_image code most fits state machine function place operands stands)
      (8 * word) operands (omega (arith, low)) (omega (arith, stand.near, stand.inside_too descriptor own))) (there.0, tt) in
      let two = made number kind state one.later function (place + 1) (address ∷ operands) one.stands has (omega (arith, low)) there.1.0 in
      let three = descriptor_stored code most fits (with_pool number kind state) two.later function (place + 1 + 1) pool operands descriptor two.stands own there.1.1.0 in
      let all = comes_then code machine 1 2 3 state (opened descriptor number kind state) function function (place + 1) (place + 1 + 1 + 1) (address ∷ operands) operands refl one
      (comes_then code one.later 1 1 2 (with_pool number kind state) (opened descriptor number kind state) function function (place + 1 + 1) (place + 1 + 1 + 1) (pool ∷ address ∷ operands) operands refl two three) in
      subst (λ p. Comes code machine 3 (opened descriptor number kind state) function p operands) (omega arith) all

  -- ---- a pool is destroyed

  closed : ℕ → P.State → P.State
  closed pool state = P.emit (Closed pool ∷ []) (record state { pools = destroy_step state.pools pool })

  destroyed : (pool : ℕ) (state : P.State) (machine : M.State) (function : Function) (place : ℕ) (operands : List ℕ) (stands : StandsAt code state machine function place (pool ∷ operands))
      → lives_of state.pools pool ≡ true → slice_get (function_code function) place ≡ Some instrs.PoolDestroy → Comes code machine 1 (closed pool state) function (place + 1) operands
  unfolding closed
  destroyed pool state machine function place operands stands lives there =
      let before = top code most fits state machine function place (pool ∷ operands) stands place (pool ∷ operands) in
      let canon = record machine { activations = before ∷ stands.callers } in
      let later = record machine {
        activations = activation_at state.running (place + 1) operands stands.bytes ∷ stands.callers;
        heap = M.without_pool pool machine.heap;
        history = record machine.history { pool_events = machine.history.pool_events ++ M.Destroyed pool ∷ [] };
      } in
      record {
        later = later;
        leads = one_step (M.act (emitted code)) machine later (
            performs code most fits state machine function place (pool ∷ operands) stands instrs.PoolDestroy there
            ∙ ap (λ b. if b then To later else M.trap traps.BadPool canon) (ap (λ p. lives_of p pool) stands.rest.pools ∙ lives)
            );
        stands = record {
          bytes = stands.bytes;
          callers = stands.callers;
          is = stands.is;
          activations = refl;
          frame = stands.frame;
          waiting = stands.waiting;
          lie = record { stacked = stands.lie.stacked; low = stands.lie.low; depth = stands.lie.depth; globals = stands.lie.globals };
          rest = record {
            globals = stands.rest.globals;
            pools = ap (λ p. destroy_step p pool) stands.rest.pools;
            placed = stands.rest.placed;
            told = ap (λ t. t ++ M.Destroyed pool ∷ []) stands.rest.told ∙ sym (told_more state.trace (Closed pool ∷ []));
            input = stands.rest.input;
            trace = stands.rest.trace ∙ sym (append-nil (seen (same state.trace))) ∙ sym (seen_more state.trace (Closed pool ∷ []));
          };
        };
      }

  destroy_comes : (descriptor : ℕ) (state : P.State) (machine : M.State) (function : Function) (place : ℕ) (operands : List ℕ) (stands : StandsAt code state machine function place operands)
      → lives_of state.pools (state.running.descriptors descriptor) ≡ true → HasDescriptor function.frame descriptor → length operands + 2 ≤ height_of function
      → StandsIn (function_code function) place (action_code function (Destroy descriptor)) → Comes code machine 3 (closed (state.running.descriptors descriptor) state) function (place + 3) operands
  destroy_comes descriptor state machine function place operands stands lives own low there =
      let pool = state.running.descriptors descriptor in
      let parts = stands_split (function_code function) (descriptor_code function descriptor) (instrs.PoolDestroy ∷ []) place there in
      let one = comes_by code most fits state machine function place operands stands (descriptor_code function descriptor) (pool ∷ operands)
      (descriptor_pushes (emitted code) (emitted_function function) (top code most fits state machine function place operands stands 0 []) stands.callers machine (in_image code most fits state machine function place operands stands)
      function state.running (words_stand code most fits state machine function place operands stands) descriptor operands own (omega (arith, low))) parts.0 in
      let two = destroyed pool state one.later function (place + 2) operands one.stands lives parts.1.0 in
      subst (λ p. Comes code machine 3 (closed pool state) function p operands) (omega arith)
      (comes_then code machine 2 1 3 state (closed pool state) function function (place + 2) (place + 2 + 1) (pool ∷ operands) operands refl one two)

  -- ---- actions in a row

  -- what follows goes on from a state for which the machine's stands, or the run is trapped
  pub data Acted (actions : List Action) (state : P.State) (machine : M.State) (function : Function) (place : ℕ) (operands : List ℕ) : Type 0 where
    acted : (later : P.State) → ((next : P.State → Move P.State) → P.acts code actions state next ≡ next later) → (later.running.at ≡ state.running.at) × (later.paid ≡ state.paid)
        → Comes code machine (length (actions_code function actions)) later function (place + length (actions_code function actions)) operands → Acted actions state machine function place operands
    stuck : (kind : TrapKind) (last : P.State) → ((next : P.State → Move P.State) → P.acts code actions state next ≡ Halt (Trapped kind) last) → Acted actions state machine function place operands

  one_more : (first : Action) (others : List Action) (state between : P.State) (machine middle : M.State) (function : Function) (place : ℕ) (operands : List ℕ)
      → ((next : P.State → Move P.State) → P.acts code (first ∷ others) state next ≡ P.acts code others between next) → Leads (M.act (emitted code)) machine (length (action_code function first)) middle
      → (between.running.at ≡ state.running.at) × (between.paid ≡ state.paid) → Acted others between middle function (place + length (action_code function first)) operands → Acted (first ∷ others) state machine function place operands
  one_more first others state between machine middle function place operands same leads kept (acted later rest at comes) =
      let long = length-append (action_code function first) (actions_code function others) in
      acted later (λ next. same next ∙ rest next) (at.0 ∙ kept.0, at.1 ∙ kept.1) (record {
        later = comes.later;
        leads = leads_compose (M.act (emitted code)) machine middle comes.later (length (action_code function first)) (length (actions_code function others)) (length (actions_code function (first ∷ others))) long leads comes.leads;
        stands = subst (λ p. StandsAt code later comes.later function p operands) (omega (arith, long)) comes.stands;
      })
  one_more first others state between machine middle function place operands same leads kept (stuck kind last rest) = stuck kind last (λ next. same next ∙ rest next)

  pub acts_do : (actions : List Action) (state : P.State) (machine : M.State) (function : Function) (place : ℕ) (operands : List ℕ) → AllByRecursion (ActionFits function.frame) actions
      → StandsAt code state machine function place operands → length operands + 2 ≤ height_of function → StandsIn (function_code function) place (actions_code function actions)
      → Acted actions state machine function place operands
  unfolding opened closed
  acts_do [] state machine function place operands all stands low there =
      acted state (λ next. refl) (refl, refl) (subst (λ p. Comes code machine 0 state function p operands) (omega arith) (comes_here code machine state function place operands stands))
  acts_do (Make descriptor number ∷ others) state machine function place operands all stands low there =
      let parts = stands_split (function_code function) (action_code function (Make descriptor number)) (actions_code function others) place there in
      by (slice_get code.kinds number) refl (λ kind has.
      let comes = make_comes descriptor number kind state machine function place operands stands has all.0 low parts.0 in
      one_more (Make descriptor number) others state (opened descriptor number kind state) machine comes.later function place operands (going kind has) comes.leads (refl, refl)
      (acts_do others (opened descriptor number kind state) comes.later function (place + 3) operands all.1 comes.stands low parts.1))
    where
      going : (kind : PoolKind) → slice_get code.kinds number ≡ Some kind → (next : P.State → Move P.State)
          → P.acts code (Make descriptor number ∷ others) state next ≡ P.acts code others (opened descriptor number kind state) next
      going kind has next = ap (λ k. P.opens descriptor number k state (λ later. P.acts code others later next)) has

      by : (kind : Option PoolKind) → slice_get code.kinds number ≡ kind
          → ((kind : PoolKind) → slice_get code.kinds number ≡ Some kind → Acted (Make descriptor number ∷ others) state machine function place operands)
          → Acted (Make descriptor number ∷ others) state machine function place operands
      by None has go = stuck traps.Reached state (λ next. ap (λ k. P.opens descriptor number k state (λ later. P.acts code others later next)) has)
      by (Some kind) has go = go kind has
  acts_do (Destroy descriptor ∷ others) state machine function place operands all stands low there =
      let pool = state.running.descriptors descriptor in
      let parts = stands_split (function_code function) (action_code function (Destroy descriptor)) (actions_code function others) place there in
      by (lives_of state.pools pool) refl (λ lives.
      let comes = destroy_comes descriptor state machine function place operands stands lives all.0 low parts.0 in
      one_more (Destroy descriptor) others state (closed pool state) machine comes.later function place operands (going lives) comes.leads (refl, refl)
      (acts_do others (closed pool state) comes.later function (place + 3) operands all.1 comes.stands low parts.1))
    where
      going : lives_of state.pools (state.running.descriptors descriptor) ≡ true → (next : P.State → Move P.State)
          → P.acts code (Destroy descriptor ∷ others) state next ≡ P.acts code others (closed (state.running.descriptors descriptor) state) next
      going lives next =
          let pool = state.running.descriptors descriptor in
          ap (λ b. if b then P.acts code others (P.emit (Closed pool ∷ []) (record state { pools = destroy_step state.pools pool })) next else P.trap traps.BadPool state) lives

      by : (lives : Bool) → lives_of state.pools (state.running.descriptors descriptor) ≡ lives
          → (lives_of state.pools (state.running.descriptors descriptor) ≡ true → Acted (Destroy descriptor ∷ others) state machine function place operands)
          → Acted (Destroy descriptor ∷ others) state machine function place operands
      by true lives go = go lives
      by false lives go =
          stuck traps.BadPool state (λ next.
          let pool = state.running.descriptors descriptor in
          ap (λ b. if b then P.acts code others (P.emit (Closed pool ∷ []) (record state { pools = destroy_step state.pools pool })) next else P.trap traps.BadPool state) lives)
