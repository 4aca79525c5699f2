-- Points that allocate and free.
use Rattle.std.proofs.Common.{◌≡◌, ℕ, zero, suc, ◌+◌, ◌*◌, ◌==◌, inr, Bool, true, false, List, [], ◌∷◌, ◌++◌, Option, Some, None, length, refl, sym, ap, ap₂, ◌∙◌, subst, arith}
use Rattle.std.specs.Prelude.{slice_get, if◌then◌else◌}
use Rattle.std.proofs.lemmas.Bool.{ne_eqb}
use Rattle.run_theory.specs.declared.ends.TrapKind.TheVariants as traps
use Rattle.run_theory.specs.Runs.{Event, Final, HeapExhausted, IndexExhausted, IsResourceEnd, Move, To, Halt, Allocated, Freed}
use Rattle.run_theory.specs.Runs
use Rattle.run_theory.proofs.Machines.{one_step}
use Rattle.slab_space.specs.PoolSteps.{Allocation, placed, index_exhausted, heap_exhausted}
use Rattle.slab_space.specs.Pools.{Pools, pool_at, alloc_step, free_step, lives_of}
use Rattle.pool_isa.specs.declared.instr.Instr.TheVariants as instrs
use Rattle.pool_isa.specs.Machine as M
use Rattle.pool_isa.specs.Machine.{fits_pool, number_of}
use Rattle.tac_ir.specs.declared.register.Register.{Register}
use Rattle.tac_ir.specs.declared.register.Register.TheVariants as R
use Rattle.tac_ir.specs.Events.{Made, Released}
use Rattle.tac_ir.specs.Code.{Tree}
use Rattle.pool_ir.specs.Code.{Op, Function, PoolCode}
use Rattle.pool_ir.specs.Code as O
use Rattle.pool_ir.specs.Words.{word_in}
use Rattle.pool_ir.specs.States as P
use Rattle.pool_ir.specs.States.{Same, Placed, same}
use Rattle.pool_ir.specs.Meaning.{placed_at, allocates, frees}
use Rattle.stack_code.specs.Emitting.{keeping, way_on, place_of, function_code, emitted}
use Rattle.stack_code.specs.Standing.{HasRegister, activation_at, place_in, StandsAt, Stands}
use Rattle.stack_code.specs.Fitting.{CodeFits}
use Rattle.stack_code.specs.Following.{Answers, ends, traps, finishing_steps, PointFollows}
use Rattle.stack_code.proofs.Turns.{StandsIn}
use Rattle.stack_code.proofs.Told.{seen_more, told_more}
use Rattle.stack_code.proofs.Steps.{Comes, machine_at, stands_as, performs}
use Rattle.stack_code.proofs.PoolStack.Points.{point_follows, keeps, within, answers_from, goes_behind, changed}

-- what code with pools does with an allocation
allocates_by : PoolCode → ℕ → ℕ → ℕ → P.State → Bool → Bool → Allocation Pools → Move P.State
allocates_by code site pool bytes state false suits place = P.trap traps.BadPool state
allocates_by code site pool bytes state true false place = P.trap traps.BadSize state
allocates_by code site pool bytes state true true (placed address pools) = P.write code (R.Call site) address (placed_at site pool bytes address pools state)
allocates_by code site pool bytes state true true index_exhausted = Halt IndexExhausted state
allocates_by code site pool bytes state true true heap_exhausted = Halt HeapExhausted state

allocates_is : (code : PoolCode) (site pool bytes : ℕ) (state : P.State) (lives suits : Bool) (place : Allocation Pools) → lives_of state.pools pool ≡ lives → fits_pool (pool_at state.pools pool) bytes ≡ suits
    → alloc_step state.pools pool bytes ≡ place → allocates code site pool bytes state ≡ allocates_by code site pool bytes state lives suits place
unfolding allocates_by
allocates_is code site pool bytes state false suits place lives_is suits_is place_is = rw lives_is refl
allocates_is code site pool bytes state true false place lives_is suits_is place_is = rw lives_is (rw suits_is refl)
allocates_is code site pool bytes state true true (placed address pools) lives_is suits_is place_is = rw lives_is (rw suits_is (rw place_is refl))
allocates_is code site pool bytes state true true index_exhausted lives_is suits_is place_is = rw lives_is (rw suits_is (rw place_is refl))
allocates_is code site pool bytes state true true heap_exhausted lives_is suits_is place_is = rw lives_is (rw suits_is (rw place_is refl))

-- what it does with a free
frees_by : PoolCode → ℕ → ℕ → ℕ → P.State → Bool → Bool → Option Pools → Move P.State
frees_by code site pool address state false none later = P.trap traps.BadPool state
frees_by code site pool address state true true later = P.go_on code state
frees_by code site pool address state true false None = P.trap traps.BadFree state
frees_by code site pool address state true false (Some pools) = P.go_on code (P.emit (Same (Released site (number_of state.placed address)) ∷ []) (record state { pools = pools }))

frees_is : (code : PoolCode) (site pool address : ℕ) (state : P.State) (lives none : Bool) (later : Option Pools) → lives_of state.pools pool ≡ lives → (address == 0) ≡ none → free_step state.pools pool address ≡ later
    → frees code site pool address state ≡ frees_by code site pool address state lives none later
unfolding frees_by
frees_is code site pool address state false none later lives_is none_is later_is = rw lives_is refl
frees_is code site pool address state true true later lives_is none_is later_is = rw lives_is (rw none_is refl)
frees_is code site pool address state true false None lives_is none_is later_is = rw lives_is (rw none_is (rw later_is refl))
frees_is code site pool address state true false (Some pools) lives_is none_is later_is = rw lives_is (rw none_is (rw later_is refl))

not_zero : (n : ℕ) → (suc n == 0) ≡ false
not_zero n = ne_eqb (suc n) 0 (λ e. omega arith)

module _ (code : PoolCode) (most : ℕ) (fits : CodeFits most code) where
  -- ---- allocations

  module _ (state : P.State) (machine : M.State) (function : Function) (place site pool bytes : ℕ)
      (stands : StandsAt code state machine function place (bytes ∷ pool ∷ place_in function state.running (R.Call site) ∷ [])) (there : slice_get (function_code function) place ≡ Some instrs.PoolAlloc) where
    abbrev here : List ℕ
    here = place_in function state.running (R.Call site) ∷ []

    abbrev top : M.Activation
    top = activation_at state.running place (bytes ∷ pool ∷ here) stands.bytes

    abbrev canon : M.State
    canon = machine_at code most fits state machine function place (bytes ∷ pool ∷ here) stands place (bytes ∷ pool ∷ here)

    -- the machine asks the same
    alloc_is : (result : Allocation Pools) → lives_of state.pools pool ≡ true → fits_pool (pool_at state.pools pool) bytes ≡ true → alloc_step state.pools pool bytes ≡ result
        → M.act (emitted code) machine ≡ M.allocated result pool bytes here top stands.callers canon
    alloc_is result lives suits is =
        performs code most fits state machine function place (bytes ∷ pool ∷ here) stands instrs.PoolAlloc there
        ∙ ap (λ b. if b then M.allocates pool bytes here top stands.callers canon else M.trap traps.BadPool canon) (ap (λ p. lives_of p pool) stands.rest.pools ∙ lives)
        ∙ ap (λ b. if b then M.allocated (alloc_step machine.heap.pools pool bytes) pool bytes here top stands.callers canon else M.trap traps.BadSize canon)
        (ap (λ p. fits_pool (pool_at p pool) bytes) stands.rest.pools ∙ suits)
        ∙ ap (λ r. M.allocated r pool bytes here top stands.callers canon) (ap (λ p. alloc_step p pool bytes) stands.rest.pools ∙ is)

    alloc_ends : (final : Final) → M.act (emitted code) machine ≡ Halt final canon → IsResourceEnd final → Answers code (finishing_steps most) machine (Halt final state)
    alloc_ends final step limit = ends final state machine canon 0 (omega arith) (Runs.here machine) step stands.rest.trace (inr limit)

  placed_comes : (state : P.State) (machine : M.State) (function : Function) (place site pool bytes address : ℕ) (pools : Pools)
      (stands : StandsAt code state machine function place (bytes ∷ pool ∷ place_in function state.running (R.Call site) ∷ [])) → slice_get (function_code function) place ≡ Some instrs.PoolAlloc
      → lives_of state.pools pool ≡ true → fits_pool (pool_at state.pools pool) bytes ≡ true → alloc_step state.pools pool bytes ≡ placed address pools
      → Comes code machine 1 (placed_at site pool bytes address pools state) function (place + 1) (address ∷ place_in function state.running (R.Call site) ∷ [])
  placed_comes state machine function place site pool zero address pools stands there lives suits is =
      let own = place_in function state.running (R.Call site) ∷ [] in
      let after = machine_at code most fits state machine function place (0 ∷ pool ∷ own) stands (place + 1) (address ∷ own) in
      record {
        later = after;
        leads = one_step (M.act (emitted code)) machine after (alloc_is state machine function place site pool 0 stands there (placed address pools) lives suits is);
        stands = stands_as code most fits state machine function place (0 ∷ pool ∷ own) stands (place + 1) (address ∷ own);
      }
  placed_comes state machine function place site pool (suc more) address pools stands there lives suits is =
      let bytes = suc more in
      let own = place_in function state.running (R.Call site) ∷ [] in
      let before = bytes ∷ pool ∷ own in
      let object = suc (length machine.history.placed) in
      let named = suc (length state.placed) in
      let same_object : object ≡ named = ap (λ (l : List ℕ). suc (length l)) stands.rest.placed in
      let canonical = machine_at code most fits state machine function place before stands place before in
      let after = record machine {
        activations = activation_at state.running (place + 1) (address ∷ own) stands.bytes ∷ stands.callers;
        heap = M.placing pool pools machine.heap;
        history = record { placed = address ∷ machine.history.placed; pool_events = machine.history.pool_events ++ M.Placed object pool ∷ [] };
        trace = machine.trace ++ Allocated object bytes ∷ [];
      } in
      let events = Placed named pool ∷ Same (Made site named bytes) ∷ [] in
      record {
        later = after;
        leads = one_step (M.act (emitted code)) machine after (
            alloc_is state machine function place site pool bytes stands there (placed address pools) lives suits is
            ∙ ap (λ b. M.resumed (activation_at state.running (place + 1) (address ∷ own) stands.bytes ∷ stands.callers) (if b then canonical else record machine {
              activations = activation_at state.running place before stands.bytes ∷ stands.callers;
              heap = M.placing pool pools machine.heap;
              history = record { placed = address ∷ machine.history.placed; pool_events = machine.history.pool_events ++ M.Placed object pool ∷ [] };
              trace = machine.trace ++ Allocated object bytes ∷ [];
            })) (not_zero more)
            );
        stands = changed code most fits state machine function place before stands state.globals pools (address ∷ state.placed) state.input (state.trace ++ events) after (place + 1) (address ∷ own) refl refl (record {
          globals = stands.rest.globals;
          pools = refl;
          placed = ap (λ (l : List ℕ). address ∷ l) stands.rest.placed;
          told = ap₂ (λ (t : List M.PoolEvent) (o : ℕ). t ++ M.Placed o pool ∷ []) stands.rest.told same_object ∙ sym (told_more state.trace events);
          input = stands.rest.input;
          trace = ap₂ (λ (t : List Event) (o : ℕ). t ++ Allocated o bytes ∷ []) stands.rest.trace same_object ∙ sym (seen_more state.trace events);
        });
      }

  same_activation : (site pool bytes address : ℕ) (pools : Pools) (state : P.State) → (placed_at site pool bytes address pools state).running ≡ state.running
  same_activation site pool zero address pools state = refl
  same_activation site pool (suc bytes) address pools state = refl

  allocate_does : (state : P.State) (machine : M.State) (function : Function) (place site pool bytes : ℕ)
      (stands : StandsAt code state machine function place (bytes ∷ pool ∷ place_in function state.running (R.Call site) ∷ [])) → HasRegister function.frame (R.Call site)
      → StandsIn (function_code function) place (instrs.PoolAlloc ∷ keeping function state.running.at) → place + 1 + length (keeping function state.running.at) ≡ place_of function (suc state.running.at)
      → Answers code (finishing_steps most) machine (allocates code site pool bytes state)
  unfolding allocates_by
  allocate_does state machine function place site pool bytes stands has there behind =
      by (lives_of state.pools pool) (fits_pool (pool_at state.pools pool) bytes) (alloc_step state.pools pool bytes) refl refl refl
    where
      by : (lives suits : Bool) (result : Allocation Pools) → lives_of state.pools pool ≡ lives → fits_pool (pool_at state.pools pool) bytes ≡ suits → alloc_step state.pools pool bytes ≡ result
          → Answers code (finishing_steps most) machine (allocates code site pool bytes state)
      by false suits result lives_is suits_is result_is =
          subst (Answers code (finishing_steps most) machine) (sym (allocates_is code site pool bytes state false suits result lives_is suits_is result_is)) (traps traps.BadPool state)
      by true false result lives_is suits_is result_is =
          subst (Answers code (finishing_steps most) machine) (sym (allocates_is code site pool bytes state true false result lives_is suits_is result_is)) (traps traps.BadSize state)
      by true true index_exhausted lives_is suits_is result_is =
          subst (Answers code (finishing_steps most) machine) (sym (allocates_is code site pool bytes state true true index_exhausted lives_is suits_is result_is))
          (alloc_ends state machine function place site pool bytes stands there.0 IndexExhausted (alloc_is state machine function place site pool bytes stands there.0 index_exhausted lives_is suits_is result_is) tt)
      by true true heap_exhausted lives_is suits_is result_is =
          subst (Answers code (finishing_steps most) machine) (sym (allocates_is code site pool bytes state true true heap_exhausted lives_is suits_is result_is))
          (alloc_ends state machine function place site pool bytes stands there.0 HeapExhausted (alloc_is state machine function place site pool bytes stands there.0 heap_exhausted lives_is suits_is result_is) tt)
      by true true (placed address pools) lives_is suits_is result_is =
          let comes = placed_comes state machine function place site pool bytes address pools stands there.0 lives_is suits_is result_is in
          let next = placed_at site pool bytes address pools state in
          let same_running = same_activation site pool bytes address pools state in
          subst (Answers code (finishing_steps most) machine) (sym (allocates_is code site pool bytes state true true (placed address pools) lives_is suits_is result_is))
          (within code most fits (1 + (2 + 3 * most)) (finishing_steps most) machine (P.write code (R.Call site) address next) (omega arith)
          (answers_from code most fits 1 (2 + 3 * most) machine comes.later (P.write code (R.Call site) address next) comes.leads
          (keeps code most fits next comes.later function (place + 1) (R.Call site) address
          (subst (λ (own : P.Activation). StandsAt code next comes.later function (place + 1) (address ∷ place_in function own (R.Call site) ∷ [])) (sym same_running) comes.stands) has
          (subst (λ (own : P.Activation). StandsIn (function_code function) (place + 1) (keeping function own.at)) (sym same_running) there.1)
          (subst (λ (own : P.Activation). place + 1 + length (keeping function own.at) ≡ place_of function (suc own.at)) (sym same_running) behind))))

  -- ---- frees

  free_does : (state : P.State) (machine : M.State) (function : Function) (place site pool address : ℕ) (stands : StandsAt code state machine function place (address ∷ pool ∷ []))
      → StandsIn (function_code function) place (instrs.PoolFree ∷ way_on function state.running.at) → place + 1 + length (way_on function state.running.at) ≡ place_of function (suc state.running.at)
      → Answers code (finishing_steps most) machine (frees code site pool address state)
  unfolding frees_by
  free_does state machine function place site pool address stands there behind = by (lives_of state.pools pool) (address == 0) (free_step state.pools pool address) refl refl refl
    where
      by : (lives none : Bool) (result : Option Pools) → lives_of state.pools pool ≡ lives → (address == 0) ≡ none → free_step state.pools pool address ≡ result
          → Answers code (finishing_steps most) machine (frees code site pool address state)
      by false none result lives_is none_is result_is =
          subst (Answers code (finishing_steps most) machine) (sym (frees_is code site pool address state false none result lives_is none_is result_is)) (traps traps.BadPool state)
      by true true result lives_is none_is result_is =
          let own = activation_at state.running place (address ∷ pool ∷ []) stands.bytes in
          let canonical = machine_at code most fits state machine function place (address ∷ pool ∷ []) stands place (address ∷ pool ∷ []) in
          let after = machine_at code most fits state machine function place (address ∷ pool ∷ []) stands (place + 1) [] in
          let step : M.act (emitted code) machine ≡ To after = performs code most fits state machine function place (address ∷ pool ∷ []) stands instrs.PoolFree there.0
          ∙ ap (λ b. if b then M.frees pool address [] own stands.callers canonical else M.trap traps.BadPool canonical) (ap (λ p. lives_of p pool) stands.rest.pools ∙ lives_is)
          ∙ ap (λ b. if b then To after else M.freed (free_step machine.heap.pools pool address) address [] own stands.callers canonical) none_is in
          subst (Answers code (finishing_steps most) machine) (sym (frees_is code site pool address state true true result lives_is none_is result_is))
          (goes_behind code most fits 1 (finishing_steps most) state machine after function (place + 1) state.running.at (omega arith) (omega arith) (one_step (M.act (emitted code)) machine after step)
          (stands_as code most fits state machine function place (address ∷ pool ∷ []) stands (place + 1) []) refl there.1 behind)
      by true false None lives_is none_is result_is =
          subst (Answers code (finishing_steps most) machine) (sym (frees_is code site pool address state true false None lives_is none_is result_is)) (traps traps.BadFree state)
      by true false (Some pools) lives_is none_is result_is =
          let own = activation_at state.running place (address ∷ pool ∷ []) stands.bytes in
          let canonical = machine_at code most fits state machine function place (address ∷ pool ∷ []) stands place (address ∷ pool ∷ []) in
          let object = number_of machine.history.placed address in
          let named = number_of state.placed address in
          let same_object : object ≡ named = ap (λ (l : List ℕ). number_of l address) stands.rest.placed in
          let after = record machine {
            activations = activation_at state.running (place + 1) [] stands.bytes ∷ stands.callers;
            heap = record machine.heap { pools = pools };
            history = record machine.history { pool_events = machine.history.pool_events ++ M.Released object ∷ [] };
            trace = machine.trace ++ Freed object ∷ [];
          } in
          let events = Same (Released site named) ∷ [] in
          let step : M.act (emitted code) machine ≡ To after = performs code most fits state machine function place (address ∷ pool ∷ []) stands instrs.PoolFree there.0
          ∙ ap (λ b. if b then M.frees pool address [] own stands.callers canonical else M.trap traps.BadPool canonical) (ap (λ p. lives_of p pool) stands.rest.pools ∙ lives_is)
          ∙ ap (λ b. if b then M.resumed (activation_at state.running (place + 1) [] stands.bytes ∷ stands.callers) canonical else M.freed (free_step machine.heap.pools pool address) address [] own stands.callers canonical) none_is
          ∙ ap (λ r. M.freed r address [] own stands.callers canonical) (ap (λ p. free_step p pool address) stands.rest.pools ∙ result_is) in
          let stand = changed code most fits state machine function place (address ∷ pool ∷ []) stands state.globals pools state.placed state.input (state.trace ++ events) after (place + 1) [] refl refl (record {
            globals = stands.rest.globals;
            pools = refl;
            placed = stands.rest.placed;
            told = ap₂ (λ (t : List M.PoolEvent) (o : ℕ). t ++ M.Released o ∷ []) stands.rest.told same_object ∙ sym (told_more state.trace events);
            input = stands.rest.input;
            trace = ap₂ (λ (t : List Event) (o : ℕ). t ++ Freed o ∷ []) stands.rest.trace same_object ∙ sym (seen_more state.trace events);
          }) in
          subst (Answers code (finishing_steps most) machine) (sym (frees_is code site pool address state true false (Some pools) lives_is none_is result_is))
          (goes_behind code most fits 1 (finishing_steps most) (P.emit events (record state { pools = pools })) machine after function (place + 1) state.running.at (omega arith) (omega arith)
          (one_step (M.act (emitted code)) machine after step) stand refl there.1 behind)

  -- ---- points

  module _ (state : P.State) (machine : M.State) (stands : Stands code state machine) where
    abbrev IsAt : Op → Type 0
    IsAt op = slice_get (P.points_of (P.function_of code state.running.owner)) state.running.at ≡ Some op

    pub allocate : (site : ℕ) (size : Tree) (pool : ℕ) → IsAt (O.Allocate site size pool) → PointFollows code most state machine (O.Allocate site size pool)
    allocate site size pool is =
        point_follows code most fits state machine stands (O.Allocate site size pool) is (λ r.
        allocate_does state r.later r.function r.at site (state.running.descriptors pool) (word_in state.running.words size) r.stands r.named.0 r.there (omega (arith, r.behind)))

    pub free : (site : ℕ) (pointer : Register) (pool : ℕ) → IsAt (O.Free site pointer pool) → PointFollows code most state machine (O.Free site pointer pool)
    free site pointer pool is =
        point_follows code most fits state machine stands (O.Free site pointer pool) is (λ r.
        free_does state r.later r.function r.at site (state.running.descriptors pool) (state.running.words pointer) r.stands r.there (omega (arith, r.behind)))
