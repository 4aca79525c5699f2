-- One pool serves all code: it is made at the entry of `start`, passed on at each call, and never destroyed.
use Rattle.std.proofs.Common.{◌≡◌, ℕ, zero, suc, ◌≤◌, ◌⊎◌, inl, inr, List, [], ◌∷◌, map, length, Option, Some, None, refl, sym, ap, subst, ◌∙◌}
use Rattle.std.specs.Prelude.{slice_get, option_map, unwrap_or, is_some}
use Rattle.std.proofs.lemmas.List.{length-map}
use Rattle.std.proofs.lemmas.Option.{slice_get-map, none-some}
use Rattle.run_theory.specs.Runs.{To}
use Rattle.slab_space.specs.declared.kind.PoolKind.{PoolKind}
use Rattle.slab_space.specs.declared.kind.PoolKind.TheVariants.{Mixed}
use Rattle.slab_space.specs.Pool.{Pool, IsKind, new_pool}
use Rattle.slab_space.specs.PoolSteps.{written_in}
use Rattle.slab_space.specs.Pools.{Pools, new_pools, init_step, store_step, kind_of}
use Rattle.tac_ir.specs.States as T
use Rattle.tac_ir.specs.States.{Owner, InStart, InFunction}
use Rattle.tac_ir.specs.Code.{Function, Tac}
use Rattle.pool_ir.specs.Code as C
use Rattle.pool_ir.specs.Code.{Action, FrameLayout}
use Rattle.pool_ir.specs.States as P
use Rattle.pool_ir.specs.States.{Opened, with_descriptor}
use Rattle.pool_ir.specs.Memory.{with_number}
use Rattle.pool_ir.specs.Meaning as M
use Rattle.pool_rewrite.specs.Plan.{FunctionPlan, one_pool_function, one_pool_start, one_pool}
use Rattle.pool_rewrite.specs.Rewriting.{function_of}
use Rattle.pool_rewrite.specs.Placing.{frame_of}
use Rattle.pool_simulation.specs.Regions.{LivesIn, SameCallers}
use Rattle.pool_simulation.specs.InStep.{plan_for, frame_for, greatest_frame, Fits, InStep}
use Rattle.pool_simulation.specs.Serving.{code_of, pool_for, passed_for, Takes, actions_to, actions_leaving, CanAct, SamePools, Effect, nothing, word_stored, object_placed, object_freed, caller_runs, entered, PoolStep, cost_paid, point_left, function_entered, Serving, Serves}
use Rattle.pool_simulation.specs.OnePool.{HasOnePool, AllHold, KnowsOnePool}
use Rattle.pool_simulation.proofs.PoolObjects.{store_is}
use Rattle.pool_simulation.proofs.Ranges.{Wrote, wrote}
use Rattle.pool_simulation.proofs.Allocations.{pool_of_kind, placed_object, freed_object, takes_suits}
use Rattle.pool_simulation.proofs.PlannedCode.{frame_is, owner_alike, each_plan, no_edge_acts}
use Rattle.pool_simulation.proofs.OnlyPool.{only_kind, only_lives, only_made, one_again, placed_made, freed_made}

-- ---- the plan

module _ (tac : Tac) where
  pub one_planned : length (one_pool tac).functions ≡ length tac.functions
  one_planned = length-map tac.functions one_pool_function

  each : (holds : FunctionPlan → Type 0) → holds one_pool_start → ((function : Function) → holds (one_pool_function function)) → (owner : Owner) → holds (plan_for (one_pool tac) owner)
  each holds of_start of_each owner = each_plan tac (Mixed ∷ []) one_pool_start one_pool_function holds of_start of_each owner

  serves_one : (owner : Owner) (site : ℕ) → (plan_for (one_pool tac) owner).pool_at site ≡ 0
  serves_one owner site = each (λ (plan : FunctionPlan). plan.pool_at site ≡ 0) refl (λ function. refl) owner

  passes_one : (owner : Owner) (site : ℕ) → (plan_for (one_pool tac) owner).passes site ≡ 0 ∷ []
  passes_one owner site = each (λ (plan : FunctionPlan). plan.passes site ≡ 0 ∷ []) refl (λ function. refl) owner

  -- no edge has actions, and no function has any at leaving; nor has one of the program at entry
  leaving_in : (plan : FunctionPlan) (found : Option Function) → plan.leaving ≡ [] → M.leaving_of (option_map (λ (function : Function). function_of tac plan function) found) ≡ []
  leaving_in plan None none = refl
  leaving_in plan (Some function) none = none

  no_actions : (owner : Owner) (from to : ℕ) → P.actions_of (P.function_of (code_of tac (one_pool tac)) owner) from to ≡ []
  no_actions owner from to = no_edge_acts tac (one_pool tac) one_planned owner from to (each (λ (plan : FunctionPlan). plan.edges ≡ []) refl (λ function. refl) owner)

  no_leaving : (owner : Owner) → M.leaving_of (P.function_of (code_of tac (one_pool tac)) owner) ≡ []
  no_leaving owner =
      ap M.leaving_of (owner_alike tac (one_pool tac) one_planned owner)
      ∙ leaving_in (plan_for (one_pool tac) owner) (T.function_of tac owner) (each (λ (plan : FunctionPlan). plan.leaving ≡ []) refl (λ function. refl) owner)

  no_entering : (number : ℕ) (function : C.Function) → slice_get (code_of tac (one_pool tac)).functions number ≡ Some function → function.entering ≡ []
  no_entering number function is =
      by (slice_get tac.functions number) refl (sym is ∙ owner_alike tac (one_pool tac) one_planned (InFunction number))
    where
      plain : (found : Option Function) → slice_get tac.functions number ≡ found → (own : Function) → found ≡ Some own → (plan_for (one_pool tac) (InFunction number)).entering ≡ []
      plain found is own same =
          ap (λ (plan : Option FunctionPlan). (unwrap_or plan one_pool_start).entering) (slice_get-map one_pool_function tac.functions number ∙ ap (option_map one_pool_function) (is ∙ same))

      by : (found : Option Function) → slice_get tac.functions number ≡ found
          → Some function ≡ option_map (λ (own : Function). function_of tac (plan_for (one_pool tac) (InFunction number)) own) found → function.entering ≡ []
      by None known e = absurd (cc)
      by (Some own) known e =
          let same : function ≡ function_of tac (plan_for (one_pool tac) (InFunction number)) own = cc in
          ap (λ (f : C.Function). f.entering) same ∙ plain (Some own) known own refl

  -- each function takes one pool
  takes_one : (number : ℕ) (function : C.Function) → slice_get (code_of tac (one_pool tac)).functions number ≡ Some function → function.taken ≡ 1
  takes_one number function is =
      by (slice_get tac.functions number) refl (sym is ∙ owner_alike tac (one_pool tac) one_planned (InFunction number))
    where
      plain : (found : Option Function) → slice_get tac.functions number ≡ found → (own : Function) → found ≡ Some own → (plan_for (one_pool tac) (InFunction number)).taken ≡ 1
      plain found is own same =
          ap (λ (plan : Option FunctionPlan). (unwrap_or plan one_pool_start).taken) (slice_get-map one_pool_function tac.functions number ∙ ap (option_map one_pool_function) (is ∙ same))

      by : (found : Option Function) → slice_get tac.functions number ≡ found
          → Some function ≡ option_map (λ (own : Function). function_of tac (plan_for (one_pool tac) (InFunction number)) own) found → function.taken ≡ 1
      by None known e = absurd (cc)
      by (Some own) known e =
          let same : function ≡ function_of tac (plan_for (one_pool tac) (InFunction number)) own = cc in
          ap (λ (f : C.Function). f.taken) same ∙ plain (Some own) known own refl

-- ---- what is known stays known

-- where there are no actions, nothing is done
nothing_acted : (code : C.PoolCode) (actions : List Action) (machine after : P.State) → actions ≡ [] → P.acts code actions machine To ≡ To after → machine ≡ after
nothing_acted code actions machine after none acted =
    let both : To machine ≡ To after = sym (ap (λ (actions : List Action). P.acts code actions machine To) none) ∙ acted in
    let same : machine ≡ after = cc in
    same

knows_same : (machine later : P.State) → SamePools machine later → KnowsOnePool machine → KnowsOnePool later
knows_same machine later same knows = record {
  pool = (knows.pool.0, ap (λ (pools : Pools). pools.pools) same.pools ∙ knows.pool.1, knows.pool.2);
  running = ap (λ (descriptors : ℕ → ℕ). descriptors 0) same.descriptors ∙ knows.running;
  callers = subst AllHold (sym same.callers) knows.callers;
}

callers_hold : (callers others : List (ℕ × P.Activation)) → SameCallers callers others → AllHold callers → AllHold others
callers_hold [] [] same hold = tt
callers_hold [] (other ∷ others) same hold = absurd same
callers_hold ((site, caller) ∷ callers) [] same hold = absurd same
callers_hold ((site, caller) ∷ callers) ((site_after, after) ∷ others) same hold =
    (ap (λ (descriptors : ℕ → ℕ). descriptors 0) same.1.descriptors ∙ hold.0, callers_hold callers others same.2 hold.1)

-- a word is stored
knows_stored : (machine later : P.State) (address size word : ℕ) → with_number machine address size word ≡ Some later → KnowsOnePool machine → KnowsOnePool later
knows_stored machine later address size word stored knows = record {
  pool = by all.pools;
  running = ap (λ (descriptors : ℕ → ℕ). descriptors 0) all.same.running.descriptors ∙ knows.running;
  callers = callers_hold machine.callers later.callers all.same.callers knows.callers;
}
  where
    all : Wrote machine address size word later
    all = wrote machine address size word later stored

    by : (later.pools ≡ machine.pools) ⊎ (store_step machine.pools address size word ≡ Some later.pools) → HasOnePool later
    by (inl same) = (knows.pool.0, ap (λ (p : Pools). p.pools) same ∙ knows.pool.1, knows.pool.2)
    by (inr done) = (
      written_in address size word knows.pool.0,
      ap (λ (p : Pools). p.pools) (store_is address size word machine.pools later.pools done) ∙ ap (map (option_map (written_in address size word))) knows.pool.1,
      knows.pool.2,
    )

module _ (tac : Tac) (slabs : ℕ) (state : T.State) (machine : P.State) (step : InStep tac (one_pool tac) slabs state machine) (knows : KnowsOnePool machine) where
  -- the pool that serves any site
  is_one : (site : ℕ) → pool_for (one_pool tac) state machine site ≡ 1
  is_one site = ap machine.running.descriptors (serves_one tac state.running.owner site) ∙ knows.running

  one_kind : (site : ℕ) → kind_of machine.pools (pool_for (one_pool tac) state machine site) ≡ Some Mixed
  one_kind site = ap (kind_of machine.pools) (is_one site) ∙ only_kind machine knows.pool

  one_takes : (site bytes : ℕ) → Takes machine.pools (pool_for (one_pool tac) state machine site) bytes
  one_takes site bytes = record { kind = Mixed; is = one_kind site; size = λ some. tt }

  one_serving : Serving tac (one_pool tac) slabs state machine
  one_serving = record {
    allocates = λ site size z at is fits. one_takes site _;
    frees = λ site pointer number at held there.
        let stands = step.allocations number there in
        record {
          object = stands.object;
          is = stands.is ∙ ap Some (sym stands.begins);
          lives = subst (λ (pool : ℕ). LivesIn machine.pools pool stands.object) (sym (is_one site)) (only_lives machine knows.pool stands.object stands.lives);
        };
    frees_null = λ site pointer at held. ap is_some (pool_of_kind machine.pools (pool_for (one_pool tac) state machine site) Mixed (one_kind site)).1;
    leaves = λ value at. subst (λ (actions : List Action). CanAct (code_of tac (one_pool tac)) state actions machine) (sym (no_leaving tac machine.running.owner)) tt;
    passes = λ site number callee arguments function at called is.
        ap (λ (passes : List ℕ). length passes) (passes_one tac state.running.owner site) ∙ sym (takes_one tac number function is);
    crosses = λ at between later is in_step effect.
        subst (λ (actions : List Action). CanAct (code_of tac (one_pool tac)) between actions later) (sym (no_actions tac later.running.owner later.running.at at)) tt;
    enters = λ site number callee arguments function words next at is found in_step.
        subst (λ (actions : List Action). CanAct (code_of tac (one_pool tac)) next actions (entered site number function words (passed_for (one_pool tac) state machine site) machine))
        (sym (no_entering tac number function found)) tt;
  }

  -- pools of which one was made, that is mixed still
  still_one : (pools : Pools) → length pools.pools ≡ length machine.pools.pools → kind_of pools 1 ≡ kind_of machine.pools 1 → (pool : Pool) × (pools.pools ≡ Some pool ∷ []) × (pool.kind ≡ Mixed)
  still_one pools made kind = one_again pools (made ∙ only_made machine knows.pool) (kind ∙ only_kind machine knows.pool)

  effect_known : (later : P.State) → Effect tac (one_pool tac) state machine later → KnowsOnePool later
  effect_known later (nothing _ same) = knows_same machine later same knows
  effect_known later (word_stored address size word stored _ is same) = knows_same stored later same (knows_stored machine stored address size word is knows)
  effect_known later (object_placed site size bytes address pools _ at some takes is same) =
      let pool = pool_for (one_pool tac) state machine site in
      let one = placed_object machine.pools pools pool bytes address step.regions.heap (takes_suits machine.pools pool bytes takes) some is in
      knows_same (record machine { pools = pools; placed = address ∷ machine.placed }) later same
      (record { pool = still_one pools (placed_made machine.pools pools pool bytes address is) (one.kinds 1); running = knows.running; callers = knows.callers })
  effect_known later (object_freed site pointer number address pools _ at held start is same) =
      let pool = pool_for (one_pool tac) state machine site in
      let one = (freed_object machine.pools pools pool address step.regions.heap is).3 in
      knows_same (record machine { pools = pools }) later same
      (record { pool = still_one pools (freed_made machine.pools pools pool address is) (one.kinds 1); running = knows.running; callers = knows.callers })
  effect_known later (caller_runs value site caller callers left _ at acted waits same) =
      let none = no_leaving tac machine.running.owner in
      let here = subst KnowsOnePool (nothing_acted (code_of tac (one_pool tac)) (actions_leaving tac (one_pool tac) machine) machine left none acted) knows in
      let hold = subst AllHold waits here.callers in
      knows_same (record left { running = caller; callers = callers }) later same (record { pool = here.pool; running = hold.0; callers = hold.1 })

  one_kept : (later : P.State) → PoolStep tac (one_pool tac) slabs state machine later → KnowsOnePool later
  one_kept later (cost_paid _ same) = knows_same machine later same knows
  one_kept later (point_left at between reached after _ is in_step effect can acted arrived) =
      let there = effect_known reached effect in
      let here = subst KnowsOnePool
      (nothing_acted (code_of tac (one_pool tac)) (actions_to tac (one_pool tac) reached at) reached after (no_actions tac reached.running.owner reached.running.at at) acted) there in
      subst KnowsOnePool (move_is _ later arrived) (record { pool = here.pool; running = here.running; callers = here.callers })
    where
      move_is : (one other : P.State) → To one ≡ To other → one ≡ other
      move_is one other e = cc
  one_kept later (function_entered site number callee arguments function words next _ at is found in_step can acted) =
      let first = entered site number function words (passed_for (one_pool tac) state machine site) machine in
      let held : M.descriptors_from (passed_for (one_pool tac) state machine site) 0 ≡ 1 =
      ap (λ (passes : List ℕ). M.descriptors_from (map (M.pool_of machine) passes) 0) (passes_one tac state.running.owner site) ∙ knows.running in
      subst KnowsOnePool (nothing_acted (code_of tac (one_pool tac)) function.entering first later (no_entering tac number function found) acted)
      (record { pool = knows.pool; running = held; callers = (knows.running, knows.callers) })

-- ---- it serves

-- where the code with one pool begins
abbrev first_machine : Tac → ℕ → ℕ → List ℕ → P.State
first_machine tac slabs index input =
    let fresh = M.initial (code_of tac (one_pool tac)) slabs index input in
    record fresh {
      running = record (M.first_activation (code_of tac (one_pool tac))) { descriptors = with_descriptor 0 1 (M.descriptors_from []) };
      pools = init_step (new_pools slabs index) Mixed;
      trace = Opened 1 0 ∷ [];
    }

one_first : (tac : Tac) (slabs index : ℕ) (input : List ℕ) (machine : P.State)
    → M.from_start (code_of tac (one_pool tac)) (M.initial (code_of tac (one_pool tac)) slabs index input) ≡ To machine → KnowsOnePool machine
one_first tac slabs index input machine begins =
    let both : To (first_machine tac slabs index input) ≡ To machine = begins in
    let same : first_machine tac slabs index input ≡ machine = cc in
    subst KnowsOnePool same (record { pool = (new_pool Mixed, refl, refl); running = refl; callers = tt })

pub one_mixed : (number : ℕ) (kind : PoolKind) → slice_get (Mixed ∷ []) number ≡ Some kind → IsKind kind
one_mixed zero kind is = let same : Mixed ≡ kind = cc in subst IsKind same tt
one_mixed (suc number) kind is = absurd (none-some kind is)

pub one_pool_serves : (tac : Tac) → Fits tac (one_pool tac) → (slabs : ℕ) → Serves tac (one_pool tac) slabs
one_pool_serves tac fits slabs = record {
  Knows = λ state machine. KnowsOnePool machine;
  fits = fits;
  planned = one_planned tac;
  kinds = one_mixed;
  starts = λ index input. (Mixed, refl, tt);
  first = λ index input machine begins in_step. one_first tac slabs index input machine begins;
  serving = λ state machine step knows. one_serving tac slabs state machine step knows;
  kept = λ state next machine later step knows is does_pools in_step. one_kept tac slabs state machine step knows later does_pools;
}

-- ---- frames with one pool

-- the frames of all functions fit, where that of `start` and that of each function of the program do
pub one_pool_frames : (tac : Tac) → (frame_of tac.structs one_pool_start tac.start).size ≤ greatest_frame
    → ((number : ℕ) (function : Function) → slice_get tac.functions number ≡ Some function → (frame_of tac.structs (one_pool_function function) function).size ≤ greatest_frame)
    → (owner : Owner) → (frame_for tac (one_pool tac) owner).size ≤ greatest_frame
one_pool_frames tac of_start of_each InStart = of_start
one_pool_frames tac of_start of_each (InFunction number) = by (slice_get tac.functions number) refl
  where
    plan_is : (found : Option Function) → slice_get tac.functions number ≡ found → plan_for (one_pool tac) (InFunction number) ≡ unwrap_or (option_map one_pool_function found) one_pool_start
    plan_is found is = ap (λ (plan : Option FunctionPlan). unwrap_or plan one_pool_start) (slice_get-map one_pool_function tac.functions number ∙ ap (option_map one_pool_function) is)

    by : (found : Option Function) → slice_get tac.functions number ≡ found → (frame_for tac (one_pool tac) (InFunction number)).size ≤ greatest_frame
    by None is =
        let frame : frame_for tac (one_pool tac) (InFunction number) ≡ frame_of tac.structs (plan_for (one_pool tac) (InFunction number)) tac.start = rw is refl in
        subst (λ (frame : FrameLayout). frame.size ≤ greatest_frame) (sym (frame ∙ ap (λ (plan : FunctionPlan). frame_of tac.structs plan tac.start) (plan_is None is))) of_start
    by (Some function) is =
        let frame = frame_is tac (one_pool tac) (InFunction number) function is in
        subst (λ (frame : FrameLayout). frame.size ≤ greatest_frame) (sym (frame ∙ ap (λ (plan : FunctionPlan). frame_of tac.structs plan function) (plan_is (Some function) is))) (of_each number function is)
