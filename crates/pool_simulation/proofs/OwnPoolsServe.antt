-- Pools of their own for activations serve, beside the one: each is destroyed while it holds nothing, and callers keep theirs.
use Rattle.std.proofs.Common.{◌≡◌, ℕ, suc, ◌-◌, ◌%◌, ◌^◌, ◌<◌, ◌≤◌, ◌⊎◌, inl, inr, true, List, [], ◌∷◌, map, length, Option, Some, None, refl, sym, ap, subst, ◌∙◌, arith, length-append}
use Rattle.std.specs.Prelude.{slice_get, option_map, unwrap_or, is_some}
use Rattle.std.proofs.lemmas.Bool.{false≢true}
use Rattle.std.proofs.lemmas.List.{length-map, length-set}
use Rattle.std.proofs.lemmas.Option.{slice_get-map}
use Rattle.run_theory.specs.Runs.{To}
use Rattle.slab_space.specs.declared.kind.PoolKind.{PoolKind}
use Rattle.slab_space.specs.declared.kind.PoolKind.TheVariants.{Mixed}
use Rattle.slab_space.specs.Pool.{Pool, new_pool}
use Rattle.slab_space.specs.Pools.{Pools, new_pools, init_step, destroyed, destroy_step, pool_at, kind_of, lives_of}
use Rattle.tac_ir.specs.First.{initial}
use Rattle.tac_ir.specs.Meaning.{act}
use Rattle.tac_ir.specs.States as T
use Rattle.tac_ir.specs.States.{Owner, InStart, InFunction}
use Rattle.tac_ir.specs.Code.{Function, Tac}
use Rattle.pool_ir.specs.Code as C
use Rattle.pool_ir.specs.Code.{Action, Make, Destroy}
use Rattle.pool_ir.specs.States as P
use Rattle.pool_ir.specs.States.{Opened, with_descriptor}
use Rattle.pool_ir.specs.Meaning as M
use Rattle.pool_rewrite.specs.Plan.{FunctionPlan, one_pool_start}
use Rattle.pool_rewrite.specs.Rewriting.{function_of}
use Rattle.pool_simulation.specs.Regions.{SameCallers}
use Rattle.pool_simulation.specs.InStep.{plan_for, memory_in, Fits, InStep}
use Rattle.pool_simulation.specs.Serving.{code_of, pool_for, passed_for, LiesIn, Takes, HoldsNone, pool_made, pool_destroyed, CanAct, SamePools, Effect, nothing, word_stored, object_placed, object_freed, caller_runs, entered, PoolStep, cost_paid, point_left, function_entered, Serving, Serves}
use Rattle.pool_simulation.specs.OwnPools.{own_pools_function, own_pools, HoldsOwn, made_before, AllHoldOwn, at_first, goes, enters, ReachedBy, CallsFew, KnowsOwnPools}
use Rattle.pool_simulation.proofs.Ranges.{wrote}
use Rattle.pool_simulation.proofs.Allocations.{pool_of_kind, placed_object, freed_object, takes_suits}
use Rattle.pool_simulation.proofs.PoolObjects.{pool_there}
use Rattle.pool_simulation.proofs.PlannedCode.{owner_alike, each_plan, no_edge_acts}
use Rattle.pool_simulation.proofs.NarrowWords.{narrow}
use Rattle.pool_simulation.proofs.CallPoints.{callers_long}
use Rattle.pool_simulation.proofs.OnePoolServes.{one_mixed}
use Rattle.pool_simulation.proofs.OnlyPool.{placed_made, freed_made}
use Rattle.pool_simulation.proofs.Actions.{made_goes, destroyed_goes}
use Rattle.pool_simulation.proofs.LyingObjects.{made_kind, new_kind, destroyed_kind, LiesAfter, lay, is_new, lies_after}

-- ---- the plan

module _ (tac : Tac) where
  planned : length (own_pools tac).functions ≡ length tac.functions
  planned = length-map tac.functions own_pools_function

  each : (holds : FunctionPlan → Type 0) → holds one_pool_start → ((function : Function) → holds (own_pools_function function)) → (owner : Owner) → holds (plan_for (own_pools tac) owner)
  each holds of_start of_each owner = each_plan tac (Mixed ∷ []) one_pool_start own_pools_function holds of_start of_each owner

  serves_first : (owner : Owner) (site : ℕ) → (plan_for (own_pools tac) owner).pool_at site ≡ 0
  serves_first owner site = each (λ (plan : FunctionPlan). plan.pool_at site ≡ 0) refl (λ function. refl) owner

  passes_first : (owner : Owner) (site : ℕ) → (plan_for (own_pools tac) owner).passes site ≡ 0 ∷ []
  passes_first owner site = each (λ (plan : FunctionPlan). plan.passes site ≡ 0 ∷ []) refl (λ function. refl) owner

  no_actions : (owner : Owner) (from to : ℕ) → P.actions_of (P.function_of (code_of tac (own_pools tac)) owner) from to ≡ []
  no_actions owner from to = no_edge_acts tac (own_pools tac) planned owner from to (each (λ (plan : FunctionPlan). plan.edges ≡ []) refl (λ function. refl) owner)

  -- a function that is left destroys its own pool, where it is one of the program
  leaving_in : (plan : FunctionPlan) (found : Option Function) → (plan.leaving ≡ []) ⊎ (plan.leaving ≡ Destroy 1 ∷ [])
      → (M.leaving_of (option_map (λ (function : Function). function_of tac plan function) found) ≡ []) ⊎ (M.leaving_of (option_map (λ (function : Function). function_of tac plan function) found) ≡ Destroy 1 ∷ [])
  leaving_in plan None leaving = inl refl
  leaving_in plan (Some function) leaving = leaving

  leaving : (number : ℕ) → (M.leaving_of (P.function_of (code_of tac (own_pools tac)) (InFunction number)) ≡ []) ⊎ (M.leaving_of (P.function_of (code_of tac (own_pools tac)) (InFunction number)) ≡ Destroy 1 ∷ [])
  leaving number =
      subst (λ (found : Option C.Function). (M.leaving_of found ≡ []) ⊎ (M.leaving_of found ≡ Destroy 1 ∷ [])) (sym (owner_alike tac (own_pools tac) planned (InFunction number)))
      (leaving_in (plan_for (own_pools tac) (InFunction number)) (slice_get tac.functions number)
      (each (λ (plan : FunctionPlan). (plan.leaving ≡ []) ⊎ (plan.leaving ≡ Destroy 1 ∷ [])) (inl refl) (λ function. inr refl) (InFunction number)))

  entering : (number : ℕ) (function : C.Function) → slice_get (code_of tac (own_pools tac)).functions number ≡ Some function → function.entering ≡ Make 1 0 ∷ []
  entering number function is = by (slice_get tac.functions number) refl (sym is ∙ owner_alike tac (own_pools tac) planned (InFunction number))
    where
      own_entering : (found : Option Function) → slice_get tac.functions number ≡ found → (own : Function) → found ≡ Some own → (plan_for (own_pools tac) (InFunction number)).entering ≡ Make 1 0 ∷ []
      own_entering found is own same =
          ap (λ (plan : Option FunctionPlan). (unwrap_or plan one_pool_start).entering) (slice_get-map own_pools_function tac.functions number ∙ ap (option_map own_pools_function) (is ∙ same))

      by : (found : Option Function) → slice_get tac.functions number ≡ found
          → Some function ≡ option_map (λ (own : Function). function_of tac (plan_for (own_pools tac) (InFunction number)) own) found → function.entering ≡ Make 1 0 ∷ []
      by None known e = absurd (cc)
      by (Some own) known e =
          let same : function ≡ function_of tac (plan_for (own_pools tac) (InFunction number)) own = cc in
          ap (λ (f : C.Function). f.entering) same ∙ own_entering (Some own) known own refl

  -- each function takes the one pool
  takes_one : (number : ℕ) (function : C.Function) → slice_get (code_of tac (own_pools tac)).functions number ≡ Some function → function.taken ≡ 1
  takes_one number function is = by (slice_get tac.functions number) refl (sym is ∙ owner_alike tac (own_pools tac) planned (InFunction number))
    where
      own_taken : (found : Option Function) → slice_get tac.functions number ≡ found → (own : Function) → found ≡ Some own → (plan_for (own_pools tac) (InFunction number)).taken ≡ 1
      own_taken found is own same =
          ap (λ (plan : Option FunctionPlan). (unwrap_or plan one_pool_start).taken) (slice_get-map own_pools_function tac.functions number ∙ ap (option_map own_pools_function) (is ∙ same))

      by : (found : Option Function) → slice_get tac.functions number ≡ found
          → Some function ≡ option_map (λ (own : Function). function_of tac (plan_for (own_pools tac) (InFunction number)) own) found → function.taken ≡ 1
      by None known e = absurd (cc)
      by (Some own) known e =
          let same : function ≡ function_of tac (plan_for (own_pools tac) (InFunction number)) own = cc in
          ap (λ (f : C.Function). f.taken) same ∙ own_taken (Some own) known own refl

-- ---- pools that live on

-- each pool below a number that lives still does
abbrev LiveOn : Pools → Pools → ℕ → Type 0
LiveOn pools later above = (pool : ℕ) → pool < above → lives_of pools pool ≡ true → lives_of later pool ≡ true

holds_on : (pools later : Pools) (above higher : ℕ) (owner : Owner) (descriptors : ℕ → ℕ) → above ≤ higher → LiveOn pools later above → HoldsOwn pools above owner descriptors → HoldsOwn later higher owner descriptors
holds_on pools later above higher InStart descriptors less lives hold = hold
holds_on pools later above higher (InFunction number) descriptors less lives hold = (hold.0, hold.1, omega (arith, hold.2, less), lives (descriptors 1) hold.2 hold.3)

before_on : (pools : Pools) (above higher : ℕ) (owner : Owner) (descriptors : ℕ → ℕ) → above ≤ higher → HoldsOwn pools above owner descriptors
    → (made_before above owner descriptors ≤ made_before higher owner descriptors) × (made_before above owner descriptors ≤ above)
before_on pools above higher InStart descriptors less hold = (less, omega arith)
before_on pools above higher (InFunction number) descriptors less hold = (omega arith, omega (arith, hold.2))

all_hold_on : (pools later : Pools) (above higher : ℕ) (running : P.Activation) (callers : List (ℕ × P.Activation)) → above ≤ higher → LiveOn pools later above → AllHoldOwn pools above running callers
    → AllHoldOwn later higher running callers
all_hold_on pools later above higher running [] less lives hold = holds_on pools later above higher running.owner running.descriptors less lives hold
all_hold_on pools later above higher running (waiting ∷ callers) less lives hold =
    let before = before_on pools above higher running.owner running.descriptors less hold.0 in (
      holds_on pools later above higher running.owner running.descriptors less lives hold.0,
      all_hold_on pools later (made_before above running.owner running.descriptors) (made_before higher running.owner running.descriptors) waiting.1 callers before.0
          (λ pool low. lives pool (omega (arith, low, before.1))) hold.1,
    )

-- of activations that have the same owners and descriptors
same_hold : (pools : Pools) (above : ℕ) (running other : P.Activation) (callers : List (ℕ × P.Activation)) → other.owner ≡ running.owner → other.descriptors ≡ running.descriptors
    → AllHoldOwn pools above running callers → AllHoldOwn pools above other callers
same_hold pools above running other [] owner descriptors hold = subst (λ (o : Owner). HoldsOwn pools above o other.descriptors) (sym owner) (subst (HoldsOwn pools above running.owner) (sym descriptors) hold)
same_hold pools above running other (waiting ∷ callers) owner descriptors hold =
    subst (λ (o : Owner). HoldsOwn pools above o other.descriptors × AllHoldOwn pools (made_before above o other.descriptors) waiting.1 callers) (sym owner)
    (subst (λ (d : ℕ → ℕ). HoldsOwn pools above running.owner d × AllHoldOwn pools (made_before above running.owner d) waiting.1 callers) (sym descriptors) hold)

callers_hold : (pools : Pools) (above : ℕ) (running other : P.Activation) (callers others : List (ℕ × P.Activation)) → other.owner ≡ running.owner → other.descriptors ≡ running.descriptors
    → SameCallers callers others → AllHoldOwn pools above running callers → AllHoldOwn pools above other others
callers_hold pools above running other [] [] owner descriptors same hold = same_hold pools above running other [] owner descriptors hold
callers_hold pools above running other [] (waiting ∷ others) owner descriptors same hold = absurd same
callers_hold pools above running other ((site, caller) ∷ callers) [] owner descriptors same hold = absurd same
callers_hold pools above running other ((site, caller) ∷ callers) ((site_after, after) ∷ others) owner descriptors same hold =
    let rest = callers_hold pools (made_before above running.owner running.descriptors) caller after callers others same.1.owner same.1.descriptors same.2 hold.1 in
    subst (λ (o : Owner). HoldsOwn pools above o other.descriptors × AllHoldOwn pools (made_before above o other.descriptors) after others) (sym owner)
    (subst (λ (d : ℕ → ℕ). HoldsOwn pools above running.owner d × AllHoldOwn pools (made_before above running.owner d) after others) (sym descriptors) (hold.0, rest))

by_kind : (pools later : Pools) (pool : ℕ) → kind_of later pool ≡ kind_of pools pool → lives_of pools pool ≡ true → lives_of later pool ≡ true
by_kind pools later pool same lives = by (pool_at pools pool) (pool_at later pool) same lives
  where
    by : (found other : Option Pool) → option_map (λ (pool : Pool). pool.kind) other ≡ option_map (λ (pool : Pool). pool.kind) found → is_some found ≡ true → is_some other ≡ true
    by None other same lives = absurd (false≢true lives)
    by (Some pool) None same lives = absurd (cc)
    by (Some pool) (Some other) same lives = refl

-- what is known of the pools alone
abbrev Held : Pools → P.Activation → List (ℕ × P.Activation) → Type 0
Held pools running callers = (kind_of pools 1 ≡ Some Mixed) × AllHoldOwn pools (suc (length pools.pools)) running callers

first_holds : (pools : Pools) (above : ℕ) (running : P.Activation) (callers : List (ℕ × P.Activation)) → AllHoldOwn pools above running callers → HoldsOwn pools above running.owner running.descriptors
first_holds pools above running [] hold = hold
first_holds pools above running (waiting ∷ callers) hold = hold.0

zero_is_one : (pools : Pools) (above : ℕ) (owner : Owner) (descriptors : ℕ → ℕ) → HoldsOwn pools above owner descriptors → descriptors 0 ≡ 1
zero_is_one pools above InStart descriptors hold = hold
zero_is_one pools above (InFunction number) descriptors hold = hold.0

same_held : (machine later : P.State) → SamePools machine later → Held machine.pools machine.running machine.callers → Held later.pools later.running later.callers
same_held machine later same held =
    subst (λ (pools : Pools). Held pools later.running later.callers) (sym same.pools) (
      held.0,
      subst (AllHoldOwn machine.pools (suc (length machine.pools.pools)) later.running) (sym same.callers)
          (same_hold machine.pools (suc (length machine.pools.pools)) machine.running later.running machine.callers same.owner same.descriptors held.1),
    )

-- pools of which as many were made, with their kinds
kept_held : (pools later : Pools) (running : P.Activation) (callers : List (ℕ × P.Activation)) → length later.pools ≡ length pools.pools → ((pool : ℕ) → kind_of later pool ≡ kind_of pools pool)
    → Held pools running callers → Held later running callers
kept_held pools later running callers made kinds held = (
  kinds 1 ∙ held.0,
  all_hold_on pools later (suc (length pools.pools)) (suc (length later.pools)) running callers (omega (arith, made)) (λ pool low. by_kind pools later pool (kinds pool)) held.1,
)

destroyed_made : (p : Pools) (id : ℕ) → length (destroy_step p id).pools ≡ length p.pools
destroyed_made p id = by (pool_at p id)
  where
    by : (found : Option Pool) → length (destroyed p id found).pools ≡ length p.pools
    by None = refl
    by (Some pool) = length-set p.pools (id - 1) None

some_kind : (p : Pools) (pool : ℕ) → lives_of p pool ≡ true → (kind : PoolKind) × (kind_of p pool ≡ Some kind)
some_kind p pool lives = by (pool_at p pool) lives
  where
    by : (found : Option Pool) → is_some found ≡ true → (kind : PoolKind) × (option_map (λ (pool : Pool). pool.kind) found ≡ Some kind)
    by None lives = absurd (false≢true lives)
    by (Some pool) lives = (pool.kind, refl)

kind_lives : (p : Pools) (pool : ℕ) (kind : PoolKind) → kind_of p pool ≡ Some kind → lives_of p pool ≡ true
kind_lives p pool kind is = ap is_some (pool_of_kind p pool kind is).1

made_lives : (p : Pools) (kind : PoolKind) (pool : ℕ) → lives_of p pool ≡ true → lives_of (init_step p kind) pool ≡ true
made_lives p kind pool lives = let own = some_kind p pool lives in kind_lives (init_step p kind) pool own.0 (made_kind p kind pool own.0 own.1)

one_was_made : (p : Pools) (kind : PoolKind) → kind_of p 1 ≡ Some kind → 1 ≤ length p.pools
one_was_made p kind is = let one = pool_of_kind p 1 kind is in let there = pool_there p 1 one.0 one.1 in omega (arith, there.inside)

one_more : (p : Pools) (kind : PoolKind) → length (init_step p kind).pools ≡ suc (length p.pools)
one_more p kind = length-append p.pools (Some (new_pool kind) ∷ []) ∙ omega arith

-- ---- steps

-- as many pools as before
pools_long : (machine later : P.State) → SamePools machine later → length later.pools.pools ≡ length machine.pools.pools
pools_long machine later same = ap (λ (pools : Pools). length pools.pools) same.pools

module _ (tac : Tac) (few : CallsFew tac) (slabs : ℕ) (state : T.State) (machine : P.State) (step : InStep tac (own_pools tac) slabs state machine) (knows : KnowsOwnPools tac state machine) where
  holds : HoldsOwn machine.pools (suc (length machine.pools.pools)) machine.running.owner machine.running.descriptors
  holds = first_holds machine.pools (suc (length machine.pools.pools)) machine.running machine.callers knows.hold

  is_one : (site : ℕ) → pool_for (own_pools tac) state machine site ≡ 1
  is_one site =
      ap machine.running.descriptors (serves_first tac state.running.owner site)
      ∙ zero_is_one machine.pools (suc (length machine.pools.pools)) machine.running.owner machine.running.descriptors holds

  first_kind : (site : ℕ) → kind_of machine.pools (pool_for (own_pools tac) state machine site) ≡ Some Mixed
  first_kind site = ap (kind_of machine.pools) (is_one site) ∙ knows.one

  takes : (site bytes : ℕ) → Takes machine.pools (pool_for (own_pools tac) state machine site) bytes
  takes site bytes = record { kind = Mixed; is = first_kind site; size = λ some. tt }

  can_leave : (owner : Owner) → machine.running.owner ≡ owner → CanAct (code_of tac (own_pools tac)) state (M.leaving_of (P.function_of (code_of tac (own_pools tac)) owner)) machine
  can_leave InStart is = tt
  can_leave (InFunction number) is = by (leaving tac number)
    where
      own : HoldsOwn machine.pools (suc (length machine.pools.pools)) (InFunction number) machine.running.descriptors
      own = subst (λ (owner : Owner). HoldsOwn machine.pools (suc (length machine.pools.pools)) owner machine.running.descriptors) is holds

      none : HoldsNone state machine (machine.running.descriptors 1)
      none = λ number there. (1, (λ e. omega (arith, e, own.1)), knows.lie number there)

      by : (M.leaving_of (P.function_of (code_of tac (own_pools tac)) (InFunction number)) ≡ []) ⊎ (M.leaving_of (P.function_of (code_of tac (own_pools tac)) (InFunction number)) ≡ Destroy 1 ∷ [])
          → CanAct (code_of tac (own_pools tac)) state (M.leaving_of (P.function_of (code_of tac (own_pools tac)) (InFunction number))) machine
      by (inl no_action) = subst (λ (actions : List Action). CanAct (code_of tac (own_pools tac)) state actions machine) (sym no_action) tt
      by (inr one) = subst (λ (actions : List Action). CanAct (code_of tac (own_pools tac)) state actions machine) (sym one) (own.3, none, tt)

  own_serving : Serving tac (own_pools tac) slabs state machine
  own_serving = record {
    allocates = λ site size z at is fits. takes site _;
    frees = λ site pointer number at held there. subst (LiesIn machine number) (sym (is_one site)) (knows.lie number there);
    frees_null = λ site pointer at held. kind_lives machine.pools (pool_for (own_pools tac) state machine site) Mixed (first_kind site);
    leaves = λ value at. can_leave machine.running.owner refl;
    passes = λ site number callee arguments function at called is.
        ap (λ (passes : List ℕ). length passes) (passes_first tac state.running.owner site) ∙ sym (takes_one tac number function is);
    crosses = λ at between later is in_step effect.
        subst (λ (actions : List Action). CanAct (code_of tac (own_pools tac)) between actions later) (sym (no_actions tac later.running.owner later.running.at at)) tt;
    enters = λ site number callee arguments function words next at is found in_step.
        subst (λ (actions : List Action). CanAct (code_of tac (own_pools tac)) next actions (entered site number function words (passed_for (own_pools tac) state machine site) machine))
        (sym (entering tac number function found)) (Mixed, refl, tt);
  }

  held : Held machine.pools machine.running machine.callers
  held = (knows.one, knows.hold)

  -- the caller runs, once the own pool of what is left is destroyed
  left_held : (owner : Owner) → machine.running.owner ≡ owner → (site : ℕ) (caller : P.Activation) (callers : List (ℕ × P.Activation)) (left : P.State)
      → P.acts (code_of tac (own_pools tac)) (M.leaving_of (P.function_of (code_of tac (own_pools tac)) owner)) machine To ≡ To left → left.callers ≡ (site, caller) ∷ callers
      → Held left.pools caller callers
  left_held owner is site caller callers left acted waits = by owner is acted
    where
      above : ℕ
      above = suc (length machine.pools.pools)

      -- where nothing is done
      unchanged : machine ≡ left → Held left.pools caller callers
      unchanged same =
          let hold = subst (AllHoldOwn machine.pools above machine.running) (ap (λ (m : P.State). m.callers) same ∙ waits) knows.hold in
          let before = before_on machine.pools above above machine.running.owner machine.running.descriptors (omega arith) holds in
          subst (λ (m : P.State). Held m.pools caller callers) same
          (knows.one, all_hold_on machine.pools machine.pools (made_before above machine.running.owner machine.running.descriptors) above caller callers before.1 (λ pool low lives. lives) hold.1)

      gone : (number : ℕ) → machine.running.owner ≡ InFunction number → pool_destroyed (machine.running.descriptors 1) machine ≡ left → Held left.pools caller callers
      gone number is same =
          let id = machine.running.descriptors 1 in
          let own = subst (λ (owner : Owner). HoldsOwn machine.pools above owner machine.running.descriptors) is holds in
          let all = subst (AllHoldOwn machine.pools above machine.running) (ap (λ (m : P.State). m.callers) same ∙ waits) knows.hold in
          let hold = subst (λ (owner : Owner). AllHoldOwn machine.pools (made_before above owner machine.running.descriptors) caller callers) is all.1 in
          subst (λ (m : P.State). Held m.pools caller callers) same (
            destroyed_kind machine.pools id 1 (λ e. omega (arith, e, own.1)) ∙ knows.one,
            all_hold_on machine.pools (destroy_step machine.pools id) id (suc (length (destroy_step machine.pools id).pools)) caller callers (omega (arith, destroyed_made machine.pools id, own.2))
                (λ pool low. by_kind machine.pools (destroy_step machine.pools id) pool (destroyed_kind machine.pools id pool (λ e. omega (arith, e, low)))) hold,
          )

      move_is : (first other : P.State) → To first ≡ To other → first ≡ other
      move_is first other e = cc

      by : (owner : Owner) → machine.running.owner ≡ owner → P.acts (code_of tac (own_pools tac)) (M.leaving_of (P.function_of (code_of tac (own_pools tac)) owner)) machine To ≡ To left
          → Held left.pools caller callers
      by InStart is acted = unchanged (move_is machine left acted)
      by (InFunction number) is acted =
          let acts_as = λ (actions : List Action) (same : M.leaving_of (P.function_of (code_of tac (own_pools tac)) (InFunction number)) ≡ actions).
          sym (ap (λ (actions : List Action). P.acts (code_of tac (own_pools tac)) actions machine To) same) ∙ acted in
          let own = subst (λ (owner : Owner). HoldsOwn machine.pools above owner machine.running.descriptors) is holds in
          elim (leaving tac number) [
            | inl none ↦ unchanged (move_is machine left (acts_as [] none))
            | inr one ↦ gone number is (move_is (pool_destroyed (machine.running.descriptors 1) machine) left
                (sym (destroyed_goes tac (own_pools tac) 1 [] machine To own.3) ∙ acts_as (Destroy 1 ∷ []) one))
          ]

  effect_held : (later : P.State) → Effect tac (own_pools tac) state machine later → Held later.pools later.running later.callers
  effect_held later (nothing _ same) = same_held machine later same held
  effect_held later (word_stored address size word stored _ is same) =
      let all = wrote machine address size word stored is in
      same_held stored later same
      (kept_held machine.pools stored.pools stored.running stored.callers all.same.made all.same.kinds (
        knows.one,
        callers_hold machine.pools (suc (length machine.pools.pools)) machine.running stored.running machine.callers stored.callers all.same.running.owner all.same.running.descriptors
            all.same.callers knows.hold,
      ))
  effect_held later (object_placed site size bytes address pools _ at some fits is same) =
      let pool = pool_for (own_pools tac) state machine site in
      let one = placed_object machine.pools pools pool bytes address step.regions.heap (takes_suits machine.pools pool bytes fits) some is in
      same_held (record machine { pools = pools; placed = address ∷ machine.placed }) later same
      (kept_held machine.pools pools machine.running machine.callers (placed_made machine.pools pools pool bytes address is) one.kinds held)
  effect_held later (object_freed site pointer number address pools _ at pointed start is same) =
      let pool = pool_for (own_pools tac) state machine site in
      let one = (freed_object machine.pools pools pool address step.regions.heap is).3 in
      same_held (record machine { pools = pools }) later same (kept_held machine.pools pools machine.running machine.callers (freed_made machine.pools pools pool address is) one.kinds held)
  effect_held later (caller_runs value site caller callers left _ at acted waits same) =
      same_held (record left { running = caller; callers = callers }) later same (left_held machine.running.owner refl site caller callers left acted waits)

  -- a call makes one more
  called_more : (site number : ℕ) (function : C.Function) (words : List ℕ) (next : T.State)
      → InStep tac (own_pools tac) slabs next (entered site number function words (passed_for (own_pools tac) state machine site) machine) → length next.callers ≡ suc (length state.callers)
  called_more site number function words next in_step =
      let first = entered site number function words (passed_for (own_pools tac) state machine site) machine in
      sym (callers_long tac (own_pools tac) next (memory_in tac (own_pools tac) next first) next.callers first.callers in_step.callers)
      ∙ ap suc (callers_long tac (own_pools tac) state (memory_in tac (own_pools tac) state machine) state.callers machine.callers step.callers)

  left_made : (owner : Owner) (left : P.State) → P.acts (code_of tac (own_pools tac)) (M.leaving_of (P.function_of (code_of tac (own_pools tac)) owner)) machine To ≡ To left
      → machine.running.owner ≡ owner → length left.pools.pools ≡ length machine.pools.pools
  left_made InStart left acted is = ap (λ (m : P.State). length m.pools.pools) (sym (move_is machine left acted))
    where
      move_is : (first other : P.State) → To first ≡ To other → first ≡ other
      move_is first other e = cc
  left_made (InFunction number) left acted is =
      let own = subst (λ (owner : Owner). HoldsOwn machine.pools (suc (length machine.pools.pools)) owner machine.running.descriptors) is holds in
      let acts_as = λ (actions : List Action) (same : M.leaving_of (P.function_of (code_of tac (own_pools tac)) (InFunction number)) ≡ actions).
      sym (ap (λ (actions : List Action). P.acts (code_of tac (own_pools tac)) actions machine To) same) ∙ acted in
      elim (leaving tac number) [
        | inl none ↦ ap (λ (m : P.State). length m.pools.pools) (sym (move_is machine left (acts_as [] none)))
        | inr one ↦ ap (λ (m : P.State). length m.pools.pools) (sym (move_is (pool_destroyed (machine.running.descriptors 1) machine) left
            (sym (destroyed_goes tac (own_pools tac) 1 [] machine To own.3) ∙ acts_as (Destroy 1 ∷ []) one))) ∙ destroyed_made machine.pools (machine.running.descriptors 1)
      ]
    where
      move_is : (first other : P.State) → To first ≡ To other → first ≡ other
      move_is first other e = cc

  effect_made : (later : P.State) → Effect tac (own_pools tac) state machine later → length later.pools.pools ≡ length machine.pools.pools
  effect_made later (nothing _ same) = pools_long machine later same
  effect_made later (word_stored address size word stored _ is same) = pools_long stored later same ∙ (wrote machine address size word stored is).same.made
  effect_made later (object_placed site size bytes address pools _ at some fits is same) =
      pools_long (record machine { pools = pools; placed = address ∷ machine.placed }) later same ∙ placed_made machine.pools pools (pool_for (own_pools tac) state machine site) bytes address is
  effect_made later (object_freed site pointer number address pools _ at pointed start is same) =
      pools_long (record machine { pools = pools }) later same ∙ freed_made machine.pools pools (pool_for (own_pools tac) state machine site) address is
  effect_made later (caller_runs value site caller callers left _ at acted waits same) =
      pools_long (record left { running = caller; callers = callers }) later same ∙ left_made machine.running.owner left acted refl

  -- how many calls there were, and pools
  step_made : (next : T.State) (later : P.State) → act tac state ≡ To next → PoolStep tac (own_pools tac) slabs state machine later
      → (calls : ℕ) × ReachedBy tac calls next × (length later.pools.pools ≡ suc calls)
  step_made next later own (cost_paid _ same) = (knows.calls, goes knows.calls state next knows.reached own, pools_long machine later same ∙ knows.made)
  step_made next later own (point_left at between reached after _ is in_step effect can acted arrived) =
      let none = no_actions tac reached.running.owner reached.running.at at in
      let same = move_is reached after (sym (ap (λ (actions : List Action). P.acts (code_of tac (own_pools tac)) actions reached To) none) ∙ acted) in (
        knows.calls,
        goes knows.calls state next knows.reached own,
        ap (λ (m : P.State). length m.pools.pools) (sym (move_is _ later arrived)) ∙ ap (λ (m : P.State). length m.pools.pools) (sym same) ∙ effect_made reached effect ∙ knows.made,
      )
    where
      move_is : (first other : P.State) → To first ≡ To other → first ≡ other
      move_is first other e = cc
  step_made next later own (function_entered site number callee arguments function words after _ at is found in_step can acted) =
      let first = entered site number function words (passed_for (own_pools tac) state machine site) machine in
      let now = pool_made 1 0 Mixed first in
      let done : P.acts (code_of tac (own_pools tac)) (Make 1 0 ∷ []) first To ≡ To later =
      sym (ap (λ (actions : List Action). P.acts (code_of tac (own_pools tac)) actions first To) (entering tac number function found)) ∙ acted in
      let one : after ≡ next = states_are after next (sym is ∙ own) in (
        suc knows.calls,
        enters knows.calls state next knows.reached own (subst (λ (s : T.State). length s.callers ≡ suc (length state.callers)) one (called_more site number function words after in_step)),
        ap (λ (m : P.State). length m.pools.pools) (sym (move_is now later (sym (made_goes tac (own_pools tac) 1 0 Mixed [] first To refl) ∙ done))) ∙ one_more machine.pools Mixed ∙ ap suc knows.made,
      )
    where
      move_is : (first other : P.State) → To first ≡ To other → first ≡ other
      move_is first other e = cc

      states_are : (first other : T.State) → To first ≡ To other → first ≡ other
      states_are first other e = cc

  step_held : (later : P.State) → PoolStep tac (own_pools tac) slabs state machine later → Held later.pools later.running later.callers
  step_held later (cost_paid _ same) = same_held machine later same held
  step_held later (point_left at between reached after _ is in_step effect can acted arrived) =
      let there = effect_held reached effect in
      let none = no_actions tac reached.running.owner reached.running.at at in
      let same = move_is reached after (sym (ap (λ (actions : List Action). P.acts (code_of tac (own_pools tac)) actions reached To) none) ∙ acted) in
      let here = subst (λ (m : P.State). Held m.pools m.running m.callers) same there in
      subst (λ (m : P.State). Held m.pools m.running m.callers) (move_is _ later arrived)
      (here.0, same_hold after.pools (suc (length after.pools.pools)) after.running (record after.running { at = at }) after.callers refl refl here.1)
    where
      move_is : (first other : P.State) → To first ≡ To other → first ≡ other
      move_is first other e = cc
  step_held later (function_entered site number callee arguments function words next _ at is found in_step can acted) =
      let first = entered site number function words (passed_for (own_pools tac) state machine site) machine in
      let pool = suc (length machine.pools.pools) in
      let now = pool_made 1 0 Mixed first in
      let done : P.acts (code_of tac (own_pools tac)) (Make 1 0 ∷ []) first To ≡ To later =
      sym (ap (λ (actions : List Action). P.acts (code_of tac (own_pools tac)) actions first To) (entering tac number function found)) ∙ acted in
      let more = one_more machine.pools Mixed in
      let first_held : M.descriptors_from (passed_for (own_pools tac) state machine site) 0 ≡ 1 =
      ap (λ (passes : List ℕ). M.descriptors_from (map (M.pool_of machine) passes) 0) (passes_first tac state.running.owner site)
      ∙ zero_is_one machine.pools (suc (length machine.pools.pools)) machine.running.owner machine.running.descriptors holds in
      let below = all_hold_on machine.pools (init_step machine.pools Mixed) pool pool machine.running machine.callers (omega arith) (λ id low lives. made_lives machine.pools Mixed id lives) knows.hold in
      let most = few (suc knows.calls) next (enters knows.calls state next knows.reached is (called_more site number function words next in_step)) in
      let word : pool % 2 ^ 64 ≡ pool = narrow pool (omega (arith, most, knows.made)) in
      subst (λ (m : P.State). Held m.pools m.running m.callers) (move_is now later (sym (made_goes tac (own_pools tac) 1 0 Mixed [] first To refl) ∙ done)) (
        made_kind machine.pools Mixed 1 Mixed knows.one,
        subst (λ (own : ℕ). ((M.descriptors_from (passed_for (own_pools tac) state machine site) 0 ≡ 1) × (1 < own) × (own < suc (length (init_step machine.pools Mixed).pools))
            × (lives_of (init_step machine.pools Mixed) own ≡ true)) × AllHoldOwn (init_step machine.pools Mixed) own machine.running machine.callers) (sym word)
            ((first_held, omega (arith, one_was_made machine.pools Mixed knows.one), omega (arith, more), kind_lives (init_step machine.pools Mixed) pool Mixed (new_kind machine.pools Mixed)), below),
      )
    where
      move_is : (first other : P.State) → To first ≡ To other → first ≡ other
      move_is first other e = cc

  own_kept : (next : T.State) (later : P.State) → act tac state ≡ To next → PoolStep tac (own_pools tac) slabs state machine later → InStep tac (own_pools tac) slabs next later → KnowsOwnPools tac next later
  own_kept next later own does_pools in_step =
      let after = step_held later does_pools in
      let made = step_made next later own does_pools in
      record { calls = made.0; reached = made.1; made = made.2; one = after.0; lie = λ number there. by number (lies_after tac (own_pools tac) slabs one_mixed state machine step own_serving next later own does_pools in_step number there); hold = after.1 }
    where
      by : (number : ℕ) → LiesAfter tac (own_pools tac) state machine later number → LiesIn later number 1
      by number (lay was stays) = stays 1 (knows.lie number was)
      by number (is_new site size at new lies) = subst (LiesIn later number) (is_one site) lies

-- ---- they serve

abbrev first_machine : Tac → ℕ → ℕ → List ℕ → P.State
first_machine tac slabs index input =
    let fresh = M.initial (code_of tac (own_pools tac)) slabs index input in
    record fresh {
      running = record (M.first_activation (code_of tac (own_pools tac))) { descriptors = with_descriptor 0 1 (M.descriptors_from []) };
      pools = init_step (new_pools slabs index) Mixed;
      trace = Opened 1 0 ∷ [];
    }

own_first : (tac : Tac) (slabs index : ℕ) (input : List ℕ) (machine : P.State)
    → M.from_start (code_of tac (own_pools tac)) (M.initial (code_of tac (own_pools tac)) slabs index input) ≡ To machine → KnowsOwnPools tac (initial tac input) machine
own_first tac slabs index input machine begins =
    let both : To (first_machine tac slabs index input) ≡ To machine = begins in
    let same : first_machine tac slabs index input ≡ machine = cc in
    subst (KnowsOwnPools tac (initial tac input)) same (record { calls = 0; reached = at_first input; made = refl; one = refl; lie = λ number there. absurd (false≢true there); hold = refl })

pub own_pools_serve : (tac : Tac) → Fits tac (own_pools tac) → CallsFew tac → (slabs : ℕ) → Serves tac (own_pools tac) slabs
own_pools_serve tac fits few slabs = record {
  Knows = KnowsOwnPools tac;
  fits = fits;
  planned = planned tac;
  kinds = one_mixed;
  starts = λ index input. (Mixed, refl, tt);
  first = λ index input machine begins in_step. own_first tac slabs index input machine begins;
  serving = λ state machine step knows. own_serving tac few slabs state machine step knows;
  kept = λ state next machine later step knows own does_pools in_step. own_kept tac few slabs state machine step knows next later own does_pools in_step;
}
