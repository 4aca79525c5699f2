-- In which pools allocations lie while points have their effects and actions are done: what is there stays in its pool, and pools keep their
-- kinds. This is what a plan's stage needs to show what its pools do.
use Rattle.std.proofs.Common.{◌≡◌, ℕ, zero, suc, ◌+◌, ◌-◌, ◌<◌, ◌≤◌, ◌⊎◌, ◌≢◌, inl, inr, true, List, [], ◌∷◌, ◌++◌, Option, Some, None, length, flat_map, refl, sym, ap, subst, ◌∙◌, arith, ne_eqb}
use Rattle.std.specs.Prelude.{slice_get, slice_index_or, option_map, reverse, if◌then◌else◌}
use Rattle.std.proofs.lemmas.Bool.{cases_lt}
use Rattle.std.proofs.lemmas.List.{get_or_append_left, length-reverse}
use Rattle.std.proofs.lemmas.Option.{same_Some, none-some, slice_get_within}
use Rattle.run_theory.specs.Runs.{Move, To, Halt}
use Rattle.slab_space.specs.declared.kind.PoolKind.{PoolKind}
use Rattle.slab_space.specs.Pool.{Pool, Object, IsKind, new_pool}
use Rattle.slab_space.specs.Pools.{Pools, pool_at, init_step, destroyed, destroy_step, store_step, objects_of, kind_of}
use Rattle.slab_space.proofs.Held.{total, two_of}
use Rattle.tac_ir.specs.Values.{OfHeap}
use Rattle.tac_ir.specs.Objects.{is_there}
use Rattle.tac_ir.specs.States as T
use Rattle.tac_ir.specs.Meaning.{act}
use Rattle.tac_ir.specs.Code as O
use Rattle.tac_ir.specs.Code.{Tree, Tac}
use Rattle.pool_ir.specs.Code.{Action, Make, Destroy}
use Rattle.pool_ir.specs.States as P
use Rattle.pool_ir.specs.Memory.{with_number}
use Rattle.pool_rewrite.specs.Plan.{Plan}
use Rattle.pool_simulation.specs.Regions.{IsIn, Lives, LivesIn, SoundHeap}
use Rattle.pool_simulation.specs.InStep.{allocation_start, InStep}
use Rattle.pool_simulation.specs.Serving.{code_of, StandsAt, LiesIn, HoldsNone, pool_for, passed_for, pool_made, pool_destroyed, actions_to, actions_leaving, CanAct, Effect, nothing, word_stored, object_placed, object_freed, caller_runs, entered, PoolStep, cost_paid, point_left, function_entered, Serving}
use Rattle.pool_simulation.proofs.Inserted.{in_total}
use Rattle.pool_simulation.proofs.SoundPools.{writing}
use Rattle.pool_simulation.proofs.PoolObjects.{pool_there, at_other, lives_in_all, store_is}
use Rattle.pool_simulation.proofs.LiveObjects.{occupies, total_append, bytes_once}
use Rattle.pool_simulation.proofs.HeapRanges.{written_lives_in}
use Rattle.pool_simulation.proofs.Ranges.{Wrote, wrote}
use Rattle.pool_simulation.proofs.HeapSteps.{was_or_is}
use Rattle.pool_simulation.proofs.MadeObjects.{older_start, newest_start}
use Rattle.pool_simulation.proofs.Allocations.{live_inside, same_start, PlacedObject, placed_object, takes_suits, FreedObject, freed_object, opened_heap, opened_kept, closed_heap, closed_kept}
use Rattle.pool_simulation.proofs.Actions.{made_goes, destroyed_goes}

-- ---- an object lives in one pool

total_flat : {X A : Type 0} (g : X → List A) (f : A → ℕ) (xs : List X) → total f (flat_map g xs) ≡ total (λ x. total f (g x)) xs
total_flat g f [] = refl
total_flat g f (x ∷ xs) = total_append f (g x) (flat_map g xs) ∙ ap (λ n. total f (g x) + n) (total_flat g f xs)

-- the pool in which it lives is there
living : (p : Pools) (id : ℕ) (o : Object) → LivesIn p id o → (1 ≤ id) × (id - 1 < length p.pools) × IsIn o (objects_of (slice_index_or p.pools (id - 1) None))
living p id o lives = by (pool_at p id) refl lives
  where
    by : (found : Option Pool) → pool_at p id ≡ found → IsIn o (objects_of found) → (1 ≤ id) × (id - 1 < length p.pools) × IsIn o (objects_of (slice_index_or p.pools (id - 1) None))
    by None is lives = absurd lives
    by (Some pool) is lives = let there = pool_there p id pool is in (there.some, there.inside, subst (λ found. IsIn o (objects_of found)) (sym there.at) lives)

lives_low : (p : Pools) (a b : ℕ) (o : Object) → SoundHeap p → LivesIn p a o → LivesIn p b o → a - 1 < b - 1 → ⊥
lives_low p a b o heap at_a at_b less =
    let here = living p a o at_a in
    let there = living p b o at_b in
    let f = occupies o.start in
    let some = (live_inside p o heap (lives_in_all p a o at_a)).0 in
    let one : 1 ≤ f o = omega (arith, some) in
    let first = in_total f o (objects_of (slice_index_or p.pools (a - 1) None)) here.2 in
    let second = in_total f o (objects_of (slice_index_or p.pools (b - 1) None)) there.2 in
    let both = two_of (λ found. total f (objects_of found)) p.pools (a - 1) (b - 1) None less there.1 in
    omega (arith, one, first, second, both, total_flat objects_of f p.pools, bytes_once heap.slabs p heap.sizes heap.placed o.start)

pub lives_once : (p : Pools) (a b : ℕ) (o : Object) → SoundHeap p → LivesIn p a o → LivesIn p b o → a ≡ b
lives_once p a b o heap at_a at_b =
    elim (cases_lt (a - 1) (b - 1)) [
      | inl less ↦ absurd (lives_low p a b o heap at_a at_b less)
      | inr most ↦ elim (cases_lt (b - 1) (a - 1)) [
        | inl less ↦ absurd (lives_low p b a o heap at_b at_a less)
        | inr least ↦ (let here = living p a o at_a in let there = living p b o at_b in omega (arith, most, least, here.0, there.0))
      ]
    ]

-- ---- kinds of pools

-- a new pool has its kind, and all others have theirs
pub made_kind : (p : Pools) (kind : PoolKind) (pool : ℕ) (own : PoolKind) → kind_of p pool ≡ Some own → kind_of (init_step p kind) pool ≡ Some own
made_kind p kind pool own is = by (pool_at p pool) refl is
  where
    by : (found : Option Pool) → pool_at p pool ≡ found → option_map (λ (pool : Pool). pool.kind) found ≡ Some own → kind_of (init_step p kind) pool ≡ Some own
    by None at is = absurd (none-some own is)
    by (Some found) at is =
        let there = pool_there p pool found at in
        let still : slice_index_or (p.pools ++ Some (new_pool kind) ∷ []) (pool - 1) None ≡ Some found =
        get_or_append_left p.pools (Some (new_pool kind) ∷ []) None (pool - 1) there.inside ∙ there.at in
        ap (λ b. option_map (λ (pool : Pool). pool.kind) (if b then None else slice_index_or (p.pools ++ Some (new_pool kind) ∷ []) (pool - 1) None)) (ne_eqb pool 0 (λ none. omega (arith, none, there.some)))
        ∙ ap (option_map (λ (pool : Pool). pool.kind)) still ∙ is

last_is : {X : Type 0} (xs : List X) (x other : X) → slice_index_or (xs ++ x ∷ []) (length xs) other ≡ x
last_is [] x other = refl
last_is (first ∷ xs) x other = last_is xs x other

pub new_kind : (p : Pools) (kind : PoolKind) → kind_of (init_step p kind) (suc (length p.pools)) ≡ Some kind
new_kind p kind =
    let all : List (Option Pool) = p.pools ++ Some (new_pool kind) ∷ [] in
    let last : suc (length p.pools) - 1 ≡ length p.pools = omega arith in
    ap (λ b. option_map (λ (pool : Pool). pool.kind) (if b then None else slice_index_or all (suc (length p.pools) - 1) None)) (ne_eqb (suc (length p.pools)) 0 (λ none. omega (arith, none)))
    ∙ ap (λ n. option_map (λ (pool : Pool). pool.kind) (slice_index_or all n None)) last
    ∙ ap (option_map (λ (pool : Pool). pool.kind)) (last_is p.pools (Some (new_pool kind)) None)

pub destroyed_kind : (p : Pools) (id other : ℕ) → other ≢ id → kind_of (destroy_step p id) other ≡ kind_of p other
destroyed_kind p id other apart = by (pool_at p id) refl
  where
    by : (found : Option Pool) → pool_at p id ≡ found → kind_of (destroyed p id found) other ≡ kind_of p other
    by None is = refl
    by (Some pool) is = ap (option_map (λ (pool : Pool). pool.kind)) (at_other p (destroyed p id (Some pool)) id pool (pool_there p id pool is) None refl other apart)

-- ---- effects of points

start_same : (machine later : P.State) → later.placed ≡ machine.placed → (number : ℕ) → allocation_start later number ≡ allocation_start machine number
start_same machine later same zero = refl
start_same machine later same (suc number) = ap (λ (starts : List ℕ). slice_get (reverse starts) number) same

pub lies_same : (machine later : P.State) (number pool : ℕ) → later.pools ≡ machine.pools → later.placed ≡ machine.placed → LiesIn machine number pool → LiesIn later number pool
lies_same machine later number pool pools starts lies = record {
  object = lies.object;
  is = start_same machine later starts number ∙ lies.is;
  lives = subst (λ (pools : Pools). LivesIn pools pool lies.object) (sym pools) lies.lives;
}

pub lies_stored : (machine later : P.State) (address size word number pool : ℕ) → with_number machine address size word ≡ Some later → LiesIn machine number pool → LiesIn later number pool
lies_stored machine later address size word number pool stored lies = by all.pools
  where
    all : Wrote machine address size word later
    all = wrote machine address size word later stored

    starts : allocation_start later number ≡ Some lies.object.start
    starts = start_same machine later all.same.placed number ∙ lies.is

    by : (later.pools ≡ machine.pools) ⊎ (store_step machine.pools address size word ≡ Some later.pools) → LiesIn later number pool
    by (inl same) = record { object = lies.object; is = starts; lives = subst (λ (pools : Pools). LivesIn pools pool lies.object) (sym same) lies.lives }
    by (inr done) = record {
      object = writing address size word lies.object;
      is = starts;
      lives = subst (λ (pools : Pools). LivesIn pools pool (writing address size word lies.object)) (sym (store_is address size word machine.pools later.pools done))
          (written_lives_in address size word machine.pools pool lies.object lies.lives);
    }

-- an object is placed: it lies in the pool of its site, and all others where they lay
module _ (machine : P.State) (id bytes address : ℕ) (pools : Pools) (one : PlacedObject machine.pools id bytes address pools) where
  abbrev after_placing : P.State
  after_placing = record machine { pools = pools; placed = address ∷ machine.placed }

  pub lies_placed : (number pool : ℕ) → LiesIn machine number pool → LiesIn after_placing number pool
  lies_placed zero pool lies = absurd (none-some lies.object.start lies.is)
  lies_placed (suc number) pool lies =
      record { object = lies.object; is = older_start machine.placed address number lies.object.start lies.is; lives = one.kept pool lies.object lies.lives }

  pub new_lies : LiesIn after_placing (suc (length machine.placed)) id
  new_lies = record { object = one.object; is = newest_start machine.placed address ∙ ap Some (sym one.start); lives = one.lives }

-- an object is freed: the others lie where they lay
pub lies_freed : (machine : P.State) (id number pool : ℕ) (o : Object) (pools : Pools) → FreedObject machine.pools id o pools → (lies : LiesIn machine number pool) → lies.object.start ≢ o.start
    → LiesIn (record machine { pools = pools }) number pool
lies_freed machine id number pool o pools one lies apart = record { object = lies.object; is = start_same machine (record machine { pools = pools }) refl number ∙ lies.is; lives = one.kept pool lies.object lies.lives apart }

-- ---- actions

pub lies_made : (descriptor number : ℕ) (kind : PoolKind) (machine : P.State) (allocation pool : ℕ) → LiesIn machine allocation pool → LiesIn (pool_made descriptor number kind machine) allocation pool
lies_made descriptor number kind machine allocation pool lies = record {
  object = lies.object;
  is = start_same machine (pool_made descriptor number kind machine) refl allocation ∙ lies.is;
  lives = opened_kept machine.pools kind pool lies.object lies.lives;
}

-- what is there lies in no pool that is destroyed
pub lies_apart : (state : T.State) (machine : P.State) (allocation pool other : ℕ) → SoundHeap machine.pools → is_there (state.objects (OfHeap allocation)) ≡ true → HoldsNone state machine other
    → LiesIn machine allocation pool → pool ≢ other
lies_apart state machine allocation pool other heap there none lies same =
    let elsewhere = none allocation there in
    let start : lies.object.start ≡ elsewhere.2.object.start = same_Some lies.object.start elsewhere.2.object.start (sym lies.is ∙ elsewhere.2.is) in
    let one : lies.object ≡ elsewhere.2.object =
    same_start machine.pools lies.object elsewhere.2.object heap (lives_in_all machine.pools pool lies.object lies.lives) (lives_in_all machine.pools elsewhere.0 elsewhere.2.object elsewhere.2.lives) start in
    elsewhere.1 (lives_once machine.pools elsewhere.0 pool elsewhere.2.object heap elsewhere.2.lives (subst (LivesIn machine.pools pool) one lies.lives) ∙ same)

pub lies_destroyed : (machine : P.State) (allocation pool other : ℕ) → pool ≢ other → LiesIn machine allocation pool → LiesIn (pool_destroyed other machine) allocation pool
lies_destroyed machine allocation pool other apart lies = record {
  object = lies.object;
  is = start_same machine (pool_destroyed other machine) refl allocation ∙ lies.is;
  lives = closed_kept machine.pools other pool lies.object apart lies.lives;
}

-- what is there stays in its pool while actions are done
pub lies_acted : (tac : Tac) (plan : Plan) → ((number : ℕ) (kind : PoolKind) → slice_get plan.kinds number ≡ Some kind → IsKind kind) → (state : T.State) (actions : List Action)
    (machine after : P.State) → SoundHeap machine.pools → CanAct (code_of tac plan) state actions machine → P.acts (code_of tac plan) actions machine To ≡ To after
    → (allocation pool : ℕ) → is_there (state.objects (OfHeap allocation)) ≡ true → LiesIn machine allocation pool → LiesIn after allocation pool
lies_acted tac plan kinds state [] machine after heap can acted allocation pool there lies = let same : machine ≡ after = cc in subst (λ (m : P.State). LiesIn m allocation pool) same lies
lies_acted tac plan kinds state (Make descriptor number ∷ others) machine after heap can acted allocation pool there lies =
    let now = pool_made descriptor number can.0 machine in
    lies_acted tac plan kinds state others now after (opened_heap machine.pools can.0 heap (kinds number can.0 can.1)) can.2
    (sym (made_goes tac plan descriptor number can.0 others machine To can.1) ∙ acted) allocation pool there (lies_made descriptor number can.0 machine allocation pool lies)
lies_acted tac plan kinds state (Destroy descriptor ∷ others) machine after heap can acted allocation pool there lies =
    let other = machine.running.descriptors descriptor in
    let apart = lies_apart state machine allocation pool other heap there can.1 lies in
    lies_acted tac plan kinds state others (pool_destroyed other machine) after (closed_heap machine.pools other heap) can.2
    (sym (destroyed_goes tac plan descriptor others machine To can.0) ∙ acted) allocation pool there (lies_destroyed machine allocation pool other apart lies)

-- ---- whole steps

module _ (tac : Tac) (plan : Plan) (slabs : ℕ) (kinds : (number : ℕ) (kind : PoolKind) → slice_get plan.kinds number ≡ Some kind → IsKind kind) (state : T.State) (machine : P.State)
    (step : InStep tac plan slabs state machine) (serving : Serving tac plan slabs state machine) where
  -- an object that was freed began where no allocation does that is there still
  freed_apart : (between : T.State) (later : P.State) → InStep tac plan slabs between later → (id allocation pool : ℕ) (o : Object) (pools : Pools) → later.pools ≡ pools
      → later.placed ≡ machine.placed → LivesIn machine.pools id o → FreedObject machine.pools id o pools → is_there (between.objects (OfHeap allocation)) ≡ true → (lies : LiesIn machine allocation pool)
      → lies.object.start ≢ o.start
  freed_apart between later in_step id allocation pool o pools same same_placed lived one there lies start =
      let stands = in_step.allocations allocation there in
      let lives : Lives pools stands.object = subst (λ (pools : Pools). Lives pools stands.object) same stands.lives in
      let here : stands.object.start ≡ lies.object.start =
      stands.begins ∙ same_Some stands.address lies.object.start (sym stands.is ∙ start_same machine later same_placed allocation ∙ lies.is) in
      let some = (live_inside pools stands.object one.heap lives).0 in
      let freed = (live_inside machine.pools o step.regions.heap (lives_in_all machine.pools id o lived)).0 in
      elim (one.apart stands.object lives) [
        | inl before ↦ omega (arith, before, here, start, freed)
        | inr behind ↦ omega (arith, behind, here, start, some)
      ]

  pub lies_effect : (between : T.State) (later : P.State) → InStep tac plan slabs between later → Effect tac plan state machine later → (allocation pool : ℕ)
      → is_there (state.objects (OfHeap allocation)) ≡ true → is_there (between.objects (OfHeap allocation)) ≡ true → LiesIn machine allocation pool → LiesIn later allocation pool
  lies_effect between later in_step (nothing _ same) allocation pool was there lies = lies_same machine later allocation pool same.pools same.placed lies
  lies_effect between later in_step (word_stored address size word stored _ is same) allocation pool was there lies =
      lies_same stored later allocation pool same.pools same.placed (lies_stored machine stored address size word allocation pool is lies)
  lies_effect between later in_step (object_placed site size bytes address pools _ at some takes is same) allocation pool was there lies =
      let id = pool_for plan state machine site in
      let one = placed_object machine.pools pools id bytes address step.regions.heap (takes_suits machine.pools id bytes takes) some is in
      lies_same (record machine { pools = pools; placed = address ∷ machine.placed }) later allocation pool same.pools same.placed (lies_placed machine id bytes address pools one allocation pool lies)
  lies_effect between later in_step (object_freed site pointer number address pools _ at held start is same) allocation pool was there lies =
      let id = pool_for plan state machine site in
      let freed = freed_object machine.pools pools id address step.regions.heap is in
      let apart = freed_apart between later in_step id allocation pool freed.0 pools same.pools same.placed freed.2 freed.3 there lies in
      lies_same (record machine { pools = pools }) later allocation pool same.pools same.placed (lies_freed machine id allocation pool freed.0 pools freed.3 lies apart)
  lies_effect between later in_step (caller_runs value site caller callers left _ at acted waits same) allocation pool was there lies =
      let still = lies_acted tac plan kinds state (actions_leaving tac plan machine) machine left step.regions.heap (serving.leaves value at) acted allocation pool was lies in
      lies_same left later allocation pool same.pools same.placed still

  -- it is there where a move leads
  abbrev IsThereAt : ℕ → Move T.State → Type 0
  IsThereAt allocation (To next) = is_there (next.objects (OfHeap allocation)) ≡ true
  IsThereAt allocation (Halt final last) = Unit {0}

  abbrev LiesAt : ℕ → ℕ → Move P.State → Type 0
  LiesAt allocation pool (To later) = LiesIn later allocation pool
  LiesAt allocation pool (Halt final last) = Unit {0}

  -- an allocation that is there before and after a step lies in the pool in which it lay
  pub lies_on : (next : T.State) (later : P.State) → act tac state ≡ To next → PoolStep tac plan slabs state machine later → (allocation pool : ℕ)
      → is_there (state.objects (OfHeap allocation)) ≡ true → is_there (next.objects (OfHeap allocation)) ≡ true → LiesIn machine allocation pool → LiesIn later allocation pool
  lies_on next later own (cost_paid _ same) allocation pool was there lies = lies_same machine later allocation pool same.pools same.placed lies
  lies_on next later own (point_left at between reached after _ is in_step effect can acted arrived) allocation pool was there lies =
      let there_between : is_there (between.objects (OfHeap allocation)) ≡ true = subst (IsThereAt allocation) (sym own ∙ is) there in
      let first = lies_effect between reached in_step effect allocation pool was there_between lies in
      let second = lies_acted tac plan kinds between (actions_to tac plan reached at) reached after in_step.regions.heap can acted allocation pool there_between first in
      subst (LiesAt allocation pool) arrived (lies_same after _ allocation pool refl refl second)
  lies_on next later own (function_entered site number callee arguments function words reached _ at is found in_step can acted) allocation pool was there lies =
      let there_reached : is_there (reached.objects (OfHeap allocation)) ≡ true = subst (IsThereAt allocation) (sym own ∙ is) there in
      let first = entered site number function words (passed_for plan state machine site) machine in
      lies_acted tac plan kinds reached function.entering first later in_step.regions.heap can acted allocation pool there_reached (lies_same machine first allocation pool refl refl lies)

-- ---- numbers of allocations

-- actions place nothing
placed_acted : (tac : Tac) (plan : Plan) (state : T.State) (actions : List Action) (machine after : P.State) → CanAct (code_of tac plan) state actions machine
    → P.acts (code_of tac plan) actions machine To ≡ To after → after.placed ≡ machine.placed
placed_acted tac plan state [] machine after can acted = let same : machine ≡ after = cc in ap (λ (m : P.State). m.placed) (sym same)
placed_acted tac plan state (Make descriptor number ∷ others) machine after can acted =
    placed_acted tac plan state others (pool_made descriptor number can.0 machine) after can.2 (sym (made_goes tac plan descriptor number can.0 others machine To can.1) ∙ acted)
placed_acted tac plan state (Destroy descriptor ∷ others) machine after can acted =
    placed_acted tac plan state others (pool_destroyed (machine.running.descriptors descriptor) machine) after can.2 (sym (destroyed_goes tac plan descriptor others machine To can.0) ∙ acted)

get_within : (starts : List ℕ) (number address : ℕ) → slice_get (reverse starts) number ≡ Some address → number < length starts
get_within starts number address is = omega (arith, slice_get_within (reverse starts) number address is, length-reverse starts)

-- an allocation that was placed has a number up to theirs
start_within : (machine : P.State) (number address : ℕ) → allocation_start machine number ≡ Some address → number ≤ length machine.placed
start_within machine zero address is = omega arith
start_within machine (suc number) address is = omega (arith, get_within machine.placed number address is)

-- ---- where an allocation lies after a step

-- It was there, and lies in the pool in which it lay; or the step has placed it, in the pool of its site.
pub data LiesAfter (tac : Tac) (plan : Plan) (state : T.State) (machine later : P.State) (allocation : ℕ) : Type 0 where
  lay : is_there (state.objects (OfHeap allocation)) ≡ true → ((pool : ℕ) → LiesIn machine allocation pool → LiesIn later allocation pool) → LiesAfter tac plan state machine later allocation
  is_new : (site : ℕ) (size : Tree) → StandsAt tac state (O.Allocate site size) → allocation ≡ state.next_heap → LiesIn later allocation (pool_for plan state machine site)
      → LiesAfter tac plan state machine later allocation

module _ (tac : Tac) (plan : Plan) (slabs : ℕ) (kinds : (number : ℕ) (kind : PoolKind) → slice_get plan.kinds number ≡ Some kind → IsKind kind) (state : T.State) (machine : P.State)
    (step : InStep tac plan slabs state machine) (serving : Serving tac plan slabs state machine) where
  -- where nothing was placed, the next number is none of an allocation
  none_new : (later : P.State) (allocation address : ℕ) → later.placed ≡ machine.placed → allocation ≡ state.next_heap → allocation_start later allocation ≡ Some address → ⊥
  none_new later allocation address same new is = omega (arith, ap (λ (starts : List ℕ). length starts) same, new, step.next, start_within later allocation address is)

  new_effect : (between : T.State) (later : P.State) → InStep tac plan slabs between later → Effect tac plan state machine later → (allocation : ℕ) → allocation ≡ state.next_heap
      → is_there (between.objects (OfHeap allocation)) ≡ true → (site : ℕ) × (size : Tree) × StandsAt tac state (O.Allocate site size) × LiesIn later allocation (pool_for plan state machine site)
  new_effect between later in_step (nothing _ same) allocation new there =
      let stands = in_step.allocations allocation there in absurd (none_new later allocation stands.address same.placed new stands.is)
  new_effect between later in_step (word_stored address size word stored _ is same) allocation new there =
      let stands = in_step.allocations allocation there in
      absurd (none_new later allocation stands.address (same.placed ∙ (wrote machine address size word stored is).same.placed) new stands.is)
  new_effect between later in_step (object_placed site size bytes address pools _ at some takes is same) allocation new there =
      let id = pool_for plan state machine site in
      let one = placed_object machine.pools pools id bytes address step.regions.heap (takes_suits machine.pools id bytes takes) some is in
      let number : suc (length machine.placed) ≡ allocation = sym step.next ∙ sym new in (
        site,
        size,
        at,
        subst (λ (n : ℕ). LiesIn later n id) number
            (lies_same (record machine { pools = pools; placed = address ∷ machine.placed }) later (suc (length machine.placed)) id same.pools same.placed (new_lies machine id bytes address pools one)),
      )
  new_effect between later in_step (object_freed site pointer number address pools _ at held start is same) allocation new there =
      let stands = in_step.allocations allocation there in absurd (none_new later allocation stands.address same.placed new stands.is)
  new_effect between later in_step (caller_runs value site caller callers left _ at acted waits same) allocation new there =
      let stands = in_step.allocations allocation there in
      absurd (none_new later allocation stands.address (same.placed ∙ placed_acted tac plan state (actions_leaving tac plan machine) machine left (serving.leaves value at) acted) new stands.is)

  pub lies_after : (next : T.State) (later : P.State) → act tac state ≡ To next → PoolStep tac plan slabs state machine later → InStep tac plan slabs next later → (allocation : ℕ)
      → is_there (next.objects (OfHeap allocation)) ≡ true → LiesAfter tac plan state machine later allocation
  lies_after next later own does_pools in_step allocation there = by (was_or_is tac state next own allocation there)
    where
      new_by : (later : P.State) → PoolStep tac plan slabs state machine later → InStep tac plan slabs next later → allocation ≡ state.next_heap → LiesAfter tac plan state machine later allocation
      new_by later (cost_paid _ same) in_step new =
          let stands = in_step.allocations allocation there in absurd (none_new later allocation stands.address same.placed new stands.is)
      new_by later (point_left at between reached after _ is reached_step effect can acted arrived) in_step new =
          let there_between : is_there (between.objects (OfHeap allocation)) ≡ true =
          subst (IsThereAt tac plan slabs kinds state machine step serving allocation) (sym own ∙ is) there in
          let first = new_effect between reached reached_step effect allocation new there_between in
          let pool = pool_for plan state machine first.0 in
          let second = lies_acted tac plan kinds between (actions_to tac plan reached at) reached after reached_step.regions.heap can acted allocation pool there_between first.3 in
          is_new first.0 first.1 first.2 new
          (subst (LiesAt tac plan slabs kinds state machine step serving allocation pool) arrived (lies_same after _ allocation pool refl refl second))
      new_by later (function_entered site number callee arguments function words reached _ at is found reached_step can acted) in_step new =
          let first = entered site number function words (passed_for plan state machine site) machine in
          let stands = in_step.allocations allocation there in
          absurd (none_new later allocation stands.address (placed_acted tac plan reached function.entering first later can acted) new stands.is)

      by : (is_there (state.objects (OfHeap allocation)) ≡ true) ⊎ (allocation ≡ state.next_heap) → LiesAfter tac plan state machine later allocation
      by (inl was) = lay was (λ pool lies. lies_on tac plan slabs kinds state machine step serving next later own does_pools allocation pool was there lies)
      by (inr new) = new_by later does_pools in_step new
