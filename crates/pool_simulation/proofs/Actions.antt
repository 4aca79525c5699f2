-- Pools made and destroyed: all that is there stays where it is, and so states stay in step.
use Rattle.std.proofs.Common.{◌≡◌, ℕ, suc, ◌+◌, ◌-◌, ◌*◌, ◌^◌, ◌<◌, ◌≤◌, Bool, true, List, [], ◌∷◌, ◌++◌, Option, Some, length, refl, sym, ap, subst, ◌∙◌, arith, append-nil}
use Rattle.std.specs.Prelude.{if◌then◌else◌, slice_get, option_map}
use Rattle.std.specs.List.{AllByRecursion}
use Rattle.std.proofs.lemmas.Option.{same_Some, none-some}
use Rattle.run_theory.specs.declared.ends.TrapKind.TheVariants as traps
use Rattle.run_theory.specs.Runs.{Move}
use Rattle.run_theory.specs.Words.{word_at}
use Rattle.c_typed.specs.Types.{CType}
use Rattle.slab_space.specs.declared.kind.PoolKind.{PoolKind}
use Rattle.slab_space.specs.Pool.{Object, IsKind}
use Rattle.slab_space.specs.Pools.{Pools, init_step, destroy_step, load_step, lives_of}
use Rattle.slab_space.specs.Needs.{HavePlaced, after_init, after_destroy}
use Rattle.tac_ir.specs.Values as V
use Rattle.tac_ir.specs.Values.{OfHeap, OfGlobal, OfLiteral, OfActivation, Value, Typed}
use Rattle.tac_ir.specs.Events.{TacEvent}
use Rattle.tac_ir.specs.Layouts.{size_of, leaf_at}
use Rattle.tac_ir.specs.Objects.{is_there, extent_of}
use Rattle.tac_ir.specs.States as T
use Rattle.tac_ir.specs.Code.{Tac}
use Rattle.tac_ir.proofs.Activations.{IsStacked}
use Rattle.pool_isa.specs.Machine.{globals_start}
use Rattle.pool_ir.specs.Code.{Action, Make, Destroy}
use Rattle.pool_ir.specs.States as P
use Rattle.pool_ir.specs.States.{PoolEvent, Opened, Closed, with_descriptor}
use Rattle.pool_ir.specs.Memory.{number_at, slot_size}
use Rattle.pool_rewrite.specs.Plan.{Plan}
use Rattle.pool_rewrite.specs.Rewriting.{slot_of}
use Rattle.pool_rewrite.specs.Standing.{ContentStands}
use Rattle.pool_simulation.specs.Regions.{IsIn, Lives, LivesIn, OfKind, SoundHeap, SameFrames}
use Rattle.pool_simulation.specs.InStep.{address_in, memory_in, AllocationStands, InStep}
use Rattle.pool_simulation.specs.Serving.{code_of, LiesIn, HoldsNone, pool_made, pool_destroyed, CanAct}
use Rattle.pool_simulation.proofs.PoolObjects.{lives_in_all, init_objects}
use Rattle.pool_simulation.proofs.Allocations.{live_loads, same_start, opened_heap, opened_loads, closed_heap, closed_kept, closed_loads}
use Rattle.pool_simulation.proofs.Readable.{kept_number}
use Rattle.pool_simulation.proofs.InStepWords.{same_append, activation_still, callers_still, stacked_alike}
use Rattle.pool_simulation.proofs.KeptObjects.{slot_some, leaf_inside, Keeps, kept_still, kept_content}
use Rattle.pool_simulation.proofs.ObjectPlaces.{place_in, below_heap, local_place, global_place, literal_place}
use Rattle.pool_simulation.proofs.Readiness.{objects_placed}

-- ---- other pools

abbrev pub with_pools : (ℕ → ℕ) → Pools → List PoolEvent → P.State → P.State
with_pools descriptors pools trace machine = record machine { running = record machine.running { descriptors = descriptors }; pools = pools; trace = trace }

pub acted_addresses : (tac : Tac) (plan : Plan) (state : T.State) (machine : P.State) (descriptors : ℕ → ℕ) (pools : Pools) (trace : List PoolEvent) (object : V.Object)
    → address_in tac plan state (with_pools descriptors pools trace machine) object ≡ address_in tac plan state machine object
acted_addresses tac plan state machine descriptors pools trace (OfHeap number) = refl
acted_addresses tac plan state machine descriptors pools trace (OfGlobal number) = refl
acted_addresses tac plan state machine descriptors pools trace (OfLiteral number) = refl
acted_addresses tac plan state machine descriptors pools trace (OfActivation activation local) = refl

-- nothing is loaded from the heap below it
low_loads : (pools : Pools) (address size found : ℕ) → SoundHeap pools → address < 2 ^ 44 → load_step pools address size ≡ Some found → ⊥
low_loads pools address size found heap low loaded =
    none-some found (sym (ap (option_map (λ (o : Object). word_at o.bytes (address - o.start) size)) (below_heap pools address size heap low)) ∙ loaded)

-- the pools change, but all that is there lives on and is read as before
module _ (tac : Tac) (plan : Plan) (slabs : ℕ) (state : T.State) (machine : P.State) (stacked : IsStacked tac state) (step : InStep tac plan slabs state machine)
    (descriptors : ℕ → ℕ) (pools : Pools) (trace : List PoolEvent) (same_trace : P.same trace ≡ P.same machine.trace)
    (placed : HavePlaced step.regions.heap.slabs pools step.regions.heap.sizes) (kinds : AllByRecursion OfKind pools.pools)
    (lives : (number : ℕ) → is_there (state.objects (OfHeap number)) ≡ true → (stands : AllocationStands tac plan state machine number) → Lives pools stands.object)
    (loads : (number : ℕ) → is_there (state.objects (OfHeap number)) ≡ true → (stands : AllocationStands tac plan state machine number) (address size found : ℕ) → stands.object.start ≤ address
    → address + size ≤ stands.object.start + length stands.object.bytes → 1 ≤ size → load_step machine.pools address size ≡ Some found → load_step pools address size ≡ Some found) where
  abbrev later : P.State
  later = with_pools descriptors pools trace machine

  same_frames : SameFrames machine later
  same_frames = record { start = refl; kept = refl; bytes = refl; callers = refl; globals = refl }

  addresses : (object : V.Object) → address_in tac plan state later object ≡ address_in tac plan state machine object
  addresses object = acted_addresses tac plan state machine descriptors pools trace object

  keeps : Keeps tac plan state machine state later
  keeps = record {
    heap = omega arith;
    activations = omega arith;
    same = λ object offset old there. refl;
    address = λ object address is. addresses object ∙ is;
    holds = λ object offset value is. is;
  }

  loads_by : (object : V.Object) (address offset size found : ℕ) → is_there (state.objects object) ≡ true → address_in tac plan state machine object ≡ Some address
      → offset + size ≤ extent_of tac.structs (state.objects object) → 1 ≤ size → load_step machine.pools (address + offset) size ≡ Some found → load_step pools (address + offset) size ≡ Some found
  loads_by (OfHeap number) address offset size found there at within some loaded =
      let stands = step.allocations number there in
      let start : stands.object.start ≡ address = stands.begins ∙ same_Some stands.address address (sym stands.is ∙ at) in
      loads number there stands (address + offset) size found (omega (arith, start)) (omega (arith, start, within, stands.long)) some loaded
  loads_by (OfGlobal number) address offset size found there at within some loaded =
      let place = global_place tac plan slabs state machine stacked step number there in
      absurd (low_loads machine.pools (address + offset) size found step.regions.heap
      (omega (arith, place.within, place.high, same_Some (globals_start + place.offset) address (sym place.is ∙ at), within, some)) loaded)
  loads_by (OfLiteral number) address offset size found there at within some loaded =
      let place = literal_place tac plan slabs state machine stacked step number there in
      absurd (low_loads machine.pools (address + offset) size found step.regions.heap
      (omega (arith, place.within, place.high, same_Some (globals_start + place.offset) address (sym place.is ∙ at), within, some)) loaded)
  loads_by (OfActivation activation local) address offset size found there at within some loaded =
      let place = local_place tac plan slabs state machine stacked step activation local there in
      absurd (low_loads machine.pools (address + offset) size found step.regions.heap
      (omega (arith, place.within, place.high, same_Some (place.own.start + place_in tac plan place.owner local) address (sym place.is ∙ at), within, some)) loaded)

  reads : (object : V.Object) (c_type : CType) (count : ℕ) (held : ℕ → Option Value) (offset : ℕ) (own : CType) (address found : ℕ) → state.objects object ≡ Typed c_type count held
      → leaf_at tac.structs c_type count offset ≡ Some own → address_in tac plan state machine object ≡ Some address → number_at machine (address + offset) (slot_size (slot_of own)) ≡ Some found
      → number_at later (address + offset) (slot_size (slot_of own)) ≡ Some found
  reads object c_type count held offset own address found is leaf at read =
      let there : is_there (state.objects object) ≡ true = ap is_there is in
      let lies = (objects_placed tac plan slabs state machine stacked step).there object there in
      let extent : extent_of tac.structs (state.objects object) ≡ count * size_of tac.structs c_type = ap (extent_of tac.structs) is in
      let within = leaf_inside tac.structs c_type count offset own (omega (arith, lies.3, extent)) leaf in
      kept_number machine later (address + offset) (slot_size (slot_of own)) found same_frames
      (λ loaded. loads_by object address offset (slot_size (slot_of own)) found there at (omega (arith, within, extent)) (slot_some own) loaded) read

  contents : (object : V.Object) → ContentStands tac.structs state.objects (memory_in tac plan state later) later object (state.objects object)
  contents object =
      kept_content tac plan state machine state later keeps object (state.objects object)
      (λ there. let lies = (objects_placed tac plan slabs state machine stacked step).there object there in (lies.0, lies.1)) (step.old object) (reads object) (step.contents object)

  allocation : (number : ℕ) → is_there (state.objects (OfHeap number)) ≡ true → AllocationStands tac plan state later number
  allocation number there =
      let stands = step.allocations number there in
      record {
        address = stands.address;
        is = stands.is;
        object = stands.object;
        lives = lives number there stands;
        begins = stands.begins;
        long = stands.long;
        told = stands.told;
      }

  pub pools_in_step : InStep tac plan slabs state later
  pools_in_step =
      let still = kept_still tac plan state machine state later keeps in
      let running = activation_still tac plan state state (memory_in tac plan state machine) (memory_in tac plan state later) still state.running machine.running step.running in
      record {
        running = record { owner = running.owner; at = running.at; kept = running.kept; words = running.words; inside = running.inside; old = running.old; long = running.long };
        callers = callers_still tac plan state state (memory_in tac plan state machine) (memory_in tac plan state later) still state.callers machine.callers step.callers;
        owned = step.owned;
        globals = step.globals;
        literals = step.literals;
        allocations = allocation;
        contents = contents;
        inside = step.inside;
        old = step.old;
        regions = record {
          globals = step.regions.globals;
          frames = stacked_alike machine.running later.running machine.callers refl step.regions.frames;
          below = step.regions.below;
          heap = record { slabs = step.regions.heap.slabs; sizes = step.regions.heap.sizes; few = step.regions.heap.few; placed = placed; kinds = kinds };
        };
        low = step.low;
        slabs_are = step.slabs_are;
        needed = step.needed;
        statics = step.statics;
        next = step.next;
        input = step.input;
        trace = same_trace ∙ step.trace;
        paid = step.paid;
      }

-- ---- one action

-- an event that three-address code has not
unseen : (trace : List PoolEvent) (event : PoolEvent) → P.same_of event ≡ [] → P.same (trace ++ event ∷ []) ≡ P.same trace
unseen trace event none =
    same_append trace (event ∷ []) ∙ ap (λ (events : List TacEvent). P.same trace ++ (events ++ [])) none ∙ append-nil (P.same trace)

-- the object of an allocation is that which lies in a pool
pub lying_object : (tac : Tac) (plan : Plan) (state : T.State) (machine : P.State) (number pool : ℕ) → SoundHeap machine.pools → (stands : AllocationStands tac plan state machine number)
    (lies : LiesIn machine number pool) → lies.object ≡ stands.object
lying_object tac plan state machine number pool heap stands lies =
    same_start machine.pools lies.object stands.object heap (lives_in_all machine.pools pool lies.object lies.lives) stands.lives
    (same_Some lies.object.start stands.object.start (sym lies.is ∙ stands.is ∙ ap Some (sym stands.begins)))

module _ (tac : Tac) (plan : Plan) (slabs : ℕ) (state : T.State) (machine : P.State) (stacked : IsStacked tac state) (step : InStep tac plan slabs state machine) where
  made_in_step : (descriptor number : ℕ) (kind : PoolKind) → IsKind kind → InStep tac plan slabs state (pool_made descriptor number kind machine)
  made_in_step descriptor number kind is =
      let pool = suc (length machine.pools.pools) in
      pools_in_step tac plan slabs state machine stacked step (with_descriptor descriptor pool machine.running.descriptors) (init_step machine.pools kind) (machine.trace ++ Opened pool number ∷ [])
      (unseen machine.trace (Opened pool number) refl) (after_init machine.pools step.regions.heap.sizes kind step.regions.heap.placed) (opened_heap machine.pools kind step.regions.heap is).kinds
      (λ number there stands. subst (IsIn stands.object) (sym (init_objects machine.pools kind)) stands.lives)
      (λ number there stands address size found low high some loaded. opened_loads machine.pools kind address size ∙ loaded)

  destroyed_in_step : (pool : ℕ) → HoldsNone state machine pool → InStep tac plan slabs state (pool_destroyed pool machine)
  destroyed_in_step pool none =
      pools_in_step tac plan slabs state machine stacked step machine.running.descriptors (destroy_step machine.pools pool) (machine.trace ++ Closed pool ∷ []) (unseen machine.trace (Closed pool) refl)
      (after_destroy machine.pools step.regions.heap.sizes pool step.regions.heap.placed) (closed_heap machine.pools pool step.regions.heap).kinds
      (λ number there stands.
      let other = none number there in
      lives_in_all (destroy_step machine.pools pool) other.0 stands.object (closed_kept machine.pools pool other.0 stands.object other.1 (lives_there number stands other.0 other.2)))
      (λ number there stands address size found low high some loaded.
      let other = none number there in
      closed_loads machine.pools pool other.0 stands.object address size step.regions.heap other.1 (lives_there number stands other.0 other.2) low high some
      ∙ sym (live_loads machine.pools stands.object address size step.regions.heap stands.lives low high some) ∙ loaded)
    where
      lives_there : (number : ℕ) (stands : AllocationStands tac plan state machine number) (other : ℕ) → LiesIn machine number other → LivesIn machine.pools other stands.object
      lives_there number stands other lies =
          subst (LivesIn machine.pools other) (lying_object tac plan state machine number other step.regions.heap stands lies) lies.lives

-- ---- actions one after another

-- What actions come to: other descriptors and pools, and more events, in step as before.
pub record Acted (tac : Tac) (plan : Plan) (slabs : ℕ) (state : T.State) (machine : P.State) (actions : List Action) : Type 0 where
  pub descriptors : ℕ → ℕ
  pub pools : Pools
  pub trace : List PoolEvent
  pub goes : (next : P.State → Move P.State) → P.acts (code_of tac plan) actions machine next ≡ next (with_pools descriptors pools trace machine)
  pub in_step : InStep tac plan slabs state (with_pools descriptors pools trace machine)

pub made_goes : (tac : Tac) (plan : Plan) (descriptor number : ℕ) (kind : PoolKind) (others : List Action) (machine : P.State) (next : P.State → Move P.State) → slice_get plan.kinds number ≡ Some kind
    → P.acts (code_of tac plan) (Make descriptor number ∷ others) machine next ≡ P.acts (code_of tac plan) others (pool_made descriptor number kind machine) next
made_goes tac plan descriptor number kind others machine next is =
    ap (λ (found : Option PoolKind). P.opens descriptor number found machine (λ (later : P.State). P.acts (code_of tac plan) others later next)) is

pub destroyed_goes : (tac : Tac) (plan : Plan) (descriptor : ℕ) (others : List Action) (machine : P.State) (next : P.State → Move P.State)
    → lives_of machine.pools (machine.running.descriptors descriptor) ≡ true
    → P.acts (code_of tac plan) (Destroy descriptor ∷ others) machine next ≡ P.acts (code_of tac plan) others (pool_destroyed (machine.running.descriptors descriptor) machine) next
destroyed_goes tac plan descriptor others machine next lives =
    ap (λ (b : Bool). if b then P.acts (code_of tac plan) others (pool_destroyed (machine.running.descriptors descriptor) machine) next else P.trap traps.BadPool machine) lives

pub actions_done : (tac : Tac) (plan : Plan) (slabs : ℕ) → ((number : ℕ) (kind : PoolKind) → slice_get plan.kinds number ≡ Some kind → IsKind kind) → (state : T.State) → IsStacked tac state
    → (actions : List Action) (machine : P.State) → InStep tac plan slabs state machine → CanAct (code_of tac plan) state actions machine → Acted tac plan slabs state machine actions
actions_done tac plan slabs kinds state stacked [] machine step can =
    record { descriptors = machine.running.descriptors; pools = machine.pools; trace = machine.trace; goes = λ next. refl; in_step = step }
actions_done tac plan slabs kinds state stacked (Make descriptor number ∷ others) machine step can =
    let now = made_in_step tac plan slabs state machine stacked step descriptor number can.0 (kinds number can.0 can.1) in
    let rest = actions_done tac plan slabs kinds state stacked others (pool_made descriptor number can.0 machine) now can.2 in
    record {
      descriptors = rest.descriptors;
      pools = rest.pools;
      trace = rest.trace;
      goes = λ next. made_goes tac plan descriptor number can.0 others machine next can.1 ∙ rest.goes next;
      in_step = rest.in_step;
    }
actions_done tac plan slabs kinds state stacked (Destroy descriptor ∷ others) machine step can =
    let pool = machine.running.descriptors descriptor in
    let now = destroyed_in_step tac plan slabs state machine stacked step pool can.1 in
    let rest = actions_done tac plan slabs kinds state stacked others (pool_destroyed pool machine) now can.2 in
    record {
      descriptors = rest.descriptors;
      pools = rest.pools;
      trace = rest.trace;
      goes = λ next. destroyed_goes tac plan descriptor others machine next can.0 ∙ rest.goes next;
      in_step = rest.in_step;
    }
