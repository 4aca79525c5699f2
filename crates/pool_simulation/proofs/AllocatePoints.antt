-- A point that allocates: an object is placed in the pool of its site, apart from all that lives, or the heap is exhausted, where all objects made so
-- far and the refused one need more slabs than there are; nothing is placed of 0 bytes.
use Rattle.std.proofs.Common.{◌≡◌, ℕ, zero, suc, ◌+◌, ◌%◌, ◌^◌, ◌<◌, ◌≤◌, Bool, true, false, List, [], ◌∷◌, ◌++◌, Some, ℤ, length, refl, sym, ap, subst, ◌∙◌, eq-eqb, ne_eqb, eqb-true, lt-ltb, arith}
use Rattle.std.specs.Prelude.{◌==◌, nat_lt, if◌then◌else◌}
use Rattle.std.proofs.lemmas.List.Sums.{sum_by-cons, sum_by-append}
use Rattle.run_theory.specs.Runs.{HeapExhausted, IndexExhausted, Move, Halt, Refused}
use Rattle.c_num.specs.declared.IntType.TheVariants as I
use Rattle.c_num.specs.Types.{is_value}
use Rattle.slab_space.specs.Runs.{need}
use Rattle.slab_space.specs.PoolSteps.{Allocation, placed, index_exhausted, heap_exhausted}
use Rattle.slab_space.specs.Pools.{Pools, pool_at, alloc_step, lives_of}
use Rattle.slab_space.specs.Needs.{needs, after_alloc}
use Rattle.slab_space.proofs.Exhausted.{exhaustion_tells_needs}
use Rattle.tac_ir.specs.declared.register.Register.TheVariants as R
use Rattle.tac_ir.specs.Values as V
use Rattle.tac_ir.specs.Values.{OfHeap, OfGlobal, OfLiteral, OfActivation, same_object, Value, NoAddress, Address, Content, Untyped}
use Rattle.tac_ir.specs.Events.{TacEvent, Made, Crossed}
use Rattle.tac_ir.specs.Objects.{is_there, extent_of, held_at}
use Rattle.tac_ir.specs.Trees.{computes}
use Rattle.tac_ir.specs.States as T
use Rattle.tac_ir.specs.States.{unless_lost}
use Rattle.tac_ir.specs.Calls.{natural_of, allocate}
use Rattle.tac_ir.specs.Code.{Tree, Tac}
use Rattle.tac_ir.specs.Code as O
use Rattle.pool_isa.specs.Machine.{fits_pool, number_of}
use Rattle.pool_ir.specs.Code.{PoolCode}
use Rattle.pool_ir.specs.Words.{word_in}
use Rattle.pool_ir.specs.States as P
use Rattle.pool_ir.specs.States.{Same}
use Rattle.pool_ir.specs.Memory.{slot_size}
use Rattle.pool_ir.specs.Meaning as M
use Rattle.pool_rewrite.specs.Plan.{Plan}
use Rattle.pool_rewrite.specs.Rewriting.{slot_of}
use Rattle.pool_rewrite.specs.Standing.{Stands, ContentStands}
use Rattle.pool_simulation.specs.Regions.{SameFrames}
use Rattle.pool_simulation.specs.Comparing.{made_in, pool_events}
use Rattle.pool_simulation.specs.InStep.{address_in, memory_in, IsOld, AllocationStands, InStep}
use Rattle.pool_simulation.proofs.TreeWords.{size_stands}
use Rattle.pool_simulation.proofs.PoolObjects.{lives_in_all}
use Rattle.pool_simulation.proofs.Allocations.{PlacedObject, placed_object, takes_suits, takes_fits, takes_lives, takes_enough, takes_not_index, number_new, number_still}
use Rattle.pool_simulation.proofs.Readable.{kept_number}
use Rattle.pool_simulation.proofs.PlannedCode.{does_given, does_unless}
use Rattle.pool_simulation.proofs.InStepWords.{same_append, activation_still, callers_still, no_effect, write_does}
use Rattle.pool_simulation.proofs.KeptObjects.{slot_some, Keeps, kept_still, kept_hold, kept_held, kept_content}
use Rattle.pool_simulation.proofs.MadeObjects.{older_start, newest_start, made_one}
use Rattle.pool_simulation.specs.Serving.{code_of, StandsAt, pool_for, Takes, object_placed}
use Rattle.pool_simulation.proofs.Stepping.{Ready, Does, refused, PointDoes}

-- ---- one object is new

new_holds : (size offset : ℕ) (value : Value) (content : Content) (b : Bool) → held_at offset (if b then Untyped size else content) ≡ Some value → held_at offset content ≡ Some value
new_holds size offset value content true is = absurd (cc)
new_holds size offset value content false is = is

-- the slabs that the objects made so far need, and one more
needs_one : (trace : List TacEvent) (site object size : ℕ) → needs (made_in (trace ++ Made site object size ∷ [])) ≡ need size + needs (made_in trace)
needs_one trace site object size =
    let all = ap needs (made_one trace site object size) ∙ sum_by-append need (made_in trace) (size ∷ []) in
    let last = sum_by-cons need size [] in
    omega (arith, all, last)

module _ (tac : Tac) (plan : Plan) (slabs : ℕ) (state : T.State) (machine : P.State) (ready : Ready tac plan slabs state machine) (site pool size address : ℕ) (pools : Pools) (some : 1 ≤ size)
    (takes : Takes machine.pools pool size) (does : alloc_step machine.pools pool size ≡ placed address pools) (one : PlacedObject machine.pools pool size address pools) where
  abbrev next : T.State
  next = T.emit (Made site state.next_heap size ∷ []) (T.store_content (OfHeap state.next_heap) (Untyped size) (record state { next_heap = suc state.next_heap }))

  abbrev later : P.State
  later = P.emit (P.Placed (suc (length machine.placed)) pool ∷ Same (Made site (suc (length machine.placed)) size) ∷ []) (record machine { pools = pools; placed = address ∷ machine.placed })

  step : InStep tac plan slabs state machine
  step = ready.in_step

  same_old : (object : V.Object) (offset : ℕ) → IsOld state (Address object offset) → next.objects object ≡ state.objects object
  same_old (OfHeap number) offset old = ap (λ b. if b then Untyped size else state.objects (OfHeap number)) (ne_eqb state.next_heap number (λ e. omega (arith, e, old)))
  same_old (OfGlobal number) offset old = refl
  same_old (OfLiteral number) offset old = refl
  same_old (OfActivation activation local) offset old = refl

  address_stays : (object : V.Object) (start : ℕ) → address_in tac plan state machine object ≡ Some start → address_in tac plan next later object ≡ Some start
  address_stays (OfHeap zero) start is = is
  address_stays (OfHeap (suc number)) start is = older_start machine.placed address number start is
  address_stays (OfGlobal number) start is = is
  address_stays (OfLiteral number) start is = is
  address_stays (OfActivation activation local) start is = is

  keeps : Keeps tac plan state machine next later
  keeps = record {
    heap = omega arith;
    activations = omega arith;
    same = λ object offset old there. same_old object offset old;
    address = address_stays;
    holds = λ object offset value is. new_holds size offset value (state.objects object) (same_object (OfHeap state.next_heap) object) is;
  }

  -- the new one
  new_address : address_in tac plan next later (OfHeap state.next_heap) ≡ Some address
  new_address = ap (λ n. address_in tac plan next later (OfHeap n)) step.next ∙ newest_start machine.placed address

  new_content : next.objects (OfHeap state.next_heap) ≡ Untyped size
  new_content = ap (λ b. if b then Untyped size else state.objects (OfHeap state.next_heap)) (eq-eqb state.next_heap state.next_heap refl)

  new_stands : AllocationStands tac plan next later state.next_heap
  new_stands = record {
    address = address;
    is = new_address;
    object = one.object;
    lives = lives_in_all pools pool one.object one.lives;
    begins = one.start;
    long = omega (arith, ap (extent_of tac.structs) new_content, takes_enough machine.pools pool size takes address pools some one);
    told = number_new machine.placed address ∙ sym step.next;
  }

  -- the others
  allocation_stays : (number : ℕ) → (state.next_heap == number) ≡ false → AllocationStands tac plan state machine number → AllocationStands tac plan next later number
  allocation_stays number other was = record {
    address = was.address;
    is = address_stays (OfHeap number) was.address was.is;
    object = was.object;
    lives = one.still was.object was.lives;
    begins = was.begins;
    long = subst (λ b. extent_of tac.structs (if b then Untyped size else state.objects (OfHeap number)) ≤ length was.object.bytes) (sym other) was.long;
    told =
        ap (number_of (address ∷ machine.placed)) (sym was.begins) ∙ number_still machine.pools pools pool size address machine.placed was.object one step.regions.heap was.lives
        ∙ ap (number_of machine.placed) was.begins ∙ was.told;
  }

  all_stand : (number : ℕ) → is_there (next.objects (OfHeap number)) ≡ true → AllocationStands tac plan next later number
  all_stand number there = by (state.next_heap == number) refl there
    where
      by : (b : Bool) → (state.next_heap == number) ≡ b → is_there (if b then Untyped size else state.objects (OfHeap number)) ≡ true → AllocationStands tac plan next later number
      by true same there = subst (λ n. AllocationStands tac plan next later n) (eqb-true state.next_heap number same) new_stands
      by false other there = allocation_stays number other (step.allocations number there)

  same_frames : SameFrames machine later
  same_frames = record { start = refl; kept = refl; bytes = refl; callers = refl; globals = refl }

  content_stays : (object : V.Object) → ContentStands tac.structs next.objects (memory_in tac plan next later) later object (next.objects object)
  content_stays object = by (same_object (OfHeap state.next_heap) object)
    where
      by : (b : Bool) → ContentStands tac.structs next.objects (memory_in tac plan next later) later object (if b then Untyped size else state.objects object)
      by true = tt
      by false =
          kept_content tac plan state machine next later keeps object (state.objects object) (λ there. let placed = ready.placed.there object there in (placed.0, placed.1)) (step.old object)
          (λ c_type count held offset own start found is leaf at read. kept_number machine later (start + offset) (slot_size (slot_of own)) found same_frames
          (λ loaded. one.loads (start + offset) (slot_size (slot_of own)) found (slot_some own) loaded) read)
          (step.contents object)

  pub placed_in_step : InStep tac plan slabs next later
  placed_in_step =
      let still = kept_still tac plan state machine next later keeps in
      let number : state.next_heap ≡ suc (length machine.placed) = step.next in
      record {
        running = activation_still tac plan state next (memory_in tac plan state machine) (memory_in tac plan next later) still state.running machine.running step.running;
        callers = callers_still tac plan state next (memory_in tac plan state machine) (memory_in tac plan next later) still state.callers machine.callers step.callers;
        owned = step.owned;
        globals = step.globals;
        literals = step.literals;
        allocations = all_stand;
        contents = content_stays;
        inside = kept_hold tac plan state machine next later keeps step.inside step.old;
        old = kept_held tac plan state machine next later keeps step.old;
        regions = record {
          globals = step.regions.globals;
          frames = step.regions.frames;
          below = step.regions.below;
          heap = record {
            slabs = step.regions.heap.slabs;
            sizes = size ∷ step.regions.heap.sizes;
            few = step.regions.heap.few;
            placed = after_alloc machine.pools pools step.regions.heap.sizes pool size address step.regions.heap.placed (takes_suits machine.pools pool size takes) does;
            kinds = one.heap.kinds;
          };
        };
        low = step.low;
        slabs_are = step.slabs_are;
        needed = omega (arith, sum_by-cons need size step.regions.heap.sizes, needs_one state.trace site state.next_heap size, step.needed);
        statics = step.statics;
        next = ap suc number;
        input = step.input;
        trace =
            same_append machine.trace (P.Placed (suc (length machine.placed)) pool ∷ Same (Made site (suc (length machine.placed)) size) ∷ [])
            ∙ ap (λ (trace : List TacEvent). trace ++ Made site (suc (length machine.placed)) size ∷ []) step.trace ∙ ap (λ n. state.trace ++ Made site n size ∷ []) (sym number);
        paid = step.paid;
      }

  -- the pointer to it
  pub new_pointer : Stands next.objects (memory_in tac plan next later) (Address (OfHeap state.next_heap) 0) (address % 2 ^ 64)
  new_pointer = λ there. (address, new_address, whole address (length one.object.bytes) one.high)
    where
      whole : (start long : ℕ) → start + long ≤ 2 ^ 45 → start % 2 ^ 64 ≡ start + 0
      whole start long end = omega (arith, end)

-- ---- the point

-- what an allocation comes to in the code with pools
abbrev allocates_as : PoolCode → ℕ → ℕ → ℕ → Allocation Pools → P.State → Move P.State
allocates_as code site pool bytes (placed address pools) state = P.write code (R.Call site) address (M.placed_at site pool bytes address pools state)
allocates_as code site pool bytes index_exhausted state = Halt IndexExhausted state
allocates_as code site pool bytes heap_exhausted state = Halt HeapExhausted state

allocates_is : (code : PoolCode) (site pool bytes : ℕ) (state : P.State) (result : Allocation Pools) → lives_of state.pools pool ≡ true → fits_pool (pool_at state.pools pool) bytes ≡ true
    → alloc_step state.pools pool bytes ≡ result → M.allocates code site pool bytes state ≡ allocates_as code site pool bytes result state
allocates_is code site pool bytes state (placed address pools) lives fits is = rw (lives, fits, is) refl
allocates_is code site pool bytes state index_exhausted lives fits is = rw (lives, fits, is) refl
allocates_is code site pool bytes state heap_exhausted lives fits is = rw (lives, fits, is) refl

module _ (tac : Tac) (plan : Plan) (slabs : ℕ) (state : T.State) (machine : P.State) (ready : Ready tac plan slabs state machine) (site : ℕ) (size : Tree)
    (at : StandsAt tac state (O.Allocate site size)) where
  known : InStep tac plan slabs state machine
  known = ready.in_step

  abbrev pool : ℕ
  pool = pool_for plan state machine site

  machine_does : (bytes : ℕ) (takes : Takes machine.pools pool bytes) (result : Allocation Pools) → alloc_step machine.pools pool bytes ≡ result
      → M.allocates (code_of tac plan) site pool bytes machine ≡ allocates_as (code_of tac plan) site pool bytes result machine
  machine_does bytes takes result is =
      allocates_is (code_of tac plan) site pool bytes machine result (takes_lives machine.pools pool bytes takes) (takes_fits machine.pools pool bytes takes) is

  -- the heap refuses it
  exhausted : (bytes : ℕ) (rest : List TacEvent) (takes : Takes machine.pools pool bytes) → alloc_step machine.pools pool bytes ≡ heap_exhausted
      → Refused (pool_events slabs) HeapExhausted machine.trace ((state.trace ++ Made site state.next_heap bytes ∷ []) ++ rest)
  exhausted bytes rest takes is =
      let heap = known.regions.heap in
      let more = exhaustion_tells_needs heap.slabs machine.pools heap.sizes pool bytes heap.placed (takes_lives machine.pools pool bytes takes) (takes_suits machine.pools pool bytes takes) is in
      let all : slabs < needs (bytes ∷ made_in state.trace) =
      omega (arith, more, known.slabs_are, known.needed, sum_by-cons need bytes heap.sizes, sum_by-cons need bytes (made_in state.trace)) in
      record {
        event = Made site state.next_heap bytes;
        refused = ap (λ (trace : List TacEvent). nat_lt slabs (needs (bytes ∷ made_in trace))) known.trace ∙ lt-ltb slabs (needs (bytes ∷ made_in state.trace)) all;
        next = (rest, ap (λ (trace : List TacEvent). (trace ++ Made site state.next_heap bytes ∷ []) ++ rest) (sym known.trace));
      }

  -- a byte or more
  allocate_some : (bytes : ℕ) (takes : Takes machine.pools pool (suc bytes)) (result : Allocation Pools) → alloc_step machine.pools pool (suc bytes) ≡ result
      → Does tac plan slabs state machine (allocate site (suc bytes) state) (allocates_as (code_of tac plan) site pool (suc bytes) result machine)
  allocate_some bytes takes (placed address pools) is =
      let one = placed_object machine.pools pools pool (suc bytes) address known.regions.heap (takes_suits machine.pools pool (suc bytes) takes) (omega arith) is in
      let effect = object_placed site size (suc bytes) address pools (M.placed_at site pool (suc bytes) address pools machine) at (omega arith) takes is
      (record { owner = refl; descriptors = refl; at = refl; callers = refl; pools = refl; placed = refl }) in
      write_does tac plan slabs state machine _ _ effect (placed_in_step tac plan slabs state machine ready site pool (suc bytes) address pools (omega arith) takes is one) (R.Call site)
      (Address (OfHeap state.next_heap) 0) address (new_pointer tac plan slabs state machine ready site pool (suc bytes) address pools (omega arith) takes is one) (λ there. omega arith) (omega arith)
  allocate_some bytes takes index_exhausted is = absurd (takes_not_index machine.pools pool (suc bytes) takes (omega arith) is)
  allocate_some bytes takes heap_exhausted is = refused _ machine (exhausted (suc bytes) (Crossed state.running.at (suc state.running.at) ∷ []) takes is)

  allocate_size : (bytes : ℕ) → Takes machine.pools pool bytes → Does tac plan slabs state machine (allocate site bytes state) (M.allocates (code_of tac plan) site pool bytes machine)
  allocate_size zero takes =
      subst (Does tac plan slabs state machine (allocate site zero state)) (sym (machine_does zero takes (placed 0 machine.pools) refl))
      (write_does tac plan slabs state machine state machine (no_effect tac plan state machine) known (R.Call site) NoAddress 0 refl tt tt)
  allocate_size (suc bytes) takes =
      let result = alloc_step machine.pools pool (suc bytes) in
      subst (Does tac plan slabs state machine (allocate site (suc bytes) state)) (sym (machine_does (suc bytes) takes result refl)) (allocate_some bytes takes result refl)

  pub allocate_does : PointDoes tac plan slabs state machine (O.Allocate site size)
  allocate_does =
      let words = machine.running.words in
      let then_does = λ (z : ℤ). unless_lost (is_value I.ULong z) state (allocate site (natural_of z) state) in
      does_given tac plan slabs machine (computes state.running.registers size) state then_does (M.allocates (code_of tac plan) site pool (word_in words size) machine)
      (λ z is. does_unless tac plan slabs machine (is_value I.ULong z) state (allocate site (natural_of z) state) (M.allocates (code_of tac plan) site pool (word_in words size) machine)
      (λ fits. subst (λ n. Does tac plan slabs state machine (allocate site (natural_of z) state) (M.allocates (code_of tac plan) site pool n machine))
      (sym (size_stands state.objects (memory_in tac plan state machine) state.running.registers words size z known.running.words is fits))
      (allocate_size (natural_of z) (ready.serving.allocates site size z at is fits))))
