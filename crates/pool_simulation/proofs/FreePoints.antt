-- A point that frees: the beginning of an allocation that is there is where its live object begins, and that object is freed; nothing is done
-- for the null pointer.
use Rattle.std.proofs.Common.{◌≡◌, ℕ, zero, suc, ◌+◌, ◌*◌, ◌^◌, ◌≤◌, ◌⊎◌, ◌≢◌, inl, inr, Bool, true, false, List, [], ◌∷◌, ◌++◌, Option, Some, None, length, refl, sym, ap, subst, ◌∙◌, eq-eqb, ne_eqb, arith}
use Rattle.std.specs.Prelude.{◌==◌, is_some, if◌then◌else◌}
use Rattle.std.proofs.lemmas.Bool.{false≢true}
use Rattle.std.proofs.lemmas.Option.{same_Some}
use Rattle.run_theory.specs.declared.ends.TrapKind.TheVariants as traps
use Rattle.run_theory.specs.Runs.{Move}
use Rattle.c_typed.specs.Types.{CType}
use Rattle.slab_space.specs.Pool.{Pool, Object}
use Rattle.slab_space.specs.Pools.{Pools, pool_at, free_step, objects_of, lives_of}
use Rattle.slab_space.specs.Needs.{needs, after_free}
use Rattle.tac_ir.specs.declared.register.Register.{Register}
use Rattle.tac_ir.specs.Values as V
use Rattle.tac_ir.specs.Values.{OfHeap, OfGlobal, OfLiteral, OfActivation, same_object, Value, Number, NoAddress, Code, Address, Content, Absent, Typed}
use Rattle.tac_ir.specs.Events.{TacEvent, Released}
use Rattle.tac_ir.specs.Layouts.{size_of, leaf_at}
use Rattle.tac_ir.specs.Objects.{is_there, extent_of, held_at}
use Rattle.tac_ir.specs.States as T
use Rattle.tac_ir.specs.Calls.{free}
use Rattle.tac_ir.specs.Code.{Tac}
use Rattle.tac_ir.specs.Code as O
use Rattle.pool_isa.specs.Machine.{globals_start, number_of}
use Rattle.pool_ir.specs.Code.{PoolCode}
use Rattle.pool_ir.specs.States as P
use Rattle.pool_ir.specs.States.{Same}
use Rattle.pool_ir.specs.Memory.{number_at, slot_size}
use Rattle.pool_ir.specs.Meaning as M
use Rattle.pool_rewrite.specs.Plan.{Plan}
use Rattle.pool_rewrite.specs.Rewriting.{slot_of}
use Rattle.pool_rewrite.specs.Standing.{Stands, ContentStands}
use Rattle.pool_simulation.specs.Regions.{AreApart, IsIn, LivesIn, SameFrames}
use Rattle.pool_simulation.specs.InStep.{address_in, memory_in, AllocationStands, InStep}
use Rattle.pool_simulation.proofs.Allocations.{live_inside, live_apart, FreedObject, live_freed}
use Rattle.pool_simulation.proofs.Readable.{kept_number}
use Rattle.pool_simulation.proofs.PlannedCode.{same_more, made_more, does_given, does_unless}
use Rattle.pool_simulation.proofs.InStepWords.{activation_still, callers_still, no_effect, go_on_does}
use Rattle.pool_simulation.proofs.KeptObjects.{slot_some, leaf_inside, Keeps, kept_still, kept_hold, kept_held, kept_content}
use Rattle.pool_simulation.proofs.Actions.{lying_object}
use Rattle.pool_simulation.proofs.ObjectPlaces.{place_in, local_place, global_place, literal_place}
use Rattle.pool_simulation.specs.Serving.{code_of, StandsAt, pool_for, LiesIn, object_freed}
use Rattle.pool_simulation.proofs.Stepping.{Ready, Does, wrong, PointDoes}

-- ---- one object is gone

gone_same : (content : Content) (b : Bool) → is_there (if b then Absent else content) ≡ true → (if b then Absent else content) ≡ content
gone_same content true there = absurd (false≢true there)
gone_same content false there = refl

gone_holds : (offset : ℕ) (value : Value) (content : Content) (b : Bool) → held_at offset (if b then Absent else content) ≡ Some value → held_at offset content ≡ Some value
gone_holds offset value content true is = absurd (cc)
gone_holds offset value content false is = is

module _ (tac : Tac) (plan : Plan) (slabs : ℕ) (state : T.State) (machine : P.State) (ready : Ready tac plan slabs state machine) (site pool number : ℕ) (mine : AllocationStands tac plan state machine number) (pools : Pools)
    (freed : free_step machine.pools pool mine.object.start ≡ Some pools) (one : FreedObject machine.pools pool mine.object pools) where
  abbrev next : T.State
  next = T.emit (Released site number ∷ []) (T.store_content (OfHeap number) Absent state)

  abbrev later : P.State
  later = P.emit (Same (Released site number) ∷ []) (record machine { pools = pools })

  step : InStep tac plan slabs state machine
  step = ready.in_step

  addresses_stay : (object : V.Object) → address_in tac plan next later object ≡ address_in tac plan state machine object
  addresses_stay (OfHeap zero) = refl
  addresses_stay (OfHeap (suc number)) = refl
  addresses_stay (OfGlobal number) = refl
  addresses_stay (OfLiteral number) = refl
  addresses_stay (OfActivation activation local) = refl

  keeps : Keeps tac plan state machine next later
  keeps = record {
    heap = omega arith;
    activations = omega arith;
    same = λ object offset old there. gone_same (state.objects object) (same_object (OfHeap number) object) there;
    address = λ object address is. addresses_stay object ∙ is;
    holds = λ object offset value is. gone_holds offset value (state.objects object) (same_object (OfHeap number) object) is;
  }

  -- another allocation that is there has another object
  other_starts : (other : ℕ) (was : AllocationStands tac plan state machine other) → number ≢ other → was.object.start ≢ mine.object.start
  other_starts other was differs same =
      let address : mine.address ≡ was.address = sym mine.begins ∙ sym same ∙ was.begins in
      differs (sym mine.told ∙ ap (number_of machine.placed) address ∙ was.told)

  allocation_stays : (other : ℕ) → is_there (next.objects (OfHeap other)) ≡ true → AllocationStands tac plan next later other
  allocation_stays other there =
      let same = gone_same (state.objects (OfHeap other)) (number == other) there in
      let was = step.allocations other (ap is_there (sym same) ∙ there) in
      let differs : number ≢ other =
      λ e. false≢true (sym (ap (λ b. is_there (if b then Absent else state.objects (OfHeap other))) (eq-eqb number other e)) ∙ there) in
      record {
        address = was.address;
        is = addresses_stay (OfHeap other) ∙ was.is;
        object = was.object;
        lives = one.still was.object was.lives (other_starts other was differs);
        begins = was.begins;
        long = subst (λ content. extent_of tac.structs content ≤ length was.object.bytes) (sym same) was.long;
        told = was.told;
      }

  mine_low : 2 ^ 44 ≤ mine.object.start
  mine_low = (live_inside machine.pools mine.object step.regions.heap mine.lives).1

  -- the bytes of another object are none of those that are freed
  range_apart : (object : V.Object) (address offset size : ℕ) → same_object (OfHeap number) object ≡ false → is_there (state.objects object) ≡ true → address_in tac plan state machine object ≡ Some address
      → offset + size ≤ extent_of tac.structs (state.objects object) → AreApart mine.object.start (length mine.object.bytes) (address + offset) size
  range_apart (OfHeap other) address offset size differs there at within =
      by (live_apart machine.pools mine.object was.object step.regions.heap mine.lives was.lives)
    where
      was : AllocationStands tac plan state machine other
      was = step.allocations other there

      apart : number ≢ other
      apart e = false≢true (sym differs ∙ eq-eqb number other e)

      start : was.object.start ≡ address
      start = was.begins ∙ same_Some was.address address (sym was.is ∙ at)

      by : (mine.object ≡ was.object) ⊎ AreApart mine.object.start (length mine.object.bytes) was.object.start (length was.object.bytes)
          → AreApart mine.object.start (length mine.object.bytes) (address + offset) size
      by (inl same) = absurd (other_starts other was apart (ap (λ (o : Object). o.start) (sym same)))
      by (inr (inl behind)) = inl (omega (arith, behind, start))
      by (inr (inr before)) = inr (omega (arith, before, start, within, was.long))
  range_apart (OfGlobal other) address offset size differs there at within =
      let place = global_place tac plan slabs state machine ready.stacked step other there in
      inr (omega (arith, place.within, place.high, same_Some (globals_start + place.offset) address (sym place.is ∙ at), within, mine_low))
  range_apart (OfLiteral other) address offset size differs there at within =
      let place = literal_place tac plan slabs state machine ready.stacked step other there in
      inr (omega (arith, place.within, place.high, same_Some (globals_start + place.offset) address (sym place.is ∙ at), within, mine_low))
  range_apart (OfActivation activation local) address offset size differs there at within =
      let place = local_place tac plan slabs state machine ready.stacked step activation local there in
      inr (omega (arith, place.within, place.high, same_Some (place.own.start + place_in tac plan place.owner local) address (sym place.is ∙ at), within, mine_low))

  same_frames : SameFrames machine later
  same_frames = record { start = refl; kept = refl; bytes = refl; callers = refl; globals = refl }

  -- and are read as before
  reads_stay : (object : V.Object) → same_object (OfHeap number) object ≡ false → (c_type : CType) (count : ℕ) (held : ℕ → Option Value) (offset : ℕ) (own : CType) (address found : ℕ)
      → state.objects object ≡ Typed c_type count held → leaf_at tac.structs c_type count offset ≡ Some own → address_in tac plan state machine object ≡ Some address
      → number_at machine (address + offset) (slot_size (slot_of own)) ≡ Some found → number_at later (address + offset) (slot_size (slot_of own)) ≡ Some found
  reads_stay object differs c_type count held offset own address found is leaf at read =
      let there : is_there (state.objects object) ≡ true = ap is_there is in
      let placed = ready.placed.there object there in
      let extent : extent_of tac.structs (state.objects object) ≡ count * size_of tac.structs c_type = ap (extent_of tac.structs) is in
      let within = leaf_inside tac.structs c_type count offset own (omega (arith, placed.3, extent)) leaf in
      let apart = range_apart object address offset (slot_size (slot_of own)) differs there at (omega (arith, within, extent)) in
      kept_number machine later (address + offset) (slot_size (slot_of own)) found same_frames (λ loaded. one.loads (address + offset) (slot_size (slot_of own)) found (slot_some own) apart loaded) read

  content_stays : (object : V.Object) → ContentStands tac.structs next.objects (memory_in tac plan next later) later object (next.objects object)
  content_stays object = by (same_object (OfHeap number) object) refl
    where
      by : (b : Bool) → same_object (OfHeap number) object ≡ b → ContentStands tac.structs next.objects (memory_in tac plan next later) later object (if b then Absent else state.objects object)
      by true same = tt
      by false differs =
          kept_content tac plan state machine next later keeps object (state.objects object) (λ there. let placed = ready.placed.there object there in (placed.0, placed.1)) (step.old object) (reads_stay object differs)
          (step.contents object)

  pub freed_in_step : InStep tac plan slabs next later
  freed_in_step =
      let still = kept_still tac plan state machine next later keeps in
      record {
        running = activation_still tac plan state next (memory_in tac plan state machine) (memory_in tac plan next later) still state.running machine.running step.running;
        callers = callers_still tac plan state next (memory_in tac plan state machine) (memory_in tac plan next later) still state.callers machine.callers step.callers;
        owned = step.owned;
        globals = step.globals;
        literals = step.literals;
        allocations = allocation_stays;
        contents = content_stays;
        inside = kept_hold tac plan state machine next later keeps step.inside step.old;
        old = kept_held tac plan state machine next later keeps step.old;
        regions = record {
          globals = step.regions.globals;
          frames = step.regions.frames;
          below = step.regions.below;
          heap = record {
            slabs = step.regions.heap.slabs;
            sizes = step.regions.heap.sizes;
            few = step.regions.heap.few;
            placed = after_free machine.pools pools step.regions.heap.sizes pool mine.object.start step.regions.heap.placed freed;
            kinds = one.heap.kinds;
          };
        };
        low = step.low;
        slabs_are = step.slabs_are;
        needed = step.needed ∙ ap needs (sym (made_more state.trace (Released site number) refl));
        statics = step.statics;
        next = step.next;
        input = step.input;
        trace = same_more machine.trace (Released site number) ∙ ap (λ (trace : List TacEvent). trace ++ Released site number ∷ []) step.trace;
        paid = step.paid;
      }

-- ---- the point

-- what a free comes to in the code with pools
abbrev frees_as : PoolCode → ℕ → ℕ → Option Pools → P.State → Move P.State
frees_as code site address None state = P.trap traps.BadFree state
frees_as code site address (Some pools) state = P.go_on code (P.emit (Same (Released site (number_of state.placed address)) ∷ []) (record state { pools = pools }))

frees_null : (code : PoolCode) (site pool : ℕ) (state : P.State) → lives_of state.pools pool ≡ true → M.frees code site pool 0 state ≡ P.go_on code state
frees_null code site pool state lives = rw lives refl

frees_is : (code : PoolCode) (site pool address : ℕ) (state : P.State) (found : Option Pools) → lives_of state.pools pool ≡ true → (address == 0) ≡ false → free_step state.pools pool address ≡ found
    → M.frees code site pool address state ≡ frees_as code site address found state
frees_is code site pool address state None lives some is = rw (lives, some, is) refl
frees_is code site pool address state (Some pools) lives some is = rw (lives, some, is) refl

-- a pool in which an object lives, lives
some_lives : (found : Option Pool) (o : Object) → IsIn o (objects_of found) → is_some found ≡ true
some_lives None o lives = absurd lives
some_lives (Some pool) o lives = refl

module _ (tac : Tac) (plan : Plan) (slabs : ℕ) (state : T.State) (machine : P.State) (ready : Ready tac plan slabs state machine) (site : ℕ) (pointer : Register)
    (at : StandsAt tac state (O.Free site pointer)) where
  known : InStep tac plan slabs state machine
  known = ready.in_step

  abbrev pool : ℕ
  pool = pool_for plan state machine site

  free_there : (number word : ℕ) → state.running.registers pointer ≡ Some (Address (OfHeap number) zero) → is_there (state.objects (OfHeap number)) ≡ true → LiesIn machine number pool → Stands state.objects (memory_in tac plan state machine) (Address (OfHeap number) zero) word
      → Does tac plan slabs state machine (T.go_on (T.emit (Released site number ∷ []) (T.store_content (OfHeap number) Absent state))) (M.frees (code_of tac plan) site pool word machine)
  free_there number word held there lies stands =
      let mine = known.allocations number there in
      let place = stands there in
      let same : lies.object ≡ mine.object = lying_object tac plan state machine number pool known.regions.heap mine lies in
      let address : word ≡ mine.address = omega (arith, place.2, same_Some place.0 mine.address (sym place.1 ∙ mine.is)) in
      let freed = live_freed machine.pools pool mine.object known.regions.heap (subst (LivesIn machine.pools pool) same lies.lives) in
      let inside = live_inside machine.pools mine.object known.regions.heap mine.lives in
      let found : free_step machine.pools pool word ≡ Some freed.0 = ap (free_step machine.pools pool) (address ∙ sym mine.begins) ∙ freed.1 in
      let some : (word == 0) ≡ false = ne_eqb word 0 (λ none. omega (arith, none, address, mine.begins, inside.1)) in
      let told : number_of machine.placed word ≡ number = ap (number_of machine.placed) address ∙ mine.told in
      let lives : lives_of machine.pools pool ≡ true = some_lives (pool_at machine.pools pool) lies.object lies.lives in
      let does = frees_is (code_of tac plan) site pool word machine (Some freed.0) lives some found
      ∙ ap (λ n. P.go_on (code_of tac plan) (P.emit (Same (Released site n) ∷ []) (record machine { pools = freed.0 }))) told in
      let effect = object_freed site pointer number word freed.0 (P.emit (Same (Released site number) ∷ []) (record machine { pools = freed.0 })) at held (mine.is ∙ ap Some (sym address)) found
      (record { owner = refl; descriptors = refl; at = refl; callers = refl; pools = refl; placed = refl }) in
      subst (Does tac plan slabs state machine (T.go_on (T.emit (Released site number ∷ []) (T.store_content (OfHeap number) Absent state)))) (sym does)
      (go_on_does tac plan slabs state machine (T.emit (Released site number ∷ []) (T.store_content (OfHeap number) Absent state)) (P.emit (Same (Released site number) ∷ []) (record machine { pools = freed.0 }))
      effect (freed_in_step tac plan slabs state machine ready site pool number mine freed.0 freed.1 freed.2))

  free_value : (value : Value) (word : ℕ) → state.running.registers pointer ≡ Some value → Stands state.objects (memory_in tac plan state machine) value word
      → Does tac plan slabs state machine (free site value state) (M.frees (code_of tac plan) site pool word machine)
  free_value NoAddress word held stands =
      subst (λ n. Does tac plan slabs state machine (T.go_on state) (M.frees (code_of tac plan) site pool n machine)) (sym stands)
      (subst (Does tac plan slabs state machine (T.go_on state)) (sym (frees_null (code_of tac plan) site pool machine (ready.serving.frees_null site pointer at held)))
      (go_on_does tac plan slabs state machine state machine (no_effect tac plan state machine) known))
  free_value (Address (OfHeap number) zero) word held stands =
      does_unless tac plan slabs machine (is_there (state.objects (OfHeap number))) state (T.go_on (T.emit (Released site number ∷ []) (T.store_content (OfHeap number) Absent state)))
      (M.frees (code_of tac plan) site pool word machine) (λ there. free_there number word held there (ready.serving.frees site pointer number at held there) stands)
  free_value (Address (OfHeap number) (suc offset)) word held stands = wrong _ state (M.frees (code_of tac plan) site pool word machine) tt
  free_value (Address (OfGlobal number) offset) word held stands = wrong _ state (M.frees (code_of tac plan) site pool word machine) tt
  free_value (Address (OfLiteral number) offset) word held stands = wrong _ state (M.frees (code_of tac plan) site pool word machine) tt
  free_value (Address (OfActivation activation local) offset) word held stands = wrong _ state (M.frees (code_of tac plan) site pool word machine) tt
  free_value (Number z) word held stands = wrong _ state (M.frees (code_of tac plan) site pool word machine) tt
  free_value (Code function) word held stands = wrong _ state (M.frees (code_of tac plan) site pool word machine) tt

  pub free_does : PointDoes tac plan slabs state machine (O.Free site pointer)
  free_does =
      let words = machine.running.words in
      does_given tac plan slabs machine (state.running.registers pointer) state (λ value. free site value state) (M.frees (code_of tac plan) site pool (words pointer) machine)
      (λ value is. free_value value (words pointer) is (known.running.words pointer value is))
