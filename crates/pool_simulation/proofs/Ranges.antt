-- Ranges of memory: what was written is read, nothing else changed, and what holds of memory at any time holds then.
use Rattle.std.proofs.Common.{◌≡◌, ℕ, ◌+◌, ◌-◌, ◌*◌, ◌%◌, ◌^◌, ◌≤◌, ◌⊎◌, Bool, true, false, List, [], ◌∷◌, Option, Some, None, length, refl, sym, ap, subst, ◌∙◌, inl, inr, arith}
use Rattle.std.specs.Prelude.{nat_le, ◌&&◌, is_some, option_map, if◌then◌else◌}
use Rattle.std.specs.List.{AllByRecursion}
use Rattle.std.proofs.lemmas.Bool.{and_parts, leb-true}
use Rattle.byteorder.specs.Endian.{little_bytes}
use Rattle.byteorder.specs.Numbers.{length-bytes_low_first}
use Rattle.run_theory.specs.Words.{word_at}
use Rattle.slab_space.specs.Pool.{Object}
use Rattle.slab_space.specs.Pools.{Pools, object_at, load_step, store_step}
use Rattle.slab_space.specs.Needs.{HavePlaced, after_store}
use Rattle.tac_ir.specs.Events.{TacEvent}
use Rattle.pool_isa.specs.Machine.{spliced, globals_start, in_globals, number_of}
use Rattle.pool_ir.specs.States.{Activation, State, Same}
use Rattle.pool_ir.specs.Memory.{access, frame_number, with_frame_bytes, activations_of, number_at, with_number}
use Rattle.pool_simulation.specs.Regions.{AreApart, LivesIn, OfKind, Regions, SameButBytes}
use Rattle.pool_simulation.proofs.WrittenBytes.{length-over, over_apart, over_reads, word_in_bytes}
use Rattle.pool_simulation.proofs.LiveCells.{written_object, long_written}
use Rattle.pool_simulation.proofs.FrameRanges.{if_same, itself, callers_themselves, stacked_same, frames_from, FramesWritten, FramesTell, frames_tell}
use Rattle.pool_simulation.proofs.HeapRanges.{written_lives_in, written_lived_in, written_starts, written_apart, written_reads, addresses_written, indices_written, kinds_written, of_kinds_written, made_same}
use Rattle.pool_simulation.proofs.PoolObjects.{with_written, store_is}

-- ---- the two ways of memory, by what frames tell

abbrev pub number_by : Option ℕ → List ℕ → Pools → ℕ → ℕ → Option ℕ
number_by (Some number) globals pools address size = Some number
number_by None globals pools address size = if in_globals globals address size then Some (word_at globals (address - globals_start) size) else load_step pools address size

pub number_is : (state : State) (address size : ℕ) → number_at state address size ≡ number_by (frame_number (activations_of state) address size) state.globals state.pools address size
number_is state address size = by (frame_number (activations_of state) address size) refl
  where
    by : (found : Option ℕ) → frame_number (activations_of state) address size ≡ found → number_at state address size ≡ number_by (frame_number (activations_of state) address size) state.globals state.pools address size
    by None e = rw e refl
    by (Some number) e = rw e refl

abbrev with_by : Option (Activation × List (ℕ × Activation)) → State → ℕ → ℕ → ℕ → Option State
with_by (Some found) state address size word = Some (record state { running = found.0; callers = found.1 })
with_by None state address size word =
    if in_globals state.globals address size then Some (record state { globals = spliced state.globals (address - globals_start) (little_bytes size word) })
    else option_map (λ (pools : Pools). record state { pools = pools }) (store_step state.pools address size word)

with_is : (state : State) (address size word : ℕ) (found : Option (Activation × List (ℕ × Activation))) → with_frame_bytes state.running state.callers address (little_bytes size word) ≡ found → with_number state address size word ≡ with_by found state address size word
with_is state address size word None e = rw e refl
with_is state address size word (Some found) e = rw e refl

-- ---- what a write makes of a state

pub record Wrote (state : State) (address size word : ℕ) (later : State) : Type 0 where
  pub same : SameButBytes state later
  pub reads : number_at later address size ≡ Some (word % 2 ^ (8 * size))
  pub apart : (other width : ℕ) → AreApart address size other width → number_at later other width ≡ number_at state other width
  pub pools : (later.pools ≡ state.pools) ⊎ (store_step state.pools address size word ≡ Some later.pools)

in_globals_facts : (globals : List ℕ) (address size : ℕ) → in_globals globals address size ≡ true → (globals_start ≤ address) × (address + size ≤ globals_start + length globals)
in_globals_facts globals address size e =
    let both = and_parts (nat_le globals_start address) (nat_le (address + size) (globals_start + length globals)) e in
    (leb-true globals_start address both.0, leb-true (address + size) (globals_start + length globals) both.1)

in_globals_same : (globals others : List ℕ) (address size : ℕ) → length others ≡ length globals → in_globals others address size ≡ in_globals globals address size
in_globals_same globals others address size same = ap (λ n. nat_le globals_start address && nat_le (address + size) (globals_start + n)) same

store_facts : (p q : Pools) (address size word : ℕ) → store_step p address size word ≡ Some q → (is_some (object_at p address size) ≡ true) × (q ≡ with_written address size word p)
store_facts p q address size word e = by (is_some (object_at p address size)) e
  where
    by : (b : Bool) → (if b then Some (with_written address size word p) else None) ≡ Some q → (b ≡ true) × (q ≡ with_written address size word p)
    by true e = (refl, (let same : with_written address size word p ≡ q = cc in sym same))
    by false e = absurd cc

mapped_some : (state : State) (found : Option Pools) (later : State) → option_map (λ (pools : Pools). record state { pools = pools }) found ≡ Some later → (q : Pools) × (found ≡ Some q) × (record state { pools = q } ≡ later)
mapped_some state None later e = absurd cc
mapped_some state (Some q) later e = (q, refl, (let same : record state { pools = q } ≡ later = cc in same))

module _ (state : State) (address size word : ℕ) where
  abbrev new : List ℕ
  new = little_bytes size word

  wide : length new ≡ size
  wide = length-bytes_low_first 0 size word

  wider : (other width : ℕ) → AreApart address size other width → AreApart address (length new) other width
  wider other width (inl behind) = inl (omega (arith, behind, wide))
  wider other width (inr before) = inr before

  in_frame : (running : Activation) (callers : List (ℕ × Activation)) → FramesWritten address new state.running state.callers running callers → Wrote state address size word (record state { running = running; callers = callers })
  in_frame running callers tell =
      let later : State = record state { running = running; callers = callers } in
      let reads = subst (λ n. frame_number (frames_from running callers) address n ≡ Some (word_at new 0 n)) wide tell.reads ∙ ap Some (word_in_bytes size word) in
      record {
        same = record {
          running = tell.running;
          callers = tell.callers;
          globals = refl;
          index = refl;
          slab_owners = refl;
          made = refl;
          kinds = λ pool. refl;
          addresses = λ pool number. refl;
          indices = λ pool at. refl;
          placed = refl;
          input = refl;
          trace = refl;
          paid = refl;
        };
        reads = number_is later address size ∙ ap (λ f. number_by f state.globals state.pools address size) reads;
        apart = λ other width apart.
            number_is later other width ∙ ap (λ f. number_by f state.globals state.pools other width) (tell.apart other width (wider other width apart)) ∙ sym (number_is state other width);
        pools = inl refl;
      }

  module _ (none : frame_number (activations_of state) address size ≡ None) where
    module _ (here : in_globals state.globals address size ≡ true) where
      abbrev off : ℕ
      off = address - globals_start

      inside : off + length new ≤ length state.globals
      inside = let both = in_globals_facts state.globals address size here in omega (arith, both.0, both.1, wide)

      abbrev after : List ℕ
      after = spliced state.globals off new

      same_length : length after ≡ length state.globals
      same_length = length-over state.globals new off inside

      stays : (other width : ℕ) → AreApart address size other width → in_globals state.globals other width ≡ true → word_at after (other - globals_start) width ≡ word_at state.globals (other - globals_start) width
      stays other width apart there = over_apart state.globals new off inside (other - globals_start) width (moved apart)
        where
          moved : AreApart address size other width → (off + length new ≤ other - globals_start) ⊎ (other - globals_start + width ≤ off)
          moved (inl behind) = let both = in_globals_facts state.globals address size here in inl (omega (arith, both.0, behind, wide))
          moved (inr before) = let both = in_globals_facts state.globals other width there in inr (omega (arith, both.0, before))

      stays_by : (found : Option ℕ) (other width : ℕ) → AreApart address size other width → number_by found after state.pools other width ≡ number_by found state.globals state.pools other width
      stays_by (Some number) other width apart = refl
      stays_by None other width apart =
          ap (λ b. if b then Some (word_at after (other - globals_start) width) else load_step state.pools other width) (in_globals_same state.globals after other width same_length)
          ∙ if_same (in_globals state.globals other width) (Some (word_at after (other - globals_start) width)) (Some (word_at state.globals (other - globals_start) width)) (load_step state.pools other width) (λ there. ap Some (stays other width apart there))

      at_globals : Wrote state address size word (record state { globals = after })
      at_globals =
          let later : State = record state { globals = after } in
          let reads = subst (λ n. word_at after off n ≡ word_at new 0 n) wide (over_reads state.globals new off inside) ∙ word_in_bytes size word in
          record {
            same = record {
              running = itself state.running;
              callers = callers_themselves state.callers;
              globals = same_length;
              index = refl;
              slab_owners = refl;
              made = refl;
              kinds = λ pool. refl;
              addresses = λ pool number. refl;
              indices = λ pool at. refl;
              placed = refl;
              input = refl;
              trace = refl;
              paid = refl;
            };
            reads =
                number_is later address size ∙ ap (λ f. number_by f after state.pools address size) none
                ∙ ap (λ b. if b then Some (word_at after off size) else load_step state.pools address size) (in_globals_same state.globals after address size same_length ∙ here) ∙ ap Some reads;
            apart = λ other width apart. number_is later other width ∙ stays_by (frame_number (activations_of state) other width) other width apart ∙ sym (number_is state other width);
            pools = inl refl;
          }

    module _ (here : in_globals state.globals address size ≡ false) (q : Pools) (store : store_step state.pools address size word ≡ Some q) where
      heap_by : (found : Option ℕ) (other width : ℕ) → AreApart address size other width → number_by found state.globals (with_written address size word state.pools) other width ≡ number_by found state.globals state.pools other width
      heap_by (Some number) other width apart = refl
      heap_by None other width apart =
          ap (λ (n : Option ℕ). if in_globals state.globals other width then Some (word_at state.globals (other - globals_start) width) else n) (written_apart address size word state.pools other width apart)

      at_written : store_step state.pools address size word ≡ Some (with_written address size word state.pools) → is_some (object_at state.pools address size) ≡ true → Wrote state address size word (record state { pools = with_written address size word state.pools })
      at_written stored some =
          let p = with_written address size word state.pools in
          let later : State = record state { pools = p } in
          record {
            same = record {
              running = itself state.running;
              callers = callers_themselves state.callers;
              globals = refl;
              index = refl;
              slab_owners = refl;
              made = made_same address size word state.pools;
              kinds = kinds_written address size word state.pools;
              addresses = addresses_written address size word state.pools;
              indices = indices_written address size word state.pools;
              placed = refl;
              input = refl;
              trace = refl;
              paid = refl;
            };
            reads =
                number_is later address size ∙ ap (λ f. number_by f state.globals p address size) none
                ∙ ap (λ b. if b then Some (word_at state.globals (address - globals_start) size) else load_step p address size) here ∙ written_reads address size word state.pools some;
            apart = λ other width apart. number_is later other width ∙ heap_by (frame_number (activations_of state) other width) other width apart ∙ sym (number_is state other width);
            pools = inr stored;
          }

      at_heap : Wrote state address size word (record state { pools = q })
      at_heap =
          let facts = store_facts state.pools q address size word store in
          subst (λ (p : Pools). Wrote state address size word (record state { pools = p })) (sym facts.1) (at_written (store ∙ ap Some facts.1) facts.0)

  behind_frames : (later : State) (b : Bool) → in_globals state.globals address size ≡ b → frame_number (activations_of state) address size ≡ None
      → (if b then Some (record state { globals = spliced state.globals (address - globals_start) new }) else option_map (λ (pools : Pools). record state { pools = pools }) (store_step state.pools address size word)) ≡ Some later
      → Wrote state address size word later
  behind_frames later true here none e = let same : record state { globals = spliced state.globals (address - globals_start) new } ≡ later = cc in subst (Wrote state address size word) same (at_globals none here)
  behind_frames later false here none e =
      let found = mapped_some state (store_step state.pools address size word) later e in subst (Wrote state address size word) found.2 (at_heap none here found.0 found.1)

  -- all that a write does
  pub wrote : (later : State) → with_number state address size word ≡ Some later → Wrote state address size word later
  wrote later e = by (with_frame_bytes state.running state.callers address new) refl (frames_tell address new state.running state.callers)
    where
      by : (found : Option (Activation × List (ℕ × Activation))) → with_frame_bytes state.running state.callers address new ≡ found → FramesTell address new state.running state.callers found → Wrote state address size word later
      by None is tell =
          behind_frames later (in_globals state.globals address size) refl (subst (λ n. frame_number (activations_of state) address n ≡ None) wide tell) (sym (with_is state address size word None is) ∙ e)
      by (Some found) is tell =
          let all : Some (record state { running = found.0; callers = found.1 }) ≡ Some later = sym (with_is state address size word (Some found) is) ∙ e in
          let same : record state { running = found.0; callers = found.1 } ≡ later = cc in
          subst (Wrote state address size word) same (in_frame found.0 found.1 tell)

-- ---- what was asked for

pub wrote_reads : (state later : State) (address size word : ℕ) → with_number state address size word ≡ Some later → number_at later address size ≡ Some (word % 2 ^ (8 * size))
wrote_reads state later address size word e = (wrote state address size word later e).reads

pub wrote_apart_same : (state later : State) (address size word other width : ℕ) → with_number state address size word ≡ Some later → AreApart address size other width → number_at later other width ≡ number_at state other width
wrote_apart_same state later address size word other width e apart = (wrote state address size word later e).apart other width apart

pub wrote_apart : (state later : State) (address size word other width number : ℕ) → with_number state address size word ≡ Some later → number_at state other width ≡ Some number → AreApart address size other width → number_at later other width ≡ Some number
wrote_apart state later address size word other width number e was apart = wrote_apart_same state later address size word other width e apart ∙ was

pub wrote_same : (state later : State) (address size word : ℕ) → with_number state address size word ≡ Some later → SameButBytes state later
wrote_same state later address size word e = (wrote state address size word later e).same

pub wrote_regions : (state later : State) (address size word : ℕ) → Regions state → with_number state address size word ≡ Some later → Regions later
wrote_regions state later address size word regions e =
    let all = wrote state address size word later e in let same = all.same in
    record {
      globals = omega (arith, regions.globals, same.globals);
      frames = stacked_same state.running later.running state.callers later.callers same.running same.callers regions.frames;
      below = omega (arith, regions.below, same.running.start, same.running.long);
      heap = record { slabs = regions.heap.slabs; sizes = regions.heap.sizes; few = regions.heap.few; placed = placed_by all.pools; kinds = kinds_by all.pools };
    }
  where
    placed_by : (later.pools ≡ state.pools) ⊎ (store_step state.pools address size word ≡ Some later.pools) → HavePlaced regions.heap.slabs later.pools regions.heap.sizes
    placed_by (inl same) = subst (λ p. HavePlaced regions.heap.slabs p regions.heap.sizes) (sym same) regions.heap.placed
    placed_by (inr stored) = after_store state.pools later.pools regions.heap.sizes address size word regions.heap.placed stored

    kinds_by : (later.pools ≡ state.pools) ⊎ (store_step state.pools address size word ≡ Some later.pools) → AllByRecursion OfKind later.pools.pools
    kinds_by (inl same) = subst (λ (p : Pools). AllByRecursion OfKind p.pools) (sym same) regions.heap.kinds
    kinds_by (inr stored) = subst (λ (p : Pools). AllByRecursion OfKind p.pools) (sym (store_is address size word state.pools later.pools stored)) (of_kinds_written address size word state.pools regions.heap.kinds)

-- an object that lives, lives where it did, with as many bytes
pub wrote_lives : (state later : State) (address size word : ℕ) → with_number state address size word ≡ Some later → (id : ℕ) (o : Object) → LivesIn state.pools id o
    → (x : Object) × LivesIn later.pools id x × (x.start ≡ o.start) × (length x.bytes ≡ length o.bytes)
wrote_lives state later address size word e id o lives = by (wrote state address size word later e).pools
  where
    by : (later.pools ≡ state.pools) ⊎ (store_step state.pools address size word ≡ Some later.pools) → (x : Object) × LivesIn later.pools id x × (x.start ≡ o.start) × (length x.bytes ≡ length o.bytes)
    by (inl same) = (o, subst (λ p. LivesIn p id o) (sym same) lives, refl, refl)
    by (inr stored) = (
      written_object address size word o,
      subst (λ p. LivesIn p id (written_object address size word o)) (sym (store_is address size word state.pools later.pools stored)) (written_lives_in address size word state.pools id o lives),
      refl,
      long_written address size word o,
    )

-- and each lived
pub wrote_lived : (state later : State) (address size word : ℕ) → with_number state address size word ≡ Some later → (id : ℕ) (o : Object) → LivesIn later.pools id o
    → (x : Object) × LivesIn state.pools id x × (x.start ≡ o.start) × (length x.bytes ≡ length o.bytes)
wrote_lived state later address size word e id o lives = by (wrote state address size word later e).pools
  where
    by : (later.pools ≡ state.pools) ⊎ (store_step state.pools address size word ≡ Some later.pools) → (x : Object) × LivesIn state.pools id x × (x.start ≡ o.start) × (length x.bytes ≡ length o.bytes)
    by (inl same) = (o, subst (λ p. LivesIn p id o) same lives, refl, refl)
    by (inr stored) =
        let found = written_lived_in address size word state.pools id o (subst (λ p. LivesIn p id o) (store_is address size word state.pools later.pools stored) lives) in
        (found.0, found.1, sym (ap (λ (y : Object). y.start) found.2), sym (ap (λ (y : Object). length y.bytes) found.2 ∙ long_written address size word found.0))

-- what is told of an access stays
pub wrote_access : (state later : State) (address size word : ℕ) → with_number state address size word ≡ Some later → (event : ℕ → TacEvent) (other width : ℕ) → access event later other width ≡ access event state other width
wrote_access state later address size word e event other width =
    let all = wrote state address size word later e in
    told (object_at later.pools other width) (object_at state.pools other width) refl refl (starts all.pools) all.same.placed
  where
    starts : (later.pools ≡ state.pools) ⊎ (store_step state.pools address size word ≡ Some later.pools) → option_map (λ (o : Object). o.start) (object_at later.pools other width) ≡ option_map (λ (o : Object). o.start) (object_at state.pools other width)
    starts (inl same) = ap (λ p. option_map (λ (o : Object). o.start) (object_at p other width)) same
    starts (inr stored) =
        ap (λ p. option_map (λ (o : Object). o.start) (object_at p other width)) (store_is address size word state.pools later.pools stored)
        ∙ written_starts address size word state.pools other width

    told : (after before : Option Object) → object_at later.pools other width ≡ after → object_at state.pools other width ≡ before → option_map (λ (o : Object). o.start) (object_at later.pools other width) ≡ option_map (λ (o : Object). o.start) (object_at state.pools other width)
        → later.placed ≡ state.placed → access event later other width ≡ access event state other width
    told None None e d start placed = rw (e, d) refl
    told None (Some before) e d start placed = let both : None ≡ Some before.start = sym (ap (option_map (λ (o : Object). o.start)) e) ∙ start ∙ ap (option_map (λ (o : Object). o.start)) d in absurd cc
    told (Some after) None e d start placed = let both : Some after.start ≡ None = sym (ap (option_map (λ (o : Object). o.start)) e) ∙ start ∙ ap (option_map (λ (o : Object). o.start)) d in absurd cc
    told (Some after) (Some before) e d start placed =
        let both : Some after.start ≡ Some before.start = sym (ap (option_map (λ (o : Object). o.start)) e) ∙ start ∙ ap (option_map (λ (o : Object). o.start)) d in
        let same : after.start ≡ before.start = cc in
        rw (e, d) (λ i. Same (event (number_of (placed i) (same i))) ∷ [])

-- a range can be written where it can be read
pub can_write : (state : State) (address size word number : ℕ) → number_at state address size ≡ Some number → (later : State) × (with_number state address size word ≡ Some later)
can_write state address size word number e = by (with_frame_bytes state.running state.callers address (little_bytes size word)) refl (frames_tell address (little_bytes size word) state.running state.callers)
  where
    object_by : (found : Option Object) → option_map (λ (o : Object). word_at o.bytes (address - o.start) size) found ≡ Some number → is_some found ≡ true
    object_by None e = absurd cc
    object_by (Some o) e = refl

    behind_by : (b : Bool) → in_globals state.globals address size ≡ b → (if b then Some (word_at state.globals (address - globals_start) size) else load_step state.pools address size) ≡ Some number
        → (later : State) × ((if b then Some (record state { globals = spliced state.globals (address - globals_start) (little_bytes size word) }) else option_map (λ (pools : Pools). record state { pools = pools }) (store_step state.pools address size word)) ≡ Some later)
    behind_by true here e = (record state { globals = spliced state.globals (address - globals_start) (little_bytes size word) }, refl)
    behind_by false here e =
        (record state { pools = with_written address size word state.pools }, ap (λ b. option_map (λ (pools : Pools). record state { pools = pools }) (if b then Some (with_written address size word state.pools) else None)) (object_by (object_at state.pools address size) e))

    by : (found : Option (Activation × List (ℕ × Activation))) → with_frame_bytes state.running state.callers address (little_bytes size word) ≡ found → FramesTell address (little_bytes size word) state.running state.callers found → (later : State) × (with_number state address size word ≡ Some later)
    by None is tell =
        let none = subst (λ n. frame_number (activations_of state) address n ≡ None) (length-bytes_low_first 0 size word) tell in
        let read : number_by None state.globals state.pools address size ≡ Some number = ap (λ f. number_by f state.globals state.pools address size) (sym none) ∙ sym (number_is state address size) ∙ e in
        let found = behind_by (in_globals state.globals address size) refl read in
        (found.0, with_is state address size word None is ∙ found.1)
    by (Some found) is tell = (record state { running = found.0; callers = found.1 }, with_is state address size word (Some found) is)
