-- Each access of a step is safe, unless the step is the trap of a bad access.
use Rattle.std.proofs.Common.{◌≡◌, ◌⊎◌, ◌&&◌, ℕ, zero, suc, ◌+◌, ◌-◌, inl, inr, Bool, true, false, cond, is_some, option_map, List, [], ◌∷◌, Option, Some, None, length, map, take, drop, slice_get, nat_le, refl, sym, ap, ◌∙◌, subst}
use Rattle.std.specs.List.{AllByRecursion}
use Rattle.std.proofs.lemmas.Bool.{and_parts, leb-true}
use Rattle.byteorder.specs.Endian.{little_bytes, little_number}
use Rattle.byteorder.specs.Numbers.{length-bytes_low_first}
use Rattle.run_theory.specs.declared.ends.TrapKind.{TrapKind}
use Rattle.run_theory.specs.declared.ends.TrapKind.TheVariants as traps
use Rattle.run_theory.specs.Runs.{Trace, Loaded, Stored, Over, Trapped, Run, IsUndefined, Move, Halt, Leads, Follows}
use Rattle.run_theory.proofs.Following.{follows_trapped}
use Rattle.run_theory.proofs.Machines.{leads_halts}
use Rattle.run_theory.specs.Words.{word_at}
use Rattle.slab_space.specs.Pool.{Object}
use Rattle.slab_space.specs.PoolSteps.{written_in}
use Rattle.slab_space.specs.Pools.{Pools, objects, object_at, load_step, store_step, address_of, index_of}
use Rattle.pool_isa.specs.declared.instr.Instr.{Instr}
use Rattle.pool_isa.specs.declared.instr.Instr.TheVariants as instrs
use Rattle.pool_isa.specs.Machine as M
use Rattle.pool_isa.specs.Machine.{Function, Activation, Code, Heap, State, trap, bytes_at, with_bytes_at, beneath, spliced, globals_start, in_globals, heap_word, with_heap_word, advanced, heap_access, loaded_word, loaded, load_with, load, stored, store_with, store, with_one, with_two, with_three, perform, act, act_in, act_on, initial, mach, size_of, bytes_in}
use Rattle.pool_isa.specs.Accesses.{Access, Loads, Stores, accesses_of, accesses_in, accesses_on, accesses, Within, Safe, AccessesAreSafe, RunSafe}
use Rattle.pool_isa.proofs.LivingObjects.{Lives, objects_live, found_in}

-- ---- the tests of the machine

-- ---- where the machine finds a range

by_tests : (access : Access) (start bytes : ℕ) → (nat_le start access.address && nat_le (access.address + access.size) (start + bytes)) ≡ true → Within access start bytes
by_tests access start bytes e =
    let parts = and_parts (nat_le start access.address) (nat_le (access.address + access.size) (start + bytes)) e in
    (leb-true start access.address parts.0, leb-true (access.address + access.size) (start + bytes) parts.1)

-- the range lies in the frame of one of these activations
abbrev Among : List Activation → Access → Type 0
Among frames access = (depth : ℕ) × (activation : Activation) × (slice_get frames depth ≡ Some activation) × Within access activation.start (length activation.bytes)

deeper : (frame : Activation) (frames : List Activation) (access : Access) → Among frames access → Among (frame ∷ frames) access
deeper frame frames access found = (suc found.0, found.1, found.2, found.3)

read_frame : (frames : List Activation) (access : Access) (bytes : List ℕ) → bytes_at frames access.address access.size ≡ Some bytes → Among frames access
read_frame [] access bytes e = absurd (cc)
read_frame (frame ∷ frames) access bytes e = by (M.covers frame access.address access.size) refl e (read_frame frames access bytes)
  where
    by : (b : Bool) → M.covers frame access.address access.size ≡ b → cond b (Some (take access.size (drop (access.address - frame.start) frame.bytes))) (bytes_at frames access.address access.size) ≡ Some bytes
        → (bytes_at frames access.address access.size ≡ Some bytes → Among frames access) → Among (frame ∷ frames) access
    by true is e further = (0, frame, refl, by_tests access frame.start (length frame.bytes) is)
    by false is e further = deeper frame frames access (further e)

write_frame : (frames : List Activation) (access : Access) (new : List ℕ) (later : List Activation) → length new ≡ access.size → with_bytes_at frames access.address new ≡ Some later → Among frames access
write_frame [] access new later long e = absurd (cc)
write_frame (frame ∷ frames) access new later long e = by (M.covers frame access.address (length new)) refl e (λ others. write_frame frames access new others long)
  where
    under : (found : Option (List Activation)) → with_bytes_at frames access.address new ≡ found → beneath frame found ≡ Some later
        → ((others : List Activation) → with_bytes_at frames access.address new ≡ Some others → Among frames access) → Among (frame ∷ frames) access
    under None is e further = absurd (cc)
    under (Some others) is e further = deeper frame frames access (further others is)

    by : (b : Bool) → M.covers frame access.address (length new) ≡ b
        → cond b (Some (record frame { bytes = spliced frame.bytes (access.address - frame.start) new } ∷ frames)) (beneath frame (with_bytes_at frames access.address new)) ≡ Some later
        → ((others : List Activation) → with_bytes_at frames access.address new ≡ Some others → Among frames access) → Among (frame ∷ frames) access
    by true is e further = (0, frame, refl, by_tests access frame.start (length frame.bytes) (subst (λ n. M.covers frame access.address n ≡ true) long is))
    by false is e further = under (with_bytes_at frames access.address new) refl e further

-- a store finds the frames of the activations before it
as_before : (top : Activation) (operands : List ℕ) (callers : List Activation) (access : Access) (depth : ℕ) (activation : Activation) → slice_get (advanced top operands ∷ callers) depth ≡ Some activation
    → Within access activation.start (length activation.bytes) → Among (top ∷ callers) access
as_before top operands callers access zero activation e within =
    let same : advanced top operands ≡ activation = cc in
    (0, top, refl, subst (λ (a : Activation). Within access a.start (length a.bytes)) (sym same) within)
as_before top operands callers access (suc depth) activation e within = (suc depth, activation, e, within)

module _ (state : State) where
  in_frame : (frames : List Activation) (access : Access) → state.activations ≡ frames → Among frames access → Safe state access
  in_frame frames access stack found =
      inr (inl (record { depth = found.0; activation = found.1; running = ap (λ stack. slice_get stack found.0) stack ∙ found.2; within = found.3 }))

  in_globals_safe : (access : Access) → in_globals state.heap.globals access.address access.size ≡ true → Safe state access
  in_globals_safe access is = inl (by_tests access globals_start (length state.heap.globals) is)

  in_pools : (access : Access) (object : Object) → object_at state.heap.pools access.address access.size ≡ Some object → Safe state access
  in_pools access object e =
      let found = found_in (Lives state.heap.pools) access.address access.size (objects state.heap.pools) (objects_live state.heap.pools) object e in
      inr (inr (record { number = found.0.number; pool = found.0.pool; object = object; living = found.0.living; live = found.0.live; within = by_tests access object.start (length object.bytes) found.1 }))

  read_heap : (access : Access) (number : ℕ) → heap_word state.heap access.address access.size ≡ Some number → Safe state access
  read_heap access number e = by (in_globals state.heap.globals access.address access.size) refl e
    where
      seen : (found : Option Object) → object_at state.heap.pools access.address access.size ≡ found → option_map (λ (o : Object). word_at o.bytes (access.address - o.start) access.size) found ≡ Some number → Safe state access
      seen None is e = absurd (cc)
      seen (Some object) is e = in_pools access object is

      by : (b : Bool) → in_globals state.heap.globals access.address access.size ≡ b
          → cond b (Some (little_number access.size (take access.size (drop (access.address - globals_start) state.heap.globals)))) (load_step state.heap.pools access.address access.size) ≡ Some number → Safe state access
      by true is e = in_globals_safe access is
      by false is e = seen (object_at state.heap.pools access.address access.size) refl e

  abbrev with_pools : Pools → Heap
  with_pools pools = record state.heap { pools = pools }

  abbrev written : Access → ℕ → Pools
  written access word = record state.heap.pools { pools = map (option_map (written_in access.address access.size word)) state.heap.pools.pools }

  write_heap : (access : Access) (word : ℕ) (later : Heap) → with_heap_word state.heap access.address access.size word ≡ Some later → Safe state access
  write_heap access word later e = by (in_globals state.heap.globals access.address access.size) refl e
    where
      seen : (found : Option Object) → object_at state.heap.pools access.address access.size ≡ found → option_map with_pools (cond (is_some found) (Some (written access word)) None) ≡ Some later → Safe state access
      seen None is e = absurd (cc)
      seen (Some object) is e = in_pools access object is

      by : (b : Bool) → in_globals state.heap.globals access.address access.size ≡ b
          → cond b (Some (record state.heap { globals = spliced state.heap.globals (access.address - globals_start) (little_bytes access.size word) })) (option_map with_pools (store_step state.heap.pools access.address access.size word)) ≡ Some later → Safe state access
      by true is e = in_globals_safe access is
      by false is e = seen (object_at state.heap.pools access.address access.size) refl e

  -- ---- a step

  -- it is the trap of a bad access, or these accesses are safe
  abbrev Judged : Move State → List Access → Type 0
  Judged move list = (move ≡ trap traps.BadAccess state) ⊎ AllByRecursion (Safe state) list

  load_judged : (word_for : ℕ → ℕ) (access : Access) (rest : List ℕ) (top : Activation) (callers : List Activation) → state.activations ≡ top ∷ callers
      → Judged (load word_for access.address access.size rest top callers state) (access ∷ [])
  load_judged word_for access rest top callers stack = by (bytes_at (top ∷ callers) access.address access.size) refl
    where
      in_heap : (found : Option ℕ) → heap_word state.heap access.address access.size ≡ found
          → Judged (loaded word_for found (heap_access Loaded state access.address access.size) rest top callers state) (access ∷ [])
      in_heap None is = inl refl
      in_heap (Some number) is = inr (read_heap access number is, tt)

      by : (found : Option (List ℕ)) → bytes_at (top ∷ callers) access.address access.size ≡ found → Judged (load_with word_for found access.address access.size rest top callers state) (access ∷ [])
      by (Some bytes) is = inr (in_frame (top ∷ callers) access stack (read_frame (top ∷ callers) access bytes is), tt)
      by None is = in_heap (heap_word state.heap access.address access.size) refl

  store_judged : (access : Access) (word : ℕ) (rest : List ℕ) (top : Activation) (callers : List Activation) → state.activations ≡ top ∷ callers
      → Judged (store access.address access.size word (advanced top rest ∷ callers) state) (access ∷ [])
  store_judged access word rest top callers stack = by (with_bytes_at (advanced top rest ∷ callers) access.address (little_bytes access.size word)) refl
    where
      in_heap : (found : Option Heap) → with_heap_word state.heap access.address access.size word ≡ found
          → Judged (stored found (heap_access Stored state access.address access.size) (advanced top rest ∷ callers) state) (access ∷ [])
      in_heap None is = inl refl
      in_heap (Some heap) is = inr (write_heap access word heap is, tt)

      by : (found : Option (List Activation)) → with_bytes_at (advanced top rest ∷ callers) access.address (little_bytes access.size word) ≡ found
          → Judged (store_with found access.address access.size word (advanced top rest ∷ callers) state) (access ∷ [])
      by (Some later) is =
          let found = write_frame (advanced top rest ∷ callers) access (little_bytes access.size word) later (length-bytes_low_first 0 access.size word) is in
          inr (in_frame (top ∷ callers) access stack (as_before top rest callers access found.0 found.1 found.2 found.3), tt)
      by None is = in_heap (with_heap_word state.heap access.address access.size word) refl

  perform_judged : (instr : Option Instr) (code : Code) (function : Function) (top : Activation) (callers : List Activation) → state.activations ≡ top ∷ callers
      → Judged (perform instr code function top callers state) (accesses_of instr top.operands)
  perform_judged (Some (instrs.Load type)) code function top callers stack = by top.operands
    where
      by : (operands : List ℕ) → Judged (with_one operands state (λ address rest. load (loaded_word type) address (size_of type) rest top callers state)) (accesses_of (Some (instrs.Load type)) operands)
      by [] = inr tt
      by (address ∷ rest) = load_judged (loaded_word type) (record { direction = Loads; address = address; size = size_of type }) rest top callers stack
  perform_judged (Some (instrs.Store width)) code function top callers stack = by top.operands
    where
      by : (operands : List ℕ) → Judged (with_two operands state (λ address word rest. store address (bytes_in width) word (advanced top rest ∷ callers) state)) (accesses_of (Some (instrs.Store width)) operands)
      by [] = inr tt
      by (word ∷ []) = inr tt
      by (word ∷ address ∷ rest) = store_judged (record { direction = Stores; address = address; size = bytes_in width }) word rest top callers stack
  perform_judged (Some instrs.LoadLink) code function top callers stack = by top.operands
    where
      by : (operands : List ℕ) → Judged (with_two operands state (λ address pool rest. load (address_of state.heap.pools pool) address 4 rest top callers state)) (accesses_of (Some instrs.LoadLink) operands)
      by [] = inr tt
      by (pool ∷ []) = inr tt
      by (pool ∷ address ∷ rest) = load_judged (address_of state.heap.pools pool) (record { direction = Loads; address = address; size = 4 }) rest top callers stack
  perform_judged (Some instrs.StoreLink) code function top callers stack = by top.operands
    where
      by : (operands : List ℕ) → Judged (with_three operands state (λ address value pool rest. store address 4 (index_of state.heap.pools pool value) (advanced top rest ∷ callers) state)) (accesses_of (Some instrs.StoreLink) operands)
      by [] = inr tt
      by (pool ∷ []) = inr tt
      by (pool ∷ value ∷ []) = inr tt
      by (pool ∷ value ∷ address ∷ rest) = store_judged (record { direction = Stores; address = address; size = 4 }) (index_of state.heap.pools pool value) rest top callers stack
  perform_judged instr code function top callers stack = inr tt

  in_judged : (code : Code) (function : Option Function) (top : Activation) (callers : List Activation) → state.activations ≡ top ∷ callers → Judged (act_in code function top callers state) (accesses_in function top)
  in_judged code None top callers stack = inr tt
  in_judged code (Some function) top callers stack = perform_judged (slice_get function.code top.place) code function top callers stack

  on_judged : (code : Code) (frames : List Activation) → state.activations ≡ frames → Judged (act_on code frames state) (accesses_on code frames)
  on_judged code [] stack = inr tt
  on_judged code (top ∷ callers) stack = in_judged code (slice_get code.functions top.function) top callers stack

-- Each access of a step is safe, or the step is the trap of a bad access, which changes nothing.
pub safe_or_trap : (code : Code) (state : State) → (act code state ≡ trap traps.BadAccess state) ⊎ AllByRecursion (Safe state) (accesses code state)
safe_or_trap code state = on_judged state code state.activations refl

-- each access of a step that isn't a trap is safe
pub accesses_safe : (code : Code) (state : State) → ((kind : TrapKind) (last : State) → act code state ≡ Halt (Trapped kind) last → ⊥) → AllByRecursion (Safe state) (accesses code state)
accesses_safe code state no_trap = by (safe_or_trap code state)
  where
    by : (act code state ≡ trap traps.BadAccess state) ⊎ AllByRecursion (Safe state) (accesses code state) → AllByRecursion (Safe state) (accesses code state)
    by (inl e) = absurd (no_trap traps.BadAccess state e)
    by (inr safe) = safe

pub run_accesses_safe : (code : Code) (slabs index : ℕ) (input : List ℕ) → AccessesAreSafe code slabs index input
run_accesses_safe code slabs index input n state leads = safe_or_trap code state

-- in a run that has not trapped within n + 1 steps, each access of the step after n steps is safe
pub untrapped_accesses_safe : (code : Code) (slabs index : ℕ) (input : List ℕ) (n : ℕ) (state : State) → Leads (act code) (initial code slabs index input) n state
    → ((kind : TrapKind) (trace : Trace) → mach code slabs index input (n + 1) ≡ Over (Trapped kind) trace → ⊥) → AllByRecursion (Safe state) (accesses code state)
untrapped_accesses_safe code slabs index input n state leads no_trap =
    accesses_safe code state (λ kind last e. no_trap kind last.trace (leads_halts (act code) (λ (s : State). s.trace) (initial code slabs index input) state last n (n + 1) (Trapped kind) refl leads e))

-- where a run follows a program that is defined, each access of each of its steps is safe
pub followed_run_safe : (program : Run) (code : Code) (slabs index : ℕ) (input : List ℕ) → Follows program (mach code slabs index input) → ((n : ℕ) → IsUndefined (program n) → ⊥) → RunSafe code slabs index input
followed_run_safe program code slabs index input follows defined n state leads =
    untrapped_accesses_safe code slabs index input n state leads
    (λ kind trace e. let wrong = follows_trapped program (mach code slabs index input) follows (n + 1) kind trace e in defined wrong.0 wrong.1)
