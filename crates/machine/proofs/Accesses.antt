-- Loads and stores, in a frame or in the heap: their events write nothing.
use Rattle.std.proofs.Common.{◌≡◌, ℕ, List, [], ◌∷◌, ◌++◌, Bool, true, false, Option, Some, None, drop, refl, sym, ap, ◌∙◌, subst}
use Rattle.std.specs.Bool.{if◌then◌else◌}
use Rattle.std.specs.Option.{option_map}
use Rattle.std.proofs.lemmas.Bool.{false≢true}
use Rattle.std.proofs.lemmas.List.{append-nil}
use Rattle.byteorder.specs.Endian.{little_bytes, little_number}
use Rattle.run_theory.specs.Runs.{Event, Trace, output_of, Loaded, Stored, Move, To, Halt, Trapped}
use Rattle.run_theory.specs.declared.ends.TrapKind.TheVariants as traps
use Rattle.run_theory.proofs.Traces.{output_of-append}
use Rattle.slab_space.specs.Pool.{Object}
use Rattle.slab_space.specs.Pools.{object_at}
use Rattle.pool_isa.specs.Machine.{Activation, Heap, State, happened, in_globals, number_of, access_of, heap_access, bytes_at, with_bytes_at, heap_word, with_heap_word, advanced, resumed, with_one, with_two, with_three, loaded, load_with, load, stored, store_with, store}
use Rattle.machine.specs.Steps.{first_of, fetched, PutsIn, Puts, GoesInside, HaltsInside}

-- ---- events

pub output_kept : (trace events : Trace) → output_of events ≡ [] → output_of (trace ++ events) ≡ output_of trace
output_kept trace events quiet = output_of-append trace events ∙ ap (λ o. output_of trace ++ o) quiet ∙ append-nil (output_of trace)

module _ (event : ℕ → Event) (quiet : (object : ℕ) → output_of (event object ∷ []) ≡ []) where
  quiet_access : (starts : List ℕ) (found : Option Object) → output_of (access_of event starts found) ≡ []
  quiet_access starts None = refl
  quiet_access starts (Some object) = quiet (number_of starts object.start)

  quiet_in_heap : (state : State) (address size : ℕ) → output_of (heap_access event state address size) ≡ []
  quiet_in_heap state address size = by (in_globals state.heap.globals address size)
    where
      by : (b : Bool) → output_of (if b then [] else access_of event state.history.placed (object_at state.heap.pools address size)) ≡ []
      by true = refl
      by false = quiet_access state.history.placed (object_at state.heap.pools address size)

-- the machine goes on there, after events that write nothing
goes_with : (move : Move State) (events : List Event) (old next : State) → output_of events ≡ [] → next.input ≡ old.input → next.trace ≡ old.trace → move ≡ To (happened events next) → GoesInside move old next.activations next.heap
goes_with move [] old next quiet input trace e = record { next = next; goes = e; frames = refl; heap_is = refl; input = input; output = ap output_of trace }
goes_with move (event ∷ events) old next quiet input trace e = record {
  next = happened (event ∷ events) next;
  goes = e;
  frames = refl;
  heap_is = refl;
  input = input;
  output = output_kept next.trace (event ∷ events) quiet ∙ ap output_of trace;
}

-- ---- loads

module _ (word_for : ℕ → ℕ) (address size : ℕ) (operands : List ℕ) (top : Activation) (callers : List Activation) (state : State) where
  abbrev told : Option (List ℕ) → List Event
  told (Some bytes) = []
  told None = heap_access Loaded state address size

  quiet_told : (found : Option (List ℕ)) → output_of (told found) ≡ []
  quiet_told (Some bytes) = refl
  quiet_told None = quiet_in_heap Loaded (λ object. refl) state address size

  load_is : (found : Option (List ℕ)) → load_with word_for found address size operands top callers state ≡ loaded word_for (first_of (option_map (little_number size) found) (heap_word state.heap address size)) (told found) operands top callers state
  load_is (Some bytes) = refl
  load_is None = refl

  resumes : (events : List Event) (activations : List Activation) → resumed activations (happened events state) ≡ To (happened events (record state { activations = activations }))
  resumes [] activations = refl
  resumes (event ∷ events) activations = refl

  load_on : (number : ℕ) → Some number ≡ fetched (top ∷ callers) state.heap address size → GoesInside (load word_for address size operands top callers state) state (advanced top (word_for number ∷ operands) ∷ callers) state.heap
  load_on number e =
      let found : Option (List ℕ) = bytes_at (top ∷ callers) address size in
      let after : List Activation = advanced top (word_for number ∷ operands) ∷ callers in
      goes_with (load word_for address size operands top callers state) (told found) state (record state { activations = after }) (quiet_told found) refl refl
      (load_is found ∙ ap (λ n. loaded word_for n (told found) operands top callers state) (sym e) ∙ resumes (told found) after)

  load_missed : None ≡ fetched (top ∷ callers) state.heap address size → load word_for address size operands top callers state ≡ Halt (Trapped traps.BadAccess) state
  load_missed e =
      let found : Option (List ℕ) = bytes_at (top ∷ callers) address size in
      load_is found ∙ ap (λ n. loaded word_for n (told found) operands top callers state) (sym e)

module _ (address size number : ℕ) (top after : Activation) (callers : List Activation) (state : State) (read : Some number ≡ fetched (top ∷ callers) state.heap address size) where
  pub load_one : (word_for : ℕ → ℕ) → top.operands ≡ address ∷ drop 1 top.operands → after ≡ advanced top (word_for number ∷ drop 1 top.operands)
      → GoesInside (with_one top.operands state (λ a rest. load word_for a size rest top callers state)) state (after ∷ callers) state.heap
  load_one word_for last is =
      subst (λ os. GoesInside (with_one os state (λ a rest. load word_for a size rest top callers state)) state (after ∷ callers) state.heap) (sym last)
      (subst (λ f. GoesInside (load word_for address size (drop 1 top.operands) top callers state) state (f ∷ callers) state.heap) (sym is) (load_on word_for address size (drop 1 top.operands) top callers state number read))

  pub load_two : (word_for : ℕ → ℕ → ℕ) (pool : ℕ) → top.operands ≡ pool ∷ address ∷ drop 2 top.operands → after ≡ advanced top (word_for pool number ∷ drop 2 top.operands)
      → GoesInside (with_two top.operands state (λ a p rest. load (word_for p) a size rest top callers state)) state (after ∷ callers) state.heap
  load_two word_for pool last is =
      subst (λ os. GoesInside (with_two os state (λ a p rest. load (word_for p) a size rest top callers state)) state (after ∷ callers) state.heap) (sym last)
      (subst (λ f. GoesInside (load (word_for pool) address size (drop 2 top.operands) top callers state) state (f ∷ callers) state.heap) (sym is) (load_on (word_for pool) address size (drop 2 top.operands) top callers state number read))

pub load_one_missed : (word_for : ℕ → ℕ) (address size : ℕ) (top : Activation) (callers : List Activation) (state : State)
    → None ≡ fetched (top ∷ callers) state.heap address size → top.operands ≡ address ∷ drop 1 top.operands
    → with_one top.operands state (λ a rest. load word_for a size rest top callers state) ≡ Halt (Trapped traps.BadAccess) state
load_one_missed word_for address size top callers state missed last =
    subst (λ os. with_one os state (λ a rest. load word_for a size rest top callers state) ≡ Halt (Trapped traps.BadAccess) state) (sym last)
    (load_missed word_for address size (drop 1 top.operands) top callers state missed)

pub load_two_missed : (word_for : ℕ → ℕ → ℕ) (pool address size : ℕ) (top : Activation) (callers : List Activation) (state : State)
    → None ≡ fetched (top ∷ callers) state.heap address size → top.operands ≡ pool ∷ address ∷ drop 2 top.operands
    → with_two top.operands state (λ a p rest. load (word_for p) a size rest top callers state) ≡ Halt (Trapped traps.BadAccess) state
load_two_missed word_for pool address size top callers state missed last =
    subst (λ os. with_two os state (λ a p rest. load (word_for p) a size rest top callers state) ≡ Halt (Trapped traps.BadAccess) state) (sym last)
    (load_missed (word_for pool) address size (drop 2 top.operands) top callers state missed)

-- ---- stores

module _ (address size word : ℕ) (before : List Activation) (state : State) (after : List Activation) (heap' : Heap) where
  stores : (frames : Option (List Activation)) (changed : Option Heap) → with_heap_word state.heap address size word ≡ changed → PutsIn frames changed true before state.heap after heap' → GoesInside (store_with frames address size word before state) state after heap'
  stores (Some frames) changed e h = record { next = record state { activations = frames }; goes = refl; frames = sym h.1; heap_is = sym h.2; input = refl; output = refl }
  stores None (Some heap) e h =
      let move : Move State = store_with None address size word before state in
      let events : List Event = heap_access Stored state address size in
      let on = goes_with move events state (record state { activations = before; heap = heap }) (quiet_in_heap Stored (λ object. refl) state address size) refl refl (ap (λ m. stored m events before state) e) in
      subst (λ fs. GoesInside move state fs heap') (sym h.1) (subst (λ m. GoesInside move state before m) (sym h.2) on)
  stores None None e h = absurd (false≢true (sym h.0))

  store_on : Puts before state.heap address size word true after heap' → GoesInside (store address size word before state) state after heap'
  store_on h = stores (with_bytes_at before address (little_bytes size word)) (with_heap_word state.heap address size word) refl h

  store_missed : (frames : Option (List Activation)) (changed : Option Heap) → with_heap_word state.heap address size word ≡ changed → PutsIn frames changed false before state.heap after heap'
      → HaltsInside (store_with frames address size word before state) (Trapped traps.BadAccess) state heap'
  store_missed (Some frames) changed e h = absurd (false≢true h.0)
  store_missed None (Some heap) e h = absurd (false≢true h.0)
  store_missed None None e h = record { halts = ap (λ m. stored m (heap_access Stored state address size) before state) e; heap_is = h.2 }

module _ (address size : ℕ) (top left : Activation) (callers : List Activation) (state : State) (after : List Activation) (heap' : Heap) where
  pub store_two : (word : ℕ) → top.operands ≡ word ∷ address ∷ drop 2 top.operands → left ≡ advanced top (drop 2 top.operands) → Puts (left ∷ callers) state.heap address size word true after heap'
      → GoesInside (with_two top.operands state (λ a w rest. store a size w (advanced top rest ∷ callers) state)) state after heap'
  store_two word last is puts =
      subst (λ os. GoesInside (with_two os state (λ a w rest. store a size w (advanced top rest ∷ callers) state)) state after heap') (sym last)
      (store_on address size word (advanced top (drop 2 top.operands) ∷ callers) state after heap' (subst (λ f. Puts (f ∷ callers) state.heap address size word true after heap') is puts))

  pub store_three : (word_for : ℕ → ℕ → ℕ) (value pool : ℕ) → top.operands ≡ pool ∷ value ∷ address ∷ drop 3 top.operands → left ≡ advanced top (drop 3 top.operands) → Puts (left ∷ callers) state.heap address size (word_for pool value) true after heap'
      → GoesInside (with_three top.operands state (λ a v p rest. store a size (word_for p v) (advanced top rest ∷ callers) state)) state after heap'
  store_three word_for value pool last is puts =
      subst (λ os. GoesInside (with_three os state (λ a v p rest. store a size (word_for p v) (advanced top rest ∷ callers) state)) state after heap') (sym last)
      (store_on address size (word_for pool value) (advanced top (drop 3 top.operands) ∷ callers) state after heap' (subst (λ f. Puts (f ∷ callers) state.heap address size (word_for pool value) true after heap') is puts))

  pub store_two_missed : (word : ℕ) → top.operands ≡ word ∷ address ∷ drop 2 top.operands → left ≡ advanced top (drop 2 top.operands) → Puts (left ∷ callers) state.heap address size word false after heap'
      → HaltsInside (with_two top.operands state (λ a w rest. store a size w (advanced top rest ∷ callers) state)) (Trapped traps.BadAccess) state heap'
  store_two_missed word last is puts =
      let before : List Activation = advanced top (drop 2 top.operands) ∷ callers in
      subst (λ os. HaltsInside (with_two os state (λ a w rest. store a size w (advanced top rest ∷ callers) state)) (Trapped traps.BadAccess) state heap') (sym last)
      (store_missed address size word before state after heap' (with_bytes_at before address (little_bytes size word)) (with_heap_word state.heap address size word) refl
      (subst (λ f. Puts (f ∷ callers) state.heap address size word false after heap') is puts))

  pub store_three_missed : (word_for : ℕ → ℕ → ℕ) (value pool : ℕ) → top.operands ≡ pool ∷ value ∷ address ∷ drop 3 top.operands → left ≡ advanced top (drop 3 top.operands)
      → Puts (left ∷ callers) state.heap address size (word_for pool value) false after heap'
      → HaltsInside (with_three top.operands state (λ a v p rest. store a size (word_for p v) (advanced top rest ∷ callers) state)) (Trapped traps.BadAccess) state heap'
  store_three_missed word_for value pool last is puts =
      let before : List Activation = advanced top (drop 3 top.operands) ∷ callers in
      subst (λ os. HaltsInside (with_three os state (λ a v p rest. store a size (word_for p v) (advanced top rest ∷ callers) state)) (Trapped traps.BadAccess) state heap') (sym last)
      (store_missed address size (word_for pool value) before state after heap' (with_bytes_at before address (little_bytes size (word_for pool value))) (with_heap_word state.heap address size (word_for pool value)) refl
      (subst (λ f. Puts (f ∷ callers) state.heap address size (word_for pool value) false after heap') is puts))
