-- Loads and stores of ranges of bytes: in frames, in the globals, and in cells and objects of the heap.
use Rattle.std.proofs.Common.{◌≡◌, ℕ, ◌+◌, ◌-◌, ◌^◌, ◌≤◌, ◌<◌, inl, inr, Bool, true, false, List, [], ◌∷◌, ◌++◌, Option, Some, None, length, map, refl, sym, ap, ap₂, ◌∙◌, subst, arith, append-nil}
use Rattle.std.specs.Prelude.{nat_le, if◌then◌else◌, option_map, is_some}
use Rattle.std.proofs.lemmas.Bool.{and_parts, leb-true}
use Rattle.byteorder.specs.Endian.{little_bytes}
use Rattle.byteorder.specs.Numbers.{length-bytes_low_first}
use Rattle.run_theory.specs.Words.{word_at}
use Rattle.run_theory.specs.Runs.{Event, Loaded, Stored, To}
use Rattle.slab_space.specs.Pool.{Object}
use Rattle.slab_space.specs.PoolSteps.{written_in}
use Rattle.slab_space.specs.Pools.{Pools, object_at, load_step, store_step}
use Rattle.pool_isa.specs.Machine as M
use Rattle.pool_isa.specs.Machine.{globals_start, in_globals, access_of, bytes_at, with_bytes_at, load_with, loaded, store_with, stored, heap_word, heap_access, with_heap_word, spliced}
use Rattle.tac_ir.specs.Events.{ReadFrom, WroteTo, seen}
use Rattle.pool_ir.specs.Code.{Function, PoolCode}
use Rattle.pool_ir.specs.States as P
use Rattle.pool_ir.specs.States.{PoolEvent, same, function_of}
use Rattle.pool_ir.specs.Memory.{frame_number, with_frame_bytes, activations_of, number_at, with_number, access}
use Rattle.stack_code.specs.Standing.{told, activation_at, StandsAt}
use Rattle.stack_code.specs.Fitting.{CodeFits}
use Rattle.stack_code.proofs.WrittenBytes.{length-over}
use Rattle.stack_code.proofs.HighObjects.{object_high, none_low}
use Rattle.stack_code.proofs.FrameRanges.{Pair, Pairs, pairs_of, Found, frames_find, frames_miss, frames_put, put_misses}
use Rattle.stack_code.proofs.Told.{seen_more, told_more}
use Rattle.stack_code.proofs.Steps.{function_fits, machine_at, frame_low}
use Rattle.stack_code.proofs.PoolStack.Points.{changed}

-- ---- ranges of code with pools, by where they are found

number_by : Option ℕ → List ℕ → Pools → ℕ → ℕ → Option ℕ
number_by (Some number) globals pools address size = Some number
number_by None globals pools address size = if in_globals globals address size then Some (word_at globals (address - globals_start) size) else load_step pools address size

number_is : (state : P.State) (address size : ℕ) (found : Option ℕ) → frame_number (activations_of state) address size ≡ found → number_at state address size ≡ number_by found state.globals state.pools address size
unfolding number_by
number_is state address size None e = rw e refl
number_is state address size (Some number) e = rw e refl

with_by : Option (P.Activation × List (ℕ × P.Activation)) → P.State → ℕ → ℕ → ℕ → Option P.State
with_by (Some found) state address size word = Some (record state { running = found.0; callers = found.1 })
with_by None state address size word =
    if in_globals state.globals address size then Some (record state { globals = spliced state.globals (address - globals_start) (little_bytes size word) })
    else option_map (λ (pools : Pools). record state { pools = pools }) (store_step state.pools address size word)

with_is : (state : P.State) (address size word : ℕ) (found : Option (P.Activation × List (ℕ × P.Activation))) → with_frame_bytes state.running state.callers address (little_bytes size word) ≡ found
    → with_number state address size word ≡ with_by found state address size word
unfolding with_by
with_is state address size word None e = rw e refl
with_is state address size word (Some found) e = rw e refl

in_globals_facts : (globals : List ℕ) (address size : ℕ) → in_globals globals address size ≡ true → (globals_start ≤ address) × (address + size ≤ globals_start + length globals)
in_globals_facts globals address size e =
    let both = and_parts (nat_le globals_start address) (nat_le (address + size) (globals_start + length globals)) e in
    (leb-true globals_start address both.0, leb-true (address + size) (globals_start + length globals) both.1)

-- ---- what is told of an access

happened_is : (events : List Event) (s : M.State) → M.happened events s ≡ record s { trace = s.trace ++ events }
happened_is [] s = λ i. record s { trace = sym (append-nil s.trace) i }
happened_is (event ∷ events) s = refl

read_quiet : (state : P.State) (address size : ℕ) → address < 2 ^ 44 → access ReadFrom state address size ≡ []
read_quiet state address size low = rw (none_low state.pools address size low) refl

wrote_quiet : (state : P.State) (address size : ℕ) → address < 2 ^ 44 → access WroteTo state address size ≡ []
wrote_quiet state address size low = rw (none_low state.pools address size low) refl

read_seen : (state : P.State) (address size : ℕ) (found : Option Object) → object_at state.pools address size ≡ found → access_of Loaded state.placed found ≡ seen (same (access ReadFrom state address size))
read_seen state address size None e = rw e refl
read_seen state address size (Some object) e = rw e refl

wrote_seen : (state : P.State) (address size : ℕ) (found : Option Object) → object_at state.pools address size ≡ found → access_of Stored state.placed found ≡ seen (same (access WroteTo state address size))
wrote_seen state address size None e = rw e refl
wrote_seen state address size (Some object) e = rw e refl

read_untold : (state : P.State) (address size : ℕ) (found : Option Object) → object_at state.pools address size ≡ found → told (access ReadFrom state address size) ≡ []
read_untold state address size None e = rw e refl
read_untold state address size (Some object) e = rw e refl

wrote_untold : (state : P.State) (address size : ℕ) (found : Option Object) → object_at state.pools address size ≡ found → told (access WroteTo state address size) ≡ []
wrote_untold state address size None e = rw e refl
wrote_untold state address size (Some object) e = rw e refl

-- an object is loaded or stored
load_object : (pools : Pools) (address size number : ℕ) → load_step pools address size ≡ Some number → 2 ^ 44 ≤ address
load_object pools address size number e = by (object_at pools address size) refl e
  where
    by : (found : Option Object) → object_at pools address size ≡ found → option_map (λ (o : Object). word_at o.bytes (address - o.start) size) found ≡ Some number → 2 ^ 44 ≤ address
    by None is e = absurd (cc)
    by (Some object) is e = object_high pools address size object is

store_object : (pools later : Pools) (address size word : ℕ) → store_step pools address size word ≡ Some later → 2 ^ 44 ≤ address
store_object pools later address size word e = by (object_at pools address size) refl (record pools { pools = map (option_map (written_in address size word)) pools.pools }) e
  where
    by : (found : Option Object) → object_at pools address size ≡ found → (made : Pools) → (if is_some found then Some made else None) ≡ Some later → 2 ^ 44 ≤ address
    by None is made e = absurd (cc)
    by (Some object) is made e = object_high pools address size object is

module _ (code : PoolCode) (most : ℕ) (fits : CodeFits most code) (state : P.State) (machine : M.State) (function : Function) (place : ℕ) (operands : List ℕ) (stands : StandsAt code state machine function place operands) where
  pair : (at : ℕ) (left : List ℕ) → Pair most state.running (activation_at state.running at left stands.bytes)
  pair at left = record { function = function; fits = function_fits code most fits state machine function place operands stands; start = refl; frame = stands.frame }

  pairs : Pairs most state.callers stands.callers
  pairs = pairs_of most code fits state.callers stands.callers stands.waiting

  low_end : state.running.start + length state.running.bytes < 2 ^ 44
  low_end = omega (arith, frame_low code most fits state machine function place operands stands, stands.frame.as_long)

  -- ---- loads

  module _ (address size number : ℕ) (wide : 1 ≤ size) (word_for : ℕ → ℕ) (left : List ℕ) where
    abbrev own : M.Activation
    own = activation_at state.running place operands stands.bytes

    abbrev canon : M.State
    canon = machine_at code most fits state machine function place operands stands place operands

    -- the state after the load
    abbrev pub after_load : M.State
    after_load = record machine {
      activations = activation_at state.running (place + 1) (word_for number ∷ left) stands.bytes ∷ stands.callers;
      trace = machine.trace ++ seen (same (access ReadFrom state address size));
    }

    heard : (events : List Event) → events ≡ seen (same (access ReadFrom state address size)) → loaded word_for (Some number) events left own stands.callers canon ≡ To after_load
    heard events e =
        ap (λ (s : M.State). To (record s { activations = activation_at state.running (place + 1) (word_for number ∷ left) stands.bytes ∷ stands.callers })) (happened_is events canon)
        ∙ ap (λ t. To (record machine { activations = activation_at state.running (place + 1) (word_for number ∷ left) stands.bytes ∷ stands.callers; trace = machine.trace ++ t })) e

    outside : bytes_at (own ∷ stands.callers) address size ≡ None → M.load word_for address size left own stands.callers canon
        ≡ loaded word_for (heap_word machine.heap address size) (heap_access Loaded canon address size) left own stands.callers canon
    outside none = ap (λ bytes. load_with word_for bytes address size left own stands.callers canon) none

    in_heap : (b : Bool) → in_globals state.globals address size ≡ b → (if b then Some (word_at state.globals (address - globals_start) size) else load_step state.pools address size) ≡ Some number
        → M.load word_for address size left own stands.callers canon ≡ To after_load
    in_heap true is e =
        let facts = in_globals_facts state.globals address size is in
        let here : in_globals machine.heap.globals address size ≡ true = ap (λ g. in_globals g address size) stands.rest.globals ∙ is in
        outside (frames_miss most address size wide state.running state.callers own stands.callers (pair place operands) pairs stands.lie.stacked (inl (omega (arith, facts.1, stands.lie.globals))))
        ∙ ap₂ (λ (word : Option ℕ) (events : List Event). loaded word_for word events left own stands.callers canon)
        (ap (λ b. if b then Some (word_at machine.heap.globals (address - globals_start) size) else load_step machine.heap.pools address size) here
        ∙ ap (λ g. Some (word_at g (address - globals_start) size)) stands.rest.globals ∙ e)
        (ap (λ b. if b then [] else access_of Loaded machine.history.placed (object_at machine.heap.pools address size)) here)
        ∙ heard [] (ap (λ t. seen (same t)) (sym (read_quiet state address size (omega (arith, facts.1, stands.lie.globals)))))
    in_heap false is e =
        let high = load_object state.pools address size number e in
        let here : in_globals machine.heap.globals address size ≡ false = ap (λ g. in_globals g address size) stands.rest.globals ∙ is in
        outside (frames_miss most address size wide state.running state.callers own stands.callers (pair place operands) pairs stands.lie.stacked (inr (omega (arith, high, low_end))))
        ∙ ap₂ (λ (word : Option ℕ) (events : List Event). loaded word_for word events left own stands.callers canon)
        (ap (λ b. if b then Some (word_at machine.heap.globals (address - globals_start) size) else load_step machine.heap.pools address size) here
        ∙ ap (λ p. load_step p address size) stands.rest.pools ∙ e)
        (ap (λ b. if b then [] else access_of Loaded machine.history.placed (object_at machine.heap.pools address size)) here
        ∙ ap₂ (λ (placed : List ℕ) (p : Pools). access_of Loaded placed (object_at p address size)) stands.rest.placed stands.rest.pools)
        ∙ heard (access_of Loaded state.placed (object_at state.pools address size)) (read_seen state address size (object_at state.pools address size) refl)

    in_frames : Found state.running (own ∷ stands.callers) address size number → M.load word_for address size left own stands.callers canon ≡ To after_load
    in_frames found =
        ap (λ bytes. load_with word_for bytes address size left own stands.callers canon) found.is ∙ ap (λ n. loaded word_for (Some n) [] left own stands.callers canon) found.number_is
        ∙ heard [] (ap (λ t. seen (same t)) (sym (read_quiet state address size (omega (arith, found.below, low_end)))))

    pub loads_number : number_at state address size ≡ Some number → M.load word_for address size left own stands.callers canon ≡ To after_load
    unfolding number_by
    loads_number e = by (frame_number (activations_of state) address size) refl
      where
        by : (found : Option ℕ) → frame_number (activations_of state) address size ≡ found → M.load word_for address size left own stands.callers canon ≡ To after_load
        by None is = in_heap (in_globals state.globals address size) refl (sym (number_is state address size None is) ∙ e)
        by (Some found) is =
            let same : Some found ≡ Some number = sym (number_is state address size (Some found) is) ∙ e in
            in_frames (frames_find most address size number wide state.running state.callers own stands.callers (pair place operands) pairs stands.lie.stacked (is ∙ same))

    pub load_stands : StandsAt code (P.emit (access ReadFrom state address size) state) after_load function (place + 1) (word_for number ∷ left)
    load_stands =
        changed code most fits state machine function place operands stands state.globals state.pools state.placed state.input (state.trace ++ access ReadFrom state address size) after_load (place + 1) (word_for number ∷ left) refl refl
        (record {
          globals = stands.rest.globals;
          pools = stands.rest.pools;
          placed = stands.rest.placed;
          told =
              stands.rest.told ∙ sym (append-nil (told state.trace)) ∙ ap (λ t. told state.trace ++ t) (sym (read_untold state address size (object_at state.pools address size) refl))
              ∙ sym (told_more state.trace (access ReadFrom state address size));
          input = stands.rest.input;
          trace = ap (λ t. t ++ seen (same (access ReadFrom state address size))) stands.rest.trace ∙ sym (seen_more state.trace (access ReadFrom state address size));
        })

  -- ---- stores

  module _ (address size word : ℕ) (wide : 1 ≤ size) (left : List ℕ) where
    abbrev rested : M.Activation
    rested = activation_at state.running (place + 1) left stands.bytes

    abbrev state_now : M.State
    state_now = machine_at code most fits state machine function place operands stands place operands

    pub record Stores (later : P.State) : Type 0 where
      pub after : M.State
      pub at_same : later.running.at ≡ state.running.at
      pub is : M.store address size word (rested ∷ stands.callers) state_now ≡ To after
      pub after_stands : StandsAt code (P.emit (access WroteTo state address size) later) after function (place + 1) left

    long : length (little_bytes size word) ≡ size
    long = length-bytes_low_first 0 size word

    in_frame : (found : P.Activation × List (ℕ × P.Activation)) → with_frame_bytes state.running state.callers address (little_bytes size word) ≡ Some found → Stores (record state { running = found.0; callers = found.1 })
    in_frame found e =
        let put = frames_put code most fits address (little_bytes size word) (omega (arith, wide, long)) state.running state.callers function (place + 1) left stands.bytes stands.callers
        (function_fits code most fits state machine function place operands stands) stands.frame stands.waiting stands.lie.stacked found e in
        let quiet = wrote_quiet state address size (omega (arith, put.below, low_end, long, wide)) in
        record {
          after = record machine { activations = activation_at found.0 (place + 1) left put.later ∷ put.more };
          at_same = put.same.at;
          is = ap (λ a. store_with a address size word (rested ∷ stands.callers) state_now) put.is;
          after_stands = record {
            bytes = put.later;
            callers = put.more;
            is = ap (function_of code) put.same.owner ∙ stands.is;
            activations = refl;
            frame = put.frame;
            waiting = put.waiting;
            lie = record {
              stacked = put.stacked;
              low = omega (arith, put.same.start, put.depth, stands.lie.low);
              depth = omega (arith, put.depth, stands.lie.depth);
              globals = stands.lie.globals;
            };
            rest = record {
              globals = stands.rest.globals;
              pools = stands.rest.pools;
              placed = stands.rest.placed;
              told =
                  stands.rest.told ∙ sym (append-nil (told state.trace)) ∙ ap (λ t. told state.trace ++ t) (sym (wrote_untold state address size (object_at state.pools address size) refl))
                  ∙ sym (told_more state.trace (access WroteTo state address size));
              input = stands.rest.input;
              trace =
                  stands.rest.trace ∙ sym (append-nil (seen (same state.trace))) ∙ ap (λ t. seen (same state.trace) ++ seen (same t)) (sym quiet)
                  ∙ sym (seen_more state.trace (access WroteTo state address size));
            };
          };
        }

    -- outside of frames
    beside : with_bytes_at (rested ∷ stands.callers) address (little_bytes size word) ≡ None → (heap : M.Heap) (events : List Event) → with_heap_word machine.heap address size word ≡ Some heap
        → heap_access Stored state_now address size ≡ events → (globals : List ℕ) (pools : Pools) → length globals ≡ length state.globals → heap.globals ≡ globals → heap.pools ≡ pools
        → events ≡ seen (same (access WroteTo state address size)) → Stores (record state { globals = globals; pools = pools })
    beside none heap events is heard globals pools same_long globals_are pools_are told_is =
        let after = record machine { activations = rested ∷ stands.callers; heap = heap; trace = machine.trace ++ events } in
        record {
          after = after;
          at_same = refl;
          is =
              ap (λ a. store_with a address size word (rested ∷ stands.callers) state_now) none
              ∙ ap₂ (λ (h : Option M.Heap) (es : List Event). stored h es (rested ∷ stands.callers) state_now) is heard
              ∙ ap To (happened_is events (record machine { activations = rested ∷ stands.callers; heap = heap }));
          after_stands =
              changed code most fits state machine function place operands stands globals pools state.placed state.input (state.trace ++ access WroteTo state address size) after (place + 1) left same_long refl
              (record {
                globals = globals_are;
                pools = pools_are;
                placed = stands.rest.placed;
                told =
                    stands.rest.told ∙ sym (append-nil (told state.trace)) ∙ ap (λ t. told state.trace ++ t) (sym (wrote_untold state address size (object_at state.pools address size) refl))
                    ∙ sym (told_more state.trace (access WroteTo state address size));
                input = stands.rest.input;
                trace = ap₂ ◌++◌ stands.rest.trace told_is ∙ sym (seen_more state.trace (access WroteTo state address size));
              });
        }

    in_heap_stored : (later : P.State) (b : Bool) → in_globals state.globals address size ≡ b
        → (if b then Some (record state { globals = spliced state.globals (address - globals_start) (little_bytes size word) })
        else option_map (λ (pools : Pools). record state { pools = pools }) (store_step state.pools address size word)) ≡ Some later
        → Stores later
    in_heap_stored later true is e =
        let facts = in_globals_facts state.globals address size is in
        let here : in_globals machine.heap.globals address size ≡ true = ap (λ g. in_globals g address size) stands.rest.globals ∙ is in
        let globals = spliced state.globals (address - globals_start) (little_bytes size word) in
        let same_state : record state { globals = globals } ≡ later = cc in
        subst Stores same_state
        (beside (put_misses most address (little_bytes size word) (omega (arith, wide, long)) state.running state.callers rested stands.callers (pair (place + 1) left) pairs stands.lie.stacked (inl (omega (arith, facts.1, stands.lie.globals, long))))
        (record machine.heap { globals = spliced machine.heap.globals (address - globals_start) (little_bytes size word) }) []
        (ap (λ b. if b then Some (record machine.heap { globals = spliced machine.heap.globals (address - globals_start) (little_bytes size word) }) else option_map (λ (p : Pools). record machine.heap { pools = p }) (store_step machine.heap.pools address size word)) here)
        (ap (λ b. if b then [] else access_of Stored machine.history.placed (object_at machine.heap.pools address size)) here)
        globals state.pools (length-over state.globals (little_bytes size word) (address - globals_start) (omega (arith, facts.0, facts.1, long)))
        (ap (λ (g : List ℕ). spliced g (address - globals_start) (little_bytes size word)) stands.rest.globals) stands.rest.pools
        (ap (λ (t : List PoolEvent). seen (same t)) (sym (wrote_quiet state address size (omega (arith, facts.1, stands.lie.globals))))))
    in_heap_stored later false is e = by (store_step state.pools address size word) refl e
      where
        by : (found : Option Pools) → store_step state.pools address size word ≡ found → option_map (λ (pools : Pools). record state { pools = pools }) found ≡ Some later → Stores later
        by None found e = absurd (cc)
        by (Some pools) found e =
            let high = store_object state.pools pools address size word found in
            let here : in_globals machine.heap.globals address size ≡ false = ap (λ g. in_globals g address size) stands.rest.globals ∙ is in
            let same_state : record state { pools = pools } ≡ later = cc in
            subst Stores same_state
            (beside (put_misses most address (little_bytes size word) (omega (arith, wide, long)) state.running state.callers rested stands.callers (pair (place + 1) left) pairs stands.lie.stacked (inr (omega (arith, high, low_end, long))))
            (record machine.heap { pools = pools }) (access_of Stored state.placed (object_at state.pools address size))
            (ap (λ b. if b then Some (record machine.heap { globals = spliced machine.heap.globals (address - globals_start) (little_bytes size word) }) else option_map (λ (p : Pools). record machine.heap { pools = p }) (store_step machine.heap.pools address size word)) here
            ∙ ap (λ (q : Pools). option_map (λ (p : Pools). record machine.heap { pools = p }) (store_step q address size word)) stands.rest.pools ∙ ap (λ (q : Option Pools). option_map (λ (p : Pools). record machine.heap { pools = p }) q) found)
            (ap (λ b. if b then [] else access_of Stored machine.history.placed (object_at machine.heap.pools address size)) here
            ∙ ap₂ (λ (placed : List ℕ) (p : Pools). access_of Stored placed (object_at p address size)) stands.rest.placed stands.rest.pools)
            state.globals pools refl stands.rest.globals refl (wrote_seen state address size (object_at state.pools address size) refl))

    pub stores_number : (later : P.State) → with_number state address size word ≡ Some later → Stores later
    unfolding with_by
    stores_number later e = by (with_frame_bytes state.running state.callers address (little_bytes size word)) refl
      where
        by : (found : Option (P.Activation × List (ℕ × P.Activation))) → with_frame_bytes state.running state.callers address (little_bytes size word) ≡ found → Stores later
        by None is = in_heap_stored later (in_globals state.globals address size) refl (sym (with_is state address size word None is) ∙ e)
        by (Some found) is =
            let same_state : record state { running = found.0; callers = found.1 } ≡ later = (let both : Some (record state { running = found.0; callers = found.1 }) ≡ Some later = sym (with_is state address size word (Some found) is) ∙ e in cc) in
            subst Stores same_state (in_frame found is)
