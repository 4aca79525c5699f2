-- Memory while code with pools runs: the globals, the frames of activations, and the live cells and objects of pools, at the machine's
-- addresses. A range is loaded or stored where it lies in one of these, and not in words of a frame; else the run is trapped.
use Rattle.std.specs.Prelude.{ℕ, ◌+◌, ◌-◌, Bool, ◌&&◌, nat_le, if◌then◌else◌, List, [], ◌∷◌, length, map, take, drop, Option, Some, None, option_map}
use Rattle.byteorder.specs.Endian.{little_bytes, little_number}
use Rattle.slab_space.specs.Pool.{Object}
use Rattle.slab_space.specs.Pools.{Pools, object_at, load_step, store_step, address_of, index_of}
use Rattle.tac_ir.specs.Events.{TacEvent}
use Rattle.pool_isa.specs.Machine.{size_of, spliced, globals_start, in_globals, number_of, loaded_word}
use Rattle.pool_ir.specs.Code.{Slot, IntegerSlot, AddressSlot, IndexSlot, Base, AtFrame, AtGlobals, Pointed, Indexed, Step, Member, Element, Path}
use Rattle.pool_ir.specs.Words.{word_in, moved_by}
use Rattle.pool_ir.specs.States.{Activation, State, PoolEvent, Same}

-- ---- frames

-- the range lies in the frame, behind its words
abbrev pub covers : Activation → ℕ → ℕ → Bool
covers activation address size = nat_le (activation.start + activation.kept) address && nat_le (address + size) (activation.start + length activation.bytes)

abbrev pub frame_number : List Activation → ℕ → ℕ → Option ℕ
frame_number [] address size = None
frame_number (first ∷ others) address size =
    if covers first address size then Some (little_number size (take size (drop (address - first.start) first.bytes))) else frame_number others address size

abbrev pub with_bytes : Activation → ℕ → List ℕ → Activation
with_bytes activation address new = record activation { bytes = spliced activation.bytes (address - activation.start) new }

-- the activations with new bytes at an address
abbrev pub with_frame_bytes : Activation → List (ℕ × Activation) → ℕ → List ℕ → Option (Activation × List (ℕ × Activation))
with_frame_bytes running [] address new = if covers running address (length new) then Some (with_bytes running address new, []) else None
with_frame_bytes running ((site, caller) ∷ callers) address new =
    if covers running address (length new) then Some (with_bytes running address new, (site, caller) ∷ callers)
    else option_map (λ (found : Activation × List (ℕ × Activation)). (running, (site, found.0) ∷ found.1)) (with_frame_bytes caller callers address new)

abbrev pub activations_of : State → List Activation
activations_of state = state.running ∷ map (λ (waiting : ℕ × Activation). waiting.1) state.callers

-- ---- ranges

-- the number in the bytes of a range
abbrev pub number_at : State → ℕ → ℕ → Option ℕ
number_at state address size = by (frame_number (activations_of state) address size)
  where
    by : Option ℕ → Option ℕ
    by (Some number) = Some number
    by None =
        if in_globals state.globals address size then Some (little_number size (take size (drop (address - globals_start) state.globals)))
        else load_step state.pools address size

-- the state with the lowest bytes of a word in a range
abbrev pub with_number : State → ℕ → ℕ → ℕ → Option State
with_number state address size word = by (with_frame_bytes state.running state.callers address (little_bytes size word))
  where
    by : Option (Activation × List (ℕ × Activation)) → Option State
    by (Some found) = Some (record state { running = found.0; callers = found.1 })
    by None =
        if in_globals state.globals address size then Some (record state { globals = spliced state.globals (address - globals_start) (little_bytes size word) })
        else option_map (λ (pools : Pools). record state { pools = pools }) (store_step state.pools address size word)

-- what is told of an access: the object of the heap in which the range lies
abbrev pub access : (ℕ → TacEvent) → State → ℕ → ℕ → List PoolEvent
access event state address size = by (object_at state.pools address size)
  where
    by : Option Object → List PoolEvent
    by None = []
    by (Some object) = Same (event (number_of state.placed object.start)) ∷ []

-- ---- slots

abbrev pub slot_size : Slot → ℕ
slot_size (IntegerSlot int_type) = size_of int_type
slot_size AddressSlot = 8
slot_size (IndexSlot descriptor) = 4

-- the word of what stands in a slot
abbrev pub slot_word : State → Slot → ℕ → ℕ
slot_word state (IntegerSlot int_type) number = loaded_word int_type number
slot_word state AddressSlot number = number
slot_word state (IndexSlot descriptor) number = address_of state.pools (state.running.descriptors descriptor) number

-- what stands in a slot for a word
abbrev pub slot_number : State → Slot → ℕ → ℕ
slot_number state (IntegerSlot int_type) word = word
slot_number state AddressSlot word = word
slot_number state (IndexSlot descriptor) word = index_of state.pools (state.running.descriptors descriptor) word

-- ---- paths

abbrev pub base_address : Activation → Base → ℕ
base_address running (AtFrame offset) = running.start + offset
base_address running (AtGlobals offset) = globals_start + offset
base_address running (Pointed pointer) = running.words pointer
base_address running (Indexed pointer size number) = moved_by (running.words pointer) size (word_in running.words number)

abbrev pub step_address : Activation → Step → ℕ → ℕ
step_address running (Member offset) address = moved_by address offset 1
step_address running (Element size index) address = moved_by address size (word_in running.words index)

abbrev pub steps_address : Activation → List Step → ℕ → ℕ
steps_address running [] address = address
steps_address running (first ∷ others) address = steps_address running others (step_address running first address)

-- the address to which a path leads
abbrev pub path_address : Activation → Path → ℕ
path_address running path = steps_address running path.steps (base_address running path.base)
