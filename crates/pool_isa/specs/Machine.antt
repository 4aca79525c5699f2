-- What the machine does with the code of an image.
--
-- Words have 64 bits; memory is bytes, the low one first. The globals lie from 4,096 on. Frames lie from 2 ^ 40 on one after
-- another, each rounded up to 16 bytes; a frame holds its parameters in words from its offset 0, then its extra bytes, zero at
-- entry. The slabs of the heap lie from 2 ^ 44 on. The word of function f is 2 ^ 48 + f. Each call has operands of its own,
-- empty at entry. A step is one executed instruction; one that traps or ends counts.
use Rattle.std.specs.Prelude.{ℕ, zero, suc, ◌+◌, ◌-◌, ◌*◌, ◌/◌, ◌%◌, ◌^◌, ℤ, pos, Bool, true, false, not, ◌&&◌, ◌||◌, ◌==◌, nat_eq, nat_lt, nat_le, if◌then◌else◌, List, [], ◌∷◌, ◌++◌, length, take, drop, reverse, replicate, slice_get, option_map, Option, Some, None, is_some}
use Rattle.std.specs.List.{flat_map}
use Rattle.byteorder.specs.Endian.{little_bytes, little_number}
use Rattle.run_theory.specs.declared.ends.TrapKind.{TrapKind}
use Rattle.run_theory.specs.declared.ends.TrapKind.TheVariants as traps
use Rattle.run_theory.specs.Runs.{Event, Trace, Output, Called, CalledStart, Returned, Allocated, Freed, Loaded, Stored, Ended, DepthReached, HeapExhausted, IndexExhausted, Trapped, Move, To, Halt, steps, Run}
use Rattle.c_num.specs.declared.IntType.{IntType}
use Rattle.c_num.specs.declared.BinOp.{BinOp}
use Rattle.c_num.specs.declared.Relation.{Relation}
use Rattle.c_num.specs.Types.{width_of}
use Rattle.c_num.specs.Conversion.{convert_to, word_of}
use Rattle.c_num.specs.Arith.{wrapped, wrapped_negation, complement_of, compare_of}
use Rattle.slab_space.specs.declared.kind.PoolKind.{PoolKind}
use Rattle.slab_space.specs.declared.kind.PoolKind.TheVariants.{Homogeneous, Mixed}
use Rattle.slab_space.specs.Pool.{Pool, Object}
use Rattle.slab_space.specs.PoolSteps.{Allocation, placed, index_exhausted, heap_exhausted}
use Rattle.slab_space.specs.Pools.{Pools, new_pools, pool_at, init_step, destroy_step, alloc_step, free_step, object_at, load_step, store_step, address_of, index_of, lives_of, peak_of, slabs_of, free_slabs_of}
use Rattle.pool_isa.specs.declared.instr.Width.{Width}
use Rattle.pool_isa.specs.declared.instr.Width.TheVariants as widths
use Rattle.pool_isa.specs.declared.instr.Instr.{Instr}
use Rattle.pool_isa.specs.declared.instr.Instr.TheVariants as instrs
use Rattle.pool_isa.specs.declared.site.Site.{Site}
use Rattle.pool_isa.specs.Tally.{Tally, new_tally, pool_made, pool_destroyed, object_placed}

-- a function of an image: the words of its parameters, the bytes of its frame beyond them, how many operands it may
-- hold at once, the number of its signature, and its instructions
pub record Function : Type 0 where
  pub parameters : ℕ
  pub extra : ℕ
  pub height : ℕ
  pub signature : ℕ
  pub code : List Instr

-- a function that was called and has not returned: which one, the instruction that comes next, the operands, the last
-- one first, and the address and the bytes of its frame
pub record Activation : Type 0 where
  pub function : ℕ
  pub place : ℕ
  pub operands : List ℕ
  pub start : ℕ
  pub bytes : List ℕ

-- what is run: the functions, the kinds of pools, and how many bytes the globals have and begin with
pub record Code : Type 0 where
  pub functions : List Function
  pub kinds : List PoolKind
  pub globals : ℕ
  pub contents : List ℕ

-- the memory beside the frames: the bytes of the globals, the pools, and what is counted of these
pub record Heap : Type 0 where
  pub globals : List ℕ
  pub pools : Pools
  pub tally : Tally

-- What is done with pools, between calls and returns: the p-th pool made is pool p.
pub data PoolEvent : Type 0 where
  Entered : (function : ℕ) → PoolEvent
  EnteredStart : PoolEvent
  Left : PoolEvent
  Made : (kind : ℕ) → PoolEvent
  Destroyed : (pool : ℕ) → PoolEvent
  Placed : (object pool : ℕ) → PoolEvent
  Released : (object : ℕ) → PoolEvent

-- What theorems ask for and no step depends on: where each object of the heap was placed, the newest first, and what was done
-- with pools.
pub record History : Type 0 where
  pub placed : List ℕ
  pub pool_events : List PoolEvent

-- the activations, the innermost first, the rest of memory, its history, the input that is left and the trace
pub record State : Type 0 where
  pub activations : List Activation
  pub heap : Heap
  pub history : History
  pub input : List ℕ
  pub trace : Trace

abbrev pub trap : TrapKind → State → Move State
trap kind state = Halt (Trapped kind) state

-- ---- what happens

-- The program's functions follow `start`, and events name them by their numbers without it; `start` is none of them.
abbrev pub call_event : ℕ → Event
call_event zero = CalledStart
call_event (suc number) = Called number

abbrev pub entry_event : ℕ → PoolEvent
entry_event zero = EnteredStart
entry_event (suc number) = Entered number

abbrev pub happened : List Event → State → State
happened [] state = state
happened (event ∷ events) state = record state { trace = state.trace ++ event ∷ events }

abbrev pub pool_happened : List PoolEvent → State → State
pool_happened events state = record state { history = record state.history { pool_events = state.history.pool_events ++ events } }

-- ---- memory

abbrev pub size_of : IntType → ℕ
size_of type = width_of type / 8

abbrev pub bytes_in : Width → ℕ
bytes_in widths.One = 1
bytes_in widths.Two = 2
bytes_in widths.Four = 4
bytes_in widths.Eight = 8

-- the range of bytes lies in the frame
abbrev pub covers : Activation → ℕ → ℕ → Bool
covers frame address size = nat_le frame.start address && nat_le (address + size) (frame.start + length frame.bytes)

-- the bytes of a range, where it lies in one living frame
abbrev pub bytes_at : List Activation → ℕ → ℕ → Option (List ℕ)
bytes_at [] address size = None
bytes_at (frame ∷ frames) address size =
    if covers frame address size then Some (take size (drop (address - frame.start) frame.bytes)) else bytes_at frames address size

-- new bytes in the place of as many old ones
abbrev pub spliced : List ℕ → ℕ → List ℕ → List ℕ
spliced bytes offset new = take offset bytes ++ new ++ drop (offset + length new) bytes

abbrev pub beneath : Activation → Option (List Activation) → Option (List Activation)
beneath frame None = None
beneath frame (Some frames) = Some (frame ∷ frames)

-- the activations with new bytes at an address, where the range lies in one living frame
abbrev pub with_bytes_at : List Activation → ℕ → List ℕ → Option (List Activation)
with_bytes_at [] address new = None
with_bytes_at (frame ∷ frames) address new =
    if covers frame address (length new) then Some (record frame { bytes = spliced frame.bytes (address - frame.start) new } ∷ frames)
    else beneath frame (with_bytes_at frames address new)

abbrev pub globals_start : ℕ
globals_start = 4096

abbrev pub in_globals : List ℕ → ℕ → ℕ → Bool
in_globals globals address size = nat_le globals_start address && nat_le (address + size) (globals_start + length globals)

-- the number in the bytes of a range, where it lies in the globals or in one live cell or object
abbrev pub heap_word : Heap → ℕ → ℕ → Option ℕ
heap_word heap address size =
    if in_globals heap.globals address size then Some (little_number size (take size (drop (address - globals_start) heap.globals)))
    else load_step heap.pools address size

-- the heap with the lowest bytes of a word in such a range
abbrev pub with_heap_word : Heap → ℕ → ℕ → ℕ → Option Heap
with_heap_word heap address size word =
    if in_globals heap.globals address size then Some (record heap { globals = spliced heap.globals (address - globals_start) (little_bytes size word) })
    else option_map (λ pools. record heap { pools = pools }) (store_step heap.pools address size word)

-- Object k of the heap is what the k-th allocation of more than 0 bytes placed: the number of what was placed last at an address.
abbrev pub number_of : List ℕ → ℕ → ℕ
number_of [] address = 0
number_of (first ∷ others) address = if first == address then suc (length others) else number_of others address

-- what is told of an access: the number of the object of the heap in which the range lies
abbrev pub access_of : (ℕ → Event) → List ℕ → Option Object → List Event
access_of event starts None = []
access_of event starts (Some object) = event (number_of starts object.start) ∷ []

abbrev pub heap_access : (ℕ → Event) → State → ℕ → ℕ → List Event
heap_access event state address size =
    if in_globals state.heap.globals address size then [] else access_of event state.history.placed (object_at state.heap.pools address size)

-- ---- instructions of one function

-- the activation with its instruction done and these operands left
abbrev pub advanced : Activation → List ℕ → Activation
advanced top operands = record top { place = top.place + 1; operands = operands }

-- goes on with these activations
abbrev pub resumed : List Activation → State → Move State
resumed activations state = To (record state { activations = activations })

-- goes on with a word pushed on these operands
abbrev pub pushed : ℕ → ℕ → List ℕ → Activation → List Activation → State → Move State
pushed height word operands top callers state =
    if nat_lt (length operands) height then resumed (advanced top (word ∷ operands) ∷ callers) state else trap traps.StackFull state

-- takes the last operand, or the last two
abbrev pub with_one : List ℕ → State → (ℕ → List ℕ → Move State) → Move State
with_one [] state go = trap traps.StackEmpty state
with_one (word ∷ operands) state go = go word operands

abbrev pub with_two : List ℕ → State → (ℕ → ℕ → List ℕ → Move State) → Move State
with_two [] state go = trap traps.StackEmpty state
with_two (last ∷ []) state go = trap traps.StackEmpty state
with_two (last ∷ first ∷ operands) state go = go first last operands

-- the value of a type that a word holds: the word converted to the type
abbrev pub value_in : IntType → ℕ → ℤ
value_in type word = convert_to type (pos word)

-- What is pushed in the place of operands: the word of what the operator gives on their values. No operator on words is
-- undefined.
abbrev pub binary_word : BinOp → IntType → ℕ → ℕ → ℕ
binary_word op type left right = word_of type (wrapped op type (value_in type left) (value_in type right))

abbrev pub negated_word : IntType → ℕ → ℕ
negated_word type word = word_of type (wrapped_negation type (value_in type word))

abbrev pub complement_word : IntType → ℕ → ℕ
complement_word type word = word_of type (complement_of type (value_in type word))

-- 1 where the relation holds between the values, otherwise 0 (C17 6.5.8 paragraph 6, 6.5.9 paragraph 3)
abbrev pub compared_word : Relation → IntType → ℕ → ℕ → ℕ
compared_word relation type left right = if compare_of relation (value_in type left) (value_in type right) then 1 else 0

abbrev pub converted_word : IntType → ℕ → ℕ
converted_word type word = word_of type (pos word)

-- the activation at this place if the test holds, otherwise at its next instruction, with these operands left
abbrev pub branched : Bool → ℕ → Activation → List ℕ → Activation
branched test target top operands = if test then record top { place = target; operands = operands } else advanced top operands

-- goes on with the word that is made of a loaded number
abbrev pub loaded : (ℕ → ℕ) → Option ℕ → List Event → List ℕ → Activation → List Activation → State → Move State
loaded word_for None events operands top callers state = trap traps.BadAccess state
loaded word_for (Some number) events operands top callers state = resumed (advanced top (word_for number ∷ operands) ∷ callers) (happened events state)

-- a load of so many bytes, where the range lies in the globals, in one living frame, or in one live cell or object
abbrev pub load_with : (ℕ → ℕ) → Option (List ℕ) → ℕ → ℕ → List ℕ → Activation → List Activation → State → Move State
load_with word_for (Some bytes) address size operands top callers state = loaded word_for (Some (little_number size bytes)) [] operands top callers state
load_with word_for None address size operands top callers state =
    loaded word_for (heap_word state.heap address size) (heap_access Loaded state address size) operands top callers state

abbrev pub load : (ℕ → ℕ) → ℕ → ℕ → List ℕ → Activation → List Activation → State → Move State
load word_for address size operands top callers state = load_with word_for (bytes_at (top ∷ callers) address size) address size operands top callers state

abbrev pub stored : Option Heap → List Event → List Activation → State → Move State
stored None events activations state = trap traps.BadAccess state
stored (Some heap) events activations state = To (happened events (record state { activations = activations; heap = heap }))

abbrev pub store_with : Option (List Activation) → ℕ → ℕ → ℕ → List Activation → State → Move State
store_with (Some activations) address size word before state = resumed activations state
store_with None address size word before state = stored (with_heap_word state.heap address size word) (heap_access Stored state address size) before state

-- a store of the lowest bytes of a word, with these activations left
abbrev pub store : ℕ → ℕ → ℕ → List Activation → State → Move State
store address size word activations state = store_with (with_bytes_at activations address (little_bytes size word)) address size word activations state

-- the word of a loaded number that is converted to a type
abbrev pub loaded_word : IntType → ℕ → ℕ
loaded_word type number = word_of type (pos number)

-- ---- calls and returns

-- where the next frame begins
abbrev pub next_start : Activation → ℕ
next_start top = top.start + (length top.bytes + 15) / 16 * 16

abbrev pub entered : ℕ → State → State
entered function state = pool_happened (entry_event function ∷ []) (happened (call_event function ∷ []) state)

abbrev pub left : State → State
left state = pool_happened (Left ∷ []) (happened (Returned ∷ []) state)

-- A call takes its parameters off the operands that are left, the first one deepest; at depth 10,000 there is no further one.
abbrev pub called : ℕ → Option Function → List ℕ → Activation → List Activation → State → Move State
called callee None operands top callers state = trap traps.BadCall state
called callee (Some function) operands top callers state =
    if nat_lt (length operands) function.parameters then trap traps.StackEmpty state
    else if nat_lt (length callers) 10000 then
    resumed (record { function = callee; place = 0; operands = []; start = next_start top; bytes = flat_map (little_bytes 8) (reverse (take function.parameters operands)) ++ replicate function.extra 0 }
    ∷ advanced top (drop function.parameters operands) ∷ callers) (entered callee state)
    else Halt DepthReached state

-- the function that a word names, where it has this signature
abbrev pub of_signature : ℕ → Option Function → Option Function
of_signature signature None = None
of_signature signature (Some function) = if function.signature == signature then Some function else None

abbrev pub function_word : ℕ
function_word = 2 ^ 48

abbrev pub named_by : List Function → ℕ → ℕ → Option Function
named_by functions signature word = if nat_le function_word word then of_signature signature (slice_get functions (word - function_word)) else None

-- the caller gets the value, where its function may hold one more operand
abbrev pub given : ℕ → Activation → List Activation → Option Function → State → Move State
given word caller outer None state = trap traps.Reached state
given word caller outer (Some function) state =
    if nat_lt (length caller.operands) function.height then resumed (record caller { operands = word ∷ caller.operands } ∷ outer) (left state)
    else trap traps.StackFull state

-- `start` has no caller: its return ends the run
abbrev pub returned : List Activation → State → Move State
returned [] state = Halt (Ended 0) state
returned (caller ∷ outer) state = resumed (caller ∷ outer) (left state)

abbrev pub returned_value : List Function → ℕ → List Activation → State → Move State
returned_value functions word [] state = Halt (Ended (word % 256)) state
returned_value functions word (caller ∷ outer) state = given word caller outer (slice_get functions caller.function) state

-- ---- pools

-- where the pool lives, this; it is tested before everything else
abbrev pub in_pool : ℕ → State → Move State → Move State
in_pool pool state go = if lives_of state.heap.pools pool then go else trap traps.BadPool state

-- the instruction that an activation stands at
abbrev pub site_of : Activation → Site
site_of top = record { function = top.function; place = top.place }

abbrev pub with_new_pool : Site → PoolKind → Heap → Heap
with_new_pool site kind heap = record heap { pools = init_step heap.pools kind; tally = pool_made site (suc (length heap.pools.pools)) heap.tally }

-- a new pool, where the function may hold one more operand
abbrev pub makes : Option PoolKind → ℕ → Function → Activation → List Activation → State → Move State
makes None number function top callers state = trap traps.Reached state
makes (Some kind) number function top callers state =
    if nat_lt (length top.operands) function.height then
    resumed (advanced top (suc (length state.heap.pools.pools) ∷ top.operands) ∷ callers)
    (pool_happened (Made number ∷ []) (record state { heap = with_new_pool (site_of top) kind state.heap }))
    else trap traps.StackFull state

abbrev pub without_pool : ℕ → Heap → Heap
without_pool pool heap = record heap { pools = destroy_step heap.pools pool; tally = pool_destroyed pool heap.tally }

abbrev pub destroys : ℕ → State → State
destroys pool state = pool_happened (Destroyed pool ∷ []) (record state { heap = without_pool pool state.heap })

-- the bytes that an allocation in a pool of a kind may have: any in a mixed one
abbrev pub fits_kind : PoolKind → ℕ → Bool
fits_kind (Homogeneous source cell indexed) bytes = bytes == 0 || bytes == source
fits_kind Mixed bytes = true

abbrev pub fits_pool : Option Pool → ℕ → Bool
fits_pool None bytes = false
fits_pool (Some pool) bytes = fits_kind pool.kind bytes

-- The pools after an object was placed in one of them, and what is counted of it: the most objects that lived in this pool, its
-- slabs, and the slabs that are free.
abbrev pub placing : ℕ → Pools → Heap → Heap
placing pool pools heap =
    record heap { pools = pools; tally = object_placed pool (peak_of pools pool) (slabs_of pools pool) (free_slabs_of pools) heap.tally }

-- nothing is placed of 0 bytes
abbrev pub placed_at : ℕ → ℕ → ℕ → Pools → State → State
placed_at pool bytes address pools state =
    if bytes == 0 then state
    else (let object = suc (length state.history.placed) in
    pool_happened (Placed object pool ∷ []) (happened (Allocated object bytes ∷ [])
    (record state { heap = placing pool pools state.heap; history = record state.history { placed = address ∷ state.history.placed } })))

abbrev pub allocated : Allocation Pools → ℕ → ℕ → List ℕ → Activation → List Activation → State → Move State
allocated (placed address pools) pool bytes operands top callers state =
    resumed (advanced top (address ∷ operands) ∷ callers) (placed_at pool bytes address pools state)
allocated index_exhausted pool bytes operands top callers state = Halt IndexExhausted state
allocated heap_exhausted pool bytes operands top callers state = Halt HeapExhausted state

abbrev pub allocates : ℕ → ℕ → List ℕ → Activation → List Activation → State → Move State
allocates pool bytes operands top callers state =
    if fits_pool (pool_at state.heap.pools pool) bytes then allocated (alloc_step state.heap.pools pool bytes) pool bytes operands top callers state
    else trap traps.BadSize state

abbrev pub freed : Option Pools → ℕ → List ℕ → Activation → List Activation → State → Move State
freed None address operands top callers state = trap traps.BadFree state
freed (Some pools) address operands top callers state =
    (let object = number_of state.history.placed address in
    resumed (advanced top operands ∷ callers) (pool_happened (Released object ∷ []) (happened (Freed object ∷ []) (record state { heap = record state.heap { pools = pools } }))))

-- address 0 is of no object
abbrev pub frees : ℕ → ℕ → List ℕ → Activation → List Activation → State → Move State
frees pool address operands top callers state =
    if address == 0 then resumed (advanced top operands ∷ callers) state else freed (free_step state.heap.pools pool address) address operands top callers state

-- takes the last three operands
abbrev pub with_three : List ℕ → State → (ℕ → ℕ → ℕ → List ℕ → Move State) → Move State
with_three [] state go = trap traps.StackEmpty state
with_three (last ∷ []) state go = trap traps.StackEmpty state
with_three (last ∷ second ∷ []) state go = trap traps.StackEmpty state
with_three (last ∷ second ∷ first ∷ operands) state go = go first second last operands

-- ---- one step

-- the word that getchar pushes: the next byte, or the word of -1 at the end of the input
abbrev pub input_word : List ℕ → ℕ
input_word [] = 2 ^ 64 - 1
input_word (byte ∷ input) = byte % 256

abbrev pub after_next : List ℕ → List ℕ
after_next [] = []
after_next (byte ∷ input) = input

-- one instruction of a function, in its activation
abbrev pub perform : Option Instr → Code → Function → Activation → List Activation → State → Move State
perform (Some (instrs.Constant word)) code function top callers state = pushed function.height word top.operands top callers state
perform (Some instrs.Discard) code function top callers state = with_one top.operands state (λ word rest. resumed (advanced top rest ∷ callers) state)
perform (Some instrs.Duplicate) code function top callers state =
    with_one top.operands state (λ word rest. pushed function.height word top.operands top callers state)
perform (Some instrs.Swap) code function top callers state =
    with_two top.operands state (λ first last rest. resumed (advanced top (first ∷ last ∷ rest) ∷ callers) state)
perform (Some (instrs.Local offset)) code function top callers state = pushed function.height ((top.start + offset) % 2 ^ 64) top.operands top callers state
perform (Some (instrs.Load type)) code function top callers state =
    with_one top.operands state (λ address rest. load (loaded_word type) address (size_of type) rest top callers state)
perform (Some (instrs.Store width)) code function top callers state =
    with_two top.operands state (λ address word rest. store address (bytes_in width) word (advanced top rest ∷ callers) state)
perform (Some instrs.LoadLink) code function top callers state =
    with_two top.operands state (λ address pool rest. load (address_of state.heap.pools pool) address 4 rest top callers state)
perform (Some instrs.StoreLink) code function top callers state =
    with_three top.operands state (λ address value pool rest. store address 4 (index_of state.heap.pools pool value) (advanced top rest ∷ callers) state)
perform (Some (instrs.Jump target)) code function top callers state = resumed (record top { place = target } ∷ callers) state
perform (Some (instrs.JumpIfZero target)) code function top callers state =
    with_one top.operands state (λ word rest. resumed (branched (nat_eq word 0) target top rest ∷ callers) state)
perform (Some (instrs.JumpIfNotZero target)) code function top callers state =
    with_one top.operands state (λ word rest. resumed (branched (not (nat_eq word 0)) target top rest ∷ callers) state)
perform (Some (instrs.Call callee)) code function top callers state = called callee (slice_get code.functions callee) top.operands top callers state
perform (Some (instrs.CallIndirect signature)) code function top callers state =
    with_one top.operands state (λ word rest. called (word - function_word) (named_by code.functions signature word) rest top callers state)
perform (Some instrs.Return) code function top callers state = returned callers state
perform (Some instrs.ReturnValue) code function top callers state = with_one top.operands state (λ word rest. returned_value code.functions word callers state)
perform (Some instrs.Exit) code function top callers state = with_one top.operands state (λ word rest. Halt (Ended (word % 256)) state)
perform (Some instrs.Trap) code function top callers state = trap traps.Reached state
perform (Some (instrs.Binary op type)) code function top callers state =
    with_two top.operands state (λ left right rest. resumed (advanced top (binary_word op type left right ∷ rest) ∷ callers) state)
perform (Some (instrs.Negate type)) code function top callers state =
    with_one top.operands state (λ word rest. resumed (advanced top (negated_word type word ∷ rest) ∷ callers) state)
perform (Some (instrs.Complement type)) code function top callers state =
    with_one top.operands state (λ word rest. resumed (advanced top (complement_word type word ∷ rest) ∷ callers) state)
perform (Some (instrs.Compare relation type)) code function top callers state =
    with_two top.operands state (λ left right rest. resumed (advanced top (compared_word relation type left right ∷ rest) ∷ callers) state)
perform (Some (instrs.Convert type)) code function top callers state =
    with_one top.operands state (λ word rest. resumed (advanced top (converted_word type word ∷ rest) ∷ callers) state)
perform (Some instrs.GetChar) code function top callers state =
    if nat_lt (length top.operands) function.height
    then To (record state { activations = advanced top (input_word state.input ∷ top.operands) ∷ callers; input = after_next state.input })
    else trap traps.StackFull state
perform (Some instrs.PutChar) code function top callers state =
    with_one top.operands state (λ word rest. To (record state { activations = advanced top (word % 256 ∷ rest) ∷ callers; trace = state.trace ++ Output (word % 256) ∷ [] }))
perform (Some (instrs.PoolInit kind)) code function top callers state = makes (slice_get code.kinds kind) kind function top callers state
perform (Some instrs.PoolDestroy) code function top callers state =
    with_one top.operands state (λ pool rest. in_pool pool state (resumed (advanced top rest ∷ callers) (destroys pool state)))
perform (Some instrs.PoolAlloc) code function top callers state =
    with_two top.operands state (λ pool bytes rest. in_pool pool state (allocates pool bytes rest top callers state))
perform (Some instrs.PoolFree) code function top callers state =
    with_two top.operands state (λ pool address rest. in_pool pool state (frees pool address rest top callers state))
perform None code function top callers state = trap traps.Reached state

abbrev pub act_in : Code → Option Function → Activation → List Activation → State → Move State
act_in code None top callers state = trap traps.Reached state
act_in code (Some function) top callers state = perform (slice_get function.code top.place) code function top callers state

abbrev pub act_on : Code → List Activation → State → Move State
act_on code [] state = trap traps.Reached state
act_on code (top ∷ callers) state = act_in code (slice_get code.functions top.function) top callers state

-- one step
abbrev pub act : Code → State → Move State
act code state = act_on code state.activations state

-- ---- from the beginning

-- the extra bytes of a function's frame
abbrev pub extra_of : Option Function → ℕ
extra_of None = 0
extra_of (Some function) = function.extra

-- function 0, which is `start` and has no parameters, is entered
abbrev pub first_activation : List Function → Activation
first_activation functions = record { function = 0; place = 0; operands = []; start = 2 ^ 40; bytes = replicate (extra_of (slice_get functions 0)) 0 }

-- globals begin with their contents, and are zero behind these; there are so many slabs, and cells of an indexed pool
abbrev pub first_heap : Code → ℕ → ℕ → Heap
first_heap code slabs index =
    record { globals = code.contents ++ replicate (code.globals - length code.contents) 0; pools = new_pools slabs index; tally = new_tally slabs }

abbrev pub first_history : History
first_history = record { placed = []; pool_events = [] }

-- the first state
abbrev pub initial : Code → ℕ → ℕ → List ℕ → State
initial code slabs index input =
    record { activations = first_activation code.functions ∷ []; heap = first_heap code slabs index; history = first_history; input = input; trace = [] }

-- the run of the machine on an input, with so many slabs and cells of an indexed pool
abbrev pub mach : Code → ℕ → ℕ → List ℕ → Run
mach code slabs index input n = steps (act code) (λ state. state.trace) n (initial code slabs index input)

-- The range of an access lies in the globals, in one living frame, or in one live cell or object of a pool that isn't destroyed.
abbrev pub is_safe : State → ℕ → ℕ → Bool
is_safe state address size = is_some (bytes_at state.activations address size) || is_some (heap_word state.heap address size)
