-- What code with pools does: one step for one of three-address code.
use Rattle.std.specs.Prelude.{ℕ, zero, suc, ◌+◌, ◌-◌, ◌*◌, ◌/◌, ◌%◌, ◌^◌, ◌==◌, ◌&&◌, nat_lt, nat_le, not, if◌then◌else◌, List, [], ◌∷◌, ◌++◌, length, map, slice_get, replicate, Option, Some, None}
use Rattle.run_theory.specs.declared.ends.TrapKind.TheVariants as traps
use Rattle.run_theory.specs.Runs.{Ended, DepthReached, HeapExhausted, IndexExhausted, Move, To, Halt, steps, RunOf}
use Rattle.c_num.specs.declared.IntType.TheVariants as I
use Rattle.slab_space.specs.PoolSteps.{Allocation, placed, index_exhausted, heap_exhausted}
use Rattle.slab_space.specs.Pools.{Pools, new_pools, pool_at, alloc_step, free_step, lives_of}
use Rattle.tac_ir.specs.declared.register.Register.{Register}
use Rattle.tac_ir.specs.declared.register.Register.TheVariants as R
use Rattle.tac_ir.specs.declared.register.Local.TheVariants as L
use Rattle.tac_ir.specs.Trees.{tree_nodes}
use Rattle.tac_ir.specs.Events.{Wrote, Entered, Left, Made, Released, ReadFrom, WroteTo}
use Rattle.tac_ir.specs.States.{InStart, InFunction}
use Rattle.tac_ir.specs.Calls.{greatest_depth, after_next}
use Rattle.tac_ir.specs.Costs.{operand_cost}
use Rattle.pool_isa.specs.Machine.{binary_word, compared_word, fits_pool, number_of, input_word}
use Rattle.c_num.specs.declared.BinOp.TheVariants as B
use Rattle.pool_ir.specs.Code.{Slot, Base, Indexed, Step, Member, Element, Path, Callee, Known, Through, Op, Action, Function, PoolCode}
use Rattle.pool_ir.specs.Code as O
use Rattle.pool_ir.specs.Words.{Words, no_words, with_word, truth_word, is_zero_word, word_in, operand_word, moved_by, moved_back}
use Rattle.pool_ir.specs.States.{PoolEvent, Same, Placed, Activation, State, function_of, points_of, trap, emit, acts, go_to, go_on, write}
use Rattle.pool_ir.specs.Frames.{objects_start}
use Rattle.pool_ir.specs.Memory.{number_at, with_number, access, slot_size, slot_word, slot_number, path_address}

-- ---- costs: those of three-address code

abbrev pub step_cost : Step → ℕ
step_cost (Member offset) = 1
step_cost (Element size index) = 1 + tree_nodes index

abbrev pub steps_cost : List Step → ℕ
steps_cost [] = 0
steps_cost (first ∷ others) = step_cost first + steps_cost others

abbrev pub path_cost : Path → ℕ
path_cost path = by path.base + steps_cost path.steps
  where
    by : Base → ℕ
    by (Indexed pointer size number) = tree_nodes number
    by base = 0

abbrev pub more_cost : Op → ℕ
more_cost (O.Branch int_type condition holds fails) = tree_nodes condition
more_cost (O.Assign to tree) = tree_nodes tree
more_cost (O.Move to pointer size is_minus number) = tree_nodes number
more_cost (O.AddressOf to path) = path_cost path
more_cost (O.Load to slot path) = path_cost path
more_cost (O.Store path slot value) = path_cost path + operand_cost value
more_cost (O.Allocate site size pool) = tree_nodes size
more_cost (O.Call site callee arguments pools) = length arguments
more_cost (O.PutChar site value) = tree_nodes value
more_cost (O.Exit status) = tree_nodes status
more_cost (O.Return (Some operand)) = operand_cost operand
more_cost op = 0

-- ---- loads and stores

abbrev pub loads : PoolCode → Register → Slot → ℕ → State → Move State
loads code to slot address state = by (number_at state address (slot_size slot))
  where
    by : Option ℕ → Move State
    by None = trap traps.BadAccess state
    by (Some number) = write code to (slot_word state slot number) (emit (access ReadFrom state address (slot_size slot)) state)

abbrev pub stores : PoolCode → Slot → ℕ → ℕ → State → Move State
stores code slot address word state = by (with_number state address (slot_size slot) (slot_number state slot word))
  where
    by : Option State → Move State
    by None = trap traps.BadAccess state
    by (Some later) = go_on code (emit (access WroteTo state address (slot_size slot)) later)

-- ---- pools

abbrev pub in_pool : ℕ → State → Move State → Move State
in_pool pool state next = if lives_of state.pools pool then next else trap traps.BadPool state

-- nothing is placed of 0 bytes
abbrev pub placed_at : ℕ → ℕ → ℕ → ℕ → Pools → State → State
placed_at site pool zero address pools state = state
placed_at site pool (suc bytes) address pools state =
    let object = suc (length state.placed) in
    emit (Placed object pool ∷ Same (Made site object (suc bytes)) ∷ []) (record state { pools = pools; placed = address ∷ state.placed })

abbrev pub allocates : PoolCode → ℕ → ℕ → ℕ → State → Move State
allocates code site pool bytes state =
    in_pool pool state (if fits_pool (pool_at state.pools pool) bytes then by (alloc_step state.pools pool bytes) else trap traps.BadSize state)
  where
    by : Allocation Pools → Move State
    by (placed address pools) = write code (R.Call site) address (placed_at site pool bytes address pools state)
    by index_exhausted = Halt IndexExhausted state
    by heap_exhausted = Halt HeapExhausted state

-- address 0 is of no object
abbrev pub frees : PoolCode → ℕ → ℕ → ℕ → State → Move State
frees code site pool address state = in_pool pool state (if address == 0 then go_on code state else by (free_step state.pools pool address))
  where
    by : Option Pools → Move State
    by None = trap traps.BadFree state
    by (Some pools) = go_on code (emit (Same (Released site (number_of state.placed address)) ∷ []) (record state { pools = pools }))

-- ---- calls

-- the word of a function is 2 ^ 48 and its number; `start` has the first
abbrev pub function_word : ℕ → ℕ
function_word number = 2 ^ 48 + suc number

abbrev pub named_by : ℕ → Option ℕ
named_by word = if nat_le (2 ^ 48 + 1) word then Some (word - (2 ^ 48 + 1)) else None

abbrev pub of_signature : PoolCode → ℕ → Option ℕ → Option ℕ
of_signature code signature None = None
of_signature code signature (Some number) = by (slice_get code.functions number)
  where
    by : Option Function → Option ℕ
    by None = None
    by (Some function) = if function.signature == signature then Some number else None

abbrev pub called : PoolCode → Words → Callee → Option ℕ
called code words (Known function) = Some function
called code words (Through pointer signature) = of_signature code signature (named_by (words pointer))

-- the arguments in the registers of the parameters
abbrev pub parameters_from : ℕ → List ℕ → Words
parameters_from number [] = no_words
parameters_from number (word ∷ words) = with_word (R.Local (L.Parameter number)) word (parameters_from (suc number) words)

-- the descriptors that are taken
abbrev pub descriptors_from : List ℕ → ℕ → ℕ
descriptors_from [] number = 0
descriptors_from (pool ∷ pools) zero = pool
descriptors_from (pool ∷ pools) (suc number) = descriptors_from pools number

-- where the next frame begins
abbrev pub next_start : Activation → ℕ
next_start running = running.start + (length running.bytes + 15) / 16 * 16

abbrev pub enter : PoolCode → ℕ → ℕ → Function → List ℕ → List ℕ → State → Move State
enter code site number function words pools state =
    acts code function.entering (record state {
      running = record {
        owner = InFunction number;
        words = parameters_from 0 words;
        descriptors = descriptors_from pools;
        start = next_start state.running;
        kept = objects_start function.frame;
        bytes = replicate function.frame.size 0;
        at = 0;
      };
      callers = (site, state.running) ∷ state.callers;
      trace = state.trace ++ Same (Entered site number) ∷ [];
      paid = 0;
    }) To

-- a call passes as many arguments and pools as the function takes
abbrev pub call : PoolCode → ℕ → Option ℕ → List ℕ → List ℕ → State → Move State
call code site None words pools state = trap traps.BadCall state
call code site (Some number) words pools state = by (slice_get code.functions number)
  where
    by : Option Function → Move State
    by None = trap traps.BadCall state
    by (Some function) =
        if (length words == function.frame.parameters) && (length pools == function.taken) then
        (if nat_lt (length state.callers) greatest_depth then enter code site number function words pools state else Halt DepthReached state)
        else trap traps.BadCall state

-- what a function gives, to the register of the call, behind which its caller goes on
abbrev pub back : PoolCode → ℕ → State → Move State
back code word state = by state.callers
  where
    by : List (ℕ × Activation) → Move State
    by [] = Halt (Ended (word % 256)) state
    by ((site, caller) ∷ callers) =
        go_on code (record state {
          running = record caller { words = with_word (R.Call site) word caller.words };
          callers = callers;
          trace = state.trace ++ Same Left ∷ [];
        })

abbrev pub leaving_of : Option Function → List Action
leaving_of None = []
leaving_of (Some function) = function.leaving

abbrev pub leave : PoolCode → ℕ → State → Move State
leave code word state = acts code (leaving_of (function_of code state.running.owner)) state (back code word)

-- ---- points

abbrev pub pool_of : State → ℕ → ℕ
pool_of state descriptor = state.running.descriptors descriptor

abbrev pub execute : PoolCode → Op → State → Move State
execute code O.Reserved state = trap traps.Reached state
execute code (O.Jump to) state = go_to code to state
execute code (O.Branch int_type condition holds fails) state = go_to code (if is_zero_word int_type (word_in state.running.words condition) then fails else holds) state
execute code (O.Assign to tree) state = write code to (word_in state.running.words tree) state
execute code (O.Null to) state = write code to 0 state
execute code (O.FunctionAddress to function) state = write code to (function_word function) state
execute code (O.Copy to from) state = write code to (state.running.words from) state
execute code (O.Test to pointer) state = write code to (truth_word (not (state.running.words pointer == 0))) state
execute code (O.Move to pointer size is_minus number) state =
    let amount = word_in state.running.words number in
    write code to (if is_minus then moved_back (state.running.words pointer) size amount else moved_by (state.running.words pointer) size amount) state
execute code (O.Difference to size left right) state =
    write code to (binary_word B.Div I.Long (binary_word B.Sub I.Long (state.running.words left) (state.running.words right)) size) state
execute code (O.ComparePointers to relation left right) state = write code to (compared_word relation I.ULong (state.running.words left) (state.running.words right)) state
execute code (O.AddressOf to path) state = write code to (path_address state.running path) state
execute code (O.Load to slot path) state = loads code to slot (path_address state.running path) state
execute code (O.Store path slot value) state = stores code slot (path_address state.running path) (operand_word state.running.words value) state
execute code (O.Allocate site size pool) state = allocates code site (pool_of state pool) (word_in state.running.words size) state
execute code (O.Free site pointer pool) state = frees code site (pool_of state pool) (state.running.words pointer) state
execute code (O.Call site callee arguments pools) state =
    call code site (called code state.running.words callee) (map state.running.words arguments) (map (pool_of state) pools) state
execute code (O.GetChar site) state = write code (R.Call site) (input_word state.input) (record state { input = after_next state.input })
execute code (O.PutChar site value) state =
    let byte = word_in state.running.words value % 256 in
    write code (R.Call site) byte (emit (Same (Wrote byte) ∷ []) state)
execute code (O.Exit status) state = Halt (Ended (word_in state.running.words status % 256)) state
execute code (O.Return None) state = leave code 0 state
execute code (O.Return (Some operand)) state = leave code (operand_word state.running.words operand) state

-- One step: a point is done once the rest of its cost is paid.
abbrev pub pay : ℕ → State → Move State → Move State
pay cost state done = if nat_lt state.paid cost then To (record state { paid = suc state.paid }) else done

abbrev pub act_at : PoolCode → Option Op → State → Move State
act_at code None state = trap traps.Reached state
act_at code (Some op) state = pay (more_cost op) state (execute code op state)

abbrev pub act : PoolCode → State → Move State
act code state = act_at code (slice_get (points_of (function_of code state.running.owner)) state.running.at) state

-- ---- from the beginning

-- `start` is entered with no callers; its pools are made on its way in, with its first step
abbrev pub first_activation : PoolCode → Activation
first_activation code = record { owner = InStart; words = no_words; descriptors = descriptors_from []; start = 2 ^ 40; kept = objects_start code.start.frame; bytes = replicate code.start.frame.size 0; at = 0 }

abbrev pub initial : PoolCode → ℕ → ℕ → List ℕ → State
initial code slabs index input =
    record {
      running = first_activation code;
      callers = [];
      globals = code.contents ++ replicate (code.globals - length code.contents) 0;
      pools = new_pools slabs index;
      placed = [];
      input = input;
      trace = [];
      paid = 0;
    }

-- the pools of `start` are made before its first point
abbrev pub from_start : PoolCode → State → Move State
from_start code state = acts code code.start.entering state To

abbrev pub begun : PoolCode → Move State → State → State
begun code (To state) before = state
begun code (Halt answer state) before = before

-- the run of a program on an input, with so many slabs and cells of an indexed pool
abbrev pub pool_run : PoolCode → ℕ → ℕ → List ℕ → RunOf PoolEvent
pool_run code slabs index input n =
    let first = initial code slabs index input in
    steps (act code) (λ state. state.trace) n (begun code (from_start code first) first)
