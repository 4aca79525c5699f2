-- What an instruction, a call, a step and a run of the machine promise, and what they leave in frames and in memory.
use Rattle.std.specs.Prelude.{◌≡◌, ℕ, ◌-◌, ◌^◌, Bool, if◌then◌else◌, List, [], ◌∷◌, ◌++◌, map, length, take, drop, reverse, replicate, slice_get, Option, Some, None, MatchBool}
use Rattle.std.specs.List.{flat_map}
use Rattle.byteorder.specs.Endian.{little_bytes, little_number}
use Rattle.run_theory.specs.Runs.{Trace, Final, output_of, To}
use Rattle.run_theory.specs.Moves.{moves}
use Rattle.slab_space.specs.declared.kind.PoolKind.{PoolKind}
use Rattle.slab_space.specs.Pools.{new_pools}
use Rattle.image_form.specs.declared.image.Function as memory_function
use Rattle.image_form.specs.declared.image.Globals.{Globals}
use Rattle.image_form.specs.declared.image.MachineLimits.{MachineLimits}
use Rattle.image_form.specs.Form.{function_of}
use Rattle.pool_isa.specs.declared.instr.Instr.{Instr}
use Rattle.pool_isa.specs.declared.instr.Instr.TheVariants as instrs
use Rattle.pool_isa.specs.declared.site.Site.{Site}
use Rattle.pool_isa.specs.Tally.{new_tally}
use Rattle.pool_isa.specs.Machine.{Function, Code, Activation, Heap, History, act, initial, first_history, advanced, covers, spliced, next_start, input_word, after_next}
use Rattle.machine.specs.declared.ends.RunEnd.{RunEnd}
use Rattle.machine.specs.declared.ends.Step.{Step}
use Rattle.machine.specs.declared.report.ReportRow.{ReportRow}
use Rattle.machine.specs.Heaps.{function_rows, code_rows, row_of}
use Rattle.machine.specs.Steps.{state_of, CallStack, Performs, PerformsInPools, ExecutesInstr, StepGives}
use Rattle.machine.specs.Run.{Ready, state_at, is_over, RunGives}

-- ---- instructions

-- performed as the machine's meaning says, in whatever function of whatever code
abbrev pub PerformsAnywhere : Instr → CallStack → Heap → Step → CallStack → Heap → Type 0
PerformsAnywhere instr old heap result new heap' = (code : Code) (function : Function) → Performs code function instr old heap result new heap'

-- the same beside whatever heap, which stays
abbrev pub PerformsBesideHeap : Instr → CallStack → Step → CallStack → Type 0
PerformsBesideHeap instr old result new = (code : Code) (function : Function) (heap : Heap) → Performs code function instr old heap result new heap

-- the same in a code of these functions
abbrev pub PerformsAmong : List memory_function.Function → Instr → CallStack → Step → CallStack → Type 0
PerformsAmong functions instr old result new =
    (code : Code) (function : Function) (heap : Heap) → code.functions ≡ map function_of functions → Performs code function instr old heap result new heap

-- performed in a function that may hold so many operands, of a code with these kinds of pools
abbrev pub PerformsWithKinds : List PoolKind → ℕ → Instr → CallStack → Heap → Step → CallStack → Heap → Type 0
PerformsWithKinds kinds height instr old heap result new heap' =
    (code : Code) (function : Function) → code.kinds ≡ kinds → function.height ≡ height → Performs code function instr old heap result new heap'

-- performed in a function of the code that may hold so many operands
abbrev pub PerformsAtHeight : Code → ℕ → Instr → CallStack → Heap → Step → CallStack → Heap → Type 0
PerformsAtHeight code height instr old heap result new heap' =
    (function : Function) → function.height ≡ height → Performs code function instr old heap result new heap'

-- an instruction on pools, performed in whatever function of whatever code
abbrev pub PoolsAnywhere : Instr → Activation → Heap → Step → Activation → Heap → Type 0
PoolsAnywhere instr old heap result new heap' = (code : Code) (function : Function) → PerformsInPools code function instr old heap result new heap'

-- performed in a function that may hold so many operands, of a code with these kinds of pools
abbrev pub PoolsWithKinds : List PoolKind → ℕ → Instr → Activation → Heap → Step → Activation → Heap → Type 0
PoolsWithKinds kinds height instr old heap result new heap' =
    (code : Code) (function : Function) → code.kinds ≡ kinds → function.height ≡ height → PerformsInPools code function instr old heap result new heap'

-- a getchar in a function that may hold so many operands, which takes what is left; heap and output stay
abbrev pub GetsChar : ℕ → CallStack → Option (List ℕ) → Step → CallStack → Option (List ℕ) → Type 0
GetsChar height old left result new left' =
    (code : Code) (function : Function) (heap : Heap) (written : Option (List ℕ)) → function.height ≡ height →
    ExecutesInstr code function instrs.GetChar old heap left written result new heap left' written

-- a putchar, behind what is written; heap and input stay
abbrev pub PutsChar : CallStack → Option (List ℕ) → Step → CallStack → Option (List ℕ) → Type 0
PutsChar old written result new written' =
    (code : Code) (function : Function) (heap : Heap) (left : Option (List ℕ)) →
    ExecutesInstr code function instrs.PutChar old heap left written result new heap left written'

-- any instruction, executed in a function of the code that may hold so many operands
abbrev pub ExecutesAtHeight : Code → ℕ → Instr → CallStack → Heap → Option (List ℕ) → Option (List ℕ) → Step → CallStack → Heap → Option (List ℕ) → Option (List ℕ) → Type 0
ExecutesAtHeight code height instr old heap left written result new heap' left' written' =
    (function : Function) → function.height ≡ height → ExecutesInstr code function instr old heap left written result new heap' left' written'

-- the word that getchar gives is that of what was left, and is taken
abbrev pub TakesWord : ℕ → Option (List ℕ) → Option (List ℕ) → Type 0
TakesWord word before after = (left : List ℕ) → before ≡ Some left → (word ≡ input_word left) × (after ≡ Some (after_next left))

-- so many instructions of a function, performed one after the other, changed the innermost activation alone
abbrev pub AdvancesBy : Function → ℕ → Activation → Activation → Type 0
AdvancesBy function count old new =
    (code : Code) (callers : List Activation) (heap : Heap) (history : History) (input : List ℕ) (trace : Trace) → slice_get code.functions old.function ≡ Some function
    → moves (act code) count (state_of (old ∷ callers) heap history input trace) ≡ To (state_of (new ∷ callers) heap history input trace)

-- ---- calls

-- a function at its entry, with a frame that holds the parameters and so many zeros
abbrev pub entry_of : ℕ → ℕ → List ℕ → ℕ → Activation
entry_of function start parameters extra =
    record { function = function; place = 0; operands = []; start = start; bytes = flat_map (little_bytes 8) parameters ++ replicate extra 0 }

-- `start` at its entry
abbrev pub start_alone : ℕ → CallStack
start_alone extra = record { innermost = record { function = 0; place = 0; operands = []; start = 2 ^ 40; bytes = replicate extra 0 }; callers = [] }

-- a called function at its entry: its parameters stand behind the caller's last operands, so many
abbrev pub callee_entered : ℕ → ℕ → memory_function.Function → Activation → Activation
callee_entered callee above function caller =
    entry_of callee (next_start caller) (reverse (take function.parameters (drop above caller.operands))) function.extra

-- its caller, which stands behind the call, without these operands
abbrev pub caller_left : ℕ → memory_function.Function → Activation → Activation
caller_left above function caller = advanced caller (drop function.parameters (drop above caller.operands))

-- ---- frames and memory

-- the number in a range of the frame, where it lies there
abbrev pub frame_number : Activation → ℕ → ℕ → Option ℕ
frame_number frame address size =
    if covers frame address size then Some (little_number size (take size (drop (address - frame.start) frame.bytes))) else None

-- the frame with the lowest bytes of a word in a range, where that lies there
abbrev pub with_frame_word : Activation → ℕ → ℕ → ℕ → Activation
with_frame_word frame address size word =
    if covers frame address size then record frame { bytes = spliced frame.bytes (address - frame.start) (little_bytes size word) } else frame

-- a write, which says whether it was made: it leaves what there is, or there is nothing that it could leave
abbrev pub Writes : {A : Type 0} → Bool → Option A → A → Type 0
Writes result changed new = MatchBool result (changed ≡ Some new) (changed ≡ None)

-- globals begin with their contents, and are zero behind these; there is no pool
abbrev pub heap_within : Globals → MachineLimits → Heap
heap_within globals limits =
    record {
      globals = globals.contents.items ++ replicate (globals.size - length globals.contents.items) 0;
      pools = new_pools limits.slabs limits.index;
      tally = new_tally limits.slabs;
    }

-- ---- runs

-- the machine stands before the first step, within these limits
abbrev pub IsAtStart : MachineLimits → Ready → Type 0
IsAtStart limits ready = (input : List ℕ) → initial ready.code limits.slabs limits.index input ≡ state_at ready first_history input []

-- For told bytes: the machine has made the step of its meaning, from what was left of the input and what was written before it to
-- what is left and written after it.
abbrev pub StepsOn : Ready → Option (List ℕ) → Option (List ℕ) → Step → Ready → Option (List ℕ) → Option (List ℕ) → Type 0
StepsOn old left0 written0 result new left' written' =
    (history : History) (left base : List ℕ) (trace : Trace) → left0 ≡ Some left → written0 ≡ Some (base ++ output_of trace) →
    StepGives (act old.code (state_at old history left trace)) base (state_at old history left trace) result new.activations new.heap left' written'

-- So many steps of the machine's meaning have changed the activations alone.
abbrev pub AdvancesOn : ℕ → Ready → Ready → Type 0
AdvancesOn count old new = (history : History) (input : List ℕ) (trace : Trace) → moves (act old.code) count (state_at old history input trace) ≡ To (state_of new.activations old.heap history input trace)

-- the same as that of a step, of a run with so many steps allowed
abbrev pub RunsOn : ℕ → Ready → Option (List ℕ) → Option (List ℕ) → RunEnd → Ready → Option (List ℕ) → Option (List ℕ) → Type 0
RunsOn steps old left0 written0 result new left' written' =
    (history : History) (left base : List ℕ) (trace : Trace) → left0 ≡ Some left → written0 ≡ Some (base ++ output_of trace) →
    RunGives old.code (state_at old history left trace) base steps result (new.spent - old.spent) new.activations new.heap left' written'

-- a run that is over answers its end again, and changes nothing
abbrev pub StaysOver : Ready → Option (List ℕ) → Option (List ℕ) → RunEnd → Ready → Option (List ℕ) → Option (List ℕ) → Type 0
StaysOver old left written result new left' written' =
    (final : Final) → is_over old.last ≡ Some final → (old.last ≡ Some result) × (new ≡ old) × (left' ≡ left) × (written' ≡ written)

-- the machine, with the activations, the memory and the count of steps of another
abbrev pub moved_to : Ready → Ready → Ready
moved_to old new = record old { activations = new.activations; heap = new.heap; spent = new.spent }

-- ---- reports

-- the rows of all functions
abbrev pub rows_of : Ready → List ReportRow
rows_of ready = function_rows ready.heap.tally ready.code.kinds 0 ready.code.functions

-- those of a function's instructions
abbrev pub rows_in : Ready → ℕ → List Instr → List ReportRow
rows_in ready function code = code_rows ready.heap.tally ready.code.kinds function 0 code

-- that of an instruction that makes pools of a kind
abbrev pub row_in : Ready → Site → ℕ → List ReportRow
row_in ready site kind = row_of ready.heap.tally ready.code.kinds site (slice_get ready.code.kinds kind)
