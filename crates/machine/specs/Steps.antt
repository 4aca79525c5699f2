-- What one step of the machine does, and what holds of the activations throughout.
use Rattle.std.specs.Prelude.{◌≡◌, ℕ, ◌+◌, ◌*◌, ◌^◌, ◌<◌, ◌≤◌, Bool, true, false, IsTrue, IsFalse, List, [], ◌∷◌, ◌++◌, length, option_map, Option, Some, None, MatchBool}
use Rattle.std.specs.List.Sorted.{IsPartitionPoint}
use Rattle.byteorder.specs.Endian.{little_bytes, little_number}
use Rattle.run_theory.specs.Runs as runs
use Rattle.run_theory.specs.Runs.{Trace, output_of, Move, To, Halt, Final}
use Rattle.pool_isa.specs.declared.instr.Instr.{Instr}
use Rattle.pool_isa.specs.declared.instr.Instr.TheVariants as instrs
use Rattle.pool_isa.specs.Machine.{Function, Code, Activation, Heap, History, State, bytes_at, with_bytes_at, heap_word, with_heap_word, advanced, input_word, after_next, next_start, perform}
use Rattle.machine.specs.declared.ends.RunEnd.{RunEnd}
use Rattle.machine.specs.declared.ends.RunEnd.TheVariants as ends
use Rattle.machine.specs.declared.ends.Step.{Step}
use Rattle.machine.specs.declared.ends.Step.TheVariants.{On, Over}

-- the state of these activations and this heap, with this history, this input left and this trace
abbrev pub state_of : List Activation → Heap → History → List ℕ → Trace → State
state_of activations heap history input trace = record { activations = activations; heap = heap; history = history; input = input; trace = trace }

-- the left input and the written bytes, where a source and a sink tell them, are those of the state
abbrev pub LeftAt : List ℕ → State → Option (List ℕ) → Option (List ℕ) → Type 0
LeftAt base state left written = (left ≡ Some state.input) × (written ≡ Some (base ++ output_of state.trace))

-- the end of a run that the machine's meaning has, too; the others break it off
abbrev pub final_of : RunEnd → Option Final
final_of (ends.Ended status) = Some (runs.Ended status)
final_of ends.Depth = Some runs.DepthReached
final_of ends.HeapExhausted = Some runs.HeapExhausted
final_of ends.IndexExhausted = Some runs.IndexExhausted
final_of (ends.Trapped kind) = Some (runs.Trapped kind)
final_of _ = None

-- ---- instructions of the innermost activation alone

-- The move that the machine's meaning makes from a state is the one that a step made, which touched the activations alone. A
-- step that lacked memory left those that there were.
abbrev pub StepMakes : Move State → State → Step → List Activation → Type 0
StepMakes move old On new = move ≡ To (record old { activations = new })
StepMakes move old (Over (ends.Ended status)) new = move ≡ Halt (runs.Ended status) old
StepMakes move old (Over ends.Depth) new = move ≡ Halt runs.DepthReached old
StepMakes move old (Over ends.HeapExhausted) new = move ≡ Halt runs.HeapExhausted old
StepMakes move old (Over ends.IndexExhausted) new = move ≡ Halt runs.IndexExhausted old
StepMakes move old (Over (ends.Trapped kind)) new = move ≡ Halt (runs.Trapped kind) old
StepMakes move old (Over ends.OutOfMemory) new = new ≡ old.activations
StepMakes move old (Over ends.StepsSpent) new = ⊥
StepMakes move old (Over ends.ReadFault) new = ⊥
StepMakes move old (Over ends.WriteFault) new = ⊥

-- an instruction that concerns the innermost activation alone: neither its caller nor memory, pools, input or output
abbrev pub IsAlone : Instr → Type 0
IsAlone (instrs.Load type) = ⊥
IsAlone (instrs.Store width) = ⊥
IsAlone instrs.LoadLink = ⊥
IsAlone instrs.StoreLink = ⊥
IsAlone (instrs.Call callee) = ⊥
IsAlone (instrs.CallIndirect signature) = ⊥
IsAlone instrs.Return = ⊥
IsAlone instrs.ReturnValue = ⊥
IsAlone (instrs.PoolInit kind) = ⊥
IsAlone instrs.PoolDestroy = ⊥
IsAlone instrs.PoolAlloc = ⊥
IsAlone instrs.PoolFree = ⊥
IsAlone instrs.GetChar = ⊥
IsAlone instrs.PutChar = ⊥
IsAlone _ = Unit {0}

-- An instruction that concerns the innermost activation alone was performed as the machine's meaning says, whatever else there is.
abbrev pub PerformsAlone : Function → Instr → Activation → Step → Activation → Type 0
PerformsAlone function instr old result new =
    (code : Code) (callers : List Activation) (heap : Heap) (history : History) (input : List ℕ) (trace : Trace) → StepMakes (perform (Some instr) code function old callers (state_of (old ∷ callers) heap history input trace)) (state_of (old ∷ callers) heap history input trace) result (new ∷ callers)

-- the run goes on after a step
abbrev pub goes_on : Step → Bool
goes_on On = true
goes_on (Over end) = false

-- What such an instruction leaves: an activation of the same function, where the run goes on; nothing has changed, where it is over.
abbrev pub Keeps : Step → Activation → Activation → Type 0
Keeps On old new = new.function ≡ old.function
Keeps (Over end) old new = new ≡ old

-- An instruction was performed as the machine's meaning says, whatever else there is: it changed the innermost activation alone,
-- and the run goes on.
abbrev pub Advances : Function → Instr → Activation → Activation → Type 0
Advances function instr old new = PerformsAlone function instr old On new

-- the same, in whatever function that may hold so many operands, or nothing has changed
abbrev pub MayAdvance : ℕ → Instr → Bool → Activation → Activation → Type 0
MayAdvance height instr result old new = MatchBool result ((function : Function) → function.height ≡ height → Advances function instr old new) (new ≡ old)

-- ---- instructions that touch neither input nor output

-- the activations of a machine: there is always an innermost one
pub record CallStack : Type 0 where
  pub innermost : Activation
  pub callers : List Activation

abbrev pub activations_of : CallStack → List Activation
activations_of calls = calls.innermost ∷ calls.callers

-- an instruction that touches neither input nor output
abbrev pub IsInside : Instr → Type 0
IsInside instrs.GetChar = ⊥
IsInside instrs.PutChar = ⊥
IsInside _ = Unit {0}

-- an instruction on pools
abbrev pub IsOfPools : Instr → Type 0
IsOfPools (instrs.PoolInit kind) = Unit {0}
IsOfPools instrs.PoolDestroy = Unit {0}
IsOfPools instrs.PoolAlloc = Unit {0}
IsOfPools instrs.PoolFree = Unit {0}
IsOfPools _ = ⊥

-- the first that there is
abbrev pub first_of : {X : Type 0} → Option X → Option X → Option X
first_of (Some x) other = Some x
first_of None other = other

-- the number in the bytes of a range that may be read
abbrev pub fetched : List Activation → Heap → ℕ → ℕ → Option ℕ
fetched activations heap address size = first_of (option_map (little_number size) (bytes_at activations address size)) (heap_word heap address size)

-- what a write of the lowest bytes of a word leaves: in a frame, else in the heap; or the range may not be written
abbrev pub PutsIn : Option (List Activation) → Option Heap → Bool → List Activation → Heap → List Activation → Heap → Type 0
PutsIn (Some frames) changed result activations heap activations' heap' = IsTrue result × (activations' ≡ frames) × (heap' ≡ heap)
PutsIn None (Some changed) result activations heap activations' heap' = IsTrue result × (activations' ≡ activations) × (heap' ≡ changed)
PutsIn None None result activations heap activations' heap' = IsFalse result × (activations' ≡ activations) × (heap' ≡ heap)

abbrev pub Puts : List Activation → Heap → ℕ → ℕ → ℕ → Bool → List Activation → Heap → Type 0
Puts activations heap address size word result activations' heap' =
    PutsIn (with_bytes_at activations address (little_bytes size word)) (with_heap_word heap address size word) result activations heap activations' heap'

-- the machine goes on with these activations and this heap, and has neither read nor written
pub record GoesInside (move : Move State) (old : State) (activations : List Activation) (heap : Heap) : Type 0 where
  pub next : State
  pub goes : move ≡ To next
  pub frames : next.activations ≡ activations
  pub heap_is : next.heap ≡ heap
  pub input : next.input ≡ old.input
  pub output : output_of next.trace ≡ output_of old.trace

-- the machine halts, and its heap is as it was
pub record HaltsInside (move : Move State) (final : Final) (old : State) (heap : Heap) : Type 0 where
  pub halts : move ≡ Halt final old
  pub heap_is : heap ≡ old.heap

-- the step could not be made, and nothing has changed
pub record StaysInside (old : State) (activations : List Activation) (heap : Heap) : Type 0 where
  pub frames : activations ≡ old.activations
  pub heap_is : heap ≡ old.heap

-- The move from a state is the one that a step made, which touched neither input nor output.
abbrev pub MakesInside : Move State → State → Step → List Activation → Heap → Type 0
MakesInside move old On activations heap = GoesInside move old activations heap
MakesInside move old (Over (ends.Ended status)) activations heap = HaltsInside move (runs.Ended status) old heap
MakesInside move old (Over ends.Depth) activations heap = HaltsInside move runs.DepthReached old heap
MakesInside move old (Over ends.HeapExhausted) activations heap = HaltsInside move runs.HeapExhausted old heap
MakesInside move old (Over ends.IndexExhausted) activations heap = HaltsInside move runs.IndexExhausted old heap
MakesInside move old (Over (ends.Trapped kind)) activations heap = HaltsInside move (runs.Trapped kind) old heap
MakesInside move old (Over ends.OutOfMemory) activations heap = StaysInside old activations heap
MakesInside move old (Over ends.StepsSpent) activations heap = ⊥
MakesInside move old (Over ends.ReadFault) activations heap = ⊥
MakesInside move old (Over ends.WriteFault) activations heap = ⊥

-- An instruction, which touches neither input nor output, was performed as the machine's meaning says.
abbrev pub Performs : Code → Function → Instr → CallStack → Heap → Step → CallStack → Heap → Type 0
Performs code function instr old heap result new heap' =
    (history : History) (input : List ℕ) (trace : Trace) → MakesInside (perform (Some instr) code function old.innermost old.callers (state_of (activations_of old) heap history input trace)) (state_of (activations_of old) heap history input trace) result (activations_of new) heap'

-- The same of an instruction that concerns the innermost activation and the pools, whatever callers there are.
abbrev pub PerformsInPools : Code → Function → Instr → Activation → Heap → Step → Activation → Heap → Type 0
PerformsInPools code function instr old heap result new heap' =
    (callers : List Activation) → Performs code function instr (record { innermost = old; callers = callers }) heap result (record { innermost = new; callers = callers }) heap'

-- ---- all instructions

-- the machine halts there, with what is left and written
pub record Halts (move : Move State) (final : Final) (base : List ℕ) (old : State) (heap : Heap) (left written : Option (List ℕ)) : Type 0 where
  pub halts : move ≡ Halt final old
  pub heap_is : heap ≡ old.heap
  pub left_at : LeftAt base old left written

-- the step could not be made, and nothing has changed
pub record IsUndone (base : List ℕ) (old : State) (activations : List Activation) (heap : Heap) (left written : Option (List ℕ)) : Type 0 where
  pub frames : activations ≡ old.activations
  pub heap_is : heap ≡ old.heap
  pub left_at : LeftAt base old left written

-- the machine goes on there
pub record GoesOn (move : Move State) (base : List ℕ) (activations : List Activation) (heap : Heap) (left written : Option (List ℕ)) : Type 0 where
  pub next : State
  pub goes : move ≡ To next
  pub frames : next.activations ≡ activations
  pub heap_is : next.heap ≡ heap
  pub left_at : LeftAt base next left written

-- the step is a getchar: it takes what is next on the input, and the machine goes on
pub record IsRead (move : Move State) (old : State) : Type 0 where
  pub top : Activation
  pub callers : List Activation
  pub there : old.activations ≡ top ∷ callers
  pub goes : move ≡ To (record old { activations = advanced top (input_word old.input ∷ top.operands) ∷ callers; input = after_next old.input })

-- the step is a putchar: it writes this byte, and the machine goes on
pub record IsWrite (move : Move State) (old : State) : Type 0 where
  pub byte : ℕ
  pub next : State
  pub goes : move ≡ To next
  pub input : next.input ≡ old.input
  pub output : next.trace ≡ old.trace ++ runs.Output byte ∷ []

-- The move from a state is the one that a step made, with what is left of the input and what is written after it. A step
-- that lacked memory left all as it was, and so did one that failed: it was a getchar or a putchar.
abbrev pub StepGives : Move State → List ℕ → State → Step → List Activation → Heap → Option (List ℕ) → Option (List ℕ) → Type 0
StepGives move base old On activations heap left written = GoesOn move base activations heap left written
StepGives move base old (Over (ends.Ended status)) activations heap left written = Halts move (runs.Ended status) base old heap left written
StepGives move base old (Over ends.Depth) activations heap left written = Halts move runs.DepthReached base old heap left written
StepGives move base old (Over ends.HeapExhausted) activations heap left written = Halts move runs.HeapExhausted base old heap left written
StepGives move base old (Over ends.IndexExhausted) activations heap left written = Halts move runs.IndexExhausted base old heap left written
StepGives move base old (Over (ends.Trapped kind)) activations heap left written = Halts move (runs.Trapped kind) base old heap left written
StepGives move base old (Over ends.ReadFault) activations heap left written = IsRead move old × IsUndone base old activations heap left written
StepGives move base old (Over ends.WriteFault) activations heap left written = IsWrite move old × IsUndone base old activations heap left written
StepGives move base old (Over ends.OutOfMemory) activations heap left written = IsUndone base old activations heap left written
StepGives move base old (Over ends.StepsSpent) activations heap left written = ⊥

-- An instruction was performed as the machine's meaning says: from what was left of the input and what was written
-- before it, where they are told, to what is left and written after it.
abbrev pub ExecutesInstr : Code → Function → Instr → CallStack → Heap → Option (List ℕ) → Option (List ℕ) → Step → CallStack → Heap → Option (List ℕ) → Option (List ℕ) → Type 0
ExecutesInstr code function instr old heap left written result new heap' left' written' =
    (history : History) (input base : List ℕ) (trace : Trace) → left ≡ Some input → written ≡ Some (base ++ output_of trace) → StepGives (perform (Some instr) code function old.innermost old.callers (state_of (activations_of old) heap history input trace)) base (state_of (activations_of old) heap history input trace) result (activations_of new) heap' left' written'

-- A step that reads has pushed the word of what was left, or it could not be made, and nothing has changed.
abbrev pub PushesNext : Step → Activation → Option (List ℕ) → Activation → Option (List ℕ) → Type 0
PushesNext On old left new left' = (input : List ℕ) → left ≡ Some input → (new ≡ advanced old (input_word input ∷ old.operands)) × (left' ≡ Some (after_next input))
PushesNext (Over ends.ReadFault) old left new left' = (new ≡ old) × (left' ≡ left)
PushesNext (Over ends.OutOfMemory) old left new left' = (new ≡ old) × (left' ≡ left)
PushesNext (Over _) old left new left' = ⊥

-- where the innermost of some frames ends
abbrev pub end_of : List Activation → ℕ
end_of [] = 0
end_of (frame ∷ frames) = next_start frame

-- Frames lie one after another, each where its caller's ends or behind. None ends past where that many frames of 2 ^ 36 bytes
-- would: parameters and extra bytes are fewer.
abbrev pub IsStacked : List Activation → Type 0
IsStacked [] = Unit {0}
IsStacked (frame ∷ frames) = (next_start frame ≤ 2 ^ 40 + 2 ^ 36 * (length frames + 1)) × (end_of frames ≤ frame.start) × IsStacked frames

-- Of these frames, the outermost one first, so many begin at an address or before it, and the others behind it.
abbrev pub BeginUpTo : ℕ → List Activation → ℕ → Type 0
BeginUpTo address frames count = IsPartitionPoint (λ (frame : Activation). frame.start ≤ address) (λ (frame : Activation). address < frame.start) frames count
