-- What a run of the machine answers.
use Rattle.std.specs.Prelude.{◌≡◌, ℕ, suc, ◌≤◌, List, Option, Some, None}
use Rattle.run_theory.specs.Runs as runs
use Rattle.run_theory.specs.Runs.{Trace, To, Halt, Final}
use Rattle.run_theory.specs.Moves.{moves}
use Rattle.image_form.specs.declared.image.MachineLimits.{MachineLimits}
use Rattle.pool_isa.specs.Machine.{Code, Activation, Heap, History, State, act}
use Rattle.machine.specs.declared.ends.RunEnd.{RunEnd}
use Rattle.machine.specs.declared.ends.RunEnd.TheVariants as ends
use Rattle.machine.specs.Steps.{state_of, final_of, LeftAt, IsRead, IsWrite}

-- A machine that stands between two steps, or is over: its code and limits; its activations, the innermost first, and the rest of
-- its memory; how many steps it has made; and its last answer.
pub record Ready : Type 0 where
  pub code : Code
  pub limits : MachineLimits
  pub activations : List Activation
  pub heap : Heap
  pub spent : ℕ
  pub last : Option RunEnd

-- the state that it stands for, with this history, this input left and this trace
abbrev pub state_at : Ready → History → List ℕ → Trace → State
state_at ready history input trace = state_of ready.activations ready.heap history input trace

-- the machine has answered an end of the run
abbrev pub is_over : Option RunEnd → Option Final
is_over None = None
is_over (Some last) = final_of last

-- the run has made so many of these steps, the last of which halts, and leaves this memory
pub record HaltsAt (code : Code) (state : State) (base : List ℕ) (steps : ℕ) (final : Final) (made : ℕ) (heap : Heap) (left written : Option (List ℕ)) : Type 0 where
  pub before : ℕ
  pub last : State
  pub count : made ≡ suc before
  pub within : made ≤ steps
  pub comes : moves (act code) before state ≡ To last
  pub halts : act code last ≡ Halt final last
  pub heap_is : heap ≡ last.heap
  pub left_at : LeftAt base last left written

-- the run has made these steps, and goes on with these activations and this memory
pub record ComesTo (code : Code) (state : State) (base : List ℕ) (steps : ℕ) (activations : List Activation) (heap : Heap) (left written : Option (List ℕ)) : Type 0 where
  pub last : State
  pub comes : moves (act code) steps state ≡ To last
  pub frames : last.activations ≡ activations
  pub heap_is : last.heap ≡ heap
  pub left_at : LeftAt base last left written

-- the run was broken off after so many of these steps
pub record BreaksOff (code : Code) (state : State) (base : List ℕ) (steps made : ℕ) (activations : List Activation) (heap : Heap) (left written : Option (List ℕ)) : Type 0 where
  pub within : made ≤ steps
  pub comes : ComesTo code state base made activations heap left written

-- it was broken off before a getchar, whose read failed
pub record FailsToRead (code : Code) (state : State) (base : List ℕ) (steps made : ℕ) (activations : List Activation) (heap : Heap) (left written : Option (List ℕ)) : Type 0 where
  pub breaks_off : BreaksOff code state base steps made activations heap left written
  pub reads : IsRead (act code breaks_off.comes.last) breaks_off.comes.last

-- it was broken off before a putchar, whose write failed
pub record FailsToWrite (code : Code) (state : State) (base : List ℕ) (steps made : ℕ) (activations : List Activation) (heap : Heap) (left written : Option (List ℕ)) : Type 0 where
  pub breaks_off : BreaksOff code state base steps made activations heap left written
  pub writes : IsWrite (act code breaks_off.comes.last) breaks_off.comes.last

-- The run from a state, with so many steps allowed, makes so many, ends so, and leaves these activations and this memory, and this
-- of the input and this output behind the base, where they are told.
abbrev pub RunGives : Code → State → List ℕ → ℕ → RunEnd → ℕ → List Activation → Heap → Option (List ℕ) → Option (List ℕ) → Type 0
RunGives code state base steps (ends.Ended status) made activations heap left written = HaltsAt code state base steps (runs.Ended status) made heap left written
RunGives code state base steps ends.Depth made activations heap left written = HaltsAt code state base steps runs.DepthReached made heap left written
RunGives code state base steps ends.HeapExhausted made activations heap left written = HaltsAt code state base steps runs.HeapExhausted made heap left written
RunGives code state base steps ends.IndexExhausted made activations heap left written = HaltsAt code state base steps runs.IndexExhausted made heap left written
RunGives code state base steps (ends.Trapped kind) made activations heap left written = HaltsAt code state base steps (runs.Trapped kind) made heap left written
RunGives code state base steps ends.StepsSpent made activations heap left written = (made ≡ steps) × ComesTo code state base steps activations heap left written
RunGives code state base steps ends.ReadFault made activations heap left written = FailsToRead code state base steps made activations heap left written
RunGives code state base steps ends.WriteFault made activations heap left written = FailsToWrite code state base steps made activations heap left written
RunGives code state base steps ends.OutOfMemory made activations heap left written = BreaksOff code state base steps made activations heap left written

-- the same, whatever it leaves in memory
pub record RunsTo (code : Code) (state : State) (base : List ℕ) (steps : ℕ) (answer : RunEnd) (left written : Option (List ℕ)) : Type 0 where
  pub made : ℕ
  pub activations : List Activation
  pub heap : Heap
  pub gives : RunGives code state base steps answer made activations heap left written
