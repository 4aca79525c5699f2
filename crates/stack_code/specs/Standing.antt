-- How a state of the machine stands for a state of code with pools: the words of descriptors and registers in the first bytes of each frame,
-- all other memory as it is.
use Rattle.std.specs.Prelude.{◌≡◌, ⊤, ℕ, suc, ◌+◌, ◌*◌, ◌^◌, ◌<◌, ◌≤◌, false, List, [], ◌∷◌, ◌++◌, length, take, drop, slice_get, Some}
use Rattle.byteorder.specs.Endian.{little_number}
use Rattle.run_theory.specs.Runs.{Event, Comparison}
use Rattle.tac_ir.specs.declared.register.Local.TheVariants as L
use Rattle.tac_ir.specs.declared.register.Register.{Register}
use Rattle.tac_ir.specs.declared.register.Register.TheVariants as R
use Rattle.tac_ir.specs.Events.{TacEvent, seen}
use Rattle.tac_ir.specs.Events as tac
use Rattle.tac_ir.specs.States.{Owner, InStart, InFunction}
use Rattle.pool_isa.specs.Machine as M
use Rattle.pool_isa.specs.Machine.{globals_start}
use Rattle.pool_ir.specs.Code.{Callee, FrameLayout, Function, PoolCode}
use Rattle.pool_ir.specs.Code as O
use Rattle.pool_ir.specs.Frames.{word_of_descriptor, word_of_register, objects_start}
use Rattle.pool_ir.specs.States as P
use Rattle.pool_ir.specs.States.{PoolEvent, Same, Opened, Closed, Placed, same, function_of}
use Rattle.pool_ir.specs.Meaning.{next_start}
use Rattle.stack_code.specs.Emitting.{place_of, preparing}

-- ---- what is seen of a run

-- the events of the reference are seen, of which the machine tells, too
abbrev pub stack_events : Comparison PoolEvent Event Event
stack_events = record { in_front = λ trace. seen (same trace); behind = λ trace. trace; refuses = λ final trace event. false }

-- what the machine tells of calls, returns and pools
abbrev pub told_of_same : TacEvent → List M.PoolEvent
told_of_same (tac.Entered site function) = M.Entered function ∷ []
told_of_same tac.Left = M.Left ∷ []
told_of_same (tac.Released site object) = M.Released object ∷ []
told_of_same event = []

abbrev pub told_of : PoolEvent → List M.PoolEvent
told_of (Same event) = told_of_same event
told_of (Opened pool kind) = M.Made kind ∷ []
told_of (Closed pool) = M.Destroyed pool ∷ []
told_of (Placed object pool) = M.Placed object pool ∷ []

abbrev pub told : List PoolEvent → List M.PoolEvent
told [] = []
told (event ∷ trace) = told_of event ++ told trace

-- ---- frames

-- the word of this number in the bytes of a frame
abbrev pub frame_word : List ℕ → ℕ → ℕ
frame_word bytes word = little_number 8 (take 8 (drop (8 * word) bytes))

-- the layout has a word for the register
abbrev pub HasRegister : FrameLayout → Register → Type 0
HasRegister frame (R.Local (L.Parameter number)) = number < frame.parameters
HasRegister frame (R.Local (L.Variable number)) = number < frame.registers.variables
HasRegister frame (R.Call number) = number < frame.registers.calls
HasRegister frame (R.Argument number) = number < frame.registers.arguments
HasRegister frame (R.Expression number) = number < frame.registers.expressions
HasRegister frame (R.Temporary number) = number < frame.registers.temporaries

abbrev pub HasDescriptor : FrameLayout → ℕ → Type 0
HasDescriptor frame number = number < frame.descriptors

-- The first bytes of the frame hold the words of descriptors and registers, and the others are those of the objects.
pub record FrameStands (function : Function) (own : P.Activation) (bytes : List ℕ) : Type 0 where
  pub kept : own.kept ≡ objects_start function.frame
  pub long : length own.bytes ≡ function.frame.size
  pub as_long : length bytes ≡ length own.bytes
  pub registers : (register : Register) → HasRegister function.frame register → frame_word bytes (word_of_register function register) ≡ own.words register
  pub descriptors : (number : ℕ) → HasDescriptor function.frame number → frame_word bytes (word_of_descriptor function number) ≡ own.descriptors number
  pub objects : drop own.kept bytes ≡ drop own.kept own.bytes
  pub words : (register : Register) → own.words register < 2 ^ 64
  pub pools : (number : ℕ) → own.descriptors number < 2 ^ 64

-- ---- activations

-- `start` is function 0 of the image
abbrev pub image_number : Owner → ℕ
image_number InStart = 0
image_number (InFunction number) = suc number

-- an activation of the machine, at this instruction, with these operands and the bytes of its frame
abbrev pub activation_at : P.Activation → ℕ → List ℕ → List ℕ → M.Activation
activation_at own place operands bytes = record { function = image_number own.owner; place = place; operands = operands; start = own.start; bytes = bytes }

-- the address of a register's word
abbrev pub place_in : Function → P.Activation → Register → ℕ
place_in function own register = own.start + 8 * word_of_register function register

-- An activation that waits for a call stands behind that, with the address of the register that the call's word goes to.
pub record CallerStands (code : PoolCode) (site : ℕ) (own : P.Activation) (caller : M.Activation) : Type 0 where
  pub function : Function
  pub callee : Callee
  pub arguments : List Register
  pub pools : List ℕ
  pub bytes : List ℕ
  pub is : function_of code own.owner ≡ Some function
  pub waits : slice_get function.points own.at ≡ Some (O.Call site callee arguments pools)
  pub activation : caller ≡ activation_at own (place_of function own.at + (length (preparing function (O.Call site callee arguments pools)) + 1)) (place_in function own (R.Call site) ∷ []) bytes
  pub frame : FrameStands function own bytes

abbrev pub CallersStand : PoolCode → List (ℕ × P.Activation) → List M.Activation → Type 0
CallersStand code [] [] = ⊤
CallersStand code ((site, own) ∷ callers) (caller ∷ others) = CallerStands code site own caller × CallersStand code callers others
CallersStand code _ _ = ⊥

-- ---- where frames lie

-- the first frame begins at 2 ^ 40, and each other one where that of its caller lets it
abbrev pub Stacked : P.Activation → List (ℕ × P.Activation) → Type 0
Stacked running [] = running.start ≡ 2 ^ 40
Stacked running ((site, caller) ∷ callers) = (running.start ≡ next_start caller) × Stacked caller callers

-- the most bytes of a frame
abbrev pub greatest_frame : ℕ
greatest_frame = 2 ^ 26

-- The frames lie between the globals and the heap.
pub record FramesLie (state : P.State) : Type 0 where
  pub stacked : Stacked state.running state.callers
  pub low : state.running.start ≤ 2 ^ 40 + length state.callers * greatest_frame
  pub depth : length state.callers ≤ 10000
  pub globals : globals_start + length state.globals ≤ 2 ^ 40

-- ---- states

-- all but the activations
pub record RestStands (state : P.State) (machine : M.State) : Type 0 where
  pub globals : machine.heap.globals ≡ state.globals
  pub pools : machine.heap.pools ≡ state.pools
  pub placed : machine.history.placed ≡ state.placed
  pub told : machine.history.pool_events ≡ told state.trace
  pub input : machine.input ≡ state.input
  pub trace : machine.trace ≡ seen (same state.trace)

-- while the running activation stands at this instruction of its function, with these operands
pub record StandsAt (code : PoolCode) (state : P.State) (machine : M.State) (function : Function) (place : ℕ) (operands : List ℕ) : Type 0 where
  pub bytes : List ℕ
  pub callers : List M.Activation
  pub is : function_of code state.running.owner ≡ Some function
  pub activations : machine.activations ≡ activation_at state.running place operands bytes ∷ callers
  pub frame : FrameStands function state.running bytes
  pub waiting : CallersStand code state.callers callers
  pub lie : FramesLie state
  pub rest : RestStands state machine

-- at the beginning of a point
pub record Stands (code : PoolCode) (state : P.State) (machine : M.State) : Type 0 where
  pub function : Function
  pub at : StandsAt code state machine function (place_of function state.running.at) []
