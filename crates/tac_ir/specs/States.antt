-- States of a run of three-address code, and ways to go on. Where a point isn't there or isn't filled in, an access is no scalar of its type,
-- or an operator has no result, the run is lost: what is compiled from it owes nothing then.
use Rattle.std.specs.Prelude.{ℕ, suc, Bool, true, false, List, [], ◌∷◌, ◌++◌, slice_get, Option, Some, None}
use Rattle.run_theory.specs.Places.{first_place}
use Rattle.run_theory.specs.declared.ends.UbKind.TheVariants as Ub
use Rattle.run_theory.specs.Runs.{Undefined, Move, To, Halt}
use Rattle.tac_ir.specs.declared.register.Register.{Register}
use Rattle.tac_ir.specs.Values.{Object, OfHeap, Value, Content, Objects, with_content}
use Rattle.tac_ir.specs.Events.{TacEvent, Crossed}
use Rattle.tac_ir.specs.Trees.{Registers, with_register}
use Rattle.tac_ir.specs.Objects.{Surroundings}
use Rattle.tac_ir.specs.Code.{Op, LocalObject, Function, Tac}

-- ---- states

-- the function that runs: one of the program by its number, or `start`
pub data Owner : Type 0 where
  InStart : Owner
  InFunction : (number : ℕ) → Owner

-- An activation: its function, its number, its registers, and the point at which it stands.
pub record Activation : Type 0 where
  pub owner : Owner
  pub number : ℕ
  pub registers : Registers
  pub at : ℕ

-- The activation that runs, and those that wait for a call, the innermost first, each with the site of that call; the objects, the
-- numbers that the next activation and the next allocation get, the input that is left, and what happened so far. Of the cost of the
-- point so much is paid.
pub record State : Type 0 where
  pub running : Activation
  pub callers : List (ℕ × Activation)
  pub objects : Objects
  pub next_activation : ℕ
  pub next_heap : ℕ
  pub input : List ℕ
  pub trace : List TacEvent
  pub paid : ℕ

-- ---- programs

abbrev pub function_of : Tac → Owner → Option Function
function_of tac InStart = Some tac.start
function_of tac (InFunction number) = slice_get tac.functions number

abbrev pub points_of : Option Function → List Op
points_of None = []
points_of (Some function) = function.points

abbrev pub objects_of : Option Function → List LocalObject
objects_of None = []
objects_of (Some function) = function.objects

abbrev pub around_of : Tac → Activation → Surroundings
around_of tac running =
    record { structs = tac.structs; globals = tac.globals; literals = tac.literals; own = objects_of (function_of tac running.owner); activation = running.number }

-- ---- ways to go on

-- nothing is said of a run that comes here
abbrev pub lost : State → Move State
lost state = Halt (Undefined Ub.U04 first_place) state

-- at another point of the function
abbrev pub go_to : ℕ → State → Move State
go_to at state = To (record state { running = record state.running { at = at }; trace = state.trace ++ Crossed state.running.at at ∷ []; paid = 0 })

-- at the point behind
abbrev pub go_on : State → Move State
go_on state = go_to (suc state.running.at) state

-- with this in a register
abbrev pub write : Register → Value → State → Move State
write register value state = go_on (record state { running = record state.running { registers = with_register register (Some value) state.running.registers } })

abbrev pub emit : List TacEvent → State → State
emit events state = record state { trace = state.trace ++ events }

abbrev pub store_content : Object → Content → State → State
store_content object content state = record state { objects = with_content object content state.objects }

-- where there is a value, an integer, a part of an object
abbrev pub given : {A : Type 0} → Option A → State → (A → Move State) → Move State
given None state next = lost state
given (Some a) state next = next a

-- where this holds
abbrev pub unless_lost : Bool → State → Move State → Move State
unless_lost true state next = next
unless_lost false state next = lost state

-- an access to an object of the heap
abbrev pub access : (ℕ → TacEvent) → Object → List TacEvent
access event (OfHeap number) = event number ∷ []
access event object = []
