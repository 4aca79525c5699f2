-- The frame of a function that is called, and what is hidden within it.
use Rattle.std.specs.Prelude.{ℕ, ◌==◌, Bool, true, false, ◌||◌, List, [], ◌∷◌, Option, Some, None}
use Rattle.ref_semantics.specs.Values as V
use Rattle.ref_semantics.specs.Values.{LocalObject}
use Rattle.ref_semantics.specs.Store as S
use Rattle.tac_ir.specs.Code.{Function}
use Rattle.tac_ir.specs.Values.{Object}
use Rattle.tac_ir.specs.States.{InFunction, State}
use Rattle.tac_simulation.specs.Standing.{Placement, Frame}

-- the frame of a function, by its number, that is entered from a call site in a state
abbrev pub entered : ℕ → ℕ → Function → State → Frame
entered site number function state =
    record { owner = InFunction number; number = state.next_activation; objects = function.objects; callers = (site, state.running) ∷ state.callers }

abbrev pub is_among : ℕ → List ℕ → Bool
is_among number [] = false
is_among number (first ∷ others) = (first == number) || is_among number others

-- what is hidden within a call: the caller's locals that lie in registers, and what was hidden before
abbrev pub hidden_within : Placement → List ℕ → S.Objects → (ℕ → Option V.Content) → ℕ → Option V.Content
hidden_within placement locals objects hidden number = by (is_among number locals) (placement number)
  where
    by : Bool → Option Object → Option V.Content
    by true None = Some (objects (LocalObject number))
    by true (Some object) = hidden number
    by false placed = hidden number
