-- What an evaluation keeps from a sound state on.
use Rattle.std.specs.Prelude.{◌≡◌, ◌<◌, Bool, if◌then◌else◌, List}
use Rattle.run_theory.specs.declared.place.Pos.{Pos}
use Rattle.c_typed.specs.Types.{CType, CTypes, Void, Pointer, Function}
use Rattle.c_typed.specs.Typed.{Program}
use Rattle.c_typed.specs.Context.{Context}
use Rattle.ref_semantics.specs.Values.{Place, Scalar}
use Rattle.ref_semantics.specs.Store.{State, Eval, Then}
use Rattle.ref_semantics.specs.Meaning.{Calls}
use Rattle.ref_semantics.specs.Sound.{HasType, HaveTypes, IsPlace, Sound, Later}

-- a sound state that is later, with the same locals in scope
pub record Keeps (around : Context) (before after : State) : Type 0 where
  pub sound : Sound around after
  pub later : Later before after
  pub locals : after.locals ≡ before.locals

-- an evaluation that keeps what is sound, and gives something of a kind
abbrev pub Yields : {A : Type 0} → Context → (State → A → Type 0) → Eval A → Type 0
Yields {A} around kind eval = (before : State) → Sound around before → (a : A) (after : State) → eval before ≡ Then a after → Keeps around before after × kind after a

-- a value of a type
abbrev pub GivesValue : Context → CType → Eval Scalar → Type 0
GivesValue around c_type eval = Yields around (λ after value. HasType around.program after c_type value) eval

-- an element of a row of a type, which is not the row's end
pub record IsElement (program : Program) (state : State) (c_type : CType) (place : Place) : Type 0 where
  pub place_stands : IsPlace program state place
  pub within : place.index < place.row.count
  pub is_own : place.row.c_type ≡ c_type

abbrev pub GivesElement : Context → CType → Eval Place → Type 0
GivesElement around c_type eval = Yields around (λ after place. IsElement around.program after c_type place) eval

-- calls of functions with arguments of their types keep what is sound, and give values of the results' types where these are used
abbrev pub CallsKeep : Program → Calls → Type 0
CallsKeep program calls =
    (locals : List CType) (here : Pos) (is_used : Bool) (result : CType) (parameters : CTypes) (function : Scalar) (given : List Scalar) (before : State)
    → Sound (record { program = program; locals = locals }) before → HasType program before (Pointer (Function result parameters)) function → HaveTypes program before parameters given
    → (value : Scalar) (after : State) → calls here is_used (Function result parameters) function given before ≡ Then value after
    → Keeps (record { program = program; locals = locals }) before after × HasType program after (if is_used then result else Void) value
