-- What an answer of the reference says of the premises before it.
use Rattle.std.proofs.Common.{◌≡◌, Bool, true, false, List, ◌∷◌, refl}
use Rattle.run_theory.specs.declared.place.Pos.{Pos}
use Rattle.run_theory.specs.declared.ends.UbKind.{UbKind}
use Rattle.c_typed.specs.Types.{CType}
use Rattle.c_typed.specs.Typed.{Program}
use Rattle.ref_semantics.specs.Values.{Scalar, IntegerValue, NullValue, FunctionValue, PointerValue, RawPointer}
use Rattle.ref_semantics.specs.Store as S
use Rattle.ref_semantics.specs.Store.{Then, Eval, Premise, premise, unless}
use Rattle.ref_semantics.specs.Sound.{PointsTo}
use Rattle.tac_simulation.proofs.Looking.{IsPointer}

-- the first premise didn't fail
pub past : {A : Type 0} (here : Pos) (fails : Bool) (kind : UbKind) (others : List Premise) (rest : Eval A) (s : S.State) (answer : A) (after : S.State)
    → unless here (premise fails kind ∷ others) rest s ≡ Then answer after → (fails ≡ false) × (unless here others rest s ≡ Then answer after)
past here false kind others rest s answer after e = (refl, e)
past here true kind others rest s answer after e = absurd (cc)

pub gave : {A : Type 0} (value answer : A) (s after : S.State) → Then value s ≡ Then answer after → (answer ≡ value) × (after ≡ s)
gave value answer s after e = (cc, cc)

pub typed_pointer : (program : Program) (s : S.State) (target : CType) (scalar : Scalar) → PointsTo program s target scalar → IsPointer scalar
typed_pointer program s target (IntegerValue z) typed = typed
typed_pointer program s target NullValue typed = tt
typed_pointer program s target (FunctionValue name) typed = tt
typed_pointer program s target (PointerValue place) typed = tt
typed_pointer program s target (RawPointer number) typed = tt
