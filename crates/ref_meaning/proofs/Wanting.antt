-- Where memory runs out.
use Rattle.std.proofs.Common.{◌≡◌, ℕ, Result, Ok, Err, IfErr, IsErrAnd, sym, subst}
use Rattle.c_typed.specs.Types.{CType}
use Rattle.ref_semantics.specs.Values.{Heap, Scalar, RawPointer}
use Rattle.ref_semantics.specs.Store.{TypeEnvironment, Objects}
use Rattle.ref_meaning.specs.declared.value.Stop.{Stop}
use Rattle.ref_meaning.specs.declared.value.Stop.TheVariants as T
use Rattle.ref_meaning.specs.Wanting.{OutOnly, GetsType, PointsUntyped}

pub out_where : (P : Type 0) (stop : Stop) → P → OutOnly P stop
out_where P (T.Undefined kind place) p = tt
out_where P T.OutOfMemory p = p

pub out_so : (P Q : Type 0) (stop : Stop) → (P → Q) → OutOnly P stop → OutOnly Q stop
out_so P Q (T.Undefined kind place) so p = tt
out_so P Q T.OutOfMemory so p = so p

pub if_error : {A : Type 0} (P Q : Stop → Type 0) (result : Result A Stop) → ((stop : Stop) → P stop → Q stop) → IfErr result P → IfErr result Q
if_error P Q (Ok value) so p = tt
if_error P Q (Err stop) so p = so stop p

-- an error that is handed on
pub handed_on : {A : Type 0} (P : Stop → Type 0) (stop : Stop) (result : Result A Stop) → P stop → IsErrAnd result (λ e. e ≡ stop) → IfErr result P
handed_on P stop (Ok value) p is = tt
handed_on P stop (Err other) p is = subst P (sym is) p

pub errors : {A : Type 0} (P : Stop → Type 0) (result : Result A Stop) → ((stop : Stop) → P stop) → IfErr result P
errors P (Ok value) all = tt
errors P (Err stop) all = all stop

pub points_untyped : (around : TypeEnvironment) (target : CType) (objects : Objects) (value : Scalar) (number : ℕ) → value ≡ RawPointer number → GetsType around target (objects (Heap number)) → PointsUntyped around target objects value
points_untyped around target objects value number is gets = subst (PointsUntyped around target objects) (sym is) gets
