-- What stands for a value of a scalar type is one that a scalar of the type may hold.
use Rattle.std.proofs.Common.{◌≡◌, true, sym, ap, subst, refl}
use Rattle.std.proofs.lemmas.Bool.{false≢true}
use Rattle.c_typed.specs.Types.{CType, Void, Integer, Pointer, Array, Struct, Function}
use Rattle.c_typed.specs.Typed.{Program}
use Rattle.c_typed.specs.Expressions.{is_scalar}
use Rattle.ref_semantics.specs.Values.{Scalar, IntegerValue, NullValue, FunctionValue, PointerValue, RawPointer}
use Rattle.ref_semantics.specs.Store as S
use Rattle.ref_semantics.specs.Sound.{HasType}
use Rattle.tac_ir.specs.Values.{Value, Number, NoAddress, Code, Address}
use Rattle.tac_ir.specs.Objects.{fits}
use Rattle.tac_simulation.specs.Standing.{Placement, IsAddress, ScalarStands}

address_fits : (target : CType) (value : Value) → IsAddress value → fits (Pointer target) value ≡ true
address_fits target (Address object offset) is = refl
address_fits target (Number z) is = absurd is
address_fits target NoAddress is = absurd is
address_fits target (Code function) is = absurd is

pub stands_fits : (program : Program) (objects : S.Objects) (placement : Placement) (s : S.State) (t : CType) (scalar : Scalar) (value : Value) → is_scalar t ≡ true → HasType program s t scalar
    → ScalarStands program objects placement scalar value → fits t value ≡ true
stands_fits program objects placement s (Integer own) (IntegerValue z) value is typed stands = subst (λ v. fits (Integer own) v ≡ true) (sym stands) typed
stands_fits program objects placement s (Integer own) NullValue value is typed stands = absurd typed
stands_fits program objects placement s (Integer own) (FunctionValue name) value is typed stands = absurd typed
stands_fits program objects placement s (Integer own) (PointerValue place) value is typed stands = absurd typed
stands_fits program objects placement s (Integer own) (RawPointer number) value is typed stands = absurd typed
stands_fits program objects placement s (Pointer target) (IntegerValue z) value is typed stands = absurd typed
stands_fits program objects placement s (Pointer target) NullValue value is typed stands = ap (fits (Pointer target)) stands
stands_fits program objects placement s (Pointer target) (FunctionValue name) value is typed stands = ap (fits (Pointer target)) stands.2
stands_fits program objects placement s (Pointer target) (PointerValue place) value is typed stands = address_fits target value stands.0
stands_fits program objects placement s (Pointer target) (RawPointer number) value is typed stands = address_fits target value stands.0
stands_fits program objects placement s Void scalar value is typed stands = absurd (false≢true is)
stands_fits program objects placement s (Array element count) scalar value is typed stands = absurd (false≢true is)
stands_fits program objects placement s (Struct tag) scalar value is typed stands = absurd (false≢true is)
stands_fits program objects placement s (Function result parameters) scalar value is typed stands = absurd (false≢true is)
