-- What an expression gives fits, by its tree's type.
use Rattle.std.proofs.Common.{◌≡◌, true, false, ◌||◌, Some, refl}
use Rattle.std.proofs.lemmas.Bool.{false≢true}
use Rattle.c_num.specs.declared.IntType.{IntType}
use Rattle.c_typed.specs.Types.{CType, Integer, Pointer, is_void}
use Rattle.c_typed.specs.Layouts.{is_complete}
use Rattle.c_typed.specs.Typed.{Value, Object}
use Rattle.c_rules.specs.Known.{OfValue, OfObject, Address, value_of_type, object_at, integer_value}
use Rattle.c_rules.specs.declared.constness.Constness.{Constness}
use Rattle.c_typed.specs.Context.{Context}
use Rattle.c_typed.specs.Expressions.{is_scalar, is_conversion, type_of, type_of_object}
use Rattle.c_rules.specs.Proper.{is_proper}
use Rattle.c_rules.specs.Fitting.{AddressFits, KnownFits}

pub integer_result : (around : Context) (int_type : IntType) (constness : Constness) (value : Value) → type_of around value ≡ Some (Integer int_type) → is_conversion value ≡ false
    → KnownFits around (integer_value (Integer int_type) constness value)
integer_result around int_type constness value typed plain = record { typed = (typed, plain, refl); proper = refl; null = λ null. (refl, tt); address = tt }

pub value_result : (around : Context) (t : CType) (value : Value) → type_of around value ≡ Some t → is_conversion value ≡ false → (is_scalar t || is_void t) ≡ true → is_proper t ≡ true
    → KnownFits around (value_of_type t value)
value_result around t value typed plain kind proper = record { typed = (typed, plain, kind); proper = proper; null = λ null. absurd (false≢true null); address = tt }

-- one whose address is known
pub address_result : (around : Context) (t : CType) (value : Value) (at : Address) → type_of around value ≡ Some t → is_conversion value ≡ false → (is_scalar t || is_void t) ≡ true → is_proper t ≡ true
    → AddressFits around.program t (OfValue value) at → KnownFits around (record (value_of_type t value) { address = at })
address_result around t value at typed plain kind proper fits = record { typed = (typed, plain, kind); proper = proper; null = λ null. absurd (false≢true null); address = fits }

pub object_result : (around : Context) (t : CType) (object : Object) (at : Address) → type_of_object around object ≡ Some t → is_complete around.program.structs t ≡ true → is_proper t ≡ true
    → AddressFits around.program t (OfObject object) at → KnownFits around (object_at t object at)
object_result around t object at typed complete proper fits = record { typed = (typed, complete); proper = proper; null = λ null. absurd (false≢true null); address = fits }

pub scalar_kind : (t : CType) → is_scalar t ≡ true → (is_scalar t || is_void t) ≡ true
scalar_kind (Integer n) is = refl
scalar_kind (Pointer target) is = refl
scalar_kind t is = absurd (false≢true is)
