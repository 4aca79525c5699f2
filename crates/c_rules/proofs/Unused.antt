-- A value that isn't used is an expression, too.
use Rattle.std.proofs.Common.{◌≡◌, Bool, true, false, cond, Option, Some, None, is_some, refl}
use Rattle.std.proofs.lemmas.Bool.{false≢true}
use Rattle.c_typed.specs.Types.{Void, same_type}
use Rattle.c_typed.specs.Typed as T
use Rattle.c_typed.specs.Typed.{Value}
use Rattle.c_rules.specs.Operators.{dropped}
use Rattle.c_typed.specs.Context.{Context}
use Rattle.c_typed.specs.Expressions.{given, where_holds, result_of, type_of, types_of, type_of_designator}

some-given : {A B C : Type 0} (option : Option A) (one : A → Option B) (other : A → Option C) → ((a : A) → is_some (one a) ≡ true → is_some (other a) ≡ true) → is_some (given option one) ≡ true → is_some (given option other) ≡ true
some-given None one other keeps some = absurd (false≢true some)
some-given (Some a) one other keeps some = keeps a some

some-holds : {A B : Type 0} (b : Bool) (one : A) (other : B) → is_some (where_holds b one) ≡ true → is_some (where_holds b other) ≡ true
some-holds true one other some = refl
some-holds false one other some = absurd (false≢true some)

pub dropped-some : (around : Context) (value : Value) → is_some (type_of around value) ≡ true → is_some (type_of around (dropped value)) ≡ true
dropped-some around (T.Call is_used place function c_type arguments) some =
    some-given (type_of_designator around function) _ _ (λ t.
    some-given (types_of around arguments) _ _ (λ types.
    some-given (result_of types t) _ _ (λ result.
    some-holds (same_type t c_type) (cond is_used result Void) (cond false result Void)))) some
dropped-some around (T.Grouped inner) some = dropped-some around inner some
dropped-some around value some = some
