-- Errors that are passed on.
use Rattle.std.proofs.Common.{◌≡◌, Result, Ok, Err, sym, subst}
use Rattle.std.specs.Result.{IsErrAnd}

-- What holds of a callee's error holds of the one that is passed on.
pub passed_on : {A E : Type 0} (result : Result A E) (fault : E) (Claim : Result A E → Type 0) → IsErrAnd result (λ given. given ≡ fault) → Claim (Err fault) → Claim result
passed_on (Ok x) fault Claim given claim = absurd given
passed_on (Err given) fault Claim same claim = subst (λ e. Claim (Err e)) (sym same) claim
