-- What an expression comes to, from what is found.
use Rattle.std.specs.Prelude.{Result, Ok, Err}
use Rattle.ref_meaning.specs.declared.value.Stop.{Stop}
use Rattle.ref_meaning.specs.declared.value.Place as memory_place
use Rattle.ref_meaning.specs.declared.value.Scalar as memory_scalar
use Rattle.ref_meaning.specs.declared.value.Scalar.TheVariants as M
use Rattle.ref_meaning.specs.declared.first_operand.Next as memory_next
use Rattle.ref_meaning.specs.declared.first_operand.Next.TheVariants as X

abbrev pub scalar_next : Result memory_scalar.Scalar Stop → Result memory_next.Next Stop
scalar_next (Ok a) = Ok (X.Given a)
scalar_next (Err stop) = Err stop

-- a pointer to it
abbrev pub place_next : Result memory_place.Place Stop → Result memory_next.Next Stop
place_next (Ok place) = Ok (X.Given (M.Pointer place))
place_next (Err stop) = Err stop
