-- What is found of a slice.
use Rattle.std.proofs.Common.{◌≡◌, ℕ, List, length, Option, Some, None, Bor, option_copied, refl}
use Rattle.std.specs.Prelude.{slice_get}
use Rattle.std.specs.Slice.{IsItemAt}
use Rattle.std.proofs.lemmas.Option.{slice_get_read, slice_get_past}

pub got : {X : Type 0} (xs : List X) (number : ℕ) (found : Option (Bor X)) → IsItemAt xs number found → slice_get xs number ≡ option_copied found
got xs number (Some x) h = slice_get_read xs (length xs) number x.now refl h.3.0 h.1
got xs number None h = slice_get_past xs number h.3
