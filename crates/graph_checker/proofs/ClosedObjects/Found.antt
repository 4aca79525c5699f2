-- What is found of a slice.
use Rattle.std.proofs.Common.{◌≡◌, ℕ, List, length, map, Option, Some, None, option_map, Bor, option_copied, refl, ap, ◌∙◌}
use Rattle.std.specs.Prelude.{slice_get}
use Rattle.std.specs.Slice.{IsItemAt}
use Rattle.std.proofs.lemmas.Option.{slice_get-map, slice_get_read, slice_get_past}

pub got : {X : Type 0} (xs : List X) (number : ℕ) (found : Option (Bor X)) → IsItemAt xs number found → slice_get xs number ≡ option_copied found
got xs number (Some x) h = slice_get_read xs (length xs) number x.now refl h.3.0 h.1
got xs number None h = slice_get_past xs number h.3

-- and of what each of its items is taken for
pub got_as : {X Y : Type 0} (view : X → Y) (xs : List X) (number : ℕ) (found : Option (Bor X)) (x : Bor X) → IsItemAt xs number found → found ≡ Some x → slice_get (map view xs) number ≡ Some (view x.now)
got_as {X = X} view xs number found x at is = slice_get-map view xs number ∙ ap (option_map view) (got xs number found at ∙ ap option_copied is)
