-- Names of structures, functions and members, as lists of bytes.
use Rattle.std.specs.Prelude.{ℕ, Bool, false, ◌||◌, List, [], ◌∷◌, bytes_eq}

abbrev pub contains : List (List ℕ) → List ℕ → Bool
contains [] name = false
contains (first ∷ others) name = bytes_eq first name || contains others name
