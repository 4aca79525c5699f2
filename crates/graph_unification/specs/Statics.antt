-- Variables outside functions and literals among the names of a graph.
use Rattle.std.specs.Prelude.{ℕ, List, [], ◌∷◌, Option, Some, None}
use Rattle.graph_unification.specs.declared.name.NameKey.{NameKey}
use Rattle.graph_unification.specs.declared.name.NameKey.TheVariants as K

abbrev pub global_of : NameKey → Option ℕ
global_of (K.Local function place) = None
global_of (K.Global number) = Some number
global_of (K.Literal number) = None
global_of (K.Copy number) = None

abbrev pub literal_of : NameKey → Option ℕ
literal_of (K.Local function place) = None
literal_of (K.Global number) = None
literal_of (K.Literal number) = Some number
literal_of (K.Copy number) = None

-- a number before others, if there is one
abbrev pub before_others : Option ℕ → List ℕ → List ℕ
before_others None numbers = numbers
before_others (Some number) numbers = number ∷ numbers

abbrev pub global_numbers : List NameKey → List ℕ
global_numbers [] = []
global_numbers (key ∷ keys) = before_others (global_of key) (global_numbers keys)

abbrev pub literal_numbers : List NameKey → List ℕ
literal_numbers [] = []
literal_numbers (key ∷ keys) = before_others (literal_of key) (literal_numbers keys)
