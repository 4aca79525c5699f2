-- What stands in a list, and lists that are put together.
use Rattle.std.specs.Prelude.{◌≡◌, ℕ, ◌⊎◌, ◌==◌, Bool, List, [], ◌∷◌, ◌++◌}
use Rattle.std.specs.List.{list_any}

abbrev pub Has : {X : Type 0} → List X → X → Type 0
Has [] one = ⊥
Has (first ∷ others) one = (one ≡ first) ⊎ Has others one

-- what each gives, in order
abbrev pub gathered : {X Y : Type 0} → (X → List Y) → List X → List Y
gathered f [] = []
gathered f (first ∷ others) = f first ++ gathered f others

abbrev pub is_among : ℕ → List ℕ → Bool
is_among number numbers = list_any (λ other. other == number) numbers
