-- The functions of a group among all functions, and `start`.
use Rattle.std.proofs.Common.{◌≡◌, ℕ, false, List, [], ◌∷◌, map, refl}
use Rattle.std.specs.Prelude.{◌==◌, ◌||◌}
use Rattle.tac_ir.specs.States.{Owner, InStart, InFunction}
use Rattle.heap_graph.specs.Closed.{is_in, is_start, of_group}
use Rattle.dsa_local.specs.Mentioned.{is_among}

member_among : (group : List ℕ) (number : ℕ) → is_among (InFunction number) (map InFunction group) ≡ is_in number group
member_among [] number = refl
member_among (first ∷ others) number = λ i. ((first == number) || member_among others number i)

start_among : (group : List ℕ) → is_among InStart (map InFunction group) ≡ false
start_among [] = refl
start_among (first ∷ others) = start_among others

in_group : (group : List ℕ) (owner : Owner) → is_among owner (map InFunction group) ≡ of_group group owner
in_group group InStart = start_among group
in_group group (InFunction number) = member_among group number

in_start : (owner : Owner) → is_among owner (InStart ∷ []) ≡ is_start owner
in_start InStart = refl
in_start (InFunction number) = refl

-- the owners of a group's graph
pub group_owners : (group : List ℕ) → (λ (owner : Owner). is_among owner (map InFunction group)) ≡ of_group group
group_owners group = λ i. λ owner. in_group group owner i

-- that of the graph of `start`
pub start_owners : (λ (owner : Owner). is_among owner (InStart ∷ [])) ≡ is_start
start_owners = λ i. λ owner. in_start owner i
