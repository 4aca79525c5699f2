-- The search for strong components, as it stands between two steps. Nodes that are open stand on a path, each at its place; groups of
-- them, each from its start on, are known to reach each other. What waits are edges, each from a place to a node. Nodes that are done
-- have the number of their component.
use Rattle.std.specs.Prelude.{ℕ, ◌<◌, ◌≤◌, ◌⊎◌}

-- nodes that edges lead to, one after another
pub data Path (Edge : ℕ → ℕ → Type 0) : ℕ → ℕ → Type 0 where
  stay : (node : ℕ) → Path Edge node node
  along : (from next to : ℕ) → Edge from next → Path Edge next to → Path Edge from to

-- a node is done, or stands in the group of a place or above
pub data IsFound (opened done : ℕ → ℕ → Type 0) (starts : ℕ → Type 0) (place node : ℕ) : Type 0 where
  is_done : (component : ℕ) → done node component → IsFound opened done starts place node
  is_open : (at : ℕ) → opened node at → ((start : ℕ) → starts start → start ≤ place → start ≤ at) → IsFound opened done starts place node

pub record IsSearch (Edge opened done : ℕ → ℕ → Type 0) (starts : ℕ → Type 0) (waits : ℕ → ℕ → Type 0) (count size : ℕ) : Type 0 where
  pub inside : (x i : ℕ) → opened x i → i < size
  pub within : (s : ℕ) → starts s → s ≤ size
  pub begun : (x i : ℕ) → opened x i → (s : ℕ) × starts s × (s ≤ i)
  -- the lower reach the higher, and those of a group each other
  pub down : (x y i j : ℕ) → opened x i → opened y j → i ≤ j → Path Edge x y
  pub back : (x y i j : ℕ) → opened x i → opened y j → i ≤ j → ((s : ℕ) → starts s → s ≤ j → s ≤ i) → Path Edge y x
  -- edges from open nodes
  pub further : (x y i : ℕ) → opened x i → Edge x y → waits i y ⊎ IsFound opened done starts i y
  pub waiting : (i y : ℕ) → waits i y → (x : ℕ) × opened x i × Edge x y
  -- components that are done
  pub below : (x c : ℕ) → done x c → c < count
  pub callees : (x y c : ℕ) → done x c → Edge x y → (d : ℕ) × done y d × (d ≤ c)
  pub together : (x y c : ℕ) → done x c → done y c → Path Edge x y
