-- Numbered nodes, and of each the first one with the same number.
use Rattle.std.specs.Prelude.{◌≡◌, ℕ, ◌<◌, ◌≤◌, ◌==◌, if◌then◌else◌, List, [], ◌∷◌, length, slice_get, slice_index, Option, Some, None}
use Rattle.indexmap.specs.IndexMap.{IndexMap, get_by}
use Rattle.call_graph.specs.RowLists.{Has, gathered}

-- the first node of a number
pub record IsFirst {K : Type 0} (numbers : List K) (number : K) (first : ℕ) : Type 0 where
  pub is : slice_get numbers first ≡ Some number
  pub before : (node : ℕ) → node < first → slice_get numbers node ≡ Some number → ⊥

pub record AreHeads (numbers heads : List ℕ) : Type 0 where
  pub each : length heads ≡ length numbers
  pub head : (node number : ℕ) → slice_get numbers node ≡ Some number → (first : ℕ) × (slice_get heads node ≡ Some first) × IsFirst numbers number first

-- what is found for a key is its first node
abbrev pub IsFound : List ℕ → ℕ → Option ℕ → Type 0
IsFound numbers number (Some first) = IsFirst numbers number first
IsFound numbers number None = (node : ℕ) → slice_get numbers node ≡ Some number → ⊥

abbrev pub first_in : {S : Type 0} → IndexMap ℕ ℕ S → ℕ → Option ℕ
first_in firsts number = get_by (λ (other : ℕ). number == other) firsts

-- what is known once the first nodes are looked at
pub record HeadsSoFar {S : Type 0} (done : List ℕ) (firsts : IndexMap ℕ ℕ S) (heads : List ℕ) : Type 0 where
  pub found : (number : ℕ) → IsFound done number (first_in firsts number)
  pub of : AreHeads done heads

-- ---- edges

-- from nodes to nodes
abbrev pub AreInside : ℕ → List (ℕ × ℕ) → Type 0
AreInside nodes edges = (edge : ℕ × ℕ) → Has edges edge → (edge.0 < nodes) × (edge.1 < nodes)

-- edges lead to the same number or a lower one
abbrev pub AreRanked : List ℕ → List (ℕ × ℕ) → Type 0
AreRanked numbers edges = (edge : ℕ × ℕ) → Has edges edge → (a b : ℕ) → slice_get numbers edge.0 ≡ Some a → slice_get numbers edge.1 ≡ Some b → b ≤ a

-- an edge between components, from the one to which it leads
abbrev pub turned_edge : List ℕ → ℕ × ℕ → List (ℕ × ℕ)
turned_edge heads edge = if slice_index heads edge.0 == slice_index heads edge.1 then [] else (slice_index heads edge.1, slice_index heads edge.0) ∷ []

abbrev pub turned_edges : List ℕ → List (ℕ × ℕ) → List (ℕ × ℕ)
turned_edges heads edges = gathered (turned_edge heads) edges
