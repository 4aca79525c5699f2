-- The edges of a graph by the nodes from which they lead, and which numbers stand in a list.
use Rattle.std.specs.Prelude.{◌≡◌, ℕ, ◌<◌, ◌==◌, if◌then◌else◌, Bool, List, [], ◌∷◌, ◌++◌, length, slice_get, option_map, Option, Some, Vec, vec_items}
use Rattle.call_graph.specs.RowLists.{is_among}

-- where the edges from a node lead
abbrev pub row_of : ℕ → List (ℕ × ℕ) → List ℕ
row_of node [] = []
row_of node (edge ∷ edges) = if edge.0 == node then edge.1 ∷ row_of node edges else row_of node edges

-- what stands in rows in memory
abbrev pub row_at : {A B : Type 0} → Vec (Vec ℕ A) B → ℕ → Option (List ℕ)
row_at rows node = option_map vec_items (slice_get rows.items node)

pub record AreRows {A B : Type 0} (nodes : ℕ) (edges : List (ℕ × ℕ)) (rows : Vec (Vec ℕ A) B) : Type 0 where
  pub each : length rows.items ≡ nodes
  pub row : (node : ℕ) → node < nodes → row_at rows node ≡ Some (row_of node edges)

pub record AreEmpty {A B : Type 0} (nodes : ℕ) (rows : Vec (Vec ℕ A) B) : Type 0 where
  pub each : length rows.items ≡ nodes
  pub row : (node : ℕ) → node < nodes → row_at rows node ≡ Some []

abbrev pub with_edge : ℕ × ℕ → ℕ → List ℕ → List ℕ
with_edge edge node row = if edge.0 == node then row ++ edge.1 ∷ [] else row

pub record AddsEdge {A B : Type 0} (edge : ℕ × ℕ) (old new : Vec (Vec ℕ A) B) : Type 0 where
  pub each : length new.items ≡ length old.items
  pub row : (node : ℕ) → row_at new node ≡ option_map (with_edge edge node) (row_at old node)

pub record AreMarks (count : ℕ) (numbers : List ℕ) (marks : List Bool) : Type 0 where
  pub each : length marks ≡ count
  pub mark : (number : ℕ) → number < count → slice_get marks number ≡ Some (is_among number numbers)
