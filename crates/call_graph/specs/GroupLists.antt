-- Groups as lists, by the first functions of each.
use Rattle.std.specs.Prelude.{◌≡◌, ℕ, suc, ◌<◌, List, [], ◌∷◌, map, length, slice_get, slice_index, Some}
use Rattle.call_graph.specs.Search.{Path}
use Rattle.call_graph.specs.RowLists.{Has}
use Rattle.call_graph.specs.Rows.{row_of}
use Rattle.call_graph.specs.Orders.{AreOfComponents}

abbrev pub Leads : List (ℕ × ℕ) → ℕ → ℕ → Type 0
Leads edges from to = Has edges (from, to)

-- of each function, the first of those that it reaches and that reach it
pub record AreCallHeads (count : ℕ) (edges : List (ℕ × ℕ)) (heads : List ℕ) : Type 0 where
  pub each : length heads ≡ count
  pub of : AreOfComponents edges heads
  pub together : (a b head : ℕ) → slice_get heads a ≡ Some head → slice_get heads b ≡ Some head → Path (Leads edges) a b
  pub same : (a b head other : ℕ) → slice_get heads a ≡ Some head → slice_get heads b ≡ Some other → Path (Leads edges) a b → Path (Leads edges) b a → head ≡ other

-- each function linked from the first of its group, from a number on
abbrev pub links_of : ℕ → List ℕ → List (ℕ × ℕ)
links_of number [] = []
links_of number (head ∷ heads) = (head, number) ∷ links_of (suc number) heads

-- the functions of a group
abbrev pub functions_in : ℕ → List ℕ → ℕ → List ℕ
functions_in number heads head = row_of head (links_of number heads)

abbrev pub in_groups : List ℕ → List ℕ → List (List ℕ)
in_groups heads order = map (functions_in 0 heads) order

-- ---- numbers of groups

abbrev pub AreBelow : ℕ → List ℕ → Type 0
AreBelow count numbers = (number : ℕ) → Has numbers number → number < count

-- where each of an order stands in it
pub record ArePlaces (count : ℕ) (order places : List ℕ) : Type 0 where
  pub each : length places ≡ count
  pub place : (head : ℕ) → Has order head → slice_get order (slice_index places head) ≡ Some head

-- where the head of each function stands in the order
pub record AreNumbers (heads order numbers : List ℕ) : Type 0 where
  pub each : length numbers ≡ length heads
  pub number : (function head number : ℕ) → slice_get heads function ≡ Some head → slice_get numbers function ≡ Some number → Has order head → slice_get order number ≡ Some head
