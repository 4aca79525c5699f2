-- The search for strong components in memory: what each of its parts does, over lists.
use Rattle.std.specs.Prelude.{◌≡◌, ℕ, ◌+◌, ◌-◌, ◌<◌, ◌≤◌, nat_lt, if◌then◌else◌, List, [], ◌∷◌, ◌++◌, length, map, take, slice_get, slice_set, option_map, Some}
use Rattle.call_graph.specs.declared.components.Mark.{Mark}
use Rattle.call_graph.specs.declared.components.Mark.TheVariants.{Unseen, Open, Done}
use Rattle.call_graph.specs.declared.components.Search.{Search}
use Rattle.call_graph.specs.Search.{Path, IsSearch}

-- ---- graphs, by the nodes to which each node has edges

pub record Edge (edges : List (List ℕ)) (from to : ℕ) : Type 0 where
  pub targets : List ℕ
  pub row : slice_get edges from ≡ Some targets
  pub at : ℕ
  pub is : slice_get targets at ≡ Some to

abbrev pub AreInside : List (List ℕ) → Type 0
AreInside edges = (from to : ℕ) → Edge edges from to → to < length edges

-- ---- what marks tell

abbrev pub IsOpen : List Mark → ℕ → ℕ → Type 0
IsOpen marks node place = slice_get marks node ≡ Some (Open place)

abbrev pub IsDone : List Mark → ℕ → ℕ → Type 0
IsDone marks node component = slice_get marks node ≡ Some (Done component)

abbrev pub IsStart : List ℕ → ℕ → Type 0
IsStart starts start = (at : ℕ) × (slice_get starts at ≡ Some start)

abbrev pub Waits : List (ℕ × ℕ) → ℕ → ℕ → Type 0
Waits waiting place node = (at : ℕ) × (slice_get waiting at ≡ Some (place, node))

-- the nodes on the path have their places
abbrev pub ArePlaced : List ℕ → List Mark → Type 0
ArePlaced members marks = (place node : ℕ) → slice_get members place ≡ Some node → slice_get marks node ≡ Some (Open place)

pub record AreMarked (members : List ℕ) (marks : List Mark) : Type 0 where
  pub placed : ArePlaced members marks
  pub opened : (node place : ℕ) → IsOpen marks node place → slice_get members place ≡ Some node

-- a list with others behind it, which are above a place
pub record IsCut (place : ℕ) (whole front : List ℕ) : Type 0 where
  pub left_out : List ℕ
  pub is : whole ≡ front ++ left_out
  pub above : (at start : ℕ) → slice_get left_out at ≡ Some start → place < start

abbrev pub IsLast : {X : Type 0} → X → List X → Type 0
IsLast {X} one list = (before : List X) × (list ≡ before ++ one ∷ [])

-- ---- parts of the search

pub record IsFresh (nodes : ℕ) (made : Search) : Type 0 where
  pub marks : length made.marks.items ≡ nodes
  pub unseen : (node : ℕ) → node < nodes → slice_get made.marks.items node ≡ Some Unseen
  pub members : made.members.items ≡ []
  pub starts : made.starts.items ≡ []
  pub waiting : made.waiting.items ≡ []
  pub count : made.count ≡ 0

pub record Opens (edges : List (List ℕ)) (node : ℕ) (old new : Search) : Type 0 where
  pub targets : List ℕ
  pub row : slice_get edges node ≡ Some targets
  pub marks : new.marks.items ≡ slice_set old.marks.items node (Open (length old.members.items))
  pub members : new.members.items ≡ old.members.items ++ node ∷ []
  pub starts : new.starts.items ≡ old.starts.items ++ length old.members.items ∷ []
  pub waiting : new.waiting.items ≡ old.waiting.items ++ map (λ next. (length old.members.items, next)) targets
  pub count : new.count ≡ old.count

-- starts above the place are left out
pub record Merges (place : ℕ) (old new : Search) : Type 0 where
  pub starts : IsCut place old.starts.items new.starts.items
  pub last : (start : ℕ) → IsLast start new.starts.items → start ≤ place
  pub marks : new.marks.items ≡ old.marks.items
  pub members : new.members.items ≡ old.members.items
  pub waiting : new.waiting.items ≡ old.waiting.items
  pub count : new.count ≡ old.count

abbrev pub closed_mark : ℕ → ℕ → Mark → Mark
closed_mark start count (Open place) = if nat_lt place start then Open place else Done count
closed_mark start count mark = mark

pub record Finishes (old new : Search) : Type 0 where
  pub members : new.members.items ≡ take (length old.members.items - 1) old.members.items
  pub size : length new.marks.items ≡ length old.marks.items
  pub marks : (node : ℕ) → slice_get new.marks.items node ≡ option_map (closed_mark (length old.members.items - 1) old.count) (slice_get old.marks.items node)
  pub starts : new.starts.items ≡ old.starts.items
  pub waiting : new.waiting.items ≡ old.waiting.items
  pub count : new.count ≡ old.count

pub record Closes (start : ℕ) (old new : Search) : Type 0 where
  pub members : new.members.items ≡ take start old.members.items
  pub size : length new.marks.items ≡ length old.marks.items
  pub marks : (node : ℕ) → slice_get new.marks.items node ≡ option_map (closed_mark start old.count) (slice_get old.marks.items node)
  pub starts : new.starts.items ≡ take (length old.starts.items - 1) old.starts.items
  pub waiting : new.waiting.items ≡ old.waiting.items
  pub count : new.count ≡ old.count + 1

-- ---- the whole search

-- later ones are from higher places
abbrev pub AreSorted : List (ℕ × ℕ) → Type 0
AreSorted waiting = (at further : ℕ) (a b : ℕ × ℕ) → at ≤ further → slice_get waiting at ≡ Some a → slice_get waiting further ≡ Some b → a.0 ≤ b.0

abbrev pub AreAscending : List ℕ → Type 0
AreAscending starts = (at further a b : ℕ) → at ≤ further → slice_get starts at ≡ Some a → slice_get starts further ≡ Some b → a ≤ b

pub record IsSearching (edges : List (List ℕ)) (search : Search) : Type 0 where
  pub marks : length search.marks.items ≡ length edges
  pub placed : ArePlaced search.members.items search.marks.items
  pub opened : (node place : ℕ) → IsOpen search.marks.items node place → slice_get search.members.items place ≡ Some node
  pub ascending : AreAscending search.starts.items
  pub sorted : AreSorted search.waiting.items
  pub known : IsSearch (Edge edges) (IsOpen search.marks.items) (IsDone search.marks.items) (IsStart search.starts.items) (Waits search.waiting.items) search.count (length search.members.items)

-- what is still to do
abbrev pub unseen_size : List (List ℕ) → List Mark → ℕ
unseen_size (row ∷ rows) (Unseen ∷ marks) = 2 + length row + unseen_size rows marks
unseen_size (row ∷ rows) (mark ∷ marks) = unseen_size rows marks
unseen_size rows marks = 0

abbrev pub to_do : List (List ℕ) → Search → ℕ
to_do edges search = unseen_size edges search.marks.items + (length search.waiting.items + length search.starts.items)

pub record Advances (edges : List (List ℕ)) (old new : Search) : Type 0 where
  pub keeps : IsSearching edges new
  pub less : to_do edges new < to_do edges old
  pub seen : (node : ℕ) → slice_get new.marks.items node ≡ Some Unseen → slice_get old.marks.items node ≡ Some Unseen

pub record Ends (edges : List (List ℕ)) (root : ℕ) (old new : Search) : Type 0 where
  pub keeps : IsSearching edges new
  pub ended : new.starts.items ≡ []
  pub seen : (node : ℕ) → slice_get new.marks.items node ≡ Some Unseen → slice_get old.marks.items node ≡ Some Unseen
  pub root_seen : slice_get new.marks.items root ≡ Some Unseen → ⊥

abbrev pub component_of : Mark → ℕ
component_of (Done component) = component
component_of mark = 0

pub record AreComponents (edges : List (List ℕ)) (numbers : List ℕ) : Type 0 where
  pub each : length numbers ≡ length edges
  pub same : (a b c d : ℕ) → slice_get numbers a ≡ Some c → slice_get numbers b ≡ Some d → Path (Edge edges) a b → Path (Edge edges) b a → c ≡ d
  pub together : (a b c : ℕ) → slice_get numbers a ≡ Some c → slice_get numbers b ≡ Some c → Path (Edge edges) a b
  pub callees : (a b c : ℕ) → slice_get numbers a ≡ Some c → Edge edges a b → (d : ℕ) × (slice_get numbers b ≡ Some d) × (d ≤ c)
