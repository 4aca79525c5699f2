-- The order of components, each named by its first node: callees first, and of those that may come next the one with the first node.
use Rattle.std.specs.Prelude.{◌≡◌, ℕ, zero, suc, ◌+◌, ◌-◌, ◌<◌, ◌≤◌, ◌⊎◌, ◌==◌, ◌&&◌, ◌||◌, not, true, false, if◌then◌else◌, List, [], ◌∷◌, ◌++◌, length, slice_get, slice_set, slice_index, Some}
use Rattle.std.specs.Ordering.{nat_cmp}
use Rattle.std.specs.BTreeSet.{BTreeSet, contains}
use Rattle.call_graph.specs.RowLists.{Has, is_among}
use Rattle.call_graph.specs.declared.order.Ordering.{Ordering}
use Rattle.call_graph.specs.Heads.{AreHeads, AreInside, AreRanked}

-- ---- orders

-- edges lead from a component to itself or to what stands before
abbrev pub IsPrepared : List ℕ → List (ℕ × ℕ) → List ℕ → ℕ → Type 0
IsPrepared heads edges before component =
    (from to callee : ℕ) → slice_get heads from ≡ Some component → Has edges (from, to) → slice_get heads to ≡ Some callee → (callee ≡ component) ⊎ (is_among callee before ≡ true)

-- a component that comes next
pub record IsNext (heads : List ℕ) (edges : List (ℕ × ℕ)) (before : List ℕ) (component : ℕ) : Type 0 where
  pub head : slice_get heads component ≡ Some component
  pub new : is_among component before ≡ false
  pub prepared : IsPrepared heads edges before component
  pub first : (other : ℕ) → slice_get heads other ≡ Some other → is_among other before ≡ false → IsPrepared heads edges before other → component ≤ other

abbrev pub AreInOrder : List ℕ → List (ℕ × ℕ) → List ℕ → Type 0
AreInOrder heads edges order = (before after : List ℕ) (component : ℕ) → order ≡ before ++ component ∷ after → IsNext heads edges before component

pub record IsOrder (heads : List ℕ) (edges : List (ℕ × ℕ)) (order : List ℕ) : Type 0 where
  pub all : (component : ℕ) → slice_get heads component ≡ Some component → is_among component order ≡ true
  pub in_order : AreInOrder heads edges order

-- the components of nodes that are numbered by them, with edges to the same or lower ones
pub record AreOfComponents (edges : List (ℕ × ℕ)) (heads : List ℕ) : Type 0 where
  pub numbers : List ℕ
  pub of_numbers : AreHeads numbers heads
  pub inside : AreInside (length heads) edges
  pub ranked : AreRanked numbers edges

-- ---- while components are put in order

-- how many edges lead to a node from nodes that aren't placed
abbrev pub open_edges : List ℕ → List (ℕ × ℕ) → ℕ → ℕ
open_edges placed [] node = 0
open_edges placed (edge ∷ edges) node = if edge.1 == node && not (is_among edge.0 placed) then suc (open_edges placed edges node) else open_edges placed edges node

pub record AreCounts (nodes : ℕ) (edges : List (ℕ × ℕ)) (counts : List ℕ) : Type 0 where
  pub each : length counts ≡ nodes
  pub count : (node : ℕ) → node < nodes → slice_index counts node ≡ open_edges [] edges node

abbrev pub occurrences : ℕ → List ℕ → ℕ
occurrences node [] = 0
occurrences node (first ∷ others) = if first == node then suc (occurrences node others) else occurrences node others

pub record IsReady (heads placed : List ℕ) (turned : List (ℕ × ℕ)) (node : ℕ) : Type 0 where
  pub head : slice_get heads node ≡ Some node
  pub none : open_edges placed turned node ≡ 0
  pub new : is_among node placed ≡ false

pub record IsOrdering (heads : List ℕ) (turned : List (ℕ × ℕ)) (ordering : Ordering) : Type 0 where
  pub each : length ordering.counts.items ≡ length heads
  pub counts : (node : ℕ) → node < length heads → slice_index ordering.counts.items node ≡ open_edges ordering.placed.items turned node
  pub ready : (node : ℕ) → contains nat_cmp ordering.ready node ≡ true → IsReady heads ordering.placed.items turned node
  pub waits : (node : ℕ) → IsReady heads ordering.placed.items turned node → contains nat_cmp ordering.ready node ≡ true
  pub closed : (node : ℕ) → is_among node ordering.placed.items ≡ true → open_edges ordering.placed.items turned node ≡ 0

-- how many components aren't placed
abbrev pub unplaced : List ℕ → ℕ → ℕ
unplaced placed zero = 0
unplaced placed (suc node) = if is_among node placed then unplaced placed node else suc (unplaced placed node)

-- ---- parts

-- components that have no edges to others are ready
pub record Begins (heads counts : List ℕ) (made : Ordering) : Type 0 where
  pub counts' : made.counts.items ≡ counts
  pub placed : made.placed.items ≡ []
  pub ready : (node : ℕ) → contains nat_cmp made.ready node ≡ true → (slice_get heads node ≡ Some node) × (slice_index counts node ≡ 0)
  pub waits : (node : ℕ) → slice_get heads node ≡ Some node → slice_index counts node ≡ 0 → contains nat_cmp made.ready node ≡ true

-- those of the first nodes that are ready
pub record AreReadySoFar (count : ℕ) (heads counts : List ℕ) (ready : BTreeSet ℕ) : Type 0 where
  pub ready' : (node : ℕ) → contains nat_cmp ready node ≡ true → (node < count) × (slice_get heads node ≡ Some node) × (slice_index counts node ≡ 0)
  pub waits : (node : ℕ) → node < count → slice_get heads node ≡ Some node → slice_index counts node ≡ 0 → contains nat_cmp ready node ≡ true

-- no more is counted down than there is
abbrev pub AreCovered : List ℕ → List ℕ → Type 0
AreCovered callers counts = (node : ℕ) → occurrences node callers ≤ slice_index counts node

-- these are counted down
pub record CountsAll (callers : List ℕ) (old new : Ordering) : Type 0 where
  pub each : length new.counts.items ≡ length old.counts.items
  pub counts : (node : ℕ) → slice_index old.counts.items node ≡ slice_index new.counts.items node + occurrences node callers
  pub ready : (node : ℕ) → contains nat_cmp new.ready node ≡ (contains nat_cmp old.ready node || (is_among node callers && slice_index new.counts.items node == 0))

pub record Places (head : ℕ) (callers : List ℕ) (old new : Ordering) : Type 0 where
  pub counted : CountsAll callers old new
  pub placed : new.placed.items ≡ old.placed.items ++ head ∷ []

pub record CountsDown (caller : ℕ) (old new : Ordering) : Type 0 where
  pub counts : new.counts.items ≡ slice_set old.counts.items caller (slice_index old.counts.items caller - 1)
  pub ready : (node : ℕ) → contains nat_cmp new.ready node ≡ (if caller == node && slice_index new.counts.items caller == 0 then true else contains nat_cmp old.ready node)
  pub placed : new.placed.items ≡ old.placed.items
