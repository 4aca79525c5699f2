-- What begins an accepted text, and where a refusal stands.
use Rattle.std.specs.Prelude.{◌≡◌, ℕ, ◌≤◌, List, [], ◌∷◌, ◌++◌}
use Rattle.c_grammar.specs.Table.{Tree, Table, leaves, height, IsPart}

-- The leaves are those of a tree, which nests at most so many nodes deep.
pub record Accepted {Leaf Kind Sort Production : Type 0} (T : Table Leaf Kind Sort Production) (sort : Sort) (level limit : ℕ) (text : List Leaf) : Type 0 where
  pub tree : Tree Leaf Production
  pub spelled : IsPart T sort level tree
  pub same_leaves : leaves tree ≡ text
  pub nesting : height T tree ≤ limit

-- The leaves begin an accepted text.
pub record BeginsAccepted {Leaf Kind Sort Production : Type 0} (T : Table Leaf Kind Sort Production) (sort : Sort) (level limit : ℕ) (front : List Leaf) : Type 0 where
  pub more : List Leaf
  pub accepted : Accepted T sort level limit (front ++ more)

-- The leaves before these begin an accepted text, and those through the first of these begin none, whatever the limit.
pub record IsMisfit {Leaf Kind Sort Production : Type 0} (T : Table Leaf Kind Sort Production) (sort : Sort) (level limit : ℕ) (text behind : List Leaf) : Type 0 where
  pub front : List Leaf
  pub passed : text ≡ front ++ behind
  pub before : BeginsAccepted T sort level limit front
  pub none : (leaf : Leaf) (others : List Leaf) → behind ≡ leaf ∷ others → (larger : ℕ) → BeginsAccepted T sort level larger (front ++ leaf ∷ []) → ⊥

-- The leaves before these begin an accepted text, and those through the first of these do only with a larger limit.
pub record IsTooDeep {Leaf Kind Sort Production : Type 0} (T : Table Leaf Kind Sort Production) (sort : Sort) (level limit : ℕ) (text behind : List Leaf) : Type 0 where
  pub front : List Leaf
  pub leaf : Leaf
  pub others : List Leaf
  pub passed : text ≡ front ++ behind
  pub here : behind ≡ leaf ∷ others
  pub before : BeginsAccepted T sort level limit front
  pub none : BeginsAccepted T sort level limit (front ++ leaf ∷ []) → ⊥
  pub larger : ℕ
  pub deeper : BeginsAccepted T sort level larger (front ++ leaf ∷ [])
