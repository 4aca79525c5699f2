-- A grammar as a table: its productions are rows of symbols, each a form of a tree; and which trees the rows allow.
--
-- A tree of a sort is made by one of the rows of that sort. A row of an expression may begin with a tree of its own sort
-- (`a + b` begins with `a`): then its left level says how loosely that tree may bind, and its symbols are what follows.
-- Levels are those of operators: a lower one binds tighter.
use Rattle.std.specs.Prelude.{◌≡◌, ℕ, ◌+◌, ◌≤◌, max, Bool, false, true, List, [], ◌∷◌, ◌++◌, Option, Some, None}

-- what stands in a row: a terminal, which is a token of a kind, or a nonterminal, a tree of a sort that binds at most as loosely as a level
pub data Symbol (Kind Sort : Type 0) : Type 0 where
  Terminal : (kind : Kind) → Symbol Kind Sort
  Nonterminal : (sort : Sort) (level : ℕ) → Symbol Kind Sort

-- A tree is a leaf, or a node of a form with the trees of its row's symbols, one after another.
pub data Tree (Leaf Production : Type 0) : Type 0 where
  Alone : (leaf : Leaf) → Tree Leaf Production
  Nothing : Tree Leaf Production
  Then : (first others : Tree Leaf Production) → Tree Leaf Production
  Node : (form : Production) (parts : Tree Leaf Production) → Tree Leaf Production

-- How a reader goes on at the front of leaves: no row begins so; a row, with the least height of a tree that begins with
-- the first leaf, and of one that begins with the first two; or a row begins with the first leaf, and none with both.
pub data Choice (Production : Type 0) : Type 0 where
  Never : Choice Production
  Take : (form : Production) (first second : ℕ) → Choice Production
  Stuck : (first : ℕ) → Choice Production

pub record Table (Leaf Kind Sort Production : Type 0) : Type 0 where
  -- is the leaf of this kind
  pub fits : Kind → Leaf → Bool
  -- Is the form a row of the grammar, with these arguments?
  pub is_row : Production → Bool
  -- the sort whose trees the row makes, and how loosely they bind
  pub sort : Production → Sort
  pub level : Production → ℕ
  -- of a row that begins with a tree of its own sort: how loosely that may bind
  pub left : Production → Option ℕ
  -- the row, behind such a tree
  pub symbols : Production → List (Symbol Kind Sort)
  -- 1 where its trees count for nesting, else 0
  pub weight : Production → ℕ
  -- may this leaf not follow the tree
  pub bars : Tree Leaf Production → Leaf → Bool
  -- how a tree of a sort and level is begun
  pub choose : Sort → ℕ → List Leaf → Choice Production
  -- the row by which a tree of a level goes on with a leaf, in a tree of a sort and level
  pub goes_on : Sort → ℕ → ℕ → Leaf → Option Production
  -- the least height of a tree that a row makes of a tree before it
  pub left_need : Production → ℕ
  -- the least height of a tree of a sort and level
  pub need : Sort → ℕ → ℕ
  -- such a tree, and a leaf of each kind
  pub least : Sort → ℕ → Tree Leaf Production
  pub sample : Kind → Leaf
  -- does a tree that bars leaves bar leaves of this kind
  pub special : Kind → Bool

-- the leaves of a tree, from left to right
abbrev pub leaves : {Leaf Production : Type 0} → Tree Leaf Production → List Leaf
leaves (Alone leaf) = leaf ∷ []
leaves Nothing = []
leaves (Then first others) = leaves first ++ leaves others
leaves (Node form parts) = leaves parts

-- how many nodes that count lie on its longest path
abbrev pub height : {Leaf Kind Sort Production : Type 0} → (T : Table Leaf Kind Sort Production) → Tree Leaf Production → ℕ
height T (Alone leaf) = 0
height T Nothing = 0
height T (Then first others) = max (height T first) (height T others)
height T (Node form parts) = height T parts + T.weight form

-- may the first of these leaves not follow the tree
abbrev pub barred : {Leaf Kind Sort Production : Type 0} → (T : Table Leaf Kind Sort Production) → (tree : Tree Leaf Production) → List Leaf → Bool
barred T tree [] = false
barred T tree (leaf ∷ others) = T.bars tree leaf

mutual
  -- the trees of these symbols
  pub data Is {Leaf Kind Sort Production : Type 0} (T : Table Leaf Kind Sort Production) : List (Symbol Kind Sort) → Tree Leaf Production → Type 0 where
    nothing : Is T [] Nothing
    token : {kind : Kind} {symbols : List (Symbol Kind Sort)} {others : Tree Leaf Production} (leaf : Leaf) → T.fits kind leaf ≡ true → Is T symbols others → Is T (Terminal kind ∷ symbols) (Then (Alone leaf) others)
    part : {sort : Sort} {level : ℕ} {symbols : List (Symbol Kind Sort)} {tree others : Tree Leaf Production} → IsPart T sort level tree → Is T symbols others → barred T tree (leaves others) ≡ false → Is T (Nonterminal sort level ∷ symbols) (Then tree others)

  -- a tree of this sort that binds at most as loosely as this level
  pub data IsPart {Leaf Kind Sort Production : Type 0} (T : Table Leaf Kind Sort Production) : Sort → ℕ → Tree Leaf Production → Type 0 where
    first : {sort : Sort} {level : ℕ} {parts : Tree Leaf Production} (form : Production) → T.sort form ≡ sort → T.is_row form ≡ true → T.left form ≡ None → T.level form ≤ level → Is T (T.symbols form) parts → IsPart T sort level (Node form parts)
    after : {sort : Sort} {level : ℕ} {left parts : Tree Leaf Production} (form : Production) (left_level : ℕ) → T.sort form ≡ sort → T.is_row form ≡ true → T.left form ≡ Some left_level → T.level form ≤ level → IsPart T sort left_level left → Is T (T.symbols form) parts → IsPart T sort level (Node form (Then left parts))

-- the least height of trees of these symbols
abbrev pub need_all : {Leaf Kind Sort Production : Type 0} → (T : Table Leaf Kind Sort Production) → List (Symbol Kind Sort) → ℕ
need_all T [] = 0
need_all T (Terminal kind ∷ symbols) = need_all T symbols
need_all T (Nonterminal sort level ∷ symbols) = max (T.need sort level) (need_all T symbols)

-- trees of that height
abbrev pub least_parts : {Leaf Kind Sort Production : Type 0} → (T : Table Leaf Kind Sort Production) → List (Symbol Kind Sort) → Tree Leaf Production
least_parts T [] = Nothing
least_parts T (Terminal kind ∷ symbols) = Then (Alone (T.sample kind)) (least_parts T symbols)
least_parts T (Nonterminal sort level ∷ symbols) = Then (T.least sort level) (least_parts T symbols)

-- None of the tokens is one that a tree before it may bar.
abbrev pub Plain : {Leaf Kind Sort Production : Type 0} → (T : Table Leaf Kind Sort Production) → List (Symbol Kind Sort) → Type 0
Plain T [] = Unit {0}
Plain T (Terminal kind ∷ symbols) = (T.special kind ≡ false) × Plain T symbols
Plain T (Nonterminal sort level ∷ symbols) = Plain T symbols

-- That is so behind each tree of a row.
abbrev pub Orderly : {Leaf Kind Sort Production : Type 0} → (T : Table Leaf Kind Sort Production) → List (Symbol Kind Sort) → Type 0
Orderly T [] = Unit {0}
Orderly T (Terminal kind ∷ symbols) = Orderly T symbols
Orderly T (Nonterminal sort level ∷ symbols) = Plain T symbols × Orderly T symbols
