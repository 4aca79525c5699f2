-- What a table owes to a reader: that two leaves tell the row, and that the heights it names are the least.
use Rattle.std.specs.Prelude.{◌≡◌, ℕ, ◌+◌, ◌<◌, ◌≤◌, ◌⊎◌, false, true, List, [], ◌∷◌, ◌++◌, Option, Some, None, length}
use Rattle.c_grammar.specs.Table.{Symbol, Terminal, Nonterminal, Tree, Alone, Nothing, Then, Node, Choice, Never, Take, Stuck, Table, height, Is, IsPart, leaves, barred, need_all, Orderly}
use Rattle.c_grammar.specs.Runs.{Parts, Whole, Bad, Deep, Memory, Outcome, Done, Failed, fits_first, level_of, next_row, Run}

-- the least height that a choice names for the first leaf
abbrev pub lowest : {Production : Type 0} → Choice Production → Option ℕ
lowest Never = None
lowest (Take form first second) = Some first
lowest (Stuck first) = Some first

-- At most so many leaves stand behind what was read, or behind the fault.
abbrev pub Within : {Leaf Production : Type 0} → (count : ℕ) → Outcome Leaf Production → Type 0
Within count (Done tree behind) = length behind ≤ count
Within count (Failed Bad behind) = length behind ≤ count
Within count (Failed Deep behind) = length behind ≤ count
Within count (Failed Memory behind) = Unit {0}

-- Two leaves tell the row.
pub record Tells {Leaf Kind Sort Production : Type 0} (T : Table Leaf Kind Sort Production) : Type 0 where
  -- the first leaf alone tells the least height
  pub same_first : (sort : Sort) (level : ℕ) (leaf : Leaf) (text text' : List Leaf) → lowest (T.choose sort level (leaf ∷ text)) ≡ lowest (T.choose sort level (leaf ∷ text'))
  -- the first two tell all
  pub same_second : (sort : Sort) (level : ℕ) (leaf next : Leaf) (text text' : List Leaf) → T.choose sort level (leaf ∷ next ∷ text) ≡ T.choose sort level (leaf ∷ next ∷ text')
  -- Where the second leaf decides between rows, both pass the first.
  pub takes_first : (sort : Sort) (level : ℕ) (leaf : Leaf) (text text' : List Leaf) (form form' : Production) (first second first' second' : ℕ) → T.choose sort level (leaf ∷ text) ≡ Take form first second → T.choose sort level (leaf ∷ text') ≡ Take form' first' second'
      → (form ≡ form') ⊎ ((room below : ℕ) (outcome : Outcome Leaf Production) → second ≤ room → below + T.weight form ≡ room → Run T (Parts (T.symbols form)) below (leaf ∷ text) outcome → Within (length text) outcome)

-- The heights are the least ones.
pub record Bounds {Leaf Kind Sort Production : Type 0} (T : Table Leaf Kind Sort Production) : Type 0 where
  pub first_least : (sort : Sort) (level : ℕ) (text : List Leaf) (form : Production) (first second : ℕ) → T.choose sort level text ≡ Take form first second → first ≤ second
  pub row_least : (sort : Sort) (level : ℕ) (text : List Leaf) (form : Production) (first second below : ℕ) (parts : Tree Leaf Production) (behind : List Leaf) → T.choose sort level text ≡ Take form first second → Run T (Parts (T.symbols form)) below text (Done parts behind) → second ≤ height T parts + T.weight form
  pub left_least : (form : Production) (below : ℕ) (text : List Leaf) (parts : Tree Leaf Production) (behind : List Leaf) → Run T (Parts (T.symbols form)) below text (Done parts behind) → T.left_need form ≤ height T parts + T.weight form

-- a row by which a tree is begun
pub record IsRow {Leaf Kind Sort Production : Type 0} (T : Table Leaf Kind Sort Production) (sort : Sort) (level : ℕ) (form : Production) (second : ℕ) : Type 0 where
  pub own_sort : T.sort form ≡ sort
  pub own_row : T.is_row form ≡ true
  pub own_left : T.left form ≡ None
  pub own_level : T.level form ≤ level
  pub enough : need_all T (T.symbols form) + T.weight form ≤ second

-- a row by which a tree goes on, and the token by which that is told
pub record IsNext {Leaf Kind Sort Production : Type 0} (T : Table Leaf Kind Sort Production) (sort : Sort) (level : ℕ) (left : Tree Leaf Production) (text : List Leaf) (form : Production) : Type 0 where
  pub left_level : ℕ
  pub own_sort : T.sort form ≡ sort
  pub own_row : T.is_row form ≡ true
  pub own_left : T.left form ≡ Some left_level
  pub own_level : T.level form ≤ level
  pub binds : level_of T left ≤ left_level
  pub enough : need_all T (T.symbols form) + T.weight form ≤ T.left_need form
  pub kind : Kind
  pub others : List (Symbol Kind Sort)
  pub row : T.symbols form ≡ Terminal kind ∷ others
  pub told : fits_first T kind text ≡ true

-- Rows that begin with the same leaf differ in height, or the second leaf may fit none.
abbrev pub IsDivided : {Production : Type 0} → Choice Production → Type 0
IsDivided Never = ⊥
IsDivided (Take form first second) = first < second
IsDivided (Stuck first) = Unit {0}

-- a tree that begins with a leaf; where the second leaf decides, the lowest
pub record Begun {Leaf Kind Sort Production : Type 0} (T : Table Leaf Kind Sort Production) (sort : Sort) (level : ℕ) (leaf : Leaf) (choice : Choice Production) (first : ℕ) : Type 0 where
  pub tree : Tree Leaf Production
  pub more : List Leaf
  pub spelled : IsPart T sort level tree
  pub continues : leaves tree ≡ leaf ∷ more
  pub low : IsDivided choice → height T tree ≤ first

-- a tree that begins with a leaf and the first of others
pub record BegunTwo {Leaf Kind Sort Production : Type 0} (T : Table Leaf Kind Sort Production) (sort : Sort) (level : ℕ) (leaf : Leaf) (text : List Leaf) : Type 0 where
  pub tree : Tree Leaf Production
  pub next : Leaf
  pub others : List Leaf
  pub more : List Leaf
  pub spelled : IsPart T sort level tree
  pub split : text ≡ next ∷ others
  pub continues : leaves tree ≡ leaf ∷ next ∷ more

-- The rows that are chosen make trees, and what is begun can be completed.
pub record Completes {Leaf Kind Sort Production : Type 0} (T : Table Leaf Kind Sort Production) : Type 0 where
  pub row : (sort : Sort) (level : ℕ) (text : List Leaf) (form : Production) (first second : ℕ) → T.choose sort level text ≡ Take form first second → IsRow T sort level form second
  pub next : (sort : Sort) (level : ℕ) (left : Tree Leaf Production) (text : List Leaf) (form : Production) → next_row T sort level left text ≡ Some form → IsNext T sort level left text form
  -- What was read isn't followed by what it bars.
  pub closed : {sort : Sort} {level room : ℕ} {text : List Leaf} {tree : Tree Leaf Production} {behind : List Leaf} → Run T (Whole sort level) room text (Done tree behind) → barred T tree behind ≡ false
  pub orderly : (form : Production) → Orderly T (T.symbols form)
  -- the least trees
  pub sample_fits : (kind : Kind) → T.fits kind (T.sample kind) ≡ true
  pub sample_free : (kind : Kind) (tree : Tree Leaf Production) → T.special kind ≡ false → T.bars tree (T.sample kind) ≡ false
  pub least_spelled : (sort : Sort) (level : ℕ) → IsPart T sort level (T.least sort level)
  pub least_height : (sort : Sort) (level : ℕ) → height T (T.least sort level) ≤ T.need sort level
  pub least_bars : (sort : Sort) (level : ℕ) (leaf : Leaf) → T.bars (T.least sort level) leaf ≡ false
  pub least_free : (sort : Sort) (level : ℕ) (tree : Tree Leaf Production) → barred T tree (leaves (T.least sort level)) ≡ false
  -- trees that begin so
  pub no_text : (sort : Sort) (level : ℕ) → T.choose sort level [] ≡ Never
  pub begun : (sort : Sort) (level : ℕ) (leaf : Leaf) (text : List Leaf) (first : ℕ) → lowest (T.choose sort level (leaf ∷ text)) ≡ Some first → IsDivided (T.choose sort level (leaf ∷ text)) ⊎ (0 < first) → Begun T sort level leaf (T.choose sort level (leaf ∷ text)) first
  pub begun_two : (sort : Sort) (level : ℕ) (leaf : Leaf) (text : List Leaf) (form : Production) (first second : ℕ) → T.choose sort level (leaf ∷ text) ≡ Take form first second → first < second → BegunTwo T sort level leaf text

-- Of a row that was read, each tree is followed by leaves that may stand behind it.
abbrev pub Followed : {Leaf Kind Sort Production : Type 0} → (T : Table Leaf Kind Sort Production) → (Ends : Sort → ℕ → Tree Leaf Production → List Leaf → Type 0) → List (Symbol Kind Sort) → Tree Leaf Production → List Leaf → Type 0
Followed T Ends [] trees behind = Unit {0}
Followed T Ends (Terminal kind ∷ symbols) (Then first others) behind = Followed T Ends symbols others behind
Followed T Ends (Nonterminal sort level ∷ symbols) (Then first others) behind = Ends sort level first (leaves others ++ behind) × Followed T Ends symbols others behind
Followed T Ends (symbol ∷ symbols) (Alone leaf) behind = ⊥
Followed T Ends (symbol ∷ symbols) Nothing behind = ⊥
Followed T Ends (symbol ∷ symbols) (Node form parts) behind = ⊥

-- Each tree is read: `Ends` says which leaves may stand behind a tree where it ends, and `Stands` behind one that may
-- go on.
pub record ReadsTrees {Leaf Kind Sort Production : Type 0} (T : Table Leaf Kind Sort Production) (Ends Stands : Sort → ℕ → Tree Leaf Production → List Leaf → Type 0) : Type 0 where
  -- The row is the one that is chosen.
  pub chooses : (sort : Sort) (level : ℕ) (form : Production) (parts : Tree Leaf Production) (text : List Leaf) → T.sort form ≡ sort → T.is_row form ≡ true → T.left form ≡ None → T.level form ≤ level → Is T (T.symbols form) parts → Stands sort level (Node form parts) text → (first : ℕ) × (second : ℕ) × (T.choose sort level (leaves parts ++ text) ≡ Take form first second)
  pub goes : (sort : Sort) (level : ℕ) (form : Production) (left_level : ℕ) (left parts : Tree Leaf Production) (text : List Leaf) → T.sort form ≡ sort → T.is_row form ≡ true → T.left form ≡ Some left_level → T.level form ≤ level → IsPart T sort left_level left → Is T (T.symbols form) parts → next_row T sort level left (leaves parts ++ text) ≡ Some form
  pub row_followed : (sort : Sort) (level : ℕ) (form : Production) (parts : Tree Leaf Production) (text : List Leaf) → T.sort form ≡ sort → T.is_row form ≡ true → T.left form ≡ None → T.level form ≤ level → Is T (T.symbols form) parts → Stands sort level (Node form parts) text → Followed T Ends (T.symbols form) parts text
  pub next_followed : (sort : Sort) (level : ℕ) (form : Production) (left_level : ℕ) (left parts : Tree Leaf Production) (text : List Leaf) → T.sort form ≡ sort → T.is_row form ≡ true → T.left form ≡ Some left_level → T.level form ≤ level → IsPart T sort left_level left → Is T (T.symbols form) parts → Stands sort level (Node form (Then left parts)) text → Followed T Ends (T.symbols form) parts text × Stands sort level left (leaves parts ++ text)
  -- The tree at the left of a row binds no looser than the row.
  pub left_tighter : (sort : Sort) (level : ℕ) (form : Production) (left_level : ℕ) → T.sort form ≡ sort → T.is_row form ≡ true → T.left form ≡ Some left_level → T.level form ≤ level → left_level ≤ level
  pub ends : (sort : Sort) (level : ℕ) (tree : Tree Leaf Production) (text : List Leaf) → IsPart T sort level tree → Ends sort level tree text → (next_row T sort level tree text ≡ None) × Stands sort level tree text
