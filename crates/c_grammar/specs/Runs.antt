-- Reading by a table, as a relation: what a reader that goes from left to right comes to, with no word of how it is
-- programmed. It looks at two leaves to choose a row, and at one to go on behind a tree.
use Rattle.std.specs.Prelude.{◌≡◌, ℕ, ◌+◌, ◌<◌, ◌≤◌, max, Bool, false, true, List, [], ◌∷◌, Option, Some, None}
use Rattle.c_grammar.specs.Table.{Symbol, Terminal, Nonterminal, Tree, Alone, Nothing, Then, Node, Never, Take, Stuck, Table, height}

-- what is to be read: the trees of symbols; a tree of a sort and level; or what goes on behind a tree
pub data Job (Leaf Kind Sort Production : Type 0) : Type 0 where
  Parts : (symbols : List (Symbol Kind Sort)) → Job Leaf Kind Sort Production
  Whole : (sort : Sort) (level : ℕ) → Job Leaf Kind Sort Production
  More : (sort : Sort) (level : ℕ) (left : Tree Leaf Production) → Job Leaf Kind Sort Production

-- why nothing was read: a leaf that doesn't fit, one that is too deep, or want of memory
pub data Fault : Type 0 where
  Bad : Fault
  Deep : Fault
  Memory : Fault

-- a tree, and the leaves behind it; or a fault, and the leaves from the one on at which it stands
pub data Outcome (Leaf Production : Type 0) : Type 0 where
  Done : (tree : Tree Leaf Production) (behind : List Leaf) → Outcome Leaf Production
  Failed : (fault : Fault) (behind : List Leaf) → Outcome Leaf Production

abbrev pub fits_first : {Leaf Kind Sort Production : Type 0} → (T : Table Leaf Kind Sort Production) → (kind : Kind) → List Leaf → Bool
fits_first T kind [] = false
fits_first T kind (leaf ∷ text) = T.fits kind leaf

abbrev pub level_of : {Leaf Kind Sort Production : Type 0} → (T : Table Leaf Kind Sort Production) → Tree Leaf Production → ℕ
level_of T (Alone leaf) = 0
level_of T Nothing = 0
level_of T (Then first others) = 0
level_of T (Node form parts) = T.level form

-- the row that goes on behind a tree with the first of these leaves
abbrev pub next_row : {Leaf Kind Sort Production : Type 0} → (T : Table Leaf Kind Sort Production) → (sort : Sort) → (level : ℕ) → (left : Tree Leaf Production) → List Leaf → Option Production
next_row T sort level left [] = None
next_row T sort level left (leaf ∷ text) = T.goes_on sort level (level_of T left) leaf

-- A job, done where so many nodes may nest, on these leaves, has this outcome.
pub data Run {Leaf Kind Sort Production : Type 0} (T : Table Leaf Kind Sort Production) : Job Leaf Kind Sort Production → ℕ → List Leaf → Outcome Leaf Production → Type 0 where
  no_memory : {job : Job Leaf Kind Sort Production} {room : ℕ} {text : List Leaf} (behind : List Leaf) → Run T job room text (Failed Memory behind)
  -- symbols
  at_end : {room : ℕ} {text : List Leaf} → Run T (Parts []) room text (Done Nothing text)
  unfit : {kind : Kind} {symbols : List (Symbol Kind Sort)} {room : ℕ} {text : List Leaf} → fits_first T kind text ≡ false → Run T (Parts (Terminal kind ∷ symbols)) room text (Failed Bad text)
  token_done : {kind : Kind} {symbols : List (Symbol Kind Sort)} {room : ℕ} {leaf : Leaf} {text behind : List Leaf} {others : Tree Leaf Production} → T.fits kind leaf ≡ true → Run T (Parts symbols) room text (Done others behind) → Run T (Parts (Terminal kind ∷ symbols)) room (leaf ∷ text) (Done (Then (Alone leaf) others) behind)
  token_failed : {kind : Kind} {symbols : List (Symbol Kind Sort)} {room : ℕ} {leaf : Leaf} {text behind : List Leaf} {fault : Fault} → T.fits kind leaf ≡ true → Run T (Parts symbols) room text (Failed fault behind) → Run T (Parts (Terminal kind ∷ symbols)) room (leaf ∷ text) (Failed fault behind)
  part_done : {sort : Sort} {level : ℕ} {symbols : List (Symbol Kind Sort)} {room : ℕ} {text middle behind : List Leaf} {tree others : Tree Leaf Production} → Run T (Whole sort level) room text (Done tree middle) → Run T (Parts symbols) room middle (Done others behind) → Run T (Parts (Nonterminal sort level ∷ symbols)) room text (Done (Then tree others) behind)
  part_failed : {sort : Sort} {level : ℕ} {symbols : List (Symbol Kind Sort)} {room : ℕ} {text behind : List Leaf} {fault : Fault} → Run T (Whole sort level) room text (Failed fault behind) → Run T (Parts (Nonterminal sort level ∷ symbols)) room text (Failed fault behind)
  then_failed : {sort : Sort} {level : ℕ} {symbols : List (Symbol Kind Sort)} {room : ℕ} {text middle behind : List Leaf} {tree : Tree Leaf Production} {fault : Fault} → Run T (Whole sort level) room text (Done tree middle) → Run T (Parts symbols) room middle (Failed fault behind) → Run T (Parts (Nonterminal sort level ∷ symbols)) room text (Failed fault behind)
  -- a tree of a sort
  never : {sort : Sort} {level room : ℕ} {text : List Leaf} → T.choose sort level text ≡ Never → Run T (Whole sort level) room text (Failed Bad text)
  stuck : {sort : Sort} {level room first : ℕ} {leaf : Leaf} {text : List Leaf} → T.choose sort level (leaf ∷ text) ≡ Stuck first → first ≤ room → Run T (Whole sort level) room (leaf ∷ text) (Failed Bad text)
  stuck_deep : {sort : Sort} {level room first : ℕ} {text : List Leaf} → T.choose sort level text ≡ Stuck first → room < first → Run T (Whole sort level) room text (Failed Deep text)
  first_deep : {sort : Sort} {level room first second : ℕ} {form : Production} {text : List Leaf} → T.choose sort level text ≡ Take form first second → room < first → Run T (Whole sort level) room text (Failed Deep text)
  second_deep : {sort : Sort} {level room first second : ℕ} {form : Production} {leaf : Leaf} {text : List Leaf} → T.choose sort level (leaf ∷ text) ≡ Take form first second → first ≤ room → room < second → Run T (Whole sort level) room (leaf ∷ text) (Failed Deep text)
  row_failed : {sort : Sort} {level room below first second : ℕ} {form : Production} {text behind : List Leaf} {fault : Fault} → T.choose sort level text ≡ Take form first second → first ≤ room → second ≤ room → below + T.weight form ≡ room → Run T (Parts (T.symbols form)) below text (Failed fault behind) → Run T (Whole sort level) room text (Failed fault behind)
  row_done : {sort : Sort} {level room below first second : ℕ} {form : Production} {text middle : List Leaf} {parts : Tree Leaf Production} {outcome : Outcome Leaf Production} → T.choose sort level text ≡ Take form first second → first ≤ room → second ≤ room → below + T.weight form ≡ room → Run T (Parts (T.symbols form)) below text (Done parts middle) → Run T (More sort level (Node form parts)) room middle outcome → Run T (Whole sort level) room text outcome
  -- behind a tree
  no_more : {sort : Sort} {level room : ℕ} {left : Tree Leaf Production} {text : List Leaf} → next_row T sort level left text ≡ None → Run T (More sort level left) room text (Done left text)
  more_deep : {sort : Sort} {level room : ℕ} {left : Tree Leaf Production} {form : Production} {text : List Leaf} → next_row T sort level left text ≡ Some form → room < max (T.left_need form) (height T left + T.weight form) → Run T (More sort level left) room text (Failed Deep text)
  more_failed : {sort : Sort} {level room below : ℕ} {left : Tree Leaf Production} {form : Production} {text behind : List Leaf} {fault : Fault} → next_row T sort level left text ≡ Some form → T.left_need form ≤ room → height T left ≤ below → below + T.weight form ≡ room → Run T (Parts (T.symbols form)) below text (Failed fault behind) → Run T (More sort level left) room text (Failed fault behind)
  more_done : {sort : Sort} {level room below : ℕ} {left : Tree Leaf Production} {form : Production} {text middle : List Leaf} {parts : Tree Leaf Production} {outcome : Outcome Leaf Production} → next_row T sort level left text ≡ Some form → T.left_need form ≤ room → height T left ≤ below → below + T.weight form ≡ room → Run T (Parts (T.symbols form)) below text (Done parts middle) → Run T (More sort level (Node form (Then left parts))) room middle outcome → Run T (More sort level left) room text outcome
