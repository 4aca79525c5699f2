-- What the search for locals whose address is taken does with their flags. A local in scope is known by its number, and its flag by the
-- place that the scope has for it.
use Rattle.std.specs.Prelude.{◌≡◌, ℕ, zero, suc, ◌<◌, Bool, false, ◌||◌, ◌==◌, List, [], ◌∷◌, ◌++◌, length, take, Option, Some, None}
use Rattle.c_typed.specs.Typed.{Stmt, Block, SwitchItems, LocalDef, ForStart}
use Rattle.tac_build.specs.declared.addressed.Search.{Search}
use Rattle.tac_build.specs.Homes.{takes_optional, takes_start, takes_stmt, takes_block, takes_items}
use Rattle.tac_build.specs.Taken.{taken_start, taken_stmt, taken_block, taken_items, depth_behind}

-- the local that an expression names, if it names one, has this number
abbrev pub is_named : Option ℕ → ℕ → Bool
is_named None number = false
is_named (Some local) number = local == number

-- the flag at a place is set where this says so
unfoldable pub set_flag : List Bool → ℕ → Bool → List Bool
set_flag [] place is_set = []
set_flag (first ∷ others) zero is_set = (first || is_set) ∷ others
set_flag (first ∷ others) (suc place) is_set = first ∷ set_flag others place is_set

-- the same for the flag of each local in scope
unfoldable pub marked : List ℕ → (ℕ → Bool) → List Bool → List Bool
marked [] is_taken flags = flags
marked (place ∷ others) is_taken flags = marked others (λ number. is_taken (suc number)) (set_flag flags place (is_taken zero))

-- the flags of locals in scope are set where a tree takes their address
pub record Marks (old new : Search) (is_taken : ℕ → Bool) : Type 0 where
  pub scope : new.scope.items ≡ old.scope.items
  pub flags : new.flags.items ≡ marked old.scope.items is_taken old.flags.items

-- each local in scope has a flag
unfoldable pub Within : List ℕ → ℕ → Type 0
Within [] count = Unit {0}
Within (place ∷ others) count = (place < count) × Within others count

-- Locals begin to live, until so many are in scope. What is taken later, of them and of those in scope before, decides the flags that
-- are added.
pub record Opens (old new : Search) (depth : ℕ) (is_taken : ℕ → Bool) (added : (ℕ → Bool) → List Bool) : Type 0 where
  pub kept : take (length old.scope.items) new.scope.items ≡ old.scope.items
  pub reached : length new.scope.items ≡ depth
  pub within : Within new.scope.items (length new.flags.items)
  pub flags : (later : ℕ → Bool) → marked new.scope.items later new.flags.items ≡ marked old.scope.items (λ number. is_taken number || later number) old.flags.items ++ added later

-- if each local in scope has a flag
abbrev pub Begins : Search → Search → ℕ → (ℕ → Bool) → ((ℕ → Bool) → List Bool) → Type 0
Begins old new depth is_taken added = Within old.scope.items (length old.flags.items) → Opens old new depth is_taken added

abbrev pub Declares : Search → Search → LocalDef → Type 0
Declares old new local =
    let depth = length old.scope.items in
    Begins old new (suc depth) (λ number. takes_optional number local.first) (λ later. (takes_optional depth local.first || later depth) ∷ [])

abbrev pub Starts : Search → Search → ForStart → Type 0
Starts old new start =
    let depth = length old.scope.items in
    Begins old new (depth_behind depth start) (λ number. takes_start number start) (λ later. taken_start depth later start)

-- the locals that a tree declares have ended
abbrev pub Passes : Search → Search → (ℕ → Bool) → (ℕ → List Bool) → Type 0
Passes old new is_taken taken =
    let depth = length old.scope.items in
    Begins old new depth is_taken (λ later. taken depth)

abbrev pub PassesStmt : Search → Search → Stmt → Type 0
PassesStmt old new stmt = Passes old new (λ number. takes_stmt number stmt) (λ depth. taken_stmt depth stmt)

abbrev pub PassesBlock : Search → Search → Block → Type 0
PassesBlock old new items = Passes old new (λ number. takes_block number items) (λ depth. taken_block depth items)

abbrev pub PassesItems : Search → Search → SwitchItems → Type 0
PassesItems old new items = Passes old new (λ number. takes_items number items) (λ depth. taken_items depth items)
