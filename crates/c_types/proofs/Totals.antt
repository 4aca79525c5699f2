-- Sums that stand still at the greatest number of 64 bits.
use Rattle.std.proofs.Common.{◌≡◌, ℕ, ◌+◌, ◌≤◌, min, List, [], ◌∷◌, drop, length, refl, sym, ap, ◌∙◌, arith}
use Rattle.std.proofs.lemmas.List.{drop_all}
use Rattle.c_typed.specs.Types.{CType, CTypes, NoTypes, MoreTypes}
use Rattle.c_typed.specs.Layouts.{Table}
use Rattle.c_typed.specs.Typed.{LocalDef, GlobalDef, LiteralDef, SwitchItems}
use Rattle.c_typed.specs.Typed as typed
use Rattle.c_types.specs.Limits.{greatest_sum, added, count_types, types_size, locals_size, globals_size, literals_size, switch_size}

still-none : (m a : ℕ) → a ≤ m → min (a + 0) m ≡ a
still-none m a h = omega arith

still-before : (m a b : ℕ) → min (0 + min (a + b) m) m ≡ min (a + b) m
still-before m a b = omega arith

pub added-none : (a : ℕ) → a ≤ greatest_sum → added a 0 ≡ a
added-none a h = still-none greatest_sum a h

-- ---- each sum stands where nothing is added before it

added-before : (a b : ℕ) → added 0 (added a b) ≡ added a b
added-before a b = still-before greatest_sum a b

pub count_types-before : (ts : CTypes) → added 0 (count_types ts) ≡ count_types ts
count_types-before NoTypes = refl
count_types-before (MoreTypes first others) = added-before (count_types others) 1

pub literals_size-before : (literals : List LiteralDef) → added 0 (literals_size literals) ≡ literals_size literals
literals_size-before [] = refl
literals_size-before (first ∷ others) = added-before _ (literals_size others)

module _ (table : Table) where
  pub types_size-before : (ts : List CType) → added 0 (types_size table ts) ≡ types_size table ts
  types_size-before [] = refl
  types_size-before (first ∷ others) = added-before _ (types_size table others)

  pub locals_size-before : (locals : List LocalDef) → added 0 (locals_size table locals) ≡ locals_size table locals
  locals_size-before [] = refl
  locals_size-before (first ∷ others) = added-before _ (locals_size table others)

  pub globals_size-before : (globals : List GlobalDef) → added 0 (globals_size table globals) ≡ globals_size table globals
  globals_size-before [] = refl
  globals_size-before (first ∷ others) = added-before _ (globals_size table others)

  pub switch_size-before : (items : SwitchItems) → added 0 (switch_size table items) ≡ switch_size table items
  switch_size-before typed.SwitchEnd = refl
  switch_size-before (typed.Case label others) = switch_size-before others
  switch_size-before (typed.Default others) = switch_size-before others
  switch_size-before (typed.SwitchStmt stmt others) = added-before _ (switch_size table others)

-- ---- at a loop's end the sum so far is the whole

pub whole_at-end : {A : Type 0} (f : List A → ℕ) (xs : List A) (index sum : ℕ) → length xs ≤ index → f [] ≡ 0 → sum ≤ greatest_sum → added sum (f (drop index xs)) ≡ f xs → sum ≡ f xs
whole_at-end f xs index sum at_end none fits whole =
    sym (ap (λ rest. added sum (f rest)) (drop_all index xs at_end) ∙ ap (added sum) none ∙ added-none sum fits) ∙ whole
