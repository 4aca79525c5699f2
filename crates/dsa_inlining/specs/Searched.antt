-- The groups whose variables and literals are told of, found from one group by its bases, their bases, and so on.
use Rattle.std.specs.Prelude.{◌≡◌, ℕ, List, ◌++◌, slice_get, Contains, Some}
use Rattle.dsa_inlining.specs.declared.told_statics.GroupStatics.{GroupStatics}

-- bases lead from one group to another, or it is that one
pub data Reaches (all : List GroupStatics) : ℕ → ℕ → Type 0 where
  here : (group : ℕ) → Reaches all group group
  along : (group base last : ℕ) (its : GroupStatics) → slice_get all group ≡ Some its → Contains its.bases.items base → Reaches all base last → Reaches all group last

-- with each group its bases are among these
abbrev pub AreClosed : List GroupStatics → List ℕ → Type 0
AreClosed all told = (group base : ℕ) (its : GroupStatics) → Contains told group → slice_get all group ≡ Some its → Contains its.bases.items base → Contains told base

-- Groups were added behind those that were among them, to each of which bases lead from the group. The group is among them now, and where the
-- bases of each were, they are.
pub record AddsTold (all : List GroupStatics) (group : ℕ) (old new added : List ℕ) : Type 0 where
  pub keys : new ≡ old ++ added
  pub told : Contains new group
  pub reached : (one : ℕ) → Contains added one → Reaches all group one
  pub closed : AreClosed all old → AreClosed all new
