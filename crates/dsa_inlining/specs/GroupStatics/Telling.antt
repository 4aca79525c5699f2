-- The groups that are told of, while they are searched for.
use Rattle.std.specs.Prelude.{◌≡◌, ◌⊎◌, ℕ, List, [], ◌++◌, slice_get, Contains, Option, Some, None}
use Rattle.dsa_inlining.specs.declared.told_statics.GroupStatics.{GroupStatics}
use Rattle.dsa_inlining.specs.Searched.{Reaches, AreClosed}

-- the bases of a group, where it has any
abbrev pub bases_of : List GroupStatics → ℕ → List ℕ
bases_of all group = by (slice_get all group)
  where
    by : Option GroupStatics → List ℕ
    by None = []
    by (Some its) = its.bases.items

-- bases of a group that is told of are told of or wait
abbrev pub AreTelling : List GroupStatics → List ℕ → List ℕ → Type 0
AreTelling all told pending = (group base : ℕ) (its : GroupStatics) → Contains told group → slice_get all group ≡ Some its → Contains its.bases.items base
    → Contains told base ⊎ Contains pending base

-- a search from a group on its way: what was added, and what waits
pub record IsTelling (all : List GroupStatics) (group : ℕ) (old told added pending : List ℕ) : Type 0 where
  pub keys : told ≡ old ++ added
  pub start : Contains told group ⊎ Contains pending group
  pub reached : (one : ℕ) → Contains added one → Reaches all group one
  pub waiting : (one : ℕ) → Contains pending one → Reaches all group one
  pub closed : AreClosed all old → AreTelling all told pending

-- bases lead to the group from one of these
pub record IsFromBase (all : List GroupStatics) (bases : List ℕ) (group : ℕ) : Type 0 where
  pub base : ℕ
  pub among : Contains bases base
  pub reached : Reaches all base group

-- they lead to each of the groups from one of these
abbrev pub AreFromBases : List GroupStatics → List ℕ → List ℕ → Type 0
AreFromBases all bases groups = (group : ℕ) → Contains groups group → IsFromBase all bases group
