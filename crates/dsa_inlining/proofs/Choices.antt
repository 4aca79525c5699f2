-- Groups that are chosen among others.
use Rattle.std.proofs.Common.{◌≡◌, ◌⊎◌, inl, inr, ℕ, List, [], ◌∷◌, ◌++◌, Contains, subst}
use Rattle.std.proofs.lemmas.List.Elements.{Contains-push_cases}
use Rattle.dsa_inlining.specs.Choices.{AreAmong}
use Rattle.dsa_inlining.proofs.SeenNodes.{none_contained}

pub none_chosen : (groups chosen : List ℕ) → chosen ≡ [] → AreAmong chosen groups
none_chosen groups chosen none group among = absurd (none_contained group (subst (λ l. Contains l group) none among))

-- one more of them is chosen
pub one_more : (groups old new : List ℕ) (more : ℕ) → new ≡ old ++ more ∷ [] → Contains groups more → AreAmong old groups → AreAmong new groups
one_more groups old new more is there are group among = by (Contains-push_cases old more group (subst (λ l. Contains l group) is among))
  where
    by : Contains old group ⊎ (more ≡ group) → Contains groups group
    by (inl before) = are group before
    by (inr same) = subst (Contains groups) same there
