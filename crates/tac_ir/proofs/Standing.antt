-- Where a function stands among groups.
use Rattle.std.proofs.Common.{◌≡◌, ℕ, ◌⊎◌, inl, inr, List, [], ◌∷◌, ◌++◌, refl, ap}
use Rattle.tac_ir.specs.Groups.{IsIn, IsAmong}

-- a group that has it
pub record Standing (number : ℕ) (groups : List (List ℕ)) : Type 0 where
  pub before : List (List ℕ)
  pub group : List ℕ
  pub after : List (List ℕ)
  pub is : groups ≡ before ++ group ∷ after
  pub inside : IsIn number group

pub stands : (number : ℕ) (groups : List (List ℕ)) → IsAmong number groups → Standing number groups
stands number [] among = absurd among
stands number (first ∷ groups) among = by (stands number groups) among
  where
    by : (IsAmong number groups → Standing number groups) → IsIn number first ⊎ IsAmong number groups → Standing number (first ∷ groups)
    by more (inl inside) = record { before = []; group = first; after = groups; is = refl; inside = inside }
    by more (inr later) =
        let rest = more later in
        record { before = first ∷ rest.before; group = rest.group; after = rest.after; is = ap (λ others. first ∷ others) rest.is; inside = rest.inside }

pub among_parts : (number : ℕ) (groups others : List (List ℕ)) → IsAmong number (groups ++ others) → IsAmong number groups ⊎ IsAmong number others
among_parts number [] others among = inr among
among_parts number (first ∷ groups) others among = by (among_parts number groups others) among
  where
    behind : IsAmong number groups ⊎ IsAmong number others → IsAmong number (first ∷ groups) ⊎ IsAmong number others
    behind (inl here) = inl (inr here)
    behind (inr later) = inr later

    by : (IsAmong number (groups ++ others) → IsAmong number groups ⊎ IsAmong number others) → IsIn number first ⊎ IsAmong number (groups ++ others) → IsAmong number (first ∷ groups) ⊎ IsAmong number others
    by more (inl inside) = inl (inl inside)
    by more (inr later) = behind (more later)

pub among_front : (number : ℕ) (groups others : List (List ℕ)) → IsAmong number groups → IsAmong number (groups ++ others)
among_front number [] others among = absurd among
among_front number (first ∷ groups) others among = by (among_front number groups others) among
  where
    by : (IsAmong number groups → IsAmong number (groups ++ others)) → IsIn number first ⊎ IsAmong number groups → IsAmong number (first ∷ groups ++ others)
    by more (inl inside) = inl inside
    by more (inr later) = inr (more later)
