-- An ascending list is told by its members.
use Rattle.std.proofs.Common.{◌≡◌, ℕ, suc, ◌≤◌, ◌⊎◌, inl, inr, List, [], ◌∷◌, refl, sym, subst, arith}
use Rattle.tac_ir.specs.Groups.{IsIn, IsAscending}

-- from a number on
abbrev IsAbove : ℕ → List ℕ → Type 0
IsAbove low [] = Unit {0}
IsAbove low (first ∷ others) = (low ≤ first) × IsAbove (suc first) others

ascends : (low first : ℕ) (others : List ℕ) → low ≤ first → IsAscending (first ∷ others) → IsAbove low (first ∷ others)
ascends low first [] from ascending = (from, tt)
ascends low first (next ∷ others) from ascending = let less = ascending.0 in (from, ascends (suc first) next others (omega (arith, less)) ascending.1)

above : (list : List ℕ) → IsAscending list → IsAbove 0 list
above [] ascending = absurd ascending
above (first ∷ others) ascending = ascends 0 first others (omega arith) ascending

member_above : (low number : ℕ) (list : List ℕ) → IsAbove low list → IsIn number list → low ≤ number
member_above low number [] is inside = absurd inside
member_above low number (first ∷ others) is inside = by (member_above (suc first) number others is.1) inside
  where
    by : (IsIn number others → suc first ≤ number) → (number ≡ first) ⊎ IsIn number others → low ≤ number
    by more (inl same) = let from = is.0 in omega (arith, same, from)
    by more (inr later) =
        let from = is.0 in
        let past = more later in
        omega (arith, from, past)

-- members of one list are in the other
abbrev pub IsPart : List ℕ → List ℕ → Type 0
IsPart list other = (number : ℕ) → IsIn number list → IsIn number other

-- a first member is the first of what it is in
first_least : (low first other : ℕ) (others : List ℕ) → IsAbove low (other ∷ others) → IsIn first (other ∷ others) → other ≤ first
first_least low first other others is inside = by inside
  where
    by : (first ≡ other) ⊎ IsIn first others → other ≤ first
    by (inl same) = omega (arith, same)
    by (inr later) = let more = member_above (suc other) first others is.1 later in omega (arith, more)

-- behind the first
rest_part : (low first : ℕ) (list others : List ℕ) → IsAbove (suc first) list → IsPart (first ∷ list) (first ∷ others) → IsPart list others
rest_part low first list others is part number inside = by (part number (inr inside))
  where
    by : (number ≡ first) ⊎ IsIn number others → IsIn number others
    by (inl same) = let more = member_above (suc first) number list is inside in absurd (omega (arith, more, same))
    by (inr later) = later

same_members : (low : ℕ) (list other : List ℕ) → IsAbove low list → IsAbove low other → IsPart list other → IsPart other list → list ≡ other
same_members low [] [] is are one two = refl
same_members low [] (second ∷ seconds) is are one two = absurd (two second (inl refl))
same_members low (first ∷ firsts) [] is are one two = absurd (one first (inl refl))
same_members low (first ∷ firsts) (second ∷ seconds) is are one two =
    let less = first_least low first second seconds are (one first (inl refl)) in
    let more = first_least low second first firsts is (two second (inl refl)) in
    let same : second ≡ first = omega (arith, less, more) in
    let are_there = subst (λ s. IsAbove low (s ∷ seconds)) same are in
    let one_there = subst (λ s. IsPart (first ∷ firsts) (s ∷ seconds)) same one in
    let two_there = subst (λ s. IsPart (s ∷ seconds) (first ∷ firsts)) same two in
    let rest = same_members (suc first) firsts seconds is.1 are_there.1 (rest_part low first firsts seconds is.1 one_there) (rest_part low first seconds firsts are_there.1 two_there) in
    λ i. sym same i ∷ rest i

pub ascending_same : (list other : List ℕ) → IsAscending list → IsAscending other → IsPart list other → IsPart other list → list ≡ other
ascending_same list other is are one two = same_members 0 list other (above list is) (above other are) one two
