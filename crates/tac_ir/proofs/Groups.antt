-- The groups of a program are one list: what stands behind one front in two such lists begins with one group.
use Rattle.std.proofs.Common.{◌≡◌, ℕ, ◌≤◌, ◌⊎◌, inl, inr, List, [], ◌∷◌, ◌++◌, refl, sym, ap, subst, ◌∙◌, append_assoc, arith}
use Rattle.tac_ir.specs.Code.{Tac}
use Rattle.tac_ir.specs.Groups.{IsIn, IsAmong, BeginsFirst, AreGroups}
use Rattle.tac_ir.proofs.Ascending.{IsPart, ascending_same}
use Rattle.tac_ir.proofs.Standing.{Standing, stands, among_parts, among_front}

module _ (tac : Tac) where
  -- two groups with a function in common are one
  part : (a b before after before_other after_other : List (List ℕ)) (group other : List ℕ) (shared : ℕ) → AreGroups tac a → AreGroups tac b → a ≡ before ++ group ∷ after
      → b ≡ before_other ++ other ∷ after_other → IsIn shared group → IsIn shared other → IsPart group other
  part a b before after before_other after_other group other shared one two is are here there number inside =
      two.together before_other after_other other shared number are there (one.apart before after group shared number is here inside)

  meet : (a b before after before_other after_other : List (List ℕ)) (group other : List ℕ) (shared : ℕ) → AreGroups tac a → AreGroups tac b → a ≡ before ++ group ∷ after
      → b ≡ before_other ++ other ∷ after_other → IsIn shared group → IsIn shared other → group ≡ other
  meet a b before after before_other after_other group other shared one two is are here there =
      ascending_same group other (one.ascending before after group is) (two.ascending before_other after_other other are)
      (part a b before after before_other after_other group other shared one two is are here there)
      (part b a before_other after_other before after other group shared two one are is there here)

  -- a function of the group behind the front of one stands behind it in the other, too
  behind : (a b front after rest : List (List ℕ)) (group : List ℕ) (number : ℕ) → AreGroups tac a → AreGroups tac b → a ≡ front ++ group ∷ after → b ≡ front ++ rest → IsIn number group
      → IsAmong number rest
  behind a b front after rest group number one two is are inside =
      by (among_parts number front rest (subst (IsAmong number) are (two.all number (one.only number (subst (IsAmong number) (sym is) (stand front))))))
    where
      stand : (before : List (List ℕ)) → IsAmong number (before ++ group ∷ after)
      stand [] = inl inside
      stand (first ∷ others) = inr (stand others)

      by : IsAmong number front ⊎ IsAmong number rest → IsAmong number rest
      by (inl early) = absurd (one.once front after group number is inside (among_front number front after early))
      by (inr late) = late

  -- the next group of one is the other's, or stands later there, so that the other's begins no later
  next : (a b front after rest : List (List ℕ)) (group other : List ℕ) (first : ℕ) → AreGroups tac a → AreGroups tac b → a ≡ front ++ group ∷ after → b ≡ front ++ other ∷ rest → IsIn first group
      → (group ≡ other) ⊎ BeginsFirst other group
  next a b front after rest group other first one two is are inside = by (behind a b front after (other ∷ rest) group first one two is are inside)
    where
      later : Standing first rest → BeginsFirst other group
      later found =
          let place : b ≡ (front ++ other ∷ found.before) ++ found.group ∷ found.after = are ∙ ap (λ groups. front ++ other ∷ groups) found.is ∙ sym (append_assoc front (other ∷ found.before) (found.group ∷ found.after)) in
          let same = meet a b front after (front ++ other ∷ found.before) found.after group found.group first one two is place inside found.inside in
          two.next front rest other group found.before found.after are (subst (λ g. rest ≡ found.before ++ g ∷ found.after) (sym same) found.is) (one.ready front after group is)

      by : IsIn first other ⊎ IsAmong first rest → (group ≡ other) ⊎ BeginsFirst other group
      by (inl there) = inl (meet a b front after front rest group other first one two is are inside there)
      by (inr late) = inr (later (stands first rest late))

  next_same : (a b front after rest : List (List ℕ)) (group other : List ℕ) → AreGroups tac a → AreGroups tac b → a ≡ front ++ group ∷ after → b ≡ front ++ other ∷ rest → group ≡ other
  next_same a b front after rest [] other one two is are = absurd (one.ascending front after [] is)
  next_same a b front after rest (first ∷ firsts) [] one two is are = absurd (two.ascending front rest [] are)
  next_same a b front after rest (first ∷ firsts) (second ∷ seconds) one two is are =
      by (next a b front after rest (first ∷ firsts) (second ∷ seconds) first one two is are (inl refl)) (next b a front rest after (second ∷ seconds) (first ∷ firsts) second two one are is (inl refl))
    where
      by : ((first ∷ firsts) ≡ (second ∷ seconds)) ⊎ (second ≤ first) → ((second ∷ seconds) ≡ (first ∷ firsts)) ⊎ (first ≤ second) → (first ∷ firsts) ≡ (second ∷ seconds)
      by (inl same) other = same
      by (inr less) (inl same) = sym same
      by (inr less) (inr more) =
          let same : first ≡ second = omega (arith, less, more) in
          meet a b front after front rest (first ∷ firsts) (second ∷ seconds) first one two is are (inl refl) (inl same)

  -- nothing stands behind the whole of the other
  none_more : (a b front after : List (List ℕ)) (group : List ℕ) → AreGroups tac a → AreGroups tac b → a ≡ front ++ group ∷ after → b ≡ front ++ [] → ⊥
  none_more a b front after [] one two is are = one.ascending front after [] is
  none_more a b front after (first ∷ firsts) one two is are = behind a b front after [] (first ∷ firsts) first one two is are (inl refl)

  same_behind : (a b front rest others : List (List ℕ)) → AreGroups tac a → AreGroups tac b → a ≡ front ++ rest → b ≡ front ++ others → rest ≡ others
  same_behind a b front [] [] one two is are = refl
  same_behind a b front [] (other ∷ others) one two is are = absurd (none_more b a front others other two one are is)
  same_behind a b front (group ∷ rest) [] one two is are = absurd (none_more a b front rest group one two is are)
  same_behind a b front (group ∷ rest) (other ∷ others) one two is are =
      let same = next_same a b front rest others group other one two is are in
      let place : b ≡ front ++ group ∷ others = subst (λ g. b ≡ front ++ g ∷ others) (sym same) are in
      let more = same_behind a b (front ++ group ∷ []) rest others one two (is ∙ sym (append_assoc front (group ∷ []) rest)) (place ∙ sym (append_assoc front (group ∷ []) others)) in
      λ i. same i ∷ more i

-- a program has one list of groups
pub groups_are_one : (tac : Tac) (a b : List (List ℕ)) → AreGroups tac a → AreGroups tac b → a ≡ b
groups_are_one tac a b one two = same_behind tac a b [] a b one two refl refl
