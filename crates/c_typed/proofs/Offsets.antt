-- The bytes in front of members.
use Rattle.std.proofs.Common.{◌≡◌, ℕ, zero, suc, ◌<◌, true, List, [], ◌∷◌, ◌++◌, length, take, slice_get, Option, Some, None, refl, sym, ap, ◌∙◌, arith}
use Rattle.std.proofs.lemmas.Option.{none-some, same_Some}
use Rattle.std.proofs.lemmas.List.{take_at, take-append-le}
use Rattle.c_typed.specs.Layouts.{StructDef, MemberDef, Table, saturated, aligned, no_layout, member_layout, members_layout, layouts, members_by_tag, offset_before}
use Rattle.c_typed.specs.Inside.{is_known_sized, are_sized}
use Rattle.c_typed.proofs.Sizes.{sized_parts, known_stays, front_stays, sized_taken}

get_front : {A : Type 0} (xs ys : List A) (n : ℕ) → n < length xs → slice_get (xs ++ ys) n ≡ slice_get xs n
get_front [] ys n lt = absurd (omega arith)
get_front (x ∷ xs) ys zero lt = refl
get_front (x ∷ xs) ys (suc n) lt = get_front xs ys n (omega arith)

get_last : {A : Type 0} (xs : List A) (x : A) → slice_get (xs ++ x ∷ []) (length xs) ≡ Some x
get_last [] x = refl
get_last (y ∷ xs) x = get_last xs x

-- ---- one more member

module _ (table : Table) (members : List MemberDef) (last : MemberDef) where
  -- those of an old member stay
  pub offset_front : (n : ℕ) → n < length members
      → offset_before table (members ++ last ∷ []) n (slice_get (members ++ last ∷ []) n) ≡ offset_before table members n (slice_get members n)
  offset_front n lt =
      ap (offset_before table (members ++ last ∷ []) n) (get_front members (last ∷ []) n lt)
      ∙ by (slice_get members n)
    where
      by : (o : Option MemberDef) → offset_before table (members ++ last ∷ []) n o ≡ offset_before table members n o
      by None = refl
      by (Some member) =
          ap (λ ms. saturated (aligned (member_layout table member).alignment (members_layout table no_layout ms).size)) (take-append-le n members (last ∷ []) (omega arith))

  -- those of the last
  pub offset_last : (n : ℕ) → n ≡ length members
      → offset_before table (members ++ last ∷ []) n (slice_get (members ++ last ∷ []) n) ≡ saturated (aligned (member_layout table last).alignment (members_layout table no_layout members).size)
  offset_last n e =
      ap (offset_before table (members ++ last ∷ []) n) (ap (slice_get (members ++ last ∷ [])) e ∙ get_last members last)
      ∙ ap (λ ms. saturated (aligned (member_layout table last).alignment (members_layout table no_layout ms).size)) (take_at members (last ∷ []) n (sym e))

-- ---- they stay while structures are completed

module _ (newest : StructDef) (older : List StructDef) (fresh : members_by_tag older newest.tag ≡ None) where
  sized_there : (members : List MemberDef) → are_sized older members ≡ true → (n : ℕ) (member : MemberDef) → slice_get members n ≡ Some member → is_known_sized older member.c_type ≡ true
  sized_there [] h n member at = absurd (none-some member at)
  sized_there (first ∷ members) h zero member at =
      ap (λ (m : MemberDef). is_known_sized older m.c_type) (sym (same_Some first member at))
      ∙ (sized_parts (is_known_sized older first.c_type) (are_sized older members) h).0
  sized_there (first ∷ members) h (suc n) member at = sized_there members (sized_parts (is_known_sized older first.c_type) (are_sized older members) h).1 n member at

  pub offset_before-stays : (n : ℕ) (members : List MemberDef) → are_sized older members ≡ true
      → offset_before (layouts (newest ∷ older)) members n (slice_get members n) ≡ offset_before (layouts older) members n (slice_get members n)
  offset_before-stays n members h = by (slice_get members n) refl
    where
      by : (o : Option MemberDef) → slice_get members n ≡ o → offset_before (layouts (newest ∷ older)) members n o ≡ offset_before (layouts older) members n o
      by None at = refl
      by (Some member) at =
          let own = known_stays newest older fresh member.c_type (sized_there members h n member at) in
          let front = front_stays newest older fresh (take n members) no_layout (sized_taken newest older fresh n members h) in
          λ i. saturated (aligned (own i).alignment (front i).size)
