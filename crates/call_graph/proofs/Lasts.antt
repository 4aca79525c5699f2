-- The last of a list, and the list before it.
use Rattle.std.proofs.Common.{◌≡◌, ℕ, zero, suc, ◌-◌, ◌≤◌, List, [], ◌∷◌, ◌++◌, length, take, Some, None, refl, sym, ap, ◌∙◌, arith, length-append}
use Rattle.std.specs.Prelude.{slice_get}
use Rattle.std.proofs.lemmas.Option.{none-some, same_Some}
use Rattle.call_graph.specs.Searches.{IsLast}
use Rattle.call_graph.proofs.Places.{last_at}
use Rattle.call_graph.proofs.SearchCloses.{some_last}

module _ {X : Type 0} where
  at_end : (list : List X) (n : ℕ) (last : X) → length list ≡ suc n → slice_get list n ≡ Some last → list ≡ take n list ++ last ∷ []
  at_end [] n last e is = absurd (none-some last is)
  at_end (x ∷ []) zero last e is = ap (λ y. y ∷ []) (same_Some x last is)
  at_end (x ∷ y ∷ list) zero last e is = absurd (omega (arith, e))
  at_end (x ∷ list) (suc n) last e is = ap (λ l. x ∷ l) (at_end list n last (omega (arith, e)) is)

  -- the last is taken away
  pub pop_last : (whole rest : List X) (n : ℕ) (last : X) → n ≡ length whole → rest ≡ take (n - 1) whole → slice_get whole (length whole - 1) ≡ Some last → whole ≡ rest ++ last ∷ []
  pop_last [] rest n last e r is = absurd (none-some last is)
  pop_last (x ∷ whole) rest n last e r is =
      let k : n - 1 ≡ length whole = omega (arith, e) in
      let k' : length (x ∷ whole) - 1 ≡ length whole = omega arith in
      at_end (x ∷ whole) (length whole) last refl (ap (slice_get (x ∷ whole)) (sym k') ∙ is) ∙ ap (λ l. l ++ last ∷ []) (sym (r ∙ ap (λ m. take m (x ∷ whole)) k))

  pub last_of : (list : List X) (last : X) → slice_get list (length list - 1) ≡ Some last → IsLast last list
  last_of list last is = (take (length list - 1) list, pop_last list (take (length list - 1) list) (length list) last refl refl is)

  its_place : (list : List X) (a : X) → IsLast a list → slice_get list (length list - 1) ≡ Some a
  its_place list a (before, e) =
      let n : length list - 1 ≡ length before = omega (arith, ap length e ∙ length-append before (a ∷ [])) in
      ap (slice_get list) n ∙ (ap (λ l. slice_get l (length before)) e ∙ last_at before a)

  pub last_same : (list : List X) (a b : X) → IsLast a list → slice_get list (length list - 1) ≡ Some b → a ≡ b
  last_same list a b last is = same_Some a b (sym (its_place list a last) ∙ is)

  pub last_none : (list : List X) (a : X) → IsLast a list → slice_get list (length list - 1) ≡ None → ⊥
  last_none list a last is = none-some a (sym is ∙ its_place list a last)

  pub none_there : (list : List X) (at : ℕ) (one : X) → slice_get list (length list - 1) ≡ None → slice_get list at ≡ Some one → ⊥
  none_there list at one none is = let own = some_last list at one is in last_none list own.0 own.1 none

  pub none_empty : (list : List X) → slice_get list (length list - 1) ≡ None → list ≡ []
  none_empty [] none = refl
  none_empty (x ∷ list) none = absurd (none_there (x ∷ list) 0 x none refl)

  front : (before after : List X) → take (length before) (before ++ after) ≡ before
  front [] after = refl
  front (x ∷ before) after = ap (λ l. x ∷ l) (front before after)

  pub rest_before : (whole rest : List X) (n : ℕ) (one : X) (last : IsLast one whole) → n ≡ length whole → rest ≡ take (n - 1) whole → rest ≡ last.0
  rest_before whole rest n one (before, e) same r =
      let k : n - 1 ≡ length before = omega (arith, same, ap length e ∙ length-append before (one ∷ [])) in
      r ∙ (ap (λ m. take m whole) k ∙ (ap (take (length before)) e ∙ front before (one ∷ [])))

  pub length_take : (n : ℕ) (list : List X) → n ≤ length list → length (take n list) ≡ n
  length_take zero list le = refl
  length_take (suc n) [] le = absurd (omega (arith, le))
  length_take (suc n) (x ∷ list) le = let rest = length_take n list (omega (arith, le)) in omega (arith, rest)

  pub take_long : (n : ℕ) (list : List X) → length list ≤ n → take n list ≡ list
  take_long zero [] le = refl
  take_long zero (x ∷ list) le = absurd (omega (arith, le))
  take_long (suc n) [] le = refl
  take_long (suc n) (x ∷ list) le = ap (λ l. x ∷ l) (take_long n list (omega (arith, le)))

  pub front_of_front : (k : ℕ) (list old : List X) → list ≡ take (length list) old → take k list ≡ take (length (take k list)) old
  front_of_front zero list old e = refl
  front_of_front (suc k) [] old e = refl
  front_of_front (suc k) (x ∷ list) [] e = absurd (cc)
  front_of_front (suc k) (x ∷ list) (y ∷ old) e =
      let head : x ≡ y = cc in
      let tail : list ≡ take (length list) old = cc in
      λ i. head i ∷ front_of_front k list old tail i
