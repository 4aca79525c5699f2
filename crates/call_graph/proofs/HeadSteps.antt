-- The first nodes of numbers are found one after another.
use Rattle.std.proofs.Common.{◌≡◌, ℕ, ◌==◌, Bool, true, false, cond, List, [], ◌∷◌, ◌++◌, length, Option, Some, None, inl, inr, refl, sym, ap, subst, ◌∙◌, arith, length-append, eqb-true, eq-eqb}
use Rattle.std.specs.Prelude.{slice_get}
use Rattle.std.specs.Map.{lookup}
use Rattle.std.proofs.lemmas.Bool.{false≢true}
use Rattle.std.proofs.lemmas.Option.{none-some, slice_get_within}
use Rattle.indexmap.specs.IndexMap.{IndexMap}
use Rattle.call_graph.proofs.RowPlaces.{at_more, keep_more, last_more}
use Rattle.call_graph.specs.Heads.{IsFirst, AreHeads, IsFound, first_in, HeadsSoFar}

module _ (done : List ℕ) (number key : ℕ) where
  kept_first : (first : ℕ) → IsFirst done key first → IsFirst (done ++ number ∷ []) key first
  kept_first first starts =
      let lt = slice_get_within done first key starts.is in
      record {
        is = keep_more done number first key starts.is;
        before = λ x below is. elim (at_more done number x key is) [ inl old ↦ starts.before x below old | inr new ↦ omega (arith, lt, below, new.0) ];
      }

  kept_none : (number ≡ key → ⊥) → IsFound done key None → IsFound (done ++ number ∷ []) key None
  kept_none differs none x is = elim (at_more done number x key is) [ inl old ↦ none x old | inr new ↦ differs new.1 ]

  kept : (found : Option ℕ) → (number ≡ key → ⊥) → IsFound done key found → IsFound (done ++ number ∷ []) key found
  kept (Some first) differs is = kept_first first is
  kept None differs is = kept_none differs is

now_first : (done : List ℕ) (number : ℕ) → IsFound done number None → IsFirst (done ++ number ∷ []) number (length done)
now_first done number none = record {
  is = last_more done number;
  before = λ x below is. elim (at_more done number x number is) [ inl old ↦ none x old | inr new ↦ omega (arith, below, new.0) ];
}

pub no_heads : {S : Type 0} (firsts : IndexMap ℕ ℕ S) (heads : List ℕ) → firsts.entries ≡ [] → heads ≡ [] → HeadsSoFar [] firsts heads
no_heads firsts heads empty none = record {
  found = λ key. subst (IsFound [] key) (sym (ap (lookup (λ (other : ℕ). key == other)) empty)) (λ x is. none-some key is);
  of = record { each = ap length none; head = λ node number is. absurd (none-some number is) };
}

module _ (done : List ℕ) (number : ℕ) (heads heads' : List ℕ) (head : ℕ) (known : AreHeads done heads) (adds : heads' ≡ heads ++ head ∷ []) (first : IsFirst (done ++ number ∷ []) number head) where
  heads_more : AreHeads (done ++ number ∷ []) heads'
  heads_more = record {
    each = ap length adds ∙ (length-append heads (head ∷ []) ∙ (omega (arith, known.each) ∙ sym (length-append done (number ∷ []))));
    head = λ node n is. elim (at_more done number node n is) [
      | inl old ↦ (let was = known.head node n old in (was.0, ap (λ l. slice_get l node) adds ∙ keep_more heads head node was.0 was.1, kept_first done number n was.0 was.2))
      | inr new ↦ (head, ap (λ l. slice_get l node) adds ∙ (ap (slice_get (heads ++ head ∷ [])) (new.0 ∙ sym known.each) ∙ last_more heads head), subst (λ (k : ℕ). IsFirst (done ++ number ∷ []) k head) new.1 first)
    ];
  }

module _ {S : Type 0} (done more : List ℕ) (number : ℕ) (firsts firsts' : IndexMap ℕ ℕ S) (heads heads' : List ℕ) (known : HeadsSoFar done firsts heads) (e : more ≡ done ++ number ∷ []) where
  found_already : (first : ℕ) → first_in firsts number ≡ Some first → (key : ℕ) → IsFound (done ++ number ∷ []) key (first_in firsts key)
  found_already first is key = by (number == key) refl
    where
      by : (b : Bool) → (number == key) ≡ b → IsFound (done ++ number ∷ []) key (first_in firsts key)
      by true same =
          let equal = eqb-true number key same in
          let some : first_in firsts key ≡ Some first = ap (first_in firsts) (sym equal) ∙ is in
          subst (IsFound (done ++ number ∷ []) key) (sym some) (kept_first done number key first (subst (IsFound done key) some (known.found key)))
      by false differs = kept done number key (first_in firsts key) (λ same. false≢true (sym differs ∙ eq-eqb number key same)) (known.found key)

  pub head_some : (first : ℕ) → first_in firsts number ≡ Some first → heads' ≡ heads ++ first ∷ [] → HeadsSoFar more firsts heads'
  head_some first is adds = subst (λ (l : List ℕ). HeadsSoFar l firsts heads') (sym e) (record {
    found = found_already first is;
    of = heads_more done number heads heads' first known.of adds (kept_first done number number first (subst (IsFound done number) is (known.found number)));
  })

  found_now : first_in firsts number ≡ None → ((key : ℕ) → first_in firsts' key ≡ cond (number == key) (Some (length done)) (first_in firsts key)) → (key : ℕ) → IsFound (done ++ number ∷ []) key (first_in firsts' key)
  found_now none inserted key = subst (IsFound (done ++ number ∷ []) key) (sym (inserted key)) (by (number == key) refl)
    where
      by : (b : Bool) → (number == key) ≡ b → IsFound (done ++ number ∷ []) key (cond b (Some (length done)) (first_in firsts key))
      by true same = subst (λ (k : ℕ). IsFirst (done ++ number ∷ []) k (length done)) (eqb-true number key same) (now_first done number (subst (IsFound done number) none (known.found number)))
      by false differs = kept done number key (first_in firsts key) (λ same. false≢true (sym differs ∙ eq-eqb number key same)) (known.found key)

  pub head_none : first_in firsts number ≡ None → (at : ℕ) → at ≡ length done → ((key : ℕ) → first_in firsts' key ≡ cond (number == key) (Some at) (first_in firsts key)) → heads' ≡ heads ++ at ∷ []
      → HeadsSoFar more firsts' heads'
  head_none none at here inserted adds = subst (λ (l : List ℕ). HeadsSoFar l firsts' heads') (sym e) (record {
    found = found_now none (λ key. inserted key ∙ ap (λ n. cond (number == key) (Some n) (first_in firsts key)) here);
    of = heads_more done number heads heads' (length done) known.of (adds ∙ ap (λ n. heads ++ n ∷ []) here) (now_first done number (subst (IsFound done number) none (known.found number)));
  })
