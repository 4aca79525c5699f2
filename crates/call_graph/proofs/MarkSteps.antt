-- Numbers are marked one after another.
use Rattle.std.proofs.Common.{◌≡◌, ℕ, zero, suc, ◌<◌, ◌≤◌, ◌==◌, ◌||◌, Bool, true, false, List, [], ◌∷◌, ◌++◌, length, set, Some, refl, sym, ap, ◌∙◌, arith, length-set, eqb-true, eq-eqb}
use Rattle.std.specs.Prelude.{slice_get}
use Rattle.std.proofs.Math.ListN.{replicate}
use Rattle.std.proofs.lemmas.List.{length-replicate}
use Rattle.std.proofs.lemmas.Bool.{false≢true}
use Rattle.call_graph.specs.RowLists.{is_among}
use Rattle.call_graph.specs.Rows.{AreMarks}
use Rattle.call_graph.proofs.RowLists.{among_append}
use Rattle.call_graph.proofs.RowPlaces.{set_same, set_other}

pub no_marks : (count : ℕ) (marks : List Bool) → marks ≡ replicate count false → AreMarks count [] marks
no_marks count marks is = record {
  each = ap length is ∙ length-replicate count false;
  mark = λ number lt. ap (λ l. slice_get l number) is ∙ there count number lt;
}
  where
    there : (n number : ℕ) → number < n → slice_get (replicate n false) number ≡ Some false
    there zero number lt = absurd (omega (arith, lt))
    there (suc n) zero lt = refl
    there (suc n) (suc number) lt = there n number (omega (arith, lt))

or_none : (a : Bool) → (a || false) ≡ a
or_none true = refl
or_none false = refl

or_all : (a : Bool) → (a || true) ≡ true
or_all true = refl
or_all false = refl

module _ (count : ℕ) (done : List ℕ) (number : ℕ) (more : List ℕ) (old new : List Bool) (known : AreMarks count done old) where
  among_more : more ≡ done ++ number ∷ [] → (other : ℕ) → is_among other more ≡ (is_among other done || (number == other))
  among_more e other = ap (is_among other) e ∙ (among_append other done (number ∷ []) ∙ ap (λ b. is_among other done || b) (or_none (number == other)))

  pub one_mark : number < count → new ≡ set old number true → more ≡ done ++ number ∷ [] → AreMarks count more new
  one_mark lt is e = record {
    each = ap length is ∙ (length-set old number true ∙ known.each);
    mark = λ other below. ap (λ l. slice_get l other) is ∙ (by other (number == other) refl below ∙ sym (ap Some (among_more e other)));
  }
    where
      by : (other : ℕ) (b : Bool) → (number == other) ≡ b → other < count → slice_get (set old number true) other ≡ Some (is_among other done || (number == other))
      by other true same below =
          let equal : other ≡ number = sym (eqb-true number other same) in
          ap (slice_get (set old number true)) equal ∙ (set_same old number true (omega (arith, lt, known.each)) ∙ ap Some (sym (ap (λ b. is_among other done || b) same ∙ or_all (is_among other done))))
      by other false differs below =
          set_other old number other true (λ same. false≢true (sym differs ∙ eq-eqb number other (sym same)))
          ∙ (known.mark other below ∙ ap Some (sym (ap (λ b. is_among other done || b) differs ∙ or_none (is_among other done))))

  pub no_mark : count ≤ number → new ≡ old → more ≡ done ++ number ∷ [] → AreMarks count more new
  no_mark le is e = record {
    each = ap length is ∙ known.each;
    mark = λ other below. ap (λ l. slice_get l other) is ∙ (known.mark other below ∙ ap Some (sym (among_more e other ∙ by other (number == other) refl below)));
  }
    where
      by : (other : ℕ) (b : Bool) → (number == other) ≡ b → other < count → (is_among other done || (number == other)) ≡ is_among other done
      by other true same below = absurd (omega (arith, eqb-true number other same, below, le))
      by other false differs below = ap (λ b. is_among other done || b) differs ∙ or_none (is_among other done)
