-- The functions of classes that are called are joined, one after another.
use Rattle.std.proofs.Common.{◌≡◌, ℕ, ◌⊎◌, Bool, true, false, List, [], ◌∷◌, ◌++◌, Option, Some, None, unwrap_or, inl, inr, refl, sym, ap, subst, ◌∙◌}
use Rattle.std.specs.Prelude.{slice_get}
use Rattle.std.proofs.lemmas.Bool.{false≢true}
use Rattle.std.proofs.lemmas.Option.{none-some, same_Some}
use Rattle.call_graph.specs.RowLists.{Has}
use Rattle.call_graph.proofs.RowLists.{in_front, in_back, in_either}
use Rattle.call_graph.specs.CallLists.{IsJoined, AddsClasses}

module _ (is_called : List Bool) where
  pub no_links : (edges : List (ℕ × ℕ)) → AddsClasses is_called [] edges edges
  no_links edges = record { kept = λ edge is. is; to = λ edge joined. absurd joined.link; from = λ edge is. inl is }

  module _ (done more : List (ℕ × ℕ)) (link : ℕ × ℕ) (old mid new : List (ℕ × ℕ)) (known : AddsClasses is_called done old mid) (e : more ≡ done ++ link ∷ []) where
    later : (edge : ℕ × ℕ) → IsJoined is_called done edge → IsJoined is_called more edge
    later edge joined = record {
      first = joined.first;
      member = joined.member;
      link = subst (λ l. Has l (joined.first, joined.member)) (sym e) (in_front done (link ∷ []) (joined.first, joined.member) joined.link);
      called = joined.called;
      is = joined.is;
    }

    -- one of those before, or the last
    which : (edge : ℕ × ℕ) → IsJoined is_called more edge → IsJoined is_called done edge ⊎ ((slice_get is_called link.0 ≡ Some true) × ((edge ≡ (link.0, link.1)) ⊎ (edge ≡ (link.1, link.0))))
    which edge joined = elim (in_either done (link ∷ []) (joined.first, joined.member) (subst (λ l. Has l (joined.first, joined.member)) e joined.link)) [
      | inl before ↦ inl (record { first = joined.first; member = joined.member; link = before; called = joined.called; is = joined.is })
      | inr last ↦ (elim last [
        | inl same ↦ inr (
          ap (slice_get is_called) (ap (λ (l : ℕ × ℕ). l.0) (sym same)) ∙ joined.called,
          elim joined.is [
            | inl one ↦ inl (one ∙ same)
            | inr other ↦ inr (other ∙ ap (λ (l : ℕ × ℕ). (l.1, l.0)) same)
          ],
        )
        | inr none ↦ absurd none
      ])
    ]

    pub class_none : (slice_get is_called link.0 ≡ Some true → ⊥) → new ≡ mid → AddsClasses is_called more old new
    class_none none same = record {
      kept = λ edge is. subst (λ l. Has l edge) (sym same) (known.kept edge is);
      to = λ edge joined. subst (λ l. Has l edge) (sym same) (elim (which edge joined) [ inl before ↦ known.to edge before | inr last ↦ absurd (none last.0) ]);
      from = λ edge is. elim (known.from edge (subst (λ l. Has l edge) same is)) [ inl was ↦ inl was | inr own ↦ inr (later edge own) ];
    }

    pub class_some : (half : List (ℕ × ℕ)) → slice_get is_called link.0 ≡ Some true → half ≡ mid ++ (link.0, link.1) ∷ [] → new ≡ half ++ (link.1, link.0) ∷ [] → AddsClasses is_called more old new
    class_some half called e' e'' = record {
      kept = λ edge is. whole edge (in_front half _ edge (first_half edge (in_front mid _ edge (known.kept edge is))));
      to = λ edge joined. elim (which edge joined) [
        | inl before ↦ whole edge (in_front half _ edge (first_half edge (in_front mid _ edge (known.to edge before))))
        | inr last ↦ (elim last.1 [
          | inl one ↦ whole edge (in_front half _ edge (first_half edge (in_back mid _ edge (inl one))))
          | inr other ↦ whole edge (in_back half _ edge (inl other))
        ])
      ];
      from = λ edge is. elim (in_either half _ edge (subst (λ l. Has l edge) e'' is)) [
        | inl before ↦ (elim (in_either mid _ edge (subst (λ l. Has l edge) e' before)) [
          | inl was ↦ (elim (known.from edge was) [ inl old' ↦ inl old' | inr own ↦ inr (later edge own) ])
          | inr last ↦ (elim last [ inl same ↦ inr (own_link edge (inl same)) | inr none ↦ absurd none ])
        ])
        | inr last ↦ (elim last [ inl same ↦ inr (own_link edge (inr same)) | inr none ↦ absurd none ])
      ];
    }
      where
        whole : (edge : ℕ × ℕ) → Has (half ++ (link.1, link.0) ∷ []) edge → Has new edge
        whole edge is = subst (λ l. Has l edge) (sym e'') is

        first_half : (edge : ℕ × ℕ) → Has (mid ++ (link.0, link.1) ∷ []) edge → Has half edge
        first_half edge is = subst (λ l. Has l edge) (sym e') is

        own_link : (edge : ℕ × ℕ) → (edge ≡ (link.0, link.1)) ⊎ (edge ≡ (link.1, link.0)) → IsJoined is_called more edge
        own_link edge is = record {
          first = link.0;
          member = link.1;
          link = subst (λ l. Has l (link.0, link.1)) (sym e) (in_back done (link ∷ []) (link.0, link.1) (inl refl));
          called = called;
          is = is;
        }

-- ---- marks that are read

pub marked_or : (found : Option Bool) → unwrap_or found false ≡ true → found ≡ Some true
marked_or None is = absurd (false≢true is)
marked_or (Some b) is = ap Some is

pub unmarked_or : (found : Option Bool) → unwrap_or found false ≡ false → found ≡ Some true → ⊥
unmarked_or None none is = none-some true is
unmarked_or (Some b) none is = false≢true (sym none ∙ same_Some b true is)
