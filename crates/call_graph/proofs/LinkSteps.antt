-- Functions are linked to the first of their class, one after another.
use Rattle.std.proofs.Common.{◌≡◌, ℕ, ◌<◌, ◌==◌, ◌&&◌, Bool, true, false, cond, if◌then◌else◌, List, [], ◌∷◌, ◌++◌, length, Option, Some, None, unwrap_or, inl, inr, refl, sym, ap, subst, ◌∙◌, arith, eqb-true, eq-eqb}
use Rattle.std.specs.Prelude.{slice_get, is_none}
use Rattle.std.specs.Map.{lookup}
use Rattle.std.proofs.lemmas.Bool.{false≢true}
use Rattle.std.proofs.lemmas.Option.{none-some, same_Some, slice_get_within}
use Rattle.indexmap.specs.IndexMap.{IndexMap}
use Rattle.c_typed.specs.declared.c_type.CType as number
use Rattle.call_graph.specs.RowLists.{Has}
use Rattle.call_graph.proofs.RowPlaces.{at_more, keep_more, last_more}
use Rattle.call_graph.proofs.RowLists.{in_front, in_back, in_either}
use Rattle.call_graph.specs.declared.class_table.Linked.{Linked}
use Rattle.call_graph.specs.ClassLists.{first_at, IsFound, LinksRise, LinksKeys, Links}

same_type_number : (a b : number.CType) → (a.0 == b.0) ≡ true → a ≡ b
same_type_number a b e = λ i. record { 0 = eqb-true a.0 b.0 e i }

-- ---- found functions

module _ (keys : List (Option number.CType)) (key : Option number.CType) (other : number.CType) where
  kept_some : (first : ℕ) → IsFound keys other (Some first) → IsFound (keys ++ key ∷ []) other (Some first)
  kept_some first found =
      let lt = slice_get_within keys first (Some other) found.0 in (
        keep_more keys key first (Some other) found.0,
        λ x below is. elim (at_more keys key x (Some other) is) [
          | inl old ↦ found.1 x below old
          | inr new ↦ omega (arith, lt, below, new.0)
        ],
      )

  kept_none : (key ≡ Some other → ⊥) → IsFound keys other None → IsFound (keys ++ key ∷ []) other None
  kept_none differs found x is = elim (at_more keys key x (Some other) is) [ inl old ↦ found x old | inr new ↦ differs new.1 ]

  kept : (found : Option ℕ) → (key ≡ Some other → ⊥) → IsFound keys other found → IsFound (keys ++ key ∷ []) other found
  kept (Some first) differs is = kept_some first is
  kept None differs is = kept_none differs is

  now_first : key ≡ Some other → IsFound keys other None → IsFound (keys ++ key ∷ []) other (Some (length keys))
  now_first same found = (
    last_more keys key ∙ ap Some same,
    λ x below is. elim (at_more keys key x (Some other) is) [
      | inl old ↦ found x old
      | inr new ↦ omega (arith, below, new.0)
    ],
  )

pub rising_more : (links : List (ℕ × ℕ)) (link : ℕ × ℕ) → LinksRise links → ((other : ℕ × ℕ) → Has links other → other.1 < link.1) → LinksRise (links ++ link ∷ [])
rising_more [] link rise below = ((λ other none. absurd none), tt)
rising_more (first ∷ links) link rise below = (
  (λ other is. elim (in_either links (link ∷ []) other is) [
    | inl old ↦ rise.0 other old
    | inr new ↦ (elim new [ inl same ↦ subst (λ (l : ℕ × ℕ). first.1 < l.1) (sym same) (below first (inl refl)) | inr none ↦ absurd none ])
  ]),
  rising_more links link rise.1 (λ other is. below other (inr is)),
)

-- ---- found for each type, after one is added

pub nothing_new : {X : Type 0} (b n : Bool) (x y : X) → n ≡ false → x ≡ (if b && n then y else x)
nothing_new true true x y e = absurd (false≢true (sym e))
nothing_new true false x y e = refl
nothing_new false n x y e = refl

pub something_new : {X : Type 0} (b n : Bool) (x y : X) → n ≡ true → cond b y x ≡ (if b && n then y else x)
something_new true true x y e = refl
something_new true false x y e = absurd (false≢true e)
something_new false n x y e = refl

-- ---- links

pub no_links : {S : Type 0} (firsts : IndexMap number.CType ℕ S) (links : List (ℕ × ℕ)) → firsts.entries ≡ [] → links ≡ [] → LinksKeys [] firsts links
no_links firsts links empty none = record {
  found = λ own. subst (IsFound [] own) (sym (nothing own)) (λ x is. none-some (Some own) is);
  linked = λ own first function found is. absurd (none-some (Some own) is);
  from = λ link is. absurd (subst (λ (l : List (ℕ × ℕ)). Has l link) none is);
  rising = subst LinksRise (sym none) tt;
}
  where
    nothing : (own : number.CType) → first_at firsts own ≡ None
    nothing own = ap (lookup (λ (key : number.CType). own.0 == key.0)) empty

-- a function without a key
pub link_none : {S : Type 0} (keys more : List (Option number.CType)) (firsts : IndexMap number.CType ℕ S) (links : List (ℕ × ℕ)) → LinksKeys keys firsts links → more ≡ keys ++ None ∷ [] → LinksKeys more firsts links
link_none keys more firsts links known e = subst (λ (l : List (Option number.CType)). LinksKeys l firsts links) (sym e) (record {
  found = λ own. kept keys None own (first_at firsts own) (λ same. none-some own same) (known.found own);
  linked = λ own first function found is. elim (at_more keys None function (Some own) is) [
    | inl old ↦ known.linked own first function found old
    | inr new ↦ absurd (none-some own new.1)
  ];
  from = λ link is. let own = known.from link is in (own.0, own.1, keep_more keys None link.1 (Some own.0) own.2);
  rising = known.rising;
})

module _ (keys : List (Option number.CType)) (own : number.CType) (old new : Linked) (known : LinksKeys keys old.firsts old.links.items) (adds : Links (length keys) own old new) where
  -- what is found for a type afterwards
  other_found : (other : number.CType) → (own.0 == other.0) ≡ false → first_at new.firsts other ≡ first_at old.firsts other
  other_found other differs = adds.firsts other ∙ ap (λ b. if b && is_none (first_at old.firsts own) then Some (length keys) else first_at old.firsts other) differs

  old_found : (other : number.CType) (first : ℕ) → first_at old.firsts other ≡ Some first → first_at new.firsts other ≡ Some first
  old_found other first is = by (own.0 == other.0) refl
    where
      not_both : (b : Bool) → (if b && false then Some (length keys) else first_at old.firsts other) ≡ first_at old.firsts other
      not_both true = refl
      not_both false = refl

      by : (b : Bool) → (own.0 == other.0) ≡ b → first_at new.firsts other ≡ Some first
      by false differs = other_found other differs ∙ is
      by true same =
          let equal : own ≡ other = same_type_number own other same in
          let some : is_none (first_at old.firsts own) ≡ false = ap is_none (ap (first_at old.firsts) equal ∙ is) in
          adds.firsts other ∙ (ap (λ n. if (own.0 == other.0) && n then Some (length keys) else first_at old.firsts other) some ∙ (not_both (own.0 == other.0) ∙ is))

  own_found : first_at new.firsts own ≡ Some (unwrap_or (first_at old.firsts own) (length keys))
  own_found = by (first_at old.firsts own) refl
    where
      by : (found : Option ℕ) → first_at old.firsts own ≡ found → first_at new.firsts own ≡ Some (unwrap_or (first_at old.firsts own) (length keys))
      by (Some first) is = old_found own first is ∙ ap Some (sym (ap (λ o. unwrap_or o (length keys)) is))
      by None is =
          adds.firsts own
          ∙ ((λ i. if eq-eqb own.0 own.0 refl i && is_none (is i) then Some (length keys) else first_at old.firsts own) ∙ ap Some (sym (ap (λ o. unwrap_or o (length keys)) is)))

  abbrev further : List (Option number.CType)
  further = keys ++ Some own ∷ []

  found_more : (other : number.CType) → IsFound further other (first_at new.firsts other)
  found_more other = by (own.0 == other.0) refl
    where
      here : (found : Option ℕ) → first_at old.firsts own ≡ found → IsFound keys own found → IsFound further own (Some (unwrap_or found (length keys)))
      here (Some first) is was = kept_some keys (Some own) own first was
      here None is was = now_first keys (Some own) own refl was

      by : (b : Bool) → (own.0 == other.0) ≡ b → IsFound further other (first_at new.firsts other)
      by false differs =
          subst (IsFound further other) (sym (other_found other differs))
          (kept keys (Some own) other (first_at old.firsts other) (λ same. false≢true (sym differs ∙ eq-eqb own.0 other.0 (ap (λ (t : number.CType). t.0) (same_Some own other same)))) (known.found other))
      by true same =
          subst (λ (t : number.CType). IsFound further t (first_at new.firsts t)) (same_type_number own other same)
          (subst (IsFound further own) (sym own_found) (here (first_at old.firsts own) refl (known.found own)))

  linked_more : (other : number.CType) (first function : ℕ) → first_at new.firsts other ≡ Some first → slice_get further function ≡ Some (Some other) → Has new.links.items (first, function)
  linked_more other first function found is = subst (λ (l : List (ℕ × ℕ)). Has l (first, function)) (sym adds.links') (elim (at_more keys (Some own) function (Some other) is) [
    | inl before ↦ in_front old.links.items _ (first, function) (earlier before (first_at old.firsts other) refl (known.found other))
    | inr new' ↦ (let same : own ≡ other = same_Some own other new'.1 in
        let head : first ≡ unwrap_or (first_at old.firsts own) (length keys) = same_Some first _ (sym found ∙ (ap (first_at new.firsts) (sym same) ∙ own_found)) in
        in_back old.links.items _ (first, function) (inl (λ i. (head i, new'.0 i))))
  ])
    where
      earlier : slice_get keys function ≡ Some (Some other) → (f : Option ℕ) → first_at old.firsts other ≡ f → IsFound keys other f → Has old.links.items (first, function)
      earlier before None none was = absurd (was function before)
      earlier before (Some f) some was =
          let same : f ≡ first = same_Some f first (sym (old_found other f some) ∙ found) in
          known.linked other first function (some ∙ ap Some same) before

  from_more : (link : ℕ × ℕ) → Has new.links.items link → (other : number.CType) × (first_at new.firsts other ≡ Some link.0) × (slice_get further link.1 ≡ Some (Some other))
  from_more link is = elim (in_either old.links.items _ link (subst (λ (l : List (ℕ × ℕ)). Has l link) adds.links' is)) [
    | inl before ↦ (let was = known.from link before in (was.0, old_found was.0 link.0 was.1, keep_more keys (Some own) link.1 (Some was.0) was.2))
    | inr last ↦ (elim last [
      | inl same ↦ (own, own_found ∙ ap Some (sym (ap (λ (l : ℕ × ℕ). l.0) same)), ap (slice_get further) (ap (λ (l : ℕ × ℕ). l.1) same) ∙ last_more keys (Some own))
      | inr none ↦ absurd none
    ])
  ]

  rise_more : LinksRise new.links.items
  rise_more = subst LinksRise (sym adds.links') (rising_more old.links.items _ known.rising (λ other is. slice_get_within keys other.1 _ (known.from other is).2))

  pub link_more : (more : List (Option number.CType)) → more ≡ further → LinksKeys more new.firsts new.links.items
  link_more more e = subst (λ (l : List (Option number.CType)). LinksKeys l new.firsts new.links.items) (sym e) (record { found = found_more; linked = linked_more; from = from_more; rising = rise_more })

pub link_next : (keys more : List (Option number.CType)) (at : ℕ) (own : number.CType) (old new : Linked) → at ≡ length keys → LinksKeys keys old.firsts old.links.items → Links at own old new → more ≡ keys ++ Some own ∷ []
    → LinksKeys more new.firsts new.links.items
link_next keys more at own old new e known adds e' = link_more keys own old new known (subst (λ n. Links n own old new) e adds) more e'
