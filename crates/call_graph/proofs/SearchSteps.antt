-- Each part of the search for strong components in memory keeps what is known.
use Rattle.std.proofs.Common.{◌≡◌, ℕ, ◌+◌, ◌<◌, ◌≤◌, ◌⊎◌, List, [], ◌∷◌, ◌++◌, length, map, set, Some, inl, inr, refl, sym, ap, ◌∙◌, arith, length-append, length-set}
use Rattle.std.specs.Prelude.{slice_get}
use Rattle.std.proofs.lemmas.Bool.{cases_eq}
use Rattle.std.proofs.lemmas.Option.{same_Some, slice_get_within}
use Rattle.call_graph.specs.declared.components.Mark.{Mark}
use Rattle.call_graph.specs.declared.components.Mark.TheVariants.{Unseen, Open, Done}
use Rattle.call_graph.specs.declared.components.Search.{Search}
use Rattle.call_graph.specs.Search.{Path, IsSearch}
use Rattle.call_graph.specs.Searches.{Edge, IsOpen, IsDone, IsStart, Waits, ArePlaced, IsLast, AreSorted, AreAscending, IsSearching}
use Rattle.call_graph.proofs.Places.{at_append, append_left, append_right, at_one, set_same, set_other, last_at, at_map, map_at}
use Rattle.call_graph.proofs.Searching.{node_opened, retold}

-- the last start is the greatest
pub greatest_start : (starts : List ℕ) (start : ℕ) → AreAscending starts → IsLast start starts → (s : ℕ) → IsStart starts s → s ≤ start
greatest_start starts start ascending last s (at, is) =
    let short : length starts ≡ length last.0 + 1 = ap length last.1 ∙ length-append last.0 (start ∷ []) in
    ascending at (length last.0) s start (omega (arith, slice_get_within starts at s is, short)) is (ap (λ list. slice_get list (length last.0)) last.1 ∙ last_at last.0 start)

module _ (edges : List (List ℕ)) (old : Search) (kept : IsSearching edges old) (node : ℕ) (inside : node < length edges) (unseen : slice_get old.marks.items node ≡ Some Unseen)
    (targets : List ℕ) (row : slice_get edges node ≡ Some targets) (waiting : List (ℕ × ℕ))
    (wait_stays : (j z : ℕ) → Waits old.waiting.items j z → Waits waiting j z ⊎ (z ≡ node)) (wait_old : (j z : ℕ) → Waits waiting j z → Waits old.waiting.items j z) (sorted : AreSorted waiting)
    (reaches : (x i : ℕ) → IsOpen old.marks.items x i → Path (Edge edges) x node)
    (new : Search) (marks : new.marks.items ≡ set old.marks.items node (Open (length old.members.items))) (members : new.members.items ≡ old.members.items ++ node ∷ [])
    (starts : new.starts.items ≡ old.starts.items ++ length old.members.items ∷ []) (waits : new.waiting.items ≡ waiting ++ map (λ next. (length old.members.items, next)) targets) (count : new.count ≡ old.count) where
  abbrev size : ℕ
  size = length old.members.items

  pub new_mark : slice_get new.marks.items node ≡ Some (Open (length old.members.items))
  new_mark = ap (λ list. slice_get list node) marks ∙ set_same old.marks.items node (Open size) (omega (arith, inside, kept.marks))

  other_mark : (x : ℕ) → (x ≡ node → ⊥) → slice_get new.marks.items x ≡ slice_get old.marks.items x
  other_mark x ne = ap (λ list. slice_get list x) marks ∙ set_other old.marks.items node x (Open size) ne

  -- a node that was seen has the mark that it had
  seen_mark : (x : ℕ) (mark : Mark) → slice_get old.marks.items x ≡ Some mark → (mark ≡ Unseen → ⊥) → slice_get new.marks.items x ≡ Some mark
  seen_mark x mark is seen =
      other_mark x (λ e. seen (sym (same_Some Unseen mark (sym unseen ∙ (ap (slice_get old.marks.items) (sym e) ∙ is))))) ∙ is

  open_old : (x i : ℕ) → IsOpen new.marks.items x i → IsOpen old.marks.items x i ⊎ ((x ≡ node) × (i ≡ size))
  open_old x i is = elim (cases_eq x node) [
    | inl same ↦ (let own : Some (Open size) ≡ Some (Open i) = sym new_mark ∙ (ap (slice_get new.marks.items) (sym same) ∙ is) in inr (same, cc))
    | inr ne ↦ inl (sym (other_mark x ne) ∙ is)
  ]

  done_old : (x c : ℕ) → IsDone new.marks.items x c → IsDone old.marks.items x c
  done_old x c is = elim (cases_eq x node) [
    | inl same ↦ (let own : Some (Open size) ≡ Some (Done c) = sym new_mark ∙ (ap (slice_get new.marks.items) (sym same) ∙ is) in absurd (cc))
    | inr ne ↦ sym (other_mark x ne) ∙ is
  ]

  start_old : (s : ℕ) → IsStart new.starts.items s → IsStart old.starts.items s ⊎ (s ≡ size)
  start_old s (at, is) = elim (at_append old.starts.items (size ∷ []) at s (ap (λ list. slice_get list at) (sym starts) ∙ is)) [
    | inl before ↦ inl (at, before)
    | inr own ↦ inr (at_one size own.0 s own.2).1
  ]

  start_after : (s : ℕ) → IsStart old.starts.items s → IsStart new.starts.items s
  start_after s (at, is) = (at, ap (λ list. slice_get list at) starts ∙ append_left old.starts.items (size ∷ []) at s is)

  start_new : IsStart new.starts.items size
  start_new = (length old.starts.items, ap (λ list. slice_get list (length old.starts.items)) starts ∙ last_at old.starts.items size)

  wait_before : (j z : ℕ) → Waits new.waiting.items j z → Waits old.waiting.items j z ⊎ ((j ≡ size) × Edge edges node z)
  wait_before j z (at, is) = elim (at_append waiting (map (λ next. (size, next)) targets) at (j, z) (ap (λ list. slice_get list at) (sym waits) ∙ is)) [
    | inl before ↦ inl (wait_old j z (at, before))
    | inr own ↦ (let found = at_map (λ (next : ℕ). (size, next)) targets own.0 (j, z) own.2 in
        inr (ap (λ pair. pair.0) found.2, record { targets = targets; row = row; at = own.0; is = found.1 ∙ ap (λ pair. Some pair.1) (sym found.2) }))
  ]

  wait_after : (j z : ℕ) → Waits old.waiting.items j z → Waits new.waiting.items j z ⊎ (z ≡ node)
  wait_after j z wait = elim (wait_stays j z wait) [
    | inl still ↦ inl (still.0, ap (λ list. slice_get list still.0) waits ∙ append_left waiting (map (λ next. (size, next)) targets) still.0 (j, z) still.1)
    | inr same ↦ inr same
  ]

  wait_new : (z : ℕ) → Edge edges node z → Waits new.waiting.items size z
  wait_new z edge =
      let own : slice_get targets edge.at ≡ Some z = ap (λ list. slice_get list edge.at) (same_Some targets edge.targets (sym row ∙ edge.row)) ∙ edge.is in
      let there : slice_get (map (λ (next : ℕ). (size, next)) targets) edge.at ≡ Some (size, z) = map_at (λ (next : ℕ). (size, next)) targets edge.at z own in
      (length waiting + edge.at, ap (λ list. slice_get list (length waiting + edge.at)) waits ∙ append_right waiting (map (λ next. (size, next)) targets) (length waiting + edge.at) edge.at (size, z) refl there)

  opens_known : IsSearch (Edge edges) (IsOpen new.marks.items) (IsDone new.marks.items) (IsStart new.starts.items) (Waits new.waiting.items) new.count (length new.members.items)
  opens_known =
      retold (Edge edges) (IsOpen new.marks.items) (IsOpen new.marks.items) (IsDone old.marks.items) (IsDone new.marks.items) (IsStart new.starts.items) (IsStart new.starts.items)
      (Waits new.waiting.items) (Waits new.waiting.items) old.count new.count (size + 1) (length new.members.items)
      (λ x i is. is) (λ x i is. is) (λ x c is. seen_mark x (Done c) is (λ e. absurd (cc))) done_old (λ s is. is) (λ s is. is) (λ j z is. is) (λ j z is. is)
      count (ap length members ∙ length-append old.members.items (node ∷ []))
      (node_opened (Edge edges) (IsOpen old.marks.items) (IsDone old.marks.items) (IsStart old.starts.items) (Waits old.waiting.items) old.count size kept.known
      (IsOpen new.marks.items) (IsStart new.starts.items) (Waits new.waiting.items) node
      (λ i at. let both : Some Unseen ≡ Some (Open i) = sym unseen ∙ at in absurd (cc)) (λ c is. let both : Some Unseen ≡ Some (Done c) = sym unseen ∙ is in absurd (cc))
      open_old (λ x i is. seen_mark x (Open i) is (λ e. absurd (cc))) new_mark start_old start_after start_new wait_before wait_after wait_new reaches)

  opens_placed : ArePlaced new.members.items new.marks.items
  opens_placed place x is = elim (at_append old.members.items (node ∷ []) place x (ap (λ list. slice_get list place) (sym members) ∙ is)) [
    | inl before ↦ seen_mark x (Open place) (kept.placed place x before) (λ e. absurd (cc))
    | inr own ↦ (let one = at_one node own.0 x own.2 in
        let at : place ≡ size = omega (arith, own.1, one.0) in
        ap (slice_get new.marks.items) one.1 ∙ (new_mark ∙ ap (λ n. Some (Open n)) (sym at)))
  ]

  opens_open : (x place : ℕ) → IsOpen new.marks.items x place → slice_get new.members.items place ≡ Some x
  opens_open x place is = elim (open_old x place is) [
    | inl before ↦ ap (λ list. slice_get list place) members ∙ append_left old.members.items (node ∷ []) place x (kept.opened x place before)
    | inr own ↦ ap (λ list. slice_get list place) members ∙ (ap (slice_get (old.members.items ++ node ∷ [])) own.1 ∙ (last_at old.members.items node ∙ ap Some (sym own.0)))
  ]

  opens_ascending : AreAscending new.starts.items
  opens_ascending at further a b le is is' = elim (at_append old.starts.items (size ∷ []) at a (ap (λ list. slice_get list at) (sym starts) ∙ is)) [
    | inl before ↦ (elim (at_append old.starts.items (size ∷ []) further b (ap (λ list. slice_get list further) (sym starts) ∙ is')) [
      | inl before' ↦ kept.ascending at further a b le before before'
      | inr own' ↦ omega (arith, kept.known.within a (at, before), (at_one size own'.0 b own'.2).1)
    ])
    | inr own ↦ (elim (at_append old.starts.items (size ∷ []) further b (ap (λ list. slice_get list further) (sym starts) ∙ is')) [
      | inl before' ↦ absurd (omega (arith, slice_get_within old.starts.items further b before', own.1, le))
      | inr own' ↦ omega (arith, (at_one size own.0 a own.2).1, (at_one size own'.0 b own'.2).1)
    ])
  ]

  new_source : (at : ℕ) (pair : ℕ × ℕ) → slice_get (map (λ (next : ℕ). (size, next)) targets) at ≡ Some pair → pair.0 ≡ size
  new_source at pair is = let found = at_map (λ (next : ℕ). (size, next)) targets at pair is in ap (λ (p : ℕ × ℕ). p.0) found.2

  old_source : (at : ℕ) (pair : ℕ × ℕ) → slice_get waiting at ≡ Some pair → pair.0 < size
  old_source at pair is =
      let source = kept.known.waiting pair.0 pair.1 (wait_old pair.0 pair.1 (at, is)) in
      kept.known.inside source.0 pair.0 source.1

  opens_sorted : AreSorted new.waiting.items
  opens_sorted at further a b le is is' = elim (at_append waiting (map (λ next. (size, next)) targets) at a (ap (λ list. slice_get list at) (sym waits) ∙ is)) [
    | inl before ↦ (elim (at_append waiting (map (λ next. (size, next)) targets) further b (ap (λ list. slice_get list further) (sym waits) ∙ is')) [
      | inl before' ↦ sorted at further a b le before before'
      | inr own' ↦ omega (arith, old_source at a before, new_source own'.0 b own'.2)
    ])
    | inr own ↦ (elim (at_append waiting (map (λ next. (size, next)) targets) further b (ap (λ list. slice_get list further) (sym waits) ∙ is')) [
      | inl before' ↦ absurd (omega (arith, slice_get_within waiting further b before', own.1, le))
      | inr own' ↦ omega (arith, new_source own.0 a own.2, new_source own'.0 b own'.2)
    ])
  ]

  pub opens_keeps : IsSearching edges new
  opens_keeps = record {
    marks = ap length marks ∙ (length-set old.marks.items node (Open size) ∙ kept.marks);
    placed = opens_placed;
    opened = opens_open;
    ascending = opens_ascending;
    sorted = opens_sorted;
    known = opens_known;
  }

  pub opens_seen : (x : ℕ) → slice_get new.marks.items x ≡ Some Unseen → slice_get old.marks.items x ≡ Some Unseen
  opens_seen x is = elim (cases_eq x node) [
    | inl same ↦ ap (slice_get old.marks.items) same ∙ unseen
    | inr ne ↦ sym (other_mark x ne) ∙ is
  ]
