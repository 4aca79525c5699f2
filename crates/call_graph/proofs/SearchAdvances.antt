-- Each step of the search keeps what is known, and leaves less to do.
use Rattle.std.proofs.Common.{◌≡◌, ℕ, ◌+◌, ◌<◌, ◌≤◌, ◌⊎◌, List, [], ◌∷◌, ◌++◌, length, map, set, Some, inl, inr, sym, ap, ◌∙◌, arith, length-append}
use Rattle.std.specs.Prelude.{slice_get}
use Rattle.std.proofs.lemmas.List.{length-map}
use Rattle.call_graph.specs.declared.components.Mark.TheVariants.{Unseen, Open, Done}
use Rattle.call_graph.specs.declared.components.Search.{Search}
use Rattle.call_graph.specs.Searches.{Edge, IsOpen, IsDone, IsStart, Waits, IsLast, IsSearching, Opens, Merges, Closes, unseen_size, to_do, Advances}
use Rattle.call_graph.proofs.Searching.{reach_target}
use Rattle.call_graph.proofs.SearchSteps.{greatest_start, opens_keeps, opens_seen}
use Rattle.call_graph.proofs.SearchCloses.{wait_fewer, wait_one, wait_sorted, own_wait, done_keeps, merges_keeps, shorter, closes_keeps, closes_seen}
use Rattle.call_graph.proofs.SearchMeasure.{opened_size, fewer_unseen}

-- what is left in `to_do` where only one edge no longer waits
one_less : (edges : List (List ℕ)) (old new : Search) (place node : ℕ) (last : IsLast (place, node) old.waiting.items) → new.marks.items ≡ old.marks.items → new.waiting.items ≡ last.0
    → length new.starts.items ≤ length old.starts.items → to_do edges new < to_do edges old
one_less edges old new place node last marks waiting fewer =
    let same : unseen_size edges new.marks.items ≡ unseen_size edges old.marks.items = ap (unseen_size edges) marks in
    let long : length old.waiting.items ≡ length last.0 + 1 = ap length last.1 ∙ length-append last.0 ((place, node) ∷ []) in
    let short : length new.waiting.items ≡ length last.0 = ap length waiting in
    omega (arith, same, long, short, fewer)

module _ (edges : List (List ℕ)) (old : Search) (kept : IsSearching edges old) (start : ℕ) (last : IsLast start old.starts.items) where
  module _ (place node : ℕ) (edge : IsLast (place, node) old.waiting.items) (here : start ≤ place) (mid new : Search) (marks : mid.marks.items ≡ old.marks.items) (members : mid.members.items ≡ old.members.items)
      (starts : mid.starts.items ≡ old.starts.items) (waiting : mid.waiting.items ≡ edge.0) (count : mid.count ≡ old.count) where
    pub follows_open : slice_get old.marks.items node ≡ Some Unseen → node < length edges → Opens edges node mid new → Advances edges old new
    follows_open unseen inside opens =
        let size : length mid.members.items ≡ length old.members.items = ap length members in
        let new_marks : new.marks.items ≡ set old.marks.items node (Open (length old.members.items)) = opens.marks ∙ (λ i. set (marks i) node (Open (size i))) in
        let new_members : new.members.items ≡ old.members.items ++ node ∷ [] = opens.members ∙ ap (λ list. list ++ node ∷ []) members in
        let new_starts : new.starts.items ≡ old.starts.items ++ length old.members.items ∷ [] = opens.starts ∙ (λ i. starts i ++ size i ∷ []) in
        let new_waiting : new.waiting.items ≡ edge.0 ++ map (λ next. (length old.members.items, next)) opens.targets = opens.waiting ∙ (λ i. waiting i ++ map (λ next. (size i, next)) opens.targets) in
        let reaches = reach_target (Edge edges) (IsOpen old.marks.items) (IsDone old.marks.items) (IsStart old.starts.items) (Waits old.waiting.items) old.count (length old.members.items) kept.known
        place node (own_wait edges old kept place node edge) (λ s begins. omega (arith, greatest_start old.starts.items start kept.ascending last s begins, here)) in
        let stays : (j z : ℕ) → Waits old.waiting.items j z → Waits edge.0 j z ⊎ (z ≡ node) = λ j z wait. elim (wait_one edges old kept place node edge j z wait) [ inl still ↦ inl still | inr same ↦ inr same.1 ] in
        let smaller = opened_size edges old.marks.items node (length old.members.items) opens.targets opens.row unseen in
        let same : unseen_size edges new.marks.items ≡ unseen_size edges (set old.marks.items node (Open (length old.members.items))) = ap (unseen_size edges) new_marks in
        let long : length old.waiting.items ≡ length edge.0 + 1 = ap length edge.1 ∙ length-append edge.0 ((place, node) ∷ []) in
        let added : length new.waiting.items ≡ length edge.0 + length opens.targets =
        ap length new_waiting ∙ (length-append edge.0 (map (λ next. (length old.members.items, next)) opens.targets) ∙ ap (λ n. length edge.0 + n) (length-map opens.targets (λ (next : ℕ). (length old.members.items, next)))) in
        let begun : length new.starts.items ≡ length old.starts.items + 1 = ap length new_starts ∙ length-append old.starts.items (length old.members.items ∷ []) in
        record {
          keeps = opens_keeps edges old kept node inside unseen opens.targets opens.row edge.0 stays (wait_fewer edges old kept place node edge) (wait_sorted edges old kept place node edge) reaches
              new new_marks new_members new_starts new_waiting (opens.count ∙ count);
          less = omega (arith, smaller, same, long, added, begun);
          seen = opens_seen edges old kept node inside unseen opens.targets opens.row edge.0 stays (wait_fewer edges old kept place node edge) (wait_sorted edges old kept place node edge) reaches
              new new_marks new_members new_starts new_waiting (opens.count ∙ count);
        }

    pub follows_merge : (at : ℕ) → slice_get old.marks.items node ≡ Some (Open at) → Merges at mid new → Advances edges old new
    follows_merge at is merges =
        let fewer : length mid.starts.items ≡ length new.starts.items + length merges.starts.left_out = ap length merges.starts.is ∙ length-append new.starts.items merges.starts.left_out in
        let same : length mid.starts.items ≡ length old.starts.items = ap length starts in
        record {
          keeps = merges_keeps edges old kept place node edge mid new marks members starts waiting count at is merges start last here;
          less = one_less edges old new place node edge (merges.marks ∙ marks) (merges.waiting ∙ waiting) (omega (arith, fewer, same));
          seen = λ x unseen. ap (λ list. slice_get list x) (sym (merges.marks ∙ marks)) ∙ unseen;
        }

    pub follows_done : (c : ℕ) → slice_get old.marks.items node ≡ Some (Done c) → Advances edges old mid
    follows_done c is = record {
      keeps = done_keeps edges old kept place node edge mid marks members starts waiting count c is;
      less = one_less edges old mid place node edge marks waiting (let same : length mid.starts.items ≡ length old.starts.items = ap length starts in omega (arith, same));
      seen = λ x unseen. ap (λ list. slice_get list x) (sym marks) ∙ unseen;
    }

  pub closes_advance : (new : Search) → ((j z : ℕ) → Waits old.waiting.items j z → j < start) → Closes start old new → Advances edges old new
  closes_advance new none closes =
      let seen = closes_seen edges old kept new start last none closes in
      let fewer = fewer_unseen edges old.marks.items new.marks.items seen in
      let same : length new.waiting.items ≡ length old.waiting.items = ap length closes.waiting in
      let long : length old.starts.items ≡ length last.0 + 1 = ap length last.1 ∙ length-append last.0 (start ∷ []) in
      let short : length new.starts.items ≡ length last.0 = ap length (shorter edges old kept new start last none closes) in
      record {
        keeps = closes_keeps edges old kept new start last none closes;
        less = omega (arith, fewer, same, long, short);
        seen = seen;
      }
