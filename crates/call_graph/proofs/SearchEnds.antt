-- Where no node is open and none unseen, the search has the components.
use Rattle.std.proofs.Common.{◌≡◌, ℕ, ◌<◌, List, [], length, map, Some, inl, sym, ap, ◌∙◌, arith}
use Rattle.std.specs.Prelude.{slice_get}
use Rattle.std.proofs.lemmas.List.{length-map}
use Rattle.std.proofs.lemmas.Option.{slice_get_within}
use Rattle.call_graph.specs.declared.components.Mark.{Mark}
use Rattle.call_graph.specs.declared.components.Mark.TheVariants.{Unseen, Open, Done}
use Rattle.call_graph.specs.declared.components.Search.{Search}
use Rattle.call_graph.specs.Searches.{Edge, IsOpen, IsDone, IsFresh, Opens, IsSearching, component_of, AreComponents}
use Rattle.call_graph.proofs.Places.{at_none, at_map, map_at}
use Rattle.call_graph.proofs.Searching.{same_component}
use Rattle.call_graph.proofs.SearchSteps.{new_mark, opens_keeps, opens_seen}

-- ---- at first

no_member : (made : Search) (nodes : ℕ) → IsFresh nodes made → (at x : ℕ) → slice_get made.members.items at ≡ Some x → ⊥
no_member made nodes fresh at x is = at_none at x (ap (λ list. slice_get list at) (sym fresh.members) ∙ is)

no_open : (made : Search) (nodes : ℕ) → IsFresh nodes made → (x : ℕ) (mark : Mark) → slice_get made.marks.items x ≡ Some mark → (mark ≡ Unseen → ⊥) → ⊥
no_open made nodes fresh x mark is seen =
    let known : slice_get made.marks.items x ≡ Some Unseen = fresh.unseen x (omega (arith, slice_get_within made.marks.items x mark is, fresh.marks)) in
    let both : Some Unseen ≡ Some mark = sym known ∙ is in
    seen (cc)

pub fresh_keeps : (edges : List (List ℕ)) (made : Search) → IsFresh (length edges) made → IsSearching edges made
fresh_keeps edges made fresh =
    let opened = λ (x i : ℕ) (is : IsOpen made.marks.items x i). no_open made (length edges) fresh x (Open i) is (λ e. absurd (cc)) in
    let done = λ (x c : ℕ) (is : IsDone made.marks.items x c). no_open made (length edges) fresh x (Done c) is (λ e. absurd (cc)) in
    record {
      marks = fresh.marks;
      placed = λ at x is. absurd (no_member made (length edges) fresh at x is);
      opened = λ x at is. absurd (opened x at is);
      ascending = λ at further a b le is is'. absurd (at_none at a (ap (λ list. slice_get list at) (sym fresh.starts) ∙ is));
      sorted = λ at further a b le is is'. absurd (at_none at a (ap (λ list. slice_get list at) (sym fresh.waiting) ∙ is));
      known = record {
        inside = λ x i is. absurd (opened x i is);
        within = λ s begins. absurd (at_none begins.0 s (ap (λ list. slice_get list begins.0) (sym fresh.starts) ∙ begins.1));
        begun = λ x i is. absurd (opened x i is);
        down = λ x y i j here there le. absurd (opened x i here);
        back = λ x y i j here there le none. absurd (opened x i here);
        further = λ x y i here edge. absurd (opened x i here);
        waiting = λ i y wait. absurd (at_none wait.0 (i, y) (ap (λ list. slice_get list wait.0) (sym fresh.waiting) ∙ wait.1));
        below = λ x c is. absurd (done x c is);
        callees = λ x y c is edge. absurd (done x c is);
        together = λ x y c here there. absurd (done x c here);
      };
    }

-- ---- at the end

module _ (edges : List (List ℕ)) (search : Search) (kept : IsSearching edges search) (ended : search.starts.items ≡ []) where
  pub none_open : (x i : ℕ) → IsOpen search.marks.items x i → ⊥
  none_open x i is = let own = kept.known.begun x i is in at_none own.1.0 own.0 (ap (λ list. slice_get list own.1.0) (sym ended) ∙ own.1.1)

  -- a root that is opened
  pub root_opens : (root : ℕ) (new : Search) → root < length edges → slice_get search.marks.items root ≡ Some Unseen → Opens edges root search new
      → IsSearching edges new × ((x : ℕ) → slice_get new.marks.items x ≡ Some Unseen → slice_get search.marks.items x ≡ Some Unseen) × (slice_get new.marks.items root ≡ Some Unseen → ⊥)
  root_opens root new inside unseen opens = (
    opens_keeps edges search kept root inside unseen opens.targets opens.row search.waiting.items (λ j z wait. inl wait) (λ j z wait. wait) kept.sorted (λ x i is. absurd (none_open x i is))
        new opens.marks opens.members opens.starts opens.waiting opens.count,
    opens_seen edges search kept root inside unseen opens.targets opens.row search.waiting.items (λ j z wait. inl wait) (λ j z wait. wait) kept.sorted (λ x i is. absurd (none_open x i is))
        new opens.marks opens.members opens.starts opens.waiting opens.count,
    λ is.
        let own = new_mark edges search kept root inside unseen opens.targets opens.row search.waiting.items (λ j z wait. inl wait) (λ j z wait. wait) kept.sorted (λ x i here. absurd (none_open x i here))
        new opens.marks opens.members opens.starts opens.waiting opens.count in
        let both : Some Unseen ≡ Some (Open (length search.members.items)) = sym is ∙ own in
        absurd (cc),
  )

  module _ (seen : (x : ℕ) → slice_get search.marks.items x ≡ Some Unseen → ⊥) where
    told : (x c : ℕ) (m : Mark) → slice_get search.marks.items x ≡ Some m → c ≡ component_of m → IsDone search.marks.items x c
    told x c Unseen is e = absurd (seen x is)
    told x c (Open i) is e = absurd (none_open x i is)
    told x c (Done d) is e = is ∙ ap (λ n. Some (Done n)) (sym e)

    done_of : (x c : ℕ) → slice_get (map component_of search.marks.items) x ≡ Some c → IsDone search.marks.items x c
    done_of x c is = let found = at_map component_of search.marks.items x c is in told x c found.0 found.1 found.2

    one_component : (x c d : ℕ) → IsDone search.marks.items x c → IsDone search.marks.items x d → c ≡ d
    one_component x c d is is' = let both : Some (Done c) ≡ Some (Done d) = sym is ∙ is' in cc

    pub ended_components : AreComponents edges (map component_of search.marks.items)
    ended_components = record {
      each = length-map search.marks.items component_of ∙ kept.marks;
      same = λ a b c d here there to from. same_component (Edge edges) (IsDone search.marks.items) kept.known.callees one_component a b c d (done_of a c here) (done_of b d there) to from;
      together = λ a b c here there. kept.known.together a b c (done_of a c here) (done_of b c there);
      callees = λ a b c here edge.
          let callee = kept.known.callees a b c (done_of a c here) edge in
          (callee.0, map_at component_of search.marks.items b (Done callee.0) callee.1, callee.2);
    }
