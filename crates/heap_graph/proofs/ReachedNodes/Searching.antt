-- A search on its way.
use Rattle.std.proofs.Common.{◌≡◌, ℕ, ◌+◌, ◌<◌, ◌⊎◌, inl, inr, true, List, [], ◌∷◌, ◌++◌, length, Contains, Option, sym, ap, subst, ◌∙◌, arith}
use Rattle.std.proofs.lemmas.List.{length_push}
use Rattle.std.proofs.lemmas.List.Elements.{Contains-append_left, Contains-push, Contains-push_cases}
use Rattle.heap_graph.specs.declared.frozen.Node.{Node}
use Rattle.heap_graph.specs.declared.marks.NodeMarks.{NodeMarks}
use Rattle.heap_graph.specs.declared.search.Search.{Search}
use Rattle.heap_graph.specs.Marks.{is_marked, AreMarked}
use Rattle.heap_graph.specs.Edges.{LeadsTo, Comes, stays, goes, AreReached, Grows, IsFollowed, IsSearch, unmarked}
use Rattle.heap_graph.proofs.ReachedNodes.Numbers.{marked_within}
use Rattle.heap_graph.proofs.Adding.{adds_kept}
use Rattle.heap_graph.proofs.Coming.{comes_further, comes_within}

module _ (nodes : List (Option Node)) (starts : NodeMarks) where
  pub search_begins : (search : Search) → search.found ≡ starts → length starts.marks.items ≡ length nodes → AreMarked starts search.pending.items → IsSearch nodes starts search
  search_begins search found size pending =
      record {
        size = ap (λ m. length m.marks.items) found ∙ size;
        begun = λ number is. ap (λ m. is_marked m number) found ∙ is;
        only = λ number is. (number, sym (ap (λ m. is_marked m number) found) ∙ is, stays number);
        known = λ number has. ap (λ m. is_marked m number) found ∙ (pending number).1 has;
        followed = λ number is. inl ((pending number).0 (sym (ap (λ m. is_marked m number) found) ∙ is));
      }

  -- ---- one node is followed

  module _ (old popped new : Search) (number : ℕ) (search : IsSearch nodes starts old) (same : popped.found ≡ old.found) (taken : old.pending.items ≡ popped.pending.items ++ number ∷ [])
      (grows : Grows popped new (LeadsTo nodes number)) where
    was_known : is_marked old.found number ≡ true
    was_known = search.known number (subst (λ l. Contains l number) (sym taken) (Contains-push popped.pending.items number))

    still : (other : ℕ) → is_marked old.found other ≡ true → is_marked new.found other ≡ true
    still other is = adds_kept popped.found new.found _ grows.marks other (ap (λ m. is_marked m other) same ∙ is)

    only_more : (other : ℕ) → is_marked popped.found other ≡ true ⊎ LeadsTo nodes number other → (start : ℕ) × (is_marked starts start ≡ true) × Comes nodes start other
    only_more other (inl is) = search.only other (sym (ap (λ m. is_marked m other) same) ∙ is)
    only_more other (inr leads) = let before = search.only number was_known in (before.0, before.1, comes_further nodes before.0 number other before.2 leads)

    size_kept : length new.found.marks.items ≡ length nodes
    size_kept = grows.marks.size ∙ (ap (λ m. length m.marks.items) same ∙ search.size)

    within_popped : (other : ℕ) → other < length nodes → other < length popped.found.marks.items
    within_popped other within = omega (arith, within, grows.marks.size, size_kept)

    own_followed : IsFollowed nodes new.found number
    own_followed = λ to within leads. (grows.marks.exactly to (within_popped to within)).1 (inr leads)

    followed_still : (other : ℕ) → Contains old.pending.items other ⊎ IsFollowed nodes old.found other → Contains new.pending.items other ⊎ IsFollowed nodes new.found other
    followed_still other (inl has) =
        elim (Contains-push_cases popped.pending.items number other (subst (λ l. Contains l other) taken has)) [
          | inl before ↦ inl (grows.kept other before)
          | inr is ↦ inr (subst (IsFollowed nodes new.found) is own_followed)
        ]
    followed_still other (inr followed) = inr (λ to within leads. still to (followed to within leads))

    followed_more : (other : ℕ) → is_marked popped.found other ≡ true ⊎ Contains new.pending.items other → Contains new.pending.items other ⊎ IsFollowed nodes new.found other
    followed_more other (inl is) = followed_still other (search.followed other (sym (ap (λ m. is_marked m other) same) ∙ is))
    followed_more other (inr has) = inl has

    known_more : (other : ℕ) → Contains popped.pending.items other ⊎ (is_marked new.found other ≡ true) → is_marked new.found other ≡ true
    known_more other (inl has) = still other (search.known other (subst (λ l. Contains l other) (sym taken) (Contains-append_left popped.pending.items (number ∷ []) other has)))
    known_more other (inr is) = is

    pub search_goes_on : IsSearch nodes starts new
    search_goes_on =
        record {
          size = size_kept;
          begun = λ other is. still other (search.begun other is);
          only = λ other is. only_more other ((grows.marks.exactly other (omega (arith, marked_within new.found other is, grows.marks.size))).0 is);
          known = λ other has. known_more other (grows.known other has);
          followed = λ other is. followed_more other (grows.waits other is);
        }

    pub search_shrinks : unmarked new.found + length new.pending.items < unmarked old.found + length old.pending.items
    search_shrinks = omega (arith, grows.left, ap unmarked same, ap length taken, length_push popped.pending.items number)

  -- ---- all are followed

  module _ (search : Search) (known : IsSearch nodes starts search) (none : length search.pending.items ≡ 0) where
    all_followed : (number : ℕ) → is_marked search.found number ≡ true → IsFollowed nodes search.found number
    all_followed number is = by (known.followed number is)
      where
        by : Contains search.pending.items number ⊎ IsFollowed nodes search.found number → IsFollowed nodes search.found number
        by (inl has) = absurd (omega (arith, has.1, none))
        by (inr followed) = followed

    all_come_to : (from last : ℕ) → Comes nodes from last → last < length nodes → is_marked search.found from ≡ true → is_marked search.found last ≡ true
    all_come_to from last (stays n) within is = is
    all_come_to from last (goes n next end leads rest) within is = all_come_to next last rest within (all_followed from is next (comes_within nodes next last rest within) leads)

    pub search_ends : AreReached nodes starts search.found
    search_ends = record { size = known.size; exactly = λ number within. (λ is. known.only number is, λ found. all_come_to found.0 number found.2 within (known.begun found.0 found.1)) }
