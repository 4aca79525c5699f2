-- Closing a group, and following an edge to a node that was seen, keep what is known.
use Rattle.std.proofs.Common.{◌≡◌, ℕ, zero, suc, ◌+◌, ◌-◌, ◌<◌, ◌≤◌, ◌⊎◌, List, [], ◌∷◌, ◌++◌, length, take, Some, inl, inr, refl, sym, ap, ◌∙◌, arith, length-append}
use Rattle.std.specs.Prelude.{slice_get, option_map}
use Rattle.std.proofs.lemmas.Option.{none-some, slice_get_within}
use Rattle.call_graph.specs.declared.components.Mark.{Mark}
use Rattle.call_graph.specs.declared.components.Mark.TheVariants.{Unseen, Open, Done}
use Rattle.call_graph.specs.declared.components.Search.{Search}
use Rattle.call_graph.specs.Search.{is_done, is_open, IsSearch}
use Rattle.call_graph.specs.Searches.{Edge, IsOpen, IsDone, IsStart, Waits, IsLast, AreSorted, AreAscending, IsSearching, Merges, Closes, closed_mark}
use Rattle.call_graph.proofs.Places.{at_append, append_left, at_one, last_at, at_take, take_at}
use Rattle.call_graph.proofs.ClosedMarks.{open_before, done_before, unseen_before, open_after, done_after}
use Rattle.call_graph.proofs.Searching.{passed, merged, group_closed, retold}
use Rattle.call_graph.proofs.SearchSteps.{greatest_start}

-- a list that has something has a last
pub some_last : {X : Type 0} (list : List X) (at : ℕ) (one : X) → slice_get list at ≡ Some one → (last : X) × IsLast last list
some_last [] at one is = absurd (none-some one is)
some_last (x ∷ []) at one is = (x, ([], refl))
some_last (x ∷ y ∷ list) at one is = let rest = some_last (y ∷ list) 0 y refl in (rest.0, (x ∷ rest.1.0, ap (λ l. x ∷ l) rest.1.1))

-- where the last edge that waits is from a lower place, all are
pub all_below : (waiting : List (ℕ × ℕ)) (start place node : ℕ) → AreSorted waiting → IsLast (place, node) waiting → place < start → (j z : ℕ) → Waits waiting j z → j < start
all_below waiting start place node sorted last lt j z (at, is) =
    let short : length waiting ≡ length last.0 + 1 = ap length last.1 ∙ length-append last.0 ((place, node) ∷ []) in
    let le = sorted at (length last.0) (j, z) (place, node) (omega (arith, slice_get_within waiting at (j, z) is, short)) is (ap (λ list. slice_get list (length last.0)) last.1 ∙ last_at last.0 (place, node)) in
    omega (arith, le, lt)

module _ (edges : List (List ℕ)) (old : Search) (kept : IsSearching edges old) where
  -- ---- a group that is closed

  module _ (new : Search) (start : ℕ) (last : IsLast start old.starts.items) (none : (j z : ℕ) → Waits old.waiting.items j z → j < start) (closes : Closes start old new) where
    mark_after : (x : ℕ) (m : Mark) → slice_get old.marks.items x ≡ Some m → slice_get new.marks.items x ≡ option_map (closed_mark start old.count) (Some m)
    mark_after x m is = closes.marks x ∙ ap (option_map (closed_mark start old.count)) is

    open_old : (x i : ℕ) → IsOpen new.marks.items x i → IsOpen old.marks.items x i × (i < start)
    open_old x i is = open_before start old.count (slice_get old.marks.items x) i (sym (closes.marks x) ∙ is)

    open_stays : (x i : ℕ) → IsOpen old.marks.items x i → i < start → IsOpen new.marks.items x i
    open_stays x i is lt = mark_after x (Open i) is ∙ open_after start old.count i lt

    pub shorter : new.starts.items ≡ last.0
    shorter = closes.starts ∙ (ap (λ list. take (length list - 1) list) last.1 ∙ taken last.0)
      where
        taken : (before : List ℕ) → take (length (before ++ start ∷ []) - 1) (before ++ start ∷ []) ≡ before
        taken before = ap (λ n. take n (before ++ start ∷ [])) (let e : length (before ++ start ∷ []) - 1 ≡ length before = omega (arith, length-append before (start ∷ [])) in e) ∙ front before
          where
            front : (before : List ℕ) → take (length before) (before ++ start ∷ []) ≡ before
            front [] = refl
            front (x ∷ before) = ap (λ l. x ∷ l) (front before)

    start_old : (s : ℕ) → IsStart new.starts.items s → IsStart old.starts.items s
    start_old s (at, is) = (at, ap (λ list. slice_get list at) last.1 ∙ append_left last.0 (start ∷ []) at s (ap (λ list. slice_get list at) (sym shorter) ∙ is))

    start_stays : (s : ℕ) → IsStart old.starts.items s → IsStart new.starts.items s ⊎ (s ≡ start)
    start_stays s (at, is) = elim (at_append last.0 (start ∷ []) at s (ap (λ list. slice_get list at) (sym last.1) ∙ is)) [
      | inl before ↦ inl (at, ap (λ list. slice_get list at) shorter ∙ before)
      | inr own ↦ inr (at_one start own.0 s own.2).1
    ]

    own_start : IsStart old.starts.items start
    own_start = (length last.0, ap (λ list. slice_get list (length last.0)) last.1 ∙ last_at last.0 start)

    short_path : length new.members.items ≡ start
    short_path = ap length closes.members ∙ cut start old.members.items (kept.known.within start own_start)
      where
        cut : (n : ℕ) (list : List ℕ) → n ≤ length list → length (take n list) ≡ n
        cut zero list le = refl
        cut (suc n) [] le = absurd (omega (arith, le))
        cut (suc n) (x ∷ list) le = let rest = cut n list (omega (arith, le)) in omega (arith, rest)

    closes_known : IsSearch (Edge edges) (IsOpen new.marks.items) (IsDone new.marks.items) (IsStart new.starts.items) (Waits new.waiting.items) new.count (length new.members.items)
    closes_known =
        retold (Edge edges) (IsOpen new.marks.items) (IsOpen new.marks.items) (IsDone new.marks.items) (IsDone new.marks.items) (IsStart new.starts.items) (IsStart new.starts.items)
        (Waits old.waiting.items) (Waits new.waiting.items) (old.count + 1) new.count start (length new.members.items)
        (λ x i is. is) (λ x i is. is) (λ x c is. is) (λ x c is. is) (λ s is. is) (λ s is. is)
        (λ j z wait. (wait.0, ap (λ list. slice_get list wait.0) closes.waiting ∙ wait.1)) (λ j z wait. (wait.0, ap (λ list. slice_get list wait.0) (sym closes.waiting) ∙ wait.1))
        closes.count short_path
        (group_closed (Edge edges) (IsOpen old.marks.items) (IsDone old.marks.items) (IsStart old.starts.items) (Waits old.waiting.items) old.count (length old.members.items) kept.known
        (IsOpen new.marks.items) (IsDone new.marks.items) (IsStart new.starts.items) start own_start
        open_old open_stays (λ x c is. done_before start old.count (slice_get old.marks.items x) c (sym (closes.marks x) ∙ is)) (λ x c is. mark_after x (Done c) is)
        (λ x i is le. mark_after x (Open i) is ∙ done_after start old.count i le)
        start_old start_stays (greatest_start old.starts.items start kept.ascending last) none)

    pub closes_keeps : IsSearching edges new
    unfolding start_old
    closes_keeps = record {
      marks = closes.size ∙ kept.marks;
      placed = λ place x is.
          let own = at_take start old.members.items place x (ap (λ list. slice_get list place) (sym closes.members) ∙ is) in
          open_stays x place (kept.placed place x own.0) own.1;
      opened = λ x place is.
          let own = open_old x place is in
          ap (λ list. slice_get list place) closes.members ∙ take_at start old.members.items place x (kept.opened x place own.0) own.1;
      ascending = λ at further a b le is is'. kept.ascending at further a b le (start_old a (at, is)).1 (start_old b (further, is')).1;
      sorted = λ at further a b le is is'. kept.sorted at further a b le (ap (λ list. slice_get list at) (sym closes.waiting) ∙ is) (ap (λ list. slice_get list further) (sym closes.waiting) ∙ is');
      known = closes_known;
    }

    pub closes_seen : (x : ℕ) → slice_get new.marks.items x ≡ Some Unseen → slice_get old.marks.items x ≡ Some Unseen
    closes_seen x is = unseen_before start old.count (slice_get old.marks.items x) (sym (closes.marks x) ∙ is)

  -- ---- an edge to a node that was seen

  module _ (place node : ℕ) (last_wait : IsLast (place, node) old.waiting.items) where
    abbrev before : List (ℕ × ℕ)
    before = last_wait.0

    pub wait_fewer : (j z : ℕ) → Waits before j z → Waits old.waiting.items j z
    wait_fewer j z (at, is) = (at, ap (λ list. slice_get list at) last_wait.1 ∙ append_left before ((place, node) ∷ []) at (j, z) is)

    pub wait_one : (j z : ℕ) → Waits old.waiting.items j z → Waits before j z ⊎ ((j ≡ place) × (z ≡ node))
    wait_one j z (at, is) = elim (at_append before ((place, node) ∷ []) at (j, z) (ap (λ list. slice_get list at) (sym last_wait.1) ∙ is)) [
      | inl still ↦ inl (at, still)
      | inr own ↦ (let same = (at_one (place, node) own.0 (j, z) own.2).1 in inr (ap (λ (p : ℕ × ℕ). p.0) same, ap (λ (p : ℕ × ℕ). p.1) same))
    ]

    pub wait_sorted : AreSorted before
    wait_sorted at further a b le is is' =
        kept.sorted at further a b le (ap (λ list. slice_get list at) last_wait.1 ∙ append_left before ((place, node) ∷ []) at a is)
        (ap (λ list. slice_get list further) last_wait.1 ∙ append_left before ((place, node) ∷ []) further b is')

    pub own_wait : Waits old.waiting.items place node
    own_wait = (length before, ap (λ list. slice_get list (length before)) last_wait.1 ∙ last_at before (place, node))

    module _ (new : Search) (marks : new.marks.items ≡ old.marks.items) (members : new.members.items ≡ old.members.items) (waiting : new.waiting.items ≡ before) (count : new.count ≡ old.count)
        (starts : (s : ℕ) → IsStart new.starts.items s → IsStart old.starts.items s) (ascending : AreAscending new.starts.items)
        (known : IsSearch (Edge edges) (IsOpen old.marks.items) (IsDone old.marks.items) (IsStart new.starts.items) (Waits before) old.count (length old.members.items)) where
      pub same_keeps : IsSearching edges new
      same_keeps = record {
        marks = ap length marks ∙ kept.marks;
        placed = λ at x is. ap (λ list. slice_get list x) marks ∙ kept.placed at x (ap (λ list. slice_get list at) (sym members) ∙ is);
        opened = λ x at is. ap (λ list. slice_get list at) members ∙ kept.opened x at (ap (λ list. slice_get list x) (sym marks) ∙ is);
        ascending = ascending;
        sorted = λ at further a b le is is'. wait_sorted at further a b le (ap (λ list. slice_get list at) (sym waiting) ∙ is) (ap (λ list. slice_get list further) (sym waiting) ∙ is');
        known =
            retold (Edge edges) (IsOpen old.marks.items) (IsOpen new.marks.items) (IsDone old.marks.items) (IsDone new.marks.items) (IsStart new.starts.items) (IsStart new.starts.items)
            (Waits before) (Waits new.waiting.items) old.count new.count (length old.members.items) (length new.members.items)
            (λ x i is. ap (λ list. slice_get list x) marks ∙ is) (λ x i is. ap (λ list. slice_get list x) (sym marks) ∙ is)
            (λ x c is. ap (λ list. slice_get list x) marks ∙ is) (λ x c is. ap (λ list. slice_get list x) (sym marks) ∙ is)
            (λ s is. is) (λ s is. is)
            (λ j z wait. (wait.0, ap (λ list. slice_get list wait.0) waiting ∙ wait.1)) (λ j z wait. (wait.0, ap (λ list. slice_get list wait.0) (sym waiting) ∙ wait.1))
            count (ap length members) known;
      }

    -- it is done
    pub done_keeps : (new : Search) → new.marks.items ≡ old.marks.items → new.members.items ≡ old.members.items → new.starts.items ≡ old.starts.items → new.waiting.items ≡ before → new.count ≡ old.count
        → (c : ℕ) → IsDone old.marks.items node c → IsSearching edges new
    done_keeps new marks members starts waiting count c is =
        same_keeps new marks members waiting count (λ s begins. (begins.0, ap (λ list. slice_get list begins.0) (sym starts) ∙ begins.1))
        (λ at further a b le one two. kept.ascending at further a b le (ap (λ list. slice_get list at) (sym starts) ∙ one) (ap (λ list. slice_get list further) (sym starts) ∙ two))
        (retold (Edge edges) (IsOpen old.marks.items) (IsOpen old.marks.items) (IsDone old.marks.items) (IsDone old.marks.items) (IsStart old.starts.items) (IsStart new.starts.items)
        (Waits before) (Waits before) old.count old.count (length old.members.items) (length old.members.items)
        (λ x i o. o) (λ x i o. o) (λ x i o. o) (λ x i o. o)
        (λ s begins. (begins.0, ap (λ list. slice_get list begins.0) starts ∙ begins.1)) (λ s begins. (begins.0, ap (λ list. slice_get list begins.0) (sym starts) ∙ begins.1))
        (λ j z o. o) (λ j z o. o) refl refl
        (passed (Edge edges) (IsOpen old.marks.items) (IsDone old.marks.items) (IsStart old.starts.items) (Waits old.waiting.items) old.count (length old.members.items) kept.known
        (Waits before) place node wait_one wait_fewer (is_done c is)))

    -- it is open
    module _ (mid new : Search) (marks : mid.marks.items ≡ old.marks.items) (members : mid.members.items ≡ old.members.items) (starts : mid.starts.items ≡ old.starts.items)
        (waiting : mid.waiting.items ≡ before) (count : mid.count ≡ old.count) (at : ℕ) (is : IsOpen old.marks.items node at) (merges : Merges at mid new)
        (start : ℕ) (last : IsLast start old.starts.items) (here : start ≤ place) where
      kept_start : (s : ℕ) → IsStart new.starts.items s → IsStart old.starts.items s
      kept_start s (i, begins) = (i, ap (λ list. slice_get list i) (sym starts ∙ merges.starts.is) ∙ append_left new.starts.items merges.starts.left_out i s begins)

      lower_start : (s : ℕ) → IsStart old.starts.items s → s ≤ at → IsStart new.starts.items s
      lower_start s (i, begins) le = elim (at_append new.starts.items merges.starts.left_out i s (ap (λ list. slice_get list i) (sym merges.starts.is ∙ starts) ∙ begins)) [
        | inl still ↦ (i, still)
        | inr own ↦ absurd (omega (arith, merges.starts.above own.0 s own.2, le))
      ]

      still_ascending : AreAscending new.starts.items
      unfolding kept_start
      still_ascending i further a b le one two = kept.ascending i further a b le (kept_start a (i, one)).1 (kept_start b (further, two)).1

      start_low : (s : ℕ) → IsStart new.starts.items s → s ≤ at
      start_low s (i, begins) =
          let own = some_last new.starts.items i s begins in
          omega (arith, greatest_start new.starts.items own.0 still_ascending own.1 s (i, begins), merges.last own.0 own.1)

      pub merges_keeps : IsSearching edges new
      merges_keeps =
          let known = kept.known in
          let top : (s : ℕ) → IsStart old.starts.items s → s ≤ place = λ s begins. omega (arith, greatest_start old.starts.items start kept.ascending last s begins, here) in
          same_keeps new (merges.marks ∙ marks) (merges.members ∙ members) (merges.waiting ∙ waiting) (merges.count ∙ count) kept_start still_ascending
          (passed (Edge edges) (IsOpen old.marks.items) (IsDone old.marks.items) (IsStart new.starts.items) (Waits old.waiting.items) old.count (length old.members.items)
          (merged (Edge edges) (IsOpen old.marks.items) (IsDone old.marks.items) (IsStart old.starts.items) (Waits old.waiting.items) old.count (length old.members.items) known
          (IsStart new.starts.items) place node at own_wait top is kept_start start_low lower_start)
          (Waits before) place node wait_one wait_fewer (is_open at is (λ s begins le. start_low s begins)))
