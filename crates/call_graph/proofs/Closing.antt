-- A group is closed node by node.
use Rattle.std.proofs.Common.{◌≡◌, ℕ, ◌+◌, ◌-◌, ◌<◌, ◌≤◌, ◌⊎◌, Bool, true, false, List, [], ◌∷◌, ◌++◌, length, take, set, Option, Some, None, if◌then◌else◌, nat_lt, inl, inr, refl, sym, ap, ◌∙◌, arith, length-append, ltb-false}
use Rattle.std.specs.Prelude.{slice_get, option_map}
use Rattle.std.proofs.lemmas.Bool.{cases_lt, cases_eq}
use Rattle.std.proofs.lemmas.Option.{same_Some, slice_get_within}
use Rattle.call_graph.specs.declared.components.Mark.{Mark}
use Rattle.call_graph.specs.declared.components.Mark.TheVariants.{Unseen, Open, Done}
use Rattle.call_graph.specs.declared.components.Search.{Search}
use Rattle.call_graph.specs.Searches.{AreMarked, Finishes, closed_mark}
use Rattle.call_graph.proofs.Places.{set_same, set_other, last_at, at_take, take_at}
use Rattle.call_graph.proofs.ClosedMarks.{open_before, open_after, done_after}
use Rattle.call_graph.proofs.Lasts.{length_take, take_long, front_of_front}

-- no open node is at this place or above
pub unfinished : (members : List ℕ) (marks : List Mark) (start count : ℕ) → AreMarked members marks → length members ≤ start → (x : ℕ)
    → slice_get marks x ≡ option_map (closed_mark start count) (slice_get marks x)
unfinished members marks start count marked le x = by (slice_get marks x) refl
  where
    by : (m : Option Mark) → slice_get marks x ≡ m → m ≡ option_map (closed_mark start count) m
    by None is = refl
    by (Some Unseen) is = refl
    by (Some (Done c)) is = refl
    by (Some (Open i)) is = sym (open_after start count i (omega (arith, slice_get_within members i x (marked.opened x i is), le)))

module _ (members before : List ℕ) (marks : List Mark) (node : ℕ) (marked : AreMarked members marks) (e : members ≡ before ++ node ∷ []) where
  own_mark : slice_get marks node ≡ Some (Open (length before))
  own_mark = marked.placed (length before) node (ap (λ l. slice_get l (length before)) e ∙ last_at before node)

  pub own_inside : node < length marks
  own_inside = slice_get_within marks node (Open (length before)) own_mark

  shorter : length members - 1 ≡ length before
  shorter = omega (arith, ap length e ∙ length-append before (node ∷ []))

  pub finished : (count x : ℕ) → slice_get (set marks node (Done count)) x ≡ option_map (closed_mark (length members - 1) count) (slice_get marks x)
  finished count x = elim (cases_eq x node) [
    | inl same ↦ (ap (slice_get (set marks node (Done count))) same ∙ set_same marks node (Done count) own_inside)
        ∙ sym (ap (option_map (closed_mark (length members - 1) count)) (ap (slice_get marks) same ∙ own_mark) ∙ done_after (length members - 1) count (length before) (omega (arith, shorter)))
    | inr other ↦ set_other marks node x (Done count) other ∙ by other (slice_get marks x) refl
  ]
    where
      by : (x ≡ node → ⊥) → (m : Option Mark) → slice_get marks x ≡ m → m ≡ option_map (closed_mark (length members - 1) count) m
      by other None is = refl
      by other (Some Unseen) is = refl
      by other (Some (Done c)) is = refl
      by other (Some (Open i)) is =
          let here = marked.opened x i is in
          elim (cases_lt i (length before)) [
            | inl lt ↦ sym (open_after (length members - 1) count i (omega (arith, lt, shorter)))
            | inr le ↦ (let at : i ≡ length before = omega (arith, le, shorter, slice_get_within members i x here) in
                absurd (other (same_Some x node (sym here ∙ (ap (slice_get members) at ∙ (ap (λ l. slice_get l (length before)) e ∙ last_at before node))))))
          ]

pub closed_twice : (a b count : ℕ) (m : Option Mark) → a ≤ b → option_map (closed_mark a count) (option_map (closed_mark b count) m) ≡ option_map (closed_mark a count) m
closed_twice a b count None le = refl
closed_twice a b count (Some Unseen) le = refl
closed_twice a b count (Some (Done c)) le = refl
closed_twice a b count (Some (Open i)) le = by (nat_lt i b) refl
  where
    by : (t : Bool) → nat_lt i b ≡ t → option_map (closed_mark a count) (Some (if t then Open i else Done count)) ≡ option_map (closed_mark a count) (Some (Open i))
    by true lt = refl
    by false ge = sym (done_after a count i (omega (arith, ltb-false i b ge, le)))

module _ (old new : Search) (marked : AreMarked old.members.items old.marks.items) (some : 0 < length old.members.items) (finishes : Finishes old new) where
  pub fewer : length new.members.items + 1 ≡ length old.members.items
  fewer = omega (arith, some, ap length finishes.members ∙ length_take (length old.members.items - 1) old.members.items (omega arith))

  mark_then : (x i : ℕ) → slice_get new.marks.items x ≡ Some (Open i) → (slice_get old.marks.items x ≡ Some (Open i)) × (i < length old.members.items - 1)
  mark_then x i is = open_before (length old.members.items - 1) old.count (slice_get old.marks.items x) i (sym (finishes.marks x) ∙ is)

  pub still_marked : AreMarked new.members.items new.marks.items
  still_marked = record {
    placed = λ place node is.
        let own = at_take (length old.members.items - 1) old.members.items place node (ap (λ l. slice_get l place) (sym finishes.members) ∙ is) in
        finishes.marks node ∙ (ap (option_map (closed_mark (length old.members.items - 1) old.count)) (marked.placed place node own.0) ∙ open_after (length old.members.items - 1) old.count place own.1);
    opened = λ node place is.
        let own = mark_then node place is in
        ap (λ l. slice_get l place) finishes.members ∙ take_at (length old.members.items - 1) old.members.items place node (marked.opened node place own.0) own.1;
  }

  pub still_front : (first : List ℕ) → old.members.items ≡ take (length old.members.items) first → new.members.items ≡ take (length new.members.items) first
  still_front first e = finishes.members ∙ (front_of_front (length old.members.items - 1) old.members.items first e ∙ ap (λ l. take (length l) first) (sym finishes.members))

  pub still_closed : (first : List Mark) (count : ℕ) → old.count ≡ count → ((x : ℕ) → slice_get old.marks.items x ≡ option_map (closed_mark (length old.members.items) count) (slice_get first x)) → (x : ℕ)
      → slice_get new.marks.items x ≡ option_map (closed_mark (length new.members.items) count) (slice_get first x)
  still_closed first count same closed x =
      let n : length old.members.items - 1 ≡ length new.members.items = omega (arith, fewer) in
      finishes.marks x
      ∙ ((λ i. option_map (closed_mark (n i) (same i)) (slice_get old.marks.items x))
      ∙ (ap (option_map (closed_mark (length new.members.items) count)) (closed x)
      ∙ closed_twice (length new.members.items) (length old.members.items) count (slice_get first x) (omega (arith, fewer))))

-- all from the start on are closed
module _ (members : List ℕ) (marks : List Mark) (members' : List ℕ) (marks' : List Mark) (start count : ℕ) (marked : AreMarked members marks)
    (front : members' ≡ take (length members') members) (enough : (start ≤ length members') ⊎ (members' ≡ members))
    (closed : (x : ℕ) → slice_get marks' x ≡ option_map (closed_mark (length members') count) (slice_get marks x)) (low : length members' ≤ start) where
  pub closed_members : members' ≡ take start members
  closed_members = elim enough [
    | inl le ↦ (let same : length members' ≡ start = omega (arith, le, low) in front ∙ ap (λ n. take n members) same)
    | inr same ↦ same ∙ sym (take_long start members (let long = ap length same in omega (arith, long, low)))
  ]

  pub closed_marks : (x : ℕ) → slice_get marks' x ≡ option_map (closed_mark start count) (slice_get marks x)
  closed_marks x = elim enough [
    | inl le ↦ (let same : length members' ≡ start = omega (arith, le, low) in closed x ∙ ap (λ n. option_map (closed_mark n count) (slice_get marks x)) same)
    | inr same ↦ (let long = ap length same in
        closed x ∙ (sym (unfinished members marks (length members') count marked (omega (arith, long)) x) ∙ unfinished members marks start count marked (omega (arith, long, low)) x))
  ]
