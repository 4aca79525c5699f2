-- The nodes from which callers of a group's functions begin, one function after another.
use Rattle.std.proofs.Common.{◌≡◌, ◌⊎◌, inl, inr, ℕ, ◌+◌, ◌<◌, ◌≤◌, List, length, Option, Some, None, sym, ap, subst, ◌∙◌, arith}
use Rattle.std.specs.Prelude.{slice_get}
use Rattle.std.proofs.lemmas.Bool.{cases_lt}
use Rattle.std.proofs.lemmas.Option.{none-some, same_Some, slice_get_within}
use Rattle.tac_ir.specs.declared.register.FunctionId.{FunctionId}
use Rattle.heap_graph.specs.declared.frozen.FunctionNames.{FunctionNames}
use Rattle.heap_graph.specs.declared.frozen.FrozenGraph.{FrozenGraph}
use Rattle.heap_graph.specs.declared.marks.NodeMarks.{NodeMarks}
use Rattle.heap_graph.specs.Marks.{IsFresh, Adds, IsOutside, IsMentionedBy}
use Rattle.heap_graph.specs.Edges.{AreReached}
use Rattle.heap_graph.proofs.Adding.{adds_nothing, adds_both, adds_same}
use Rattle.heap_graph.proofs.Marking.{these_of_none, these_reached}
use Rattle.dsa_inlining.specs.Complete.{HasFunction, IsOutsideOne, IsSeen, AreEscaping}

-- the node of a formal or of the result of one of the first functions
abbrev pub IsOutsideFirst : List (Option FunctionId) → List FunctionNames → ℕ → ℕ → Type 0
IsOutsideFirst owners names count number = (one : IsOutsideOne owners names number) × (one.place < count)

module _ (owners : List (Option FunctionId)) (names : List FunctionNames) where
  pub outside_none : (marks : NodeMarks) → Adds marks marks (IsOutsideFirst owners names 0)
  outside_none marks = adds_nothing marks (IsOutsideFirst owners names 0) (λ number found. omega (arith, found.1))

  -- one owner more, which is a function
  pub outside_more : (old mid new : NodeMarks) (count : ℕ) (function : FunctionId) (own : FunctionNames) → slice_get owners count ≡ Some (Some function) → slice_get names count ≡ Some own
      → Adds old mid (IsOutsideFirst owners names count) → Adds mid new (IsOutside own) → Adds old new (IsOutsideFirst owners names (count + 1))
  outside_more old mid new count function own is there one two =
      adds_same old new (λ number. IsOutsideFirst owners names count number ⊎ IsOutside own number) (IsOutsideFirst owners names (count + 1)) to from
      (adds_both old mid new (IsOutsideFirst owners names count) (IsOutside own) one two)
    where
      to : (number : ℕ) → IsOutsideFirst owners names count number ⊎ IsOutside own number → IsOutsideFirst owners names (count + 1) number
      to number (inl found) = (found.0, omega (arith, found.1))
      to number (inr outside) = (record { place = count; function = function; is = is; own = own; there = there; outside = outside }, omega arith)

      last : (number : ℕ) (found : IsOutsideOne owners names number) → found.place ≡ count → IsOutside own number
      last number found same =
          let one : found.own ≡ own = same_Some found.own own (sym found.there ∙ (ap (slice_get names) same ∙ there)) in
          subst (λ n. IsOutside n number) one found.outside

      from : (number : ℕ) → IsOutsideFirst owners names (count + 1) number → IsOutsideFirst owners names count number ⊎ IsOutside own number
      from number found = elim (cases_lt found.0.place count) [ inl lt ↦ inl (found.0, lt) | inr le ↦ inr (last number found.0 (omega (arith, le, found.1))) ]

  -- one owner more, which is `start`
  pub outside_same : (old new : NodeMarks) (count : ℕ) → slice_get owners count ≡ Some None → Adds old new (IsOutsideFirst owners names count) → Adds old new (IsOutsideFirst owners names (count + 1))
  outside_same old new count is one =
      adds_same old new (IsOutsideFirst owners names count) (IsOutsideFirst owners names (count + 1)) (λ number found. (found.0, omega (arith, found.1))) from one
    where
      from : (number : ℕ) → IsOutsideFirst owners names (count + 1) number → IsOutsideFirst owners names count number
      from number found =
          elim (cases_lt found.0.place count) [
            | inl lt ↦ (found.0, lt)
            | inr le ↦ let same : found.0.place ≡ count = omega (arith, le, found.1) in absurd (none-some found.0.function (same_Some None (Some found.0.function) (sym is ∙ ap (slice_get owners) (sym same) ∙ found.0.is)))
          ]

  outside_all : (old new : NodeMarks) (count : ℕ) → length owners ≤ count → Adds old new (IsOutsideFirst owners names count) → Adds old new (IsOutsideOne owners names)
  outside_all old new count long = adds_same old new (IsOutsideFirst owners names count) (IsOutsideOne owners names) (λ number found. found.0)
      (λ number one. let within : one.place < length owners = slice_get_within owners one.place (Some one.function) one.is in (one, omega (arith, within, long)))

  -- ---- from all of them

  module _ (graph : FrozenGraph) (fresh begun : NodeMarks) (count : ℕ) (none : IsFresh graph.nodes.items fresh) (long : length owners ≤ count) (outside : Adds fresh begun (IsOutsideFirst owners names count)) where
    escape_from : (starts marks : NodeMarks) → Adds fresh starts (IsSeen graph owners names) → AreReached graph.nodes.items starts marks → AreEscaping graph owners names marks
    escape_from starts marks adds reached =
        let these = these_reached graph.nodes.items starts marks (IsSeen graph owners names) (these_of_none graph.nodes.items fresh starts (IsSeen graph owners names) none adds) reached in
        record { size = these.size; exactly = these.exactly }

    pub escaping_function : (starts marks : NodeMarks) → HasFunction owners → Adds begun starts (IsMentionedBy graph) → AreReached graph.nodes.items starts marks → AreEscaping graph owners names marks
    escaping_function starts marks has adds = escape_from starts marks
        (adds_same fresh starts (λ number. IsOutsideOne owners names number ⊎ IsMentionedBy graph number) (IsSeen graph owners names) to from
        (adds_both fresh begun starts (IsOutsideOne owners names) (IsMentionedBy graph) (outside_all fresh begun count long outside) adds))
      where
        to : (number : ℕ) → IsOutsideOne owners names number ⊎ IsMentionedBy graph number → IsSeen graph owners names number
        to number (inl one) = inl one
        to number (inr mentioned) = inr (has, mentioned)

        from : (number : ℕ) → IsSeen graph owners names number → IsOutsideOne owners names number ⊎ IsMentionedBy graph number
        from number (inl one) = inl one
        from number (inr mentioned) = inr mentioned.1

    pub escaping_start : (marks : NodeMarks) → (HasFunction owners → ⊥) → AreReached graph.nodes.items begun marks → AreEscaping graph owners names marks
    escaping_start marks never = escape_from begun marks
        (adds_same fresh begun (IsOutsideOne owners names) (IsSeen graph owners names) (λ number one. inl one) from (outside_all fresh begun count long outside))
      where
        from : (number : ℕ) → IsSeen graph owners names number → IsOutsideOne owners names number
        from number (inl one) = one
        from number (inr mentioned) = absurd (never mentioned.0)
