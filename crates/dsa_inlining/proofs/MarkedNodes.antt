-- Nodes of which it is told one after another whether they are complete.
use Rattle.std.proofs.Common.{◌≡◌, ℕ, ◌+◌, ◌<◌, ◌≤◌, ◌⊎◌, inl, inr, Bool, eqb, List, length, get_or, Option, Some, refl, sym, ap, subst, ◌∙◌, arith}
use Rattle.std.proofs.Math.ListN.{set}
use Rattle.std.specs.Prelude.{not, slice_get, option_map}
use Rattle.std.proofs.lemmas.Bool.{cases_lt, cases_eq, cond-true, cond-false, eq-eqb, ne_eqb}
use Rattle.std.proofs.lemmas.List.{length-set}
use Rattle.std.proofs.lemmas.Option.{slice_get_past}
use Rattle.heap_graph.specs.declared.frozen.Node.{Node}
use Rattle.heap_graph.specs.Frozen.{inner, node_there}
use Rattle.heap_graph.specs.declared.marks.NodeMarks.{NodeMarks}
use Rattle.graph_unification.proofs.ToldLists.{after_set}
use Rattle.heap_graph.specs.Marks.{is_marked}
use Rattle.heap_graph.proofs.Nodes.{item_there}
use Rattle.dsa_inlining.specs.Complete.{with_complete, MarksNode, MarksComplete}

-- a node that is set
pub set_there : (nodes : List (Option Node)) (number : ℕ) (complete : Bool) (item node : Option Node) → number < length nodes → item ≡ get_or nodes number item → node ≡ option_map (with_complete complete) item
    → MarksNode number complete nodes (set nodes number node)
set_there nodes number complete item node within value is = record {
  size = length-set nodes number node;
  at = ap inner (after_set nodes number node within number ∙ cond-true (eqb number number) (Some node) (slice_get nodes number) (eq-eqb number number refl)) ∙ is
      ∙ ap (option_map (with_complete complete)) (sym (item_there nodes number item within value));
  others = λ other differ. ap inner (after_set nodes number node within other ∙ cond-false (eqb number other) (Some node) (slice_get nodes other) (ne_eqb number other (λ e. differ (sym e))));
}

-- ---- one after another

pub record MarksFirst (marks : NodeMarks) (old new : List (Option Node)) (count : ℕ) : Type 0 where
  pub size : length new ≡ length old
  pub first : (number : ℕ) → number < count → node_there new number ≡ option_map (with_complete (not (is_marked marks number))) (node_there old number)
  pub others : (number : ℕ) → count ≤ number → node_there new number ≡ node_there old number

module _ (marks : NodeMarks) (old : List (Option Node)) where
  pub marks_none : MarksFirst marks old old 0
  marks_none = record { size = refl; first = λ number less. absurd (omega (arith, less)); others = λ number le. refl }

  pub marks_more : (mid new : List (Option Node)) (count : ℕ) (complete : Bool) → complete ≡ not (is_marked marks count) → MarksFirst marks old mid count → MarksNode count complete mid new
      → MarksFirst marks old new (count + 1)
  marks_more mid new count complete is first one = record {
    size = one.size ∙ first.size;
    first = λ number less. by number less (cases_eq number count);
    others = λ number over.
        let other : (number ≡ count → ⊥) = λ e. omega (arith, over, e) in
        let past : count ≤ number = omega (arith, over) in
        one.others number other ∙ first.others number past;
  }
    where
      by : (number : ℕ) → number < count + 1 → (number ≡ count) ⊎ (number ≡ count → ⊥) → node_there new number ≡ option_map (with_complete (not (is_marked marks number))) (node_there old number)
      by number less (inl e) =
          subst (λ n. node_there new n ≡ option_map (with_complete (not (is_marked marks n))) (node_there old n)) (sym e)
          (one.at ∙ ap (λ b. option_map (with_complete b) (node_there mid count)) is ∙ ap (option_map (with_complete (not (is_marked marks count)))) (first.others count (omega arith)))
      by number less (inr differ) = one.others number differ ∙ first.first number (omega (arith, less, differ))

  pub marks_all : (new : List (Option Node)) (count : ℕ) → length new ≤ count → MarksFirst marks old new count → MarksComplete marks old new
  marks_all new count long first = λ number. elim (cases_lt number count) [ inl lt ↦ first.first number lt | inr le ↦ past number le ]
    where
      past : (number : ℕ) → count ≤ number → node_there new number ≡ option_map (with_complete (not (is_marked marks number))) (node_there old number)
      past number le =
          ap inner (slice_get_past new number (omega (arith, le, long)))
          ∙ ap (option_map (with_complete (not (is_marked marks number)))) (sym (ap inner (slice_get_past old number (omega (arith, le, long, first.size)))))
