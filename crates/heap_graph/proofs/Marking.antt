-- Exactly the marked numbers of a graph.
use Rattle.std.proofs.Common.{◌≡◌, ℕ, ◌<◌, ◌↔◌, ◌⊎◌, inl, inr, true, false, List, length, get_or, Option, sym, ap, ◌∙◌, arith}
use Rattle.std.proofs.lemmas.Bool.{false≢true}
use Rattle.std.proofs.lemmas.List.{length-replicate, get_or-replicate}
use Rattle.heap_graph.specs.declared.frozen.Node.{Node}
use Rattle.heap_graph.specs.declared.marks.NodeMarks.{NodeMarks}
use Rattle.heap_graph.specs.Marks.{is_marked, IsFresh, Adds}
use Rattle.heap_graph.specs.Edges.{Comes, AreReached}
use Rattle.heap_graph.proofs.Coming.{comes_within}

-- of the graph's numbers, exactly these are marked
pub record AreThese (nodes : List (Option Node)) (marks : NodeMarks) (these : ℕ → Type 0) : Type 0 where
  pub size : length marks.marks.items ≡ length nodes
  pub exactly : (number : ℕ) → number < length nodes → (is_marked marks number ≡ true) ↔ these number

pub these_of_none : (nodes : List (Option Node)) (fresh new : NodeMarks) (added : ℕ → Type 0) → IsFresh nodes fresh → Adds fresh new added → AreThese nodes new added
these_of_none nodes fresh new added none adds =
    record {
      size = adds.size ∙ size;
      exactly = λ number within. let same = adds.exactly number (omega (arith, within, size)) in (λ is. by number within (same.0 is), λ is. same.1 (inr is));
    }
  where
    size : length fresh.marks.items ≡ length nodes
    size = ap length none ∙ length-replicate (length nodes) false

    by : (number : ℕ) → number < length nodes → is_marked fresh number ≡ true ⊎ added number → added number
    by number within (inl is) = absurd (false≢true (sym (ap (λ l. get_or l number false) none ∙ get_or-replicate (length nodes) number false false within) ∙ is))
    by number within (inr is) = is

-- all to which edges lead from these
pub these_reached : (nodes : List (Option Node)) (starts found : NodeMarks) (these : ℕ → Type 0) → AreThese nodes starts these → AreReached nodes starts found
    → AreThese nodes found (λ number. (start : ℕ) × these start × Comes nodes start number)
these_reached nodes starts found these begun reached =
    record {
      size = reached.size;
      exactly = λ number within. (
        λ is. (let from = (reached.exactly number within).0 is in (from.0, (begun.exactly from.0 (comes_within nodes from.0 number from.2 within)).0 from.1, from.2)),
        λ from. (reached.exactly number within).1 (from.0, (begun.exactly from.0 (comes_within nodes from.0 number from.2 within)).1 from.1, from.2),
      );
    }

-- more are added
pub these_more : (nodes : List (Option Node)) (old new : NodeMarks) (these added : ℕ → Type 0) → AreThese nodes old these → Adds old new added → AreThese nodes new (λ number. these number ⊎ added number)
these_more nodes old new these added begun adds =
    record {
      size = adds.size ∙ begun.size;
      exactly = λ number within.
          let same = adds.exactly number (omega (arith, within, begun.size)) in
          (λ is. to number within (same.0 is), λ or. same.1 (from number within or));
    }
  where
    to : (number : ℕ) → number < length nodes → is_marked old number ≡ true ⊎ added number → these number ⊎ added number
    to number within (inl is) = inl ((begun.exactly number within).0 is)
    to number within (inr is) = inr is

    from : (number : ℕ) → number < length nodes → these number ⊎ added number → is_marked old number ≡ true ⊎ added number
    from number within (inl is) = inl ((begun.exactly number within).1 is)
    from number within (inr is) = inr is

-- these, said in other words
pub these_same : (nodes : List (Option Node)) (marks : NodeMarks) (these other : ℕ → Type 0) → ((number : ℕ) → these number ↔ other number) → AreThese nodes marks these → AreThese nodes marks other
these_same nodes marks these other same are =
    record { size = are.size; exactly = λ number within. (λ is. (same number).0 ((are.exactly number within).0 is), λ is. (are.exactly number within).1 ((same number).1 is)) }

-- none of a graph's nodes
pub these_none : (nodes : List (Option Node)) (marks : NodeMarks) → IsFresh nodes marks → AreThese nodes marks (λ number. ⊥)
these_none nodes marks fresh =
    record {
      size = ap length fresh ∙ length-replicate (length nodes) false;
      exactly = λ number within. (
        λ is. (absurd (false≢true (sym (ap (λ l. get_or l number false) fresh ∙ get_or-replicate (length nodes) number false false within) ∙ is))),
        λ never. absurd never,
      );
    }
