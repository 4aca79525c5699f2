-- Nodes that are of arrays only where copies ask for it, one step after the other.
use Rattle.std.proofs.Common.{◌≡◌, ◌⊎◌, inl, inr, ℕ, true, Option, Some, sym, ap, subst, ◌∙◌}
use Rattle.std.proofs.lemmas.Bool.{cases_eq}
use Rattle.std.proofs.lemmas.Option.{same_Some}
use Rattle.heap_graph.specs.Graphs.{Element, Flags, Node, Name, OfCopy, Graph, node_at}
use Rattle.graph_unification.specs.Changes.{SetsFlags}
use Rattle.dsa_inlining.specs.CallCopies.Telling.{ArrayTold, ArraysTold, AsksCopy, OnlyAsked}

-- ---- graphs

pub only_same : (asked : ℕ → Element → Type 0) (graph : Graph) → OnlyAsked asked graph graph
only_same asked graph number a b here there is = inl (ap (λ (n : Node). n.flags.array) (same_Some a b (sym here ∙ there)) ∙ is)

pub only_then : (asked : ℕ → Element → Type 0) (one two three : Graph) → ArraysTold one two → OnlyAsked asked one two → OnlyAsked asked two three → OnlyAsked asked one three
only_then asked one two three arrays first then number a c here there is =
    by (then number middle.now c middle.is there is)
  where
    middle : ArrayTold two number a
    middle = arrays.nodes number a here

    by : (middle.now.flags.array ≡ true) ⊎ asked number middle.now.element → (a.flags.array ≡ true) ⊎ asked number a.element
    by (inl was) = first number a middle.now here middle.is was
    by (inr asks) = inr (subst (asked number) (ap (λ (n : Node). n.element) middle.same) asks)

pub only_more : (less more : ℕ → Element → Type 0) (old new : Graph) → ((number : ℕ) (element : Element) → less number element → more number element) → OnlyAsked less old new → OnlyAsked more old new
only_more less more old new asks its number a b here there is = by (its number a b here there is)
  where
    by : (a.flags.array ≡ true) ⊎ less number a.element → (a.flags.array ≡ true) ⊎ more number a.element
    by (inl was) = inl was
    by (inr asked) = inr (asks number a.element asked)

-- a flag of one node was set
pub one_asked : (asked : ℕ → Element → Type 0) (old new : Graph) (number : ℕ) (own : Node) (flags : Flags) → node_at old number ≡ Some own → asked number own.element → SetsFlags old new number flags → OnlyAsked asked old new
one_asked asked old new number own flags own_is asks sets other a b here there is = by (cases_eq other number)
  where
    by : (other ≡ number) ⊎ (other ≡ number → ⊥) → (a.flags.array ≡ true) ⊎ asked other a.element
    by (inl same) =
        let one : own ≡ a = same_Some own a (sym own_is ∙ ap (node_at old) (sym same) ∙ here) in
        inr (subst (λ n. asked n a.element) (sym same) (subst (λ (n : Node). asked number n.element) one asks))
    by (inr apart) = inl (ap (λ (n : Node). n.flags.array) (same_Some a b (sym here ∙ (sym (sets.others other apart) ∙ there))) ∙ is)

-- ---- what asks

-- names are those of the graph before
pub copy_asked : (old new callee : Graph) (copies : ℕ → Option ℕ) → ((name : Name) → new.targets name ≡ old.targets name) → (number : ℕ) (element : Element) → AsksCopy new callee copies number element
    → AsksCopy old callee copies number element
copy_asked old new callee copies names number element asks = record {
  from = asks.from;
  copy = asks.copy;
  of = asks.of;
  node = asks.node;
  there = asks.there;
  target = asks.target;
  is = sym (names (OfCopy asks.copy)) ∙ asks.is;
  at = asks.at;
  asks = asks.asks;
}
