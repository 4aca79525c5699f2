-- Edges between components.
use Rattle.std.proofs.Common.{◌≡◌, ℕ, ◌<◌, ◌==◌, Bool, true, false, if◌then◌else◌, List, [], ◌∷◌, length, get_or, Some, inl, inr, refl, sym, ap, subst, ◌∙◌, arith, eqb-true, eq-eqb}
use Rattle.std.specs.Prelude.{slice_get}
use Rattle.std.proofs.lemmas.Bool.{false≢true, cases_lt}
use Rattle.std.proofs.lemmas.Option.{same_Some, slice_get_within, slice_get-get_or, get_or_from_slice_get}
use Rattle.call_graph.specs.RowLists.{Has}
use Rattle.call_graph.proofs.RowLists.{in_gathered, from_gathered}
use Rattle.call_graph.specs.Heads.{IsFirst, turned_edge, turned_edges}
use Rattle.call_graph.specs.Orders.{AreOfComponents}

pub one_first : {K : Type 0} (numbers : List K) (number : K) (a b : ℕ) → IsFirst numbers number a → IsFirst numbers number b → a ≡ b
one_first numbers number a b here there = elim (cases_lt a b) [
  | inl lt ↦ absurd (there.before a lt here.is)
  | inr le ↦ (elim (cases_lt b a) [ inl lt ↦ absurd (here.before b lt there.is) | inr le' ↦ omega (arith, le, le') ])
]

module _ (edges : List (ℕ × ℕ)) (heads : List ℕ) (of : AreOfComponents edges heads) where
  -- a node, its number, and the first node of that
  pub record IsUnder (node head : ℕ) : Type 0 where
    pub number : ℕ
    pub own : slice_get of.numbers node ≡ Some number
    pub first : IsFirst of.numbers number head
    pub itself : slice_get heads head ≡ Some head

  pub under : (node head : ℕ) → slice_get heads node ≡ Some head → IsUnder node head
  under node head is =
      let long = of.of_numbers.each in
      let lt = slice_get_within heads node head is in
      let number = get_or of.numbers node 0 in
      let own : slice_get of.numbers node ≡ Some number = slice_get-get_or of.numbers node 0 (omega (arith, lt, long)) in
      let found = of.of_numbers.head node number own in
      let same : found.0 ≡ head = same_Some found.0 head (sym found.1 ∙ is) in
      let first : IsFirst of.numbers number head = subst (λ (h : ℕ). IsFirst of.numbers number h) same found.2 in
      let again = of.of_numbers.head head number first.is in
      record {
        number = number;
        own = own;
        first = first;
        itself = again.1 ∙ ap Some (one_first of.numbers number again.0 head again.2 first);
      }

  pub record IsBetween (caller callee : ℕ) : Type 0 where
    pub from : ℕ
    pub to : ℕ
    pub edge : Has edges (from, to)
    pub of_from : slice_get heads from ≡ Some caller
    pub of_to : slice_get heads to ≡ Some callee
    pub apart : caller ≡ callee → ⊥

  pub turned_from : (callee caller : ℕ) → Has (turned_edges heads edges) (callee, caller) → IsBetween caller callee
  turned_from callee caller is =
      let found = from_gathered (turned_edge heads) edges (callee, caller) is in
      let inside = of.inside found.0 found.1 in
      by found.0 found.1 inside (get_or heads found.0.0 0 == get_or heads found.0.1 0) refl found.2
    where
      by : (edge : ℕ × ℕ) → Has edges edge → (edge.0 < length heads) × (edge.1 < length heads) → (b : Bool) → (get_or heads edge.0 0 == get_or heads edge.1 0) ≡ b
          → Has {X = ℕ × ℕ} (if b then [] else (get_or heads edge.1 0, get_or heads edge.0 0) ∷ []) (callee, caller) → IsBetween caller callee
      by edge has inside true e given = absurd given
      by edge has inside false e (inr none) = absurd none
      by edge has inside false e (inl same) =
          let low : callee ≡ get_or heads edge.1 0 = ap (λ (one : ℕ × ℕ). one.0) same in
          let high : caller ≡ get_or heads edge.0 0 = ap (λ (one : ℕ × ℕ). one.1) same in
          record {
            from = edge.0;
            to = edge.1;
            edge = has;
            of_from = slice_get-get_or heads edge.0 0 inside.0 ∙ ap Some (sym high);
            of_to = slice_get-get_or heads edge.1 0 inside.1 ∙ ap Some (sym low);
            apart = λ equal. absurd (false≢true (sym e ∙ eq-eqb (get_or heads edge.0 0) (get_or heads edge.1 0) (sym high ∙ (equal ∙ low))));
          }

  pub turned_to : (from to caller callee : ℕ) → Has edges (from, to) → slice_get heads from ≡ Some caller → slice_get heads to ≡ Some callee → (caller ≡ callee → ⊥) → Has (turned_edges heads edges) (callee, caller)
  turned_to from to caller callee has here there apart =
      let a : get_or heads from 0 ≡ caller = get_or_from_slice_get heads from caller 0 here in
      let b : get_or heads to 0 ≡ callee = get_or_from_slice_get heads to callee 0 there in
      in_gathered (turned_edge heads) edges (from, to) (callee, caller) has (by a b (get_or heads from 0 == get_or heads to 0) refl)
    where
      by : get_or heads from 0 ≡ caller → get_or heads to 0 ≡ callee → (t : Bool) → (get_or heads from 0 == get_or heads to 0) ≡ t
          → Has {X = ℕ × ℕ} (if t then [] else (get_or heads to 0, get_or heads from 0) ∷ []) (callee, caller)
      by a b true e = absurd (apart (sym a ∙ (eqb-true (get_or heads from 0) (get_or heads to 0) e ∙ b)))
      by a b false e = inl (λ i. (sym b i, sym a i))

  -- edges lead to lower numbers
  pub lower : (callee caller : ℕ) → IsBetween caller callee → (a : ℕ) → slice_get of.numbers caller ≡ Some a → (b : ℕ) × (slice_get of.numbers callee ≡ Some b) × (b < a) × (slice_get heads callee ≡ Some callee)
  lower callee caller between a is =
      let from = under between.from caller between.of_from in
      let to = under between.to callee between.of_to in
      let le = of.ranked (between.from, between.to) between.edge from.number to.number from.own to.own in
      let same : from.number ≡ a = same_Some from.number a (sym from.first.is ∙ is) in (
        to.number,
        to.first.is,
        elim (cases_lt to.number a) [
          | inl lt ↦ lt
          | inr ge ↦ (let equal : to.number ≡ from.number = omega (arith, le, same, ge) in
              absurd (between.apart (one_first of.numbers from.number caller callee from.first (subst (λ (n : ℕ). IsFirst of.numbers n callee) equal to.first))))
        ],
        to.itself,
      )
