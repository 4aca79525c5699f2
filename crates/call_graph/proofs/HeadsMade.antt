-- The first nodes of components are the first functions of groups.
use Rattle.std.proofs.Common.{◌≡◌, ℕ, ◌<◌, List, map, length, Vec, Some, sym, ap, subst, ◌∙◌, arith}
use Rattle.std.specs.Prelude.{slice_get, vec_items}
use Rattle.std.proofs.lemmas.List.{length-map}
use Rattle.std.proofs.lemmas.Option.{same_Some, slice_get-map, slice_get_within}
use Rattle.call_graph.specs.Search.{Path, stay, along}
use Rattle.call_graph.specs.Searches as S
use Rattle.call_graph.specs.Searches.{Edge, AreComponents}
use Rattle.call_graph.specs.RowLists.{Has}
use Rattle.call_graph.specs.Rows.{row_of, AreRows}
use Rattle.call_graph.proofs.RowLists.{has_at, at_has}
use Rattle.call_graph.proofs.RowEdges.{row_edge, edge_row}
use Rattle.call_graph.specs.Heads.{IsFirst, AreHeads, AreInside}
use Rattle.call_graph.specs.Orders.{AreOfComponents}
use Rattle.call_graph.proofs.Turned.{one_first, under}
use Rattle.call_graph.specs.GroupLists.{Leads, AreCallHeads}

module _ {A B : Type 0} (count : ℕ) (edges : List (ℕ × ℕ)) (rows : Vec (Vec ℕ A) B) (are_rows : AreRows count edges rows) (inside : AreInside count edges) where
  abbrev lists : List (List ℕ)
  lists = map vec_items rows.items

  row : (node : ℕ) → node < count → slice_get lists node ≡ Some (row_of node edges)
  row node lt = slice_get-map vec_items rows.items node ∙ are_rows.row node lt

  long : length lists ≡ count
  long = length-map rows.items vec_items ∙ are_rows.each

  edge_of : (a b : ℕ) → Has edges (a, b) → Edge lists a b
  edge_of a b has =
      let at = at_has (row_of a edges) b (edge_row a b edges has) in
      record { targets = row_of a edges; row = row a (inside (a, b) has).0; at = at.0; is = at.1 }

  has_of : (a b : ℕ) → Edge lists a b → Has edges (a, b)
  has_of a b edge =
      let lt : a < count = omega (arith, slice_get_within lists a edge.targets edge.row, long) in
      let same : edge.targets ≡ row_of a edges = same_Some edge.targets (row_of a edges) (sym edge.row ∙ row a lt) in
      row_edge a b edges (subst (λ l. Has l b) same (has_at edge.targets edge.at b edge.is))

  pub inside_rows : S.AreInside lists
  inside_rows from to edge = omega (arith, (inside (from, to) (has_of from to edge)).1, long)

  path_in : (a b : ℕ) → Path (Leads edges) a b → Path (Edge lists) a b
  path_in a b (stay _) = stay a
  path_in a b (along _ next _ edge rest) = along a next b (edge_of a next edge) (path_in next b rest)

  path_out : (a b : ℕ) → Path (Edge lists) a b → Path (Leads edges) a b
  path_out a b (stay _) = stay a
  path_out a b (along _ next _ edge rest) = along a next b (has_of a next edge) (path_out next b rest)

  module _ (numbers heads : List ℕ) (made : AreComponents lists numbers) (first : AreHeads numbers heads) where
    each : length heads ≡ count
    each = first.each ∙ (made.each ∙ long)

    of_components : AreOfComponents edges heads
    of_components = record {
      numbers = numbers;
      of_numbers = first;
      inside = λ edge has. subst (λ n. (edge.0 < n) × (edge.1 < n)) (sym each) (inside edge has);
      ranked = λ edge has a b here there.
          let callee = made.callees edge.0 edge.1 a here (edge_of edge.0 edge.1 has) in
          let same : b ≡ callee.0 = same_Some b callee.0 (sym there ∙ callee.1) in
          omega (arith, callee.2, same);
    }

    pub call_heads : AreCallHeads count edges heads
    unfolding of_components
    call_heads = record {
      each = each;
      of = of_components;
      together = λ a b head here there.
          let x = under edges heads of_components a head here in
          let y = under edges heads of_components b head there in
          let same : x.number ≡ y.number = same_Some x.number y.number (sym x.first.is ∙ y.first.is) in
          path_out a b (made.together a b x.number x.own (y.own ∙ ap Some (sym same)));
      same = λ a b head other here there to from.
          let x = under edges heads of_components a head here in
          let y = under edges heads of_components b other there in
          let same : x.number ≡ y.number = made.same a b x.number y.number x.own y.own (path_in a b to) (path_in b a from) in
          one_first numbers y.number head other (subst (λ (n : ℕ). IsFirst numbers n head) same x.first) y.first;
    }
