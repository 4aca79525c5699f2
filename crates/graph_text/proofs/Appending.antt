-- The lines of a graph, and the text group by group.
use Rattle.std.proofs.Common.{◌≡◌, ℕ, suc, ◌+◌, ◌<◌, ◌≤◌, List, [], ◌∷◌, ◌++◌, map, length, get_or, drop, Option, Vec, Result, Ok, Err, OnOk, sym, ap, subst, ◌∙◌, append_assoc, arith}
use Rattle.std.specs.Prelude.{slice_get}
use Rattle.std.proofs.lemmas.List.{drop_more, drop_all}
use Rattle.c_typed.specs.Table.{Interned}
use Rattle.tac_ir.specs.declared.register.FunctionId.{FunctionId}
use Rattle.heap_graph.specs.declared.frozen.Node.{Node}
use Rattle.heap_graph.specs.declared.program.ProgramGraphs.{ProgramGraphs}
use Rattle.heap_graph.specs.declared.order.NodeOrder.{NodeOrder}
use Rattle.heap_graph.specs.Orders.{number_in, number_of, Visited, IsOrderOf}
use Rattle.graph_text.specs.declared.function_labels.Labels.{Labels}
use Rattle.graph_text.specs.declared.names.Named.{Named}
use Rattle.graph_text.specs.declared.names.Owner.TheVariants as O
use Rattle.graph_text.specs.Names.{own_names}
use Rattle.graph_text.specs.Texts.{name_lines, node_lines, start_heading, AppendsLines, AppendsGraph, AppendsGroup, AppendsGroups, start, next}

pub on_ok : {T E P Q : Type 0} (result : Result T E) → (P → Q) → OnOk result P → OnOk result Q
on_ok (Ok done) then h = then h
on_ok (Err fault) then h = h

pub appends_lines : (types : Interned) (labels : Labels) (nodes : List (Option Node)) (names : List Named) (before middle after starts : List ℕ) (made : NodeOrder)
    → starts ≡ map (λ (named : Named). named.target.node) names → IsOrderOf nodes starts made → middle ≡ before ++ name_lines labels (number_of made) names
    → after ≡ middle ++ node_lines types nodes (number_of made) made.order.items → AppendsLines types labels nodes names before after
appends_lines types labels nodes names before middle after starts made are is first second = record {
  order = made.order.items;
  met = subst (λ l. Visited nodes [] l made.order.items) are is.visited;
  lines = subst (λ (numbers : ℕ → ℕ). after ≡ before ++ (name_lines labels numbers names ++ node_lines types nodes numbers made.order.items)) same
      (second ∙ (ap (λ l. l ++ node_lines types nodes (number_of made) made.order.items) first ∙ append_assoc before (name_lines labels (number_of made) names) (node_lines types nodes (number_of made) made.order.items)));
}
  where
    same : number_of made ≡ number_in made.order.items
    same = λ i node. is.numbers node i

module _ {A : Type 0} (types : Interned) (graphs : ProgramGraphs) (labels : Labels) (groups : List (Vec FunctionId A)) where
  pub more_groups : (number : ℕ) (members default : Vec FunctionId A) (before middle : List ℕ) (whole : List ℕ → Type 0) → number < length groups → members ≡ get_or groups number default
      → AppendsGroup types graphs labels (slice_get graphs.graphs.items number) members.items before middle
      → ((after : List ℕ) → AppendsGroups types graphs labels number (drop number groups) before after → whole after)
      → (after : List ℕ) → AppendsGroups types graphs labels (number + 1) (drop (number + 1) groups) middle after → whole after
  more_groups number members default before middle whole within is appends keeps after rest =
      keeps after (subst (λ l. AppendsGroups types graphs labels number l before after) (ap (λ m. m ∷ drop (number + 1) groups) is ∙ sym (drop_more groups number default within))
      (next number members (drop (number + 1) groups) before middle after appends (subst (λ n. AppendsGroups types graphs labels n (drop (number + 1) groups) middle after) one_more rest)))
    where
      one_more : number + 1 ≡ suc number
      one_more = omega arith

  pub then_start : (number : ℕ) (before after : List ℕ) (whole : List ℕ → Type 0) → length groups ≤ number
      → ((after : List ℕ) → AppendsGroups types graphs labels number (drop number groups) before after → whole after)
      → AppendsGraph types labels graphs.start (own_names O.Start graphs.start_function.names) (before ++ start_heading) after → whole after
  then_start number before after whole end keeps appends =
      keeps after (subst (λ l. AppendsGroups types graphs labels number l before after) (sym (drop_all number groups end)) (start number before after appends))

  pub whole_text : (given : List (Vec FunctionId A)) (before after : List ℕ) → given ≡ groups → before ≡ [] → AppendsGroups types graphs labels 0 given before after → AppendsGroups types graphs labels 0 groups [] after
  whole_text given before after same empty appends =
      subst (λ l. AppendsGroups types graphs labels 0 l [] after) same (subst (λ l. AppendsGroups types graphs labels 0 given l after) empty appends)
