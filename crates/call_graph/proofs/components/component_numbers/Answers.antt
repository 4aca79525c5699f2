use Rattle.std.proofs.Common.{◌≡◌, ℕ, ◌≤◌, length, map, Some, sym, ap, subst, ◌∙◌, arith}
use Rattle.std.specs.Prelude.{slice_get, vec_items}
use Rattle.std.proofs.lemmas.List.{length-map}
use Rattle.std.proofs.lemmas.Option.{slice_get_within}
use Rattle.std.proofs.lemmas.Result.{IfOk-weaker}
use Rattle.call_graph.specs.declared.components.Mark.TheVariants.{Unseen}
use Rattle.call_graph.specs.Searches.{component_of, AreComponents}
use Rattle.call_graph.proofs.SearchEnds.{ended_components}
use Rattle.call_graph.proofs.components.component_numbers.Goals as goal

pub returns : goal.returns
returns c =
    let edges = map vec_items c.args.edges.now in
    let marks = c.loop-root.search.marks.items in
    let known = c.loop-root.invariant in
    let all : (node : ℕ) → slice_get marks node ≡ Some Unseen → length marks ≤ c.loop-root.root → ⊥ = λ node is le. known.seen node (omega (arith, slice_get_within marks node Unseen is, le)) is in
    let long : length marks ≤ c.loop-root.root = omega (arith, known.keeps.marks, length-map c.args.edges.now vec_items, c.loop-root-test.false) in
    let found = ended_components edges c.loop-root.search known.keeps known.ended (λ node is. all node is long) in
    IfOk-weaker c.numbers.result _ _ (λ made e. subst (AreComponents edges) (sym (e ∙ ap (map component_of) c.as_slice.ensures.value)) found) c.numbers.ensures
