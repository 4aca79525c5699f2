use Rattle.std.proofs.Common.{List, ℕ, map, sym, subst}
use Rattle.std.specs.Prelude.{vec_items}
use Rattle.std.proofs.lemmas.Result.{IfOk-weaker}
use Rattle.call_graph.specs.Searches.{AreInside, AreComponents}
use Rattle.call_graph.specs.Heads.{AreHeads}
use Rattle.call_graph.proofs.HeadsMade.{inside_rows, call_heads}
use Rattle.call_graph.proofs.grouping.call_heads.Goals as goal

pub component_numbers-requires : goal.component_numbers-requires
component_numbers-requires c = subst (λ l. AreInside (map vec_items l)) (sym c.as_slice.ensures.value) (inside_rows c.args.count c.args.edges.now c.in_ok-rows.rows c.in_ok-rows.ensures c.requires)

pub returns : goal.returns
returns c =
    let numbers = c.in_ok-numbers.numbers.items in
    let made = subst (λ l. AreComponents (map vec_items l) numbers) c.as_slice.ensures.value c.in_ok-numbers.ensures in
    IfOk-weaker c.heads.result _ _ (λ heads e.
    call_heads c.args.count c.args.edges.now c.in_ok-rows.rows c.in_ok-rows.ensures c.requires numbers heads.items made (subst (λ (l : List ℕ). AreHeads l heads.items) c.as_slice-2.ensures.value e)) c.heads.ensures
