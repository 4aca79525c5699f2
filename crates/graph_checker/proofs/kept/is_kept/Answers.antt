use Rattle.std.proofs.Common.{◌≡◌, Some, sym, ap, ◌∙◌}
use Rattle.heap_graph.specs.Memory.{target_of}
use Rattle.heap_graph.specs.Frozen.{optional_target, node_in}
use Rattle.graph_checker.proofs.Keeping.{shown_kept, kept_edges}
use Rattle.graph_checker.proofs.kept.is_kept.Goals as goal

pub returns-then-is_node_kept : goal.returns-then-is_node_kept
returns-then-is_node_kept c = λ family owner images shows same.
    let table = c.args.caller.types.now in
    let node = node_in table c.args.node.now in
    let at = target_of c.in-Some.at.now in
    let is : images c.args.number ≡ Some at = same c.args.number ∙ sym (ap optional_target c.in-Some.ensures.value) in
    let edges = c.are_edges_kept.ensures table family owner images shows same in (
      λ kept. record {
        at = at;
        is = is;
        kept = shown_kept table family owner c.args.caller.graph.now shows at node ∙ (sym c.is_node_kept.ensures ∙ c.if-is_node_kept.true);
        edges = sym edges ∙ kept;
      },
      λ kept. edges ∙ (kept_edges family owner images c.args.number node at is kept).1,
    )
