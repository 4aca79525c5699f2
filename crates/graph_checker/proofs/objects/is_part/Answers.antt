use Rattle.std.proofs.Common.{ap, ◌∙◌}
use Rattle.c_typed.specs.Types.{CType}
use Rattle.c_typed.specs.Table.{structs_in}
use Rattle.heap_graph.specs.Memory.{flags_of}
use Rattle.heap_graph.specs.Targets.{holds_part}
use Rattle.heap_graph.specs.Frozen.{edges_of, node_in}
use Rattle.graph_checker.proofs.objects.is_part.Goals as goal

pub returns : goal.returns
returns c =
    let table = c.args.types.now in
    let node = c.args.node.now in
    c.holds_part.ensures (flags_of node.flags) (edges_of node.edges.items)
    ∙ ap (λ (c_type : CType). holds_part (structs_in table) c_type (node_in table node) c.args.shift) c.elements_of.ensures
