use Rattle.std.proofs.Common.{get_or, Contains, refl, sym, ap, subst, arith}
use Rattle.std.proofs.lemmas.List.Elements.{Contains-get_or}
use Rattle.c_typed.specs.Table.{structs_in}
use Rattle.graph_unification.specs.Memory.{graph_in}
use Rattle.heap_graph.specs.declared.frozen.Edge.{Edge}
use Rattle.heap_graph.specs.Frozen.{node_in, optional_node, edges_of, bare}
use Rattle.heap_graph.proofs.Nodes.{node_shown, node_before}
use Rattle.dsa_inlining.specs.Copied.{numbers_in}
use Rattle.dsa_inlining.proofs.Carried.{nodes_kept}
use Rattle.dsa_inlining.proofs.Linked.{linking_none, linking_more, linking_all, edge_placed, nothing_added, all_added, none_linked, node_linked}
use Rattle.std.proofs.Common.{◌∙◌}
use Rattle.dsa_inlining.proofs.edges.copy_edges.Goals as goal

pub returns-in_default-clause-added : goal.returns-in_default-clause-added
returns-in_default-clause-added c =
    let table = c.args.types.now in
    let old = graph_in table c.args.graph.now in
    nothing_added (structs_in table) c.requires.made old old (bare table c.args.callee.now) (numbers_in c.args.copies.now) c.args.number c.requires.graph.sound

pub returns-in_default-clause-linked : goal.returns-in_default-clause-linked
returns-in_default-clause-linked c =
    let table = c.args.types.now in
    let callee = c.args.callee.now in
    let old = graph_in table c.args.graph.now in
    none_linked (structs_in table) c.requires.made old old (bare table callee) (numbers_in c.args.copies.now) c.args.number
    (node_shown table callee.nodes.items (bare table callee) refl c.args.number ∙ ap (optional_node table) c.in_default.ensures)

pub loop-edge-init : goal.loop-edge-init
loop-edge-init c =
    let table = c.args.types.now in
    record {
      graph = c.requires.graph;
      linking = linking_none (structs_in table) c.requires.made (numbers_in c.args.copies.now) c.args.number (graph_in table c.args.graph.now) c.deref-edge-items.result.now c.deref-edge-items.result.now refl c.requires.graph.sound;
    }

pub loop-edge-preserved : goal.loop-edge-preserved
loop-edge-preserved c =
    let table = c.args.types.now in
    let other : Edge = record { slot = 0; to = record { node = 0; shift = 0 } } in
    record {
      graph = c.in_ok-copy_edge.ensures.graph;
      linking = linking_more (structs_in table) c.requires.made (numbers_in c.args.copies.now) c.args.number (graph_in table c.args.graph.now) (graph_in table c.loop-edge.graph) (graph_in table c.copy_edge.new.graph)
          c.deref-edge-items.result.now c.loop-edge.edge-index other c.loop-edge-test.true c.requires.graph.sound c.loop-edge.invariant.graph.sound c.in_ok-copy_edge.ensures.graph.sound c.loop-edge.invariant.linking
          c.in_ok-copy_edge.ensures.links;
    }

pub copy_edge-requires-clause-from : goal.copy_edge-requires-clause-from
copy_edge-requires-clause-from c =
    let table = c.args.types.now in
    let structs = structs_in table in
    let callee = c.args.callee.now in
    let copies = numbers_in c.args.copies.now in
    let graph = graph_in table c.loop-edge.graph in
    let other : Edge = record { slot = 0; to = record { node = 0; shift = 0 } } in
    let items = c.deref-edge-items.result.now in
    let edge = get_or items c.loop-edge.edge-index other in
    (edge_placed structs c.requires.made table callee c.args.escaping.now graph copies c.requires.numbered.0 c.args.copies.now.next c.args.number c.in-Some.node.now edge c.loop-edge.invariant.graph.sound c.requires.sound
    c.requires.edges c.requires.closed c.requires.numbered.1
    (nodes_kept structs c.requires.made (graph_in table c.args.graph.now) graph (bare table callee) copies c.requires.graph.sound c.loop-edge.invariant.linking.goes c.requires.copied) c.requires.among c.in-Some.ensures
    (subst (λ l. Contains l edge) c.deref-edge-items.ensures.value (Contains-get_or items c.loop-edge.edge-index other c.loop-edge-test.true))).from

pub copy_edge-requires-clause-to : goal.copy_edge-requires-clause-to
copy_edge-requires-clause-to c =
    let table = c.args.types.now in
    let structs = structs_in table in
    let callee = c.args.callee.now in
    let copies = numbers_in c.args.copies.now in
    let graph = graph_in table c.loop-edge.graph in
    let other : Edge = record { slot = 0; to = record { node = 0; shift = 0 } } in
    let items = c.deref-edge-items.result.now in
    let edge = get_or items c.loop-edge.edge-index other in
    (edge_placed structs c.requires.made table callee c.args.escaping.now graph copies c.requires.numbered.0 c.args.copies.now.next c.args.number c.in-Some.node.now edge c.loop-edge.invariant.graph.sound c.requires.sound
    c.requires.edges c.requires.closed c.requires.numbered.1
    (nodes_kept structs c.requires.made (graph_in table c.args.graph.now) graph (bare table callee) copies c.requires.graph.sound c.loop-edge.invariant.linking.goes c.requires.copied) c.requires.among c.in-Some.ensures
    (subst (λ l. Contains l edge) c.deref-edge-items.ensures.value (Contains-get_or items c.loop-edge.edge-index other c.loop-edge-test.true))).to

pub returns-clause-added : goal.returns-clause-added
returns-clause-added c =
    let table = c.args.types.now in
    let callee = c.args.callee.now in
    let node = node_in table c.in-Some.node.now in
    let here = node_before table callee.nodes.items (bare table callee) refl c.args.number c.in-Some.node.now c.in-Some.ensures in
    let copy = c.requires.numbered.1.all c.args.number node c.requires.among here in
    all_added (structs_in table) c.requires.made (graph_in table c.args.graph.now) (graph_in table c.loop-edge.graph) (bare table callee) (numbers_in c.args.copies.now) c.args.number c.deref-edge-items.result.now c.loop-edge.edge-index
    copy.0 node copy.1 here (ap edges_of (sym c.deref-edge-items.ensures.value)) c.loop-edge.invariant.linking

pub returns-clause-linked : goal.returns-clause-linked
returns-clause-linked c =
    let table = c.args.types.now in
    let structs = structs_in table in
    let callee = c.args.callee.now in
    let copies = numbers_in c.args.copies.now in
    let old = graph_in table c.args.graph.now in
    let new = graph_in table c.loop-edge.graph in
    let items = c.deref-edge-items.result.now in
    node_linked structs c.requires.made old new (bare table callee) copies c.args.number items (node_in table c.in-Some.node.now)
    (node_before table callee.nodes.items (bare table callee) refl c.args.number c.in-Some.node.now c.in-Some.ensures) (ap edges_of (sym c.deref-edge-items.ensures.value))
    (linking_all structs c.requires.made copies c.args.number old new items c.loop-edge.edge-index (omega (arith, c.loop-edge-test.false)) c.loop-edge.invariant.graph.sound c.loop-edge.invariant.linking)
