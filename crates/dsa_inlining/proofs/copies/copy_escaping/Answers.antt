use Rattle.std.proofs.lemmas.List.Elements.{Contains-get_or}
use Rattle.c_typed.specs.Table.{structs_in}
use Rattle.graph_unification.specs.Memory.{graph_in}
use Rattle.heap_graph.specs.Frozen.{bare}
use Rattle.dsa_inlining.specs.Copied.{numbers_in}
use Rattle.dsa_inlining.proofs.Carried.{nodes_kept}
use Rattle.dsa_inlining.proofs.Linked.{linked_none, linked_more, all_go, all_stay, all_copied, all_lead, all_free}
use Rattle.dsa_inlining.proofs.Seen.{number_at}
use Rattle.dsa_inlining.proofs.copies.copy_escaping.Goals as goal

pub loop-number-init : goal.loop-number-init
loop-number-init c =
    let table = c.args.types.now in
    record {
      graph = c.in_ok-copies.ensures.graph;
      linked = linked_none (structs_in table) c.requires.made (bare table c.args.callee.now) c.args.escaping.now (numbers_in c.in_ok-copies.copies) (graph_in table c.copy_nodes.new.graph) c.in_ok-copies.ensures.graph.sound;
    }

pub loop-number-preserved : goal.loop-number-preserved
loop-number-preserved c =
    let table = c.args.types.now in
    let numbers = c.args.escaping.now in
    let index = c.loop-number.number-index in
    record {
      graph = c.in_ok-copy_edges.ensures.graph;
      linked = linked_more (structs_in table) c.requires.made (bare table c.args.callee.now) numbers (numbers_in c.in_ok-copies.copies) (graph_in table c.copy_nodes.new.graph) (graph_in table c.loop-number.graph)
          (graph_in table c.copy_edges.new.graph) index _ c.in_ok-copies.ensures.graph.sound c.loop-number.invariant.graph.sound c.loop-number.invariant.linked (number_at numbers index 0 c.loop-number-test.true)
          c.in_ok-copy_edges.ensures.added c.in_ok-copy_edges.ensures.linked;
    }

pub copy_edges-requires-clause-numbered : goal.copy_edges-requires-clause-numbered
copy_edges-requires-clause-numbered c = (c.args.first, c.in_ok-copies.ensures.numbered)

pub copy_edges-requires-clause-copied : goal.copy_edges-requires-clause-copied
copy_edges-requires-clause-copied c =
    let table = c.args.types.now in
    nodes_kept (structs_in table) c.requires.made (graph_in table c.copy_nodes.new.graph) (graph_in table c.loop-number.graph) (bare table c.args.callee.now) (numbers_in c.in_ok-copies.copies)
    c.in_ok-copies.ensures.graph.sound c.loop-number.invariant.linked.added.goes c.in_ok-copies.ensures.added.copied

pub copy_edges-requires-clause-among : goal.copy_edges-requires-clause-among
copy_edges-requires-clause-among c = Contains-get_or c.args.escaping.now c.loop-number.number-index 0 c.loop-number-test.true

pub returns-clause-goes : goal.returns-clause-goes
returns-clause-goes c =
    let table = c.args.types.now in
    all_go (structs_in table) c.requires.made (graph_in table c.args.graph.now) (graph_in table c.copy_nodes.new.graph) (graph_in table c.loop-number.graph) (bare table c.args.callee.now) c.args.escaping.now
    (numbers_in c.in_ok-copies.copies) c.args.first c.in_ok-copies.copies.next c.loop-number.number-index c.loop-number-test.false c.requires.graph.sound c.in_ok-copies.ensures.graph.sound c.in_ok-copies.ensures.numbered
    c.in_ok-copies.ensures.added c.loop-number.invariant.linked

pub returns-clause-names : goal.returns-clause-names
returns-clause-names c =
    let table = c.args.types.now in
    all_stay (structs_in table) c.requires.made (graph_in table c.args.graph.now) (graph_in table c.copy_nodes.new.graph) (graph_in table c.loop-number.graph) (bare table c.args.callee.now) c.args.escaping.now
    (numbers_in c.in_ok-copies.copies) c.args.first c.in_ok-copies.copies.next c.loop-number.number-index c.loop-number-test.false c.requires.graph.sound c.in_ok-copies.ensures.graph.sound c.in_ok-copies.ensures.numbered
    c.in_ok-copies.ensures.added c.loop-number.invariant.linked

pub returns-clause-free : goal.returns-clause-free
returns-clause-free c =
    let table = c.args.types.now in
    all_free (structs_in table) c.requires.made (graph_in table c.args.graph.now) (graph_in table c.copy_nodes.new.graph) (graph_in table c.loop-number.graph) (bare table c.args.callee.now) c.args.escaping.now
    (numbers_in c.in_ok-copies.copies) c.args.first c.in_ok-copies.copies.next c.loop-number.number-index c.loop-number-test.false c.requires.graph.sound c.in_ok-copies.ensures.graph.sound c.in_ok-copies.ensures.numbered
    c.in_ok-copies.ensures.added c.loop-number.invariant.linked

pub returns-clause-numbered : goal.returns-clause-numbered
returns-clause-numbered c = c.in_ok-copies.ensures.numbered

pub returns-clause-copied : goal.returns-clause-copied
returns-clause-copied c =
    let table = c.args.types.now in
    all_copied (structs_in table) c.requires.made (graph_in table c.args.graph.now) (graph_in table c.copy_nodes.new.graph) (graph_in table c.loop-number.graph) (bare table c.args.callee.now) c.args.escaping.now
    (numbers_in c.in_ok-copies.copies) c.args.first c.in_ok-copies.copies.next c.loop-number.number-index c.loop-number-test.false c.requires.graph.sound c.in_ok-copies.ensures.graph.sound c.in_ok-copies.ensures.numbered
    c.in_ok-copies.ensures.added c.loop-number.invariant.linked

pub returns-clause-leads : goal.returns-clause-leads
returns-clause-leads c =
    let table = c.args.types.now in
    all_lead (structs_in table) c.requires.made (graph_in table c.args.graph.now) (graph_in table c.copy_nodes.new.graph) (graph_in table c.loop-number.graph) (bare table c.args.callee.now) c.args.escaping.now
    (numbers_in c.in_ok-copies.copies) c.args.first c.in_ok-copies.copies.next c.loop-number.number-index c.loop-number-test.false c.requires.graph.sound c.in_ok-copies.ensures.graph.sound c.in_ok-copies.ensures.numbered
    c.in_ok-copies.ensures.added c.loop-number.invariant.linked
