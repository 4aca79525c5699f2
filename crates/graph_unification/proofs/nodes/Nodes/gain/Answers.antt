use Rattle.std.proofs.Common.{◌++◌, refl, ap, ◌∙◌, arith}
use Rattle.std.proofs.lemmas.Result.{on_ok_weaker}
use Rattle.heap_graph.specs.Memory.{flags_of}
use Rattle.heap_graph.specs.Steps.{both_flags}
use Rattle.graph_unification.specs.declared.node.Node as memory_node
use Rattle.graph_unification.proofs.Indexed.{changes_held, same_before, not_gone, extended}
use Rattle.graph_unification.proofs.nodes.Nodes.gain.Goals as goal

pub index_mut-requires : goal.index_mut-requires
index_mut-requires c = let len = c.args.self.now.list.ok.0 in let lt = c.requires in omega (arith, len, lt)

pub returns-in-Some-clause-cells : goal.returns-in-Some-clause-cells
returns-in-Some-clause-cells c = refl

pub returns-in-Some-clause-list : goal.returns-in-Some-clause-list
returns-in-Some-clause-list c =
    on_ok_weaker c.extend_from_slice.result
    (λ more before at.
    let same = same_before c.args.self.now.list.items c.args.number c.index_mut.result.now c.in-Some.node before c.requires c.index_mut.ensures.value c.in-Some.is at in
    record {
      after = record { element = c.in-Some.node.element; flags = c.both-node.result; edges = c.in-Some.node.edges; cells = c.extend_from_slice.new.self };
      change = changes_held c.args.self.now.list.items c.args.number before (record { element = c.in-Some.node.element; flags = c.both-node.result; edges = c.in-Some.node.edges; cells = c.extend_from_slice.new.self }) c.requires at;
      element = ap (λ (x : memory_node.Node). x.element) same;
      both = c.both-node.ensures ∙ ap (λ (x : memory_node.Node). both_flags (flags_of x.flags) (flags_of c.args.flags)) same;
      edges = ap (λ (x : memory_node.Node). x.edges.items) same;
      cells = more ∙ ap (λ (x : memory_node.Node). x.cells.items ++ c.args.cells.now) same;
    })
    (extended c.extend_from_slice.result c.extend_from_slice.new.self.items (c.in-Some.node.cells.items ++ c.args.cells.now) c.in-Some.node.cells.items c.extend_from_slice.ensures.items)

pub returns-in-None-clause-cells : goal.returns-in-None-clause-cells
returns-in-None-clause-cells c = refl

pub returns-in-None-clause-list : goal.returns-in-None-clause-list
returns-in-None-clause-list c = λ before at.
    absurd (not_gone c.args.self.now.list.items c.args.number c.index_mut.result.now before c.requires c.index_mut.ensures.value c.in-None.is at)
