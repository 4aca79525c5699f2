use Rattle.std.proofs.Common.{◌∷◌, ◌++◌, [], refl, ap, ◌∙◌, arith}
use Rattle.graph_unification.specs.declared.node.Node as memory_node
use Rattle.graph_unification.proofs.Indexed.{changes_held, same_before, not_gone}
use Rattle.graph_unification.proofs.nodes.Nodes.add_edge.Goals as goal

pub index_mut-requires : goal.index_mut-requires
index_mut-requires c = let len = c.args.self.now.list.ok.0 in let lt = c.requires in omega (arith, len, lt)

pub returns-in-Ok : goal.returns-in-Ok
returns-in-Ok c = λ before at.
    let same = same_before c.args.self.now.list.items c.args.number c.index_mut.result.now c.in-Some.node before c.requires c.index_mut.ensures.value c.in-Some.is at in
    record {
      after = record { element = c.in-Some.node.element; flags = c.in-Some.node.flags; edges = c.push.new.self; cells = c.in-Some.node.cells };
      change = changes_held c.args.self.now.list.items c.args.number before (record { element = c.in-Some.node.element; flags = c.in-Some.node.flags; edges = c.push.new.self; cells = c.in-Some.node.cells }) c.requires at;
      element = ap (λ (x : memory_node.Node). x.element) same;
      flags = ap (λ (x : memory_node.Node). x.flags) same;
      edges = c.in-Ok.ensures.items ∙ ap (λ (x : memory_node.Node). x.edges.items ++ record { slot = c.args.slot; to = c.args.to } ∷ []) same;
      list = ap (λ (x : memory_node.Node). x.cells.items) same;
      cells = refl;
    }

pub returns-in-None : goal.returns-in-None
returns-in-None c = λ before at.
    absurd (not_gone c.args.self.now.list.items c.args.number c.index_mut.result.now before c.requires c.index_mut.ensures.value c.in-None.is at)
