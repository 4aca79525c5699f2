use Rattle.std.proofs.Common.{◌≡◌, [], refl, sym, ap, subst, ◌∙◌, arith}
use Rattle.heap_graph.specs.declared.graph.Element.TheVariants as E
use Rattle.graph_unification.specs.declared.node.Node as memory_node
use Rattle.graph_unification.specs.Cells.{flat_cell, changed_all}
use Rattle.graph_unification.specs.Memory.{held}
use Rattle.graph_unification.specs.Turns.{edges_of_held, edges_in}
use Rattle.graph_unification.proofs.Indexed.{changes_held, same_before, not_gone, item_there}
use Rattle.graph_unification.proofs.nodes.Nodes.flatten.Goals as goal

pub index_mut-requires : goal.index_mut-requires
index_mut-requires c = let len = c.args.self.now.list.ok.0 in let lt = c.requires in omega (arith, len, lt)

pub returns-in-Some-clause-flattens : goal.returns-in-Some-clause-flattens
returns-in-Some-clause-flattens c = λ before at.
    let same = same_before c.args.self.now.list.items c.args.number c.index_mut.result.now c.in-Some.node before c.requires c.index_mut.ensures.value c.in-Some.is at in
    record {
      after = record { element = E.Collapsed; flags = c.in-Some.node.flags; edges = c.replace.new.dest; cells = c.in-Some.node.cells };
      change = changes_held c.args.self.now.list.items c.args.number before (record { element = E.Collapsed; flags = c.in-Some.node.flags; edges = c.replace.new.dest; cells = c.in-Some.node.cells }) c.requires at;
      element = refl;
      flags = ap (λ (x : memory_node.Node). x.flags) same;
      edges = subst (λ v. v.items ≡ []) (sym c.replace.ensures.after) c.new.ensures.items;
      list = ap (λ (x : memory_node.Node). x.cells.items) same;
      cells =
          c.flatten.ensures
          ∙ ap (λ numbers. changed_all (flat_cell c.args.number) numbers c.args.self.now.cells.items) (c.deref.ensures.value ∙ ap (λ (x : memory_node.Node). x.cells.items) same);
    }

pub returns-in-Some-clause-edges : goal.returns-in-Some-clause-edges
returns-in-Some-clause-edges c =
    subst (λ v. v.items ≡ edges_in c.args.self.now.list.items c.args.number) (sym c.replace.ensures.value)
    (sym (ap (λ o. edges_of_held (held o)) (item_there c.args.self.now.list.items c.args.number c.index_mut.result.now c.requires c.index_mut.ensures.value)
    ∙ ap edges_of_held c.in-Some.is))

pub returns-in-None-clause-flattens : goal.returns-in-None-clause-flattens
returns-in-None-clause-flattens c = λ before at.
    absurd (not_gone c.args.self.now.list.items c.args.number c.index_mut.result.now before c.requires c.index_mut.ensures.value c.in-None.is at)

pub returns-in-None-clause-edges : goal.returns-in-None-clause-edges
returns-in-None-clause-edges c =
    c.new-in-None.ensures.items
    ∙ sym (ap (λ o. edges_of_held (held o)) (item_there c.args.self.now.list.items c.args.number c.index_mut.result.now c.requires c.index_mut.ensures.value)
    ∙ ap edges_of_held c.in-None.is)
