use Rattle.std.proofs.Common.{◌∷◌, ◌++◌, [], refl, ap, ◌∙◌, arith}
use Rattle.std.proofs.lemmas.Option.{slice_get_within}
use Rattle.graph_unification.specs.declared.node.Node as memory_node
use Rattle.graph_unification.proofs.Indexed.{changes_held, same_before, not_gone}
use Rattle.graph_unification.proofs.nodes.Nodes.hold.Goals as goal

pub returns-then-number-len-clause-cells : goal.returns-then-number-len-clause-cells
returns-then-number-len-clause-cells c = refl

pub returns-then-number-len-clause-list : goal.returns-then-number-len-clause-list
returns-then-number-len-clause-list c = λ before at.
    let lt = slice_get_within c.args.self.now.list.items c.args.number _ at in
    let over = c.if-number-len.true in
    let len = c.args.self.now.list.ok.0 in
    let same = c.len.ensures in
    absurd (omega (arith, lt, over, len, same))

pub index_mut-requires : goal.index_mut-requires
index_mut-requires c = let lt = c.if-number-len.false in let same = c.len.ensures in omega (arith, lt, same)

pub returns-in-Ok-clause-cells : goal.returns-in-Ok-clause-cells
returns-in-Ok-clause-cells c = refl

pub returns-in-Ok-clause-list : goal.returns-in-Ok-clause-list
returns-in-Ok-clause-list c = λ before at.
    let node = c.in-Some.node in
    let lt = slice_get_within c.args.self.now.list.items c.args.number _ at in
    let same = same_before c.args.self.now.list.items c.args.number c.index_mut.result.now c.in-Some.node before lt c.index_mut.ensures.value c.in-Some.is at in
    record {
      after = record { element = c.in-Some.node.element; flags = c.in-Some.node.flags; edges = c.in-Some.node.edges; cells = c.push.new.self };
      change = changes_held c.args.self.now.list.items c.args.number before (record { element = c.in-Some.node.element; flags = c.in-Some.node.flags; edges = c.in-Some.node.edges; cells = c.push.new.self }) lt at;
      element = ap (λ (x : memory_node.Node). x.element) same;
      flags = ap (λ (x : memory_node.Node). x.flags) same;
      edges = ap (λ (x : memory_node.Node). x.edges.items) same;
      cells = c.in-Ok.ensures.items ∙ ap (λ (x : memory_node.Node). x.cells.items ++ c.args.cell ∷ []) same;
    }

pub returns-in-Err-clause-cells : goal.returns-in-Err-clause-cells
returns-in-Err-clause-cells c = refl

pub returns-in-None-clause-cells : goal.returns-in-None-clause-cells
returns-in-None-clause-cells c = refl

pub returns-in-None-clause-list : goal.returns-in-None-clause-list
returns-in-None-clause-list c = λ before at.
    let lt = slice_get_within c.args.self.now.list.items c.args.number _ at in
    absurd (not_gone c.args.self.now.list.items c.args.number c.index_mut.result.now before lt c.index_mut.ensures.value c.in-None.is at)
