use Rattle.std.proofs.Common.{List, ◌++◌, map, reverse, inl, inr, sym, ap, ◌∙◌, arith}
use Rattle.heap_graph.specs.declared.frozen.Edge.{Edge}
use Rattle.heap_graph.proofs.Steps.{within_nodes, goes_past, goes_on}
use Rattle.heap_graph.proofs.order.NodeOrder.go_on.Goals as goal

pub returns-then-number-ne0 : goal.returns-then-number-ne0
returns-then-number-ne0 c = goes_past c.args.graph.now.nodes.items c.args.node c.args.self.now c.requires.numbered c.args.pending.now.items (inl (omega (arith, c.if-number-ne0.true, c.number.ensures)))

pub returns-in_default : goal.returns-in_default
returns-in_default c = goes_past c.args.graph.now.nodes.items c.args.node c.args.self.now c.requires.numbered c.args.pending.now.items (inr c.in_default.ensures)

pub add-requires : goal.add-requires
add-requires c = omega (arith, c.requires.size, within_nodes c.args.graph.now.nodes.items c.args.node c.in-Some.found.now c.in-Some.ensures)

pub returns : goal.returns
returns c =
    goes_on c.args.graph.now.nodes.items c.args.node c.args.self.now c.requires.numbered c.in-Some.found.now c.add.new.self c.args.pending.now.items c.append.new.self.items c.requires.size c.requires.ascend
    (sym c.number.ensures ∙ c.if-number-ne0.false) c.in-Some.ensures c.in_ok-add.ensures.order c.in_ok-add.ensures.numbers (c.in_ok-append.ensures.items ∙ ap (λ l. c.args.pending.now.items ++ l) (c.in_ok-next.ensures ∙ ap (λ (l : List Edge). map (λ (e : Edge). e.to.node) (reverse l)) c.deref.ensures.value))
