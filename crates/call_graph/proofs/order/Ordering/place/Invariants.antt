use Rattle.std.proofs.Common.{◌≡◌, take}
use Rattle.call_graph.specs.Orders.{CountsAll}
use Rattle.call_graph.proofs.order.Ordering.place.Given as goal

abbrev pub invariant-loop-caller : goal.invariant-loop-caller
invariant-loop-caller l = record {
  counted : CountsAll (take l.caller-index l.callers) l.initial.self l.self;
  placed : l.self.placed.items ≡ l.initial.self.placed.items;
}
