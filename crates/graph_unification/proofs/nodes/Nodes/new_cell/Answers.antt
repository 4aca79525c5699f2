use Rattle.std.proofs.Common.{Vec, Global, ap, ◌∙◌, rules, arith}
use Rattle.heap_graph.specs.declared.graph.Target as memory_target
use Rattle.graph_unification.proofs.nodes.Nodes.new_cell.Goals as goal

pub returns-in_err-hold : goal.returns-in_err-hold
returns-in_err-hold c = search rules

pub returns-in_err-make_room : goal.returns-in_err-make_room
returns-in_err-make_room c = search rules

pub returns : goal.returns
returns c = record {
  last = let is = c.len-number.ensures in let len = c.args.self.now.cells.ok.0 in omega (arith, is, len);
  cells = ap (λ (v : Vec memory_target.Target Global). v.items) c.in_ok-hold.ensures.cells ∙ c.in-Ok.ensures.items;
  list = c.in_ok-hold.ensures.list;
}
