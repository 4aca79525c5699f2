use Rattle.std.proofs.Common.{take}
use Rattle.call_graph.specs.ClassLists.{LinksKeys}
use Rattle.call_graph.proofs.class_table.Linked.of_keys.Given as goal

abbrev pub invariant-loop-number : goal.invariant-loop-number
invariant-loop-number l = LinksKeys (take l.number l.keys) l.linked.firsts l.linked.links.items
