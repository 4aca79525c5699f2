use Rattle.std.proofs.Common.{sym, ◌∙◌}
use Rattle.c_typed.specs.Table.{type_in}
use Rattle.heap_graph.proofs.PartLeads.{begins_has}
use Rattle.heap_graph.proofs.part.has_part.Goals as goal

pub returns : goal.returns
returns c = sym (c.loop-part.invariant.same ∙ begins_has c.args.types.now c.requires.made (type_in c.args.types.now c.loop-part.whole) c.loop-part.at (type_in c.args.types.now c.args.part) (sym c.loop-part-test.ensures))
