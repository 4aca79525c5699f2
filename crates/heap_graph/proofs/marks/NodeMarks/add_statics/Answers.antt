use Rattle.heap_graph.proofs.Adding.{adds_both}
use Rattle.heap_graph.proofs.marks.NodeMarks.add_statics.Goals as goal

pub returns : goal.returns
returns c = adds_both c.args.self.now c.add_found.new.self c.add_found-2.new.self _ _ c.add_found.ensures c.add_found-2.ensures
