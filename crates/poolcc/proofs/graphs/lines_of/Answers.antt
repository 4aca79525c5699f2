use Rattle.c_syntax.specs.Views.{program_tree}
use Rattle.poolcc.proofs.Printing.{text_if}
use Rattle.poolcc.proofs.graphs.lines_of.Goals as goal

pub returns : goal.returns
returns c = text_if (program_tree c.args.program.now) c.args.tac.now c.args.graphs.now c.in_ok-labels.labels c.in_ok-labels.ensures c.graph_lines.result c.graph_lines.ensures
