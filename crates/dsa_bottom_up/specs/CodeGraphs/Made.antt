-- The graphs of code in memory.
use Rattle.tac_ir.specs.declared.program.Tac as memory_tac
use Rattle.heap_graph.specs.Graphs.{ProgramGraphs}
use Rattle.call_graph.specs.GroupViews.{groups_of}
use Rattle.heap_graph.specs.Programs.{family_in}
use Rattle.dsa_bottom_up.specs.declared.graphed.CodeGraphs.{CodeGraphs}

abbrev pub graphs_in : memory_tac.Tac → CodeGraphs → ProgramGraphs
graphs_in tac made = (family_in tac (groups_of made.groups) made.graphs).graphs
