-- What first values ask of a graph, as if it were that of `start`.
use Rattle.std.specs.Prelude.{◌≡◌, true, [], Option, None}
use Rattle.tac_ir.specs.Code.{Tac}
use Rattle.heap_graph.specs.Graphs.{Target, Graph}
use Rattle.heap_graph.specs.Targets.{edge_at}
use Rattle.heap_graph.specs.Closed.{Family, first_closed}

-- the program with the graph of `start` alone
abbrev pub alone : Tac → Graph → Family
alone tac graph = record { tac = tac; groups = []; graphs = record { graphs = []; start = graph; embedding = λ crossing node. None } }

-- each first value is stored into its variable
abbrev pub FirstTold : Tac → Graph → Type 0
FirstTold tac graph = first_closed (alone tac graph) 0 tac.globals ≡ true

-- the same edges lead from the nodes of a graph
abbrev pub SameEdges : Graph → Graph → Type 0
SameEdges kept graph = (target : Option Target) → edge_at graph target ≡ edge_at kept target
