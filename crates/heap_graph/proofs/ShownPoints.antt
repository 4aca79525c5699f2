-- What points ask of a function's graph is asked of the graph and the names in memory.
use Rattle.std.proofs.Common.{◌≡◌, ◌∙◌}
use Rattle.c_typed.specs.Table.{Interned}
use Rattle.tac_ir.specs.Code.{Op, Tac}
use Rattle.tac_ir.specs.States.{Owner}
use Rattle.heap_graph.specs.Graphs.{Name, OfRegister, OfResult, OfObject, OfGlobal, OfLiteral, OfCopy}
use Rattle.heap_graph.specs.Points.{point_closed}
use Rattle.heap_graph.specs.Closed.{Family, graph_of}
use Rattle.heap_graph.specs.declared.frozen.FunctionNames.{FunctionNames}
use Rattle.heap_graph.specs.declared.frozen.FrozenGraph.{FrozenGraph}
use Rattle.heap_graph.specs.Frozen.{own_graph}
use Rattle.heap_graph.specs.Shows.{ShowsGraph, ShowsNames}
use Rattle.heap_graph.proofs.OwnPoints.{own_targets, owned_points}

shown_targets : (table : Interned) (family : Family) (owner : Owner) (graph : FrozenGraph) (names : FunctionNames) → ShowsGraph table family owner graph → ShowsNames family owner names
    → (name : Name) → own_targets owner (graph_of family owner).targets name ≡ (own_graph table graph names).targets name
shown_targets table family owner graph names shows own (OfRegister other register) = own.registers register
shown_targets table family owner graph names shows own (OfResult other) = own.returned
shown_targets table family owner graph names shows own (OfObject other local) = own.objects local
shown_targets table family owner graph names shows own (OfGlobal number) = shows.globals number
shown_targets table family owner graph names shows own (OfLiteral number) = shows.literals number
shown_targets table family owner graph names shows own (OfCopy number) = shows.copies number

pub points_shown : (tac : Tac) (table : Interned) (family : Family) (owner : Owner) (graph : FrozenGraph) (names : FunctionNames) → ShowsGraph table family owner graph
    → ShowsNames family owner names → (op : Op) → point_closed tac (graph_of family owner) owner op ≡ point_closed tac (own_graph table graph names) owner op
points_shown tac table family owner graph names shows own op =
    owned_points tac (graph_of family owner) owner op
    ∙ (λ i. point_closed tac (record { nodes = shows.nodes i; targets = λ name. shown_targets table family owner graph names shows own name i }) owner op)
