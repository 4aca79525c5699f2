-- What points ask depends on the names of their own function, on globals and on literals alone.
use Rattle.std.proofs.Common.{◌≡◌, Option, Some, refl, ap, ◌∙◌}
use Rattle.c_typed.specs.Table.{Interned}
use Rattle.tac_ir.specs.Code.{Op, Tac}
use Rattle.tac_ir.specs.States.{Owner}
use Rattle.heap_graph.specs.Graphs.{Target, Name, OfRegister, OfResult, OfObject, OfGlobal, OfLiteral, OfCopy, Graph}
use Rattle.heap_graph.specs.Points.{point_closed}
use Rattle.heap_graph.specs.declared.frozen.FunctionNames.{FunctionNames}
use Rattle.heap_graph.specs.declared.frozen.FrozenGraph.{FrozenGraph}
use Rattle.heap_graph.specs.Frozen.{optional_target, register_target, object_target, named, graph_with, own_graph}

-- each function has the names of one
abbrev pub own_targets : Owner → (Name → Option Target) → Name → Option Target
own_targets owner targets (OfRegister other register) = targets (OfRegister owner register)
own_targets owner targets (OfResult other) = targets (OfResult owner)
own_targets owner targets (OfObject other local) = targets (OfObject owner local)
own_targets owner targets (OfGlobal number) = targets (OfGlobal number)
own_targets owner targets (OfLiteral number) = targets (OfLiteral number)
own_targets owner targets (OfCopy number) = targets (OfCopy number)

abbrev owned : Owner → Graph → Graph
owned owner graph = record { nodes = graph.nodes; targets = own_targets owner graph.targets }

pub owned_points : (tac : Tac) (graph : Graph) (owner : Owner) (op : Op) → point_closed tac graph owner op ≡ point_closed tac (owned owner graph) owner op
owned_points tac graph owner op = refl

same_targets : (table : Interned) (graph : FrozenGraph) (names_of : Owner → Option FunctionNames) (owner : Owner) (names : FunctionNames) → names_of owner ≡ Some names
    → (name : Name) → own_targets owner (graph_with table graph names_of).targets name ≡ (own_graph table graph names).targets name
same_targets table graph names_of owner names is (OfRegister other register) = ap (named (λ names. register_target names register)) is
same_targets table graph names_of owner names is (OfResult other) = ap (named (λ names. optional_target names.returned)) is
same_targets table graph names_of owner names is (OfObject other local) = ap (named (λ names. object_target names local)) is
same_targets table graph names_of owner names is (OfGlobal number) = refl
same_targets table graph names_of owner names is (OfLiteral number) = refl
same_targets table graph names_of owner names is (OfCopy number) = refl

pub own_points : (tac : Tac) (table : Interned) (graph : FrozenGraph) (names_of : Owner → Option FunctionNames) (owner : Owner) (names : FunctionNames) (op : Op) → names_of owner ≡ Some names
    → point_closed tac (graph_with table graph names_of) owner op ≡ point_closed tac (own_graph table graph names) owner op
own_points tac table graph names_of owner names op is =
    let same = same_targets table graph names_of owner names is in
    owned_points tac (graph_with table graph names_of) owner op
    ∙ (λ i. point_closed tac (record { nodes = (own_graph table graph names).nodes; targets = λ name. same name i }) owner op)
