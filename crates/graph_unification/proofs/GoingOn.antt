-- Turns of merging one after the other.
use Rattle.std.proofs.Common.{List, ◌∷◌}
use Rattle.c_typed.specs.Table.{Interned, structs_in}
use Rattle.heap_graph.specs.Structures.{AreMade}
use Rattle.heap_graph.specs.Graphs.{Target}
use Rattle.heap_graph.specs.Merging.{IsSlot}
use Rattle.heap_graph.specs.Steps.{Ask, One, AllAreOf}
use Rattle.heap_graph.proofs.StepsCompose.{Same, ask_step, step_trans}
use Rattle.heap_graph.proofs.AskSteps.{turned}
use Rattle.graph_unification.specs.declared.graph.Graph as memory_graph
use Rattle.graph_unification.specs.Memory.{graph_in, IsGraph}
use Rattle.graph_unification.specs.Turns.{Goes}

pub goes_same : (table : Interned) → AreMade (structs_in table) → (graph : memory_graph.Graph) → IsGraph table graph → (before after : List Ask) → AllAreOf (structs_in table) (graph_in table graph) before
    → AllAreOf (structs_in table) (graph_in table graph) after → Same (structs_in table) (graph_in table graph) before after → Goes table graph graph before after
goes_same table made graph fine before after its now same = record { graph = fine; step = ask_step (structs_in table) made (graph_in table graph) fine.sound before after its now same }

pub goes_on : (table : Interned) → AreMade (structs_in table) → (one two three : memory_graph.Graph) → IsGraph table one → (before middle after : List Ask)
    → AllAreOf (structs_in table) (graph_in table one) before → Goes table one two before middle → Goes table two three middle after → Goes table one three before after
goes_on table made one two three fine before middle after its first then = record {
  graph = then.graph;
  step = step_trans (structs_in table) made (graph_in table one) (graph_in table two) (graph_in table three) before middle after fine.sound its first.step then.step;
}

pub goes_nowhere : (table : Interned) → AreMade (structs_in table) → (graph : memory_graph.Graph) → IsGraph table graph → (asks : List Ask) → AllAreOf (structs_in table) (graph_in table graph) asks
    → Goes table graph graph asks asks
goes_nowhere table made graph fine asks its =
    goes_same table made graph fine asks asks its its (record { forward = λ other into maps holds. holds; backward = λ other into maps holds. holds })

-- two targets in the other order
pub goes_turned : (table : Interned) → AreMade (structs_in table) → (graph new : memory_graph.Graph) → IsGraph table graph → (asks after : List Ask) → AllAreOf (structs_in table) (graph_in table graph) asks → (a b : Target)
    → IsSlot (structs_in table) (graph_in table graph) a → IsSlot (structs_in table) (graph_in table graph) b → Goes table graph new (One b a ∷ asks) after → Goes table graph new (One a b ∷ asks) after
goes_turned table made graph new fine asks after its a b slot other goes =
    goes_on table made graph graph new fine (One a b ∷ asks) (One b a ∷ asks) after ((slot, other), its)
    (goes_same table made graph fine (One a b ∷ asks) (One b a ∷ asks) ((slot, other), its) ((other, slot), its) (turned (structs_in table) (graph_in table graph) a b asks))
    goes
