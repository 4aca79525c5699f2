-- The least graphs of a program: each other family of closed graphs is less exact.
use Rattle.std.specs.Prelude.{◌≡◌, ℕ, zero, suc, true, List, [], ◌∷◌, slice_get, Option, Some, None}
use Rattle.tac_ir.specs.States.{Owner, InFunction}
use Rattle.heap_graph.specs.Graphs.{Target, Flags, Node, Name, Graph, Crossing, ProgramGraphs, edge_in, node_at}
use Rattle.heap_graph.specs.Targets.{shifted, edge_at, at_target, implies, element_kept}
use Rattle.heap_graph.specs.Closed.{Family, graph_of, Closed}

-- ---- maps

-- for each function, in whose graph a node is, where the node is in the other family
abbrev pub NodeMap : Type 0
NodeMap = Owner → ℕ → Target

-- where a target of one family is in the other
abbrev pub mapped : Family → NodeMap → Owner → Target → Option Target
mapped other map owner target = shifted (graph_of other owner) target.shift (Some (map owner target.node))

abbrev pub embedded : Family → Crossing → Option Target → Option Target
embedded other at None = None
embedded other at (Some target) = shifted (graph_of other at.owner) target.shift (other.graphs.embedding at target.node)

-- a map from a family to another keeps targets, types, edges and embeddings
pub record IsMap (family other : Family) (map : NodeMap) : Type 0 where
  pub names : (owner : Owner) (name : Name) (target : Target) → (graph_of family owner).targets name ≡ Some target → (graph_of other owner).targets name ≡ mapped other map owner target
  pub elements : (owner : Owner) (number : ℕ) (node : Node) → node_at (graph_of family owner) number ≡ Some node
      → at_target (graph_of other owner) (Some (map owner number)) (element_kept other.tac.structs node.element) ≡ true
  pub edges : (owner : Owner) (number slot : ℕ) (node : Node) (to : Target) → node_at (graph_of family owner) number ≡ Some node → edge_in node.edges slot ≡ Some to
      → edge_at (graph_of other owner) (shifted (graph_of other owner) slot (Some (map owner number))) ≡ mapped other map owner to
  pub embeddings : (at : Crossing) (number : ℕ) (target : Target) → family.graphs.embedding at number ≡ Some target
      → embedded other at (Some (map (InFunction at.called) number)) ≡ mapped other map at.owner target

-- ---- flags

abbrev pub with_node : ℕ → Flags → List (Option Node) → List (Option Node)
with_node number flags [] = []
with_node zero flags (None ∷ nodes) = None ∷ nodes
with_node zero flags (Some node ∷ nodes) = Some (record node { flags = flags }) ∷ nodes
with_node (suc number) flags (node ∷ nodes) = node ∷ with_node number flags nodes

abbrev pub with_flags : ℕ → Flags → Graph → Graph
with_flags number flags graph = record graph { nodes = with_node number flags graph.nodes }

abbrev pub with_graph : ℕ → (Graph → Graph) → List Graph → List Graph
with_graph number change [] = []
with_graph zero change (graph ∷ graphs) = change graph ∷ graphs
with_graph (suc number) change (graph ∷ graphs) = graph ∷ with_graph number change graphs

-- the flags of a node of a group's graph, or of `start`'s, are others
abbrev pub changed : Option ℕ → ℕ → Flags → Family → Family
changed None number flags family = record family { graphs = record family.graphs { start = with_flags number flags family.graphs.start } }
changed (Some group) number flags family = record family { graphs = record family.graphs { graphs = with_graph group (with_flags number flags) family.graphs.graphs } }

abbrev pub graph_at : Family → Option ℕ → Option Graph
graph_at family None = Some family.graphs.start
graph_at family (Some group) = slice_get family.graphs.graphs group

-- all flags of the one are the other's
pub record AreFewer (few flags : Flags) : Type 0 where
  pub heap : implies few.heap flags.heap ≡ true
  pub stack : implies few.stack flags.stack ≡ true
  pub global : implies few.global flags.global ≡ true
  pub array : implies few.array flags.array ≡ true
  pub modified : implies few.modified flags.modified ≡ true
  pub read : implies few.read flags.read ≡ true
  pub complete : implies few.complete flags.complete ≡ true
  pub certain : few.certain ≡ flags.certain

-- ---- the least family

-- It is closed; there is a map from it to each other closed family of the program and its groups; and no flag of a node can be taken away.
pub record Least (family : Family) : Type 0 where
  pub closed : Closed family
  pub smallest : (graphs : ProgramGraphs) → Closed (record family { graphs = graphs }) → (map : NodeMap) × IsMap family (record family { graphs = graphs }) map
  pub bare : (group : Option ℕ) (number : ℕ) (graph : Graph) (node : Node) (few : Flags) → graph_at family group ≡ Some graph → node_at graph number ≡ Some node → AreFewer few node.flags
      → Closed (changed group number few family) → few ≡ node.flags
