-- A graph with one node more, to which all points that points to nothing: names without targets, and slots without edges, as far as a bound.
use Rattle.std.specs.Prelude.{◌≡◌, ℕ, zero, suc, if◌then◌else◌, true, false, List, [], ◌∷◌, ◌++◌, map, length, Option, Some, None, option_map}
use Rattle.heap_graph.specs.Graphs.{Target, Collapsed, Flags, Edge, Node, Name, Graph, edge_in, node_at}
use Rattle.heap_graph.specs.Targets.{has_target}
use Rattle.heap_graph.specs.Closed.{is_slot, edges_sound}

-- all is told of it, but that it is certain
abbrev pub nothing_flags : Flags
nothing_flags = record { heap = true; stack = true; global = true; array = true; modified = true; read = true; complete = true; certain = false }

abbrev pub or_target : Target → Option Target → Option Target
or_target nothing None = Some nothing
or_target nothing (Some target) = Some target

module _ (bound : ℕ) (nothing : Target) where
  -- the slots below the number that have no edges
  abbrev pub missing : ℕ → List Edge → List Edge
  missing zero edges = []
  missing (suc slot) edges = if has_target (edge_in edges slot) then missing slot edges else record { slot = slot; to = nothing } ∷ missing slot edges

  abbrev pub completed_node : Node → Node
  completed_node node = record { element = node.element; flags = record node.flags { certain = true }; edges = node.edges ++ missing bound node.edges }

abbrev pub nothing_node : Target → Node
nothing_node nothing = record { element = Collapsed; flags = nothing_flags; edges = record { slot = 0; to = nothing } ∷ [] }

-- where the node of nothing is
abbrev pub nothing_in : Graph → Target
nothing_in graph = record { node = length graph.nodes; shift = 0 }

abbrev pub completed : ℕ → Graph → Graph
completed bound graph =
    let nothing = nothing_in graph in
    record {
      nodes = map (option_map (completed_node bound nothing)) graph.nodes ++ Some (nothing_node nothing) ∷ [];
      targets = λ name. or_target nothing (graph.targets name);
    }

-- names and edges lead to nodes of the graph
pub record HasNodes (graph : Graph) : Type 0 where
  pub names : (name : Name) → is_slot graph (graph.targets name) ≡ true
  pub edges : (number : ℕ) (node : Node) → node_at graph number ≡ Some node → edges_sound graph node node.edges ≡ true
