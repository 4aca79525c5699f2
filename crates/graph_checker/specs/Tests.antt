-- What is tested of targets, of objects and of edges.
use Rattle.std.specs.Prelude.{◌≡◌, ℕ, suc, ◌==◌, nat_le, nat_lt, Bool, true, false, ◌&&◌, not, drop, get_or, List, [], ◌∷◌, Option, Some, None}
use Rattle.std.specs.List.{list_all}
use Rattle.c_typed.specs.Table.{empty}
use Rattle.tac_ir.specs.declared.register.Local.{Local}
use Rattle.tac_ir.specs.declared.register.Local.TheVariants as L
use Rattle.tac_ir.specs.declared.program.Function.{Function}
use Rattle.tac_ir.specs.declared.program.LocalObject.{LocalObject}
use Rattle.heap_graph.specs.declared.graph.Target as memory_target
use Rattle.heap_graph.specs.Graphs.{Edge, edge_in}
use Rattle.heap_graph.specs.Memory.{element_in}
use Rattle.heap_graph.specs.Targets.{same_target, has_target, is_collapsed, implies}
use Rattle.heap_graph.specs.Frozen.{optional_target, target_in, edges_of, node_there}
use Rattle.heap_graph.specs.declared.frozen.Edge as memory_edge
use Rattle.heap_graph.specs.declared.frozen.FrozenGraph.{FrozenGraph}
use Rattle.heap_graph.specs.declared.frozen.FunctionNames.{FunctionNames}
use Rattle.heap_graph.specs.declared.frozen.Node as memory_node

-- ---- slots

-- that a node is collapsed is told without a table of types
abbrev pub has_one_slot : memory_node.Node → Bool
has_one_slot node = is_collapsed (element_in empty node.element)

-- a node that is there has the slot
abbrev pub has_slot : ℕ → Option memory_node.Node → Bool
has_slot shift None = false
has_slot shift (Some node) = implies (has_one_slot node) (shift == 0)

-- a target is a slot of a node
unfoldable pub is_slot_in : FrozenGraph → Option memory_target.Target → Bool
is_slot_in graph None = true
is_slot_in graph (Some target) = has_slot target.shift (node_there graph.nodes.items target.node)

-- all these are
abbrev pub are_slots : FrozenGraph → List (Option memory_target.Target) → Bool
are_slots graph targets = list_all (is_slot_in graph) targets

-- those of a function's registers are
abbrev pub registers_slots : FrozenGraph → FunctionNames → Bool
registers_slots graph names =
    (((are_slots graph names.parameters.items && are_slots graph names.variables.items) && are_slots graph names.calls.items) && are_slots graph names.arguments.items)
    && are_slots graph names.expressions.items

-- those of its result and of its locals in memory are
abbrev pub other_slots : FrozenGraph → FunctionNames → Bool
other_slots graph names = (is_slot_in graph names.returned && are_slots graph names.parameter_objects.items) && are_slots graph names.variable_objects.items

-- those of variables outside functions, or of literals, are
abbrev pub entry_slots : FrozenGraph → List (ℕ × memory_target.Target) → Bool
entry_slots graph entries = list_all (λ (entry : ℕ × memory_target.Target). is_slot_in graph (Some entry.1)) entries

-- ---- names

-- there is no target
abbrev pub have_none : List (Option memory_target.Target) → Bool
have_none targets = list_all (λ target. not (has_target (optional_target target))) targets

-- registers that the function doesn't have have none
abbrev pub registers_within : Function → FunctionNames → Bool
registers_within function names =
    (((have_none (drop function.parameters names.parameters.items) && have_none (drop function.counts.variables names.variables.items))
    && have_none (drop function.counts.calls names.calls.items)) && have_none (drop function.counts.arguments names.arguments.items))
    && have_none (drop function.counts.expressions names.expressions.items)

-- all are numbers of so many
abbrev pub are_below : ℕ → List ℕ → Bool
are_below count numbers = list_all (λ number. nat_lt number count) numbers

-- a number that has a target is marked
abbrev pub AreMarked : List (Option memory_target.Target) → List Bool → Type 0
AreMarked targets marks = (number : ℕ) → has_target (target_in targets number) ≡ true → get_or marks number false ≡ true

-- ---- locals in memory

-- the numbers of the parameters among objects
abbrev pub with_parameter : Local → List ℕ → List ℕ
with_parameter (L.Parameter number) numbers = number ∷ numbers
with_parameter (L.Variable number) numbers = numbers

abbrev pub parameter_numbers : List LocalObject → List ℕ
parameter_numbers [] = []
parameter_numbers (object ∷ objects) = with_parameter object.local (parameter_numbers objects)

-- those of the variables
abbrev pub with_variable : Local → List ℕ → List ℕ
with_variable (L.Parameter number) numbers = numbers
with_variable (L.Variable number) numbers = number ∷ numbers

abbrev pub variable_numbers : List LocalObject → List ℕ
variable_numbers [] = []
variable_numbers (object ∷ objects) = with_variable object.local (variable_numbers objects)

-- ---- edges

-- each slot lies behind the one before
abbrev pub ascend_from : ℕ → List Edge → Bool
ascend_from bound [] = true
ascend_from bound (edge ∷ edges) = nat_le bound edge.slot && ascend_from (suc edge.slot) edges

-- each edge is the one that is found at its slot
abbrev pub are_found : List Edge → List Edge → Bool
are_found all edges = list_all (λ (edge : Edge). same_target (edge_in all edge.slot) (Some edge.to)) edges

-- the edge of a node, which may have one slot only, leads from a slot of it to a slot of a node
abbrev pub joins_slots : FrozenGraph → Bool → memory_edge.Edge → Bool
joins_slots graph one_slot edge = is_slot_in graph (Some edge.to) && implies one_slot (edge.slot == 0)

-- all edges do
abbrev pub join_slots : FrozenGraph → memory_node.Node → List memory_edge.Edge → Bool
join_slots graph node edges = list_all (joins_slots graph (has_one_slot node)) edges

-- ---- nodes

-- the edges of a node, if it is one, are sound
abbrev pub is_sound : FrozenGraph → Option memory_node.Node → Bool
is_sound graph None = true
is_sound graph (Some node) = are_found (edges_of node.edges.items) (edges_of node.edges.items) && join_slots graph node node.edges.items

-- those of all nodes are
abbrev pub are_sound : FrozenGraph → List (Option memory_node.Node) → Bool
are_sound graph nodes = list_all (is_sound graph) nodes
