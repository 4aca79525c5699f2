-- Nodes that are marked as escaping, and their images in another graph.
use Rattle.std.specs.Prelude.{◌≡◌, ℕ, nat_lt, Bool, true, false, ◌&&◌, List, length, get_or, Option, Some, None}
use Rattle.std.specs.List.{Contains}
use Rattle.c_typed.specs.Layouts.{StructDef}
use Rattle.c_typed.specs.Table.{Interned, structs_in}
use Rattle.tac_ir.specs.States.{Owner}
use Rattle.heap_graph.specs.Elements.{HasSlots}
use Rattle.heap_graph.specs.Graphs.{Target, Node, Embedding}
use Rattle.heap_graph.specs.Memory.{element_in}
use Rattle.heap_graph.specs.Targets.{implies, types_differ, flags_kept, element_kept}
use Rattle.heap_graph.specs.Closed.{Family, IsKept}
use Rattle.heap_graph.specs.declared.frozen.Node as memory_node
use Rattle.heap_graph.specs.declared.frozen.FrozenGraph.{FrozenGraph}
use Rattle.heap_graph.specs.Frozen.{node_in, node_there}

-- the types of elements have slots
abbrev pub OptionHasSlots : Interned → Option memory_node.Node → Type 0
OptionHasSlots table None = Unit {0}
OptionHasSlots table (Some node) = HasSlots (structs_in table) (element_in table node.element)

abbrev pub NodesHaveSlots : Interned → FrozenGraph → Type 0
NodesHaveSlots table graph = (number : ℕ) → OptionHasSlots table (node_there graph.nodes.items number)

abbrev pub AreImages : Embedding → Embedding → Type 0
AreImages images embedding = (node : ℕ) → images node ≡ embedding node

-- a number of the graph's nodes that is marked
abbrev pub is_marked : FrozenGraph → List Bool → ℕ → Bool
is_marked graph marks number = nat_lt number (length graph.nodes.items) && get_or marks number false

-- no other number has an image
abbrev pub OnlyMarked : FrozenGraph → List Bool → Embedding → Type 0
OnlyMarked graph marks embedding = (number : ℕ) (target : Target) → embedding number ≡ Some target → is_marked graph marks number ≡ true

-- each of them stands in the list
abbrev pub AreListed : FrozenGraph → List Bool → List ℕ → Type 0
AreListed graph marks nodes = (number : ℕ) → is_marked graph marks number ≡ true → Contains nodes number

-- a node that is marked has an image that keeps it
abbrev pub IsKeptIf : Family → Owner → Embedding → Interned → FrozenGraph → List Bool → ℕ → Type 0
IsKeptIf family owner images table graph marks number =
    (node : memory_node.Node) → node_there graph.nodes.items number ≡ Some node → get_or marks number false ≡ true → IsKept family owner images number (node_in table node)

abbrev pub AreKept : Family → Owner → Embedding → Interned → FrozenGraph → List Bool → Type 0
AreKept family owner images table graph marks = (number : ℕ) → IsKeptIf family owner images table graph marks number

-- what is known of a node's objects is kept by another's: types are parts of types, and an allocation that comes to another type is of an
-- array
abbrev pub keeps : List StructDef → Node → Node → ℕ → Bool
keeps structs old new shift =
    element_kept structs old.element new shift && (flags_kept old.flags new.flags && implies (old.flags.heap && types_differ old.element new.element) new.flags.array)
