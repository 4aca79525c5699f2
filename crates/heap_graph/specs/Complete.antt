-- What has to hold of all nodes of a graph.
use Rattle.std.specs.Prelude.{◌≡◌, ℕ, Bool, true, false, List, map, Option, Some, None}
use Rattle.tac_ir.specs.declared.register.FunctionId.{FunctionId}
use Rattle.tac_ir.specs.States.{Owner, InFunction}
use Rattle.heap_graph.specs.Graphs.{Node, Graph, node_at}
use Rattle.heap_graph.specs.Escaping.{Escapes}
use Rattle.heap_graph.specs.Frozen.{node_there}
use Rattle.heap_graph.specs.declared.frozen.Node as memory_node
use Rattle.heap_graph.specs.Marks.{is_marked}
use Rattle.heap_graph.specs.declared.marks.NodeMarks.{NodeMarks}

abbrev pub numbers : List FunctionId → List ℕ
numbers functions = map (λ function. function.0) functions

-- all that may point to a node which escapes no function of the group is known
abbrev pub AreComplete : Graph → (Owner → Bool) → Type 0
AreComplete graph owners = (number : ℕ) (node : Node) → node_at graph number ≡ Some node
    → ((function : ℕ) → owners (InFunction function) ≡ true → Escapes graph (InFunction function) number → ⊥) → node.flags.complete ≡ true

-- a node, where there is one, is complete
abbrev pub complete_if : Option memory_node.Node → Bool
complete_if None = true
complete_if (Some node) = node.flags.complete

-- each node is complete that isn't marked
abbrev pub AreOthersComplete : List (Option memory_node.Node) → NodeMarks → Type 0
AreOthersComplete nodes marks = (number : ℕ) (node : memory_node.Node) → node_there nodes number ≡ Some node → is_marked marks number ≡ false → node.flags.complete ≡ true

-- each node is marked
abbrev pub AreAllMarked : Graph → NodeMarks → Type 0
AreAllMarked graph marks = (number : ℕ) (node : Node) → node_at graph number ≡ Some node → is_marked marks number ≡ true
