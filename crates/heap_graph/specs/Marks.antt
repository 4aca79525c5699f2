-- Marks of nodes, and the targets by which nodes are marked.
use Rattle.std.specs.Prelude.{◌≡◌, ℕ, ◌<◌, ◌↔◌, ◌⊎◌, Bool, true, false, List, length, replicate, get_or, Contains, Option, Some, None}
use Rattle.indexmap.specs.IndexMap.{IndexMap}
use Rattle.tac_ir.specs.declared.register.Local.{Local}
use Rattle.tac_ir.specs.declared.register.Register.{Register}
use Rattle.heap_graph.specs.declared.graph.Target as memory_target
use Rattle.heap_graph.specs.Graphs.{Target}
use Rattle.heap_graph.specs.Frozen.{optional_target, target_in, static_in, register_target, object_target}
use Rattle.heap_graph.specs.declared.frozen.Node.{Node}
use Rattle.heap_graph.specs.declared.frozen.FunctionNames.{FunctionNames}
use Rattle.heap_graph.specs.declared.frozen.FrozenGraph.{FrozenGraph}
use Rattle.heap_graph.specs.declared.marks.NodeMarks.{NodeMarks}

-- ---- marks

abbrev pub is_marked : NodeMarks → ℕ → Bool
is_marked marks number = get_or marks.marks.items number false

-- one mark for each of the graph's nodes, and none is set
abbrev pub IsFresh : List (Option Node) → NodeMarks → Type 0
IsFresh nodes marks = marks.marks.items ≡ replicate (length nodes) false

-- of the graph's numbers, exactly those that were marked and these are marked now
pub record Adds (old new : NodeMarks) (added : ℕ → Type 0) : Type 0 where
  pub size : length new.marks.items ≡ length old.marks.items
  pub exactly : (number : ℕ) → number < length old.marks.items → (is_marked new number ≡ true) ↔ (is_marked old number ≡ true ⊎ added number)

-- these numbers are those that are marked
abbrev pub AreMarked : NodeMarks → List ℕ → Type 0
AreMarked marks numbers = (number : ℕ) → (is_marked marks number ≡ true) ↔ Contains numbers number

-- ---- nodes of targets

-- it is the node of the target
abbrev pub IsNodeOf : Option Target → ℕ → Type 0
IsNodeOf None number = ⊥
IsNodeOf (Some target) number = target.node ≡ number

-- it is the node of one of these targets
abbrev pub IsAmong : (ℕ → Option Target) → ℕ → Type 0
IsAmong targets number = (place : ℕ) × IsNodeOf (targets place) number

-- one of the function's registers, its result or one of its objects has a target with this node
pub data IsNamedBy (names : FunctionNames) (number : ℕ) : Type 0 where
  by_register : (register : Register) → IsNodeOf (register_target names register) number → IsNamedBy names number
  by_result : IsNodeOf (optional_target names.returned) number → IsNamedBy names number
  by_object : (local : Local) → IsNodeOf (object_target names local) number → IsNamedBy names number

-- so has one of the function's formals or its result
abbrev pub IsOutside : FunctionNames → ℕ → Type 0
IsOutside names number = IsAmong (target_in names.parameters.items) number ⊎ IsNodeOf (optional_target names.returned) number

-- so has a variable outside functions or a literal that the graph mentions
abbrev pub IsMentionedBy : FrozenGraph → ℕ → Type 0
IsMentionedBy graph number = IsAmong (static_in graph.globals) number ⊎ IsAmong (static_in graph.literals) number

-- so has the image of a node
abbrev pub IsImageOf : {S : Type 0} → IndexMap ℕ memory_target.Target S → ℕ → Type 0
IsImageOf embedding number = IsAmong (static_in embedding) number
