-- Where the nodes of a callee are in the graph that is only read.
use Rattle.std.specs.Prelude.{◌≡◌, ◌==◌, ℕ, Option, Some, None}
use Rattle.indexmap.specs.IndexMap.{IndexMap, get_by}
use Rattle.heap_graph.specs.declared.graph.Target as memory_target
use Rattle.heap_graph.specs.Graphs.{Target, OfCopy, Graph}
use Rattle.heap_graph.specs.Frozen.{static_in}
use Rattle.heap_graph.specs.Restricted.{if_certain}

-- the target of the copy with this number, unless its node isn't certain
abbrev pub copy_target : Graph → Option ℕ → Option Target
copy_target graph None = None
copy_target graph (Some copy) = if_certain graph (graph.targets (OfCopy copy))

-- the targets of the copies of exactly these nodes, of which it is told by what number each has a name
abbrev pub TellsCopies : {S T : Type 0} → Graph → IndexMap ℕ ℕ S → IndexMap ℕ memory_target.Target T → Type 0
TellsCopies graph copies targets = (node : ℕ) → static_in targets node ≡ copy_target graph (get_by (λ key. node == key) copies)
