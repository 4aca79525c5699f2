-- Where targets of one graph are in another.
use Rattle.std.specs.Prelude.{◌≡◌, ℕ, Bool, ◌&&◌, Option, Some, None}
use Rattle.tac_ir.specs.declared.register.Local.TheVariants as L
use Rattle.tac_ir.specs.declared.register.Register.TheVariants as R
use Rattle.heap_graph.specs.Graphs.{Target, Graph, Embedding}
use Rattle.heap_graph.specs.Targets.{implies, has_target, same_target, shifted}
use Rattle.heap_graph.specs.declared.frozen.FunctionNames.{FunctionNames}
use Rattle.heap_graph.specs.Frozen.{register_target, static_in}
use Rattle.graph_checker.specs.declared.images.Places.{Places}
use Rattle.graph_checker.specs.declared.images.Places.TheVariants.{Same, Embedded}

-- where a target is in a graph, if an embedding tells where nodes are
abbrev pub placed : Graph → Embedding → Option Target → Option Target
placed graph embedding None = None
placed graph embedding (Some target) = shifted graph target.shift (embedding target.node)

abbrev pub placed_by : Graph → Places → Option Target → Option Target
placed_by graph Same target = target
placed_by graph (Embedded embedding) target = placed graph (static_in embedding.now) target

-- these are the targets of a function's formals in its caller's graph
abbrev pub AreFormals : Graph → Places → FunctionNames → (ℕ → Option Target) → Type 0
AreFormals graph places names formals = (number : ℕ) → formals number ≡ placed_by graph places (register_target names (R.Local (L.Parameter number)))

-- what the graph of a function that is called mentions of a variable outside functions or of a literal comes to the target in the caller's
abbrev pub static_kept : Graph → Embedding → Option Target → Option Target → Bool
static_kept graph embedding own called = implies (has_target called) (has_target own && same_target own (placed graph embedding called))
