-- What is decided of calls.
use Rattle.std.specs.Prelude.{◌≡◌, ◌↔◌, ℕ, ◌<◌, Bool, true, false, List, length, get_or}
use Rattle.indexmap.specs.IndexMap.{IndexMap}
use Rattle.c_typed.specs.declared.c_type.CType as number
use Rattle.c_typed.specs.Table.{type_in}
use Rattle.tac_ir.specs.declared.register.Register.{Register}
use Rattle.tac_ir.specs.States.{Owner, InFunction}
use Rattle.heap_graph.specs.declared.graph.Target as memory_target
use Rattle.heap_graph.specs.Graphs.{OfResult}
use Rattle.heap_graph.specs.Escaping.{Escapes}
use Rattle.heap_graph.specs.Closed.{Family, graph_of, function_type, formal, inner_call, outer_call, crossing, IsEmbedding}
use Rattle.heap_graph.specs.declared.frozen.FunctionNames.{FunctionNames}
use Rattle.heap_graph.specs.declared.frozen.FrozenGraph.{FrozenGraph}
use Rattle.heap_graph.specs.Frozen.{static_in}
use Rattle.heap_graph.specs.Shows.{ShowsGraph, ShowsNames}
use Rattle.graph_checker.specs.declared.calls.Caller.{Caller}
use Rattle.graph_checker.specs.declared.calls.Called.{Called}

-- whether a call within a group is closed, in each family of which these are the graph, the names and the type
abbrev pub DecidesInner : Caller → FunctionNames → number.CType → ℕ → List Register → Bool → Type 0
DecidesInner caller called c_type site arguments result =
    (family : Family) (owner : Owner) (number : ℕ) → ShowsGraph caller.types.now family owner caller.graph.now → ShowsNames family owner caller.names.now
    → ShowsNames family (InFunction number) called → graph_of family (InFunction number) ≡ graph_of family owner → function_type family.tac number ≡ type_in caller.types.now c_type
    → result ≡ inner_call family owner site arguments number

-- the same of a call out of a group, where this is the embedding and there are so many variables outside functions and literals
abbrev pub DecidesOuter : {S : Type 0} → Caller → Called → IndexMap ℕ memory_target.Target S → ℕ → ℕ → ℕ → List Register → Bool → Type 0
DecidesOuter caller called embedding globals literals site arguments result =
    (family : Family) (owner : Owner) (number : ℕ) → ShowsGraph caller.types.now family owner caller.graph.now → ShowsNames family owner caller.names.now
    → ShowsGraph caller.types.now family (InFunction number) called.graph.now → ShowsNames family (InFunction number) called.names.now
    → function_type family.tac number ≡ type_in caller.types.now called.c_type → length family.tac.globals ≡ globals → length family.tac.literals ≡ literals
    → ((node : ℕ) → family.graphs.embedding (crossing family owner site number) node ≡ static_in embedding node)
    → result ≡ outer_call family owner site arguments number

-- whether the embedding at a call is one, where the marks tell which nodes escape the function that is called
abbrev pub DecidesEmbedding : {S : Type 0} → Caller → FrozenGraph → List Bool → IndexMap ℕ memory_target.Target S → Bool → Type 0
DecidesEmbedding caller called escaping embedding result =
    (family : Family) (owner : Owner) (site number : ℕ) → ShowsGraph caller.types.now family owner caller.graph.now → ShowsGraph caller.types.now family (InFunction number) called
    → ((node : ℕ) → family.graphs.embedding (crossing family owner site number) node ≡ static_in embedding node)
    → ((node : ℕ) → node < length called.nodes.items → ((get_or escaping node false ≡ true) ↔ Escapes (graph_of family (InFunction number)) (InFunction number) node))
    → ((node : ℕ) → Escapes (graph_of family (InFunction number)) (InFunction number) node → node < length called.nodes.items)
    → (result ≡ true ↔ IsEmbedding family owner site number)

-- whether one function's formals and result are the other's
abbrev pub DecidesShared : FunctionNames → FunctionNames → Bool → Type 0
DecidesShared a b result =
    (family : Family) (m n : ℕ) → ShowsNames family (InFunction m) a → ShowsNames family (InFunction n) b → graph_of family (InFunction m) ≡ graph_of family (InFunction n)
    → (result ≡ true
    ↔ ((number : ℕ) → (graph_of family (InFunction m)).targets (formal m number) ≡ (graph_of family (InFunction m)).targets (formal n number))
    × ((graph_of family (InFunction m)).targets (OfResult (InFunction m)) ≡ (graph_of family (InFunction m)).targets (OfResult (InFunction n))))
