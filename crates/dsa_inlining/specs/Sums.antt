-- What is known of the functions outside a group, of the groups before it.
use Rattle.std.specs.Prelude.{ℕ, Bool, false, List, [], length, slice_get, get_or, Option, Some, None}
use Rattle.heap_graph.specs.Graphs.{Name, OfGlobal, OfLiteral}
use Rattle.heap_graph.specs.Targets.{has_target}
use Rattle.heap_graph.specs.Frozen.{static_in}
use Rattle.heap_graph.specs.declared.frozen.FrozenGraph.{FrozenGraph}
use Rattle.dsa_inlining.specs.Before.{GraphsBefore, is_out}
use Rattle.dsa_inlining.specs.Counting.{Outside}

-- the graph of a group, where it has one
abbrev pub graph_at : List FrozenGraph → Option ℕ → Option FrozenGraph
graph_at graphs None = None
graph_at graphs (Some group) = slice_get graphs group

-- the graph of a function's group
abbrev pub graph_before : GraphsBefore → ℕ → Option FrozenGraph
graph_before before number = graph_at before.graphs (slice_get before.groups.group_of.items number)

-- a graph tells of a variable outside functions or a literal
abbrev pub is_told : FrozenGraph → Name → Bool
is_told graph (OfGlobal number) = has_target (static_in graph.globals number)
is_told graph (OfLiteral number) = has_target (static_in graph.literals number)
is_told graph name = false

abbrev pub told_in : Option FrozenGraph → Name → Bool
told_in None name = false
told_in (Some graph) name = is_told graph name

-- the functions of all groups but one
abbrev pub outside_of : GraphsBefore → Option ℕ → Outside
outside_of before group = record {
  is_out = is_out before.groups group;
  escaping = λ number. length (get_or before.escaping number []);
  tells = λ number name. told_in (graph_before before number) name;
}
