use Rattle.std.proofs.Common.{◌≡◌, ℕ, ◌<◌, length}
use Rattle.c_typed.specs.Table.{Interned}
use Rattle.heap_graph.specs.Graphs.{OfRegister}
use Rattle.graph_unification.specs.Memory.{owner_of, graph_in, IsGraph}
use Rattle.heap_graph.specs.Frozen.{target_in}
use Rattle.graph_unification.specs.Freezing.{certain_name, numbered}
use Rattle.graph_unification.proofs.name_targets.register_targets.Given as goal

abbrev pub invariant-loop-number : goal.invariant-loop-number
invariant-loop-number l = record {
  long : length l.targets.items ≡ l.number;
  told : (table : Interned) → IsGraph table l.graph → (n : ℕ) → n < l.number → target_in l.targets.items n ≡ certain_name (graph_in table l.graph) (OfRegister (owner_of l.function) (numbered l.kind n));
}
