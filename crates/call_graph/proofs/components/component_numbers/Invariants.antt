use Rattle.std.proofs.Common.{◌≡◌, ◌<◌, [], Some, slice_get, map, vec_items, ℕ}
use Rattle.call_graph.specs.declared.components.Mark.TheVariants.{Unseen}
use Rattle.call_graph.specs.Searches.{IsSearching}
use Rattle.call_graph.proofs.components.component_numbers.Given as goal

abbrev pub invariant-loop-root : goal.invariant-loop-root
invariant-loop-root l = record {
  keeps : IsSearching (map vec_items l.edges) l.search;
  ended : l.search.starts.items ≡ [];
  seen : (node : ℕ) → node < l.root → slice_get l.search.marks.items node ≡ Some Unseen → ⊥;
}
