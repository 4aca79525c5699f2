use Rattle.std.proofs.Common.{◌≡◌, Some, slice_get, map, vec_items, ℕ}
use Rattle.call_graph.specs.declared.components.Mark.TheVariants.{Unseen}
use Rattle.call_graph.specs.Searches.{to_do, IsSearching}
use Rattle.call_graph.proofs.components.Search.search_unseen.Given as goal

abbrev pub invariant-loop-start : goal.invariant-loop-start
invariant-loop-start l = record {
  keeps : IsSearching (map vec_items l.edges) l.self;
  seen : (node : ℕ) → slice_get l.self.marks.items node ≡ Some Unseen → slice_get l.fn.self.marks.items node ≡ Some Unseen;
  root_seen : slice_get l.self.marks.items l.root ≡ Some Unseen → ⊥;
}

abbrev pub decreases-loop-start : goal.decreases-loop-start
decreases-loop-start l = to_do (map vec_items l.edges) l.self
