use Rattle.std.proofs.Common.{◌≡◌, ◌≤◌, take, slice_get, option_map, length, ℕ, ◌⊎◌}
use Rattle.call_graph.specs.Searches.{AreMarked, closed_mark}
use Rattle.call_graph.proofs.components.Search.close.Given as goal

abbrev pub invariant-loop-self : goal.invariant-loop-self
invariant-loop-self l = record {
  marked : AreMarked l.self.members.items l.self.marks.items;
  members : l.self.members.items ≡ take (length l.self.members.items) l.initial.self.members.items;
  enough : (l.start ≤ length l.self.members.items) ⊎ (l.self.members.items ≡ l.initial.self.members.items);
  size : length l.self.marks.items ≡ length l.initial.self.marks.items;
  marks : (node : ℕ) → slice_get l.self.marks.items node ≡ option_map (closed_mark (length l.self.members.items) l.initial.self.count) (slice_get l.initial.self.marks.items node);
  starts : l.self.starts.items ≡ l.initial.self.starts.items;
  waiting : l.self.waiting.items ≡ l.initial.self.waiting.items;
  count : l.self.count ≡ l.initial.self.count;
}

abbrev pub decreases-loop-self : goal.decreases-loop-self
decreases-loop-self l = length l.self.members.items
