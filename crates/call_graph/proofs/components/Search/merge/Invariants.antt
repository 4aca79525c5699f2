use Rattle.std.proofs.Common.{◌≡◌, length}
use Rattle.call_graph.specs.Searches.{IsCut}
use Rattle.call_graph.proofs.components.Search.merge.Given as goal

abbrev pub invariant-loop-start : goal.invariant-loop-start
invariant-loop-start l = record {
  cut : IsCut l.place l.initial.self.starts.items l.self.starts.items;
  marks : l.self.marks.items ≡ l.initial.self.marks.items;
  members : l.self.members.items ≡ l.initial.self.members.items;
  waiting : l.self.waiting.items ≡ l.initial.self.waiting.items;
  count : l.self.count ≡ l.initial.self.count;
}

abbrev pub decreases-loop-start : goal.decreases-loop-start
decreases-loop-start l = length l.self.starts.items
