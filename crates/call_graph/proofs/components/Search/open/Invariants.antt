use Rattle.std.proofs.Common.{◌≡◌, ◌++◌, take, map}
use Rattle.call_graph.proofs.components.Search.open.Given as goal

abbrev pub invariant-loop-next : goal.invariant-loop-next
invariant-loop-next l = record {
  waiting : l.self.waiting.items ≡ l.initial.self.waiting.items ++ map (λ next. (l.place, next)) (take l.next-index l.next-items);
  marks : l.self.marks.items ≡ l.initial.self.marks.items;
  members : l.self.members.items ≡ l.initial.self.members.items;
  starts : l.self.starts.items ≡ l.initial.self.starts.items;
  count : l.self.count ≡ l.initial.self.count;
}
