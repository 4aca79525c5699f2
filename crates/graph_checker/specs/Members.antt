-- What the functions of a group ask.
use Rattle.std.specs.Prelude.{ℕ, List}
use Rattle.std.specs.List.{AllByRecursion}
use Rattle.heap_graph.specs.Closed.{Family}
use Rattle.heap_graph.specs.Code.{IsMemberClosed}

abbrev pub AreMembersClosed : Family → List ℕ → Type 0
AreMembersClosed family members = AllByRecursion (IsMemberClosed family) members
