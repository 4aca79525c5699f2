-- The graphs of a program are closed where those of all groups and that of `start` are.
use Rattle.std.proofs.Common.{ℕ, ◌<◌, length, Option, Some, None, refl}
use Rattle.std.proofs.lemmas.Option.{slice_get_within}
use Rattle.heap_graph.specs.Closed.{Family, group_of, Closed}
use Rattle.heap_graph.specs.Faults.{GroupClosed, StartClosed, AreGrouped, IsFirstFault}

pub group_closed : (family : Family) → Closed family → (number : ℕ) → GroupClosed family number
group_closed family closed number = record {
  functions = λ own function is _. closed.functions own function is;
  graph = λ one group is within. closed.graphs number one group is within;
}

pub start_closed : (family : Family) → Closed family → StartClosed family
start_closed family closed = record { start = closed.start; first = closed.first; last = closed.last }

pub all_closed : (family : Family) → AreGrouped family → ((number : ℕ) → number < length family.groups → GroupClosed family number) → StartClosed family → Closed family
all_closed family grouped groups start = record {
  functions = λ number function is.
      (groups (group_of family number) (grouped number (slice_get_within family.tac.functions number function is))).functions number function is refl;
  start = start.start;
  first = start.first;
  graphs = λ number one group is within. (groups number (slice_get_within family.groups number group is)).graph one group is within;
  last = start.last;
}

-- where there is a fault, the graphs aren't closed
pub not_closed : (family : Family) (fault : Option ℕ) → IsFirstFault family fault → Closed family → ⊥
not_closed family (Some number) fault closed = fault.2 (group_closed family closed number)
not_closed family None fault closed = fault.1 (start_closed family closed)
