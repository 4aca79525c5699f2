use Rattle.std.proofs.Common.{◌≡◌, ℕ, ◌+◌, ◌-◌, ◌<◌, ◌≤◌, List, vec_len}
use Rattle.pcc_outside.proofs.Reading.{IsFront}
use Rattle.pcc_outside.proofs.whole.read_all.Given as goal

abbrev pub invariant-loop-buf : goal.invariant-loop-buf
invariant-loop-buf g l = record {
  front : IsFront (g.F.Files.contents l.initial.files l.name) l.bytes.items;
  near : vec_len l.bytes ≤ l.limit;
  room : 0 < vec_len l.buf;
  faultless : (other : List ℕ) → g.F.Files.faults l.files other ≡ g.F.Files.faults l.initial.files other;
  kept : (other : List ℕ) → g.F.Files.contents l.files other ≡ g.F.Files.contents l.initial.files other;
}

abbrev pub decreases-loop-buf : goal.decreases-loop-buf
decreases-loop-buf g l = l.limit + 1 - vec_len l.bytes
