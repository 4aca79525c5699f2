use Rattle.std.proofs.Common.{◌≡◌, ◌-◌, ◌++◌, take, replicate}
use Rattle.machine.proofs.region.in_pages.Given as goal

abbrev pub invariant-loop-offset : goal.invariant-loop-offset
invariant-loop-offset l = l.bytes ≡ take l.offset l.first ++ replicate (l.len - l.offset) 0
