-- How a program's run and the machine's are compared: all events of the reference, heap accesses in their order included; and a heap of so
-- many slabs refuses an allocation that needs more, with all that were made before, than there are. No other limit refuses anything.
use Rattle.std.specs.Prelude.{ℕ}
use Rattle.run_theory.specs.Runs.{Event, Comparison}
use Rattle.pool_simulation.specs.Comparing.{refuses_seen}

abbrev pub heap_events : ℕ → Comparison Event Event Event
heap_events slabs = record { in_front = λ trace. trace; behind = λ trace. trace; refuses = refuses_seen slabs }
