-- How runs of three-address code and of the machine are compared: by the events of the reference; and a heap of so many slabs refuses an
-- allocation that needs more.
use Rattle.std.specs.Prelude.{ℕ}
use Rattle.run_theory.specs.Runs.{Event, Comparison}
use Rattle.tac_ir.specs.Events.{TacEvent, seen}
use Rattle.pool_simulation.specs.Comparing.{refuses_seen}

abbrev pub machine_events : ℕ → Comparison TacEvent Event Event
machine_events slabs = record { in_front = λ trace. seen trace; behind = λ trace. trace; refuses = refuses_seen slabs }
