-- How runs of three-address code are compared with those of the reference.
use Rattle.std.specs.Prelude.{ℕ, false}
use Rattle.run_theory.specs.Runs.{Event, Comparison}
use Rattle.tac_ir.specs.Events.{TacEvent, seen}

-- All events of the reference are compared, and nothing is refused: neither run has a limit.
abbrev pub seen_events : Comparison Event TacEvent Event
seen_events = record { in_front = λ trace. trace; behind = seen; refuses = λ final trace event. false }

-- for a unit of the reference the code makes at most so many steps
abbrev pub ticks_per_unit : ℕ
ticks_per_unit = 16
