-- What a run of three-address code does: the events of the reference, with the sites of calls, allocations and frees, and the edges
-- between points. No step reads them.
use Rattle.std.specs.Prelude.{ℕ, List, [], ◌∷◌, ◌++◌}
use Rattle.run_theory.specs.Runs
use Rattle.run_theory.specs.Runs.{Trace}

pub data TacEvent : Type 0 where
  Wrote : (byte : ℕ) → TacEvent
  -- a call, from its site, of a function by its number
  Entered : (site function : ℕ) → TacEvent
  Left : TacEvent
  Made : (site object size : ℕ) → TacEvent
  Released : (site object : ℕ) → TacEvent
  ReadFrom : (object : ℕ) → TacEvent
  WroteTo : (object : ℕ) → TacEvent
  -- an edge from a point of the running function to another
  Crossed : (from to : ℕ) → TacEvent

abbrev pub seen_of : TacEvent → Trace
seen_of (Wrote byte) = Runs.Output byte ∷ []
seen_of (Entered site function) = Runs.Called function ∷ []
seen_of Left = Runs.Returned ∷ []
seen_of (Made site object size) = Runs.Allocated object size ∷ []
seen_of (Released site object) = Runs.Freed object ∷ []
seen_of (ReadFrom object) = Runs.Loaded object ∷ []
seen_of (WroteTo object) = Runs.Stored object ∷ []
seen_of (Crossed from to) = []

-- the events that the reference has, too
abbrev pub seen : List TacEvent → Trace
seen [] = []
seen (event ∷ trace) = seen_of event ++ seen trace
