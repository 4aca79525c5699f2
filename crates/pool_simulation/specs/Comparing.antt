-- How runs of three-address code and of code with pools are compared: by the events of three-address code; and what a heap of so many slabs
-- refuses: an allocation that needs more slabs, with all that were made before, than there are.
use Rattle.std.specs.Prelude.{ℕ, Bool, false, nat_lt, List, [], ◌∷◌}
use Rattle.run_theory.specs.Runs.{Event, Allocated, Trace, Final, HeapExhausted, Comparison}
use Rattle.slab_space.specs.Needs.{needs}
use Rattle.tac_ir.specs.Events.{TacEvent, Made, seen}
use Rattle.pool_ir.specs.States.{PoolEvent, same}

-- the sizes of the allocations that were made
abbrev pub made_in : List TacEvent → List ℕ
made_in [] = []
made_in (Made site object size ∷ trace) = size ∷ made_in trace
made_in (event ∷ trace) = made_in trace

abbrev pub refuses_with : ℕ → Final → List TacEvent → TacEvent → Bool
refuses_with slabs HeapExhausted trace (Made site object size) = nat_lt slabs (needs (size ∷ made_in trace))
refuses_with slabs final trace event = false

-- the same by the events of the reference
abbrev pub allocated_in : Trace → List ℕ
allocated_in [] = []
allocated_in (Allocated object size ∷ trace) = size ∷ allocated_in trace
allocated_in (event ∷ trace) = allocated_in trace

abbrev pub refuses_seen : ℕ → Final → Trace → Event → Bool
refuses_seen slabs HeapExhausted trace (Allocated object size) = nat_lt slabs (needs (size ∷ allocated_in trace))
refuses_seen slabs final trace event = false

abbrev pub pool_events : ℕ → Comparison TacEvent PoolEvent TacEvent
pool_events slabs = record { in_front = λ trace. trace; behind = same; refuses = refuses_with slabs }

abbrev pub seen_pool_events : ℕ → Comparison TacEvent PoolEvent Event
seen_pool_events slabs = record { in_front = λ trace. seen trace; behind = λ trace. seen (same trace); refuses = refuses_seen slabs }
