use Rattle.std.proofs.Common.{◌≤◌, length, drop}
use Rattle.heap_graph.specs.Scopes.{TellsTypes}
use Rattle.heap_graph.proofs.scopes.types_of.Given as goal

-- the types of the objects from this number on
abbrev pub invariant-loop-number : goal.invariant-loop-number
invariant-loop-number l = record { within : l.number ≤ length l.objects; types : TellsTypes (drop l.number l.objects) l.locals }

abbrev pub decreases-loop-number : goal.decreases-loop-number
decreases-loop-number l = l.number
