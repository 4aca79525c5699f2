use Rattle.std.proofs.Common.{[]}
use Rattle.dsa_inlining.specs.Live.{TellClasses}
use Rattle.dsa_inlining.proofs.live.no_classes.Given as goal

abbrev pub invariant-loop : goal.invariant-loop
invariant-loop l = TellClasses l.counter [] l.classes.items
