use Rattle.std.proofs.Common.{take}
use Rattle.dsa_inlining.specs.Live.{TellClasses}
use Rattle.dsa_inlining.proofs.live.class_numbers.Given as goal

-- the classes of the links so far
abbrev pub invariant-loop-link : goal.invariant-loop-link
invariant-loop-link l = TellClasses l.count (take l.link-index l.links) l.classes.items
