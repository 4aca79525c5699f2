use Rattle.std.proofs.Common.{take}
use Rattle.pool_rewrite.specs.Rewritable.{global_layouts}
use Rattle.pool_rewrite.specs.Places.{PlacesMore}
use Rattle.pool_rewrite.proofs.statics.Statics.place_globals.Given as goal

-- the variables before the index are placed
abbrev pub invariant-loop-global : goal.invariant-loop-global
invariant-loop-global l = PlacesMore l.fn.self l.self (global_layouts l.types (take l.global-index l.globals))
