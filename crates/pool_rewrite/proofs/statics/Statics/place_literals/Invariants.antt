use Rattle.std.proofs.Common.{take}
use Rattle.pool_rewrite.specs.Rewritable.{literal_layouts}
use Rattle.pool_rewrite.specs.Places.{PlacesMore}
use Rattle.pool_rewrite.proofs.statics.Statics.place_literals.Given as goal

-- the literals before the index are placed
abbrev pub invariant-loop-literal : goal.invariant-loop-literal
invariant-loop-literal l = PlacesMore l.fn.self l.self (literal_layouts l.types (take l.literal-index l.literals))
