use Rattle.std.proofs.Common.{length, drop, map}
use Rattle.c_typed.specs.Table.{Interned}
use Rattle.c_typed.specs.StatementViews.{local_in}
use Rattle.tac_build.specs.Marks.{Within}
use Rattle.tac_build.proofs.Opening.{LeftLocals}
use Rattle.tac_build.proofs.addressed.Search.locals.Given as goal

abbrev pub invariant-loop-local : goal.invariant-loop-local
invariant-loop-local l =
    Within l.initial.self.scope.items (length l.initial.self.flags.items) → (table : Interned) → LeftLocals l.initial.self l.self (map (local_in table) (drop l.local-index l.locals)) (map (local_in table) l.locals)
