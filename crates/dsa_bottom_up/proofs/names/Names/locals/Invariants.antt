use Rattle.std.proofs.Common.{drop}
use Rattle.dsa_bottom_up.proofs.Scoping.{LocalsLeft}
use Rattle.dsa_bottom_up.proofs.names.Names.locals.Given as goal

abbrev pub invariant-loop-local : goal.invariant-loop-local
invariant-loop-local l = LocalsLeft l.types l.self l.initial.scope.items l.scope.items l.count (drop l.local-index l.locals) l.locals
