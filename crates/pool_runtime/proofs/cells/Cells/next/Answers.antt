use Rattle.std.proofs.Common.{subst, sym, arith}
use Rattle.pool_runtime.specs.Tables.{AreHeld}
use Rattle.pool_runtime.proofs.CellsSteps.{last_dead, start_held, in_run}
use Rattle.pool_runtime.proofs.cells.Cells.next.Goals as goal

pub place-requires-clause-inside : goal.place-requires-clause-inside
place-requires-clause-inside c =
    let s = c.args.self.now in let space = c.args.space.now in
    let dead = last_dead space.bytes s c.requires.cells (omega arith) in
    in_run space c.requires.space s c.requires.cells c.requires.runs s.last_freed dead.some (omega (arith, dead.made, c.requires.cells.made))

pub read_word-requires-clause-held : goal.read_word-requires-clause-held
read_word-requires-clause-held c =
    let s = c.args.self.now in let space = c.args.space.now in
    let dead = last_dead space.bytes s c.requires.cells (omega arith) in
    subst (λ p. AreHeld space.owners p 4) (sym c.place.ensures) (start_held space c.requires.space s c.requires.cells c.requires.runs s.last_freed dead.some (omega (arith, dead.made, c.requires.cells.made)))
