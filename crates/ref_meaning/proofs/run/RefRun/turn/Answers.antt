use Rattle.std.proofs.Common.{◌∷◌}
use Rattle.ref_meaning.specs.declared.control.Node.TheVariants as N
use Rattle.ref_meaning.specs.declared.control.Stage.TheVariants as S
use Rattle.ref_meaning.specs.declared.control.Task.TheVariants as K
use Rattle.ref_meaning.specs.Views.{table_of}
use Rattle.ref_meaning.proofs.Moves.{becomes-then}
use Rattle.ref_meaning.proofs.Behind.{moves-turning}
use Rattle.ref_meaning.proofs.run.RefRun.turn.Goals as goal

pub returns-clause-moves : goal.returns-clause-moves
returns-clause-moves c =
    let old = c.args.self.now in
    let on = c.requires.top in
    moves-turning old c.enter.new.self c.args.top (N.Stmt c.args.stmt) c.body_of.result c.enter.result c.requires.holds c.requires.free c.requires.stands c.requires.is_loop on
    (c.body_of.ensures.is (table_of old)) (c.body_of.ensures.stands (table_of old) c.requires.stands)
    (becomes-then old c.at_stage.new.self c.enter.new.self old.control (record { node = c.body_of.result; task = K.Enter }) (record { node = N.Stmt c.args.stmt; stage = S.Turn } ∷ on.innermost.others)
    (c.at_stage.ensures (record { node = on.innermost.node; stage = on.stage }) on.innermost.others on.innermost.stack) c.enter.ensures.becomes)
    c.enter.ensures.ok
