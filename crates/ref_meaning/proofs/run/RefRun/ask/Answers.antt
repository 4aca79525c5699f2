use Rattle.std.proofs.Common.{◌∷◌, refl}
use Rattle.c_typed.specs.Views.{value_in}
use Rattle.ref_meaning.specs.declared.control.Node.TheVariants as N
use Rattle.ref_meaning.specs.declared.control.Stage.TheVariants as S
use Rattle.ref_meaning.specs.declared.control.Task.TheVariants as K
use Rattle.ref_meaning.specs.Views.{table_of}
use Rattle.ref_meaning.proofs.Moves.{becomes-then}
use Rattle.ref_meaning.proofs.Behind.{moves-asking}
use Rattle.ref_meaning.proofs.run.RefRun.ask.Goals as goal

pub returns-clause-moves : goal.returns-clause-moves
returns-clause-moves c =
    let old = c.args.self.now in
    let on = c.requires.top in
    moves-asking old c.enter.new.self c.args.top c.args.node (N.Value c.args.condition) (value_in (table_of old) c.args.condition.now) c.enter.result c.requires.holds c.requires.free c.requires.node c.requires.is_loop on
    refl c.requires.condition tt
    (becomes-then old c.at_stage.new.self c.enter.new.self old.control (record { node = N.Value c.args.condition; task = K.Enter }) (record { node = c.args.node; stage = S.First } ∷ on.innermost.others)
    (c.at_stage.ensures (record { node = on.innermost.node; stage = on.stage }) on.innermost.others on.innermost.stack) c.enter.ensures.becomes)
    c.enter.ensures.ok
