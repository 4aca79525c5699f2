use Rattle.std.proofs.Common.{refl}
use Rattle.std.specs.Vec.{with_item}
use Rattle.tac_ir.specs.declared.op.Op.TheVariants as M
use Rattle.tac_build.specs.declared.builder.Builder.{Builder}
use Rattle.tac_build.proofs.Points.{read_set, stands_in, grows_set}
use Rattle.tac_build.proofs.builder.Builder.fill.Goals as goal

pub returns-clause-code : goal.returns-clause-code
returns-clause-code c =
    let old = c.args.self.now in
    let new : Builder = record old { points = with_item old.points c.args.at.0 c.args.op } in
    λ table points. stands_in table new points c.args.at.0 c.args.op c.requires.filled (read_set old.points.items c.args.at.0 c.args.op M.Reserved c.requires.reserved)

pub returns-clause-grows : goal.returns-clause-grows
returns-clause-grows c =
    let old = c.args.self.now in
    let new : Builder = record old { points = with_item old.points c.args.at.0 c.args.op } in
    grows_set old new c.args.at.0 c.args.op refl
