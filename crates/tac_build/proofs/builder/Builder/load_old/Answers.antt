use Rattle.std.proofs.Common.{Some, ap, ◌∙◌}
use Rattle.tac_ir.specs.declared.op.Op.TheVariants as M
use Rattle.tac_ir.specs.Code as C
use Rattle.tac_ir.specs.Views.{path_in}
use Rattle.c_typed.specs.Types.{Integer}
use Rattle.tac_build.proofs.Points.{named_then}
use Rattle.tac_ir.specs.declared.register.Register.TheVariants as R
use Rattle.tac_build.proofs.builder.Builder.load_old.Goals as goal

pub returns-clause-code : goal.returns-clause-code
returns-clause-code c = λ table points fills.
    let named = c.new_temporary-to.ensures in
    let same = (λ i. C.Load (named.named i) (Integer c.args.object_type) (path_in table c.in_ok-path.path)) ∙ ap (C.Load (R.Temporary c.args.self.now.counts.temporaries) (Integer c.args.object_type)) (c.in_ok-path.ensures table ∙ ap (path_in table) c.deref.ensures) in
    let loaded = named_then table c.args.self.now c.new_temporary-to.new.self c.append.new.self points _ named.points (named.spot table) (c.in_ok-append.ensures.code table points fills) in
    (loaded.0 ∙ ap Some same, loaded.1, named.named)
