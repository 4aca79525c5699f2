use Rattle.std.proofs.Common.{◌+◌, refl}
use Rattle.c_typed.specs.Table.{type_in}
use Rattle.tac_build.specs.Spots.{AsPointer}
use Rattle.tac_build.specs.Building.{spot_of}
use Rattle.tac_build.proofs.Points.{expression_behind}
use Rattle.tac_build.proofs.builder.Builder.give_pointer.Goals as goal

pub returns-clause-code : goal.returns-clause-code
returns-clause-code c = λ table points fills.
    let emitted = c.in_ok-append.ensures.code table points fills in
    (emitted.0, expression_behind (spot_of table c.args.self.now) (spot_of table c.append.new.self) (c.append.new.self.counts.expressions + 1) emitted.1 refl, λ i. AsPointer (c.expression-register.ensures i) (type_in table c.args.target))
