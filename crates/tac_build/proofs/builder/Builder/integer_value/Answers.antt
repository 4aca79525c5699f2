use Rattle.std.proofs.Common.{ap, ◌∙◌}
use Rattle.tac_ir.specs.declared.register.Register.TheVariants as R
use Rattle.tac_ir.specs.Code.{Held}
use Rattle.tac_build.specs.Spots.{AsInteger, with_temporary}
use Rattle.tac_build.proofs.Points.{if_ok, on_ok, fills_equal, grows_on, grows_equal}
use Rattle.tac_build.proofs.builder.Builder.integer_value.Goals as goal

pub returns-clause-code : goal.returns-clause-code
returns-clause-code c =
    let named = c.new_temporary-register.ensures in
    let appended = c.in_ok-append.ensures in
    if_ok _ _ c.held.result (λ lowered is table points fills.
    let emitted = appended.code table points (fills_equal table c.append.new.self c.new_temporary-register.new.self points named.points fills) in
    let register = named.named ∙ ap (λ counts. R.Temporary counts.temporaries) appended.counts in
    (emitted.0, named.spot table ∙ ap with_temporary emitted.1, is table ∙ (λ i. AsInteger c.args.int_type (Held (register i))))) c.held.ensures

pub returns-clause-grows : goal.returns-clause-grows
returns-clause-grows c =
    on_ok c.held.result (grows_on c.args.self.now c.append.new.self c.new_temporary-register.new.self c.in_ok-append.ensures.grows
    (grows_equal c.append.new.self c.new_temporary-register.new.self c.new_temporary-register.ensures.points))
